-- `check_file`: listed, compared piece by piece, concluded and shown. Assumes nothing.
use Rattle.std.proofs.Common.{ℕ, List, ◌≡◌, ◌≤◌, arith, sym, ap, length, length-take-le}
use Rattle.std.proofs.Math.Seq.{length-sets}
use Rattle.graph.specs.Check.{Verdict, shown}
use Rattle.checking.specs.Checking.{RowShown}
use Rattle.checking.specs.Pieces.{pieces_checked}
use Rattle.flowcheck.proofs.check_file.Goals as goal

pub slice_bounds-page-end : goal.slice_bounds-page-end
slice_bounds-page-end c = c.list_text-listed.ensures.whole.inside

pub slice_bounds-due-end : goal.slice_bounds-due-end
slice_bounds-due-end c = sym (length-take-le _ _ c.list_text-listed.ensures.whole.inside)

-- the row is inside the room for it
row_inside : {out out' : List ℕ} {n : ℕ} {v : Verdict} → length out ≡ 64 → RowShown out out' n v → n ≤ 64
row_inside {out} {out'} {n} {v} h w = omega (arith, h, w.whole.inside, ap length w.puts.bytes, length-sets out 0 (shown v))

pub shared_ref_as_front-result : goal.shared_ref_as_front-result
shared_ref_as_front-result c = row_inside c.told-row c.show_verdict-r.ensures

pub returns : goal.returns
returns c = pieces_checked c.args.text.now _ _ _ _ _ _ _ _ c.list_text-listed.ensures c.compare_file-s.ensures c.conclude.ensures c.show_verdict-r.ensures.whole
