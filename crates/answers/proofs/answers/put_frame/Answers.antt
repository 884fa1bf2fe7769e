-- `put_frame`: asked with room for every node, and put. Assumes nothing.
use Rattle.std.proofs.Common.{rules, ◌≡◌, refl, sym, ap, ◌∙◌, length, Err}
use mathlib.Core.List.{replicate}
use Rattle.std.specs.Prelude.{ℕ, List}
use lib.ListN.{length-replicate}
use lib.Seq.{length-take-le}
use Rattle.listings.specs.Bytes.{bytes}
use Rattle.formatting.specs.Pages.{wrote_is}
use Rattle.answers.specs.AnswerLaws.{frame_fits, frame_put, frame_turned}
use Rattle.answers.proofs.answers.put_frame.Goals as goal

-- as many entries as a graph has nodes
whole : {room : List ℕ} → room ≡ replicate 4096 0 → length room ≡ 4096
whole e = ap length e ∙ length-replicate {A = ℕ} 4096 0

pub returns-in_err-len : goal.returns-in_err-len
returns-in_err-len c =
    let t = c.args.g.now in
    let w = c.args.w.now in
    let e : c.from_residual.result ≡ Err c.in_err-len.field-0.0 = search rules in
    rw (e, ← c.from-header.ensures, ← c.from-node.ensures) (refl, frame_turned t.counts.now t.stmts.now t.args.now t.falls.now t.lists.now t.succ.now c.from-header.result c.from-node.result w.name.now w.flag _ _ c.frame_successors.result c.frame_successors.ensures (whole c.all_of-room.ensures) _ c.in_err-len.was)

pub slice_bounds-room-end : goal.slice_bounds-room-end
slice_bounds-room-end c =
    let t = c.args.g.now in
    let w = c.args.w.now in
    frame_fits t.counts.now t.stmts.now t.args.now t.falls.now t.lists.now t.succ.now c.from-header.result c.from-node.result w.name.now w.flag _ _ c.frame_successors.result c.frame_successors.ensures (whole c.all_of-room.ensures) _ c.in_ok-len.was

pub slice_bounds-put_list_row-end-2 : goal.slice_bounds-put_list_row-end-2
slice_bounds-put_list_row-end-2 c =
    let t = c.args.g.now in
    let w = c.args.w.now in
    sym (length-take-le _ _ (frame_fits t.counts.now t.stmts.now t.args.now t.falls.now t.lists.now t.succ.now c.from-header.result c.from-node.result w.name.now w.flag _ _ c.frame_successors.result c.frame_successors.ensures (whole c.all_of-room.ensures) _ c.in_ok-len.was))

pub returns : goal.returns
unfolding bytes
returns c =
    let t = c.args.g.now in
    let w = c.args.w.now in
    rw (← c.from-header.ensures, ← c.from-node.ensures) (wrote_is (frame_put t.counts.now t.stmts.now t.args.now t.falls.now t.lists.now t.succ.now c.from-header.result c.from-node.result w.name.now w.flag _ _ c.frame_successors.result c.frame_successors.ensures (whole c.all_of-room.ensures) _ c.in_ok-len.was) c.put_list_row.ensures)
