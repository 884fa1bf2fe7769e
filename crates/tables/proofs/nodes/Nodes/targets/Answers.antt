-- `targets`: what there is of the row's links. Assumes nothing.
use Rattle.std.proofs.Common.{◌≡◌, ap, ◌∙◌, ◌-◌, ◌*◌, length, take, drop, arith, length-drop}
use Prim.Native.Nat.{min}
use Rattle.std.proofs.lemmas.List.{take_min, drop_min}
use Rattle.tables.proofs.nodes.Nodes.targets.Goals as goal

pub returns : goal.returns
returns c =
    let links = c.args.self.now.links.now in
    let from = c.args.i * 64 in
    let s : c.min-start.result ≡ min from (length links) = omega arith in
    let e : c.min-end.result - c.min-start.result ≡ min c.count.result (length (drop from links)) = omega (arith, length-drop from links) in
    rw (e, s, drop_min from links) (take_min c.count.result (drop from links) ∙ ap (λ k. take k (drop from links)) c.count.ensures)
