-- `set_at`: what there is of the row's 64 words. Assumes nothing.
use Prim.Native.Nat.{◌-◌, ◌*◌, min}
use mathlib.Core.Path.{◌≡◌}
use native.Mathlib.Omega.{arith}
use lib.ListN.{length, drop, length-drop}
use Rattle.std.proofs.lemmas.List.{take_min, drop_min}
use Rattle.passes.specs.ReturnSets.{set_of}
use Rattle.walks.proofs.sets.set_at.Goals as goal

pub returns-clause-is_set : goal.returns-clause-is_set
unfolding set_of
returns-clause-is_set c =
    let sets = c.args.sets.now in
    let from = c.args.i * 64 in
    let s : c.min-start.result ≡ min from (length sets) = omega arith in
    let e : c.min-end.result - c.min-start.result ≡ min 64 (length (drop from sets)) = omega (arith, length-drop from sets) in
    rw (e, s, drop_min from sets) (take_min 64 (drop from sets))
