-- `join_frame`: one law for each move that leaves the stack alone. Assumes nothing.
use mathlib.Core.Bool.{false}
use mathlib.Core.Path.{◌≡◌, refl, ap}
use native.Mathlib.Omega.{arith}
use Rattle.graph.specs.Edges.{stays}
use Rattle.passes.specs.FramePass.{move_of, moves_stack}
use Rattle.passes.specs.declared.moves.FrameMove.{FrameMove}
use Rattle.passes.specs.declared.moves.FrameMove.TheVariants.{Stays, Opens, Closes, Joins}
use Rattle.passes.specs.FrameStackLaws.{top_le}
use Rattle.passes.specs.FramePassLaws.{step_stays, step_joins}
use Rattle.wiring.specs.FrameRows.{flat, opener_set}
use Rattle.wiring.proofs.frames.join_frame.Goals as goal

-- a move that leaves the stack alone and joins no frame
must_stay : (m : FrameMove) → moves_stack (move_of m) ≡ false → (m ≡ Joins → ⊥) → move_of m ≡ stays
must_stay Stays h n = refl
must_stay Opens h n = absurd (cc)
must_stay Closes h n = absurd (cc)
must_stay Joins h n = absurd (n refl)

pub returns-in_default : goal.returns-in_default
returns-in_default c = step_stays c.args.i c.args.s.now.words (flat c.args.frames.now) (move_of c.args.m) (must_stay c.args.m c.requires.m_value c.in_default.not-Joins)

pub number_of-requires : goal.number_of-requires
number_of-requires c = omega (arith, top_le c.args.s.now.words _ c.args.i c.requires.holds_below c.newest.ensures, c.requires.i_bound)

pub returns-in-Joins : goal.returns-in-Joins
returns-in-Joins c = rw (opener_set c.args.frames.now c.args.i c.number_of.result (omega arith)) (step_joins c.args.i c.args.s.now.words (flat c.args.frames.now) (move_of c.args.m) _ _ (ap move_of c.in-Joins.is) c.newest.ensures c.number_of.ensures)
