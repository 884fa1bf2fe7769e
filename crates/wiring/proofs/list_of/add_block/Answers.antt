-- `add_block`: by the word. Assumes nothing.
use Rattle.std.specs.Prelude.{not}
use Rattle.std.proofs.Common.{rules, ◌≡◌, refl, sym, ap, ◌∙◌, ℕ, true, false, arith, ne_eqb}
use mathlib.Core.Logic.{◌⊎◌, inl, inr}
use Rattle.passes.specs.NodeList.{falls_word}
use Rattle.passes.specs.NextBodies.{link_is}
use Rattle.passes.specs.NodeListLaws.{block_endloop, block_until, block_falls, block_stops, exit_stops, else_stops, others_fall}
use Rattle.storing.specs.NodeLists.{added_as, added_none}
use Rattle.wiring.proofs.list_of.add_block.Goals as goal

-- the words that do not fall, and all others
stops : (w : ℕ) → w ≡ 19 ⊎ (w ≡ 22 ⊎ w ≡ 25) → falls_word w ≡ false
unfolding falls_word
stops w (inl e) = sym (exit_stops w e)
stops w (inr (inl e)) = sym (else_stops w e)
stops w (inr (inr e)) = rw e refl

falls : (w : ℕ) → (w ≡ 19 → ⊥) → (w ≡ 22 → ⊥) → (w ≡ 25 → ⊥) → falls_word w ≡ true
falls w x y z = sym (others_fall w x y) ∙ ap not (ne_eqb w 25 z)

pub returns-in-18 : goal.returns-in-18
returns-in-18 c = added_as (block_endloop _ _ _ _ c.in-18.is) (added_as (link_is _ _) (rw (c.fall_of.ensures, c.opener.ensures) at c.add_edge.ensures))

pub returns-in-17 : goal.returns-in-17
returns-in-17 c = added_as (block_until _ _ _ _ c.in-17.is) c.add_until.ensures

pub returns-in-19 : goal.returns-in-19
returns-in-19 c = added_as (block_stops _ _ _ c.args.word (omega (arith, c.in-19.is)) (omega (arith, c.in-19.is)) (stops c.args.word c.in-19.is)) (added_none _)

pub returns-in_default : goal.returns-in_default
returns-in_default c = added_as (block_falls _ _ _ c.args.word (search rules) (search rules) (falls c.args.word (search rules) (search rules) (search rules))) (rw c.fall.ensures at c.add_edge-in_default.ensures)
