-- What a statement does to the stacks, by its opening word. Assumes nothing.
use Rattle.std.specs.Prelude.{ℕ, ◌<◌, ◌≤◌, ◌≡◌, refl, Bool, true, false, ◌||◌, ◌⊎◌, eqb}
use Rattle.std.proofs.Math.Logic.{inl, inr}
use Rattle.std.proofs.Common.{arith}
use Rattle.std.proofs.Math.Decide.{ℕ_discrete}
use borrow.Author.Tests.{eq-eqb, ne_eqb, lt-ltb, le-ltb}
use Rattle.layout.specs.Layout.{exit_word, exitif_word}
use Rattle.listings.specs.Bytes.{same, pick, bytes}
use Rattle.listings.specs.Rows.{opening_words}
use Rattle.listings.specs.Listing.{goto, gosub, runto, ongoto, ongosub, BlockWord, repeat, loop, until, endloop, exit, exitif, doif, else, done, BareWord, return, run, clr, stop, any, jump, on, for, next, block, bare, if, ifelse, rcomp}
use Rattle.listings.specs.ListingText.{simple_word, cond_word}
use Rattle.listings.specs.WordTable.{words, first, word_index}
use Rattle.graph.specs.Nodes.{NodeStmt, simple, cond}
use Rattle.graph.specs.NodeWords.{stmt_word, stmt_number}
use Rattle.graph.specs.Edges.{Move, stays, opens, closes, joins, on_fors, no_moves, moves_of, node_moves, Stack, loop_stack, do_stack}
use Rattle.graph_laws.specs.PerNode.{move_on}
use Rattle.graph_laws.specs.Distinct.{or-none}
use Rattle.passes.specs.Frames.{loop_move, do_move, word_move}
use Rattle.passes.specs.Compare.{lt-or}

-- both moves at once, so that the words are gone through once
record Both (s : NodeStmt) : Type 0 where
  loops : loop_move (stmt_number s) ≡ (node_moves s).loops
  dos : do_move (stmt_number s) ≡ (node_moves s).dos

block_both : (w : BlockWord) → Both (simple (block w))
unfolding stmt_number stmt_word simple_word word_index words first opening_words bytes same loop_move do_move node_moves moves_of
block_both repeat = record { loops = refl; dos = refl }
block_both loop = record { loops = refl; dos = refl }
block_both until = record { loops = refl; dos = refl }
block_both endloop = record { loops = refl; dos = refl }
block_both exit = record { loops = refl; dos = refl }
block_both exitif = record { loops = refl; dos = refl }
block_both doif = record { loops = refl; dos = refl }
block_both else = record { loops = refl; dos = refl }
block_both done = record { loops = refl; dos = refl }

both : (s : NodeStmt) → Both s
unfolding stmt_number stmt_word simple_word cond_word word_index words first opening_words bytes same loop_move do_move node_moves moves_of on_fors no_moves
both (simple (jump goto t)) = record { loops = refl; dos = refl }
both (simple (jump gosub t)) = record { loops = refl; dos = refl }
both (simple (jump runto t)) = record { loops = refl; dos = refl }
both (simple (on ongoto ts)) = record { loops = refl; dos = refl }
both (simple (on ongosub ts)) = record { loops = refl; dos = refl }
both (simple (for v t)) = record { loops = refl; dos = refl }
both (simple (next m ss)) = record { loops = refl; dos = refl }
both (simple (block w)) = block_both w
both (simple (bare return)) = record { loops = refl; dos = refl }
both (simple (bare run)) = record { loops = refl; dos = refl }
both (simple (bare clr)) = record { loops = refl; dos = refl }
both (simple (bare stop)) = record { loops = refl; dos = refl }
both (simple (bare any)) = record { loops = refl; dos = refl }
both (simple (bare BareWord.plain)) = record { loops = refl; dos = refl }
both (cond if a b) = record { loops = refl; dos = refl }
both (cond ifelse a b) = record { loops = refl; dos = refl }
both (cond rcomp a b) = record { loops = refl; dos = refl }

pub word_move_lem : (k : Stack) (s : NodeStmt) → word_move k (stmt_number s) ≡ move_on k (node_moves s)
unfolding word_move move_on
word_move_lem loop_stack s = (both s).loops
word_move_lem do_stack s = (both s).dos

-- ---- by the word

-- a word moves one of the two stacks at most
pub one_stack : (w : ℕ) → (loop_move w ≡ stays) ⊎ (do_move w ≡ stays)
unfolding loop_move do_move
one_stack w =
    elim (lt-or w 21) [
      | inl h ↦ inr (rw (ne_eqb w 21 (λ e. omega arith), ne_eqb w 22 (λ e. omega arith), ne_eqb w 23 (λ e. omega arith)))
      | inr h ↦ inl (rw (le-ltb w 15 (omega arith), le-ltb w 17 (omega arith), le-ltb w 19 (omega arith), le-ltb w 21 h))
    ]

abbrev pub is_exit : ℕ → Bool
is_exit w = eqb w exit_word || eqb w exitif_word

abbrev LoopRegion : ℕ → Move → Type 0
LoopRegion w stays = Unit {0}
LoopRegion w opens = Unit {0}
LoopRegion w closes = w < 19
LoopRegion w joins = (19 ≤ w) × (w < 21)

abbrev DoRegion : ℕ → Move → Type 0
DoRegion w stays = Unit {0}
DoRegion w opens = w ≡ 21
DoRegion w closes = w ≡ 23
DoRegion w joins = w ≡ 22

-- where the word stands, for each move of the loop stack
module _ (w : ℕ) where
  from_19 : 19 ≤ w → LoopRegion w (loop_move w)
  unfolding loop_move
  from_19 h =
      elim (lt-or w 21) [
        | inl g ↦ rw (le-ltb w 15 (omega arith), le-ltb w 17 (omega arith), le-ltb w 19 h, lt-ltb w 21 g) (h, g)
        | inr g ↦ rw (le-ltb w 15 (omega arith), le-ltb w 17 (omega arith), le-ltb w 19 h, le-ltb w 21 g) tt
      ]

  from_15 : 15 ≤ w → w < 19 → LoopRegion w (loop_move w)
  unfolding loop_move
  from_15 h k =
      elim (lt-or w 17) [
        | inl g ↦ rw (le-ltb w 15 h, lt-ltb w 17 g) tt
        | inr g ↦ rw (le-ltb w 15 h, le-ltb w 17 g, lt-ltb w 19 k) k
      ]

  below_19 : w < 19 → LoopRegion w (loop_move w)
  unfolding loop_move
  below_19 k = elim (lt-or w 15) [ inl g ↦ rw (lt-ltb w 15 g) tt | inr g ↦ from_15 g k ]

  loop_region : LoopRegion w (loop_move w)
  loop_region = elim (lt-or w 19) [ inl g ↦ below_19 g | inr g ↦ from_19 g ]

  do_region : DoRegion w (do_move w)
  unfolding do_move
  do_region =
      elim (ℕ_discrete w 21) [
        | yes e ↦ rw (eq-eqb w 21 e) e
        | no e ↦ rest e
      ]
    where
      last : (w ≡ 21 → ⊥) → (w ≡ 22 → ⊥) → DoRegion w (pick (eqb w 23) closes stays)
      last e f = elim (ℕ_discrete w 23) [ yes g ↦ rw (eq-eqb w 23 g) g | no g ↦ rw (ne_eqb w 23 g) tt ]

      rest : (w ≡ 21 → ⊥) → DoRegion w (do_move w)
      rest e = elim (ℕ_discrete w 22) [ yes f ↦ rw (ne_eqb w 21 e, eq-eqb w 22 f) f | no f ↦ rw (ne_eqb w 21 e, ne_eqb w 22 f) (last e f) ]

-- the tests that tell a closer, an EXIT and an ELSE apart
module _ (w : ℕ) where
  pub loop_closes : loop_move w ≡ closes → (eqb w 22 ≡ false) × (is_exit w ≡ false)
  loop_closes e =
      let h : w < 19 = rw e at (loop_region w) in
      (ne_eqb w 22 (λ q. omega arith), or-none (eqb w 19) (eqb w 20) (ne_eqb w 19 (λ q. omega arith)) (ne_eqb w 20 (λ q. omega arith)))

  pub loop_joins : loop_move w ≡ joins → (eqb w 22 ≡ false) × (is_exit w ≡ true)
  loop_joins e =
      let h : (19 ≤ w) × (w < 21) = rw e at (loop_region w) in
      (ne_eqb w 22 (λ q. omega arith), elim (ℕ_discrete w 19) [ yes q ↦ rw (eq-eqb w 19 q) | no q ↦ rw (ne_eqb w 19 q) (eq-eqb w 20 (omega arith)) ])

  pub do_closes : do_move w ≡ closes → (eqb w 22 ≡ false) × (is_exit w ≡ false)
  do_closes e =
      let h : w ≡ 23 = rw e at (do_region w) in
      (ne_eqb w 22 (λ q. omega arith), or-none (eqb w 19) (eqb w 20) (ne_eqb w 19 (λ q. omega arith)) (ne_eqb w 20 (λ q. omega arith)))

  pub do_opens : do_move w ≡ opens → w ≡ 21
  do_opens e = rw e at (do_region w)

  pub do_joins : do_move w ≡ joins → eqb w 22 ≡ true
  do_joins e = eq-eqb w 22 (rw e at (do_region w))
