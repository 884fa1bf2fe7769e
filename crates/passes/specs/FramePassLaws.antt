-- The pass over the stacks: one node's step, and the entries that it leaves. Assumes nothing.
use Rattle.std.specs.Prelude.{ℕ, suc, ◌+◌, ◌*◌, ◌<◌, ◌≤◌, ◌≡◌, refl, Bool, true, false, List, [], ◌∷◌, ◌⊎◌, length, get_or, set, replicate}
use Rattle.std.proofs.Common.{sym, ap, ◌∙◌, inl, inr, arith, add-one, length-set, get_or-set_same, get_or-set_other}
use Rattle.std.proofs.Math.Option.{some}
use Rattle.std.proofs.Math.Decide.{ℕ_discrete}
use Rattle.std.proofs.Math.ListN.{get_elem?}
use Rattle.listings.specs.WordTable.{zeros}
use Rattle.graph.specs.Nodes.{Node}
use Rattle.graph.specs.NodeWords.{stmt_number}
use Rattle.graph.specs.Edges.{Move, stays, opens, closes, joins, node_moves, Stack, loop_stack, do_stack}
use Rattle.graph_laws.specs.PerNode.{openers_after, Met, nothing, closing, joining, meets, move_on, met_on, no_openers, Fact, facts}
use Rattle.passes.specs.Frames.{loop_move, do_move, word_move, Worded, either_met, met_number, frame_met, met_entry}
use Rattle.passes.specs.FrameStacks.{top_of, under_top, pushed, top_mark, popped, Holds, holds∷, HoldsBelow}
use Rattle.passes.specs.FrameStackLaws.{top_held, pop_held}
use Rattle.graph_laws.specs.PerNodeLaws.{length-facts}
use Rattle.passes.specs.OpenerLaws.{some_at, in_range, open_at, open_start, open_next, open_desc, desc_top, met_at}
use Rattle.passes.specs.MoveLaws.{word_move_lem, one_stack}
use Rattle.passes.specs.FramePass.{met_written, Stepped, AllZero, MetUpto, MetBelow, MetFrames}

-- ---- one node's step, by its move

under-closed : (i : ℕ) (l : List ℕ) → openers_after i closes l ≡ under_top l
unfolding openers_after
under-closed i [] = refl
under-closed i (o ∷ l) = refl

module _ (i : ℕ) (ws t : List ℕ) (m : Move) where
  pub step_stays : m ≡ stays → Stepped m i ws ws t t
  unfolding openers_after
  step_stays e = record { held = λ l o h. rw e o; written = λ l o h. rw e }

  pub step_opens : (us : List ℕ) → m ≡ opens → i < 4096 → us ≡ pushed ws i → Stepped m i ws us t t
  unfolding openers_after
  step_opens us e lt p = record { held = λ l o h. rw e (holds∷ o h lt p); written = λ l o h. rw e }

  -- the frame f that the pop hands back is written
  pub step_closes : (us : List ℕ) (f n : ℕ) → m ≡ closes → us ≡ popped ws → f ≡ top_mark ws → n ≡ f → Stepped m i ws us t (set t (i * 3) n)
  step_closes us f n e p q r = record { held = λ l o h. rw (e, p, under-closed i l) (pop_held l o); written = λ l o h. rw (e, r, q, top_held o) }

  pub step_joins : (f n : ℕ) → m ≡ joins → f ≡ top_mark ws → n ≡ f → Stepped m i ws ws t (set t (i * 3) n)
  unfolding openers_after
  step_joins f n e q r = record { held = λ l o h. rw e o; written = λ l o h. rw (e, r, q, top_held o) }

-- a move either changes the stack or not
pub not_both : (x : Bool) → x ≡ true → x ≡ false → ⊥
not_both x p q = let z : ◌≡◌ {A = Bool} true false = sym p ∙ q in let y : ◌≡◌ {A = ℕ} 0 1 = cc in omega arith

-- ---- what a step writes
written-length : (m : Move) (i : ℕ) (l t : List ℕ) → length (met_written m i l t) ≡ length t
written-length stays i l t = refl
written-length opens i l t = refl
written-length closes i l t = length-set t (i * 3) (top_of l)
written-length joins i l t = length-set t (i * 3) (top_of l)

written-other : (m : Move) (i : ℕ) (l t : List ℕ) (q : ℕ) → (q ≡ i * 3 → ⊥) → get_or (met_written m i l t) q 0 ≡ get_or t q 0
written-other stays i l t q h = refl
written-other opens i l t q h = refl
written-other closes i l t q h = get_or-set_other t (i * 3) q (top_of l) 0 h
written-other joins i l t q h = get_or-set_other t (i * 3) q (top_of l) 0 h

top_met : (l : List ℕ) → (top_of l ≡ met_number (meets closes l)) × (top_of l ≡ met_number (meets joins l))
unfolding meets met_number
top_met [] = (refl, refl)
top_met (o ∷ l) = (refl, refl)

written_here : (m : Move) (i : ℕ) (l t : List ℕ) → i * 3 < length t → get_or t (i * 3) 0 ≡ 0 → get_or (met_written m i l t) (i * 3) 0 ≡ met_number (meets m l)
unfolding meets met_number
written_here stays i l t h z = z
written_here opens i l t h z = z
written_here closes i l t h z = get_or-set_same t (i * 3) (top_of l) 0 h ∙ (top_met l).0
written_here joins i l t h z = get_or-set_same t (i * 3) (top_of l) 0 h ∙ (top_met l).1

pub either_nothing : (x : Met) → either_met x nothing ≡ x
unfolding either_met
either_nothing nothing = refl
either_nothing (closing o) = refl
either_nothing (joining o) = refl

-- one of the two moves leaves its stack alone, and the table
both_here : (m k : Move) (i : ℕ) (l j t : List ℕ) → (m ≡ stays) ⊎ (k ≡ stays) → i * 3 < length t → get_or t (i * 3) 0 ≡ 0
    → get_or (met_written k i j (met_written m i l t)) (i * 3) 0 ≡ met_number (either_met (meets m l) (meets k j))
unfolding meets either_met
both_here m k i l j t (inl e) h z = rw e (written_here k i j t h z)
both_here m k i l j t (inr e) h z = rw e (written_here m i l t h z ∙ ap met_number (sym (either_nothing (meets m l))))

set_below : (t : List ℕ) (i v : ℕ) → v ≤ i → i * 3 < length t → MetBelow t → MetBelow (set t (i * 3) v)
set_below t i v h g b r =
    elim (ℕ_discrete r i) [
      | yes e ↦ rw e (omega (arith, get_or-set_same t (i * 3) v 0 g))
      | no e ↦ omega (arith, get_or-set_other t (i * 3) (r * 3) v 0 (λ q. omega arith), b r)
    ]

written_below : (m : Move) (i : ℕ) (l t : List ℕ) → top_of l ≤ i → i * 3 < length t → MetBelow t → MetBelow (met_written m i l t)
written_below stays i l t h g b r = b r
written_below opens i l t h g b r = b r
written_below closes i l t h g b r = set_below t i (top_of l) h g b r
written_below joins i l t h g b r = set_below t i (top_of l) h g b r

-- ---- the loop: the stacks and the table before node i
next_below : (m : Move) (i : ℕ) (l ws : List ℕ) → Holds ws l → top_of l ≤ i → top_of (openers_after i m l) ≤ suc i
unfolding openers_after
next_below stays i l ws o h = omega arith
next_below opens i l ws o h = omega arith
next_below closes i [] ws o h = omega arith
next_below closes i (a ∷ l) ws (holds∷ o le lt e) h = omega arith
next_below joins i l ws o h = omega arith

holds_next : (m : Move) (i : ℕ) (ws us t t' : List ℕ) → HoldsBelow ws i → Stepped m i ws us t t' → HoldsBelow us (suc i)
holds_next m i ws us t t' h s =
    record { openers = openers_after i m h.openers; held = s.held h.openers h.held h.below; below = next_below m i h.openers ws h.held h.below }

below_next : (m : Move) (i : ℕ) (ws us t t' : List ℕ) → HoldsBelow ws i → i * 3 < length t → Stepped m i ws us t t' → MetBelow t → MetBelow t'
below_next m i ws us t t' h g s b = rw (s.written h.openers h.held h.below) (written_below m i h.openers t h.below g b)

pub step-length : (m : Move) (i : ℕ) (ws us t t' : List ℕ) → HoldsBelow ws i → Stepped m i ws us t t' → length t' ≡ length t
step-length m i ws us t t' h s = ap length (s.written h.openers h.held h.below) ∙ written-length m i h.openers t

-- of one list of nodes
pub record MetBy (ns : List Node) (ls ds t : List ℕ) (i : ℕ) : Type 0 where
  pub loops : Holds ls (open_at loop_stack ns i)
  pub dos : Holds ds (open_at do_stack ns i)
  pub upto : MetUpto (facts 0 ns no_openers) t i

pub record Meeting (words : List ℕ) (n : ℕ) (ls ds t : List ℕ) (i : ℕ) : Type 0 where
  pub loops : HoldsBelow ls i
  pub dos : HoldsBelow ds i
  pub below : MetBelow t
  pub of : (ns : List Node) → length ns ≡ n → Worded words ns → MetBy ns ls ds t i

pub all-zero : (n : ℕ) → AllZero (replicate n 0)
all-zero n = zeros n

pub meeting_start : (words : List ℕ) (n : ℕ) (ls ds t : List ℕ) → Holds ls [] → Holds ds [] → AllZero t → Meeting words n ls ds t 0
meeting_start words n ls ds t l d z = record {
  loops = record { openers = []; held = l; below = omega arith };
  dos = record { openers = []; held = d; below = omega arith };
  below = λ r. omega (arith, z (r * 3));
  of = λ ns _ _. record {
    loops = rw open_start l;
    dos = rw open_start d;
    upto = record { met = λ r h. absurd (omega arith); later = λ r _. z (r * 3); closers = λ r. z (r * 3 + 1); elses = λ r. z (r * 3 + 2) };
  };
}

-- one stack, of one list of nodes: node i is d
module _ (s : Stack) (ns : List Node) (i : ℕ) (d : Node) (at : get_elem? ns i ≡ some d) where
  move_is : (w : ℕ) (m : Move) → w ≡ stmt_number d.stmt → m ≡ word_move s w → m ≡ move_on s (node_moves d.stmt)
  move_is w m e q = q ∙ ap (word_move s) e ∙ word_move_lem s d.stmt

  step_of : (m : Move) (ws us t t' : List ℕ) → m ≡ move_on s (node_moves d.stmt) → Holds ws (open_at s ns i) → Stepped m i ws us t t'
      → Holds us (open_at s ns (suc i)) × (t' ≡ met_written m i (open_at s ns i) t)
  step_of m ws us t t' e h p =
      let b = desc_top i (open_desc s ns i (omega (arith, in_range ns i d at))) in
      (rw (open_next s ns i d at, ← e) (p.held (open_at s ns i) h b), p.written (open_at s ns i) h b)

  meets_of : (m : Move) (f : Fact) → m ≡ move_on s (node_moves d.stmt) → get_elem? (facts 0 ns no_openers) i ≡ some f → met_on s f ≡ meets m (open_at s ns i)
  meets_of m f e g = met_at s ns i d f at g ∙ rw e

-- the entries after both steps
module _ (F : List Fact) (i : ℕ) (f : Fact) (m k : Move) (l j t : List ℕ) (at : get_elem? F i ≡ some f) (loops : f.loop_met ≡ meets m l) (dos : f.do_met ≡ meets k j)
    (one : (m ≡ stays) ⊎ (k ≡ stays)) (fits : i * 3 < length t) where
  abbrev twice : List ℕ
  twice = met_written k i j (met_written m i l t)

  other : (q : ℕ) → (q ≡ i * 3 → ⊥) → get_or twice q 0 ≡ get_or t q 0
  other q h = written-other k i j (met_written m i l t) q h ∙ written-other m i l t q h

  here : get_or t (i * 3) 0 ≡ 0 → get_or twice (i * 3) 0 ≡ met_entry (get_elem? F i)
  unfolding met_entry frame_met
  here z = both_here m k i l j t one fits z ∙ rw (at, loops, dos)

  upto_next : MetUpto F t i → MetUpto F twice (suc i)
  upto_next u = record {
    met = λ r h.
        elim (ℕ_discrete r i) [
          | yes e ↦ rw e (here (u.later i (omega arith)))
          | no e ↦ other (r * 3) (λ q. omega arith) ∙ u.met r (omega arith)
        ];
    later = λ r h. other (r * 3) (λ q. omega arith) ∙ u.later r (omega arith);
    closers = λ r. other (r * 3 + 1) (λ q. omega arith) ∙ u.closers r;
    elses = λ r. other (r * 3 + 2) (λ q. omega arith) ∙ u.elses r;
  }

one_stays : (w : ℕ) (m k : Move) → m ≡ loop_move w → k ≡ do_move w → (m ≡ stays) ⊎ (k ≡ stays)
one_stays w m k p q = elim (one_stack w) [ inl e ↦ inl (p ∙ e) | inr e ↦ inr (q ∙ e) ]

pub meeting_next : (words : List ℕ) (n : ℕ) (ls ls' ds ds' t t₁ t₂ : List ℕ) (i w : ℕ) (m k : Move) → i < n → w ≡ get_or words (i * 12) 0 → m ≡ loop_move w → k ≡ do_move w → i * 3 < length t
    → Stepped m i ls ls' t t₁ → Stepped k i ds ds' t₁ t₂ → Meeting words n ls ds t i → Meeting words n ls' ds' t₂ (i + 1)
unfolding word_move met_on
meeting_next words n ls ls' ds ds' t t₁ t₂ i w m k lt e p q fits x y a = rw add-one (record {
  loops = holds_next m i ls ls' t t₁ a.loops x;
  dos = holds_next k i ds ds' t₁ t₂ a.dos y;
  below = below_next k i ds ds' t₁ t₂ a.dos (omega (arith, step-length m i ls ls' t t₁ a.loops x)) y (below_next m i ls ls' t t₁ a.loops fits x a.below);
  of = λ ns s v.
      let b = a.of ns s v in
      let d = some_at ns i (omega arith) in
      let f = some_at (facts 0 ns no_openers) i (omega (arith, length-facts 0 ns no_openers)) in
      let z : w ≡ stmt_number d.0.stmt = e ∙ v i d.0 d.1 in
      let em = move_is loop_stack ns i d.0 d.1 w m z p in
      let ek = move_is do_stack ns i d.0 d.1 w k z q in
      let h₁ = step_of loop_stack ns i d.0 d.1 m ls ls' t t₁ em b.loops x in
      let h₂ = step_of do_stack ns i d.0 d.1 k ds ds' t₁ t₂ ek b.dos y in
      record {
        loops = h₁.0;
        dos = h₂.0;
        upto = rw (h₂.1, h₁.1)
            (upto_next (facts 0 ns no_openers) i f.0 m k (open_at loop_stack ns i) (open_at do_stack ns i) t f.1
            (meets_of loop_stack ns i d.0 d.1 m f.0 em f.1) (meets_of do_stack ns i d.0 d.1 k f.0 ek f.1) (one_stays w m k p q) fits b.upto);
      };
})

pub meeting_end : (words : List ℕ) (n : ℕ) (ls ds t : List ℕ) (i : ℕ) → i ≡ n → Meeting words n ls ds t i → MetFrames words n t
meeting_end words n ls ds t i e a = record { below = a.below; upto = λ ns s v. rw e at (a.of ns s v).upto }
