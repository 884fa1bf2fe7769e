-- The links of the table of frames: one node's, and all from the last node to the first. Assumes nothing.
use Prim.Native.Nat.{ℕ, zero, suc, ◌+◌, ◌-◌, ◌*◌, ◌/◌, ◌%◌, ◌<◌, ◌≤◌}
use Rattle.std.specs.Prelude.{◌≡◌, Bool, true, false, ◌||◌, eqb, leb, length, drop, set}
use Rattle.std.proofs.Math.Path.{refl, sym, ap}
use Rattle.std.proofs.Common.{◌∙◌, arith, sub-one, drop_of_length-le}
use mathlib.Core.List.{List, [], ◌∷◌}
use Rattle.std.proofs.Math.Logic.{inl, inr}
use Rattle.std.proofs.Math.Option.{some}
use Rattle.std.proofs.Math.Numerals.{add-one}
use Rattle.std.proofs.Math.Decide.{ℕ_discrete}
use Rattle.std.proofs.Math.ListN.{length-set, get_or, get_elem?}
use Rattle.std.proofs.Math.Seq.{get_or-set_same, get_or-set_other}
use borrow.Author.Tests.{eq-eqb, ne_eqb, le-leb, lt-leb}
use Rattle.listings.specs.Bytes.{pick}
use Rattle.graph.specs.Nodes.{Node}
use Rattle.graph.specs.Edges.{Move, stays, opens, closes, joins, Stack, loop_stack, do_stack}
use Rattle.graph_laws.specs.PerNode.{Met, nothing, closing, joining, meets, is_closing, is_joining, met_on, no_openers, Fact, facts}
use Rattle.passes.specs.Frames.{loop_move, do_move, word_move, Worded, either_met, frame_met, met_number, met_entry, closes_frame, is_else_of, first_where, next_where, do_met_of, else_entry, Framed}
use Rattle.passes.specs.FrameRows.{table_is}
use Rattle.graph_laws.specs.PerNodeLaws.{length-facts}
use Rattle.passes.specs.OpenerLaws.{MetIs, some_at, open_at, met_at, met-below, node_of}
use Rattle.passes.specs.MoveLaws.{word_move_lem, one_stack, is_exit, loop_closes, loop_joins, do_closes, do_joins}
use Rattle.passes.specs.FramePass.{MetUpto, MetBelow, MetFrames, else_linked, linked_to, linked, LinkedFrom}
use Rattle.passes.specs.Compare.{lt-or}

-- ---- the kinds of nodes: w is the opening word
data Kind (w : ℕ) (f : Fact) : Type 0 where
  meets_none : frame_met f ≡ nothing → f.do_met ≡ nothing → Kind w f
  closer : (o : ℕ) → frame_met f ≡ closing o → ((r : ℕ) → is_else_of r f ≡ false) → eqb w 22 ≡ false → is_exit w ≡ false → Kind w f
  exits : (o : ℕ) → frame_met f ≡ joining o → f.do_met ≡ nothing → eqb w 22 ≡ false → is_exit w ≡ true → Kind w f
  elses : (o : ℕ) → frame_met f ≡ joining o → f.do_met ≡ joining o → eqb w 22 ≡ true → Kind w f

module _ (w : ℕ) (f : Fact) where
  -- the loop stack stays
  kind_do : (m : Move) (l : List ℕ) → do_move w ≡ m → f.loop_met ≡ nothing → f.do_met ≡ meets m l → Kind w f
  unfolding meets frame_met either_met is_else_of is_joining
  kind_do stays l e a b = meets_none (rw (a, b)) b
  kind_do opens l e a b = meets_none (rw (a, b)) b
  kind_do closes [] e a b = meets_none (rw (a, b)) b
  kind_do closes (o ∷ l) e a b = let t = do_closes w e in closer o (rw (a, b)) (λ r. rw b) t.0 t.1
  kind_do joins [] e a b = meets_none (rw (a, b)) b
  kind_do joins (o ∷ l) e a b = elses o (rw (a, b)) b (do_joins w e)

  -- the DO stack stays
  kind_loop : (m : Move) (l : List ℕ) → loop_move w ≡ m → f.loop_met ≡ meets m l → f.do_met ≡ nothing → Kind w f
  unfolding meets frame_met either_met is_else_of is_joining
  kind_loop stays l e a b = meets_none (rw (a, b)) b
  kind_loop opens l e a b = meets_none (rw (a, b)) b
  kind_loop closes [] e a b = meets_none (rw (a, b)) b
  kind_loop closes (o ∷ l) e a b = let t = loop_closes w e in closer o (rw a) (λ r. rw b) t.0 t.1
  kind_loop joins [] e a b = meets_none (rw (a, b)) b
  kind_loop joins (o ∷ l) e a b = let t = loop_joins w e in exits o (rw a) b t.0 t.1

  kind_of_lem : (l j : List ℕ) → f.loop_met ≡ meets (loop_move w) l → f.do_met ≡ meets (do_move w) j → Kind w f
  unfolding meets
  kind_of_lem l j a b =
      elim (one_stack w) [
        | inl e ↦ kind_do (do_move w) j refl (a ∙ ap (λ (m : Move). meets m l) e) b
        | inr e ↦ kind_loop (loop_move w) l refl a (b ∙ ap (λ (m : Move). meets m j) e)
      ]

-- ---- the first node that passes a test, from node i on
drop_here : {A : Type 0} (l : List A) (i : ℕ) (a : A) → get_elem? l i ≡ some a → drop i l ≡ a ∷ drop (suc i) l
drop_here [] i a e = absurd (let z : ◌≡◌ {A = ℕ} 0 1 = cc in omega arith)
drop_here (b ∷ l) zero a e = let q : b ≡ a = cc in rw q
drop_here (b ∷ l) (suc i) a e = drop_here l i a e

module _ (F : List Fact) (i : ℕ) (f : Fact) (at : get_elem? F i ≡ some f) (p : Fact → Bool) where
  pub next_yes : p f ≡ true → next_where p i F ≡ suc i
  unfolding next_where first_where
  next_yes e = rw (drop_here F i f at, e)

  pub next_no : p f ≡ false → next_where p i F ≡ next_where p (suc i) F
  unfolding next_where first_where
  next_no e = rw (drop_here F i f at, e)

-- ---- one node's links
no_else : (F : List Fact) (k r : ℕ) (x : Met) → ((o : ℕ) → is_joining o x ≡ false) → else_entry F k r x ≡ next_where (is_else_of r) k F
unfolding else_entry is_joining
no_else F k r nothing h = refl
no_else F k r (closing o) h = refl
no_else F k r (joining o) h = absurd (let q : true ≡ false = sym (eq-eqb o o refl) ∙ h o in let z : ◌≡◌ {A = ℕ} 0 1 = cc in omega arith)

module _ (F : List Fact) (i : ℕ) (f : Fact) (at : get_elem? F i ≡ some f) where
  abbrev else_from : ℕ → ℕ → ℕ
  else_from k r = else_entry F k r (pick (leb k r) (do_met_of (get_elem? F r)) nothing)

  else_by : (r : ℕ) → is_else_of r f ≡ false → (x : Met) → else_entry F (suc i) r x ≡ else_entry F i r x
  unfolding else_entry
  else_by r e nothing = sym (next_no F i f at (is_else_of r) e)
  else_by r e (closing o) = sym (next_no F i f at (is_else_of r) e)
  else_by r e (joining o) = refl

  -- node i is no ELSE of r, and is not r
  else_same : (r : ℕ) → is_else_of r f ≡ false → (r ≡ i → ⊥) → else_from (suc i) r ≡ else_from i r
  else_same r e h =
      elim (lt-or r i) [
        | inl g ↦ rw (lt-leb i r g, lt-leb (suc i) r (omega arith)) (else_by r e nothing)
        | inr g ↦ rw (le-leb i r g, le-leb (suc i) r (omega arith)) (else_by r e (do_met_of (get_elem? F r)))
      ]

  -- node i is no ELSE
  else_own : ((o : ℕ) → is_else_of o f ≡ false) → else_from (suc i) i ≡ else_from i i
  unfolding do_met_of is_else_of else_entry
  else_own h =
      rw (lt-leb (suc i) i (omega arith), le-leb i i (omega arith), at)
      (sym (next_no F i f at (is_else_of i) (h i)) ∙ sym (no_else F i i f.do_met h))

  else_quiet : ((o : ℕ) → is_else_of o f ≡ false) → (r : ℕ) → else_from (suc i) r ≡ else_from i r
  else_quiet h r = elim (ℕ_discrete r i) [ yes e ↦ rw e (else_own h) | no e ↦ else_same r (h r) e ]

  -- a node that links nothing
  quiet : (n : ℕ) (t : List ℕ) → ((r : ℕ) → closes_frame r f ≡ false) → ((r : ℕ) → is_else_of r f ≡ false) → LinkedFrom F n t (suc i) → LinkedFrom F n t i
  quiet n t c e s = record {
    met = s.met;
    closers = λ r h. s.closers r h ∙ sym (next_no F i f at (closes_frame r) (c r));
    elses = λ r h. s.elses r h ∙ else_quiet e r;
    past = s.past;
  }

  -- a closer of opener o
  closed : (n : ℕ) (t : List ℕ) (o : ℕ) → o < i → i < n → n * 3 ≤ length t → frame_met f ≡ closing o → ((r : ℕ) → is_else_of r f ≡ false)
      → LinkedFrom F n t (suc i) → LinkedFrom F n (set t (o * 3 + 1) (suc i)) i
  unfolding closes_frame is_closing
  closed n t o oi il fits c e s = record {
    met = λ r h. other (r * 3) (λ q. omega arith) ∙ s.met r h;
    closers = λ r h.
        elim (ℕ_discrete r o) [
          | yes q ↦ rw q (get_or-set_same t (o * 3 + 1) (suc i) 0 (omega arith) ∙ sym (next_yes F i f at (closes_frame o) (rw c (eq-eqb o o refl))))
          | no q ↦ other (r * 3 + 1) (λ y. omega arith) ∙ s.closers r h ∙ sym (next_no F i f at (closes_frame r) (rw c (ne_eqb r o q)))
        ];
    elses = λ r h. other (r * 3 + 2) (λ q. omega arith) ∙ s.elses r h ∙ else_quiet e r;
    past = λ q h. other q (λ y. omega arith) ∙ s.past q h;
  }
    where
      other : (q : ℕ) → (q ≡ o * 3 + 1 → ⊥) → get_or (set t (o * 3 + 1) (suc i)) q 0 ≡ get_or t q 0
      other q h = get_or-set_other t (o * 3 + 1) q (suc i) 0 h

  else_before : (k r : ℕ) → r < k → else_from k r ≡ next_where (is_else_of r) k F
  unfolding else_entry
  else_before k r h = rw (lt-leb k r h)

  else_here : (o : ℕ) → f.do_met ≡ joining o → else_from i i ≡ next_where (is_else_of o) (suc i) F
  unfolding else_entry do_met_of
  else_here o e = rw (le-leb i i (omega arith), at, e)

  -- an ELSE of the DOIF o
  module _ (n : ℕ) (t : List ℕ) (o : ℕ) (oi : o < i) (il : i < n) (fits : n * 3 ≤ length t) (e : f.do_met ≡ joining o) (s : LinkedFrom F n t (suc i)) where
    apart : (q : ℕ) → (q ≡ i * 3 + 2 → ⊥) → (q ≡ o * 3 + 2 → ⊥) → get_or (else_linked i o t) q 0 ≡ get_or t q 0
    apart q h g = get_or-set_other (set t (i * 3 + 2) (get_or t (o * 3 + 2) 0)) (o * 3 + 2) q (suc i) 0 g ∙ get_or-set_other t (i * 3 + 2) q (get_or t (o * 3 + 2) 0) 0 h

    else_first : get_or (else_linked i o t) (o * 3 + 2) 0 ≡ else_from i o
    unfolding is_else_of is_joining
    else_first =
        get_or-set_same (set t (i * 3 + 2) (get_or t (o * 3 + 2) 0)) (o * 3 + 2) (suc i) 0 (omega (arith, length-set t (i * 3 + 2) (get_or t (o * 3 + 2) 0)))
        ∙ sym (next_yes F i f at (is_else_of o) (rw e (eq-eqb o o refl))) ∙ sym (else_before i o oi)

    else_next : get_or (else_linked i o t) (i * 3 + 2) 0 ≡ else_from i i
    else_next =
        get_or-set_other (set t (i * 3 + 2) (get_or t (o * 3 + 2) 0)) (o * 3 + 2) (i * 3 + 2) (suc i) 0 (λ q. omega arith)
        ∙ get_or-set_same t (i * 3 + 2) (get_or t (o * 3 + 2) 0) 0 (omega arith) ∙ s.elses o (omega arith) ∙ else_before (suc i) o (omega arith) ∙ sym (else_here o e)

    else_rest : (r : ℕ) → r < n → (r ≡ o → ⊥) → (r ≡ i → ⊥) → get_or (else_linked i o t) (r * 3 + 2) 0 ≡ else_from i r
    unfolding is_else_of is_joining
    else_rest r h q y = apart (r * 3 + 2) (λ z. omega arith) (λ z. omega arith) ∙ s.elses r h ∙ else_same r (rw e (ne_eqb r o q)) y

    joined : frame_met f ≡ joining o → LinkedFrom F n (else_linked i o t) i
    unfolding closes_frame is_closing
    joined c = record {
      met = λ r h. apart (r * 3) (λ q. omega arith) (λ q. omega arith) ∙ s.met r h;
      closers = λ r h. apart (r * 3 + 1) (λ q. omega arith) (λ q. omega arith) ∙ s.closers r h ∙ sym (next_no F i f at (closes_frame r) (rw c));
      elses = λ r h. elim (ℕ_discrete r o) [ yes q ↦ rw q else_first | no q ↦ elim (ℕ_discrete r i) [ yes y ↦ rw y else_next | no y ↦ else_rest r h q y ] ];
      past = λ q h. apart q (λ y. omega arith) (λ y. omega arith) ∙ s.past q h;
    }

  -- by its kind
  module _ (n : ℕ) (t : List ℕ) (w : ℕ) (il : i < n) (fits : n * 3 ≤ length t) (s : LinkedFrom F n t (suc i)) where
    met_is : get_or t (i * 3) 0 ≡ met_number (frame_met f)
    unfolding met_entry
    met_is = s.met i il ∙ rw at

    link_next : Kind w f → MetIs (λ (o : ℕ). o < i) (frame_met f) → LinkedFrom F n (linked w i t) i
    unfolding linked linked_to met_number closes_frame is_closing is_else_of is_joining
    link_next (meets_none a b) h = rw (met_is, a) (quiet n t (λ r. rw a) (λ r. rw b) s)
    link_next (closer o a b x y) h = let oi : o < i = rw a at h in rw (met_is, a, x, y) (closed n t o oi il fits a b s)
    link_next (exits o a b x y) h = rw (met_is, a, x, y) (quiet n t (λ r. rw a) (λ r. rw b) s)
    link_next (elses o a b x) h = let oi : o < i = rw a at h in rw (met_is, a, x) (joined n t o oi il fits b s a)

-- ---- all links
either_is : (P : ℕ → Type 0) (x y : Met) → MetIs P x → MetIs P y → MetIs P (either_met x y)
unfolding either_met
either_is P nothing y a b = b
either_is P (closing o) y a b = a
either_is P (joining o) y a b = a

-- what node i of a list of nodes meets, by its word
module _ (words : List ℕ) (ns : List Node) (worded : Worded words ns) (i : ℕ) (f : Fact) (at : get_elem? (facts 0 ns no_openers) i ≡ some f) where
  pub met_word : (s : Stack) → met_on s f ≡ meets (word_move s (get_or words (i * 12) 0)) (open_at s ns i)
  met_word s =
      let d = node_of s ns i f at in
      met_at s ns i d.0 f d.1 at ∙ ap (λ (m : Move). meets m (open_at s ns i)) (sym (ap (word_move s) (worded i d.0 d.1) ∙ word_move_lem s d.0.stmt))

  kind_at : Kind (get_or words (i * 12) 0) f
  unfolding met_on word_move
  kind_at = kind_of_lem (get_or words (i * 12) 0) f (open_at loop_stack ns i) (open_at do_stack ns i) (met_word loop_stack) (met_word do_stack)

  pub frame_below : MetIs (λ (o : ℕ). o < i) (frame_met f)
  unfolding frame_met met_on
  frame_below = either_is (λ (o : ℕ). o < i) f.loop_met f.do_met (met-below loop_stack ns i f at) (met-below do_stack ns i f at)

-- a link leaves the first column alone
linked-met : (w i m : ℕ) (t : List ℕ) (r : ℕ) → get_or (linked_to w i m t) (r * 3) 0 ≡ get_or t (r * 3) 0
unfolding linked_to
linked-met w i zero t r = refl
linked-met w i (suc o) t r = go (eqb w 22) (eqb w 19 || eqb w 20)
  where
    go : (x y : Bool) → get_or (pick x (else_linked i o t) (pick y t (set t (o * 3 + 1) (suc i)))) (r * 3) 0 ≡ get_or t (r * 3) 0
    go true y = get_or-set_other (set t (i * 3 + 2) (get_or t (o * 3 + 2) 0)) (o * 3 + 2) (r * 3) (suc i) 0 (λ q. omega arith) ∙ get_or-set_other t (i * 3 + 2) (r * 3) (get_or t (o * 3 + 2) 0) 0 (λ q. omega arith)
    go false true = refl
    go false false = get_or-set_other t (o * 3 + 1) (r * 3) (suc i) 0 (λ q. omega arith)

none_next : (p : Fact → Bool) (F : List Fact) (n : ℕ) → length F ≡ n → next_where p n F ≡ 0
unfolding next_where first_where
none_next p F n e = rw (drop_of_length-le F {i = n} (omega arith))

past_zero : (F : List Fact) (n : ℕ) (t : List ℕ) → MetUpto F t n → (q r c : ℕ) → n ≤ r → c < 3 → q ≡ r * 3 + c → get_or t q 0 ≡ 0
past_zero F n t u q r zero h g e = let z : q ≡ r * 3 = omega arith in rw z (u.later r h)
past_zero F n t u q r (suc zero) h g e = rw e (u.closers r)
past_zero F n t u q r (suc (suc zero)) h g e = rw e (u.elses r)
past_zero F n t u q r (suc (suc (suc c))) h g e = absurd (omega arith)

linked-start : (F : List Fact) (n : ℕ) (t : List ℕ) → length F ≡ n → MetUpto F t n → LinkedFrom F n t n
unfolding else_entry
linked-start F n t e u = record {
  met = u.met;
  closers = λ r h. u.closers r ∙ sym (none_next (closes_frame r) F n e);
  elses = λ r h. u.elses r ∙ rw (lt-leb n r h) (sym (none_next (is_else_of r) F n e));
  past = λ q h. past_zero F n t u q (q / 3) (q % 3) (omega arith) (omega arith) (omega arith);
}

-- the table before node k is linked
pub record Linking (words : List ℕ) (n : ℕ) (t : List ℕ) (k : ℕ) : Type 0 where
  pub below : MetBelow t
  pub of : (ns : List Node) → length ns ≡ n → Worded words ns → LinkedFrom (facts 0 ns no_openers) n t k

pub linking_start : (words : List ℕ) (n : ℕ) (t : List ℕ) → MetFrames words n t → Linking words n t n
linking_start words n t m = record { below = m.below; of = λ ns e v. linked-start (facts 0 ns no_openers) n t (length-facts 0 ns no_openers ∙ e) (m.upto ns e v) }

linking_next : (words : List ℕ) (n : ℕ) (t t' : List ℕ) (w i : ℕ) → i < n → n * 3 ≤ length t → w ≡ get_or words (i * 12) 0 → t' ≡ linked w i t → Linking words n t (suc i) → Linking words n t' i
unfolding linked
linking_next words n t t' w i h fits e q a = record {
  below = λ r. omega (arith, ap (λ (x : List ℕ). get_or x (r * 3) 0) q, linked-met w i (get_or t (i * 3) 0) t r, a.below r);
  of = λ ns s v.
      let f = some_at (facts 0 ns no_openers) i (omega (arith, length-facts 0 ns no_openers)) in
      let k : Kind w f.0 = rw e (kind_at words ns v i f.0 f.1) in
      rw q (link_next (facts 0 ns no_openers) i f.0 f.1 n t w h fits (a.of ns s v) k (frame_below words ns v i f.0 f.1));
}

pub linking_back : (words : List ℕ) (n : ℕ) (t t' : List ℕ) (w k : ℕ) → 0 < k → k ≤ n → n * 3 ≤ length t → w ≡ get_or words ((k - 1) * 12) 0 → t' ≡ linked w (k - 1) t
    → Linking words n t k → Linking words n t' (k - 1)
linking_back words n t t' w zero h g fits e q a = absurd (omega arith)
linking_back words n t t' w (suc i) h g fits e q a = rw (sub-one (suc i)) (linking_next words n t t' w i (omega arith) fits (rw (sub-one (suc i)) at e) (rw (sub-one (suc i)) at q) a)

pub linking_end : (words : List ℕ) (n : ℕ) (t : List ℕ) (k : ℕ) → k ≡ 0 → n * 3 ≤ length t → Linking words n t k → Framed words n t
linking_end words n t k q fits a ns e v =
    let F = facts 0 ns no_openers in
    let s : LinkedFrom F n t 0 = rw q at (a.of ns e v) in
    let z : length F ≡ n = length-facts 0 ns no_openers ∙ e in
    table_is F t (λ r h. s.met r (omega arith)) (λ r h. s.closers r (omega arith)) (λ r h. rw (le-leb 0 r (omega arith)) at (s.elses r (omega arith))) (omega arith) (λ q h. s.past q (omega arith))

-- ---- the tests of the code
module _ (w i v : ℕ) (t : List ℕ) where
  by_else : (m : ℕ) → (m ≡ 0 → ⊥) → w ≡ 22 → v ≡ i + 1 → set (set t (i * 3 + 2) (get_or t ((m - 1) * 3 + 2) 0)) ((m - 1) * 3 + 2) v ≡ linked_to w i m t
  unfolding linked_to
  by_else zero h e q = absurd (h refl)
  by_else (suc o) h e q = rw (sub-one (suc o), q, add-one i, eq-eqb w 22 e)

  by_exit : (m : ℕ) → (m ≡ 0 → ⊥) → (w ≡ 22 → ⊥) → is_exit w ≡ true → t ≡ linked_to w i m t
  unfolding linked_to
  by_exit zero h e q = absurd (h refl)
  by_exit (suc o) h e q = rw (ne_eqb w 22 e, q)

  by_closer : (m : ℕ) → (m ≡ 0 → ⊥) → (w ≡ 22 → ⊥) → is_exit w ≡ false → v ≡ i + 1 → set t ((m - 1) * 3 + 1) v ≡ linked_to w i m t
  unfolding linked_to
  by_closer zero h e g q = absurd (h refl)
  by_closer (suc o) h e g q = rw (sub-one (suc o), q, add-one i, ne_eqb w 22 e, g)

  module _ (m : ℕ) (met : m ≡ get_or t (i * 3) 0) where
    pub link_none : m ≡ 0 → t ≡ linked w i t
    unfolding linked linked_to
    link_none e = rw (sym met ∙ e)

    pub link_else : (m ≡ 0 → ⊥) → w ≡ 22 → v ≡ i + 1 → set (set t (i * 3 + 2) (get_or t ((m - 1) * 3 + 2) 0)) ((m - 1) * 3 + 2) v ≡ linked w i t
    unfolding linked
    link_else h e q = by_else m h e q ∙ ap (λ (x : ℕ). linked_to w i x t) met

    pub link_exit : (m ≡ 0 → ⊥) → (w ≡ 22 → ⊥) → w ≡ 19 → t ≡ linked w i t
    unfolding linked
    link_exit h e q = by_exit m h e (rw (eq-eqb w 19 q)) ∙ ap (λ (x : ℕ). linked_to w i x t) met

    pub link_exitif : (m ≡ 0 → ⊥) → (w ≡ 22 → ⊥) → (w ≡ 19 → ⊥) → w ≡ 20 → t ≡ linked w i t
    unfolding linked
    link_exitif h e g q = by_exit m h e (rw (ne_eqb w 19 g, eq-eqb w 20 q)) ∙ ap (λ (x : ℕ). linked_to w i x t) met

    pub link_closer : (m ≡ 0 → ⊥) → (w ≡ 22 → ⊥) → (w ≡ 19 → ⊥) → (w ≡ 20 → ⊥) → v ≡ i + 1 → set t ((m - 1) * 3 + 1) v ≡ linked w i t
    unfolding linked
    link_closer h e g k q = by_closer m h e (rw (ne_eqb w 19 g, ne_eqb w 20 k)) q ∙ ap (λ (x : ℕ). linked_to w i x t) met
