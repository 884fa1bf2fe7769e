-- Where edges from node i lead: those of its own list, and those that another node sends to where it falls. Assumes nothing.
use Rattle.std.specs.Prelude.{ℕ, suc, ◌+◌, ◌<◌, ◌≤◌, Bool, true, false, ◌⊎◌, eqb}
use Rattle.std.proofs.Math.Path.{◌≡◌, refl}
use Rattle.std.proofs.Common.{ap, ◌∙◌, inl, inr, arith, ne_eqb}
use mathlib.Core.List.{List, [], ◌∷◌, ◌++◌, append-nil}
use Rattle.std.proofs.Math.Option.{Option, none, some}
use Rattle.listings.specs.Bytes.{pick}
use Rattle.graph.specs.Lists.{list}
use Rattle.graph.specs.Edges.{jumps_or, Edge, from_node, to_fall, ends}

-- node i is not among the n nodes from k on
abbrev pub Outside : ℕ → ℕ → ℕ → Type 0
Outside i k n = (i < k) ⊎ (k + n ≤ i)

pub out_head : (i k n : ℕ) → Outside i k (suc n) → eqb i k ≡ false
out_head i k n (inl h) = ne_eqb i k (λ e. omega arith)
out_head i k n (inr h) = ne_eqb i k (λ e. omega arith)

pub out_tail : (i k n : ℕ) → Outside i k (suc n) → Outside i (suc k) n
out_tail i k n (inl h) = inl (omega arith)
out_tail i k n (inr h) = inr (omega arith)

head_append : (x : Bool) (t : ℕ) (p q r : List ℕ) → r ≡ p ++ q → pick x (t ∷ r) r ≡ pick x (t ∷ p) p ++ q
head_append true t p q r e = ap (λ z. t ∷ z) e
head_append false t p q r e = e

pub ends-append : (i : ℕ) (a b : List Edge) → ends i (a ++ b) ≡ ends i a ++ ends i b
unfolding ends
ends-append i [] b = refl
ends-append i (d ∷ a) b = head_append (eqb i d.0) d.1 _ _ _ (ends-append i a b)

pub ends-own : (i k : ℕ) (l : List ℕ) → eqb i k ≡ true → ends i (from_node k l) ≡ l
unfolding ends from_node
ends-own i k [] e = refl
ends-own i k (t ∷ l) e = rw e (ap (λ z. t ∷ z) (ends-own i k l e))

pub ends-other : (i k : ℕ) (l : List ℕ) → eqb i k ≡ false → ends i (from_node k l) ≡ []
unfolding ends from_node
ends-other i k [] e = refl
ends-other i k (t ∷ l) e = rw e (ends-other i k l e)

-- node i is not among the nodes that are sent; it is among them once
abbrev pub Never : ℕ → List ℕ → Type 0
Never i l = (e : Option ℕ) → ends i (to_fall l e) ≡ []

abbrev pub Once : ℕ → List ℕ → Type 0
Once i l = (e : Option ℕ) → ends i (to_fall l e) ≡ list e

module _ (i : ℕ) where
  fall_append : (a b : List ℕ) (e : Option ℕ) → ends i (to_fall (a ++ b) e) ≡ ends i (to_fall a e) ++ ends i (to_fall b e)
  unfolding ends to_fall
  fall_append a b none = refl
  fall_append [] b (some t) = refl
  fall_append (j ∷ a) b (some t) = head_append (eqb i j) t _ _ _ (fall_append a b (some t))

  pub never[] : Never i []
  unfolding ends to_fall
  never[] none = refl
  never[] (some t) = refl

  pub never_one : (k : ℕ) → eqb i k ≡ false → Never i (k ∷ [])
  unfolding ends to_fall
  never_one k h none = refl
  never_one k h (some t) = rw h

  pub once_one : (k : ℕ) → eqb i k ≡ true → Once i (k ∷ [])
  unfolding ends to_fall list
  once_one k h none = refl
  once_one k h (some t) = rw h

  pub never_snoc : (l : List ℕ) (k : ℕ) → Never i l → eqb i k ≡ false → Never i (l ++ (k ∷ []))
  never_snoc l k p h e = fall_append l (k ∷ []) e ∙ rw (p e) (never_one k h e)

  pub once_snoc : (l : List ℕ) (k : ℕ) → Once i l → eqb i k ≡ false → Once i (l ++ (k ∷ []))
  once_snoc l k p h e = fall_append l (k ∷ []) e ∙ rw (p e, never_one k h e, append-nil)

  pub once_new : (l : List ℕ) (k : ℕ) → Never i l → eqb i k ≡ true → Once i (l ++ (k ∷ []))
  once_new l k p h e = fall_append l (k ∷ []) e ∙ rw (p e) (once_one k h e)

  pub never_or : (o : ℕ) (l : List ℕ) → Never i (o ∷ []) → Never i l → Never i (jumps_or o l)
  unfolding jumps_or
  never_or o [] p q = p
  never_or o (j ∷ l) p q = q

  pub once_or : (o : ℕ) (l : List ℕ) → Once i l → Once i (jumps_or o l)
  unfolding jumps_or ends to_fall list
  once_or o [] p e = let q : ◌≡◌ {A = List ℕ} [] (0 ∷ []) = p (some 0) in absurd (let z : ◌≡◌ {A = ℕ} 0 1 = cc in omega arith)
  once_or o (j ∷ l) p e = p e

  -- a turn that sends node i nowhere, or to e
  pub turn_never : (l : List ℕ) (e : Option ℕ) (E : List Edge) → Never i l → ends i (to_fall l e ++ E) ≡ ends i E
  turn_never l e E p = ends-append i (to_fall l e) E ∙ rw (p e)

  pub turn_once : (l : List ℕ) (e : Option ℕ) (E : List Edge) → Once i l → ends i (to_fall l e ++ E) ≡ list e ++ ends i E
  turn_once l e E p = ends-append i (to_fall l e) E ∙ rw (p e)
