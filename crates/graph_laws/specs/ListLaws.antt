-- Laws of `has` and `add`, as code goes over a list. Assumes nothing.
use Rattle.std.specs.Prelude.{ℕ, zero, suc, ◌+◌, ◌<◌, ◌≡◌, refl, List, [], ◌∷◌, ◌++◌, Bool, true, false, ◌||◌, T, eqb, length, get_or}
use Rattle.std.proofs.Common.{subst, sym, ap, arith, eqb→eq}
use Rattle.std.proofs.Math.Dec.{eqb_refl}
use Rattle.listings.specs.Bytes.{pick}
use Rattle.graph.specs.Lists.{has, add}

hit : (x y : Bool) → T x → (x || y) ≡ true
hit true y t = refl
hit false y t = absurd t

pub later : (x y : Bool) → y ≡ true → (x || y) ≡ true
later true y e = refl
later false y e = e

miss : (x y : Bool) → (T x → ⊥) → y ≡ false → (x || y) ≡ false
miss true y n e = absurd (n tt)
miss false y n e = e

pub has_found : (a : ℕ) (l : List ℕ) (i : ℕ) → i < length l → a ≡ get_or l i 0 → has a l ≡ true
unfolding has
has_found a [] i h e = absurd (omega arith)
has_found a (b ∷ l) zero h e = hit (eqb a b) (has a l) (subst (λ (z : ℕ). T (eqb a z)) e (eqb_refl a))
has_found a (b ∷ l) (suc i) h e = later (eqb a b) (has a l) (has_found a l i (omega arith) e)

pub has-none : (a : ℕ) (l : List ℕ) → ((i : ℕ) → i < length l → a ≡ get_or l i 0 → ⊥) → has a l ≡ false
unfolding has
has-none a [] f = refl
has-none a (b ∷ l) f = miss (eqb a b) (has a l) (λ t. f 0 (omega arith) (eqb→eq a b t)) (has-none a l (λ i h. f (suc i) (omega arith)))

pub add_old : (l : List ℕ) (a : ℕ) → has a l ≡ true → add l a ≡ l
unfolding add
add_old l a e = ap (λ (x : Bool). pick x l (l ++ (a ∷ []))) e

pub add_new : (l : List ℕ) (a : ℕ) → has a l ≡ false → add l a ≡ l ++ (a ∷ [])
unfolding add
add_new l a e = ap (λ (x : Bool). pick x l (l ++ (a ∷ []))) e

pub or-true : (x : Bool) → (x || true) ≡ true
or-true true = refl
or-true false = refl

pub or-false : (x : Bool) → (x || false) ≡ x
or-false true = refl
or-false false = refl

or_assoc : (x y z : Bool) → ((x || y) || z) ≡ (x || (y || z))
or_assoc true y z = refl
or_assoc false y z = refl

pub has_end : (x a : ℕ) (l : List ℕ) → has x (l ++ (a ∷ [])) ≡ (has x l || eqb x a)
unfolding has
has_end x a [] = or-false (eqb x a)
has_end x a (b ∷ l) = rw (has_end x a l) (sym (or_assoc (eqb x b) (has x l) (eqb x a)))
