-- Lists without duplicates: ids below n are at most n; adding once keeps a list so. Assumes nothing.
use Rattle.std.specs.Prelude.{◌≡◌, refl, Bool, true, false, ◌||◌, ℕ, zero, suc, ◌+◌, ◌≤◌, ◌<◌, T, eqb, length}
use Rattle.std.proofs.Common.{sym, ap, ◌∙◌, arith, eqb-true, ne_eqb}
use mathlib.Core.List.{List, [], ◌∷◌, ◌++◌, Memᴰ}
use Rattle.std.proofs.lemmas.Bool.{eqb-false}
use Rattle.listings.specs.Bytes.{pick}
use Rattle.graph.specs.Lists.{has, add, add_all, Ascending, asc[], asc∷}
use Rattle.listings.specs.Every.{All, all[], all∷}
use Rattle.graph_laws.specs.ReachLaws.{has→mem}

pub data Distinct : List ℕ → Type 0 where
  dist[] : Distinct []
  dist∷ : {a : ℕ} {l : List ℕ} → has a l ≡ false → Distinct l → Distinct (a ∷ l)

or_left : (x y : Bool) → (x || y) ≡ false → x ≡ false
or_left false y e = refl
or_left true y e = e

or_right : (x y : Bool) → (x || y) ≡ false → y ≡ false
or_right false y e = e
or_right true y e = absurd (let z : ◌≡◌ {A = ℕ} 0 1 = cc in omega arith)

pub or-none : (x y : Bool) → x ≡ false → y ≡ false → (x || y) ≡ false
or-none false y e f = f
or-none true y e f = e

-- ---- the pigeonhole: a list without n

unfoldable without : ℕ → List ℕ → List ℕ
without n [] = []
without n (b ∷ l) = pick (eqb n b) (without n l) (b ∷ without n l)

without-has : (n a : ℕ) (l : List ℕ) → has a l ≡ false → has a (without n l) ≡ false
unfolding without has
without-has n a [] h = refl
without-has n a (b ∷ l) h = go (eqb n b) (without-has n a l (or_right (eqb a b) (has a l) h))
  where
    go : (x : Bool) → has a (without n l) ≡ false → has a (pick x (without n l) (b ∷ without n l)) ≡ false
    go true e = e
    go false e = or-none (eqb a b) (has a (without n l)) (or_left (eqb a b) (has a l) h) e

without_distinct : (n : ℕ) {l : List ℕ} → Distinct l → Distinct (without n l)
unfolding without
without_distinct n dist[] = dist[]
without_distinct n (dist∷ {a} {l} h d) = go (eqb n a) (without_distinct n d)
  where
    go : (x : Bool) → Distinct (without n l) → Distinct (pick x (without n l) (a ∷ without n l))
    go true e = e
    go false e = dist∷ (without-has n a l h) e

without-below : (n : ℕ) {l : List ℕ} → All (λ (a : ℕ). a < suc n) l → All (λ (a : ℕ). a < n) (without n l)
unfolding without
without-below n all[] = all[]
without-below n (all∷ {a} {l} h hs) = go (eqb n a) refl (without-below n hs)
  where
    go : (x : Bool) → eqb n a ≡ x → All (λ (b : ℕ). b < n) (without n l) → All (λ (b : ℕ). b < n) (pick x (without n l) (a ∷ without n l))
    go true e r = r
    go false e r = all∷ {a = a} (let f = eqb-false n a e in omega (arith, h, f)) r

without-same : (n : ℕ) (l : List ℕ) → has n l ≡ false → without n l ≡ l
unfolding without has
without-same n [] h = refl
without-same n (b ∷ l) h = rw (or_left (eqb n b) (has n l) h, without-same n l (or_right (eqb n b) (has n l) h))

without-length : (n : ℕ) {l : List ℕ} → Distinct l → length l ≤ suc (length (without n l))
unfolding without
without-length n dist[] = omega arith
without-length n (dist∷ {a} {l} h d) = go (eqb n a) refl (without-length n d)
  where
    go : (x : Bool) → eqb n a ≡ x → length l ≤ suc (length (without n l)) → suc (length l) ≤ suc (length (pick x (without n l) (a ∷ without n l)))
    go true e r = let q : n ≡ a = eqb-true n a e in let s : without n l ≡ l = without-same n l (rw q h) in omega (arith, ap length s)
    go false e r = omega (arith, r)

pub few : (n : ℕ) {l : List ℕ} → Distinct l → All (λ (a : ℕ). a < n) l → length l ≤ n
few zero d all[] = omega arith
few zero d (all∷ h hs) = absurd (omega arith)
few (suc n) {l} d h = omega (arith, without-length n d, few n (without_distinct n d) (without-below n h))

-- so one more, that is new, has room
pub room : (n a : ℕ) {l : List ℕ} → Distinct l → All (λ (b : ℕ). b < n) l → a < n → has a l ≡ false → length l < n
room n a d h lt e = few n (dist∷ e d) (all∷ lt h)

-- ---- adding once

pub has_snoc : (i k : ℕ) (l : List ℕ) → has i l ≡ false → eqb i k ≡ false → has i (l ++ (k ∷ [])) ≡ false
unfolding has
has_snoc i k [] h g = or-none (eqb i k) false g refl
has_snoc i k (j ∷ l) h g = or-none (eqb i j) (has i (l ++ (k ∷ []))) (or_left (eqb i j) (has i l) h) (has_snoc i k l (or_right (eqb i j) (has i l) h) g)

eqb_flip : (a b : ℕ) → eqb a b ≡ false → eqb b a ≡ false
eqb_flip a b e = ne_eqb b a (λ q. eqb-false a b e (sym q))

distinct_snoc : (a : ℕ) {l : List ℕ} → Distinct l → has a l ≡ false → Distinct (l ++ (a ∷ []))
unfolding has
distinct_snoc a dist[] e = dist∷ e dist[]
distinct_snoc a (dist∷ {a = b} {l} h d) e = dist∷ (has_snoc b a l h (eqb_flip a b (or_left (eqb a b) (has a l) e))) (distinct_snoc a d (or_right (eqb a b) (has a l) e))

pub distinct_add : (a : ℕ) {l : List ℕ} → Distinct l → Distinct (add l a)
unfolding add
distinct_add a {l} d = go (has a l) refl
  where
    go : (x : Bool) → has a l ≡ x → Distinct (pick x l (l ++ (a ∷ [])))
    go true e = d
    go false e = distinct_snoc a d e

pub distinct_all : (k : List ℕ) {l : List ℕ} → Distinct l → Distinct (add_all l k)
unfolding add_all
distinct_all [] d = d
distinct_all (a ∷ k) d = distinct_all k (distinct_add a d)

-- ---- ascending lists have no duplicates

not_in : (a : ℕ) (l : List ℕ) → ((b : ℕ) → Memᴰ b l → a < b) → has a l ≡ false
not_in a l h = go (has a l) refl
  where
    go : (x : Bool) → has a l ≡ x → has a l ≡ false
    go false e = e
    go true e = let t : T (has a l) = rw e tt in absurd (omega (arith, h a (has→mem a l t)))

pub distinct_ascending : {l : List ℕ} → Ascending l → Distinct l
distinct_ascending asc[] = dist[]
distinct_ascending (asc∷ {a} {l} h s) = dist∷ (not_in a l h) (distinct_ascending s)
