-- Laws of `Lists`: what is in them, and that the sorted one ascends. Assumes nothing.
use Rattle.std.specs.Prelude.{ℕ, zero, suc, ◌<◌, ◌≤◌, ◌≡◌, Bool, true, false, not, ◌⊎◌, ◌↔◌, T, eqb, ltb, length}
use Rattle.std.proofs.Math.Path.{refl}
use Rattle.std.proofs.Common.{subst, sym, ◌∙◌, arith, T_not, eqb→eq, ltb→lt, nltb→le}
use mathlib.Core.List.Memᴰ
use mathlib.Core.List.{List, [], ◌∷◌, ◌++◌, Memᴰ}
use Rattle.std.proofs.Math.Logic.{inl, inr}
use Rattle.std.proofs.Math.Option.{Option, none, some}
use Rattle.std.proofs.Math.Decide.{ℕ_discrete}
use Rattle.std.proofs.Math.Dec.{eqb_refl}
use Rattle.std.proofs.Math.ListN.{get_elem?}
use Rattle.listings.specs.Every.{All, all[], all∷, all_append}
use Rattle.graph.specs.Lists.{each, list, below, insert_by, insert, ascending, Ascending, asc[], asc∷}

pub all_map : {A : Type 0} {P Q : A → Type 0} → ((a : A) → P a → Q a) → {l : List A} → All P l → All Q l
all_map f all[] = all[]
all_map f (all∷ {a} p ps) = all∷ (f a p) (all_map f ps)

pub all_mem : {A : Type 0} {P : A → Type 0} {l : List A} → All P l → (a : A) → Memᴰ a l → P a
all_mem all[] a m = elim m [ ]
all_mem {P = P} (all∷ p ps) a (Memᴰ.head e) = subst P (sym e) p
all_mem (all∷ p ps) a (Memᴰ.tail m) = all_mem ps a m

pub all-each : {A B : Type 0} {P : A → Type 0} {Q : B → Type 0} (f : A → List B) → ((a : A) → P a → All Q (f a)) → {l : List A} → All P l → All Q (each f l)
unfolding each
all-each f h all[] = all[]
all-each f h (all∷ {a} p ps) = all_append (h a p) (all-each f h ps)

-- the element at a place, if there is one
pub all-at : {A : Type 0} {P : A → Type 0} {l : List A} → All P l → (i : ℕ) (a : A) → get_elem? l i ≡ some a → P a
all-at all[] i a e = absurd (let z : ◌≡◌ {A = ℕ} 0 1 = cc in omega arith)
all-at {P = P} (all∷ {a = b} p ps) zero a e = let q : b ≡ a = cc in subst P q p
all-at (all∷ p ps) (suc i) a e = all-at ps i a e

module _ {A B : Type 0} (f : A → List B) where
  pub mem_each : {b : B} {a : A} {l : List A} → Memᴰ a l → Memᴰ b (f a) → Memᴰ b (each f l)
  unfolding each
  mem_each {b} (Memᴰ.head {x} {xs} e) m = Memᴰ.append_left (each f xs) (subst (λ y. Memᴰ b (f y)) e m)
  mem_each (Memᴰ.tail {x} {xs} n) m = Memᴰ.append_right (f x) (mem_each n m)

  pub each_mem : {b : B} (l : List A) → Memᴰ b (each f l) → (a : A) × Memᴰ a l × Memᴰ b (f a)
  unfolding each
  each_mem [] m = absurd (Memᴰ.not-nil m)
  each_mem (x ∷ xs) m =
      elim (Memᴰ.append_cases (f x) m) [
        | inl n ↦ (x, Memᴰ.head refl, n)
        | inr n ↦ let r = each_mem xs n in (r.0, Memᴰ.tail r.1, r.2)
      ]

pub mem_below : (n c : ℕ) → c < n → Memᴰ c (below n)
unfolding below
mem_below zero c h = absurd (omega arith)
mem_below (suc n) c h =
    elim (ℕ_discrete c n) [
      | yes e ↦ Memᴰ.append_right (below n) (Memᴰ.head e)
      | no ne ↦ Memᴰ.append_left (n ∷ []) (mem_below n c (omega arith))
    ]

-- a test is true, or false
decided : (b : Bool) → T b ⊎ T (not b)
decided true = inl tt
decided false = inr tt

insert_by-cases : (x y : Bool) (c a b : ℕ) (l r : List ℕ) → (Memᴰ c r → (c ≡ a) ⊎ Memᴰ c l)
    → Memᴰ c (insert_by x y a b l r) → (c ≡ a) ⊎ Memᴰ c (b ∷ l)
unfolding insert_by
insert_by-cases true y c a b l r ih m = Memᴰ.cases_cons m
insert_by-cases false true c a b l r ih m = inr m
insert_by-cases false false c a b l r ih m =
    elim (Memᴰ.cases_cons m) [
      | inl e ↦ inr (Memᴰ.head e)
      | inr n ↦ elim (ih n) [ inl e ↦ inl e | inr k ↦ inr (Memᴰ.tail k) ]
    ]

insert-cases : (c a : ℕ) (l : List ℕ) → Memᴰ c (insert a l) → (c ≡ a) ⊎ Memᴰ c l
unfolding insert
insert-cases c a [] m = Memᴰ.cases_cons m
insert-cases c a (b ∷ l) m = insert_by-cases (ltb a b) (eqb a b) c a b l (insert a l) (insert-cases c a l) m

insert_by_new : (x y : Bool) (a b : ℕ) (l r : List ℕ) → (T y → a ≡ b) → Memᴰ a r → Memᴰ a (insert_by x y a b l r)
unfolding insert_by
insert_by_new true y a b l r e m = Memᴰ.head refl
insert_by_new false true a b l r e m = Memᴰ.head (e tt)
insert_by_new false false a b l r e m = Memᴰ.tail m

insert_new : (a : ℕ) (l : List ℕ) → Memᴰ a (insert a l)
unfolding insert
insert_new a [] = Memᴰ.head refl
insert_new a (b ∷ l) = insert_by_new (ltb a b) (eqb a b) a b l (insert a l) (eqb→eq a b) (insert_new a l)

insert_by_old : (x y : Bool) (c a b : ℕ) (l r : List ℕ) → (Memᴰ c l → Memᴰ c r) → Memᴰ c (b ∷ l) → Memᴰ c (insert_by x y a b l r)
unfolding insert_by
insert_by_old true y c a b l r ih m = Memᴰ.tail m
insert_by_old false true c a b l r ih m = m
insert_by_old false false c a b l r ih m = elim (Memᴰ.cases_cons m) [ inl e ↦ Memᴰ.head e | inr n ↦ Memᴰ.tail (ih n) ]

insert_old : (c a : ℕ) (l : List ℕ) → Memᴰ c l → Memᴰ c (insert a l)
unfolding insert
insert_old c a [] m = absurd (Memᴰ.not-nil m)
insert_old c a (b ∷ l) m = insert_by_old (ltb a b) (eqb a b) c a b l (insert a l) (insert_old c a l) m

insert_by_asc : (x y : Bool) (a b : ℕ) (l r : List ℕ) → (T x → a < b) → (T (not x) → b ≤ a) → (T (not y) → ¬ (a ≡ b)) → ((c : ℕ) → Memᴰ c r → (c ≡ a) ⊎ Memᴰ c l)
    → ((c : ℕ) → Memᴰ c l → b < c) → Ascending l → Ascending r → Ascending (insert_by x y a b l r)
unfolding insert_by
insert_by_asc true y a b l r lt ge ne into all al ar =
    asc∷ {a = a} {l = b ∷ l} (λ c m. elim (Memᴰ.cases_cons m) [ inl e ↦ subst (λ (z : ℕ). a < z) (sym e) (lt tt) | inr n ↦ omega (arith, lt tt, all c n) ]) (asc∷ all al)
insert_by_asc false true a b l r lt ge ne into all al ar = asc∷ all al
insert_by_asc false false a b l r lt ge ne into all al ar =
    asc∷ {a = b} {l = r} (λ c m. elim (into c m) [ inl e ↦ omega (arith, e, ge tt, ne tt) | inr n ↦ all c n ]) ar

not_eqb : (a b : ℕ) → T (not (eqb a b)) → ¬ (a ≡ b)
not_eqb a b t e = T_not (eqb a b) t (subst (λ (z : ℕ). T (eqb a z)) e (eqb_refl a))

insert_asc : (a : ℕ) {l : List ℕ} → Ascending l → Ascending (insert a l)
unfolding insert
insert_asc a asc[] = asc∷ (λ b m. absurd (Memᴰ.not-nil m)) asc[]
insert_asc a (asc∷ {a = b} {l} all al) =
    insert_by_asc (ltb a b) (eqb a b) a b l (insert a l) (ltb→lt a b) (nltb→le a b) (not_eqb a b) (λ c. insert-cases c a l) all al (insert_asc a al)

pub ascending_asc : (l : List ℕ) → Ascending (ascending l)
unfolding ascending
ascending_asc [] = asc[]
ascending_asc (a ∷ l) = insert_asc a (ascending_asc l)

pub ascending_mem : (c : ℕ) (l : List ℕ) → Memᴰ c (ascending l) → Memᴰ c l
unfolding ascending
ascending_mem c [] m = m
ascending_mem c (a ∷ l) m = elim (insert-cases c a (ascending l) m) [ inl e ↦ Memᴰ.head e | inr n ↦ Memᴰ.tail (ascending_mem c l n) ]

pub mem_ascending : (c : ℕ) (l : List ℕ) → Memᴰ c l → Memᴰ c (ascending l)
unfolding ascending
mem_ascending c [] m = m
mem_ascending c (a ∷ l) m =
    elim (Memᴰ.cases_cons m) [
      | inl e ↦ Memᴰ.cast e (insert_new a (ascending l))
      | inr n ↦ insert_old c a (ascending l) (mem_ascending c l n)
    ]

heads : (a b : ℕ) → (a ≡ b) ⊎ (b < a) → (b ≡ a) ⊎ (a < b) → a ≡ b
heads a b (inl e) q = e
heads a b (inr h) (inl e) = sym e
heads a b (inr h) (inr i) = omega arith

tails : {a b : ℕ} {k l : List ℕ} → a ≡ b → ((c : ℕ) → Memᴰ c k → a < c) → ((c : ℕ) → Memᴰ c (a ∷ k) → Memᴰ c (b ∷ l)) → (c : ℕ) → Memᴰ c k → Memᴰ c l
tails e lt h c m = elim (Memᴰ.cases_cons (h c (Memᴰ.tail m))) [ inl f ↦ absurd (omega (arith, lt c m, e, f)) | inr n ↦ n ]

-- two ascending lists with the same elements are one list
pub asc_ext : {k l : List ℕ} → Ascending k → Ascending l → ((c : ℕ) → Memᴰ c k ↔ Memᴰ c l) → k ≡ l
asc_ext asc[] asc[] h = refl
asc_ext asc[] (asc∷ {a} all al) h = absurd (Memᴰ.not-nil ((h a).1 (Memᴰ.head refl)))
asc_ext (asc∷ {a} all al) asc[] h = absurd (Memᴰ.not-nil ((h a).0 (Memᴰ.head refl)))
asc_ext (asc∷ {a = a} {l = k} lt_k ak) (asc∷ {a = b} {l = l} lt_l al) h =
    let e : a ≡ b = heads a b
    (elim (Memᴰ.cases_cons ((h a).0 (Memᴰ.head refl))) [ inl f ↦ inl f | inr m ↦ inr (lt_l a m) ])
    (elim (Memᴰ.cases_cons ((h b).1 (Memᴰ.head refl))) [ inl f ↦ inl f | inr m ↦ inr (lt_k b m) ])
    in
    let r : k ≡ l = asc_ext ak al (λ c. (tails e lt_k (λ d. (h d).0) c, tails (sym e) lt_l (λ d. (h d).1) c)) in
    λ i. e i ∷ r i

-- a place past the end has nothing
pub past : {A : Type 0} (l : List A) (i : ℕ) → (i < length l) ⊎ (get_elem? l i ≡ none)
past [] i = inr refl
past (a ∷ l) zero = inl (omega arith)
past (a ∷ l) (suc i) = elim (past l i) [ inl h ↦ inl (omega arith) | inr e ↦ inr e ]
