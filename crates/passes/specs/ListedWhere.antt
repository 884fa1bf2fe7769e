-- The numbers below n that a test picks, ascending. Assumes nothing.
use Rattle.std.specs.Prelude.{ℕ, zero, suc, ◌+◌, ◌≤◌, ◌<◌, ◌≡◌, refl, Bool, true, false, List, [], ◌∷◌, ◌++◌, length, set}
use Rattle.std.proofs.Common.{sym, ap, ◌∙◌, ⊎_elim}
use Rattle.std.proofs.Math.ListN.{length-append}
use Rattle.std.proofs.Math.Numerals.{add-one}
use mathlib.Core.List.{Memᴰ}
use Rattle.std.proofs.Math.Logic.{inl, inr}
use native.Mathlib.Omega.{arith}
use Rattle.listings.specs.Every.{All, all[], all∷, all_append}
use Rattle.passes.specs.Compare.{eq-or}
use Rattle.passes.specs.Sets.{one_if, Put}
use Rattle.passes.specs.SetLaws.{put_none, put_both, put_one}

unfoldable pub listed_where : (ℕ → Bool) → ℕ → List ℕ
listed_where p zero = []
listed_where p (suc i) = listed_where p i ++ one_if (p i) i

module _ (p : ℕ → Bool) where
  one_few : (b : Bool) (i : ℕ) → length (one_if b i) ≤ 1
  one_few true i = omega arith
  one_few false i = omega arith

  pub where_few : (i : ℕ) → length (listed_where p i) ≤ i
  unfolding listed_where
  where_few zero = omega arith
  where_few (suc i) = simp length-append (omega (arith, where_few i, one_few (p i) i))

  one_mem : (b : Bool) (i c : ℕ) → Memᴰ c (one_if b i) → (c ≡ i) × (b ≡ true)
  one_mem true i c m = ⊎_elim (λ e. (e, refl)) (λ n. absurd (mathlib.Core.List.Memᴰ.not-nil n)) (mathlib.Core.List.Memᴰ.cases_cons m)
  one_mem false i c m = absurd (mathlib.Core.List.Memᴰ.not-nil m)

  pub where_mem : (n c : ℕ) → Memᴰ c (listed_where p n) → (c < n) × (p c ≡ true)
  unfolding listed_where
  where_mem zero c m = absurd (mathlib.Core.List.Memᴰ.not-nil m)
  where_mem (suc n) c m =
      elim (mathlib.Core.List.Memᴰ.append_cases (listed_where p n) m) [
        | inl k ↦ let r = where_mem n c k in (omega (arith, r.0), r.1)
        | inr k ↦ let r = one_mem (p n) n c k in (omega (arith, r.0), ap p r.0 ∙ r.1)
      ]

  one_in : (b : Bool) (i c : ℕ) → c ≡ i → b ≡ true → Memᴰ c (one_if b i)
  one_in true i c e t = mathlib.Core.List.Memᴰ.head e
  one_in false i c e t = absurd (let z : ◌≡◌ {A = ℕ} 0 1 = cc in omega arith)

  pub mem_where : (n c : ℕ) → c < n → p c ≡ true → Memᴰ c (listed_where p n)
  unfolding listed_where
  mem_where zero c h e = absurd (omega arith)
  mem_where (suc n) c h e =
      elim (eq-or c n) [
        | inl q ↦ mathlib.Core.List.Memᴰ.append_right (listed_where p n) (one_in (p n) n c q (ap p (sym q) ∙ e))
        | inr q ↦ mathlib.Core.List.Memᴰ.append_left (one_if (p n) n) (mem_where n c (omega arith) e)
      ]

  one-all : (P : ℕ → Type 0) (b : Bool) (i : ℕ) → (b ≡ true → P i) → All P (one_if b i)
  one-all P true i h = all∷ (h refl) all[]
  one-all P false i h = all[]

  pub where_all : (P : ℕ → Type 0) (n : ℕ) → ((c : ℕ) → c < n → p c ≡ true → P c) → All P (listed_where p n)
  unfolding listed_where
  where_all P zero h = all[]
  where_all P (suc n) h = all_append (where_all P n (λ c lt e. h c (omega arith) e)) (one-all P (p n) n (h n (omega arith)))

  -- ---- as code lists them: number i behind the first m entries, or not

  pub where_start : (part : List ℕ) → Put part 0 part 0 (listed_where p 0)
  unfolding listed_where
  where_start part = put_none part 0

  where_next : (i : ℕ) → listed_where p (i + 1) ≡ listed_where p i ++ one_if (p i) i
  unfolding listed_where
  where_next i = rw add-one refl

  pub where_yes : (s t : List ℕ) (m i x : ℕ) → Put s 0 t m (listed_where p i) → m < length t → x ≡ i → p i ≡ true → Put s 0 (set t m x) (m + 1) (listed_where p (i + 1))
  where_yes s t m i x a h q e = rw (where_next i, e) (put_both s t (set t m x) 0 m (m + 1) (listed_where p i) (i ∷ []) a (put_one t m i x h q))

  pub where_no : (s t : List ℕ) (m i : ℕ) → Put s 0 t m (listed_where p i) → p i ≡ false → Put s 0 t m (listed_where p (i + 1))
  where_no s t m i a e = rw (where_next i, e) (put_both s t t 0 m m (listed_where p i) [] a (put_none t m))
