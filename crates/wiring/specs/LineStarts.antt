-- The last statement before a place that is of another line, as a search from there down finds it. Assumes nothing.
use Rattle.std.specs.Prelude.{ℕ, zero, suc, ◌+◌, ◌-◌, ◌*◌, ◌≤◌, ◌<◌, ◌≡◌, refl, Bool, true, false, not, List, [], ◌∷◌, get_or, length, cond, Option, None, Some}
use Rattle.std.specs.List.{find}
use Rattle.std.specs.Option.{option_map}
use Rattle.std.proofs.Common.{sym, subst, ap, ◌∙◌, sub-one, arith, ⊎_elim}
use Rattle.std.proofs.lemmas.Iterator.{YieldsList}
use Rattle.std.proofs.lemmas.Iterator.Consumers.{YieldsList-from_shown}
use Rattle.std.specs.declared.ops.Range.{Range}
use Rattle.std.specs.declared.iter.Rev.{Rev}
use Rattle.std.specs.Iterator.Adapters.{rev_source, rev_steps}
use Rattle.std.proofs.iter.runs.Sources.{nat_range_steps_back}
use Rattle.std.proofs.Math.Dec.{eqb}
use borrow.Author.Tests.{eqb-true, eq-eqb}
use Rattle.passes.specs.Compare.{lt-or}
use Rattle.passes.specs.Connecting.{Begins, no}
use Rattle.tables.specs.OneMore.{one_more}

-- ---- the numbers below a place, from the last down

-- k of them from a on
abbrev pub down : (a k : ℕ) → List ℕ
down a zero = []
down a (suc k) = (a + k) ∷ down a k

abbrev left : Rev (Range ℕ) → List ℕ
left u = down (rev_source u).start ((rev_source u).end - (rev_source u).start)

one_down : (a b x c : ℕ) → c ≡ a → 0 < b - a → (d : ℕ) → x ≡ d → b ≡ d + 1 → down a (b - a) ≡ x ∷ down c (d - c)
one_down a b x c ec h d ex eb =
    let k : b - a ≡ suc (d - a) = omega arith in
    let y : a + (d - a) ≡ x = omega arith in
    ap (down a) k ∙ ap (λ (z : ℕ). z ∷ down a (d - a)) y ∙ ap (λ (z : ℕ). x ∷ down z (d - z)) (sym ec)

pub yields_down : {s : Rev (Range ℕ)} (n : ℕ) → rev_source s ≡ record { start = 0; end = n } → YieldsList (rev_steps nat_range_steps_back) (λ x. x) s (down 0 n)
yields_down {s} n e =
    let z : n - 0 ≡ n = omega arith in
    subst (λ (m : ℕ). YieldsList (rev_steps nat_range_steps_back) (λ x. x) s (down 0 m)) z
    (subst (λ (r : Range ℕ). YieldsList (rev_steps nat_range_steps_back) (λ x. x) s (down r.start (r.end - r.start))) e
    (YieldsList-from_shown (rev_steps nat_range_steps_back) (λ x. x) left
    (λ u t p. ap (λ (m : ℕ). length (down (rev_source u).start m)) p.1.0)
    (λ u x t p. one_down _ _ _ _ p.0 p.1.0 _ p.1.1 p.1.2) s))

-- ---- where the statements of line l begin that end at n

module _ (rows : List ℕ) (l : ℕ) where
  abbrev pub foreign : ℕ → Bool
  foreign i = not (eqb (get_or rows (i * 12 + 1) 0) l)

  one_foreign : (b : Bool) → not b ≡ true → b ≡ true → ⊥
  one_foreign true e f = no (sym e)
  one_foreign false e f = no (sym f)

  own : (b : Bool) → not b ≡ false → b ≡ true
  own true e = refl
  own false e = no e

  begins_found : (n : ℕ) → Begins rows l n (one_more (find foreign (down 0 n)))
  begins_found zero = record { within = omega arith; own = λ i a b. absurd (omega arith); other = λ h. absurd (omega arith) }
  begins_found (suc k) = go (0 + k) (omega arith) (foreign (0 + k)) refl (begins_found k)
    where
      go : (j : ℕ) → j ≡ k → (x : Bool) → foreign j ≡ x → Begins rows l k (one_more (find foreign (down 0 k))) → Begins rows l (suc k) (one_more (cond x (Some j) (find foreign (down 0 k))))
      go j q true e r =
          record {
            within = omega arith;
            own = λ i a b. absurd (omega arith);
            other = λ h f. one_foreign _ e (eq-eqb _ _ (rw sub-one at f));
          }
      go j q false e r =
          record {
            within = omega (arith, r.within);
            own = λ i a b. ⊎_elim (λ (h : i < k). r.own i a h) (λ (h : k ≤ i). let y : i ≡ j = omega arith in rw y (eqb-true _ _ (own _ e))) (lt-or i k);
            other = r.other;
          }

  -- as `find` answers it
  pub begins_first : (n : ℕ) (r : Option ℕ) → option_map (λ x. x) r ≡ find foreign (down 0 n) → Begins rows l n (one_more r)
  begins_first n None e = subst (λ (o : Option ℕ). Begins rows l n (one_more o)) (sym e) (begins_found n)
  begins_first n (Some i) e = subst (λ (o : Option ℕ). Begins rows l n (one_more o)) (sym e) (begins_found n)
