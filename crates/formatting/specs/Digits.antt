-- How many digits a number has. Assumes nothing.
use Rattle.std.specs.Prelude.{ℕ, zero, suc, ◌+◌, ◌*◌, ◌/◌, ◌%◌, ◌≤◌, ◌<◌, ◌≡◌, [], ◌∷◌, length}
use Rattle.std.proofs.Common.{sym, ap, ◌∙◌, arith}
use Rattle.std.proofs.Math.ListN.{length-append}
use Rattle.std.proofs.Math.Decide.{dec_lt}
use Rattle.listings.specs.Bytes.{decimal}
use Rattle.listing_laws.specs.NumberText.{decimal_small, decimal_more}

unfoldable pub tens : ℕ → ℕ
tens zero = 1
tens (suc k) = tens k * 10

-- a number below 10, 100, .. has at most 1, 2, .. digits
pub decimal-length : (k n : ℕ) → n < tens (suc k) → length (decimal n) ≤ suc k
unfolding tens
decimal-length zero n h = omega (arith, ap length (decimal_small n (omega arith)))
decimal-length (suc k) n h =
    elim (dec_lt n 10) [
      | yes g ↦ omega (arith, ap length (decimal_small n g))
      | no g ↦ let a = n / 10 in let d = n % 10 in
          let z : a * 10 + d ≡ n = omega arith in
          let f = ap length (sym (ap decimal z) ∙ decimal_more a d (omega arith) (omega arith)) in
          omega (arith, f, length-append (decimal a) ((48 + d) ∷ []), decimal-length k a (omega arith))
    ]
