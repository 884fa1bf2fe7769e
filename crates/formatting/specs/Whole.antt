-- Room for all that is put. Assumes nothing.
use Rattle.std.specs.Prelude.{ℕ, ◌+◌, ◌≤◌, ◌≡◌, List, ◌++◌, length, take, drop}
use Rattle.std.proofs.Common.{sym, ap, ◌∙◌, arith, take_at}
use Rattle.std.proofs.Math.Seq.{length-sets}
use Rattle.std.proofs.lemmas.List.Edits.{sets-eq}
use Rattle.formatting.specs.Printing.{Puts}

-- all of l stands at the front of `out`: its first n bytes
pub record Whole (out : List ℕ) (n : ℕ) (l : List ℕ) : Type 0 where
  pub bytes : take n out ≡ l
  pub inside : n ≤ length out

-- what is put where there is room for it
pub puts_whole : (out out' l : List ℕ) (n : ℕ) → length l ≤ length out → Puts out 0 out' n l → Whole out' n l
puts_whole out out' l n h g =
    let z : n ≡ length l = omega (arith, g.next) in
    let e : out' ≡ l ++ drop (length l) out = g.bytes ∙ sets-eq l out 0 (omega arith) ∙ front in
    record { bytes = ap (take n) e ∙ take_at l (drop (length l) out) n (sym z); inside = omega (arith, ap length g.bytes, length-sets out 0 l) }
  where
    front : take 0 out ++ l ++ drop (0 + length l) out ≡ l ++ drop (length l) out
    front = let y : 0 + length l ≡ length l = omega arith in rw y
