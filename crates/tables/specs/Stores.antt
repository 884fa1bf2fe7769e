-- What a table holds after several stores. Assumes nothing.
use Rattle.std.specs.Prelude.{ℕ, suc, ◌+◌, ◌<◌, ◌≡◌, List, [], ◌∷◌, ◌++◌, length, get_or, set, take, drop}
use Rattle.std.proofs.Common.{sym, ap, ◌∙◌, arith, add-zero, add-one, length-take-le, drop-cons, take-suc}
use Rattle.std.proofs.lemmas.List.{set_at}
use Rattle.std.proofs.lemmas.List.Edits.{sets}
use Rattle.std.proofs.Math.Seq.{append_snoc}

-- a turn of the loop that copies s to the front of d
pub copy_more : (s d t : List ℕ) (i : ℕ) → i < length s → i < length d → t ≡ take i s ++ drop i d → set t i (get_or s i 0) ≡ take (i + 1) s ++ drop (i + 1) d
copy_more s d t i hs hd e =
    ap (λ (x : List ℕ). set x i (get_or s i 0)) (e ∙ ap (λ (x : List ℕ). take i s ++ x) (drop-cons d i 0 hd))
    ∙ set_at (take i s) (get_or d i 0) (drop (suc i) d) (get_or s i 0) i (length-take-le i s (omega arith))
    ∙ sym (append_snoc (take i s) (get_or s i 0) (drop (suc i) d))
    ∙ ap (λ (x : List ℕ). x ++ drop (suc i) d) (sym (take-suc s i 0 hs))
    ∙ ap (λ (n : ℕ). take n s ++ drop n d) (sym (add-one i))

pub sets-append : {A : Type 0} (t : List A) (i : ℕ) (k l : List A) → sets t i (k ++ l) ≡ sets (sets t i k) (i + length k) l
sets-append t i [] l = ap (λ (z : ℕ). sets t z l) (sym (add-zero i))
sets-append t i (a ∷ k) l =
    let q : suc i + length k ≡ i + suc (length k) = omega arith in
    sets-append (set t i a) (suc i) k l ∙ ap (λ (z : ℕ). sets (sets (set t i a) (suc i) k) z l) q
