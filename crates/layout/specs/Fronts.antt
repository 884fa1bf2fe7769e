-- A loop over numbered elements that writes them to the front of a part. Assumes nothing.
use Rattle.std.specs.Prelude.{ℕ, zero, suc, ◌+◌, ◌<◌, ◌≤◌, min, ◌≡◌, List, [], ◌∷◌, ◌++◌, length, get_or, take, drop, set}
use Rattle.std.specs.List.{enumerate_from}
use Rattle.std.proofs.Common.{ap, sym, ◌∙◌, arith, add-one, not-suc-le-zero, le_of_suc-le-suc, take_all, drop_of_length-le, append-nil}
use Rattle.std.proofs.Math.Nat.{min-eq_left, min-eq_right}
use Rattle.std.proofs.Math.Decide.{dec_le}
use Rattle.std.proofs.lemmas.List.FromFn.{length-enumerate_from, get_or-enumerate_from}

-- an element with its number, as the `for` has it in turn i
pub numbered : {X : Type 0} (xs : List X) (i n : ℕ) (x : X) → i < length (enumerate_from 0 xs) → (n, x) ≡ get_or (enumerate_from 0 xs) i (n, x) → (i < length xs) × (n ≡ i) × (x ≡ get_or xs i x)
numbered {X} xs i n x h e =
    let k : i < length xs = omega (arith, length-enumerate_from 0 xs, h) in
    let z : 0 + i ≡ i = omega arith in
    let q = e ∙ get_or-enumerate_from 0 xs i (n, x) k in
    (k, ap (λ (d : ℕ × X). d.0) q ∙ z, ap (λ (d : ℕ × X). d.1) q)

-- one entry more, while there is room
front_suc : {X : Type 0} (l t : List X) (n : ℕ) (x : X) → n < length l → n < length t → x ≡ get_or l n x → set (take n l ++ drop n t) n x ≡ take (suc n) l ++ drop (suc n) t
front_suc [] t n x h k e = absurd (not-suc-le-zero h)
front_suc (a ∷ l) [] n x h k e = absurd (not-suc-le-zero k)
front_suc {X} (a ∷ l) (b ∷ t) zero x h k e = ap (λ (z : X). z ∷ t) e
front_suc {X} (a ∷ l) (b ∷ t) (suc n) x h k e = ap (λ (z : List X). a ∷ z) (front_suc l t n x (le_of_suc-le-suc h) (le_of_suc-le-suc k) e)

pub front_more : {X : Type 0} (l t : List X) (n : ℕ) (x : X) → n < length l → n < length t → x ≡ get_or l n x → set (take n l ++ drop n t) n x ≡ take (n + 1) l ++ drop (n + 1) t
front_more l t n x h k e = rw add-one (front_suc l t n x h k e)

-- as much of the list as there is room for
pub front_end : {X : Type 0} (l t : List X) (n : ℕ) → n ≡ min (length t) (length l) → take n l ++ drop n t ≡ take (length t) l ++ drop (length l) t
front_end {X} l t n e = elim (dec_le (length l) (length t)) [
  | yes q ↦
      let z = e ∙ min-eq_right q in
      ap (λ (k : ℕ). take k l ++ drop k t) z ∙ ap (λ (y : List X). y ++ drop (length l) t) (take_all (length l) l (omega arith) ∙ sym (take_all (length t) l q))
  | no q ↦
      let h : length t ≤ length l = omega arith in
      let z = e ∙ min-eq_left h in
      ap (λ (k : ℕ). take k l ++ drop k t) z ∙ ap (λ (y : List X). take (length t) l ++ y) (drop_of_length-le t (omega arith) ∙ sym (drop_of_length-le t h))
]

-- a list as long as the part
pub front_whole : {X : Type 0} (l t : List X) → length l ≡ length t → take (length t) l ++ drop (length l) t ≡ l
front_whole {X} l t e = ap (λ (y : List X). take (length t) l ++ y) (drop_of_length-le t (omega (arith, e))) ∙ append-nil (take (length t) l) ∙ take_all (length t) l (omega (arith, e))

-- a list that has room
pub front_fits : {X : Type 0} (l t : List X) → length l ≤ length t → take (length t) l ++ drop (length l) t ≡ l ++ drop (length l) t
front_fits {X} l t h = ap (λ (y : List X). y ++ drop (length l) t) (take_all (length t) l h)

pub front_next : {X : Type 0} (l t : List X) (n : ℕ) (x : X) → n < length l → length l ≤ length t → x ≡ get_or l n x → set (take n l ++ drop n t) n x ≡ take (n + 1) l ++ drop (n + 1) t
front_next l t n x h k e = front_more l t n x h (omega arith) e
