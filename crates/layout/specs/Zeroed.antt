-- Tables filled with one value from an entry on. Assumes nothing.
use Rattle.std.specs.Prelude.{ℕ, zero, suc, ◌-◌, ◌≤◌, ◌<◌, ◌≡◌, refl, List, [], ◌∷◌, ◌++◌, length, set, replicate, take, drop}
use Rattle.std.proofs.Common.{sym, ap, ◌∙◌, append-nil, arith, le_of_suc-le-suc, not-suc-le-zero, length-append, length-drop, drop_of_length-le, length-take-le, take_all}
use Rattle.std.proofs.lemmas.List.{length-replicate}

-- one value from entry k on
abbrev pub filled_behind : {A : Type 0} → A → ℕ → List A → List A
filled_behind v k t = take k t ++ replicate (length t - k) v

-- zeros from entry k on
unfoldable pub cleared_behind : ℕ → List ℕ → List ℕ
cleared_behind k t = filled_behind 0 k t

pub filled_behind_lem : {A : Type 0} (v : A) (t : List A) (k : ℕ) (p : List A) → k ≤ length t → p ≡ replicate (length (take (length t - k) (drop k t))) v
    → take k t ++ (p ++ drop (length t - k) (drop k t)) ≡ filled_behind v k t
filled_behind_lem v t k p h e =
    let z : drop (length t - k) (drop k t) ≡ [] = drop_of_length-le (drop k t) {i = length t - k} (omega (arith, length-drop k t)) in
    let q : length (take (length t - k) (drop k t)) ≡ length t - k = length-take-le (length t - k) (drop k t) (omega (arith, length-drop k t)) in
    rw (z, append-nil p, e, q)

-- from an entry that is not there nothing is filled
pub filled_none : {A : Type 0} (v : A) (t : List A) (k : ℕ) → length t ≤ k → t ≡ filled_behind v k t
filled_none {A} v t k h =
    let z : length t - k ≡ 0 = omega arith in
    sym (ap (λ (n : ℕ). take k t ++ replicate n v) z ∙ append-nil (take k t) ∙ take_all k t h)

pub cleared_length : (t : List ℕ) (k : ℕ) → k ≤ length t → length (cleared_behind k t) ≡ length t
unfolding cleared_behind
cleared_length t k h = simp (length-append, length-replicate) (omega (arith, length-take-le k t h))

-- one entry more has the value
pub filled_next : {A : Type 0} (v : A) (t : List A) (i : ℕ) → i < length t → set (replicate i v ++ drop i t) i v ≡ replicate (suc i) v ++ drop (suc i) t
filled_next v [] i h = absurd (not-suc-le-zero h)
filled_next v (a ∷ t) zero h = refl
filled_next {A} v (a ∷ t) (suc i) h = ap (λ (l : List A). v ∷ l) (filled_next v t i (le_of_suc-le-suc h))
