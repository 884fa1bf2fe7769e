-- The bytes of a name, found back from its key. Assumes nothing.
use Rattle.std.specs.Prelude.{ℕ, zero, suc, ◌+◌, ◌*◌, ◌-◌, ◌/◌, ◌%◌, ◌≤◌, ◌<◌, ◌≡◌, refl, List, [], ◌∷◌, Bool, true, false, ◌&&◌, ◌||◌, eqb, length, get_or}
use Rattle.std.proofs.Common.{ap, arith, ne_eqb}
use Rattle.listings.specs.Bytes.{same, pick}
use Rattle.listings.specs.Listing.{Name}
use Rattle.listings.specs.Rows.{is_digit, is_capital, name_end, is_name}
use Rattle.listings.specs.Records.{name_key}
use Rattle.listings.specs.Tests.{both_true}
use Rattle.listings.specs.Every.{All, all[], all∷}
use Rattle.listings.specs.Cut.{cut_to, cut_name}
use Rattle.listing_laws.specs.WordText.{same-nil}
use Rattle.tokens.specs.Names.{name_byte}

-- the bytes of a key, the first of them lowest: n at most
unfoldable pub key_bytes : ℕ → ℕ → List ℕ
key_bytes zero k = []
key_bytes (suc n) k = pick (eqb k 0) [] ((32 + k % 64) ∷ key_bytes n (k / 64))

-- ---- one byte more

pub key_none : (n k : ℕ) → n ≡ 0 → key_bytes n k ≡ []
unfolding key_bytes
key_none zero k h = refl
key_none (suc n) k h = absurd (omega arith)

pub key_zero : (n k : ℕ) → k ≡ 0 → key_bytes n k ≡ []
unfolding key_bytes
key_zero zero k h = refl
key_zero (suc n) k h = rw h

pub key_more : (n k : ℕ) → 0 < n → 0 < k → key_bytes n k ≡ (32 + k % 64) ∷ key_bytes (n - 1) (k / 64)
unfolding key_bytes
key_more zero k h g = absurd (omega arith)
key_more (suc n) k h g = let e : suc n - 1 ≡ n = omega arith in rw (ne_eqb k 0 (λ z. absurd (omega arith)), e)

-- ---- the key of bytes that a digit can stand for

abbrev pub KeyByte : ℕ → Type 0
KeyByte b = (33 ≤ b) × (b ≤ 95)

pub key_bytes_lem : (n : ℕ) {v : Name} → All KeyByte v → length v ≤ n → key_bytes n (name_key v) ≡ v
unfolding key_bytes name_key
key_bytes_lem zero all[] h = refl
key_bytes_lem zero (all∷ b bs) h = absurd (omega arith)
key_bytes_lem (suc n) all[] h = refl
key_bytes_lem (suc n) (all∷ {a = b} {l = v} p ps) h =
    let k = (b - 32) + 64 * name_key v in
    let d : 32 + k % 64 ≡ b = omega arith in
    let q : k / 64 ≡ name_key v = omega arith in
    rw (ne_eqb k 0 (λ z. absurd (omega arith)), d, q, key_bytes_lem n ps (omega arith))

-- ---- a name that is cut

every_byte : (P : ℕ → Type 0) (v : List ℕ) → ((i : ℕ) → i < length v → P (get_or v i 0)) → All P v
every_byte P [] f = all[]
every_byte P (b ∷ v) f = all∷ (f 0 (omega arith)) (every_byte P v (λ i h. f (suc i) (omega arith)))

kind-short : (b : ℕ) (l : List ℕ) → ((eqb b 37 || eqb b 36) && same l []) ≡ true → (x : Bool) → length (pick x (cut_to 0 l) (b ∷ cut_to 0 l)) ≤ 1
unfolding cut_to
kind-short b l h x = go x (ap (λ (k : List ℕ). length (cut_to 0 k)) (same-nil l (both_true (eqb b 37 || eqb b 36) (same l []) h).1))
  where
    go : (x : Bool) → length (cut_to 0 l) ≡ 0 → length (pick x (cut_to 0 l) (b ∷ cut_to 0 l)) ≤ 1
    go true e = omega arith
    go false e = omega arith

cut_short : (k : ℕ) (l : List ℕ) → name_end k l ≡ true → length (cut_to 0 l) ≤ 1
unfolding name_end cut_to
cut_short k [] h = omega arith
cut_short zero (b ∷ l) h = kind-short b l h (is_capital b || is_digit b)
cut_short (suc k) (b ∷ l) h = go (is_capital b || is_digit b) h (cut_short k l)
  where
    go : (x : Bool) → pick x (name_end k l) ((eqb b 37 || eqb b 36) && same l []) ≡ true → (name_end k l ≡ true → length (cut_to 0 l) ≤ 1)
        → length (pick x (cut_to 0 l) (b ∷ cut_to 0 l)) ≤ 1
    go true q f = f q
    go false q f = kind-short b l q false

second_short : (l : List ℕ) → name_end 7 l ≡ true → length (cut_to 1 l) ≤ 2
unfolding name_end cut_to
second_short [] h = omega arith
second_short (b ∷ l) h = go (is_capital b || is_digit b) h
  where
    go : (x : Bool) → pick x (name_end 6 l) ((eqb b 37 || eqb b 36) && same l []) ≡ true → suc (length (cut_to 0 l)) ≤ 2
    go true q = omega (arith, cut_short 6 l q)
    go false q = omega (arith, kind-short b l q true)

-- "cuts a name to two characters and keeps its `%` or `$`": three bytes at most
pub cut_length : (v : Name) → is_name v ≡ true → length (cut_name v) ≤ 3
unfolding is_name cut_name cut_to
cut_length [] h = omega arith
cut_length (b ∷ l) h = omega (arith, second_short l (both_true (is_capital b) (name_end 7 l) h).1)

-- a name of three bytes at most
abbrev pub NamePrints : Name → Type 0
NamePrints v = (is_name v ≡ true) × (length v ≤ 3)

pub name_prints : (v : Name) → is_name v ≡ true → cut_name v ≡ v → NamePrints v
name_prints v h e = (h, omega (arith, cut_length v h, ap length e))

-- the bytes of the key of a cut name are that name
pub name_text : (v : Name) → NamePrints v → key_bytes 3 (name_key v) ≡ v
name_text v h = key_bytes_lem 3 (every_byte KeyByte v (λ i g. name_byte v i h.0 g)) h.1
