-- Names, their keys, and that a key is that of one name. Assumes nothing.
use Rattle.std.specs.Prelude.{ℕ, zero, suc, ◌+◌, ◌*◌, ◌-◌, ◌≤◌, ◌<◌, ◌≡◌, refl, List, [], ◌∷◌, Bool, true, false, not, ◌&&◌, ◌||◌, eqb, leb, ltb, length, get_or, drop, Result, Ok, Err}
use Rattle.std.proofs.Common.{sym, ap, ⊎_elim, arith, add-one, not-suc-le-zero, le_of_suc-le-suc, suc-add, length-drop, drop-cons, eqb-true, leb-true, le-leb, lt-ltb, le-ltb}
use Rattle.std.proofs.lemmas.Bool.{eqb-false}
use Rattle.listings.specs.Bytes.{same, pick}
use Rattle.listings.specs.Listing.{Name}
use Rattle.listings.specs.Rows.{Parse, malformed, invalid, parsed, all, is_digit, is_capital, name_end, is_name, parse_name}
use Rattle.listings.specs.Tests.{not_both, both_true, either_true}
use Rattle.listing_laws.specs.NumberText.{digit_range}
use Rattle.listings.specs.Scan.{all-at}
use Rattle.listing_laws.specs.WordText.{capital_range, same-nil}
use Rattle.listings.specs.Records.{name_key}
use Rattle.listings.specs.Cut.{cut_to, cut_name}
use Rattle.listing_laws.specs.CutLaws.{name-length}
use Rattle.layout.specs.declared.refusals.Reason.{Reason}
use Rattle.layout.specs.declared.refusals.Reason.TheVariants as reason

-- the code's answer for what was read: the key of the name, cut to two characters, or why there is none
abbrev pub as_key : Parse Name → Result ℕ Reason
as_key malformed = Err reason.NotAForm
as_key invalid = Err reason.BadWord
as_key (parsed w) = Ok (name_key (cut_name w))

pub name_invalid : (w : List ℕ) → is_name w ≡ false → parse_name w ≡ invalid
unfolding parse_name
name_invalid w h = rw h

-- ---- a name from a position on

abbrev pub is_suffix : ℕ → List ℕ → Bool
is_suffix b l = (eqb b 37 || eqb b 36) && same l []

pub name_full : (w : List ℕ) (i k : ℕ) → i < length w → k ≡ 0 → name_end k (drop i w) ≡ is_suffix (get_or w i 0) (drop (suc i) w)
unfolding name_end
name_full w i k h e = rw (e, drop-cons w i 0 h)

name_next : (w : List ℕ) (i k m : ℕ) → i < length w → k ≡ suc m → (is_capital (get_or w i 0) || is_digit (get_or w i 0)) ≡ true → name_end k (drop i w) ≡ name_end m (drop (suc i) w)
unfolding name_end
name_next w i k m h e t = rw (e, drop-cons w i 0 h, t)

pub name_on : (w : List ℕ) (i : ℕ) → i < length w → i < 7 → (is_capital (get_or w i 0) || is_digit (get_or w i 0)) ≡ true → name_end (7 - (i + 1)) (drop (i + 1) w) ≡ name_end (7 - i) (drop i w)
name_on w i h k t = rw add-one (sym (name_next w i (7 - i) (7 - suc i) h (omega arith) t))

pub name_stop : (w : List ℕ) (i k m : ℕ) → i < length w → k ≡ suc m → (is_capital (get_or w i 0) || is_digit (get_or w i 0)) ≡ false → name_end k (drop i w) ≡ is_suffix (get_or w i 0) (drop (suc i) w)
unfolding name_end
name_stop w i k m h e t = rw (e, drop-cons w i 0 h, t)

pub name-first : (w : List ℕ) → 0 < length w → is_name w ≡ (is_capital (get_or w 0 0) && name_end 7 (drop 1 w))
unfolding is_name
name-first [] h = absurd (not-suc-le-zero h)
name-first (b ∷ l) h = refl

pub name-none : (w : List ℕ) → length w ≡ 0 → is_name w ≡ false
unfolding is_name
name-none [] h = refl
name-none (b ∷ l) h = absurd (omega arith)

pub name_end_lem : (k : ℕ) (w : List ℕ) (i : ℕ) → length w ≤ i → name_end k (drop i w) ≡ true
unfolding name_end
name_end_lem k [] zero h = refl
name_end_lem k [] (suc i) h = refl
name_end_lem k (b ∷ w) zero h = absurd (omega arith)
name_end_lem k (b ∷ w) (suc i) h = name_end_lem k w i (le_of_suc-le-suc h)

-- nothing follows i
pub end_test : (w : List ℕ) (i : ℕ) → i < length w → eqb (i + 1) (length w) ≡ eqb (length (drop (suc i) w)) 0
end_test w i h = go (eqb (i + 1) (length w)) (eqb (length (drop (suc i) w)) 0) refl refl
  where
    go : (t u : Bool) → eqb (i + 1) (length w) ≡ t → eqb (length (drop (suc i) w)) 0 ≡ u → t ≡ u
    go true true d e = refl
    go false false d e = refl
    go true false d e = absurd (eqb-false (length (drop (suc i) w)) 0 e (omega (arith, eqb-true (i + 1) (length w) d, length-drop (suc i) w)))
    go false true d e = absurd (eqb-false (i + 1) (length w) d (omega (arith, eqb-true (length (drop (suc i) w)) 0 e, length-drop (suc i) w)))

-- ---- the bytes of a name, and how many

-- a byte that a digit of the key stands for, 1 to 63
unfoldable pub in_key : ℕ → Bool
in_key b = leb 33 b && leb b 95

in_key_lem : (b : ℕ) → 33 ≤ b → b ≤ 95 → in_key b ≡ true
unfolding in_key
in_key_lem b h k = rw (le-leb 33 b h, le-leb b 95 k)

key_range : (b : ℕ) → in_key b ≡ true → (33 ≤ b) × (b ≤ 95)
unfolding in_key
key_range b h = let p = both_true (leb 33 b) (leb b 95) h in (leb-true 33 b p.0, leb-true b 95 p.1)

-- a name's end of at most k letters and a suffix
record Ending (k : ℕ) (l : List ℕ) : Type 0 where
  short : length l ≤ suc k
  bytes : all in_key l ≡ true

suffix_ends : (k b : ℕ) (l : List ℕ) → is_suffix b l ≡ true → Ending k (b ∷ l)
unfolding all
suffix_ends k b l h =
    let p = both_true (eqb b 37 || eqb b 36) (same l []) h in
    let e : l ≡ [] = same-nil l p.1 in
    let g : in_key b ≡ true =
    ⊎_elim (λ x. in_key_lem b (omega (arith, eqb-true b 37 x)) (omega (arith, eqb-true b 37 x))) (λ x. in_key_lem b (omega (arith, eqb-true b 36 x)) (omega (arith, eqb-true b 36 x)))
    (either_true (eqb b 37) (eqb b 36) p.0) in
    record { short = omega (arith, ap length e); bytes = rw (e, g) }

ending : (k : ℕ) (l : List ℕ) → name_end k l ≡ true → Ending k l
unfolding name_end all
ending k [] h = record { short = omega arith; bytes = refl }
ending zero (b ∷ l) h = suffix_ends zero b l h
ending (suc k) (b ∷ l) h = go (is_capital b || is_digit b) refl (λ x. ending k l x) h
  where
    go : (t : Bool) → (is_capital b || is_digit b) ≡ t → (name_end k l ≡ true → Ending k l) → pick t (name_end k l) (is_suffix b l) ≡ true → Ending (suc k) (b ∷ l)
    go false e f h = suffix_ends (suc k) b l h
    go true e f h =
        let r = f h in
        let g : in_key b ≡ true =
        ⊎_elim (λ x. let q = capital_range b x in in_key_lem b (omega arith) (omega arith)) (λ x. let q = digit_range b x in in_key_lem b (omega arith) (omega arith))
        (either_true (is_capital b) (is_digit b) e) in
        record { short = omega (arith, r.short); bytes = rw g r.bytes }

name-short : (w : List ℕ) → is_name w ≡ true → length w ≤ 9
unfolding is_name
name-short [] h = omega arith
name-short (b ∷ l) h = omega (arith, (ending 7 l (both_true (is_capital b) (name_end 7 l) h).1).short)

name-bytes : (w : List ℕ) → is_name w ≡ true → all in_key w ≡ true
unfolding is_name all
name-bytes [] h = refl
name-bytes (b ∷ l) h =
    let p = both_true (is_capital b) (name_end 7 l) h in
    let q = capital_range b p.0 in
    rw (in_key_lem b (omega arith) (omega arith)) (ending 7 l p.1).bytes

pub name_byte : (w : List ℕ) (i : ℕ) → is_name w ≡ true → i < length w → (33 ≤ get_or w i 0) × (get_or w i 0 ≤ 95)
name_byte w i h lt = key_range (get_or w i 0) (all-at in_key w i (name-bytes w h) lt)

-- ---- the key is bounded

-- 64 to the power n
power : ℕ → ℕ
power zero = 1
power (suc n) = 64 * power n

key_below : (l : List ℕ) → all in_key l ≡ true → name_key l < power (length l)
unfolding name_key power all
key_below [] h = omega arith
key_below (b ∷ l) h =
    let p = both_true (in_key b) (all in_key l) h in
    let q = key_range b p.0 in
    omega (arith, key_below l p.1)

power_le : (n m : ℕ) → n ≤ m → power n ≤ power m
unfolding power
power_le n m h = let e : (m - n) + n ≡ m = omega arith in omega (arith, ap power e, up (m - n))
  where
    up : (d : ℕ) → power n ≤ power (d + n)
    up zero = let e : 0 + n ≡ n = omega arith in omega (arith, ap power e)
    up (suc d) = omega (arith, up d, ap power (suc-add d n))

tail_bytes : (l : List ℕ) (i : ℕ) → all in_key l ≡ true → all in_key (drop i l) ≡ true
unfolding all
tail_bytes [] zero h = h
tail_bytes [] (suc i) h = refl
tail_bytes (b ∷ l) zero h = h
tail_bytes (b ∷ l) (suc i) h = tail_bytes l i (both_true (in_key b) (all in_key l) h).1

cut_bytes : (k : ℕ) (l : List ℕ) → all in_key l ≡ true → all in_key (cut_to k l) ≡ true
unfolding all cut_to
cut_bytes zero [] h = refl
cut_bytes (suc k) [] h = refl
cut_bytes (suc k) (b ∷ l) h = let p = both_true (in_key b) (all in_key l) h in rw (p.0, cut_bytes k l p.1)
cut_bytes zero (b ∷ l) h = let p = both_true (in_key b) (all in_key l) h in go (is_capital b || is_digit b) p.0 (cut_bytes 0 l p.1)
  where
    go : (x : Bool) → in_key b ≡ true → all in_key (cut_to 0 l) ≡ true → all in_key (pick x (cut_to 0 l) (b ∷ cut_to 0 l)) ≡ true
    go true f g = g
    go false f g = rw (f, g)

-- ---- the cut name's key, from a position on

-- what the cut keeps of the bytes from i on
unfoldable pub cut_from : List ℕ → ℕ → List ℕ
cut_from w i = cut_to (2 - i) (drop i w)

-- whether the cut keeps byte b, which stands at i
unfoldable pub kept : ℕ → ℕ → Bool
kept i b = ltb i 2 || not (is_capital b || is_digit b)

pub kept-first : (i b : ℕ) → i < 2 → true ≡ kept i b
unfolding kept
kept-first i b h = rw (lt-ltb i 2 h)

pub kept-behind : (i b : ℕ) → 2 ≤ i → not (is_capital b || is_digit b) ≡ kept i b
unfolding kept
kept-behind i b h = rw (le-ltb i 2 h)

-- of what follows a position that is not the first: below 2^48
pub rest_below : (w : List ℕ) (i : ℕ) → is_name w ≡ true → 0 < i → name_key (cut_from w i) < 281474976710656
unfolding power cut_from
rest_below w i h p =
    let l = cut_to (2 - i) (drop i w) in
    let c : power (length l) ≤ power 8 = power_le (length l) 8 (omega (arith, name-length (2 - i) (drop i w), name-short w h, length-drop i w)) in
    omega (arith, key_below l (cut_bytes (2 - i) (drop i w) (tail_bytes w i (name-bytes w h))))

pub key_next : (w : List ℕ) (i : ℕ) → i < length w
    → name_key (cut_from w i) ≡ pick (kept i (get_or w i 0)) ((get_or w i 0 - 32) + 64 * name_key (cut_from w (suc i))) (name_key (cut_from w (suc i)))
unfolding name_key cut_from cut_to kept
key_next w zero h = rw (drop-cons w 0 0 h)
key_next w (suc zero) h = rw (drop-cons w 1 0 h)
key_next w (suc (suc i)) h =
    let a : 2 - suc (suc i) ≡ 0 = omega arith in
    let b : 2 - suc (suc (suc i)) ≡ 0 = omega arith in
    rw (a, b, drop-cons w (suc (suc i)) 0 h, le-ltb (suc (suc i)) 2 (omega arith)) (go (is_capital (get_or w (suc (suc i)) 0) || is_digit (get_or w (suc (suc i)) 0)))
  where
    c : ℕ
    c = get_or w (suc (suc i)) 0

    l : List ℕ
    l = cut_to 0 (drop (suc (suc (suc i))) w)

    go : (x : Bool) → name_key (pick x l (c ∷ l)) ≡ pick (not x) ((c - 32) + 64 * name_key l) (name_key l)
    go true = refl
    go false = refl

-- from the first byte on it is the cut name
pub key_whole : (w : List ℕ) → cut_from w 0 ≡ cut_name w
unfolding cut_from cut_name
key_whole w = refl

-- ---- the key is that of one name, and never 0

keys_injective : (v w : List ℕ) → all in_key v ≡ true → all in_key w ≡ true → name_key v ≡ name_key w → v ≡ w
unfolding name_key all
keys_injective [] [] g h e = refl
keys_injective [] (b ∷ w) g h e = absurd (omega (arith, key_range b (both_true (in_key b) (all in_key w) h).0))
keys_injective (a ∷ v) [] g h e = absurd (omega (arith, key_range a (both_true (in_key a) (all in_key v) g).0))
keys_injective (a ∷ v) (b ∷ w) g h e =
    let p = both_true (in_key a) (all in_key v) g in
    let q = both_true (in_key b) (all in_key w) h in
    let x = key_range a p.0 in
    let y = key_range b q.0 in
    let n : a ≡ b = omega arith in
    let m : v ≡ w = keys_injective v w p.1 q.1 (omega arith) in
    cc

-- no two names have the same key
pub key_injective : (v w : List ℕ) → is_name v ≡ true → is_name w ≡ true → name_key v ≡ name_key w → v ≡ w
key_injective v w g h e = keys_injective v w (name-bytes v g) (name-bytes w h) e

pub key_not-zero : (w : List ℕ) → is_name w ≡ true → 0 < name_key w
unfolding is_name name_key
key_not-zero [] h = absurd (not_both (sym h))
key_not-zero (b ∷ l) h = omega (arith, capital_range b (both_true (is_capital b) (name_end 7 l) h).0)
