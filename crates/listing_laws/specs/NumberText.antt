-- Numbers: what is read of a number's decimal text is the number, and only its decimal text is read so. Assumes nothing.
use Rattle.std.specs.Prelude.{ℕ, zero, suc, ◌+◌, ◌*◌, ◌-◌, ◌/◌, ◌%◌, ◌≤◌, ◌<◌, ◌≡◌, refl, Bool, true, false, not, List, [], ◌∷◌, ◌++◌, map, eqb, leb, ltb, length}
use Rattle.std.proofs.Common.{sym, ap, ◌∙◌, subst, append_assoc, append-nil, arith, ne_eqb, leb-true, le-leb, lt-ltb, le-ltb, ltb-true, ltb-false}
use Rattle.std.proofs.lemmas.Bool.{eqb-false, not-true}
use Rattle.listings.specs.Bytes.{pick, decimal_in, decimal}
use Rattle.listings.specs.Tests.{not_both, both_true}
use Rattle.listings.specs.Rows.{all, is_word, are_words, Parse, malformed, invalid, parsed, map_parse, with_parse, is_digit, value, no_leading_zero, parse_number, parse_numbers}
use Rattle.listings.specs.ListingText.{NumbersOk}

-- ---- tests

pub all-append-true : (p : ℕ → Bool) (k l : List ℕ) → all p k ≡ true → all p l ≡ true → all p (k ++ l) ≡ true
unfolding all
all-append-true p [] l g h = h
all-append-true p (a ∷ k) l g h = let q = both_true (p a) (all p k) g in rw q.0 (all-append-true p k l q.1 h)

pub all_weaken : (p q : ℕ → Bool) → ((c : ℕ) → p c ≡ true → q c ≡ true) → (l : List ℕ) → all p l ≡ true → all q l ≡ true
unfolding all
all_weaken p q f [] h = refl
all_weaken p q f (a ∷ l) h = let r = both_true (p a) (all p l) h in rw (f a r.0) (all_weaken p q f l r.1)

-- ---- digits

pub digit_range : (b : ℕ) → is_digit b ≡ true → (48 ≤ b) × (b ≤ 57)
unfolding is_digit
digit_range b h = let p = both_true (leb 48 b) (leb b 57) h in (leb-true 48 b p.0, leb-true b 57 p.1)

pub digit_is : (b : ℕ) → b < 10 → is_digit (48 + b) ≡ true
unfolding is_digit
digit_is b h = rw (le-leb 48 (48 + b) (omega arith), le-leb (48 + b) 57 (omega arith))

pub decimal-digits : (k n : ℕ) → all is_digit (decimal_in k n) ≡ true
unfolding decimal_in all
decimal-digits zero n = refl
decimal-digits (suc k) n = go (ltb n 10) refl (decimal-digits k (n / 10))
  where
    go : (t : Bool) → ltb n 10 ≡ t → all is_digit (decimal_in k (n / 10)) ≡ true
        → all is_digit (pick t ((48 + n) ∷ []) (decimal_in k (n / 10) ++ ((48 + n % 10) ∷ []))) ≡ true
    go true e h = rw (digit_is n (ltb-true n 10 e))
    go false e h = all-append-true is_digit (decimal_in k (n / 10)) ((48 + n % 10) ∷ []) h (rw (digit_is (n % 10) (omega arith)))

-- ---- the value

value-append : (a : ℕ) (l : List ℕ) (d : ℕ) → value a (l ++ (d ∷ [])) ≡ value a l * 10 + (d - 48)
unfolding value
value-append a [] d = refl
value-append a (b ∷ l) d = value-append (a * 10 + (b - 48)) l d

decimal-value : (k n : ℕ) → n < k → value 0 (decimal_in k n) ≡ n
unfolding decimal_in value
decimal-value zero n h = absurd (omega arith)
decimal-value (suc k) n h = go (ltb n 10) refl (λ g. decimal-value k (n / 10) g)
  where
    go : (t : Bool) → ltb n 10 ≡ t → (n / 10 < k → value 0 (decimal_in k (n / 10)) ≡ n / 10)
        → value 0 (pick t ((48 + n) ∷ []) (decimal_in k (n / 10) ++ ((48 + n % 10) ∷ []))) ≡ n
    go true e f = omega arith
    go false e f =
        let g = ltb-false n 10 e in
        omega (arith, value-append 0 (decimal_in k (n / 10)) (48 + n % 10), f (omega arith))

-- ---- no leading zero

-- the first digit is there, and no 0
leads : List ℕ → Bool
leads [] = false
leads (d ∷ ds) = not (eqb d 48)

leads-append : (k l : List ℕ) → leads k ≡ true → leads (k ++ l) ≡ true
unfolding leads
leads-append [] l h = absurd (not_both (sym h))
leads-append (d ∷ k) l h = h

leads_lean : (l : List ℕ) → leads l ≡ true → no_leading_zero l ≡ true
unfolding leads no_leading_zero
leads_lean [] h = refl
leads_lean (d ∷ []) h = refl
leads_lean (d ∷ e ∷ ds) h = h

decimal-leads : (k n : ℕ) → n < k → 0 < n → leads (decimal_in k n) ≡ true
unfolding decimal_in leads
decimal-leads zero n h p = absurd (omega arith)
decimal-leads (suc k) n h p = go (ltb n 10) refl (λ g q. decimal-leads k (n / 10) g q)
  where
    go : (t : Bool) → ltb n 10 ≡ t → (n / 10 < k → 0 < n / 10 → leads (decimal_in k (n / 10)) ≡ true)
        → leads (pick t ((48 + n) ∷ []) (decimal_in k (n / 10) ++ ((48 + n % 10) ∷ []))) ≡ true
    go true e f = rw (ne_eqb (48 + n) 48 (λ q. omega arith))
    go false e f =
        let g = ltb-false n 10 e in
        leads-append (decimal_in k (n / 10)) ((48 + n % 10) ∷ []) (f (omega arith) (omega arith))

decimal_lean : (k n : ℕ) → n < k → no_leading_zero (decimal_in k n) ≡ true
unfolding decimal_in no_leading_zero
decimal_lean zero n h = absurd (omega arith)
decimal_lean (suc k) zero h = refl
decimal_lean (suc k) (suc n) h = leads_lean (decimal_in (suc k) (suc n)) (decimal-leads (suc k) (suc n) h (omega arith))

-- ---- fuel

-- enough is enough
decimal-fuel : (k j n : ℕ) → n < k → n < j → decimal_in k n ≡ decimal_in j n
unfolding decimal_in
decimal-fuel zero j n h g = absurd (omega arith)
decimal-fuel (suc k) zero n h g = absurd (omega arith)
decimal-fuel (suc k) (suc j) n h g = go (ltb n 10) refl (λ p q. decimal-fuel k j (n / 10) p q)
  where
    go : (t : Bool) → ltb n 10 ≡ t → (n / 10 < k → n / 10 < j → decimal_in k (n / 10) ≡ decimal_in j (n / 10))
        → pick t ((48 + n) ∷ []) (decimal_in k (n / 10) ++ ((48 + n % 10) ∷ [])) ≡ pick t ((48 + n) ∷ []) (decimal_in j (n / 10) ++ ((48 + n % 10) ∷ []))
    go true e f = refl
    go false e f = let p = ltb-false n 10 e in rw (f (omega arith) (omega arith))

pub decimal_small : (n : ℕ) → n < 10 → decimal n ≡ (48 + n) ∷ []
unfolding decimal decimal_in
decimal_small n h = rw (lt-ltb n 10 h)

-- one more digit
pub decimal_more : (a d : ℕ) → 0 < a → d < 10 → decimal (a * 10 + d) ≡ decimal a ++ ((48 + d) ∷ [])
unfolding decimal
decimal_more a d h g =
    let q : (a * 10 + d) / 10 ≡ a = omega arith in
    let r : (a * 10 + d) % 10 ≡ d = omega arith in
    longer (a * 10 + d) (omega arith) ∙ rw (q, r, decimal-fuel (a * 10 + d) (suc a) a (omega arith) (omega arith))
  where
    longer : (n : ℕ) → 10 ≤ n → decimal_in (suc n) n ≡ decimal_in n (n / 10) ++ ((48 + n % 10) ∷ [])
    longer n h = unfold decimal_in in rw (le-ltb n 10 h)

-- more digits after a number that is not 0
decimal-append : (a : ℕ) (l : List ℕ) → 0 < a → all is_digit l ≡ true → decimal (value a l) ≡ decimal a ++ l
unfolding value all
decimal-append a [] h g = sym (append-nil (decimal a))
decimal-append a (d ∷ l) h g =
    let p = both_true (is_digit d) (all is_digit l) g in
    let r = digit_range d p.0 in
    let e : 48 + (d - 48) ≡ d = omega arith in
    decimal-append (a * 10 + (d - 48)) l (omega arith) p.1
    ∙ ap (λ (z : List ℕ). z ++ l) (decimal_more a (d - 48) h (omega arith))
    ∙ append_assoc (decimal a) ((48 + (d - 48)) ∷ []) l
    ∙ ap (λ (z : ℕ). decimal a ++ (z ∷ l)) e

decimal_of_value : (w : List ℕ) → is_word w ≡ true → all is_digit w ≡ true → no_leading_zero w ≡ true → w ≡ decimal (value 0 w)
unfolding is_word value all no_leading_zero
decimal_of_value [] h g z = absurd (not_both (sym h))
decimal_of_value (d ∷ []) h g z =
    let r = digit_range d (both_true (is_digit d) true g).0 in
    let v : 0 * 10 + (d - 48) ≡ d - 48 = omega arith in
    let e : 48 + (d - 48) ≡ d = omega arith in
    sym (ap decimal v ∙ decimal_small (d - 48) (omega arith) ∙ ap (λ (n : ℕ). n ∷ []) e)
decimal_of_value (d ∷ b ∷ l) h g z =
    let p = both_true (is_digit d) (all is_digit (b ∷ l)) g in
    let r = digit_range d p.0 in
    let n = eqb-false d 48 (not-true (eqb d 48) z) in
    let v : 0 * 10 + (d - 48) ≡ d - 48 = omega arith in
    let e : 48 + (d - 48) ≡ d = omega arith in
    sym (ap (λ (a : ℕ). decimal (value a (b ∷ l))) v ∙ decimal-append (d - 48) (b ∷ l) (omega arith) p.1
    ∙ ap (λ (z : List ℕ). z ++ (b ∷ l)) (decimal_small (d - 48) (omega arith)) ∙ ap (λ (n : ℕ). n ∷ b ∷ l) e)

-- ---- what was read, if a value was

unfoldable pub IfParsed : {A : Type 0} → (A → Type 0) → Parse A → Type 0
IfParsed P malformed = Unit {0}
IfParsed P invalid = Unit {0}
IfParsed P (parsed a) = P a

pub of_parsed : {A : Type 0} (P : A → Type 0) (a : A) {g : Parse A} → IfParsed P g → g ≡ parsed a → P a
unfolding IfParsed
of_parsed P a h e = subst (IfParsed P) e h

pub if-same : {A : Type 0} (P Q : A → Type 0) → ((a : A) → P a → Q a) → (g : Parse A) → IfParsed P g → IfParsed Q g
unfolding IfParsed
if-same P Q h malformed p = tt
if-same P Q h invalid p = tt
if-same P Q h (parsed a) p = h a p

pub if-map : {A B : Type 0} (P : A → Type 0) (Q : B → Type 0) (f : A → B) → ((a : A) → P a → Q (f a)) → (g : Parse A) → IfParsed P g → IfParsed Q (map_parse f g)
unfolding IfParsed map_parse
if-map P Q f h malformed p = tt
if-map P Q f h invalid p = tt
if-map P Q f h (parsed a) p = h a p

pub if_with : {A B C : Type 0} (P : A → Type 0) (Q : B → Type 0) (R : C → Type 0) (f : A → B → C) → ((a : A) (b : B) → P a → Q b → R (f a b))
    → (g : Parse A) (d : Parse B) → IfParsed P g → IfParsed Q d → IfParsed R (with_parse f g d)
unfolding IfParsed with_parse
if_with P Q R f h malformed d p q = tt
if_with P Q R f h invalid malformed p q = tt
if_with P Q R f h invalid invalid p q = tt
if_with P Q R f h invalid (parsed b) p q = tt
if_with P Q R f h (parsed a) malformed p q = tt
if_with P Q R f h (parsed a) invalid p q = tt
if_with P Q R f h (parsed a) (parsed b) p q = h a b p q

-- ---- a number

pub number_text : (n : ℕ) → n ≤ 65535 → parse_number (decimal n) ≡ parsed n
unfolding parse_number decimal
number_text n h =
    rw (decimal-digits (suc n) n, decimal_lean (suc n) n (omega arith), decimal-value (suc n) n (omega arith), le-leb n 65535 h)

pub number_of_text : (w : List ℕ) → is_word w ≡ true → IfParsed (λ n. (w ≡ decimal n) × (n ≤ 65535)) (parse_number w)
unfolding parse_number IfParsed
number_of_text w h = go (all is_digit w) (no_leading_zero w) (leb (value 0 w) 65535) refl refl refl
  where
    go : (x y z : Bool) → all is_digit w ≡ x → no_leading_zero w ≡ y → leb (value 0 w) 65535 ≡ z
        → IfParsed (λ n. (w ≡ decimal n) × (n ≤ 65535)) (pick x (pick y (pick z (parsed (value 0 w)) invalid) invalid) malformed)
    go false y z p q r = tt
    go true false z p q r = tt
    go true true false p q r = tt
    go true true true p q r = (decimal_of_value w h p q, leb-true (value 0 w) 65535 r)

pub text_number : (w : List ℕ) (n : ℕ) → is_word w ≡ true → parse_number w ≡ parsed n → (w ≡ decimal n) × (n ≤ 65535)
text_number w n h e = of_parsed (λ n. (w ≡ decimal n) × (n ≤ 65535)) n (number_of_text w h) e

-- ---- numbers

pub numbers_text : (ns : List ℕ) → NumbersOk ns → parse_numbers (map decimal ns) ≡ parsed ns
unfolding parse_numbers NumbersOk with_parse
numbers_text [] h = refl
numbers_text (n ∷ ns) h = rw (number_text n h.0, numbers_text ns h.1)

-- the words are the numbers' texts, as many
abbrev pub AreNumbers : List (List ℕ) → List ℕ → Type 0
AreNumbers ws ns = (ws ≡ map decimal ns) × NumbersOk ns × (length ws ≡ length ns)

pub numbers_of_text : (ws : List (List ℕ)) → are_words ws ≡ true → IfParsed (AreNumbers ws) (parse_numbers ws)
unfolding parse_numbers NumbersOk IfParsed are_words
numbers_of_text [] h = (refl, tt, refl)
numbers_of_text (w ∷ ws) h =
    let p = both_true (is_word w) (are_words ws) h in
    if_with (λ n. (w ≡ decimal n) × (n ≤ 65535)) (AreNumbers ws) (AreNumbers (w ∷ ws)) (λ n ns. n ∷ ns) (λ n ns a b. (cc, (a.1, b.1), ap suc b.2))
    (parse_number w) (parse_numbers ws) (number_of_text w p.0) (numbers_of_text ws p.1)

pub text_numbers : (ws : List (List ℕ)) (ns : List ℕ) → are_words ws ≡ true → parse_numbers ws ≡ parsed ns → (ws ≡ map decimal ns) × NumbersOk ns × (length ws ≡ length ns)
text_numbers ws ns h e = of_parsed (AreNumbers ws) ns (numbers_of_text ws h) e
