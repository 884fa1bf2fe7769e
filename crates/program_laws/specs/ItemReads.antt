-- A number's digits, a name, and such with commas between, as they are read of a line that a writer wrote. Assumes nothing.
use Rattle.std.specs.Prelude.{ℕ, zero, suc, ◌+◌, ◌*◌, ◌-◌, ◌/◌, ◌%◌, ◌≤◌, ◌<◌, ◌≡◌, refl, List, [], ◌∷◌, ◌++◌, map, Bool, true, false, ◌&&◌, eqb, ltb, leb, length}
use Rattle.std.proofs.Common.{sym, ap, ◌∙◌, inl, inr, append_assoc, append-nil, arith, le-leb, eqb-true}
use Rattle.listings.specs.Bytes.{pick, same, decimal_in, decimal}
use Rattle.listings.specs.Listing.{Name}
use Rattle.listings.specs.Rows.{all, is_digit, is_capital, value, no_leading_zero, malformed, invalid, parsed, parse_number, name_end, is_name}
use Rattle.listings.specs.Tests.{not_both, both_true, either_true}
use Rattle.listings.specs.Every.{All, all∷}
use Rattle.listings.specs.Cut.{cut_name}
use Rattle.listing_laws.specs.NumberText.{decimal-digits, number_text}
use Rattle.listing_laws.specs.WordText.{same-nil}
use Rattle.program_files.specs.Program.{Placed, Found, found, map_found, digits, line_number, characters, with_kind, name, after_comma, several}
use Rattle.program_laws.specs.V2.{NumberV2, NameV2}
use Rattle.program_laws.specs.NameKinds.{is_character, is_kind, Kind, no_kind, kind}
use Rattle.program_laws.specs.Saved.{commas}
use Rattle.program_laws.specs.PlacedBytes.{placed, first_byte}

-- what stands behind a number or name: a comma, a colon, the line's zero, or FOR's equals sign
pub data Stop : List ℕ → Type 0 where
  comma : {l : List ℕ} → Stop (44 ∷ l)
  colon : {l : List ℕ} → Stop (58 ∷ l)
  equals : {l : List ℕ} → Stop (178 ∷ l)
  zero_byte : Stop []

-- the reader f finds a in the bytes before r
abbrev pub Reads : {A : Type 0} → (List Placed → Found A) → List ℕ → A → List ℕ → Type 0
Reads f l a r = (p : ℕ) → (q : ℕ) × (f (placed p (l ++ r)) ≡ found a (placed q r))

-- ---- numbers

stop_digit : {l : List ℕ} → Stop l → is_digit (first_byte l) ≡ false
unfolding is_digit first_byte
stop_digit comma = refl
stop_digit colon = refl
stop_digit equals = refl
stop_digit zero_byte = refl

-- no digit, no more digits
digits_end : (a p : ℕ) (r : List ℕ) → is_digit (first_byte r) ≡ false → digits a (placed p r) ≡ (a, placed p r)
unfolding digits placed first_byte is_digit
digits_end a p [] h = refl
digits_end a p (b ∷ r) h = rw h

digits_next : (a d : ℕ) (p : ℕ) (l : List Placed) → is_digit d ≡ true → digits a ((p, d) ∷ l) ≡ digits (a * 10 + (d - 48)) l
unfolding digits
digits_next a d p l h = rw h

digits-read : (ds r : List ℕ) → all is_digit ds ≡ true → Stop r → (a p : ℕ) → (q : ℕ) × (digits a (placed p (ds ++ r)) ≡ (value a ds, placed q r))
unfolding placed all value
digits-read [] r h s a p = (p, digits_end a p r (stop_digit s))
digits-read (d ∷ ds) r h s a p =
    let e = both_true (is_digit d) (all is_digit ds) h in
    let x = digits-read ds r e.1 s (a * 10 + (d - 48)) (suc p) in
    (x.0, digits_next a d p (placed (suc p) (ds ++ r)) e.0 ∙ x.1)

decimal-value : (n : ℕ) → n ≤ 65535 → value 0 (decimal n) ≡ n
unfolding parse_number
decimal-value n h = go (all is_digit (decimal n)) (no_leading_zero (decimal n)) (leb (value 0 (decimal n)) 65535) (number_text n h)
  where
    go : (x y z : Bool) → pick x (pick y (pick z (parsed (value 0 (decimal n))) invalid) invalid) malformed ≡ parsed n → value 0 (decimal n) ≡ n
    go true true true e = cc
    go true true false e = cc
    go true false z e = cc
    go false y z e = cc

pub decimal-all : (n : ℕ) → all is_digit (decimal n) ≡ true
unfolding decimal
decimal-all n = decimal-digits (suc n) n

-- a number has a digit
first_digit : (l r : List ℕ) (d : ℕ) → all is_digit (l ++ (d ∷ [])) ≡ true → is_digit (first_byte ((l ++ (d ∷ [])) ++ r)) ≡ true
unfolding all first_byte
first_digit [] r d h = (both_true (is_digit d) true h).0
first_digit (b ∷ l) r d h = (both_true (is_digit b) (all is_digit (l ++ (d ∷ []))) h).0

pub decimal-first : (n : ℕ) (r : List ℕ) → is_digit (first_byte (decimal n ++ r)) ≡ true
unfolding decimal decimal_in
decimal-first n r = go (ltb n 10) (decimal-all n)
  where
    go : (x : Bool) → all is_digit (pick x ((48 + n) ∷ []) (decimal_in n (n / 10) ++ ((48 + n % 10) ∷ []))) ≡ true
        → is_digit (first_byte (pick x ((48 + n) ∷ []) (decimal_in n (n / 10) ++ ((48 + n % 10) ∷ [])) ++ r)) ≡ true
    go true h = first_digit [] r (48 + n) h
    go false h = first_digit (decimal_in n (n / 10)) r (48 + n % 10) h

number_found : (p n : ℕ) (l : List ℕ) (r : List Placed) → is_digit (first_byte l) ≡ true → digits 0 (placed p l) ≡ (n, r) → n ≤ 63999 → line_number (placed p l) ≡ found n r
unfolding line_number placed first_byte is_digit
number_found p n [] r d e h = absurd (not_both (sym d))
number_found p n (b ∷ l) r d e h = rw (d, e, le-leb n 63999 h)

pub number_read : (n : ℕ) (r : List ℕ) → NumberV2 n → Stop r → Reads line_number (decimal n) n r
number_read n r h s p =
    let x = digits-read (decimal n) r (decimal-all n) s 0 p in
    (x.0, number_found p n (decimal n ++ r) (placed x.0 r) (decimal-first n r) (x.1 ∙ ap (λ (m : ℕ). (m, placed x.0 r)) (decimal-value n (omega arith))) h)

-- ---- names

stop_character : {l : List ℕ} → Stop l → is_character (first_byte l) ≡ false
unfolding is_digit is_capital first_byte
stop_character comma = refl
stop_character colon = refl
stop_character equals = refl
stop_character zero_byte = refl

stop_kind : {l : List ℕ} → Stop l → is_kind (first_byte l) ≡ false
unfolding first_byte
stop_kind comma = refl
stop_kind colon = refl
stop_kind equals = refl
stop_kind zero_byte = refl

kind_character : (b : ℕ) → is_kind b ≡ true → is_character b ≡ false
unfolding is_digit is_capital
kind_character b h = elim (either_true (eqb b 37) (eqb b 36) h) [ inl e ↦ rw (eqb-true b 37 e) | inr e ↦ rw (eqb-true b 36 e) ]

characters_end : (p : ℕ) (r : List ℕ) → is_character (first_byte r) ≡ false → characters (placed p r) ≡ ([], placed p r)
unfolding characters placed first_byte is_digit is_capital
characters_end p [] h = refl
characters_end p (b ∷ r) h = rw h

abbrev pair : List ℕ → List Placed → List ℕ × List Placed
pair a b = (a, b)

-- the characters of a name, its kind, and where the kind stands
record Parts (p : ℕ) (l r : List ℕ) : Type 0 where
  front : List ℕ
  end : List ℕ
  place : ℕ
  whole : l ≡ front ++ end
  is_end : Kind end
  reads : characters (placed p (l ++ r)) ≡ (front, placed place (end ++ r))

characters_next : (p b : ℕ) (l : List Placed) → is_character b ≡ true → characters ((p, b) ∷ l) ≡ (b ∷ (characters l).0, (characters l).1)
unfolding characters
characters_next p b l h = rw h

kind-parts : (p b : ℕ) (l r : List ℕ) → (is_kind b && same l []) ≡ true → Parts p (b ∷ l) r
unfolding placed first_byte
kind-parts p b l r h =
    let e = both_true (is_kind b) (same l []) h in
    record {
      front = [];
      end = b ∷ [];
      place = p;
      whole = ap (λ (k : List ℕ). b ∷ k) (same-nil l e.1);
      is_end = kind b e.0;
      reads = characters_end p (b ∷ (l ++ r)) (kind_character b e.0) ∙ ap (λ (k : List ℕ). pair [] (placed p (b ∷ (k ++ r)))) (same-nil l e.1);
    }

more_parts : (p b : ℕ) (l r : List ℕ) → is_character b ≡ true → Parts (suc p) l r → Parts p (b ∷ l) r
unfolding placed
more_parts p b l r h x =
    record {
      front = b ∷ x.front;
      end = x.end;
      place = x.place;
      whole = ap (λ (k : List ℕ). b ∷ k) x.whole;
      is_end = x.is_end;
      reads = characters_next p b (placed (suc p) (l ++ r)) h ∙ ap (λ (y : List ℕ × List Placed). (b ∷ y.0, y.1)) x.reads;
    }

no_parts : (p : ℕ) (r : List ℕ) → Stop r → Parts p [] r
no_parts p r s = record { front = []; end = []; place = p; whole = refl; is_end = no_kind; reads = characters_end p r (stop_character s) }

parts : (k : ℕ) (l r : List ℕ) (p : ℕ) → name_end k l ≡ true → Stop r → Parts p l r
unfolding name_end
parts zero [] r p h s = no_parts p r s
parts (suc k) [] r p h s = no_parts p r s
parts zero (b ∷ l) r p h s = kind-parts p b l r h
parts (suc k) (b ∷ l) r p h s = go (is_character b) refl h (λ g. parts k l r (suc p) g s)
  where
    go : (x : Bool) → is_character b ≡ x → pick x (name_end k l) (is_kind b && same l []) ≡ true → (name_end k l ≡ true → Parts (suc p) l r) → Parts p (b ∷ l) r
    go true e g f = more_parts p b l r e (f g)
    go false e g f = kind-parts p b l r g

name_found : (p : ℕ) (l : List ℕ) → is_capital (first_byte l) ≡ true → name (placed p l) ≡ with_kind (characters (placed p l)).0 (characters (placed p l)).1
unfolding name placed first_byte is_capital
name_found p [] h = absurd (not_both (sym h))
name_found p (b ∷ l) h = rw h

kind_found : (v r : List ℕ) (p : ℕ) {u : List ℕ} → Kind u → Stop r → (q : ℕ) × (with_kind v (placed p (u ++ r)) ≡ found (cut_name (v ++ u)) (placed q r))
unfolding with_kind placed first_byte
kind_found v r p no_kind s = (p, bare v p r (stop_kind s) ∙ ap (λ (w : List ℕ). found (cut_name w) (placed p r)) (sym (append-nil v)))
  where
    bare : (v : List ℕ) (p : ℕ) (r : List ℕ) → is_kind (first_byte r) ≡ false → with_kind v (placed p r) ≡ found (cut_name v) (placed p r)
    bare v p [] h = refl
    bare v p (b ∷ r) h = rw h
kind_found v r p (kind b h) s = (suc p, rw h)

pub name-read : (v : Name) (r : List ℕ) → NameV2 v → Stop r → Reads name v v r
unfolding is_name
name-read [] r h s p = absurd (not_both (sym h.0))
name-read (b ∷ l) r h s p =
    let e = both_true (is_capital b) (name_end 7 l) h.0 in
    let x : Parts p (b ∷ l) r = more_parts p b l r (capital_character b e.0) (parts 7 l r (suc p) e.1 s) in
    let y = kind_found x.front r x.place x.is_end s in (
      y.0,
      name_found p ((b ∷ l) ++ r) (first b (l ++ r) e.0)
          ∙ ap (λ (z : List ℕ × List Placed). with_kind z.0 z.1) x.reads
          ∙ y.1
          ∙ ap (λ (v : Name). found v (placed y.0 r)) (ap cut_name (sym x.whole) ∙ h.1),
    )
  where
    capital_character : (b : ℕ) → is_capital b ≡ true → is_character b ≡ true
    capital_character b e = rw e

    first : (b : ℕ) (l : List ℕ) → is_capital b ≡ true → is_capital (first_byte (b ∷ l)) ≡ true
    first b l e = unfold first_byte in e

pub name-first : (v r : List ℕ) → NameV2 v → is_capital (first_byte (v ++ r)) ≡ true
unfolding is_name first_byte
name-first [] r h = absurd (not_both (sym h.0))
name-first (b ∷ l) r h = (both_true (is_capital b) (name_end 7 l) h.0).0

-- ---- commas between

several-first : {A : Type 0} (f : List Placed → Found A) (k : ℕ) (l : List Placed) (a : A) (r : List Placed) → f l ≡ found a r → several f (suc k) l ≡ after_comma a (several f k) r
unfolding several
several-first f k l a r e = rw (e, several)

module _ {A : Type 0} (P : A → Type 0) (w : A → List ℕ) (f : List Placed → Found A) (reads : (a : A) (r : List ℕ) → P a → Stop r → Reads f (w a) a r) where
  last_several : (k : ℕ) (a : A) (r : List ℕ) → P a → Reads (several f (suc k)) (w a) (a ∷ []) (58 ∷ r)
  unfolding after_comma placed
  last_several k a r h p = let x = reads a (58 ∷ r) h colon p in (x.0, several-first f k (placed p (w a ++ (58 ∷ r))) a (placed x.0 (58 ∷ r)) x.1)

  more_several : (k : ℕ) (a b : A) (bs : List A) (l r : List ℕ) → P a → Reads (several f k) l (b ∷ bs) (58 ∷ r) → Reads (several f (suc k)) (w a ++ (44 ∷ l)) (a ∷ b ∷ bs) (58 ∷ r)
  unfolding after_comma placed map_found
  more_several k a b bs l r h g p =
      let x = reads a (44 ∷ (l ++ (58 ∷ r))) h comma p in
      let y = g (suc x.0) in (
        y.0,
        ap (λ (m : List ℕ). several f (suc k) (placed p m)) (append_assoc (w a) (44 ∷ l) (58 ∷ r))
            ∙ several-first f k (placed p (w a ++ (44 ∷ (l ++ (58 ∷ r))))) a (placed x.0 (44 ∷ (l ++ (58 ∷ r)))) x.1
            ∙ ap (map_found (λ cs. a ∷ cs)) y.1,
      )

  pub several-read : (k : ℕ) (a : A) (bs : List A) (r : List ℕ) → length bs < k → P a → All P bs → Reads (several f k) (commas (map w (a ∷ bs))) (a ∷ bs) (58 ∷ r)
  unfolding commas
  several-read zero a bs r g h hs = absurd (omega arith)
  several-read (suc k) a [] r g h hs = last_several k a r h
  several-read (suc k) a (b ∷ bs) r g h (all∷ i hs) = more_several k a b bs (commas (map w (b ∷ bs))) r h (several-read k b bs r (omega arith) i hs)
