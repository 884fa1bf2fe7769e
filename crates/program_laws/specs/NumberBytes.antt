-- A number among the bytes of a line that count is a number among the bytes of the line: digits, with spaces between them. Assumes nothing.
use Rattle.std.specs.Prelude.{ℕ, suc, ◌+◌, ◌*◌, ◌-◌, ◌≤◌, ◌<◌, ◌≡◌, ◌⊎◌, refl, List, [], ◌∷◌, Bool, true, false, ◌&&◌, ◌||◌, not, eqb, leb, length, take, drop, get_or}
use Rattle.std.proofs.Common.{sym, ap, ◌∙◌, arith, inl, inr, leb-true, leb-false, eqb-true, ne_eqb}
use Rattle.listings.specs.Bytes.{pick}
use Rattle.listings.specs.Rows.{is_digit, all}
use Rattle.listings.specs.Scan.{index_of}
use Rattle.listings.specs.Tests.{not_both, both_true}
use Rattle.program_files.specs.Program.{Placed, Cover, uncovered, quoted, remark, items, quoted_item, behind, counts, counted, join_go, digits}
use Rattle.program_laws.specs.FoundWhere.{digit_or_space, value_of}
use Rattle.program_laws.specs.CutNumbers.{Number, begins, farther}

-- ---- digits with spaces between them

-- the number that the first bytes of a list make, behind digits that make a, as long as they are digits or spaces
unfoldable pub first_value : ℕ → List ℕ → ℕ
first_value a [] = a
first_value a (b ∷ l) = pick (is_digit b) (first_value (a * 10 + (b - 48)) l) (pick (eqb b 32) (first_value a l) a)

digit_bounds : (b : ℕ) → is_digit b ≡ true → (48 ≤ b) × (b ≤ 57)
unfolding is_digit
digit_bounds b h = let a = both_true (leb 48 b) (leb b 57) h in (leb-true 48 b a.0, leb-true b 57 a.1)

digit_not : (b n : ℕ) → (n < 48) ⊎ (57 < n) → is_digit b ≡ true → eqb b n ≡ false
digit_not b n (inl g) h = let k = digit_bounds b h in ne_eqb b n (λ e. omega arith)
digit_not b n (inr g) h = let k = digit_bounds b h in ne_eqb b n (λ e. omega arith)

behind_digit : (b : ℕ) → is_digit b ≡ true → behind uncovered b ≡ uncovered
unfolding behind
behind_digit b h = rw (digit_not b 34 (inl (omega arith)) h, digit_not b 143 (inr (omega arith)) h, digit_not b 131 (inr (omega arith)) h) refl

-- ---- from the bytes that count to the bytes

behind_space : (b : ℕ) → eqb b 32 ≡ true → behind uncovered b ≡ uncovered
unfolding behind
behind_space b h = rw (eqb-true b 32 h) refl

first-value : (a p : ℕ) (l : List ℕ) → (digits a (counted uncovered p l)).0 ≡ first_value a l
unfolding digits counted counts first_value is_digit
first-value a p [] = refl
first-value a p (b ∷ l) = go (is_digit b) (eqb b 0) (eqb b 32) refl refl refl (first-value (a * 10 + (b - 48)) (suc p) l) (first-value a (suc p) l)
  where
    go : (t u v : Bool) → is_digit b ≡ t → eqb b 0 ≡ u → eqb b 32 ≡ v → (digits (a * 10 + (b - 48)) (counted uncovered (suc p) l)).0 ≡ first_value (a * 10 + (b - 48)) l
        → (digits a (counted uncovered (suc p) l)).0 ≡ first_value a l
        → (digits a (pick (eqb b 0) ((p, 0) ∷ []) (pick (not (eqb b 32)) ((p, b) ∷ counted (behind uncovered b) (suc p) l) (counted (behind uncovered b) (suc p) l)))).0
        ≡ pick (is_digit b) (first_value (a * 10 + (b - 48)) l) (pick (eqb b 32) (first_value a l) a)
    go true u v e f g h i = rw (digit_not b 0 (inl (omega arith)) e, digit_not b 32 (inl (omega arith)) e, behind_digit b e, e) h
    go false true v e f g h i = let z : eqb b 32 ≡ false = ne_eqb b 32 (λ c. let d = eqb-true b 0 f in omega arith) in rw (f, e, z) refl
    go false false true e f g h i = rw (f, g, behind_space b g, e) i
    go false false false e f g h i = rw (f, g, e) refl

-- GO and TO are no digits
join-digits : (l : List Placed) (a : ℕ) → (digits a (join_go l)).0 ≡ (digits a l).0
unfolding join_go digits is_digit
join-digits [] a = refl
join-digits (d ∷ []) a = refl
join-digits (d ∷ e ∷ l) a = go (is_digit d.1) (eqb d.1 203) (eqb e.1 164) refl refl (join-digits (e ∷ l) (a * 10 + (d.1 - 48)))
  where
    go : (t u v : Bool) → is_digit d.1 ≡ t → eqb d.1 203 ≡ u → (digits (a * 10 + (d.1 - 48)) (join_go (e ∷ l))).0 ≡ (digits (a * 10 + (d.1 - 48)) (e ∷ l)).0
        → (digits a (pick (u && v) ((d.0, 137) ∷ join_go l) (d ∷ join_go (e ∷ l)))).0 ≡ (digits a (d ∷ e ∷ l)).0
    go true true v f g h = absurd (not_both (sym g ∙ digit_not d.1 203 (inr (omega arith)) f))
    go true false v f g h = rw f h
    go false true true f g h = rw f refl
    go false true false f g h = rw f refl
    go false false v f g h = rw f refl

one_digit : {p n : ℕ} {l : List Placed} (d : Placed) → is_digit d.1 ≡ false → Number p n (d ∷ l) → Number p n l
one_digit d f (begins d' e t v) = absurd (not_both (sym t ∙ f))
one_digit d f (farther d' c) = c

none_here : {p n : ℕ} → Number p n [] → ⊥
none_here c = elim c [ ]

digits-cons : (d : Placed) (l m : List Placed) → ((a : ℕ) → (digits a l).0 ≡ (digits a m).0) → (a : ℕ) → (digits a (d ∷ l)).0 ≡ (digits a (d ∷ m)).0
unfolding digits
digits-cons d l m f a = go (is_digit d.1)
  where
    go : (t : Bool) → (pick t (digits (a * 10 + (d.1 - 48)) l) (a, d ∷ l)).0 ≡ (pick t (digits (a * 10 + (d.1 - 48)) m) (a, d ∷ m)).0
    go true = f (a * 10 + (d.1 - 48))
    go false = refl

-- a number of the joined list is one of the list
pub joined_number : {p n : ℕ} (l : List Placed) → Number p n (join_go l) → Number p n l
unfolding join_go is_digit
joined_number [] c = c
joined_number (d ∷ []) c = c
joined_number {p} {n} (d ∷ e ∷ l) c = go (eqb d.1 203 && eqb e.1 164) (joined_number l) (joined_number (e ∷ l)) c
  where
    tail : (Number p n (join_go (e ∷ l)) → Number p n (e ∷ l)) → Number p n (d ∷ join_go (e ∷ l)) → Number p n (d ∷ e ∷ l)
    tail f (begins d' h t v) = begins d h t (sym (digits-cons d (join_go (e ∷ l)) (e ∷ l) (join-digits (e ∷ l)) 0) ∙ v)
    tail f (farther d' c) = farther d (f c)

    go : (t : Bool) → (Number p n (join_go l) → Number p n l) → (Number p n (join_go (e ∷ l)) → Number p n (e ∷ l)) → Number p n (pick t ((d.0, 137) ∷ join_go l) (d ∷ join_go (e ∷ l)))
        → Number p n (d ∷ e ∷ l)
    go true f g c = farther d (farther e (f (one_digit (d.0, 137) refl c)))
    go false f g c = tail g c

-- a number that begins at place x among bytes from place p on, t bytes behind it
pub record NumberAt (p x n : ℕ) (l : List ℕ) : Type 0 where
  pub t : ℕ
  pub place : x ≡ p + t
  pub inside : t < length l
  pub before_zero : index_of 0 l ≡ t + index_of 0 (drop t l)
  pub digit : is_digit (get_or l t 0) ≡ true
  pub value : first_value 0 (drop t l) ≡ n

number_next : {p x n b : ℕ} {l : List ℕ} → eqb b 0 ≡ false → NumberAt (suc p) x n l → NumberAt p x n (b ∷ l)
unfolding index_of
number_next f a = record { t = suc a.t; place = let h = a.place in omega arith; inside = let h = a.inside in omega arith; before_zero = rw f (let h = a.before_zero in omega arith); digit = a.digit; value = a.value }

counts_digit : (c : Cover) (b : ℕ) → is_digit b ≡ true → counts c b ≡ true → c ≡ uncovered
unfolding counts
counts_digit uncovered b h k = refl
counts_digit quoted b h k = absurd (not_both (sym k))
counts_digit remark b h k = absurd (not_both (sym k))
counts_digit items b h k = absurd (not_both (sym k ∙ digit_not b 58 (inr (omega arith)) h))
counts_digit quoted_item b h k = absurd (not_both (sym k))

number_here : (p b : ℕ) (l : List ℕ) → is_digit b ≡ true → (digits 0 ((p, b) ∷ counted (behind uncovered b) (suc p) l)).0 ≡ first_value 0 (b ∷ l)
unfolding digits first_value
number_here p b l h = rw (h, behind_digit b h) (first-value (0 * 10 + (b - 48)) (suc p) l)

pub counted_number : {x n : ℕ} (c : Cover) (p : ℕ) (l : List ℕ) → Number x n (counted c p l) → NumberAt p x n l
unfolding counted is_digit index_of
counted_number c p [] i = absurd (none_here (one_digit (p, 0) refl i))
counted_number {x} {n} c p (b ∷ l) i = go (eqb b 0) (counts c b) refl refl (counted_number (behind c b) (suc p) l) i
  where
    here : eqb b 0 ≡ false → counts c b ≡ true → (Number x n (counted (behind c b) (suc p) l) → NumberAt (suc p) x n l) → Number x n ((p, b) ∷ counted (behind c b) (suc p) l) → NumberAt p x n (b ∷ l)
    here e f g (begins d h t v) =
        let k = counts_digit c b t f in
        record {
          t = 0;
          place = omega arith;
          inside = omega arith;
          before_zero = omega arith;
          digit = t;
          value = sym (number_here p b l t) ∙ (ap (λ (y : Cover). (digits 0 ((p, b) ∷ counted (behind y b) (suc p) l)).0) (sym k) ∙ v);
        }
    here e f g (farther d j) = number_next e (g j)

    go : (t u : Bool) → eqb b 0 ≡ t → counts c b ≡ u → (Number x n (counted (behind c b) (suc p) l) → NumberAt (suc p) x n l)
        → Number x n (pick t ((p, 0) ∷ []) (pick u ((p, b) ∷ counted (behind c b) (suc p) l) (counted (behind c b) (suc p) l))) → NumberAt p x n (b ∷ l)
    go true u e f g j = absurd (none_here (one_digit (p, 0) refl j))
    go false true e f g j = here e f g j
    go false false e f g j = number_next e (g j)

-- ---- the digit that makes a number too large

pub record Exceeds (a : ℕ) (l : List ℕ) : Type 0 where
  pub s : ℕ
  pub inside : s < index_of 0 l
  pub plain : all digit_or_space (take (suc s) l) ≡ true
  pub not_yet : value_of a (take s l) ≤ 63999
  pub now : 63999 < value_of a (take (suc s) l)

exceeds_next : {b : ℕ} {l : List ℕ} (a : ℕ) → eqb b 0 ≡ false → digit_or_space b ≡ true → Exceeds (pick (eqb b 32) a (a * 10 + (b - 48))) l → Exceeds a (b ∷ l)
unfolding index_of all value_of
exceeds_next a f g x = record { s = suc x.s; inside = rw f (let h = x.inside in omega arith); plain = rw g x.plain; not_yet = x.not_yet; now = x.now }

or-right : (t : Bool) → (t || true) ≡ true
or-right true = refl
or-right false = refl

pub exceeds : (a : ℕ) (l : List ℕ) → a ≤ 63999 → 63999 < first_value a l → Exceeds a l
unfolding first_value index_of all value_of digit_or_space
exceeds a [] h g = absurd (omega arith)
exceeds a (b ∷ l) h g = go (is_digit b) (eqb b 32) refl refl (exceeds a l h) (exceeds (a * 10 + (b - 48)) l) g
  where
    zero_not : is_digit b ≡ true → eqb b 0 ≡ false
    zero_not e = digit_not b 0 (inl (omega arith)) e

    more : is_digit b ≡ true → (a * 10 + (b - 48) ≤ 63999) ⊎ (63999 < a * 10 + (b - 48)) → (a * 10 + (b - 48) ≤ 63999 → 63999 < first_value (a * 10 + (b - 48)) l → Exceeds (a * 10 + (b - 48)) l)
        → 63999 < first_value (a * 10 + (b - 48)) l → Exceeds a (b ∷ l)
    more e (inl k) f g = exceeds_next a (zero_not e) (rw e refl) (rw (digit_not b 32 (inl (omega arith)) e) (f k g))
    more e (inr k) f g = record { s = 0; inside = rw (zero_not e) (omega arith); plain = rw e refl; not_yet = h; now = rw (digit_not b 32 (inl (omega arith)) e) k }

    bound : (t : Bool) → leb (a * 10 + (b - 48)) 63999 ≡ t → (a * 10 + (b - 48) ≤ 63999) ⊎ (63999 < a * 10 + (b - 48))
    bound true e = inl (leb-true (a * 10 + (b - 48)) 63999 e)
    bound false e = inr (leb-false (a * 10 + (b - 48)) 63999 e)

    go : (t u : Bool) → is_digit b ≡ t → eqb b 32 ≡ u → (63999 < first_value a l → Exceeds a l)
        → (a * 10 + (b - 48) ≤ 63999 → 63999 < first_value (a * 10 + (b - 48)) l → Exceeds (a * 10 + (b - 48)) l)
        → 63999 < pick t (first_value (a * 10 + (b - 48)) l) (pick u (first_value a l) a) → Exceeds a (b ∷ l)
    go true u e f i j g = more e (bound (leb (a * 10 + (b - 48)) 63999) refl) j g
    go false true e f i j g = exceeds_next a (ne_eqb b 0 (λ c. let d = eqb-true b 32 f in omega arith)) (rw (f, or-right (is_digit b)) refl) (rw f (i g))
    go false false e f i j g = absurd (omega arith)

-- where all are digits or spaces
pub first-all : (a : ℕ) (l : List ℕ) → all digit_or_space l ≡ true → first_value a l ≡ value_of a l
unfolding first_value value_of all digit_or_space
first-all a [] h = refl
first-all a (b ∷ l) h =
    let k = both_true (is_digit b || eqb b 32) (all digit_or_space l) h in
    go (is_digit b) (eqb b 32) refl refl k.0 (first-all a l k.1) (first-all (a * 10 + (b - 48)) l k.1)
  where
    go : (t u : Bool) → is_digit b ≡ t → eqb b 32 ≡ u → (t || u) ≡ true → first_value a l ≡ value_of a l → first_value (a * 10 + (b - 48)) l ≡ value_of (a * 10 + (b - 48)) l
        → pick t (first_value (a * 10 + (b - 48)) l) (pick u (first_value a l) a) ≡ value_of (pick u a (a * 10 + (b - 48))) l
    go true true e f g i j = absurd (not_both (sym f ∙ digit_not b 32 (inl (omega arith)) e))
    go true false e f g i j = j
    go false true e f g i j = i
    go false false e f g i j = absurd (not_both (sym g))
