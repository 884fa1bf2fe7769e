-- Lists of bytes that count, cut at a place: what is read of numbers and names in the one and in the other. Assumes nothing.
-- Of two lists l and m the first is cut at place q: a byte 0 stands in it where the other goes on.
use Rattle.std.specs.Prelude.{ℕ, zero, suc, ◌+◌, ◌*◌, ◌-◌, ◌≤◌, ◌<◌, ◌≡◌, refl, List, [], ◌∷◌, ◌++◌, Bool, true, false, ◌&&◌, ◌||◌, eqb, leb, length}
use Rattle.std.proofs.Common.{arith, leb-true, leb-false}
use Rattle.listings.specs.Bytes.{pick}
use Rattle.listings.specs.Rows.{is_digit, is_capital}
use Rattle.listings.specs.Cut.{cut_name}
use Rattle.program_files.specs.Program.{Placed, Found, found, lacks, map_found, digits, line_number, characters, with_kind, name, after_comma, several}

-- ---- the lists

-- at q or later
abbrev pub From : ℕ → ℕ → Type 0
From q p = q ≤ p

-- its last byte is 0, and P holds of the places
pub data Ended (P : ℕ → Type 0) : List Placed → Type 0 where
  last : (p : ℕ) → P p → Ended P ((p, 0) ∷ [])
  more : (d : Placed) {l : List Placed} → P d.0 → Ended P l → Ended P (d ∷ l)

-- the first is the second, cut at q; a GO at the cut may have its TO behind it
pub data CutAt (q : ℕ) : List Placed → List Placed → Type 0 where
  end : (p : ℕ) {m : List Placed} → q ≤ p → Ended (From q) m → CutAt q ((p, 0) ∷ []) m
  go : (g p : ℕ) {m : List Placed} → g < q → q ≤ p → Ended (From q) m → CutAt q ((g, 203) ∷ (p, 0) ∷ []) ((g, 137) ∷ m)
  both : (d : Placed) {l m : List Placed} → d.0 < q → CutAt q l m → CutAt q (d ∷ l) (d ∷ m)

-- what is left of a list
pub data Rest : List Placed → List Placed → Type 0 where
  whole : {l : List Placed} → Rest l l
  behind : (d : Placed) {r l : List Placed} → Rest r l → Rest r (d ∷ l)

pub rest-rest : {r s l : List Placed} → Rest r s → Rest s l → Rest r l
rest-rest a whole = a
rest-rest a (behind d b) = behind d (rest-rest a b)

pub rest-length : {r l : List Placed} → Rest r l → length r ≤ length l
rest-length whole = omega arith
rest-length (behind d b) = let h = rest-length b in omega arith

-- digits up to the end
pub data Run (q : ℕ) : List Placed → Type 0 where
  stop : (p : ℕ) → q ≤ p → Run q ((p, 0) ∷ [])
  step : (d : Placed) {l : List Placed} → is_digit d.1 ≡ true → d.0 < q → Run q l → Run q (d ∷ l)

-- at place p a number begins that reaches the cut and is not too large so far
pub data Crossing (q p : ℕ) : List Placed → Type 0 where
  here : (d : Placed) {l : List Placed} → d.0 ≡ p → is_digit d.1 ≡ true → Run q (d ∷ l) → (digits 0 (d ∷ l)).0 ≤ 63999 → Crossing q p (d ∷ l)
  later : (d : Placed) {l : List Placed} → Crossing q p l → Crossing q p (d ∷ l)

pub crossing_rest : {q p : ℕ} {r l : List Placed} → Rest r l → Crossing q p r → Crossing q p l
crossing_rest whole c = c
crossing_rest (behind d b) c = later d (crossing_rest b c)

-- at place p a number begins, and n is what its digits give
pub data Number (p n : ℕ) : List Placed → Type 0 where
  begins : (d : Placed) {l : List Placed} → d.0 ≡ p → is_digit d.1 ≡ true → (digits 0 (d ∷ l)).0 ≡ n → Number p n (d ∷ l)
  farther : (d : Placed) {l : List Placed} → Number p n l → Number p n (d ∷ l)

pub number_rest : {p n : ℕ} {r l : List Placed} → Rest r l → Number p n r → Number p n l
number_rest whole c = c
number_rest (behind d b) c = farther d (number_rest b c)

-- ---- what is found

-- P holds of the place of what is lacking, and of the places behind what is found
pub data Late (P : ℕ → Type 0) (l : List Placed) {A : Type 0} : Found A → Type 0 where
  late_lack : (p : ℕ) → P p → Late P l (lacks p)
  late_rest : (a : A) {r : List Placed} → Ended P r → Rest r l → Late P l (found a r)

-- of what is found in a list cut at q and in the whole one: the same; the same is lacking; in both all from q on; or a number goes on over the cut that is too large only in the whole
pub data Same (q : ℕ) (l m : List Placed) {A : Type 0} : Found A → Found A → Type 0 where
  same_rest : (a : A) {r s : List Placed} → CutAt q r s → Rest r l → Rest s m → Same q l m (found a r) (found a s)
  same_lack : (p : ℕ) → Same q l m (lacks p) (lacks p)
  all_late : {x y : Found A} → Late (From q) l x → Late (From q) m y → Same q l m x y
  crosses : {x : Found A} → Late (From q) l x → (p : ℕ) → Crossing q p l → (n : ℕ) → 63999 < n → Number p n m → Same q l m x (lacks p)

pub late-rest : {A : Type 0} {P : ℕ → Type 0} {l m : List Placed} {x : Found A} → Rest l m → Late P l x → Late P m x
late-rest b (late_lack p h) = late_lack p h
late-rest b (late_rest a e r) = late_rest a e (rest-rest r b)

pub same-rest : {A : Type 0} {q : ℕ} {l m k n : List Placed} {x y : Found A} → Rest l k → Rest m n → Same q l m x y → Same q k n x y
same-rest b c (same_rest a e r s) = same_rest a e (rest-rest r b) (rest-rest s c)
same-rest b c (same_lack p) = same_lack p
same-rest b c (all_late f g) = all_late (late-rest b f) (late-rest c g)
same-rest b c (crosses f p h n i w) = crosses (late-rest b f) p (crossing_rest b h) n i (number_rest c w)

-- by a test
pub late-pick : {A : Type 0} {P : ℕ → Type 0} {l : List Placed} (t : Bool) {x y : Found A} → (t ≡ true → Late P l x) → (t ≡ false → Late P l y) → Late P l (pick t x y)
late-pick true f g = f refl
late-pick false f g = g refl

pub same-pick : {A : Type 0} {q : ℕ} {l m : List Placed} (t : Bool) {x y x' y' : Found A} → (t ≡ true → Same q l m x x') → (t ≡ false → Same q l m y y') → Same q l m (pick t x y) (pick t x' y')
same-pick true f g = f refl
same-pick false f g = g refl

pub late-map : {A B : Type 0} {P : ℕ → Type 0} {l : List Placed} {x : Found A} (f : A → B) → Late P l x → Late P l (map_found f x)
unfolding map_found
late-map f (late_lack p h) = late_lack p h
late-map f (late_rest a e r) = late_rest (f a) e r

pub same-map : {A B : Type 0} {q : ℕ} {l m : List Placed} {x y : Found A} (f : A → B) → Same q l m x y → Same q l m (map_found f x) (map_found f y)
unfolding map_found
same-map f (same_rest a e r s) = same_rest (f a) e r s
same-map f (same_lack p) = same_lack p
same-map f (all_late g h) = all_late (late-map f g) (late-map f h)
same-map f (crosses g p h n i w) = crosses (late-map f g) p h n i w

-- ---- numbers

-- the digits of an ended list
data DigitsLate (P : ℕ → Type 0) (a : ℕ) (l : List Placed) : ℕ × List Placed → Type 0 where
  digits_late : (n : ℕ) {r : List Placed} → a ≤ n → Ended P r → Rest r l → DigitsLate P a l (n, r)

digits_more : {P : ℕ → Type 0} {a : ℕ} {l : List Placed} {r : ℕ × List Placed} (b : ℕ) (d : Placed) → b ≤ a → DigitsLate P a l r → DigitsLate P b (d ∷ l) r
digits_more b d h (digits_late n k e r) = digits_late n (omega arith) e (behind d r)

pick-late : {P : ℕ → Type 0} {a : ℕ} {l : List Placed} (t : Bool) {x y : ℕ × List Placed} → (t ≡ true → DigitsLate P a l x) → (t ≡ false → DigitsLate P a l y) → DigitsLate P a l (pick t x y)
pick-late true f g = f refl
pick-late false f g = g refl

digits-late : {P : ℕ → Type 0} {l : List Placed} (a : ℕ) → Ended P l → DigitsLate P a l (digits a l)
unfolding digits is_digit
digits-late a (last p h) = digits_late a (omega arith) (last p h) whole
digits-late a (more d h e) =
    pick-late (is_digit d.1) (λ t. digits_more a d (omega arith) (digits-late (a * 10 + (d.1 - 48)) e)) (λ t. digits_late a (omega arith) (more d h e) whole)

data DigitsSame (q : ℕ) (l m : List Placed) : ℕ × List Placed → ℕ × List Placed → Type 0 where
  digits_same : (n : ℕ) {r s : List Placed} → CutAt q r s → Rest r l → Rest s m → DigitsSame q l m (n, r) (n, s)
  digits_cut : (n k : ℕ) {r s : List Placed} → n ≤ k → Run q l → Ended (From q) r → Rest r l → Ended (From q) s → Rest s m → DigitsSame q l m (n, r) (k, s)

digits-step : {q : ℕ} {l m : List Placed} {x y : ℕ × List Placed} (d : Placed) → is_digit d.1 ≡ true → d.0 < q → DigitsSame q l m x y → DigitsSame q (d ∷ l) (d ∷ m) x y
digits-step d t h (digits_same n c r s) = digits_same n c (behind d r) (behind d s)
digits-step d t h (digits_cut n k a u e r f s) = digits_cut n k a (step d t h u) e (behind d r) f (behind d s)

pick-same : {q : ℕ} {l m : List Placed} (t : Bool) {x y x' y' : ℕ × List Placed} → (t ≡ true → DigitsSame q l m x x') → (t ≡ false → DigitsSame q l m y y') → DigitsSame q l m (pick t x y) (pick t x' y')
pick-same true f g = f refl
pick-same false f g = g refl

cut_end : {q a : ℕ} {m : List Placed} {y : ℕ × List Placed} (p : ℕ) → q ≤ p → DigitsLate (From q) a m y → DigitsSame q ((p, 0) ∷ []) m (a, (p, 0) ∷ []) y
cut_end p h (digits_late n k e r) = digits_cut _ n k (stop p h) (last p h) whole e r

digits-same : {q : ℕ} {l m : List Placed} (a : ℕ) → CutAt q l m → DigitsSame q l m (digits a l) (digits a m)
unfolding digits is_digit
digits-same a (end p h e) = cut_end p h (digits-late a e)
digits-same a (go g p h k e) = digits_same a (go g p h k e) whole whole
digits-same a (both d h c) =
    pick-same (is_digit d.1) (λ t. digits-step d t h (digits-same (a * 10 + (d.1 - 48)) c)) (λ t. digits_same a (both d h c) whole whole)

late_number : {P : ℕ → Type 0} {l : List Placed} {r : ℕ × List Placed} (t : Bool) (p : ℕ) → P p → DigitsLate P 0 l r → Late P l (pick (t && leb r.0 63999) (found r.0 r.1) (lacks p))
late_number t p h (digits_late n k e r) = late-pick (t && leb n 63999) (λ b. late_rest n e r) (λ b. late_lack p h)

pub number_late : {P : ℕ → Type 0} {l : List Placed} → Ended P l → Late P l (line_number l)
unfolding line_number is_digit
number_late (last p h) = late_lack p h
number_late (more d h e) = late_number (is_digit d.1) d.0 h (digits-late 0 (more d h e))

same_number : {q : ℕ} {l m : List Placed} {x y : ℕ × List Placed} (d : Placed) → (x.0 ≤ 63999 → Run q l → Crossing q d.0 l) → Number d.0 y.0 m → DigitsSame q l m x y
    → Same q l m (pick (leb x.0 63999) (found x.0 x.1) (lacks d.0)) (pick (leb y.0 63999) (found y.0 y.1) (lacks d.0))
same_number d c w (digits_same n e r s) = same-pick (leb n 63999) (λ b. same_rest n e r s) (λ b. same_lack d.0)
same_number {q} {l} {m} d c w (digits_cut n k {r = r} {s = s} h u e f g i) = go (leb n 63999) (leb k 63999) refl refl
  where
    go : (t v : Bool) → leb n 63999 ≡ t → leb k 63999 ≡ v → Same q l m (pick t (found n r) (lacks d.0)) (pick v (found k s) (lacks d.0))
    go true true a b = all_late (late_rest n e f) (late_rest k g i)
    go true false a b = crosses (late_rest n e f) d.0 (c (leb-true n 63999 a) u) k (leb-false k 63999 b) w
    go false true a b = absurd (let i = leb-true k 63999 b in let j = leb-false n 63999 a in omega arith)
    go false false a b = same_lack d.0

pub number_same : {q : ℕ} {l m : List Placed} → CutAt q l m → Same q l m (line_number l) (line_number m)
unfolding line_number is_digit
number_same (end p h e) = all_late (late_lack p h) (number_late e)
number_same (go g p h k e) = same_lack g
number_same {q} (both d {l = l} {m = m} h c) = judge (is_digit d.1) refl (digits-same 0 (both d h c))
  where
    judge : (t : Bool) → is_digit d.1 ≡ t → DigitsSame q (d ∷ l) (d ∷ m) (digits 0 (d ∷ l)) (digits 0 (d ∷ m))
        → Same q (d ∷ l) (d ∷ m) (pick (t && leb (digits 0 (d ∷ l)).0 63999) (found (digits 0 (d ∷ l)).0 (digits 0 (d ∷ l)).1) (lacks d.0))
        (pick (t && leb (digits 0 (d ∷ m)).0 63999) (found (digits 0 (d ∷ m)).0 (digits 0 (d ∷ m)).1) (lacks d.0))
    judge true t s = same_number d (λ a u. here d refl t u a) (begins d refl t refl) s
    judge false t s = same_lack d.0

-- ---- names

data CharsLate (P : ℕ → Type 0) (l : List Placed) : List ℕ × List Placed → Type 0 where
  chars_late : (w : List ℕ) {r : List Placed} → Ended P r → Rest r l → CharsLate P l (w, r)

chars_step : {P : ℕ → Type 0} {l : List Placed} {r : List ℕ × List Placed} (t : Bool) (d : Placed) → P d.0 → Ended P l → CharsLate P l r → CharsLate P (d ∷ l) (pick t (d.1 ∷ r.0, r.1) ([], d ∷ l))
chars_step true d h e (chars_late w f r) = chars_late (d.1 ∷ w) f (behind d r)
chars_step false d h e (chars_late w f r) = chars_late [] (more d h e) whole

chars_late_lem : {P : ℕ → Type 0} {l : List Placed} → Ended P l → CharsLate P l (characters l)
unfolding characters is_capital is_digit
chars_late_lem (last p h) = chars_late [] (last p h) whole
chars_late_lem (more d h e) = chars_step (is_capital d.1 || is_digit d.1) d h e (chars_late_lem e)

data CharsSame (q : ℕ) (l m : List Placed) : List ℕ × List Placed → List ℕ × List Placed → Type 0 where
  chars_same : (w : List ℕ) {r s : List Placed} → CutAt q r s → Rest r l → Rest s m → CharsSame q l m (w, r) (w, s)
  chars_cut : {x y : List ℕ × List Placed} → CharsLate (From q) l x → CharsLate (From q) m y → CharsSame q l m x y

chars_behind : {P : ℕ → Type 0} {l : List Placed} {r : List ℕ × List Placed} (d : Placed) → CharsLate P l r → CharsLate P (d ∷ l) (d.1 ∷ r.0, r.1)
chars_behind d (chars_late w f r) = chars_late (d.1 ∷ w) f (behind d r)

chars_both : {q : ℕ} {l m : List Placed} {x y : List ℕ × List Placed} (t : Bool) (d : Placed) → d.0 < q → CutAt q l m → CharsSame q l m x y
    → CharsSame q (d ∷ l) (d ∷ m) (pick t (d.1 ∷ x.0, x.1) ([], d ∷ l)) (pick t (d.1 ∷ y.0, y.1) ([], d ∷ m))
chars_both true d h c (chars_same w e r s) = chars_same (d.1 ∷ w) e (behind d r) (behind d s)
chars_both true d h c (chars_cut a b) = chars_cut (chars_behind d a) (chars_behind d b)
chars_both false d h c s = chars_same [] (both d h c) whole whole

chars_same_lem : {q : ℕ} {l m : List Placed} → CutAt q l m → CharsSame q l m (characters l) (characters m)
unfolding characters is_capital is_digit
chars_same_lem (end p h e) = chars_cut (chars_late [] (last p h) whole) (chars_late_lem e)
chars_same_lem (go g p h k e) = chars_same [] (go g p h k e) whole whole
chars_same_lem (both d h c) = chars_both (is_capital d.1 || is_digit d.1) d h c (chars_same_lem c)

kind-late : {P : ℕ → Type 0} {l : List Placed} (w : List ℕ) → Ended P l → Late P l (with_kind w l)
unfolding with_kind
kind-late w (last p h) = late_rest (cut_name w) (last p h) whole
kind-late w (more d h e) = late-pick (eqb d.1 37 || eqb d.1 36) (λ t. late_rest (cut_name (w ++ (d.1 ∷ []))) e (behind d whole)) (λ t. late_rest (cut_name w) (more d h e) whole)

kind-same : {q : ℕ} {l m : List Placed} (w : List ℕ) → CutAt q l m → Same q l m (with_kind w l) (with_kind w m)
unfolding with_kind
kind-same w (end p h e) = all_late (late_rest (cut_name w) (last p h) whole) (kind-late w e)
kind-same w (go g p h k e) = same_rest (cut_name w) (go g p h k e) whole whole
kind-same w (both d h c) =
    same-pick (eqb d.1 37 || eqb d.1 36) (λ t. same_rest (cut_name (w ++ (d.1 ∷ []))) c (behind d whole) (behind d whole)) (λ t. same_rest (cut_name w) (both d h c) whole whole)

late-kind : {P : ℕ → Type 0} {l : List Placed} {r : List ℕ × List Placed} → CharsLate P l r → Late P l (with_kind r.0 r.1)
late-kind (chars_late w e r) = late-rest r (kind-late w e)

same-kind : {q : ℕ} {l m : List Placed} {x y : List ℕ × List Placed} → CharsSame q l m x y → Same q l m (with_kind x.0 x.1) (with_kind y.0 y.1)
same-kind (chars_same w c r s) = same-rest r s (kind-same w c)
same-kind (chars_cut a b) = all_late (late-kind a) (late-kind b)

pub name-late : {P : ℕ → Type 0} {l : List Placed} → Ended P l → Late P l (name l)
unfolding name is_capital
name-late (last p h) = late_lack p h
name-late (more d h e) = late-pick (is_capital d.1) (λ t. late-kind (chars_late_lem (more d h e))) (λ t. late_lack d.0 h)

pub name-same : {q : ℕ} {l m : List Placed} → CutAt q l m → Same q l m (name l) (name m)
unfolding name is_capital
name-same (end p h e) = all_late (late_lack p h) (name-late e)
name-same (go g p h k e) = same_lack g
name-same (both d h c) = same-pick (is_capital d.1) (λ t. same-kind (chars_same_lem (both d h c))) (λ t. same_lack d.0)

-- ---- lists of them

abbrev pub LateUpTo : {A : Type 0} → (ℕ → Type 0) → ℕ → (List Placed → Found A) → Type 0
LateUpTo P k g = (l : List Placed) → length l ≤ k → Ended P l → Late P l (g l)

abbrev pub SameUpTo : {A : Type 0} → ℕ → ℕ → ℕ → (List Placed → Found A) → (List Placed → Found A) → Type 0
SameUpTo q k n g j = (l m : List Placed) → length l ≤ k → length m ≤ n → CutAt q l m → Same q l m (g l) (j m)

after-late : {A : Type 0} {P : ℕ → Type 0} {l : List Placed} (k : ℕ) (a : A) (g : List Placed → Found (List A)) → LateUpTo P k g
    → length l ≤ suc k → Ended P l → Late P l (after_comma a g l)
unfolding after_comma
after-late k a g f h (last p e) = late_rest (a ∷ []) (last p e) whole
after-late k a g f h (more d i e) =
    late-pick (eqb d.1 44) (λ t. late-rest (behind d whole) (late-map (λ bs. a ∷ bs) (f _ (omega arith) e))) (λ t. late_rest (a ∷ []) (more d i e) whole)

late-after : {A : Type 0} {P : ℕ → Type 0} {l : List Placed} {x : Found A} (k : ℕ) (g : List Placed → Found (List A)) → LateUpTo P k g
    → length l ≤ suc k → Late P l x → Late P l (elim x [ lacks p ↦ lacks p | found a r ↦ after_comma a g r ])
late-after k g f h (late_lack p i) = late_lack p i
late-after k g f h (late_rest a e r) = let c = rest-length r in late-rest r (after-late k a g f (omega arith) e)

after-same : {A : Type 0} {q : ℕ} {l m : List Placed} (k n : ℕ) (a : A) (g j : List Placed → Found (List A))
    → LateUpTo (From q) n j
    → SameUpTo q k n g j
    → length l ≤ suc k → length m ≤ suc n → CutAt q l m → Same q l m (after_comma a g l) (after_comma a j m)
unfolding after_comma
after-same k n a g j f w h i (end p e c) = all_late (late_rest (a ∷ []) (last p e) whole) (after-late n a j f i c)
after-same k n a g j f w h i (go b p e o c) = same_rest (a ∷ []) (go b p e o c) whole whole
after-same k n a g j f w h i (both d e c) =
    same-pick (eqb d.1 44) (λ t. same-rest (behind d whole) (behind d whole) (same-map (λ bs. a ∷ bs) (w _ _ (omega arith) (omega arith) c)))
    (λ t. same_rest (a ∷ []) (both d e c) whole whole)

same-after : {A : Type 0} {q : ℕ} {l m : List Placed} {x y : Found A} (k n : ℕ) (g j : List Placed → Found (List A))
    → LateUpTo (From q) k g → LateUpTo (From q) n j
    → SameUpTo q k n g j
    → length l ≤ suc k → length m ≤ suc n → Same q l m x y
    → Same q l m (elim x [ lacks p ↦ lacks p | found a r ↦ after_comma a g r ]) (elim y [ lacks p ↦ lacks p | found a r ↦ after_comma a j r ])
same-after k n g j e f w h i (same_rest a c r s) = let b = rest-length r in let d = rest-length s in same-rest r s (after-same k n a g j f w (omega arith) (omega arith) c)
same-after k n g j e f w h i (same_lack p) = same_lack p
same-after k n g j e f w h i (all_late a b) = all_late (late-after k g e h a) (late-after n j f i b)
same-after k n g j e f w h i (crosses a p c o u v) = crosses (late-after k g e h a) p c o u v

pub ended-some : {P : ℕ → Type 0} {l : List Placed} → Ended P l → 0 < length l
ended-some (last p h) = omega arith
ended-some (more d h e) = omega arith

pub cut_some : {q : ℕ} {l m : List Placed} → CutAt q l m → (0 < length l) × (0 < length m)
cut_some (end p h e) = (omega arith, ended-some e)
cut_some (go g p h k e) = (omega arith, omega arith)
cut_some (both d h c) = (omega arith, omega arith)

module _ {A : Type 0} (f : List Placed → Found A) where
  pub several-late : (P : ℕ → Type 0) → ((l : List Placed) → Ended P l → Late P l (f l)) → (k : ℕ) → LateUpTo P k (several f k)
  unfolding several
  several-late P f_late zero l h e = absurd (let c = ended-some e in omega arith)
  several-late P f_late (suc k) l h e = late-after k (several f k) (several-late P f_late k) h (f_late l e)

  module _ (q : ℕ) (f_late : (l : List Placed) → Ended (From q) l → Late (From q) l (f l)) (f_same : (l m : List Placed) → CutAt q l m → Same q l m (f l) (f m)) where
    pub several-same : (k n : ℕ) → SameUpTo q k n (several f k) (several f n)
    unfolding several
    several-same zero n l m h i c = absurd (let s = cut_some c in omega arith)
    several-same (suc k) zero l m h i c = absurd (let s = cut_some c in omega arith)
    several-same (suc k) (suc n) l m h i c =
        same-after k n (several f k) (several f n) (several-late (From q) f_late k) (several-late (From q) f_late n) (several-same k n) h i (f_same l m c)
