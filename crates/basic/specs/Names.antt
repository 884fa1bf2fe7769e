-- A name's key, read byte by byte. Assumes nothing.
use Rattle.std.specs.Prelude.{◌≡◌, refl, ℕ, zero, suc, ◌+◌, ◌*◌, ◌-◌, ◌<◌, ◌≤◌, List, [], ◌∷◌, ◌++◌, Bool, true, false, ◌||◌, eqb, length}
use Rattle.std.proofs.Common.{sym, ap, ◌∙◌, arith, ⊎_elim, eqb-true}
use Rattle.std.proofs.Math.Nat.{mul-le-mul_left}
use Rattle.listings.specs.Bytes.{pick}
use Rattle.listings.specs.Listing.{Name}
use Rattle.listings.specs.Tests.{either_true}
use Rattle.listings.specs.Records.{name_key}
use Rattle.listings.specs.Rows.{is_capital, is_digit}
use Rattle.listings.specs.Cut.{cut_to, cut_name}
use Rattle.listing_laws.specs.NumberText.{digit_range}
use Rattle.listing_laws.specs.WordText.{capital_range}
use Rattle.program_files.specs.Program as definition
use Rattle.program_files.specs.Program.{Placed, Found, map_found, characters, with_kind, name}

abbrev is_character : ℕ → Bool
is_character b = is_capital b || is_digit b

abbrev is_kind : ℕ → Bool
is_kind b = eqb b 37 || eqb b 36

pub character_range : (b : ℕ) → (is_capital b || is_digit b) ≡ true → (48 ≤ b) × (b ≤ 90)
character_range b h =
    ⊎_elim (λ x. let r = capital_range b x in (omega arith, omega arith)) (λ x. let r = digit_range b x in (omega arith, omega arith)) (either_true (is_capital b) (is_digit b) h)

pub kind_range : (b : ℕ) → (eqb b 37 || eqb b 36) ≡ true → (36 ≤ b) × (b ≤ 90)
kind_range b h =
    ⊎_elim (λ x. let r = eqb-true b 37 x in (omega arith, omega arith)) (λ x. let r = eqb-true b 36 x in (omega arith, omega arith)) (either_true (eqb b 37) (eqb b 36) h)

-- ---- what was found, mapped

map-twice : {A B C : Type 0} (g : B → C) (f : A → B) (x : Found A) → map_found g (map_found f x) ≡ map_found (λ a. g (f a)) x
unfolding map_found
map-twice g f (definition.found a l) = refl
map-twice g f (definition.lacks p) = refl

map-same : {A B : Type 0} (f g : A → B) (x : Found A) → ((a : A) → f a ≡ g a) → map_found f x ≡ map_found g x
unfolding map_found
map-same f g (definition.found a l) h = ap (λ b. definition.found b l) (h a)
map-same f g (definition.lacks p) h = refl

map-id : {A : Type 0} (f : A → A) (x : Found A) → ((a : A) → f a ≡ a) → map_found f x ≡ x
unfolding map_found
map-id f (definition.found a l) h = ap (λ b. definition.found b l) (h a)
map-id f (definition.lacks p) h = refl

-- ---- the key of a name's end

-- of what the cut keeps behind 2 - k characters, of the name's end in l
rest_key : ℕ → List Placed → Found ℕ
rest_key k [] = definition.found 0 []
rest_key zero (d ∷ l) = pick (is_character d.1) (rest_key 0 l) (pick (is_kind d.1) (definition.found (d.1 - 32) l) (definition.found 0 (d ∷ l)))
rest_key (suc k) (d ∷ l) =
    pick (is_character d.1) (map_found (λ n. (d.1 - 32) + 64 * n) (rest_key k l)) (pick (is_kind d.1) (definition.found (d.1 - 32) l) (definition.found 0 (d ∷ l)))

cut_key : ℕ → List ℕ → ℕ
cut_key k w = name_key (cut_to k w)

-- the characters and the kind, not cut
uncut : List ℕ → List Placed → Found (List ℕ)
uncut v [] = definition.found v []
uncut v (d ∷ l) = pick (is_kind d.1) (definition.found (v ++ (d.1 ∷ [])) l) (definition.found v (d ∷ l))

uncut_cut : (v : List ℕ) (l : List Placed) → map_found name_key (with_kind v l) ≡ map_found (cut_key 2) (uncut v l)
unfolding map_found with_kind uncut cut_name cut_key
uncut_cut v [] = refl
uncut_cut v (d ∷ l) = go (is_kind d.1)
  where
    go : (x : Bool) → map_found name_key (pick x (definition.found (cut_name (v ++ (d.1 ∷ []))) l) (definition.found (cut_name v) (d ∷ l)))
        ≡ map_found (cut_key 2) (pick x (definition.found (v ++ (d.1 ∷ [])) l) (definition.found v (d ∷ l)))
    go true = refl
    go false = refl

uncut_first : (b : ℕ) (v : List ℕ) (l : List Placed) → uncut (b ∷ v) l ≡ map_found (λ w. b ∷ w) (uncut v l)
unfolding map_found uncut
uncut_first b v [] = refl
uncut_first b v (d ∷ l) = go (is_kind d.1)
  where
    go : (x : Bool) → pick x (definition.found (b ∷ v ++ (d.1 ∷ [])) l) (definition.found (b ∷ v) (d ∷ l))
        ≡ map_found (λ w. b ∷ w) (pick x (definition.found (v ++ (d.1 ∷ [])) l) (definition.found v (d ∷ l)))
    go true = refl
    go false = refl

whole : List Placed → Found (List ℕ)
whole l = let r = characters l in uncut r.0 r.1

whole_more : (d : Placed) (l : List Placed) → is_character d.1 ≡ true → whole (d ∷ l) ≡ map_found (λ w. d.1 ∷ w) (whole l)
unfolding characters whole
whole_more d l e = rw e (uncut_first d.1 (characters l).0 (characters l).1)

whole_end : (d : Placed) (l : List Placed) → is_character d.1 ≡ false → whole (d ∷ l) ≡ uncut [] (d ∷ l)
unfolding characters whole
whole_end d l e = rw e

cut_nil : (k : ℕ) → cut_key k [] ≡ 0
unfolding cut_key cut_to name_key
cut_nil zero = refl
cut_nil (suc k) = refl

cut_kind : (k b : ℕ) → is_character b ≡ false → cut_key k (b ∷ []) ≡ b - 32
unfolding cut_key cut_to name_key
cut_kind zero b e = rw e (omega arith)
cut_kind (suc k) b e = rw (cut_nil k) (omega arith)

cut_over : (b : ℕ) (w : List ℕ) → is_character b ≡ true → cut_key 0 (b ∷ w) ≡ cut_key 0 w
unfolding cut_key cut_to name_key
cut_over b w e = rw e

cut_first_lem : (k b : ℕ) (w : List ℕ) → cut_key (suc k) (b ∷ w) ≡ (b - 32) + 64 * cut_key k w
unfolding cut_key cut_to name_key
cut_first_lem k b w = refl

-- ---- rest_key, by the first byte

module _ (p b : ℕ) (l m : List Placed) (e : l ≡ (p, b) ∷ m) where
  rest_over : is_character b ≡ true → rest_key 0 l ≡ rest_key 0 m
  unfolding rest_key
  rest_over h = rw (e, h)

  rest-first : (k : ℕ) → is_character b ≡ true → rest_key (suc k) l ≡ map_found (λ n. (b - 32) + 64 * n) (rest_key k m)
  unfolding rest_key
  rest-first k h = rw (e, h)

  rest-kind : (k : ℕ) → is_character b ≡ false → is_kind b ≡ true → rest_key k l ≡ definition.found (b - 32) m
  unfolding rest_key
  rest-kind zero h g = rw (e, h, g)
  rest-kind (suc k) h g = rw (e, h, g)

  rest_end : (k : ℕ) → is_character b ≡ false → is_kind b ≡ false → rest_key k l ≡ definition.found 0 l
  unfolding rest_key
  rest_end zero h g = rw (e, h, g)
  rest_end (suc k) h g = rw (e, h, g)

rest_tail : (k : ℕ) (d : Placed) (l : List Placed) → is_character d.1 ≡ false → map_found (cut_key k) (uncut [] (d ∷ l)) ≡ rest_key k (d ∷ l)
unfolding uncut map_found
rest_tail k d l e = go (is_kind d.1) refl
  where
    go : (x : Bool) → is_kind d.1 ≡ x → map_found (cut_key k) (uncut [] (d ∷ l)) ≡ rest_key k (d ∷ l)
    go true g = rw (rest-kind d.0 d.1 (d ∷ l) l refl k e g, g) (ap (λ n. definition.found n l) (cut_kind k d.1 e))
    go false g = rw (rest_end d.0 d.1 (d ∷ l) l refl k e g, g) (ap (λ n. definition.found n (d ∷ l)) (cut_nil k))

rest_is : (k : ℕ) (l : List Placed) → map_found (cut_key k) (whole l) ≡ rest_key k l
unfolding rest_key whole characters uncut map_found
rest_is zero [] = ap (λ n. definition.found n []) (cut_nil 0)
rest_is (suc k) [] = ap (λ n. definition.found n []) (cut_nil (suc k))
rest_is zero (d ∷ l) = go (is_character d.1) refl (rest_is zero l)
  where
    go : (x : Bool) → is_character d.1 ≡ x → map_found (cut_key 0) (whole l) ≡ rest_key 0 l → map_found (cut_key 0) (whole (d ∷ l)) ≡ rest_key 0 (d ∷ l)
    go true e h =
        ap (map_found (cut_key 0)) (whole_more d l e) ∙ map-twice (cut_key 0) (λ w. d.1 ∷ w) (whole l) ∙ map-same (λ w. cut_key 0 (d.1 ∷ w)) (cut_key 0) (whole l) (λ w. cut_over d.1 w e) ∙ h
        ∙ sym (rest_over d.0 d.1 (d ∷ l) l refl e)
    go false e h = ap (map_found (cut_key 0)) (whole_end d l e) ∙ rest_tail 0 d l e
rest_is (suc k) (d ∷ l) = go (is_character d.1) refl (rest_is k l)
  where
    go : (x : Bool) → is_character d.1 ≡ x → map_found (cut_key k) (whole l) ≡ rest_key k l → map_found (cut_key (suc k)) (whole (d ∷ l)) ≡ rest_key (suc k) (d ∷ l)
    go true e h =
        ap (map_found (cut_key (suc k))) (whole_more d l e) ∙ map-twice (cut_key (suc k)) (λ w. d.1 ∷ w) (whole l)
        ∙ map-same (λ w. cut_key (suc k) (d.1 ∷ w)) (λ w. (d.1 - 32) + 64 * cut_key k w) (whole l) (cut_first_lem k d.1) ∙ sym (map-twice (λ n. (d.1 - 32) + 64 * n) (cut_key k) (whole l))
        ∙ ap (map_found (λ n. (d.1 - 32) + 64 * n)) h ∙ sym (rest-first d.0 d.1 (d ∷ l) l refl k e)
    go false e h = ap (map_found (cut_key (suc k))) (whole_end d l e) ∙ rest_tail (suc k) d l e

-- ---- a name, read up to some byte

name_is : (p b : ℕ) (l m : List Placed) → l ≡ (p, b) ∷ m → is_capital b ≡ true → name l ≡ with_kind (characters l).0 (characters l).1
unfolding name
name_is p b l m e h = rw (e, h)

pub name-none : (p b : ℕ) (l m : List Placed) → l ≡ (p, b) ∷ m → is_capital b ≡ false → map_found name_key (name l) ≡ definition.lacks p
unfolding name map_found
name-none p b l m e h = rw (e, h)

-- 64 to the power 2 - k
weigh : ℕ → ℕ
weigh zero = 4096
weigh (suc zero) = 64
weigh (suc (suc k)) = 1

-- key, of a name from k on, was read up to l; weight is the next kept byte's
pub record IsKeyed (k l : List Placed) (key weight : ℕ) : Type 0 where
  room : ℕ
  small : room ≤ 2
  weighs : weight ≡ weigh room
  below : key < weight
  left : map_found name_key (name k) ≡ map_found (λ n. key + weight * n) (rest_key room l)

pub keyed_none : (p b : ℕ) (l m : List Placed) → l ≡ (p, b) ∷ m → is_capital b ≡ true → IsKeyed l l 0 1
unfolding weigh whole
keyed_none p b l m e h = record {
  room = 2;
  small = omega arith;
  weighs = refl;
  below = omega arith;
  left =
      ap (map_found name_key) (name_is p b l m e h) ∙ uncut_cut (characters l).0 (characters l).1 ∙ rest_is 2 l
      ∙ sym (map-id (λ n. 0 + 1 * n) (rest_key 2 l) (λ n. omega arith));
}

weigh_next : (k : ℕ) → suc k ≤ 2 → weigh (suc k) * 64 ≡ weigh k
unfolding weigh
weigh_next zero h = refl
weigh_next (suc zero) h = refl
weigh_next (suc (suc k)) h = absurd (omega arith)

weigh_most : (k : ℕ) → (weigh k ≤ 4096) × (4096 ≤ weigh k → k ≡ 0) × (weigh k < 4096 → 1 ≤ k)
unfolding weigh
weigh_most zero = (omega arith, λ h. refl, λ h. absurd (omega arith))
weigh_most (suc zero) = (omega arith, λ h. absurd (omega arith), λ h. omega arith)
weigh_most (suc (suc k)) = (omega arith, λ h. absurd (omega arith), λ h. omega arith)

-- with one byte more it is small still
pub sum_small : (k l : List Placed) (a w b : ℕ) → IsKeyed k l a w → b ≤ 90 → (a + w * (b - 32) ≤ 241664) × (w * (b - 32) ≤ 241664)
sum_small k l a w b r h =
    let y : b - 32 ≤ 58 = omega arith in
    let s : w ≤ 4096 = omega (arith, r.weighs, (weigh_most r.room).0) in
    (omega (arith, r.below, mul-le-mul_left w y), omega (arith, mul-le-mul_left w y))

module _ (k l m : List Placed) (a w p b : ℕ) (r : IsKeyed k l a w) (e : l ≡ (p, b) ∷ m) where
  -- the cut keeps b
  pub keyed_kept : (is_capital b || is_digit b) ≡ true → w < 4096 → IsKeyed k m (a + w * (b - 32)) (w * 64)
  keyed_kept h t = go r.room r.small r.weighs r.left
    where
      go : (j : ℕ) → j ≤ 2 → w ≡ weigh j → map_found name_key (name k) ≡ map_found (λ n. a + w * n) (rest_key j l) → IsKeyed k m (a + w * (b - 32)) (w * 64)
      go zero s q f = absurd (omega (arith, (weigh_most 0).2))
      go (suc j) s q f =
          let x = character_range b h in
          let y : b - 32 ≤ 58 = omega arith in record {
            room = j;
            small = omega arith;
            weighs = ap (λ z. z * 64) q ∙ weigh_next j s;
            below = omega (arith, r.below, mul-le-mul_left w y);
            left =
                f ∙ ap (map_found (λ n. a + w * n)) (rest-first p b l m e j h) ∙ map-twice (λ n. a + w * n) (λ n. (b - 32) + 64 * n) (rest_key j m)
                ∙ map-same (λ n. a + w * ((b - 32) + 64 * n)) (λ n. (a + w * (b - 32)) + (w * 64) * n) (rest_key j m) (λ n. omega arith);
          }

  -- the cut leaves b out
  pub keyed_cut : (is_capital b || is_digit b) ≡ true → 4096 ≤ w → IsKeyed k m a w
  keyed_cut h t = record {
    room = r.room;
    small = r.small;
    weighs = r.weighs;
    below = r.below;
    left =
        let z : r.room ≡ 0 = (weigh_most r.room).1 (omega (arith, r.weighs)) in
        r.left ∙ ap (λ j. map_found (λ n. a + w * n) (rest_key j l)) z ∙ ap (map_found (λ n. a + w * n)) (rest_over p b l m e h) ∙ ap (λ j. map_found (λ n. a + w * n) (rest_key j m)) (sym z);
  }

  pub keyed_kind : (is_capital b || is_digit b) ≡ false → (eqb b 37 || eqb b 36) ≡ true → map_found name_key (name k) ≡ definition.found (a + w * (b - 32)) m
  unfolding map_found
  keyed_kind h g = r.left ∙ ap (map_found (λ n. a + w * n)) (rest-kind p b l m e r.room h g)

  pub keyed_end : (is_capital b || is_digit b) ≡ false → (eqb b 37 || eqb b 36) ≡ false → map_found name_key (name k) ≡ definition.found a l
  unfolding map_found
  keyed_end h g = r.left ∙ ap (map_found (λ n. a + w * n)) (rest_end p b l m e r.room h g) ∙ ap (λ n. definition.found n l) (omega arith)

-- ---- a name that was found

characters_shorter : (l : List Placed) → length (characters l).1 ≤ length l
unfolding characters
characters_shorter [] = omega arith
characters_shorter (d ∷ l) = go (is_character d.1) (characters_shorter l)
  where
    go : (x : Bool) → length (characters l).1 ≤ length l → length (pick {A = List ℕ × List Placed} x (d.1 ∷ (characters l).0, (characters l).1) ([], d ∷ l)).1 ≤ suc (length l)
    go true h = omega arith
    go false h = omega arith

kind_shorter : (v : List ℕ) (l r : List Placed) (w : Name) → with_kind v l ≡ definition.found w r → length r ≤ length l
unfolding with_kind
kind_shorter v [] r w h = let e : [] ≡ r = cc in omega (arith, ap length e)
kind_shorter v (d ∷ l) r w h = go (is_kind d.1) h
  where
    go : (x : Bool) → pick x (definition.found (cut_name (v ++ (d.1 ∷ []))) l) (definition.found (cut_name v) (d ∷ l)) ≡ definition.found w r → length r ≤ suc (length l)
    go true h = let e : l ≡ r = cc in omega (arith, ap length e)
    go false h = let e : d ∷ l ≡ r = cc in omega (arith, ap length e)

characters-first : (d : Placed) (l : List Placed) → is_capital d.1 ≡ true → (characters (d ∷ l)).1 ≡ (characters l).1
unfolding characters
characters-first d l e = rw e

-- what follows it is shorter
pub name_shorter : (l r : List Placed) (w : Name) → name l ≡ definition.found w r → suc (length r) ≤ length l
unfolding name
name_shorter [] r w h = absurd (cc)
name_shorter (d ∷ l) r w h = go (is_capital d.1) refl h
  where
    go : (x : Bool) → is_capital d.1 ≡ x → pick x (with_kind (characters (d ∷ l)).0 (characters (d ∷ l)).1) (definition.lacks d.0) ≡ definition.found w r → suc (length r) ≤ suc (length l)
    go true e h =
        omega (arith, kind_shorter (characters (d ∷ l)).0 (characters (d ∷ l)).1 r w h, characters_shorter l, ap length (characters-first d l e))
    go false e h = absurd (cc)
