-- Bytes of a line that all count: no zero, space, quote, REM, DATA, GO or foreign byte among them, and nothing that is no byte. What the passes over a line make of these. Assumes nothing.
use Rattle.std.specs.Prelude.{ℕ, suc, ◌≤◌, ◌<◌, ◌≡◌, refl, List, [], ◌∷◌, ◌++◌, Bool, true, false, ◌&&◌, not, eqb, leb, length, drop}
use Rattle.std.proofs.Common.{ap, arith, ne_eqb, leb-true, le-leb}
use Rattle.std.proofs.lemmas.Bool.{not-true}
use Rattle.listings.specs.Rows.{all}
use Rattle.listings.specs.Scan.{index_of}
use Rattle.listings.specs.Tests.{both_true}
use Rattle.program_files.specs.Program.{Placed, uncovered, behind, counts, counted, join_go, foreign}

-- the bytes, each with its place from p on, and the line's zero
unfoldable pub placed : ℕ → List ℕ → List Placed
placed p [] = (p, 0) ∷ []
placed p (b ∷ l) = (p, b) ∷ placed (suc p) l

-- the first of these bytes
unfoldable pub first_byte : List ℕ → ℕ
first_byte [] = 0
first_byte (b ∷ l) = b

pub placed-length : (p : ℕ) (l : List ℕ) → length (placed p l) ≡ suc (length l)
unfolding placed
placed-length p [] = refl
placed-length p (b ∷ l) = ap suc (placed-length (suc p) l)

-- a byte, and no zero, space, quote, REM, DATA, GO or foreign one
unfoldable pub is_clean : ℕ → Bool
is_clean b = not (eqb b 0) && (not (eqb b 32) && (not (eqb b 34) && (not (eqb b 143) && (not (eqb b 131) && (not (eqb b 203) && (not (eqb b 100) && leb b 255))))))

record Clean (b : ℕ) : Type 0 where
  zero : eqb b 0 ≡ false
  space : eqb b 32 ≡ false
  quote : eqb b 34 ≡ false
  rem : eqb b 143 ≡ false
  data_token : eqb b 131 ≡ false
  go : eqb b 203 ≡ false
  odd : eqb b 100 ≡ false
  byte : leb b 255 ≡ true

clean_is : (b : ℕ) → is_clean b ≡ true → Clean b
unfolding is_clean
clean_is b h =
    let e = both_true (not (eqb b 0)) _ h in
    let f = both_true (not (eqb b 32)) _ e.1 in
    let g = both_true (not (eqb b 34)) _ f.1 in
    let i = both_true (not (eqb b 143)) _ g.1 in
    let j = both_true (not (eqb b 131)) _ i.1 in
    let k = both_true (not (eqb b 203)) _ j.1 in
    let l = both_true (not (eqb b 100)) _ k.1 in
    record {
      zero = not-true (eqb b 0) e.0;
      space = not-true (eqb b 32) f.0;
      quote = not-true (eqb b 34) g.0;
      rem = not-true (eqb b 143) i.0;
      data_token = not-true (eqb b 131) j.0;
      go = not-true (eqb b 203) k.0;
      odd = not-true (eqb b 100) l.0;
      byte = l.1;
    }

-- what a byte holds
abbrev pub Byte : ℕ → Type 0
Byte b = b < 256

pub clean_byte : (b : ℕ) → is_clean b ≡ true → Byte b
clean_byte b h = let q = leb-true b 255 (clean_is b h).byte in omega arith

-- digits, capitals, `%` and `$` are clean
pub clean_between : (b : ℕ) → 36 ≤ b → b ≤ 90 → is_clean b ≡ true
unfolding is_clean
clean_between b g h =
    let e0 = ne_eqb b 0 (λ e. omega arith) in
    let e32 = ne_eqb b 32 (λ e. omega arith) in
    let e34 = ne_eqb b 34 (λ e. omega arith) in
    let e143 = ne_eqb b 143 (λ e. omega arith) in
    let e131 = ne_eqb b 131 (λ e. omega arith) in
    let e203 = ne_eqb b 203 (λ e. omega arith) in
    let e100 = ne_eqb b 100 (λ e. omega arith) in
    rw (e0, e32, e34, e143, e131, e203, e100, le-leb b 255 (omega arith))

pub counted-placed : (p : ℕ) (l m : List ℕ) → all is_clean l ≡ true → counted uncovered p (l ++ (0 ∷ m)) ≡ placed p l
unfolding counted placed counts behind all
counted-placed p [] m h = refl
counted-placed p (b ∷ l) m h =
    let q = both_true (is_clean b) (all is_clean l) h in
    let c = clean_is b q.0 in
    rw (c.zero, c.space, c.quote, c.rem, c.data_token, counted-placed (suc p) l m q.1)

pub foreign-placed : (p : ℕ) (l : List ℕ) → all is_clean l ≡ true → foreign (placed p l) ≡ []
unfolding foreign placed all
foreign-placed p [] h = refl
foreign-placed p (b ∷ l) h = let q = both_true (is_clean b) (all is_clean l) h in rw ((clean_is b q.0).odd, foreign-placed (suc p) l q.1)

pub join-placed : (p : ℕ) (l : List ℕ) → all is_clean l ≡ true → join_go (placed p l) ≡ placed p l
unfolding join_go placed all
join-placed p [] h = refl
join-placed p (b ∷ []) h = let q = both_true (is_clean b) true h in rw (clean_is b q.0).go
join-placed p (b ∷ c ∷ l) h =
    let q = both_true (is_clean b) (all is_clean (c ∷ l)) h in
    rw (clean_is b q.0).go (ap (λ (k : List Placed). (p, b) ∷ k) (join-placed (suc p) (c ∷ l) q.1))

-- the line's zero is the first
pub zero-placed : (l m : List ℕ) → all is_clean l ≡ true → index_of 0 (l ++ (0 ∷ m)) ≡ length l
unfolding index_of all
zero-placed [] m h = refl
zero-placed (b ∷ l) m h = let q = both_true (is_clean b) (all is_clean l) h in rw ((clean_is b q.0).zero, zero-placed l m q.1)

pub drop_line : (l m : List ℕ) → drop (suc (length l)) (l ++ (0 ∷ m)) ≡ m
drop_line [] m = refl
drop_line (b ∷ l) m = drop_line l m
