-- Reading a record's entry back from the tables. Assumes nothing.
use Rattle.std.specs.Prelude.{ℕ, zero, suc, ◌+◌, ◌*◌, ◌<◌, ◌≡◌, refl, List, [], ◌∷◌, ◌++◌, length, get_or}
use Rattle.std.proofs.Common.{append_assoc, arith, length-append, get_or-append-add}
use Rattle.std.proofs.Math.Option.{Option, none, some}
use Rattle.std.proofs.Math.ListN.{get_elem?, get_or-append}
use Rattle.listings.specs.Records.{Rec, rec_row, joined, rec_rows}

none-some : {A B : Type 0} {a : A} → ◌≡◌ {A = Option A} none (some a) → B
none-some e = absurd (let z : ◌≡◌ {A = ℕ} 0 1 = cc in omega arith)

-- a table of rows of equal length: entry c of row i
module _ {A : Type 0} (w : ℕ) (row : A → List ℕ) (rows : List A → List ℕ) (rows_none : rows [] ≡ []) (rows_more : (a : A) (l : List A) → rows (a ∷ l) ≡ row a ++ rows l)
    (width : (a : A) → length (row a) ≡ w) where
  pub row_at : (l : List A) (rest : List ℕ) (i c : ℕ) (a : A) → get_elem? l i ≡ some a → c < w → get_or (rows l ++ rest) (i * w + c) 0 ≡ get_or (row a) c 0
  row_at [] rest i c a e h = none-some e
  row_at (b ∷ l) rest zero c a e h =
      let p : b ≡ a = cc in
      let z : 0 * w + c ≡ c = omega arith in
      rw (rows_more b l, append_assoc, z, p) (get_or-append (row a) (rows l ++ rest) 0 c (omega (arith, width a)))
  row_at (b ∷ l) rest (suc i) c a e h =
      let z : suc i * w + c ≡ length (row b) + (i * w + c) = rw (width b) (omega arith) in
      rw (rows_more b l, append_assoc, z, get_or-append-add) (row_at l rest i c a e h)

  pub rows-length : (l : List A) → length (rows l) ≡ length l * w
  rows-length [] = rw rows_none (omega arith)
  rows-length (a ∷ l) = rw (rows_more a l, length-append, width a, rows-length l) (omega arith)

pub rec_width : (r : Rec) → ◌≡◌ {A = ℕ} (length (rec_row r)) 12
unfolding rec_row
rec_width r = refl

-- entry c of the record of statement i
pub rec_at : (rs : List Rec) (rest : List ℕ) (i c : ℕ) (r : Rec) → get_elem? rs i ≡ some r → c < 12 → get_or (rec_rows rs ++ rest) (i * 12 + c) 0 ≡ get_or (rec_row r) c 0
unfolding joined
rec_at = row_at 12 rec_row rec_rows refl (λ r rs. refl) rec_width

pub recs_length : (rs : List Rec) → length (rec_rows rs) ≡ length rs * 12
unfolding joined
recs_length = rows-length 12 rec_row rec_rows refl (λ r rs. refl) rec_width
