-- One list stored behind others, in any tables: nothing changes where it does not fit. Assumes nothing.
use Rattle.std.specs.Prelude.{ℕ, ◌+◌, ◌*◌, ◌≤◌, ◌<◌, ◌≡◌, refl, Bool, true, false, ◌&&◌, List, length, take}
use Rattle.std.proofs.Common.{sym, ◌∙◌, arith, take_all}
use borrow.Author.Tests.{leb-true, le-leb, lt-leb}
use Rattle.std.proofs.Math.Dec.{leb}
use Rattle.layout.specs.Layout.{list_entries}
use Rattle.listings.specs.Tests.{both_true}
use Rattle.tables.specs.Readable.{both_so}
use Rattle.passes.specs.EdgeTable.{Appended}
use Rattle.passes.specs.Connecting.{no}

-- the node has a row, and a list of so many entries from `at` on ends within the table, at an entry that a row can name
unfoldable pub append_fits : (node at count : ℕ) (lists succ : List ℕ) → Bool
append_fits node at count lists succ = leb (node * list_entries + list_entries) (length lists) && (leb (at + count) (length succ) && leb (at + count) 65535)

pub record Unchanged (at : ℕ) (lists lists' succ succ' : List ℕ) (r : ℕ) : Type 0 where
  pub answer : r ≡ at
  pub lists_same : lists' ≡ lists
  pub succ_same : succ' ≡ succ

pub record AppendAnswered (node at : ℕ) (l lists lists' succ succ' : List ℕ) (r : ℕ) : Type 0 where
  pub fitting : append_fits node at (length l) lists succ ≡ true → Appended node at (length l) l lists lists' succ succ' r
  pub other : append_fits node at (length l) lists succ ≡ false → Unchanged at lists lists' succ succ' r

-- the same list and count in other words
pub appended_as : {node at c c' r : ℕ} {l l' lists lists' succ succ' : List ℕ} → c ≡ c' → l ≡ l' → Appended node at c l lists lists' succ succ' r → Appended node at c' l' lists lists' succ succ' r
appended_as p q a = rw (← p, ← q) a

module _ (node at count : ℕ) (lists succ : List ℕ) where
  pub append-fits : append_fits node at count lists succ ≡ true → (node * 4 + 4 ≤ length lists) × (at + count ≤ length succ) × (at + count < 65536)
  unfolding append_fits
  append-fits h =
      let a = both_true (leb (node * 4 + 4) (length lists)) (leb (at + count) (length succ) && leb (at + count) 65535) h in
      let b = both_true (leb (at + count) (length succ)) (leb (at + count) 65535) a.1 in
      (leb-true (node * 4 + 4) (length lists) a.0, leb-true (at + count) (length succ) b.0, omega (arith, leb-true (at + count) 65535 b.1))

  pub fits-append : node * 4 + 4 ≤ length lists → at + count ≤ length succ → at + count < 65536 → append_fits node at count lists succ ≡ true
  unfolding append_fits
  fits-append f g h =
      both_so (leb (node * 4 + 4) (length lists)) (leb (at + count) (length succ) && leb (at + count) 65535) (le-leb (node * 4 + 4) (length lists) f)
      (both_so (leb (at + count) (length succ)) (leb (at + count) 65535) (le-leb (at + count) (length succ) g) (le-leb (at + count) 65535 (omega arith)))

  -- as the code answers
  pub append_no_row : length lists < node * 4 + 4 → false ≡ append_fits node at count lists succ
  unfolding append_fits
  append_no_row h = rw (lt-leb (node * 4 + 4) (length lists) h)

  module _ (f : node * 4 + 4 ≤ length lists) where
    pub append_no_room : length succ < at + count → false ≡ append_fits node at count lists succ
    unfolding append_fits
    append_no_room h = rw (le-leb (node * 4 + 4) (length lists) f, lt-leb (at + count) (length succ) h)

    pub append_by : at + count ≤ length succ → leb (at + count) 65535 ≡ append_fits node at count lists succ
    unfolding append_fits
    append_by h = rw (le-leb (node * 4 + 4) (length lists) f, le-leb (at + count) (length succ) h)

module _ {node at : ℕ} {l lists lists' succ succ' : List ℕ} {r : ℕ} where
  pub answered-fits : (x : Bool) → x ≡ append_fits node at (length l) lists succ → x ≡ true → Appended node at (length l) (take (length l) l) lists lists' succ succ' r → AppendAnswered node at l lists lists' succ succ' r
  answered-fits x e t a =
      let q = take_all (length l) l (omega arith) in
      record { fitting = λ h. rw q at a; other = λ h. no (sym t ∙ e ∙ h) }

pub answered-other : (node at : ℕ) (l lists succ : List ℕ) (x : Bool) → x ≡ append_fits node at (length l) lists succ → x ≡ false → AppendAnswered node at l lists lists succ succ at
answered-other node at l lists succ x e f = record { fitting = λ h. no (sym h ∙ sym e ∙ f); other = λ h. record { answer = refl; lists_same = refl; succ_same = refl } }

-- ---- where it fits

pub answered_appended : {node at : ℕ} {l lists lists' succ succ' : List ℕ} {r : ℕ} (count : ℕ) → count ≡ length l → (count ≤ length l) × (at + count ≤ length succ) × (at + count < 65536) × (node * 4 + 4 ≤ length lists)
    → AppendAnswered node at l lists lists' succ succ' r → Appended node at count (take count l) lists lists' succ succ' r
answered_appended {node} {at} {l} {lists} {succ = succ} count e f t =
    appended_as (sym e) (sym (take_all count l (omega arith))) (t.fitting (fits-append node at (length l) lists succ f.3 (omega (arith, f.1, e)) (omega (arith, f.2, e))))
