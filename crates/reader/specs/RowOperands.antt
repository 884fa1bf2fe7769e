-- A row of text gives the operands that it says. Assumes nothing.
use Rattle.std.specs.Prelude.{◌≡◌, refl, List, ℕ, ◌≤◌, length, Ok, Err}
use Rattle.std.proofs.Common.{sym, ◌∙◌}
use Rattle.std.proofs.Math.Path.{ap, subst}
use Rattle.listings.specs.Rows.{split, malformed, invalid, parsed, Content, no_form, end_row, stmts_row, module_row, line_row, to_row, simple_row, cond_row, content_of, row_of}
use Rattle.listings.specs.Listing.{Simple, jump, on, for, next, block, bare}
use Rattle.listings.specs.ListingText.{simple_word}
use Rattle.listings.specs.Cut.{cut_simple}
use Rattle.listing_laws.specs.CutLaws.{cut_content}
use Rattle.reader.specs.CodedRows.{word_number, as_row, Said}
use Rattle.reader.specs.AcceptedRows.{uncounted}
use Rattle.reader.specs.Operands.{opening_word, row_entries, row_detail, inside, stated}
use Rattle.reader.specs.Fill.{Operands, no_operands, written_row, operands_of, Says}
use Rattle.reader.specs.declared.rows.Row.TheVariants as row

-- ---- what the code reads of a row l

abbrev pub operands_in : List ℕ → Operands
operands_in l = record { entries = row_entries (split 32 (inside l)); detail = row_detail (split 32 (inside l)) }

abbrev pub row_operands : List ℕ → Said → Operands
row_operands l (Err m) = no_operands
row_operands l (Ok row.End) = no_operands
row_operands l (Ok row.Stmts) = no_operands
row_operands l (Ok (row.Module h)) = no_operands
row_operands l (Ok (row.Line n)) = no_operands
row_operands l (Ok (row.To n)) = no_operands
row_operands l (Ok (row.Simple k n)) = operands_in l
row_operands l (Ok (row.Cond k)) = no_operands

-- what it needs of the row: brackets, and the number of the opening word
abbrev pub IsStatement : List ℕ → ℕ → Type 0
IsStatement l k = (2 ≤ length l) × (k ≡ opening_word (split 32 (inside l)))

abbrev pub RowReady : List ℕ → Said → Type 0
RowReady l (Err m) = Unit {0}
RowReady l (Ok row.End) = Unit {0}
RowReady l (Ok row.Stmts) = Unit {0}
RowReady l (Ok (row.Module h)) = Unit {0}
RowReady l (Ok (row.Line n)) = Unit {0}
RowReady l (Ok (row.To n)) = Unit {0}
RowReady l (Ok (row.Simple k n)) = IsStatement l k
RowReady l (Ok (row.Cond k)) = Unit {0}

-- ---- by what the row says, with its names cut

word_cut : (o : Simple) → word_number (cut_simple o) ≡ word_number o
unfolding cut_simple simple_word
word_cut (for v t) = refl
word_cut (next m ss) = refl
word_cut (jump w n) = refl
word_cut (on w ns) = refl
word_cut (block w) = refl
word_cut (bare w) = refl

-- the cut changes operands alone
pub row_cut : (d : Content) → as_row (cut_content d) ≡ as_row d
unfolding cut_content
row_cut no_form = refl
row_cut end_row = refl
row_cut stmts_row = refl
row_cut (module_row h) = refl
row_cut (line_row n) = refl
row_cut (to_row n) = refl
row_cut (simple_row malformed) = refl
row_cut (simple_row invalid) = refl
row_cut (simple_row (parsed d)) = ap {B = Said} (λ (k : ℕ). Ok (row.Simple k d.1)) (word_cut d.0)
row_cut (cond_row k) = refl

Agrees : List ℕ → Content → Type 0
Agrees l d = (row_operands l (written_row d) ≡ operands_of (cut_content d)) × RowReady l (written_row d)

agrees : (l : List ℕ) (d : Content) → content_of (row_of l) ≡ d → Agrees l d
unfolding Agrees cut_content
agrees l no_form e = (refl, tt)
agrees l end_row e = (refl, tt)
agrees l stmts_row e = (refl, tt)
agrees l (module_row h) e = (refl, tt)
agrees l (line_row malformed) e = (refl, tt)
agrees l (line_row invalid) e = (refl, tt)
agrees l (line_row (parsed n)) e = (refl, tt)
agrees l (to_row malformed) e = (refl, tt)
agrees l (to_row invalid) e = (refl, tt)
agrees l (to_row (parsed n)) e = (refl, tt)
agrees l (simple_row malformed) e = (refl, tt)
agrees l (simple_row invalid) e = (refl, tt)
agrees l (simple_row (parsed d)) e = let q = stated l d e in (rw (q.entries, q.detail), (q.long, sym q.word))
agrees l (cond_row k) e = (refl, tt)

module _ (l : List ℕ) (e : Said) (is : e ≡ written_row (content_of (row_of l))) where
  pub row_says : Says (cut_content (content_of (row_of l))) e (row_operands l e)
  unfolding Agrees
  row_says = record { row = is ∙ ap uncounted (sym (row_cut (content_of (row_of l)))); operands = ap (row_operands l) is ∙ (agrees l (content_of (row_of l)) refl).0 }

  pub row_ready : RowReady l e
  unfolding Agrees
  row_ready = subst (RowReady l) (sym is) (agrees l (content_of (row_of l)) refl).1
