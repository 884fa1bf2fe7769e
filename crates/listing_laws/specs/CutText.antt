-- A cut listing is in form: its text is no longer (document 02, L2). Assumes nothing.
use Rattle.std.specs.Prelude.{ℕ, ◌≤◌, ◌≡◌, List, [], ◌∷◌, map, length}
use Rattle.std.proofs.Common.{ap, ◌∙◌, arith, length-append}
use Rattle.std.proofs.Math.Option.{none, some}
use Rattle.listings.specs.Listing.{Slot, Simple, jump, on, for, next, block, bare, Listing}
use Rattle.listings.specs.Rows.{malformed, invalid, parsed, Content, no_form, end_row, stmts_row, module_row, line_row, to_row, simple_row, cond_row}
use Rattle.listings.specs.ListingText.{spaced_words, closed_form, slot_word, simple_word, simple_args, simple_text, listing_rows, text_of, listing_text, InForm}
use Rattle.listing_laws.specs.Contents.{text_by, row_text, contents, listing_rows_lem}
use Rattle.listings.specs.Cut.{cut_name, cut_slot, cut_simple, cut_listing}
use Rattle.listing_laws.specs.CutLaws.{name-length, cut_within, cut_content, contents_cut}

slots_length : (ss : List Slot) → length (spaced_words (map slot_word (map cut_slot ss))) ≤ length (spaced_words (map slot_word ss))
unfolding spaced_words slot_word cut_slot cut_name
slots_length [] = omega arith
slots_length (none ∷ ss) = simp length-append (omega (arith, slots_length ss))
slots_length (some v ∷ ss) = simp length-append (omega (arith, slots_length ss, name-length 2 v))

simple_length : (o : Simple) → length (simple_text (cut_simple o)) ≤ length (simple_text o)
unfolding simple_text simple_word simple_args closed_form spaced_words cut_simple cut_name
simple_length (for v t) = simp length-append (omega (arith, name-length 2 v))
simple_length (next m ss) = simp length-append (omega (arith, slots_length ss))
simple_length (jump w n) = omega arith
simple_length (on w ns) = omega arith
simple_length (block w) = omega arith
simple_length (bare w) = omega arith

row_length : (d : Content) → length (row_text (cut_content d)) ≤ length (row_text d)
unfolding row_text text_by cut_content
row_length no_form = omega arith
row_length end_row = omega arith
row_length stmts_row = omega arith
row_length (module_row h) = omega arith
row_length (line_row n) = omega arith
row_length (to_row n) = omega arith
row_length (simple_row malformed) = omega arith
row_length (simple_row invalid) = omega arith
row_length (simple_row (parsed d)) = simple_length d.0
row_length (cond_row k) = omega arith

rows-length : (ds : List Content) → length (text_of (map row_text (map cut_content ds))) ≤ length (text_of (map row_text ds))
unfolding text_of
rows-length [] = omega arith
rows-length (d ∷ ds) = simp length-append (omega (arith, row_length d, rows-length ds))

pub cut_in_form : (L : Listing) → InForm L → InForm (cut_listing L)
unfolding listing_text
cut_in_form L h =
    let e : listing_rows (cut_listing L) ≡ map row_text (map cut_content (contents L)) = listing_rows_lem (cut_listing L) ∙ ap (map row_text) (contents_cut L) in
    record {
      within = cut_within L h.within;
      byte_count = omega (arith, h.byte_count, ap (λ (rs : List (List ℕ)). length (text_of rs)) e, ap (λ (rs : List (List ℕ)). length (text_of rs)) (listing_rows_lem L), rows-length (contents L));
    }
