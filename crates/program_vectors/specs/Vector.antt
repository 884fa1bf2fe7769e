-- Outside vectors: a saved program, and the text of the listing that it means or the row of its refusal. Assumes nothing.
use Rattle.std.specs.Prelude.{ℕ, ◌+◌, ◌*◌, ◌-◌, List, [], ◌∷◌, ◌++◌, Bool, true, false, ◌&&◌, leb}
use Prim.Native.String.{String}
use Rattle.listings.specs.Bytes.{bytes, same, pick, decimal}
use Rattle.listings.specs.Read.{Answer, listing, refusal}
use Rattle.listings.specs.ListingText.{spaced_words, closed_form, open_form, end_form, tier_word, mark_word, slot_word, jump_word, on_word, block_word, bare_word, simple_word, simple_args, simple_text, cond_word, cond_text, handler_word, branch_rows, stmt_rows, rows_of_lines, listing_rows, text_of, listing_text, listed, last_number}
use Rattle.listings.specs.Scan.{index_of}
use Rattle.listings.specs.Opened as listings
use Rattle.program_files.specs.Program.{behind, counts, counted, join_go, map_found, digits, line_number, characters, with_kind, name, after_comma, several, ends, seek, branch, if_action, on_action, next_action, run_action, action, pass_over, map_body, body_of, sooner, soonest, foreign, lacking, offences, shallow, short, with_line, stmts_in, judged, program, lines_from, loaded, read_program}

-- a digit, 0 to 9 or A to F
unfoldable pub hex_digit : ℕ → ℕ
hex_digit b = pick (leb 65 b) (b - 55) (b - 48)

-- two digits a byte
unfoldable pub hex_bytes : List ℕ → List ℕ
hex_bytes [] = []
hex_bytes (a ∷ []) = []
hex_bytes (a ∷ b ∷ l) = (hex_digit a * 16 + hex_digit b) ∷ hex_bytes l

-- a file in hexadecimal
pub record Vector : Type 0 where
  pub saved : String
  pub means : String

unfoldable pub told : Answer → List ℕ
told (listing L) = listing_text L
told (refusal n p) = bytes "(refused " ++ (decimal n ++ (32 ∷ (decimal p ++ bytes ")\n")))

unfoldable pub right : List Vector → Bool
right [] = true
right (v ∷ vs) = same (told (read_program (hex_bytes (bytes v.saved)))) (bytes v.means) && right vs

unfoldable pub opened : ℕ
unfolding listings.opened hex_digit hex_bytes told spaced_words closed_form open_form end_form tier_word mark_word slot_word jump_word on_word block_word bare_word simple_word simple_args simple_text cond_word cond_text handler_word branch_rows stmt_rows rows_of_lines listing_rows text_of listing_text listed last_number index_of behind counts counted join_go map_found digits line_number characters with_kind name after_comma several ends seek branch if_action on_action next_action run_action action pass_over map_body body_of sooner soonest foreign lacking offences shallow short with_line stmts_in judged program lines_from loaded read_program
opened = 0
