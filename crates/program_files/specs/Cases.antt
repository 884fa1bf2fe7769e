-- Saved programs and what they mean (document 02, L3): an example of each point of its reading, computed. Assumes nothing.
use Rattle.std.specs.Prelude.{ℕ, zero, suc, ◌+◌, ◌*◌, ◌-◌, List, [], ◌∷◌, ◌++◌, Bool, true, false, ◌&&◌, T, leb}
use Prim.Native.String.{String}
use Rattle.listings.specs.Bytes.{bytes, same, pick, decimal}
use Rattle.listings.specs.Read.{Answer, listing, refusal}
use Rattle.listings.specs.ListingText.{spaced_words, closed_form, open_form, end_form, tier_word, mark_word, slot_word, jump_word, on_word, block_word, bare_word, simple_word, simple_args, simple_text, cond_word, cond_text, handler_word, branch_rows, stmt_rows, rows_of_lines, listing_rows, text_of, listing_text, listed, last_number}
use Rattle.listings.specs.Scan.{index_of}
use Rattle.listings.specs.Opened as listings
use Rattle.program_files.specs.Program.{behind, counts, counted, join_go, map_found, digits, line_number, characters, with_kind, name, after_comma, several, ends, seek, branch, if_action, on_action, next_action, run_action, action, pass_over, map_body, body_of, sooner, soonest, foreign, lacking, offences, shallow, short, with_line, stmts_in, judged, program, lines_from, loaded, read_program}

-- ---- bytes in hexadecimal, as the reading writes them

-- a digit, 0 to 9 or A to F
hex_digit : ℕ → ℕ
hex_digit b = pick (leb 65 b) (b - 55) (b - 48)

-- two digits a byte, a space between two of them
hex_bytes : List ℕ → List ℕ
hex_bytes [] = []
hex_bytes (a ∷ []) = []
hex_bytes (a ∷ b ∷ []) = (hex_digit a * 16 + hex_digit b) ∷ []
hex_bytes (a ∷ b ∷ c ∷ l) = (hex_digit a * 16 + hex_digit b) ∷ hex_bytes l

-- ---- a table

-- a file, and the text of the listing that it means or the row of its refusal
record Case : Type 0 where
  saved : List ℕ
  meant : String

file : String → String → Case
file h t = record { saved = hex_bytes (bytes h); meant = t }

-- the bytes of line 10, alone in its file
line10 : String → String → Case
line10 h t = record { saved = 1 ∷ 8 ∷ 1 ∷ 8 ∷ 10 ∷ 0 ∷ (hex_bytes (bytes h) ++ (0 ∷ 0 ∷ 0 ∷ [])); meant = t }

told : Answer → List ℕ
told (listing L) = listing_text L
told (refusal n p) = bytes "(refused " ++ (decimal n ++ (32 ∷ (decimal p ++ bytes ")\n")))

right : List Case → Bool
right [] = true
right (c ∷ cs) = same (told (read_program c.saved)) (bytes c.meant) && right cs

-- points 1 to 8: the file
files : List Case
files =
    -- point 1
    file "64 64 00 00" "(module 0\n)\n"
    -- point 2
    ∷ file "01 08 01 00 0A 00 41 00 00 00" "(module 0\n(line 10\n(plain)\n)\n)\n"
    ∷ file "01 08 00 01 0A 00 41 00 00 00" "(module 0\n(line 10\n(plain)\n)\n)\n"
    -- point 3
    ∷ file "01 08 00 00 64 01 08" "(module 0\n)\n"
    -- point 4
    ∷ file "01" "(refused 33 1)\n"
    ∷ file "01 08" "(refused 33 2)\n"
    ∷ file "01 08 00" "(refused 33 3)\n"
    ∷ file "01 08 01 08 0A" "(refused 33 5)\n"
    ∷ file "01 08 01 08 0A 00 41" "(refused 33 7)\n"
    ∷ file "01 08 01 08 0A 00 41 00" "(refused 33 8)\n"
    -- point 5
    ∷ file "01 08 01 08 0A 00 22 00 00 00" "(module 0\n(line 10\n(plain)\n)\n)\n"
    -- point 6
    ∷ file "01 08 01 08 FF F9 00 00 00" "(module 0\n(line 63999\n)\n)\n"
    ∷ file "01 08 01 08 00 FA 00 00 00" "(refused 35 4)\n"
    ∷ file "01 08 01 08 00 FA" "(refused 35 4)\n"
    ∷ file "01 08 01 08 00" "(refused 33 5)\n"
    -- point 7
    ∷ file "01 08 64 64 64 64 41 00 00 00" "(module 0\n(line 25700\n(plain)\n)\n)\n"
    ∷ []

files_right : T (right files)
unfolding listings.opened spaced_words closed_form open_form end_form tier_word mark_word slot_word jump_word on_word block_word bare_word simple_word simple_args simple_text cond_word cond_text handler_word branch_rows stmt_rows rows_of_lines listing_rows text_of listing_text listed last_number index_of behind counts counted join_go map_found digits line_number characters with_kind name after_comma several ends seek branch if_action on_action next_action run_action action pass_over map_body body_of sooner soonest foreign lacking offences shallow short with_line stmts_in judged program lines_from loaded read_program hex_digit hex_bytes file line10 told right files
files_right = tt

-- points 9 to 17: what covers a byte
covered : List Case
covered =
    -- point 10
    line10 "22 3A 22 3A 41" "(module 0\n(line 10\n(plain)\n(plain)\n)\n)\n"
    ∷ line10 "22 3A 41" "(module 0\n(line 10\n(plain)\n)\n)\n"
    -- point 11
    ∷ line10 "41 8F 3A 41" "(module 0\n(line 10\n(plain)\n)\n)\n"
    ∷ line10 "89 31 30 8F 3A 41" "(module 0\n(line 10\n(goto 10)\n)\n)\n"
    ∷ line10 "8F 22 3A 41 22 3A 41" "(module 0\n(line 10\n(plain)\n)\n)\n"
    -- point 12
    ∷ line10 "83 22 3A 22 3A 41" "(module 0\n(line 10\n(plain)\n(plain)\n)\n)\n"
    ∷ line10 "83 22 3A 41" "(module 0\n(line 10\n(plain)\n)\n)\n"
    ∷ line10 "41 83 22 3A 22 3A 41" "(module 0\n(line 10\n(plain)\n(plain)\n)\n)\n"
    -- point 13
    ∷ line10 "83 8F 3A 41" "(module 0\n(line 10\n(plain)\n(plain)\n)\n)\n"
    ∷ line10 "8F 83 3A 41" "(module 0\n(line 10\n(plain)\n)\n)\n"
    -- point 14
    ∷ line10 "89 8F 31" "(refused 35 7)\n"
    ∷ line10 "89 83 31" "(refused 35 7)\n"
    ∷ line10 "81 22 41 22" "(refused 35 7)\n"
    ∷ line10 "82 41 22 22 2C 42" "(module 0\n(line 10\n(next plain A)\n)\n)\n"
    -- point 15
    ∷ line10 "A0" "(module 0\n(line 10\n(plain)\n)\n)\n"
    ∷ line10 "01" "(module 0\n(line 10\n(plain)\n)\n)\n"
    -- point 16
    ∷ line10 "89 20 31 20 30" "(module 0\n(line 10\n(goto 10)\n)\n)\n"
    ∷ line10 "81 41 20 42 20 25" "(module 0\n(line 10\n(for AB% static)\n)\n)\n"
    ∷ line10 "CB 20 A4 31" "(module 0\n(line 10\n(goto 1)\n)\n)\n"
    ∷ line10 "89 36 20 34 30 30 30" "(refused 35 7)\n"
    -- point 17
    ∷ line10 "20 3A 20 3A" "(module 0\n(line 10\n)\n)\n"
    ∷ line10 "8F" "(module 0\n(line 10\n(plain)\n)\n)\n"
    ∷ line10 "83" "(module 0\n(line 10\n(plain)\n)\n)\n"
    ∷ line10 "22" "(module 0\n(line 10\n(plain)\n)\n)\n"
    ∷ line10 "3A 3A 41 3A" "(module 0\n(line 10\n(plain)\n)\n)\n"
    ∷ []

covered_right : T (right covered)
unfolding listings.opened spaced_words closed_form open_form end_form tier_word mark_word slot_word jump_word on_word block_word bare_word simple_word simple_args simple_text cond_word cond_text handler_word branch_rows stmt_rows rows_of_lines listing_rows text_of listing_text listed last_number index_of behind counts counted join_go map_found digits line_number characters with_kind name after_comma several ends seek branch if_action on_action next_action run_action action pass_over map_body body_of sooner soonest foreign lacking offences shallow short with_line stmts_in judged program lines_from loaded read_program hex_digit hex_bytes file line10 told right covered
covered_right = tt

-- points 18 to 24: statements, numbers, names
simple : List Case
simple =
    -- point 18
    line10 "99 89 31 30" "(module 0\n(line 10\n(plain)\n)\n)\n"
    ∷ line10 "41 8E" "(module 0\n(line 10\n(plain)\n)\n)\n"
    ∷ line10 "88 8B" "(module 0\n(line 10\n(plain)\n)\n)\n"
    -- point 19
    ∷ line10 "80 31" "(module 0\n(line 10\n(stop)\n)\n)\n"
    ∷ line10 "9A" "(module 0\n(line 10\n(plain)\n)\n)\n"
    ∷ line10 "A2" "(module 0\n(line 10\n(plain)\n)\n)\n"
    -- point 20
    ∷ line10 "CB" "(module 0\n(line 10\n(plain)\n)\n)\n"
    ∷ line10 "CB 31 30" "(module 0\n(line 10\n(plain)\n)\n)\n"
    ∷ line10 "CB 3A A4 31" "(module 0\n(line 10\n(plain)\n(plain)\n)\n)\n"
    ∷ line10 "CB CB A4 31" "(module 0\n(line 10\n(plain)\n)\n)\n"
    ∷ line10 "CB 41 A4 31" "(module 0\n(line 10\n(plain)\n)\n)\n"
    ∷ line10 "8B 41 CB CB A4 31" "(module 0\n(line 10\n(if\n(to 1)\n)\n)\n)\n"
    ∷ line10 "91 41 CB CB A4 31" "(module 0\n(line 10\n(ongoto 1)\n)\n)\n"
    ∷ line10 "CB A4" "(refused 35 8)\n"
    -- point 21
    ∷ line10 "89 30 30 31 30" "(module 0\n(line 10\n(goto 10)\n)\n)\n"
    ∷ line10 "89 31 2E 35" "(module 0\n(line 10\n(goto 1)\n)\n)\n"
    ∷ line10 "89 31 41 32" "(module 0\n(line 10\n(goto 1)\n)\n)\n"
    ∷ line10 "89 31 2C 32" "(module 0\n(line 10\n(goto 1)\n)\n)\n"
    ∷ line10 "89 36 33 39 39 39" "(module 0\n(line 10\n(goto 63999)\n)\n)\n"
    ∷ line10 "89 36 34 30 30 30" "(refused 35 7)\n"
    ∷ line10 "89 20 30 36 34 30 30 30" "(refused 35 8)\n"
    ∷ line10 "89 36 35 35 34 36" "(refused 35 7)\n"
    -- point 22
    ∷ line10 "89" "(refused 35 7)\n"
    ∷ line10 "89 20 20" "(refused 35 9)\n"
    ∷ line10 "89 41" "(refused 35 7)\n"
    ∷ line10 "8D 3A" "(refused 35 7)\n"
    ∷ line10 "89 2C 31" "(refused 35 7)\n"
    -- point 23
    ∷ line10 "8A" "(module 0\n(line 10\n(run)\n)\n)\n"
    ∷ line10 "8A 41" "(module 0\n(line 10\n(run)\n)\n)\n"
    ∷ line10 "8A 22 41 22" "(module 0\n(line 10\n(run)\n)\n)\n"
    ∷ line10 "8A 31 20 30" "(module 0\n(line 10\n(run 10)\n)\n)\n"
    ∷ line10 "8A 36 34 30 30 30" "(refused 35 7)\n"
    -- point 24
    ∷ line10 "81 43 4F 55 4E 54 25" "(module 0\n(line 10\n(for CO% static)\n)\n)\n"
    ∷ line10 "81 41 31 42 32" "(module 0\n(line 10\n(for A1 static)\n)\n)\n"
    ∷ line10 "81 41 25 25" "(module 0\n(line 10\n(for A% static)\n)\n)\n"
    ∷ line10 "81 41 28 31 29" "(module 0\n(line 10\n(for A static)\n)\n)\n"
    ∷ line10 "81 41 C1" "(module 0\n(line 10\n(for A static)\n)\n)\n"
    ∷ line10 "81 61" "(refused 35 7)\n"
    ∷ line10 "81 C1" "(refused 35 7)\n"
    ∷ line10 "81 31" "(refused 35 7)\n"
    ∷ line10 "81 A4 54 41 4C" "(refused 35 7)\n"
    ∷ line10 "81 53 43 B0 45" "(module 0\n(line 10\n(for SC static)\n)\n)\n"
    ∷ []

simple_right : T (right simple)
unfolding listings.opened spaced_words closed_form open_form end_form tier_word mark_word slot_word jump_word on_word block_word bare_word simple_word simple_args simple_text cond_word cond_text handler_word branch_rows stmt_rows rows_of_lines listing_rows text_of listing_text listed last_number index_of behind counts counted join_go map_found digits line_number characters with_kind name after_comma several ends seek branch if_action on_action next_action run_action action pass_over map_body body_of sooner soonest foreign lacking offences shallow short with_line stmts_in judged program lines_from loaded read_program hex_digit hex_bytes file line10 told right simple
simple_right = tt

-- points 25 to 29: NEXT and ON
lists : List Case
lists =
    -- point 25
    line10 "82" "(module 0\n(line 10\n(next plain *)\n)\n)\n"
    ∷ line10 "82 31" "(module 0\n(line 10\n(next plain *)\n)\n)\n"
    ∷ line10 "82 2C 41" "(module 0\n(line 10\n(next plain *)\n)\n)\n"
    ∷ line10 "82 2C" "(module 0\n(line 10\n(next plain *)\n)\n)\n"
    -- point 26
    ∷ line10 "82 41 25 2C 42" "(module 0\n(line 10\n(next plain A% B)\n)\n)\n"
    ∷ line10 "82 41 2C" "(refused 35 9)\n"
    ∷ line10 "82 41 2C 2C 42" "(refused 35 9)\n"
    ∷ line10 "82 41 2C 8F" "(refused 35 9)\n"
    ∷ line10 "82 41 28 31 29 2C 42" "(module 0\n(line 10\n(next plain A)\n)\n)\n"
    ∷ line10 "82 41 3B 2C" "(module 0\n(line 10\n(next plain A)\n)\n)\n"
    ∷ line10 "82 41 20 42" "(module 0\n(line 10\n(next plain AB)\n)\n)\n"
    -- point 27
    ∷ line10 "91 89 31" "(module 0\n(line 10\n(ongoto 1)\n)\n)\n"
    ∷ line10 "91 41 8D 31 2C 32" "(module 0\n(line 10\n(ongosub 1 2)\n)\n)\n"
    ∷ line10 "91 22 8D 22 89 31" "(module 0\n(line 10\n(ongoto 1)\n)\n)\n"
    ∷ line10 "91 41 A7 89 31" "(module 0\n(line 10\n(ongoto 1)\n)\n)\n"
    ∷ line10 "91 41 89 31 8D 32" "(module 0\n(line 10\n(ongoto 1)\n)\n)\n"
    -- point 28
    ∷ line10 "91 41 31 30" "(refused 35 10)\n"
    ∷ line10 "91 41 3A 89 31" "(refused 35 8)\n"
    ∷ line10 "91 41 8F 89 31" "(refused 35 11)\n"
    ∷ line10 "91 41 83 89 3A 41" "(refused 35 10)\n"
    ∷ line10 "91 41 89 42" "(refused 35 9)\n"
    ∷ line10 "91 41 89 2C 31" "(refused 35 9)\n"
    ∷ line10 "91 41 89 31 2C 3A" "(refused 35 11)\n"
    ∷ line10 "91 41 89 31 2C 2C 32" "(refused 35 11)\n"
    -- point 29
    ∷ line10 "91 41 89 31 3B 2C" "(module 0\n(line 10\n(ongoto 1)\n)\n)\n"
    ∷ line10 "91 41 89 31 41 2C 32" "(module 0\n(line 10\n(ongoto 1)\n)\n)\n"
    ∷ []

lists_right : T (right lists)
unfolding listings.opened spaced_words closed_form open_form end_form tier_word mark_word slot_word jump_word on_word block_word bare_word simple_word simple_args simple_text cond_word cond_text handler_word branch_rows stmt_rows rows_of_lines listing_rows text_of listing_text listed last_number index_of behind counts counted join_go map_found digits line_number characters with_kind name after_comma several ends seek branch if_action on_action next_action run_action action pass_over map_body body_of sooner soonest foreign lacking offences shallow short with_line stmts_in judged program lines_from loaded read_program hex_digit hex_bytes file line10 told right lists
lists_right = tt

-- points 30 to 35: IF
conditions : List Case
conditions =
    -- point 30
    line10 "8B 41 89 31 A7 32" "(module 0\n(line 10\n(if\n(to 1)\n)\n)\n)\n"
    ∷ line10 "8B 41 CB A7 31" "(module 0\n(line 10\n(if\n(to 1)\n)\n)\n)\n"
    ∷ line10 "8B A7 31" "(module 0\n(line 10\n(if\n(to 1)\n)\n)\n)\n"
    ∷ line10 "8B 22 A7 3A 22 A7 31" "(module 0\n(line 10\n(if\n(to 1)\n)\n)\n)\n"
    ∷ line10 "8B 41 8B 42 A7 31" "(module 0\n(line 10\n(if\n(to 1)\n)\n)\n)\n"
    ∷ line10 "8B 41" "(refused 35 8)\n"
    ∷ line10 "8B 41 3A A7 31" "(refused 35 8)\n"
    ∷ line10 "8B 41 8D 31" "(refused 35 10)\n"
    ∷ line10 "8B 41 8F A7 31" "(refused 35 11)\n"
    ∷ line10 "8B 41 83 A7 3A 41" "(refused 35 10)\n"
    -- point 31
    ∷ line10 "8B 41 A7 31 30" "(module 0\n(line 10\n(if\n(to 10)\n)\n)\n)\n"
    ∷ line10 "8B 41 89 31" "(module 0\n(line 10\n(if\n(to 1)\n)\n)\n)\n"
    ∷ line10 "8B 41 A7 89 31" "(module 0\n(line 10\n(if\n(stmts\n(goto 1)\n)\n)\n)\n)\n"
    ∷ line10 "8B 41 A7 CB A4 31 3A 41" "(module 0\n(line 10\n(if\n(stmts\n(goto 1)\n(plain)\n)\n)\n)\n)\n"
    -- point 32
    ∷ line10 "8B 41 A7 31 3A 41 3A 89" "(module 0\n(line 10\n(if\n(to 1)\n)\n)\n)\n"
    ∷ line10 "8B 41 A7 31 3A 64" "(refused 34 11)\n"
    ∷ line10 "8B 41 A7 31 22 64" "(module 0\n(line 10\n(if\n(to 1)\n)\n)\n)\n"
    ∷ line10 "8B 41 A7 31 83 64 3A 64" "(refused 34 13)\n"
    ∷ line10 "8B 41 A7 31 8F 3A 64" "(module 0\n(line 10\n(if\n(to 1)\n)\n)\n)\n"
    ∷ line10 "8B 41 A7 31 3A 89 3A 64" "(refused 34 13)\n"
    -- point 33
    ∷ line10 "8B 41 A7 41 3A 8E" "(module 0\n(line 10\n(if\n(stmts\n(plain)\n(return)\n)\n)\n)\n)\n"
    ∷ line10 "41 3A 8B 41 A7 8B 42 A7 31 3A 41" "(module 0\n(line 10\n(plain)\n(if\n(stmts\n(if\n(to 1)\n)\n)\n)\n)\n)\n"
    ∷ line10 "8B 41 A7 2D 31" "(module 0\n(line 10\n(if\n(stmts\n(plain)\n)\n)\n)\n)\n"
    ∷ line10 "8B 41 A7 22 31 22" "(module 0\n(line 10\n(if\n(stmts\n(plain)\n)\n)\n)\n)\n"
    -- point 34
    ∷ line10 "8B 41 A7" "(refused 35 9)\n"
    ∷ line10 "8B 41 A7 20 20" "(refused 35 11)\n"
    ∷ line10 "8B 41 A7 3A" "(module 0\n(line 10\n(if\n(stmts\n)\n)\n)\n)\n"
    ∷ line10 "8B 41 A7 3A 31" "(module 0\n(line 10\n(if\n(stmts\n(plain)\n)\n)\n)\n)\n"
    ∷ line10 "8B 41 A7 8F" "(module 0\n(line 10\n(if\n(stmts\n(plain)\n)\n)\n)\n)\n"
    ∷ line10 "8B 41 89 3A" "(refused 35 9)\n"
    ∷ line10 "8B 41 89 42" "(refused 35 9)\n"
    -- point 35
    ∷ line10 "41 A7 31 3A 41" "(module 0\n(line 10\n(plain)\n(plain)\n)\n)\n"
    ∷ line10 "A7 31" "(module 0\n(line 10\n(plain)\n)\n)\n"
    ∷ line10 "8B 41 A7 A7 31" "(module 0\n(line 10\n(if\n(stmts\n(plain)\n)\n)\n)\n)\n"
    ∷ []

conditions_right : T (right conditions)
unfolding listings.opened spaced_words closed_form open_form end_form tier_word mark_word slot_word jump_word on_word block_word bare_word simple_word simple_args simple_text cond_word cond_text handler_word branch_rows stmt_rows rows_of_lines listing_rows text_of listing_text listed last_number index_of behind counts counted join_go map_found digits line_number characters with_kind name after_comma several ends seek branch if_action on_action next_action run_action action pass_over map_body body_of sooner soonest foreign lacking offences shallow short with_line stmts_in judged program lines_from loaded read_program hex_digit hex_bytes file line10 told right conditions
conditions_right = tt

-- points 36 to 44: order and place
ordered : List Case
ordered =
    -- point 36
    line10 "41 64" "(refused 34 7)\n"
    ∷ line10 "22 64 22 64" "(refused 34 9)\n"
    ∷ line10 "83 64" "(module 0\n(line 10\n(plain)\n)\n)\n"
    ∷ line10 "83 64 3A 64" "(refused 34 9)\n"
    ∷ line10 "8F 64" "(module 0\n(line 10\n(plain)\n)\n)\n"
    ∷ line10 "CB 64 A4 31" "(refused 34 7)\n"
    -- point 37
    ∷ line10 "8B 41 3A 64" "(refused 35 8)\n"
    ∷ line10 "8B 41 64 3A" "(refused 34 8)\n"
    ∷ line10 "89 36 34 30 30 30 64" "(refused 35 7)\n"
    ∷ line10 "89 36 34 30 30 64 30" "(refused 34 11)\n"
    ∷ line10 "89 41 64" "(refused 35 7)\n"
    ∷ line10 "81 64" "(refused 34 7)\n"
    ∷ line10 "89 64" "(refused 34 7)\n"
    ∷ line10 "82 41 2C 64" "(refused 34 9)\n"
    -- point 38
    ∷ file "01 08 01 08 0A 00 89 41" "(refused 35 7)\n"
    ∷ file "01 08 01 08 0A 00 89" "(refused 33 7)\n"
    ∷ file "01 08 01 08 0A 00 8B 41 A7" "(refused 33 9)\n"
    ∷ file "01 08 01 08 0A 00 89 36 34 30 30 30" "(refused 35 7)\n"
    ∷ file "01 08 01 08 0A 00 89 36 34 30 30" "(refused 33 11)\n"
    -- point 39
    ∷ file "01 08 01 08 0A 00 00 01 08 09 00 41 00" "(refused 4 1)\n"
    ∷ file "01 08 01 08 0A 00 00 01 08 09 00 41" "(refused 33 12)\n"
    ∷ file "01 08 01 08 0A 00 00 01 08 09 00 64 00 00 00" "(refused 34 11)\n"
    ∷ []

ordered_right : T (right ordered)
unfolding listings.opened spaced_words closed_form open_form end_form tier_word mark_word slot_word jump_word on_word block_word bare_word simple_word simple_args simple_text cond_word cond_text handler_word branch_rows stmt_rows rows_of_lines listing_rows text_of listing_text listed last_number index_of behind counts counted join_go map_found digits line_number characters with_kind name after_comma several ends seek branch if_action on_action next_action run_action action pass_over map_body body_of sooner soonest foreign lacking offences shallow short with_line stmts_in judged program lines_from loaded read_program hex_digit hex_bytes file line10 told right ordered
ordered_right = tt
