-- The definitions of a listing and its reading, opened: a table that names `opened` in its `unfolding` line can be computed. Assumes nothing.
use Rattle.std.specs.Prelude.{ℕ}
use Rattle.listings.specs.Bytes.{bytes, same, decimal_in, decimal}
use Rattle.listings.specs.Listing.{size, len, total, count}
use Rattle.listings.specs.Rows.{on_first, split, all, is_word, are_words, strip_close, form_row, row_of, opening_words, lookup, map_parse, with_parse, is_digit, is_capital, value, no_leading_zero, parse_number, parse_numbers, name_end, is_name, parse_name, parse_slot, parse_slots, or_malformed, tiers, parse_tier, marks, parse_mark, bare_stmt, single, run_stmt, for_stmt, next_stmt, if_no_words, handler_facts, module_by, module_content, form_content, word_content, content_of}
use Rattle.listings.specs.Read.{start, go_to, one_more, or_refused, check, at_begin, ascends, read_line, at_module, read_simple, read_cond, number_of, branched, end_stmts, at_stmts, next_branch, cond_stmt, end_cond, read_to, read_stmts, at_cond, read_row, finish, read_rows, read}
use Rattle.listings.specs.Cut.{cut_to, cut_name, cut_slot, cut_simple, cut_stmts, cut_lines, cut_listing, cut_answer, meant}

unfoldable pub opened : ℕ
unfolding bytes same decimal_in decimal size len total count on_first split all is_word are_words strip_close form_row row_of opening_words lookup map_parse with_parse is_digit is_capital value no_leading_zero parse_number parse_numbers name_end is_name parse_name parse_slot parse_slots or_malformed tiers parse_tier marks parse_mark bare_stmt single run_stmt for_stmt next_stmt if_no_words handler_facts module_by module_content form_content word_content content_of start go_to one_more or_refused check at_begin ascends read_line at_module read_simple read_cond number_of branched end_stmts at_stmts next_branch cond_stmt end_cond read_to read_stmts at_cond read_row finish read_rows read cut_to cut_name cut_slot cut_simple cut_stmts cut_lines cut_listing cut_answer meant
opened = 0
