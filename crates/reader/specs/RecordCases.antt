-- What the tables hold for some texts, computed: the numbers of each case were written by hand. Assumes nothing.
use Rattle.std.specs.Prelude.{ℕ, Bool, true, ◌&&◌, List, [], ◌∷◌, ◌++◌, T}
use Prim.Native.String.{String}
use Rattle.listings.specs.Bytes.{bytes, same}
use Rattle.listings.specs.Opened as reading
use Rattle.listings.specs.Read.{Answer, listing, refusal}
use Rattle.listings.specs.Cut.{meant}
use Rattle.listings.specs.ListingText.{simple_word, cond_word}
use Rattle.listings.specs.WordTable.{words, first, word_index}
use Rattle.listings.specs.Records.{name_key, slot_key, args_of, tier_number, mark_number, detail_of, branch_number, branch_line, simple_rec, cond_rec, stmt_recs, line_recs, line_numbers, padded, rec_row, joined, arg_row, handler_number, counts_of, fitted, answer_of, table_of}
use Rattle.reader.specs.Listed.{line_entries, stmt_entries, arg_entries}

-- a text, how many entries its tables have, and what stands in the counts, the line table, the statement table and each
-- row of arguments
record Case : Type 0 where
  text : String
  line_table : ℕ
  stmt_table : ℕ
  arg_table : ℕ
  number : ℕ
  place : ℕ
  counts : List ℕ
  lines : List ℕ
  stmts : List ℕ
  args : List (List ℕ)

unfoldable rows : List (List ℕ) → List ℕ
rows [] = []
rows (l ∷ ls) = padded 64 l ++ rows ls

-- 0 and 0 for an accepted text
unfoldable told : Answer → List ℕ
told (listing L) = 0 ∷ 0 ∷ []
told (refusal n p) = n ∷ p ∷ []

unfoldable right : Case → Bool
right c =
    let r = answer_of c.line_table c.stmt_table c.arg_table (meant (bytes c.text)) in
    same (told r) (c.number ∷ c.place ∷ []) && same (table_of counts_of r 6) c.counts && same (table_of line_entries r c.line_table) (padded c.line_table c.lines)
    && same (table_of stmt_entries r c.stmt_table) (padded c.stmt_table c.stmts) && same (table_of arg_entries r c.arg_table) (padded c.arg_table (rows c.args))

unfoldable all_right : List Case → Bool
all_right [] = true
all_right (c ∷ cs) = right c && all_right cs

-- an IFELSE with statements in both branches, the second holding an RCOMP
unfoldable nested : String
nested = "(module 1\n(line 20\n(ifelse\n(stmts\n(plain)\n(stop)\n)\n(stmts\n(rcomp\n(stmts\n)\n(to 20)\n)\n)\n)\n(clr)\n)\n)\n"

unfoldable table : List Case
table =
    record {
      text = "(module 0\n(line 10\n(gosub 100)\n(plain)\n)\n(line 20\n(stop)\n)\n(line 100\n(if\n(to 20)\n)\n(return)\n)\n)\n";
      line_table = 4;
      stmt_table = 65;
      arg_table = 320;
      number = 0;
      place = 0;
      counts = 3 ∷ 5 ∷ 0 ∷ 0 ∷ 0 ∷ 0 ∷ [];
      lines = 10 ∷ 20 ∷ 100 ∷ [];
      stmts = 8 ∷ 0 ∷ 0 ∷ 0 ∷ 1 ∷ 0 ∷ 0 ∷ 0 ∷ 0 ∷ 0 ∷ 1 ∷ 0
          ∷ 27 ∷ 0 ∷ 0 ∷ 1 ∷ 2 ∷ 0 ∷ 0 ∷ 0 ∷ 0 ∷ 0 ∷ 0 ∷ 0
          ∷ 25 ∷ 1 ∷ 0 ∷ 0 ∷ 3 ∷ 0 ∷ 0 ∷ 0 ∷ 0 ∷ 0 ∷ 0 ∷ 0
          ∷ 2 ∷ 2 ∷ 0 ∷ 0 ∷ 4 ∷ 4 ∷ 2 ∷ 20 ∷ 0 ∷ 0 ∷ 0 ∷ 0
          ∷ 9 ∷ 2 ∷ 0 ∷ 1 ∷ 5 ∷ 0 ∷ 0 ∷ 0 ∷ 0 ∷ 0 ∷ 0 ∷ 0 ∷ [];
      args = (100 ∷ []) ∷ [] ∷ [] ∷ [] ∷ [] ∷ [];
    }
    ∷ record {
      text = nested;
      line_table = 1;
      stmt_table = 60;
      arg_table = 321;
      number = 0;
      place = 0;
      counts = 1 ∷ 5 ∷ 1 ∷ 0 ∷ 0 ∷ 0 ∷ [];
      lines = 20 ∷ [];
      stmts = 3 ∷ 0 ∷ 0 ∷ 0 ∷ 4 ∷ 3 ∷ 1 ∷ 0 ∷ 1 ∷ 0 ∷ 0 ∷ 0
          ∷ 27 ∷ 0 ∷ 1 ∷ 0 ∷ 2 ∷ 0 ∷ 0 ∷ 0 ∷ 0 ∷ 0 ∷ 0 ∷ 0
          ∷ 25 ∷ 0 ∷ 1 ∷ 1 ∷ 3 ∷ 0 ∷ 0 ∷ 0 ∷ 0 ∷ 0 ∷ 0 ∷ 0
          ∷ 4 ∷ 0 ∷ 1 ∷ 2 ∷ 4 ∷ 4 ∷ 1 ∷ 0 ∷ 2 ∷ 20 ∷ 0 ∷ 0
          ∷ 24 ∷ 0 ∷ 0 ∷ 1 ∷ 5 ∷ 0 ∷ 0 ∷ 0 ∷ 0 ∷ 0 ∷ 0 ∷ 0 ∷ [];
      args = [];
    }
    ∷ record {
      text = "(module 0\n(line 7\n(for A dispatched)\n(next orphan A * AZ%)\n(ongoto 7 65535)\n)\n)\n";
      line_table = 1;
      stmt_table = 36;
      arg_table = 192;
      number = 0;
      place = 0;
      counts = 1 ∷ 3 ∷ 0 ∷ 0 ∷ 0 ∷ 0 ∷ [];
      lines = 7 ∷ [];
      stmts = 13 ∷ 0 ∷ 0 ∷ 0 ∷ 1 ∷ 0 ∷ 0 ∷ 0 ∷ 0 ∷ 0 ∷ 1 ∷ 2
          ∷ 14 ∷ 0 ∷ 0 ∷ 1 ∷ 2 ∷ 0 ∷ 0 ∷ 0 ∷ 0 ∷ 0 ∷ 3 ∷ 1
          ∷ 11 ∷ 0 ∷ 0 ∷ 2 ∷ 3 ∷ 0 ∷ 0 ∷ 0 ∷ 0 ∷ 0 ∷ 2 ∷ 0 ∷ [];
      args = (33 ∷ []) ∷ (33 ∷ 0 ∷ 24225 ∷ []) ∷ (7 ∷ 65535 ∷ []) ∷ [];
    }
    ∷ record { text = nested; line_table = 0; stmt_table = 60; arg_table = 320; number = 21; place = 1; counts = 0 ∷ 0 ∷ 0 ∷ 0 ∷ 0 ∷ 0 ∷ []; lines = []; stmts = []; args = [] }
    ∷ record { text = nested; line_table = 1; stmt_table = 59; arg_table = 320; number = 22; place = 5; counts = 0 ∷ 0 ∷ 0 ∷ 0 ∷ 0 ∷ 0 ∷ []; lines = []; stmts = []; args = [] }
    ∷ record { text = nested; line_table = 1; stmt_table = 60; arg_table = 319; number = 22; place = 5; counts = 0 ∷ 0 ∷ 0 ∷ 0 ∷ 0 ∷ 0 ∷ []; lines = []; stmts = []; args = [] }
    ∷ record { text = "(module 0\n(line 7\n(plain)\n"; line_table = 1; stmt_table = 12; arg_table = 64; number = 2; place = 3; counts = 0 ∷ 0 ∷ 0 ∷ 0 ∷ 0 ∷ 0 ∷ []; lines = []; stmts = []; args = [] }
    ∷ []

holds : T (all_right table)
unfolding reading.opened simple_word cond_word words first word_index name_key slot_key args_of tier_number mark_number detail_of branch_number branch_line simple_rec cond_rec stmt_recs line_recs line_numbers padded rec_row joined arg_row handler_number counts_of fitted answer_of table_of line_entries stmt_entries arg_entries rows told right all_right nested table
holds = tt
