-- The numbers of the layout, each once: the opening words by their places in the table, how many entries a statement
-- has in each table, what stands in them (docs/DECISIONS.md, "Tables"). src has the same numbers for code. Assumes
-- nothing.
use Rattle.std.specs.Prelude.{ℕ, ◌≡◌, refl, [], ◌∷◌, length, get_or}
use Rattle.listings.specs.Bytes.{bytes, same}
use Rattle.listings.specs.Rows.{opening_words}
use Rattle.listings.specs.WordTable.{words, first, word_index}
use Rattle.listings.specs.Records.{Rec, rec_row}

-- ---- "The 28 opening words stand in one constant table": the number of each

abbrev pub module_word : ℕ
module_word = 0

abbrev pub line_word : ℕ
line_word = 1

abbrev pub if_word : ℕ
if_word = 2

abbrev pub ifelse_word : ℕ
ifelse_word = 3

abbrev pub rcomp_word : ℕ
rcomp_word = 4

abbrev pub to_word : ℕ
to_word = 5

abbrev pub stmts_word : ℕ
stmts_word = 6

abbrev pub goto_word : ℕ
goto_word = 7

abbrev pub gosub_word : ℕ
gosub_word = 8

abbrev pub return_word : ℕ
return_word = 9

abbrev pub run_word : ℕ
run_word = 10

abbrev pub ongoto_word : ℕ
ongoto_word = 11

abbrev pub ongosub_word : ℕ
ongosub_word = 12

abbrev pub for_word : ℕ
for_word = 13

abbrev pub next_word : ℕ
next_word = 14

abbrev pub repeat_word : ℕ
repeat_word = 15

abbrev pub loop_word : ℕ
loop_word = 16

abbrev pub until_word : ℕ
until_word = 17

abbrev pub endloop_word : ℕ
endloop_word = 18

abbrev pub exit_word : ℕ
exit_word = 19

abbrev pub exitif_word : ℕ
exitif_word = 20

abbrev pub doif_word : ℕ
doif_word = 21

abbrev pub else_word : ℕ
else_word = 22

abbrev pub done_word : ℕ
done_word = 23

abbrev pub clr_word : ℕ
clr_word = 24

abbrev pub stop_word : ℕ
stop_word = 25

abbrev pub any_word : ℕ
any_word = 26

abbrev pub plain_word : ℕ
plain_word = 27

-- each is its word's place in that table
pub words_are : word_index (bytes "module") ∷ word_index (bytes "line") ∷ word_index (bytes "if") ∷ word_index (bytes "ifelse") ∷ word_index (bytes "rcomp") ∷ word_index (bytes "to") ∷ word_index (bytes "stmts") ∷ word_index (bytes "goto") ∷ word_index (bytes "gosub") ∷ word_index (bytes "return") ∷ word_index (bytes "run") ∷ word_index (bytes "ongoto") ∷ word_index (bytes "ongosub") ∷ word_index (bytes "for") ∷ word_index (bytes "next") ∷ word_index (bytes "repeat") ∷ word_index (bytes "loop") ∷ word_index (bytes "until") ∷ word_index (bytes "endloop") ∷ word_index (bytes "exit") ∷ word_index (bytes "exitif") ∷ word_index (bytes "doif") ∷ word_index (bytes "else") ∷ word_index (bytes "done") ∷ word_index (bytes "clr") ∷ word_index (bytes "stop") ∷ word_index (bytes "any") ∷ word_index (bytes "plain") ∷ []
    ≡ module_word ∷ line_word ∷ if_word ∷ ifelse_word ∷ rcomp_word ∷ to_word ∷ stmts_word ∷ goto_word ∷ gosub_word ∷ return_word ∷ run_word ∷ ongoto_word ∷ ongosub_word ∷ for_word ∷ next_word ∷ repeat_word ∷ loop_word ∷ until_word ∷ endloop_word ∷ exit_word ∷ exitif_word ∷ doif_word ∷ else_word ∷ done_word ∷ clr_word ∷ stop_word ∷ any_word ∷ plain_word ∷ []
unfolding word_index words opening_words first same bytes
words_are = refl

-- ---- a FOR's tier and a NEXT's mark, in the detail

abbrev pub dispatched_tier : ℕ
dispatched_tier = 2

abbrev pub orphan_mark : ℕ
orphan_mark = 1

-- ---- how many entries a statement has in each table

abbrev pub stmt_entries : ℕ
stmt_entries = 12

abbrev pub arg_entries : ℕ
arg_entries = 64

abbrev pub fall_entries : ℕ
fall_entries = 3

abbrev pub list_entries : ℕ
list_entries = 4

abbrev pub frame_entries : ℕ
frame_entries = 3

-- ---- a statement's record

abbrev pub word_column : ℕ
word_column = 0

abbrev pub line_column : ℕ
line_column = 1

abbrev pub holder_column : ℕ
holder_column = 2

abbrev pub index_column : ℕ
index_column = 3

abbrev pub end_column : ℕ
end_column = 4

abbrev pub second_column : ℕ
second_column = 5

abbrev pub form1_column : ℕ
form1_column = 6

abbrev pub number1_column : ℕ
number1_column = 7

abbrev pub form2_column : ℕ
form2_column = 8

abbrev pub number2_column : ℕ
number2_column = 9

abbrev pub count_column : ℕ
count_column = 10

abbrev pub detail_column : ℕ
detail_column = 11

-- the record has these entries, in this order
pub record Columns (r : Rec) : Type 0 where
  pub word_is : get_or (rec_row r) word_column 0 ≡ r.word
  pub line_is : get_or (rec_row r) line_column 0 ≡ r.line
  pub holder_is : get_or (rec_row r) holder_column 0 ≡ r.holder
  pub index_is : get_or (rec_row r) index_column 0 ≡ r.index
  pub end_is : get_or (rec_row r) end_column 0 ≡ r.end
  pub second_is : get_or (rec_row r) second_column 0 ≡ r.second
  pub form1_is : get_or (rec_row r) form1_column 0 ≡ r.form1
  pub number1_is : get_or (rec_row r) number1_column 0 ≡ r.number1
  pub form2_is : get_or (rec_row r) form2_column 0 ≡ r.form2
  pub number2_is : get_or (rec_row r) number2_column 0 ≡ r.number2
  pub count_is : get_or (rec_row r) count_column 0 ≡ length r.args
  pub detail_is : get_or (rec_row r) detail_column 0 ≡ r.detail
  pub entries_are : length (rec_row r) ≡ stmt_entries

pub columns_are : (r : Rec) → Columns r
unfolding rec_row
columns_are r =
    record {
      word_is = refl;
      line_is = refl;
      holder_is = refl;
      index_is = refl;
      end_is = refl;
      second_is = refl;
      form1_is = refl;
      number1_is = refl;
      form2_is = refl;
      number2_is = refl;
      count_is = refl;
      detail_is = refl;
      entries_are = refl;
    }
