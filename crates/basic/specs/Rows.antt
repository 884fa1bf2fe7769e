-- The contents of the rows that a file gives from a place on. Assumes nothing.
-- Of a file that is not accepted these are some rows, which nobody asks for: where something lacks, the line ends;
-- where the file ends, so does the module.
use Rattle.std.specs.Prelude.{◌≡◌, ℕ, zero, suc, ◌+◌, ◌*◌, false, ◌&&◌, List, [], ◌∷◌, ◌++◌, eqb, length, drop, Option, Some, None}
use Rattle.listings.specs.Bytes.{pick}
use Rattle.listings.specs.Listing.{Simple, if}
use Rattle.listings.specs.ListingText.{simple_word, listed}
use Rattle.listings.specs.WordTable.{word_index}
use Rattle.listings.specs.Records.{args_of, detail_of}
use Rattle.listings.specs.Rows.{parsed, Content, end_row, stmts_row, module_row, line_row, to_row, simple_row, cond_row}
use Rattle.listings.specs.Scan.{index_of}
use Rattle.program_files.specs.Program as definition
use Rattle.program_files.specs.Program.{Placed, uncovered, counted, join_go, action, pass_over}
use Rattle.basic.specs.Cursors.{tokens_at}
use Rattle.basic.specs.Actions.{fuel}
use Rattle.basic.specs.Items.{put_front}
use Rattle.basic.specs.declared.cursors.Cursor.{Cursor}
use Rattle.basic.specs.declared.sources.Stage.{Stage}
use Rattle.basic.specs.declared.sources.Stage.TheVariants as stage
use Rattle.basic.specs.declared.sources.Source.{Source}
use Rattle.basic.specs.declared.sources.FileRow.{FileRow}
use Rattle.basic.specs.declared.sources.FileRow.TheVariants as row
use Rattle.basic.specs.declared.sources.Simple as code
use Rattle.basic.specs.declared.sources.Sourced.{Sourced}

-- n rows `)`, and what follows
unfoldable pub ends_then : ℕ → List Content → List Content
ends_then zero ds = ds
ends_then (suc n) ds = end_row ∷ ends_then n ds

-- the rows of the statements in a line's bytes
unfoldable pub emits : ℕ → List Placed → List Content
emits zero l = []
emits (suc k) [] = []
emits (suc k) (d ∷ l) =
    pick (eqb d.1 0) [] (pick (eqb d.1 58) (emits k l)
    (elim (action k d.1 l) [
      | definition.lacks p ↦ []
      | definition.found (definition.does o) r ↦ simple_row (parsed (o, listed o)) ∷ emits k (pass_over r)
      | definition.found (definition.jumps n) r ↦ cond_row if ∷ to_row (parsed n) ∷ end_row ∷ []
      | definition.found definition.holds r ↦ cond_row if ∷ stmts_row ∷ (emits k r ++ ends_then 2 [])
    ]))

-- the rows of a statement that was found, and of those behind it
unfoldable pub rows_by : ℕ → definition.Found definition.Action → List Content
rows_by k (definition.lacks p) = []
rows_by k (definition.found (definition.does o) r) = simple_row (parsed (o, listed o)) ∷ emits k (pass_over r)
rows_by k (definition.found (definition.jumps n) r) = cond_row if ∷ to_row (parsed n) ∷ end_row ∷ []
rows_by k (definition.found definition.holds r) = cond_row if ∷ stmts_row ∷ (emits k r ++ ends_then 2 [])

-- the rows of the lines from a link on, and the module's last
unfoldable pub line_rows : ℕ → ℕ → List ℕ → List Content
line_rows zero p l = end_row ∷ []
line_rows (suc k) p [] = end_row ∷ []
line_rows (suc k) p (a ∷ []) = end_row ∷ []
line_rows (suc k) p (a ∷ b ∷ []) = end_row ∷ []
line_rows (suc k) p (a ∷ b ∷ c ∷ []) = end_row ∷ []
line_rows (suc k) p (a ∷ b ∷ c ∷ d ∷ l) =
    let cs = counted uncovered (p + 4) l in
    pick (eqb a 0 && eqb b 0) (end_row ∷ [])
    (line_row (parsed (c + 256 * d)) ∷ (emits (length cs) (join_go cs) ++ (end_row ∷ line_rows k (p + 5 + index_of 0 l) (drop (suc (index_of 0 l)) l))))

-- the same from place p of a file on, and behind the line whose bytes c stands in
abbrev pub lines_at : List ℕ → ℕ → List Content
lines_at f p = line_rows (length (drop p f)) p (drop p f)

abbrev pub lines_behind : List ℕ → Cursor → List Content
lines_behind f c = lines_at f (c.at + index_of 0 (drop c.at f) + 1)

abbrev pub statements_at : List ℕ → Cursor → ℕ → List Content
statements_at f c n = emits (fuel f c) (tokens_at f c) ++ ends_then n (lines_behind f c)

-- where a statement is due that begins with b, before a cursor
abbrev pub action_rows : List ℕ → ℕ → Cursor → Source → List Content
action_rows f b at s = rows_by (fuel f at) (action (fuel f at) b (tokens_at f at)) ++ ends_then s.ends (lines_behind f s.at)

-- all that is due
unfoldable pub contents_from : List ℕ → Source → List Content
contents_from f s = elim s.stage [
  | stage.Module ↦ module_row false ∷ lines_at f s.at.at
  | stage.Line ↦ lines_at f s.at.at
  | stage.Statements ↦ statements_at f s.at s.ends
  | stage.To n ↦ to_row (parsed n) ∷ ends_then s.ends (lines_behind f s.at)
  | stage.Stmts ↦ stmts_row ∷ statements_at f s.at s.ends
  | stage.Ends ↦ ends_then s.ends (lines_behind f s.at)
  | stage.Ended ↦ []
]

-- a statement's row, by what the code has of it; z: a part before its arguments were put, t: the same part afterwards
pub record SimpleIs (z t : List ℕ) (d : Content) (s : code.Simple) : Type 0 where
  pub simple : Simple
  pub content : d ≡ simple_row (parsed (simple, listed simple))
  pub word : s.word ≡ word_index (simple_word simple)
  pub count : s.count ≡ length (args_of simple)
  pub detail : detail_of simple ≡ 0
  pub args : t ≡ put_front (args_of simple) z

-- what the row says
abbrev pub RowIs : List ℕ → List ℕ → Content → FileRow → Type 0
RowIs z t d row.Module = d ≡ module_row false
RowIs z t d (row.Line n) = d ≡ line_row (parsed n)
RowIs z t d (row.Simple s) = SimpleIs z t d s
RowIs z t d row.If = d ≡ cond_row if
RowIs z t d (row.To n) = d ≡ to_row (parsed n)
RowIs z t d row.Stmts = d ≡ stmts_row
RowIs z t d row.End = d ≡ end_row

-- of the contents ds, the first, and the others as what is due behind it
pub record FirstOf (f z t : List ℕ) (ds : List Content) (r : Sourced) : Type 0 where
  pub content : Content
  pub says : RowIs z t content r.row
  pub behind : ds ≡ content ∷ contents_from f r.next

-- the first of what is due from s on
abbrev pub First : List ℕ → List ℕ → List ℕ → Source → Sourced → Type 0
First f z t s r = FirstOf f z t (contents_from f s) r

abbrev pub Yields : List ℕ → List ℕ → List ℕ → Source → Option Sourced → Type 0
Yields f z t s None = contents_from f s ≡ []
Yields f z t s (Some r) = First f z t s r

-- r: that stage is due at a cursor's tokens, with so many rows `)`
pub record IsDue (f : List ℕ) (g : Stage) (c : Cursor) (n : ℕ) (r : Source) : Type 0 where
  pub stage : r.stage ≡ g
  pub same : tokens_at f r.at ≡ tokens_at f c
  pub ends : r.ends ≡ n

-- before the first row
abbrev pub StartsRows : List ℕ → Source → Type 0
StartsRows f s = contents_from f s ≡ module_row false ∷ lines_at f 2
