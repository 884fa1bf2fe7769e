-- Where RETURNs go back to, where all lists together are too long to store: regions by closed rows of bits. Assumes
-- nothing.
use Rattle.std.specs.Prelude.{Option, ℕ, ◌*◌, ◌≤◌, ◌<◌, ◌≡◌, Bool, true, false, ◌&&◌, not, List, [], ◌↔◌, ltb, eqb, length, get_or}
use Rattle.listings.specs.Bytes.{pick}
use Rattle.listings.specs.Listing.{Listing}
use Rattle.graph.specs.Graph.{wire, region_return_edges}
use Rattle.tables.specs.Columns.{word_of}
use Rattle.passes.specs.Sets.{In, members_of}
use Rattle.passes.specs.ReturnSets.{IsReturn, set_of}
use Rattle.layout.specs.Layout.{return_word}
use Rattle.passes.specs.Closure.{Leads, OthersClosed}
use Rattle.passes.specs.Prepared.{Prepared, Roles}
use Rattle.passes.specs.Regions.{ReturnsBy, RegionJoined, RegionsJoined, CallsReady}
use Rattle.passes.specs.WalkTables.{calls_readable}
use Rattle.passes.specs.Spans.{Spanned}
use Rattle.passes.specs.declared.spans.Span.{Span}

-- ---- entries

-- whichever steps the rows are closed over
abbrev pub EntryByRows : (stmts falls links : List ℕ) (n e : ℕ) (rows rows' : List ℕ) → Type 0
EntryByRows stmts falls links n e rows rows' = (step : ℕ → List ℕ) → OthersClosed step stmts n rows → RegionJoined stmts falls links step n e rows rows'

abbrev pub EntriesByRows : (stmts falls links : List ℕ) (n m : ℕ) (rows rows' : List ℕ) → Type 0
EntriesByRows stmts falls links n m rows rows' = (step : ℕ → List ℕ) → OthersClosed step stmts n rows → RegionsJoined stmts falls links step n m rows rows'

-- the calls and their spans are known
pub record ByRowsReady (stmts falls links : List ℕ) (n : ℕ) (calls : List ℕ) (spans : List (Option Span)) (rows : List ℕ) : Type 0 where
  pub calls_ready : CallsReady stmts falls links n calls
  pub spanned : Spanned stmts links calls (length calls) spans
  pub in_rows : n * 64 ≤ length rows

-- ---- rows that anyone may have written

-- where the row of one of n nodes leads; "a skipping path .. never steps from a RETURN"
unfoldable pub row_steps : (stmts rows : List ℕ) (n i : ℕ) → List ℕ
row_steps stmts rows n i = pick (ltb i n && not (eqb (word_of stmts i) return_word)) (members_of (set_of rows i)) []

-- the row of a RETURN becomes its set, any other all that it leads to; what is behind the n rows stays
pub record SetsByRows (stmts falls links : List ℕ) (n : ℕ) (rows rows' : List ℕ) : Type 0 where
  pub size : length rows' ≡ length rows
  pub members : (r : ℕ) → IsReturn stmts n r → (k : ℕ) → In (set_of rows' r) k ↔ ((e : ℕ) × ReturnsBy stmts falls links (row_steps stmts rows n) n e r k)
  pub others : (i : ℕ) → i < n → (get_or stmts (i * 12) 0 ≡ return_word → ⊥) → (j : ℕ) → In (set_of rows' i) j ↔ Leads (row_steps stmts rows n) i j
  pub rest : (e : ℕ) → n * 64 ≤ e → get_or rows' e 0 ≡ get_or rows e 0

-- on all tables: false stands for refusal 25
pub record ByRowsAnswered (stmts falls links : List ℕ) (n : ℕ) (rows rows' : List ℕ) (r : Bool) : Type 0 where
  pub answer : r ≡ calls_readable stmts falls links n rows
  pub refused : r ≡ false → rows' ≡ rows
  pub found : r ≡ true → SetsByRows stmts falls links n rows rows'

-- ---- the rows of a listing's arguments

-- the set of each RETURN stands in its own row of arguments
pub record ReturnsByRows (stmts args entries falls links frames dispatched : List ℕ) (lines n : ℕ) (args' : List ℕ) : Type 0 where
  pub size : length args' ≡ length args
  pub members : (L : Listing) → Prepared L stmts args entries falls links frames dispatched lines n → Roles (wire L) stmts falls links n
      → (r : ℕ) → r < n → get_or stmts (r * 12) 0 ≡ return_word → members_of (set_of args' r) ≡ region_return_edges (wire L) r
