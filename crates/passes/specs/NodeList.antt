-- A node's list by itself, from the tables: what its statement adds, by the number of its opening word. Assumes
-- nothing.
use Rattle.std.specs.Prelude.{ℕ, ◌+◌, ◌*◌, ◌≤◌, ◌<◌, ◌≡◌, Bool, ◌||◌, not, List, [], ◌++◌, eqb, ltb, length, get_or, take, drop}
use Rattle.layout.specs.Layout.{goto_word, run_word, for_word, next_word, until_word, endloop_word, exit_word, else_word, stop_word, any_word, ongoto_word}
use Rattle.listings.specs.Bytes.{pick}
use Rattle.listings.specs.Listing.{Listing}
use Rattle.graph.specs.Lists.{each}
use Rattle.graph_laws.specs.Adding.{decode}
use Rattle.graph.specs.Graph.{wire, base}
use Rattle.passes.specs.ForLinks.{popped_by}
use Rattle.passes.specs.NextBodies.{body_at, link_body}
use Rattle.passes.specs.AddRoom.{RoomToAdd}
use Rattle.passes.specs.EntryOrder.{Rises}
use Rattle.passes.specs.Prepared.{Prepared, Keys, link_entries}
use Rattle.tables.specs.Columns.{word_of, fall_entry}
use Rattle.tables.specs.EntryRows.{entry_column}

-- ---- what a statement adds to its own list, as Edges.own says it; ts, en, fs, ls, fr: the tables of statements,
-- entries, falls, links and frames

-- a RUN: its target, or the first line's entry
unfoldable pub run_edges : (ts en ls : List ℕ) (lines i : ℕ) → List ℕ
run_edges ts en ls lines i = pick (eqb (get_or ts (i * 12 + 10) 0) 0) (each decode (take 1 (entry_column 1 lines en))) (link_entries ts ls i)

-- GOTO, GOSUB and RETURN come before 11, ON GOTO and ON GOSUB fall besides
unfoldable pub jump_edges : (ts fs ls : List ℕ) (i : ℕ) → List ℕ
jump_edges ts fs ls i = link_entries ts ls i ++ pick (ltb (word_of ts i) ongoto_word) [] (fall_entry fs i)

unfoldable pub next_edges : (ts fs ls : List ℕ) (i : ℕ) → List ℕ
next_edges ts fs ls i = each (body_at fs) (popped_by ls i (get_or ts (i * 12 + 10) 0)) ++ fall_entry fs i

-- an UNTIL that meets no frame adds nothing
unfoldable pub until_edges : (fs fr : List ℕ) (i : ℕ) → List ℕ
until_edges fs fr i = pick (eqb (get_or fr (i * 3) 0) 0) [] (link_body fs (get_or fr (i * 3) 0) ++ fall_entry fs i)

-- all but EXIT, ELSE and STOP
unfoldable pub falls_word : ℕ → Bool
falls_word w = not ((eqb w exit_word || eqb w else_word) || eqb w stop_word)

-- 17 is UNTIL, 18 ENDLOOP
unfoldable pub block_edges : (w : ℕ) (fs fr : List ℕ) (i : ℕ) → List ℕ
block_edges w fs fr i = pick (eqb w endloop_word) (link_body fs (get_or fr (i * 3) 0)) (pick (eqb w until_word) (until_edges fs fr i) (pick (falls_word w) (fall_entry fs i) []))

-- below 7 are IF, IFELSE and RCOMP; 10 is RUN, 14 NEXT, 26 ANY
unfoldable pub own_edges : (ts en fs ls fr : List ℕ) (lines i : ℕ) → List ℕ
own_edges ts en fs ls fr lines i =
    let w = word_of ts i in
    pick (ltb w goto_word) (each decode (take 2 (drop (i * 3 + 1) fs)))
    (pick (eqb w run_word) (run_edges ts en ls lines i)
    (pick (ltb w for_word) (jump_edges ts fs ls i)
    (pick (eqb w next_word) (next_edges ts fs ls i)
    (pick (eqb w any_word) (each decode (entry_column 1 lines en)) (block_edges w fs fr i)))))

-- ---- room

-- the row of node i is in each table, the list is empty, and what the statement adds fits the part
pub record OwnRoom (ts en fs ls fr : List ℕ) (lines i : ℕ) (part : List ℕ) (n : ℕ) : Type 0 where
  pub fresh : n ≡ 0
  pub stmts : i * 12 + 12 ≤ length ts
  pub entries : lines * 2 ≤ length en
  pub falls : i * 3 + 3 ≤ length fs
  pub links : i * 64 + 64 ≤ length ls
  pub frames : i * 3 + 3 ≤ length fr
  pub few : 7 ≤ get_or ts (i * 12) 0 → get_or ts (i * 12 + 10) 0 ≤ 64
  pub rises : Rises 0 (entry_column 1 lines en)
  pub room : RoomToAdd part n (own_edges ts en fs ls fr lines i)

-- ---- the whole list

-- the tables are prepared for some listing, and the part has room for its nodes
pub record ListReady (stmts args entries falls links frames dispatched : List ℕ) (lines i m : ℕ) : Type 0 where
  pub listing : Listing
  pub keys₀ : List ℕ
  pub nodes : ℕ
  pub prepared : Prepared listing stmts keys₀ entries falls links frames dispatched lines nodes
  pub kept : Keys stmts keys₀ args i
  pub size : length args ≡ length keys₀
  pub node : i < nodes
  pub room : nodes ≤ m

-- the list l is at the front of the part
pub record ListIs (l part part' : List ℕ) (r : ℕ) : Type 0 where
  pub count : r ≡ length l
  pub list : take r part' ≡ l
  pub size : length part' ≡ length part
  pub within : r ≤ length part

-- of every listing that the tables are prepared for
abbrev pub ListMade : (stmts args entries falls links frames dispatched : List ℕ) (lines i : ℕ) (part part' : List ℕ) (r : ℕ) → Type 0
ListMade stmts args entries falls links frames dispatched lines i part part' r =
    (L : Listing) (ks : List ℕ) (n : ℕ) → Prepared L stmts ks entries falls links frames dispatched lines n → Keys stmts ks args i → length args ≡ length ks → i < n
    → ListIs (base (wire L) i) part part' r
