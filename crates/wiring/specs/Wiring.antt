-- The lists of all nodes: counted, and written where they fit. Assumes nothing.
use Rattle.std.specs.Prelude.{ℕ, ◌*◌, ◌≤◌, min, ◌≡◌, Bool, ◌&&◌, List, leb, length, replicate, Result, Ok, Err}
use Rattle.layout.specs.declared.refusals.Reason.TheVariants.{EdgeTables}
use Rattle.layout.specs.declared.refusals.Refusal.{Refusal}
use Rattle.layout.specs.Refusals.{refusal_at}
use Rattle.listings.specs.Bytes.{pick}
use Rattle.listings.specs.Listing.{Listing}
use Rattle.listings.specs.Records.{padded, counts_of}
use Rattle.graph.specs.Build.{edge_count}
use Rattle.passes.specs.Prepared.{LinksPrepared}
use Rattle.passes.specs.TableForms.{count_table, list_table, return_table, succ_table, pred_table}

-- the tables before, where the lists are zero
pub record WireHeld (L : Listing) (handlers : Bool) (c n : ℕ) (counts stmts args entries falls links succ pred : List ℕ) : Type 0 where
  pub handlers_are : handlers ≡ L.handlers
  pub prepared : LinksPrepared L stmts args entries falls links c n
  pub counts_are : counts ≡ padded 6 (counts_of L)
  pub zero_succ : succ ≡ replicate (length succ) 0
  pub zero_pred : pred ≡ replicate (length pred) 0

-- some listing's, and there is room
pub record WireReady (handlers : Bool) (c n : ℕ) (counts stmts args entries falls links lists returns succ pred : List ℕ) : Type 0 where
  pub listing : Listing
  pub held : WireHeld listing handlers c n counts stmts args entries falls links succ pred
  pub lists_fit : n * 4 ≤ length lists
  pub returns_fit : n ≤ length returns
  pub zero_lists : lists ≡ replicate (length lists) 0
  pub zero_returns : returns ≡ replicate (length returns) 0

-- the lists of L are written
pub record WiredGraph (L : Listing) (ks counts args lists returns succ pred : List ℕ) : Type 0 where
  pub counts_are : counts ≡ count_table L 6
  pub args_are : args ≡ ks
  pub lists_are : lists ≡ list_table L (length lists)
  pub returns_are : returns ≡ return_table L (length returns)
  pub succ_are : succ ≡ succ_table L (length succ)
  pub pred_are : pred ≡ pred_table L (length pred)

-- "23 either edge table too short or over 32,768 edges", and how many they are
abbrev pub by_edges : (edges room : ℕ) → Result (Unit {0}) Refusal
by_edges edges room = pick (leb edges room && leb edges 32768) (Ok tt) (Err (refusal_at EdgeTables edges))

-- of every listing that the tables hold: the graph is written if its edges fit
pub record WiringDone (L : Listing) (args counts' args' lists' returns' succ' pred' : List ℕ) (answer : Result (Unit {0}) Refusal) : Type 0 where
  pub answered : answer ≡ by_edges (edge_count L) (min (length succ') (length pred'))
  pub graph : answer ≡ Ok tt → WiredGraph L args counts' args' lists' returns' succ' pred'

abbrev pub WiredTo : (handlers : Bool) (c n : ℕ) (stmts args entries falls links counts succ pred counts' args' lists' returns' succ' pred' : List ℕ) (answer : Result (Unit {0}) Refusal) → Type 0
WiredTo h c n stmts args entries falls links counts succ pred counts' args' lists' returns' succ' pred' answer =
    (L : Listing) → WireHeld L h c n counts stmts args entries falls links succ pred → WiringDone L args counts' args' lists' returns' succ' pred' answer
