-- The tables as the passes before the lists leave them, for a listing; and what each node is to a call, read off them.
-- Assumes nothing.
use Rattle.std.specs.Prelude.{ℕ, suc, ◌*◌, ◌+◌, ◌≤◌, ◌<◌, ◌≡◌, Bool, true, false, List, [], ◌∷◌, ◌++◌, map, eqb, length, get_or, take, drop, replicate}
use Rattle.layout.specs.Layout.{return_word, for_word, next_word}
use Rattle.listings.specs.Bytes.{pick}
use Rattle.listings.specs.Listing.{Listing, count}
use Rattle.listings.specs.ListingText.{LinesOk}
use Rattle.listings.specs.Records.{padded}
use Rattle.graph.specs.Lists.{each}
use Rattle.graph_laws.specs.Adding.{decode}
use Rattle.graph.specs.Nodes.{Node}
use Rattle.graph.specs.Targets.{on_for, on_simple, dispatch_target}
use Rattle.graph.specs.Graph.{Wired, wire, Role, call, returns, forgets, steps, no_node, role, base, continuation, callees, skip_steps}
use Rattle.graph_laws.specs.PerNode.{no_openers, facts}
use Rattle.passes.specs.ListedNodes.{Listed}
use Rattle.passes.specs.LineEntries.{entry_rows}
use Rattle.passes.specs.Falls.{fall_rows}
use Rattle.passes.specs.Jumps.{linked}
use Rattle.passes.specs.ForLinks.{linked_rows}
use Rattle.passes.specs.Frames.{frame_table}
use Rattle.tables.specs.Columns.{call_word, word_of, fall_entry}

-- ---- what the passes write, for tables of k entries

-- where each argument leads: a target's entry, the FOR that a slot pops
unfoldable pub link_table : ℕ → Wired → List ℕ
link_table k W = linked_rows 0 W.nodes [] (linked W.entries (replicate k 0) 0 W.nodes)

-- the dispatched FORs that have a body, in reading order, from node i on
unfoldable pub dispatched_from : ℕ → List Node → List ℕ
dispatched_from i [] = []
dispatched_from i (n ∷ ns) = map (λ d. i) (on_simple (on_for (λ v t. dispatch_target v t n.fall) []) [] n.stmt) ++ dispatched_from (suc i) ns

-- the tables hold the n nodes of L, and where these lead
pub record LinksPrepared (L : Listing) (stmts args entries falls links : List ℕ) (lines n : ℕ) : Type 0 where
  pub in_form : LinesOk L.lines
  pub lines_are : lines ≡ count L.lines
  pub nodes_are : n ≡ length (wire L).nodes
  pub few : n ≤ 4096
  pub listed : Listed stmts args (wire L).nodes
  pub entered : entries ≡ padded (length entries) (entry_rows L.lines)
  pub falling : falls ≡ padded (length falls) (fall_rows (wire L).entries (wire L).nodes)
  pub linking : links ≡ link_table (length links) (wire L)
  pub stmts_fit : n * 12 ≤ length stmts
  pub args_fit : n * 64 ≤ length args
  pub few_lines : lines ≤ 1024
  pub entries_fit : lines * 2 ≤ length entries
  pub falls_fit : n * 3 ≤ length falls
  pub links_fit : n * 64 ≤ length links

-- and the frames of these, and those that are dispatched FORs and have a body
pub record Prepared (L : Listing) (stmts args entries falls links frames dispatched : List ℕ) (lines n : ℕ) : Type 0 where
  pub in_form : LinesOk L.lines
  pub lines_are : lines ≡ count L.lines
  pub nodes_are : n ≡ length (wire L).nodes
  pub few : n ≤ 4096
  pub listed : Listed stmts args (wire L).nodes
  pub entered : entries ≡ padded (length entries) (entry_rows L.lines)
  pub falling : falls ≡ padded (length falls) (fall_rows (wire L).entries (wire L).nodes)
  pub linking : links ≡ link_table (length links) (wire L)
  pub framed : frames ≡ frame_table (length frames) (facts 0 (wire L).nodes no_openers)
  pub dispatching : dispatched ≡ dispatched_from 0 (wire L).nodes
  pub stmts_fit : n * 12 ≤ length stmts
  pub args_fit : n * 64 ≤ length args
  pub few_lines : lines ≤ 1024
  pub entries_fit : lines * 2 ≤ length entries
  pub falls_fit : n * 3 ≤ length falls
  pub links_fit : n * 64 ≤ length links
  pub frames_fit : n * 3 ≤ length frames

-- Rows of arguments that no list needs may have changed from ks to args: for the NEXT i its own row and the names of
-- FORs are kept.
pub record KeysKept (stmts ks args : List ℕ) (i : ℕ) : Type 0 where
  pub own : (j : ℕ) → j < 64 → get_or args (i * 64 + j) 0 ≡ get_or ks (i * 64 + j) 0
  pub names : (k : ℕ) → get_or stmts (k * 12) 0 ≡ for_word → get_or args (k * 64) 0 ≡ get_or ks (k * 64) 0

-- for any other node nothing is needed
abbrev pub Keys : List ℕ → List ℕ → List ℕ → ℕ → Type 0
Keys stmts ks args i = get_or stmts (i * 12) 0 ≡ next_word → KeysKept stmts ks args i

-- ---- what a node is to a call; opening word 9 is RETURN

unfoldable pub is_call : Role → Bool
is_call (call m ts) = true
is_call returns = false
is_call forgets = false
is_call steps = false
is_call no_node = false

unfoldable pub is_return : Role → Bool
is_return (call m ts) = false
is_return returns = true
is_return forgets = false
is_return steps = false
is_return no_node = false

-- where a call's written targets lead, by the tables
unfoldable pub link_entries : List ℕ → List ℕ → ℕ → List ℕ
link_entries stmts links i = each decode (take (get_or stmts (i * 12 + 10) 0) (drop (i * 64) links))

-- of the n nodes of W
pub record Roles (W : Wired) (stmts falls links : List ℕ) (n : ℕ) : Type 0 where
  pub nodes_are : n ≡ length W.nodes
  pub few : n ≤ 4096
  pub stmts_fit : n * 12 ≤ length stmts
  pub falls_fit : n * 3 ≤ length falls
  pub links_fit : n * 64 ≤ length links
  pub calling : (i : ℕ) → i < n → call_word (word_of stmts i) ≡ is_call (role W i)
  pub returning : (i : ℕ) → i < n → eqb (word_of stmts i) return_word ≡ is_return (role W i)
  pub continuing : (i : ℕ) → i < n → continuation W i ≡ pick (call_word (word_of stmts i)) (fall_entry falls i) []
  pub targets : (i : ℕ) → i < n → callees W i ≡ pick (call_word (word_of stmts i)) (link_entries stmts links i) []
  pub skipping : (i : ℕ) → i < n → skip_steps W i ≡ pick (call_word (word_of stmts i)) (fall_entry falls i) (pick (eqb (word_of stmts i) return_word) [] (base W i))
  pub returns_none : (i : ℕ) → i < n → eqb (word_of stmts i) return_word ≡ true → base W i ≡ []
  pub few_targets : (i : ℕ) → i < n → call_word (word_of stmts i) ≡ true → get_or stmts (i * 12 + 10) 0 ≤ 64
  pub fall_fits : (i : ℕ) → i < n → get_or falls (i * 3) 0 ≤ n
  pub link_fits : (i : ℕ) → i < n → call_word (word_of stmts i) ≡ true → (j : ℕ) → j < get_or stmts (i * 12 + 10) 0 → get_or links (i * 64 + j) 0 ≤ n
