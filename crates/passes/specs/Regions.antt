-- Where RETURNs go back to without handlers: the calls, the continuations of the calls of one entry, and what the walks
-- from all called entries leave in the sets of the RETURNs. Assumes nothing.
use Rattle.std.specs.Prelude.{Option, ℕ, Bool, ◌+◌, ◌*◌, ◌/◌, ◌≤◌, ◌<◌, ◌≡◌, ◌⊎◌, ◌↔◌, length, get_or, take, drop}
use mathlib.Core.List.{List, [], Memᴰ}
use Rattle.listings.specs.Bytes.{pick}
use Rattle.listings.specs.Every.{All}
use Rattle.graph.specs.Lists.{has, each}
use Rattle.graph.specs.Reach.{Reach}
use Rattle.graph.specs.Graph.{Wired, region_return_edges}
use Rattle.passes.specs.Walk.{Reached, Stored, stored_list}
use Rattle.passes.specs.Spans.{Spanned}
use Rattle.passes.specs.declared.spans.Span.{Span}
use Rattle.passes.specs.ListedWhere.{listed_where}
use Rattle.passes.specs.Sets.{In, members_of}
use Rattle.passes.specs.ReturnSets.{IsReturn, set_of}
use Rattle.layout.specs.Layout.{return_word}
use Rattle.tables.specs.Columns.{call_word, word_of, fall_entry, continuation_entry}
use Rattle.passes.specs.Prepared.{link_entries}

-- ---- calls, by the tables

-- whether node i is one
abbrev pub is_call : List ℕ → ℕ → Bool
is_call stmts i = call_word (word_of stmts i)

-- those among the nodes below n, ascending
abbrev pub calls_below : List ℕ → ℕ → List ℕ
calls_below stmts = listed_where (is_call stmts)

-- the part of a call's row of links that its targets take
unfoldable pub target_row : List ℕ → List ℕ → ℕ → List ℕ
target_row stmts links c = take (get_or stmts (c * 12 + 10) 0) (drop (c * 64) links)

-- where call c goes on, if e is one of its targets
unfoldable pub back_from : List ℕ → List ℕ → List ℕ → ℕ → ℕ → List ℕ
back_from stmts falls links e c = pick (has (e + 1) (target_row stmts links c)) (fall_entry falls c) []

-- the targets of call c stand in the tables, and are among 4,096 nodes
pub record TargetsFit (stmts links : List ℕ) (c : ℕ) : Type 0 where
  pub node : c < 4096
  pub in_stmts : c * 12 + 12 ≤ length stmts
  pub in_links : c * 64 + 64 ≤ length links
  pub few : get_or stmts (c * 12 + 10) 0 ≤ 64
  pub ids : All (λ (t : ℕ). t ≤ 4096) (target_row stmts links c)

-- and so does its continuation
pub record CallFits (stmts falls links : List ℕ) (c : ℕ) : Type 0 where
  pub targets : TargetsFit stmts links c
  pub in_falls : c * 3 < length falls
  pub continues : get_or falls (c * 3) 0 ≤ 4096

-- a list of calls that can be read: all among the n nodes
pub record CallsReady (stmts falls links : List ℕ) (n : ℕ) (calls : List ℕ) : Type 0 where
  pub few : n ≤ 4096
  pub in_stmts : n * 12 ≤ length stmts
  pub listed : calls ≡ calls_below stmts n
  pub fit : All (CallFits stmts falls links) calls

-- some calls that can be read, with all that have the entry e among their targets
pub record EntryCalls (stmts falls links : List ℕ) (n e : ℕ) (calls : List ℕ) : Type 0 where
  pub few : n ≤ 4096
  pub in_stmts : n * 12 ≤ length stmts
  pub fit : All (CallFits stmts falls links) calls
  pub backs : (k : ℕ) → Memᴰ k (each (back_from stmts falls links e) calls) ↔ Memᴰ k (each (back_from stmts falls links e) (calls_below stmts n))

-- ---- nodes that go into a set

pub record SetAdded (set set' l : List ℕ) : Type 0 where
  pub size : length set' ≡ length set
  pub members : (k : ℕ) → In set' k ↔ (In set k ⊎ Memᴰ k l)

-- ---- what a region gives to the sets of its RETURNs

-- k is the continuation of one of n nodes, a call that has the entry e among its targets
pub record CallsBack (stmts falls links : List ℕ) (n e k : ℕ) : Type 0 where
  pub caller : ℕ
  pub node : caller < n
  pub exists : Memᴰ e (link_entries stmts links caller)
  pub continues : Memᴰ k (continuation_entry stmts falls caller)

-- and steps lead from e to r
pub record ReturnsBy (stmts falls links : List ℕ) (step : ℕ → List ℕ) (n e r k : ℕ) : Type 0 where
  pub calls : CallsBack stmts falls links n e k
  pub path : Reach step e r

-- the entry e alone
pub record RegionJoined (stmts falls links : List ℕ) (step : ℕ → List ℕ) (n e : ℕ) (sets sets' : List ℕ) : Type 0 where
  pub size : length sets' ≡ length sets
  pub members : (r : ℕ) → IsReturn stmts n r → (k : ℕ) → In (set_of sets' r) k ↔ (In (set_of sets r) k ⊎ ReturnsBy stmts falls links step n e r k)
  pub others : (i : ℕ) → (IsReturn stmts n (i / 64) → ⊥) → get_or sets' i 0 ≡ get_or sets i 0

-- all entries below m
pub record RegionsJoined (stmts falls links : List ℕ) (step : ℕ → List ℕ) (n m : ℕ) (sets sets' : List ℕ) : Type 0 where
  pub size : length sets' ≡ length sets
  pub members : (r : ℕ) → IsReturn stmts n r → (k : ℕ) → In (set_of sets' r) k ↔ (In (set_of sets r) k ⊎ ((e : ℕ) × (e < m) × ReturnsBy stmts falls links step n e r k))
  pub others : (i : ℕ) → (IsReturn stmts n (i / 64) → ⊥) → get_or sets' i 0 ≡ get_or sets i 0

-- "RETURN .. the list of demand 3": the set of each RETURN r takes in the continuations of the calls that have an entry
-- from which steps lead to r; no other row changes
pub record SetsFound (stmts falls links : List ℕ) (step : ℕ → List ℕ) (n : ℕ) (sets sets' : List ℕ) : Type 0 where
  pub size : length sets' ≡ length sets
  pub members : (r : ℕ) → IsReturn stmts n r → (k : ℕ) → In (set_of sets' r) k ↔ (In (set_of sets r) k ⊎ ((e : ℕ) × ReturnsBy stmts falls links step n e r k))
  pub others : (i : ℕ) → (IsReturn stmts n (i / 64) → ⊥) → get_or sets' i 0 ≡ get_or sets i 0

-- for a listing: the set of each RETURN is the list that the graph has for it
pub record ReturnRows (W : Wired) (stmts : List ℕ) (n : ℕ) (sets sets' : List ℕ) : Type 0 where
  pub size : length sets' ≡ length sets
  pub members : (r : ℕ) → r < n → get_or stmts (r * 12) 0 ≡ return_word → members_of (set_of sets' r) ≡ region_return_edges W r
  pub others : (i : ℕ) → (IsReturn stmts n (i / 64) → ⊥) → get_or sets' i 0 ≡ get_or sets i 0

-- ---- contracts

-- the sets of the RETURNs are empty
abbrev pub SetsClear : List ℕ → ℕ → List ℕ → Type 0
SetsClear stmts n sets = (i : ℕ) → i < n → get_or stmts (i * 12) 0 ≡ return_word → (j : ℕ) → j < 64 → get_or sets (i * 64 + j) 0 ≡ 0

-- for a list of the region of entry e, wherever it is from
abbrev pub ListedJoined : (stmts falls links : List ℕ) (n e : ℕ) (l sets sets' : List ℕ) → Type 0
ListedJoined stmts falls links n e l sets sets' = (step : ℕ → List ℕ) → Reached step e l → RegionJoined stmts falls links step n e sets sets'

-- the walks can start
pub record EntriesReady (stmts falls links lists edges : List ℕ) (n : ℕ) (calls : List ℕ) (spans : List (Option Span)) (sets : List ℕ) : Type 0 where
  pub calls_ready : CallsReady stmts falls links n calls
  pub spanned : Spanned stmts links calls (length calls) spans
  pub stored : Stored lists edges n (stored_list lists edges)
  pub in_sets : n * 64 ≤ length sets
