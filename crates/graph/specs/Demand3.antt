-- Demand 3 of 00-mission.md: where RETURNs land, and which list each has. A statement and what it needs; the proof is in graph_laws. Assumes nothing.
use Rattle.std.specs.Prelude.{ℕ, ◌≡◌, ◌↔◌}
use mathlib.Core.List.{List, Memᴰ}
use Rattle.listings.specs.Every.{All}
use Rattle.listings.specs.Listing.{Listing}
use Rattle.graph.specs.Lists.{Ascending}
use Rattle.graph.specs.Reach.{Reach}
use Rattle.graph.specs.Graph.{Wired, wire, role, returns, continuation, callees, skip_steps}
use Rattle.graph.specs.Run.{State, run}

-- "a path that steps from a call only to its continuation, goes no further than a RETURN, and otherwise follows successors"
abbrev pub SkippingPath : Wired → ℕ → ℕ → Type 0
SkippingPath W a b = Reach (skip_steps W) a b

-- k is one of "the continuations of those calls that have some existing target with a skipping path from its line entry to that RETURN", r
pub record Returns (W : Wired) (r k : ℕ) : Type 0 where
  pub caller : ℕ
  pub callee : ℕ
  pub continues : Memᴰ k (continuation W caller)
  pub exists : Memᴰ callee (callees W caller)
  pub skips : SkippingPath W callee r

-- a step from a RETURN lands on a node of its list
abbrev pub LandsOn : Listing → (ℕ → List ℕ) → State × State → Type 0
LandsOn L list d = role (wire L) d.0.node ≡ returns → Memᴰ d.1.node (list d.0.node)

-- list: the successor list of each node, as the rules give it or as a written graph has it
pub record Demand3 (L : Listing) (list : ℕ → List ℕ) : Type 0 where
  -- "whichever node a run starts at with an empty list of open calls, and whichever steps it takes under document 01, however many: each time a RETURN
  -- closes a call with a continuation, the run lands on a node of the successor list that the written graph has for that RETURN": of the whole list of steps
  pub lands : (start : ℕ) (choices : List ℕ) → All (LandsOn L list) (run L start choices)
  -- "For every RETURN of the listing, whether a run reaches it or not, that list is, strictly ascending, exactly the continuations of those calls that have
  -- some existing target with a skipping path from its line entry to that RETURN."
  pub ascends : (r : ℕ) → role (wire L) r ≡ returns → Ascending (list r)
  pub exactly : (r : ℕ) → role (wire L) r ≡ returns → (k : ℕ) → Memᴰ k (list r) ↔ Returns (wire L) r k
