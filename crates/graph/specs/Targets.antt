-- Where edges lead: line entries, branches, the bodies of dispatched FORs. Assumes nothing.
use Rattle.std.specs.Prelude.{ℕ, List, [], ◌∷◌, map}
use Rattle.std.proofs.Math.Option.{Option, none, some}
use Rattle.listings.specs.Bytes.{same, pick}
use Rattle.listings.specs.Listing.{Name, Tier, static, framed, dispatched, Mark, orphan, Slot, Simple, jump, on, for, next, block, bare}
use Rattle.graph.specs.Lists.{each, list}
use Rattle.graph.specs.Nodes.{BranchTarget, to_line, to_node, falls, NodeStmt, simple, cond, Node, Entries, entry_of}

-- "jumps without an entry add none"
unfoldable pub target_entries : Entries → List ℕ → List ℕ
target_entries es ts = each (λ t. list (entry_of es t)) ts

unfoldable pub branch_edges : Entries → Option ℕ → BranchTarget → List ℕ
branch_edges es e (to_line t) = list (entry_of es t)
branch_edges es e (to_node j) = j ∷ []
branch_edges es e falls = list e

-- by a FOR, or else d; by a NEXT, or else d
unfoldable pub on_for {ℓ} : {A : Type ℓ} → (Name → Tier → A) → A → Simple → A
on_for f d (for v t) = f v t
on_for f d (next m ss) = d
on_for f d (jump w t) = d
on_for f d (on w ts) = d
on_for f d (block w) = d
on_for f d (bare w) = d

unfoldable pub on_next {ℓ} : {A : Type ℓ} → (Mark → List Slot → A) → A → Simple → A
on_next f d (next m ss) = f m ss
on_next f d (for v t) = d
on_next f d (jump w t) = d
on_next f d (on w ts) = d
on_next f d (block w) = d
on_next f d (bare w) = d

unfoldable pub on_simple {ℓ} : {A : Type ℓ} → (Simple → A) → A → NodeStmt → A
on_simple f d (simple o) = f o
on_simple f d (cond w a b) = d

-- a dispatched FOR that has a body: its name and that
unfoldable pub dispatch_target : Name → Tier → Option ℕ → List (Name × ℕ)
dispatch_target v dispatched e = map (λ b. (v, b)) (list e)
dispatch_target v static e = []
dispatch_target v framed e = []

-- "the bodies of dispatched FORs in reading order"
unfoldable pub dispatch_targets : List Node → List (Name × ℕ)
dispatch_targets ns = each (λ (n : Node). on_simple (on_for (λ v t. dispatch_target v t n.fall) []) [] n.stmt) ns

-- "all for `*`, else those of its name"
unfoldable pub selectable : List (Name × ℕ) → Slot → List ℕ
selectable ds none = map (λ d. d.1) ds
selectable ds (some v) = each (λ (d : Name × ℕ). pick (same v d.0) (d.1 ∷ []) []) ds

-- "Then each orphan NEXT, per slot"
unfoldable pub orphan_targets : List (Name × ℕ) → Mark → List Slot → List ℕ
orphan_targets ds orphan ss = each (selectable ds) ss
orphan_targets ds Mark.plain ss = []

unfoldable pub orphan_edges : List (Name × ℕ) → NodeStmt → List ℕ
orphan_edges ds s = on_simple (on_next (orphan_targets ds) []) [] s
