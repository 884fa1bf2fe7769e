-- What holds of a FOR's part and of the rest holds of every statement's. Assumes nothing.
use Rattle.std.specs.Prelude.{List}
use Rattle.listings.specs.Listing.{Name, Tier, Mark, Slot, Simple, jump, on, for, next, block, bare}
use Rattle.graph.specs.Nodes.{NodeStmt, simple, cond}
use Rattle.graph.specs.Targets.{on_for, on_next, on_simple}

module _ {A : Type 0} (P : A → Type 0) {d : A} (pd : P d) where
  pub on_for_lem : {f : Name → Tier → A} → ((v : Name) (t : Tier) → P (f v t)) → (o : Simple) → P (on_for f d o)
  unfolding on_for
  on_for_lem h (for v t) = h v t
  on_for_lem h (next m ss) = pd
  on_for_lem h (jump w t) = pd
  on_for_lem h (on w ts) = pd
  on_for_lem h (block w) = pd
  on_for_lem h (bare w) = pd

  pub on_next_lem : {f : Mark → List Slot → A} → ((m : Mark) (ss : List Slot) → P (f m ss)) → (o : Simple) → P (on_next f d o)
  unfolding on_next
  on_next_lem h (next m ss) = h m ss
  on_next_lem h (for v t) = pd
  on_next_lem h (jump w t) = pd
  on_next_lem h (on w ts) = pd
  on_next_lem h (block w) = pd
  on_next_lem h (bare w) = pd

  pub on_simple_lem : {f : Simple → A} → ((o : Simple) → P (f o)) → (s : NodeStmt) → P (on_simple f d s)
  unfolding on_simple
  on_simple_lem h (simple o) = h o
  on_simple_lem h (cond w a b) = pd
