-- A test that answers what it tested: the thing itself where the test holds, which then says what is known of it.
-- Assumes nothing.
use Rattle.std.specs.Prelude.{ℕ, ◌≡◌, Bool, true, false, List, Option, Some, None}
use Rattle.std.proofs.Common.{sym}
use Rattle.std.specs.Option.{is_some}
use Rattle.tables.specs.declared.nodes.Nodes.{Nodes}

abbrev pub Tested : {A : Type 0} → Bool → (A → Type 0) → Option A → Type 0
Tested t P (Some a) = (t ≡ true) × P a
Tested t P None = t ≡ false

-- whether it is there is whether the test holds
pub tested_some : {A : Type 0} {t : Bool} (P : A → Type 0) (o : Option A) → Tested t P o → is_some o ≡ t
tested_some P (Some a) h = sym h.0
tested_some P None h = sym h

-- n nodes as these tables have them
pub record NodesAre (stmts falls links : List ℕ) (n : ℕ) (g : Nodes) : Type 0 where
  pub stmts_are : g.records.stmts.now ≡ stmts
  pub falls_are : g.falls.now ≡ falls
  pub links_are : g.links.now ≡ links
  pub count_is : g.records.n ≡ n
