-- The rows of arguments, filled with where the nodes step on a skipping path: first those of the NEXTs, whose lists
-- read arguments. Assumes nothing.
use Rattle.std.specs.Prelude.{ℕ, ◌+◌, ◌*◌, ◌/◌, ◌≤◌, ◌<◌, ◌≡◌, Bool, true, not, ◌↔◌, eqb, length, get_or}
use mathlib.Core.List.{List, Memᴰ}
use Rattle.layout.specs.Layout.{next_word}
use Rattle.listings.specs.Bytes.{pick}
use Rattle.listings.specs.Listing.{Listing}
use Rattle.graph.specs.Graph.{wire, skip_steps}
use Rattle.passes.specs.Prepared.{Prepared, Keys, Roles}
use Rattle.passes.specs.NodeList.{ListReady, ListIs}
use Rattle.passes.specs.Sets.{In}
use Rattle.passes.specs.ReturnSets.{set_of}
use Rattle.passes.specs.Closure.{RowsHold}

-- ---- one node

-- its steps can be listed
pub record SkipReady (stmts args entries falls links frames dispatched : List ℕ) (lines i room : ℕ) : Type 0 where
  pub ready : ListReady stmts args entries falls links frames dispatched lines i room
  pub roles : Roles (wire ready.listing) stmts falls links ready.nodes

-- whichever listing the tables hold
abbrev pub SkipMade : (stmts args entries falls links frames dispatched : List ℕ) (lines i : ℕ) (part part' : List ℕ) (r : ℕ) → Type 0
SkipMade stmts args entries falls links frames dispatched lines i part part' r =
    (L : Listing) (ks : List ℕ) (n : ℕ) → Prepared L stmts ks entries falls links frames dispatched lines n → Roles (wire L) stmts falls links n → Keys stmts ks args i
    → length args ≡ length ks → i < n → ListIs (skip_steps (wire L) i) part part' r

-- the row of node i holds its steps
abbrev pub Steps : Listing → List ℕ → ℕ → Type 0
Steps L args i = (j : ℕ) → In (set_of args i) j ↔ Memᴰ j (skip_steps (wire L) i)

-- the nodes whose rows a pass fills, by their words: the NEXTs (14), or all others
unfoldable pub in_pass : Bool → ℕ → Bool
in_pass nexts w = pick (eqb w next_word) nexts (not nexts)

-- node i is one of them
unfoldable pub passes : List ℕ → Bool → ℕ → Bool
passes stmts nexts i = in_pass nexts (get_or stmts (i * 12) 0)

pub record RowReady (stmts args entries falls links frames dispatched : List ℕ) (lines i : ℕ) (nexts : Bool) (room : ℕ) : Type 0 where
  pub few : i < 4096
  pub within : i * 12 < length stmts
  pub fits : i * 64 + 64 ≤ length args
  pub skips : passes stmts nexts i ≡ true → SkipReady stmts args entries falls links frames dispatched lines i room

pub record RowFilled (stmts args entries falls links frames dispatched : List ℕ) (lines i : ℕ) (nexts : Bool) (args' : List ℕ) : Type 0 where
  pub size : length args' ≡ length args
  pub row : passes stmts nexts i ≡ true → (L : Listing) (ks : List ℕ) (n : ℕ) → Prepared L stmts ks entries falls links frames dispatched lines n
      → Roles (wire L) stmts falls links n → Keys stmts ks args i → length args ≡ length ks → i < n → Steps L args' i
  pub others : (e : ℕ) → (e / 64 ≡ i → passes stmts nexts i ≡ true → ⊥) → get_or args' e 0 ≡ get_or args e 0

-- ---- a pass

-- the arguments are as they were read, as long as NEXTs are filled
pub record PassReady (stmts args entries falls links frames dispatched : List ℕ) (lines n : ℕ) (nexts : Bool) (room : ℕ) : Type 0 where
  pub listing : Listing
  pub keys₀ : List ℕ
  pub prepared : Prepared listing stmts keys₀ entries falls links frames dispatched lines n
  pub roles : Roles (wire listing) stmts falls links n
  pub size : length args ≡ length keys₀
  pub names : nexts ≡ true → args ≡ keys₀
  pub room_for : n ≤ room

-- of the first k nodes
pub record PassFilled (stmts args entries falls links frames dispatched : List ℕ) (lines n : ℕ) (nexts : Bool) (k : ℕ) (args' : List ℕ) : Type 0 where
  pub size : length args' ≡ length args
  pub rows : (L : Listing) (ks : List ℕ) → Prepared L stmts ks entries falls links frames dispatched lines n → Roles (wire L) stmts falls links n → length args ≡ length ks
      → (nexts ≡ true → args ≡ ks) → (i : ℕ) → i < k → i < n → passes stmts nexts i ≡ true → Steps L args' i
  pub others : (e : ℕ) → (e / 64 < k → passes stmts nexts (e / 64) ≡ true → ⊥) → get_or args' e 0 ≡ get_or args e 0

-- ---- all rows

pub record FillReady (stmts args entries falls links frames dispatched : List ℕ) (lines n room : ℕ) : Type 0 where
  pub listing : Listing
  pub prepared : Prepared listing stmts args entries falls links frames dispatched lines n
  pub roles : Roles (wire listing) stmts falls links n
  pub room_for : n ≤ room

pub record RowsFilled (stmts args entries falls links frames dispatched : List ℕ) (lines n : ℕ) (args' : List ℕ) : Type 0 where
  pub size : length args' ≡ length args
  pub rows : (L : Listing) → Prepared L stmts args entries falls links frames dispatched lines n → Roles (wire L) stmts falls links n → RowsHold (skip_steps (wire L)) n args'
