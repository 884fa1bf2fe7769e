-- The table of where statements fall and where their branches lead, and what connecting says of it. Assumes nothing.
use Rattle.std.specs.Prelude.{ℕ, suc, ◌+◌, ◌*◌, ◌≤◌, ◌≡◌, refl, Bool, true, List, [], ◌∷◌, ◌++◌, length, get_or, replicate, ltb}
use Rattle.std.proofs.Math.Option.{Option}
use Rattle.std.proofs.lemmas.List.Edits.{sets}
use Rattle.listings.specs.Bytes.{pick}
use Rattle.listings.specs.Listing.{BranchForm, Stmts, ∅, ◌▸◌, branching, Lines, size}
use Rattle.listings.specs.ListingText.{StmtsOk, LinesOk}
use Rattle.listings.specs.Records.{branch_number, branch_line, padded}
use Rattle.graph_laws.specs.Adding.{node_number, decode, decode_number}
use Rattle.graph.specs.Nodes.{BranchTarget, to_line, to_node, falls, NodeStmt, simple, cond, Node, branch_target, Entries, entry_of, entries, nodes}
use Rattle.graph.specs.Targets.{branch_edges}
use Rattle.passes.specs.Held.{StmtsHeld}
use Rattle.passes.specs.LineSearch.{EntryTable}

-- ---- the table: a row of three for each node

-- where a branch leads: one more than the node, or 0; e is where its IF falls, in the same way
unfoldable pub leads : Entries → ℕ → BranchTarget → ℕ
leads es e (to_line n) = node_number (entry_of es n)
leads es e (to_node j) = suc j
leads es e falls = e

-- where a statement falls, where its first branch leads, where its second branch leads
unfoldable pub stmt_row : Entries → ℕ → NodeStmt → List ℕ
stmt_row es e (simple o) = e ∷ 0 ∷ 0 ∷ []
stmt_row es e (cond w x y) = e ∷ leads es e x ∷ leads es e y ∷ []

unfoldable pub fall_row : Entries → Node → List ℕ
fall_row es n = stmt_row es (node_number n.fall) n.stmt

unfoldable pub fall_rows : Entries → List Node → List ℕ
fall_rows es [] = []
fall_rows es (n ∷ ns) = fall_row es n ++ fall_rows es ns

-- the edges to a branch are what the entry decodes to
pub leads-edges : (es : Entries) (e : Option ℕ) (t : BranchTarget) → decode (leads es (node_number e) t) ≡ branch_edges es e t
unfolding leads branch_edges
leads-edges es e (to_line n) = decode_number (entry_of es n)
leads-edges es e (to_node j) = refl
leads-edges es e falls = decode_number e

-- ---- a statement by its branches, and the rows of its subtree

pub data Head : Type 0 where
  leaf : Head
  fork : BranchForm → Stmts → BranchForm → Stmts → Head

abbrev pub head_size : Head → ℕ
head_size leaf = 1
head_size (fork t a u b) = suc (size a + size b)

-- of node i
unfoldable pub head_row : Entries → (i e : ℕ) → Head → List ℕ
head_row es i e leaf = e ∷ 0 ∷ 0 ∷ []
head_row es i e (fork t a u b) = e ∷ leads es e (branch_target t (suc i) a) ∷ leads es e (branch_target u (suc i + size a) b) ∷ []

-- the statements of a list: the first is node i, after the last comes e
unfoldable pub falls_of : Entries → (i e : ℕ) → Stmts → List ℕ
unfolding head_row
falls_of es i e ∅ = []
falls_of es i e (s ▸ o) = falls_of es i (suc (i + size s)) s ++ head_row es (i + size s) e leaf
falls_of es i e (branching s w t a u b) =
    let j = i + size s in
    falls_of es i (suc j) s ++ (head_row es j e (fork t a u b) ++ (falls_of es (suc j) e a ++ falls_of es (suc j + size a) e b))

unfoldable pub head_falls : Entries → (i e : ℕ) → Head → List ℕ
unfolding head_row falls_of
head_falls es i e leaf = head_row es i e leaf
head_falls es i e (fork t a u b) = head_row es i e (fork t a u b) ++ (falls_of es (suc i) e a ++ falls_of es (suc i + size a) e b)

-- ---- what the records say of where the statements are

pub record LeafAt (stmts : List ℕ) (i : ℕ) : Type 0 where
  pub end_at : get_or stmts (i * 12 + 4) 0 ≡ suc i
  pub form_at : get_or stmts (i * 12 + 6) 0 ≡ 0

pub record ForkAt (stmts : List ℕ) (i : ℕ) (t : BranchForm) (a : Stmts) (u : BranchForm) (b : Stmts) : Type 0 where
  pub end_at : get_or stmts (i * 12 + 4) 0 ≡ suc i + size a + size b
  pub second_at : get_or stmts (i * 12 + 5) 0 ≡ suc i + size a
  pub form1_at : get_or stmts (i * 12 + 6) 0 ≡ branch_number t
  pub number1_at : get_or stmts (i * 12 + 7) 0 ≡ branch_line t
  pub form2_at : get_or stmts (i * 12 + 8) 0 ≡ branch_number u
  pub number2_at : get_or stmts (i * 12 + 9) 0 ≡ branch_line u

-- the records of a list whose first statement is node i
abbrev pub Spans : List ℕ → ℕ → Stmts → Type 0
Spans rows i ∅ = Unit {0}
Spans rows i (s ▸ o) = Spans rows i s × LeafAt rows (i + size s)
Spans rows i (branching s w t a u b) = Spans rows i s × ForkAt rows (i + size s) t a u b × Spans rows (suc (i + size s)) a × Spans rows (suc (i + size s) + size a) b

abbrev pub HeadAt : List ℕ → ℕ → Head → Type 0
HeadAt rows i leaf = LeafAt rows i
HeadAt rows i (fork t a u b) = ForkAt rows i t a u b × Spans rows (suc i) a × Spans rows (suc i + size a) b

-- an IF in form, at depth d
abbrev pub HeadOk : ℕ → Head → Type 0
HeadOk d leaf = Unit {0}
HeadOk d (fork t a u b) = (d ≤ 16) × (branch_number t ≡ 0 → ⊥) × StmtsOk (suc d) a × StmtsOk (suc d) b

-- ---- contracts, for whatever the tables hold

-- found: the records said where the statements are
pub record FallsWritten (found : Bool) (t u : List ℕ) (i : ℕ) (rows : List ℕ) : Type 0 where
  pub done : found ≡ true
  pub table : u ≡ sets t (i * 3) rows

-- the statement after the one that ends at e, in a list that ends at `end` and then comes to `next`
abbrev pub target_of : (e end next : ℕ) → ℕ
target_of e end next = pick (ltb e end) (e + 1) next

-- where a branch leads whose statements are the nodes from `from` up to `end`
abbrev pub BranchLed : (entries : List ℕ) (k form number from end next r : ℕ) → Type 0
BranchLed entries k form number from end next r =
    (es : Entries) → EntryTable es entries k → (t : BranchForm) (a : Stmts) → form ≡ branch_number t → number ≡ branch_line t → end ≡ from + size a
    → r ≡ leads es next (branch_target t from a)

-- the row of an IF whose second branch begins at m and that ends at `end`
abbrev pub RowConnected : (entries : List ℕ) (k : ℕ) (rows : List ℕ) (i m end next : ℕ) → List ℕ → List ℕ → Type 0
RowConnected entries k rows i m end next t u =
    (es : Entries) → EntryTable es entries k → (f : BranchForm) (a : Stmts) (g : BranchForm) (b : Stmts) → ForkAt rows i f a g b
    → m ≡ suc i + size a → end ≡ suc i + size a + size b → u ≡ sets t (i * 3) (head_row es i next (fork f a g b))

-- depth: the depth left
abbrev pub StmtConnected : (entries : List ℕ) (k : ℕ) (rows : List ℕ) (depth i end next : ℕ) → List ℕ → List ℕ → Bool → Type 0
StmtConnected entries k rows depth i end next t u r =
    (es : Entries) → EntryTable es entries k → (d : ℕ) → d + depth ≡ 17 → (h : Head) → HeadAt rows i h → HeadOk d h → end ≡ i + head_size h
    → FallsWritten r t u i (head_falls es i next h)

abbrev pub BranchConnected : (entries : List ℕ) (k : ℕ) (rows : List ℕ) (depth from end next : ℕ) → List ℕ → List ℕ → Bool → Type 0
BranchConnected entries k rows depth from end next t u r =
    (es : Entries) → EntryTable es entries k → (d : ℕ) → d + depth ≡ 17 → (s : Stmts) → Spans rows from s → StmtsOk d s → end ≡ from + size s
    → FallsWritten r t u from (falls_of es from next s)

-- a table of zeros becomes the rows of all nodes, and zeros past them
pub record AllConnected (ls : Lines) (found : Bool) (t u : List ℕ) : Type 0 where
  pub done : found ≡ true
  pub table : u ≡ padded (length t) (fall_rows (entries ls) (nodes ls))

abbrev pub LinesConnected : (entries rows : List ℕ) (count n : ℕ) → List ℕ → List ℕ → Bool → Type 0
LinesConnected table rows count n t u r =
    (ls : Lines) → LinesOk ls → EntryTable (entries ls) table count → StmtsHeld ls rows n → t ≡ replicate (length t) 0 → AllConnected ls r t u

-- the same into any table
abbrev pub AllLines : (entries rows : List ℕ) (count n : ℕ) → List ℕ → List ℕ → Bool → Type 0
AllLines table rows count n t u r =
    (ls : Lines) → LinesOk ls → EntryTable (entries ls) table count → StmtsHeld ls rows n → FallsWritten r t u 0 (fall_rows (entries ls) (nodes ls))
