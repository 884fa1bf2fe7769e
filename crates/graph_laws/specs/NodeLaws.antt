-- As many nodes as statements; where nodes fall, branches lead and lines enter are nodes. Assumes nothing.
use Rattle.std.specs.Prelude.{ℕ, zero, suc, ◌+◌, ◌<◌, ◌≤◌, ◌≡◌, refl, List, [], ◌∷◌, ◌++◌, Bool, true, false, eqb, length}
use Rattle.std.proofs.Math.Option.{Option, none, some}
use Rattle.std.proofs.Common.{arith, length-append}
use Rattle.listings.specs.Bytes.{pick}
use Rattle.listings.specs.Listing.{BranchForm, to, stmts, absent, Stmts, ∅, ◌▸◌, branching, Lines, nolines, line, size, len, total, count}
use Rattle.listings.specs.Every.{All, all[], all∷, all_append}
use Rattle.graph.specs.Lists.{list}
use Rattle.graph_laws.specs.Members.{all-each}
use Rattle.graph.specs.Nodes.{BranchTarget, to_line, to_node, falls, NodeStmt, simple, cond, Node, branch_target, allocate, line_entry, nodes_before, LineEntry, Entries, entries_before, first_entry, all_entries, entries, entry_in, entry_of}

pub length-allocate : (li n : ℕ) (p : List ℕ) (v : Option ℕ) (i k : ℕ) (e : Option ℕ) (s : Stmts) → length (allocate li n p v i k e s) ≡ size s
unfolding allocate size
length-allocate li n p v i k e ∅ = refl
length-allocate li n p v i k e (s ▸ o) = simp length-append (omega (arith, length-allocate li n p v i k (some (i + size s)) s))
length-allocate li n p v i k e (branching s w t a u b) =
    let q = p ++ ((k + len s) ∷ []) in
    let j = i + size s in
    simp length-append
    (omega (arith, length-allocate li n p v i k (some j) s, length-allocate li n q (some j) (suc j) 0 e a, length-allocate li n q (some j) (suc j + size a) (len a) e b))

pub length-nodes : (e : Option ℕ) (ls : Lines) → length (nodes_before e ls) ≡ total ls
unfolding nodes_before total
length-nodes e nolines = refl
length-nodes e (line ls n s) =
    simp length-append (omega (arith, length-nodes (line_entry (total ls) s e) ls, length-allocate (count ls) n [] none (total ls) 0 e s))

-- a node, where there is one, is below n
abbrev pub Below : ℕ → Option ℕ → Type 0
Below n none = Unit {0}
Below n (some a) = a < n

abbrev pub BelowTarget : ℕ → BranchTarget → Type 0
BelowTarget n (to_line t) = Unit {0}
BelowTarget n (to_node j) = j < n
BelowTarget n falls = Unit {0}

abbrev pub BelowStmt : ℕ → NodeStmt → Type 0
BelowStmt n (simple o) = Unit {0}
BelowStmt n (cond w a b) = BelowTarget n a × BelowTarget n b

abbrev pub NodeFits : ℕ → Node → Type 0
NodeFits n d = Below n d.fall × BelowStmt n d.stmt

abbrev pub EntryFits : ℕ → LineEntry → Type 0
EntryFits n d = Below n d.1

target_fits : (n : ℕ) (t : BranchForm) (i : ℕ) (b : Stmts) → i + size b ≤ n → BelowTarget n (branch_target t i b)
unfolding branch_target size
target_fits n (to m) i b h = tt
target_fits n stmts i ∅ h = tt
target_fits n stmts i (s ▸ o) h = omega arith
target_fits n stmts i (branching s w t a u b) h = omega arith
target_fits n absent i b h = tt

allocate-fits : (n li m : ℕ) (p : List ℕ) (v : Option ℕ) (i k : ℕ) (e : Option ℕ) (s : Stmts) → Below n e → i + size s ≤ n → All (NodeFits n) (allocate li m p v i k e s)
unfolding allocate size
allocate-fits n li m p v i k e ∅ be h = all[]
allocate-fits n li m p v i k e (s ▸ o) be h = all_append (allocate-fits n li m p v i k (some (i + size s)) s (omega arith) (omega arith)) (all∷ (be, tt) all[])
allocate-fits n li m p v i k e (branching s w t a u b) be h =
    let j = i + size s in
    let q = p ++ ((k + len s) ∷ []) in
    all_append (allocate-fits n li m p v i k (some j) s (omega arith) (omega arith))
    (all∷ (be, (target_fits n t (suc j) a (omega arith), target_fits n u (suc j + size a) b (omega arith)))
    (all_append (allocate-fits n li m q (some j) (suc j) 0 e a be (omega arith)) (allocate-fits n li m q (some j) (suc j + size a) (len a) e b be (omega arith))))

line_fits : (n i : ℕ) (s : Stmts) (e : Option ℕ) → i + size s ≤ n → Below n e → Below n (line_entry i s e)
unfolding line_entry size
line_fits n i ∅ e h be = be
line_fits n i (s ▸ o) e h be = omega arith
line_fits n i (branching s w t a u b) e h be = omega arith

pub nodes_fit : (n : ℕ) (e : Option ℕ) (ls : Lines) → total ls ≤ n → Below n e → All (NodeFits n) (nodes_before e ls)
unfolding nodes_before total
nodes_fit n e nolines h be = all[]
nodes_fit n e (line ls m s) h be =
    all_append (nodes_fit n (line_entry (total ls) s e) ls (omega arith) (line_fits n (total ls) s e h be)) (allocate-fits n (count ls) m [] none (total ls) 0 e s be h)

rows_fit : (n : ℕ) (e : Option ℕ) (ls : Lines) → total ls ≤ n → Below n e → All (EntryFits n) (entries_before e ls)
unfolding entries_before total
rows_fit n e nolines h be = all[]
rows_fit n e (line ls m s) h be =
    let bd = line_fits n (total ls) s e h be in
    all_append (rows_fit n (line_entry (total ls) s e) ls (omega arith) bd) (all∷ bd all[])

row_fits : (n : ℕ) {ds : List LineEntry} → All (EntryFits n) ds → (t : ℕ) → Below n (entry_in ds t)
unfolding entry_in
row_fits n all[] t = tt
row_fits n (all∷ {a = d} {l = ds} p ps) t = go (eqb d.0 t) (row_fits n ps t)
  where
    go : (x : Bool) → Below n (entry_in ds t) → Below n (pick x d.1 (entry_in ds t))
    go true q = p
    go false q = q

-- all entries are nodes
pub record EntriesFit (n : ℕ) (es : Entries) : Type 0 where
  pub rows : All (EntryFits n) es.rows
  pub first : Below n es.first
  pub all : All (λ (i : ℕ). i < n) es.all

pub entries_fit : (n : ℕ) (ls : Lines) → total ls ≤ n → EntriesFit n (entries ls)
unfolding entries first_entry all_entries list
entries_fit n ls h =
    let a = rows_fit n none ls h tt in
    record { rows = a; first = first_fits a; all = all-each (λ (d : LineEntry). list d.1) (λ d p. list-fits d.1 p) a }
  where
    first_fits : {ds : List LineEntry} → All (EntryFits n) ds → Below n (first_entry ds)
    first_fits all[] = tt
    first_fits (all∷ p ps) = p

    list-fits : (e : Option ℕ) → Below n e → All (λ (i : ℕ). i < n) (list e)
    list-fits none p = all[]
    list-fits (some i) p = all∷ p all[]

pub entry_fits : (n : ℕ) {es : Entries} → EntriesFit n es → (t : ℕ) → Below n (entry_of es t)
entry_fits n f t = row_fits n f.rows t
