-- The reader's records and the nodes of the same listing: what each entry says of its node. Assumes nothing.
use Rattle.std.specs.Prelude.{ℕ, zero, suc, ◌+◌, ◌*◌, ◌<◌, ◌≡◌, refl, List, [], ◌∷◌, ◌++◌, length}
use Rattle.std.proofs.Common.{ap, sym, ◌∙◌, arith}
use Rattle.std.proofs.Math.Option.{Option, none, some}
use Rattle.std.proofs.Math.ListN.{get_elem?}
use Rattle.graph.specs.NodeWords.{stmt_word, stmt_number}
use Rattle.listings.specs.Listing.{Simple, CondWord, BranchForm, to, stmts, absent, Stmts, ∅, ◌▸◌, branching, Lines, nolines, line, size, len, total, count}
use Rattle.listings.specs.ListingText.{simple_word, cond_word}
use Rattle.listings.specs.WordTable.{word_index}
use Rattle.listings.specs.Records.{Rec, args_of, detail_of, branch_number, branch_line, simple_rec, cond_rec, stmt_recs, line_recs}
use Rattle.graph_laws.specs.Adding.{node_number}
use Rattle.graph_laws.specs.NodeLaws.{length-allocate, length-nodes}
use Rattle.graph.specs.Nodes.{NodeStmt, simple, cond, Node, branch_target, allocate, line_entry, nodes_before}

-- a branch by its form, number and the node where its statements begin and end
pub record BranchIs (form number from next : ℕ) (t : BranchForm) (a : Stmts) : Type 0 where
  pub form_is : form ≡ branch_number t
  pub number_is : number ≡ branch_line t
  pub next_is : next ≡ from + size a

-- of node i: what its record says of its statement
abbrev pub StmtIs : ℕ → NodeStmt → Rec → Type 0
StmtIs i (simple o) r = (r.detail ≡ detail_of o) × (r.args ≡ args_of o) × (r.end ≡ suc i)
StmtIs i (cond w x y) r =
    (t : BranchForm) × (a : Stmts) × (u : BranchForm) × (b : Stmts)
    × (x ≡ branch_target t (suc i) a) × (y ≡ branch_target u r.second b)
    × BranchIs r.form1 r.number1 (suc i) r.second t a × BranchIs r.form2 r.number2 r.second r.end u b

pub record RecOf (i : ℕ) (n : Node) (r : Rec) : Type 0 where
  pub word_is : r.word ≡ stmt_number n.stmt
  pub line_is : r.line ≡ n.line
  pub holder_is : r.holder ≡ node_number n.holder
  pub stmt_is : StmtIs i n.stmt r

-- the nodes and the records of a listing, side by side from node i on
pub data Match : ℕ → List Node → List Rec → Type 0 where
  match[] : {i : ℕ} → Match i [] []
  match∷ : {i : ℕ} {n : Node} {r : Rec} {ns : List Node} {rs : List Rec} → RecOf i n r → Match (suc i) ns rs → Match i (n ∷ ns) (r ∷ rs)

match_append : {i j : ℕ} {ns ms : List Node} {rs qs : List Rec} → Match i ns rs → j ≡ i + length ns → Match j ms qs → Match i (ns ++ ms) (rs ++ qs)
match_append {i} {j} {ms = ms} {qs = qs} match[] e m = let q : j ≡ i = omega arith in rw q at m
match_append {i} {j} (match∷ {ns = ns} p ps) e m = match∷ p (match_append ps (omega arith) m)

pub match_at : {i : ℕ} {ns : List Node} {rs : List Rec} → Match i ns rs → (k : ℕ) (n : Node) → get_elem? ns k ≡ some n → (r : Rec) × (get_elem? rs k ≡ some r) × RecOf (i + k) n r
match_at match[] k n e = absurd (let z : ◌≡◌ {A = ℕ} 0 1 = cc in omega arith)
match_at {i} (match∷ {n = m} {r = r} p ps) zero n e = let q : m ≡ n = cc in let z : i ≡ i + 0 = omega arith in (r, refl, rw (← q, ← z) p)
match_at {i} (match∷ p ps) (suc k) n e = let q : suc i + k ≡ i + suc k = omega arith in let s = match_at ps k n e in (s.0, s.1, rw q at s.2)

stmts_match : (li n : ℕ) (p : List ℕ) (v : Option ℕ) (i k m : ℕ) (e : Option ℕ) (s : Stmts) → Match i (allocate li n p v i k e s) (stmt_recs li (node_number v) m i s)
unfolding allocate stmt_recs stmt_number stmt_word simple_rec cond_rec
stmts_match li n p v i k m e ∅ = match[]
stmts_match li n p v i k m e (s ▸ o) =
    match_append (stmts_match li n p v i k m (some (i + size s)) s) (rw (length-allocate li n p v i k (some (i + size s)) s) refl)
    (match∷ (record { word_is = refl; line_is = refl; holder_is = refl; stmt_is = (refl, refl, refl) }) match[])
stmts_match li n p v i k m e (branching s w t a u b) =
    let j = i + size s in
    let q = p ++ ((k + len s) ∷ []) in
    match_append (stmts_match li n p v i k m (some j) s) (rw (length-allocate li n p v i k (some j) s) refl)
    (match∷
    (record {
      word_is = refl;
      line_is = refl;
      holder_is = refl;
      stmt_is = (t, a, u, b, refl, refl, record { form_is = refl; number_is = refl; next_is = refl }, record { form_is = refl; number_is = refl; next_is = refl });
    })
    (match_append (stmts_match li n q (some j) (suc j) 0 0 e a) (rw (length-allocate li n q (some j) (suc j) 0 e a) refl)
    (stmts_match li n q (some j) (suc j + size a) (len a) (len a) e b)))

pub lines_match : (e : Option ℕ) (ls : Lines) → Match 0 (nodes_before e ls) (line_recs ls)
unfolding nodes_before line_recs
lines_match e nolines = match[]
lines_match e (line ls n s) =
    match_append (lines_match (line_entry (total ls) s e) ls) (rw (length-nodes (line_entry (total ls) s e) ls) (omega arith)) (stmts_match (count ls) n [] none (total ls) 0 0 e s)
