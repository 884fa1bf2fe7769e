-- Laws of where statements fall: the definition's nodes have these rows; a list's statements one after the other.
-- Assumes nothing.
use Rattle.std.specs.Prelude.{ℕ, suc, ◌+◌, ◌*◌, ◌≤◌, ◌<◌, ◌≡◌, List, [], ◌∷◌, ◌++◌, length, get_or, set, replicate, drop}
use Rattle.std.proofs.Math.Path.{refl}
use Rattle.std.proofs.Common.{sym, ap, subst, ◌∙◌, append_assoc, arith, add-one, add-zero, length-append, get_or-append-add}
use Rattle.std.proofs.Math.Option.{Option, some}
use Rattle.std.proofs.Math.ListN.{get_elem?, get_or-append}
use Rattle.std.proofs.lemmas.List.Edits.{sets, sets-eq}
use Rattle.std.proofs.lemmas.List.{set_comm}
use Rattle.listings.specs.Listing.{Simple, CondWord, BranchForm, to, stmts, absent, Stmts, ∅, ◌▸◌, branching, size, len}
use Rattle.listings.specs.ListingText.{BranchOk, StmtsOk}
use Rattle.listings.specs.Records.{Rec, branch_number, simple_rec, cond_rec, stmt_recs, rec_row, rec_rows, padded, joined}
use Rattle.reader.specs.Tables.{drop_zeros}
use Rattle.listing_laws.specs.ReadingRecords.{stmts_length}
use Rattle.listing_laws.specs.RowsTaken.{first_ok}
use Rattle.listing_laws.specs.RecordLaws.{rec_width}
use Rattle.listing_laws.specs.RecordLaws as records
use Rattle.graph_laws.specs.Adding.{node_number}
use Rattle.graph.specs.Nodes.{NodeStmt, simple, cond, Node, allocate, Entries}
use Rattle.passes.specs.Falls.{stmt_row, fall_row, fall_rows, Head, leaf, fork, head_size, head_row, falls_of, head_falls, Spans, HeadAt, HeadOk}

-- ---- the definition's nodes

pub rows_append : (es : Entries) (k l : List Node) → fall_rows es (k ++ l) ≡ fall_rows es k ++ fall_rows es l
unfolding fall_rows
rows_append es [] l = refl
rows_append es (n ∷ k) l = ap (λ (x : List ℕ). fall_row es n ++ x) (rows_append es k l) ∙ sym (append_assoc (fall_row es n) (fall_rows es k) (fall_rows es l))

row_more : (es : Entries) (n : Node) (l : List Node) → fall_rows es (n ∷ l) ≡ fall_row es n ++ fall_rows es l
unfolding fall_rows
row_more es n l = refl

pub falls-nodes : (es : Entries) (li n : ℕ) (p : List ℕ) (v : Option ℕ) (i k : ℕ) (e : Option ℕ) (s : Stmts) → fall_rows es (allocate li n p v i k e s) ≡ falls_of es i (node_number e) s
unfolding allocate falls_of fall_row stmt_row head_row fall_rows
falls-nodes es li n p v i k e ∅ = refl
falls-nodes es li n p v i k e (s ▸ o) = rw (rows_append es, falls-nodes es li n p v i k (some (i + size s)) s)
falls-nodes es li n p v i k e (branching s w t a u b) =
    let j = i + size s in
    let q = p ++ ((k + len s) ∷ []) in
    rw (rows_append es, falls-nodes es li n p v i k (some j) s, rows_append es, falls-nodes es li n q (some j) (suc j) 0 e a, falls-nodes es li n q (some j) (suc j + size a) (len a) e b)

pub row_width : (es : Entries) (i e : ℕ) (h : Head) → ◌≡◌ {A = ℕ} (length (head_row es i e h)) 3
unfolding head_row
row_width es i e leaf = refl
row_width es i e (fork t a u b) = refl

pub falls-length : (es : Entries) (i e : ℕ) (s : Stmts) → length (falls_of es i e s) ≡ size s * 3
unfolding falls_of size
falls-length es i e ∅ = refl
falls-length es i e (s ▸ o) = simp length-append (omega (arith, falls-length es i (suc (i + size s)) s, row_width es (i + size s) e leaf))
falls-length es i e (branching s w t a u b) =
    let j = i + size s in
    simp length-append
    (omega (arith, falls-length es i (suc j) s, row_width es j e (fork t a u b), falls-length es (suc j) e a, falls-length es (suc j + size a) e b))

node_width : (es : Entries) (n : Node) → ◌≡◌ {A = ℕ} (length (fall_row es n)) 3
unfolding fall_row stmt_row
node_width es n = stmt_width (node_number n.fall) n.stmt
  where
    stmt_width : (e : ℕ) (x : NodeStmt) → ◌≡◌ {A = ℕ} (length (stmt_row es e x)) 3
    stmt_width e (simple o) = refl
    stmt_width e (cond w y z) = refl

pub rows-length : (es : Entries) (ns : List Node) → length (fall_rows es ns) ≡ length ns * 3
unfolding fall_rows
rows-length es = records.rows-length 3 (fall_row es) (fall_rows es) refl (λ n ns. refl) (node_width es)

-- entry c of the row of node i
pub fall_at_lem : (es : Entries) (ns : List Node) (rest : List ℕ) (i c : ℕ) (n : Node) → get_elem? ns i ≡ some n → c < 3
    → get_or (fall_rows es ns ++ rest) (i * 3 + c) 0 ≡ get_or (fall_row es n) c 0
unfolding fall_rows
fall_at_lem es = records.row_at 3 (fall_row es) (fall_rows es) refl (λ n ns. refl) (node_width es)

-- ---- rows written one after the other

pub sets_three : (t : List ℕ) (i a b c : ℕ) → set (set (set t i a) (i + 1) b) (i + 2) c ≡ sets t i (a ∷ b ∷ c ∷ [])
sets_three t i a b c = let q : i + 2 ≡ suc (suc i) = omega arith in rw (add-one, q)

sets-set : {A : Type 0} (t : List A) (i j : ℕ) (a : A) (l : List A) → i < j → set (sets t j l) i a ≡ sets (set t i a) j l
sets-set t i j a [] h = refl
sets-set t i j a (b ∷ l) h = sets-set (set t j b) i (suc j) a l (omega arith) ∙ ap (λ (x : List _). sets x (suc j) l) (set_comm t j i b a (λ e. absurd (omega arith)))

-- in the other order
pub sets-before : {A : Type 0} (t : List A) (i j : ℕ) (k l : List A) → j ≡ i + length k → sets (sets t j l) i k ≡ sets t i (k ++ l)
sets-before t i j [] l e = let q : j ≡ i = omega arith in ap (λ (z : ℕ). sets t z l) q
sets-before t i j (a ∷ k) l e = ap (λ (x : List _). sets x (suc i) k) (sets-set t i j a l (omega arith)) ∙ sets-before (set t i a) (suc i) j k l (omega arith)

-- into a table of zeros
pub sets-padded : (t l : List ℕ) → length l ≤ length t → t ≡ replicate (length t) 0 → sets t 0 l ≡ padded (length t) l
unfolding padded
sets-padded t l h z =
    let k : 0 + length l ≡ length l = omega arith in
    sets-eq l t 0 (omega arith) ∙ rw k (ap (λ (x : List ℕ). l ++ x) (ap (drop (length l)) z ∙ drop_zeros (length t) (length l)))

-- ---- where the records say that statements are

abbrev pub RecsAt : List ℕ → ℕ → List Rec → Type 0
RecsAt rows i [] = Unit {0}
RecsAt rows i (r ∷ rs) = ((c : ℕ) → c < 12 → get_or rows (i * 12 + c) 0 ≡ get_or (rec_row r) c 0) × RecsAt rows (suc i) rs

pub recs_split : (rows : List ℕ) (i : ℕ) (rs qs : List Rec) → RecsAt rows i (rs ++ qs) → RecsAt rows i rs × RecsAt rows (i + length rs) qs
recs_split rows i [] qs h = (tt, rw (add-zero i) h)
recs_split rows i (r ∷ rs) qs h =
    let s = recs_split rows (suc i) rs qs h.1 in
    let z : suc i + length rs ≡ i + suc (length rs) = omega arith in
    ((h.0, s.0), rw z at s.1)

pub recs_at : (rs : List Rec) (before rest : List ℕ) (i : ℕ) → length before ≡ i * 12 → RecsAt (before ++ (rec_rows rs ++ rest)) i rs
unfolding joined
recs_at [] before rest i e = tt
recs_at (r ∷ rs) before rest i e =
    let q : before ++ ((rec_row r ++ rec_rows rs) ++ rest) ≡ (before ++ rec_row r) ++ (rec_rows rs ++ rest) = simp append_assoc in (
      (λ c h.
          let X = (rec_row r ++ rec_rows rs) ++ rest in
          let a : get_or (before ++ X) (length before + c) 0 ≡ get_or X c 0 = rw get_or-append-add refl in
          ap (λ (z : ℕ). get_or (before ++ X) (z + c) 0) (sym e) ∙ a ∙ rw append_assoc (get_or-append (rec_row r) (rec_rows rs ++ rest) 0 c (omega (arith, rec_width r)))),
      subst (λ (z : List ℕ). RecsAt z (suc i) rs) (sym q) (recs_at rs (before ++ rec_row r) rest (suc i) (simp length-append (omega (arith, rec_width r)))),
    )

pub spans_recs : (rows : List ℕ) (li h k i : ℕ) (s : Stmts) → RecsAt rows i (stmt_recs li h k i s) → Spans rows i s
unfolding stmt_recs simple_rec cond_rec rec_row
spans_recs rows li h k i ∅ q = tt
spans_recs rows li h k i (s ▸ o) q =
    let x = recs_split rows i (stmt_recs li h k i s) (simple_rec o li h (k + len s) (i + size s) ∷ []) q in
    let y = rw (stmts_length li h k i s) at x.1 in
    (spans_recs rows li h k i s x.0, record { end_at = y.0 4 (omega arith); form_at = y.0 6 (omega arith) })
spans_recs rows li h k i (branching s w t a u b) q =
    let j = i + size s in
    let ra = stmt_recs li (suc j) 0 (suc j) a in
    let rb = stmt_recs li (suc j) (len a) (suc j + size a) b in
    let x = recs_split rows i (stmt_recs li h k i s) (cond_rec w li h (k + len s) (suc j + size a + size b) (suc j + size a) t u ∷ (ra ++ rb)) q in
    let y = rw (stmts_length li h k i s) at x.1 in
    let z = recs_split rows (suc j) ra rb y.1 in (
      spans_recs rows li h k i s x.0,
      record {
        end_at = y.0 4 (omega arith);
        second_at = y.0 5 (omega arith);
        form1_at = y.0 6 (omega arith);
        number1_at = y.0 7 (omega arith);
        form2_at = y.0 8 (omega arith);
        number2_at = y.0 9 (omega arith);
      },
      spans_recs rows li (suc j) 0 (suc j) a z.0,
      spans_recs rows li (suc j) (len a) (suc j + size a) b (rw (stmts_length li (suc j) 0 (suc j) a) at z.1),
    )

-- ---- the first statements of a list, and the one after them

pub data Prefix : Stmts → Stmts → Type 0 where
  whole : {s : Stmts} → Prefix s s
  past : {p s : Stmts} {o : Simple} → Prefix p s → Prefix p (s ▸ o)
  past_fork : {p s a b : Stmts} {w : CondWord} {t u : BranchForm} → Prefix p s → Prefix p (branching s w t a u b)

pub prefix_∅ : (s : Stmts) → Prefix ∅ s
prefix_∅ ∅ = whole
prefix_∅ (s ▸ o) = past (prefix_∅ s)
prefix_∅ (branching s w t a u b) = past_fork (prefix_∅ s)

pub prefix_le : {p s : Stmts} → Prefix p s → size p ≤ size s
unfolding size
prefix_le whole = omega arith
prefix_le (past q) = omega (arith, prefix_le q)
prefix_le (past_fork q) = omega (arith, prefix_le q)

-- one of the same size is the whole
pub prefix_all : {p s : Stmts} → Prefix p s → size s ≤ size p → p ≡ s
unfolding size
prefix_all whole h = refl
prefix_all (past q) h = absurd (omega (arith, prefix_le q))
prefix_all (past_fork q) h = absurd (omega (arith, prefix_le q))

-- the statement after p in s
pub record More (rows : List ℕ) (i d : ℕ) (p s : Stmts) : Type 0 where
  pub head : Head
  pub then : Stmts
  pub pre : Prefix then s
  pub sized : size then ≡ size p + head_size head
  pub at : HeadAt rows (i + size p) head
  pub ok : HeadOk d head
  pub rows_are : (es : Entries) (e : ℕ) → falls_of es i e then ≡ falls_of es i (suc (i + size p)) p ++ head_falls es (i + size p) e head

form_there : (t : BranchForm) (a : Stmts) → BranchOk t a → branch_number t ≡ 0 → ⊥
unfolding BranchOk branch_number
form_there (to n) a h e = omega arith
form_there stmts a h e = omega arith
form_there absent a h e = h

module _ (rows : List ℕ) (i : ℕ) where
  longer : {d : ℕ} {p s s' : Stmts} → ((r : Stmts) → Prefix r s → Prefix r s') → More rows i d p s → More rows i d p s'
  longer f m = record { head = m.head; then = m.then; pre = f m.then m.pre; sized = m.sized; at = m.at; ok = m.ok; rows_are = m.rows_are }

  pub more : (d : ℕ) {p s : Stmts} → Prefix p s → size p < size s → Spans rows i s → StmtsOk d s → More rows i d p s
  unfolding size falls_of head_falls StmtsOk
  more d whole h sp n = absurd (omega arith)
  more d (past {o = o} (whole {s})) h sp n =
      record { head = leaf; then = s ▸ o; pre = whole; sized = omega arith; at = sp.1; ok = tt; rows_are = λ es e. refl }
  more d (past (past {o = o} q)) h sp n = longer (λ r. past) (more d (past {o = o} q) (omega (arith, prefix_le q)) sp.0 n.0)
  more d (past (past_fork {a = a} {b = b} {w = w} {t = t} {u = u} q)) h sp n =
      longer (λ r. past) (more d (past_fork {a = a} {b = b} {w = w} {t = t} {u = u} q) (omega (arith, prefix_le q)) sp.0 n.0)
  more d (past_fork {a = a} {b = b} {w = w} {t = t} {u = u} (whole {s})) h sp n =
      record {
        head = fork t a u b;
        then = branching s w t a u b;
        pre = whole;
        sized = omega arith;
        at = (sp.1, sp.2, sp.3);
        ok = (n.1, form_there t a (first_ok w t a u b n.2), n.3, n.4);
        rows_are = λ es e. refl;
      }
  more d (past_fork (past {o = o} q)) h sp n = longer (λ r. past_fork) (more d (past {o = o} q) (omega (arith, prefix_le q)) sp.0 n.0)
  more d (past_fork (past_fork {a = a} {b = b} {w = w} {t = t} {u = u} q)) h sp n =
      longer (λ r. past_fork) (more d (past_fork {a = a} {b = b} {w = w} {t = t} {u = u} q) (omega (arith, prefix_le q)) sp.0 n.0)
