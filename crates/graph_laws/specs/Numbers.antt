-- Which numbers a refused build has: 1 to 8 for its input, with a row of the text as place, 21, 22 or 23 for its tables, and no other. Assumes nothing.
use Rattle.std.specs.Prelude.{ℕ, suc, ◌+◌, ◌≤◌, ◌≡◌, refl, Bool, true, false, ◌&&◌, List, [], ◌∷◌, eqb, leb, ltb, length}
use Rattle.std.proofs.Common.{sym, ap, subst, arith, leb→le}
use Rattle.std.proofs.Math.Option.{Option, none, some}
use Rattle.listings.specs.Bytes.{pick}
use Rattle.listings.specs.Listing.{CondWord, Stmts, Listing, total, count}
use Rattle.listings.specs.Rows.{Parse, malformed, invalid, parsed, Content, no_form, end_row, stmts_row, module_row, line_row, to_row, simple_row, cond_row, split, on_first, row_of, content_of}
use Rattle.listings.specs.Read.{OpenCond, Branches, Position, begin, in_module, ended, in_stmts, in_cond, Reading, start, Outcome, taken, refused, or_refused, check, at_begin, ascends, read_line, at_module, read_simple, read_cond, at_stmts, NextBranch, no_more, may_follow, next_branch, cond_stmt, end_cond, read_to, read_stmts, at_cond, read_row, Answer, listing, refusal, finish, read_rows, read}
use Rattle.listings.specs.Cut.{meant}
use Rattle.listing_laws.specs.CutLaws.{meant-refused}
use Rattle.graph.specs.Build.{InputNumber, BuildNumber, of_input, of_lines, of_nodes, of_edges, Capacity, Built, graph, refused as not_built, edge_count, fitted, built_of_answer, build}

-- ---- a row

abbrev RefusedBy : {A : Type 0} → Outcome A → Type 0
RefusedBy (taken a) = Unit {0}
RefusedBy (refused n) = (1 ≤ n) × (n ≤ 8)

parse_number_lem : {A B : Type 0} (p : Parse A) (f : A → Outcome B) → ((a : A) → RefusedBy (f a)) → RefusedBy (or_refused p f)
unfolding or_refused
parse_number_lem malformed f h = (omega arith, omega arith)
parse_number_lem invalid f h = (omega arith, omega arith)
parse_number_lem (parsed a) f h = h a

check_number : {A : Type 0} (b : Bool) (n : ℕ) (o : Outcome A) → 1 ≤ n → n ≤ 8 → RefusedBy o → RefusedBy (check b n o)
unfolding check
check_number true n o x y h = h
check_number false n o x y h = (x, y)

two : ((1 ≤ 2) × (2 ≤ 8))
two = (omega arith, omega arith)

line_number_lem : (r : Reading) (n : ℕ) → RefusedBy (read_line r n)
unfolding read_line
line_number_lem r n = check_number (ascends n r.last) 4 _ (omega arith) (omega arith) (check_number (ltb r.line_count 1024) 5 _ (omega arith) (omega arith) tt)

begin_number : (r : Reading) (d : Content) → RefusedBy (at_begin r d)
unfolding at_begin
begin_number r no_form = two
begin_number r end_row = two
begin_number r stmts_row = two
begin_number r (module_row h) = tt
begin_number r (line_row n) = two
begin_number r (to_row n) = two
begin_number r (simple_row o) = two
begin_number r (cond_row k) = two

module_number : (r : Reading) (d : Content) → RefusedBy (at_module r d)
unfolding at_module
module_number r no_form = two
module_number r end_row = tt
module_number r stmts_row = two
module_number r (module_row h) = two
module_number r (line_row n) = parse_number_lem n (read_line r) (line_number_lem r)
module_number r (to_row n) = two
module_number r (simple_row o) = two
module_number r (cond_row k) = two

stmts_number : (r : Reading) (s : Stmts) (fs : List OpenCond) (d : Content) → RefusedBy (at_stmts r s fs d)
unfolding at_stmts read_simple read_cond
stmts_number r s fs no_form = two
stmts_number r s fs end_row = tt
stmts_number r s fs stmts_row = two
stmts_number r s fs (module_row h) = two
stmts_number r s fs (line_row n) = two
stmts_number r s fs (to_row n) = two
stmts_number r s fs (simple_row o) =
    parse_number_lem o (read_simple r s fs) λ d.
    check_number (ltb r.stmt_count 4096) 6 _ (omega arith) (omega arith)
    (check_number (leb (length fs) 16) 7 _ (omega arith) (omega arith) (check_number (leb d.1 64) 8 _ (omega arith) (omega arith) tt))
stmts_number r s fs (cond_row k) =
    check_number (ltb r.stmt_count 4096) 6 _ (omega arith) (omega arith) (check_number (leb (length fs) 16) 7 _ (omega arith) (omega arith) tt)

end_number : (r : Reading) (fs : List OpenCond) (o : Option Stmts) → RefusedBy (end_cond r fs o)
unfolding end_cond
end_number r fs none = two
end_number r fs (some s) = tt

to_number : (r : Reading) (s : Stmts) (k : CondWord) (fs : List OpenCond) (b : NextBranch) (n : Parse ℕ) → RefusedBy (read_to r s k fs b n)
unfolding read_to
to_number r s k fs no_more n = two
to_number r s k fs (may_follow a) n = parse_number_lem n _ (λ m. tt)

branch_number_lem : (r : Reading) (s : Stmts) (k : CondWord) (fs : List OpenCond) (b : NextBranch) → RefusedBy (read_stmts r s k fs b)
unfolding read_stmts
branch_number_lem r s k fs no_more = two
branch_number_lem r s k fs (may_follow a) = tt

cond_number_lem : (r : Reading) (s : Stmts) (k : CondWord) (bs : Branches) (fs : List OpenCond) (d : Content) → RefusedBy (at_cond r s k bs fs d)
unfolding at_cond
cond_number_lem r s k bs fs no_form = two
cond_number_lem r s k bs fs end_row = end_number r fs (cond_stmt s k bs)
cond_number_lem r s k bs fs stmts_row = branch_number_lem r s k fs (next_branch k bs)
cond_number_lem r s k bs fs (module_row h) = two
cond_number_lem r s k bs fs (line_row n) = two
cond_number_lem r s k bs fs (to_row n) = to_number r s k fs (next_branch k bs) n
cond_number_lem r s k bs fs (simple_row o) = two
cond_number_lem r s k bs fs (cond_row w) = two

row_number : (r : Reading) (p : Position) (d : Content) → RefusedBy (read_row r p d)
unfolding read_row
row_number r begin d = begin_number r d
row_number r in_module d = module_number r d
row_number r ended d = two
row_number r (in_stmts s fs) d = stmts_number r s fs d
row_number r (in_cond s k bs fs) d = cond_number_lem r s k bs fs d

-- ---- a text: the number, and the place, which is none past its m rows

abbrev Numbered : ℕ → Answer → Type 0
Numbered m (listing L) = Unit {0}
Numbered m (refusal n p) = (1 ≤ n) × (n ≤ 8) × (p ≤ m)

finish_number : (r : Reading) (i m : ℕ) (p : Position) (l : List ℕ) → i ≤ m → Numbered m (finish r i p l)
unfolding finish
finish_number r i m ended [] h = tt
finish_number r i m ended (b ∷ l) h = (omega arith, omega arith, h)
finish_number r i m begin l h = (omega arith, omega arith, h)
finish_number r i m in_module l h = (omega arith, omega arith, h)
finish_number r i m (in_stmts s fs) l h = (omega arith, omega arith, h)
finish_number r i m (in_cond s k bs fs) l h = (omega arith, omega arith, h)

rows_number_lem : (r : Reading) (i m : ℕ) (ws : List (List ℕ)) → i + length ws ≤ m → Numbered m (read_rows r i ws)
unfolding read_rows
rows_number_lem r i m [] h = (omega arith, omega arith, omega arith)
rows_number_lem r i m (w ∷ []) h = finish_number r i m r.position w (omega arith)
rows_number_lem r i m (w ∷ v ∷ ws) h =
    go (read_row r r.position (content_of (row_of w))) (row_number r r.position (content_of (row_of w))) (λ q. rows_number_lem q (suc i) m (v ∷ ws) (omega arith))
  where
    go : (o : Outcome Reading) → RefusedBy o → ((q : Reading) → Numbered m (read_rows q (suc i) (v ∷ ws)))
        → Numbered m (elim o [ refused n ↦ refusal n i | taken q ↦ read_rows q (suc i) (v ∷ ws) ])
    go (taken q) g f = f q
    go (refused n) g f = (g.0, g.1, omega arith)

split-length : (b : ℕ) (l : List ℕ) → length (split b l) ≤ suc (length l)
unfolding split on_first
split-length b [] = omega arith
split-length b (x ∷ l) = go (eqb x b) (split b l) (split-length b l)
  where
    go : (t : Bool) (ws : List (List ℕ)) → length ws ≤ suc (length l) → length (pick t ([] ∷ ws) (on_first x ws)) ≤ suc (suc (length l))
    go true ws h = omega arith
    go false [] h = omega arith
    go false (w ∷ ws) h = omega arith

read_number : (t : List ℕ) → Numbered 65537 (read t)
unfolding read
read_number t = go (leb (length t) 65536) refl
  where
    go : (b : Bool) → leb (length t) 65536 ≡ b → Numbered 65537 (pick b (read_rows start 0 (split 10 t)) (refusal 1 0))
    go true e = let h = leb→le (length t) 65536 (rw e tt) in rows_number_lem start 0 65537 (split 10 t) (omega (arith, split-length 10 t))
    go false e = (omega arith, omega arith, omega arith)

pub read_refusal : (t : List ℕ) (n p : ℕ) → read t ≡ refusal n p → (1 ≤ n) × (n ≤ 8) × (p ≤ 65537)
read_refusal t n p e = subst (Numbered 65537) e (read_number t)

-- ---- a build

-- N: the numbers that the input can be refused by
abbrev Given : (ℕ → Type 0) → Built → Type 0
Given N (graph L) = Unit {0}
Given N (not_built n p) = BuildNumber N n

fitted_number : (N : ℕ → Type 0) (c : Capacity) (L : Listing) → Given N (fitted c L)
unfolding fitted
fitted_number N c L = go (leb (count L.lines) c.lines) (leb (total L.lines) c.nodes) (leb (edge_count L) c.edges && leb (edge_count L) 32768)
  where
    go : (x y z : Bool) → Given N (pick x (pick y (pick z (graph L) (not_built 23 (edge_count L))) (not_built 22 (total L.lines))) (not_built 21 (count L.lines)))
    go true true true = tt
    go true true false = of_edges
    go true false z = of_nodes
    go false y z = of_lines

pub answer_number : (N : ℕ → Type 0) (c : Capacity) (a : Answer) → ((n p : ℕ) → a ≡ refusal n p → N n) → (n p : ℕ) → built_of_answer c a ≡ not_built n p → BuildNumber N n
unfolding built_of_answer
answer_number N c (listing L) h n p e = subst (Given N) e (fitted_number N c L)
answer_number N c (refusal m q) h n p e = let x : m ≡ n = cc in of_input (h n q (ap (λ (k : ℕ). refusal k q) x))

pub build_number : (c : Capacity) (t : List ℕ) (n p : ℕ) → build c t ≡ not_built n p → BuildNumber InputNumber n
build_number c t = answer_number InputNumber c (meant t) (λ n p e. let r = read_refusal t n p (meant-refused t n p e) in (r.0, r.1))
