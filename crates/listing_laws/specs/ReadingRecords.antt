-- The records of a reading so far, and what each row that is taken appends or amends. Assumes nothing.
use Rattle.std.specs.Prelude.{◌≡◌, refl, length}
use Rattle.std.proofs.Math.Path.{sym, ap}
use Rattle.std.proofs.Common.{◌∙◌}
use mathlib.Core.List.{List, [], ◌∷◌, ◌++◌, append_assoc, append-nil}
use Rattle.std.proofs.Math.Option.{Option, none, some}
use Prim.Native.Nat.{ℕ, zero, suc, ◌+◌}
use native.Mathlib.Omega.{arith}
use Rattle.std.proofs.Math.ListN.{length-append}
use Rattle.listings.specs.Listing.{Simple, CondWord, BranchForm, absent, Stmts, ∅, ◌▸◌, branching, Lines, nolines, line, size, len, total, count}
use Rattle.listings.specs.Read.{OpenCond, Branches, no_branch, one_branch, two_branches, Position, begin, in_module, ended, in_stmts, in_cond, Reading, branched, number_of}
use Rattle.listing_laws.specs.Shown.{first_size, branches_size, open_size, position_size, open_lines}
use Rattle.listings.specs.Records.{Rec, branch_number, branch_line, simple_rec, cond_rec, stmt_recs, line_recs, line_numbers}

-- ---- the list in which the next statement stands: its first node, its holder, its first number

unfoldable pub first_node : ℕ → List OpenCond → ℕ
first_node T [] = T
first_node T (f ∷ fs) = suc (first_node T fs + size f.before) + first_size f.first

unfoldable pub holder_of : ℕ → List OpenCond → ℕ
holder_of T [] = 0
holder_of T (f ∷ fs) = suc (first_node T fs + size f.before)

unfoldable pub first_len : Option (BranchForm × Stmts) → ℕ
first_len none = 0
first_len (some a) = len a.1

unfoldable pub first_index : List OpenCond → ℕ
first_index [] = 0
first_index (f ∷ fs) = first_len f.first

unfoldable pub branches_of : Option (BranchForm × Stmts) → Branches
branches_of none = no_branch
branches_of (some a) = one_branch a

-- ---- the records

-- an IF whose branches are not all read, node j: its end is not known yet
unfoldable pub partial_rec : CondWord → (li h k j : ℕ) → Branches → Rec
partial_rec w li h k j no_branch = cond_rec w li h k 0 0 absent absent
partial_rec w li h k j (one_branch a) = cond_rec w li h k 0 (suc j + size a.1) a.0 absent
partial_rec w li h k j (two_branches a b) = cond_rec w li h k 0 (suc j + size a.1) a.0 b.0

-- its branches
unfoldable pub branch_recs : (li j : ℕ) → Branches → List Rec
branch_recs li j no_branch = []
branch_recs li j (one_branch a) = stmt_recs li (suc j) 0 (suc j) a.1
branch_recs li j (two_branches a b) = stmt_recs li (suc j) 0 (suc j) a.1 ++ stmt_recs li (suc j) (len a.1) (suc j + size a.1) b.1

unfoldable pub list_recs : (T li : ℕ) → Stmts → List OpenCond → List Rec
list_recs T li s fs = stmt_recs li (holder_of T fs) (first_index fs) (first_node T fs) s

unfoldable pub open_rec : (T li : ℕ) → Stmts → CondWord → Branches → List OpenCond → Rec
open_rec T li s k bs fs = partial_rec k li (holder_of T fs) (first_index fs + len s) (first_node T fs + size s) bs

unfoldable pub cond_recs : (T li : ℕ) → Stmts → CondWord → Branches → List OpenCond → List Rec
cond_recs T li s k bs fs = list_recs T li s fs ++ (open_rec T li s k bs fs ∷ branch_recs li (first_node T fs + size s) bs)

unfoldable pub open_recs : (T li : ℕ) → List OpenCond → List Rec
open_recs T li [] = []
open_recs T li (f ∷ fs) = open_recs T li fs ++ cond_recs T li f.before f.word (branches_of f.first) fs

-- those of the open line, the first line li, whose first node is T
unfoldable pub position_recs : (T li : ℕ) → Position → List Rec
position_recs T li begin = []
position_recs T li in_module = []
position_recs T li ended = []
position_recs T li (in_stmts s fs) = open_recs T li fs ++ list_recs T li s fs
position_recs T li (in_cond s k bs fs) = open_recs T li fs ++ cond_recs T li s k bs fs

unfoldable pub recs_of : Reading → Position → List Rec
recs_of r p = line_recs r.lines ++ position_recs (total r.lines) (count r.lines) p

-- the numbers of the lines begun
unfoldable pub open_numbers : ℕ → Position → List ℕ
open_numbers n begin = []
open_numbers n in_module = []
open_numbers n ended = []
open_numbers n (in_stmts s fs) = n ∷ []
open_numbers n (in_cond s k bs fs) = n ∷ []

unfoldable pub numbers_of : Reading → Position → List ℕ
numbers_of r p = line_numbers r.lines ++ open_numbers (number_of r.last) p

-- ---- a record amended

unfoldable pub amend : List Rec → ℕ → (Rec → Rec) → List Rec
amend [] i f = []
amend (r ∷ rs) zero f = f r ∷ rs
amend (r ∷ rs) (suc i) f = r ∷ amend rs i f

abbrev pub with_end : ℕ → Rec → Rec
with_end n r =
    record { word = r.word; line = r.line; holder = r.holder; index = r.index; end = n; second = r.second; form1 = r.form1; number1 = r.number1; form2 = r.form2; number2 = r.number2; detail = r.detail; args = r.args }

-- the first branch has ended before node n
abbrev pub with_first : (form number n : ℕ) → Rec → Rec
with_first t m n r =
    record { word = r.word; line = r.line; holder = r.holder; index = r.index; end = r.end; second = n; form1 = t; number1 = m; form2 = r.form2; number2 = r.number2; detail = r.detail; args = r.args }

abbrev pub with_second : (form number : ℕ) → Rec → Rec
with_second t m r =
    record { word = r.word; line = r.line; holder = r.holder; index = r.index; end = r.end; second = r.second; form1 = r.form1; number1 = r.number1; form2 = t; number2 = m; detail = r.detail; args = r.args }

-- a branch has ended, after the one before it, if any
abbrev pub with_branch : Option (BranchForm × Stmts) → (form number n : ℕ) → Rec → Rec
with_branch none t m n r = with_first t m n r
with_branch (some a) t m n r = with_second t m r

pub amend_at : (ps : List Rec) (x : Rec) (bs : List Rec) (f : Rec → Rec) (n : ℕ) → n ≡ length ps → amend (ps ++ (x ∷ bs)) n f ≡ ps ++ (f x ∷ bs)
unfolding amend
amend_at [] x bs f n e = rw e
amend_at (a ∷ ps) x bs f n e = ap (λ (m : ℕ). amend (a ∷ (ps ++ (x ∷ bs))) m f) e ∙ ap (λ (l : List Rec). a ∷ l) (amend_at ps x bs f (length ps) refl)

pub amend-amend : (rs : List Rec) (i : ℕ) (f g : Rec → Rec) → amend (amend rs i f) i g ≡ amend rs i (λ r. g (f r))
unfolding amend
amend-amend [] i f g = refl
amend-amend (r ∷ rs) zero f g = refl
amend-amend (r ∷ rs) (suc i) f g = ap (λ (l : List Rec). r ∷ l) (amend-amend rs i f g)

pub amend-length : (rs : List Rec) (i : ℕ) (f : Rec → Rec) → length (amend rs i f) ≡ length rs
unfolding amend
amend-length [] i f = refl
amend-length (r ∷ rs) zero f = refl
amend-length (r ∷ rs) (suc i) f = ap suc (amend-length rs i f)

-- ---- counts

pub stmts_length : (li h k i : ℕ) (s : Stmts) → length (stmt_recs li h k i s) ≡ size s
unfolding stmt_recs size
stmts_length li h k i ∅ = refl
stmts_length li h k i (s ▸ o) = length-append (stmt_recs li h k i s) _ ∙ omega (arith, stmts_length li h k i s)
stmts_length li h k i (branching s w t a u b) =
    let j = i + size s in
    length-append (stmt_recs li h k i s) _
    ∙ omega (arith, stmts_length li h k i s, length-append (stmt_recs li (suc j) 0 (suc j) a) (stmt_recs li (suc j) (len a) (suc j + size a) b), stmts_length li (suc j) 0 (suc j) a, stmts_length li (suc j) (len a) (suc j + size a) b)

pub lines_length : (ls : Lines) → length (line_recs ls) ≡ total ls
unfolding line_recs total
lines_length nolines = refl
lines_length (line ls n s) = length-append (line_recs ls) _ ∙ omega (arith, lines_length ls, stmts_length (count ls) 0 0 (total ls) s)

branches_length : (li j : ℕ) (bs : Branches) → length (branch_recs li j bs) ≡ branches_size bs
unfolding branch_recs branches_size
branches_length li j no_branch = refl
branches_length li j (one_branch a) = stmts_length li (suc j) 0 (suc j) a.1
branches_length li j (two_branches a b) =
    length-append (stmt_recs li (suc j) 0 (suc j) a.1) _ ∙ omega (arith, stmts_length li (suc j) 0 (suc j) a.1, stmts_length li (suc j) (len a.1) (suc j + size a.1) b.1)

branches_size_lem : (o : Option (BranchForm × Stmts)) → branches_size (branches_of o) ≡ first_size o
unfolding branches_size branches_of first_size
branches_size_lem none = refl
branches_size_lem (some a) = refl

open_length : (T li : ℕ) (fs : List OpenCond) → length (open_recs T li fs) ≡ open_size fs
unfolding open_recs open_size cond_recs list_recs
open_length T li [] = refl
open_length T li (f ∷ fs) =
    let j = first_node T fs + size f.before in
    let x = open_rec T li f.before f.word (branches_of f.first) fs in
    let b = branch_recs li j (branches_of f.first) in
    let l = stmt_recs li (holder_of T fs) (first_index fs) (first_node T fs) f.before in
    length-append (open_recs T li fs) (l ++ (x ∷ b))
    ∙ omega (arith, open_length T li fs, length-append l (x ∷ b), stmts_length li (holder_of T fs) (first_index fs) (first_node T fs) f.before, branches_length li j (branches_of f.first), branches_size_lem f.first)

pub first_node_lem : (T : ℕ) (fs : List OpenCond) → first_node T fs ≡ T + open_size fs
unfolding first_node open_size
first_node_lem T [] = omega arith
first_node_lem T (f ∷ fs) = omega (arith, first_node_lem T fs)

position_length : (T li : ℕ) (p : Position) → length (position_recs T li p) ≡ position_size p
unfolding position_recs position_size cond_recs list_recs
position_length T li begin = refl
position_length T li in_module = refl
position_length T li ended = refl
position_length T li (in_stmts s fs) =
    length-append (open_recs T li fs) (stmt_recs li (holder_of T fs) (first_index fs) (first_node T fs) s) ∙ omega (arith, open_length T li fs, stmts_length li (holder_of T fs) (first_index fs) (first_node T fs) s)
position_length T li (in_cond s k bs fs) =
    let j = first_node T fs + size s in
    let l = stmt_recs li (holder_of T fs) (first_index fs) (first_node T fs) s in
    length-append (open_recs T li fs) (l ++ (open_rec T li s k bs fs ∷ branch_recs li j bs))
    ∙ omega (arith, open_length T li fs, length-append l (open_rec T li s k bs fs ∷ branch_recs li j bs), stmts_length li (holder_of T fs) (first_index fs) (first_node T fs) s, branches_length li j bs)

pub recs_length : (r : Reading) (p : Position) → length (recs_of r p) ≡ total r.lines + position_size p
unfolding recs_of
recs_length r p =
    length-append (line_recs r.lines) (position_recs (total r.lines) (count r.lines) p) ∙ omega (arith, lines_length r.lines, position_length (total r.lines) (count r.lines) p)

pub numbers-count : (ls : Lines) → length (line_numbers ls) ≡ count ls
unfolding line_numbers count
numbers-count nolines = refl
numbers-count (line ls n s) = length-append (line_numbers ls) (n ∷ []) ∙ omega (arith, numbers-count ls)

open_count : (n : ℕ) (p : Position) → length (open_numbers n p) ≡ open_lines p
unfolding open_numbers open_lines
open_count n begin = refl
open_count n in_module = refl
open_count n ended = refl
open_count n (in_stmts s fs) = refl
open_count n (in_cond s k bs fs) = refl

pub numbers-length : (r : Reading) (p : Position) → length (numbers_of r p) ≡ count r.lines + open_lines p
unfolding numbers_of
numbers-length r p = length-append (line_numbers r.lines) (open_numbers (number_of r.last) p) ∙ omega (arith, numbers-count r.lines, open_count (number_of r.last) p)

-- ---- what a row does

-- what stands before an IF's record
module _ (ls : Lines) (li : ℕ) (s : Stmts) (fs : List OpenCond) where
  unfoldable pub before : List Rec
  before = line_recs ls ++ (open_recs (total ls) li fs ++ list_recs (total ls) li s fs)

  pub before-length : first_node (total ls) fs + size s ≡ length before
  unfolding before list_recs
  before-length =
      let T = total ls in
      let l = stmt_recs li (holder_of T fs) (first_index fs) (first_node T fs) s in
      omega (arith, first_node_lem T fs, lines_length ls, open_length T li fs, stmts_length li (holder_of T fs) (first_index fs) (first_node T fs) s, length-append (line_recs ls) (open_recs T li fs ++ l), length-append (open_recs T li fs) l)

  -- the records where branches are due: what stands before, the IF's record, those of its branches
  pub cond_split : (k : CondWord) (bs : Branches) → line_recs ls ++ position_recs (total ls) li (in_cond s k bs fs)
      ≡ before ++ (open_rec (total ls) li s k bs fs ∷ branch_recs li (first_node (total ls) fs + size s) bs)
  unfolding before position_recs cond_recs
  cond_split k bs = simp append_assoc

  stmts_split : (k : CondWord) (o : Option (BranchForm × Stmts)) (a : Stmts) → line_recs ls ++ position_recs (total ls) li (in_stmts a (record { before = s; word = k; first = o } ∷ fs))
      ≡ before ++ (open_rec (total ls) li s k (branches_of o) fs ∷ (branch_recs li (first_node (total ls) fs + size s) (branches_of o) ++ list_recs (total ls) li a (record { before = s; word = k; first = o } ∷ fs)))
  unfolding before position_recs open_recs cond_recs
  stmts_split k o a = simp append_assoc

  -- a statement's row appends its record
  pub simple_law : (o : Simple) → line_recs ls ++ position_recs (total ls) li (in_stmts (s ▸ o) fs)
      ≡ (line_recs ls ++ position_recs (total ls) li (in_stmts s fs)) ++ (simple_rec o li (holder_of (total ls) fs) (first_index fs + len s) (first_node (total ls) fs + size s) ∷ [])
  unfolding position_recs list_recs stmt_recs
  simple_law o = simp append_assoc

  pub cond_law : (k : CondWord) → line_recs ls ++ position_recs (total ls) li (in_cond s k no_branch fs)
      ≡ (line_recs ls ++ position_recs (total ls) li (in_stmts s fs)) ++ (cond_rec k li (holder_of (total ls) fs) (first_index fs + len s) 0 0 absent absent ∷ [])
  unfolding position_recs cond_recs list_recs open_rec partial_rec branch_recs
  cond_law k = simp append_assoc

  -- (stmts appends and amends nothing
  pub stmts_law : (k : CondWord) (o : Option (BranchForm × Stmts)) → line_recs ls ++ position_recs (total ls) li (in_stmts ∅ (record { before = s; word = k; first = o } ∷ fs))
      ≡ line_recs ls ++ position_recs (total ls) li (in_cond s k (branches_of o) fs)
  unfolding position_recs open_recs list_recs stmt_recs
  stmts_law k o = simp append-nil

  -- the end of a branch amends its IF
  pub branch_law : (k : CondWord) (o : Option (BranchForm × Stmts)) (t : BranchForm) (a : Stmts) (n : ℕ) → n ≡ first_node (total ls) (record { before = s; word = k; first = o } ∷ fs) + size a
      → line_recs ls ++ position_recs (total ls) li (in_cond s k (branched o (t, a)) fs)
      ≡ amend (line_recs ls ++ position_recs (total ls) li (in_stmts a (record { before = s; word = k; first = o } ∷ fs))) (first_node (total ls) fs + size s) (with_branch o (branch_number t) (branch_line t) n)
  unfolding branched branches_of open_rec partial_rec cond_rec branch_recs list_recs holder_of first_index first_node first_len first_size
  branch_law k none t a n e =
      let j = first_node (total ls) fs + size s in
      let x = open_rec (total ls) li s k no_branch fs in
      let f = with_branch none (branch_number t) (branch_line t) n in
      let z : suc j + 0 ≡ suc j = omega arith in
      let m : n ≡ suc j + size a = omega (arith, e) in
      let q : before ++ (open_rec (total ls) li s k (one_branch (t, a)) fs ∷ stmt_recs li (suc j) 0 (suc j) a) ≡ before ++ (f x ∷ stmt_recs li (suc j) 0 (suc j + 0) a) = rw (m, z) in
      cond_split k (one_branch (t, a)) ∙ q ∙ sym (ap (λ (l : List Rec). amend l j f) (stmts_split k none a) ∙ amend_at before x (stmt_recs li (suc j) 0 (suc j + 0) a) f j before-length)
  branch_law k (some b) t a n e =
      let j = first_node (total ls) fs + size s in
      let x = open_rec (total ls) li s k (one_branch b) fs in
      let f = with_branch (some b) (branch_number t) (branch_line t) n in
      cond_split k (two_branches b (t, a))
      ∙ sym (ap (λ (l : List Rec). amend l j f) (stmts_split k (some b) a) ∙ amend_at before x (branch_recs li j (two_branches b (t, a))) f j before-length)

  cond_whole : (k : CondWord) (t u : BranchForm) (a b : Stmts) → line_recs ls ++ position_recs (total ls) li (in_stmts (branching s k t a u b) fs)
      ≡ before ++ (cond_rec k li (holder_of (total ls) fs) (first_index fs + len s) (suc (first_node (total ls) fs + size s) + size a + size b) (suc (first_node (total ls) fs + size s) + size a) t u
      ∷ (stmt_recs li (suc (first_node (total ls) fs + size s)) 0 (suc (first_node (total ls) fs + size s)) a ++ stmt_recs li (suc (first_node (total ls) fs + size s)) (len a) (suc (first_node (total ls) fs + size s) + size a) b))
  unfolding before position_recs list_recs stmt_recs
  cond_whole k t u a b = simp append_assoc

  -- `)` of the IF amends its end
  pub end_law₁ : (k : CondWord) (a : BranchForm × Stmts) (n : ℕ) → n ≡ suc (first_node (total ls) fs + size s) + size a.1
      → line_recs ls ++ position_recs (total ls) li (in_stmts (branching s k a.0 a.1 absent ∅) fs)
      ≡ amend (line_recs ls ++ position_recs (total ls) li (in_cond s k (one_branch a) fs)) (first_node (total ls) fs + size s) (with_end n)
  unfolding open_rec partial_rec cond_rec branch_recs branch_number branch_line stmt_recs size
  end_law₁ k a n e =
      let j = first_node (total ls) fs + size s in
      let x = open_rec (total ls) li s k (one_branch a) fs in
      let f = with_end n in
      let r = stmt_recs li (suc j) 0 (suc j) a.1 in
      let m : suc j + size a.1 + 0 ≡ n = omega (arith, e) in
      let y : ℕ → Rec = λ (z : ℕ). cond_rec k li (holder_of (total ls) fs) (first_index fs + len s) z (suc j + size a.1) a.0 absent in
      cond_whole k a.0 absent a.1 ∅ ∙ ap (λ (l : List Rec). before ++ (y (suc j + size a.1 + 0) ∷ l)) (append-nil r) ∙ ap (λ (z : ℕ). before ++ (y z ∷ r)) m
      ∙ sym (ap (λ (l : List Rec). amend l j f) (cond_split k (one_branch a)) ∙ amend_at before x r f j before-length)

  pub end_law₂ : (k : CondWord) (a b : BranchForm × Stmts) (n : ℕ) → n ≡ suc (first_node (total ls) fs + size s) + size a.1 + size b.1
      → line_recs ls ++ position_recs (total ls) li (in_stmts (branching s k a.0 a.1 b.0 b.1) fs)
      ≡ amend (line_recs ls ++ position_recs (total ls) li (in_cond s k (two_branches a b) fs)) (first_node (total ls) fs + size s) (with_end n)
  unfolding open_rec partial_rec cond_rec branch_recs
  end_law₂ k a b n e =
      let j = first_node (total ls) fs + size s in
      let x = open_rec (total ls) li s k (two_branches a b) fs in
      let f = with_end n in
      let r = branch_recs li j (two_branches a b) in
      let y : ℕ → Rec = λ (z : ℕ). cond_rec k li (holder_of (total ls) fs) (first_index fs + len s) z (suc j + size a.1) a.0 b.0 in
      cond_whole k a.0 b.0 a.1 b.1 ∙ ap (λ (z : ℕ). before ++ (y z ∷ r)) (sym e)
      ∙ sym (ap (λ (l : List Rec). amend l j f) (cond_split k (two_branches a b)) ∙ amend_at before x r f j before-length)

-- `)` of a line: its records are those of a closed line
pub line_law : (ls : Lines) (n : ℕ) (s : Stmts) → line_recs ls ++ position_recs (total ls) (count ls) (in_stmts s []) ≡ line_recs (line ls n s) ++ []
unfolding line_recs position_recs open_recs list_recs holder_of first_index first_node
line_law ls n s = sym (append-nil (line_recs ls ++ stmt_recs (count ls) 0 0 (total ls) s))
