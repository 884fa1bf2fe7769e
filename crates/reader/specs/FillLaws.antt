-- A row that is taken: the tables hold the records of the reading after it, and the walk stands where it stands.
-- Assumes nothing.
use Rattle.std.specs.Prelude.{◌≡◌, Bool, leb, ltb, set, Some}
use Rattle.std.proofs.Math.Path.{refl, sym, ap, subst}
use Rattle.std.proofs.Common.{◌∙◌}
use Rattle.std.proofs.Math.Bool.{true, false}
use mathlib.Core.List.{List, [], ◌∷◌, ◌++◌, append_assoc, append-nil}
use Rattle.std.proofs.Math.Option.{Option, none, some}
use Prim.Native.Nat.{ℕ, suc, ◌+◌, ◌*◌, ◌-◌, ◌%◌, ◌≤◌, ◌<◌}
use native.Mathlib.Omega.{arith}
use Rattle.std.proofs.Math.Dec.{eqb}
use Rattle.std.proofs.Math.ListN.{length, get_or}
use Rattle.std.proofs.Math.Seq.{get_or-append_seam}
use borrow.Author.Tests.{eq-eqb, ne_eqb, leb-true}
use Rattle.listings.specs.Bytes.{bytes, same}
use Rattle.listings.specs.Listing.{CondWord, if, ifelse, rcomp, BranchForm, absent, Stmts, ∅, size, len, total, count}
use Rattle.listings.specs.Rows.{malformed, invalid, parsed, Counted, Content, no_form, end_row, stmts_row, module_row, line_row, to_row, simple_row, cond_row, opening_words}
use Rattle.listings.specs.Read.{OpenCond, Branches, no_branch, one_branch, two_branches, Position, begin, in_module, ended, in_stmts, in_cond, Reading, Outcome, taken, refused, go_to, one_more, or_refused, check, ascends, at_begin, read_line, at_module, read_simple, read_cond, number_of, branched, end_stmts, at_stmts, NextBranch, no_more, may_follow, next_branch, cond_stmt, end_cond, read_to, read_stmts, at_cond, read_row}
use Rattle.listings.specs.ListingText.{simple_word, cond_word, listed}
use Rattle.listing_laws.specs.Contents.{IsParsed, ContentOk}
use Rattle.listings.specs.WordTable.{words, first, word_index}
use Rattle.listing_laws.specs.Shown.{first_size, branches_size, position_size, open_lines, Good}
use Rattle.reader.specs.CodedRows.{word_number, cond_number}
use Rattle.reader.specs.Machine.{State, first_code, cond_code, packed, branch_count, position_code, open_conds, branch_code, state_at, as_state}
use Rattle.listings.specs.Records.{Rec, rec_row, branch_number, branch_line, simple_rec, cond_rec, stmt_recs, line_numbers, args_of, detail_of}
use Rattle.listing_laws.specs.ReadingRecords.{first_node, holder_of, first_len, first_index, branches_of, partial_rec, open_rec, branch_recs, list_recs, open_recs, position_recs, recs_of, open_numbers, numbers_of, amend, with_end, with_branch, first_node_lem, recs_length, numbers-length, before, before-length, cond_split, simple_law, cond_law, stmts_law, branch_law, end_law₁, end_law₂, line_law}
use Rattle.reader.specs.Fill.{held, holder_by, held_back, written_row, operands_of, as_given, entry_of, branch_stmts, outside_walk, add_entries, stmt_table, arg_table, line_table, walk_by, walk_is}
use Rattle.reader.specs.Tables.{append_row}
use Rattle.reader.specs.ReadBack.{args_short}
use Rattle.reader.specs.Holds.{Holds, holds_as, holds_line, holds_record, holds-bare, holds_end, is_some, holds-branch, holds_get}
use Rattle.reader.specs.declared.fill.Walk.{Walk}

-- ---- the numbers of the opening words

pub cond_number_lem : (k : CondWord) → word_index (cond_word k) ≡ cond_number k + 2
unfolding word_index words opening_words first same bytes cond_word
cond_number_lem if = refl
cond_number_lem ifelse = refl
cond_number_lem rcomp = refl

-- ---- "8 a 65th number or slot": what is taken has room

pub args_few : (d : Counted) → d.1 ≡ listed d.0 → d.1 ≤ 64 → length (args_of d.0) ≤ 64
args_few d e h = args_short d.0 (omega arith)

-- ---- the walk that stands for a reading

unfoldable pub branches_len : Branches → ℕ
branches_len no_branch = 0
branches_len (one_branch a) = len a.1
branches_len (two_branches a b) = len a.1 + len b.1

unfoldable pub walk_at : Reading → Position → Walk
walk_at r begin = outside_walk
walk_at r in_module = outside_walk
walk_at r ended = outside_walk
walk_at r (in_stmts s fs) = record { holder = holder_by (holder_of (total r.lines) fs); index = first_index fs + len s }
walk_at r (in_cond s k bs fs) = record { holder = Some (first_node (total r.lines) fs + size s); index = branches_len bs }

-- the tables can hold what was read
pub record Fits (nl ns na : ℕ) (q : Reading) : Type 0 where
  pub lines : q.line_count ≤ nl
  pub stmts : q.stmt_count * 12 ≤ ns
  pub args : q.stmt_count * 64 ≤ na

-- ---- laws on numbers

under : (o : Option (BranchForm × Stmts)) (T : ℕ) (fs : List OpenCond) (s : Stmts) (k : CondWord) → first_node T fs + size s < first_node T (record { before = s; word = k; first = o } ∷ fs)
unfolding first_node first_size
under none T fs s k = omega arith
under (some a) T fs s k = omega arith

list_next : (o : Option (BranchForm × Stmts)) (T : ℕ) (fs : List OpenCond) (s : Stmts) (k : CondWord)
    → first_node T (record { before = s; word = k; first = o } ∷ fs) + size ∅ ≡ suc (first_node T fs + size s) + first_size o
unfolding first_node size
list_next o T fs s k = omega arith

branch_index : (o : Option (BranchForm × Stmts)) (u : BranchForm) (a : Stmts) → first_len o + len a ≡ branches_len (branched o (u, a))
unfolding first_len branches_len branched
branch_index none u a = omega arith
branch_index (some b) u a = refl

code_first : (o : Option (BranchForm × Stmts)) (k x : ℕ) → eqb ((k * 2 + first_code o + 8 * x) % 2) 1 ≡ is_some o
unfolding first_code
code_first none k x = ne_eqb ((k * 2 + 0 + 8 * x) % 2) 1 (λ e. omega arith)
code_first (some a) k x = eq-eqb ((k * 2 + 1 + 8 * x) % 2) 1 (omega arith)

packed-first : (f : OpenCond) (fs : List OpenCond) → eqb (packed (f ∷ fs) % 2) 1 ≡ is_some f.first
unfolding packed cond_code
packed-first f fs = code_first f.first (cond_number f.word) (packed fs)

-- the branches before the one that may follow
first-branch : (o : Option (BranchForm × Stmts)) → (branches_len (branches_of o) ≡ first_len o) × (eqb (branch_count (branches_of o)) 1 ≡ is_some o) × (branches_size (branches_of o) ≡ first_size o)
unfolding branches_len branches_of first_len branch_count branches_size first_size
first-branch none = (refl, refl, refl)
first-branch (some a) = (refl, refl, refl)

NextIs : NextBranch → Branches → Type 0
NextIs no_more bs = Unit {0}
NextIs (may_follow o) bs = branches_of o ≡ bs

next_is : (w : CondWord) (bs : Branches) → NextIs (next_branch w bs) bs
unfolding NextIs next_branch branches_of
next_is if no_branch = refl
next_is ifelse no_branch = refl
next_is rcomp no_branch = refl
next_is if (one_branch a) = tt
next_is ifelse (one_branch a) = refl
next_is rcomp (one_branch a) = refl
next_is if (two_branches a b) = tt
next_is ifelse (two_branches a b) = tt
next_is rcomp (two_branches a b) = tt

-- ---- rows

-- an entry is the row of a record
entry_row : (k li h i e c d : ℕ) {k' li' e' c' d' : ℕ} → k ≡ k' → li ≡ li' → e ≡ e' → c ≡ c' → d ≡ d'
    → ◌≡◌ {A = List ℕ} (k ∷ li ∷ h ∷ i ∷ e ∷ 0 ∷ 0 ∷ 0 ∷ 0 ∷ 0 ∷ c ∷ d ∷ []) (k' ∷ li' ∷ held (holder_by h) ∷ i ∷ e' ∷ 0 ∷ 0 ∷ 0 ∷ 0 ∷ 0 ∷ c' ∷ d' ∷ [])
entry_row k li h i e c d p q r s t = let u = held_back h in cc

module _ (r : Reading) (nl ns na : ℕ) (n t a : List ℕ) where
  -- the tables hold what was read
  Tab : Position → Type 0
  Tab p = Holds (numbers_of r p) (recs_of r p) nl ns na n t a

  -- of an outcome: what a row that says d makes of the tables and the walk
  Done : State → Walk → Content → Outcome Reading → Type 0
  Done s w d (taken q) =
      Fits nl ns na q → Holds (numbers_of q q.position) (recs_of q q.position) nl ns na (line_table n s (written_row d)) (stmt_table t s w (written_row d) (as_given (operands_of d))) (arg_table a s.stmts (written_row d) (operands_of d))
      × (walk_by t s w (written_row d) ≡ walk_at q q.position)
  Done s w d (refused m) = Unit {0}

  check_done : (s : State) (w : Walk) (d : Content) (b : Bool) (m : ℕ) (o : Outcome Reading) → Done s w d o → Done s w d (check b m o)
  unfolding check Done
  check_done s w d true m o h = h
  check_done s w d false m o h = tt

  -- as above, with the test's result
  check_so : (s : State) (w : Walk) (d : Content) (b : Bool) (m : ℕ) (o : Outcome Reading) → (b ≡ true → Done s w d o) → Done s w d (check b m o)
  unfolding check Done
  check_so s w d true m o h = h refl
  check_so s w d false m o h = tt

  -- facts of a list's next statement
  next_node : (s : Stmts) (fs : List OpenCond) → Good r (in_stmts s fs)
      → (r.stmt_count ≡ first_node (total r.lines) fs + size s) × (r.line_count - 1 ≡ count r.lines) × (r.stmt_count ≡ length (recs_of r (in_stmts s fs)))
  unfolding position_size open_lines
  next_node s fs g =
      let e = first_node_lem (total r.lines) fs in
      (omega (arith, g.stmt_sum), omega (arith, g.line_sum), omega (arith, g.stmt_sum, recs_length r (in_stmts s fs)))

  simple_done : (s : Stmts) (fs : List OpenCond) (d : Counted) → d.1 ≡ listed d.0 → Good r (in_stmts s fs) → Tab (in_stmts s fs)
      → Done (state_at r (in_stmts s fs)) (walk_at r (in_stmts s fs)) (simple_row (parsed d)) (read_simple r s fs d)
  unfolding read_simple Done state_at walk_at one_more Tab recs_of numbers_of open_numbers len simple_rec rec_row
  simple_done s fs d c g h =
      check_done (state_at r (in_stmts s fs)) (walk_at r (in_stmts s fs)) (simple_row (parsed d)) (ltb r.stmt_count 4096) 6 _ (check_done (state_at r (in_stmts s fs)) (walk_at r (in_stmts s fs)) (simple_row (parsed d)) (leb (length fs) 16) 7 _ (check_so (state_at r (in_stmts s fs)) (walk_at r (in_stmts s fs)) (simple_row (parsed d)) (leb d.1 64) 8 _ λ b f.
      (let q = next_node s fs g in
      let T = total r.lines in
      let li = count r.lines in
      let o = d.0 in
      let x = simple_rec o li (holder_of T fs) (first_index fs + len s) (first_node T fs + size s) in
      let v : suc (first_node T fs + size s) ≡ r.stmt_count + 1 = omega (arith, q.0) in
      let y = entry_row (word_index (simple_word o)) li (holder_of T fs) (first_index fs + len s) (suc (first_node T fs + size s)) (length (args_of o)) (detail_of o)
      refl (sym q.1) v refl refl in
      let i : first_index fs + len s + 1 ≡ first_index fs + suc (len s) = omega arith in
      let e = entry_of (state_at r (in_stmts s fs)) (walk_at r (in_stmts s fs)) (word_number o) (r.stmt_count + 1) (record { count = length (args_of o); detail = detail_of o }) in (
        holds_as nl ns na n (append_row t r.stmt_count e) (add_entries a r.stmt_count (args_of o)) refl (sym (simple_law r.lines li s fs o))
            (holds_record nl ns na n t a _ (recs_of r (in_stmts s fs)) x r.stmt_count e (args_of o) q.2 y refl (args_few d c (leb-true d.1 64 b)) f.args h),
        ap {B = Walk} (λ (z : ℕ). record { holder = holder_by (holder_of T fs); index = z }) i,
      ))))

  cond_done : (s : Stmts) (fs : List OpenCond) (k : CondWord) → Good r (in_stmts s fs) → Tab (in_stmts s fs)
      → Done (state_at r (in_stmts s fs)) (walk_at r (in_stmts s fs)) (cond_row k) (read_cond r s fs k)
  unfolding read_cond Done state_at walk_at one_more Tab recs_of numbers_of open_numbers branches_len cond_rec rec_row branch_number branch_line
  cond_done s fs k g h =
      check_done (state_at r (in_stmts s fs)) (walk_at r (in_stmts s fs)) (cond_row k) (ltb r.stmt_count 4096) 6 _ (check_done (state_at r (in_stmts s fs)) (walk_at r (in_stmts s fs)) (cond_row k) (leb (length fs) 16) 7 _ λ f.
      (let q = next_node s fs g in
      let T = total r.lines in
      let li = count r.lines in
      let x = cond_rec k li (holder_of T fs) (first_index fs + len s) 0 0 absent absent in
      let y = entry_row (word_index (cond_word k)) li (holder_of T fs) (first_index fs + len s) 0 0 0 (cond_number_lem k) (sym q.1) refl refl refl in
      let e = entry_of (state_at r (in_stmts s fs)) (walk_at r (in_stmts s fs)) (cond_number k + 2) 0 (record { count = 0; detail = 0 }) in (
        holds_as nl ns na n (append_row t r.stmt_count e) a refl (sym (cond_law r.lines li s fs k))
            (holds-bare nl ns na n t a _ (recs_of r (in_stmts s fs)) x r.stmt_count e q.2 y refl f.args h),
        ap {B = Walk} (λ (z : ℕ). record { holder = Some z; index = 0 }) q.0,
      )))

  -- `)` after statements
  stmts_done : (s : Stmts) (fs : List OpenCond) → Good r (in_stmts s fs) → Tab (in_stmts s fs)
      → Done (state_at r (in_stmts s fs)) (walk_at r (in_stmts s fs)) end_row (taken (end_stmts r s fs))
  unfolding Done end_stmts state_at position_code open_conds walk_at Tab go_to recs_of numbers_of open_numbers position_recs line_numbers holder_of first_index branch_number branch_line
  stmts_done s [] g h f = (holds_as nl ns na n t a (sym (append-nil _)) (line_law r.lines (number_of r.last) s) h, refl)
  stmts_done s (o ∷ fs) g h f =
      let q = next_node s (o ∷ fs) g in
      let T = total r.lines in
      let li = count r.lines in
      let j = first_node T fs + size o.before in
      let rs = recs_of r (in_stmts s (o ∷ fs)) in
      let b : j < length rs = omega (arith, q.0, q.2, under o.first T fs o.before o.word) in
      let e : branch_stmts t j (eqb (packed (o ∷ fs) % 2) 1) 1 0 r.stmt_count ≡ branch_stmts t j (is_some o.first) 1 0 r.stmt_count = ap (λ (m : Bool). branch_stmts t j m 1 0 r.stmt_count) (packed-first o fs) in
      let w : record { holder = Some j; index = first_len o.first + len s } ≡ walk_at (end_stmts r s (o ∷ fs)) (end_stmts r s (o ∷ fs)).position =
      ap {B = Walk} (λ (m : ℕ). record { holder = Some j; index = m }) (branch_index o.first BranchForm.stmts s) in
      rw e (
        holds_as nl ns na n (branch_stmts t j (is_some o.first) 1 0 r.stmt_count) a refl (sym (branch_law r.lines li o.before fs o.word o.first BranchForm.stmts s r.stmt_count q.0))
            (holds-branch nl ns na n a _ o.first rs t j 1 0 r.stmt_count b h),
        w,
      )

  -- facts of an open IF
  cond_node : (s : Stmts) (w : CondWord) (bs : Branches) (fs : List OpenCond) → Good r (in_cond s w bs fs)
      → (r.stmt_count ≡ suc (first_node (total r.lines) fs + size s) + branches_size bs) × (first_node (total r.lines) fs + size s < length (recs_of r (in_cond s w bs fs)))
  unfolding position_size
  cond_node s w bs fs g =
      let e = first_node_lem (total r.lines) fs in
      (omega (arith, g.stmt_sum), omega (arith, recs_length r (in_cond s w bs fs)))

  -- its own record, read back
  cond_get : (s : Stmts) (w : CondWord) (bs : Branches) (fs : List OpenCond) → Good r (in_cond s w bs fs) → Tab (in_cond s w bs fs) → (c : ℕ) → c < 12
      → get_or t ((first_node (total r.lines) fs + size s) * 12 + c) 0 ≡ get_or (rec_row (open_rec (total r.lines) (count r.lines) s w bs fs)) c 0
  unfolding Tab recs_of
  cond_get s w bs fs g h c b =
      let T = total r.lines in
      let li = count r.lines in
      let j = first_node T fs + size s in
      let x = open_rec T li s w bs fs in
      let q = branch_recs li j bs in
      holds_get h j c (cond_node s w bs fs g).1 b x
      ∙ ap (λ (l : List Rec). get_or (rec_row (get_or l j x)) c 0) (cond_split r.lines li s fs w bs)
      ∙ ap (λ (m : ℕ). get_or (rec_row (get_or (before r.lines li s fs ++ (x ∷ q)) m x)) c 0) (before-length r.lines li s fs)
      ∙ ap (λ (z : Rec). get_or (rec_row z) c 0) (get_or-append_seam (before r.lines li s fs) x q x)

  way_back : (T li : ℕ) (s : Stmts) (w : CondWord) (bs : Branches) (fs : List OpenCond)
      → (get_or (rec_row (open_rec T li s w bs fs)) 2 0 ≡ holder_of T fs) × (get_or (rec_row (open_rec T li s w bs fs)) 3 0 ≡ first_index fs + len s)
  unfolding open_rec partial_rec cond_rec rec_row
  way_back T li s w no_branch fs = (refl, refl)
  way_back T li s w (one_branch a) fs = (refl, refl)
  way_back T li s w (two_branches a b) fs = (refl, refl)

  -- `)` of an IF: what both cases share
  closing : (s : Stmts) (w : CondWord) (bs : Branches) (fs : List OpenCond) (z : Stmts) → len z ≡ suc (len s) → Good r (in_cond s w bs fs) → Tab (in_cond s w bs fs)
      → recs_of r (in_stmts z fs) ≡ amend (recs_of r (in_cond s w bs fs)) (first_node (total r.lines) fs + size s) (with_end r.stmt_count)
      → Done (state_at r (in_cond s w bs fs)) (walk_at r (in_cond s w bs fs)) end_row (taken (go_to r (in_stmts z fs)))
  unfolding Done state_at position_code walk_at Tab go_to recs_of numbers_of open_numbers
  closing s w bs fs z lz g h c f =
      let T = total r.lines in
      let li = count r.lines in
      let j = first_node T fs + size s in
      let q = cond_node s w bs fs g in
      let y = way_back T li s w bs fs in (
        holds_as nl ns na n (set t (j * 12 + 4) r.stmt_count) a refl (sym c) (holds_end nl ns na n a (numbers_of r (in_cond s w bs fs)) (recs_of r (in_cond s w bs fs)) t j r.stmt_count q.1 h),
        walk_is (ap holder_by (cond_get s w bs fs g h 2 (omega arith) ∙ y.0)) (omega (arith, cond_get s w bs fs g h 3 (omega arith), y.1, lz)),
      )

  close_done : (s : Stmts) (w : CondWord) (bs : Branches) (fs : List OpenCond) → Good r (in_cond s w bs fs) → Tab (in_cond s w bs fs)
      → Done (state_at r (in_cond s w bs fs)) (walk_at r (in_cond s w bs fs)) end_row (end_cond r fs (cond_stmt s w bs))
  unfolding Done end_cond cond_stmt recs_of branches_size len
  close_done s if no_branch fs g h = tt
  close_done s ifelse no_branch fs g h = tt
  close_done s rcomp no_branch fs g h = tt
  close_done s if (one_branch b) fs g h = closing s if (one_branch b) fs _ refl g h (end_law₁ r.lines (count r.lines) s fs if b r.stmt_count (cond_node s if (one_branch b) fs g).0)
  close_done s ifelse (one_branch b) fs g h = tt
  close_done s rcomp (one_branch b) fs g h = closing s rcomp (one_branch b) fs _ refl g h (end_law₁ r.lines (count r.lines) s fs rcomp b r.stmt_count (cond_node s rcomp (one_branch b) fs g).0)
  close_done s if (two_branches b c) fs g h = tt
  close_done s ifelse (two_branches b c) fs g h =
      closing s ifelse (two_branches b c) fs _ refl g h (end_law₂ r.lines (count r.lines) s fs ifelse b c r.stmt_count (omega (arith, (cond_node s ifelse (two_branches b c) fs g).0)))
  close_done s rcomp (two_branches b c) fs g h =
      closing s rcomp (two_branches b c) fs _ refl g h (end_law₂ r.lines (count r.lines) s fs rcomp b c r.stmt_count (omega (arith, (cond_node s rcomp (two_branches b c) fs g).0)))

  into_done : (s : Stmts) (w : CondWord) (o : Option (BranchForm × Stmts)) (fs : List OpenCond) → Tab (in_cond s w (branches_of o) fs)
      → Done (state_at r (in_cond s w (branches_of o) fs)) (walk_at r (in_cond s w (branches_of o) fs)) stmts_row (read_stmts r s w fs (may_follow o))
  unfolding Done read_stmts walk_at go_to Tab recs_of numbers_of open_numbers holder_of first_index len
  into_done s w o fs h f =
      let i : branches_len (branches_of o) ≡ first_len o + 0 = omega (arith, (first-branch o).0) in (
        holds_as nl ns na n t a refl (sym (stmts_law r.lines (count r.lines) s fs w o)) h,
        ap {B = Walk} (λ (z : ℕ). record { holder = Some (first_node (total r.lines) fs + size s); index = z }) i,
      )

  to_done : (s : Stmts) (w : CondWord) (o : Option (BranchForm × Stmts)) (fs : List OpenCond) (m : ℕ) → Good r (in_cond s w (branches_of o) fs) → Tab (in_cond s w (branches_of o) fs)
      → Done (state_at r (in_cond s w (branches_of o) fs)) (walk_at r (in_cond s w (branches_of o) fs)) (to_row (parsed m)) (read_to r s w fs (may_follow o) (parsed m))
  unfolding Done read_to or_refused state_at branch_code walk_at go_to Tab recs_of numbers_of open_numbers branch_number branch_line len
  to_done s w o fs m g h f =
      let T = total r.lines in
      let li = count r.lines in
      let j = first_node T fs + size s in
      let q = cond_node s w (branches_of o) fs g in
      let y = first-branch o in
      let rs = recs_of r (in_cond s w (branches_of o) fs) in
      let e : branch_stmts t j (eqb (branch_count (branches_of o)) 1) 2 m r.stmt_count ≡ branch_stmts t j (is_some o) 2 m r.stmt_count = ap (λ (z : Bool). branch_stmts t j z 2 m r.stmt_count) y.1 in
      let x : branches_len (branches_of o) ≡ branches_len (branched o (BranchForm.to m, ∅)) = omega (arith, y.0, branch_index o (BranchForm.to m) ∅) in (
        rw e (holds_as nl ns na n (branch_stmts t j (is_some o) 2 m r.stmt_count) a refl
            (ap (λ (z : List Rec). amend z j (with_branch o 2 m r.stmt_count)) (sym (stmts_law r.lines li s fs w o))
            ∙ sym (branch_law r.lines li s fs w o (BranchForm.to m) ∅ r.stmt_count (omega (arith, q.0, y.2, list_next o T fs s w))))
            (holds-branch nl ns na n a _ o rs t j 2 m r.stmt_count q.1 h)),
        ap {B = Walk} (λ (z : ℕ). record { holder = Some j; index = z }) x,
      )

  begin_done : (d : Content) → Tab begin → Done (state_at r begin) (walk_at r begin) d (at_begin r d)
  unfolding at_begin Done walk_at Tab recs_of position_recs numbers_of open_numbers
  begin_done no_form h = tt
  begin_done end_row h = tt
  begin_done stmts_row h = tt
  begin_done (module_row b) h = λ f. (record { lines = h.lines; stmts = h.stmts; args = h.args; wide = h.wide }, refl)
  begin_done (line_row m) h = tt
  begin_done (to_row m) h = tt
  begin_done (simple_row o) h = tt
  begin_done (cond_row k) h = tt

  line_done : (m : ℕ) → Good r in_module → Tab in_module → Done (state_at r in_module) (walk_at r in_module) (line_row (parsed m)) (read_line r m)
  unfolding Done read_line state_at walk_at Tab recs_of numbers_of open_numbers position_recs open_recs list_recs stmt_recs holder_of first_index len open_lines number_of
  line_done m g h =
      check_done (state_at r in_module) (walk_at r in_module) (line_row (parsed m)) (ascends m r.last) 4 _ (check_done (state_at r in_module) (walk_at r in_module) (line_row (parsed m)) (ltb r.line_count 1024) 5 _ λ f.
      (let q : r.line_count ≡ length (numbers_of r in_module) = omega (arith, g.line_sum, numbers-length r in_module) in (
        holds_as nl ns na (set n r.line_count m) t a (append_assoc (line_numbers r.lines) [] (m ∷ [])) refl
            (holds_line nl ns na n t a (numbers_of r in_module) (recs_of r in_module) r.line_count m q f.lines h),
        refl,
      )))

  module_done : (d : Content) → Good r in_module → Tab in_module → Done (state_at r in_module) (walk_at r in_module) d (at_module r d)
  unfolding at_module Done state_at position_code walk_at Tab recs_of position_recs numbers_of open_numbers go_to or_refused
  module_done no_form g h = tt
  module_done end_row g h = λ f. (record { lines = h.lines; stmts = h.stmts; args = h.args; wide = h.wide }, refl)
  module_done stmts_row g h = tt
  module_done (module_row b) g h = tt
  module_done (line_row malformed) g h = tt
  module_done (line_row invalid) g h = tt
  module_done (line_row (parsed m)) g h = line_done m g h
  module_done (to_row m) g h = tt
  module_done (simple_row o) g h = tt
  module_done (cond_row k) g h = tt

  list_done : (s : Stmts) (fs : List OpenCond) (d : Content) → ContentOk d → Good r (in_stmts s fs) → Tab (in_stmts s fs)
      → Done (state_at r (in_stmts s fs)) (walk_at r (in_stmts s fs)) d (at_stmts r s fs d)
  unfolding at_stmts Done or_refused ContentOk IsParsed
  list_done s fs no_form c g h = tt
  list_done s fs end_row c g h = stmts_done s fs g h
  list_done s fs stmts_row c g h = tt
  list_done s fs (module_row b) c g h = tt
  list_done s fs (line_row m) c g h = tt
  list_done s fs (to_row m) c g h = tt
  list_done s fs (simple_row malformed) c g h = tt
  list_done s fs (simple_row invalid) c g h = tt
  list_done s fs (simple_row (parsed o)) c g h = simple_done s fs o c.1 g h
  list_done s fs (cond_row k) c g h = cond_done s fs k g h

  into_by : (s : Stmts) (w : CondWord) (bs : Branches) (fs : List OpenCond) (m : NextBranch) → NextIs m bs → Tab (in_cond s w bs fs)
      → Done (state_at r (in_cond s w bs fs)) (walk_at r (in_cond s w bs fs)) stmts_row (read_stmts r s w fs m)
  unfolding NextIs Done read_stmts
  into_by s w bs fs no_more q h = tt
  into_by s w bs fs (may_follow o) q h =
      subst (λ (b : Branches). Tab (in_cond s w b fs) → Done (state_at r (in_cond s w b fs)) (walk_at r (in_cond s w b fs)) stmts_row (read_stmts r s w fs (may_follow o))) q (into_done s w o fs) h

  to_by : (s : Stmts) (w : CondWord) (bs : Branches) (fs : List OpenCond) (m : NextBranch) (k : ℕ) → NextIs m bs → Good r (in_cond s w bs fs) → Tab (in_cond s w bs fs)
      → Done (state_at r (in_cond s w bs fs)) (walk_at r (in_cond s w bs fs)) (to_row (parsed k)) (read_to r s w fs m (parsed k))
  unfolding NextIs Done read_to
  to_by s w bs fs no_more k q g h = tt
  to_by s w bs fs (may_follow o) k q g h =
      subst (λ (b : Branches). Good r (in_cond s w b fs) → Tab (in_cond s w b fs) → Done (state_at r (in_cond s w b fs)) (walk_at r (in_cond s w b fs)) (to_row (parsed k)) (read_to r s w fs (may_follow o) (parsed k))) q (to_done s w o fs k) g h

  to_bad : (s : Stmts) (w : CondWord) (fs : List OpenCond) (m : NextBranch) (v : State) (u : Walk) (d : Content) → Done v u d (read_to r s w fs m malformed) × Done v u d (read_to r s w fs m invalid)
  unfolding Done read_to or_refused
  to_bad s w fs no_more v u d = (tt, tt)
  to_bad s w fs (may_follow o) v u d = (tt, tt)

  branches_done : (s : Stmts) (w : CondWord) (bs : Branches) (fs : List OpenCond) (d : Content) → Good r (in_cond s w bs fs) → Tab (in_cond s w bs fs)
      → Done (state_at r (in_cond s w bs fs)) (walk_at r (in_cond s w bs fs)) d (at_cond r s w bs fs d)
  unfolding at_cond Done
  branches_done s w bs fs no_form g h = tt
  branches_done s w bs fs end_row g h = close_done s w bs fs g h
  branches_done s w bs fs stmts_row g h = into_by s w bs fs (next_branch w bs) (next_is w bs) h
  branches_done s w bs fs (module_row b) g h = tt
  branches_done s w bs fs (line_row m) g h = tt
  branches_done s w bs fs (to_row malformed) g h = (to_bad s w fs (next_branch w bs) (state_at r (in_cond s w bs fs)) (walk_at r (in_cond s w bs fs)) (to_row malformed)).0
  branches_done s w bs fs (to_row invalid) g h = (to_bad s w fs (next_branch w bs) (state_at r (in_cond s w bs fs)) (walk_at r (in_cond s w bs fs)) (to_row invalid)).1
  branches_done s w bs fs (to_row (parsed m)) g h = to_by s w bs fs (next_branch w bs) m (next_is w bs) g h
  branches_done s w bs fs (simple_row o) g h = tt
  branches_done s w bs fs (cond_row k) g h = tt

  row_done : (p : Position) (d : Content) → ContentOk d → Good r p → Tab p → Done (state_at r p) (walk_at r p) d (read_row r p d)
  unfolding read_row Done
  row_done begin d c g h = begin_done d h
  row_done in_module d c g h = module_done d g h
  row_done ended d c g h = tt
  row_done (in_stmts s fs) d c g h = list_done s fs d c g h
  row_done (in_cond s w bs fs) d c g h = branches_done s w bs fs d g h

-- a row that is taken: the tables and the walk after it
pub fill_law : (r q : Reading) (nl ns na : ℕ) (n t a : List ℕ) (d : Content) → ContentOk d → Good r r.position → Holds (numbers_of r r.position) (recs_of r r.position) nl ns na n t a
    → read_row r r.position d ≡ taken q → Fits nl ns na q
    → Holds (numbers_of q q.position) (recs_of q q.position) nl ns na
    (line_table n (as_state r) (written_row d))
    (stmt_table t (as_state r) (walk_at r r.position) (written_row d) (as_given (operands_of d)))
    (arg_table a r.stmt_count (written_row d) (operands_of d))
    × (walk_by t (as_state r) (walk_at r r.position) (written_row d) ≡ walk_at q q.position)
unfolding Done Tab as_state state_at
fill_law r q nl ns na n t a d o g h e f = subst (Done r nl ns na n t a (as_state r) (walk_at r r.position) d) e (row_done r nl ns na n t a r.position d o g h) f

-- the number of an open IF in its list, read back from the table
pub cond_index : (r : Reading) (nl ns na : ℕ) (n t a : List ℕ) (s : Stmts) (w : CondWord) (bs : Branches) (fs : List OpenCond) → Good r (in_cond s w bs fs)
    → Holds (numbers_of r (in_cond s w bs fs)) (recs_of r (in_cond s w bs fs)) nl ns na n t a
    → get_or t ((first_node (total r.lines) fs + size s) * 12 + 3) 0 ≡ first_index fs + len s
unfolding Tab
cond_index r nl ns na n t a s w bs fs g h = cond_get r nl ns na n t a s w bs fs g h 3 (omega arith) ∙ (way_back r nl ns na n t a (total r.lines) (count r.lines) s w bs fs).1
