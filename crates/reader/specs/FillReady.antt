-- What the code needs at a row that is taken: places, numbers and room. Assumes nothing.
use Rattle.std.specs.Prelude.{◌≡◌, Bool, List, [], ◌∷◌, leb, ltb, length}
use Rattle.std.proofs.Math.Path.{refl, ap}
use Rattle.std.proofs.Common.{◌∙◌, subst, leb-true, ltb-true}
use Rattle.std.proofs.Math.Bool.{true, false}
use Rattle.std.proofs.Math.Option.{Option, none, some}
use Prim.Native.Nat.{ℕ, suc, ◌+◌, ◌*◌, ◌≤◌, ◌<◌}
use native.Mathlib.Omega.{arith}
use Rattle.std.proofs.Math.ListN.{get_or}
use Rattle.listings.specs.Listing.{Simple, CondWord, if, ifelse, rcomp, BranchForm, Stmts, ∅, ◌▸◌, branching, size, len, total}
use Rattle.listings.specs.ListingText.{simple_word}
use Rattle.listings.specs.WordTable.{word_index}
use Rattle.listing_laws.specs.WordSlots.{at_most}
use Rattle.listings.specs.Rows.{malformed, invalid, parsed, Content, no_form, end_row, stmts_row, module_row, line_row, to_row, simple_row, cond_row}
use Rattle.listings.specs.Read.{OpenCond, Branches, Position, begin, in_module, ended, in_stmts, in_cond, Reading, Outcome, taken, refused, one_more, or_refused, check, ascends, at_begin, read_line, at_module, read_simple, read_cond, at_stmts, NextBranch, no_more, may_follow, next_branch, cond_stmt, end_cond, read_to, read_stmts, at_cond, read_row}
use Rattle.listing_laws.specs.Contents.{IsParsed, ContentOk}
use Rattle.listing_laws.specs.Shown.{first_size, open_size, position_size, open_lines, Good}
use Rattle.reader.specs.CodedRows.{word_number, cond_number}
use Rattle.reader.specs.Machine.{State, position_code, open_conds, state_at, as_state}
use Rattle.listings.specs.Records.{rec_rows, arg_rows, rec_row, arg_row}
use Rattle.listing_laws.specs.ReadingRecords.{first_node, holder_of, first_len, first_index, recs_of, numbers_of, first_node_lem, recs_length, numbers-length}
use Rattle.reader.specs.Tables.{rec_wide, padded-length, joined_length}
use Rattle.reader.specs.Holds.{Holds}
use Rattle.reader.specs.Fill.{held_back, written_row, operands_of, as_given, EndReady, ToReady, AddReady, Ready, ArgsReady}
use Rattle.reader.specs.FillLaws.{args_few, walk_at, Fits, cond_index}
use Rattle.reader.specs.declared.fill.Walk.{Walk}

-- ---- bounds

len-le : (s : Stmts) → len s ≤ size s
unfolding len size
len-le ∅ = omega arith
len-le (s ▸ o) = omega (arith, len-le s)
len-le (branching s w t a u b) = omega (arith, len-le s)

first-le : (o : Option (BranchForm × Stmts)) → first_len o ≤ first_size o
unfolding first_len first_size
first-le none = omega arith
first-le (some a) = len-le a.1

index_le : (fs : List OpenCond) → first_index fs ≤ open_size fs
unfolding first_index open_size
index_le [] = omega arith
index_le (f ∷ fs) = omega (arith, first-le f.first)

holder_le : (T : ℕ) (fs : List OpenCond) → holder_of T fs ≤ first_node T fs
unfolding holder_of first_node
holder_le T [] = omega arith
holder_le T (f ∷ fs) = omega arith

word_le : (o : Simple) → word_number o ≤ 28
unfolding word_index
word_le o = at_most (simple_word o)

cond_le : (w : CondWord) → cond_number w + 2 ≤ 28
cond_le if = omega arith
cond_le ifelse = omega arith
cond_le rcomp = omega arith

-- the tables are as long as they were
pub record Long (nl ns na : ℕ) (n t a : List ℕ) : Type 0 where
  pub lines : length n ≡ nl
  pub stmts : length t ≡ ns
  pub args : length a ≡ na

pub holds_long : (r : Reading) (nl ns na : ℕ) (n t a : List ℕ) → Good r r.position → Fits nl ns na r → Holds (numbers_of r r.position) (recs_of r r.position) nl ns na n t a → Long nl ns na n t a
holds_long r nl ns na n t a g f h =
    let rs = recs_of r r.position in
    record {
      lines = ap length h.lines ∙ padded-length nl (numbers_of r r.position) (omega (arith, numbers-length r r.position, g.line_sum, f.lines));
      stmts = ap length h.stmts ∙ padded-length ns (rec_rows rs) (omega (arith, joined_length rec_row 12 (rec_wide rs), recs_length r r.position, g.stmt_sum, f.stmts));
      args = ap length h.args ∙ padded-length na (arg_rows rs) (omega (arith, joined_length arg_row 64 h.wide, recs_length r r.position, g.stmt_sum, f.args));
    }

module _ (r : Reading) (nl ns na : ℕ) (n t a : List ℕ) (now : Long nl ns na n t a) (room : Fits nl ns na r) where
  -- of an outcome: what the code needs at a row that says d, if it was taken and there is room
  Needs : State → Walk → Content → Outcome Reading → Type 0
  Needs s w d (taken q) = Fits nl ns na q → Ready n t s w (written_row d) (as_given (operands_of d)) × ArgsReady a s.stmts (written_row d) (operands_of d)
  Needs s w d (refused m) = Unit {0}

  check_needs : (s : State) (w : Walk) (d : Content) (b : Bool) (m : ℕ) (o : Outcome Reading) → (b ≡ true → Needs s w d o) → Needs s w d (check b m o)
  unfolding check Needs
  check_needs s w d true m o h = h refl
  check_needs s w d false m o h = tt

  stmts_end : (s : Stmts) (fs : List OpenCond) → Good r (in_stmts s fs) → EndReady t (state_at r (in_stmts s fs)) (walk_at r (in_stmts s fs))
  unfolding state_at position_code open_conds walk_at position_size
  stmts_end s fs g =
      let T = total r.lines in
      let h = holder_le T fs in
      let e = first_node_lem T fs in
      let b = held_back (holder_of T fs) in
      let x = now.stmts in
      let y = room.stmts in
      record {
        fits = omega (arith, g.stmt_sum);
        small = omega (arith, g.stmt_sum, g.stmt_most);
        most = g.stmt_most;
        index = λ i q z. absurd (omega arith);
      }

  add_ready : (s : Stmts) (fs : List OpenCond) (c : ℕ) → c ≤ 28 → r.stmt_count < 4096 → Good r (in_stmts s fs) → suc r.stmt_count * 12 ≤ ns → AddReady t (state_at r (in_stmts s fs)) (walk_at r (in_stmts s fs)) c
  unfolding state_at walk_at position_size open_lines
  add_ready s fs c h b g f =
      let x = now.stmts in
      record {
        fits = omega arith;
        small = b;
        line = omega (arith, g.line_sum);
        lines = g.line_most;
        holder = omega (arith, g.stmt_sum, held_back (holder_of (total r.lines) fs), holder_le (total r.lines) fs, first_node_lem (total r.lines) fs);
        index = omega (arith, g.stmt_sum, g.stmt_most, index_le fs, len-le s);
        word = h;
      }

  cond_holder : (s : Stmts) (w : CondWord) (bs : Branches) (fs : List OpenCond) → Good r (in_cond s w bs fs) → suc (first_node (total r.lines) fs + size s) ≤ r.stmt_count
  unfolding position_size
  cond_holder s w bs fs g = omega (arith, g.stmt_sum, first_node_lem (total r.lines) fs)

  cond_end : (s : Stmts) (w : CondWord) (bs : Branches) (fs : List OpenCond) → Good r (in_cond s w bs fs) → Holds (numbers_of r (in_cond s w bs fs)) (recs_of r (in_cond s w bs fs)) nl ns na n t a
      → EndReady t (state_at r (in_cond s w bs fs)) (walk_at r (in_cond s w bs fs))
  unfolding state_at position_code open_conds walk_at position_size
  cond_end s w bs fs g e =
      let T = total r.lines in
      let j = first_node T fs + size s in
      let c = cond_holder s w bs fs g in
      let k : get_or t (j * 12 + 3) 0 ≤ 4096 = omega (arith, cond_index r nl ns na n t a s w bs fs g e, g.stmt_sum, g.stmt_most, index_le fs, len-le s) in
      let x = now.stmts in
      let y = room.stmts in
      record {
        fits = omega arith;
        small = omega (arith, g.stmt_most);
        most = g.stmt_most;
        index = λ m q z. let p : j ≡ m = cc in subst (λ (i : ℕ). get_or t (i * 12 + 3) 0 ≤ 4096) p k;
      }

  begin_needs : (d : Content) → Needs (state_at r begin) (walk_at r begin) d (at_begin r d)
  unfolding at_begin Needs
  begin_needs no_form = tt
  begin_needs end_row = tt
  begin_needs stmts_row = tt
  begin_needs (module_row h) = λ _. (tt, tt)
  begin_needs (line_row malformed) = tt
  begin_needs (line_row invalid) = tt
  begin_needs (line_row (parsed m)) = tt
  begin_needs (to_row m) = tt
  begin_needs (simple_row o) = tt
  begin_needs (cond_row k) = tt

  module_needs : (d : Content) → Good r in_module → Needs (state_at r in_module) (walk_at r in_module) d (at_module r d)
  unfolding at_module Needs or_refused read_line state_at position_code walk_at
  module_needs no_form g = tt
  module_needs end_row g =
      λ _. (record { fits = omega arith; small = omega arith; most = g.stmt_most; index = λ i q z. absurd (omega arith) }, tt)
  module_needs stmts_row g = tt
  module_needs (module_row h) g = tt
  module_needs (line_row malformed) g = tt
  module_needs (line_row invalid) g = tt
  module_needs (line_row (parsed m)) g = check_needs (state_at r in_module) (walk_at r in_module) (line_row (parsed m)) (ascends m r.last) 4 _ λ _. check_needs (state_at r in_module) (walk_at r in_module) (line_row (parsed m)) (ltb r.line_count 1024) 5 _ λ _ f. let x = now.lines in let y = f.lines in (omega arith, tt)
  module_needs (to_row m) g = tt
  module_needs (simple_row o) g = tt
  module_needs (cond_row k) g = tt

  list_needs : (s : Stmts) (fs : List OpenCond) (d : Content) → ContentOk d → Good r (in_stmts s fs) → Needs (state_at r (in_stmts s fs)) (walk_at r (in_stmts s fs)) d (at_stmts r s fs d)
  unfolding at_stmts Needs or_refused read_simple read_cond one_more state_at ContentOk IsParsed
  list_needs s fs no_form c g = tt
  list_needs s fs end_row c g = λ _. (stmts_end s fs g, tt)
  list_needs s fs stmts_row c g = tt
  list_needs s fs (module_row h) c g = tt
  list_needs s fs (line_row m) c g = tt
  list_needs s fs (to_row m) c g = tt
  list_needs s fs (simple_row malformed) c g = tt
  list_needs s fs (simple_row invalid) c g = tt
  list_needs s fs (simple_row (parsed d)) c g =
      check_needs (state_at r (in_stmts s fs)) (walk_at r (in_stmts s fs)) (simple_row (parsed d)) (ltb r.stmt_count 4096) 6 _ λ x. check_needs (state_at r (in_stmts s fs)) (walk_at r (in_stmts s fs)) (simple_row (parsed d)) (leb (length fs) 16) 7 _ λ _. check_needs (state_at r (in_stmts s fs)) (walk_at r (in_stmts s fs)) (simple_row (parsed d)) (leb d.1 64) 8 _ λ y f.
      (let z = now.args in
      let v = f.args in
      let k = args_few d c.1 (leb-true d.1 64 y) in
      ((add_ready s fs (word_number d.0) (word_le d.0) (ltb-true r.stmt_count 4096 x) g f.stmts, k), (omega arith, k)))
  list_needs s fs (cond_row k) c g =
      check_needs (state_at r (in_stmts s fs)) (walk_at r (in_stmts s fs)) (cond_row k) (ltb r.stmt_count 4096) 6 _ λ x. check_needs (state_at r (in_stmts s fs)) (walk_at r (in_stmts s fs)) (cond_row k) (leb (length fs) 16) 7 _ λ _ f.
      (add_ready s fs (cond_number k + 2) (cond_le k) (ltb-true r.stmt_count 4096 x) g f.stmts, tt)

  close_needs : (fs : List OpenCond) (v : State) (u : Walk) (o : Option Stmts) → EndReady t v u → Needs v u end_row (end_cond r fs o)
  unfolding Needs end_cond
  close_needs fs v u none h = tt
  close_needs fs v u (some z) h = λ _. (h, tt)

  into_needs : (s : Stmts) (w : CondWord) (fs : List OpenCond) (m : NextBranch) (v : State) (u : Walk) → Needs v u stmts_row (read_stmts r s w fs m)
  unfolding Needs read_stmts
  into_needs s w fs no_more v u = tt
  into_needs s w fs (may_follow o) v u = λ _. (tt, tt)

  to_needs : (s : Stmts) (w : CondWord) (fs : List OpenCond) (m : NextBranch) (k : ℕ) (v : State) (u : Walk) → ToReady t v u → Needs v u (to_row (parsed k)) (read_to r s w fs m (parsed k))
  unfolding Needs read_to or_refused
  to_needs s w fs no_more k v u h = tt
  to_needs s w fs (may_follow o) k v u h = λ _. (h, tt)

  to_none : (s : Stmts) (w : CondWord) (fs : List OpenCond) (m : NextBranch) (v : State) (u : Walk) (d : Content) → Needs v u d (read_to r s w fs m malformed) × Needs v u d (read_to r s w fs m invalid)
  unfolding Needs read_to or_refused
  to_none s w fs no_more v u d = (tt, tt)
  to_none s w fs (may_follow o) v u d = (tt, tt)

  branches_needs : (s : Stmts) (w : CondWord) (bs : Branches) (fs : List OpenCond) (d : Content) → Good r (in_cond s w bs fs)
      → Holds (numbers_of r (in_cond s w bs fs)) (recs_of r (in_cond s w bs fs)) nl ns na n t a → Needs (state_at r (in_cond s w bs fs)) (walk_at r (in_cond s w bs fs)) d (at_cond r s w bs fs d)
  unfolding at_cond Needs walk_at state_at
  branches_needs s w bs fs no_form g e = tt
  branches_needs s w bs fs end_row g e = close_needs fs (state_at r (in_cond s w bs fs)) (walk_at r (in_cond s w bs fs)) (cond_stmt s w bs) (cond_end s w bs fs g e)
  branches_needs s w bs fs stmts_row g e = into_needs s w fs (next_branch w bs) (state_at r (in_cond s w bs fs)) (walk_at r (in_cond s w bs fs))
  branches_needs s w bs fs (module_row h) g e = tt
  branches_needs s w bs fs (line_row m) g e = tt
  branches_needs s w bs fs (to_row malformed) g e = (to_none s w fs (next_branch w bs) (state_at r (in_cond s w bs fs)) (walk_at r (in_cond s w bs fs)) (to_row malformed)).0
  branches_needs s w bs fs (to_row invalid) g e = (to_none s w fs (next_branch w bs) (state_at r (in_cond s w bs fs)) (walk_at r (in_cond s w bs fs)) (to_row invalid)).1
  branches_needs s w bs fs (to_row (parsed m)) g e =
      let c = cond_holder s w bs fs g in
      let x = now.stmts in
      let y = room.stmts in
      to_needs s w fs (next_branch w bs) m (state_at r (in_cond s w bs fs)) (walk_at r (in_cond s w bs fs)) (record { fits = omega arith; small = omega (arith, g.stmt_most); most = g.stmt_most })
  branches_needs s w bs fs (simple_row o) g e = tt
  branches_needs s w bs fs (cond_row k) g e = tt

  row_needs : (p : Position) (d : Content) → ContentOk d → Good r p → Holds (numbers_of r p) (recs_of r p) nl ns na n t a → Needs (state_at r p) (walk_at r p) d (read_row r p d)
  unfolding read_row Needs
  row_needs begin d c g e = begin_needs d
  row_needs in_module d c g e = module_needs d g
  row_needs ended d c g e = tt
  row_needs (in_stmts s fs) d c g e = list_needs s fs d c g
  row_needs (in_cond s w bs fs) d c g e = branches_needs s w bs fs d g e

pub ready_law : (r q : Reading) (nl ns na : ℕ) (n t a : List ℕ) (d : Content) → ContentOk d → Good r r.position → Holds (numbers_of r r.position) (recs_of r r.position) nl ns na n t a
    → read_row r r.position d ≡ taken q → Fits nl ns na r → Fits nl ns na q
    → Ready n t (as_state r) (walk_at r r.position) (written_row d) (as_given (operands_of d)) × ArgsReady a r.stmt_count (written_row d) (operands_of d)
unfolding Needs as_state state_at
ready_law r q nl ns na n t a d o g h e b f =
    let x = holds_long r nl ns na n t a g b h in
    subst (Needs r nl ns na n t a x b (as_state r) (walk_at r r.position) d) e (row_needs r nl ns na n t a x b r.position d o g h) f
