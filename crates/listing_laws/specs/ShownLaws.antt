-- Each row taken is added at the end of what a reading has read, and keeps the limits. Assumes nothing.
use Rattle.std.specs.Prelude.{ℕ, suc, ◌+◌, ◌≤◌, ◌≡◌, refl, List, [], ◌∷◌, ◌++◌, Bool, true, false, T, ltb, leb, length}
use Rattle.std.proofs.Common.{sym, ap, ◌∙◌, append_assoc, append-nil, arith}
use Rattle.std.proofs.Math.Path.{subst}
use Rattle.std.proofs.Math.Option.{Option, none, some}
use Rattle.std.proofs.Math.Dec.{ltb→lt, leb→le}
use Rattle.listings.specs.Listing.{CondWord, if, ifelse, rcomp, BranchForm, to, stmts, absent, Stmts, ∅, branching, Lines, size, total, count}
use Rattle.listings.specs.Rows.{Parse, malformed, invalid, parsed, Counted, Content, no_form, end_row, stmts_row, module_row, line_row, to_row, simple_row, cond_row}
use Rattle.listings.specs.Read.{OpenCond, Branches, no_branch, one_branch, two_branches, Position, begin, in_module, ended, in_stmts, in_cond, Reading, start, go_to, one_more, Outcome, taken, or_refused, check, at_begin, ascends, read_line, at_module, read_simple, read_cond, number_of, branched, end_stmts, at_stmts, NextBranch, no_more, may_follow, next_branch, cond_stmt, end_cond, read_to, read_stmts, at_cond, read_row}
use Rattle.listings.specs.ListingText.{end_form, simple_text, cond_text, branch_rows, stmt_rows, rows_of_lines, listed, SimpleOk, BranchOk, NoBranch, SecondOk, BranchesOk, StmtsOk, last_number, Above, LinesOk, stmts_text, line_text, module_text}
use Rattle.listing_laws.specs.NumberText.{IfParsed}
use Rattle.listing_laws.specs.RowText.{ContentText}
use Rattle.listing_laws.specs.Contents.{ContentOk, row_text, content_row}
use Rattle.listing_laws.specs.Shown.{Branch, rows_of, first_rows, branches_rows, open_rows, line_shown, position_rows, shown, first_size, branches_size, open_size, position_size, open_lines, ReadOk, FirstOk, AllRead, OpenOk, PositionOk, Good, Next}

check_next_lem : (ws : List (List ℕ)) (b : Bool) (n : ℕ) (o : Outcome Reading) → (T b → Next ws o) → Next ws (check b n o)
unfolding check Next
check_next_lem ws true n o f = f tt
check_next_lem ws false n o f = tt

above_true : (n : ℕ) (m : Option ℕ) → T (ascends n m) → Above n m
unfolding Above ascends
above_true n none t = tt
above_true n (some m) t = ltb→lt m n t

-- a row more of the open line
line_more : (h : Bool) (ls : Lines) (m : Option ℕ) (ws vs : List (List ℕ)) (w : List ℕ) → vs ≡ ws ++ (w ∷ []) → line_shown h ls m vs ≡ line_shown h ls m ws ++ (w ∷ [])
line_more h ls m ws vs w e = rw e (simp append_assoc)

-- ---- branches

branched-rows : (f : Option Branch) (b : Branch) → branches_rows (branched f b) ≡ first_rows f ++ rows_of b
unfolding branches_rows branched first_rows
branched-rows none b = refl
branched-rows (some a) b = refl

branched-size : (f : Option Branch) (b : Branch) → branches_size (branched f b) ≡ first_size f + size b.1
unfolding branches_size branched first_size
branched-size none b = omega arith
branched-size (some a) b = refl

branched_ok : (d : ℕ) (f : Option Branch) (b : Branch) → FirstOk d f → ReadOk d b → AllRead d (branched f b)
unfolding FirstOk AllRead branched
branched_ok d none b x y = y
branched_ok d (some a) b x y = (x, y)

-- the branch after which one may follow stands for the branches that were read
Follows : ℕ → Branches → NextBranch → Type 0
Follows d bs no_more = Unit {0}
Follows d bs (may_follow f) = FirstOk d f × (branches_rows bs ≡ first_rows f) × (branches_size bs ≡ first_size f)

follows : (d : ℕ) (k : CondWord) (bs : Branches) → AllRead d bs → Follows d bs (next_branch k bs)
unfolding Follows AllRead next_branch FirstOk branches_rows first_rows branches_size first_size
follows d k no_branch x = (tt, refl, refl)
follows d if (one_branch a) x = tt
follows d ifelse (one_branch a) x = (x, refl, refl)
follows d rcomp (one_branch a) x = (x, refl, refl)
follows d k (two_branches a b) x = tt

second_ok : (u : BranchForm) (b : Stmts) → BranchOk u b → SecondOk u b
unfolding BranchOk SecondOk
second_ok (to n) b x = x
second_ok stmts b x = x
second_ok absent b x = absurd x

-- ---- where a row stands

begin_next : (r : Reading) (c : Content) (w : List ℕ) → ContentText w c → Good r begin → Next (shown r begin ++ (w ∷ [])) (at_begin r c)
unfolding at_begin Next position_rows open_lines position_size PositionOk last_number rows_of_lines
begin_next r no_form w x g = tt
begin_next r end_row w x g = tt
begin_next r stmts_row w x g = tt
begin_next r (module_row h) w x g = (
  record { lines = g.lines; line_sum = g.line_sum; line_most = g.line_most; stmt_sum = g.stmt_sum; stmt_most = g.stmt_most; place = g.place.0 ∙ sym (ap last_number g.place.1) },
  cc (ap rows_of_lines g.place.1),
)
begin_next r (line_row n) w x g = tt
begin_next r (to_row n) w x g = tt
begin_next r (simple_row o) w x g = tt
begin_next r (cond_row k) w x g = tt

line_next : (r : Reading) (n : ℕ) (w : List ℕ) → w ≡ line_text n → n ≤ 65535 → Good r in_module → Next (shown r in_module ++ (w ∷ [])) (read_line r n)
unfolding read_line Next position_rows open_lines position_size open_size PositionOk OpenOk StmtsOk number_of open_rows stmt_rows size
line_next r n w x y g =
    check_next_lem _ (ascends n r.last) 4 _ λ t.
    check_next_lem _ (ltb r.line_count 1024) 5 _ λ u. (
      record {
        lines = g.lines;
        line_sum = omega (arith, g.line_sum);
        line_most = ltb→lt r.line_count 1024 u;
        stmt_sum = omega (arith, g.stmt_sum);
        stmt_most = g.stmt_most;
        place = ((refl, y, subst (Above n) g.place (above_true n r.last t)), tt, tt);
      },
      rw x,
    )

module_next : (r : Reading) (c : Content) (w : List ℕ) → ContentText w c → Good r in_module → Next (shown r in_module ++ (w ∷ [])) (at_module r c)
unfolding at_module Next IfParsed or_refused go_to position_rows open_lines position_size PositionOk
module_next r no_form w x g = tt
module_next r end_row w x g =
    (record { lines = g.lines; line_sum = g.line_sum; line_most = g.line_most; stmt_sum = g.stmt_sum; stmt_most = g.stmt_most; place = tt }, rw x)
module_next r stmts_row w x g = tt
module_next r (module_row h) w x g = tt
module_next r (line_row malformed) w x g = tt
module_next r (line_row invalid) w x g = tt
module_next r (line_row (parsed n)) w x g = line_next r n w x.0 x.1 g
module_next r (to_row n) w x g = tt
module_next r (simple_row o) w x g = tt
module_next r (cond_row k) w x g = tt

module _ (r : Reading) (s : Stmts) (fs : List OpenCond) where
  simple_next : (d : Counted) (w : List ℕ) → w ≡ simple_text d.0 → SimpleOk d.0 → d.1 ≡ listed d.0 → Good r (in_stmts s fs)
      → Next (shown r (in_stmts s fs) ++ (w ∷ [])) (read_simple r s fs d)
  unfolding read_simple Next one_more position_rows open_lines position_size PositionOk StmtsOk stmt_rows size
  simple_next d w x y z g =
      check_next_lem _ (ltb r.stmt_count 4096) 6 _ λ t.
      check_next_lem _ (leb (length fs) 16) 7 _ λ u.
      check_next_lem _ (leb d.1 64) 8 _ λ v. (
        record {
          lines = g.lines;
          line_sum = g.line_sum;
          line_most = g.line_most;
          stmt_sum = omega (arith, g.stmt_sum);
          stmt_most = ltb→lt r.stmt_count 4096 t;
          place = (g.place.0, g.place.1, (g.place.2, leb→le (length fs) 16 u, y, subst (λ (n : ℕ). n ≤ 64) z (leb→le d.1 64 v)));
        },
        line_more r.handlers r.lines r.last (open_rows fs ++ stmt_rows s) (open_rows fs ++ (stmt_rows s ++ (simple_text d.0 ∷ []))) w (rw x (simp append_assoc)),
      )

  cond_next : (k : CondWord) (w : List ℕ) → w ≡ cond_text k → Good r (in_stmts s fs) → Next (shown r (in_stmts s fs) ++ (w ∷ [])) (read_cond r s fs k)
  unfolding read_cond Next one_more position_rows open_lines position_size PositionOk AllRead branches_rows branches_size
  cond_next k w x g =
      check_next_lem _ (ltb r.stmt_count 4096) 6 _ λ t.
      check_next_lem _ (leb (length fs) 16) 7 _ λ u. (
        record {
          lines = g.lines;
          line_sum = g.line_sum;
          line_most = g.line_most;
          stmt_sum = omega (arith, g.stmt_sum);
          stmt_most = ltb→lt r.stmt_count 4096 t;
          place = (g.place.0, g.place.1, g.place.2, leb→le (length fs) 16 u, tt);
        },
        line_more r.handlers r.lines r.last (open_rows fs ++ stmt_rows s) (open_rows fs ++ (stmt_rows s ++ (cond_text k ∷ []))) w (rw x (simp append_assoc)),
      )

-- the end of a branch, or of a line
end_next : (r : Reading) (s : Stmts) (fs : List OpenCond) (w : List ℕ) → w ≡ end_form → Good r (in_stmts s fs) → Next (shown r (in_stmts s fs) ++ (w ∷ [])) (taken (end_stmts r s fs))
unfolding end_stmts Next go_to position_rows open_lines position_size PositionOk OpenOk LinesOk BranchOk open_rows open_size rows_of_lines last_number total count branch_rows
end_next r s [] w x g = (
  record {
    lines = (g.lines, g.place.0.1, g.place.0.2, g.place.2);
    line_sum = omega (arith, g.line_sum);
    line_most = g.line_most;
    stmt_sum = omega (arith, g.stmt_sum);
    stmt_most = g.stmt_most;
    place = g.place.0.0;
  },
  rw x (sym (ap (λ (l : List (List ℕ)). module_text r.handlers ∷ l) (append_assoc (rows_of_lines r.lines) (line_text (number_of r.last) ∷ stmt_rows s) (end_form ∷ [])))),
)
end_next r s (f ∷ fs) w x g =
    let o = g.place.1 in (
      record {
        lines = g.lines;
        line_sum = g.line_sum;
        line_most = g.line_most;
        stmt_sum = omega (arith, g.stmt_sum, branched-size f.first (stmts, s));
        stmt_most = g.stmt_most;
        place = (g.place.0, o.0, o.1, o.2, branched_ok (length fs) f.first (stmts, s) o.3 (tt, g.place.2));
      },
      line_more r.handlers r.lines r.last _ _ w (rw (x, branched-rows) (simp append_assoc)),
    )

stmts_next : (r : Reading) (s : Stmts) (fs : List OpenCond) (c : Content) (w : List ℕ) → ContentText w c → Good r (in_stmts s fs) → Next (shown r (in_stmts s fs) ++ (w ∷ [])) (at_stmts r s fs c)
unfolding at_stmts Next IfParsed or_refused
stmts_next r s fs no_form w x g = tt
stmts_next r s fs end_row w x g = end_next r s fs w x g
stmts_next r s fs stmts_row w x g = tt
stmts_next r s fs (module_row h) w x g = tt
stmts_next r s fs (line_row n) w x g = tt
stmts_next r s fs (to_row n) w x g = tt
stmts_next r s fs (simple_row malformed) w x g = tt
stmts_next r s fs (simple_row invalid) w x g = tt
stmts_next r s fs (simple_row (parsed d)) w x g = simple_next r s fs d w x.0 x.1 x.2 g
stmts_next r s fs (cond_row k) w x g = cond_next r s fs k w x g

module _ (r : Reading) (s : Stmts) (k : CondWord) (bs : Branches) (fs : List OpenCond) (w : List ℕ) (g : Good r (in_cond s k bs fs)) where
  to_next : (f : NextBranch) (n : Parse ℕ) → Follows (length fs) bs f → ContentText w (to_row n) → Next (shown r (in_cond s k bs fs) ++ (w ∷ [])) (read_to r s k fs f n)
  unfolding read_to Next IfParsed or_refused go_to Follows position_rows open_lines position_size PositionOk BranchOk StmtsOk branch_rows stmt_rows size
  to_next no_more n h x = tt
  to_next (may_follow f) malformed h x = tt
  to_next (may_follow f) invalid h x = tt
  to_next (may_follow f) (parsed n) h x = (
    record {
      lines = g.lines;
      line_sum = g.line_sum;
      line_most = g.line_most;
      stmt_sum = omega (arith, g.stmt_sum, h.2, branched-size f (to n, ∅));
      stmt_most = g.stmt_most;
      place = (g.place.0, g.place.1, g.place.2, g.place.3, branched_ok (length fs) f (to n, ∅) h.0 ((x.1, refl), tt));
    },
    line_more r.handlers r.lines r.last _ _ w (rw (x.0, branched-rows, h.1) (simp append_assoc)),
  )

  into_next : (f : NextBranch) → Follows (length fs) bs f → w ≡ stmts_text → Next (shown r (in_cond s k bs fs) ++ (w ∷ [])) (read_stmts r s k fs f)
  unfolding read_stmts Next go_to Follows position_rows open_lines position_size PositionOk OpenOk StmtsOk open_rows open_size stmt_rows size
  into_next no_more h x = tt
  into_next (may_follow f) h x = (
    record {
      lines = g.lines;
      line_sum = g.line_sum;
      line_most = g.line_most;
      stmt_sum = omega (arith, g.stmt_sum, h.2);
      stmt_most = g.stmt_most;
      place = (g.place.0, (g.place.1, g.place.2, g.place.3, h.0), tt);
    },
    line_more r.handlers r.lines r.last _ _ w (rw (x, h.1) (simp (append_assoc, append-nil))),
  )

  -- the whole statement
  whole_next : (t : BranchForm) (a : Stmts) (u : BranchForm) (b : Stmts) → w ≡ end_form → BranchesOk k t a u b → StmtsOk (suc (length fs)) a → StmtsOk (suc (length fs)) b
      → branches_rows bs ≡ branch_rows t (stmt_rows a) ++ branch_rows u (stmt_rows b) → branches_size bs ≡ size a + size b
      → Next (shown r (in_cond s k bs fs) ++ (w ∷ [])) (taken (go_to r (in_stmts (branching s k t a u b) fs)))
  unfolding Next go_to position_rows open_lines position_size PositionOk StmtsOk stmt_rows size
  whole_next t a u b x o y z e n = (
    record {
      lines = g.lines;
      line_sum = g.line_sum;
      line_most = g.line_most;
      stmt_sum = omega (arith, g.stmt_sum, n);
      stmt_most = g.stmt_most;
      place = (g.place.0, g.place.1, (g.place.2, g.place.3, o, y, z));
    },
    line_more r.handlers r.lines r.last _ _ w (rw (x, e) (simp append_assoc)),
  )

close_next : (r : Reading) (s : Stmts) (k : CondWord) (bs : Branches) (fs : List OpenCond) (w : List ℕ) → w ≡ end_form → Good r (in_cond s k bs fs)
    → Next (shown r (in_cond s k bs fs) ++ (w ∷ [])) (end_cond r fs (cond_stmt s k bs))
unfolding end_cond cond_stmt Next PositionOk AllRead BranchesOk NoBranch SecondOk StmtsOk branches_rows branches_size branch_rows size
close_next r s k no_branch fs w x g = tt
close_next r s if (one_branch a) fs w x g =
    let h = g.place.4 in whole_next r s if (one_branch a) fs w g a.0 a.1 absent ∅ x (h.0, refl) h.1 tt (sym (append-nil (rows_of a))) (omega arith)
close_next r s ifelse (one_branch a) fs w x g = tt
close_next r s rcomp (one_branch a) fs w x g =
    let h = g.place.4 in whole_next r s rcomp (one_branch a) fs w g a.0 a.1 absent ∅ x (h.0, refl) h.1 tt (sym (append-nil (rows_of a))) (omega arith)
close_next r s if (two_branches a b) fs w x g = tt
close_next r s ifelse (two_branches a b) fs w x g =
    let h = g.place.4 in whole_next r s ifelse (two_branches a b) fs w g a.0 a.1 b.0 b.1 x (h.0.0, h.1.0) h.0.1 h.1.1 refl refl
close_next r s rcomp (two_branches a b) fs w x g =
    let h = g.place.4 in whole_next r s rcomp (two_branches a b) fs w g a.0 a.1 b.0 b.1 x (h.0.0, second_ok b.0 b.1 h.1.0) h.0.1 h.1.1 refl refl

conds_next : (r : Reading) (s : Stmts) (k : CondWord) (bs : Branches) (fs : List OpenCond) (c : Content) (w : List ℕ) → ContentText w c → Good r (in_cond s k bs fs)
    → Next (shown r (in_cond s k bs fs) ++ (w ∷ [])) (at_cond r s k bs fs c)
unfolding at_cond Next PositionOk
conds_next r s k bs fs no_form w x g = tt
conds_next r s k bs fs end_row w x g = close_next r s k bs fs w x g
conds_next r s k bs fs stmts_row w x g = into_next r s k bs fs w g (next_branch k bs) (follows (length fs) k bs g.place.4) x
conds_next r s k bs fs (module_row h) w x g = tt
conds_next r s k bs fs (line_row n) w x g = tt
conds_next r s k bs fs (to_row n) w x g = to_next r s k bs fs w g (next_branch k bs) n (follows (length fs) k bs g.place.4) x
conds_next r s k bs fs (simple_row o) w x g = tt
conds_next r s k bs fs (cond_row j) w x g = tt

-- a row taken is added at the end
pub row_next : (r : Reading) (p : Position) (c : Content) (w : List ℕ) → ContentText w c → Good r p → Next (shown r p ++ (w ∷ [])) (read_row r p c)
unfolding read_row Next
row_next r begin c w x g = begin_next r c w x g
row_next r in_module c w x g = module_next r c w x g
row_next r ended c w x g = tt
row_next r (in_stmts s fs) c w x g = stmts_next r s fs c w x g
row_next r (in_cond s k bs fs) c w x g = conds_next r s k bs fs c w x g

-- by what the row says: the limits hold after it
pub good_content : (r q : Reading) (d : Content) → ContentOk d → Good r r.position → read_row r r.position d ≡ taken q → Good q q.position
unfolding Next
good_content r q d o g e = (subst (Next _) e (row_next r r.position d (row_text d) (content_row d o) g)).0

-- before the first row
pub good_start : Good start start.position
unfolding start open_lines position_size PositionOk LinesOk total count
good_start = record { lines = tt; line_sum = refl; line_most = omega arith; stmt_sum = refl; stmt_most = omega arith; place = (refl, refl) }
