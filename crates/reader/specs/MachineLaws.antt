-- The row machine goes as the definition goes, and its numbers fit. Assumes nothing.
use Rattle.std.specs.Prelude.{ℕ, zero, suc, ◌+◌, ◌*◌, ◌-◌, ◌/◌, ◌%◌, ◌^◌, ◌≤◌, ◌<◌, ◌≡◌, refl, List, [], ◌∷◌, Bool, true, false, eqb, leb, ltb, length, Result, Ok, Err}
use Rattle.std.proofs.Math.Nat.{pow-suc, pow-le-pow_right}
use Rattle.std.proofs.Common.{sym, ap, ◌∙◌, arith, add-one, ne_eqb}
use Rattle.std.proofs.Math.Option.{Option, none, some}
use Rattle.listings.specs.Bytes.{pick}
use Rattle.listings.specs.Listing.{CondWord, if, ifelse, rcomp, BranchForm, Stmts, ∅, ◌▸◌}
use Rattle.listings.specs.Rows.{malformed, invalid, parsed, Counted, Content, no_form, end_row, stmts_row, module_row, line_row, to_row, simple_row, cond_row}
use Rattle.listings.specs.Read.{OpenCond, Branches, no_branch, one_branch, two_branches, Position, begin, in_module, ended, in_stmts, in_cond, Reading, go_to, one_more, Outcome, taken, or_refused, check, at_begin, ascends, read_line, at_module, read_simple, read_cond, branched, end_stmts, at_stmts, NextBranch, no_more, may_follow, next_branch, cond_stmt, end_cond, read_to, read_stmts, at_cond, read_row}
use Rattle.tokens.specs.Kinds.{as_cond}
use Rattle.reader.specs.CodedRows.{place_number, cond_number, cond_back, as_row}
use Rattle.tokens.specs.Numbers.{ascends as above}
use Rattle.reader.specs.Machine.{State, deepest, last_code, first_code, cond_code, packed, branch_count, position_code, open_conds, word_code, branch_code, state_at, as_state, numbered_step, as_step, step_line, step_simple, step_cond, step_stmts, step_to, may_branch, reason_at, end_of_stmts, step_end, step_row}
use Rattle.reader.specs.declared.rows.Position.{Position as Place}
use Rattle.reader.specs.declared.rows.Position.TheVariants as at
use Rattle.layout.specs.Refusals.{number_of}
use Rattle.layout.specs.declared.refusals.Reason.{Reason}
use Rattle.layout.specs.declared.refusals.Reason.TheVariants as reason

-- ---- the packed IFs

pub cond_le : (k : CondWord) → cond_number k ≤ 2
cond_le if = omega arith
cond_le ifelse = omega arith
cond_le rcomp = omega arith

first-le : (o : Option (BranchForm × Stmts)) → first_code o ≤ 1
unfolding first_code
first-le none = omega arith
first-le (some a) = omega arith

packed-rest : (a b x : ℕ) → a ≤ 2 → b ≤ 1 → (a * 2 + b + 8 * x) / 8 ≡ x
packed-rest a b x h k = omega arith

packed_word : (a b x : ℕ) → a ≤ 2 → b ≤ 1 → ((a * 2 + b + 8 * x) % 8) / 2 ≡ a
packed_word a b x h k = omega arith

packed-first : (a b x : ℕ) → a ≤ 2 → b ≤ 1 → ((a * 2 + b + 8 * x) % 8) % 2 ≡ b
packed-first a b x h k = omega arith

-- ---- the rows of each position

-- a fact of every row, from those of the rows that the machine tells apart
each_row : (P : Content → Type 0) → P no_form → P end_row → P stmts_row → ((h : Bool) → P (module_row h)) → P (line_row malformed) → P (line_row invalid) → ((n : ℕ) → P (line_row (parsed n)))
    → P (to_row malformed) → P (to_row invalid) → ((n : ℕ) → P (to_row (parsed n))) → P (simple_row malformed) → P (simple_row invalid) → ((o : Counted) → P (simple_row (parsed o)))
    → ((k : CondWord) → P (cond_row k)) → (d : Content) → P d
each_row P a b c e f g h i j k l m n o no_form = a
each_row P a b c e f g h i j k l m n o end_row = b
each_row P a b c e f g h i j k l m n o stmts_row = c
each_row P a b c e f g h i j k l m n o (module_row x) = e x
each_row P a b c e f g h i j k l m n o (line_row malformed) = f
each_row P a b c e f g h i j k l m n o (line_row invalid) = g
each_row P a b c e f g h i j k l m n o (line_row (parsed x)) = h x
each_row P a b c e f g h i j k l m n o (to_row malformed) = i
each_row P a b c e f g h i j k l m n o (to_row invalid) = j
each_row P a b c e f g h i j k l m n o (to_row (parsed x)) = k x
each_row P a b c e f g h i j k l m n o (simple_row malformed) = l
each_row P a b c e f g h i j k l m n o (simple_row invalid) = m
each_row P a b c e f g h i j k l m n o (simple_row (parsed x)) = n x
each_row P a b c e f g h i j k l m n o (cond_row x) = o x

begin_law : (r : Reading) (d : Content) → numbered_step (step_row (state_at r begin) (as_row d)) ≡ as_step (at_begin r d)
unfolding state_at position_code open_conds word_code branch_code last_code packed at_begin as_step as_state
begin_law r =
    each_row (λ d. numbered_step (step_row (state_at r begin) (as_row d)) ≡ as_step (at_begin r d)) refl refl refl (λ h. refl) refl refl (λ n. refl) refl refl (λ n. refl) refl refl (λ o. refl) (λ k. refl)

ended_law : (r : Reading) (d : Content) → numbered_step (step_row (state_at r ended) (as_row d)) ≡ Err 2
unfolding state_at position_code open_conds word_code branch_code last_code packed
ended_law r = each_row (λ d. numbered_step (step_row (state_at r ended) (as_row d)) ≡ Err 2) refl refl refl (λ h. refl) refl refl (λ n. refl) refl refl (λ n. refl) refl refl (λ o. refl) (λ k. refl)

ascends_law : (n : ℕ) (o : Option ℕ) → ascends n o ≡ above (last_code o) n
unfolding ascends last_code
ascends_law n none = refl
ascends_law n (some m) = refl

check-step : (t : Bool) (n : ℕ) (o : Outcome Reading) → as_step (check t n o) ≡ pick t (as_step o) (Err n)
unfolding check as_step
check-step true n o = refl
check-step false n o = refl

two_tests : (a b : Bool) (x : State) (p q : Reason) → pick a (pick b (Ok x) (Err (number_of p))) (Err (number_of q)) ≡ numbered_step (pick a (pick b (Ok x) (Err p)) (Err q))
two_tests true true x p q = refl
two_tests true false x p q = refl
two_tests false b x p q = refl

three_tests : (a b c : Bool) (x : State) (o p q : Reason) → pick a (pick b (pick c (Ok x) (Err (number_of o))) (Err (number_of p))) (Err (number_of q)) ≡ numbered_step (pick a (pick b (pick c (Ok x) (Err o)) (Err p)) (Err q))
three_tests true true true x o p q = refl
three_tests true true false x o p q = refl
three_tests true false c x o p q = refl
three_tests false b c x o p q = refl

line_law : (r : Reading) (n : ℕ) → numbered_step (step_line (state_at r in_module) n) ≡ as_step (read_line r n)
unfolding read_line state_at position_code open_conds word_code branch_code packed last_code as_step as_state
line_law r n =
    sym (check-step (ascends n r.last) 4 _ ∙ ap (λ (z : Result State ℕ). pick (ascends n r.last) z (Err 4)) (check-step (ltb r.line_count 1024) 5 _)
    ∙ go)
  where
    go : pick (ascends n r.last) (pick (ltb r.line_count 1024) (as_step (taken (record { handlers = r.handlers; lines = r.lines; last = some n; line_count = suc r.line_count; stmt_count = r.stmt_count; position = in_stmts ∅ [] }))) (Err 5)) (Err 4)
        ≡ numbered_step (step_line (state_at r in_module) n)
    go = rw (ascends_law n r.last, add-one r.line_count) (two_tests (above (last_code r.last) n) (ltb r.line_count 1024) _ reason.TooManyLines reason.LineOrder)

module_law : (r : Reading) (d : Content) → numbered_step (step_row (state_at r in_module) (as_row d)) ≡ as_step (at_module r d)
unfolding state_at position_code open_conds word_code branch_code packed last_code as_step as_state at_module or_refused go_to
module_law r no_form = refl
module_law r end_row = refl
module_law r stmts_row = refl
module_law r (module_row h) = refl
module_law r (line_row malformed) = refl
module_law r (line_row invalid) = refl
module_law r (line_row (parsed n)) = line_law r n
module_law r (to_row malformed) = refl
module_law r (to_row invalid) = refl
module_law r (to_row (parsed n)) = refl
module_law r (simple_row malformed) = refl
module_law r (simple_row invalid) = refl
module_law r (simple_row (parsed o)) = refl
module_law r (cond_row k) = refl

simple_law : (r : Reading) (s : Stmts) (fs : List OpenCond) (o : Counted) → numbered_step (step_simple (state_at r (in_stmts s fs)) o.1) ≡ as_step (read_simple r s fs o)
unfolding state_at position_code open_conds word_code branch_code packed last_code as_step as_state read_simple one_more
simple_law r s fs o =
    sym (check-step (ltb r.stmt_count 4096) 6 _
    ∙ ap (λ (z : Result State ℕ). pick (ltb r.stmt_count 4096) z (Err 6)) (check-step (leb (length fs) 16) 7 _
    ∙ ap (λ (z : Result State ℕ). pick (leb (length fs) 16) z (Err 7)) (check-step (leb o.1 64) 8 _))
    ∙ go)
  where
    go : pick (ltb r.stmt_count 4096) (pick (leb (length fs) 16) (pick (leb o.1 64) (as_step (taken (one_more r (in_stmts (s ▸ o.0) fs)))) (Err 8)) (Err 7)) (Err 6)
        ≡ numbered_step (step_simple (state_at r (in_stmts s fs)) o.1)
    go = rw (add-one r.stmt_count) (three_tests (ltb r.stmt_count 4096) (leb (length fs) 16) (leb o.1 64) _ reason.TooWide reason.TooDeep reason.TooManyStatements)

cond_law : (r : Reading) (s : Stmts) (fs : List OpenCond) (k : CondWord) → numbered_step (step_cond (state_at r (in_stmts s fs)) (as_cond k)) ≡ as_step (read_cond r s fs k)
unfolding state_at position_code open_conds word_code branch_code packed last_code as_step as_state read_cond one_more branch_count
cond_law r s fs k =
    sym (check-step (ltb r.stmt_count 4096) 6 _
    ∙ ap (λ (z : Result State ℕ). pick (ltb r.stmt_count 4096) z (Err 6)) (check-step (leb (length fs) 16) 7 _)
    ∙ go)
  where
    go : pick (ltb r.stmt_count 4096) (pick (leb (length fs) 16) (as_step (taken (one_more r (in_cond s k no_branch fs)))) (Err 7)) (Err 6)
        ≡ numbered_step (step_cond (state_at r (in_stmts s fs)) (as_cond k))
    go = rw (add-one r.stmt_count) (two_tests (ltb r.stmt_count 4096) (leb (length fs) 16) _ reason.TooDeep reason.TooManyStatements)

count_more : (o : Option (BranchForm × Stmts)) (b : BranchForm × Stmts) → branch_count (branched o b) ≡ first_code o + 1
unfolding branch_count branched first_code
count_more none b = refl
count_more (some a) b = refl

end_law : (r : Reading) (s : Stmts) (fs : List OpenCond) → end_of_stmts (state_at r (in_stmts s fs)) ≡ Ok (as_state (end_stmts r s fs))
unfolding state_at position_code open_conds word_code branch_code packed last_code as_step as_state end_stmts go_to cond_code
end_law r s [] = refl
end_law r s (f ∷ fs) =
    let a = cond_number f.word in
    let b = first_code f.first in
    let x = packed fs in
    let d : suc (length fs) - 1 ≡ length fs = omega arith in
    let n : eqb (suc (length fs)) 0 ≡ false = ne_eqb (suc (length fs)) 0 (λ e. omega arith) in
    rw (n, d, packed-rest a b x (cond_le f.word) (first-le f.first), packed_word a b x (cond_le f.word) (first-le f.first), cond_back f.word, packed-first a b x (cond_le f.word) (first-le f.first), count_more f.first (BranchForm.stmts, s))

stmts_law : (r : Reading) (s : Stmts) (fs : List OpenCond) (d : Content) → numbered_step (step_row (state_at r (in_stmts s fs)) (as_row d)) ≡ as_step (at_stmts r s fs d)
unfolding state_at position_code word_code branch_code last_code as_step at_stmts or_refused
stmts_law r s fs no_form = refl
stmts_law r s fs end_row = ap numbered_step (end_law r s fs)
stmts_law r s fs stmts_row = refl
stmts_law r s fs (module_row h) = refl
stmts_law r s fs (line_row malformed) = refl
stmts_law r s fs (line_row invalid) = refl
stmts_law r s fs (line_row (parsed n)) = refl
stmts_law r s fs (to_row malformed) = refl
stmts_law r s fs (to_row invalid) = refl
stmts_law r s fs (to_row (parsed n)) = refl
stmts_law r s fs (simple_row malformed) = refl
stmts_law r s fs (simple_row invalid) = refl
stmts_law r s fs (simple_row (parsed o)) = simple_law r s fs o
stmts_law r s fs (cond_row k) = cond_law r s fs k

-- ---- between the branches of an IF

into_law : (r : Reading) (s : Stmts) (k : CondWord) (bs : Branches) (fs : List OpenCond) → numbered_step (step_stmts (state_at r (in_cond s k bs fs))) ≡ as_step (read_stmts r s k fs (next_branch k bs))
unfolding state_at position_code open_conds word_code branch_code packed last_code as_step as_state read_stmts go_to cond_code next_branch branch_count first_code
into_law r s if no_branch fs = rw (add-one (length fs))
into_law r s ifelse no_branch fs = rw (add-one (length fs))
into_law r s rcomp no_branch fs = rw (add-one (length fs))
into_law r s if (one_branch a) fs = refl
into_law r s ifelse (one_branch a) fs = rw (add-one (length fs))
into_law r s rcomp (one_branch a) fs = rw (add-one (length fs))
into_law r s if (two_branches a b) fs = refl
into_law r s ifelse (two_branches a b) fs = refl
into_law r s rcomp (two_branches a b) fs = refl

to_law : (r : Reading) (s : Stmts) (k : CondWord) (bs : Branches) (fs : List OpenCond) (n : ℕ) → numbered_step (step_to (state_at r (in_cond s k bs fs))) ≡ as_step (read_to r s k fs (next_branch k bs) (parsed n))
unfolding state_at position_code open_conds word_code branch_code packed last_code as_step as_state read_to or_refused go_to next_branch branch_count branched
to_law r s if no_branch fs n = refl
to_law r s ifelse no_branch fs n = refl
to_law r s rcomp no_branch fs n = refl
to_law r s if (one_branch a) fs n = refl
to_law r s ifelse (one_branch a) fs n = refl
to_law r s rcomp (one_branch a) fs n = refl
to_law r s if (two_branches a b) fs n = refl
to_law r s ifelse (two_branches a b) fs n = refl
to_law r s rcomp (two_branches a b) fs n = refl

bad_to_law : (r : Reading) (s : Stmts) (k : CondWord) (bs : Branches) (fs : List OpenCond) → numbered_step (Err (reason_at (state_at r (in_cond s k bs fs)) (record { reason = reason.BadWord; due = at.InCond }))) ≡ as_step (read_to r s k fs (next_branch k bs) invalid)
unfolding state_at position_code open_conds word_code branch_code packed last_code as_step as_state read_to or_refused next_branch branch_count
bad_to_law r s if no_branch fs = refl
bad_to_law r s ifelse no_branch fs = refl
bad_to_law r s rcomp no_branch fs = refl
bad_to_law r s if (one_branch a) fs = refl
bad_to_law r s ifelse (one_branch a) fs = refl
bad_to_law r s rcomp (one_branch a) fs = refl
bad_to_law r s if (two_branches a b) fs = refl
bad_to_law r s ifelse (two_branches a b) fs = refl
bad_to_law r s rcomp (two_branches a b) fs = refl

no_to_law : (r : Reading) (s : Stmts) (k : CondWord) (bs : Branches) (fs : List OpenCond) → numbered_step (Err (reason_at (state_at r (in_cond s k bs fs)) (record { reason = reason.NotAForm; due = at.InCond }))) ≡ as_step (read_to r s k fs (next_branch k bs) malformed)
unfolding state_at position_code as_step read_to or_refused
no_to_law r s k bs fs = here (may_branch (word_code (in_cond s k bs fs)) (branch_code (in_cond s k bs fs))) ∙ go (next_branch k bs)
  where
    here : (t : Bool) → numbered_step (Err (pick t reason.NotAForm reason.NotAForm)) ≡ Err 2
    here true = refl
    here false = refl

    go : (m : NextBranch) → Err 2 ≡ as_step (read_to r s k fs m malformed)
    go no_more = refl
    go (may_follow a) = refl

close_law : (r : Reading) (s : Stmts) (k : CondWord) (bs : Branches) (fs : List OpenCond) → numbered_step (step_end (state_at r (in_cond s k bs fs))) ≡ as_step (end_cond r fs (cond_stmt s k bs))
unfolding state_at position_code open_conds word_code branch_code packed last_code as_step as_state end_cond cond_stmt go_to branch_count
close_law r s if no_branch fs = refl
close_law r s ifelse no_branch fs = refl
close_law r s rcomp no_branch fs = refl
close_law r s if (one_branch a) fs = refl
close_law r s ifelse (one_branch a) fs = refl
close_law r s rcomp (one_branch a) fs = refl
close_law r s if (two_branches a b) fs = refl
close_law r s ifelse (two_branches a b) fs = refl
close_law r s rcomp (two_branches a b) fs = refl

branches_law : (r : Reading) (s : Stmts) (k : CondWord) (bs : Branches) (fs : List OpenCond) (d : Content) → numbered_step (step_row (state_at r (in_cond s k bs fs)) (as_row d)) ≡ as_step (at_cond r s k bs fs d)
unfolding state_at position_code as_step at_cond
branches_law r s k bs fs no_form = refl
branches_law r s k bs fs end_row = close_law r s k bs fs
branches_law r s k bs fs stmts_row = into_law r s k bs fs
branches_law r s k bs fs (module_row h) = refl
branches_law r s k bs fs (line_row malformed) = refl
branches_law r s k bs fs (line_row invalid) = refl
branches_law r s k bs fs (line_row (parsed n)) = refl
branches_law r s k bs fs (to_row malformed) = no_to_law r s k bs fs
branches_law r s k bs fs (to_row invalid) = bad_to_law r s k bs fs
branches_law r s k bs fs (to_row (parsed n)) = to_law r s k bs fs n
branches_law r s k bs fs (simple_row malformed) = refl
branches_law r s k bs fs (simple_row invalid) = refl
branches_law r s k bs fs (simple_row (parsed o)) = refl
branches_law r s k bs fs (cond_row w) = refl

-- ---- every row

row_law : (r : Reading) (p : Position) (d : Content) → numbered_step (step_row (state_at r p) (as_row d)) ≡ as_step (read_row r p d)
unfolding read_row as_step
row_law r begin d = begin_law r d
row_law r in_module d = module_law r d
row_law r ended d = ended_law r d
row_law r (in_stmts s fs) d = stmts_law r s fs d
row_law r (in_cond s k bs fs) d = branches_law r s k bs fs d

-- the machine goes as the definition goes
pub step_law : (r : Reading) (d : Content) → numbered_step (step_row (as_state r) (as_row d)) ≡ as_step (read_row r r.position d)
unfolding as_state
step_law r d = row_law r r.position d

-- ---- the numbers fit

deepest_le : (p : Place) → deepest p ≤ 17
deepest_le p = go (eqb (place_number p) 4)
  where
    go : (t : Bool) → pick t 16 17 ≤ 17
    go true = omega arith
    go false = omega arith

-- the packed IFs, of which there are 17 at most
pub few_open : (p : Place) (o d : ℕ) → d ≤ deepest p → o < 8 ^ d → o < 2251799813685248
few_open p o d h k = omega (arith, k, pow-le-pow_right {n = 8} (omega arith) {i = d} {j = 17} (omega (arith, h, deepest_le p)))

-- one of them less
pub one_closed : (o d : ℕ) → (d ≡ 0 → ⊥) → o < 8 ^ d → o / 8 < 8 ^ (d - 1)
one_closed o zero h k = absurd (h refl)
one_closed o (suc d) h k = let e : suc d - 1 ≡ d = omega arith in rw e (omega (arith, k, pow-suc 8 d))
