-- A listing within the limits is read from what its rows say: each is taken, from the left. So it is from their text. Assumes nothing.
use Prim.Native.Nat.{ℕ, suc, ◌+◌, ◌≤◌, ◌<◌}
use Rattle.std.specs.Prelude.{◌≡◌, Bool, true, false, T, ltb, leb, length}
use Rattle.std.proofs.Math.Path.{refl, subst}
use Rattle.std.proofs.Common.{sym, ap, ◌∙◌, arith, lt→ltb, le→leb}
use mathlib.Core.List.{List, [], ◌∷◌, ◌++◌, map}
use Rattle.std.proofs.Math.Option.{Option, none, some}
use Rattle.listings.specs.Listing.{Simple, CondWord, if, ifelse, rcomp, BranchForm, to, stmts, absent, Stmts, ∅, ◌▸◌, branching, Lines, nolines, line, Listing, size, total, count}
use Rattle.listings.specs.Rows.{row_of, parsed, Content, end_row, stmts_row, module_row, line_row, to_row, simple_row, cond_row, content_of}
use Rattle.listings.specs.Read.{OpenCond, Branches, no_branch, one_branch, two_branches, Position, begin, in_module, ended, in_stmts, in_cond, Reading, start, go_to, one_more, Outcome, taken, or_refused, check, at_begin, ascends, read_line, at_module, read_simple, read_cond, number_of, branched, end_stmts, at_stmts, may_follow, next_branch, cond_stmt, end_cond, read_to, read_stmts, at_cond, read_row, listing, finish, read_rows}
use Rattle.listings.specs.ListingText.{listing_rows, listed, SimpleOk, BranchOk, NoBranch, SecondOk, BranchesOk, StmtsOk, last_number, Above, LinesOk, Within}
use Rattle.listing_laws.specs.Contents.{IsParsed, ContentOk, row_text, content_says, branch_contents, stmt_contents, line_contents, contents, listing_rows_lem}
use Rattle.listings.specs.Every.{All, all[], all∷, no_newline}

-- from one reading to another over contents in form, each of them taken
pub data Steps : Reading → List Content → Reading → Type 0 where
  rest : {r : Reading} → Steps r [] r
  row : {r q p : Reading} {d : Content} {ds : List Content} → ContentOk d → read_row r r.position d ≡ taken q → Steps q ds p → Steps r (d ∷ ds) p

steps_append : {r q p : Reading} {ds es : List Content} → Steps r ds q → Steps q es p → Steps r (ds ++ es) p
steps_append rest g = g
steps_append (row o e h) g = row o e (steps_append h g)

-- from this reading these contents lead to the end of L
pub record Leads (r : Reading) (ds : List Content) (L : Listing) : Type 0 where
  pub last : Reading
  pub steps : Steps r ds last
  pub ends : last.position ≡ ended
  pub whole : L ≡ record { handlers = last.handlers; lines = last.lines }

-- ---- their text

steps_plain : {r q : Reading} {ds : List Content} → Steps r ds q → All (λ w. no_newline w ≡ true) (map row_text ds)
steps_plain rest = all[]
steps_plain (row {d = d} o e h) = all∷ (content_says d o).1 (steps_plain h)

finish-ended : (r : Reading) (i : ℕ) (p : Position) → p ≡ ended → finish r i p [] ≡ listing (record { handlers = r.handlers; lines = r.lines })
unfolding finish
finish-ended r i p e = rw e

read_row_lem : (r q : Reading) (i : ℕ) (w : List ℕ) (ws : List (List ℕ)) → read_row r r.position (content_of (row_of w)) ≡ taken q
    → read_rows r i (w ∷ (ws ++ ([] ∷ []))) ≡ read_rows q (suc i) (ws ++ ([] ∷ []))
unfolding read_rows
read_row_lem r q i w [] e = rw (e, read_rows)
read_row_lem r q i w (v ∷ ws) e = rw (e, read_rows)

-- the rows and the empty piece after the last byte 10 are a listing, if they end it
steps_read : {r q : Reading} {ds : List Content} → Steps r ds q → (i : ℕ) → q.position ≡ ended
    → read_rows r i (map row_text ds ++ ([] ∷ [])) ≡ listing (record { handlers = q.handlers; lines = q.lines })
unfolding read_rows
steps_read (rest {r = r}) i e = finish-ended r i r.position e
steps_read (row {r = r} {q = q} {d = d} {ds = ds} o f h) i e = read_row_lem r q i (row_text d) (map row_text ds) (ap (read_row r r.position) (content_says d o).0 ∙ f) ∙ steps_read h (suc i) e

-- ---- each content is taken

one : {r q : Reading} (d : Content) → ContentOk d → read_row r r.position d ≡ taken q → Steps r (d ∷ []) q
one d o e = row o e rest

check-true : {A : Type 0} (b : Bool) (n : ℕ) (o : Outcome A) → T b → check b n o ≡ o
unfolding check
check-true true n o t = refl
check-true false n o t = absurd t

-- a reading with another number of statements, elsewhere
abbrev moved : Reading → ℕ → Position → Reading
moved r n p = record { handlers = r.handlers; lines = r.lines; last = r.last; line_count = r.line_count; stmt_count = n; position = p }

pub first_ok : (k : CondWord) (t : BranchForm) (a : Stmts) (u : BranchForm) (b : Stmts) → BranchesOk k t a u b → BranchOk t a
unfolding BranchesOk
first_ok if t a u b ok = ok.0
first_ok ifelse t a u b ok = ok.0
first_ok rcomp t a u b ok = ok.0

module _ (r : Reading) where
  recount : (q : Reading) (ds : List Content) (n m : ℕ) (p : Position) → n ≡ m → Steps q ds (moved r n p) → Steps q ds (moved r m p)
  recount q ds n m p e h = subst (λ (k : ℕ). Steps q ds (moved r k p)) e h

  simple_step : (s : Stmts) (fs : List OpenCond) (n : ℕ) (o : Simple) → n < 4096 → length fs ≤ 16 → SimpleOk o → listed o ≤ 64
      → Steps (moved r n (in_stmts s fs)) (simple_row (parsed (o, listed o)) ∷ []) (moved r (suc n) (in_stmts (s ▸ o) fs))
  unfolding read_row at_stmts or_refused read_simple one_more ContentOk IsParsed
  simple_step s fs n o few deep ok short =
      one (simple_row (parsed (o, listed o))) (ok, refl)
      (check-true (ltb n 4096) 6 _ (lt→ltb n 4096 few) ∙ check-true (leb (length fs) 16) 7 _ (le→leb (length fs) 16 deep) ∙ check-true (leb (listed o) 64) 8 _ (le→leb (listed o) 64 short))

  cond_step : (s : Stmts) (fs : List OpenCond) (n : ℕ) (k : CondWord) → n < 4096 → length fs ≤ 16
      → Steps (moved r n (in_stmts s fs)) (cond_row k ∷ []) (moved r (suc n) (in_cond s k no_branch fs))
  unfolding read_row at_stmts read_cond one_more ContentOk
  cond_step s fs n k few deep =
      one (cond_row k) tt
      (check-true (ltb n 4096) 6 _ (lt→ltb n 4096 few) ∙ check-true (leb (length fs) 16) 7 _ (le→leb (length fs) 16 deep))

  module _ (s : Stmts) (k : CondWord) (fs : List OpenCond) where
    -- a branch's own statements are taken
    abbrev Inner : Option (BranchForm × Stmts) → ℕ → Stmts → Type 0
    Inner f n a =
        Steps (moved r n (in_stmts ∅ (record { before = s; word = k; first = f } ∷ fs))) (stmt_contents a) (moved r (n + size a) (in_stmts a (record { before = s; word = k; first = f } ∷ fs)))

    to_step : (bs : Branches) (f : Option (BranchForm × Stmts)) (n m : ℕ) → next_branch k bs ≡ may_follow f → m ≤ 65535
        → Steps (moved r n (in_cond s k bs fs)) (to_row (parsed m) ∷ []) (moved r n (in_cond s k (branched f (to m, ∅)) fs))
    unfolding read_row at_cond read_to or_refused go_to ContentOk IsParsed
    to_step bs f n m e ok = one (to_row (parsed m)) ok (rw (e, read_to))

    into_step : (bs : Branches) (f : Option (BranchForm × Stmts)) (n : ℕ) → next_branch k bs ≡ may_follow f
        → Steps (moved r n (in_cond s k bs fs)) (stmts_row ∷ []) (moved r n (in_stmts ∅ (record { before = s; word = k; first = f } ∷ fs)))
    unfolding read_row at_cond read_stmts go_to ContentOk
    into_step bs f n e = one stmts_row tt (rw (e, read_stmts))

    out_step : (f : Option (BranchForm × Stmts)) (n : ℕ) (a : Stmts)
        → Steps (moved r n (in_stmts a (record { before = s; word = k; first = f } ∷ fs))) (end_row ∷ []) (moved r n (in_cond s k (branched f (stmts, a)) fs))
    unfolding read_row at_stmts end_stmts go_to ContentOk
    out_step f n a = one end_row tt refl

    branch_steps : (bs : Branches) (f : Option (BranchForm × Stmts)) (n : ℕ) (t : BranchForm) (a : Stmts) → next_branch k bs ≡ may_follow f → BranchOk t a → Inner f n a
        → Steps (moved r n (in_cond s k bs fs)) (branch_contents t (stmt_contents a)) (moved r (n + size a) (in_cond s k (branched f (t, a)) fs))
    unfolding branch_contents BranchOk size
    branch_steps bs f n (to m) a e ok h =
        subst (λ (b : Stmts). Steps (moved r n (in_cond s k bs fs)) (to_row (parsed m) ∷ []) (moved r (n + size b) (in_cond s k (branched f (to m, b)) fs))) (sym ok.1)
        (recount _ _ n (n + 0) _ (omega arith) (to_step bs f n m e ok.0))
    branch_steps bs f n stmts a e ok h = steps_append (into_step bs f n e) (steps_append h (out_step f (n + size a) a))
    branch_steps bs f n absent a e ok h = absurd ok

    -- `)` after the branches
    end_step : (bs : Branches) (n : ℕ) (c : Stmts) → cond_stmt s k bs ≡ some c → Steps (moved r n (in_cond s k bs fs)) (end_row ∷ []) (moved r n (in_stmts c fs))
    unfolding read_row at_cond end_cond go_to ContentOk
    end_step bs n c e = one end_row tt (rw (e, end_cond))

    -- no second branch
    none_steps : (n : ℕ) (t : BranchForm) (a b : Stmts) → cond_stmt s k (one_branch (t, a)) ≡ some (branching s k t a absent ∅) → b ≡ ∅
        → Steps (moved r n (in_cond s k (one_branch (t, a)) fs)) (branch_contents absent (stmt_contents b) ++ (end_row ∷ [])) (moved r (n + size b) (in_stmts (branching s k t a absent b) fs))
    unfolding branch_contents size
    none_steps n t a b e o =
        subst (λ (c : Stmts). Steps (moved r n (in_cond s k (one_branch (t, a)) fs)) (end_row ∷ []) (moved r (n + size c) (in_stmts (branching s k t a absent c) fs))) (sym o)
        (recount _ _ n (n + 0) _ (omega arith) (end_step (one_branch (t, a)) n _ e))

    -- a second branch
    both_steps : (n : ℕ) (t : BranchForm) (a : Stmts) (u : BranchForm) (b : Stmts) → next_branch k (one_branch (t, a)) ≡ may_follow (some (t, a))
        → cond_stmt s k (two_branches (t, a) (u, b)) ≡ some (branching s k t a u b) → BranchOk u b → Inner (some (t, a)) n b
        → Steps (moved r n (in_cond s k (one_branch (t, a)) fs)) (branch_contents u (stmt_contents b) ++ (end_row ∷ [])) (moved r (n + size b) (in_stmts (branching s k t a u b) fs))
    unfolding branched
    both_steps n t a u b e g ok h = steps_append (branch_steps (one_branch (t, a)) (some (t, a)) n u b e ok h) (end_step (two_branches (t, a) (u, b)) (n + size b) _ g)

  module _ (s : Stmts) (fs : List OpenCond) where
    second_steps : (k : CondWord) (n : ℕ) (t : BranchForm) (a : Stmts) (u : BranchForm) (b : Stmts) → BranchesOk k t a u b → Inner s k fs (some (t, a)) n b
        → Steps (moved r n (in_cond s k (one_branch (t, a)) fs)) (branch_contents u (stmt_contents b) ++ (end_row ∷ [])) (moved r (n + size b) (in_stmts (branching s k t a u b) fs))
    unfolding BranchesOk BranchOk NoBranch SecondOk next_branch cond_stmt
    second_steps if n t a (to m) b ok h = absurd ok.1
    second_steps if n t a stmts b ok h = absurd ok.1
    second_steps if n t a absent b ok h = none_steps s if fs n t a b refl ok.1
    second_steps ifelse n t a (to m) b ok h = both_steps s ifelse fs n t a (to m) b refl refl ok.1 h
    second_steps ifelse n t a stmts b ok h = both_steps s ifelse fs n t a stmts b refl refl ok.1 h
    second_steps ifelse n t a absent b ok h = absurd ok.1
    second_steps rcomp n t a (to m) b ok h = both_steps s rcomp fs n t a (to m) b refl refl ok.1 h
    second_steps rcomp n t a stmts b ok h = both_steps s rcomp fs n t a stmts b refl refl ok.1 h
    second_steps rcomp n t a absent b ok h = none_steps s rcomp fs n t a b refl ok.1

  stmt_steps : (s : Stmts) (fs : List OpenCond) (n : ℕ) → StmtsOk (length fs) s → n + size s ≤ 4096 → Steps (moved r n (in_stmts ∅ fs)) (stmt_contents s) (moved r (n + size s) (in_stmts s fs))
  unfolding StmtsOk stmt_contents size next_branch branched
  stmt_steps ∅ fs n ok few = recount _ _ n (n + 0) _ (omega arith) rest
  stmt_steps (s ▸ o) fs n ok few =
      steps_append (stmt_steps s fs n ok.0 (omega arith))
      (recount _ _ (suc (n + size s)) (n + suc (size s)) _ (omega arith) (simple_step s fs (n + size s) o (omega arith) ok.1 ok.2 ok.3))
  stmt_steps (branching s k t a u b) fs n ok few =
      let i = n + size s in
      let j = suc i + size a in
      steps_append (stmt_steps s fs n ok.0 (omega arith)) (
      steps_append (cond_step s fs i k (omega arith) ok.1) (
      steps_append (branch_steps s k fs no_branch none (suc i) t a refl (first_ok k t a u b ok.2) (stmt_steps a _ (suc i) ok.3 (omega arith)))
      (recount _ _ (j + size b) (n + suc (size s + size a + size b)) _ (omega arith) (second_steps s fs k j t a u b ok.2 (stmt_steps b _ j ok.4 (omega arith))))))

-- after the lines ls of a module
abbrev after : Bool → Lines → Reading
after h ls = record { handlers = h; lines = ls; last = last_number ls; line_count = count ls; stmt_count = total ls; position = in_module }

ascends-true : (n : ℕ) (m : Option ℕ) → Above n m → T (ascends n m)
unfolding Above ascends
ascends-true n none a = tt
ascends-true n (some m) a = lt→ltb m n a

module _ (h : Bool) where
  line_steps : (ls : Lines) → LinesOk ls → count ls ≤ 1024 → total ls ≤ 4096 → Steps (after h nolines) (line_contents ls) (after h ls)
  unfolding LinesOk line_contents last_number count total read_row at_module or_refused read_line at_stmts end_stmts number_of ContentOk IsParsed
  line_steps nolines ok few little = rest
  line_steps (line ls n s) ok few little =
      let a = ascends-true n (last_number ls) ok.2 in
      steps_append (line_steps ls ok.0 (omega arith) (omega arith)) (
      steps_append (one (line_row (parsed n)) ok.1
      (check-true (ascends n (last_number ls)) 4 _ a ∙ check-true (ltb (count ls) 1024) 5 _ (lt→ltb (count ls) 1024 few))) (
      steps_append (stmt_steps (record { handlers = h; lines = ls; last = some n; line_count = suc (count ls); stmt_count = 0; position = begin }) s [] (total ls) ok.3 little)
      (one end_row tt refl)))

pub listing_steps : (L : Listing) → Within L → Leads start (contents L) L
unfolding contents start read_row at_begin at_module go_to last_number count total ContentOk
listing_steps L ok =
    record {
      last = go_to (after L.handlers L.lines) ended;
      steps = steps_append (one (module_row L.handlers) tt refl) (steps_append (line_steps L.handlers L.lines ok.lines ok.line_count ok.stmt_count) (one end_row tt refl));
      ends = refl;
      whole = refl;
    }

-- the same of its text: rows without byte 10, and the empty piece after the last
pub listing_taken : (L : Listing) → Within L → All (λ w. no_newline w ≡ true) (listing_rows L) × (read_rows start 0 (listing_rows L ++ ([] ∷ [])) ≡ listing L)
listing_taken L ok =
    let h = listing_steps L ok in
    let e = listing_rows_lem L in (
      subst (All (λ w. no_newline w ≡ true)) (sym e) (steps_plain h.steps),
      ap (λ (ws : List (List ℕ)). read_rows start 0 (ws ++ ([] ∷ []))) e ∙ steps_read h.steps 0 h.ends ∙ ap listing (sym h.whole),
    )
