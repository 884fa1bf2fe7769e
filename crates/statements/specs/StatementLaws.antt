-- Laws of the statement at a path and of a node's, as code goes down a path and up by holders. Assumes nothing.
use Prim.Native.Nat.{ℕ, zero, suc, ◌+◌, ◌*◌, ◌-◌, ◌/◌, ◌<◌, ◌≤◌}
use Rattle.std.specs.Prelude.{◌≡◌, Bool, leb, length, drop, cond, Option, Some, None, option_map, Result, Ok, Err}
use Rattle.std.specs.Option.{ok_or}
use Rattle.std.specs.List.{find, range_with_len}
use Rattle.std.proofs.Math.Path.{refl, ap}
use Rattle.std.proofs.Common.{sym, ◌∙◌, add-one}
use mathlib.Core.List.{List, [], ◌∷◌}
use Rattle.std.proofs.Math.Bool.{true, false}
use native.Mathlib.Omega.{arith}
use borrow.Author.Tests.{eq-eqb, ne_eqb, lt-ltb, le-ltb}
use Rattle.std.proofs.Math.Dec.{eqb}
use Rattle.std.proofs.Math.ListN.{get_or}
use Rattle.listings.specs.Bytes.{pick}
use Rattle.tables.specs.Columns.{word_of, holder_of, index_of, line_of}
use Rattle.graph.specs.Questions.{Reply, answer, refused}
use Rattle.statements.specs.StatementWords.{no_statement_word}
use Rattle.tables.specs.OneMore.{one_more}
use Rattle.statements.specs.StatementAt.{if_rows, record_outside, branching_word, held_in, stands_at, first_from, child_at, if_found, statement_from, stmt_at, path_statement, climb, no_statement, no_statement_in, unless_refused, node_statement, refused_by}

-- ---- where a node stands

module _ (stmts : List ℕ) (line h p i : ℕ) where
  pub other_holder : (holder_of stmts i ≡ h → ⊥) → false ≡ stands_at stmts line h p i
  unfolding stands_at
  other_holder f = rw (ne_eqb (holder_of stmts i) h f)

  pub other_index : holder_of stmts i ≡ h → (index_of stmts i ≡ p → ⊥) → false ≡ stands_at stmts line h p i
  unfolding stands_at
  other_index e f = rw (eq-eqb (holder_of stmts i) h e, ne_eqb (index_of stmts i) p f)

  module _ (e : holder_of stmts i ≡ h) (f : index_of stmts i ≡ p) where
    pub on_line_lem : h ≡ 0 → eqb (line_of stmts i) line ≡ stands_at stmts line h p i
    unfolding stands_at held_in
    on_line_lem g = rw (eq-eqb (holder_of stmts i) h e, eq-eqb (index_of stmts i) p f) (go h g)
      where
        go : (h : ℕ) → h ≡ 0 → eqb (line_of stmts i) line ≡ held_in stmts line (line_of stmts i) h
        go zero g = refl
        go (suc j) g = absurd (omega arith)

    pub under-if : (j : ℕ) → h ≡ suc j → branching_word (word_of stmts j) ≡ stands_at stmts line h p i
    unfolding stands_at held_in
    under-if j g = rw (eq-eqb (holder_of stmts i) h e, eq-eqb (index_of stmts i) p f) (ap (held_in stmts line (line_of stmts i)) (sym g))

-- ---- the first that passes

module _ (t : ℕ → Bool) where
  first_found : (k i : ℕ) → one_more (find t (range_with_len i k)) ≡ first_from t k i
  unfolding first_from
  first_found zero i = refl
  first_found (suc k) i = go (t i) (ap (λ (a : ℕ). one_more (find t (range_with_len a k))) (add-one i) ∙ first_found k (suc i))
    where
      go : (x : Bool) → one_more (find t (range_with_len (i + 1) k)) ≡ first_from t k (suc i) → one_more (cond x (Some i) (find t (range_with_len (i + 1) k))) ≡ pick x (suc i) (first_from t k (suc i))
      go true e = refl
      go false e = e

  pub first_is : (n : ℕ) (r : Option ℕ) → option_map (λ x. x) r ≡ find t (range_with_len 0 n) → one_more r ≡ first_from t n 0
  first_is n None e = ap one_more e ∙ first_found n 0
  first_is n (Some i) e = ap one_more e ∙ first_found n 0

  first-le : (k i : ℕ) → first_from t k i ≤ i + k
  unfolding first_from
  first-le zero i = omega arith
  first-le (suc k) i = go (t i) (first-le k (suc i))
    where
      go : (x : Bool) → first_from t k (suc i) ≤ suc i + k → pick x (suc i) (first_from t k (suc i)) ≤ i + suc k
      go true h = omega arith
      go false h = omega arith

-- ---- a record

module _ (lines : ℕ) (stmts : List ℕ) (i : ℕ) where
  pub word_outside : no_statement_word (word_of stmts i) ≡ true → true ≡ record_outside lines stmts i
  unfolding record_outside
  word_outside e = rw e refl

  pub line_outside : (l : ℕ) → no_statement_word (word_of stmts i) ≡ false → l ≡ line_of stmts i → leb lines l ≡ record_outside lines stmts i
  unfolding record_outside
  line_outside l e f = rw (e, f) refl

-- ---- down a path

pub child_le : (stmts : List ℕ) (n line h p : ℕ) → child_at stmts n line h p ≤ n
unfolding child_at
child_le stmts n line h p = omega (arith, first-le (stands_at stmts line h p) n 0)

module _ (lines : ℕ) (stmts : List ℕ) where
  found_none : (r : ℕ) (f : ℕ → Reply (ℕ × ℕ)) → r ≡ 0 → if_found lines stmts r f ≡ refused 26 0
  unfolding if_found
  found_none r f e = rw e refl

  found_some : (r i : ℕ) (f : ℕ → Reply (ℕ × ℕ)) → r ≡ suc i → if_found lines stmts r f ≡ pick (record_outside lines stmts i) (refused 25 0) (f (suc i))
  unfolding if_found
  found_some r i f e = rw e refl

module _ (lines : ℕ) (stmts : List ℕ) (n line h : ℕ) where
  from_step : (ps : List ℕ) (k : ℕ) → k < length ps
      → statement_from lines stmts n line h (drop k ps) ≡ if_found lines stmts (child_at stmts n line h (get_or ps k 0)) (λ j. statement_from lines stmts n line j (drop (k + 1) ps))
  unfolding statement_from
  from_step [] k g = absurd (omega arith)
  from_step (p ∷ ps) zero g = refl
  from_step (p ∷ ps) (suc k) g = let q : suc k + 1 ≡ suc (k + 1) = omega arith in rw q (from_step ps k (omega arith))

  pub from_end : (ps : List ℕ) (k : ℕ) → length ps ≤ k → statement_from lines stmts n line h (drop k ps) ≡ stmt_at stmts h
  unfolding statement_from
  from_end [] zero g = refl
  from_end [] (suc k) g = refl
  from_end (p ∷ ps) zero g = absurd (omega arith)
  from_end (p ∷ ps) (suc k) g = from_end ps k (omega arith)

  module _ (ps : List ℕ) (k r : ℕ) (g : k < length ps) (e : r ≡ child_at stmts n line h (get_or ps k 0)) where
    abbrev rest : ℕ → Reply (ℕ × ℕ)
    rest j = statement_from lines stmts n line j (drop (k + 1) ps)

    by_child : statement_from lines stmts n line h (drop k ps) ≡ if_found lines stmts r rest
    by_child = from_step ps k g ∙ ap (λ (j : ℕ). if_found lines stmts j rest) (sym e)

    pub from_none : r ≡ 0 → statement_from lines stmts n line h (drop k ps) ≡ refused 26 0
    from_none f = by_child ∙ found_none lines stmts r rest f

    module _ (i : ℕ) (f : r ≡ suc i) where
      pub from_outside : record_outside lines stmts i ≡ true → statement_from lines stmts n line h (drop k ps) ≡ refused 25 0
      from_outside o = by_child ∙ found_some lines stmts r i rest f ∙ ap (λ (x : Bool). pick x (refused 25 0) (rest (suc i))) o

      pub from_next : record_outside lines stmts i ≡ false → statement_from lines stmts n line h (drop k ps) ≡ statement_from lines stmts n line (suc i) (drop (k + 1) ps)
      from_next o = by_child ∙ found_some lines stmts r i rest f ∙ ap (λ (x : Bool). pick x (refused 25 0) (rest (suc i))) o

-- ---- none is refused by `ok_or` and `?`

pub refused_none : {E : Type 0} (o : Option ℕ) (e x : E) (r : Result ℕ E) → r ≡ ok_or o e → r ≡ Err x → (o ≡ None) × (x ≡ e)
refused_none None e x r a b = (refl, cc)
refused_none (Some i) e x r a b = cc

pub passed_some : {E : Type 0} (o : Option ℕ) (e : E) (i : ℕ) (r : Result ℕ E) → r ≡ ok_or o e → r ≡ Ok i → o ≡ Some i
passed_some None e i r a b = cc
passed_some (Some j) e i r a b = cc

-- the same of what a search found
pub passed_found : {E : Type 0} (o : Option ℕ) (e : E) (i : ℕ) (r : Result ℕ E) (f : ℕ) → r ≡ ok_or o e → r ≡ Ok i → one_more o ≡ f → suc i ≡ f
passed_found o e i r f a b h = ap one_more (sym (passed_some o e i r a b)) ∙ h

-- ---- the statement found

module _ (stmts : List ℕ) where
  pub no_stmt : (at : ℕ) → at ≡ 0 → refused 26 0 ≡ stmt_at stmts at
  unfolding stmt_at
  no_stmt zero e = refl
  no_stmt (suc i) e = absurd (omega arith)

  pub the_stmt : (at i w : ℕ) → at ≡ suc i → w ≡ word_of stmts i → answer (i, w) ≡ stmt_at stmts at
  unfolding stmt_at
  the_stmt at i w f e = rw (f, e) refl

module _ (counts stmts : List ℕ) (line : ℕ) (path : List ℕ) (lines n : ℕ) (d : lines ≡ get_or counts 0 0) (e : n ≡ get_or counts 1 0) where
  pub path_rows : length stmts < n * 12 → refused 25 0 ≡ path_statement counts stmts line path
  unfolding path_statement if_rows
  path_rows h = rw (← e, lt-ltb (length stmts) (n * 12) h) refl

  module _ (h : n * 12 ≤ length stmts) where
    pub path_line : lines ≤ line → refused 26 0 ≡ path_statement counts stmts line path
    unfolding path_statement if_rows
    path_line g = rw (← e, ← d, le-ltb (length stmts) (n * 12) h, le-ltb line lines g) refl

    pub path_found : line < lines → statement_from lines stmts n line 0 path ≡ path_statement counts stmts line path
    unfolding path_statement if_rows
    path_found g = rw (← e, ← d, le-ltb (length stmts) (n * 12) h, lt-ltb line lines g) refl

-- ---- up by the holders

pub is_refused : (c n : ℕ) → c ≡ suc n → refused (suc n) 0 ≡ refused_by c
unfolding unless_refused
is_refused c n e = rw e refl

pub not_refused : (c : ℕ) → c ≡ 0 → answer (tt {0}) ≡ refused_by c
unfolding unless_refused
not_refused c e = rw e refl

module _ (lines : ℕ) (stmts : List ℕ) (n : ℕ) where
  pub climb_end : (k : ℕ) → climb lines stmts n k 0 ≡ 0
  unfolding climb
  climb_end zero = refl
  climb_end (suc k) = refl

  pub climb-none : (k i : ℕ) → n ≤ i → climb lines stmts n k (suc i) ≡ 25
  unfolding climb
  climb-none zero i e = rw (le-ltb i n e) refl
  climb-none (suc k) i e = rw (le-ltb i n e) refl

  pub climb-outside : (k i : ℕ) → i < n → record_outside lines stmts i ≡ true → climb lines stmts n k (suc i) ≡ 25
  unfolding climb
  climb-outside zero i e o = rw (lt-ltb i n e, o) refl
  climb-outside (suc k) i e o = rw (lt-ltb i n e, o) refl

  module _ (i : ℕ) (e : i < n) (o : record_outside lines stmts i ≡ false) where
    pub climb-deep : (k : ℕ) → k ≡ 0 → climb lines stmts n k (suc i) ≡ 26
    unfolding climb
    climb-deep k z = rw (z, lt-ltb i n e, o) refl

    pub climb_leaf : (k : ℕ) → branching_word (word_of stmts i) ≡ false → climb lines stmts n k (suc i) ≡ 26
    unfolding climb
    climb_leaf zero g = rw (lt-ltb i n e, o) refl
    climb_leaf (suc k) g = rw (lt-ltb i n e, o, g) refl

    pub climb_on : (k : ℕ) → (k ≡ 0 → ⊥) → branching_word (word_of stmts i) ≡ true → climb lines stmts n k (suc i) ≡ climb lines stmts n (k - 1) (holder_of stmts i)
    unfolding climb
    climb_on zero z g = absurd (z refl)
    climb_on (suc k) z g =
        let a : suc k - 1 ≡ k = omega arith in
        rw (a, lt-ltb i n e, o, g) refl

module _ (lines : ℕ) (stmts : List ℕ) (n i : ℕ) where
  pub own-outside : record_outside lines stmts i ≡ true → no_statement lines stmts n i ≡ 25
  unfolding no_statement
  own-outside o = rw o refl

  pub own-inside : (h : ℕ) → record_outside lines stmts i ≡ false → h ≡ holder_of stmts i → climb lines stmts n 16 h ≡ no_statement lines stmts n i
  unfolding no_statement
  own-inside h o f = rw (o, f) refl

-- ---- a node's statement

-- a refusal goes on as it is
pub refusal_passes : {A : Type 0} (c : ℕ) (q : Reply A) (n p : ℕ) → refused n p ≡ refused_by c → refused n p ≡ unless_refused c q
unfolding unless_refused
refusal_passes zero q n p e = cc
refusal_passes (suc c) q n p e = let a : n ≡ suc c = cc in let b : p ≡ 0 = cc in rw (a, b) refl

pub answer_passes : {A : Type 0} (c : ℕ) (q : Reply A) → answer (tt {0}) ≡ refused_by c → q ≡ unless_refused c q
unfolding unless_refused
answer_passes zero q e = refl
answer_passes (suc c) q e = cc

module _ (counts stmts : List ℕ) (i n : ℕ) (e : n ≡ get_or counts 1 0) where
  pub no_node : n ≤ i → refused 24 i ≡ node_statement counts stmts i
  unfolding node_statement
  no_node h = rw (← e, le-ltb i n h) refl

  module _ (h : i < n) where
    pub node_rows_lem : length stmts < n * 12 → refused 25 0 ≡ node_statement counts stmts i
    unfolding node_statement if_rows
    node_rows_lem g = rw (← e, lt-ltb i n h, lt-ltb (length stmts) (n * 12) g) refl

    pub by_record : n * 12 ≤ length stmts → (lines : ℕ) → lines ≡ get_or counts 0 0 → unless_refused (no_statement lines stmts n i) (answer (i, word_of stmts i)) ≡ node_statement counts stmts i
    unfolding node_statement if_rows
    by_record g lines d = rw (← e, ← d, lt-ltb i n h, le-ltb (length stmts) (n * 12) g) refl

-- ---- the record of any node

module _ (lines : ℕ) (stmts : List ℕ) (n i : ℕ) where
  pub no_record_node : n ≤ i → no_statement_in lines stmts n i ≡ 25
  unfolding no_statement_in
  no_record_node a = rw (le-ltb i n a) refl

  pub no_record_rows : i < n → length stmts / 12 < n → no_statement_in lines stmts n i ≡ 25
  unfolding no_statement_in
  no_record_rows a b = rw (lt-ltb i n a, lt-ltb (length stmts) (n * 12) (omega arith)) refl

  pub record_inside : i < n → n ≤ length stmts / 12 → no_statement lines stmts n i ≡ no_statement_in lines stmts n i
  unfolding no_statement_in
  record_inside a b = rw (lt-ltb i n a, le-ltb (length stmts) (n * 12) (omega arith)) refl

  pub statement_inside : i < n → n * 12 ≤ length stmts → no_statement_in lines stmts n i ≡ no_statement lines stmts n i
  unfolding no_statement_in
  statement_inside a b = rw (lt-ltb i n a, le-ltb (length stmts) (n * 12) b) refl
