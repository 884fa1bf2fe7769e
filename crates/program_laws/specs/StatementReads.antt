-- The statements that a writer wrote are the statements that are read, each up to its colon and the IFs to the line's end. Assumes nothing.
use Rattle.std.specs.Prelude.{ℕ, zero, suc, ◌+◌, ◌≤◌, ◌<◌, ◌≡◌, refl, List, [], ◌∷◌, ◌++◌, map, true, false, eqb, length}
use Rattle.std.proofs.Common.{sym, ap, ◌∙◌, subst, append_assoc, append-nil, arith, length-append}
use Rattle.std.proofs.Math.Option.{none, some}
use Rattle.listings.specs.Bytes.{decimal}
use Rattle.listings.specs.Listing.{Name, static, Mark, JumpWord, goto, gosub, runto, OnWord, ongoto, ongosub, return, run, clr, stop, BareWord, Simple, jump, on, for, next, bare, if, to, stmts, absent, Stmts, ∅, ◌▸◌, branching}
use Rattle.listings.specs.Rows.{is_digit, is_capital}
use Rattle.listings.specs.Tests.{not_both}
use Rattle.listings.specs.Every.{All}
use Rattle.program_files.specs.Program.{Placed, found, map_found, line_number, name, several, does, jumps, ends, seek, branch, if_action, on_action, next_action, run_action, action, pass_over, body, map_body, body_of}
use Rattle.program_laws.specs.V2.{NumberV2, NameV2, SimpleV2, is_plain, is_stop, is_return, is_clr, is_run, is_jump, is_on, is_for, is_star, is_next, StraightV2, empty, then_simple, StmtsV2, no_if, then_to, then_stmts}
use Rattle.program_laws.specs.Saved.{commas, jump_token, on_token, bare_token, slot_bytes, simple_bytes, branch_bytes, stmts_bytes}
use Rattle.program_laws.specs.PlacedBytes.{placed, first_byte}
use Rattle.program_laws.specs.ItemReads.{colon, equals, zero_byte, decimal-first, number_read, name-first, name-read, several-read}

-- ---- a statement that holds no others

-- behind the token b, the bytes l before a colon make the statement o, and what is passed over ends at that colon
record Acts (k b p : ℕ) (l : List ℕ) (o : Simple) (r : List ℕ) : Type 0 where
  rest : List Placed
  place : ℕ
  makes : action k b (placed p (l ++ (58 ∷ r))) ≡ found (does o) rest
  passes : pass_over rest ≡ placed place (58 ∷ r)

-- nothing is passed over
acts : (k b p : ℕ) (l : List ℕ) (o : Simple) (r : List ℕ) (q : ℕ) → action k b (placed p (l ++ (58 ∷ r))) ≡ found (does o) (placed q (58 ∷ r)) → Acts k b p l o r
unfolding placed pass_over ends
acts k b p l o r q e = record { rest = placed q (58 ∷ r); place = q; makes = e; passes = refl }

-- RUN and a number
run_number : (p : ℕ) (l : List ℕ) → is_digit (first_byte l) ≡ true → run_action (placed p l) ≡ map_found (λ n. does (jump runto n)) (line_number (placed p l))
unfolding run_action placed first_byte is_digit
run_number p [] h = absurd (not_both (sym h))
run_number p (b ∷ l) h = rw h

-- NEXT and a name
next_name : (k p : ℕ) (l : List ℕ) → is_capital (first_byte l) ≡ true
    → next_action k (placed p l) ≡ map_found (λ vs. does (next Mark.plain (map some vs))) (several name k (placed p l))
unfolding next_action placed first_byte is_capital
next_name k p [] h = absurd (not_both (sym h))
next_name k p (b ∷ l) h = rw h

jump_acts : (k p : ℕ) (w : JumpWord) (n : ℕ) (r : List ℕ) → NumberV2 n → Acts k (jump_token w) p (decimal n) (jump w n) r
unfolding action map_found jump_token
jump_acts k p goto n r h = let x = number_read n (58 ∷ r) h colon p in acts k 137 p (decimal n) (jump goto n) r x.0 (ap (map_found (λ m. does (jump goto m))) x.1)
jump_acts k p gosub n r h = let x = number_read n (58 ∷ r) h colon p in acts k 141 p (decimal n) (jump gosub n) r x.0 (ap (map_found (λ m. does (jump gosub m))) x.1)
jump_acts k p runto n r h =
    let x = number_read n (58 ∷ r) h colon p in
    acts k 138 p (decimal n) (jump runto n) r x.0 (run_number p (decimal n ++ (58 ∷ r)) (decimal-first n (58 ∷ r)) ∙ ap (map_found (λ m. does (jump runto m))) x.1)

-- each comma is a byte
items_fit : {A : Type 0} (w : A → List ℕ) (a : A) (bs : List A) → length bs ≤ length (commas (map w (a ∷ bs)))
unfolding commas
items_fit w a [] = omega arith
items_fit w a (b ∷ bs) = simp length-append (omega (arith, items_fit w b bs))

on_acts : (k p : ℕ) (w : OnWord) (n : ℕ) (ns : List ℕ) (r : List ℕ) → NumberV2 n → All NumberV2 ns → length (65 ∷ on_token w ∷ commas (map decimal (n ∷ ns))) < k
    → Acts k 145 p (65 ∷ on_token w ∷ commas (map decimal (n ∷ ns))) (on w (n ∷ ns)) r
unfolding action on_action seek ends placed on_token map_found
on_acts k p ongoto n ns r h hs e =
    let x = several-read NumberV2 decimal line_number number_read k n ns r (omega (arith, items_fit decimal n ns)) h hs (suc (suc p)) in
    acts k 145 p (65 ∷ 137 ∷ commas (map decimal (n ∷ ns))) (on ongoto (n ∷ ns)) r x.0 (ap (map_found (λ ms. does (on ongoto ms))) x.1)
on_acts k p ongosub n ns r h hs e =
    let x = several-read NumberV2 decimal line_number number_read k n ns r (omega (arith, items_fit decimal n ns)) h hs (suc (suc p)) in
    acts k 145 p (65 ∷ 141 ∷ commas (map decimal (n ∷ ns))) (on ongosub (n ∷ ns)) r x.0 (ap (map_found (λ ms. does (on ongosub ms))) x.1)

for_acts : (k p : ℕ) (v : Name) (r : List ℕ) → NameV2 v → Acts k 129 p (v ++ (178 ∷ 48 ∷ 164 ∷ 48 ∷ [])) (for v static) r
unfolding action map_found placed pass_over ends
for_acts k p v r h =
    let x = name-read v (178 ∷ 48 ∷ 164 ∷ 48 ∷ 58 ∷ r) h equals p in
    record {
      rest = placed x.0 (178 ∷ 48 ∷ 164 ∷ 48 ∷ 58 ∷ r);
      place = suc (suc (suc (suc x.0)));
      makes = ap (λ (l : List ℕ). map_found (λ u. does (for u static)) (name (placed p l))) (append_assoc v (178 ∷ 48 ∷ 164 ∷ 48 ∷ []) (58 ∷ r)) ∙ ap (map_found (λ u. does (for u static))) x.1;
      passes = refl;
    }

pub slots-bytes : (vs : List Name) → map slot_bytes (map some vs) ≡ map (λ v. v) vs
unfolding slot_bytes
slots-bytes [] = refl
slots-bytes (v ∷ vs) = ap (λ (l : List Name). v ∷ l) (slots-bytes vs)

first-name : (v : Name) (vs : List Name) (r : List ℕ) → NameV2 v → is_capital (first_byte (commas (map (λ v. v) (v ∷ vs)) ++ r)) ≡ true
unfolding commas
first-name v [] r h = name-first v r h
first-name v (u ∷ vs) r h =
    ap (λ (l : List ℕ). is_capital (first_byte l)) (append_assoc v (44 ∷ commas (map (λ v. v) (u ∷ vs))) r) ∙ name-first v ((44 ∷ commas (map (λ v. v) (u ∷ vs))) ++ r) h

next_acts : (k p : ℕ) (v : Name) (vs : List Name) (r : List ℕ) → NameV2 v → All NameV2 vs → length (commas (map slot_bytes (some v ∷ map some vs))) < k
    → Acts k 130 p (commas (map slot_bytes (some v ∷ map some vs))) (next Mark.plain (some v ∷ map some vs)) r
unfolding action map_found
next_acts k p v vs r h hs e =
    let same : commas (map slot_bytes (some v ∷ map some vs)) ≡ commas (map (λ v. v) (v ∷ vs)) = ap commas (slots-bytes (v ∷ vs)) in
    subst (λ (l : List ℕ). Acts k 130 p l (next Mark.plain (some v ∷ map some vs)) r) (sym same) (names (subst (λ (l : List ℕ). length l < k) same e))
  where
    names : length (commas (map (λ v. v) (v ∷ vs))) < k → Acts k 130 p (commas (map (λ v. v) (v ∷ vs))) (next Mark.plain (some v ∷ map some vs)) r
    names e =
        let x = several-read NameV2 (λ u. u) name name-read k v vs r (omega (arith, items_fit (λ u. u) v vs)) h hs p in
        acts k 130 p (commas (map (λ v. v) (v ∷ vs))) (next Mark.plain (some v ∷ map some vs)) r x.0
        (next_name k p (commas (map (λ v. v) (v ∷ vs)) ++ (58 ∷ r)) (first-name v vs (58 ∷ r) h) ∙ ap (map_found (λ us. does (next Mark.plain (map some us)))) x.1)

-- ---- it, with its colon, in a line

-- the bytes that a statement begins with and has behind that
record Begun (o : Simple) : Type 0 where
  token : ℕ
  rest : List ℕ
  whole : simple_bytes o ≡ token ∷ rest
  not_zero : eqb token 0 ≡ false
  not_colon : eqb token 58 ≡ false
  acting : (k p : ℕ) (r : List ℕ) → length rest < k → Acts k token p rest o r

begun : {o : Simple} → SimpleV2 o → Begun o
unfolding simple_bytes bare_token jump_token slot_bytes commas action run_action next_action is_digit is_capital placed
begun is_plain = record { token = 153; rest = []; whole = refl; not_zero = refl; not_colon = refl; acting = λ k p r e. acts k 153 p [] (bare BareWord.plain) r p refl }
begun is_stop = record { token = 144; rest = []; whole = refl; not_zero = refl; not_colon = refl; acting = λ k p r e. acts k 144 p [] (bare stop) r p refl }
begun is_return = record { token = 142; rest = []; whole = refl; not_zero = refl; not_colon = refl; acting = λ k p r e. acts k 142 p [] (bare return) r p refl }
begun is_clr = record { token = 156; rest = []; whole = refl; not_zero = refl; not_colon = refl; acting = λ k p r e. acts k 156 p [] (bare clr) r p refl }
begun is_run = record { token = 138; rest = []; whole = refl; not_zero = refl; not_colon = refl; acting = λ k p r e. acts k 138 p [] (bare run) r p refl }
begun (is_jump {w = goto} {n} h) =
    record { token = 137; rest = decimal n; whole = refl; not_zero = refl; not_colon = refl; acting = λ k p r e. jump_acts k p goto n r h }
begun (is_jump {w = gosub} {n} h) =
    record { token = 141; rest = decimal n; whole = refl; not_zero = refl; not_colon = refl; acting = λ k p r e. jump_acts k p gosub n r h }
begun (is_jump {w = runto} {n} h) =
    record { token = 138; rest = decimal n; whole = refl; not_zero = refl; not_colon = refl; acting = λ k p r e. jump_acts k p runto n r h }
begun (is_on {w} {n} {ns} h hs) =
    record { token = 145; rest = 65 ∷ on_token w ∷ commas (map decimal (n ∷ ns)); whole = refl; not_zero = refl; not_colon = refl; acting = λ k p r e. on_acts k p w n ns r h hs e }
begun (is_for {v} h) = record { token = 129; rest = v ++ (178 ∷ 48 ∷ 164 ∷ 48 ∷ []); whole = refl; not_zero = refl; not_colon = refl; acting = λ k p r e. for_acts k p v r h }
begun is_star = record { token = 130; rest = []; whole = refl; not_zero = refl; not_colon = refl; acting = λ k p r e. acts k 130 p [] (next Mark.plain (none ∷ [])) r p refl }
begun (is_next {v} {vs} h hs) =
    record { token = 130; rest = commas (map slot_bytes (some v ∷ map some vs)); whole = refl; not_zero = refl; not_colon = refl; acting = λ k p r e. next_acts k p v vs r h hs e }

-- from the statements s on, the reading comes to t before the bytes r
record Onward (k : ℕ) (s : Stmts) (p : ℕ) (l : List ℕ) (t : Stmts) (r : List ℕ) : Type 0 where
  fuel : ℕ
  place : ℕ
  enough : length r < fuel
  reads : body_of k s (placed p l) ≡ body_of fuel t (placed place r)

body_does : (k : ℕ) (s : Stmts) (o : Simple) (p b : ℕ) (l r : List Placed) → eqb b 0 ≡ false → eqb b 58 ≡ false → action k b l ≡ found (does o) r
    → body_of (suc k) s ((p, b) ∷ l) ≡ body_of k (s ▸ o) (pass_over r)
unfolding body_of
body_does k s o p b l r f g e = rw (f, g, e)

-- the colon is an empty statement's
colon_read : (k : ℕ) (s : Stmts) (p : ℕ) (l : List ℕ) → body_of (suc k) s (placed p (58 ∷ l)) ≡ body_of k s (placed (suc p) l)
unfolding body_of placed
colon_read k s p l = refl

token_onward : (k : ℕ) (s : Stmts) (p : ℕ) (o : Simple) (r : List ℕ) (b : Begun o) → length (b.token ∷ (b.rest ++ (58 ∷ r))) < k → Onward k s p (b.token ∷ (b.rest ++ (58 ∷ r))) (s ▸ o) r
unfolding placed
token_onward zero s p o r b e = absurd (omega arith)
token_onward (suc zero) s p o r b e = absurd (omega arith)
token_onward (suc (suc k)) s p o r b e =
    let n : suc (length b.rest + suc (length r)) < suc (suc k) = simp length-append at e in
    let a : Acts (suc k) b.token (suc p) b.rest o r = b.acting (suc k) (suc p) r (omega arith) in
    record {
      fuel = k;
      place = suc a.place;
      enough = omega arith;
      reads =
          body_does (suc k) s o p b.token (placed (suc p) (b.rest ++ (58 ∷ r))) a.rest b.not_zero b.not_colon a.makes
          ∙ ap (body_of (suc k) (s ▸ o)) a.passes
          ∙ colon_read k (s ▸ o) a.place r;
    }

simple_onward : (k : ℕ) (s : Stmts) (p : ℕ) {o : Simple} (r : List ℕ) → SimpleV2 o → length (simple_bytes o ++ (58 ∷ r)) < k → Onward k s p (simple_bytes o ++ (58 ∷ r)) (s ▸ o) r
simple_onward k s p {o} r h e =
    let b : Begun o = begun h in
    subst (λ (l : List ℕ). Onward k s p (l ++ (58 ∷ r)) (s ▸ o) r) (sym b.whole) (token_onward k s p o r b (subst (λ (l : List ℕ). length (l ++ (58 ∷ r)) < k) b.whole e))

-- where two readings meet
further : {k : ℕ} {s t u : Stmts} {p : ℕ} {l m r : List ℕ} (x : Onward k s p l t m) → Onward x.fuel t x.place m u r → Onward k s p l u r
further x y = record { fuel = y.fuel; place = y.place; enough = y.enough; reads = x.reads ∙ y.reads }

last_simple : (s : Stmts) (o : Simple) (r : List ℕ) → stmts_bytes (s ▸ o) ++ r ≡ stmts_bytes s ++ (simple_bytes o ++ (58 ∷ r))
unfolding stmts_bytes
last_simple s o r = append_assoc (stmts_bytes s) (simple_bytes o ++ (58 ∷ [])) r ∙ ap (λ (l : List ℕ). stmts_bytes s ++ l) (append_assoc (simple_bytes o) (58 ∷ []) r)

straight_onward : (k p : ℕ) {s : Stmts} (r : List ℕ) → StraightV2 s → length (stmts_bytes s ++ r) < k → Onward k ∅ p (stmts_bytes s ++ r) s r
straight_onward k p r empty e = unfold stmts_bytes in record { fuel = k; place = p; enough = e; reads = refl }
straight_onward k p r (then_simple {s} {o} h g) e =
    let l : List ℕ = simple_bytes o ++ (58 ∷ r) in
    let bytes = last_simple s o r in
    let x : Onward k ∅ p (stmts_bytes s ++ l) s l = straight_onward k p l h (subst (λ (m : List ℕ). length m < k) bytes e) in
    subst (λ (m : List ℕ). Onward k ∅ p m (s ▸ o) r) (sym bytes) (further x (simple_onward x.fuel s x.place r g x.enough))

-- ---- a line

body_end : (k : ℕ) (s : Stmts) (p : ℕ) → body_of k s (placed p []) ≡ body s
unfolding body_of placed
body_end zero s p = refl
body_end (suc k) s p = refl

body_jumps : (k : ℕ) (s : Stmts) (n p b : ℕ) (l r : List Placed) → eqb b 0 ≡ false → eqb b 58 ≡ false → action k b l ≡ found (jumps n) r
    → body_of (suc k) s ((p, b) ∷ l) ≡ body (branching s if (to n) ∅ absent ∅)
unfolding body_of
body_jumps k s n p b l r f g e = rw (f, g, e)

-- THEN and a number
branch_number_lem : (b p : ℕ) (l : List ℕ) → is_digit (first_byte l) ≡ true → branch b (placed p l) ≡ map_found jumps (line_number (placed p l))
unfolding branch placed first_byte is_digit
branch_number_lem b p [] h = absurd (not_both (sym h))
branch_number_lem b p (c ∷ l) h = rw h

to_read : (k : ℕ) (s : Stmts) (p n : ℕ) → NumberV2 n → 0 < k → body_of k s (placed p (139 ∷ 65 ∷ 167 ∷ decimal n)) ≡ body (branching s if (to n) ∅ absent ∅)
unfolding placed action if_action seek ends map_found
to_read zero s p n h e = absurd (omega arith)
to_read (suc k) s p n h e =
    let q : ℕ = suc (suc (suc p)) in
    let x = number_read n [] h zero_byte q in
    let nil = append-nil (decimal n) in
    body_jumps k s n p 139 (placed (suc p) (65 ∷ 167 ∷ decimal n)) (placed x.0 []) refl refl
    (branch_number_lem 167 q (decimal n) (ap (λ (l : List ℕ). is_digit (first_byte l)) (sym nil) ∙ decimal-first n [])
    ∙ ap (map_found jumps) (ap (λ (l : List ℕ). line_number (placed q l)) (sym nil) ∙ x.1))

then_read : (k : ℕ) (s : Stmts) (p : ℕ) (l : List ℕ)
    → body_of (suc (suc k)) s (placed p (139 ∷ 65 ∷ 167 ∷ 58 ∷ l)) ≡ map_body (λ a. branching s if stmts a absent ∅) (body_of k ∅ (placed (suc (suc (suc (suc p)))) l))
unfolding body_of placed action if_action seek ends branch is_digit
then_read k s p l = refl

pub stmts_read : (k p : ℕ) {s : Stmts} → StmtsV2 s → length (stmts_bytes s) < k → body_of k ∅ (placed p (stmts_bytes s)) ≡ body s
unfolding stmts_bytes branch_bytes map_body
stmts_read k p (no_if {s} h) e =
    let nil = append-nil (stmts_bytes s) in
    let x : Onward k ∅ p (stmts_bytes s ++ []) s [] = straight_onward k p [] h (subst (λ (l : List ℕ). length l < k) (sym nil) e) in
    ap (λ (l : List ℕ). body_of k ∅ (placed p l)) (sym nil) ∙ x.reads ∙ body_end x.fuel s x.place
stmts_read k p (then_to {s} {n} h g) e =
    let x : Onward k ∅ p (stmts_bytes s ++ (139 ∷ 65 ∷ 167 ∷ decimal n)) s (139 ∷ 65 ∷ 167 ∷ decimal n) = straight_onward k p (139 ∷ 65 ∷ 167 ∷ decimal n) h e in
    x.reads ∙ to_read x.fuel s x.place n g (omega (arith, x.enough))
stmts_read k p (then_stmts {s} {a} h g) e =
    let x : Onward k ∅ p (stmts_bytes s ++ (139 ∷ 65 ∷ 167 ∷ 58 ∷ stmts_bytes a)) s (139 ∷ 65 ∷ 167 ∷ 58 ∷ stmts_bytes a) = straight_onward k p (139 ∷ 65 ∷ 167 ∷ 58 ∷ stmts_bytes a) h e in
    x.reads ∙ inner x.fuel s x.place (stmts_bytes a) a x.enough (λ j q f. stmts_read j q g f)
  where
    inner : (k : ℕ) (s : Stmts) (p : ℕ) (l : List ℕ) (a : Stmts) → suc (suc (suc (suc (length l)))) < k → ((j q : ℕ) → length l < j → body_of j ∅ (placed q l) ≡ body a)
        → body_of k s (placed p (139 ∷ 65 ∷ 167 ∷ 58 ∷ l)) ≡ body (branching s if stmts a absent ∅)
    inner zero s p l a e f = absurd (omega arith)
    inner (suc zero) s p l a e f = absurd (omega arith)
    inner (suc (suc k)) s p l a e f = then_read k s p l ∙ ap (map_body (λ a. branching s if stmts a absent ∅)) (f k (suc (suc (suc (suc p)))) (omega arith))
