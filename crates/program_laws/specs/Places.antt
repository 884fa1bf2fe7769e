-- Of the bytes of a line that count, what they mean does not depend on their places: with each place 0 they mean the same, but for the place that 35 names, which is then 0. Assumes nothing.
use Rattle.std.specs.Prelude.{ℕ, zero, suc, ◌+◌, ◌*◌, ◌-◌, ◌≡◌, refl, List, [], ◌∷◌, map, Bool, true, false, not, ◌&&◌, ◌||◌, eqb, leb, length}
use Rattle.std.proofs.Common.{ap}
use Rattle.std.proofs.Math.Option.{none, some}
use Rattle.listings.specs.Bytes.{pick}
use Rattle.listings.specs.Listing.{Name, Mark, runto, ongoto, ongosub, run, jump, on, next, bare, if, to, stmts, absent, Stmts, ∅, ◌▸◌, branching}
use Rattle.listings.specs.Rows.{is_digit, is_capital}
use Rattle.program_files.specs.Program.{Placed, join_go, Found, found, lacks, map_found, digits, line_number, characters, with_kind, name, after_comma, several, Action, does, jumps, holds, ends, seek, branch, if_action, on_action, next_action, run_action, action, pass_over, Body, body, bad, map_body, body_of, foreign, lacking, stmts_in}

-- ---- without places

-- each place 0 (of offences too: they are a place and a number)
unfoldable pub erase : List Placed → List Placed
erase [] = []
erase (d ∷ l) = (0, d.1) ∷ erase l

unfoldable pub erase_found : {A : Type 0} → Found A → Found A
erase_found (found a l) = found a (erase l)
erase_found (lacks p) = lacks 0

-- what was read, and the bytes behind it
unfoldable erase_rest : {A : Type 0} → A × List Placed → A × List Placed
erase_rest r = (r.0, erase r.1)

unfoldable pub erase_body : Body → Body
erase_body (body s) = body s
erase_body (bad p) = bad 0

pub erase-length : (l : List Placed) → length (erase l) ≡ length l
unfolding erase
erase-length [] = refl
erase-length (d ∷ l) = ap suc (erase-length l)

pub erase-nil : (l : List Placed) → erase l ≡ [] → l ≡ []
unfolding erase
erase-nil [] e = refl
erase-nil (d ∷ l) e = cc

erase-pick : (x : Bool) (a b : List Placed) → erase (pick x a b) ≡ pick x (erase a) (erase b)
erase-pick true a b = refl
erase-pick false a b = refl

found_pick : {A : Type 0} (x : Bool) (a b : Found A) → erase_found (pick x a b) ≡ pick x (erase_found a) (erase_found b)
found_pick true a b = refl
found_pick false a b = refl

body_pick : (x : Bool) (a b : Body) → erase_body (pick x a b) ≡ pick x (erase_body a) (erase_body b)
body_pick true a b = refl
body_pick false a b = refl

mapped : {A B : Type 0} (f : A → B) (x : Found A) → map_found f (erase_found x) ≡ erase_found (map_found f x)
unfolding erase_found map_found
mapped f (found a l) = refl
mapped f (lacks p) = refl

found_erased : {A : Type 0} (a : A) (l : List Placed) → erase_found (found a l) ≡ found a (erase l)
unfolding erase_found
found_erased a l = refl

-- ---- GO TO, numbers, names, lists of them

pub join_go_erased : (l : List Placed) → join_go (erase l) ≡ erase (join_go l)
unfolding join_go erase
join_go_erased [] = refl
join_go_erased (d ∷ []) = refl
join_go_erased (d ∷ e ∷ l) = go (eqb d.1 203 && eqb e.1 164) (join_go (erase l)) (join_go (erase (e ∷ l))) (join_go l) (join_go (e ∷ l)) (join_go_erased l) (join_go_erased (e ∷ l))
  where
    go : (x : Bool) (a b r s : List Placed) → a ≡ erase r → b ≡ erase s → pick x ((0, 137) ∷ a) ((0, d.1) ∷ b) ≡ erase (pick x ((d.0, 137) ∷ r) (d ∷ s))
    go true a b r s p q = ap (λ (z : List Placed). (0, 137) ∷ z) p
    go false a b r s p q = ap (λ (z : List Placed). (0, d.1) ∷ z) q

digits_erased : (a : ℕ) (l : List Placed) → digits a (erase l) ≡ erase_rest (digits a l)
unfolding digits erase erase_rest
digits_erased a [] = refl
digits_erased a (d ∷ l) = go (is_digit d.1) (digits_erased (a * 10 + (d.1 - 48)) l)
  where
    go : (x : Bool) → digits (a * 10 + (d.1 - 48)) (erase l) ≡ erase_rest (digits (a * 10 + (d.1 - 48)) l)
        → pick x (digits (a * 10 + (d.1 - 48)) (erase l)) (a, (0, d.1) ∷ erase l) ≡ erase_rest (pick x (digits (a * 10 + (d.1 - 48)) l) (a, d ∷ l))
    go true h = h
    go false h = refl

line_number_erased : (l : List Placed) → line_number (erase l) ≡ erase_found (line_number l)
unfolding line_number erase erase_found erase_rest
line_number_erased [] = refl
line_number_erased (d ∷ l) = go (digits 0 (erase (d ∷ l))) (digits 0 (d ∷ l)) (digits_erased 0 (d ∷ l))
  where
    go : (r s : ℕ × List Placed) → r ≡ erase_rest s
        → pick (is_digit d.1 && leb r.0 63999) (found r.0 r.1) (lacks 0) ≡ erase_found (pick (is_digit d.1 && leb s.0 63999) (found s.0 s.1) (lacks d.0))
    go r s h = rw (h, found_pick (is_digit d.1 && leb s.0 63999) (found s.0 s.1) (lacks d.0))

characters_erased : (l : List Placed) → characters (erase l) ≡ erase_rest (characters l)
unfolding characters erase erase_rest
characters_erased [] = refl
characters_erased (d ∷ l) = go (is_capital d.1 || is_digit d.1) (characters (erase l)) (characters l) (characters_erased l)
  where
    go : (x : Bool) (r s : List ℕ × List Placed) → r ≡ erase_rest s → pick x (d.1 ∷ r.0, r.1) ([], (0, d.1) ∷ erase l) ≡ erase_rest (pick x (d.1 ∷ s.0, s.1) ([], d ∷ l))
    go true r s h = rw h
    go false r s h = refl

with_kind_erased : (v : List ℕ) (l : List Placed) → with_kind v (erase l) ≡ erase_found (with_kind v l)
unfolding with_kind erase erase_found
with_kind_erased v [] = refl
with_kind_erased v (d ∷ l) = rw found_pick

name_erased : (l : List Placed) → name (erase l) ≡ erase_found (name l)
unfolding name erase erase_found erase_rest
name_erased [] = refl
name_erased (d ∷ l) = go (characters (erase (d ∷ l))) (characters (d ∷ l)) (characters_erased (d ∷ l))
  where
    go : (r s : List ℕ × List Placed) → r ≡ erase_rest s → pick (is_capital d.1) (with_kind r.0 r.1) (lacks 0) ≡ erase_found (pick (is_capital d.1) (with_kind s.0 s.1) (lacks d.0))
    go r s h = rw (h, with_kind_erased s.0 s.1, found_pick (is_capital d.1) (with_kind s.0 s.1) (lacks d.0))

after_erased : {A : Type 0} (f : List Placed → Found (List A)) → ((l : List Placed) → f (erase l) ≡ erase_found (f l)) → (a : A) (l : List Placed) → after_comma a f (erase l) ≡ erase_found (after_comma a f l)
unfolding after_comma erase erase_found
after_erased f c a [] = refl
after_erased {A} f c a (d ∷ l) = rw (c l, mapped (λ (bs : List A). a ∷ bs) (f l), found_pick (eqb d.1 44) (map_found (λ (bs : List A). a ∷ bs) (f l)) (found (a ∷ []) (d ∷ l)))

several_erased : {A : Type 0} (f : List Placed → Found A) → ((l : List Placed) → f (erase l) ≡ erase_found (f l)) → (k : ℕ) (l : List Placed) → several f k (erase l) ≡ erase_found (several f k l)
unfolding several erase_found
several_erased f c zero l = refl
several_erased {A} f c (suc k) l = go (f (erase l)) (f l) (c l) (λ a r. after_erased (several f k) (several_erased f c k) a r)
  where
    go : (x y : Found A) → x ≡ erase_found y → ((a : A) (r : List Placed) → after_comma a (several f k) (erase r) ≡ erase_found (after_comma a (several f k) r))
        → elim x as (λ _. Found (List A)) [ lacks p ↦ lacks p | found a r ↦ after_comma a (several f k) r ] ≡ erase_found (elim y as (λ _. Found (List A)) [ lacks p ↦ lacks p | found a r ↦ after_comma a (several f k) r ])
    go x (lacks p) h g = rw h
    go x (found a r) h g = rw h (g a r)

-- ---- a statement

seek_erased : (x y : ℕ) (l : List Placed) → seek x y (erase l) ≡ erase_found (seek x y l)
unfolding seek erase erase_found
seek_erased x y [] = refl
seek_erased x y (d ∷ l) = go (ends d.1) (eqb d.1 x || eqb d.1 y) (seek x y (erase l)) (seek x y l) (seek_erased x y l)
  where
    go : (s t : Bool) (a b : Found ℕ) → a ≡ erase_found b → pick s (lacks 0) (pick t (found d.1 (erase l)) a) ≡ erase_found (pick s (lacks d.0) (pick t (found d.1 l) b))
    go true t a b h = refl
    go false true a b h = refl
    go false false a b h = h

branch_erased : (b : ℕ) (l : List Placed) → branch b (erase l) ≡ erase_found (branch b l)
unfolding branch erase erase_found
branch_erased b [] = refl
branch_erased b (d ∷ l) = go (is_digit d.1) (eqb b 167 && not (eqb d.1 0)) (line_number (erase (d ∷ l))) (line_number (d ∷ l)) (line_number_erased (d ∷ l))
  where
    go : (s t : Bool) (x y : Found ℕ) → x ≡ erase_found y
        → pick s (map_found jumps x) (pick t (found holds ((0, d.1) ∷ erase l)) (lacks 0)) ≡ erase_found (pick s (map_found jumps y) (pick t (found holds (d ∷ l)) (lacks d.0)))
    go true t x y h = rw (h, mapped jumps y)
    go false true x y h = refl
    go false false x y h = refl

if_action_erased : (l : List Placed) → if_action (erase l) ≡ erase_found (if_action l)
unfolding if_action erase_found
if_action_erased l = go (seek 167 137 (erase l)) (seek 167 137 l) (seek_erased 167 137 l)
  where
    go : (x y : Found ℕ) → x ≡ erase_found y → elim x as (λ _. Found Action) [ lacks p ↦ lacks p | found b r ↦ branch b r ] ≡ erase_found (elim y as (λ _. Found Action) [ lacks p ↦ lacks p | found b r ↦ branch b r ])
    go x (lacks p) h = rw h
    go x (found b r) h = rw h (branch_erased b r)

on_action_erased : (k : ℕ) (l : List Placed) → on_action k (erase l) ≡ erase_found (on_action k l)
unfolding on_action erase_found
on_action_erased k l = go (seek 137 141 (erase l)) (seek 137 141 l) (seek_erased 137 141 l)
  where
    go : (x y : Found ℕ) → x ≡ erase_found y
        → elim x as (λ _. Found Action) [ lacks p ↦ lacks p | found b r ↦ map_found (λ ns. does (on (pick (eqb b 137) ongoto ongosub) ns)) (several line_number k r) ]
        ≡ erase_found (elim y as (λ _. Found Action) [ lacks p ↦ lacks p | found b r ↦ map_found (λ ns. does (on (pick (eqb b 137) ongoto ongosub) ns)) (several line_number k r) ])
    go x (lacks p) h = rw h
    go x (found b r) h = rw (h, several_erased line_number line_number_erased k r, mapped (λ (ns : List ℕ). does (on (pick (eqb b 137) ongoto ongosub) ns)) (several line_number k r))

next_action_erased : (k : ℕ) (l : List Placed) → next_action k (erase l) ≡ erase_found (next_action k l)
unfolding next_action erase erase_found
next_action_erased k [] = refl
next_action_erased k (d ∷ l) = go (is_capital d.1) (several name k (erase (d ∷ l))) (several name k (d ∷ l)) (several_erased name name_erased k (d ∷ l))
  where
    go : (s : Bool) (x y : Found (List Name)) → x ≡ erase_found y
        → pick s (map_found (λ vs. does (next Mark.plain (map some vs))) x) (found (does (next Mark.plain (none ∷ []))) ((0, d.1) ∷ erase l))
        ≡ erase_found (pick s (map_found (λ vs. does (next Mark.plain (map some vs))) y) (found (does (next Mark.plain (none ∷ []))) (d ∷ l)))
    go true x y h = rw (h, mapped (λ (vs : List Name). does (next Mark.plain (map some vs))) y)
    go false x y h = refl

run_action_erased : (l : List Placed) → run_action (erase l) ≡ erase_found (run_action l)
unfolding run_action erase erase_found
run_action_erased [] = refl
run_action_erased (d ∷ l) = go (is_digit d.1) (line_number (erase (d ∷ l))) (line_number (d ∷ l)) (line_number_erased (d ∷ l))
  where
    go : (s : Bool) (x y : Found ℕ) → x ≡ erase_found y
        → pick s (map_found (λ n. does (jump runto n)) x) (found (does (bare run)) ((0, d.1) ∷ erase l)) ≡ erase_found (pick s (map_found (λ n. does (jump runto n)) y) (found (does (bare run)) (d ∷ l)))
    go true x y h = rw (h, mapped (λ (n : ℕ). does (jump runto n)) y)
    go false x y h = refl

action_erased : (k b : ℕ) (l : List Placed) → action k b (erase l) ≡ erase_found (action k b l)
unfolding action
action_erased k b l = simp (line_number_erased, name_erased, next_action_erased, run_action_erased, if_action_erased, on_action_erased, mapped, found_pick, found_erased)

-- ---- a line

pass_over_erased : (l : List Placed) → pass_over (erase l) ≡ erase (pass_over l)
unfolding pass_over erase
pass_over_erased [] = refl
pass_over_erased (d ∷ l) = go (ends d.1) (pass_over (erase l)) (pass_over l) (pass_over_erased l)
  where
    go : (s : Bool) (a b : List Placed) → a ≡ erase b → pick s ((0, d.1) ∷ erase l) a ≡ erase (pick s (d ∷ l) b)
    go true a b h = refl
    go false a b h = h

map_body_erased : (f : Stmts → Stmts) (b : Body) → map_body f (erase_body b) ≡ erase_body (map_body f b)
unfolding map_body erase_body
map_body_erased f (body s) = refl
map_body_erased f (bad p) = refl

-- behind a statement
behind_erased : (k : ℕ) → ((s : Stmts) (l : List Placed) → body_of k s (erase l) ≡ erase_body (body_of k s l)) → (s : Stmts) (x y : Found Action) → x ≡ erase_found y
    → elim x as (λ _. Body) [
      | lacks p ↦ bad p
      | found (does o) r ↦ body_of k (s ▸ o) (pass_over r)
      | found (jumps n) r ↦ body (branching s if (to n) ∅ absent ∅)
      | found holds r ↦ map_body (λ a. branching s if stmts a absent ∅) (body_of k ∅ r)
    ] ≡ erase_body (elim y as (λ _. Body) [
      | lacks p ↦ bad p
      | found (does o) r ↦ body_of k (s ▸ o) (pass_over r)
      | found (jumps n) r ↦ body (branching s if (to n) ∅ absent ∅)
      | found holds r ↦ map_body (λ a. branching s if stmts a absent ∅) (body_of k ∅ r)
    ])
unfolding erase_found erase_body
behind_erased k c s x (lacks p) h = rw h
behind_erased k c s x (found (does o) r) h = rw (h, pass_over_erased r) (c (s ▸ o) (pass_over r))
behind_erased k c s x (found (jumps n) r) h = rw h
behind_erased k c s x (found holds r) h = rw (h, c ∅ r) (map_body_erased (λ (a : Stmts). branching s if stmts a absent ∅) (body_of k ∅ r))

pub body_erased : (k : ℕ) (s : Stmts) (l : List Placed) → body_of k s (erase l) ≡ erase_body (body_of k s l)
unfolding body_of erase erase_body
body_erased zero s l = refl
body_erased (suc k) s [] = refl
body_erased (suc k) s (d ∷ l) = go (eqb d.1 0) (eqb d.1 58) _ _ _ _ (body_erased k s l) (behind_erased k (body_erased k) s (action k d.1 (erase l)) (action k d.1 l) (action_erased k d.1 l))
  where
    go : (x y : Bool) (a b e f : Body) → a ≡ erase_body b → e ≡ erase_body f → pick x (body s) (pick y a e) ≡ erase_body (pick x (body s) (pick y b f))
    go true y a b e f h g = refl
    go false true a b e f h g = h
    go false false a b e f h g = g

pub foreign_erased : (l : List Placed) → foreign (erase l) ≡ erase (foreign l)
unfolding foreign erase
foreign_erased [] = refl
foreign_erased (d ∷ l) = go (eqb d.1 100) (foreign (erase l)) (foreign l) (foreign_erased l)
  where
    go : (x : Bool) (a b : List Placed) → a ≡ erase b → pick x ((0, 34) ∷ a) a ≡ erase (pick x ((d.0, 34) ∷ b) b)
    go true a b h = ap (λ (z : List Placed). (0, 34) ∷ z) h
    go false a b h = h

pub lacking_erased : (b : Body) → lacking (erase_body b) ≡ erase (lacking b)
unfolding lacking erase_body erase
lacking_erased (body s) = refl
lacking_erased (bad p) = refl

pub stmts_erased : (b : Body) → stmts_in (erase_body b) ≡ stmts_in b
unfolding stmts_in erase_body
stmts_erased (body s) = refl
stmts_erased (bad p) = refl
