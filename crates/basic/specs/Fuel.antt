-- What is found leaves a rest that is not longer, so fuel for each byte is enough: more changes nothing. Assumes
-- nothing.
use Rattle.std.specs.Prelude.{ℕ, zero, suc, ◌≤◌, ◌<◌, ◌≡◌, refl, List, [], ◌∷◌, map, Bool, true, false, ◌&&◌, ◌||◌, not, eqb, length}
use Rattle.std.proofs.Common.{sym, ◌∙◌, ap, arith}
use Rattle.std.proofs.Math.Option.{none, some}
use Rattle.listings.specs.Bytes.{pick}
use Rattle.listings.specs.Listing.{static, Mark, goto, gosub, runto, ongoto, ongosub, return, run, clr, stop, BareWord, jump, on, for, next, bare, if, to, stmts, absent, Stmts, ∅, ◌▸◌, branching}
use Rattle.listings.specs.Rows.{is_digit, is_capital}
use Rattle.basic.specs.Numbers.{number_told}
use Rattle.basic.specs.Names as names
use Rattle.program_files.specs.Program.{Placed, Found, found, lacks, map_found, line_number, name, after_comma, several, Action, does, jumps, holds, ends, seek, branch, if_action, on_action, next_action, run_action, action, pass_over, Body, body, bad, map_body, body_of}

-- ---- shorter rests

-- a rest that was found is shorter than n
abbrev pub Shorter : {A : Type 0} → ℕ → Found A → Type 0
Shorter n (found a r) = length r < n
Shorter n (lacks p) = Unit {0}

pub rest_shorter : {A : Type 0} (n : ℕ) {x : Found A} {a : A} {r : List Placed} → x ≡ found a r → Shorter n x → length r < n
rest_shorter n e h = rw e at h

pub shorter_than : {A : Type 0} (n m : ℕ) (x : Found A) → Shorter n x → n ≤ m → Shorter m x
shorter_than n m (found a r) h k = omega arith
shorter_than n m (lacks p) h k = tt

pub map_shorter : {A B : Type 0} (f : A → B) (n : ℕ) (x : Found A) → Shorter n x → Shorter n (map_found f x)
unfolding map_found
map_shorter f n (found a r) h = h
map_shorter f n (lacks p) h = tt

-- it is enough to know it of what is found
shorter_is : {A : Type 0} (n : ℕ) (x : Found A) → ((a : A) (r : List Placed) → x ≡ found a r → length r < n) → Shorter n x
shorter_is n (found a r) h = h a r refl
shorter_is n (lacks p) h = tt

pub number_shorter : (l : List Placed) → Shorter (length l) (line_number l)
number_shorter l = shorter_is (length l) (line_number l) (λ n r e. (number_told l r n e).1)

pub name_shorter : (l : List Placed) → Shorter (length l) (name l)
name_shorter l = shorter_is (length l) (name l) (λ v r e. names.name_shorter l r v e)

pub seek_shorter : (x y : ℕ) (l : List Placed) → Shorter (length l) (seek x y l)
unfolding seek
seek_shorter x y [] = tt
seek_shorter x y (d ∷ l) = go (seek_shorter x y l) (ends d.1) (eqb d.1 x || eqb d.1 y)
  where
    go : Shorter (length l) (seek x y l) → (s t : Bool) → Shorter (suc (length l)) (pick s (lacks d.0) (pick t (found d.1 l) (seek x y l)))
    go h true t = tt
    go h false true = omega arith
    go h false false = shorter_than _ _ _ h (omega arith)

pub pass_shorter : (l : List Placed) → length (pass_over l) ≤ length l
unfolding pass_over
pass_shorter [] = omega arith
pass_shorter (d ∷ l) = go (ends d.1) (pass_shorter l)
  where
    go : (t : Bool) → length (pass_over l) ≤ length l → length (pick t (d ∷ l) (pass_over l)) ≤ suc (length l)
    go true h = omega arith
    go false h = omega arith

-- ---- lists of items

-- each item takes a byte at least, and where nothing is left none is found
pub record Shortens {A : Type 0} (f : List Placed → Found A) : Type 0 where
  pub shorter : (l : List Placed) → Shorter (length l) (f l)
  pub at_end : f [] ≡ lacks 0

pub number_shortens : Shortens line_number
unfolding line_number
number_shortens = record { shorter = number_shorter; at_end = refl }

pub name_shortens : Shortens name
unfolding name
name_shortens = record { shorter = name_shorter; at_end = refl }

module _ {A : Type 0} (f : List Placed → Found A) (s : Shortens f) where
  pub several_shorter : (k : ℕ) (l : List Placed) → Shorter (length l) (several f k l)
  unfolding several after_comma
  several_shorter zero l = tt
  several_shorter (suc k) l = go (λ m. several_shorter k m) (f l) (s.shorter l)
    where
      here : (a : A) (d : Placed) (m : List Placed) (t : Bool) → length m < length l → Shorter (length l) (several f k m)
          → suc (length m) < length l
          → Shorter (length l) (pick t (map_found (λ bs. a ∷ bs) (several f k m)) (found (a ∷ []) (d ∷ m)))
      here a d m true h g e = map_shorter (λ bs. a ∷ bs) (length l) (several f k m) g
      here a d m false h g e = e

      go : ((m : List Placed) → Shorter (length m) (several f k m)) → (x : Found A) → Shorter (length l) x → Shorter (length l) (elim x [ lacks p ↦ lacks p | found a r ↦ after_comma a (several f k) r ])
      go more (lacks p) h = tt
      go more (found a []) h = h
      go more (found a (d ∷ m)) h = here a d m (eqb d.1 44) (omega arith) (shorter_than _ _ _ (more m) (omega arith)) h

  none-left : (k : ℕ) → several f k [] ≡ lacks 0
  unfolding several
  none-left zero = refl
  none-left (suc k) = ap (λ (x : Found A). elim x [ lacks p ↦ lacks p | found a r ↦ after_comma a (several f k) r ]) s.at_end

  pub several_more : (k j : ℕ) (l : List Placed) → length l ≤ k → length l ≤ j → several f k l ≡ several f j l
  unfolding several after_comma
  several_more k j [] h g = none-left k ∙ sym (none-left j)
  several_more zero j (d ∷ l) h g = absurd (omega arith)
  several_more (suc k) zero (d ∷ l) h g = absurd (omega arith)
  several_more (suc k) (suc j) (d ∷ l) h g = go (λ m. several_more k j m) (omega arith) (omega arith) (f (d ∷ l)) (s.shorter (d ∷ l))
    where
      go : ((m : List Placed) → length m ≤ k → length m ≤ j → several f k m ≡ several f j m) → length l ≤ k → length l ≤ j → (x : Found A) → Shorter (suc (length l)) x
          → ◌≡◌ {A = Found (List A)} (elim x [ lacks p ↦ lacks p | found a r ↦ after_comma a (several f k) r ]) (elim x [ lacks p ↦ lacks p | found a r ↦ after_comma a (several f j) r ])
      go more u v (lacks p) q = refl
      go more u v (found a []) q = refl
      go more u v (found a (e ∷ m)) q =
          ap (λ (z : Found (List A)). pick (eqb e.1 44) (map_found (λ bs. a ∷ bs) z) (found (a ∷ []) (e ∷ m))) (more m (omega arith) (omega arith))

-- ---- statements

branch_shorter : (b : ℕ) (l : List Placed) → Shorter (suc (length l)) (branch b l)
unfolding branch
branch_shorter b [] = tt
branch_shorter b (d ∷ l) = go (is_digit d.1) (eqb b 167 && not (eqb d.1 0))
  where
    go : (s t : Bool) → Shorter (suc (suc (length l))) (pick s (map_found jumps (line_number (d ∷ l))) (pick t (found holds (d ∷ l)) (lacks d.0)))
    go true t = map_shorter jumps _ _ (shorter_than _ _ _ (number_shorter (d ∷ l)) (omega arith))
    go false true = omega arith
    go false false = tt

if_shorter : (l : List Placed) → Shorter (suc (length l)) (if_action l)
unfolding if_action
if_shorter l = go (seek 167 137 l) (seek_shorter 167 137 l)
  where
    go : (x : Found ℕ) → Shorter (length l) x → Shorter (suc (length l)) (elim x [ lacks p ↦ lacks p | found b r ↦ branch b r ])
    go (lacks p) h = tt
    go (found b r) h = shorter_than _ _ _ (branch_shorter b r) (omega arith)

on_shorter : (k : ℕ) (l : List Placed) → Shorter (suc (length l)) (on_action k l)
unfolding on_action
on_shorter k l = go (seek 137 141 l) (seek_shorter 137 141 l)
  where
    go : (x : Found ℕ) → Shorter (length l) x
        → Shorter (suc (length l)) (elim x [ lacks p ↦ lacks p | found b r ↦ map_found (λ ns. does (on (pick (eqb b 137) ongoto ongosub) ns)) (several line_number k r) ])
    go (lacks p) h = tt
    go (found b r) h = map_shorter _ _ _ (shorter_than _ _ _ (several_shorter line_number number_shortens k r) (omega arith))

next_shorter : (k : ℕ) (l : List Placed) → Shorter (suc (length l)) (next_action k l)
unfolding next_action
next_shorter k [] = tt
next_shorter k (d ∷ l) = go (is_capital d.1)
  where
    go : (t : Bool) → Shorter (suc (suc (length l))) (pick t (map_found (λ vs. does (next Mark.plain (map some vs))) (several name k (d ∷ l))) (found (does (next Mark.plain (none ∷ []))) (d ∷ l)))
    go true = map_shorter _ _ _ (shorter_than _ _ _ (several_shorter name name_shortens k (d ∷ l)) (omega arith))
    go false = omega arith

run_shorter : (l : List Placed) → Shorter (suc (length l)) (run_action l)
unfolding run_action
run_shorter [] = tt
run_shorter (d ∷ l) = go (is_digit d.1)
  where
    go : (t : Bool) → Shorter (suc (suc (length l))) (pick t (map_found (λ n. does (jump runto n)) (line_number (d ∷ l))) (found (does (bare run)) (d ∷ l)))
    go true = map_shorter _ _ _ (shorter_than _ _ _ (number_shorter (d ∷ l)) (omega arith))
    go false = omega arith

number_within : (f : ℕ → Action) (l : List Placed) → Shorter (suc (length l)) (map_found f (line_number l))
number_within f l = map_shorter f _ _ (shorter_than (length l) (suc (length l)) _ (number_shorter l) (omega arith))

name_within : (f : List ℕ → Action) (l : List Placed) → Shorter (suc (length l)) (map_found f (name l))
name_within f l = map_shorter f _ _ (shorter_than (length l) (suc (length l)) _ (name_shorter l) (omega arith))

-- a record, so that its arguments are found
record Leaves {A : Type 0} (n : ℕ) (x : Found A) : Type 0 where
  pub less : Shorter n x

either : {A : Type 0} {n : ℕ} (t : Bool) {x y : Found A} → Leaves n x → Leaves n y → Leaves n (pick t x y)
either true h g = h
either false h g = g

-- a statement's rest is no longer than what stands behind its first byte
pub action_shorter : (k b : ℕ) (l : List Placed) → Shorter (suc (length l)) (action k b l)
unfolding action
action_shorter k b l =
    let bare_one : (o : Action) → Leaves (suc (length l)) (found o l) = λ o. record { less = omega arith } in
    let r : Leaves (suc (length l)) (action k b l) =
    either (eqb b 128 || eqb b 144) (bare_one (does (bare stop))) (either (eqb b 142) (bare_one (does (bare return))) (either (eqb b 156) (bare_one (does (bare clr)))
    (either (eqb b 129) (record { less = name_within (λ v. does (for v static)) l }) (either (eqb b 130) (record { less = next_shorter k l })
    (either (eqb b 137) (record { less = number_within (λ n. does (jump goto n)) l }) (either (eqb b 141) (record { less = number_within (λ n. does (jump gosub n)) l }) (either (eqb b 138) (record { less = run_shorter l })
    (either (eqb b 139) (record { less = if_shorter l }) (either (eqb b 145) (record { less = on_shorter k l }) (bare_one (does (bare BareWord.plain)))))))))))) in
    r.less

pub on_more : (k j : ℕ) (l : List Placed) → length l ≤ k → length l ≤ j → on_action k l ≡ on_action j l
unfolding on_action
on_more k j l h g = go (seek 137 141 l) (seek_shorter 137 141 l)
  where
    go : (x : Found ℕ) → Shorter (length l) x
        → ◌≡◌ {A = Found Action} (elim x [ lacks p ↦ lacks p | found b r ↦ map_found (λ ns. does (on (pick (eqb b 137) ongoto ongosub) ns)) (several line_number k r) ])
        (elim x [ lacks p ↦ lacks p | found b r ↦ map_found (λ ns. does (on (pick (eqb b 137) ongoto ongosub) ns)) (several line_number j r) ])
    go (lacks p) q = refl
    go (found b r) q = ap (map_found (λ ns. does (on (pick (eqb b 137) ongoto ongosub) ns))) (several_more line_number number_shortens k j r (omega arith) (omega arith))

pub next_more : (k j : ℕ) (l : List Placed) → length l ≤ k → length l ≤ j → next_action k l ≡ next_action j l
unfolding next_action
next_more k j [] h g = refl
next_more k j (d ∷ l) h g = rw (several_more name name_shortens k j (d ∷ l) h g)

pub action_more : (k j b : ℕ) (l : List Placed) → length l ≤ k → length l ≤ j → action k b l ≡ action j b l
unfolding action
action_more k j b l h g = rw (next_more k j l h g, on_more k j l h g)

-- ---- the statements of a line

pub body_more : (k j : ℕ) (s : Stmts) (l : List Placed) → length l ≤ k → length l ≤ j → body_of k s l ≡ body_of j s l
unfolding body_of
body_more zero zero s l h g = refl
body_more zero (suc j) s [] h g = refl
body_more zero (suc j) s (d ∷ l) h g = absurd (omega arith)
body_more (suc k) zero s [] h g = refl
body_more (suc k) zero s (d ∷ l) h g = absurd (omega arith)
body_more (suc k) (suc j) s [] h g = refl
body_more (suc k) (suc j) s (d ∷ l) h g =
    rw (body_more k j s l (omega arith) (omega arith), action_more k j d.1 l (omega arith) (omega arith))
    (ap (λ (z : Body). pick (eqb d.1 0) (body s) (pick (eqb d.1 58) (body_of j s l) z)) (go (λ t m. body_more k j t m) (omega arith) (omega arith) (action j d.1 l) (action_shorter j d.1 l)))
  where
    go : ((t : Stmts) (m : List Placed) → length m ≤ k → length m ≤ j → body_of k t m ≡ body_of j t m) → length l ≤ k → length l ≤ j
        → (x : Found Action) → Shorter (suc (length l)) x
        → ◌≡◌ {A = Body} (elim x [ lacks p ↦ bad p | found (does o) r ↦ body_of k (s ▸ o) (pass_over r) | found (jumps n) r ↦ body (branching s if (to n) ∅ absent ∅) | found holds r ↦ map_body (λ a. branching s if stmts a absent ∅) (body_of k ∅ r) ])
        (elim x [ lacks p ↦ bad p | found (does o) r ↦ body_of j (s ▸ o) (pass_over r) | found (jumps n) r ↦ body (branching s if (to n) ∅ absent ∅) | found holds r ↦ map_body (λ a. branching s if stmts a absent ∅) (body_of j ∅ r) ])
    go more u v (lacks p) q = refl
    go more u v (found (does o) r) q = more (s ▸ o) (pass_over r) (omega (arith, pass_shorter r)) (omega (arith, pass_shorter r))
    go more u v (found (jumps n) r) q = refl
    go more u v (found holds r) q = ap (map_body (λ a. branching s if stmts a absent ∅)) (more ∅ r (omega arith) (omega arith))
