-- What is read of a line's bytes has a shape that BASIC V2 can write: numbers, names, lists of them, statements (document 02, L3). Assumes nothing.
use Rattle.std.specs.Prelude.{ℕ, zero, suc, ◌≤◌, ◌≡◌, refl, List, [], ◌∷◌, ◌++◌, map, Bool, true, false, ◌&&◌, ◌||◌, not, eqb, leb}
use Rattle.std.proofs.Common.{subst, inl, inr, append-nil, leb-true, eqb-true}
use Rattle.std.proofs.Math.Option.{some}
use Rattle.listings.specs.Bytes.{pick, same}
use Rattle.listings.specs.Listing.{Name, static, Mark, JumpWord, goto, gosub, runto, OnWord, ongoto, ongosub, jump, on, for, next, if, to, stmts, absent, Stmts, ∅, ◌▸◌, branching}
use Rattle.listings.specs.Rows.{is_digit, is_capital, name_end, is_name}
use Rattle.listings.specs.Tests.{both_true, either_true}
use Rattle.listings.specs.Every.{All, all[], all∷}
use Rattle.listings.specs.Cut.{cut_to, cut_name}
use Rattle.listing_laws.specs.CutLaws.{name_again}
use Rattle.program_laws.specs.V2.{NumberV2, NameV2, SimpleV2, is_plain, is_stop, is_return, is_clr, is_run, is_jump, is_on, is_for, is_star, is_next, StraightV2, empty, then_simple, StmtsV2, no_if, then_to, then_stmts}
use Rattle.program_laws.specs.NameKinds.{is_character, is_kind, Kind, no_kind, kind}
use Rattle.program_files.specs.Program.{Placed, Found, found, lacks, map_found, digits, line_number, characters, with_kind, name, after_comma, several, Action, does, jumps, holds, seek, branch, if_action, on_action, next_action, run_action, action, pass_over, Body, body, bad, map_body, body_of}

-- ---- what was found, if it was

IfFound : {A : Type 0} → (A → Type 0) → Found A → Type 0
IfFound P (found a l) = P a
IfFound P (lacks p) = Unit {0}

found_map : {A B : Type 0} (P : A → Type 0) (Q : B → Type 0) (f : A → B) → ((a : A) → P a → Q (f a)) → (r : Found A) → IfFound P r → IfFound Q (map_found f r)
unfolding IfFound map_found
found_map P Q f h (found a l) p = h a p
found_map P Q f h (lacks q) p = tt

-- one of two: each is in order
pub either : {A : Type 0} (P : A → Type 0) (x : Bool) {a b : A} → P a → P b → P (pick x a b)
either P true p q = p
either P false p q = q

-- ---- numbers

line_number_small : (l : List Placed) → IfFound NumberV2 (line_number l)
unfolding IfFound line_number
line_number_small [] = tt
line_number_small (d ∷ l) = go (is_digit d.1 && leb (digits 0 (d ∷ l)).0 63999) (λ e. leb-true (digits 0 (d ∷ l)).0 63999 (both_true (is_digit d.1) (leb (digits 0 (d ∷ l)).0 63999) e).1)
  where
    go : (x : Bool) → (x ≡ true → (digits 0 (d ∷ l)).0 ≤ 63999) → IfFound NumberV2 (pick x (found (digits 0 (d ∷ l)).0 (digits 0 (d ∷ l)).1) (lacks d.0))
    go true h = h refl
    go false h = tt

-- ---- names

-- behind the second character the cut keeps no characters
none-kept : {v : List ℕ} → All (λ b. is_character b ≡ true) v → (u : List ℕ) → cut_to 0 (v ++ u) ≡ cut_to 0 u
unfolding cut_to
none-kept all[] u = refl
none-kept (all∷ p h) u = rw p (none-kept h u)

-- a kind is no character, and is kept
kind-kept : (b : ℕ) → is_kind b ≡ true → cut_to 0 (b ∷ []) ≡ b ∷ []
unfolding cut_to is_capital is_digit
kind-kept b h = elim (either_true (eqb b 37) (eqb b 36) h) [ inl e ↦ rw (eqb-true b 37 e) | inr e ↦ rw (eqb-true b 36 e) ]

kind_cut : {u : List ℕ} → Kind u → cut_to 0 u ≡ u
unfolding cut_to
kind_cut no_kind = refl
kind_cut (kind b h) = kind-kept b h

kind-ends : {u : List ℕ} (k : ℕ) → Kind u → name_end k u ≡ true
unfolding name_end same is_capital is_digit
kind-ends zero no_kind = refl
kind-ends (suc k) no_kind = refl
kind-ends zero (kind b h) = rw h
kind-ends (suc k) (kind b h) = elim (either_true (eqb b 37) (eqb b 36) h) [ inl e ↦ rw (eqb-true b 37 e) | inr e ↦ rw (eqb-true b 36 e) ]

-- a capital, characters, and perhaps a kind: cut they are a name
cut_good : (a : ℕ) {v u : List ℕ} → is_capital a ≡ true → All (λ b. is_character b ≡ true) v → Kind u → is_name (cut_name ((a ∷ v) ++ u)) ≡ true
unfolding cut_name cut_to is_name name_end
cut_good a e all[] no_kind = rw e
cut_good a e all[] (kind b h) = rw (e, kind-ends 7 (kind b h))
cut_good a {u = u} e (all∷ {a = b} {l = v} p h) k = rw (none-kept h u, kind_cut k, e, p, kind-ends 6 k)

characters-all : (l : List Placed) → All (λ b. is_character b ≡ true) (characters l).0
unfolding characters
characters-all [] = all[]
characters-all (d ∷ l) = go (is_character d.1) refl (characters-all l)
  where
    go : (x : Bool) → is_character d.1 ≡ x → All (λ b. is_character b ≡ true) (characters l).0
        → let r : List ℕ × List Placed = pick x (d.1 ∷ (characters l).0, (characters l).1) ([], d ∷ l) in All (λ b. is_character b ≡ true) r.0
    go true e h = all∷ e h
    go false e h = all[]

bare-good : (a : ℕ) (v : List ℕ) (l : List Placed) → is_capital a ≡ true → All (λ b. is_character b ≡ true) v → IfFound NameV2 (found (cut_name (a ∷ v)) l)
unfolding IfFound
bare-good a v l e h = (subst (λ (w : List ℕ). is_name (cut_name w) ≡ true) (append-nil (a ∷ v)) (cut_good a e h no_kind), name_again (a ∷ v))

kind-good : (a : ℕ) (v : List ℕ) (l : List Placed) → is_capital a ≡ true → All (λ b. is_character b ≡ true) v → IfFound NameV2 (with_kind (a ∷ v) l)
unfolding IfFound with_kind
kind-good a v [] e h = bare-good a v [] e h
kind-good a v (d ∷ l) e h = go (is_kind d.1) refl
  where
    go : (x : Bool) → is_kind d.1 ≡ x → IfFound NameV2 (pick x (found (cut_name ((a ∷ v) ++ (d.1 ∷ []))) l) (found (cut_name (a ∷ v)) (d ∷ l)))
    go true q = (cut_good a e h (kind d.1 q), name_again ((a ∷ v) ++ (d.1 ∷ [])))
    go false q = bare-good a v (d ∷ l) e h

name-good : (l : List Placed) → IfFound NameV2 (name l)
unfolding IfFound name
name-good [] = tt
name-good (d ∷ l) = go (is_capital d.1) refl
  where
    first : is_capital d.1 ≡ true → characters (d ∷ l) ≡ (d.1 ∷ (characters l).0, (characters l).1)
    first e = unfold characters in rw e

    go : (x : Bool) → is_capital d.1 ≡ x → IfFound NameV2 (pick x (with_kind (characters (d ∷ l)).0 (characters (d ∷ l)).1) (lacks d.0))
    go true e = rw (first e) (kind-good d.1 (characters l).0 (characters l).1 e (characters-all l))
    go false e = tt

-- ---- lists of them

-- one or more
abbrev Some : {A : Type 0} → (A → Type 0) → List A → Type 0
Some P [] = ⊥
Some P (a ∷ l) = P a × All P l

some-all : {A : Type 0} {P : A → Type 0} (l : List A) → Some P l → All P l
some-all [] h = absurd h
some-all (a ∷ l) h = all∷ h.0 h.1

module _ {A : Type 0} (P : A → Type 0) (f : List Placed → Found A) (good : (l : List Placed) → IfFound P (f l)) where
  after-good : (k : ℕ) (a : A) (l : List Placed) → P a → ((r : List Placed) → IfFound (Some P) (several f k r)) → IfFound (Some P) (after_comma a (several f k) l)
  unfolding IfFound after_comma
  after-good k a [] p h = (p, all[])
  after-good k a (d ∷ l) p h =
      either (IfFound (Some P)) (eqb d.1 44) (found_map (Some P) (Some P) (λ bs. a ∷ bs) (λ bs q. (p, some-all bs q)) (several f k l) (h l)) (p, all[])

  several-good : (k : ℕ) (l : List Placed) → IfFound (Some P) (several f k l)
  unfolding IfFound several
  several-good zero l = tt
  several-good (suc k) l = go (f l) (good l) (several-good k)
    where
      go : (r : Found A) → IfFound P r → ((r : List Placed) → IfFound (Some P) (several f k r)) → IfFound (Some P) (elim r [ lacks p ↦ lacks p | found a r ↦ after_comma a (several f k) r ])
      go (lacks p) h more = tt
      go (found a r) h more = after-good k a r h more

-- ---- a statement

ActionGood : Action → Type 0
ActionGood (does o) = SimpleV2 o
ActionGood (jumps n) = NumberV2 n
ActionGood holds = Unit {0}

jump_good : (w : JumpWord) (l : List Placed) → IfFound ActionGood (map_found (λ n. does (jump w n)) (line_number l))
unfolding ActionGood
jump_good w l = found_map NumberV2 ActionGood (λ n. does (jump w n)) (λ n h. is_jump h) (line_number l) (line_number_small l)

branch-good : (b : ℕ) (l : List Placed) → IfFound ActionGood (branch b l)
unfolding IfFound branch ActionGood
branch-good b [] = tt
branch-good b (d ∷ l) =
    either (IfFound ActionGood) (is_digit d.1) (found_map NumberV2 ActionGood jumps (λ n h. h) (line_number (d ∷ l)) (line_number_small (d ∷ l)))
    (either (IfFound ActionGood) (eqb b 167 && not (eqb d.1 0)) tt tt)

if-good : (l : List Placed) → IfFound ActionGood (if_action l)
unfolding IfFound if_action
if-good l = go (seek 167 137 l)
  where
    go : (r : Found ℕ) → IfFound ActionGood (elim r [ lacks p ↦ lacks p | found b r ↦ branch b r ])
    go (lacks p) = tt
    go (found b r) = branch-good b r

on_shape : (w : OnWord) (ns : List ℕ) → Some NumberV2 ns → SimpleV2 (on w ns)
on_shape w [] h = absurd h
on_shape w (n ∷ ns) h = is_on h.0 h.1

on_good : (k : ℕ) (l : List Placed) → IfFound ActionGood (on_action k l)
unfolding IfFound on_action ActionGood
on_good k l = go (seek 137 141 l)
  where
    go : (r : Found ℕ) → IfFound ActionGood (elim r [ lacks p ↦ lacks p | found b r ↦ map_found (λ ns. does (on (pick (eqb b 137) ongoto ongosub) ns)) (several line_number k r) ])
    go (lacks p) = tt
    go (found b r) =
        found_map (Some NumberV2) ActionGood (λ ns. does (on (pick (eqb b 137) ongoto ongosub) ns)) (on_shape (pick (eqb b 137) ongoto ongosub)) (several line_number k r)
        (several-good NumberV2 line_number line_number_small k r)

next_shape : (vs : List Name) → Some NameV2 vs → SimpleV2 (next Mark.plain (map some vs))
next_shape [] h = absurd h
next_shape (v ∷ vs) h = is_next h.0 h.1

next_good : (k : ℕ) (l : List Placed) → IfFound ActionGood (next_action k l)
unfolding IfFound next_action ActionGood
next_good k [] = tt
next_good k (d ∷ l) =
    either (IfFound ActionGood) (is_capital d.1)
    (found_map (Some NameV2) ActionGood (λ vs. does (next Mark.plain (map some vs))) next_shape (several name k (d ∷ l)) (several-good NameV2 name name-good k (d ∷ l)))
    is_star

run-good : (l : List Placed) → IfFound ActionGood (run_action l)
unfolding IfFound run_action ActionGood
run-good [] = tt
run-good (d ∷ l) = either (IfFound ActionGood) (is_digit d.1) (jump_good runto (d ∷ l)) is_run

for_good : (l : List Placed) → IfFound ActionGood (map_found (λ v. does (for v static)) (name l))
unfolding ActionGood
for_good l = found_map NameV2 ActionGood (λ v. does (for v static)) (λ v h. is_for h) (name l) (name-good l)

action-good : (k b : ℕ) (l : List Placed) → IfFound ActionGood (action k b l)
unfolding IfFound action ActionGood
action-good k b l =
    either (IfFound ActionGood) (eqb b 128 || eqb b 144) is_stop (either (IfFound ActionGood) (eqb b 142) is_return (either (IfFound ActionGood) (eqb b 156) is_clr
    (either (IfFound ActionGood) (eqb b 129) (for_good l) (either (IfFound ActionGood) (eqb b 130) (next_good k l)
    (either (IfFound ActionGood) (eqb b 137) (jump_good goto l) (either (IfFound ActionGood) (eqb b 141) (jump_good gosub l) (either (IfFound ActionGood) (eqb b 138) (run-good l)
    (either (IfFound ActionGood) (eqb b 139) (if-good l) (either (IfFound ActionGood) (eqb b 145) (on_good k l) is_plain)))))))))

-- ---- a line's statements

unfoldable pub IfBody : (Stmts → Type 0) → Body → Type 0
IfBody P (body s) = P s
IfBody P (bad p) = Unit {0}

holds_shape : (s : Stmts) (b : Body) → StraightV2 s → IfBody StmtsV2 b → IfBody StmtsV2 (map_body (λ a. branching s if stmts a absent ∅) b)
unfolding IfBody map_body
holds_shape s (body a) g h = then_stmts g h
holds_shape s (bad p) g h = tt

pub body_shape : (k : ℕ) (s : Stmts) (l : List Placed) → StraightV2 s → IfBody StmtsV2 (body_of k s l)
unfolding body_of IfBody IfFound ActionGood
body_shape zero s l g = no_if g
body_shape (suc k) s [] g = no_if g
body_shape (suc k) s (d ∷ l) g =
    either (IfBody StmtsV2) (eqb d.1 0) (no_if g) (either (IfBody StmtsV2) (eqb d.1 58) (body_shape k s l g) (go (action k d.1 l) (action-good k d.1 l) (body_shape k)))
  where
    go : (r : Found Action) → IfFound ActionGood r → ((s : Stmts) (l : List Placed) → StraightV2 s → IfBody StmtsV2 (body_of k s l)) → IfBody StmtsV2 (elim r [
      | lacks p ↦ bad p
      | found (does o) r ↦ body_of k (s ▸ o) (pass_over r)
      | found (jumps n) r ↦ body (branching s if (to n) ∅ absent ∅)
      | found holds r ↦ map_body (λ a. branching s if stmts a absent ∅) (body_of k ∅ r)
    ])
    go (lacks p) h more = tt
    go (found (does o) r) h more = more (s ▸ o) (pass_over r) (then_simple g h)
    go (found (jumps n) r) h more = then_to g h
    go (found holds r) h more = holds_shape s (body_of k ∅ r) g (more ∅ r empty)
