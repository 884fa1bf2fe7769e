-- Adding what a list has already changes nothing. Assumes nothing.
use Rattle.std.specs.Prelude.{ℕ, ◌≡◌, refl, Bool, true, false, List, [], ◌∷◌, take}
use Rattle.std.proofs.Common.{sym, arith, eq-eqb}
use Rattle.listings.specs.Every.{All, all[], all∷}
use Rattle.graph.specs.Lists.{has, add, add_all}
use Rattle.graph_laws.specs.ListLaws.{add_old, add_new, or-true, has_end}
use Rattle.passes.specs.Growing.{Grows}

-- all of k are in l
abbrev pub AllIn : List ℕ → List ℕ → Type 0
AllIn l k = All (λ (a : ℕ). has a l ≡ true) k

-- ---- one more at the end

-- ---- what was added is in the list

has_still : (a x : ℕ) (l : List ℕ) → has x l ≡ true → has x (add l a) ≡ true
has_still a x l h = go (has a l) refl
  where
    go : (b : Bool) → has a l ≡ b → has x (add l a) ≡ true
    go true e = rw (add_old l a e) h
    go false e = rw (add_new l a e, has_end, h)

has_added : (a : ℕ) (l : List ℕ) → has a (add l a) ≡ true
has_added a l = go (has a l) refl
  where
    go : (b : Bool) → has a l ≡ b → has a (add l a) ≡ true
    go true e = rw (add_old l a e) e
    go false e = rw (add_new l a e, has_end, eq-eqb a a refl) (or-true (has a l))

has_kept : (k : List ℕ) (x : ℕ) (l : List ℕ) → has x l ≡ true → has x (add_all l k) ≡ true
unfolding add_all
has_kept [] x l h = h
has_kept (a ∷ k) x l h = has_kept k x (add l a) (has_still a x l h)

all_added : (k l : List ℕ) → AllIn (add_all l k) k
unfolding add_all
all_added [] l = all[]
all_added (a ∷ k) l = all∷ (has_kept k a (add l a) (has_added a l)) (all_added k (add l a))

pub grows_in : (p q : List ℕ) (n r : ℕ) (k : List ℕ) → Grows p n q r k → AllIn (take r q) k
grows_in p q n r k g = rw g.added.list (all_added k (take n p))

-- ---- so adding it again changes nothing

again : (l : List ℕ) {k : List ℕ} → AllIn l k → add_all l k ≡ l
unfolding add_all
again l all[] = refl
again l (all∷ {a = a} {l = k} h hs) = rw (add_old l a h) (again l hs)

pub grows_again : (p : List ℕ) (n : ℕ) (k : List ℕ) → AllIn (take n p) k → Grows p n p n k
grows_again p n k h = record { added = record { grows = omega arith; more = omega arith; list = sym (again (take n p) h); rest = refl }; grown = λ m g i. g }
