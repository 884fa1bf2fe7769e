-- How many edges the RETURNs have. Assumes nothing.
use Rattle.std.specs.Prelude.{◌≡◌, refl, Bool, true, false, ◌&&◌, ℕ, zero, suc, ◌+◌, ◌*◌, ◌≤◌, ◌<◌, eqb, leb, length, get_or, take, drop}
use Rattle.std.proofs.Common.{ap, arith, length-take}
use mathlib.Core.List.{List, [], ◌∷◌, Memᴰ}
use borrow.Author.Tests.{eq-eqb, ne_eqb, le-leb, lt-leb}
use Rattle.layout.specs.Layout.{return_word}
use Rattle.listings.specs.Bytes.{pick}
use Rattle.listings.specs.Every.{all[], all∷}
use Rattle.graph_laws.specs.EdgeBounds.{Ids}
use Rattle.graph_laws.specs.Distinct.{few, distinct_ascending}
use Rattle.passes.specs.Sets.{members_of}
use Rattle.passes.specs.SetLaws.{members_in, members_asc, in_below}
use Rattle.passes.specs.ReturnSets.{set_of}
use Rattle.tables.specs.Columns.{word_of}
use Rattle.passes.specs.WalkTables.{sets_fit, read-sets}

-- the sum of f over those below n that pass a test
unfoldable pub sum_where : (ℕ → Bool) → (ℕ → ℕ) → ℕ → ℕ
sum_where p f zero = 0
sum_where p f (suc n) = sum_where p f n + pick (p n) (f n) 0

-- a RETURN's edges: to all return targets with handlers, to its own set without
unfoldable pub return_size : Bool → ℕ → List ℕ → ℕ → ℕ
return_size true targets sets i = targets
return_size false targets sets i = length (members_of (set_of sets i))

-- the edges of all RETURNs; 0 where the tables hold no n statements with their sets, or there are more targets than a
-- graph has nodes
unfoldable pub return_total : Bool → List ℕ → List ℕ → ℕ → ℕ → ℕ
return_total handlers stmts sets n targets =
    pick (sets_fit stmts n sets && leb targets 4096) (sum_where (λ i. eqb (word_of stmts i) return_word) (λ i. return_size handlers targets sets i) n) 0

-- ---- sums

pub sum_where_ext : (p q : ℕ → Bool) (f g : ℕ → ℕ) (n : ℕ) → ((i : ℕ) → i < n → p i ≡ q i) → ((i : ℕ) → i < n → f i ≡ g i) → sum_where p f n ≡ sum_where q g n
unfolding sum_where
sum_where_ext p q f g zero ep ef = refl
sum_where_ext p q f g (suc n) ep ef =
    rw (sum_where_ext p q f g n (λ i h. ep i (omega arith)) (λ i h. ef i (omega arith)), ep n (omega arith), ef n (omega arith))

-- f matters only where the test is passed
pub sum_where_on : (p : ℕ → Bool) (f g : ℕ → ℕ) (n : ℕ) → ((i : ℕ) → i < n → p i ≡ true → f i ≡ g i) → sum_where p f n ≡ sum_where p g n
unfolding sum_where
sum_where_on p f g zero e = refl
sum_where_on p f g (suc n) e = rw (sum_where_on p f g n (λ i h. e i (omega arith))) (go (p n) refl)
  where
    go : (x : Bool) → p n ≡ x → sum_where p g n + pick x (f n) 0 ≡ sum_where p g n + pick x (g n) 0
    go true q = ap (λ (y : ℕ). sum_where p g n + y) (e n (omega arith) q)
    go false q = refl

pick-le : (x : Bool) (a m : ℕ) → a ≤ m → pick x a 0 ≤ m
pick-le true a m h = h
pick-le false a m h = omega arith

pub sum_where_le : (p : ℕ → Bool) (f : ℕ → ℕ) (n : ℕ) → ((i : ℕ) → i < n → f i ≤ 4096) → sum_where p f n ≤ n * 4096
unfolding sum_where
sum_where_le p f zero h = omega arith
sum_where_le p f (suc n) h = omega (arith, sum_where_le p f n (λ i l. h i (omega arith)), pick-le (p n) (f n) 4096 (h n (omega arith)))

pub sum_where_none : (p : ℕ → Bool) (f : ℕ → ℕ) → 0 ≡ sum_where p f 0
unfolding sum_where
sum_where_none p f = refl

pub sum_where_next : (p : ℕ → Bool) (f : ℕ → ℕ) (n : ℕ) → sum_where p f (n + 1) ≡ sum_where p f n + pick (p n) (f n) 0
unfolding sum_where
sum_where_next p f n = let e : n + 1 ≡ suc n = omega arith in ap (sum_where p f) e

-- ---- sizes

ids_all : (m : ℕ) (l : List ℕ) → ((a : ℕ) → Memᴰ a l → a < m) → Ids m l
ids_all m [] g = all[]
ids_all m (a ∷ l) g = all∷ (g a (Memᴰ.head refl)) (ids_all m l (λ b i. g b (Memᴰ.tail i)))

pub members_few : (ws : List ℕ) → length (members_of ws) ≤ length ws * 64
members_few ws = few (length ws * 64) (distinct_ascending (members_asc ws)) (ids_all (length ws * 64) (members_of ws) (λ a i. in_below ws a ((members_in ws a).0 i)))

pub return_size-le : (handlers : Bool) (targets : ℕ) (sets : List ℕ) (i : ℕ) → targets ≤ 4096 → return_size handlers targets sets i ≤ 4096
unfolding return_size set_of
return_size-le true targets sets i h = h
return_size-le false targets sets i h = omega (arith, members_few (set_of sets i), length-take 64 (drop (i * 64) sets))

-- one node more; the sum stays small
pub return_sum_next : (handlers : Bool) (stmts : List ℕ) (targets : ℕ) (sets : List ℕ) (i s r : ℕ) → s ≡ sum_where (λ i. eqb (word_of stmts i) 9) (λ i. return_size handlers targets sets i) i
    → r ≡ pick (eqb (word_of stmts i) 9) (return_size handlers targets sets i) 0 → s + r ≡ sum_where (λ i. eqb (word_of stmts i) 9) (λ i. return_size handlers targets sets i) (i + 1)
return_sum_next handlers stmts targets sets i s r es er = omega (arith, es, er, sum_where_next (λ i. eqb (word_of stmts i) 9) (λ i. return_size handlers targets sets i) i)

pub return_sum_le : (handlers : Bool) (stmts : List ℕ) (targets : ℕ) (sets : List ℕ) (n : ℕ) → targets ≤ 4096
    → sum_where (λ i. eqb (word_of stmts i) 9) (λ i. return_size handlers targets sets i) n ≤ n * 4096
return_sum_le handlers stmts targets sets n h = sum_where_le (λ i. eqb (word_of stmts i) 9) (λ i. return_size handlers targets sets i) n (λ i l. return_size-le handlers targets sets i h)

-- ---- one node, as code goes

module _ (handlers : Bool) (stmts : List ℕ) (targets : ℕ) (sets : List ℕ) (i : ℕ) where
  pub no_return_size : (get_or stmts (i * 12) 0 ≡ 9 → ⊥) → 0 ≡ pick (eqb (word_of stmts i) 9) (return_size handlers targets sets i) 0
  unfolding word_of
  no_return_size ne = rw (ne_eqb (get_or stmts (i * 12) 0) 9 ne)

  pub own_return_size : (r : ℕ) → get_or stmts (i * 12) 0 ≡ 9 → r ≡ return_size handlers targets sets i → r ≡ pick (eqb (word_of stmts i) 9) (return_size handlers targets sets i) 0
  unfolding word_of
  own_return_size r w e = rw (eq-eqb (get_or stmts (i * 12) 0) 9 w) e

pub size_with_handlers : (handlers : Bool) (targets : ℕ) (sets : List ℕ) (i : ℕ) → handlers ≡ true → targets ≡ return_size handlers targets sets i
unfolding return_size
size_with_handlers handlers targets sets i e = rw e

pub size-without : (handlers : Bool) (targets : ℕ) (sets : List ℕ) (i k : ℕ) → handlers ≡ false → k ≡ 64 → length (members_of (take k (drop (i * 64) sets))) ≡ return_size handlers targets sets i
unfolding return_size set_of
size-without handlers targets sets i k e q = rw (e, q)

-- ---- all of them, as code goes

module _ (handlers : Bool) (stmts sets : List ℕ) (n targets : ℕ) where
  pub total_by : sets_fit stmts n sets ≡ true → targets ≤ 4096 → return_total handlers stmts sets n targets ≡ sum_where (λ i. eqb (word_of stmts i) 9) (λ i. return_size handlers targets sets i) n
  unfolding return_total
  total_by f h = rw (f, le-leb targets 4096 h)

  pub total-none : sets_fit stmts n sets ≡ false → 0 ≡ return_total handlers stmts sets n targets
  unfolding return_total
  total-none f = rw f

  pub total_many : sets_fit stmts n sets ≡ true → 4096 < targets → 0 ≡ return_total handlers stmts sets n targets
  unfolding return_total
  total_many f h = rw (f, lt-leb targets 4096 h)

  pub total_is : n ≤ 4096 → n * 12 ≤ length stmts → n * 64 ≤ length sets → targets ≤ 4096
      → return_total handlers stmts sets n targets ≡ sum_where (λ i. eqb (word_of stmts i) 9) (λ i. return_size handlers targets sets i) n
  total_is f s t h = total_by (read-sets stmts n sets (record { few = f; in_stmts = s; in_sets = t })) h
