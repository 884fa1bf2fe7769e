-- Whether tables can be read, whoever wrote them: "25 a used count or a record that the call reads points outside its
-- table". Assumes nothing.
use Rattle.std.specs.Prelude.{ℕ, zero, suc, ◌+◌, ◌-◌, ◌*◌, ◌≤◌, ◌<◌, ◌≡◌, refl, Bool, true, false, ◌&&◌, List, [], ◌∷◌, map, leb, length, get_or, take, drop}
use Rattle.std.specs.List.{list_all, range_with_len}
use Rattle.std.proofs.Common.{sym, ◌∙◌, add-one, zero-add, take_all}
use Rattle.std.proofs.lemmas.List.Folds.{list_all_more, list_all-map, list_all-append}
use Rattle.std.proofs.lemmas.List.FromFn.{map-range_with_len_more}
use Rattle.std.proofs.Math.Path.{ap}
use Rattle.std.proofs.Math.Bool.{and-true}
use Rattle.std.proofs.Math.Decide.{ℕ_discrete}
use native.Mathlib.Omega.{arith}
use borrow.Author.Tests.{ltb-true, leb-true, lt-ltb, le-leb, lt-leb}
use Rattle.std.proofs.Math.Dec.{ltb}
use Rattle.listings.specs.Tests.{both_true}
use Rattle.tables.specs.Columns.{succ_start, succ_count, succ_part}

-- whether a test holds of every number below m
unfoldable pub every_below : (ℕ → Bool) → ℕ → Bool
every_below f zero = true
every_below f (suc i) = every_below f i && f i

-- ---- lists of nodes

-- every id of a list is that of one of n nodes
unfoldable pub ids_below : ℕ → List ℕ → Bool
ids_below n l = every_below (λ k. ltb (get_or l k 0) n) (length l)

-- node v's list lies inside the edge table
unfoldable pub list_readable : (lists edges : List ℕ) (n v : ℕ) → Bool
list_readable lists edges n v = leb (succ_start lists v + succ_count lists v) (length edges) && ids_below n (succ_part lists edges v)

-- and so do those of all nodes, of which there are at most 4,096
unfoldable pub lists_readable : (lists edges : List ℕ) (n : ℕ) → Bool
lists_readable lists edges n = leb n 4096 && (leb (n * 4) (length lists) && every_below (list_readable lists edges n) n)

-- ---- what the test says

pub record ListsRead (lists edges : List ℕ) (n : ℕ) : Type 0 where
  pub few : n ≤ 4096
  pub rows : n * 4 ≤ length lists
  pub within : (v : ℕ) → v < n → succ_start lists v + succ_count lists v ≤ length edges
  pub ids : (v : ℕ) → v < n → (k : ℕ) → k < length (succ_part lists edges v) → get_or (succ_part lists edges v) k 0 < n

-- ---- tests of all numbers below m

pub both_so : (a b : Bool) → a ≡ true → b ≡ true → (a && b) ≡ true
both_so true b e h = h
both_so false b e h = e

pub every_none : (f : ℕ → Bool) → true ≡ every_below f 0
unfolding every_below
every_none f = refl

pub every_next : (f : ℕ → Bool) (i : ℕ) → every_below f (i + 1) ≡ (every_below f i && f i)
unfolding every_below
every_next f i = let e : i + 1 ≡ suc i = omega arith in ap (every_below f) e

-- as a loop goes on
pub every_more : (f : ℕ → Bool) (i : ℕ) (good b : Bool) → good ≡ every_below f i → b ≡ f i → (good && b) ≡ every_below f (i + 1)
every_more f i good b g e = rw (g, e) (sym (every_next f i))

pub every_at : (f : ℕ → Bool) (m : ℕ) → every_below f m ≡ true → (i : ℕ) → i < m → f i ≡ true
unfolding every_below
every_at f zero h i lt = absurd (omega arith)
every_at f (suc m) h i lt =
    let p = both_true (every_below f m) (f m) h in
    elim (ℕ_discrete i m) [ yes e ↦ ap f e ∙ p.1 | no ne ↦ every_at f m p.0 i (omega arith) ]

pub every_all : (f : ℕ → Bool) (m : ℕ) → ((i : ℕ) → i < m → f i ≡ true) → every_below f m ≡ true
unfolding every_below
every_all f zero h = refl
every_all f (suc m) h = both_so (every_below f m) (f m) (every_all f m (λ i lt. h i (omega arith))) (h m (omega arith))

-- the same of the entries of a list, one after the other
pub every_entry : (p : ℕ → Bool) (l : List ℕ) (i : ℕ) → i ≤ length l → list_all p (take i l) ≡ every_below (λ k. p (get_or l k 0)) i
unfolding every_below
every_entry p l zero h = refl
every_entry p l (suc i) h = ap (λ (k : ℕ). list_all p (take k l)) (sym (add-one i)) ∙ list_all_more p l i 0 (omega arith) ∙ ap (λ (b : Bool). b && p (get_or l i 0)) (every_entry p l i (omega arith))

-- and of a range
pub every_number : (f : ℕ → Bool) (n : ℕ) → list_all f (range_with_len 0 n) ≡ every_below f n
unfolding every_below
every_number f n = sym (list_all-map (λ b. b) f (range_with_len 0 n)) ∙ go n
  where
    go : (n : ℕ) → list_all (λ b. b) (map f (range_with_len 0 n)) ≡ every_below f n
    go zero = refl
    go (suc n) =
        ap (λ (k : ℕ). list_all (λ b. b) (map f (range_with_len 0 k))) (sym (add-one n)) ∙ ap (list_all (λ b. b)) (map-range_with_len_more f 0 n n (zero-add n))
        ∙ list_all-append (λ b. b) (map f (range_with_len 0 n)) (f n ∷ []) ∙ ap (λ (b : Bool). b && (f n && true)) (go n) ∙ ap (λ (b : Bool). every_below f n && b) (and-true (f n))

-- ---- lists

pub ids_all : (n : ℕ) (l : List ℕ) → list_all (λ x. ltb x n) l ≡ ids_below n l
unfolding ids_below
ids_all n l = ap (list_all (λ x. ltb x n)) (sym (take_all (length l) l (omega arith))) ∙ every_entry (λ x. ltb x n) l (length l) (omega arith)

module _ (lists edges : List ℕ) (n : ℕ) where
  pub lists_read : lists_readable lists edges n ≡ true → ListsRead lists edges n
  unfolding lists_readable list_readable ids_below
  lists_read h =
      let a = both_true (leb n 4096) (leb (n * 4) (length lists) && every_below (list_readable lists edges n) n) h in
      let b = both_true (leb (n * 4) (length lists)) (every_below (list_readable lists edges n) n) a.1 in
      let list : (v : ℕ) → v < n → (leb (succ_start lists v + succ_count lists v) (length edges) ≡ true) × (ids_below n (succ_part lists edges v) ≡ true)
      = λ v lt. both_true (leb (succ_start lists v + succ_count lists v) (length edges)) (ids_below n (succ_part lists edges v)) (every_at (list_readable lists edges n) n b.1 v lt) in
      record {
        few = leb-true n 4096 a.0;
        rows = leb-true (n * 4) (length lists) b.0;
        within = λ v lt. leb-true (succ_start lists v + succ_count lists v) (length edges) (list v lt).0;
        ids = λ v lt k h. ltb-true (get_or (succ_part lists edges v) k 0) n (every_at (λ j. ltb (get_or (succ_part lists edges v) j 0) n) (length (succ_part lists edges v)) (list v lt).1 k h);
      }

  pub read_lists : ListsRead lists edges n → lists_readable lists edges n ≡ true
  unfolding lists_readable list_readable ids_below
  read_lists r =
      both_so (leb n 4096) (leb (n * 4) (length lists) && every_below (list_readable lists edges n) n) (le-leb n 4096 r.few)
      (both_so (leb (n * 4) (length lists)) (every_below (list_readable lists edges n) n) (le-leb (n * 4) (length lists) r.rows)
      (every_all (list_readable lists edges n) n (λ v lt.
      both_so (leb (succ_start lists v + succ_count lists v) (length edges)) (ids_below n (succ_part lists edges v)) (le-leb (succ_start lists v + succ_count lists v) (length edges) (r.within v lt))
      (every_all (λ j. ltb (get_or (succ_part lists edges v) j 0) n) (length (succ_part lists edges v)) (λ k h. lt-ltb (get_or (succ_part lists edges v) k 0) n (r.ids v lt k h))))))

  -- ---- as the code answers

  pub many_nodes : 4096 < n → false ≡ lists_readable lists edges n
  unfolding lists_readable
  many_nodes h = rw (lt-leb n 4096 h)

  module _ (few : n ≤ 4096) where
    pub rows_short : length lists < n * 4 → false ≡ lists_readable lists edges n
    unfolding lists_readable
    rows_short h = rw (le-leb n 4096 few, lt-leb (n * 4) (length lists) h)

    pub lists_all : n * 4 ≤ length lists → (good : Bool) → good ≡ every_below (list_readable lists edges n) n → good ≡ lists_readable lists edges n
    unfolding lists_readable
    lists_all h good e = rw (le-leb n 4096 few, le-leb (n * 4) (length lists) h) e

  -- node v, whose record says from start to end
  module _ (v start end : ℕ) (es : start ≡ succ_start lists v) (ee : end ≡ start + succ_count lists v) where
    pub list-outside : length edges < end → false ≡ list_readable lists edges n v
    unfolding list_readable
    list-outside h = rw (lt-leb (succ_start lists v + succ_count lists v) (length edges) (omega arith))

    pub list_inside : end ≤ length edges → (good : Bool) → good ≡ ids_below n (take (end - start) (drop start edges)) → good ≡ list_readable lists edges n v
    unfolding list_readable
    list_inside h good e =
        let q : end - start ≡ succ_count lists v = omega arith in
        rw (le-leb (succ_start lists v + succ_count lists v) (length edges) (omega arith)) (e ∙ ap (λ (x : ℕ). ids_below n (take x (drop start edges))) q ∙ ap (λ (x : ℕ). ids_below n (take (succ_count lists v) (drop x edges))) es)
