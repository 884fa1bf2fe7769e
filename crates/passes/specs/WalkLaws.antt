-- Laws of the walk: one node marked, a list marked, the steps of the next node marked, the end. Sizes are variables, so
-- that nothing writes 4,096 marks out. Assumes nothing.
use Rattle.std.specs.Prelude.{◌≡◌, refl, Bool, true, false, ◌⊎◌, ℕ, zero, suc, ◌+◌, ◌-◌, ◌*◌, ◌≤◌, ◌<◌, length, get_or, take, drop, set, replicate}
use Rattle.std.proofs.Common.{sym, ap, subst, ◌∙◌, inl, inr, ⊎_elim, not-suc-le-zero, le_of_suc-le-suc, add-one, arith, length-set, get_or-set_same, get_or-set_other, take-suc, get_or-take, length-take-le}
use mathlib.Core.List.Memᴰ
use mathlib.Core.List.{List, [], ◌∷◌, ◌++◌, Memᴰ}
use Rattle.std.proofs.lemmas.List.{length-replicate}
use Rattle.passes.specs.Compare.{eq-or, lt-or}
use Rattle.listings.specs.Every.{All, all[], all∷}
use Rattle.graph_laws.specs.EdgeBounds.{Ids}
use Rattle.graph_laws.specs.Members.{all_mem, all_map}
use Rattle.graph.specs.Reach.{Reach, here, on}
use Rattle.passes.specs.Walk.{Reached, stored_list, Stored, RegionListed, free, On, Markable, ListMarked, Walk}

clash : {A : Type 0} → true ≡ false → A
clash e = let z : ◌≡◌ {A = ℕ} 0 1 = cc in absurd (omega arith)

-- ---- marks

pub free-set : (m : List Bool) (v : ℕ) → v < length m → get_or m v false ≡ false → suc (free (set m v true)) ≡ free m
unfolding free
free-set [] v h e = absurd (not-suc-le-zero h)
free-set (true ∷ m) zero h e = clash e
free-set (false ∷ m) zero h e = refl
free-set (true ∷ m) (suc v) h e = free-set m v (le_of_suc-le-suc h) e
free-set (false ∷ m) (suc v) h e = ap suc (free-set m v (le_of_suc-le-suc h) e)

free_all : (n : ℕ) → free (replicate n false) ≡ n
unfolding free
free_all zero = refl
free_all (suc n) = ap suc (free_all n)

pub no_mark : (n v : ℕ) → get_or (replicate n false) v false ≡ false
no_mark zero zero = refl
no_mark zero (suc v) = refl
no_mark (suc n) zero = refl
no_mark (suc n) (suc v) = no_mark n v

pub mark_old : (m : List Bool) (x v : ℕ) → x < length m → get_or m v false ≡ true → get_or (set m x true) v false ≡ true
mark_old m x v h e = ⊎_elim (λ q. rw q (get_or-set_same m x true false h)) (λ q. get_or-set_other m x v true false q ∙ e) (eq-or v x)

pub mark_cases : (m : List Bool) (x v : ℕ) → get_or (set m x true) v false ≡ true → (v ≡ x) ⊎ (get_or m v false ≡ true)
mark_cases m x v e = ⊎_elim (λ q. inl q) (λ q. inr (sym (get_or-set_other m x v true false q) ∙ e)) (eq-or v x)

pub mem_get_d : (l : List ℕ) (k : ℕ) → k < length l → Memᴰ (get_or l k 0) l
mem_get_d [] k h = absurd (not-suc-le-zero h)
mem_get_d (a ∷ l) zero h = Memᴰ.head refl
mem_get_d (a ∷ l) (suc k) h = Memᴰ.tail (mem_get_d l k (le_of_suc-le-suc h))

pub id_at : (n : ℕ) (l : List ℕ) (k : ℕ) → Ids n l → k < length l → get_or l k 0 < n
id_at n l k h lt = all_mem h (get_or l k 0) (mem_get_d l k lt)

-- ---- a list is marked, node after node

pub list_marked_none : (m : List Bool) (w : List ℕ) (n : ℕ) → ListMarked [] m w n m w n
list_marked_none m w n =
    record {
      marks-size = refl;
      work_size = refl;
      count = refl;
      more = omega arith;
      grows = λ v e. e;
      covers = λ v i. absurd (Memᴰ.not-nil i);
      new = λ v e. inl e;
      kept = λ i h. refl;
      listed = λ i p q. absurd (omega arith);
    }

module _ (l : List ℕ) (m₀ : List Bool) (w₀ : List ℕ) (n₀ : ℕ) (m : List Bool) (w : List ℕ) (n x : ℕ) (s : ListMarked l m₀ w₀ n₀ m w n) where
  covers_one : (m' : List Bool) → ((v : ℕ) → get_or m v false ≡ true → get_or m' v false ≡ true) → get_or m' x false ≡ true → (v : ℕ) → Memᴰ v (l ++ (x ∷ []))
      → get_or m' v false ≡ true
  covers_one m' g e v i =
      elim (Memᴰ.append_cases l i) [
        | inl j ↦ g v (s.covers v j)
        | inr j ↦ elim (Memᴰ.cases_cons j) [ inl q ↦ rw q e | inr k ↦ absurd (Memᴰ.not-nil k) ]
      ]

  -- the next node has its mark
  pub marked_old : get_or m x false ≡ true → ListMarked (l ++ (x ∷ [])) m₀ w₀ n₀ m w n
  marked_old e =
      record {
        marks-size = s.marks-size;
        work_size = s.work_size;
        count = s.count;
        more = s.more;
        grows = s.grows;
        covers = covers_one m (λ v q. q) e;
        new = λ v q. ⊎_elim (λ r. inl r) (λ r. inr (Memᴰ.append_left (x ∷ []) r.0, r.1)) (s.new v q);
        kept = s.kept;
        listed = s.listed;
      }

  module _ (x_in : x < length m) (n_in : n < length w) (e : get_or m x false ≡ false) where
    w_kept : (i : ℕ) → i < n → get_or (set w n x) i 0 ≡ get_or w i 0
    w_kept i h = get_or-set_other w n i x 0 (λ q. omega arith)

    moved : (v : ℕ) → On w n₀ n v → On (set w n x) n₀ (n + 1) v
    moved v o = record { i = o.i; above = o.above; below = omega (arith, o.below); stands = w_kept o.i o.below ∙ o.stands }

    fresh : (v : ℕ) → v ≡ x → On (set w n x) n₀ (n + 1) v
    fresh v q = record { i = n; above = s.more; below = omega arith; stands = get_or-set_same w n x 0 n_in ∙ sym q }

    listed-one : (i : ℕ) → n₀ ≤ i → i < n + 1 → get_or (set m x true) (get_or (set w n x) i 0) false ≡ true
    listed-one i p q =
        ⊎_elim
        (λ r.
        ap (λ (y : ℕ). get_or (set m x true) y false) (ap (λ (z : ℕ). get_or (set w n x) z 0) r ∙ get_or-set_same w n x 0 n_in)
        ∙ get_or-set_same m x true false x_in)
        (λ r. let h : i < n = omega arith in rw (w_kept i h) (mark_old m x (get_or w i 0) x_in (s.listed i p h)))
        (eq-or i n)

    -- the next node has none
    pub marked_new : ListMarked (l ++ (x ∷ [])) m₀ w₀ n₀ (set m x true) (set w n x) (n + 1)
    marked_new =
        record {
          marks-size = length-set m x true ∙ s.marks-size;
          work_size = length-set w n x ∙ s.work_size;
          count = omega (arith, free-set m x x_in e, s.count);
          more = omega (arith, s.more);
          grows = λ v q. mark_old m x v x_in (s.grows v q);
          covers = covers_one (set m x true) (λ v q. mark_old m x v x_in q) (get_or-set_same m x true false x_in);
          new = λ v q.
              ⊎_elim
              (λ r. inr (Memᴰ.append_right l (Memᴰ.head r), fresh v r))
              (λ r. ⊎_elim (λ y. inl y) (λ y. inr (Memᴰ.append_left (x ∷ []) y.0, moved v y.1)) (s.new v r))
              (mark_cases m x v q);
          kept = λ i p. w_kept i (omega (arith, s.more)) ∙ s.kept i p;
          listed = listed-one;
        }

-- as code goes: entry k of the list, as a node x and as the number y that is put on the worklist
module _ (list : List ℕ) (k : ℕ) (lt : k < length list) (m₀ : List Bool) (w₀ : List ℕ) (n₀ : ℕ) (m : List Bool) (w : List ℕ) (n x : ℕ)
    (s : ListMarked (take k list) m₀ w₀ n₀ m w n) (ex : x ≡ get_or list k 0) where
  one_more : take (k + 1) list ≡ take k list ++ (x ∷ [])
  one_more = rw (add-one k, take-suc list k 0 lt, ex)

  pub old_at : get_or m x false ≡ true → ListMarked (take (k + 1) list) m₀ w₀ n₀ m w n
  old_at e = rw one_more (marked_old (take k list) m₀ w₀ n₀ m w n x s e)

  pub new_at : x < length m → n < length w → get_or m x false ≡ false → ListMarked (take (k + 1) list) m₀ w₀ n₀ (set m x true) (set w n (get_or list k 0)) (n + 1)
  new_at x_in n_in e = rw (one_more, ← ex) (marked_new (take k list) m₀ w₀ n₀ m w n x s x_in n_in e)

-- a free mark, so there is room on the worklist
pub room_for : (size n₀ : ℕ) (m₀ m : List Bool) (n x : ℕ) → n₀ + free m₀ ≤ size → n + free m ≡ n₀ + free m₀ → x < length m → get_or m x false ≡ false → n < size
room_for size n₀ m₀ m n x r c h e = omega (arith, free-set m x h e)

-- ---- the walk

-- only the root is marked and listed
module _ (step : ℕ → List ℕ) (size from : ℕ) (lt : from < size) (w : List ℕ) (lw : length w ≡ size) where
  first_walk : (m : List Bool) → length m ≡ size → ((v : ℕ) → get_or m v false ≡ false) → free m ≡ size → Walk step size from (set m from true) (set w 0 from) 0 1
  first_walk m lm off fr =
      let f_in : from < length m = omega arith in
      let z_in : 0 < length w = omega arith in
      let only : (v : ℕ) → get_or (set m from true) v false ≡ true → v ≡ from
      = λ v e. ⊎_elim (λ q. q) (λ q. clash (sym q ∙ off v)) (mark_cases m from v e) in
      record {
        marks-size = length-set m from true ∙ lm;
        work_size = length-set w 0 from ∙ lw;
        room = omega (arith, free-set m from f_in (off from));
        done = omega arith;
        sound = λ v e. rw (only v e) here;
        root = get_or-set_same m from true false f_in;
        listed = λ i h. let z : i ≡ 0 = omega arith in rw (z, get_or-set_same w 0 from 0 z_in) (get_or-set_same m from true false f_in);
        all = λ v e. record { i = 0; above = omega arith; below = omega arith; stands = get_or-set_same w 0 from 0 z_in ∙ sym (only v e) };
        closed = λ i h. absurd (omega arith);
      }

  -- y is the root, as the worklist has it
  pub walk_start : (m : List Bool) (y : ℕ) → m ≡ replicate size false → y ≡ from → Walk step size from (set m from true) (set w 0 y) 0 1
  walk_start m y em ey =
      rw ey
      (first_walk m (ap length em ∙ length-replicate size false) (λ v. ap (λ (l : List Bool). get_or l v false) em ∙ no_mark size v) (ap free em ∙ free_all size))

pub walk_markable : {step : ℕ → List ℕ} {size from : ℕ} {m : List Bool} {w : List ℕ} {d n : ℕ} → Walk step size from m w d n → {l : List ℕ} → Ids size l → Markable size l m w n
walk_markable s h = record { ids = h; marks-size = s.marks-size; work_size = s.work_size; room = s.room }

-- all steps of the next node v, a list l, are marked
module _ (step : ℕ → List ℕ) (size from : ℕ) (m m' : List Bool) (w w' : List ℕ) (d n n' v : ℕ) (l : List ℕ) (s : Walk step size from m w d n) (lt : d < n)
    (ev : v ≡ get_or w d 0) (el : l ≡ step v) (t : ListMarked l m w n m' w' n') where
  next_marked : get_or m v false ≡ true
  next_marked = rw ev (s.listed d lt)

  listed_more : (i : ℕ) → i < n' → (i < n) ⊎ (n ≤ i) → get_or m' (get_or w' i 0) false ≡ true
  listed_more i h (inl q) = rw (t.kept i q) (t.grows (get_or w i 0) (s.listed i q))
  listed_more i h (inr q) = t.listed i q h

  still_on : (u : ℕ) → On w 0 n u → On w' 0 n' u
  still_on u o = record { i = o.i; above = o.above; below = omega (arith, o.below, t.more); stands = t.kept o.i o.below ∙ o.stands }

  closed_more : (i : ℕ) → i < d + 1 → (u : ℕ) → Memᴰ u (step (get_or w i 0)) → (i ≡ d) ⊎ (i ≡ d → ⊥) → get_or m' u false ≡ true
  closed_more i h u x (inl q) = t.covers u (subst (λ (k : List ℕ). Memᴰ u k) (ap (λ (j : ℕ). step (get_or w j 0)) q ∙ ap step (sym ev) ∙ sym el) x)
  closed_more i h u x (inr q) = t.grows u (s.closed i (omega arith) u x)

  pub walk_turn : Walk step size from m' w' (d + 1) n'
  walk_turn =
      record {
        marks-size = t.marks-size ∙ s.marks-size;
        work_size = t.work_size ∙ s.work_size;
        room = omega (arith, t.count, s.room);
        done = omega (arith, t.more);
        sound = λ u e.
            ⊎_elim (λ q. s.sound u q) (λ q. on (s.sound v next_marked) (subst (λ (k : List ℕ). Memᴰ u k) el q.0)) (t.new u e);
        root = t.grows from s.root;
        listed = λ i h. listed_more i h (lt-or i n);
        all = λ u e.
            ⊎_elim
            (λ q. still_on u (s.all u q))
            (λ q. record { i = q.1.i; above = omega arith; below = q.1.below; stands = q.1.stands })
            (t.new u e);
        closed = λ i h u x. closed_more i h u (subst (λ (y : ℕ). Memᴰ u (step y)) (t.kept i (omega (arith, s.done))) x) (eq-or i d);
      }

pub walk_few : {step : ℕ → List ℕ} {size from : ℕ} {m : List Bool} {w : List ℕ} {d n : ℕ} → Walk step size from m w d n → n ≤ size
walk_few s = omega (arith, s.room)

pub all_take : (P : ℕ → Type 0) (k : ℕ) (l : List ℕ) → ((j : ℕ) → j < k → P (get_or l j 0)) → All P (take k l)
all_take P zero l h = all[]
all_take P (suc k) [] h = all[]
all_take P (suc k) (a ∷ l) h = all∷ (h 0 (omega arith)) (all_take P k l (λ j lt. h (suc j) (omega arith)))

on_list : (w : List ℕ) (n v : ℕ) → n ≤ length w → On w 0 n v → Memᴰ v (take n w)
on_list w n v h o =
    let e : get_or (take n w) o.i 0 ≡ v = get_or-take n w o.i 0 o.below ∙ o.stands in
    subst (λ (x : ℕ). Memᴰ x (take n w)) e (mem_get_d (take n w) o.i (omega (arith, o.below, length-take-le n w h)))

-- the worklist is empty
pub walk_end : (step : ℕ → List ℕ) (size from : ℕ) (m : List Bool) (w : List ℕ) (d n : ℕ) → n ≤ d → Walk step size from m w d n → Reached step from (take n w)
walk_end step size from m w d n z s =
    record {
      sound = λ v i. s.sound v (all_mem (all_take (λ (a : ℕ). get_or m a false ≡ true) n w s.listed) v i);
      complete = λ v r. on_list w n v (omega (arith, s.room, s.work_size)) (s.all v (marked r));
    }
  where
    marked : {v : ℕ} → Reach step from v → get_or m v false ≡ true
    marked here = s.root
    marked (on {b = v} {c = u} r i) =
        let o = s.all v (marked r) in
        s.closed o.i (omega (arith, o.below)) u (subst (λ (x : ℕ). Memᴰ u (step x)) (sym o.stands) i)

-- ---- stored lists

-- steps stay among the n nodes
pub reach_below : {step : ℕ → List ℕ} {from v : ℕ} (n : ℕ) → ((v : ℕ) → v < n → Ids n (step v)) → from < n → Reach step from v → v < n
reach_below n ids lt here = lt
reach_below n ids lt (on {b = v} {c = u} r i) = all_mem (ids v (reach_below n ids lt r)) u i

pub walk_below : {step : ℕ → List ℕ} {size from : ℕ} {m : List Bool} {w : List ℕ} {d k : ℕ} (n : ℕ) → ((v : ℕ) → v < n → Ids n (step v)) → from < n
    → Walk step size from m w d k → (i : ℕ) → i < k → get_or w i 0 < n
walk_below {w = w} n ids lt s i h = reach_below n ids lt (s.sound (get_or w i 0) (s.listed i h))

-- the same steps from each of the n nodes lead to the same nodes
pub reach_same : {a b : ℕ → List ℕ} {from v : ℕ} (n : ℕ) → ((v : ℕ) → v < n → Ids n (a v)) → ((v : ℕ) → v < n → a v ≡ b v) → from < n → Reach a from v → Reach b from v
reach_same n ids e lt here = here
reach_same {a} {b} n ids e lt (on {b = v} {c = u} r i) =
    on (reach_same n ids e lt r) (subst (λ (k : List ℕ). Memᴰ u k) (e v (reach_below n ids lt r)) i)

reached_same : {a b : ℕ → List ℕ} {from : ℕ} {l : List ℕ} (n : ℕ) → ((v : ℕ) → v < n → Ids n (a v)) → ((v : ℕ) → v < n → Ids n (b v))
    → ((v : ℕ) → v < n → a v ≡ b v) → from < n → Reached a from l → Reached b from l
reached_same n ia ib e lt s =
    record {
      sound = λ v q. reach_same n ia e lt (s.sound v q);
      complete = λ v r. s.complete v (reach_same n ib (λ v h. sym (e v h)) lt r);
    }

-- tables that hold some steps hold their own lists
pub stored_own : {lists edges : List ℕ} {n : ℕ} {step : ℕ → List ℕ} → Stored lists edges n step → Stored lists edges n (stored_list lists edges)
stored_own {lists} {edges} {n} {step} s =
    record {
      rows = s.rows;
      within = s.within;
      list = λ v h. refl;
      ids = λ v h. subst (λ (l : List ℕ). Ids n l) (sym (s.list v h)) (s.ids v h);
    }

pub region_listed : {lists edges : List ℕ} {n from : ℕ} {w : List ℕ} {r : ℕ} → Stored lists edges n (stored_list lists edges) → from < n → r ≤ length w
    → Reached (stored_list lists edges) from (take r w) → RegionListed lists edges n from w r
region_listed {lists} {edges} {n} s lt h q = record { within = h; reached = λ step t. reached_same n s.ids t.ids t.list lt q }

pub stored_ids : {lists edges : List ℕ} {n : ℕ} (size v : ℕ) (l : List ℕ) → Stored lists edges n (stored_list lists edges) → n ≤ size → v < n → l ≡ stored_list lists edges v → Ids size l
stored_ids {lists} {edges} {n} size v l s le lt e = rw e (all_map (λ a h. omega arith) (s.ids v lt))

-- as code lends a node's part
pub stored_part : (lists edges : List ℕ) (v start end : ℕ) → start ≡ get_or lists (v * 4) 0 → end ≡ start + get_or lists (v * 4 + 1) 0
    → take (end - start) (drop start edges) ≡ stored_list lists edges v
unfolding stored_list
stored_part lists edges v start end es ee =
    let q : end - start ≡ get_or lists (v * 4 + 1) 0 = omega arith in
    rw (q, es)
