-- A list of distinct nodes that grows in a part with room for all nodes: pieces one after the other. Assumes nothing.
use Rattle.std.specs.Prelude.{ℕ, ◌+◌, ◌-◌, ◌≤◌, ◌<◌, ◌≡◌, refl, true, false, List, [], ◌∷◌, ◌++◌, length, get_or, set, take}
use Rattle.std.proofs.Common.{sym, ◌∙◌, append_assoc, append-nil, arith, add-one, length-set, take-suc, take_all, take-suc-set, drop-set-lt, length-take-le}
use Rattle.listings.specs.Every.{All, all[], all∷}
use Rattle.graph.specs.Lists.{has, add, each}
use Rattle.graph_laws.specs.ListLaws.{add_old, add_new}
use Rattle.graph_laws.specs.Adding.{Added, decode, added_none, added_both, added_one}
use Rattle.graph_laws.specs.Distinct.{Distinct, room as room_new, distinct_all}
use Rattle.graph_laws.specs.EdgeBounds.{Ids, add_all-ids}

-- the first n entries of the part are distinct nodes below m, and the part has room for m
pub record Grown (m : ℕ) (part : List ℕ) (n : ℕ) : Type 0 where
  pub room : m ≤ length part
  pub within : n ≤ length part
  pub distinct : Distinct (take n part)
  pub below : Ids m (take n part)

-- the part gets l at the end of its first n entries, and stays one with room
pub record Grows (part : List ℕ) (n : ℕ) (part' : List ℕ) (r : ℕ) (l : List ℕ) : Type 0 where
  pub added : Added part n part' r l
  pub grown : (m : ℕ) → Grown m part n → Ids m l → Grown m part' r

-- the node t - 1, where t is not 0, is there already or has room
pub record RoomFor (part : List ℕ) (n t : ℕ) : Type 0 where
  pub within : n ≤ length part
  pub free : (t ≡ 0 → ⊥) → has (t - 1) (take n part) ≡ false → n < length part

pub grown_room : (m : ℕ) (part : List ℕ) (n t : ℕ) → Grown m part n → t ≤ m → RoomFor part n t
grown_room m part n t g h =
    record { within = g.within; free = λ z e. omega (arith, g.room, room_new m (t - 1) g.distinct g.below (omega arith) e, length-take-le n part g.within) }

-- ---- pieces

pub all_left : {P : ℕ → Type 0} (k l : List ℕ) → All P (k ++ l) → All P k
all_left [] l h = all[]
all_left (a ∷ k) l (all∷ p h) = all∷ p (all_left k l h)

pub all_right : {P : ℕ → Type 0} (k l : List ℕ) → All P (k ++ l) → All P l
all_right [] l h = h
all_right (a ∷ k) l (all∷ p h) = all_right k l h

pub grows_none : (p : List ℕ) (n : ℕ) → Grows p n p n []
grows_none p n = record { added = added_none p n; grown = λ m g h. g }

pub grows_both : (p q s : List ℕ) (n m r : ℕ) (k l : List ℕ) → Grows p n q m k → Grows q m s r l → Grows p n s r (k ++ l)
grows_both p q s n m r k l a b = record { added = added_both p q s n m r k l a.added b.added; grown = λ x g h. b.grown x (a.grown x g (all_left k l h)) (all_right k l h) }

pub grown_added : (m : ℕ) (p q : List ℕ) (n r : ℕ) (l : List ℕ) → Added p n q r l → length q ≡ length p → r ≤ length q → Grown m p n → Ids m l → Grown m q r
grown_added m p q n r l a s w g h =
    record { room = omega (arith, g.room); within = w; distinct = rw a.list (distinct_all l g.distinct); below = rw a.list (add_all-ids m g.below h) }

-- ---- one node

module _ (p : List ℕ) (n t : ℕ) (z : t ≡ 0 → ⊥) where
  pub grows_old : n ≤ length p → has (t - 1) (take n p) ≡ true → Grows p n p n (decode t)
  grows_old w e =
      let a = added_one p p n n t z (omega arith) (omega arith) (sym (add_old (take n p) (t - 1) e)) refl in
      record { added = a; grown = λ m g h. g }

  pub grows_new : (v : ℕ) → v ≡ t - 1 → n < length p → has (t - 1) (take n p) ≡ false → Grows p n (set p n v) (n + 1) (decode t)
  grows_new v q w e =
      let l : take (n + 1) (set p n v) ≡ add (take n p) (t - 1) = rw (add-one, q) (take-suc-set p n (t - 1) w ∙ sym (add_new (take n p) (t - 1) e)) in
      let a = added_one p (set p n v) n (n + 1) t z (omega arith) (omega arith) l (drop-set-lt (n + 1) p n v (omega arith)) in
      record { added = a; grown = λ m g h. grown_added m p (set p n v) n (n + 1) (decode t) a (length-set p n v) (simp length-set (omega arith)) g h }

-- ---- a loop over a list: the pieces of the first k

pub each_snoc : {A B : Type 0} (f : A → List B) (l : List A) (a : A) → each f (l ++ (a ∷ [])) ≡ each f l ++ f a
unfolding each
each_snoc f [] a = append-nil (f a)
each_snoc f (x ∷ l) a = rw (each_snoc f l a, append_assoc)

module _ (f : ℕ → List ℕ) (xs p : List ℕ) (n : ℕ) where
  pub each_start : Grows p n p n (each f (take 0 xs))
  unfolding each
  each_start = grows_none p n

  pub each_on : (q s : List ℕ) (m r k : ℕ) → k < length xs → Grows p n q m (each f (take k xs)) → Grows q m s r (f (get_or xs k 0)) → Grows p n s r (each f (take (k + 1) xs))
  each_on q s m r k h a b = rw (add-one, take-suc xs k 0 h, each_snoc) (grows_both p q s n m r (each f (take k xs)) (f (get_or xs k 0)) a b)

  pub each_end : (q : List ℕ) (r k : ℕ) → length xs ≤ k → Grows p n q r (each f (take k xs)) → Grows p n q r (each f xs)
  each_end q r k h a = rw (take_all k xs h) at a
