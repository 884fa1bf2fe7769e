-- A list of nodes that grows: nodes are added to a lent part, one piece after the other. Assumes nothing.
use Rattle.std.specs.Prelude.{ℕ, zero, suc, ◌+◌, ◌-◌, ◌*◌, ◌≤◌, ◌<◌, ◌≡◌, refl, List, [], ◌++◌, length, get_or, set, take}
use Rattle.std.proofs.Common.{ap, ◌∙◌, arith, sub-one, length-set}
use Rattle.graph.specs.Lists.{each}
use Rattle.graph_laws.specs.Adding.{decode}
use Rattle.passes.specs.Closing.{fall_by, fall_from}
use Rattle.passes.specs.Growing.{Grows, RoomFor, grows_none, each_on as grows_on, each_end as grows_end}
use Rattle.passes.specs.AddRoom.{RoomToAdd}
use Rattle.storing.specs.AddWithin.{AddedIn, within_none, within_both, within_on, within_size, grows_within, grows_one}
use Rattle.storing.specs.declared.growing.NodeList.{NodeList}

-- l was added to the list p, which is p' then and still holds the same part
pub record AddedTo (p p' : NodeList) (l : List ℕ) : Type 0 where
  pub same_reference : p'.part.ghost_name ≡ p.part.ghost_name
  pub added : AddedIn p.part.now p.n p'.part.now p'.n l

-- the node a came behind the others
pub record Pushed (p p' : NodeList) (a : ℕ) : Type 0 where
  pub same_reference : p'.part.ghost_name ≡ p.part.ghost_name
  pub part : p'.part.now ≡ set p.part.now p.n a
  pub count : p'.n ≡ p.n + 1

-- nothing came
pub record Same (p p' : NodeList) : Type 0 where
  pub same_reference : p'.part.ghost_name ≡ p.part.ghost_name
  pub part : p'.part.now ≡ p.part.now
  pub count : p'.n ≡ p.n

-- where there was room for all of l
pub record Grew (p p' : NodeList) (l : List ℕ) : Type 0 where
  pub same_reference : p'.part.ghost_name ≡ p.part.ghost_name
  pub size : length p'.part.now ≡ length p.part.now
  pub grows : Grows p.part.now p.n p'.part.now p'.n l

-- what is said of its part, and of how many entries are the list, before and then
pub record Became (p p' : NodeList) (P : List ℕ → ℕ → List ℕ → ℕ → Type 0) : Type 0 where
  pub same_reference : p'.part.ghost_name ≡ p.part.ghost_name
  pub size : length p'.part.now ≡ length p.part.now
  pub is : P p.part.now p.n p'.part.now p'.n

-- ---- as far as there is room

pub added_none : (p : NodeList) → AddedTo p p []
added_none p = record { same_reference = refl; added = within_none _ _ }

pub added_both : {p q s : NodeList} {k l : List ℕ} → AddedTo p q k → AddedTo q s l → AddedTo p s (k ++ l)
added_both a b = record { same_reference = b.same_reference ∙ a.same_reference; added = within_both _ _ _ _ _ _ _ _ a.added b.added }

-- the same nodes, said otherwise
pub added_as : {p q : NodeList} {k l : List ℕ} → k ≡ l → AddedTo p q k → AddedTo p q l
added_as e a = rw e at a

-- over a row: the pieces of the first k
module _ (f : ℕ → List ℕ) (xs : List ℕ) (p : NodeList) where
  pub added_start : AddedTo p p (each f (take 0 xs))
  unfolding each
  added_start = added_none p

  pub added_on : {q s : NodeList} (k : ℕ) → k < length xs → AddedTo p q (each f (take k xs)) → AddedTo q s (f (get_or xs k 0)) → AddedTo p s (each f (take (k + 1) xs))
  added_on k h a b = record { same_reference = b.same_reference ∙ a.same_reference; added = within_on f xs _ _ _ _ _ _ k h a.added b.added }

pub pushed_size : {p q : NodeList} {a : ℕ} → Pushed p q a → length q.part.now ≡ length p.part.now
pushed_size {p} {q} {a} h = ap length h.part ∙ length-set p.part.now p.n a

-- where a node falls
module _ (falls : List ℕ) where
  pub fall_none : (t : ℕ) → t ≡ 0 → [] ≡ fall_from falls t
  unfolding fall_from
  fall_none zero e = refl
  fall_none (suc j) e = absurd (omega arith)

  pub fall_is : (t : ℕ) → (t ≡ 0 → ⊥) → decode (get_or falls ((t - 1) * 3) 0) ≡ fall_from falls t
  unfolding fall_from fall_by
  fall_is zero h = absurd (h refl)
  fall_is (suc j) h = rw (sub-one (suc j)) refl

-- ---- with room for all

pub grew_within : {p q : NodeList} {l : List ℕ} → RoomToAdd p.part.now p.n l → AddedTo p q l → Grew p q l
grew_within w a = record { same_reference = a.same_reference; size = within_size a.added; grows = grows_within a.added w }

pub grew_one : {p q : NodeList} {t : ℕ} → RoomFor p.part.now p.n t → AddedTo p q (decode t) → Grew p q (decode t)
grew_one w a = record { same_reference = a.same_reference; size = within_size a.added; grows = grows_one w a.added }

pub grew_same : {p : NodeList} {l : List ℕ} → Grows p.part.now p.n p.part.now p.n l → Grew p p l
grew_same g = record { same_reference = refl; size = refl; grows = g }

pub grew_none : (p : NodeList) → Grew p p []
grew_none p = grew_same (grows_none _ _)

pub grew_by : {p q : NodeList} {k l : List ℕ} → (Grows p.part.now p.n q.part.now q.n k → Grows p.part.now p.n q.part.now q.n l) → Grew p q k → Grew p q l
grew_by f a = record { same_reference = a.same_reference; size = a.size; grows = f a.grows }

-- on a new list: in the part that was lent
pub grew_new : {part : List ℕ} {p q : NodeList} {l : List ℕ} → (p.part.now ≡ part) × (p.n ≡ 0) → Grew p q l → Grows part 0 q.part.now q.n l
grew_new b a = rw (b.0, b.1) at a.grows

module _ (f : ℕ → List ℕ) (xs : List ℕ) (p : NodeList) where
  pub grew_start : Grew p p (each f (take 0 xs))
  unfolding each
  grew_start = grew_none p

  pub grew_on : {q s : NodeList} (k : ℕ) → k < length xs → Grew p q (each f (take k xs)) → Grew q s (f (get_or xs k 0)) → Grew p s (each f (take (k + 1) xs))
  grew_on k h a b = record { same_reference = b.same_reference ∙ a.same_reference; size = b.size ∙ a.size; grows = grows_on f xs _ _ _ _ _ _ k h a.grows b.grows }

  pub grew_end : {q : NodeList} (k : ℕ) → length xs ≤ k → Grew p q (each f (take k xs)) → Grew p q (each f xs)
  grew_end k h a = record { same_reference = a.same_reference; size = a.size; grows = grows_end f xs _ _ _ _ k h a.grows }
