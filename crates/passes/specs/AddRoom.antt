-- Room for a piece of a list that is about to be added in a part with room for all nodes. Assumes nothing.
use Rattle.std.specs.Prelude.{ℕ, zero, suc, ◌≤◌, ◌<◌, ◌≡◌, refl, get_or, take, drop}
use Rattle.std.proofs.Common.{sym, ap, ◌∙◌, arith}
use mathlib.Core.List.{List, [], ◌∷◌, ◌++◌, append-nil}
use Rattle.std.proofs.Math.ListN.{length}
use Rattle.std.proofs.Math.Seq.{split_at}
use Rattle.listings.specs.Every.{all[], all∷}
use Rattle.graph.specs.Lists.{each}
use Rattle.graph_laws.specs.Adding.{decode}
use Rattle.graph_laws.specs.EdgeBounds.{Ids}
use Rattle.graph_laws.specs.Distinct.{dist[]}
use Rattle.graph_laws.specs.ForLaws.{each_append}
use Rattle.passes.specs.Growing.{Grown, Grows, RoomFor, grown_room, all_left, all_right}

-- all of l may be added behind the first n entries: for some number of nodes all are below it, and the part has room
-- for so many
pub record RoomToAdd (part : List ℕ) (n : ℕ) (l : List ℕ) : Type 0 where
  pub nodes : ℕ
  pub grown : Grown nodes part n
  pub ids : Ids nodes l

-- nothing was added yet
pub grown_start : (m : ℕ) (part : List ℕ) → m ≤ length part → Grown m part 0
grown_start m part h = record { room = h; within = omega arith; distinct = dist[]; below = all[] }

decode_within : (m t : ℕ) → Ids m (decode t) → t ≤ m
decode_within m zero h = omega arith
decode_within m (suc t) (all∷ p h) = p

pub room_one : (p : List ℕ) (n t : ℕ) → RoomToAdd p n (decode t) → RoomFor p n t
room_one p n t w = grown_room w.nodes p n t w.grown (decode_within w.nodes t w.ids)

-- ---- one piece after the other

module _ (p : List ℕ) (n : ℕ) (k l : List ℕ) (w : RoomToAdd p n (k ++ l)) where
  pub room_first : RoomToAdd p n k
  room_first = record { nodes = w.nodes; grown = w.grown; ids = all_left k l w.ids }

  pub room_next : (q : List ℕ) (r : ℕ) → Grows p n q r k → RoomToAdd q r l
  room_next q r a = record { nodes = w.nodes; grown = a.grown w.nodes w.grown (all_left k l w.ids); ids = all_right k l w.ids }

-- ---- a loop over a list: the pieces of the first k are there

each-split : (f : ℕ → List ℕ) (xs : List ℕ) (k : ℕ) → k < length xs → each f xs ≡ each f (take k xs) ++ (f (get_or xs k 0) ++ each f (drop (suc k) xs))
unfolding each
each-split f xs k h = ap (each f) (split_at xs k 0 h) ∙ each_append f (take k xs) (get_or xs k 0 ∷ drop (suc k) xs)

pub room_each : (f : ℕ → List ℕ) (xs p : List ℕ) (n : ℕ) → RoomToAdd p n (each f xs) → (q : List ℕ) (r k : ℕ) → k < length xs → Grows p n q r (each f (take k xs)) → RoomToAdd q r (f (get_or xs k 0))
room_each f xs p n w q r k h a =
    let u : RoomToAdd p n (each f (take k xs) ++ (f (get_or xs k 0) ++ each f (drop (suc k) xs))) = rw (each-split f xs k h) at w in
    room_first q r (f (get_or xs k 0)) (each f (drop (suc k) xs)) (room_next p n (each f (take k xs)) (f (get_or xs k 0) ++ each f (drop (suc k) xs)) u q r a)

-- ---- the first of a row, if there is one

pub first-none : (row : List ℕ) → length row ≡ 0 → [] ≡ each decode (take 1 row)
unfolding each
first-none [] q = refl
first-none (a ∷ l) q = absurd (omega arith)

pub first-is : (row : List ℕ) → (length row ≡ 0 → ⊥) → decode (get_or row 0 0) ≡ each decode (take 1 row)
unfolding each
first-is [] q = absurd (q refl)
first-is (a ∷ l) q = sym (append-nil (decode a))

-- ---- the same list in other words

pub room_as : {p : List ℕ} {n : ℕ} {k l : List ℕ} → k ≡ l → RoomToAdd p n l → RoomToAdd p n k
room_as e w = rw e w

pub grows_as : {p q : List ℕ} {n r : ℕ} {k l : List ℕ} → k ≡ l → Grows p n q r k → Grows p n q r l
grows_as e a = rw (← e) a
