-- Room in a part: a list of distinct ids below its length. Assumes nothing.
use Rattle.std.specs.Prelude.{ℕ, zero, suc, ◌<◌, ◌≤◌, ◌≡◌, List, length}
use Rattle.std.proofs.Common.{arith}
use Rattle.listings.specs.Every.{All, all[], all∷}
use Rattle.graph_laws.specs.Adding.{decode}
use Rattle.passes.specs.Growing.{Grown, Grows, RoomFor, grown_room}
use Rattle.passes.specs.Closing.{FitsPart}

pub decode-below : (m t : ℕ) → t ≤ m → All (λ (a : ℕ). a < m) (decode t)
decode-below m zero h = all[]
decode-below m (suc a) h = all∷ h all[]

pub fits_grown : (part : List ℕ) (n : ℕ) → FitsPart part n → Grown (length part) part n
fits_grown part n f = record { room = omega arith; within = f.within; distinct = f.distinct; below = f.below }

-- a list that fills its part has every id already
pub fits_room : (part : List ℕ) (n t : ℕ) → FitsPart part n → t ≤ length part → RoomFor part n t
fits_room part n t f h = grown_room (length part) part n t (fits_grown part n f) h

-- after some ids have been added
pub fits_after : (part part' : List ℕ) (n r : ℕ) (l : List ℕ) → FitsPart part n → All (λ (a : ℕ). a < length part) l → length part' ≡ length part → Grows part n part' r l → FitsPart part' r
fits_after part part' n r l f h e a =
    let g = a.grown (length part) (fits_grown part n f) h in
    record { within = g.within; distinct = g.distinct; below = rw e g.below }

-- after the node t - 1 has been added
pub fits_next : (part part' : List ℕ) (n r t : ℕ) → FitsPart part n → t ≤ length part → length part' ≡ length part → Grows part n part' r (decode t) → FitsPart part' r
fits_next part part' n r t f h e a =
    fits_after part part' n r (decode t) f (decode-below (length part) t h) e a
