-- The keys of all open FORs are noted, as a fact of each of them. Assumes nothing.
use Rattle.std.specs.Prelude.{ℕ, zero, suc, ◌*◌, ◌<◌, ◌≡◌, List, [], ◌∷◌, length, get_or}
use Rattle.std.proofs.Common.{arith}
use Rattle.listings.specs.Every.{All, all[], all∷}
use Rattle.passes.specs.Sets.{In}
use Rattle.passes.specs.FrameStacks.{Holds}
use Rattle.passes.specs.NotedKeys.{note_of, KeysNoted}

abbrev pub Noted : List ℕ → List ℕ → List ℕ → Type 0
Noted ks ms ws = (l : List ℕ) → Holds ws l → (k : ℕ) → k < length l → In ms (note_of (get_or ks (get_or l k 0 * 64) 0))

each : {P : ℕ → Type 0} (l : List ℕ) → ((k : ℕ) → k < length l → P (get_or l k 0)) → All P l
each [] f = all[]
each (a ∷ l) f = all∷ (f 0 (omega arith)) (each l (λ k h. f (suc k) (omega arith)))

one_of : {P : ℕ → Type 0} {l : List ℕ} → All P l → (k : ℕ) → k < length l → P (get_or l k 0)
one_of all[] k h = absurd (omega arith)
one_of (all∷ p a) zero h = p
one_of (all∷ p a) (suc k) h = one_of a k (omega arith)

pub keys_noted : (ks ms ws : List ℕ) → length ms ≡ 512 → Noted ks ms ws → KeysNoted ks ms ws
keys_noted ks ms ws s n = record { size = s; noted = λ l o. each l (n l o) }

pub noted_keys : (ks ms ws : List ℕ) → KeysNoted ks ms ws → Noted ks ms ws
noted_keys ks ms ws n l o = one_of (n.noted l o)
