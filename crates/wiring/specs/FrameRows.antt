-- The frames of all nodes as one flat list, three entries each, as the passes have it. Assumes nothing.
use Rattle.std.specs.Prelude.{ℕ, zero, suc, ◌+◌, ◌*◌, ◌<◌, ◌≡◌, List, [], ◌∷◌, length, get_or, set, replicate}
use Rattle.std.proofs.Common.{refl, arith, ap, sym, ◌∙◌, length-set}
use Rattle.passes.specs.FramePass.{AllZero}
use Rattle.passes.specs.Preparing.{all-zero, zeros_sized}
use Rattle.wiring.specs.declared.leads.Frame.{Frame}

abbrev pub no_frame : Frame
no_frame = record { opener = 0; closer = 0; next_else = 0 }

unfoldable pub flat : List Frame → List ℕ
flat [] = []
flat (f ∷ fs) = f.opener ∷ f.closer ∷ f.next_else ∷ flat fs

pub length-flat : (t : List Frame) → length (flat t) ≡ length t * 3
unfolding flat
length-flat [] = refl
length-flat (f ∷ fs) = omega (arith, length-flat fs)

-- ---- a field of frame i is an entry; past the table both are 0

module _ (f : Frame) (fs : List Frame) (k : ℕ) where
  entry_later : (m : ℕ) → m ≡ suc (suc (suc k)) → get_or (flat (f ∷ fs)) m 0 ≡ get_or (flat fs) k 0
  unfolding flat
  entry_later m e = rw e refl

  set_later : (m v : ℕ) → m ≡ suc (suc (suc k)) → set (flat (f ∷ fs)) m v ≡ f.opener ∷ f.closer ∷ f.next_else ∷ set (flat fs) k v
  unfolding flat
  set_later m v e = rw e refl

pub opener_at : (t : List Frame) (i : ℕ) → (get_or t i no_frame).opener ≡ get_or (flat t) (i * 3) 0
unfolding flat
opener_at [] i = refl
opener_at (f ∷ fs) zero = refl
opener_at (f ∷ fs) (suc i) = opener_at fs i ∙ sym (entry_later f fs (i * 3) (suc i * 3) (omega arith))

pub closer_at : (t : List Frame) (i : ℕ) → (get_or t i no_frame).closer ≡ get_or (flat t) (i * 3 + 1) 0
unfolding flat
closer_at [] i = refl
closer_at (f ∷ fs) zero = refl
closer_at (f ∷ fs) (suc i) = closer_at fs i ∙ sym (entry_later f fs (i * 3 + 1) (suc i * 3 + 1) (omega arith))

pub next_else_at : (t : List Frame) (i : ℕ) → (get_or t i no_frame).next_else ≡ get_or (flat t) (i * 3 + 2) 0
unfolding flat
next_else_at [] i = refl
next_else_at (f ∷ fs) zero = refl
next_else_at (f ∷ fs) (suc i) = next_else_at fs i ∙ sym (entry_later f fs (i * 3 + 2) (suc i * 3 + 2) (omega arith))

-- ---- a field written

pub opener_set : (t : List Frame) (i v : ℕ) → i < length t
    → flat (set t i (record { opener = v; closer = (get_or t i no_frame).closer; next_else = (get_or t i no_frame).next_else })) ≡ set (flat t) (i * 3) v
unfolding flat
opener_set [] i v h = absurd (omega arith)
opener_set (f ∷ fs) zero v h = refl
opener_set (f ∷ fs) (suc i) v h = ap (λ (z : List ℕ). f.opener ∷ f.closer ∷ f.next_else ∷ z) (opener_set fs i v (omega arith)) ∙ sym (set_later f fs (i * 3) (suc i * 3) v (omega arith))

pub closer_set : (t : List Frame) (i v : ℕ) → i < length t
    → flat (set t i (record { opener = (get_or t i no_frame).opener; closer = v; next_else = (get_or t i no_frame).next_else })) ≡ set (flat t) (i * 3 + 1) v
unfolding flat
closer_set [] i v h = absurd (omega arith)
closer_set (f ∷ fs) zero v h = refl
closer_set (f ∷ fs) (suc i) v h = ap (λ (z : List ℕ). f.opener ∷ f.closer ∷ f.next_else ∷ z) (closer_set fs i v (omega arith)) ∙ sym (set_later f fs (i * 3 + 1) (suc i * 3 + 1) v (omega arith))

pub next_else_set : (t : List Frame) (i v : ℕ) → i < length t
    → flat (set t i (record { opener = (get_or t i no_frame).opener; closer = (get_or t i no_frame).closer; next_else = v })) ≡ set (flat t) (i * 3 + 2) v
unfolding flat
next_else_set [] i v h = absurd (omega arith)
next_else_set (f ∷ fs) zero v h = refl
next_else_set (f ∷ fs) (suc i) v h = ap (λ (z : List ℕ). f.opener ∷ f.closer ∷ f.next_else ∷ z) (next_else_set fs i v (omega arith)) ∙ sym (set_later f fs (i * 3 + 2) (suc i * 3 + 2) v (omega arith))

-- the next ELSE of frame o goes to frame i, and v is that of o then
module _ (t : List Frame) (i o v : ℕ) (h : i < length t) (k : o < length t) where
  abbrev else_moved : List Frame
  else_moved = set t i (record { opener = (get_or t i no_frame).opener; closer = (get_or t i no_frame).closer; next_else = (get_or t o no_frame).next_else })

  pub else_put : flat (set else_moved o (record { opener = (get_or else_moved o no_frame).opener; closer = (get_or else_moved o no_frame).closer; next_else = v })) ≡ set (set (flat t) (i * 3 + 2) (get_or (flat t) (o * 3 + 2) 0)) (o * 3 + 2) v
  else_put =
      let z : flat else_moved ≡ set (flat t) (i * 3 + 2) (get_or (flat t) (o * 3 + 2) 0) = next_else_set t i _ h ∙ ap (λ (x : ℕ). set (flat t) (i * 3 + 2) x) (next_else_at t o) in
      next_else_set else_moved o v (omega (arith, k, length-set t i (record { opener = (get_or t i no_frame).opener; closer = (get_or t i no_frame).closer; next_else = (get_or t o no_frame).next_else }))) ∙ ap (λ (x : List ℕ). set x (o * 3 + 2) v) z

-- ---- a table without frames

flat_none : (n : ℕ) → flat (replicate n no_frame) ≡ replicate (n * 3) 0
unfolding flat
flat_none zero = refl
flat_none (suc n) = ap (λ (z : List ℕ). 0 ∷ 0 ∷ 0 ∷ z) (flat_none n) ∙ ap (λ (k : ℕ). replicate k 0) (three n)
  where
    three : (k : ℕ) → suc (suc (suc (k * 3))) ≡ suc k * 3
    three k = omega arith

pub none_yet : (n : ℕ) (t : List Frame) → t ≡ replicate n no_frame → AllZero (flat t)
none_yet n t e = all-zero (flat t) (zeros_sized (n * 3) (flat t) (ap flat e ∙ flat_none n))
