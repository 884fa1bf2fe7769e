-- Marks in words: the highest is the newest. Assumes nothing.
use Rattle.std.specs.Prelude.{◌≡◌, Bool, List, [], ◌∷◌, ◌++◌, ◌⊎◌, eqb, take}
use Rattle.std.proofs.Math.Path.{refl, sym, ap}
use Rattle.std.proofs.Common.{subst, ◌∙◌, inl, inr, ⊎_elim, pow-suc, mod-lt, eq-eqb, ne_eqb, pow_pos, pow_mono, pow-add, length-set, get_or-set_same, get_or-set_other, length-take-le, set-set, ext_get_or}
use Rattle.std.proofs.Math.Bool.{true, false}
use Prim.Native.Nat.{ℕ, zero, suc, ◌+◌, ◌-◌, ◌*◌, ◌/◌, ◌%◌, ◌^◌, ◌≤◌, ◌<◌}
use native.Mathlib.Omega.{arith}
use Rattle.std.proofs.Math.Nat.{add-mul-mod_self_right}
use Rattle.std.proofs.Math.Decide.{ℕ_discrete}
use Rattle.std.specs.Int.Count.{count_leading_zeros}
use Rattle.std.proofs.lemmas.Nat.{leading_top, leading_le}
use Rattle.std.proofs.Math.Pow.{low}
use Rattle.std.proofs.Math.ListN.{length, get_or, set, replicate, length-append, length-replicate, get_or-append}
use Rattle.std.proofs.Math.Seq.{get_or-take, get_or-append_seam, get_or-append-add}
use Rattle.std.proofs.lemmas.List.{set-get_or}
use Rattle.listings.specs.Bytes.{pick}
use Rattle.listings.specs.WordTable.{zeros}
use Rattle.passes.specs.FrameStacks.{top_of, under_top, no_frames, pushed, highest_mark, top_mark, without, popped, under, Holds, holds[], holds∷, HoldsBelow, Room}
use Rattle.passes.specs.Compare.{lt-or}

none_held : (n : ℕ) → n ≡ 64 → Holds (replicate n 0) []
none_held n e = holds[] (length-replicate {A = ℕ} n 0 ∙ e) (zeros n)

pub new_held : (ws : List ℕ) → ws ≡ no_frames → Holds ws []
unfolding no_frames
new_held ws e = rw e (none_held 64 refl)

holds-length : {ws l : List ℕ} → Holds ws l → length ws ≡ 64
holds-length (holds[] e f) = e
holds-length (holds∷ {ws} {us} {l} {i} o le lt e) = ap length e ∙ length-set ws (i / 64) (get_or ws (i / 64) 0 + 2 ^ (i % 64)) ∙ holds-length o

pub below_length : {ws : List ℕ} {i : ℕ} → HoldsBelow ws i → length ws ≡ 64
below_length o = holds-length o.held

-- words hold nothing at n or above it
bound : {ws l : List ℕ} → Holds ws l → (n : ℕ) → top_of l ≤ n → (q : ℕ) → get_or ws q 0 < 2 ^ (n - 64 * q)
bound (holds[] e f) n h q = rw (f q) (pow_pos (n - 64 * q))
bound (holds∷ {ws} {us} {l} {i} o le lt e) n h q =
    elim (ℕ_discrete q (i / 64)) [
      | yes s ↦ rw (e, s) (
          let x : i - 64 * (i / 64) ≡ i % 64 = omega arith in
          let b : get_or ws (i / 64) 0 < 2 ^ (i % 64) = rw x at (bound o i le (i / 64)) in
          let m : 2 ^ suc (i % 64) ≤ 2 ^ (n - 64 * (i / 64)) = pow_mono (omega arith) in
          let t : get_or (set ws (i / 64) (get_or ws (i / 64) 0 + 2 ^ (i % 64))) (i / 64) 0 ≡ get_or ws (i / 64) 0 + 2 ^ (i % 64) = get_or-set_same ws (i / 64) (get_or ws (i / 64) 0 + 2 ^ (i % 64)) 0 (omega (arith, holds-length o)) in
          omega (arith, t, b, m, pow-suc 2 (i % 64)))
      | no s ↦ rw e (
          let b = bound o i le q in
          let m : 2 ^ (i - 64 * q) ≤ 2 ^ (n - 64 * q) = pow_mono (omega arith) in
          omega (arith, get_or-set_other ws (i / 64) q (get_or ws (i / 64) 0 + 2 ^ (i % 64)) 0 s, b, m))
    ]

-- words above that of the newest hold nothing
none_above : {ws l : List ℕ} → Holds ws l → (p : ℕ) → top_of l ≤ 64 * p → get_or ws p 0 ≡ 0
none_above o p h = let z : 64 * p - 64 * p ≡ 0 = omega arith in omega (arith, rw z at (bound o (64 * p) h p))

room : {ws l : List ℕ} → Holds ws l → (i : ℕ) → top_of l ≤ i → Room ws i
room {ws} o i h = let x : i - 64 * (i / 64) ≡ i % 64 = omega arith in rw x at (bound o i h (i / 64))

pub room_below : (ws : List ℕ) (i : ℕ) → HoldsBelow ws i → Room ws i
room_below ws i o = room o.held i o.below

-- the word of the newest
mark : {ws l : List ℕ} {i : ℕ} → Holds ws (i ∷ l) → 2 ^ (i % 64) ≤ get_or ws (i / 64) 0
mark (holds∷ {ws} {us} {l} {i} o le lt e) =
    rw e (omega (arith, get_or-set_same ws (i / 64) (get_or ws (i / 64) 0 + 2 ^ (i % 64)) 0 (omega (arith, holds-length o))))

newest_in : {ws l : List ℕ} {i : ℕ} → Holds ws (i ∷ l) → i < 4096
newest_in (holds∷ o le lt e) = lt

by_order : (a b : ℕ) → (a < b → ⊥) → (b < a → ⊥) → a ≡ b
by_order a b f g = elim (ℕ_discrete a b) [ yes e ↦ e | no n ↦ absurd (⊎_elim f g (split a b n)) ]
  where
    split : (x y : ℕ) → (x ≡ y → ⊥) → (x < y) ⊎ (y < x)
    split zero zero h = absurd (h refl)
    split zero (suc y) h = inl (omega arith)
    split (suc x) zero h = inr (omega arith)
    split (suc x) (suc y) h = elim (split x y (λ e. h (ap suc e))) [ inl p ↦ inl (omega arith) | inr p ↦ inr (omega arith) ]

-- ---- the highest mark

-- a word's leading zeros, and where its highest bit stands
pub height_fits : (w z : ℕ) → z ≡ count_leading_zeros 64 w → z ≤ 64
height_fits w z e = omega (arith, e, leading_le 64 w)

height_of : (w h : ℕ) → h < 64 → 2 ^ h ≤ w → w < 2 ^ suc h → 64 - count_leading_zeros 64 w ≡ suc h
height_of w h s lo hi =
    let m : 2 ^ suc h ≤ 2 ^ 64 = pow_mono {i = suc h} {j = 64} s in
    let t = leading_top 64 w (omega (arith, pow_pos h, lo)) (omega (arith, m, hi)) in
    let e : t.0 ≡ h = by_order t.0 h
    (λ g. let n : 2 ^ suc t.0 ≤ 2 ^ h = pow_mono g in omega (arith, n, lo, t.3))
    (λ g. let n : 2 ^ suc h ≤ 2 ^ t.0 = pow_mono g in omega (arith, n, hi, t.2)) in
    omega (arith, t.1, e)

module _ (ws : List ℕ) where
  highest_here : (q : ℕ) → (get_or ws q 0 ≡ 0 → ⊥) → highest_mark ws (suc q) ≡ q * 64 + (64 - count_leading_zeros 64 (get_or ws q 0))
  unfolding highest_mark
  highest_here q n = rw (ne_eqb (get_or ws q 0) 0 n)

  highest_on : (q : ℕ) → get_or ws q 0 ≡ 0 → highest_mark ws (suc q) ≡ highest_mark ws q
  unfolding highest_mark
  highest_on q z = rw (eq-eqb (get_or ws q 0) 0 z)

  -- words that are 0 are passed over
  highest_less : (n m : ℕ) → n ≤ m → ((p : ℕ) → n ≤ p → p < m → get_or ws p 0 ≡ 0) → highest_mark ws m ≡ highest_mark ws n
  highest_less n zero h z = let e : n ≡ 0 = omega arith in rw e
  highest_less n (suc m) h z =
      elim (ℕ_discrete n (suc m)) [
        | yes e ↦ rw e
        | no e ↦ highest_on m (z m (omega arith) (omega arith)) ∙ highest_less n m (omega arith) (λ p a b. z p a (omega arith))
      ]

  highest_alike : (us : List ℕ) (n : ℕ) → ((p : ℕ) → p < n → get_or us p 0 ≡ get_or ws p 0) → highest_mark us n ≡ highest_mark ws n
  unfolding highest_mark
  highest_alike us zero s = refl
  highest_alike us (suc q) s = rw (s q (omega arith), highest_alike us q (λ p h. s p (omega arith)))

  pub highest_le : (n : ℕ) → highest_mark ws n ≤ n * 64
  unfolding highest_mark
  highest_le zero = omega arith
  highest_le (suc q) = go (eqb (get_or ws q 0) 0) (highest_le q)
    where
      go : (x : Bool) → highest_mark ws q ≤ q * 64 → pick x (highest_mark ws q) (q * 64 + (64 - count_leading_zeros 64 (get_or ws q 0))) ≤ suc q * 64
      go true h = omega arith
      go false h = omega arith

  -- the search downwards: the words from q on are passed over
  pub search_here : (n q h : ℕ) → 0 < q → (get_or ws (q - 1) 0 ≡ 0 → ⊥) → h ≡ 64 - count_leading_zeros 64 (get_or ws (q - 1) 0) → highest_mark ws n ≡ highest_mark ws q → (q - 1) * 64 + h ≡ highest_mark ws n
  search_here n q h p z e i = let s : suc (q - 1) ≡ q = omega arith in rw e (sym (highest_here (q - 1) z) ∙ ap (highest_mark ws) s ∙ sym i)

  pub search_on : (n q : ℕ) → 0 < q → get_or ws (q - 1) 0 ≡ 0 → highest_mark ws n ≡ highest_mark ws q → highest_mark ws n ≡ highest_mark ws (q - 1)
  search_on n q p z i = let s : q ≡ suc (q - 1) = omega arith in i ∙ ap (highest_mark ws) s ∙ highest_on (q - 1) z

  pub search_end : (n q : ℕ) → q ≤ 0 → highest_mark ws n ≡ highest_mark ws q → 0 ≡ highest_mark ws n
  unfolding highest_mark
  search_end n q h i = let e : q ≡ 0 = omega arith in sym (i ∙ ap (highest_mark ws) e)

-- ---- the top is the newest

pub top_held : {ws l : List ℕ} → Holds ws l → top_mark ws ≡ top_of l
unfolding top_mark highest_mark
top_held {ws} (holds[] e z) = highest_less ws 0 64 (omega arith) (λ p a b. z p)
top_held {ws} {l} (holds∷ {ws = us} {l = k} {i = i} o le lt e) = go (holds∷ {ws = us} {us = ws} {l = k} {i = i} o le lt e)
  where
    go : Holds ws (i ∷ k) → highest_mark ws 64 ≡ suc i
    go c =
        let x : suc i - 64 * (i / 64) ≡ suc (i % 64) = omega arith in
        let hi : get_or ws (i / 64) 0 < 2 ^ suc (i % 64) = rw x at (bound c (suc i) (omega arith) (i / 64)) in
        let some : get_or ws (i / 64) 0 ≡ 0 → ⊥ = λ z. omega (arith, z, mark c, pow_pos (i % 64)) in
        let h = height_of (get_or ws (i / 64) 0) (i % 64) (omega arith) (mark c) hi in
        highest_less ws (suc (i / 64)) 64 (omega arith) (λ p a b. none_above c p (omega arith))
        ∙ highest_here ws (i / 64) some ∙ omega (arith, h)

-- all are below i: the search may start at the word of i
pub newest_is : (ws : List ℕ) (i r : ℕ) → i < 4096 → HoldsBelow ws i → r ≡ highest_mark ws (i / 64 + 1) → r ≡ top_mark ws
unfolding top_mark
newest_is ws i r h o e = e ∙ sym (highest_less ws (i / 64 + 1) 64 (omega arith) (λ p a b. none_above o.held p (omega (arith, o.below))))

pub top_le : (ws : List ℕ) (f i : ℕ) → HoldsBelow ws i → f ≡ top_mark ws → f ≤ i
top_le ws f i o e = omega (arith, e, top_held o.held, o.below)

-- ---- push

pub fits_sum : (w b r : ℕ) → r < 64 → b ≡ 2 ^ r → w < 2 ^ r → w + b < 2 ^ 64
fits_sum w b r h e l = let m : 2 ^ suc r ≤ 2 ^ 64 = pow_mono {i = suc r} {j = 64} (omega arith) in omega (arith, m, pow-suc 2 r, e, l)

pub push_is : (ws : List ℕ) (i b : ℕ) → b ≡ 2 ^ (i % 64) → set ws (i / 64) (get_or ws (i / 64) 0 + b) ≡ pushed ws i
push_is ws i b e = ap (λ (x : ℕ). set ws (i / 64) (get_or ws (i / 64) 0 + x)) e

-- ---- pop

-- without the newest
under_newest : {ws l : List ℕ} {i : ℕ} → Holds ws (i ∷ l) → Holds (set ws (i / 64) (get_or ws (i / 64) 0 - 2 ^ (i % 64))) l
under_newest (holds∷ {ws} {us} {l} {i} o le lt e) =
    let q = i / 64 in
    let b = 2 ^ (i % 64) in
    let w = get_or ws q 0 in
    let g : get_or us q 0 ≡ w + b = rw e (get_or-set_same ws q (w + b) 0 (omega (arith, holds-length o))) in
    let d : get_or us q 0 - b ≡ w = omega (arith, g) in
    let s : set us q (get_or us q 0 - b) ≡ ws = ap (set us q) d ∙ ap (λ (x : List ℕ). set x q w) e ∙ set-set ws q (w + b) w ∙ set-get_or ws q 0 in
    subst (λ (x : List ℕ). Holds x l) (sym s) o

pub pop_held : {ws : List ℕ} (l : List ℕ) → Holds ws l → Holds (popped ws) (under_top l)
unfolding popped
pop_held [] o = rw (top_held o) o
pop_held (i ∷ l) o = rw (top_held o) (under_newest o)

module _ (ws : List ℕ) (t : ℕ) (top : t ≡ top_mark ws) where
  pub pop_none : t ≡ 0 → (0 ≡ top_mark ws) × (ws ≡ popped ws)
  unfolding popped
  pop_none z = let e : top_mark ws ≡ 0 = sym top ∙ z in (sym e, sym (ap (without ws) e))

  -- the frame on top has a mark
  pub pop_fits : (i : ℕ) → HoldsBelow ws i → (t ≡ 0 → ⊥) → ((t - 1) / 64 < 64) × (2 ^ ((t - 1) % 64) ≤ get_or ws ((t - 1) / 64) 0)
  pop_fits i o z = go o.openers o.held (top ∙ top_held o.held)
    where
      go : (l : List ℕ) → Holds ws l → t ≡ top_of l → ((t - 1) / 64 < 64) × (2 ^ ((t - 1) % 64) ≤ get_or ws ((t - 1) / 64) 0)
      go [] h e = absurd (z e)
      go (k ∷ l) h e = let d : t - 1 ≡ k = omega arith in rw d (omega (arith, newest_in h), mark h)

  pub pop_some : (b : ℕ) → (t ≡ 0 → ⊥) → b ≡ 2 ^ ((t - 1) % 64) → set ws ((t - 1) / 64) (get_or ws ((t - 1) / 64) 0 - b) ≡ popped ws
  unfolding popped
  pop_some b z e =
      let s : suc (t - 1) ≡ top_mark ws = omega (arith, top) in
      ap (λ (x : ℕ). set ws ((t - 1) / 64) (get_or ws ((t - 1) / 64) 0 - x)) e ∙ ap (without ws) s

-- ---- the frames under the frame of k
record Rest (ws : List ℕ) (k : ℕ) (l : List ℕ) : Type 0 where
  us : List ℕ
  held : Holds us l
  in_range : k < 4096
  same : (q : ℕ) → q < k / 64 → get_or us q 0 ≡ get_or ws q 0
  part : get_or us (k / 64) 0 ≡ get_or ws (k / 64) 0 % 2 ^ (k % 64)
  none : (q : ℕ) → k / 64 < q → get_or us q 0 ≡ 0

under_top_lem : (p : List ℕ) (k : ℕ) (l : List ℕ) {ws : List ℕ} → Holds ws (p ++ (k ∷ l)) → k < top_of (p ++ (k ∷ l))
under_top_lem [] k l o = omega arith
under_top_lem (j ∷ p) k l (holds∷ o le lt e) = omega (arith, under_top_lem p k l o)

mod-own : (w r : ℕ) → w < 2 ^ r → (w + 2 ^ r) % 2 ^ r ≡ w
mod-own w r h = let e : w + 2 ^ r ≡ 1 * 2 ^ r + w = omega arith in rw e (low 1 r h)

mod_high : (w r s : ℕ) → r < s → (w + 2 ^ s) % 2 ^ r ≡ w % 2 ^ r
mod_high w r s h =
    let e : s ≡ (s - r) + r = omega arith in
    let f : 2 ^ s ≡ 2 ^ (s - r) * 2 ^ r = ap (λ (x : ℕ). 2 ^ x) e ∙ pow-add 2 (s - r) r in
    rw f (add-mul-mod_self_right w (2 ^ (s - r)) (2 ^ r))

rest : (p : List ℕ) (k : ℕ) (l : List ℕ) {ws : List ℕ} → Holds ws (p ++ (k ∷ l)) → Rest ws k l
rest [] k l (holds∷ {ws} {us} o le lt e) =
    let v = get_or ws (k / 64) 0 + 2 ^ (k % 64) in
    record {
      us = ws;
      held = o;
      in_range = lt;
      same = λ q h. sym (rw e (get_or-set_other ws (k / 64) q v 0 (λ s. omega arith)));
      part = sym (rw e (ap (λ (x : ℕ). x % 2 ^ (k % 64)) (get_or-set_same ws (k / 64) v 0 (omega (arith, holds-length o))) ∙ mod-own (get_or ws (k / 64) 0) (k % 64) (room o k le)));
      none = λ q h. none_above o q (omega arith);
    }
rest (j ∷ p) k l (holds∷ {ws} {us} o le lt e) =
    let r = rest p k l o in
    let kj : k < j = omega (arith, under_top_lem p k l o) in
    let v = get_or ws (j / 64) 0 + 2 ^ (j % 64) in
    record {
      us = r.us;
      held = r.held;
      in_range = r.in_range;
      same = λ q h. r.same q h ∙ sym (rw e (get_or-set_other ws (j / 64) q v 0 (λ s. omega arith)));
      part = r.part ∙ sym (rw e (
          elim (ℕ_discrete (k / 64) (j / 64)) [
            | yes s ↦ ap (λ (x : ℕ). x % 2 ^ (k % 64)) (ap (λ (y : ℕ). get_or (set ws (j / 64) v) y 0) s ∙ get_or-set_same ws (j / 64) v 0 (omega (arith, holds-length o)))
                ∙ mod_high (get_or ws (j / 64) 0) (k % 64) (j % 64) (omega arith) ∙ ap (λ (y : ℕ). get_or ws y 0 % 2 ^ (k % 64)) (sym s)
            | no s ↦ ap (λ (x : ℕ). x % 2 ^ (k % 64)) (get_or-set_other ws (j / 64) (k / 64) v 0 s)
          ]));
      none = r.none;
    }

-- ---- the words under those of k, one by one

module _ (ws : List ℕ) (k : ℕ) (size : length ws ≡ 64) (small : k < 4096) where
  front : length (take (k / 64) ws) ≡ k / 64
  front = length-take-le (k / 64) ws (omega arith)

  under_low : (q : ℕ) → q < k / 64 → get_or (under ws k) q 0 ≡ get_or ws q 0
  unfolding under
  under_low q h = get_or-append (take (k / 64) ws) (get_or ws (k / 64) 0 % 2 ^ (k % 64) ∷ replicate (63 - k / 64) 0) 0 q (omega (arith, front)) ∙ get_or-take (k / 64) ws q 0 h

  under-own : get_or (under ws k) (k / 64) 0 ≡ get_or ws (k / 64) 0 % 2 ^ (k % 64)
  unfolding under
  under-own =
      ap (λ (x : ℕ). get_or (under ws k) x 0) (sym front) ∙ get_or-append_seam (take (k / 64) ws) (get_or ws (k / 64) 0 % 2 ^ (k % 64)) (replicate (63 - k / 64) 0) 0

  under_none : (q : ℕ) → k / 64 < q → get_or (under ws k) q 0 ≡ 0
  unfolding under
  under_none q h =
      let e : q ≡ length (take (k / 64) ws) + suc (q - k / 64 - 1) = omega (arith, front) in
      ap (λ (x : ℕ). get_or (under ws k) x 0) e
      ∙ get_or-append-add (take (k / 64) ws) (get_or ws (k / 64) 0 % 2 ^ (k % 64) ∷ replicate (63 - k / 64) 0) (suc (q - k / 64 - 1)) 0
      ∙ zeros (63 - k / 64) (q - k / 64 - 1)

  under-size : length (under ws k) ≡ 64
  unfolding under
  under-size =
      length-append (take (k / 64) ws) (get_or ws (k / 64) 0 % 2 ^ (k % 64) ∷ replicate (63 - k / 64) 0)
      ∙ omega (arith, front, length-replicate {A = ℕ} (63 - k / 64) 0)

  under_only : (us : List ℕ) → length us ≡ 64 → ((q : ℕ) → q < k / 64 → get_or us q 0 ≡ get_or ws q 0) → get_or us (k / 64) 0 ≡ get_or ws (k / 64) 0 % 2 ^ (k % 64)
      → ((q : ℕ) → k / 64 < q → q < 64 → get_or us q 0 ≡ 0) → us ≡ under ws k
  under_only us s a b c = ext_get_or 0 us (under ws k) (s ∙ sym under-size) (λ q g.
      elim (lt-or q (k / 64)) [
        | inl f ↦ a q f ∙ sym (under_low q f)
        | inr f ↦ elim (ℕ_discrete q (k / 64)) [ yes e ↦ rw e (b ∙ sym under-own) | no e ↦ c q (omega arith) (omega arith) ∙ sym (under_none q (omega arith)) ]
      ])

  -- the highest mark under that of k
  top_under : top_mark (under ws k) ≡ highest_mark (under ws k) (suc (k / 64))
  unfolding top_mark
  top_under = highest_less (under ws k) (suc (k / 64)) 64 (omega arith) (λ p a b. under_none p a)

  module _ (b : ℕ) (mask : b ≡ 2 ^ (k % 64)) where
    own : get_or (under ws k) (k / 64) 0 ≡ get_or ws (k / 64) 0 % b
    own = under-own ∙ ap (λ (x : ℕ). get_or ws (k / 64) 0 % x) (sym mask)

    pub below_here : (h : ℕ) → (get_or ws (k / 64) 0 % b ≡ 0 → ⊥) → h ≡ 64 - count_leading_zeros 64 (get_or ws (k / 64) 0 % b) → k / 64 * 64 + h ≡ top_mark (under ws k)
    below_here h z e =
        rw (e, ← own) (sym (top_under ∙ highest_here (under ws k) (k / 64) (λ n. z (sym own ∙ n))))

    pub below_on : (r : ℕ) → get_or ws (k / 64) 0 % b ≡ 0 → r ≡ highest_mark ws (k / 64) → r ≡ top_mark (under ws k)
    below_on r z e = e ∙ sym (top_under ∙ highest_on (under ws k) (k / 64) (own ∙ z) ∙ highest_alike ws (under ws k) (k / 64) under_low)

    pub below-le : (h : ℕ) → (get_or ws (k / 64) 0 % b ≡ 0 → ⊥) → h ≡ 64 - count_leading_zeros 64 (get_or ws (k / 64) 0 % b) → k / 64 * 64 + h ≤ k
    below-le h z e =
        let w = get_or ws (k / 64) 0 % b in
        let m : w < 2 ^ (k % 64) = rw mask (mod-lt (get_or ws (k / 64) 0) (pow_pos (k % 64))) in
        let n : 2 ^ (k % 64) ≤ 2 ^ 64 = pow_mono {i = k % 64} {j = 64} (omega arith) in
        let t = leading_top 64 w (omega arith) (omega (arith, m, n)) in
        elim (lt-or t.0 (k % 64)) [
          | inl g ↦ omega (arith, e, t.1)
          | inr g ↦ let l : 2 ^ (k % 64) ≤ 2 ^ t.0 = pow_mono g in absurd (omega (arith, l, m, t.2))
        ]

pub under_held : (p : List ℕ) (k : ℕ) (l : List ℕ) {ws : List ℕ} → Holds ws (p ++ (k ∷ l)) → Holds (under ws k) l
under_held p k l {ws} o =
    let r = rest p k l o in
    subst (λ (x : List ℕ). Holds x l) (under_only ws k (holds-length o) r.in_range r.us (holds-length r.held) r.same r.part (λ q a b. r.none q a)) r.held

-- ---- pop down to k, word by word: those from k's own up to j are done
pub record Cutting (ws : List ℕ) (k : ℕ) (us : List ℕ) (j : ℕ) : Type 0 where
  pub whole : length ws ≡ 64
  pub size : length us ≡ 64
  pub from : k / 64 < j
  pub to : j ≤ 64
  pub low : (q : ℕ) → q < k / 64 → get_or us q 0 ≡ get_or ws q 0
  pub own : get_or us (k / 64) 0 ≡ get_or ws (k / 64) 0 % 2 ^ (k % 64)
  pub none : (q : ℕ) → k / 64 < q → q < j → get_or us q 0 ≡ 0

cut_start : (ws : List ℕ) (k b : ℕ) → k < 4096 → length ws ≡ 64 → b ≡ 2 ^ (k % 64) → Cutting ws k (set ws (k / 64) (get_or ws (k / 64) 0 % b)) (k / 64 + 1)
cut_start ws k b h s e = record {
  whole = s;
  size = length-set ws (k / 64) (get_or ws (k / 64) 0 % b) ∙ s;
  from = omega arith;
  to = omega arith;
  low = λ q g. get_or-set_other ws (k / 64) q (get_or ws (k / 64) 0 % b) 0 (λ f. omega arith);
  own = get_or-set_same ws (k / 64) (get_or ws (k / 64) 0 % b) 0 (omega arith) ∙ ap (λ (x : ℕ). get_or ws (k / 64) 0 % x) e;
  none = λ q g f. absurd (omega arith);
}

pub cut_more : (ws : List ℕ) (k : ℕ) (us : List ℕ) (j : ℕ) → j < 64 → Cutting ws k us j → Cutting ws k (set us j 0) (j + 1)
cut_more ws k us j h c = record {
  whole = c.whole;
  size = length-set us j 0 ∙ c.size;
  from = omega (arith, c.from);
  to = omega arith;
  low = λ q g. get_or-set_other us j q 0 0 (λ f. omega (arith, c.from)) ∙ c.low q g;
  own = get_or-set_other us j (k / 64) 0 0 (λ f. omega (arith, c.from)) ∙ c.own;
  none = λ q g f. elim (ℕ_discrete q j) [ yes e ↦ ap (λ (x : ℕ). get_or (set us j 0) x 0) e ∙ get_or-set_same us j 0 0 (omega (arith, c.size)) | no e ↦ get_or-set_other us j q 0 0 e ∙ c.none q g (omega arith) ];
}

cut_end : (ws : List ℕ) (k : ℕ) (us : List ℕ) (j : ℕ) → 64 ≤ j → Cutting ws k us j → us ≡ under ws k
cut_end ws k us j h c = under_only ws k c.whole (omega (arith, c.from, c.to)) us c.size c.low c.own (λ q a b. c.none q a (omega arith))

-- the words before the first store: a loop's invariant sees only those after it
whole : (ws : List ℕ) (q v : ℕ) → set (set ws q v) q (get_or ws q 0) ≡ ws
whole ws q v = set-set ws q v (get_or ws q 0) ∙ set-get_or ws q 0

pub cut_start_at : (ws : List ℕ) (k b : ℕ) → k < 4096 → length ws ≡ 64 → b ≡ 2 ^ (k % 64)
    → Cutting (set (set ws (k / 64) (get_or ws (k / 64) 0 % b)) (k / 64) (get_or ws (k / 64) 0)) k (set ws (k / 64) (get_or ws (k / 64) 0 % b)) (k / 64 + 1)
cut_start_at ws k b h s e = subst (λ (x : List ℕ). Cutting x k (set ws (k / 64) (get_or ws (k / 64) 0 % b)) (k / 64 + 1)) (sym (whole ws (k / 64) (get_or ws (k / 64) 0 % b))) (cut_start ws k b h s e)

pub cut_end_at : (ws : List ℕ) (k b : ℕ) (us : List ℕ) (j : ℕ) → 64 ≤ j → Cutting (set (set ws (k / 64) (get_or ws (k / 64) 0 % b)) (k / 64) (get_or ws (k / 64) 0)) k us j → us ≡ under ws k
cut_end_at ws k b us j h c = cut_end ws k us j h (subst (λ (x : List ℕ). Cutting x k us j) (whole ws (k / 64) (get_or ws (k / 64) 0 % b)) c)

-- ---- words hold one list alone

pub holds_same : (k l : List ℕ) {ws : List ℕ} → Holds ws k → Holds ws l → k ≡ l
holds_same [] [] p q = refl
holds_same [] (j ∷ m) p q = absurd (omega (arith, top_held p, top_held q))
holds_same (i ∷ k) [] p q = absurd (omega (arith, top_held p, top_held q))
holds_same (i ∷ k) (j ∷ m) p q =
    let e : i ≡ j = omega (arith, top_held p, top_held q) in
    rw (e, holds_same k m (under_newest p) (rw (← e) at (under_newest q)))
