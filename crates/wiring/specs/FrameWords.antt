-- The words of a stack popped down to an opener: its own word cut, those above it cleared; and where a word's highest bit stands. Assumes nothing.
use Rattle.std.specs.Prelude.{ℕ, suc, ◌+◌, ◌-◌, ◌*◌, ◌/◌, ◌%◌, ◌^◌, ◌≤◌, ◌<◌, ◌≡◌, List, length, get_or, set}
use Rattle.std.specs.Int.Count.{count_leading_zeros, leading_unique}
use Rattle.std.proofs.Common.{add-one, append_assoc, length-set, arith, pow-suc, pow_pos}
use Rattle.std.proofs.Math.Seq.{take-suc-set}
use Rattle.layout.specs.Zeroed.{filled_behind}
use Rattle.passes.specs.FrameStacks.{under}

pub under_cleared : (ws : List ℕ) (k b : ℕ) → length ws ≡ 64 → k < 4096 → b ≡ 2 ^ (k % 64) → filled_behind 0 (k / 64 + 1) (set ws (k / 64) (get_or ws (k / 64) 0 % b)) ≡ under ws k
unfolding under
under_cleared ws k b s h e =
    let v = get_or ws (k / 64) 0 % b in
    let i : k / 64 < length ws = omega (arith, s) in
    let n : length (set ws (k / 64) v) - (k / 64 + 1) ≡ 63 - k / 64 = omega (arith, length-set ws (k / 64) v, s) in
    rw (n, add-one, take-suc-set, append_assoc, e)

pub height_is : (w h : ℕ) → h < 64 → 2 ^ h ≤ w → w < 2 * 2 ^ h → h + 1 ≡ 64 - count_leading_zeros 64 w
height_is w h s lo hi = omega (arith, leading_unique 64 w (63 - h) (suc h) (omega arith) (omega (arith, pow-suc 2 h)) (omega (arith, pow-suc 2 h)))

pub height_some : (w h : ℕ) → 2 ^ h ≤ w → w ≡ 0 → ⊥
height_some w h lo z = omega (arith, pow_pos h, lo, z)
