-- A listing that BASIC V2 can write has its numbers and names in form, and its names are cut (document 02, L3). Assumes nothing.
use Rattle.std.specs.Prelude.{ℕ, suc, ◌≤◌, ◌≡◌, refl, List, map, true, ◌&&◌, leb}
use Rattle.std.proofs.Common.{ap, arith, leb-true}
use Rattle.std.proofs.Math.Option.{some}
use Rattle.listings.specs.Listing.{Name, static, Mark, Simple, for, next, Stmts, ∅, Lines}
use Rattle.listings.specs.ListingText.{NumbersOk, SlotsOk, listed, SimpleOk, BranchOk, NoBranch, BranchesOk, StmtsOk}
use Rattle.listings.specs.Tests.{both_true}
use Rattle.listings.specs.Every.{All, all[], all∷}
use Rattle.listings.specs.Cut.{cut_slot, cut_simple, cut_stmts, cut_lines}
use Rattle.program_laws.specs.V2.{NumberV2, NameV2, SimpleV2, is_plain, is_stop, is_return, is_clr, is_run, is_jump, is_on, is_for, is_star, is_next, StraightV2, empty, then_simple, StmtsV2, no_if, then_to, then_stmts, LinesV2, no_lines, then_line}
use Rattle.program_files.specs.Program.{shallow, short}

-- ---- a statement

numbers_ok : {ns : List ℕ} → All NumberV2 ns → NumbersOk ns
unfolding NumbersOk
numbers_ok all[] = tt
numbers_ok (all∷ h hs) = (omega arith, numbers_ok hs)

slots_ok : {vs : List Name} → All NameV2 vs → SlotsOk (map some vs)
unfolding SlotsOk
slots_ok all[] = tt
slots_ok (all∷ h hs) = (h.0, slots_ok hs)

slots_cut : {vs : List Name} → All NameV2 vs → map cut_slot (map some vs) ≡ map some vs
unfolding cut_slot
slots_cut all[] = refl
slots_cut (all∷ h hs) = rw (h.1, slots_cut hs)

simple_ok : {o : Simple} → SimpleV2 o → SimpleOk o
unfolding SimpleOk NumbersOk SlotsOk
simple_ok is_plain = tt
simple_ok is_stop = tt
simple_ok is_return = tt
simple_ok is_clr = tt
simple_ok is_run = tt
simple_ok (is_jump h) = omega arith
simple_ok (is_on h hs) = (omega arith, numbers_ok hs)
simple_ok (is_for h) = h.0
simple_ok is_star = tt
simple_ok (is_next h hs) = (h.0, slots_ok hs)

simple_cut : {o : Simple} → SimpleV2 o → cut_simple o ≡ o
unfolding cut_simple cut_slot
simple_cut is_plain = refl
simple_cut is_stop = refl
simple_cut is_return = refl
simple_cut is_clr = refl
simple_cut is_run = refl
simple_cut (is_jump h) = refl
simple_cut (is_on h hs) = refl
simple_cut (is_for h) = ap (λ (w : Name). for w static) h.1
simple_cut is_star = refl
simple_cut (is_next h hs) = ap (next Mark.plain) (slots_cut (all∷ h hs))

-- ---- the statements of a line

straight_ok : (d : ℕ) {s : Stmts} → StraightV2 s → shallow d s ≡ true → short s ≡ true → StmtsOk d s
unfolding shallow short StmtsOk
straight_ok d empty p q = tt
straight_ok d (then_simple {s} {o} h g) p q =
    let x = both_true (shallow d s) (leb d 16) p in
    let y = both_true (short s) (leb (listed o) 64) q in
    (straight_ok d h x.0 y.0, leb-true d 16 x.1, simple_ok g, leb-true (listed o) 64 y.1)

-- its statement's depth is judged with those before it and those in it
branching_shallow : (d : ℕ) (s a : Stmts) → (shallow d s && leb d 16 && shallow (suc d) a && true) ≡ true → (shallow d s ≡ true) × (d ≤ 16) × (shallow (suc d) a ≡ true)
branching_shallow d s a p =
    let x = both_true (shallow d s && leb d 16 && shallow (suc d) a) true p in
    let y = both_true (shallow d s && leb d 16) (shallow (suc d) a) x.0 in
    let z = both_true (shallow d s) (leb d 16) y.0 in
    (z.0, leb-true d 16 z.1, y.1)

branching_short : (s a : Stmts) → (short s && short a && true) ≡ true → (short s ≡ true) × (short a ≡ true)
branching_short s a q = let x = both_true (short s && short a) true q in both_true (short s) (short a) x.0

-- in form where the depths and counts are within the limits
pub stmts_ok : (d : ℕ) {s : Stmts} → StmtsV2 s → shallow d s ≡ true → short s ≡ true → StmtsOk d s
unfolding shallow short StmtsOk BranchesOk BranchOk NoBranch
stmts_ok d (no_if h) p q = straight_ok d h p q
stmts_ok d (then_to {s} h g) p q =
    let x = branching_shallow d s ∅ p in
    let y = branching_short s ∅ q in
    (straight_ok d h x.0 y.0, x.1, ((omega arith, refl), refl), tt, tt)
stmts_ok d (then_stmts {s} {a} h g) p q =
    let x = branching_shallow d s a p in
    let y = branching_short s a q in
    (straight_ok d h x.0 y.0, x.1, (tt, refl), stmts_ok (suc d) g x.2 y.1, tt)

-- ---- names are cut already

straight_cut : {s : Stmts} → StraightV2 s → cut_stmts s ≡ s
unfolding cut_stmts
straight_cut empty = refl
straight_cut (then_simple h g) = rw (straight_cut h, simple_cut g)

stmts_cut : {s : Stmts} → StmtsV2 s → cut_stmts s ≡ s
unfolding cut_stmts
stmts_cut (no_if h) = straight_cut h
stmts_cut (then_to h g) = rw (straight_cut h)
stmts_cut (then_stmts h g) = rw (straight_cut h, stmts_cut g)

pub lines_cut : {ls : Lines} → LinesV2 ls → cut_lines ls ≡ ls
unfolding cut_lines
lines_cut no_lines = refl
lines_cut (then_line h n g) = rw (lines_cut h, stmts_cut g)
