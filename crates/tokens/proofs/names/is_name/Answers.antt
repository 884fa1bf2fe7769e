-- `is_name`: a capital and then letters up to i, so what is left of a name's end decides. Assumes nothing.
use Rattle.std.proofs.Common.{arith, refl, sym, ◌∙◌, ◌≡◌, ◌<◌, ◌≤◌, ◌-◌, ◌+◌, ◌&&◌, ◌||◌, Bool, true, false, suc, eqb, length, drop, get_or, List, ℕ}
use Rattle.listings.specs.Rows.{is_name, name_end}
use Rattle.listings.specs.Scan.{rest_all, same-nil}
use Rattle.tokens.specs.Names.{end_test, is_suffix, name_end_lem, name-first, name_full, name-none, name_on, name_stop}
use Rattle.tokens.proofs.names.is_name.Goals as goal
use Rattle.tokens.proofs.names.is_name.Goals.{then-i-eq7-via-then-i-eq7, then-i-eq7-via-else-i-eq7+then-not-is_letter}

pub returns-in_default : goal.returns-in_default
returns-in_default c = sym (name-none c.args.w.now (omega arith))

pub returns-then-not-is_capital : goal.returns-then-not-is_capital
returns-then-not-is_capital c = sym (name-first c.args.w.now (omega arith) ∙ rw (sym c.is_capital.ensures ∙ c.if-not-is_capital.true) refl)

pub loop-i-init : goal.loop-i-init
loop-i-init c = (omega arith, sym (name-first c.args.w.now (omega arith) ∙ rw (sym c.is_capital.ensures ∙ c.if-not-is_capital.false) refl))

-- where the letters stop, the rest is a suffix or not
stopped : (w : List ℕ) (i : ℕ) (t : Bool) → (eqb (get_or (drop 1 w) i 0) 37 || eqb (get_or (drop 1 w) i 0) 36) ≡ t → i < length (drop 1 w) → name_end (7 - i) (drop i (drop 1 w)) ≡ is_suffix (get_or (drop 1 w) i 0) (drop (suc i) (drop 1 w))
    → name_end (7 - i) (drop i (drop 1 w)) ≡ is_name w → (t && eqb (i + 1) (length (drop 1 w))) ≡ is_name w
stopped w i t s k e h = go t s ∙ sym e ∙ h
  where
    go : (t : Bool) → (eqb (get_or (drop 1 w) i 0) 37 || eqb (get_or (drop 1 w) i 0) 36) ≡ t → (t && eqb (i + 1) (length (drop 1 w))) ≡ is_suffix (get_or (drop 1 w) i 0) (drop (suc i) (drop 1 w))
    go true s = rw (s, same-nil) (end_test (drop 1 w) i k)
    go false s = rw s refl

pub returns-then-is_suffix : goal.returns-then-is_suffix
returns-then-is_suffix c =
    let w = c.args.w.now in
    let l = drop 1 w in
    let i = c.loop-i.i in
    let k : i < length l = rw (rest_all w 1) at c.loop-i-test.true in
    let e : name_end (7 - i) (drop i l) ≡ is_suffix (get_or l i 0) (drop (suc i) l) = elim c.then-i-eq7.branch [
      | then-i-eq7-via-then-i-eq7 v ↦ name_full l i (7 - i) k (omega (arith, v.if-i-eq7.true))
      | then-i-eq7-via-else-i-eq7+then-not-is_letter v ↦
          let t = sym v.is_letter.ensures ∙ v.if-not-is_letter.true in
          name_stop l i (7 - i) (6 - i) k (omega (arith, v.if-i-eq7.false)) (rw (rest_all w 1) at t)
    ] in
    let s = sym c.is_suffix.ensures ∙ c.if-is_suffix.true in
    rw (rest_all w 1) (stopped w i true (rw (rest_all w 1) at s) k e c.loop-i.invariant.1)

pub returns-else-is_suffix : goal.returns-else-is_suffix
returns-else-is_suffix c =
    let w = c.args.w.now in
    let l = drop 1 w in
    let i = c.loop-i.i in
    let k : i < length l = rw (rest_all w 1) at c.loop-i-test.true in
    let e : name_end (7 - i) (drop i l) ≡ is_suffix (get_or l i 0) (drop (suc i) l) = elim c.then-i-eq7.branch [
      | then-i-eq7-via-then-i-eq7 v ↦ name_full l i (7 - i) k (omega (arith, v.if-i-eq7.true))
      | then-i-eq7-via-else-i-eq7+then-not-is_letter v ↦
          let t = sym v.is_letter.ensures ∙ v.if-not-is_letter.true in
          name_stop l i (7 - i) (6 - i) k (omega (arith, v.if-i-eq7.false)) (rw (rest_all w 1) at t)
    ] in
    let s = sym c.is_suffix.ensures ∙ c.if-is_suffix.false in
    c.if-is_suffix.false ∙ (stopped w i false (rw (rest_all w 1) at s) k e c.loop-i.invariant.1)

pub loop-i-preserved : goal.loop-i-preserved
loop-i-preserved c =
    let w = c.args.w.now in
    let k : c.loop-i.i < length (drop 1 w) = rw (rest_all w 1) at c.loop-i-test.true in
    let e = sym c.is_letter.ensures ∙ c.if-not-is_letter.false in
    (omega arith, name_on (drop 1 w) c.loop-i.i k (omega arith) (rw (rest_all w 1) at e) ∙ c.loop-i.invariant.1)

pub returns : goal.returns
returns c =
    let w = c.args.w.now in
    let k : length (drop 1 w) ≤ c.loop-i.i = rw (rest_all w 1) at c.loop-i-test.false in
    sym (name_end_lem (7 - c.loop-i.i) (drop 1 w) c.loop-i.i k) ∙ c.loop-i.invariant.1
