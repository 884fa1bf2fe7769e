-- What the states of the judge stand for. Assumes nothing.
use Rattle.std.specs.Prelude.{ℕ, suc, cond, ◌+◌, ◌-◌, ◌*◌, ◌<◌, ◌≤◌, ◌≡◌, Bool, ◌&&◌, ◌||◌, ◌⊎◌, not, ltb, length, drop}
use Rattle.std.proofs.Math.Path.{refl, sym, ap}
use Rattle.std.proofs.Common.{◌∙◌, inl, inr, arith}
use mathlib.Core.List.{List, [], ◌∷◌}
use Rattle.std.proofs.Math.Bool.{true, false, and-false}
use Rattle.std.proofs.Math.Option.{none, some}
use Rattle.std.specs.List.{list_all, position_or_len}
use borrow.Author.Tests.{lt-ltb, le-ltb, le-leb, lt-leb, eq-eqb, ne_eqb, eqb-true, not-true, not-false}
use Rattle.std.proofs.Math.Dec.{eqb}
use Rattle.listings.specs.Bytes.{pick}
use Rattle.listings.specs.Rows.{is_digit}
use Rattle.listings.specs.Tests.{not_both}
use Rattle.graph.specs.Check.{outside, begins, inside, begun, outside_step, digit_step, may_end}
use Rattle.comparing.specs.Judging.{Reading, start, opened, lost, beside, stepped_to}
use Rattle.comparing.specs.declared.judge.Place.{Place}
use Rattle.comparing.specs.declared.judge.Judge.{Judge}
use Rattle.comparing.specs.declared.judge.Judge.TheVariants.{Start, Opened, Lost, Outside, Begins, Inside}

-- what is left of the form
unfoldable pub left_of : Place → List ℕ
left_of p = pick p.list (42 ∷ p.left.now) p.left.now

unfoldable pub reading_of : Judge → Reading
reading_of Start = start
reading_of Opened = opened
reading_of Lost = lost
reading_of (Outside p) = beside (outside, left_of p)
reading_of (Begins p) = beside (begins, left_of p)
reading_of (Inside v p) = beside (inside v, left_of p)

-- c stands for a list, or a number that may be missing, that byte b does not go on with
unfoldable pub passes : ℕ → ℕ → Bool
passes c b = pick (eqb c 42) (not (eqb b 32)) (pick (eqb c 37) (not (is_digit b)) (pick (eqb c 63) (not (eqb b 32)) false))

-- r is what is left of the form f behind such lists
pub record Passed (f : List ℕ) (b : ℕ) (r : List ℕ) : Type 0 where
  pub step_is : outside_step f b ≡ outside_step r b
  pub stops : (c : ℕ) (t : List ℕ) → r ≡ c ∷ t → passes c b ≡ false

-- ---- numbers

module _ (v b : ℕ) (f : List ℕ) where
  pub digit_zero : v ≡ 0 → lost ≡ stepped_to (digit_step v f b)
  unfolding digit_step stepped_to
  digit_zero e = rw (le-ltb 0 v (omega arith))

  pub digit_large : 65535 < v * 10 + (b - 48) → lost ≡ stepped_to (digit_step v f b)
  unfolding digit_step stepped_to
  digit_large h = rw (lt-leb (v * 10 + (b - 48)) 65535 h, and-false (ltb 0 v))

  pub digit_fits : 0 < v → v * 10 + (b - 48) ≤ 65535 → beside (inside (v * 10 + (b - 48)), f) ≡ stepped_to (digit_step v f b)
  unfolding digit_step stepped_to
  digit_fits g h = rw (lt-ltb 0 v g, le-leb (v * 10 + (b - 48)) 65535 h)

pub begin_digit : (b : ℕ) (f : List ℕ) → is_digit b ≡ true → beside (inside (b - 48), f) ≡ stepped_to (begun f b)
unfolding begun stepped_to
begin_digit b f h = rw h

pub begin_none : (b : ℕ) (f : List ℕ) → is_digit b ≡ false → lost ≡ stepped_to (begun f b)
unfolding begun stepped_to
begin_none b f h = rw h

-- ---- outside numbers

-- what a form that goes on with c and then f makes of byte b
module _ (f : List ℕ) (b : ℕ) where
  at_list : outside_step (42 ∷ f) b ≡ pick (eqb b 32) (some (begins, 42 ∷ f)) (outside_step f b)
  unfolding outside_step
  at_list = refl

  at_path : outside_step (37 ∷ f) b ≡ pick (is_digit b) (begun (42 ∷ f) b) (outside_step f b)
  unfolding outside_step
  at_path = refl

  at_one : outside_step (63 ∷ f) b ≡ pick (eqb b 32) (some (begins, f)) (outside_step f b)
  unfolding outside_step
  at_one = refl

  pub at_number : (c : ℕ) → c ≡ 35 → outside_step (c ∷ f) b ≡ begun f b
  unfolding outside_step
  at_number c e = ap (λ (x : ℕ). outside_step (x ∷ f) b) e

  pub list_passed : (c : ℕ) → passes c b ≡ true → outside_step (c ∷ f) b ≡ outside_step f b
  unfolding passes
  list_passed c h = go (eqb c 42) refl (eqb c 37) refl (eqb c 63) refl h
    where
      go : (x : Bool) → eqb c 42 ≡ x → (y : Bool) → eqb c 37 ≡ y → (z : Bool) → eqb c 63 ≡ z → pick x (not (eqb b 32)) (pick y (not (is_digit b)) (pick z (not (eqb b 32)) false)) ≡ true
          → outside_step (c ∷ f) b ≡ outside_step f b
      go true p y q z o k = ap (λ (z : ℕ). outside_step (z ∷ f) b) (eqb-true c 42 p) ∙ at_list ∙ ap (λ (z : Bool). pick z (some (begins, 42 ∷ f)) (outside_step f b)) (not-true (eqb b 32) k)
      go false p true q z o k = ap (λ (z : ℕ). outside_step (z ∷ f) b) (eqb-true c 37 q) ∙ at_path ∙ ap (λ (z : Bool). pick z (begun (42 ∷ f) b) (outside_step f b)) (not-true (is_digit b) k)
      go false p false q true o k = ap (λ (z : ℕ). outside_step (z ∷ f) b) (eqb-true c 63 o) ∙ at_one ∙ ap (λ (z : Bool). pick z (some (begins, f)) (outside_step f b)) (not-true (eqb b 32) k)
      go false p false q false o k = absurd (not_both (sym k))

  -- a number that may be missing, and b begins it
  pub one_begins : (c : ℕ) → c ≡ 63 → passes c b ≡ false → outside_step (c ∷ f) b ≡ some (begins, f)
  unfolding passes
  one_begins c e h =
      ap (λ (z : ℕ). outside_step (z ∷ f) b) e ∙ at_one ∙ ap (λ (z : Bool). pick z (some (begins, f)) (outside_step f b)) (not-false (eqb b 32) (ap (λ (z : ℕ). passes z b) (sym e) ∙ h))

  -- a list that b goes on with
  pub list-begins : (c : ℕ) → c ≡ 42 → passes c b ≡ false → outside_step (c ∷ f) b ≡ some (begins, 42 ∷ f)
  unfolding passes
  list-begins c e h =
      ap (λ (z : ℕ). outside_step (z ∷ f) b) e ∙ at_list ∙ ap (λ (z : Bool). pick z (some (begins, 42 ∷ f)) (outside_step f b)) (not-false (eqb b 32) (ap (λ (z : ℕ). passes z b) (sym e) ∙ h))

  pub path_begins : (c : ℕ) → c ≡ 37 → passes c b ≡ false → outside_step (c ∷ f) b ≡ begun (42 ∷ f) b
  unfolding passes
  path_begins c e h =
      ap (λ (z : ℕ). outside_step (z ∷ f) b) e ∙ at_path ∙ ap (λ (z : Bool). pick z (begun (42 ∷ f) b) (outside_step f b)) (not-false (is_digit b) (ap (λ (z : ℕ). passes z b) (sym e) ∙ h))

  -- a byte of the form itself
  module _ (c : ℕ) (n35 : c ≡ 35 → ⊥) (n42 : c ≡ 42 → ⊥) (n37 : c ≡ 37 → ⊥) (n63 : c ≡ 63 → ⊥) where
    at_byte : outside_step (c ∷ f) b ≡ pick (eqb c b) (some (outside, f)) none
    unfolding outside_step
    at_byte = rw (ne_eqb c 35 n35, ne_eqb c 42 n42, ne_eqb c 37 n37, ne_eqb c 63 n63)

    pub byte_met : c ≡ b → outside_step (c ∷ f) b ≡ some (outside, f)
    byte_met e = at_byte ∙ ap (λ (z : Bool). pick z (some (outside, f)) none) (eq-eqb c b e)

    pub byte_missed : (c ≡ b → ⊥) → outside_step (c ∷ f) b ≡ none
    byte_missed e = at_byte ∙ ap (λ (z : Bool). pick z (some (outside, f)) none) (ne_eqb c b e)

-- ---- lists passed

-- how many such lists stand at the front
unfoldable pub lists_in_front : ℕ → List ℕ → ℕ
lists_in_front b f = position_or_len (λ c. not (passes c b)) f

pub front_passed : (b : ℕ) (f : List ℕ) → Passed f b (drop (lists_in_front b f) f)
unfolding lists_in_front
front_passed b [] = record { step_is = refl; stops = λ c t e. absurd (cc) }
front_passed b (c ∷ f) = go (passes c b) refl (front_passed b f)
  where
    rest : List ℕ
    rest = drop (position_or_len (λ x. not (passes x b)) f) f

    go : (z : Bool) → passes c b ≡ z → Passed f b rest → Passed (c ∷ f) b (drop (cond (not (not z)) (1 + position_or_len (λ x. not (passes x b)) f) 0) (c ∷ f))
    go true e p =
        let q : 1 + position_or_len (λ x. not (passes x b)) f ≡ suc (position_or_len (λ x. not (passes x b)) f) = omega arith in
        rw q (record { step_is = list_passed f b c e ∙ p.step_is; stops = p.stops })
    go false e p = record { step_is = refl; stops = λ d t q. let z : c ≡ d = cc in rw (← z) e }

-- ---- one byte outside numbers, behind the lists passed

module _ (f : List ℕ) (b : ℕ) (r : List ℕ) (p : Passed f b r) where
  pub step-ends : length r ≡ 0 → lost ≡ stepped_to (outside_step f b)
  unfolding stepped_to outside_step
  step-ends e = sym (ap stepped_to (p.step_is ∙ go r e))
    where
      go : (l : List ℕ) → length l ≡ 0 → outside_step l b ≡ none
      go [] q = refl
      go (c ∷ l) q = absurd (omega arith)

  module _ (c : ℕ) (t : List ℕ) (e : r ≡ c ∷ t) where
    here : outside_step f b ≡ outside_step (c ∷ t) b
    here = p.step_is ∙ ap (λ (z : List ℕ). outside_step z b) e

    pub step_number : c ≡ 35 → {s : Reading} → s ≡ stepped_to (begun t b) → s ≡ stepped_to (outside_step f b)
    step_number q k = k ∙ sym (ap stepped_to (here ∙ at_number t b c q))

    pub step-list : c ≡ 42 → beside (begins, 42 ∷ t) ≡ stepped_to (outside_step f b)
    unfolding stepped_to
    step-list q = sym (ap stepped_to (here ∙ list-begins t b c q (p.stops c t e)))

    pub step_path : c ≡ 37 → {s : Reading} → s ≡ stepped_to (begun (42 ∷ t) b) → s ≡ stepped_to (outside_step f b)
    step_path q k = k ∙ sym (ap stepped_to (here ∙ path_begins t b c q (p.stops c t e)))

    pub step_one : c ≡ 63 → beside (begins, t) ≡ stepped_to (outside_step f b)
    unfolding stepped_to
    step_one q = sym (ap stepped_to (here ∙ one_begins t b c q (p.stops c t e)))

    module _ (n35 : c ≡ 35 → ⊥) (n42 : c ≡ 42 → ⊥) (n37 : c ≡ 37 → ⊥) (n63 : c ≡ 63 → ⊥) where
      pub step-met : c ≡ b → beside (outside, t) ≡ stepped_to (outside_step f b)
      unfolding stepped_to
      step-met q = sym (ap stepped_to (here ∙ byte_met t b c n35 n42 n37 n63 q))

      pub step_missed : (c ≡ b → ⊥) → lost ≡ stepped_to (outside_step f b)
      unfolding stepped_to
      step_missed q = sym (ap stepped_to (here ∙ byte_missed t b c n35 n42 n37 n63 q))

-- a list that is left: one more number, or what follows it
module _ (p : Place) (b : ℕ) where
  pub list_goes_on : p.list ≡ true → b ≡ 32 → reading_of (Begins p) ≡ stepped_to (outside_step (left_of p) b)
  unfolding left_of reading_of stepped_to
  list_goes_on e q =
      ap (λ (z : Bool). beside (begins, pick z (42 ∷ p.left.now) p.left.now)) e
      ∙ sym (ap (λ (z : Bool). stepped_to (outside_step (pick z (42 ∷ p.left.now) p.left.now) b)) e
      ∙ ap stepped_to (at_list p.left.now b ∙ ap (λ (z : Bool). pick z (some (begins, 42 ∷ p.left.now)) (outside_step p.left.now b)) (eq-eqb b 32 q)))

  pub form_goes_on : {r : Reading} → r ≡ stepped_to (outside_step p.left.now b) → ((p.list ≡ true) × (b ≡ 32 → ⊥)) ⊎ (p.list ≡ false) → r ≡ stepped_to (outside_step (left_of p) b)
  unfolding left_of
  form_goes_on k (inl h) =
      k ∙ sym (ap (λ (z : Bool). stepped_to (outside_step (pick z (42 ∷ p.left.now) p.left.now) b)) h.0
      ∙ ap stepped_to (at_list p.left.now b ∙ ap (λ (z : Bool). pick z (some (begins, 42 ∷ p.left.now)) (outside_step p.left.now b)) (ne_eqb b 32 h.1)))
  form_goes_on k (inr h) = k ∙ sym (ap (λ (z : Bool). stepped_to (outside_step (pick z (42 ∷ p.left.now) p.left.now) b)) h)

-- ---- where a form may end

pub ends_with_lists : (f : List ℕ) → list_all (λ c. eqb c 42 || (eqb c 37 || eqb c 63)) f ≡ may_end f
unfolding may_end
ends_with_lists [] = refl
ends_with_lists (c ∷ f) = ap (λ (z : Bool). (eqb c 42 || (eqb c 37 || eqb c 63)) && z) (ends_with_lists f)

-- an open list may end
pub left-ends : (p : Place) → may_end p.left.now ≡ may_end (left_of p)
unfolding left_of may_end
left-ends p = go p.list
  where
    go : (z : Bool) → may_end p.left.now ≡ may_end (pick z (42 ∷ p.left.now) p.left.now)
    go true = refl
    go false = refl
