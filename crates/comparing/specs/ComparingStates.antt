-- What the states of a comparison stand for, and what its answer says. Assumes nothing.
use Rattle.std.specs.Prelude.{Result, Ok, Err, ℕ, suc, ◌+◌, ◌<◌, ◌≤◌, ◌≡◌, cond, Bool, true, false, eqb, length, take, drop, get_or}
use Rattle.std.proofs.Math.Path.{refl, sym, ap}
use Rattle.std.specs.List.{filter}
use Rattle.std.proofs.Common.{◌∙◌, add-one, drop_of_length-le, drop-cons, take-suc}
use mathlib.Core.List.{List, [], ◌∷◌}
use Rattle.std.proofs.Common.{Bor, Option as StdOption, Some, None, le_refl}
use Rattle.std.specs.Option.{option_eq}
use Rattle.std.specs.Slice.{IsItemAt}
use Rattle.listings.specs.Bytes.{pick}
use Rattle.graph.specs.Check as check
use Rattle.comparing.specs.Comparing.{Standing, same, differs, ended, begins, fed_byte, fed, rows_ended, is_start, nothing}
use Rattle.comparing.specs.ComparingLaws.{fed-append}
use Rattle.comparing.specs.JudgeStates.{reading_of}
use Rattle.comparing.specs.declared.judge.Judge.{Judge}
use Rattle.comparing.specs.declared.judge.Judge.TheVariants.{Start, Opened, Lost, Outside, Begins, Inside}
use Rattle.comparing.specs.declared.compare.Comparing.{Comparing}
use Rattle.comparing.specs.declared.compare.Comparing.TheVariants.{Same, Differs, Ended}
use Rattle.layout.specs.declared.refusals.Refusal.{Refusal}
use Rattle.layout.specs.Refusals.{refusal_pair}

-- by what a refusal tells, its number and its place
unfoldable pub standing_as : {R : Type 0} → (R → ℕ × ℕ) → Comparing R → Standing
standing_as f (Same r) = same r.at (reading_of r.judge)
standing_as f (Differs r) = differs r.at (reading_of r.judge)
standing_as f (Ended r) = ended (f r).0 (f r).1

-- the number and the place of each verdict
unfoldable pub verdict_as : {R : Type 0} → (R → ℕ × ℕ) → Result (Unit {0}) R → check.Verdict
verdict_as f (Ok u) = check.right
verdict_as f (Err r) = check.wrong (f r).0 (f r).1

-- the same of the papers' refusals
abbrev pub standing_of : Comparing Refusal → Standing
standing_of = standing_as refusal_pair

abbrev pub verdict_of : Result (Unit {0}) Refusal → check.Verdict
verdict_of = verdict_as refusal_pair

-- ---- the byte due

module _ (due : List ℕ) (at b : ℕ) where
  pub due_here : at < length due → begins (drop at due) b ≡ eqb (get_or due at 0) b
  unfolding begins
  due_here h = ap (λ (l : List ℕ). begins l b) (drop-cons due at 0 h)

  pub due_none : length due ≤ at → false ≡ begins (drop at due) b
  unfolding begins
  due_none h = sym (ap (λ (l : List ℕ). begins l b) (drop_of_length-le due h))

  pub due_told : (r : StdOption (Bor ℕ)) (x : Bor ℕ) (t : Bool) → IsItemAt due at r → b ≡ x.now → t ≡ option_eq {T = Bor ℕ} (λ u v. eqb u.now v.now) r (Some x)
      → (t ≡ begins (drop at due) b) × (t ≡ true → at < length due)
  due_told None x t h g e = (e ∙ due_none h.3, λ q. absurd cc)
  due_told (Some d) x t h g e =
      let n : d.now ≡ get_or due at 0 = h.4 (le_refl at) 0 in
      (e ∙ ap (λ (z : ℕ). eqb z x.now) n ∙ ap (eqb (get_or due at 0)) (sym g) ∙ sym (due_here h.3.0), λ q. h.3.0)

  pub nothing_left : length due ≤ at → nothing (drop at due) ≡ true
  unfolding nothing
  nothing_left h = ap nothing (drop_of_length-le due h)

  pub something_left : at < length due → nothing (drop at due) ≡ false
  unfolding nothing
  something_left h = ap nothing (drop-cons due at 0 h)

-- ---- turns

pub fed_more : (due : List ℕ) (s : Standing) (g : List ℕ) (i : ℕ) → i < length g → fed_byte due (fed due s (take i g)) (get_or g i 0) ≡ fed due s (take (i + 1) g)
unfolding fed
fed_more due s g i h = sym (ap (λ (n : ℕ). fed due s (take n g)) (add-one i) ∙ ap (fed due s) (take-suc g i 0 h) ∙ fed-append due s (take i g) (get_or g i 0 ∷ []))

-- the bytes 10 end rows
pub rows_counted : (t : List ℕ) → length (filter (λ b. eqb b 10) t) ≡ rows_ended t
unfolding rows_ended
rows_counted [] = refl
rows_counted (b ∷ t) = go (eqb b 10) (rows_counted t)
  where
    go : (x : Bool) → length (filter (λ c. eqb c 10) t) ≡ rows_ended t → length (cond x (b ∷ filter (λ c. eqb c 10) t) (filter (λ c. eqb c 10) t)) ≡ pick x (suc (rows_ended t)) (rows_ended t)
    go true e = ap suc e
    go false e = e

-- whatever a judge has met but nothing
pub begun_lem : (j : Judge) → (j ≡ Start → ⊥) → false ≡ is_start (reading_of j)
unfolding is_start reading_of
begun_lem Start n = absurd (n refl)
begun_lem Opened n = refl
begun_lem Lost n = refl
begun_lem (Outside p) n = refl
begun_lem (Begins p) n = refl
begun_lem (Inside v p) n = refl
