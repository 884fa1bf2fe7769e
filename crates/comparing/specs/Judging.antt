-- A row of a graph judged byte by byte: which form it can still be, and where in it. Assumes nothing.
use Rattle.std.specs.Prelude.{ℕ, ◌≡◌, List, [], ◌∷◌, Bool, ◌||◌, drop, get_or}
use Rattle.std.proofs.Math.Path.{refl, subst}
use Rattle.std.proofs.Common.{sym, ◌∙◌, eqb-true}
use Rattle.std.proofs.Math.Option.{Option, none, some}
use Rattle.std.proofs.Math.Bool.{true, false, or-false}
use Rattle.std.proofs.Math.Dec.{eqb}
use Rattle.listings.specs.Bytes.{bytes, pick}
use Rattle.graph.specs.Check.{row_forms, outside, Left, begun, outside_step, step, may_end, ends, fits_from, fits, fits_one, is_graph_row}

-- nothing read; a bracket; beside the only form that is left; beside none
pub data Reading : Type 0 where
  start opened lost : Reading
  beside : Left → Reading

-- form k from its third byte on
unfoldable pub form_rest : ℕ → List ℕ
form_rest k = drop 2 (get_or row_forms k [])

-- the second byte tells the forms apart
unfoldable pub chosen : ℕ → Reading
chosen b =
    pick (eqb 103 b) (beside (outside, form_rest 0))
    (pick (eqb 110 b) (beside (outside, form_rest 1))
    (pick (eqb 101 b) (beside (outside, form_rest 2))
    (pick (eqb 114 b) (beside (outside, form_rest 3))
    (pick (eqb 98 b) (beside (outside, form_rest 4)) lost))))

unfoldable pub stepped_to : Option Left → Reading
stepped_to none = lost
stepped_to (some d) = beside d

-- one byte more of a row
unfoldable pub met : Reading → ℕ → Reading
met start b = pick (eqb 40 b) opened (pick (eqb 41 b) (beside (outside, [])) lost)
met opened b = chosen b
met lost b = lost
met (beside d) b = stepped_to (step d.0 d.1 b)

unfoldable pub met_all : Reading → List ℕ → Reading
met_all r [] = r
met_all r (b ∷ w) = met_all (met r b) w

-- whether the row is in form if it ends here
unfoldable pub good : Reading → Bool
good start = false
good opened = false
good lost = false
good (beside d) = ends d.0 d.1

-- ---- a row is judged as the definition has it

lost_stays : (w : List ℕ) → good (met_all lost w) ≡ false
unfolding met_all met good
lost_stays [] = refl
lost_stays (b ∷ w) = lost_stays w

stepped_fits : (o : Option Left) (w : List ℕ) → ((d : Left) → good (met_all (beside d) w) ≡ fits_from d.0 d.1 w)
    → good (met_all (stepped_to o) w) ≡ elim o [ none ↦ false | some d ↦ fits_from d.0 d.1 w ]
unfolding stepped_to
stepped_fits none w h = lost_stays w
stepped_fits (some d) w h = h d

beside_fits : (w : List ℕ) (d : Left) → good (met_all (beside d) w) ≡ fits_from d.0 d.1 w
unfolding met_all met good fits_from
beside_fits [] d = refl
beside_fits (b ∷ w) d = stepped_fits (step d.0 d.1 b) w (beside_fits w)

-- a form that one byte leaves or not
unfoldable leaves : Bool → List ℕ → List ℕ → Bool
leaves x f w = elim (pick {A = Option Left} x (some (outside, f)) none) [ none ↦ false | some d ↦ fits_from d.0 d.1 w ]

-- behind the bracket the letter leaves one form at most
module _ (w : List ℕ) where
  abbrev OneLeft : ℕ → Type 0
  OneLeft b = good (met_all (chosen b) w) ≡ fits_one row_forms (40 ∷ b ∷ w)

  this_form : (f : List ℕ) → good (met_all (beside (outside, f)) w) ≡ (fits_from outside f w || false)
  this_form f = beside_fits w (outside, f) ∙ sym (or-false (fits_from outside f w))

  -- the same by the five tests
  abbrev ByTests : (g n e r k : Bool) → Type 0
  ByTests g n e r k =
      good (met_all (pick g (beside (outside, form_rest 0)) (pick n (beside (outside, form_rest 1)) (pick e (beside (outside, form_rest 2)) (pick r (beside (outside, form_rest 3)) (pick k (beside (outside, form_rest 4)) lost))))) w)
      ≡ (leaves g (form_rest 0) w || (leaves n (form_rest 1) w || (leaves e (form_rest 2) w || (leaves r (form_rest 3) w || (leaves k (form_rest 4) w || (false || false))))))

  none_left : (g n e r k : Bool) → g ≡ false → n ≡ false → e ≡ false → r ≡ false → k ≡ false → ByTests g n e r k
  unfolding leaves
  none_left g n e r k p q s t u =
      subst (λ x. ByTests x n e r k) (sym p) (subst (λ x. ByTests false x e r k) (sym q) (subst (λ x. ByTests false false x r k) (sym s) (subst (λ x. ByTests false false false x k) (sym t) (subst (λ x. ByTests false false false false x) (sym u) (lost_stays w)))))

  opened-fits : (b : ℕ) → OneLeft b
  unfolding chosen form_rest fits_one fits row_forms bytes fits_from outside_step begun step leaves
  opened-fits b = graph (eqb 103 b) refl
    where
      back : eqb 103 b ≡ false → eqb 110 b ≡ false → eqb 101 b ≡ false → eqb 114 b ≡ false → (x : Bool) → eqb 98 b ≡ x → OneLeft b
      back p q r s true t = subst OneLeft (eqb-true 98 b t) (this_form _)
      back p q r s false t = none_left (eqb 103 b) (eqb 110 b) (eqb 101 b) (eqb 114 b) (eqb 98 b) p q r s t

      returns : eqb 103 b ≡ false → eqb 110 b ≡ false → eqb 101 b ≡ false → (x : Bool) → eqb 114 b ≡ x → OneLeft b
      returns p q r true t = subst OneLeft (eqb-true 114 b t) (this_form _)
      returns p q r false t = back p q r t (eqb 98 b) refl

      entry : eqb 103 b ≡ false → eqb 110 b ≡ false → (x : Bool) → eqb 101 b ≡ x → OneLeft b
      entry p q true t = subst OneLeft (eqb-true 101 b t) (this_form _)
      entry p q false t = returns p q t (eqb 114 b) refl

      node : eqb 103 b ≡ false → (x : Bool) → eqb 110 b ≡ x → OneLeft b
      node p true t = subst OneLeft (eqb-true 110 b t) (this_form _)
      node p false t = entry p t (eqb 101 b) refl

      graph : (x : Bool) → eqb 103 b ≡ x → OneLeft b
      graph true t = subst OneLeft (eqb-true 103 b t) (this_form _)
      graph false t = node t (eqb 110 b) refl

-- ---- the first byte

abbrev Begun : List ℕ → ℕ → Type 0
Begun w b = good (met_all (met start b) w) ≡ is_graph_row (b ∷ w)

opened_alone : (w : List ℕ) → Begun w 40
unfolding met_all met good is_graph_row fits_one fits row_forms bytes fits_from outside_step begun step ends may_end
opened_alone [] = refl
opened_alone (b ∷ w) = opened-fits w b

closed_alone : (w : List ℕ) → Begun w 41
unfolding met is_graph_row fits_one fits row_forms bytes fits_from outside_step begun step
closed_alone w = beside_fits w (outside, []) ∙ sym (or-false (fits_from outside [] w))

-- neither bracket
module _ (w : List ℕ) where
  abbrev ByBrackets : (x y : Bool) → Type 0
  ByBrackets x y =
      good (met_all (pick x opened (pick y (beside (outside, [])) lost)) w)
      ≡ (leaves x (103 ∷ form_rest 0) w || (leaves x (110 ∷ form_rest 1) w || (leaves x (101 ∷ form_rest 2) w || (leaves x (114 ∷ form_rest 3) w || (leaves x (98 ∷ form_rest 4) w || (leaves y [] w || false))))))

  no_bracket_lem : (x y : Bool) → x ≡ false → y ≡ false → ByBrackets x y
  unfolding leaves
  no_bracket_lem x y p q = subst (λ z. ByBrackets z y) (sym p) (subst (λ z. ByBrackets false z) (sym q) (lost_stays w))

  first_byte : (b : ℕ) → Begun w b
  unfolding met is_graph_row form_rest fits_one fits row_forms bytes fits_from outside_step begun step leaves
  first_byte b = bracket (eqb 40 b) refl
    where
      close : eqb 40 b ≡ false → (y : Bool) → eqb 41 b ≡ y → Begun w b
      close p true q = subst (Begun w) (eqb-true 41 b q) (closed_alone w)
      close p false q = no_bracket_lem (eqb 40 b) (eqb 41 b) p q

      bracket : (x : Bool) → eqb 40 b ≡ x → Begun w b
      bracket true p = subst (Begun w) (eqb-true 40 b p) (opened_alone w)
      bracket false p = close p (eqb 41 b) refl

-- the judge's word on a row is the definition's
pub judged : (w : List ℕ) → good (met_all start w) ≡ is_graph_row w
unfolding met_all good is_graph_row fits_one fits row_forms bytes fits_from ends may_end
judged [] = refl
judged (b ∷ w) = first_byte w b
