-- A branch of an IF, as its record has it, and where it leads. Assumes nothing.
use Rattle.std.specs.Prelude.{ℕ, ◌≡◌, ◌<◌, ◌≤◌, refl, List, eqb, Bool, true, false, Option, None, Some}
use Rattle.std.proofs.Common.{sym, subst, ◌∙◌, ⊎_elim}
use borrow.Author.Tests.{eqb-true, eq-eqb, lt-ltb, le-ltb}
use Rattle.listings.specs.Bytes.{pick}
use Rattle.passes.specs.Compare.{lt-or}
use Rattle.passes.specs.Connecting.{no, led_line, led_none, led_first, led_empty}
use Rattle.passes.specs.Falls.{target_of, BranchLed}
use Rattle.passes.specs.LineSearch.{EntryFound}
use Rattle.reader.specs.Branch.{branch_of}
use Rattle.reader.specs.declared.branch.Branch.{Branch}
use Rattle.reader.specs.declared.branch.Branch.TheVariants as branch

-- where the branch leads, whatever form and number it was read from
abbrev pub Led : (entries : List ℕ) (k : ℕ) (b : Option Branch) (from end next r : ℕ) → Type 0
Led entries k b from end next r = (form number : ℕ) → b ≡ branch_of form number → BranchLed entries k form number from end next r

-- ---- what form and what number it was read from

none_form : (form number : ℕ) → None ≡ branch_of form number → form ≡ 0
none_form form number e = go (eqb form 0) (eqb form 2) refl e
  where
    go : (x y : Bool) → eqb form 0 ≡ x → None ≡ pick x None (pick y (Some (branch.To number)) (Some branch.Stmts)) → form ≡ 0
    go true y q h = eqb-true form 0 q
    go false true q h = absurd (cc)
    go false false q h = absurd (cc)

to_form : (form number n : ℕ) → Some (branch.To n) ≡ branch_of form number → (form ≡ 2) × (number ≡ n)
to_form form number n e = go (eqb form 0) (eqb form 2) refl e
  where
    go : (x y : Bool) → eqb form 2 ≡ y → Some (branch.To n) ≡ pick x None (pick y (Some (branch.To number)) (Some branch.Stmts)) → (form ≡ 2) × (number ≡ n)
    go true y q h = absurd (cc)
    go false true q h = (eqb-true form 2 q, let z : number ≡ n = cc in z)
    go false false q h = absurd (cc)

stmts_form : (form number : ℕ) → Some branch.Stmts ≡ branch_of form number → (form ≡ 2 → ⊥) × (form ≡ 0 → ⊥)
stmts_form form number e = go (eqb form 0) (eqb form 2) refl refl e
  where
    go : (x y : Bool) → eqb form 0 ≡ x → eqb form 2 ≡ y → Some branch.Stmts ≡ pick x None (pick y (Some (branch.To number)) (Some branch.Stmts)) → (form ≡ 2 → ⊥) × (form ≡ 0 → ⊥)
    go true y p q h = absurd (cc)
    go false true p q h = absurd (cc)
    go false false p q h = (λ z. no (sym (eq-eqb form 2 z) ∙ q), λ z. no (sym (eq-eqb form 0 z) ∙ p))

-- ---- where each leads

module _ (entries : List ℕ) (k from end next : ℕ) where
  pub led_absent : (b : Option Branch) → b ≡ None → Led entries k b from end next next
  led_absent b z form number e = led_none entries k form number from end next (none_form form number (sym z ∙ e))

  pub led_to : (b : Option Branch) (n r : ℕ) → b ≡ Some (branch.To n) → EntryFound entries k n r → Led entries k b from end next r
  led_to b n r z f form number e =
      let q = to_form form number n (sym z ∙ e) in
      led_line entries k form number from end next r q.0 (subst (λ (x : ℕ). EntryFound entries k x r) (sym q.1) f)

  pub led_stmts : (b : Option Branch) (r : ℕ) → b ≡ Some branch.Stmts → r ≡ target_of from end next → Led entries k b from end next r
  led_stmts b r z f form number e =
      let q = stmts_form form number (sym z ∙ e) in
      ⊎_elim (λ (h : from < end). led_first entries k form number from end next r q.0 q.1 h (f ∙ rw (lt-ltb from end h)))
      (λ (h : end ≤ from). let y : r ≡ next = f ∙ rw (le-ltb from end h) in rw y (led_empty entries k form number from end next q.0 q.1 h)) (lt-or from end)
