-- Words of the definition that std has too, as code answers them. Assumes nothing.
use Rattle.std.specs.Prelude.{ℕ, ◌≡◌, refl, Bool, ◌||◌, List, [], ◌∷◌, eqb, nat_eq}
use Rattle.std.specs.List.{list_any}
use Rattle.std.proofs.Common.{sym, ap, ◌∙◌}
use Rattle.std.proofs.Math.Decide.{ℕ_discrete}
use Rattle.std.proofs.lemmas.Bool.{eq-eqb, ne_eqb}
use Rattle.graph.specs.Lists.{has}

pub same_turned : (a b : ℕ) → eqb a b ≡ eqb b a
same_turned a b = elim (ℕ_discrete a b) [ yes e ↦ eq-eqb a b e ∙ sym (eq-eqb b a (sym e)) | no n ↦ ne_eqb a b n ∙ sym (ne_eqb b a (λ e. n (sym e))) ]

pub has_any : (a : ℕ) (l : List ℕ) → list_any (λ y. nat_eq y a) l ≡ has a l
unfolding has
has_any a [] = refl
has_any a (b ∷ l) = ap (λ (x : Bool). x || list_any (λ y. nat_eq y a) l) (same_turned b a) ∙ ap (λ (x : Bool). eqb a b || x) (has_any a l)
