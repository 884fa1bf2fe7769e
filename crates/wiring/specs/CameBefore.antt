-- Whether a slot before selects all that a slot does, in the library's word. Assumes nothing.
use Rattle.std.specs.Prelude.{ℕ, ◌≡◌, refl, List, [], ◌∷◌}
use Rattle.std.specs.List.{list_any}
use Rattle.passes.specs.NextBodies.{selects_key, came_before}

pub came_any : (vs : List ℕ) (key : ℕ) → list_any (λ v. selects_key v key) vs ≡ came_before vs key
unfolding came_before
came_any [] key = refl
came_any (v ∷ vs) key = rw (came_any vs key)
