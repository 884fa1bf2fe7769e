-- Whether each inner statement was found, as the laws of the passes have it: nothing is refused. Assumes nothing.
use Rattle.std.specs.Prelude.{◌≡◌, refl, Bool, true, false, is_err, Result, Ok, Err}
use Rattle.layout.specs.declared.refusals.Refusal.{Refusal}

abbrev pub all_found : {E : Type 0} → Result (Unit {0}) E → Bool
all_found (Ok u) = true
all_found (Err r) = false

-- nothing is refused, or one refusal
pub none_refused : (r : Result (Unit {0}) Refusal) → is_err r ≡ false → r ≡ Ok tt
none_refused (Ok tt) e = refl
none_refused (Err y) e = absurd (cc)

pub one_refused : (r : Result (Unit {0}) Refusal) → is_err r ≡ true → (y : Refusal) × (r ≡ Err y)
one_refused (Ok u) e = absurd (cc)
one_refused (Err y) e = (y, refl)
