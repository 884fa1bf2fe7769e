-- What was found in a line, as the code has it and as the definition has it. Assumes nothing.
use Rattle.std.specs.Option.{ok_or}
use Rattle.std.specs.Prelude.{◌≡◌, refl, Option, Some, None, List, Result, Ok, Err, IsOkAnd, IsErrAnd, MatchResult}
use Rattle.std.proofs.Common.{ap}
use Rattle.program_files.specs.Program as definition
use Rattle.program_files.specs.Program.{Placed, map_found}
use Rattle.basic.specs.declared.cursors.Cursor.{Cursor}
use Rattle.basic.specs.declared.found.Found.{Found}
use Rattle.basic.specs.declared.found.Lack.{Lack}

-- T: what stands behind a cursor
abbrev pub found_by : {A : Type 0} → (Cursor → List Placed) → Result (Found A) Lack → definition.Found A
found_by T (Ok f) = definition.found f.value (T f.next)
found_by T (Err e) = definition.lacks e.place

-- a value, or an error in its place
pub ok_or_found : {A E : Type 0} (o : Option A) (e : E) (r : Result A E) (a : A) → r ≡ ok_or o e → r ≡ Ok a → o ≡ Some a
ok_or_found None e r a h q = absurd cc
ok_or_found (Some b) e r a h q = cc

pub ok_or_lacks : {A E : Type 0} (o : Option A) (e x : E) (r : Result A E) → r ≡ ok_or o e → r ≡ Err x → (o ≡ None) × (x ≡ e)
ok_or_lacks None e x r h q = (refl, cc)
ok_or_lacks (Some b) e x r h q = absurd cc

-- an error that a `?` hands on
pub handed_err : {A E : Type 0} (r : Result A E) (e : E) → IsErrAnd r (λ (x : E). x ≡ e) → r ≡ Err e
handed_err (Ok a) e h = absurd h
handed_err {A} {E} (Err x) e h = ap (λ (z : E). Err z) h

pub handed_on : {A : Type 0} (T : Cursor → List Placed) (r : Result (Found A) Lack) (e : Lack) → IsErrAnd r (λ (l : Lack). l ≡ e) → found_by T r ≡ definition.lacks e.place
handed_on T r e h = ap (found_by T) (handed_err r e h)

-- what was found, mapped
pub mapped : {A B : Type 0} (T : Cursor → List Placed) (g : A → B) (f : Result (Found A) Lack) (r : Result (Found B) Lack)
    → MatchResult f (λ (x : Found A). IsOkAnd r (λ (y : Found B). y ≡ record { value = g x.value; next = x.next })) (λ (e : Lack). r ≡ Err e) → found_by T r ≡ map_found g (found_by T f)
unfolding map_found
mapped {A} {B} T g (Ok x) (Ok y) h = ap (λ (z : Found B). definition.found z.value (T z.next)) h
mapped T g (Ok x) (Err e) h = absurd h
mapped T g (Err e) r h = ap (found_by T) h
