-- What a statement does, as the code has it and as the definition has it. Assumes nothing.
use Rattle.std.specs.Prelude.{◌≡◌, ℕ, List, [], ◌∷◌, length, Result, Ok, Err}
use Rattle.listings.specs.ListingText.{simple_word}
use Rattle.listings.specs.WordTable.{word_index}
use Rattle.listings.specs.Records.{args_of}
use Rattle.program_files.specs.Program as definition
use Rattle.program_files.specs.Program.{Placed, map_found}
use Rattle.basic.specs.Cursors.{tokens_at}
use Rattle.basic.specs.Found.{found_by}
use Rattle.basic.specs.declared.cursors.Cursor.{Cursor}
use Rattle.basic.specs.declared.found.Found.{Found}
use Rattle.basic.specs.declared.found.Lack.{Lack}
use Rattle.basic.specs.declared.actions.Action.{Action}
use Rattle.basic.specs.declared.actions.Action.TheVariants.{Does, Jumps, Holds}

-- the number of its opening word and how many arguments it has; the line that a jump branch names
unfoldable pub coded : definition.Action → Action
coded (definition.does o) = Does (word_index (simple_word o)) (length (args_of o))
coded (definition.jumps n) = Jumps n
coded definition.holds = Holds

-- a word with one number or name, or with a list
abbrev pub IsOne : ℕ → Result (Found ℕ) Lack → Result (Found Action) Lack → Type 0
IsOne w f r = (T : Cursor → List Placed) → found_by T r ≡ map_found (λ v. Does w 1) (found_by T f)

abbrev pub IsList : ℕ → Result (Found ℕ) Lack → Result (Found Action) Lack → Type 0
IsList w n r = (T : Cursor → List Placed) → found_by T r ≡ map_found (λ k. Does w k) (found_by T n)

abbrev pub one_in : Result (Found ℕ) Lack → List ℕ
one_in (Ok f) = f.value ∷ []
one_in (Err e) = []

-- the arguments of the statement that was found
unfoldable pub args_in : definition.Found definition.Action → List ℕ
args_in (definition.found (definition.does o) r) = args_of o
args_in (definition.found (definition.jumps n) r) = []
args_in (definition.found definition.holds r) = []
args_in (definition.lacks p) = []

-- as many bytes as count from a cursor on: no list there is longer
abbrev pub fuel : List ℕ → Cursor → ℕ
fuel f c = length (tokens_at f c)
