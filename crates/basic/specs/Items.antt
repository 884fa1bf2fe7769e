-- Lists of numbers and of names' keys in a line. Assumes nothing.
use Rattle.std.specs.Prelude.{ℕ, List, [], ◌++◌, length, take, drop}
use Rattle.listings.specs.Records.{name_key}
use Rattle.program_files.specs.Program as definition
use Rattle.program_files.specs.Program.{Placed, map_found, line_number, name, several}
use Rattle.basic.specs.declared.items.Item.{Item}
use Rattle.basic.specs.declared.items.Item.TheVariants.{Number, Name}

-- a name's key, or a number
unfoldable pub item : Item → List Placed → definition.Found ℕ
item Name l = map_found name_key (name l)
item Number l = line_number l

-- as many as there are
abbrev pub items_from : Item → List Placed → definition.Found (List ℕ)
items_from i l = several (item i) (length l) l

-- what was found, or nothing
abbrev pub values_in : definition.Found (List ℕ) → List ℕ
values_in (definition.found vs r) = vs
values_in (definition.lacks p) = []

-- vs at the front of a slice, as far as it goes
unfoldable pub put_front : List ℕ → List ℕ → List ℕ
put_front vs t = take (length t) vs ++ drop (length vs) t
