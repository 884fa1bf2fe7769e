-- What the check of a graph says (document 02, L1), as statements about texts alone. Assumes nothing.
use Rattle.std.specs.Prelude.{ℕ, ◌≡◌, true, List, [], ◌∷◌, ◌++◌, length}
use Rattle.listings.specs.Listing.{Listing}
use Rattle.listings.specs.ListingText.{text_of}
use Rattle.listings.specs.Every.{All, no_newline}
use Rattle.graph.specs.Print.{printed}
use Rattle.graph.specs.Build.{Capacity, graph, build}
use Rattle.graph_laws.specs.FilledForms.{GraphRow}

-- "accepts exactly when the graph is the one that the definition gives": t means a listing whose graph is built, and g is what is printed for it
pub record IsGraphOf (c : Capacity) (t g : List ℕ) : Type 0 where
  pub listing : Listing
  pub built : build c t ≡ graph listing
  pub given : g ≡ printed listing

-- a row has no byte 10 in it
abbrev pub IsRow : List ℕ → Type 0
IsRow w = no_newline w ≡ true

-- "31, a row is none that a graph prints ..; 32, a row is in form but wrong .. or one too many": the number of a row that is not the one due
pub data RowRefusal (w : List ℕ) : ℕ → Type 0 where
  no_form : (GraphRow w → ⊥) → RowRefusal w 31
  in_form : GraphRow w → RowRefusal w 32

-- what is wrong with the first row of a given text, where another text is due, and its number
pub data WrongAtOnce : (due given : List ℕ) (number : ℕ) → Type 0 where
  -- "missing": nothing is given, though a row is due
  missing : {b : ℕ} {due : List ℕ} → WrongAtOnce (b ∷ due) [] 32
  -- "or lacks its byte 10"
  unended : {due : List ℕ} {b : ℕ} {w : List ℕ} → IsRow (b ∷ w) → WrongAtOnce due (b ∷ w) 31
  -- "wrong": another row than the one due
  another : (d w due given : List ℕ) {n : ℕ} → IsRow d → IsRow w → (d ≡ w → ⊥) → RowRefusal w n → WrongAtOnce (d ++ (10 ∷ due)) (w ++ (10 ∷ given)) n
  -- "or one too many": a row, though none is due
  too_many : (w given : List ℕ) {n : ℕ} → IsRow w → RowRefusal w n → WrongAtOnce [] (w ++ (10 ∷ given)) n

-- "the place is the first such row of the graph file, its row count if one is missing at the end": so many rows are those due, and then one is not
pub record FirstWrong (due given : List ℕ) (number place : ℕ) : Type 0 where
  pub before : List (List ℕ)
  pub rows : All IsRow before
  pub due_left : List ℕ
  pub given_left : List ℕ
  pub due_is : due ≡ text_of before ++ due_left
  pub given_is : given ≡ text_of before ++ given_left
  pub place_is : place ≡ length before
  pub wrong_then : WrongAtOnce due_left given_left number
