-- Outside vectors: a text, and what `flowlist` must write for it or what the questions must answer. Assumes nothing.
use Rattle.std.specs.Prelude.{ℕ, List, [], ◌∷◌, Bool, true, false, ◌&&◌, eqb}
use Prim.Native.String.{String}
use Rattle.listings.specs.Bytes.{bytes, same}
use Rattle.listings.specs.Listing.{Listing}
use Rattle.listings.specs.Read.{Answer, listing, refusal}
use Rattle.listings.specs.Cut.{meant}
use Rattle.graph.specs.Build.{flowlist}
use Rattle.graph.specs.Opened as wiring
use Rattle.graph.specs.QuestionsOpened as questions
use Rattle.graph.specs.Questions.{Reply, answer, refused, ask_statement, ask_path, ask_frame}

-- a text of ASCII, and one with other bytes
pub record Vector : Type 0 where
  pub text : String
  pub writes : String

pub record BytesVector : Type 0 where
  pub text : List ℕ
  pub writes : String

unfoldable pub right : List Vector → Bool
right [] = true
right (v ∷ vs) = same (flowlist (bytes v.text)) (bytes v.writes) && right vs

unfoldable pub right_bytes : List BytesVector → Bool
right_bytes [] = true
right_bytes (v ∷ vs) = same (flowlist v.text) (bytes v.writes) && right_bytes vs

-- questions: a node's opening word, and a frame list (header, node, name, flag)
pub data Ask : Type 0 where
  word : ℕ → String → Ask
  frame : ℕ → ℕ → String → Bool → List ℕ → Ask

pub record AskVector : Type 0 where
  pub text : String
  pub asks : List Ask

unfoldable pub word_is : ℕ → List ℕ → Reply (ℕ × List ℕ) → Bool
word_is i w (answer d) = eqb d.0 i && same d.1 w
word_is i w (refused n p) = false

unfoldable pub list_is : List ℕ → Reply (List ℕ) → Bool
list_is l (answer k) = same k l
list_is l (refused n p) = false

unfoldable pub asked : Listing → Ask → Bool
asked L (word i w) = word_is i (bytes w) (ask_statement L i)
asked L (frame h i v flag l) = list_is l (ask_frame L h i (bytes v) flag 4096)

unfoldable pub all_asked : Listing → List Ask → Bool
all_asked L [] = true
all_asked L (a ∷ as') = asked L a && all_asked L as'

unfoldable pub asked_of : Answer → List Ask → Bool
asked_of (listing L) l = all_asked L l
asked_of (refusal n p) l = false

unfoldable pub right_asks : List AskVector → Bool
right_asks [] = true
right_asks (v ∷ vs) = asked_of (meant (bytes v.text)) v.asks && right_asks vs

unfoldable pub opened : ℕ
unfolding wiring.opened questions.opened word_is list_is asked all_asked asked_of
opened = 0
