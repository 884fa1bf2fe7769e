-- Names cut to two characters (document 02, L2): examples of each use of a name, computed. Assumes nothing.
use Rattle.std.specs.Prelude.{ℕ, List, [], ◌∷◌, Bool, true, false, ◌&&◌, T, eqb}
use Rattle.listings.specs.Bytes.{bytes, same}
use Rattle.listings.specs.Listing.{Name}
use Rattle.listings.specs.Read.{Answer, listing, refusal}
use Rattle.listings.specs.Cut.{meant}
use Rattle.graph.specs.CaseTable.{Case, claims, writes, lists_are, list_is, lists_from, holds, hold, hold_of, right, all_right, one}
use Rattle.graph.specs.Questions.{Reply, answer, refused, ask_frame}
use Rattle.graph.specs.Opened as definitions
use Rattle.graph.specs.QuestionsOpened as questions

-- "Users write `FOR COUNT` and `NEXT COUNTER` and the machine takes them as one variable": popped, with their kind
cases : List Case
cases =
    claims (one "(for COUNT static)\n(next plain COUNTER)\n") (lists_are ((1 ∷ []) ∷ (1 ∷ []) ∷ []) ∷ [])
    ∷ claims (one "(for COUNT static)\n(next plain COUNTER%)\n") (list_is 1 [] ∷ [])
    ∷ claims (one "(for COUNT% static)\n(next plain COUNTER%)\n") (list_is 1 (1 ∷ []) ∷ [])
    ∷ claims (one "(for COUNT$ static)\n(next plain COUNTER%)\n") (list_is 1 [] ∷ [])
    ∷ claims (one "(for AB% static)\n(next plain AC%)\n") (list_is 1 [] ∷ [])
    ∷ claims (one "(for A static)\n(next plain AB)\n") (list_is 1 [] ∷ [])
    -- dropped, as in C8
    ∷ claims (one "(for COUNT static)\n(for J static)\n(for COUNTER static)\n(next plain J)\n(stop)\n") (list_is 3 (4 ∷ []) ∷ [])
    -- dispatched, as in C9
    ∷ claims (one "(for COUNT dispatched)\n(next plain *)\n(plain)\n(next orphan COUNTER)\n(stop)\n") (list_is 3 (4 ∷ 1 ∷ []) ∷ [])
    -- a name is judged whole: "Errors: unchanged."
    ∷ writes (one "(for COUNTERSX static)\n") (bytes "(refused 3 2)\n")
    ∷ writes (one "(next plain COunt)\n") (bytes "(refused 3 2)\n")
    ∷ claims (one "(for COUNTERS% static)\n(next plain COUNTER%)\n") (list_is 1 (1 ∷ []) ∷ [])
    ∷ []

cut_right : T (all_right cases)
unfolding definitions.opened cases right all_right holds hold hold_of lists_from one
cut_right = tt

-- "The name given to the frame question is cut too."
replies : Reply (List ℕ) → Reply (List ℕ) → Bool
replies (answer l) (answer k) = same l k
replies (answer l) (refused n p) = false
replies (refused n p) (answer k) = false
replies (refused n p) (refused m q) = eqb n m && eqb p q

asked : Answer → (header node : ℕ) → Name → Reply (List ℕ)
asked (listing L) h i v = ask_frame L h i v true 9
asked (refusal n p) h i v = refused n p

frames : T (replies (asked (meant (one "(for COUNT static)\n(plain)\n")) 0 0 (bytes "COUNTER")) (answer [])
    && replies (asked (meant (one "(for COUNT static)\n(plain)\n")) 0 0 (bytes "COUNTER%")) (answer (1 ∷ []))
    && replies (asked (meant (one "(for COUNT static)\n(plain)\n")) 9 9 (bytes "COUNTERSX")) (refused 3 0))
unfolding definitions.opened questions.opened replies asked one
frames = tt
