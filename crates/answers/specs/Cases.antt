-- `flowask` on texts, computed. Assumes nothing.
use Rattle.std.specs.Prelude.{ℕ, List, [], ◌∷◌, ◌++◌, Bool, true, ◌&&◌, T}
use Prim.Native.String.{String}
use Rattle.listings.specs.Bytes.{bytes, same}
use Rattle.graph.specs.Build.{limits}
use Rattle.graph.specs.Opened as wiring
use Rattle.graph.specs.QuestionsOpened as questions
use Rattle.answers.specs.Flowask.{question_words, path_question, frame_question, form_question, word_question, row_question, path_length, short, question, list_row, stmt_row, reply_row, answer_row, outcome_row, row_answer, ending, answer_rows, parts, answers, ask_text, in_room, flowask}

-- what is written for a text
record Case : Type 0 where
  text : List ℕ
  writes : String

unfoldable right : List Case → Bool
right [] = true
right (c ∷ cs) = same (flowask c.text) (bytes c.writes) && right cs

-- C12's listing, and what stands behind it
unfoldable c12 : String → List ℕ
c12 s = bytes "(module 0\n(line 10\n(gosub 100)\n(plain)\n)\n(line 20\n(stop)\n)\n(line 100\n(if\n(to 20)\n)\n(return)\n)\n)\n" ++ bytes s

-- a FOR with its NEXT, whose frame lists are asked for
unfoldable loops : String → List ℕ
loops s = bytes "(module 0\n(line 10\n(for I static)\n(plain)\n(next plain I)\n)\n)\n(questions\n" ++ bytes s

cases : List Case
cases =
    -- no questions: nothing to answer; none asked
    record { text = c12 ""; writes = "" }
    ∷ record { text = c12 "(questions\n)\n"; writes = "" }
    -- each question
    ∷ record {
      text = c12 "(questions\n(successors 3)\n(successors 2)\n(predecessors 2)\n(statement 3)\n(path 2 1)\n(entry 100)\n(entry 30)\n(frame 3 0 I 0)\n)\n";
      writes = "(successors 2 4)\n(successors)\n(predecessors 1 3)\n(statement 3 if)\n(statement 4 return)\n(entry 3)\n(entry)\n(frame 1)\n";
    }
    ∷ record { text = loops "(frame 0 2 I 0)\n(frame 0 2 I 1)\n(frame 0 0 I 0)\n(frame 0 0 J 0)\n)\n"; writes = "(frame 1)\n(frame 1)\n(frame)\n(frame 1)\n" }
    -- refused questions: 24, the header first, 26, 3
    ∷ record {
      text = c12 "(questions\n(successors 5)\n(predecessors 65535)\n(statement 5)\n(frame 6 5 I 0)\n(frame 0 5 I 1)\n(path 0)\n(path 9 0)\n(path 0 0 0)\n(frame 9 9 i 0)\n)\n";
      writes = "(refused 24 5)\n(refused 24 65535)\n(refused 24 5)\n(refused 24 6)\n(refused 24 5)\n(refused 26 0)\n(refused 26 0)\n(refused 26 0)\n(refused 3 0)\n";
    }
    -- rows that are no question, among others that are
    ∷ record {
      text = c12 "(questions\n(successor 1)\n(successors)\n(successors 1 2)\n(successors 1\n successors 1)\n(successors x)\n(frame 0 1 I 2)\n(frame 0 1 I)\n(path)\n\n(entry 20)\n)\n";
      writes = "(refused 2 0)\n(refused 2 1)\n(refused 2 2)\n(refused 2 3)\n(refused 2 4)\n(refused 2 5)\n(refused 2 6)\n(refused 2 7)\n(refused 2 8)\n(refused 2 9)\n(entry 2)\n";
    }
    -- a leading zero, a number above 65535; 2 goes before 3
    ∷ record {
      text = c12 "(questions\n(entry 010)\n(successors 65536)\n(path 2 00)\n(path 02 x)\n(frame 0 01 i 0)\n(frame 01 0 I 2)\n)\n";
      writes = "(refused 3 0)\n(refused 3 1)\n(refused 3 2)\n(refused 2 3)\n(refused 3 4)\n(refused 2 5)\n";
    }
    -- a path of 64 numbers, and of 65
    ∷ record {
      text = c12 "(questions\n(path 0 0 0 0 0 0 0 0 0 0 0 0 0 0 0 0 0 0 0 0 0 0 0 0 0 0 0 0 0 0 0 0 0 0 0 0 0 0 0 0 0 0 0 0 0 0 0 0 0 0 0 0 0 0 0 0 0 0 0 0 0 0 0 0 0)\n(path 0 0 0 0 0 0 0 0 0 0 0 0 0 0 0 0 0 0 0 0 0 0 0 0 0 0 0 0 0 0 0 0 0 0 0 0 0 0 0 0 0 0 0 0 0 0 0 0 0 0 0 0 0 0 0 0 0 0 0 0 0 0 0 0 0 0)\n)\n";
      writes = "(refused 26 0)\n(refused 8 1)\n";
    }
    -- no `)`; a last row not ended by byte 10; rows behind the `)`
    ∷ record { text = c12 "(questions\n"; writes = "(refused 2 0)\n" }
    ∷ record { text = c12 "(questions\n(entry 20)\n"; writes = "(entry 2)\n(refused 2 1)\n" }
    ∷ record { text = c12 "(questions\n(entry 20)\n(entry 20)"; writes = "(entry 2)\n(refused 2 1)\n" }
    ∷ record { text = c12 "(questions\n(entry 20)\n)"; writes = "(entry 2)\n(refused 2 1)\n" }
    ∷ record { text = c12 "(questions\n(entry 20)\n)\n(entry 20)\n"; writes = "(entry 2)\n(refused 2 2)\n" }
    ∷ record { text = c12 "(questions\n(entry 20)\n)\n\n"; writes = "(entry 2)\n(refused 2 2)\n" }
    ∷ record { text = c12 "(questions\n(entry 20)\n)\n)"; writes = "(entry 2)\n(refused 2 2)\n" }
    -- a second row `(questions` is no question
    ∷ record { text = c12 "(questions\n(questions\n(entry 20)\n)\n"; writes = "(refused 2 0)\n(entry 2)\n" }
    -- a refused listing: nothing else is written; `(questions` that is not ended by byte 10, or stands in no row of its own, is the listing's
    ∷ record { text = bytes "(module 0\n(line 10\n(questions\n(entry 10)\n)\n"; writes = "(refused 2 2)\n" }
    ∷ record { text = bytes "(questions\n)\n"; writes = "(refused 2 0)\n" }
    ∷ record { text = c12 "(questions"; writes = "(refused 2 15)\n" }
    ∷ record { text = c12 " (questions\n)\n"; writes = "(refused 2 15)\n" }
    ∷ []

computed : T (right cases)
unfolding wiring.opened questions.opened question_words path_question frame_question form_question word_question row_question path_length short question list_row stmt_row reply_row answer_row outcome_row row_answer ending answer_rows parts answers ask_text in_room flowask right c12 loops cases
computed = tt

-- ---- answers that take more bytes than there is room for

unfoldable asked : List ℕ
asked = ask_text limits (c12 "(questions\n(successors 3)\n(entry 100)\n)\n")

-- the two answers have 27 bytes
unfoldable in_their_room : Bool
in_their_room =
    same (in_room 27 asked) (bytes "(successors 2 4)\n(entry 3)\n") && same (in_room 26 asked) (bytes "(refused 28 26)\n")
    && same (in_room 0 asked) (bytes "(refused 28 0)\n")

in_room_lem : T in_their_room
unfolding wiring.opened questions.opened question_words path_question frame_question form_question word_question row_question path_length short question list_row stmt_row reply_row answer_row outcome_row row_answer ending answer_rows parts answers ask_text in_room c12 asked in_their_room
in_room_lem = tt
