-- A text asked: what `ask_text` promises, and how it follows from what `build` and the answers promise. Assumes nothing.
use Rattle.std.specs.Prelude.{ℕ, suc, ◌+◌, ◌-◌, ◌<◌, ◌≡◌, Bool, true, false, ◌&&◌, eqb, length, get_or}
use Rattle.std.specs.Prelude as std
use Rattle.std.specs.Borrow.{Bor}
use Rattle.std.proofs.Math.Path.{refl, ap, subst}
use Rattle.std.proofs.Common.{sym, ◌∙◌, arith, not-suc-le-zero}
use mathlib.Core.List.{List, [], ◌∷◌, ◌++◌}
use Rattle.std.proofs.Math.Option.{Option, none, some}
use Rattle.std.proofs.Math.ListN.{get_elem?}
use Rattle.listings.specs.Bytes.{bytes, pick, same}
use Rattle.listings.specs.Listing.{Listing}
use Rattle.listings.specs.Rows.{split, opening_words}
use Rattle.listings.specs.Read.{Outcome, taken}
use Rattle.listings.specs.Cut.{meant}
use Rattle.listings.specs.WordTable.{words, first, word_index}
use Rattle.listing_laws.specs.WordText.{same_equal}
use Rattle.graph.specs.Nodes.{NodeStmt, Node, nodes}
use Rattle.graph.specs.NodeWords.{stmt_word, stmt_number}
use Rattle.graph.specs.Print.{printed_refusal}
use Rattle.graph.specs.Build.{Built, graph, build}
use Rattle.passes.specs.TableForms.{Sizes, Tables, tables_of, capacity}
use Rattle.wiring.specs.GraphTables.{BuildWrote, Answered}
use Rattle.formatting.specs.Printing.{Puts, puts_is}
use Rattle.wiring.specs.BuildAnswers.{text_read, accepted_built, refused_by}
use Rattle.wiring.specs.BuiltAnswer.{BuiltAnswer}
use Rattle.wiring.specs.BuiltAnswer as built
use Rattle.graph.specs.Questions.{Reply, answer, ask_statement, ask_path, found_or, statement_of, node_from}
use Rattle.questions.specs.Mission.{numbered, Questions}
use Rattle.questions.specs.MissionProof.{mission}
use Rattle.questions.specs.Words.{word_low}
use Rattle.answers.specs.Flowask.{Question, of_successors, of_predecessors, of_statement, of_entry, of_path, of_frame, stmt_row, reply_row, answer_row, question, outcome_row, row_answer, ending, answer_rows, parts, answers, ask_text}
use Rattle.answers.specs.AnswersAt.{numbered_row, successors_answer, predecessors_answer, statement_answer, path_answer, entry_answer, frame_answer, answer_at}
use Rattle.answers.specs.TextLaws.{TextSplit, split_listing}

-- the rows of questions, answered by f, stand in `out`, as far as that goes; nothing where there are none
abbrev pub QuestionsAnswered : std.Option (Bor (List ℕ)) → (Question → List ℕ) → (out out' : List ℕ) → ℕ → Type 0
QuestionsAnswered std.None f out out' n = Puts out 0 out' n []
QuestionsAnswered (std.Some rows) f out out' n = Puts out 0 out' n (answer_rows f 0 (split 10 rows.now))

-- the tables are as `build` leaves them for the listing, and what the definition writes for the text stands in `out`, as far as that goes
pub record TextAsked (text : List ℕ) (s : Sizes) (c l t a e f k i r u p out out' : List ℕ) (n : ℕ) : Type 0 where
  pub answer : BuiltAnswer
  pub built : Answered (build (capacity s) (parts (split 10 text)).0) s c l t a e f k i r u p answer
  pub asked : Puts out 0 out' n (ask_text (capacity s) text)

-- ---- a statement's word, by its number

first_back : (ds : List (List ℕ)) (w : List ℕ) → first ds w < length ds → get_or ds (first ds w) [] ≡ w
unfolding first
first_back [] w h = absurd (not-suc-le-zero h)
first_back (d ∷ ds) w h = go (same d w) refl (λ q. first_back ds w q) h
  where
    go : (t : Bool) → same d w ≡ t → (first ds w < length ds → get_or ds (first ds w) [] ≡ w) → pick t 0 (suc (first ds w)) < suc (length ds) → get_or (d ∷ ds) (pick t 0 (suc (first ds w))) [] ≡ w
    go true e f q = same_equal d w e
    go false e f q = f (omega arith)

word_back : (s : NodeStmt) → get_or words (word_index (stmt_word s)) [] ≡ stmt_word s
unfolding word_index words opening_words stmt_number
word_back s = first_back words (stmt_word s) (omega (arith, word_low s))

-- a reply's row by the word's number is its row
abbrev SameRow : Reply (ℕ × List ℕ) → Type 0
SameRow q = reply_row numbered_row (numbered q) ≡ reply_row (λ d. stmt_row d.0 d.1) q

stmt_row_lem : (i : ℕ) (s : NodeStmt) → SameRow (answer (i, stmt_word s))
unfolding reply_row numbered_row numbered
stmt_row_lem i s = ap (stmt_row i) (word_back s)

refused_row_lem : (n p : ℕ) → SameRow (Reply.refused n p)
unfolding reply_row numbered
refused_row_lem n p = refl

statement_row : (i : ℕ) (o : Option Node) → SameRow (statement_of i o)
unfolding statement_of
statement_row i none = refused_row_lem 24 i
statement_row i (some n) = stmt_row_lem i n.stmt

path_row : (i l : ℕ) (p : List ℕ) (ns : List Node) → SameRow (found_or (node_from i l p ns))
unfolding node_from found_or
path_row i l p [] = refused_row_lem 26 0
path_row i l p (n ∷ ns) = go (eqb n.line l && same n.path p) (path_row (suc i) l p ns)
  where
    go : (t : Bool) → SameRow (found_or (node_from (suc i) l p ns)) → SameRow (found_or (pick t (some (i, stmt_word n.stmt)) (node_from (suc i) l p ns)))
    go true h = stmt_row_lem i n.stmt
    go false h = h

-- ---- on tables that a build wrote the answers are those of the listing's graph

module _ (L : Listing) (T : Tables) (m : Questions L T) where
  answer_is : (q : Question) → answer_at T.counts T.stmts T.args T.entries T.falls T.lists T.succ T.pred q ≡ answer_row L q
  unfolding answer_at answer_row successors_answer predecessors_answer statement_answer path_answer entry_answer frame_answer ask_statement ask_path
  answer_is (of_successors i) = ap (reply_row _) (m.successors i)
  answer_is (of_predecessors i) = ap (reply_row _) (m.predecessors i)
  answer_is (of_statement i) = ap (reply_row numbered_row) (m.statement i) ∙ statement_row i (get_elem? (nodes L.lines) i)
  answer_is (of_entry n) = ap (reply_row _) (m.entry n)
  answer_is (of_path l p) = ap (reply_row numbered_row) (m.path l p) ∙ path_row 0 l p (nodes L.lines)
  answer_is (of_frame a i v flag) = ap (reply_row _) (m.frame a i v flag 4096)

pub build-answers : (text : List ℕ) (s : Sizes) (T : Tables) (x : BuiltAnswer) → BuildWrote (meant text) s T x → x ≡ built.Graph
    → (L : Listing) × (build (capacity s) text ≡ graph L) × ((q : Question) → answer_at T.counts T.stmts T.args T.entries T.falls T.lists T.succ T.pred q ≡ answer_row L q)
build-answers text s T x wrote e =
    let M = mission false text s T x wrote in
    let d = M.first.graph_of e in
    (d.0, accepted_built (text_read text) s d.0 d.1 d.2, answer_is d.0 T (M.questions d.0 d.1 e))

-- ---- the rows, by answers that are the same

module _ (f g : Question → List ℕ) (e : (q : Question) → f q ≡ g q) where
  outcome_same : (k : ℕ) (o : Outcome Question) → outcome_row f k o ≡ outcome_row g k o
  unfolding outcome_row
  outcome_same k (taken q) = e q
  outcome_same k (Outcome.refused n) = refl

  rows_same : (k : ℕ) (ws : List (List ℕ)) → answer_rows f k ws ≡ answer_rows g k ws
  unfolding answer_rows row_answer
  rows_same k [] = refl
  rows_same k (w ∷ []) = refl
  rows_same k (w ∷ v ∷ ws) =
      ap (λ (z : List ℕ). pick (same w (bytes ")")) (ending (suc k) (v ∷ ws)) (z ++ answer_rows f (suc k) (v ∷ ws))) (outcome_same k (question w))
      ∙ ap (λ (z : List ℕ). pick (same w (bytes ")")) (ending (suc k) (v ∷ ws)) (outcome_row g k (question w) ++ z)) (rows_same (suc k) (v ∷ ws))

-- ---- the whole

module _ (text listing : List ℕ) (rows : std.Option (Bor (List ℕ))) (cut : TextSplit text listing rows) (s : Sizes) (c l t a e f k i r u p : List ℕ) (x : BuiltAnswer)
    (w : Answered (build (capacity s) listing) s c l t a e f k i r u p x) where
  abbrev T : Tables
  T = tables_of c l t a e f k i r u p

  asked_as : (out out' : List ℕ) (j : ℕ) → Puts out 0 out' j (answers (build (capacity s) listing) (parts (split 10 text)).1) → TextAsked text s c l t a e f k i r u p out out' j
  unfolding ask_text
  asked_as out out' j z =
      let q = split_listing text listing rows cut in
      record {
        answer = x;
        built = subst (λ (y : List ℕ). Answered (build (capacity s) y) s c l t a e f k i r u p x) (sym q) w;
        asked = puts_is (ap (λ (y : List ℕ). answers (build (capacity s) y) (parts (split 10 text)).1) (sym q)) z;
      }

  pub listing_refused : (out out' : List ℕ) (j number place : ℕ) → x ≡ built.Refused number place → Puts out 0 out' j (printed_refusal number place) → TextAsked text s c l t a e f k i r u p out out' j
  unfolding answers
  listing_refused out out' j number place q z =
      asked_as out out' j (puts_is (sym (ap (λ (b : Built). answers b (parts (split 10 text)).1) (refused_by (text_read listing) s T x w number place q).1)) z)

  pub questions_asked : (out out' : List ℕ) (j : ℕ) → x ≡ built.Graph → QuestionsAnswered rows (answer_at c t a e f i u p) out out' j → TextAsked text s c l t a e f k i r u p out out' j
  unfolding answers
  questions_asked out out' j q z =
      let b = build-answers listing s T x w q in
      asked_as out out' j (puts_is (sym (ap (λ (y : Built). answers y (parts (split 10 text)).1) b.1)) (go b.0 b.2 rows cut z))
    where
      go : (L : Listing) → ((y : Question) → answer_at c t a e f i u p y ≡ answer_row L y) → (o : std.Option (Bor (List ℕ))) → TextSplit text listing o → QuestionsAnswered o (answer_at c t a e f i u p) out out' j → Puts out 0 out' j (answers (graph L) (parts (split 10 text)).1)
      go L h std.None y v = puts_is (sym (ap (λ (d : List ℕ × Option (List (List ℕ))). answers (graph L) d.1) y)) v
      go L h (std.Some rows) y v =
          puts_is (rows_same (answer_at c t a e f i u p) (answer_row L) h 0 (split 10 rows.now) ∙ sym (ap (λ (d : List ℕ × Option (List (List ℕ))). answers (graph L) d.1) y)) v
