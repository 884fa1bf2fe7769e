-- The rows of answers, by what the tables say, whoever wrote them. Assumes nothing.
use Rattle.std.specs.Prelude.{ℕ, ◌+◌, ◌-◌, ◌≤◌, List, [], ◌∷◌, Bool, true, false, ◌≡◌, refl, length, get_or, take, drop, Result, Ok, Err}
use Rattle.std.proofs.Common.{arith, subst}
use Rattle.std.specs.Prelude as std
use Rattle.listings.specs.Bytes.{bytes}
use Rattle.listings.specs.Listing.{Name}
use Rattle.listings.specs.WordTable.{words}
use Rattle.graph.specs.Lists.{list}
use Rattle.graph.specs.Print.{printed_refusal}
use Rattle.graph.specs.Questions.{Reply}
use Rattle.adjacency.specs.ListsAt.{successors_at, predecessors_at, list_reply}
use Rattle.adjacency.specs.ListsAtLaws.{asked-inside}
use Rattle.tables.specs.Columns.{succ_start, succ_count, pred_start, pred_count}
use Rattle.adjacency.specs.EntryAt.{entry_at, node_of}
use Rattle.statements.specs.StatementAt.{path_statement, node_statement}
use Rattle.frame_lists.specs.FrameAt.{frame_at}
use Rattle.layout.specs.declared.refusals.Refusal.{Refusal}
use Rattle.listings.specs.Read.{Outcome, taken}
use Rattle.layout.specs.declared.refusals.Reason.{Reason}
use Rattle.layout.specs.Refusals.{number_of}
use Rattle.tables.specs.Told.{told, told_by}
use Rattle.formatting.specs.Pages.{Wrote, wrote_is}
use Rattle.formatting.specs.declared.page.Page.{Page}
use Rattle.answers.specs.declared.asked.QuestionTables.{QuestionTables}
use Rattle.answers.specs.Flowask.{Question, of_successors, of_predecessors, of_statement, of_entry, of_path, of_frame, list_row, stmt_row, reply_row, outcome_row}

-- ---- each question

unfoldable pub successors_answer : (counts lists succ : List ℕ) → ℕ → List ℕ
successors_answer c i u n = reply_row (list_row (bytes "(successors")) (list_reply (successors_at c i (length u) n) u)

unfoldable pub predecessors_answer : (counts lists pred : List ℕ) → ℕ → List ℕ
predecessors_answer c i p n = reply_row (list_row (bytes "(predecessors")) (list_reply (predecessors_at c i (length p) n) p)

-- a node and the number of its opening word
unfoldable pub numbered_row : ℕ × ℕ → List ℕ
numbered_row d = stmt_row d.0 (get_or words d.1 [])

unfoldable pub statement_answer : (counts stmts : List ℕ) → ℕ → List ℕ
statement_answer c t n = reply_row numbered_row (node_statement c t n)

unfoldable pub path_answer : (counts stmts : List ℕ) → ℕ → List ℕ → List ℕ
path_answer c t l p = reply_row numbered_row (path_statement c t l p)

unfoldable pub entry_answer : (counts entries : List ℕ) → ℕ → List ℕ
entry_answer c e n = reply_row (λ d. list_row (bytes "(entry") (list d)) (entry_at c e n)

unfoldable pub frame_answer : (counts stmts args falls lists succ : List ℕ) → (header node : ℕ) → Name → Bool → List ℕ
frame_answer c t a f i u h n v flag = reply_row (list_row (bytes "(frame")) (frame_at (get_or c 0 0) (get_or c 1 0) t a f i u h n v flag 4096)

unfoldable pub answer_at : (counts stmts args entries falls lists succ pred : List ℕ) → Question → List ℕ
answer_at c t a e f i u p (of_successors n) = successors_answer c i u n
answer_at c t a e f i u p (of_predecessors n) = predecessors_answer c i p n
answer_at c t a e f i u p (of_statement n) = statement_answer c t n
answer_at c t a e f i u p (of_entry n) = entry_answer c e n
answer_at c t a e f i u p (of_path j ns) = path_answer c t j ns
answer_at c t a e f i u p (of_frame h n v flag) = frame_answer c t a f i u h n v flag

-- by a caller's tables
abbrev pub answer_of : QuestionTables → Question → List ℕ
answer_of g = answer_at g.counts.now g.stmts.now g.args.now g.entries.now g.falls.now g.lists.now g.succ.now g.pred.now

-- ---- what a routine that answers leaves: the row l on the page, or the page as it was and the refusal that l prints

abbrev pub Answered : Page → Page → Result (Unit {0}) Refusal → List ℕ → Type 0
Answered p q (Ok u) l = Wrote p q l
Answered p q (Err r) l = (q ≡ p) × (printed_refusal (number_of r.reason) r.place ≡ l)

pub answered_is : (p q : Page) {k l : List ℕ} (r : Result (Unit {0}) Refusal) → k ≡ l → Answered p q r k → Answered p q r l
answered_is p q r e a = rw e at a

-- the same of a row that asks o, and f answers: with no question in it there is only the reason, and no place yet
abbrev pub RowAnswered : Page → Page → Result (Result (Unit {0}) Refusal) Reason → (Question → List ℕ) → Outcome Question → Type 0
RowAnswered p q (Ok r) f o = (x : Question) × (o ≡ taken x) × Answered p q r (f x)
RowAnswered p q (Err n) f o = (q ≡ p) × (o ≡ Outcome.refused (number_of n))

pub asked_so : (p q : Page) (r : Result (Result (Unit {0}) Refusal) Reason) (f : Question → List ℕ) {o u : Outcome Question} → o ≡ u → RowAnswered p q r f o → RowAnswered p q r f u
asked_so p q r f e a = rw e at a

-- row k of the questions
module _ {p q : Page} (f : Question → List ℕ) (k : ℕ) {o : Outcome Question} where
  pub row_put : {u : Unit {0}} → RowAnswered p q (Ok (Ok u)) f o → Wrote p q (outcome_row f k o)
  unfolding outcome_row
  row_put a = rw a.1 a.2

  pub row_turned : {s : Page} (x : Refusal) → RowAnswered p q (Ok (Err x)) f o → Wrote q s (printed_refusal (number_of x.reason) x.place) → Wrote p s (outcome_row f k o)
  unfolding outcome_row
  row_turned {s} x a w = rw a.1 (wrote_is a.2.1 (subst (λ (z : Page). Wrote z s (printed_refusal (number_of x.reason) x.place)) a.2.0 w))

  pub row_malformed : {s : Page} (n : Reason) → RowAnswered p q (Err n) f o → Wrote q s (printed_refusal (number_of n) k) → Wrote p s (outcome_row f k o)
  unfolding outcome_row
  row_malformed {s} n a w = rw a.1 (subst (λ (z : Page). Wrote z s (printed_refusal (number_of n) k)) a.0 w)

-- ---- the rows of the code's answers

abbrev pub entry_row : std.Option ℕ → List ℕ
entry_row (std.Some i) = list_row (bytes "(entry") (i ∷ [])
entry_row std.None = list_row (bytes "(entry") []

-- they are those of the replies
module _ (w table : List ℕ) (q : Reply (ℕ × ℕ)) where
  pub list_is : (a n : ℕ) → told (Ok (a, n)) ≡ q → list_row w (take (a + n - a) (drop a table)) ≡ reply_row (list_row w) (list_reply q table)
  unfolding reply_row list_reply
  list_is a n e = let z : a + n - a ≡ n = omega arith in rw (z, ← e) refl

  pub no_list : (r : Refusal) → told (Err r) ≡ q → printed_refusal (number_of r.reason) r.place ≡ reply_row (list_row w) (list_reply q table)
  unfolding reply_row list_reply
  no_list r e = rw (← e) refl

pub successors_inside : (c i : List ℕ) (size node a n : ℕ) → told (Ok (a, n)) ≡ successors_at c i size node → a + n ≤ size
unfolding successors_at
successors_inside c i size node a n e = asked-inside c i size node (succ_start i node) (succ_count i node) a n e

pub predecessors_inside : (c i : List ℕ) (size node a n : ℕ) → told (Ok (a, n)) ≡ predecessors_at c i size node → a + n ≤ size
unfolding predecessors_at
predecessors_inside c i size node a n e = asked-inside c i size node (pred_start i node) (pred_count i node) a n e

-- of what stands in another form on the page
module _ {A B : Type 0} (h : A → B) (f : B → List ℕ) (q : Reply B) where
  pub row_is : (a : A) → told_by h (Ok a) ≡ q → f (h a) ≡ reply_row f q
  unfolding reply_row
  row_is a e = rw (← e) refl

  pub no_row : (r : Refusal) → told_by h (Err r) ≡ q → printed_refusal (number_of r.reason) r.place ≡ reply_row f q
  unfolding reply_row
  no_row r e = rw (← e) refl

pub entry_row_is : (e : std.Option ℕ) → entry_row e ≡ list_row (bytes "(entry") (list (node_of e))
unfolding list
entry_row_is std.None = refl
entry_row_is (std.Some i) = refl
