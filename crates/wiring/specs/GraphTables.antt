-- What `build` answers and leaves in the lent tables: document 01's answer, and every entry of every table.
-- Assumes nothing.
-- Nothing outside opens these definitions: the laws at the end say what each is.
use Rattle.std.specs.Prelude.{ℕ, ◌≡◌, refl, ◌&&◌, List, leb, length, replicate}
use Rattle.std.proofs.Common.{rules}
use Rattle.listings.specs.Bytes.{pick}
use Rattle.listings.specs.Listing.{Listing}
use Rattle.listings.specs.Read.{Answer}
use Rattle.graph.specs.Build.{Built, graph, refused, edge_count, built_of_answer}
use Rattle.passes.specs.TableForms.{Sizes, capacity, Tables, count_table, line_table, stmt_table, arg_table, entry_table, fall_table, links_table, list_table, return_table, succ_table, pred_table, Written, AllZero}
use Rattle.wiring.specs.BuiltAnswer.{BuiltAnswer}
use Rattle.wiring.specs.BuiltAnswer as answer

-- ---- the answer

-- document 01's number and place for each refusal
pub answer_of : Built → BuiltAnswer
answer_of (graph L) = answer.Graph
answer_of (refused n p) = answer.Refused n p

-- a refused build leaves every entry zero
pub table_of : (Listing → ℕ → List ℕ) → Built → ℕ → List ℕ
table_of f (graph L) k = f L k
table_of f (refused n p) k = replicate k 0

-- the answer and every table
pub record Answered (b : Built) (s : Sizes) (c l t a e f k i r u p : List ℕ) (x : BuiltAnswer) : Type 0 where
  pub answer : x ≡ answer_of b
  pub counts : c ≡ table_of count_table b 6
  pub lines : l ≡ table_of line_table b s.lines
  pub stmts : t ≡ table_of stmt_table b s.stmts
  pub args : a ≡ table_of arg_table b s.args
  pub entries : e ≡ table_of entry_table b s.entries
  pub falls : f ≡ table_of fall_table b s.falls
  pub links : k ≡ table_of links_table b s.links
  pub lists : i ≡ table_of list_table b s.lists
  pub returns : r ≡ table_of return_table b s.returns
  pub succ : u ≡ table_of succ_table b s.succ
  pub pred : p ≡ table_of pred_table b s.pred

-- a listing whose lines and statements fit: by the count of its edges
unfoldable pub edges_fitted : ℕ → Listing → Built
edges_fitted k L = pick (leb (edge_count L) k && leb (edge_count L) 32768) (graph L) (refused 23 (edge_count L))

-- as long as before, and all zero
abbrev pub Zeroed : List ℕ → List ℕ → Type 0
Zeroed t t' = t' ≡ replicate (length t) 0

-- answer and tables are those that b asks for; s: how many entries each table has
abbrev pub Writes : Built → Sizes → Tables → BuiltAnswer → Type 0
Writes b s T x = Answered b s T.counts T.lines T.stmts T.args T.entries T.falls T.links T.lists T.returns T.succ T.pred x

-- what `build` promises for what its input means, or its refusal, q, and tables of these sizes
abbrev pub BuildWrote : Answer → Sizes → Tables → BuiltAnswer → Type 0
BuildWrote q s T x = Writes (built_of_answer (capacity s) q) s T x

-- ---- what each definition is, as laws

pub answer_graph : (L : Listing) → answer_of (graph L) ≡ answer.Graph
unfolding answer_of
answer_graph L = refl

pub answer_refused : (n p : ℕ) → answer_of (refused n p) ≡ answer.Refused n p
unfolding answer_of
answer_refused n p = refl

-- an answer with a graph, and the tables written
pub graph_writes : (L : Listing) (s : Sizes) (T : Tables) → Written L s T → Writes (graph L) s T answer.Graph
unfolding answer_of table_of
graph_writes L s T w = search rules

pub writes_graph : (L : Listing) (s : Sizes) (T : Tables) (x : BuiltAnswer) → Writes (graph L) s T x → (x ≡ answer.Graph) × Written L s T
unfolding answer_of table_of
writes_graph L s T x w = (w.answer, search rules)

-- a refusal, and the tables zero
pub refusal_writes : (n p : ℕ) (s : Sizes) (T : Tables) → AllZero s T → Writes (refused n p) s T (answer.Refused n p)
unfolding answer_of table_of
refusal_writes n p s T z = search rules

pub writes_refusal : (n p : ℕ) (s : Sizes) (T : Tables) (x : BuiltAnswer) → Writes (refused n p) s T x → (x ≡ answer.Refused n p) × AllZero s T
unfolding answer_of table_of
writes_refusal n p s T x w = (w.answer, search rules)
