-- What the entries of the graph's tables say: the columns of their records. Assumes nothing.
use Rattle.std.specs.Prelude.{ℕ, zero, suc, ◌+◌, ◌*◌, ◌≤◌, ◌<◌, Bool, ◌||◌, List, [], ◌∷◌, ◌++◌, eqb, length, get_or, take, drop}
use Rattle.std.proofs.Math.Option.{Option, none, some}
use Rattle.listings.specs.Bytes.{pick}
use Rattle.layout.specs.Layout.{gosub_word, ongosub_word, stmt_entries, fall_entries, list_entries, line_column, holder_column, index_column}
use Rattle.graph_laws.specs.Adding.{decode}

-- ---- a statement's record (12 entries), and where it falls (3 entries)

-- "only GOSUB and ON GOSUB are calls": whether an opening word is that of a call
unfoldable pub call_word : ℕ → Bool
call_word w = eqb w gosub_word || eqb w ongosub_word

-- the number of its opening word
unfoldable pub word_of : List ℕ → ℕ → ℕ
word_of stmts i = get_or stmts (i * stmt_entries) 0

-- where it falls: one more than the node, or 0
unfoldable pub fall_entry : List ℕ → ℕ → List ℕ
fall_entry falls i = decode (get_or falls (i * fall_entries) 0)

-- where a statement continues, if it is a call
unfoldable pub continuation_entry : List ℕ → List ℕ → ℕ → List ℕ
continuation_entry stmts falls i = pick (call_word (word_of stmts i)) (fall_entry falls i) []

-- the IF that holds it: one more than its node, or 0
abbrev pub holder_of : List ℕ → ℕ → ℕ
holder_of stmts i = get_or stmts (i * stmt_entries + holder_column) 0

-- the last number of its path
abbrev pub index_of : List ℕ → ℕ → ℕ
index_of stmts i = get_or stmts (i * stmt_entries + index_column) 0

-- the line that it stands in
abbrev pub line_of : List ℕ → ℕ → ℕ
line_of stmts i = get_or stmts (i * stmt_entries + line_column) 0

-- ---- a node's path

abbrev pub held_by : (ℕ → List ℕ) → ℕ → List ℕ
held_by f zero = []
held_by f (suc h) = f h

-- the path of the IF that holds it, and then its own number; no more than k IFs hold it
unfoldable pub path_in : List ℕ → ℕ → ℕ → List ℕ
path_in stmts zero i = index_of stmts i ∷ []
path_in stmts (suc k) i = held_by (λ h. path_in stmts k h) (holder_of stmts i) ++ (index_of stmts i ∷ [])

-- n statements, of which each is held by one of them or by none
pub record Holders (stmts : List ℕ) (n : ℕ) : Type 0 where
  pub rows : n * stmt_entries ≤ length stmts
  pub held : (i : ℕ) → i < n → holder_of stmts i ≤ n

-- ---- a node's row of four: where its successors and its predecessors stand, and how many

abbrev pub succ_start : List ℕ → ℕ → ℕ
succ_start t i = get_or t (i * list_entries) 0

abbrev pub succ_count : List ℕ → ℕ → ℕ
succ_count t i = get_or t (i * list_entries + 1) 0

abbrev pub pred_start : List ℕ → ℕ → ℕ
pred_start t i = get_or t (i * list_entries + 2) 0

abbrev pub pred_count : List ℕ → ℕ → ℕ
pred_count t i = get_or t (i * list_entries + 3) 0

-- the parts of the edge tables that a node's row names
abbrev pub succ_part : (lists succ : List ℕ) → ℕ → List ℕ
succ_part lists succ i = take (succ_count lists i) (drop (succ_start lists i) succ)

abbrev pub pred_part : (lists pred : List ℕ) → ℕ → List ℕ
pred_part lists pred i = take (pred_count lists i) (drop (pred_start lists i) pred)

-- the rows of n nodes can be read
pub record NodesReadable (lines stmts lists succ pred : List ℕ) (n : ℕ) : Type 0 where
  pub holders : Holders stmts n
  pub numbered : (i : ℕ) → i < n → line_of stmts i < length lines
  pub rows : n * list_entries ≤ length lists
  pub succ_in : (i : ℕ) → i < n → succ_start lists i + succ_count lists i ≤ length succ
  pub pred_in : (i : ℕ) → i < n → pred_start lists i + pred_count lists i ≤ length pred

-- ---- line entries

-- a node or none, from an entry: one more than the node, or 0
abbrev pub entry_node : ℕ → Option ℕ
entry_node zero = none
entry_node (suc a) = some a
