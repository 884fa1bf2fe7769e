-- Where a node's successors and predecessors stand, by what the tables say, whoever wrote them; or document 01's refusal. Assumes nothing.
use Rattle.std.specs.Prelude.{ℕ, ◌+◌, ◌*◌, List, [], ltb, leb, length, get_or, take, drop}
use Rattle.listings.specs.Bytes.{pick}
use Rattle.tables.specs.Columns.{succ_start, succ_count, pred_start, pred_count}
use Rattle.graph.specs.Questions.{Reply, answer, refused}

-- "24 node id not below the node count (place: the id). 25 a used count or a record that the call reads points outside its table (place 0)":
-- size: how many entries the edge table has; start, count: the node's record
unfoldable pub list_at : (counts lists : List ℕ) (size node start count : ℕ) → Reply (ℕ × ℕ)
list_at counts lists size node start count =
    pick (ltb node (get_or counts 1 0)) (pick (leb (get_or counts 1 0 * 4) (length lists)) (pick (leb (start + count) size) (answer (start, count)) (refused 25 0)) (refused 25 0)) (refused 24 node)

unfoldable pub successors_at : (counts lists : List ℕ) (size node : ℕ) → Reply (ℕ × ℕ)
successors_at counts lists size node = list_at counts lists size node (succ_start lists node) (succ_count lists node)

unfoldable pub predecessors_at : (counts lists : List ℕ) (size node : ℕ) → Reply (ℕ × ℕ)
predecessors_at counts lists size node = list_at counts lists size node (pred_start lists node) (pred_count lists node)

-- that part of the edge table, none where it was refused
unfoldable pub part_of : Reply (ℕ × ℕ) → List ℕ → List ℕ
part_of (answer d) table = take d.1 (drop d.0 table)
part_of (refused n p) table = []

-- an answered part as the list that stands there
unfoldable pub list_reply : Reply (ℕ × ℕ) → List ℕ → Reply (List ℕ)
list_reply (answer d) table = answer (take d.1 (drop d.0 table))
list_reply (refused n p) table = refused n p
