-- A line's entry by the line's number, by what the tables say, whoever wrote them; or document 01's refusal. Assumes nothing.
use Rattle.std.specs.Prelude.{ℕ, ◌*◌, List, ltb, leb, length, get_or}
use Rattle.std.specs.Prelude as std
use Rattle.std.proofs.Math.Option.{Option, none, some}
use Rattle.listings.specs.Bytes.{pick}
use Rattle.graph.specs.Nodes.{entry_in}
use Rattle.tables.specs.EntryRows.{entries_in}
use Rattle.graph.specs.Questions.{Reply, answer, refused}

-- "25 .. a record that the call reads points outside its table (place 0)": the entry of one of so many nodes
unfoldable pub node_in : (nodes : ℕ) → Option ℕ → Reply (Option ℕ)
node_in nodes none = answer none
node_in nodes (some i) = pick (ltb i nodes) (answer (some i)) (refused 25 0)

-- "25 a used count .. points outside its table (place 0)": two entries a row; the entry of the first row with that number, if there is one
unfoldable pub entry_at : (counts entries : List ℕ) (number : ℕ) → Reply (Option ℕ)
entry_at counts entries number =
    pick (leb (get_or counts 5 0 * 2) (length entries)) (node_in (get_or counts 1 0) (entry_in (entries_in (get_or counts 5 0) entries) number)) (refused 25 0)

-- what the routine answers, a node or none, in the definition's words
abbrev pub node_of : std.Option ℕ → Option ℕ
node_of std.None = none
node_of (std.Some i) = some i
