-- `ask_entry`: the four answers in the order of the tests. Assumes nothing.
use Rattle.std.proofs.Common.{◌≡◌, rules, None}
use Rattle.adjacency.specs.EntryAtLaws.{rows-outside, entered_nowhere, entry_outside, entered_node}
use Rattle.adjacency.proofs.entry.ask_entry.Goals as goal

pub returns-then-entries-n : goal.returns-then-entries-n
returns-then-entries-n c = rw c.at.ensures (rows-outside _ _ _ _ c.rows-n.ensures.0 c.if-entries-n.true)

pub returns-in-Some : goal.returns-in-Some
returns-in-Some c = rw c.at-in-Some.ensures (entry_outside _ _ _ _ c.rows-n.ensures.0 c.if-entries-n.false _ c.first_entry.ensures _ c.in-Some.is _ c.nodes.ensures.0 c.if-nodes-id.true)

pub returns-in_default : goal.returns-in_default
returns-in_default c = entered_node _ _ _ _ c.rows-n.ensures.0 c.if-entries-n.false _ c.first_entry.ensures _ c.in-Some.is _ c.nodes.ensures.0 c.if-nodes-id.false

pub returns-in_default-2 : goal.returns-in_default-2
returns-in_default-2 c =
    let e : c.first_entry.result ≡ None = search rules in
    rw e (entered_nowhere _ _ _ _ c.rows-n.ensures.0 c.if-entries-n.false _ c.first_entry.ensures e)
