-- `ask`: the four answers in the order of the tests. Assumes nothing.
use Rattle.std.proofs.Common.{refl, ◌∙◌, arith}
use Rattle.adjacency.specs.ListsAtLaws.{asked_24, asked-count, asked_record, asked_part}
use Rattle.adjacency.specs.Sides.{side_read}
use Rattle.adjacency.proofs.successors.Lists.ask.Goals as goal

pub returns-then-nodes-node : goal.returns-then-nodes-node
returns-then-nodes-node c = rw c.at.ensures (asked_24 _ _ _ _ _ _ _ c.nodes-nodes.ensures.0 c.if-nodes-node.true ∙ side_read _ _ _ _ _ _ refl)

pub returns-then-self-nodes : goal.returns-then-self-nodes
returns-then-self-nodes c = rw c.at-then-self-nodes.ensures (asked-count _ _ _ _ _ _ _ c.nodes-nodes.ensures.0 (omega arith) c.if-self-nodes.true ∙ side_read _ _ _ _ _ _ refl)

pub returns-then-size-start : goal.returns-then-size-start
returns-then-size-start c =
    rw c.at-then-size-start.ensures
    (asked_record _ _ _ _ _ _ _ c.nodes-nodes.ensures.0 c.if-nodes-node.false c.if-self-nodes.false _ _ c.from-start.ensures c.from-count.ensures c.if-size-start.true
    ∙ side_read _ _ _ _ _ _ c.column-first.ensures.value)

pub returns : goal.returns
returns c =
    asked_part _ _ _ _ _ _ _ c.nodes-nodes.ensures.0 c.if-nodes-node.false c.if-self-nodes.false _ _ c.from-start.ensures c.from-count.ensures c.if-size-start.false
    ∙ side_read _ _ _ _ _ _ c.column-first.ensures.value
