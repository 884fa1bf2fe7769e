-- `put_by_number`: each opening word in turn. Assumes nothing.
use Rattle.std.proofs.Common.{rules, arith, ◌≡◌, refl, ap, ◌∙◌, Err}
use Rattle.listings.specs.Bytes.{bytes}
use Rattle.graph.specs.Lists.{list}
use Rattle.adjacency.specs.EntryAt.{node_of}
use Rattle.formatting.specs.Pages.{wrote_is}
use Rattle.answers.specs.Flowask.{list_row}
use Rattle.answers.specs.AnswersAt.{answer_at, numbered_row, successors_answer, predecessors_answer, statement_answer, entry_answer, successors_inside, predecessors_inside, list_is, no_list, row_is, no_row, entry_row_is}
use Rattle.answers.proofs.answers.put_by_number.Goals as goal

pub returns-in_err-start-in-Successors : goal.returns-in_err-start-in-Successors
unfolding bytes answer_at successors_answer
returns-in_err-start-in-Successors c =
    let g = c.args.g.now in
    let e : c.from_residual.result ≡ Err c.in_err-start-in-Successors.field-0.0 = search rules in
    rw (e, c.in-Successors.is)
    (refl, no_list (bytes "(successors") g.succ.now _ _ c.in_err-start-in-Successors.ensures ∙ ap (successors_answer g.counts.now g.lists.now g.succ.now) c.from-node.ensures)

pub overflow_add-start : goal.overflow_add-start
overflow_add-start c = omega (arith, successors_inside _ _ _ _ _ _ c.in_ok-start-in-Successors.ensures)

pub offset_bounds-g-start : goal.offset_bounds-g-start
offset_bounds-g-start c = omega (arith, successors_inside _ _ _ _ _ _ c.in_ok-start-in-Successors.ensures)

pub slice_bounds-put_list_row-end-in-Successors : goal.slice_bounds-put_list_row-end-in-Successors
slice_bounds-put_list_row-end-in-Successors c = omega (arith, successors_inside _ _ _ _ _ _ c.in_ok-start-in-Successors.ensures)

pub returns-in_ok-start-in-Successors : goal.returns-in_ok-start-in-Successors
unfolding bytes answer_at successors_answer
returns-in_ok-start-in-Successors c =
    let g = c.args.g.now in
    let o = c.in_ok-start-in-Successors in
    rw c.in-Successors.is
    (wrote_is (list_is (bytes "(successors") g.succ.now _ _ _ o.ensures ∙ ap (successors_answer g.counts.now g.lists.now g.succ.now) c.from-node.ensures) c.put_list_row.ensures)

pub returns-in_err-start-in-Predecessors : goal.returns-in_err-start-in-Predecessors
unfolding bytes answer_at predecessors_answer
returns-in_err-start-in-Predecessors c =
    let g = c.args.g.now in
    let e : c.from_residual-in_err-start-in-Predecessors.result ≡ Err c.in_err-start-in-Predecessors.field-0.0 = search rules in
    rw (e, c.in-Predecessors.is)
    (refl, no_list (bytes "(predecessors") g.pred.now _ _ c.in_err-start-in-Predecessors.ensures ∙ ap (predecessors_answer g.counts.now g.lists.now g.pred.now) c.from-node.ensures)

pub overflow_add-start-in-Predecessors : goal.overflow_add-start-in-Predecessors
overflow_add-start-in-Predecessors c = omega (arith, predecessors_inside _ _ _ _ _ _ c.in_ok-start-in-Predecessors.ensures)

pub offset_bounds-g-start-in-Predecessors : goal.offset_bounds-g-start-in-Predecessors
offset_bounds-g-start-in-Predecessors c = omega (arith, predecessors_inside _ _ _ _ _ _ c.in_ok-start-in-Predecessors.ensures)

pub slice_bounds-put_list_row-end-in-Predecessors-2 : goal.slice_bounds-put_list_row-end-in-Predecessors-2
slice_bounds-put_list_row-end-in-Predecessors-2 c = omega (arith, predecessors_inside _ _ _ _ _ _ c.in_ok-start-in-Predecessors.ensures)

pub returns-in_ok-start-in-Predecessors : goal.returns-in_ok-start-in-Predecessors
unfolding bytes answer_at predecessors_answer
returns-in_ok-start-in-Predecessors c =
    let g = c.args.g.now in
    let o = c.in_ok-start-in-Predecessors in
    rw c.in-Predecessors.is
    (wrote_is (list_is (bytes "(predecessors") g.pred.now _ _ _ o.ensures ∙ ap (predecessors_answer g.counts.now g.lists.now g.pred.now) c.from-node.ensures) c.put_list_row-in-Predecessors.ensures)

pub returns-in_err-node-in-Statement : goal.returns-in_err-node-in-Statement
unfolding answer_at statement_answer
returns-in_err-node-in-Statement c =
    let g = c.args.g.now in
    let e : c.from_residual-in_err-node-in-Statement.result ≡ Err c.in_err-node-in-Statement.field-0.0 = search rules in
    rw (e, c.in-Statement.is) (refl, no_row (λ d. d) numbered_row _ _ c.in_err-node-in-Statement.ensures ∙ ap (statement_answer g.counts.now g.stmts.now) c.from-node.ensures)

pub returns-in_ok-node-in-Statement : goal.returns-in_ok-node-in-Statement
unfolding answer_at statement_answer numbered_row
returns-in_ok-node-in-Statement c =
    let g = c.args.g.now in
    rw c.in-Statement.is (wrote_is (row_is (λ d. d) numbered_row _ _ c.in_ok-node-in-Statement.ensures ∙ ap (statement_answer g.counts.now g.stmts.now) c.from-node.ensures) c.put_stmt.ensures)

pub returns-in_err-entry-in-Entry : goal.returns-in_err-entry-in-Entry
unfolding answer_at entry_answer
returns-in_err-entry-in-Entry c =
    let e : c.from_residual-in_err-entry-in-Entry.result ≡ Err c.in_err-entry-in-Entry.field-0.0 = search rules in
    rw (e, c.in-Entry.is) (refl, no_row node_of (λ d. list_row (bytes "(entry") (list d)) _ _ c.in_err-entry-in-Entry.ensures)

pub returns-in_ok-entry-in-Entry : goal.returns-in_ok-entry-in-Entry
unfolding answer_at entry_answer
returns-in_ok-entry-in-Entry c =
    let entry = c.in_ok-entry-in-Entry.entry in
    rw c.in-Entry.is (wrote_is (entry_row_is entry ∙ row_is node_of (λ d. list_row (bytes "(entry") (list d)) _ entry c.in_ok-entry-in-Entry.ensures) c.put_entry.ensures)
