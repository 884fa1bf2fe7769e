-- `add_own`: by the word. Assumes nothing.
use borrow.Author.Rules.{rules}
use mathlib.Core.Path.{sym, ◌∙◌}
use native.Mathlib.Omega.{arith}
use Rattle.passes.specs.AddRoom.{room_as}
use Rattle.passes.specs.NodeListLaws.{own_branches, own-run, own_jump, own_next, own_any, own_block_lem}
use Rattle.storing.specs.AddWithin.{fits_jump, jump_is}
use Rattle.storing.specs.NodeLists.{added_as, grew_within}
use Rattle.wiring.specs.FromLeads.{frames_of}
use Rattle.wiring.proofs.list_of.add_own.Goals as goal

pub returns-in-0-to-6 : goal.returns-in-0-to-6
returns-in-0-to-6 c = grew_within c.requires.ready.room (added_as (own_branches _ _ _ _ _ _ _ (search rules)) c.add_targets.ensures)

pub returns-in-10 : goal.returns-in-10
returns-in-10 c = grew_within c.requires.ready.room (added_as (own-run _ _ _ _ _ _ _ (omega (arith, c.word-word.ensures, c.in-10.is)) (sym c.word-word.ensures ∙ c.in-10.is)) c.add_run.ensures)

pub returns-in-7 : goal.returns-in-7
returns-in-7 c =
    let r = c.requires.ready in
    let j = jump_is _ _ _ _ (fits_jump _ _ _ _ r.stmts r.falls r.links (r.few (search rules))) in
    grew_within r.room (added_as (own_jump _ _ _ _ _ _ _ (search rules) (search rules) (search rules)) (added_as j c.add_jump.ensures))

pub returns-in-14 : goal.returns-in-14
returns-in-14 c = let e = sym c.word-word.ensures ∙ c.in-14.is in grew_within c.requires.ready.room (added_as (own_next _ _ _ _ _ _ _ (omega arith) (omega arith) (omega arith) e) c.add_next.ensures)

pub all_line_entry_nodes-requires-clause-room_to_add : goal.all_line_entry_nodes-requires-clause-room_to_add
all_line_entry_nodes-requires-clause-room_to_add c = let e = sym c.word-word.ensures ∙ c.in-26.is in room_as (own_any _ _ _ _ _ _ _ (omega arith) (omega arith) (omega arith) e) c.requires.ready.room

pub returns-in-26 : goal.returns-in-26
returns-in-26 c =
    let g = c.args.g.now in
    let e = sym c.word-word.ensures ∙ c.in-26.is in
    rw (own_any g.nodes.records.stmts.now g.entries.rows.now g.nodes.falls.now g.nodes.links.now (frames_of g) g.entries.count c.args.i (omega arith) (omega arith) (omega arith) e) at c.all_line_entry_nodes.ensures

pub returns-in_default : goal.returns-in_default
returns-in_default c = grew_within c.requires.ready.room (added_as (own_block_lem _ _ _ _ _ _ _ (search rules) (search rules) (search rules) (search rules) (search rules)) (rw c.word-word.ensures at c.add_block.ensures))
