-- `write_list`: the list of a RETURN or a call from the buffer, any other's from scratch. Assumes nothing.
use borrow.Author.Rules.{rules}
use Rattle.storing.specs.FinalLists.{return_ready, return_fits, return_done, call_ready, call_fits, call_done, move_fits, move_done}
use Rattle.storing.proofs.final_lists.write_list.Goals as goal

pub return_list-requires : goal.return_list-requires
return_list-requires c =
    let h = return_ready c.requires.1 (search rules) in
    (c.requires.0, h.1, h.3)

pub put_list-requires : goal.put_list-requires
put_list-requires c = return_fits c.requires.1 (search rules) c.return_list.ensures

pub returns-then-word-eq-RETURN : goal.returns-then-word-eq-RETURN
returns-then-word-eq-RETURN c = return_done c.requires.1 (search rules) c.return_list.ensures c.put_list.ensures

pub put_jump-requires : goal.put_jump-requires
put_jump-requires c =
    (c.requires.0, (call_ready c.requires.1 (search rules) (search rules)).3)

pub put_list-requires-then-is_call : goal.put_list-requires-then-is_call
put_list-requires-then-is_call c = call_fits c.requires.1 (search rules) (search rules) c.told-buffer c.put_jump.ensures

pub returns-then-is_call : goal.returns-then-is_call
returns-then-is_call c = call_done c.requires.1 (search rules) (search rules) c.told-buffer c.put_jump.ensures c.put_list-then-is_call.ensures

pub move_list-requires-clause-node_in_bounds_2 : goal.move_list-requires-clause-node_in_bounds_2
move_list-requires-clause-node_in_bounds_2 c =
    let m = move_fits c.requires.1 (search rules) (search rules) in
    (m.2, m.3)

pub returns : goal.returns
returns c = move_done c.requires.1 (search rules) (search rules) c.move_list.ensures
