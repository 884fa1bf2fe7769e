-- `store_skip_list`: the node's list, what skipping paths follow of it, and that stored. Assumes nothing.
use borrow.Author.Rules.{rules}
use lib.ListN.{length}
use mathlib.Core.Path.{◌≡◌}
use native.Mathlib.Omega.{arith}
use Rattle.passes.specs.SkipLists.{list-kept, skip_total, skip_room, skip_over, skip_fits, skip_store}
use Rattle.storing.specs.Appending.{answered_appended}
use Rattle.wiring.proofs.skip_lists.store_skip_list.Goals as goal

pub overflow_add-total : goal.overflow_add-total
overflow_add-total c = omega (arith, skip_total c.requires.ready c.list_of-count.ensures, c.requires.ready.node, c.requires.ready.roles.few)

pub returns-then-total-gt-MAX_EDGES : goal.returns-then-total-gt-MAX_EDGES
returns-then-total-gt-MAX_EDGES c = skip_over c.requires.ready c.list_of-count.ensures c.if-total-gt-MAX_EDGES.true

pub skip_list-kept-requires : goal.skip_list-kept-requires
skip_list-kept-requires c =
    let size : length c.list_of-count.new.part ≡ 4096 = search rules in
    omega (arith, size, (skip_room c.requires.ready c.list_of-count.ensures).3)

pub returns : goal.returns
returns c = skip_store c.requires.ready c.list_of-count.ensures c.skip_list-kept.ensures (answered_appended _ (list-kept c.skip_list-kept.ensures) (skip_fits c.requires.ready c.list_of-count.ensures c.skip_list-kept.ensures c.if-total-gt-MAX_EDGES.false) c.append_list-at.ensures)
