-- `list_size`: a RETURN's, a call's, or any other's. Assumes nothing.
use borrow.Author.Rules.{rules}
use Prim.Native.Nat.{◌+◌, ◌*◌}
use mathlib.Core.Path.{ap, ◌∙◌}
use Rattle.passes.specs.Sets.{size_of}
use native.Mathlib.Omega.{arith}
use Rattle.storing.specs.FinalLists.{size_through, size_back, size_ready, size_call, size-other}
use Rattle.storing.proofs.edge_count.list_size.Goals as goal

pub returns-then-source : goal.returns-then-source
returns-then-source c = size_through c.args.source.now.handlers c.requires.1 (search rules) c.if-source.true

pub returns-then-word-eq-RETURN : goal.returns-then-word-eq-RETURN
returns-then-word-eq-RETURN c =
    size_back c.args.source.now.handlers c.requires.1 (search rules) c.if-source.false (c.size_of.ensures ∙ ap size_of c.set_at.ensures.is_set)

pub put_jump-requires : goal.put_jump-requires
put_jump-requires c = (c.requires.0, (size_ready c.args.source.now.handlers c.requires.1 (search rules) (search rules)).3)

pub returns-then-is_call : goal.returns-then-is_call
returns-then-is_call c = size_call c.args.source.now.handlers c.requires.1 (search rules) (search rules) c.told-buffer c.put_jump.ensures

pub returns : goal.returns
returns c =
    let k = c.type_inv.lists (c.args.i * 4 + 1) in
    size-other c.args.source.now.handlers c.requires.1 (search rules) (search rules) _ c.from.ensures (omega (arith, c.from.ensures, k))
