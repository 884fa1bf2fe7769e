-- `skip_list`: the list as it is, or where a call falls: nothing, or one node. Assumes nothing.
use borrow.Author.Rules.{rules}
use Prim.Native.Nat.{◌-◌, ◌*◌}
use lib.ListN.{get_or, length}
use mathlib.Core.Path.{◌≡◌, sym, ◌∙◌}
use mathlib.Core.Bool.{true, false}
use native.Mathlib.Omega.{arith}
use Rattle.tables.specs.Columns.{call_word, word_of}
use Rattle.passes.specs.SkipLists.{skip_same, skip_fall, fall_none, fall_one}
use Rattle.wiring.proofs.skip_lists.skip_list.Goals as goal

pub returns-then-not-is_call : goal.returns-then-not-is_call
unfolding word_of
returns-then-not-is_call c =
    let size : length c.args.buffer.now ≡ 4096 = search rules in
    let a = c.args in
    let e : call_word (word_of a.g.now.nodes.records.stmts.now a.i) ≡ false = rw c.word.ensures at (sym c.is_call.ensures ∙ c.if-not-is_call.true) in
    skip_same a.g.now.nodes.records.stmts.now a.g.now.nodes.falls.now a.i a.buffer.now a.count e (omega (arith, size, c.requires))

pub returns-in_default : goal.returns-in_default
unfolding word_of
returns-in_default c =
    let a = c.args in
    let e : call_word (word_of a.g.now.nodes.records.stmts.now a.i) ≡ true = rw c.word.ensures at (sym c.is_call.ensures ∙ c.if-not-is_call.false) in
    skip_fall a.g.now.nodes.records.stmts.now a.g.now.nodes.falls.now a.i a.buffer.now a.count e _ _
    (fall_none a.g.now.nodes.falls.now a.i a.buffer.now (omega (arith, c.fall.ensures, c.in_default.ensures)))

pub returns : goal.returns
unfolding word_of
returns c =
    let a = c.args in
    let size : length a.buffer.now ≡ 4096 = search rules in
    let e : call_word (word_of a.g.now.nodes.records.stmts.now a.i) ≡ true = rw c.word.ensures at (sym c.is_call.ensures ∙ c.if-not-is_call.false) in
    let v : c.in-Some.node ≡ get_or a.g.now.nodes.falls.now (a.i * 3) 0 - 1 = omega (arith, c.fall.ensures, c.in-Some.ensures) in
    skip_fall a.g.now.nodes.records.stmts.now a.g.now.nodes.falls.now a.i a.buffer.now a.count e _ _
    (rw v (fall_one a.g.now.nodes.falls.now a.i a.buffer.now (omega (arith, c.fall.ensures, c.in-Some.ensures)) (omega (arith, size))))
