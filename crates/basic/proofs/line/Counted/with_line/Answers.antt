-- `with_line`: test by test, as the definition has them. Assumes nothing.
use Rattle.std.proofs.Common.{◌≡◌, not, arith, sym, ◌∙◌, refl}
use Rattle.std.specs.Prelude.{Ok}
use borrow.Author.Tests.{not-true, not-false}
use Rattle.listings.specs.Listing.{Stmts, size}
use Rattle.program_files.specs.Program as definition
use Rattle.program_files.specs.Program.{shallow, short}
use Rattle.basic.specs.Bodies.{summary}
use Rattle.basic.specs.LineLaws.{above_last, told_4, told_5, told_6, told_7, told_8, told-taken}
use Rattle.basic.specs.declared.bodies.Body.{Body}
use Rattle.basic.proofs.line.Counted.with_line.Goals as goal

-- what the summary says of the statements
record Told (st : Stmts) (b : Body) : Type 0 where
  pub stmts : b.stmts ≡ size st
  pub deep : b.deep ≡ not (shallow 0 st)
  pub long : b.long ≡ not (short st)

told : (st : Stmts) (b : Body) → Ok b ≡ summary (definition.body st) → Told st b
unfolding summary
told st b f = record { stmts = cc; deep = cc; long = cc }

pub returns-then-not-ascends-clause-told : goal.returns-then-not-ascends-clause-told
returns-then-not-ascends-clause-told c st e = rw c.at.ensures (told_4 c.args.self c.args.n st (sym (c.ascends.ensures ∙ above_last c.args.n c.args.self.last) ∙ c.if-not-ascends.true))

pub returns-then-self-ge-MAX_LINES-clause-told : goal.returns-then-self-ge-MAX_LINES-clause-told
returns-then-self-ge-MAX_LINES-clause-told c st e = rw c.at-then-self-ge-MAX_LINES.ensures (told_5 c.args.self c.args.n st (sym (c.ascends.ensures ∙ above_last c.args.n c.args.self.last) ∙ c.if-not-ascends.false) (omega arith))

pub returns-then-self-body-gt-MAX_STMTS-clause-told : goal.returns-then-self-body-gt-MAX_STMTS-clause-told
returns-then-self-body-gt-MAX_STMTS-clause-told c st e =
    let t = told st c.args.body e in
    let z = t.stmts in
    rw c.at-then-self-body-gt-MAX_STMTS.ensures (told_6 c.args.self c.args.n st (sym (c.ascends.ensures ∙ above_last c.args.n c.args.self.last) ∙ c.if-not-ascends.false) (omega arith) (omega arith))

pub returns-then-body-clause-told : goal.returns-then-body-clause-told
returns-then-body-clause-told c st e =
    let t = told st c.args.body e in
    let z = t.stmts in
    rw c.at-then-body.ensures (told_7 c.args.self c.args.n st (sym (c.ascends.ensures ∙ above_last c.args.n c.args.self.last) ∙ c.if-not-ascends.false) (omega arith) (omega arith) (not-true _ (sym t.deep ∙ c.if-body.true)))

pub returns-then-body-2-clause-told : goal.returns-then-body-2-clause-told
returns-then-body-2-clause-told c st e =
    let t = told st c.args.body e in
    let z = t.stmts in
    rw c.at-then-body-2.ensures
    (told_8 c.args.self c.args.n st (sym (c.ascends.ensures ∙ above_last c.args.n c.args.self.last) ∙ c.if-not-ascends.false) (omega arith) (omega arith) (not-false _ (sym t.deep ∙ c.if-body.false)) (not-true _ (sym t.long ∙ c.if-body-2.true)))

pub returns-clause-told : goal.returns-clause-told
returns-clause-told c st e =
    let t = told st c.args.body e in
    let z = t.stmts in
    told-taken c.args.self c.args.n st (sym (c.ascends.ensures ∙ above_last c.args.n c.args.self.last) ∙ c.if-not-ascends.false) (omega arith) (omega arith) (not-false _ (sym t.deep ∙ c.if-body.false)) (not-false _ (sym t.long ∙ c.if-body-2.false)) _ refl refl (omega arith) c.args.next
