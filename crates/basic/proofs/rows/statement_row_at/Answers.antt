-- Colons before a statement are passed.
use Rattle.std.proofs.Common.{◌≡◌, refl, arith}
use Rattle.basic.specs.RowLaws.{passed_none, passed_end, passed_colon, passed_first, next_line, next_later}
use Rattle.basic.proofs.rows.statement_row_at.Goals as goal

pub loop-at-init : goal.loop-at-init
loop-at-init c = record { passed = passed_none c.args.file.now c.args.s; same = refl }

pub returns-in-0 : goal.returns-in-0
returns-in-0 c =
    passed_end c.args.file.now c.args.s c.loop-at.at c.token_at-t.result c.loop-at.invariant.passed c.token_at-t.ensures c.end_row_at.result c.in-0.is (c.end_row_at.ensures _ _)

pub action_row-requires-clause-line : goal.action_row-requires-clause-line
action_row-requires-clause-line c = next_line c.args.file.now c.args.s c.loop-at.at c.token_at-t.result c.loop-at.invariant.passed c.token_at-t.ensures (grind arith)

pub action_row-requires-clause-later : goal.action_row-requires-clause-later
action_row-requires-clause-later c = next_later c.args.file.now c.args.s c.loop-at.at c.token_at-t.result c.loop-at.invariant.passed c.token_at-t.ensures (grind arith)

pub returns-in_default : goal.returns-in_default
returns-in_default c =
    let more : c.token_at-t.result.byte ≡ 0 → ⊥ = grind arith in
    let within : c.token_at-t.result.byte ≡ 58 → ⊥ = grind arith in
    passed_first c.args.file.now c.args.s c.loop-at.at c.token_at-t.result c.loop-at.invariant.passed c.token_at-t.ensures more c.action_row.result within (rw c.loop-at.invariant.same at c.action_row.ensures)

pub loop-at-preserved : goal.loop-at-preserved
loop-at-preserved c =
    record {
      passed = passed_colon c.args.file.now c.args.s c.loop-at.at c.token_at-t.result c.loop-at.invariant.passed c.token_at-t.ensures (λ z. omega arith) c.in-58.is;
      same = c.loop-at.invariant.same;
    }
