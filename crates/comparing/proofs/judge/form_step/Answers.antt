-- `form_step`: by the byte of the form that stands behind the lists passed. Assumes nothing.
use native.Mathlib.Omega.{arith}
use Rattle.comparing.specs.JudgeStates.{left_of, reading_of, step-ends, step_number, step-list, step_path, step_one, step-met, step_missed}
use Rattle.comparing.proofs.judge.form_step.Goals as goal

pub returns-in_default : goal.returns-in_default
unfolding reading_of
returns-in_default c = step-ends c.args.left.now c.args.b _ c.pass_lists.ensures c.in_default.ensures.cases

pub returns-in-35 : goal.returns-in-35
unfolding left_of
returns-in-35 c = step_number c.args.left.now c.args.b _ c.pass_lists.ensures _ _ c.in-Some.ensures.cases.0 c.in-35.is c.begin_number.ensures

pub returns-in-42 : goal.returns-in-42
unfolding left_of reading_of
returns-in-42 c = step-list c.args.left.now c.args.b _ c.pass_lists.ensures _ _ c.in-Some.ensures.cases.0 c.in-42.is

pub returns-in-37 : goal.returns-in-37
unfolding left_of
returns-in-37 c = step_path c.args.left.now c.args.b _ c.pass_lists.ensures _ _ c.in-Some.ensures.cases.0 c.in-37.is c.begin_number-in-37.ensures

pub returns-in-63 : goal.returns-in-63
unfolding left_of reading_of
returns-in-63 c = step_one c.args.left.now c.args.b _ c.pass_lists.ensures _ _ c.in-Some.ensures.cases.0 c.in-63.is

pub returns-in_default-c : goal.returns-in_default-c
unfolding left_of reading_of
returns-in_default-c c = step-met c.args.left.now c.args.b _ c.pass_lists.ensures _ _ c.in-Some.ensures.cases.0 (λ e. omega arith) (λ e. omega arith) (λ e. omega arith) (λ e. omega arith) c.if-d-b.true

pub returns-in_default-2 : goal.returns-in_default-2
unfolding reading_of
returns-in_default-2 c = step_missed c.args.left.now c.args.b _ c.pass_lists.ensures _ _ c.in-Some.ensures.cases.0 (λ e. omega arith) (λ e. omega arith) (λ e. omega arith) (λ e. omega arith) c.if-d-b.false
