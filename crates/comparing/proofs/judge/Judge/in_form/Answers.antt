-- `in_form`: by each state. Assumes nothing.
use mathlib.Core.Path.{sym, ap, ◌∙◌}
use Rattle.graph.specs.Check.{ends}
use Rattle.comparing.specs.Judging.{good}
use Rattle.comparing.specs.JudgeStates.{reading_of, left-ends}
use Rattle.comparing.specs.declared.judge.Judge.{Judge}
use Rattle.comparing.proofs.judge.Judge.in_form.Goals as goal

pub returns-in-Outside : goal.returns-in-Outside
unfolding ends good reading_of
returns-in-Outside c = c.only_lists.ensures ∙ left-ends _ ∙ sym (ap (λ (x : Judge). good (reading_of x)) c.in-Outside.is)

pub returns-in-Inside : goal.returns-in-Inside
unfolding ends good reading_of
returns-in-Inside c = c.only_lists-in-Inside.ensures ∙ left-ends _ ∙ sym (ap (λ (x : Judge). good (reading_of x)) c.in-Inside.is)
