-- `ask_text`: cut, built, and answered by the build. Assumes nothing.
use Rattle.std.proofs.Common.{ap}
use Rattle.wiring.specs.BuiltAnswer.{built_told}
use Rattle.asking.specs.Asked.{listing_refused, questions_asked}
use Rattle.asking.proofs.ask.ask_text.Goals as goal

pub returns-in-Err : goal.returns-in-Err
returns-in-Err c = listing_refused c.args.text.now _ _ c.split_questions.ensures _ _ _ _ _ _ _ _ _ _ _ _ (built_told c.build-built.result) c.build-built.ensures _ _ _ _ _ (ap built_told c.in-Err.is) c.print_refusal.ensures

pub returns-in-Ok : goal.returns-in-Ok
returns-in-Ok c = questions_asked c.args.text.now _ _ c.split_questions.ensures _ _ _ _ _ _ _ _ _ _ _ _ (built_told c.build-built.result) c.build-built.ensures _ _ _ (ap built_told c.in-Ok.is) c.answer_questions.ensures
