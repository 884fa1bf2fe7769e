-- A text as it was, a program by its own judge. Assumes nothing.
use Rattle.std.proofs.Common.{rules, ◌≡◌, sym, ap, ◌∙◌}
use Rattle.reader.specs.Answer.{by_number}
use Rattle.reader.specs.FileLoop.{listed_program_of, program_listed}
use Rattle.reader.specs.Listed.{listed_cut}
use Rattle.reader.proofs.listing.Input.judge.Goals as goal

pub returns-in-Text : goal.returns-in-Text
returns-in-Text c = rw c.in-Text.is (c.judge.ensures ∙ sym (listed_cut c.in-Text.text.now))

pub returns-in-Program : goal.returns-in-Program
returns-in-Program c =
    let m : c.map.result ≡ listed_program_of c.judge_program.result = search rules in
    rw c.in-Program.is (ap by_number m ∙ program_listed c.in-Program.file.now c.judge_program.result c.judge_program.ensures)
