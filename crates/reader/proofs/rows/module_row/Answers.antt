-- `module_row`: a flag, or no form. Assumes nothing.
use Rattle.std.proofs.Common.{rules, ◌≡◌, ap, ◌∙◌}
use Rattle.reader.specs.CodedRows.{flag_row, module_flag}
use Rattle.reader.proofs.rows.module_row.Goals as goal

pub returns : goal.returns
returns c =
    let e : c.ok_or.result ≡ flag_row c.flag_of.result = search rules in
    e ∙ ap flag_row c.flag_of.ensures ∙ module_flag c.args.s.now
