-- `count_kept`: how many pass. Assumes nothing.
use Rattle.std.proofs.Common.{◌≡◌, ◌∙◌, arith}
use Rattle.std.specs.Prelude.{count_by}
use Rattle.std.proofs.lemmas.Grind.{common_steps}
use Rattle.graph.specs.Lists.{has}
use Rattle.frame_slices.specs.FrameLaws.{kept_count}
use Rattle.frame_slices.proofs.slices.count_kept.Goals as goal

pub returns : goal.returns
returns c =
    let e : c.count.result ≡ count_by (λ s. has s c.args.header.now) c.args.list.now = grind (arith, common_steps) in
    e ∙ kept_count c.args.header.now c.args.list.now
