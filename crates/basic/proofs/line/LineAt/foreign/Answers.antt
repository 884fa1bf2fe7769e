-- `foreign`: none among all bytes, or the first that counts. Assumes nothing.
use Rattle.std.proofs.Common.{◌∙◌, sym}
use Rattle.basic.specs.Covers.{cover_of}
use Rattle.basic.specs.OffenceLaws.{none_foreign, zero_within}
use Rattle.basic.proofs.line.LineAt.foreign.Goals as goal

pub slice_bounds-contains-end : goal.slice_bounds-contains-end
slice_bounds-contains-end c = zero_within c.args.self.now.file.now c.args.self.now.at c.args.zero c.args.self.now.inside c.requires

pub returns-then-not-contains : goal.returns-then-not-contains
returns-then-not-contains c = none_foreign c.args.self.now.file.now c.args.self.now.at c.args.zero c.requires (sym c.contains.ensures.value ∙ c.if-not-contains.true)

pub returns : goal.returns
unfolding cover_of
returns c = rw c.uncovered.ensures at c.foreign_at.ensures
