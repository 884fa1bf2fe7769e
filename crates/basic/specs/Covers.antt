-- The code's cover of a byte, and the definition's. Assumes nothing.
use Rattle.program_files.specs.Program as definition
use Rattle.basic.specs.declared.cover.Cover.{Cover}
use Rattle.basic.specs.declared.cover.Cover.TheVariants as cover

unfoldable pub cover_of : Cover → definition.Cover
cover_of cover.Uncovered = definition.uncovered
cover_of cover.Quoted = definition.quoted
cover_of cover.Remark = definition.remark
cover_of cover.Items = definition.items
cover_of cover.QuotedItem = definition.quoted_item
