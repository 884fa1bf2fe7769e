-- Names cut to two characters (document 02, L2), computed. Assumes nothing.
use Rattle.std.specs.Prelude.{◌&&◌, T}
use Rattle.listings.specs.Bytes.{bytes, same}
use Rattle.listings.specs.Cut.{cut_name}
use Rattle.listings.specs.Opened.{opened}

-- "cuts a name to two characters and keeps its `%` or `$`"
pub names_cut : T (
    same (cut_name (bytes "COUNT")) (bytes "CO") && same (cut_name (bytes "COUNT%")) (bytes "CO%") && same (cut_name (bytes "COUNTERS$")) (bytes "CO$")
    && same (cut_name (bytes "A1B2$")) (bytes "A1$") && same (cut_name (bytes "A$")) (bytes "A$") && same (cut_name (bytes "AB%")) (bytes "AB%")
    && same (cut_name (bytes "AB")) (bytes "AB") && same (cut_name (bytes "A")) (bytes "A")
    )
unfolding opened
names_cut = tt
