-- What tables hold that nobody has written. Assumes nothing.
use Rattle.std.specs.Prelude.{◌≡◌, replicate}
use Rattle.at_limits.specs.declared.lent.Tables.{Tables}

abbrev pub AllZero : Tables → Type 0
AllZero t =
    (t.counts ≡ replicate 6 0) × (t.lines ≡ replicate 1024 0) × (t.stmts ≡ replicate 49152 0) × (t.args ≡ replicate 262144 0) × (t.entries ≡ replicate 2048 0) × (t.falls ≡ replicate 12288 0)
    × (t.links ≡ replicate 262144 0) × (t.lists ≡ replicate 16384 0) × (t.returns ≡ replicate 4096 0) × (t.succ ≡ replicate 32768 0) × (t.pred ≡ replicate 32768 0)
