-- `find`: where the first b stands, or the length. Assumes nothing.
use Rattle.std.proofs.Common.{◌≡◌, ◌∙◌, ap, Option, ℕ, length, arith}
use Rattle.std.specs.Option.{unwrap_or}
use Rattle.listings.specs.Scan.{index_of, index_le}
use Rattle.tokens.specs.ListWords.{find_is}
use Rattle.tokens.proofs.scan.find.Goals as goal

pub returns : goal.returns
returns c =
    let s = c.args.s.now in
    let e : c.unwrap_or.result ≡ index_of c.args.b s = c.unwrap_or.ensures ∙ ap (λ (o : Option ℕ). unwrap_or o (length s)) c.place_of.ensures ∙ find_is c.args.b s in
    (e, omega (arith, e, index_le c.args.b s))
