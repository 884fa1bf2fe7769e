-- `put_refusal`: one row. Assumes nothing.
use Rattle.std.proofs.Common.{rules, ◌≡◌}
use Rattle.listings.specs.Bytes.{bytes}
use Rattle.graph.specs.Print.{printed_refusal}
use Rattle.formatting.specs.Pages.{pair_text}
use Rattle.formatting.proofs.page.Page.put_refusal.Goals as goal

pub returns : goal.returns
unfolding bytes printed_refusal pair_text
returns g c =
    let e : c.from-number.result ≡ (g.R.Refused.as_pair c.args.refusal).0 = search rules in
    rw (e, c.place.ensures) at c.put_pair_row.ensures
