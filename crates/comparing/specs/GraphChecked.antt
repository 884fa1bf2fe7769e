-- A graph that is compared byte by byte with the printed one is judged as the definition has it. Assumes nothing.
use Rattle.std.specs.Prelude.{ℕ, ◌≡◌, List}
use Rattle.std.proofs.Common.{sym, ap, ◌∙◌}
use Rattle.listings.specs.Listing.{Listing}
use Rattle.listings.specs.Rows.{split, all}
use Rattle.listings.specs.Every.{no_newline}
use Rattle.listing_laws.specs.WordText.{lacks}
use Rattle.listings.specs.ListingText.{text_of}
use Rattle.listing_laws.specs.RowForms.{text_split}
use Rattle.graph.specs.Print.{printed}
use Rattle.graph.specs.Build.{graph}
use Rattle.graph.specs.Check.{compared, against}
use Rattle.graph_laws.specs.CheckLaws.{printed_pieces}
use Rattle.comparing.specs.Judging.{start}
use Rattle.comparing.specs.Comparing.{same, fed, ruled}
use Rattle.comparing.specs.ComparingLaws.{compared_so}

pub graph_checked : (L : Listing) (g : List ℕ) → ruled (printed L) (fed (printed L) (same 0 start) g) ≡ against (graph L) g
unfolding against no_newline lacks all
graph_checked L g =
    let d = printed_pieces L in
    let e : printed L ≡ text_of d.0 = text_split (printed L) d.0 d.1 in
    ap (λ (t : List ℕ). ruled t (fed t (same 0 start) g)) e ∙ compared_so d.0 d.2 g ∙ ap (λ (t : List ℕ). compared 0 (split 10 t) (split 10 g)) (sym e)
