-- `kind_of`: the kinds of the table's forms. Assumes nothing.
use Rattle.std.proofs.Common.{rules, refl, ap, ◌∙◌, ◌≡◌, List, ℕ, Bor}
use Rattle.std.specs.Prelude.{option_map}
use Rattle.tokens.specs.declared.words.Kind.{Kind}
use Rattle.listings.specs.Bytes.{bytes}
use Rattle.listings.specs.Rows.{opening_words}
use Rattle.listings.specs.WordTable.{forms}
use Rattle.tokens.specs.Kinds.{form_kind, opened_kind, kind_row}
use Rattle.tokens.proofs.words.kind_of.Goals as goal

pub returns : goal.returns
unfolding bytes forms form_kind opened_kind opening_words
returns c =
    let m : c.map.result ≡ option_map (λ d. d.1) c.row.result = search rules in
    m ∙ ap (option_map (λ (d : Bor (List ℕ) × Kind). d.1)) c.row.ensures ∙ kind_row _ forms c.args.k refl
