-- `word`: what the table's rows hold are the words, and there are no others. Assumes nothing.
use Rattle.std.proofs.Common.{rules, ap, ◌∙◌, ◌≡◌, List, [], ℕ, Bor}
use Rattle.std.specs.Prelude.{Option, option_map}
use Rattle.std.specs.Option.{unwrap_or}
use Rattle.tokens.specs.declared.words.Kind.{Kind}
use Rattle.listings.specs.Bytes.{bytes}
use Rattle.listings.specs.Rows.{opening_words}
use Rattle.listings.specs.WordTable.{words}
use Rattle.tokens.specs.Kinds.{word_row}
use Rattle.tokens.proofs.words.word.Goals as goal

pub returns : goal.returns
unfolding bytes opening_words words
returns c =
    let m : c.map_or.result.now ≡ unwrap_or (option_map (λ d. d.0.now) c.row.result) [] = search rules in
    m ∙ ap (λ (o : Option (Bor (List ℕ) × Kind)). unwrap_or (option_map (λ d. d.0.now) o) []) c.row.ensures ∙ word_row _ c.args.k
