-- The opening word, alone or with others. Assumes nothing.
use Rattle.std.proofs.Common.{◌≡◌, ◌∙◌, ◌∷◌, ap, sym, subst}
use Rattle.std.specs.Prelude.{Some}
use Rattle.listings.specs.Rows.{split}
use Rattle.listings.specs.WordTable.{word_index}
use Rattle.tokens.specs.Kinds.{opened_kind}
use Rattle.tokens.specs.Scan.{FirstWord}
use Rattle.reader.specs.CodedRows.{is_closed}
use Rattle.reader.specs.AcceptedRows.{uncounted, more_candidate, formed_args, formed_more}
use Rattle.reader.proofs.rows.accepted_form.Goals.{After-at-2}
use Rattle.reader.proofs.rows.accepted_form.Goals as goal

cut : (c : After-at-2) → split 32 c.args.s.now ≡ c.in-Some.word.now ∷ split 32 c.in-Some.words.now
cut c = subst (FirstWord c.args.s.now) c.in-Some.is c.first_word.ensures

-- the word that was found is the opening one
more : (c : After-at-2) → c.at-2.result.number ≡ word_index c.in-Some.word.now
more c = c.at-2.ensures.0 ∙ more_candidate (is_closed c.args.bracket) c.args.s.now c.requires _ _ (cut c) c.candidate-2.result c.candidate-2.ensures.0

pub accepted_args-requires : goal.accepted_args-requires
accepted_args-requires c =
    let o = c.at-2.result in
    formed_more (is_closed c.args.bracket) c.args.s.now c.requires _ _ (cut c) o.number (Some o.kind) (more c) (c.at-2.ensures.1 ∙ ap opened_kind (sym c.at-2.ensures.0))

pub returns : goal.returns
returns c =
    let a = (goal.at.returns c).After-at-2 in
    let o = c.at-2.result in
    c.accepted_args.ensures
    ∙ ap uncounted (formed_args (is_closed c.args.bracket) c.args.s.now c.requires _ _ (cut a) o.number (Some o.kind) (more a) (c.at-2.ensures.1 ∙ ap opened_kind (sym c.at-2.ensures.0)))
