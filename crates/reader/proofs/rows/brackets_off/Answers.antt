-- By what the text begins and ends with. Assumes nothing.
use Rattle.std.proofs.Common.{rules, ◌≡◌, ◌++◌, ◌∷◌, [], None, Some}
use Rattle.std.proofs.lemmas.Bool.Decides.{Decides-eqb}
use Rattle.std.proofs.lemmas.Slice.Eq.{strip_prefix_is, strip_suffix_is}
use Rattle.reader.specs.CodedRows.{unbracketed, row_closed, row_open}
use Rattle.reader.proofs.rows.brackets_off.Goals.{In_ok-opened}
use Rattle.reader.proofs.rows.brackets_off.Goals as goal

opened : (c : In_ok-opened) → c.args.s.now ≡ (40 ∷ []) ++ c.in_ok-opened.opened.now
opened c = strip_prefix_is Decides-eqb c.args.s.now (40 ∷ []) (Some c.in_ok-opened.opened) c.in_ok-opened.ensures.cases

pub returns-in_err-opened : goal.returns-in_err-opened
returns-in_err-opened c =
    let e : c.from_residual.result ≡ None = search rules in
    rw e (unbracketed c.args.s.now (strip_prefix_is Decides-eqb c.args.s.now (40 ∷ []) None c.in_err-opened.ensures.cases))

pub returns-in-Some : goal.returns-in-Some
returns-in-Some c = row_closed c.args.s.now _ (opened (goal.at.returns-in-Some c).In_ok-opened) c.in-Some.words.now (strip_suffix_is Decides-eqb c.in_ok-opened.opened.now (41 ∷ []) (Some c.in-Some.words) c.in-Some.ensures.cases)

pub returns-in-None : goal.returns-in-None
returns-in-None c = row_open c.args.s.now _ (opened (goal.at.returns-in-None c).In_ok-opened) (strip_suffix_is Decides-eqb c.in_ok-opened.opened.now (41 ∷ []) None c.in-None.ensures.cases)
