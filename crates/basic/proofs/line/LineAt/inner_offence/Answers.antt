-- `inner_offence`: the offences but the 64's, the last first; then these. Assumes nothing.
use Rattle.std.proofs.Common.{◌≡◌, ◌+◌, ◌++◌, [], ◌∷◌, List, length, drop, ltb, sym, ap, ◌∙◌}
use Rattle.listings.specs.Bytes.{pick}
use Rattle.program_files.specs.Program as definition
use Rattle.program_files.specs.Program.{Offence, lacking, sooner, soonest}
use Rattle.basic.specs.Lines.{IsCut, bytes_at, first_foreign, offence_in, with_foreign, zero_at}
use Rattle.basic.specs.OffenceLaws.{bad_is, cut_at, good_is, part_foreign}
use Rattle.basic.proofs.line.LineAt.inner_offence.Goals as goal
use Rattle.basic.proofs.line.LineAt.inner_offence.Goals.{in-Err, in-Ok}

pub returns : goal.returns
unfolding soonest lacking
returns c b e =
    let f = c.args.self.now.file.now in
    let at = c.args.self.now.at in
    let cut : IsCut f at c.then_some-cut.result = rw (c.then_some-cut.ensures, c.at.ensures) (cut_at f at c.args.zero c.args.self.now.inside c.requires) in
    let x = pick (ltb (zero_at f at) (length (drop (at + 4) f))) [] ((length f, 33) ∷ []) in
    let lacks : offence_in c.match-body.o ≡ soonest (lacking b ++ x) = elim c.match-body.branch [
      | in-Err w ↦
          let p = w.in-Err.lack.place in
          let z : soonest (lacking b ++ x) ≡ sooner (p, 35) (soonest x) = ap (λ (y : definition.Body). soonest (lacking y ++ x)) (bad_is b c.args.body w.in-Err.lack w.in-Err.is e) in
          rw w.o-is ((rw w.into.ensures at w.sooner.ensures) ∙ ap (sooner (p, 35)) cut ∙ sym z)
      | in-Ok w ↦ rw w.o-is (cut ∙ ap (λ (y : List Offence). soonest (y ++ x)) (sym (good_is b c.args.body _ w.in-Ok.is e)))
    ] in
    c.or_foreign.ensures ∙ ap (with_foreign (first_foreign (bytes_at f at))) lacks ∙ sym (part_foreign f at (lacking b ++ x))
