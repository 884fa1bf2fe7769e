-- `add_closing`: by the opening word. Assumes nothing.
use Rattle.std.proofs.Common.{rules, ◌≡◌, sym, refl, ◌∙◌}
use Rattle.passes.specs.ClosingLaws.{ready_doif, ready_closer, closing_doif, closing-joined, closing-none}
use Rattle.wiring.specs.OnLists.{closer_made}
use Rattle.tables.specs.OneMore.{one_more}
use Rattle.wiring.specs.FromLeads.{frames_of}
use Rattle.wiring.proofs.closing.add_closing.Goals as goal

pub add_doif-requires : goal.add_doif-requires
add_doif-requires c = (c.requires.ready.0, ready_doif c.args.g.now.nodes.records.stmts.now c.args.g.now.nodes.falls.now (frames_of c.args.g.now) c.args.i _ c.requires.ready.1 (sym c.word-word.ensures ∙ c.in-21.is))

pub returns-in-21 : goal.returns-in-21
returns-in-21 c =
    let m = c.add_doif.ensures in
    record {
      same_reference = m.same_reference;
      size = m.size;
      is = (closing_doif c.args.g.now.nodes.records.stmts.now c.args.g.now.nodes.falls.now (frames_of c.args.g.now) c.args.i _ _ _ _ (sym c.word-word.ensures ∙ c.in-21.is) m.is.0, m.is.1);
    }

pub returns-in_default : goal.returns-in_default
returns-in_default c =
    let g = c.args.g.now in
    let x = one_more c.opener.result in
    let m = closer_made g.nodes.falls.now (frames_of g) x c.requires.ready.0 (ready_closer g.nodes.records.stmts.now g.nodes.falls.now (frames_of g) c.args.i _ c.requires.ready.1 x c.opener.ensures) c.add_closer.ensures in
    record {
      same_reference = m.same_reference;
      size = m.size;
      is = (closing-joined c.args.g.now.nodes.records.stmts.now c.args.g.now.nodes.falls.now (frames_of c.args.g.now) c.args.i _ _ _ _ (one_more c.opener.result) (rw c.word-word.ensures at (sym c.joins_frame.ensures ∙ c.if-joins_frame.true)) c.opener.ensures m.is.0, m.is.1);
    }

pub returns-else-joins_frame : goal.returns-else-joins_frame
returns-else-joins_frame c =
    let ne : c.word-word.result ≡ 21 → ⊥ = search rules in
    record {
      same_reference = refl;
      size = refl;
      is = (closing-none c.args.g.now.nodes.records.stmts.now c.args.g.now.nodes.falls.now (frames_of c.args.g.now) c.args.i c.args.list.now.part.now c.args.list.now.part.now c.args.list.now.n c.args.list.now.n (rw c.word-word.ensures at (sym c.joins_frame.ensures ∙ c.if-joins_frame.false)) (rw c.word-word.ensures at ne), c.requires.ready.0);
    }
