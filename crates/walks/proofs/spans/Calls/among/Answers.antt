-- `among`: the calls are listed, then their spans found. Assumes nothing.
use Rattle.std.proofs.Common.{ap, length, arith}
use Rattle.passes.specs.ListedWhere.{where_few}
use Rattle.passes.specs.Regions.{is_call}
use Rattle.passes.specs.RegionLaws.{calls_ready, targets_fit}
use Rattle.walks.proofs.spans.Calls.among.Goals as goal

pub span_calls-requires : goal.span_calls-requires
span_calls-requires c =
    let g = c.args.g.now in
    let r = calls_ready c.requires.0 c.list_calls-list.ensures in
    (targets_fit r.fit, omega (arith, ap length c.list_calls-list.ensures, where_few (is_call g.records.stmts.now) g.records.n, c.requires.0.few), c.requires.1)

pub returns-clause-ready : goal.returns-clause-ready
returns-clause-ready c = calls_ready c.requires.0 c.list_calls-list.ensures
