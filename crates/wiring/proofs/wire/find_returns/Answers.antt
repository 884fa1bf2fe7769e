-- `find_returns`: with handlers nothing; else by regions, or by rows of bits. Assumes nothing.
use native.Mathlib.Omega.{arith}
use Rattle.wiring.specs.CountGraph.{regions_found, by_rows_ready, by_rows_found}
use Rattle.wiring.proofs.wire.find_returns.Goals as goal

pub return_edges_by_filled_rows-requires : goal.return_edges_by_filled_rows-requires
return_edges_by_filled_rows-requires c = by_rows_ready c.requires

pub returns-then-own-gt-MAX_EDGES : goal.returns-then-own-gt-MAX_EDGES
returns-then-own-gt-MAX_EDGES c = by_rows_found c.args.handlers (λ q. omega (arith, c.if-own-gt-MAX_EDGES.true)) c.return_edges_by_filled_rows.ensures

pub returns : goal.returns
returns c = regions_found c.args.handlers (omega (arith, c.if-own-gt-MAX_EDGES.false)) c.region_return_edges.ensures
