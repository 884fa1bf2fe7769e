-- `store_skip_lists`: the first i nodes are done. Assumes nothing.
use Prim.Native.Nat.{◌≤◌, ◌*◌}
use mathlib.Core.Path.{◌≡◌}
use lib.ListN.{length}
use Rattle.passes.specs.SkipLists.{Skipping}
use Rattle.wiring.specs.FromLeads.{frames_of}
use Rattle.wiring.proofs.skip_lists.store_skip_lists.Given as goal

abbrev pub invariant-loop-i : goal.invariant-loop-i
invariant-loop-i l = (length l.scratch ≡ length l.initial.scratch) × (length l.buffer ≡ length l.initial.buffer) × (l.e.total ≤ l.i * 4096) × Skipping l.g.nodes.records.stmts.now l.args l.g.entries.rows.now l.g.nodes.falls.now l.g.nodes.links.now (frames_of l.g) l.g.dispatched.now l.g.entries.count l.g.nodes.records.n l.i l.e.total l.e.at l.initial.lists l.lists l.initial.scratch l.scratch
