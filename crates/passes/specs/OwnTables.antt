-- What a node of a listing adds to its own list, from the prepared tables; and room for it. Assumes nothing.
use Rattle.std.specs.Prelude.{ℕ, ◌*◌, ◌<◌, ◌≡◌, refl, List, get_or}
use Rattle.std.proofs.Math.Path.{sym, ap}
use Rattle.std.proofs.Common.{◌∙◌, arith}
use Rattle.std.proofs.Math.Option.{Option, some}
use Rattle.std.proofs.Math.ListN.{length, get_elem?, length-map}
use Rattle.listings.specs.Listing.{Simple, Listing}
use Rattle.listings.specs.Records.{slot_key, args_of}
use Rattle.graph.specs.Lists.{each, list}
use Rattle.graph_laws.specs.Adding.{decode, decode_number}
use Rattle.graph.specs.Nodes.{NodeStmt, simple, cond, Node}
use Rattle.graph.specs.NodeWords.{stmt_number}
use Rattle.graph.specs.Targets.{on_simple, target_entries}
use Rattle.graph.specs.Edges.{node_moves, own, loop_stack}
use Rattle.graph.specs.Graph.{wire}
use Rattle.graph_laws.specs.PerNode.{no_openers, Fact, facts, fall_at, body_met}
use Rattle.passes.specs.OpenerLaws.{fall_at_lem, stmt_at_lem}
use Rattle.passes.specs.ListedNodes.{SimpleListed}
use Rattle.passes.specs.Jumps.{stmt_targets}
use Rattle.passes.specs.TableReads.{first-branch, second_branch}
use Rattle.passes.specs.Prepared.{Prepared}
use Rattle.passes.specs.NodeList.{own_edges}
use Rattle.passes.specs.OwnLaws.{own_cond, own_simple_here}
use Rattle.passes.specs.NodeTables.{falling, first-is, all_are, targets_are, popped-bodies, body_of}

module _ {L : Listing} {stmts ks entries falls links frames dispatched : List ℕ} {lines n : ℕ} (P : Prepared L stmts ks entries falls links frames dispatched lines n)
    (i : ℕ) (lt : i < n) (x : Node) (f : Fact) (ex : get_elem? (wire L).nodes i ≡ some x) (ef : get_elem? (facts 0 (wire L).nodes no_openers) i ≡ some f) where
  stmt_is : f.stmt ≡ x.stmt
  stmt_is = stmt_at_lem loop_stack (wire L).nodes i x f ex ef

  fall_is : decode (get_or falls (i * 3) 0) ≡ list x.fall
  fall_is = ap decode (falling P i x ex) ∙ decode_number x.fall

  simple_listed : (o : Simple) → x.stmt ≡ simple o → SimpleListed stmts ks i o
  simple_listed o q = rw q at (P.listed i x ex).stmt

  -- the bodies of the FORs that it pops, and of the loop that it closes
  abbrev bodies : List ℕ
  bodies = each (fall_at (facts 0 (wire L).nodes no_openers)) f.popped

  abbrev closed : Option (List ℕ)
  closed = body_met (facts 0 (wire L).nodes no_openers) f.loop_met

  own_of : (s : NodeStmt) → x.stmt ≡ s → own_edges stmts entries falls links frames lines i ≡ own (wire L).entries s x.fall bodies closed
  unfolding stmt_targets on_simple own args_of node_moves
  own_of (cond w a b) q =
      own_cond stmts entries falls links frames lines i (wire L).entries x.fall bodies closed fall_is w a b ((P.listed i x ex).word ∙ ap stmt_number q) (omega (arith, P.falls_fit))
      (first-branch (wire L).entries (wire L).nodes (length falls) falls P.falling i x ex w a b q)
      (second_branch (wire L).entries (wire L).nodes (length falls) falls P.falling i x ex w a b q)
  own_of (simple o) q =
      let c = (simple_listed o q).count in
      own_simple_here stmts entries falls links frames lines i (wire L).entries x.fall bodies closed fall_is (first-is P) (all_are P) o ((P.listed i x ex).word ∙ ap stmt_number q) c
      (λ h a. targets_are P i lt x f ex ef (λ z. h (sym (ap stmt_number (stmt_is ∙ q)) ∙ z)) (c ∙ ap length a ∙ sym (ap (λ (s : NodeStmt). length (stmt_targets s)) q)) ∙ ap (λ (s : NodeStmt). target_entries (wire L).entries (stmt_targets s)) q)
      (λ m ss r. popped-bodies P i lt x f ex ef m ss (stmt_is ∙ q ∙ ap simple r) (c ∙ ap (λ (o' : Simple). length (args_of o')) r ∙ length-map ss slot_key))
      (λ r. body_of P i lt x f ex ef (ap node_moves q ∙ r))

  -- as PerNode has it
  pub own_are : own_edges stmts entries falls links frames lines i ≡ own (wire L).entries f.stmt f.fall bodies closed
  own_are = own_of x.stmt refl ∙ ap (λ (s : NodeStmt). own (wire L).entries s x.fall bodies closed) (sym stmt_is) ∙ ap (λ (e : Option ℕ). own (wire L).entries f.stmt e bodies closed) (sym (fall_at_lem loop_stack (wire L).nodes i x f ex ef))
