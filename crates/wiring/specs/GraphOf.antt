-- The graph of a listing that was read: prepared, wired, or refused for its edges. Assumes nothing.
use Rattle.std.specs.Prelude.{ℕ, min, leb, ◌&&◌, ◌≡◌, Bool, true, false, List, length, replicate, Result, Ok, Err}
use Rattle.std.proofs.Math.Path.{refl, sym}
use Rattle.std.proofs.Common.{ap, subst, ◌∙◌}
use Rattle.listings.specs.Bytes.{pick}
use Rattle.listings.specs.Listing.{Listing, count, total}
use Rattle.listings.specs.Records.{padded, counts_of}
use Rattle.graph.specs.Graph.{wire}
use Rattle.graph.specs.Build.{Built, graph, refused, edge_count}
use Rattle.layout.specs.declared.refusals.Reason.TheVariants.{EdgeTables}
use Rattle.layout.specs.declared.refusals.Refusal.{Refusal}
use Rattle.layout.specs.Refusals.{number_of, refusal_at}
use Rattle.passes.specs.LineEntries.{entry_rows}
use Rattle.passes.specs.Falls.{fall_rows}
use Rattle.passes.specs.LinkRows.{link_rows, prepared_links}
use Rattle.passes.specs.HoldsListing.{HoldsListing}
use Rattle.passes.specs.Preparing.{PrepareReady, PreparedTo}
use Rattle.wiring.specs.Wiring.{WireHeld, WireReady, WiringDone, WiredTo}
use Rattle.passes.specs.TableForms.{Sizes, sizes_of, list_table, return_table, succ_table, pred_table, tables_of, line_table_lem, stmt_table_lem, arg_table_lem, entries-table, fall_table_lem, links_table_lem}
use Rattle.wiring.specs.GraphTables.{Zeroed, Answered, edges_fitted, graph_writes}
use Rattle.wiring.specs.BuildLaws.{GraphReady, GraphMade, all-zero}
use Rattle.wiring.specs.BuiltAnswer as built

-- the definition's answer for L that the wiring's is
abbrev built_by : Listing → Result (Unit {0}) Refusal → Built
built_by L (Ok u) = graph L
built_by L (Err r) = refused (number_of r.reason) r.place

built_pick : (L : Listing) (x : Bool) (e : ℕ) → pick x (graph L) (refused 23 e) ≡ built_by L (pick x (Ok tt) (Err (refusal_at EdgeTables e)))
built_pick L true e = refl
built_pick L false e = refl

module _ {h : Bool} {c n : ℕ} {counts lines stmts args entries falls links lists returns succ pred : List ℕ}
    (r : GraphReady h c n counts lines stmts args entries falls links lists returns succ pred) where
  pub ready_prepare : PrepareReady lines stmts args entries falls links c n
  ready_prepare =
      record {
        listing = r.listing;
        holds = r.holds;
        zero-entries = r.zero-entries;
        zero-falls = r.zero-falls;
        zero_links = r.zero_links;
        entries_fit = r.entries_fit;
        falls_fit = r.fit.in_falls;
        links_fit = r.fit.in_links;
      }

  module _ {e f k : List ℕ} {x : Bool} (p : PreparedTo lines stmts args e f k c n x) where
    -- an inner statement is always found (27)
    pub found_all : x ≡ true
    found_all = p.answered

    same-counts : (L : Listing) → HoldsListing L lines stmts args c n → h ≡ L.handlers → counts_of r.listing ≡ counts_of L
    unfolding counts_of
    same-counts L H g =
        let u : count r.listing.lines ≡ count L.lines = sym r.holds.count_is ∙ H.count_is in
        let v : total r.listing.lines ≡ total L.lines = sym r.holds.nodes_are ∙ H.nodes_are in
        let w : r.listing.handlers ≡ L.handlers = sym r.handlers_are ∙ g in
        rw (u, v, w)

    held_by : (L : Listing) → HoldsListing L lines stmts args c n → h ≡ L.handlers → WireHeld L h c n counts stmts args e f k succ pred
    held_by L H g =
        record { handlers_are = g; prepared = p.prepared L H; counts_are = r.counts_are ∙ ap (padded 6) (same-counts L H g); zero_succ = r.zero_succ; zero_pred = r.zero_pred }

    pub ready_wire : WireReady h c n counts stmts args e f k lists returns succ pred
    ready_wire =
        record {
          listing = r.listing;
          held = held_by r.listing r.holds r.handlers_are;
          lists_fit = r.fit.in_lists;
          returns_fit = r.fit.in_returns;
          zero_lists = r.zero_lists;
          zero_returns = r.zero_returns;
        }

    -- the lengths that stay
    module _ {counts' args' lists' returns' succ' pred' : List ℕ} {answer : Result (Unit {0}) Refusal}
        (w : WiredTo h c n stmts args e f k counts succ pred counts' args' lists' returns' succ' pred' answer)
        (ee : length e ≡ length entries) (ef : length f ≡ length falls) (ek : length k ≡ length links)
        (ei : length lists' ≡ length lists) (er : length returns' ≡ length returns) (eu : length succ' ≡ length succ) (ep : length pred' ≡ length pred) where
      done : (L : Listing) → HoldsListing L lines stmts args c n → h ≡ L.handlers → WiringDone L args counts' args' lists' returns' succ' pred' answer
      done L H g = w L (held_by L H g)

      fitted_by : (L : Listing) (H : HoldsListing L lines stmts args c n) (g : h ≡ L.handlers) → edges_fitted (min (length succ) (length pred)) L ≡ built_by L answer
      unfolding edges_fitted
      fitted_by L H g = let q = done L H g in rw (q.answered, eu, ep) (built_pick L (leb (edge_count L) (min (length succ) (length pred)) && leb (edge_count L) 32768) (edge_count L))

      pub made_graph : answer ≡ Ok tt
          → GraphMade h c n lines stmts args (sizes_of lines stmts args entries falls links lists returns succ pred) counts' lines stmts args' e f k lists' returns' succ' pred' built.Graph
      made_graph t L H g =
          let q = (done L H g).graph t in
          let P = p.prepared L H in
          let b : edges_fitted (min (length succ) (length pred)) L ≡ graph L = fitted_by L H g ∙ ap (built_by L) t in
          let s = sizes_of lines stmts args entries falls links lists returns succ pred in
          rw b (graph_writes L s (tables_of counts' lines stmts args' e f k lists' returns' succ' pred') (record {
            counts = q.counts_are;
            lines = H.lines_are ∙ sym (line_table_lem L s.lines);
            stmts = H.stmts_are ∙ sym (stmt_table_lem L s.stmts);
            args = q.args_are ∙ H.args_are ∙ sym (arg_table_lem L s.args);
            entries = P.entered ∙ ap (λ (z : ℕ). padded z (entry_rows L.lines)) ee ∙ sym (entries-table L s.entries);
            falls = P.falling ∙ ap (λ (z : ℕ). padded z (fall_rows (wire L).entries (wire L).nodes)) ef ∙ sym (fall_table_lem L s.falls);
            links = prepared_links P ∙ ap (λ (z : ℕ). padded z (link_rows (wire L))) ek ∙ sym (links_table_lem L s.links);
            lists = q.lists_are ∙ ap (list_table L) ei;
            returns = q.returns_are ∙ ap (return_table L) er;
            succ = q.succ_are ∙ ap (succ_table L) eu;
            pred = q.pred_are ∙ ap (pred_table L) ep;
          }))

      same_sizes : length args' ≡ length args
          → sizes_of lines stmts args' e f k lists' returns' succ' pred' ≡ sizes_of lines stmts args entries falls links lists returns succ pred
      same_sizes ea = rw (ea, ee, ef, ek, ei, er, eu, ep)

      pub made_refused : {number : ℕ} {refusal : Refusal} {c'' l'' t'' a'' e'' f'' k'' i'' r'' u'' p'' : List ℕ} → answer ≡ Err refusal → length args' ≡ length args → number ≡ number_of refusal.reason
          → (c'' ≡ replicate 6 0) × Zeroed lines l'' × Zeroed stmts t'' × Zeroed args' a'' → Zeroed e e'' × Zeroed f f'' × Zeroed k k''
          → Zeroed lists' i'' × Zeroed returns' r'' × Zeroed succ' u'' × Zeroed pred' p''
          → GraphMade h c n lines stmts args (sizes_of lines stmts args entries falls links lists returns succ pred) c'' l'' t'' a'' e'' f'' k'' i'' r'' u'' p'' (built.Refused number refusal.place)
      made_refused {number} {refusal} {c''} {l''} {t''} {a''} {e''} {f''} {k''} {i''} {r''} {u''} {p''} t ea en x y z L H g =
          let b : edges_fitted (min (length succ) (length pred)) L ≡ refused number refusal.place =
          fitted_by L H g ∙ ap (built_by L) t ∙ ap (λ (z : ℕ). refused z refusal.place) (sym en) in
          rw b (subst (λ (s : Sizes). Answered (refused number refusal.place) s c'' l'' t'' a'' e'' f'' k'' i'' r'' u'' p'' (built.Refused number refusal.place)) (same_sizes ea)
          (all-zero number refusal.place lines stmts args' e f k lists' returns' succ' pred' c'' l'' t'' a'' e'' f'' k'' i'' r'' u'' p'' x y z))
