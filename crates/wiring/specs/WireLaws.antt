-- From the counted edges to the written graph. Assumes nothing.
use Rattle.std.specs.Prelude.{Result, ℕ, ◌*◌, ◌≤◌, ◌≡◌, refl, Bool, true, false, List, length, replicate, Ok, Err}
use Rattle.std.proofs.Common.{sym, ap, ◌∙◌, arith}
use Rattle.layout.specs.declared.refusals.Reason.TheVariants.{EdgeTables}
use Rattle.layout.specs.declared.refusals.Refusal.{Refusal}
use Rattle.layout.specs.Refusals.{refusal_at}
use Rattle.listings.specs.Bytes.{pick}
use Rattle.listings.specs.Listing.{Listing}
use Rattle.graph.specs.Build.{edge_count}
use Rattle.wiring.specs.Wiring.{WireHeld, WireReady, WiringDone}
use Rattle.passes.specs.Preparing.{FramesMade, with_frames, zeros_size}
use Rattle.wiring.specs.CountGraph.{CountReady, CountedTo, GraphCounted}
use Rattle.wiring.specs.WriteGraph.{WriteHeld, graph_written}
use Rattle.storing.specs.EdgesFit.{edges_fit, EdgesFit, edges_fit_lem}
use Rattle.storing.specs.StoredGraph.{GraphAnswered}

-- ---- the graph

module _ {handlers : Bool} {c n : ℕ} {counts stmts args entries falls links frames dispatched succ pred : List ℕ} {args₁ lists₁ scratch₁ returns₁ : List ℕ} {edges targets : ℕ}
    (g : CountedTo handlers stmts args entries falls links frames dispatched c n args₁ lists₁ scratch₁ returns₁ edges targets)
    (m : FramesMade stmts falls frames dispatched n) where
  counted : {L : Listing} → WireHeld L handlers c n counts stmts args entries falls links succ pred
      → GraphCounted L handlers stmts args entries falls links frames dispatched c n args₁ lists₁ scratch₁ returns₁ edges targets
  counted {L} w = g L w.handlers_are (with_frames w.prepared m)

  pub write_held : {L : Listing} → WireHeld L handlers c n counts stmts args entries falls links succ pred → n * 4 ≤ length lists₁ → EdgesFit edges (length succ) (length pred)
      → WriteHeld L args handlers stmts args₁ entries falls links frames dispatched c n counts lists₁ scratch₁ returns₁ targets succ pred
  write_held {L} w rows f =
      let q = counted w in
      let e = q.edges_are in
      record {
        edges = record {
          tables = q.tables f.few;
          held = q.held f.few;
          rows = rows;
          few_edges = omega (arith, e, f.few);
          succ_fits = omega (arith, e, f.in_succ);
          pred_fits = omega (arith, e, f.in_pred);
          zero_succ = w.zero_succ;
          zero_pred = w.zero_pred;
        };
        counts_are = w.counts_are;
        returns_are = q.returns_are;
        targets_are = q.targets_are;
      }

  -- the number that the test was made with, and the lengths that stay
  same_test : {L : Listing} (x : Bool) (s p : ℕ) → WireHeld L handlers c n counts stmts args entries falls links succ pred → x ≡ edges_fit edges (length succ) (length pred)
      → s ≡ length succ → p ≡ length pred → x ≡ edges_fit (edge_count L) s p
  same_test {L} x s p w q es ep = rw (es, ep, ← (counted w).edges_are) q

  pub wired_yes : {counts' args' lists' succ' pred' : List ℕ} {answer : Result ℕ Refusal} (x : Bool) → x ≡ edges_fit edges (length succ) (length pred) → x ≡ true → length succ' ≡ length succ
      → length pred' ≡ length pred → n * 4 ≤ length lists₁
      → GraphAnswered handlers stmts args₁ falls links n c counts lists₁ scratch₁ returns₁ targets succ pred counts' args' lists' succ' pred' answer
      → (L : Listing) → WireHeld L handlers c n counts stmts args entries falls links succ pred → WiringDone L args counts' args' lists' returns₁ succ' pred' (Ok tt)
  wired_yes {succ' = succ'} {pred' = pred'} x q t es ep rows f L w =
      record {
        answered = ap (λ (z : Bool). pick z (Ok tt) (Err (refusal_at EdgeTables (edge_count L)))) (sym t ∙ same_test x (length succ') (length pred') w q es ep);
        graph = λ e. graph_written (write_held w rows (edges_fit_lem edges (length succ) (length pred) (sym q ∙ t))) f;
      }

  pub wired_no : {counts' args' lists' returns' : List ℕ} (x : Bool) (r : Refusal) → x ≡ edges_fit edges (length succ) (length pred) → x ≡ false → r ≡ refusal_at EdgeTables edges
      → (L : Listing) → WireHeld L handlers c n counts stmts args entries falls links succ pred → WiringDone L args counts' args' lists' returns' succ pred (Err r)
  wired_no x r q t er L w =
      record {
        answered = ap Err er ∙ ap (λ (e : ℕ). Err (refusal_at EdgeTables e)) (counted w).edges_are
            ∙ ap (λ (z : Bool). pick z (Ok tt) (Err (refusal_at EdgeTables (edge_count L)))) (sym t ∙ same_test x (length succ) (length pred) w q refl refl);
        graph = λ e. cc;
      }

module _ {handlers : Bool} {c n : ℕ} {counts stmts args entries falls links frames dispatched lists returns succ pred : List ℕ}
    (r : WireReady handlers c n counts stmts args entries falls links lists returns succ pred) (m : FramesMade stmts falls frames dispatched n) where
  pub ready_count : (scratch : List ℕ) (k : ℕ) → scratch ≡ replicate k 0 → k ≡ 36864
      → CountReady handlers stmts args entries falls links frames dispatched c n lists scratch returns 4096
  ready_count scratch k es ek =
      record {
        listing = r.listing;
        handled = r.held.handlers_are;
        prepared = with_frames r.held.prepared m;
        rows = r.lists_fit;
        returns_fit = r.returns_fit;
        zero_lists = r.zero_lists;
        zero_returns = r.zero_returns;
        scratch_size = zeros_size k scratch es ∙ ek;
        buffer_size = refl;
      }
