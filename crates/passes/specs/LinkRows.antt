-- The used part of the table of links: a row of 64 entries for each node, zeros behind it. Assumes nothing.
use Prim.Native.Nat.{ℕ, suc, ◌+◌, ◌*◌, ◌-◌, ◌≤◌}
use Rattle.std.specs.Prelude.{◌≡◌}
use Rattle.std.proofs.Math.Path.{refl, sym, ap}
use Rattle.std.proofs.Common.{◌∙◌}
use mathlib.Core.List.{List, [], ◌∷◌, ◌++◌, append_assoc}
use native.Mathlib.Omega.{arith}
use Rattle.std.proofs.Math.ListN.{length, take, drop, replicate, length-append, length-replicate}
use Rattle.std.proofs.lemmas.List.{replicate-append-replicate}
use Rattle.std.proofs.lemmas.List.Edits.{sets}
use Rattle.std.proofs.Math.Seq.{sets-eq, take_at, drop_at, drop-append-add}
use Rattle.listings.specs.Every.{All, all[], all∷}
use Rattle.listings.specs.Listing.{Name, Listing}
use Rattle.listings.specs.Records.{padded}
use Rattle.reader.specs.Tables.{padded-length, drop_zeros}
use Rattle.graph.specs.Nodes.{NodeStmt, Node, Entries}
use Rattle.graph.specs.Targets.{on_simple}
use Rattle.graph.specs.Edges.{ForMove, keep_fors, push_for, pop_fors, on_fors, moves_of, node_moves}
use Rattle.graph.specs.Graph.{Wired, wire}
use Rattle.graph_laws.specs.PerNode.{for_openers_after}
use Rattle.passes.specs.ListedNodes.{ForKind, is_for, is_next, is_other, for_kind}
use Rattle.passes.specs.Jumps.{jump_targets, stmt_targets, link_row, linked}
use Rattle.passes.specs.JumpLaws.{link_length}
use Rattle.passes.specs.ForLinks.{slot_links, linked_row, linked_rows}
use Rattle.passes.specs.ForLinkLaws.{MoveFits, RowsFit, slots_length, rows_fit}
use Rattle.passes.specs.TableReads.{Few, targets_fit}
use Rattle.passes.specs.Prepared.{link_table, LinksPrepared}

-- where each argument of a statement leads: the entry of a line that it names; for a NEXT, the FOR that a slot pops
unfoldable pub arg_links : Entries → NodeStmt → ForMove → List (Name × ℕ) → List ℕ
arg_links es s keep_fors fs = link_row es (stmt_targets s)
arg_links es s (push_for v) fs = link_row es (stmt_targets s)
arg_links es s (pop_fors ss) fs = slot_links ss fs

-- the rows of the nodes from i on, with the FORs fs open there
unfoldable pub link_rows_from : Entries → ℕ → List Node → List (Name × ℕ) → List ℕ
link_rows_from es i [] fs = []
link_rows_from es i (n ∷ ns) fs =
    let m = (node_moves n.stmt).fors in
    padded 64 (arg_links es n.stmt m fs) ++ link_rows_from es (suc i) ns (for_openers_after i m fs)

unfoldable pub link_rows : Wired → List ℕ
link_rows W = link_rows_from W.entries 0 W.nodes []

-- ---- the table of links is these rows

module _ (es : Entries) where
  -- as the jumps leave them
  unfoldable jump_rows : List Node → List ℕ
  jump_rows [] = []
  jump_rows (n ∷ ns) = padded 64 (link_row es (stmt_targets n.stmt)) ++ jump_rows ns

  -- one row into a table of zeros
  row_stored : (done : List ℕ) (m at : ℕ) (x : List ℕ) → length done ≡ at → length x ≤ 64 → 64 ≤ m → sets (done ++ replicate m 0) at x ≡ (done ++ padded 64 x) ++ replicate (m - 64) 0
  unfolding padded
  row_stored done m at x e h g =
      let t = done ++ replicate {A = ℕ} m 0 in
      let s : length t ≡ at + m = length-append done (replicate m 0) ∙ omega (arith, length-replicate {A = ℕ} m 0) in
      let front : take at t ≡ done = take_at done (replicate m 0) at e in
      let back : drop (at + length x) t ≡ replicate (m - length x) 0
      = ap (λ (k : ℕ). drop (k + length x) t) (sym e) ∙ drop-append-add done (replicate m 0) (length x) ∙ drop_zeros m (length x) in
      let c : m - length x ≡ (64 - length x) + (m - 64) = omega arith in
      let zs : replicate {A = ℕ} (m - length x) 0 ≡ replicate (64 - length x) 0 ++ replicate (m - 64) 0
      = ap (λ (k : ℕ). replicate {A = ℕ} k 0) c ∙ sym (replicate-append-replicate (64 - length x) (m - 64) 0) in
      sets-eq x t at (omega (arith, s)) ∙ rw (front, back, zs) (simp append_assoc)

  jumps-rows : (done : List ℕ) (m i : ℕ) {ns : List Node} → All Few ns → length done ≡ i * 64 → length ns * 64 ≤ m
      → linked es (done ++ replicate m 0) i ns ≡ done ++ (jump_rows ns ++ replicate (m - length ns * 64) 0)
  unfolding linked jump_rows
  jumps-rows done m i all[] e h = let c : m ≡ m - 0 * 64 = omega arith in ap (λ (k : ℕ). done ++ replicate k 0) c
  jumps-rows done m i (all∷ {a = n} {l = ns} f fs) e h =
      let x = link_row es (stmt_targets n.stmt) in
      let s : length x ≤ 64 = omega (arith, link_length es (stmt_targets n.stmt), f) in
      let c : m - 64 - length ns * 64 ≡ m - suc (length ns) * 64 = omega arith in
      let r : length (done ++ padded 64 x) ≡ suc i * 64 = length-append done (padded 64 x) ∙ omega (arith, e, padded-length 64 x s) in
      ap (λ (t : List ℕ). linked es t (suc i) ns) (row_stored done m (i * 64) x e s (omega arith))
      ∙ jumps-rows (done ++ padded 64 x) (m - 64) (suc i) fs r (omega arith)
      ∙ rw c (simp append_assoc)

  -- a NEXT names no lines
  row_is : (s : NodeStmt) → ForKind s → MoveFits (node_moves s).fors → (fs : List (Name × ℕ)) → linked_row (node_moves s).fors fs (padded 64 (link_row es (stmt_targets s))) ≡ padded 64 (arg_links es s (node_moves s).fors fs)
  unfolding node_moves moves_of on_fors linked_row arg_links stmt_targets on_simple jump_targets link_row padded
  row_is s (is_for v t) f fs = refl
  row_is s (is_next m ss) f fs = ap (λ (x : List ℕ). slot_links ss fs ++ x) (drop_zeros 64 (length ss) ∙ ap (λ (k : ℕ). replicate {A = ℕ} (64 - k) 0) (sym (slots_length ss fs)))
  row_is s (is_other n) f fs = rw n.keeps

  fors_rows : (i : ℕ) {ns : List Node} → All Few ns → RowsFit ns → (fs : List (Name × ℕ)) (rest : List ℕ) → linked_rows i ns fs (jump_rows ns ++ rest) ≡ link_rows_from es i ns fs ++ rest
  unfolding linked_rows jump_rows link_rows_from
  fors_rows i all[] all[] fs rest = refl
  fors_rows i (all∷ {a = n} {l = ns} f few) (all∷ g fit) fs rest =
      let m = (node_moves n.stmt).fors in
      let x = padded 64 (link_row es (stmt_targets n.stmt)) in
      let s : length x ≡ 64 = padded-length 64 (link_row es (stmt_targets n.stmt)) (omega (arith, link_length es (stmt_targets n.stmt), f)) in
      let a : (x ++ jump_rows ns) ++ rest ≡ x ++ (jump_rows ns ++ rest) = append_assoc x (jump_rows ns) rest in
      rw (a, take_at x (jump_rows ns ++ rest) 64 s, drop_at x (jump_rows ns ++ rest) 64 s, row_is n.stmt (for_kind n.stmt) g fs, fors_rows (suc i) few fit (for_openers_after i m fs) rest)
      (sym (append_assoc (padded 64 (arg_links es n.stmt m fs)) (link_rows_from es (suc i) ns (for_openers_after i m fs)) rest))

  args_few : (s : NodeStmt) (m : ForMove) (fs : List (Name × ℕ)) → length (stmt_targets s) ≤ 64 → MoveFits m → length (arg_links es s m fs) ≤ 64
  unfolding arg_links
  args_few s keep_fors fs f g = omega (arith, link_length es (stmt_targets s))
  args_few s (push_for v) fs f g = omega (arith, link_length es (stmt_targets s))
  args_few s (pop_fors ss) fs f g = omega (arith, slots_length ss fs, g)

  rows_long : (i : ℕ) {ns : List Node} → All Few ns → RowsFit ns → (fs : List (Name × ℕ)) → length (link_rows_from es i ns fs) ≡ length ns * 64
  unfolding link_rows_from
  rows_long i all[] all[] fs = refl
  rows_long i (all∷ {a = n} {l = ns} f few) (all∷ g fit) fs =
      let m = (node_moves n.stmt).fors in
      length-append (padded 64 (arg_links es n.stmt m fs)) (link_rows_from es (suc i) ns (for_openers_after i m fs))
      ∙ omega (arith, padded-length 64 (arg_links es n.stmt m fs) (args_few n.stmt m fs f g), rows_long (suc i) few fit (for_openers_after i m fs))

module _ (W : Wired) (few : All Few W.nodes) (fit : RowsFit W.nodes) where
  pub rows-length : length (link_rows W) ≡ length W.nodes * 64
  unfolding link_rows
  rows-length = rows_long W.entries 0 few fit []

  pub link_rows_lem : (k : ℕ) → length W.nodes * 64 ≤ k → link_table k W ≡ padded k (link_rows W)
  unfolding link_table link_rows padded
  link_rows_lem k h =
      let rest = replicate {A = ℕ} (k - length W.nodes * 64) 0 in
      ap (linked_rows 0 W.nodes []) (jumps-rows W.entries [] k 0 few refl h)
      ∙ fors_rows W.entries 0 few fit [] rest
      ∙ ap (λ (n : ℕ). link_rows_from W.entries 0 W.nodes [] ++ replicate (k - n) 0) (sym (rows_long W.entries 0 few fit []))

module _ {L : Listing} {stmts args entries falls links : List ℕ} {lines n : ℕ} (P : LinksPrepared L stmts args entries falls links lines n) where
  few : All Few (wire L).nodes
  unfolding wire
  few = targets_fit L.lines P.in_form

  pub prepared_links : links ≡ padded (length links) (link_rows (wire L))
  prepared_links = P.linking ∙ link_rows_lem (wire L) few (rows_fit stmts args (wire L).nodes P.listed) (length links) (omega (arith, P.links_fit, P.nodes_are))
