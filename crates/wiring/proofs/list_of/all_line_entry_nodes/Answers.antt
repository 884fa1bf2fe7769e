-- `all_line_entry_nodes`: the nodes of the first rows are added, the entries that are left ascend. Assumes nothing.
use Rattle.std.specs.Prelude.{ℕ, zero, suc, List}
use Rattle.std.specs.Simd.{first_chunks}
use Rattle.std.proofs.Common.{◌≡◌, ◌+◌, ◌*◌, ◌/◌, ◌<◌, ◌∙◌, ap, sym, arith, length, take, drop, get_or, length-take-le}
use Rattle.std.proofs.lemmas.List.{get_or-take, get_or-drop}
use Rattle.graph_laws.specs.Adding.{decode}
use Rattle.tables.specs.EntryRows.{column_length, column_at}
use Rattle.passes.specs.EntryOrder.{last_start, entry_room, entry_on, rises_next, entries_end}
use Rattle.storing.specs.NodeLists.{grew_start, grew_end, grew_by}
use Rattle.wiring.specs.FromLeads.{nodes_from}
use Rattle.wiring.proofs.list_of.all_line_entry_nodes.Goals as goal
use Rattle.wiring.proofs.list_of.all_line_entry_nodes.Goals.{After-as_chunks}

-- the second entry of a row of two
chunk_at : (k : ℕ) (t : List ℕ) (i : ℕ) (d : List ℕ) → i < k → get_or (get_or (first_chunks 2 k t) i d) 1 0 ≡ get_or t (i * 2 + 1) 0
chunk_at zero t i d h = absurd (omega arith)
chunk_at (suc k) t zero d h = get_or-take 2 t 1 0 (omega arith)
chunk_at (suc k) t (suc i) d h =
    let e : 2 + (i * 2 + 1) ≡ suc i * 2 + 1 = omega arith in
    chunk_at k (drop 2 t) i d (omega arith) ∙ get_or-drop 2 t (i * 2 + 1) 0 ∙ ap (λ (z : ℕ). get_or t z 0) e

-- there is a row for each line, and what the row holds is the line's entry
many : (c : After-as_chunks) → (length c.as_chunks.result.0.now ≡ c.args.w.now.count) × (length (nodes_from c.args.w.now) ≡ c.args.w.now.count)
many c =
    let a = c.args.w.now in
    let n : length c.as_chunks.result.0.now ≡ length (take (a.count * 2) a.rows.now) / 2 = c.as_chunks.ensures.front_len in
    (omega (arith, n, length-take-le (a.count * 2) a.rows.now a.fit), column_length 1 a.count a.rows.now)

row_at : (c : After-as_chunks) (i : ℕ) (d : List ℕ) → i < length c.as_chunks.result.0.now → get_or (nodes_from c.args.w.now) i 0 ≡ get_or (get_or c.as_chunks.result.0.now i d) 1 0
row_at c i d h =
    let a = c.args.w.now in
    let t = take (a.count * 2) a.rows.now in
    let n : length t / 2 ≡ a.count = omega (arith, length-take-le (a.count * 2) a.rows.now a.fit) in
    let f : c.as_chunks.result.0.now ≡ first_chunks 2 (length t / 2) t = c.as_chunks.ensures.front in
    let lt : i < a.count = omega (arith, h, many c) in
    let q : get_or (get_or c.as_chunks.result.0.now i d) 1 0 ≡ get_or t (i * 2 + 1) 0 = rw (f, n) (chunk_at a.count t i d lt) in
    column_at 1 a.count a.rows.now i lt ∙ sym (q ∙ get_or-take (a.count * 2) a.rows.now (i * 2 + 1) 0 (omega (arith, lt)))

pub loop-row-init : goal.loop-row-init
loop-row-init c = (grew_start decode (nodes_from c.args.w.now) c.args.list.now, last_start _ _ c.requires.fresh, c.requires.rises)

pub returns-then-e-eq0 : goal.returns-then-e-eq0
returns-then-e-eq0 c =
    let a = c.args in
    let l = c.loop-row in
    let w = (goal.at.returns-then-e-eq0 c).After-as_chunks in
    grew_by (λ g. entries_end (nodes_from a.w.now) _ _ _ _ l.row-index l.last (omega (arith, many w, c.loop-row-test.true)) g l.invariant.2
    _ (row_at w l.row-index _ c.loop-row-test.true) c.if-e-eq0.true) l.invariant.0

pub add_entry-requires : goal.add_entry-requires
add_entry-requires c =
    let a = c.args in
    let l = c.loop-row in
    let w = (goal.at.add_entry-requires c).After-as_chunks in
    entry_room (nodes_from a.w.now) _ _ _ _ l.row-index l.last (omega (arith, many w, c.loop-row-test.true)) l.invariant.0.grows l.invariant.2
    _ (row_at w l.row-index _ c.loop-row-test.true) c.requires.room_to_add l.invariant.1 c.if-e-eq0.false

pub loop-row-preserved : goal.loop-row-preserved
loop-row-preserved c =
    let a = c.args in
    let l = c.loop-row in
    let w = (goal.at.loop-row-preserved c).After-as_chunks in
    let e = c.add_entry.ensures in
    let h : l.row-index < length (nodes_from a.w.now) = omega (arith, many w, c.loop-row-test.true) in
    let q = row_at w l.row-index _ c.loop-row-test.true in (
      record {
        same_reference = e.same_reference ∙ l.invariant.0.same_reference;
        size = e.size ∙ l.invariant.0.size;
        grows = entry_on (nodes_from a.w.now) _ _ _ _ l.row-index l.last h l.invariant.0.grows l.invariant.2 _ q _ _ e.is.grows;
      },
      e.is.added,
      rises_next (nodes_from a.w.now) _ _ _ _ l.row-index l.last h l.invariant.0.grows l.invariant.2 _ q c.if-e-eq0.false,
    )

pub returns : goal.returns
returns c =
    let a = c.args in
    let l = c.loop-row in
    grew_end decode (nodes_from a.w.now) a.list.now l.row-index (omega (arith, many (goal.at.returns c).After-as_chunks, c.loop-row-test.false)) l.invariant.0
