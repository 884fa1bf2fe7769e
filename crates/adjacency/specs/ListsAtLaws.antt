-- Laws of the questions for a node's lists, as code answers them. Assumes nothing.
use Rattle.std.specs.Prelude.{ℕ, ◌+◌, ◌-◌, ◌*◌, ◌<◌, ◌≤◌, Bool, List, [], ltb, length, get_or, take, drop}
use Rattle.std.proofs.Math.Path.{◌≡◌, refl, sym, ap}
use Rattle.std.proofs.Common.{◌∙◌, arith}
use Rattle.std.proofs.Math.Bool.{true, false}
use borrow.Author.Tests.{lt-ltb, le-ltb, le-leb, lt-leb, leb-true}
use Rattle.std.proofs.Math.Dec.{leb}
use Rattle.listings.specs.Bytes.{pick}
use Rattle.tables.specs.Columns.{succ_start, succ_count, pred_start, pred_count, succ_part, pred_part}
use Rattle.graph.specs.Questions.{Reply, answer, refused}
use Rattle.adjacency.specs.ListsAt.{list_at, successors_at, predecessors_at, part_of}

-- ---- each case of the answer

module _ (counts lists : List ℕ) (size node start count : ℕ) where
  pub no_node : get_or counts 1 0 ≤ node → list_at counts lists size node start count ≡ refused 24 node
  unfolding list_at
  no_node h = rw (le-ltb node (get_or counts 1 0) h)

  module _ (below : node < get_or counts 1 0) where
    pub count-outside : length lists < get_or counts 1 0 * 4 → list_at counts lists size node start count ≡ refused 25 0
    unfolding list_at
    count-outside h = rw (lt-ltb node (get_or counts 1 0) below, lt-leb (get_or counts 1 0 * 4) (length lists) h)

    module _ (rows : get_or counts 1 0 * 4 ≤ length lists) where
      pub record_outside : size < start + count → list_at counts lists size node start count ≡ refused 25 0
      unfolding list_at
      record_outside h = rw (lt-ltb node (get_or counts 1 0) below, le-leb (get_or counts 1 0 * 4) (length lists) rows, lt-leb (start + count) size h)

      pub list_found : start + count ≤ size → list_at counts lists size node start count ≡ answer (start, count)
      unfolding list_at
      list_found h = rw (lt-ltb node (get_or counts 1 0) below, le-leb (get_or counts 1 0 * 4) (length lists) rows, le-leb (start + count) size h)

  -- a part that is answered lies in the edge table
  list_inside : (d : ℕ × ℕ) → list_at counts lists size node start count ≡ answer d → d.0 + d.1 ≤ size
  unfolding list_at
  list_inside d e = go (ltb node (get_or counts 1 0)) (leb (get_or counts 1 0 * 4) (length lists)) (leb (start + count) size) refl e
    where
      go : (x y z : Bool) → leb (start + count) size ≡ z → pick x (pick y (pick z (answer (start, count)) (refused 25 0)) (refused 25 0)) (refused 24 node) ≡ answer d → d.0 + d.1 ≤ size
      go true true true q w = let a : (start, count) ≡ d = cc in rw (← a) (leb-true (start + count) size q)
      go true true false q w = let z : ◌≡◌ {A = ℕ} 0 1 = cc in absurd (omega arith)
      go true false z q w = let z : ◌≡◌ {A = ℕ} 0 1 = cc in absurd (omega arith)
      go false y z q w = let z : ◌≡◌ {A = ℕ} 0 1 = cc in absurd (omega arith)

-- ---- as the code answers

module _ (counts lists : List ℕ) (size node start count nodes : ℕ) (n : nodes ≡ get_or counts 1 0) where
  pub asked_24 : nodes ≤ node → refused 24 node ≡ list_at counts lists size node start count
  asked_24 h = sym (no_node counts lists size node start count (omega arith))

  module _ (below : node < nodes) where
    pub asked-count : length lists < nodes * 4 → refused 25 0 ≡ list_at counts lists size node start count
    asked-count h = sym (count-outside counts lists size node start count (omega arith) (omega arith))

    module _ (rows : nodes * 4 ≤ length lists) (s k : ℕ) (es : s ≡ start) (ek : k ≡ count) where
      pub asked_record : size < s + k → refused 25 0 ≡ list_at counts lists size node start count
      asked_record h = sym (record_outside counts lists size node start count (omega arith) (omega arith) (omega arith))

      pub asked_part : s + k ≤ size → answer (s, k) ≡ list_at counts lists size node start count
      asked_part h = rw (es, ek) (sym (list_found counts lists size node start count (omega arith) (omega arith) (omega arith)))

-- ---- the columns of the two lists

pub successors_columns : (counts lists : List ℕ) (size node : ℕ) → list_at counts lists size node (get_or lists (node * 4 + 0) 0) (get_or lists (node * 4 + (0 + 1)) 0) ≡ successors_at counts lists size node
unfolding successors_at
successors_columns counts lists size node = ap (λ (j : ℕ). list_at counts lists size node (get_or lists j 0) (succ_count lists node)) (omega arith)

pub predecessors_columns : (counts lists : List ℕ) (size node : ℕ) → list_at counts lists size node (get_or lists (node * 4 + 2) 0) (get_or lists (node * 4 + (2 + 1)) 0) ≡ predecessors_at counts lists size node
unfolding predecessors_at
predecessors_columns counts lists size node = refl

-- ---- a part that is answered

pub asked-inside : (counts lists : List ℕ) (size node start count a n : ℕ) → answer (a, n) ≡ list_at counts lists size node start count → a + n ≤ size
asked-inside counts lists size node start count a n e = list_inside counts lists size node start count (a, n) (sym e)

-- as it is lent, from a start to an end
pub part_lent : (r : Reply (ℕ × ℕ)) (a n : ℕ) (table : List ℕ) → answer (a, n) ≡ r → take (a + n - a) (drop a table) ≡ part_of r table
unfolding part_of
part_lent r a n table e =
    let q : a + n - a ≡ n = omega arith in
    ap (λ (k : ℕ). take k (drop a table)) q ∙ ap (λ (x : Reply (ℕ × ℕ)). part_of x table) e

pub refused_empty : (r : Reply (ℕ × ℕ)) (k p : ℕ) (table : List ℕ) → refused k p ≡ r → [] ≡ part_of r table
unfolding part_of
refused_empty r k p table e = ap (λ (x : Reply (ℕ × ℕ)). part_of x table) e

-- ---- the parts that the records of n nodes name

module _ (counts lists table : List ℕ) (i : ℕ) (below : i < get_or counts 1 0) (rows : get_or counts 1 0 * 4 ≤ length lists) where
  pub successors_part : succ_start lists i + succ_count lists i ≤ length table → part_of (successors_at counts lists (length table) i) table ≡ succ_part lists table i
  unfolding successors_at part_of
  successors_part h = ap (λ (r : Reply (ℕ × ℕ)). part_of r table) (list_found counts lists (length table) i (succ_start lists i) (succ_count lists i) below rows h)

  pub predecessors_part : pred_start lists i + pred_count lists i ≤ length table → part_of (predecessors_at counts lists (length table) i) table ≡ pred_part lists table i
  unfolding predecessors_at part_of
  predecessors_part h = ap (λ (r : Reply (ℕ × ℕ)). part_of r table) (list_found counts lists (length table) i (pred_start lists i) (pred_count lists i) below rows h)
