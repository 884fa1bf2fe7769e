-- The predecessor lists as they fill, node by node, and as they stand at the end. Assumes nothing.
use Rattle.std.specs.Prelude.{◌≡◌, refl, List, [], ◌∷◌, ◌++◌, ℕ, zero, suc, ◌+◌, ◌-◌, ◌*◌, ◌≤◌, ◌<◌, length, get_or, take, drop, replicate}
use Rattle.std.proofs.Common.{sym, ap, subst, ◌∙◌, arith, add-one, length-append, length-drop, take-append-drop, get_or-append-add, take-suc, take_all, take-take, length-take-le, ext_get_or, get_or-take, get_or-drop}
use Rattle.std.proofs.Math.Decide.{ℕ_discrete, dec_lt}
use Rattle.std.proofs.lemmas.List.{length-replicate, get_or-replicate}
use Rattle.std.proofs.Math.ListN.{get_or-append}
use Rattle.std.proofs.Math.Seq.{take-append_seam}
use Rattle.listings.specs.Every.{All, all[], all∷}
use Rattle.graph_laws.specs.EdgeBounds.{Ids}
use Rattle.passes.specs.EdgeTable.{joined_lists, start_of, part_law, part_within, parts_apart, joined_ext, list_rows, Columns, columns_rows, columns_ext, columns_then, columns_self, columns_past, ListsStored}
use Rattle.passes.specs.Predecessors.{joined-ids}
use Rattle.tables.specs.Columns.{succ_start, succ_count, pred_start, pred_count}
use Rattle.passes.specs.Counting.{occurs, occurs-le, sum_to, sum_ext, sum_occurs}
use Rattle.storing.specs.Predecessors.{sources_in, sources_of, IdLists, sources_append, sources_snoc, sources_length, sources_at, length_sources, sources_start, sources_total, Countable, Counted, Emptied, emptied_all, Started, slot, Fillable, Placed}

-- ---- the tables before the predecessors are filled in

-- the lists ls of the nodes stand at the front of succ, and the rows say where
pub record Successors (nodes : ℕ) (ls : List (List ℕ)) (succ lists : List ℕ) : Type 0 where
  pub lists_of : IdLists nodes ls
  pub inside : length (joined_lists ls) ≤ length succ
  pub table : take (length (joined_lists ls)) succ ≡ joined_lists ls
  pub starts : (i : ℕ) → i < nodes → succ_start lists i ≡ start_of ls i
  pub counts : (i : ℕ) → i < nodes → succ_count lists i ≡ length (get_or ls i [])

-- as many entries of succ as the lists have hold them alone
pub successors_part : {nodes : ℕ} {ls : List (List ℕ)} {succ lists : List ℕ} (edges : ℕ) → edges ≡ length (joined_lists ls) → Successors nodes ls succ lists
    → (length (take edges succ) ≡ edges) × Successors nodes ls (take edges succ) lists
successors_part {nodes} {ls} {succ} {lists} edges e s =
    let n : length (take edges succ) ≡ edges = length-take-le edges succ (omega (arith, s.inside)) in
    let t : take edges succ ≡ joined_lists ls = ap (λ (k : ℕ). take k succ) e ∙ s.table in (
      n,
      record {
        lists_of = s.lists_of;
        inside = omega (arith, n);
        table = take_all (length (joined_lists ls)) (take edges succ) (omega (arith, n)) ∙ t;
        starts = s.starts;
        counts = s.counts;
      },
    )

-- the starts of the predecessor lists are written too, and the lists are empty yet
pub record Begun (nodes : ℕ) (ls : List (List ℕ)) (succ lists : List ℕ) : Type 0 where
  pub held : Successors nodes ls succ lists
  pub begins : (i : ℕ) → i < nodes → pred_start lists i ≡ start_of (sources_of ls) i
  pub none : (i : ℕ) → i < nodes → pred_count lists i ≡ 0

pub record Room (nodes edges : ℕ) (lists pred : List ℕ) : Type 0 where
  pub few_nodes : nodes ≤ 4096
  pub few_edges : edges ≤ 32768
  pub rows : nodes * 4 ≤ length lists
  pub space : edges ≤ length pred

-- after the first j nodes: each list has those of them that lead to its node
pub record Filling (nodes : ℕ) (ls : List (List ℕ)) (j : ℕ) (lists₀ lists pred₀ pred : List ℕ) : Type 0 where
  pub rows : Columns nodes (succ_start lists₀) (succ_count lists₀) (pred_start lists₀) (λ i. length (sources_in i 0 (take j ls))) lists₀ lists
  pub size : length pred ≡ length pred₀
  pub parts : (t : ℕ) → t < nodes → (m : ℕ) → m < length (sources_in t 0 (take j ls)) → get_or pred (start_of (sources_of ls) t + m) 0 ≡ get_or (sources_in t 0 (take j ls)) m 0
  pub past : (x : ℕ) → length (joined_lists ls) ≤ x → get_or pred x 0 ≡ get_or pred₀ x 0

all_get_d : {P : List ℕ → Type 0} {ls : List (List ℕ)} → All P ls → (i : ℕ) → i < length ls → P (get_or ls i [])
all_get_d all[] i h = absurd (omega arith)
all_get_d (all∷ p ps) zero h = p
all_get_d (all∷ p ps) (suc i) h = all_get_d ps i (omega arith)

ids_get_d : {n : ℕ} {l : List ℕ} → Ids n l → (m : ℕ) → m < length l → get_or l m 0 < n
ids_get_d all[] m h = absurd (omega arith)
ids_get_d (all∷ p ps) zero h = p
ids_get_d (all∷ p ps) (suc m) h = ids_get_d ps m (omega arith)

-- a part of the front is a part
front_part : (s c e : ℕ) (l : List ℕ) → s + c ≤ e → take c (drop s (take e l)) ≡ take c (drop s l)
front_part zero c e l h = take-take c e l (omega arith)
front_part (suc s) c zero l h = absurd (omega arith)
front_part (suc s) c (suc e) [] h = refl
front_part (suc s) c (suc e) (x ∷ l) h = front_part s c e l (omega arith)

-- ---- one node more

source_more : (ls : List (List ℕ)) (t j : ℕ) → j < length ls → sources_in t 0 (take (j + 1) ls) ≡ sources_in t 0 (take j ls) ++ replicate (occurs t (get_or ls j [])) j
source_more ls t j h =
    ap (sources_in t 0) (ap (λ (n : ℕ). take n ls) (add-one j) ∙ take-suc ls j [] h) ∙ sources_snoc t (take j ls) (get_or ls j [])
    ∙ ap (λ (n : ℕ). sources_in t 0 (take j ls) ++ replicate (occurs t (get_or ls j [])) n) (length-take-le j ls (omega arith))

source_part : (ls : List (List ℕ)) (t j : ℕ) → length (sources_in t 0 (take j ls)) ≤ length (sources_in t 0 ls)
source_part ls t j =
    let e = ap (λ (k : List (List ℕ)). length (sources_in t 0 k)) (take-append-drop j ls) in
    omega (arith, e, ap length (sources_append t 0 (take j ls) (drop j ls)), length-append (sources_in t 0 (take j ls)) (sources_in t (0 + length (take j ls)) (drop j ls)))

source_longer : (ls : List (List ℕ)) (t j : ℕ) → j < length ls
    → length (sources_in t 0 (take (j + 1) ls)) ≡ length (sources_in t 0 (take j ls)) + occurs t (get_or ls j [])
source_longer ls t j h =
    ap length (source_more ls t j h) ∙ length-append (sources_in t 0 (take j ls)) (replicate (occurs t (get_or ls j [])) j) ∙ ap (λ (n : ℕ). length (sources_in t 0 (take j ls)) + n) (length-replicate (occurs t (get_or ls j [])) j)

module _ {nodes : ℕ} {ls : List (List ℕ)} {succ lists₀ pred₀ : List ℕ} (b : Begun nodes ls succ lists₀) (r : Room nodes (length (joined_lists ls)) lists₀ pred₀) where
  total : (t : ℕ) → t < nodes → length (get_or (sources_of ls) t []) ≡ length (sources_in t 0 ls)
  total t h = ap length (sources_at ls t (omega (arith, b.held.lists_of.size)))

  pub filling_none : Filling nodes ls 0 lists₀ lists₀ pred₀ pred₀
  unfolding sources_in
  filling_none =
      record {
        rows = columns_ext (columns_self nodes lists₀) (λ i l. refl) (λ i l. refl) (λ i l. refl) (λ i l. b.none i l);
        size = refl;
        parts = λ t h m l. absurd (omega arith);
        past = λ x l. refl;
      }

  module _ {lists pred : List ℕ} (j : ℕ) (h : j < nodes) (f : Filling nodes ls j lists₀ lists pred₀ pred) where
    j_in : j < length ls
    j_in = omega (arith, b.held.lists_of.size)

    filling_start : get_or lists (j * 4) 0 ≡ start_of ls j
    filling_start = f.rows.col0 j h ∙ b.held.starts j h

    filling_count : get_or lists (j * 4 + 1) 0 ≡ length (get_or ls j [])
    filling_count = f.rows.col1 j h ∙ b.held.counts j h

    pub filling_inside : get_or lists (j * 4) 0 + get_or lists (j * 4 + 1) 0 ≤ length succ
    filling_inside = omega (arith, filling_start, filling_count, part_within ls j j_in, b.held.inside)

    -- the part of the table from the node's start, as long as its count, is its list
    filling_part : (s e : ℕ) → s ≡ get_or lists (j * 4) 0 → e ≡ get_or lists (j * 4) 0 + get_or lists (j * 4 + 1) 0 → take (e - s) (drop s succ) ≡ get_or ls j []
    filling_part s e es ee =
        let q : e - s ≡ length (get_or ls j []) = omega (arith, filling_count) in
        let o : s ≡ start_of ls j = es ∙ filling_start in
        rw (q, o) (sym (front_part (start_of ls j) (length (get_or ls j [])) (length (joined_lists ls)) succ (part_within ls j j_in)) ∙ ap (λ (k : List ℕ). take (length (get_or ls j [])) (drop (start_of ls j) k)) b.held.table ∙ part_law ls j j_in)

    slot_is : (t : ℕ) → t < nodes → slot lists t ≡ start_of (sources_of ls) t + length (sources_in t 0 (take j ls))
    slot_is t g = omega (arith, f.rows.col2 t g, f.rows.col3 t g, b.begins t g)

    -- the slots are inside the list's part
    slot_high : (t : ℕ) → t < nodes → slot lists t + occurs t (get_or ls j []) ≤ start_of (sources_of ls) t + length (get_or (sources_of ls) t [])
    slot_high t g = omega (arith, slot_is t g, source_longer ls t j j_in, source_part ls t (j + 1), total t g)

    part_end : (t : ℕ) → t < nodes → start_of (sources_of ls) t + length (get_or (sources_of ls) t []) ≤ length (joined_lists ls)
    part_end t g = omega (arith, part_within (sources_of ls) t (omega (arith, length_sources ls, b.held.lists_of.size)), sources_total b.held.lists_of)

    list_fillable : Fillable nodes (get_or ls j []) lists pred
    list_fillable =
        record {
          rows = omega (arith, r.rows, f.rows.size);
          ids = λ m g. ids_get_d (all_get_d b.held.lists_of.ids j j_in) m g;
          room = λ t g _. omega (arith, slot_high t g, part_end t g, r.space, f.size);
          fits = λ t g. omega (arith, f.rows.col3 t g, source_longer ls t j j_in, source_part ls t (j + 1), sources_length t 0 ls, occurs-le t (joined_lists ls), r.few_edges);
        }

    pub filling_fillable : (s e : ℕ) → s ≡ get_or lists (j * 4) 0 → e ≡ get_or lists (j * 4) 0 + get_or lists (j * 4 + 1) 0 → Fillable nodes (take (e - s) (drop s succ)) lists pred
    filling_fillable s e es ee = subst (λ (k : List ℕ). Fillable nodes k lists pred) (sym (filling_part s e es ee)) list_fillable

    -- no slot of the list's nodes is a place below another's count
    apart : (t m : ℕ) → t < nodes → m < length (sources_in t 0 (take j ls)) → (u : ℕ) → u < nodes → (i : ℕ) → i < occurs u (get_or ls j []) → slot lists u + i ≡ start_of (sources_of ls) t + m → ⊥
    apart t m g k u gu i e q =
        elim (ℕ_discrete u t) [
          | yes y ↦ omega (arith, slot_is u gu, ap (λ (z : ℕ). start_of (sources_of ls) z) y, ap (λ (z : ℕ). length (sources_in z 0 (take j ls))) y)
          | no ne ↦ elim (dec_lt u t) [
            | yes lt ↦ omega (arith, slot_high u gu, parts_apart (sources_of ls) u t lt)
            | no nl ↦ omega (arith, slot_is u gu, parts_apart (sources_of ls) t u (omega arith), total t g, source_part ls t j)
          ]
        ]

    module _ {lists' pred' : List ℕ} (p : Placed nodes j (get_or ls j []) lists lists' pred pred') where
      old_part : (t m : ℕ) → t < nodes → m < length (sources_in t 0 (take j ls)) → get_or pred' (start_of (sources_of ls) t + m) 0 ≡ get_or (sources_in t 0 (take j ls)) m 0
      old_part t m g k = p.other (start_of (sources_of ls) t + m) (λ u gu i e q. apart t m g k u gu i e q) ∙ f.parts t g m k

      -- the list's old entries, then j as often as it leads there
      new_part : (t m : ℕ) → t < nodes → m < length (sources_in t 0 (take j ls)) + occurs t (get_or ls j [])
          → get_or pred' (start_of (sources_of ls) t + m) 0 ≡ get_or (sources_in t 0 (take j ls) ++ replicate (occurs t (get_or ls j [])) j) m 0
      new_part t m g k =
          let S = sources_in t 0 (take j ls) in
          let c = occurs t (get_or ls j []) in
          elim (dec_lt m (length S)) [
            | yes lt ↦ old_part t m g lt ∙ sym (get_or-append S (replicate c j) 0 m lt)
            | no nl ↦ let i = m - length S in
                let q : m ≡ length S + i = omega arith in
                let l : i < c = omega arith in
                let z : start_of (sources_of ls) t + m ≡ slot lists t + i = omega (arith, slot_is t g) in
                ap (λ (x : ℕ). get_or pred' x 0) z ∙ p.here t g i l
                ∙ sym (ap (λ (x : ℕ). get_or (S ++ replicate c j) x 0) q ∙ get_or-append-add S (replicate c j) i 0 ∙ get_or-replicate c i j 0 l)
          ]

      filling_next : Filling nodes ls (j + 1) lists₀ lists' pred₀ pred'
      filling_next =
          record {
            rows = columns_then f.rows
                (columns_ext p.rows (λ i g. f.rows.col0 i g) (λ i g. f.rows.col1 i g) (λ i g. f.rows.col2 i g)
                (λ i g. omega (arith, f.rows.col3 i g, source_longer ls i j j_in)));
            size = p.size ∙ f.size;
            parts = λ t g m k. new_part t m g (omega (arith, source_longer ls t j j_in)) ∙ ap (λ (z : List ℕ). get_or z m 0) (sym (source_more ls t j j_in));
            past = λ x k. p.other x (λ t g i e q. omega (arith, slot_high t g, part_end t g)) ∙ f.past x k;
          }

    pub filling_more : {lists' pred' : List ℕ} (s e : ℕ) → s ≡ get_or lists (j * 4) 0 → e ≡ get_or lists (j * 4) 0 + get_or lists (j * 4 + 1) 0 → Placed nodes j (take (e - s) (drop s succ)) lists lists' pred pred'
        → Filling nodes ls (j + 1) lists₀ lists' pred₀ pred'
    filling_more {lists'} {pred'} s e es ee p = filling_next (subst (λ (k : List ℕ). Placed nodes j k lists lists' pred pred') (filling_part s e es ee) p)

-- ---- the filled tables

-- some lists stand in the tables, and there is room for their predecessors
pub record FillReady (nodes : ℕ) (succ lists pred : List ℕ) : Type 0 where
  pub ls : List (List ℕ)
  pub begun : Begun nodes ls succ lists
  pub room : Room nodes (length (joined_lists ls)) lists pred

-- whatever lists stand in the tables: their predecessors of the first j nodes are filled in
abbrev pub FilledTo : ℕ → ℕ → List ℕ → List ℕ → List ℕ → List ℕ → List ℕ → Type 0
FilledTo nodes j succ lists lists' pred pred' = (ls : List (List ℕ)) → Begun nodes ls succ lists → Room nodes (length (joined_lists ls)) lists pred → Filling nodes ls j lists lists' pred pred'

-- at the end
pub record WithPredecessors (nodes : ℕ) (ls : List (List ℕ)) (lists lists' pred pred' : List ℕ) : Type 0 where
  -- a row has start and count of the node's successors, as before, and of its predecessors
  pub rows : lists' ≡ list_rows ls (sources_of ls) nodes ++ drop (nodes * 4) lists
  -- the predecessor lists in node order; behind them the table is as it was
  pub table : pred' ≡ joined_lists (sources_of ls) ++ drop (length (joined_lists ls)) pred

pub filled : {nodes : ℕ} {ls : List (List ℕ)} {succ lists lists' pred pred' : List ℕ} → Begun nodes ls succ lists → Room nodes (length (joined_lists ls)) lists pred
    → Filling nodes ls nodes lists lists' pred pred' → WithPredecessors nodes ls lists lists' pred pred'
unfolding list_rows
filled {nodes} {ls} {succ} {lists} {lists'} {pred} {pred'} b r f =
    record {
      rows = columns_rows (start_of ls) (λ i. length (get_or ls i [])) (start_of (sources_of ls)) (λ i. length (get_or (sources_of ls) i [])) nodes lists lists' r.rows
          (columns_ext f.rows b.held.starts b.held.counts b.begins
          (λ i h. ap (λ (k : List (List ℕ)). length (sources_in i 0 k)) whole ∙ ap length (sym (sources_at ls i (omega arith)))));
      table = sym (take-append-drop n pred') ∙ ap (λ (k : List ℕ). k ++ drop n pred') front ∙ ap (λ (k : List ℕ). joined_lists (sources_of ls) ++ k) back;
    }
  where
    n : ℕ
    n = length (joined_lists ls)

    size : length ls ≡ nodes
    size = b.held.lists_of.size

    whole : take nodes ls ≡ ls
    whole = take_all nodes ls (omega arith)

    total : length (joined_lists (sources_of ls)) ≡ length (joined_lists ls)
    total = sources_total b.held.lists_of

    part : (t : ℕ) → t < length (sources_of ls) → (m : ℕ) → m < length (get_or (sources_of ls) t []) → get_or pred' (start_of (sources_of ls) t + m) 0 ≡ get_or (get_or (sources_of ls) t []) m 0
    part t h m l =
        let g : t < nodes = omega (arith, length_sources ls) in
        let e : sources_in t 0 (take nodes ls) ≡ get_or (sources_of ls) t [] = ap (sources_in t 0) whole ∙ sym (sources_at ls t (omega arith)) in
        f.parts t g m (omega (arith, ap length e)) ∙ ap (λ (k : List ℕ). get_or k m 0) e

    front : take n pred' ≡ joined_lists (sources_of ls)
    front = ap (λ (k : ℕ). take k pred') (sym total) ∙ joined_ext (sources_of ls) pred' (omega (arith, total, r.space, f.size)) part

    back : drop n pred' ≡ drop n pred
    back =
        ext_get_or 0 (drop n pred') (drop n pred) (omega (arith, length-drop n pred', length-drop n pred, f.size))
        (λ i _. get_or-drop n pred' i 0 ∙ f.past (n + i) (omega arith) ∙ sym (get_or-drop n pred i 0))

-- ---- from the successors alone

pub record Ready (nodes edges : ℕ) (succ lists pred : List ℕ) : Type 0 where
  pub ls : List (List ℕ)
  pub held : Successors nodes ls succ lists
  pub edges_are : edges ≡ length (joined_lists ls)
  pub room : Room nodes edges lists pred

abbrev pub Written : ℕ → ℕ → List ℕ → List ℕ → List ℕ → List ℕ → List ℕ → Type 0
Written nodes edges succ lists lists' pred pred' = (ls : List (List ℕ)) → Successors nodes ls succ lists → edges ≡ length (joined_lists ls) → WithPredecessors nodes ls lists lists' pred pred'

module _ {nodes edges : ℕ} {ls : List (List ℕ)} {succ lists pred : List ℕ} (s : Successors nodes ls succ lists) (e : edges ≡ length (joined_lists ls)) (r : Room nodes edges lists pred) where
  front : take edges succ ≡ joined_lists ls
  front = ap (λ (k : ℕ). take k succ) e ∙ s.table

  module _ {lists₀ : List ℕ} (z : Emptied nodes nodes lists lists₀) where
    none : (i : ℕ) → i < nodes → pred_count lists₀ i ≡ 0
    none = emptied_all nodes lists lists₀ z

    pub ready_count : Countable nodes edges succ lists₀
    ready_count =
        record {
          rows = omega (arith, r.rows, z.size);
          inside = omega (arith, s.inside);
          ids = λ m h. subst (λ (x : ℕ). x < nodes) (ap (λ (k : List ℕ). get_or k m 0) (sym front) ∙ get_or-take edges succ m 0 h) (ids_get_d (joined-ids nodes s.lists_of.ids) m (omega arith));
          fits = λ i h. omega (arith, none i h, r.few_edges);
        }

    module _ {lists₁ : List ℕ} (c : Counted nodes edges succ lists₀ lists₁) where
      count_is : (i : ℕ) → i < nodes → pred_count lists₁ i ≡ occurs i (joined_lists ls)
      count_is i h = c.col3 i h ∙ omega (arith, none i h, ap (occurs i) front)

      sum_is : (i : ℕ) → i ≤ nodes → sum_to (pred_count lists₁) i ≡ start_of (sources_of ls) i
      sum_is i h = sum_ext (pred_count lists₁) (λ x. occurs x (joined_lists ls)) i (λ x g. count_is x (omega arith)) ∙ sym (sources_start s.lists_of i h)

      pub ready_rows : nodes * 4 ≤ length lists₁
      ready_rows = omega (arith, r.rows, z.size, c.size)

      pub ready_sum : sum_to (pred_count lists₁) nodes < 65536
      ready_sum =
          omega (arith, sum_ext (pred_count lists₁) (λ x. occurs x (joined_lists ls)) nodes count_is, sum_occurs nodes (joined-ids nodes s.lists_of.ids), r.few_edges)

      module _ {lists₂ : List ℕ} (d : Started nodes lists₁ lists₂) where
        pub ready_begun : Begun nodes ls succ lists₂
        ready_begun =
            record {
              held = record {
                lists_of = s.lists_of;
                inside = s.inside;
                table = s.table;
                starts = λ i h. d.col0 i h ∙ c.col0 i h ∙ z.col0 i h ∙ s.starts i h;
                counts = λ i h. d.col1 i h ∙ c.col1 i h ∙ z.col1 i h ∙ s.counts i h;
              };
              begins = λ i h. d.col2 i h ∙ sum_is i (omega arith);
              none = λ i h. d.col3 i h;
            }

        pub ready_room : Room nodes (length (joined_lists ls)) lists₂ pred
        ready_room =
            record { few_nodes = r.few_nodes; few_edges = omega (arith, r.few_edges); rows = omega (arith, r.rows, z.size, c.size, d.size); space = omega (arith, r.space) }

        pub ready_filled : {lists₃ pred₃ : List ℕ} → FilledTo nodes nodes succ lists₂ lists₃ pred pred₃ → WithPredecessors nodes ls lists lists₃ pred pred₃
        ready_filled {lists₃} {pred₃} g =
            let w = filled ready_begun ready_room (g ls ready_begun ready_room) in
            record { rows = w.rows ∙ ap (λ (k : List ℕ). list_rows ls (sources_of ls) nodes ++ k) (columns_past d ∙ columns_past c ∙ columns_past z); table = w.table }

-- lists that were stored one after the other are such a table
pub stored_successors : {nodes at : ℕ} {ls : List (List ℕ)} {lists₀ lists succ₀ succ : List ℕ} → IdLists nodes ls → at ≤ length succ₀ → ListsStored ls at lists₀ lists succ₀ succ → Successors nodes ls succ lists
stored_successors {nodes} {at} {ls} {lists₀} {lists} {succ₀} {succ} k h s =
    record {
      lists_of = k;
      inside = omega (arith, ap length s.table, length-append (joined_lists ls) (drop at succ₀));
      table = ap (take (length (joined_lists ls))) s.table ∙ take-append_seam (joined_lists ls) (drop at succ₀);
      starts = λ i g. s.rows.col0 i (omega (arith, k.size));
      counts = λ i g. s.rows.col1 i (omega (arith, k.size));
    }
