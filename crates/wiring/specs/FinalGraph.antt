-- The lists that a listing's tables say are its graph's, and the tables can be read. Assumes nothing.
use Rattle.std.specs.Prelude.{◌≡◌, Bool, ◌⊎◌, ℕ, zero, suc, ◌+◌, ◌*◌, ◌/◌, ◌≤◌, ◌<◌, eqb, length, drop, get_or}
use Rattle.std.proofs.Math.Path.{refl, sym, ap}
use Rattle.std.proofs.Common.{◌∙◌, inl, inr, arith, eq-eqb, ne_eqb, length-append}
use Rattle.std.proofs.Math.Bool.{true, false}
use mathlib.Core.List.{List, []}
use Rattle.std.proofs.Math.ListN.{take}
use Rattle.layout.specs.Layout.{return_word}
use Rattle.listings.specs.Bytes.{pick}
use Rattle.listings.specs.Listing.{Listing}
use Rattle.graph.specs.Lists.{each, below}
use Rattle.graph.specs.Graph.{Wired, wire, base, continuation, skip_steps, region_return_edges, return_targets, return_edges, successors, all_successors}
use Rattle.graph_laws.specs.Distinct.{dist[], distinct_all, few}
use Rattle.graph_laws.specs.EdgeBounds.{Ids}
use Rattle.graph_laws.specs.GraphLaws.{node_count, target-ids, lists_ok}
use Rattle.tables.specs.Columns.{succ_start, succ_count, succ_part, call_word, word_of, fall_entry}
use Rattle.tables.specs.Readable.{lists_read}
use Rattle.passes.specs.Compare.{eq-or}
use Rattle.passes.specs.Sets.{members_of}
use Rattle.passes.specs.ReturnSets.{set_of}
use Rattle.passes.specs.EdgeTable.{joined_lists, part_within, lists_to, length_lists, lists_at, ListsStored, stored_part}
use Rattle.passes.specs.Predecessors.{all_lists}
use Rattle.passes.specs.Prepared.{Prepared, Roles}
use Rattle.passes.specs.WholeList.{call_made}
use Rattle.passes.specs.RegionLaws.{roles_read, stored_read}
use Rattle.passes.specs.SkipLists.{skips_walk}
use Rattle.passes.specs.EdgeCount.{successors_are}
use Rattle.storing.specs.FinalLists.{return_list, call_list, final_list}
use Rattle.storing.specs.StoredGraph.{final_lists, GraphRead}

-- ---- what the tables hold

-- only rows of RETURNs among the first n have changed from ks to args
abbrev pub ReturnRowsOnly : (stmts : List ℕ) (n : ℕ) (ks args : List ℕ) → Type 0
ReturnRowsOnly stmts n ks args = (e : ℕ) → (e / 64 < n → get_or stmts ((e / 64) * 12) 0 ≡ return_word → ⊥) → get_or args e 0 ≡ get_or ks e 0

-- the tables of a listing whose arguments were ks, and its return targets or sets
pub record FinalTables (L : Listing) (ks : List ℕ) (handlers : Bool) (stmts args entries falls links frames dispatched : List ℕ) (lines n : ℕ) (returns : List ℕ) (targets : ℕ) : Type 0 where
  pub handled : L.handlers ≡ handlers
  pub prepared : Prepared L stmts ks entries falls links frames dispatched lines n
  pub roles : Roles (wire L) stmts falls links n
  pub kept : ReturnRowsOnly stmts n ks args
  pub args_size : length args ≡ length ks
  pub targets_fit : handlers ≡ true → targets ≤ length returns
  pub through : handlers ≡ true → take targets returns ≡ return_targets (wire L)
  pub back : handlers ≡ false → (r : ℕ) → r < n → get_or stmts (r * 12) 0 ≡ return_word → members_of (set_of args r) ≡ region_return_edges (wire L) r

-- the list l of node i stands in scratch where its row says
pub record Place (l : List ℕ) (i : ℕ) (lists scratch : List ℕ) : Type 0 where
  pub inside : succ_start lists i + succ_count lists i ≤ length scratch
  pub count : succ_count lists i ≡ length l
  pub part : take (succ_count lists i) (drop (succ_start lists i) scratch) ≡ l

-- the lists that skipping paths follow stand in scratch
pub record SkipsHeld (W : Wired) (n : ℕ) (lists scratch : List ℕ) : Type 0 where
  pub at : ℕ
  pub lists₀ : List ℕ
  pub scratch₀ : List ℕ
  pub stored : ListsStored (lists_to (skip_steps W) n) at lists₀ lists scratch₀ scratch

-- ---- one node

-- which list is node i's
module _ {L : Listing} {ks : List ℕ} {handlers : Bool} {stmts args entries falls links frames dispatched : List ℕ} {lines n : ℕ} {returns : List ℕ} {targets : ℕ}
    (t : FinalTables L ks handlers stmts args entries falls links frames dispatched lines n returns targets) (i : ℕ) (h : i < n) where
  return_is : get_or stmts (i * 12) 0 ≡ 9 → return_list handlers args i returns targets ≡ successors L i
  unfolding return_list return_edges word_of
  return_is w =
      let W = wire L in
      go handlers t.through (λ e. t.back e i h w) ∙ ap (λ (b : Bool). return_edges b W i) (sym t.handled)
      ∙ ap (λ (b : Bool). pick b (return_edges L.handlers W i) (base W i)) (sym (eq-eqb (get_or stmts (i * 12) 0) 9 w)) ∙ sym (successors_are L t.roles i h)
    where
      go : (b : Bool) → (b ≡ true → take targets returns ≡ return_targets (wire L)) → (b ≡ false → members_of (set_of args i) ≡ region_return_edges (wire L) i) → return_list b args i returns targets ≡ return_edges b (wire L) i
      go true f g = f refl
      go false f g = g refl

  other_is : (get_or stmts (i * 12) 0 ≡ 9 → ⊥) → base (wire L) i ≡ successors L i
  unfolding word_of
  other_is w =
      let W = wire L in
      ap (λ (b : Bool). pick b (return_edges L.handlers W i) (base W i)) (sym (ne_eqb (get_or stmts (i * 12) 0) 9 w)) ∙ sym (successors_are L t.roles i h)

  stepping_is : (get_or stmts (i * 12) 0 ≡ 9 → ⊥) → call_word (get_or stmts (i * 12) 0) ≡ false → skip_steps (wire L) i ≡ successors L i
  unfolding word_of
  stepping_is w c =
      let W = wire L in
      let f = fall_entry falls i in
      t.roles.skipping i h ∙ ap (λ (b : Bool). pick b f (pick (eqb (get_or stmts (i * 12) 0) 9) [] (base W i))) c
      ∙ ap (λ (b : Bool). pick b [] (base W i)) (ne_eqb (get_or stmts (i * 12) 0) 9 w) ∙ other_is w

  -- the list by the tables is the graph's
  pub final_is : {lists scratch : List ℕ} → Place (skip_steps (wire L) i) i lists scratch → final_list handlers stmts args falls links lists scratch returns targets i ≡ successors L i
  unfolding final_list call_list word_of
  final_is {lists} {scratch} p = go (eq-or (get_or stmts (i * 12) 0) 9) (call_word (get_or stmts (i * 12) 0)) refl
    where
      go : (get_or stmts (i * 12) 0 ≡ 9) ⊎ (get_or stmts (i * 12) 0 ≡ 9 → ⊥) → (c : Bool) → call_word (get_or stmts (i * 12) 0) ≡ c
          → pick (eqb (get_or stmts (i * 12) 0) 9) (return_list handlers args i returns targets) (pick (call_word (get_or stmts (i * 12) 0)) (call_list stmts falls links i) (succ_part lists scratch i)) ≡ successors L i
      go (inl w) c e = rw (eq-eqb (get_or stmts (i * 12) 0) 9 w) (return_is w)
      go (inr w) true e = rw (ne_eqb (get_or stmts (i * 12) 0) 9 w, e) (call_made t.prepared ks i h (λ v. record { own = λ j g. refl; names = λ k g. refl }) refl e ∙ other_is w)
      go (inr w) false e = rw (ne_eqb (get_or stmts (i * 12) 0) 9 w, e) (p.part ∙ stepping_is w e)

-- ---- all nodes

pub few_through : (L : Listing) → length (return_targets (wire L)) ≤ node_count L
unfolding return_targets
few_through L = few (node_count L) (distinct_all (each (continuation (wire L)) (below (node_count L))) dist[]) (target-ids L)

lists_same : (f g : ℕ → List ℕ) (n : ℕ) → ((i : ℕ) → i < n → f i ≡ g i) → lists_to f n ≡ lists_to g n
unfolding lists_to
lists_same f g zero h = refl
lists_same f g (suc n) h = rw (lists_same f g n (λ i lt. h i (omega arith)), h n (omega arith))

-- where the rows say
pub place_now : {W : Wired} {n : ℕ} {lists scratch : List ℕ} → SkipsHeld W n lists scratch → (i : ℕ) → i < n → Place (skip_steps W i) i lists scratch
place_now {W} {n} {lists} {scratch} k i h =
    let S = lists_to (skip_steps W) n in
    let g : i < length S = omega (arith, length_lists (skip_steps W) n) in
    let l : get_or S i [] ≡ skip_steps W i = lists_at (skip_steps W) n i h in
    record {
      inside = omega (arith, k.stored.rows.col0 i g, k.stored.rows.col1 i g, part_within S i g, ap length k.stored.table, length-append (joined_lists S) (drop k.at k.scratch₀));
      count = k.stored.rows.col1 i g ∙ ap length l;
      part = stored_part k.stored i g ∙ l;
    }

module _ {L : Listing} {ks : List ℕ} {handlers : Bool} {stmts args entries falls links frames dispatched : List ℕ} {lines n : ℕ} {returns : List ℕ} {targets : ℕ} {lists scratch : List ℕ}
    (t : FinalTables L ks handlers stmts args entries falls links frames dispatched lines n returns targets) (k : SkipsHeld (wire L) n lists scratch) where
  -- the lists by the tables are the graph's
  pub finals_are : final_lists handlers stmts args falls links n lists scratch returns targets ≡ all_successors L
  unfolding final_lists
  finals_are =
      lists_same (final_list handlers stmts args falls links lists scratch returns targets) (successors L) n (λ i h. final_is t i h (place_now k i h))
      ∙ ap (lists_to (successors L)) t.roles.nodes_are ∙ sym (all_lists L)

  back_ids : handlers ≡ false → (i : ℕ) → i < n → word_of stmts i ≡ return_word → Ids n (members_of (set_of args i))
  unfolding return_list word_of
  back_ids e i h w =
      let q : members_of (set_of args i) ≡ successors L i = ap (λ (b : Bool). return_list b args i returns targets) (sym e) ∙ return_is t i h w in
      rw (q, t.roles.nodes_are) ((lists_ok L).ids i)

  through_ids : handlers ≡ true → Ids n (take targets returns)
  through_ids e = rw (t.through e, t.roles.nodes_are) (target-ids L)

  -- and the tables can be read
  pub graph_reads : n * 4 ≤ length k.lists₀ → targets ≤ 4096 → GraphRead handlers stmts args falls links n lists scratch returns targets
  graph_reads rows f =
      record {
        few_targets = f;
        lists_in = lists_read lists scratch n (stored_read t.roles.few (skips_walk L t.prepared.nodes_are rows k.stored));
        calls = roles_read (wire L) stmts falls links n t.roles;
        in_sets = omega (arith, t.prepared.args_fit, t.args_size);
        through = λ e. (t.targets_fit e, through_ids e);
        back = back_ids;
      }
