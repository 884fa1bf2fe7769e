-- The lists that skipping paths follow, as a loop over the nodes stores them in a scratch table, and how many edges all
-- nodes have that are no RETURNs. Assumes nothing.
use Rattle.std.specs.Prelude.{◌≡◌, Bool, eqb, take, drop, get_or, set}
use Rattle.std.proofs.Math.Path.{refl, sym}
use Rattle.std.proofs.Common.{ap, subst, ◌∙◌, add-one, length-append, length-take-le, take-take}
use Rattle.std.proofs.Math.Bool.{true, false}
use mathlib.Core.List.{List, [], ◌∷◌}
use Prim.Native.Nat.{ℕ, zero, suc, ◌+◌, ◌-◌, ◌*◌, ◌≤◌, ◌<◌}
use native.Mathlib.Omega.{arith}
use Rattle.std.proofs.Math.ListN.{length}
use Rattle.listings.specs.Bytes.{pick}
use Rattle.listings.specs.Every.{all[]}
use Rattle.listings.specs.Listing.{Listing}
use Rattle.graph_laws.specs.Adding.{decode}
use Rattle.graph.specs.Graph.{Wired, wire, Role, call, returns, forgets, steps, no_node, role, fall_from, base, skip_steps_by, skip_steps, return_edges, successors_by, successors_in, successors}
use Rattle.graph_laws.specs.GraphLaws.{node_count, fall_below, lists_ok}
use Rattle.graph_laws.specs.EdgeBounds.{Ids, list-ids}
use Rattle.passes.specs.Walk.{Stored, stored_list}
use Rattle.passes.specs.EdgeTable.{joined_lists, joined_snoc, part_within, lists_to, length_lists, lists_at, ListsStored, Appended, stored_none, stored_part, stored_more}
use Rattle.passes.specs.Prepared.{Prepared, Keys, Roles}
use Rattle.tables.specs.Columns.{call_word, word_of, fall_entry}
use Rattle.passes.specs.NodeList.{ListReady, ListIs, ListMade}
use Rattle.passes.specs.ReturnTargets.{one_at_most}

-- ---- what a skipping path follows from a node whose list is l: from a call only its fall

unfoldable pub skip_list : List ℕ → List ℕ → ℕ → List ℕ → List ℕ
skip_list stmts falls i l = pick (call_word (word_of stmts i)) (fall_entry falls i) l

module _ {W : Wired} {stmts falls links : List ℕ} {n : ℕ} (r : Roles W stmts falls links n) (i : ℕ) (h : i < n) where
  pub skip_list_lem : skip_steps W i ≡ skip_list stmts falls i (base W i)
  unfolding skip_list
  skip_list_lem = r.skipping i h ∙ go (call_word (word_of stmts i)) (eqb (word_of stmts i) 9) (r.returns_none i h)
    where
      go : (c b : Bool) → (b ≡ true → base W i ≡ []) → pick c (fall_entry falls i) (pick b [] (base W i)) ≡ pick c (fall_entry falls i) (base W i)
      go true b e = refl
      go false true e = sym (e refl)
      go false false e = refl

pub skip_short : (stmts falls : List ℕ) (i : ℕ) (l : List ℕ) → length (skip_list stmts falls i l) ≤ length l + 1
unfolding skip_list fall_entry
skip_short stmts falls i l = go (call_word (word_of stmts i))
  where
    go : (c : Bool) → length (pick c (decode (get_or falls (i * 3) 0)) l) ≤ length l + 1
    go true = omega (arith, one_at_most (get_or falls (i * 3) 0))
    go false = omega arith

-- a list that stands in a part, stored
module _ {l part part' : List ℕ} {r : ℕ} (k : ListIs l part part' r) where
  pub list-kept : r ≡ length (take r part')
  list-kept = k.count ∙ ap length (sym k.list)

  pub list_stored : {node at next : ℕ} {lists lists' succ succ' : List ℕ} → Appended node at r (take r (take r part')) lists lists' succ succ' next → Appended node at (length l) l lists lists' succ succ' next
  list_stored a = let e : take r (take r part') ≡ l = take-take r r part' (omega arith) ∙ k.list in rw (← k.count) (rw e at a)

-- in a part whose first count entries are a node's list
module _ (stmts falls : List ℕ) (i : ℕ) (part : List ℕ) (count : ℕ) where
  -- no call: the list as it is
  pub skip_same : call_word (word_of stmts i) ≡ false → count ≤ length part → ListIs (skip_list stmts falls i (take count part)) part part count
  unfolding skip_list
  skip_same e h = rw e (record { count = sym (length-take-le count part h); list = refl; size = refl; within = h })

  -- a call: where it falls
  pub skip_fall : call_word (word_of stmts i) ≡ true → (part' : List ℕ) (r : ℕ) → ListIs (fall_entry falls i) part part' r → ListIs (skip_list stmts falls i (take count part)) part part' r
  unfolding skip_list
  skip_fall e part' r l = rw e l

-- ---- where a node falls, put to the front of a part

pub list-none : (part : List ℕ) → ListIs [] part part 0
list-none part = record { count = refl; list = refl; size = refl; within = omega arith }

module _ (falls : List ℕ) (i : ℕ) (part : List ℕ) where
  pub fall_none : get_or falls (i * 3) 0 ≡ 0 → ListIs (fall_entry falls i) part part 0
  unfolding fall_entry
  fall_none e = rw e (list-none part)

  pub fall_one : (get_or falls (i * 3) 0 ≡ 0 → ⊥) → 0 < length part → ListIs (fall_entry falls i) part (set part 0 (get_or falls (i * 3) 0 - 1)) 1
  unfolding fall_entry
  fall_one ne h = go (get_or falls (i * 3) 0) ne part h
    where
      go : (x : ℕ) → (x ≡ 0 → ⊥) → (p : List ℕ) → 0 < length p → ListIs (decode x) p (set p 0 (x - 1)) 1
      go zero z p lt = absurd (z refl)
      go (suc x) z [] lt = absurd (omega arith)
      go (suc x) z (a ∷ p) lt =
          let q : suc x - 1 ≡ x = omega arith in
          rw q (record { count = refl; list = refl; size = refl; within = omega arith })

-- ---- one node

-- what the loop's turn for node i needs: so many edges counted before it, and scratch used up to at
pub record SkipReady (stmts args entries falls links frames dispatched : List ℕ) (lines i total at : ℕ) (lists scratch buffer : List ℕ) : Type 0 where
  pub listing : Listing
  pub nodes : ℕ
  pub prepared : Prepared listing stmts args entries falls links frames dispatched lines nodes
  pub roles : Roles (wire listing) stmts falls links nodes
  pub node : i < nodes
  pub rows : nodes * 4 ≤ length lists
  pub scratch_size : length scratch ≡ 36864
  pub buffer_size : length buffer ≡ 4096
  pub few : total ≤ i * 4096
  pub fits : total ≤ 32768 → at ≤ total + i

-- the node's edges are counted; while they are few, what skipping paths follow from it is stored
pub record SkipStored (W : Wired) (i total at : ℕ) (lists lists' scratch scratch' : List ℕ) (total' at' : ℕ) : Type 0 where
  pub counted : total' ≡ total + length (base W i)
  pub few : total' ≤ total + 4096
  pub stored : total' ≤ 32768 → Appended i at (length (skip_steps W i)) (skip_steps W i) lists lists' scratch scratch' at'

abbrev pub SkipDone : (stmts args entries falls links frames dispatched : List ℕ) (lines i total at : ℕ) (lists lists' scratch scratch' : List ℕ) (total' at' : ℕ) → Type 0
SkipDone stmts args entries falls links frames dispatched lines i total at lists lists' scratch scratch' total' at' =
    (L : Listing) (n : ℕ) → Prepared L stmts args entries falls links frames dispatched lines n → Roles (wire L) stmts falls links n → i < n → SkipStored (wire L) i total at lists lists' scratch scratch' total' at'

-- ---- all nodes

pub record SkipsReady (stmts args entries falls links frames dispatched : List ℕ) (lines n : ℕ) (lists scratch buffer : List ℕ) : Type 0 where
  pub listing : Listing
  pub prepared : Prepared listing stmts args entries falls links frames dispatched lines n
  pub roles : Roles (wire listing) stmts falls links n
  pub rows : n * 4 ≤ length lists
  pub scratch_size : length scratch ≡ 36864
  pub buffer_size : length buffer ≡ 4096

-- the edges of the first i nodes are counted; if they are few, the lists that skipping paths follow stand in scratch
pub record SkipTable (W : Wired) (i : ℕ) (lists lists' scratch scratch' : List ℕ) (total : ℕ) : Type 0 where
  pub counted : total ≡ length (joined_lists (lists_to (base W) i))
  pub lists_size : length lists' ≡ length lists
  pub scratch_size : length scratch' ≡ length scratch
  pub at : ℕ
  pub stored : total ≤ 32768 → ListsStored (lists_to (skip_steps W) i) at lists lists' scratch scratch'

abbrev pub SkipsDone : (stmts args entries falls links frames dispatched : List ℕ) (lines n : ℕ) (lists lists' scratch scratch' : List ℕ) (total : ℕ) → Type 0
SkipsDone stmts args entries falls links frames dispatched lines n lists lists' scratch scratch' total =
    (L : Listing) → Prepared L stmts args entries falls links frames dispatched lines n → Roles (wire L) stmts falls links n → SkipTable (wire L) n lists lists' scratch scratch' total

-- ---- the turn for one node

-- no row of arguments has changed
pub keys_same : (stmts ks : List ℕ) (i : ℕ) → Keys stmts ks ks i
keys_same stmts ks i e = record { own = λ j h. refl; names = λ k h. refl }

module _ {stmts args entries falls links frames dispatched : List ℕ} {lines i total at : ℕ} {lists scratch buffer : List ℕ} (q : SkipReady stmts args entries falls links frames dispatched lines i total at lists scratch buffer) where
  pub skip_list_ready : ListReady stmts args entries falls links frames dispatched lines i (length buffer)
  skip_list_ready =
      record {
        listing = q.listing;
        keys₀ = args;
        nodes = q.nodes;
        prepared = q.prepared;
        kept = keys_same stmts args i;
        size = refl;
        node = q.node;
        room = omega (arith, q.prepared.few, q.buffer_size);
      }

  module _ {buffer₁ : List ℕ} {count : ℕ} (m : ListMade stmts args entries falls links frames dispatched lines i buffer buffer₁ count) where
    made : (L : Listing) (n : ℕ) → Prepared L stmts args entries falls links frames dispatched lines n → i < n → ListIs (base (wire L) i) buffer buffer₁ count
    made L n p h = m L args n p (keys_same stmts args i) refl h

    own : ListIs (base (wire q.listing) i) buffer buffer₁ count
    own = made q.listing q.nodes q.prepared q.node

    pub skip_total : total + count ≤ i * 4096 + 4096
    skip_total = omega (arith, q.few, own.within, q.buffer_size)

    pub skip_room : (i < 4096) × (i * 12 < length stmts) × (i * 3 < length falls) × (count ≤ length buffer₁) × (0 < length buffer₁)
    skip_room =
        let r = q.roles in
        let l = q.node in
        let o = own in
        let b = q.buffer_size in
        (omega (arith, r.few), omega (arith, r.stmts_fit), omega (arith, r.falls_fit), omega (arith, o.within, o.size), omega (arith, o.size))

    -- more edges than a graph may have
    pub skip_over : 32768 < total + count → SkipDone stmts args entries falls links frames dispatched lines i total at lists lists scratch scratch (total + count) at
    skip_over h L n p r g =
        let o = made L n p g in
        record { counted = ap (λ (x : ℕ). total + x) o.count; few = omega (arith, o.within, q.buffer_size); stored = λ f. absurd (omega arith) }

    module _ {buffer₂ : List ℕ} {kept : ℕ} (k : ListIs (skip_list stmts falls i (take count buffer₁)) buffer₁ buffer₂ kept) where
      pub skip_fits : total + count ≤ 32768 → (kept ≤ length (take kept buffer₂)) × (at + kept ≤ length scratch) × (at + kept < 65536) × (i * 4 + 4 ≤ length lists)
      skip_fits h =
          let o = own in
          let l = q.node in
          let f : at ≤ total + i = q.fits (omega arith) in
          let e : length (take count buffer₁) ≡ count = length-take-le count buffer₁ (omega (arith, o.within, o.size)) in
          let s : kept ≤ count + 1 = omega (arith, k.count, skip_short stmts falls i (take count buffer₁)) in
          let t : length (take kept buffer₂) ≡ kept = length-take-le kept buffer₂ (omega (arith, k.within, k.size)) in
          (omega arith, omega (arith, q.scratch_size, q.roles.few), omega (arith, q.roles.few), omega (arith, q.rows))

      pub skip_store : {lists' scratch' : List ℕ} {at' : ℕ} → Appended i at kept (take kept (take kept buffer₂)) lists lists' scratch scratch' at'
          → SkipDone stmts args entries falls links frames dispatched lines i total at lists lists' scratch scratch' (total + count) at'
      skip_store {lists'} {scratch'} {at'} a L n p r h =
          let o = made L n p h in
          let e : skip_list stmts falls i (take count buffer₁) ≡ skip_steps (wire L) i = ap (skip_list stmts falls i) o.list ∙ sym (skip_list_lem r i h) in
          record {
            counted = ap (λ (x : ℕ). total + x) o.count;
            few = omega (arith, o.within, q.buffer_size);
            stored = λ g. rw e at (list_stored k a);
          }

-- ---- the loop

-- the joined lists, by the last node
pub joined_to : (f : ℕ → List ℕ) (i : ℕ) → length (joined_lists (lists_to f (suc i))) ≡ length (joined_lists (lists_to f i)) + length (f i)
unfolding lists_to
joined_to f i = ap length (joined_snoc (lists_to f i) (f i)) ∙ length-append (joined_lists (lists_to f i)) (f i)

-- one more list behind those of the first i nodes
pub stored_next : (f : ℕ → List ℕ) (i : ℕ) {at r : ℕ} {lists₀ lists lists' succ₀ succ succ' : List ℕ} → ListsStored (lists_to f i) at lists₀ lists succ₀ succ → i * 4 + 4 ≤ length lists₀
    → Appended i at (length (f i)) (f i) lists lists' succ succ' r → ListsStored (lists_to f (i + 1)) r lists₀ lists' succ₀ succ'
unfolding lists_to
stored_next f i {at} {r} {lists₀} {lists} {lists'} {succ₀} {succ} {succ'} s h a =
    let b : Appended (length (lists_to f i)) at (length (f i)) (f i) lists lists' succ succ' r
    = subst (λ (x : ℕ). Appended x at (length (f i)) (f i) lists lists' succ succ' r) (sym (length_lists f i)) a in
    rw (add-one i) (stored_more s (f i) lists' succ' (length (f i)) r refl (omega (arith, length_lists f i)) b)

-- a skipping path follows at most one edge more than a node has
pub skips_short : {W : Wired} {stmts falls links : List ℕ} {n : ℕ} → Roles W stmts falls links n → (i : ℕ) → i ≤ n → length (joined_lists (lists_to (skip_steps W) i)) ≤ length (joined_lists (lists_to (base W) i)) + i
unfolding lists_to joined_lists
skips_short r zero h = omega arith
skips_short {W} {stmts} {falls} r (suc i) h =
    let e = ap length (skip_list_lem r i (omega arith)) in
    omega (arith, skips_short r i (omega arith), joined_to (skip_steps W) i, joined_to (base W) i, e, skip_short stmts falls i (base W i))

-- the first i nodes are done
pub record SkipsTo (W : Wired) (i total at : ℕ) (lists₀ lists scratch₀ scratch : List ℕ) : Type 0 where
  pub counted : total ≡ length (joined_lists (lists_to (base W) i))
  pub stored : total ≤ 32768 → ListsStored (lists_to (skip_steps W) i) at lists₀ lists scratch₀ scratch

abbrev pub Skipping : (stmts args entries falls links frames dispatched : List ℕ) (lines n i total at : ℕ) (lists₀ lists scratch₀ scratch : List ℕ) → Type 0
Skipping stmts args entries falls links frames dispatched lines n i total at lists₀ lists scratch₀ scratch =
    (L : Listing) → Prepared L stmts args entries falls links frames dispatched lines n → Roles (wire L) stmts falls links n → SkipsTo (wire L) i total at lists₀ lists scratch₀ scratch

pub skips_none : (W : Wired) (lists scratch : List ℕ) → SkipsTo W 0 0 0 lists lists scratch scratch
unfolding lists_to joined_lists
skips_none W lists scratch = record { counted = refl; stored = λ h. stored_none lists scratch }

module _ {W : Wired} {stmts falls links : List ℕ} {n : ℕ} (r : Roles W stmts falls links n) {i total at : ℕ} {lists₀ lists scratch₀ scratch : List ℕ} (s : SkipsTo W i total at lists₀ lists scratch₀ scratch) where
  pub skips_fit : i ≤ n → total ≤ 32768 → at ≤ total + i
  skips_fit h g = omega (arith, (s.stored g).used, s.counted, skips_short r i h)

  pub skips_more : n * 4 ≤ length lists₀ → i < n → {total' at' : ℕ} {lists' scratch' : List ℕ} → SkipStored W i total at lists lists' scratch scratch' total' at' → SkipsTo W (i + 1) total' at' lists₀ lists' scratch₀ scratch'
  skips_more b h {total'} t =
      let e : i + 1 ≡ suc i = add-one i in
      record {
        counted = t.counted ∙ ap (λ (x : ℕ). x + length (base W i)) s.counted ∙ sym (joined_to (base W) i) ∙ ap (λ (x : ℕ). length (joined_lists (lists_to (base W) x))) (sym e);
        stored = λ g. stored_next (skip_steps W) i (s.stored (omega (arith, t.counted))) (omega arith) (t.stored g);
      }

pub skips_done : {W : Wired} {i n total at : ℕ} {lists₀ lists scratch₀ scratch : List ℕ} → i ≡ n → length lists ≡ length lists₀ → length scratch ≡ length scratch₀ → SkipsTo W i total at lists₀ lists scratch₀ scratch
    → SkipTable W n lists₀ lists scratch₀ scratch total
skips_done {W} {total = total} {at = at} {lists₀ = lists₀} {lists = lists} {scratch₀ = scratch₀} {scratch = scratch} e p q s =
    let t = subst (λ (x : ℕ). SkipsTo W x total at lists₀ lists scratch₀ scratch) e s in
    record { counted = t.counted; lists_size = p; scratch_size = q; at = at; stored = t.stored }

-- ---- what a walk reads

pub skip_ids : (L : Listing) (i : ℕ) → Ids (node_count L) (skip_steps (wire L) i)
unfolding skip_steps skip_steps_by successors successors_in successors_by
skip_ids L i = go (role (wire L) i) ((lists_ok L).ids i)
  where
    go : (q : Role) → Ids (node_count L) (successors_by q (base (wire L) i) (return_edges L.handlers (wire L) i)) → Ids (node_count L) (skip_steps_by q (fall_from (wire L) i) (base (wire L) i))
    go (call m ts) h = list-ids (node_count L) (fall_from (wire L) i) (fall_below L i)
    go returns h = all[]
    go forgets h = h
    go steps h = h
    go no_node h = all[]

-- the stored lists are the steps of skipping paths
pub skips_walk : (L : Listing) {n at : ℕ} {lists₀ lists scratch₀ scratch : List ℕ} → n ≡ node_count L → n * 4 ≤ length lists₀ → ListsStored (lists_to (skip_steps (wire L)) n) at lists₀ lists scratch₀ scratch
    → Stored lists scratch n (skip_steps (wire L))
unfolding stored_list
skips_walk L {n} {at} {lists₀} {lists} {scratch₀} {scratch} e h s =
    let f = skip_steps (wire L) in
    let ls = lists_to f n in
    let k = length_lists f n in
    let ids : (i : ℕ) → Ids n (f i) = λ i. rw e (skip_ids L i) in
    record {
      rows = omega (arith, s.rows.size);
      within = λ v g. omega (arith, s.rows.col0 v (omega arith), s.rows.col1 v (omega arith), part_within ls v (omega arith), ap length s.table, length-append (joined_lists ls) (drop at scratch₀));
      list = λ v g. stored_part s v (omega arith) ∙ lists_at f n v g;
      ids = λ v g. ids v;
    }
