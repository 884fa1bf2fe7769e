-- The successor lists of the graph, as a loop over the nodes writes them in node order. Assumes nothing.
use Rattle.std.specs.Prelude.{◌≡◌, Bool, eqb, ltb, drop, get_or}
use Rattle.std.proofs.Math.Path.{refl, sym, ap}
use Rattle.std.proofs.Common.{◌∙◌, arith, eq-eqb, ne_eqb}
use Rattle.std.proofs.Math.Bool.{true, false}
use mathlib.Core.List.{List, [], ◌∷◌}
use Prim.Native.Nat.{ℕ, zero, suc, ◌+◌, ◌-◌, ◌*◌, ◌≤◌, ◌<◌}
use Rattle.std.proofs.Math.ListN.{length, length-take, length-drop, take}
use Rattle.std.proofs.Math.Seq.{length-take-le}
use Rattle.layout.specs.Layout.{return_word, ongoto_word}
use Rattle.listings.specs.Bytes.{pick}
use Rattle.listings.specs.Every.{All, all[], all∷, all_append}
use Rattle.graph.specs.Lists.{add_all, each}
use Rattle.graph_laws.specs.Adding.{decode}
use Rattle.graph_laws.specs.Distinct.{dist[]}
use Rattle.graph_laws.specs.EdgeBounds.{Ids}
use Rattle.tables.specs.Columns.{succ_start, succ_count, succ_part, call_word, word_of, fall_entry}
use Rattle.passes.specs.Sets.{members_of, members_within, size_of, Put}
use Rattle.passes.specs.SetLaws.{within_is, own-size}
use Rattle.passes.specs.ReturnSets.{set_of}
use Rattle.passes.specs.ReturnTotals.{return_size, return_size-le, members_few}
use Rattle.passes.specs.EdgeTable.{joined_lists, lists_to, length_lists, ListsStored, Appended, stored_none}
use Rattle.passes.specs.Counting.{sum_to}
use Rattle.passes.specs.Prepared.{link_entries}
use Rattle.passes.specs.NodeList.{jump_edges}
use Rattle.passes.specs.Regions.{target_row, CallFits}
use Rattle.passes.specs.WalkTables.{CallsRead}
use Rattle.passes.specs.RegionLaws.{calls_fit}
use Rattle.passes.specs.SkipLists.{joined_to, stored_next}
use Rattle.storing.specs.AddWithin.{add_all_in, all-length, all_in}
use Rattle.storing.specs.Appending.{appended_as}

-- ---- what the tables hold

-- where RETURN i leads, by the return targets or by its set
unfoldable pub return_list : Bool → List ℕ → ℕ → List ℕ → ℕ → List ℕ
return_list true args i returns targets = take targets returns
return_list false args i returns targets = members_of (set_of args i)

-- where call i leads: to its targets, and an ON falls besides; each once
unfoldable pub call_list : (stmts falls links : List ℕ) (i : ℕ) → List ℕ
call_list stmts falls links i = add_all [] (jump_edges stmts falls links i)

-- node i's list by the tables: a RETURN's, a call's, or any other's, which stands in scratch where its row says
unfoldable pub final_list : (handlers : Bool) (stmts args falls links lists scratch returns : List ℕ) (targets i : ℕ) → List ℕ
final_list handlers stmts args falls links lists scratch returns targets i =
    pick (eqb (word_of stmts i) return_word) (return_list handlers args i returns targets) (pick (call_word (word_of stmts i)) (call_list stmts falls links i) (succ_part lists scratch i))

-- how long it is, without a look at it
unfoldable pub final_size : (handlers : Bool) (stmts args falls links lists : List ℕ) (targets i : ℕ) → ℕ
final_size handlers stmts args falls links lists targets i =
    pick (eqb (word_of stmts i) return_word) (return_size handlers targets args i) (pick (call_word (word_of stmts i)) (length (call_list stmts falls links i)) (succ_count lists i))

-- ---- one node

-- node i can be read, and its list fits tables of so many entries
pub record WriteReady (handlers : Bool) (stmts args falls links : List ℕ) (i at : ℕ) (lists scratch returns : List ℕ) (targets edges : ℕ) : Type 0 where
  pub node : i < 4096
  pub in_stmts : i * 12 + 12 ≤ length stmts
  pub in_sets : i * 64 + 64 ≤ length args
  pub in_falls : i * 3 + 3 ≤ length falls
  pub in_rows : i * 4 + 4 ≤ length lists
  pub calls : call_word (word_of stmts i) ≡ true → CallFits stmts falls links i
  pub within : succ_start lists i + succ_count lists i ≤ length scratch
  pub targets_fit : handlers ≡ true → targets ≤ length returns
  pub few_targets : handlers ≡ true → targets ≤ 4096
  pub fits : at + length (final_list handlers stmts args falls links lists scratch returns targets i) ≤ edges
  pub few : at + length (final_list handlers stmts args falls links lists scratch returns targets i) < 65536

abbrev pub WriteDone : (handlers : Bool) (stmts args falls links : List ℕ) (i at : ℕ) (lists lists' scratch returns : List ℕ) (targets : ℕ) (succ succ' : List ℕ) (r : ℕ) → Type 0
WriteDone handlers stmts args falls links i at lists lists' scratch returns targets succ succ' r =
    let l = final_list handlers stmts args falls links lists scratch returns targets i in
    Appended i at (length l) l lists lists' succ succ' r

-- ---- all nodes

pub record WritesReady (handlers : Bool) (stmts args falls links : List ℕ) (n : ℕ) (lists scratch returns : List ℕ) (targets edges : ℕ) : Type 0 where
  pub calls : CallsRead stmts falls links n
  pub in_sets : n * 64 ≤ length args
  pub rows : n * 4 ≤ length lists
  pub within : (i : ℕ) → i < n → succ_start lists i + succ_count lists i ≤ length scratch
  pub targets_fit : handlers ≡ true → targets ≤ length returns
  pub few_targets : handlers ≡ true → targets ≤ 4096
  pub fits : length (joined_lists (lists_to (final_list handlers stmts args falls links lists scratch returns targets) n)) ≤ edges
  pub few : length (joined_lists (lists_to (final_list handlers stmts args falls links lists scratch returns targets) n)) ≤ 32768

abbrev pub WritesDone : (handlers : Bool) (stmts args falls links : List ℕ) (n : ℕ) (lists lists' scratch returns : List ℕ) (targets : ℕ) (succ succ' : List ℕ) (r : ℕ) → Type 0
WritesDone handlers stmts args falls links n lists lists' scratch returns targets succ succ' r =
    ListsStored (lists_to (final_list handlers stmts args falls links lists scratch returns targets) n) r lists lists' succ succ'

-- ---- the list of a RETURN

module _ (handlers : Bool) (args : List ℕ) (i : ℕ) (returns : List ℕ) (targets : ℕ) where
  back_list : handlers ≡ false → return_list handlers args i returns targets ≡ members_of (set_of args i)
  unfolding return_list
  back_list e = ap (λ (b : Bool). return_list b args i returns targets) e

  -- without them, from the row of the set
  module _ (e : handlers ≡ false) where
    members_are : members_of (set_of args i) ≡ return_list handlers args i returns targets
    members_are = sym (back_list e)

    back_ready : {room : ℕ} → i * 64 + 64 ≤ length args → length (return_list handlers args i returns targets) ≤ room
        → (length (set_of args i) ≡ 64) × (length (members_of (set_of args i)) ≤ room)
    unfolding set_of
    back_ready h g = (length-take-le 64 (drop (i * 64) args) (omega (arith, length-drop (i * 64) args)), omega (arith, ap length members_are))

    pub back_done : {part part' : List ℕ} {r : ℕ} → i * 64 + 64 ≤ length args → Put part 0 part' r (members_within (set_of args i) (length part)) → length (return_list handlers args i returns targets) ≤ length part
        → (r ≤ length part) × (take r part' ≡ return_list handlers args i returns targets)
    back_done {part} {part'} {r} h w g =
        let f = back_ready h g in
        let p : Put part 0 part' r (members_of (set_of args i)) = rw (within_is (set_of args i) (length part) f.0 f.1) at w in
        let n = ap length members_are in
        (omega (arith, p.count), p.list ∙ members_are)

-- ---- the turn for one node

-- every id of a call's list is below m
decode-ids : (m t : ℕ) → t ≤ m → Ids m (decode t)
decode-ids m zero h = all[]
decode-ids m (suc t) h = all∷ h all[]

each-ids : (m : ℕ) (row : List ℕ) → All (λ (t : ℕ). t ≤ m) row → Ids m (each decode row)
unfolding each
each-ids m [] all[] = all[]
each-ids m (t ∷ row) (all∷ p h) = all_append (decode-ids m t p) (each-ids m row h)

pick-ids : (m : ℕ) (b : Bool) (l : List ℕ) → Ids m l → Ids m (pick b [] l)
pick-ids m true l h = all[]
pick-ids m false l h = h

pub jump_ids : (m : ℕ) (stmts falls links : List ℕ) (i : ℕ) → All (λ (t : ℕ). t ≤ m) (target_row stmts links i) → get_or falls (i * 3) 0 ≤ m → Ids m (jump_edges stmts falls links i)
unfolding jump_edges link_entries target_row fall_entry
jump_ids m stmts falls links i a b =
    all_append (each-ids m (target_row stmts links i) a) (pick-ids m (ltb (word_of stmts i) ongoto_word) (decode (get_or falls (i * 3) 0)) (decode-ids m (get_or falls (i * 3) 0) b))

-- a call's list, made with room for 4,096 entries
module _ {stmts falls links : List ℕ} {i : ℕ} (c : CallFits stmts falls links i) {room : ℕ} {l : List ℕ} (e : room ≡ 4096)
    (m : l ≡ add_all_in room [] (jump_edges stmts falls links i)) where
  pub call_is : l ≡ call_list stmts falls links i
  unfolding call_list
  call_is = m ∙ all_in 4096 room (jump_edges stmts falls links i) (omega (arith, e)) dist[] all[] (jump_ids 4096 stmts falls links i c.targets.ids c.continues)

  pub call_few : length l ≤ 4096
  call_few = omega (arith, ap length m, (all-length room [] (jump_edges stmts falls links i) (omega arith)).1, e)

module _ {handlers : Bool} {stmts args falls links : List ℕ} {i at : ℕ} {lists scratch returns : List ℕ} {targets edges : ℕ}
    (q : WriteReady handlers stmts args falls links i at lists scratch returns targets edges) where
  abbrev own : List ℕ
  own = final_list handlers stmts args falls links lists scratch returns targets i

  fitting : {l : List ℕ} → l ≡ own → (at + length l ≤ edges) × (at + length l < 65536) × (i * 4 + 4 ≤ length lists)
  fitting e = (omega (arith, ap length e, q.fits), omega (arith, ap length e, q.few), q.in_rows)

  module _ (w : get_or stmts (i * 12) 0 ≡ 9) where
    return_own : return_list handlers args i returns targets ≡ own
    unfolding final_list word_of
    return_own = rw (eq-eqb (get_or stmts (i * 12) 0) 9 w)

    return_short : (b : Bool) → b ≡ handlers → length (return_list b args i returns targets) ≤ 4096
    unfolding return_list set_of
    return_short true e = omega (arith, length-take targets returns, q.few_targets (sym e))
    return_short false e = omega (arith, members_few (set_of args i), length-take 64 (drop (i * 64) args))

    pub return_ready : (i < 4096) × (i * 64 + 64 ≤ length args) × (handlers ≡ true → targets ≤ length returns) × (length (return_list handlers args i returns targets) ≤ 4096)
    return_ready = (q.node, q.in_sets, q.targets_fit, return_short handlers refl)

    module _ {l : List ℕ} (k : l ≡ return_list handlers args i returns targets) where
      pub return_fits : (at + length l ≤ edges) × (at + length l < 65536) × (i * 4 + 4 ≤ length lists)
      return_fits = fitting (k ∙ return_own)

      pub return_done : {lists' succ succ' : List ℕ} {r : ℕ} → Appended i at (length l) l lists lists' succ succ' r
          → WriteDone handlers stmts args falls links i at lists lists' scratch returns targets succ succ' r
      return_done a = appended_as (ap length (k ∙ return_own)) (k ∙ return_own) a

  module _ (w : get_or stmts (i * 12) 0 ≡ 9 → ⊥) where
    module _ (c : call_word (get_or stmts (i * 12) 0) ≡ true) where
      fits_call : CallFits stmts falls links i
      unfolding word_of
      fits_call = q.calls c

      pub call_ready : (i * 12 + 12 ≤ length stmts) × (i * 3 + 3 ≤ length falls) × (i * 64 + 64 ≤ length links) × (get_or stmts (i * 12 + 10) 0 ≤ 64)
      call_ready = (q.in_stmts, q.in_falls, fits_call.targets.in_links, fits_call.targets.few)

      call_own : call_list stmts falls links i ≡ own
      unfolding final_list word_of
      call_own = rw (ne_eqb (get_or stmts (i * 12) 0) 9 w, c)

      module _ {room : ℕ} {l : List ℕ} (e : room ≡ 4096) (m : l ≡ add_all_in room [] (jump_edges stmts falls links i)) where
        made : l ≡ own
        made = call_is fits_call e m ∙ call_own

        pub call_fits : (at + length l ≤ edges) × (at + length l < 65536) × (i * 4 + 4 ≤ length lists)
        call_fits = fitting made

        pub call_done : {lists' succ succ' : List ℕ} {r : ℕ} → Appended i at (length l) l lists lists' succ succ' r
            → WriteDone handlers stmts args falls links i at lists lists' scratch returns targets succ succ' r
        call_done a = appended_as (ap length made) made a

    module _ (c : call_word (get_or stmts (i * 12) 0) ≡ false) where
      move_own : succ_part lists scratch i ≡ own
      unfolding final_list word_of
      move_own = rw (ne_eqb (get_or stmts (i * 12) 0) 9 w, c)

      move_count : succ_count lists i ≡ length own
      move_count =
          sym (length-take-le (succ_count lists i) (drop (succ_start lists i) scratch) (omega (arith, q.within, length-drop (succ_start lists i) scratch))) ∙ ap length move_own

      pub move_fits : (i * 4 + 4 ≤ length lists) × (succ_start lists i + succ_count lists i ≤ length scratch) × (at + succ_count lists i ≤ edges) × (at + succ_count lists i < 65536)
      move_fits = let e = move_count in (q.in_rows, q.within, omega (arith, q.fits), omega (arith, q.few))

      pub move_done : {lists' succ succ' : List ℕ} {r : ℕ} → Appended i at (succ_count lists i) (take (succ_count lists i) (drop (succ_start lists i) scratch)) lists lists' succ succ' r
          → WriteDone handlers stmts args falls links i at lists lists' scratch returns targets succ succ' r
      move_done a = appended_as move_count move_own a

-- ---- the loop

pub writes_none : (f : ℕ → List ℕ) (lists succ : List ℕ) → ListsStored (lists_to f 0) 0 lists lists succ succ
unfolding lists_to
writes_none f lists succ = stored_none lists succ

joined_grows : (f : ℕ → List ℕ) (i k : ℕ) → length (joined_lists (lists_to f i)) ≤ length (joined_lists (lists_to f (i + k)))
joined_grows f i zero = let e : i + 0 ≡ i = omega arith in rw e (omega arith)
joined_grows f i (suc k) = let e : i + suc k ≡ suc (i + k) = omega arith in rw e (omega (arith, joined_grows f i k, joined_to f (i + k)))

-- the rows from i on still say where the lists stand in scratch
module _ (f : ℕ → List ℕ) (i : ℕ) {at : ℕ} {lists₀ lists succ₀ succ : List ℕ} (s : ListsStored (lists_to f i) at lists₀ lists succ₀ succ) where
  start-same : succ_start lists i ≡ succ_start lists₀ i
  start-same = s.rows.past (i * 4) (omega (arith, length_lists f i))

  count_same : succ_count lists i ≡ succ_count lists₀ i
  count_same = s.rows.past (i * 4 + 1) (omega (arith, length_lists f i))

  pub final_now : (handlers : Bool) (stmts args falls links scratch returns : List ℕ) (targets : ℕ)
      → final_list handlers stmts args falls links lists scratch returns targets i ≡ final_list handlers stmts args falls links lists₀ scratch returns targets i
  unfolding final_list
  final_now handlers stmts args falls links scratch returns targets =
      let e : succ_part lists scratch i ≡ succ_part lists₀ scratch i
      = ap (λ (x : ℕ). take x (drop (succ_start lists i) scratch)) count_same ∙ ap (λ (x : ℕ). take (succ_count lists₀ i) (drop x scratch)) start-same in
      ap (λ (x : List ℕ). pick (eqb (word_of stmts i) 9) (return_list handlers args i returns targets) (pick (call_word (word_of stmts i)) (call_list stmts falls links i) x)) e

  pub writes_fit : (n : ℕ) → i < n → at + length (f i) ≤ length (joined_lists (lists_to f n))
  writes_fit n h =
      let c : suc i + (n - suc i) ≡ n = omega arith in
      let g : length (joined_lists (lists_to f (suc i))) ≤ length (joined_lists (lists_to f n)) = rw c at (joined_grows f (suc i) (n - suc i)) in
      omega (arith, s.used, joined_to f i)

-- the turn for node i
module _ {handlers : Bool} {stmts args falls links : List ℕ} {n : ℕ} {lists₀ scratch returns : List ℕ} {targets edges : ℕ}
    (q : WritesReady handlers stmts args falls links n lists₀ scratch returns targets edges) where
  abbrev all : ℕ → List ℕ
  all = final_list handlers stmts args falls links lists₀ scratch returns targets

  module _ {i at : ℕ} {lists succ₀ succ : List ℕ} (s : ListsStored (lists_to all i) at lists₀ lists succ₀ succ) (h : i < n) where
    pub turn_ready : (e : ℕ) → length lists ≡ length lists₀ → e ≡ edges → WriteReady handlers stmts args falls links i at lists scratch returns targets e
    turn_ready e el ee =
        let c = q.calls in
        let l = ap length (final_now all i s handlers stmts args falls links scratch returns targets) in
        let f = writes_fit all i s n h in
        record {
          node = omega (arith, c.few);
          in_stmts = omega (arith, c.in_stmts);
          in_sets = omega (arith, q.in_sets);
          in_falls = omega (arith, c.in_falls);
          in_rows = omega (arith, q.rows);
          calls = λ w. calls_fit c i h w;
          within = omega (arith, q.within i h, start-same all i s, count_same all i s);
          targets_fit = q.targets_fit;
          few_targets = q.few_targets;
          fits = omega (arith, q.fits);
          few = omega (arith, q.few);
        }

    pub turn_done : {lists' succ' : List ℕ} {r : ℕ} → WriteDone handlers stmts args falls links i at lists lists' scratch returns targets succ succ' r → ListsStored (lists_to all (i + 1)) r lists₀ lists' succ₀ succ'
    turn_done a =
        let e = final_now all i s handlers stmts args falls links scratch returns targets in
        stored_next all i s (omega (arith, q.rows)) (appended_as (ap length e) e a)

-- ---- how many edges there are

-- node i can be measured
pub record SizeReady (stmts args falls links : List ℕ) (i : ℕ) (lists : List ℕ) (targets : ℕ) : Type 0 where
  pub node : i < 4096
  pub in_stmts : i * 12 + 12 ≤ length stmts
  pub in_sets : i * 64 + 64 ≤ length args
  pub in_falls : i * 3 + 3 ≤ length falls
  pub in_rows : i * 4 + 4 ≤ length lists
  pub calls : call_word (word_of stmts i) ≡ true → CallFits stmts falls links i
  pub few_targets : targets ≤ 4096

abbrev pub SizeIs : (handlers : Bool) (stmts args falls links lists : List ℕ) (targets i r : ℕ) → Type 0
SizeIs handlers stmts args falls links lists targets i r = (r ≡ final_size handlers stmts args falls links lists targets i) × (r < 65536)

module _ {stmts args falls links : List ℕ} {i : ℕ} {lists : List ℕ} {targets : ℕ} (handlers : Bool) (q : SizeReady stmts args falls links i lists targets) where
  module _ (w : get_or stmts (i * 12) 0 ≡ return_word) where
    return_size_here : (r : ℕ) → r ≡ return_size handlers targets args i → SizeIs handlers stmts args falls links lists targets i r
    unfolding final_size word_of
    return_size_here r e = (rw (eq-eqb (get_or stmts (i * 12) 0) 9 w) e, omega (arith, e, return_size-le handlers targets args i q.few_targets))

    pub size_through : handlers ≡ true → SizeIs handlers stmts args falls links lists targets i targets
    unfolding return_size
    size_through e = return_size_here targets (rw e)

    pub size_back : {r : ℕ} → handlers ≡ false → r ≡ size_of (set_of args i) → SizeIs handlers stmts args falls links lists targets i r
    unfolding return_size set_of
    size_back {r} e s =
        let l : length (set_of args i) ≡ 64 = length-take-le 64 (drop (i * 64) args) (omega (arith, length-drop (i * 64) args, q.in_sets)) in
        return_size_here r (s ∙ own-size (set_of args i) l ∙ rw e)

  module _ (w : get_or stmts (i * 12) 0 ≡ return_word → ⊥) where
    module _ (c : call_word (get_or stmts (i * 12) 0) ≡ true) where
      fits : CallFits stmts falls links i
      unfolding word_of
      fits = q.calls c

      pub size_ready : (i * 12 + 12 ≤ length stmts) × (i * 3 + 3 ≤ length falls) × (i * 64 + 64 ≤ length links) × (get_or stmts (i * 12 + 10) 0 ≤ 64)
      size_ready = (q.in_stmts, q.in_falls, fits.targets.in_links, fits.targets.few)

      pub size_call : {room : ℕ} {l : List ℕ} → room ≡ 4096 → l ≡ add_all_in room [] (jump_edges stmts falls links i) → SizeIs handlers stmts args falls links lists targets i (length l)
      unfolding final_size word_of
      size_call e m = (rw (ne_eqb (get_or stmts (i * 12) 0) 9 w, c) (ap length (call_is fits e m)), omega (arith, call_few fits e m))

    pub size-other : call_word (get_or stmts (i * 12) 0) ≡ false → (r : ℕ) → r ≡ succ_count lists i → r < 65536 → SizeIs handlers stmts args falls links lists targets i r
    unfolding final_size word_of
    size-other c r e l = (rw (ne_eqb (get_or stmts (i * 12) 0) 9 w, c) e, l)

-- what counting all needs
pub record CountsReady (stmts args falls links : List ℕ) (n : ℕ) (lists : List ℕ) (targets : ℕ) : Type 0 where
  pub calls : CallsRead stmts falls links n
  pub in_sets : n * 64 ≤ length args
  pub rows : n * 4 ≤ length lists
  pub few_targets : targets ≤ 4096

pub sized_turn : {stmts args falls links : List ℕ} {n : ℕ} {lists : List ℕ} {targets : ℕ} → CountsReady stmts args falls links n lists targets → (i : ℕ) → i < n → SizeReady stmts args falls links i lists targets
sized_turn q i h =
    let c = q.calls in
    record {
      node = omega (arith, c.few);
      in_stmts = omega (arith, c.in_stmts);
      in_sets = omega (arith, q.in_sets);
      in_falls = omega (arith, c.in_falls);
      in_rows = omega (arith, q.rows);
      calls = λ w. calls_fit c i h w;
      few_targets = q.few_targets;
    }

pub total-none : (f : ℕ → ℕ) → 0 ≡ sum_to f 0
unfolding sum_to
total-none f = refl

-- the sizes are those of the lists
module _ (handlers : Bool) (stmts args falls links lists scratch returns : List ℕ) (targets : ℕ) (fit : handlers ≡ true → targets ≤ length returns) where
  return_length : (i : ℕ) → return_size handlers targets args i ≡ length (return_list handlers args i returns targets)
  unfolding return_size return_list
  return_length i = go handlers refl
    where
      go : (b : Bool) → handlers ≡ b → return_size b targets args i ≡ length (return_list b args i returns targets)
      go true e = sym (length-take-le targets returns (fit e))
      go false e = refl

  size_is : (i : ℕ) → succ_start lists i + succ_count lists i ≤ length scratch
      → final_size handlers stmts args falls links lists targets i ≡ length (final_list handlers stmts args falls links lists scratch returns targets i)
  unfolding final_size final_list
  size_is i h = go (eqb (word_of stmts i) return_word) (call_word (word_of stmts i))
    where
      go : (b c : Bool) → pick b (return_size handlers targets args i) (pick c (length (call_list stmts falls links i)) (succ_count lists i))
          ≡ length (pick b (return_list handlers args i returns targets) (pick c (call_list stmts falls links i) (succ_part lists scratch i)))
      go true c = return_length i
      go false true = refl
      go false false = sym (length-take-le (succ_count lists i) (drop (succ_start lists i) scratch) (omega (arith, length-drop (succ_start lists i) scratch)))

  pub sizes_are : (n : ℕ) → ((i : ℕ) → i < n → succ_start lists i + succ_count lists i ≤ length scratch)
      → sum_to (final_size handlers stmts args falls links lists targets) n ≡ length (joined_lists (lists_to (final_list handlers stmts args falls links lists scratch returns targets) n))
  unfolding sum_to lists_to joined_lists
  sizes_are zero h = refl
  sizes_are (suc n) h =
      omega (arith, sizes_are n (λ i l. h i (omega arith)), size_is n (h n (omega arith)), joined_to (final_list handlers stmts args falls links lists scratch returns targets) n)
