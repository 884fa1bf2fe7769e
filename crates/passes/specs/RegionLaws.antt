-- Laws of regions: calls, sets that grow, and the sets of the RETURNs, entry after entry. Assumes nothing.
use Prim.Native.Nat.{ℕ, zero, suc, ◌+◌, ◌-◌, ◌*◌, ◌/◌, ◌≤◌, ◌<◌}
use Rattle.std.specs.Prelude.{◌≡◌, refl, Bool, true, false, ◌⊎◌, ◌↔◌, T, Option, Some, None, length, get_or, take, drop, replicate}
use Rattle.std.proofs.Common.{sym, ◌∙◌, ⊎_elim, length-take, length-drop, length-take-le, take-suc, get_or-take, get_or-drop, ext_get_or}
use Rattle.std.proofs.Math.Path.{ap, subst}
use mathlib.Core.List.{List, [], ◌∷◌, ◌++◌, Memᴰ}
use Rattle.std.proofs.Math.Logic.{inl, inr}
use native.Mathlib.Omega.{arith}
use Rattle.std.proofs.Math.Numerals.{add-one}
use Rattle.std.proofs.lemmas.List.{length-replicate, get_or-replicate}
use Rattle.listings.specs.Bytes.{pick}
use Rattle.listings.specs.Every.{All, all[], all∷}
use Rattle.graph.specs.Lists.{has, each}
use Rattle.graph_laws.specs.Adding.{decode}
use Rattle.passes.specs.Compare.{eq-or}
use Rattle.graph_laws.specs.Members.{all_map, all_mem, mem_each, each_mem}
use Rattle.passes.specs.Growing.{each_snoc}
use Rattle.graph_laws.specs.ReachLaws.{has→mem, mem→has}
use Rattle.graph.specs.Reach.{Reach, here, on}
use Rattle.graph.specs.Graph.{Wired, skip_steps, region_return_edges}
use Rattle.graph_laws.specs.ReturnLists.{conts_inside, region_sound, region_complete, region_asc}
use Rattle.passes.specs.Walk.{Reached, Stored, stored_list}
use Rattle.passes.specs.Sets.{In, inserted}
use Rattle.passes.specs.SetLaws.{none_in, in_inserted, inserted-length, members_are}
use Rattle.passes.specs.ListedWhere.{where_mem, mem_where, where_all}
use Rattle.passes.specs.ReturnSets.{IsReturn, set_of, ReturnsJoined}
use Rattle.tables.specs.Columns.{call_word, word_of, fall_entry, continuation_entry}
use Rattle.tables.specs.Readable.{lists_readable, lists_read, read_lists, both_so}
use Rattle.listings.specs.Tests.{both_true}
use Rattle.graph_laws.specs.EdgeBounds.{Ids}
use Rattle.passes.specs.Prepared.{link_entries, Roles}
use Rattle.passes.specs.Spans.{SpansGrow, Spanned, same_first, same_end, no_span, mem_place, mem_take, mem_drop, part_place}
use Rattle.passes.specs.declared.spans.Span.{Span}
use Rattle.passes.specs.Regions.{is_call, calls_below, target_row, back_from, TargetsFit, CallFits, CallsReady, EntryCalls, SetAdded, CallsBack, ReturnsBy, RegionJoined, RegionsJoined, SetsFound, ReturnRows, SetsClear, ListedJoined, EntriesReady}
use Rattle.passes.specs.WalkTables.{CallsRead, calls_readable, walks_readable, read_calls, RegionsAnswered}
use Rattle.passes.specs.WalkLaws.{mem_get_d, id_at, all_take, stored_own}

-- ---- lists

-- one more element of a loop
each_more : {B : Type 0} (f : ℕ → List B) (xs : List ℕ) (k : ℕ) → k < length xs → each f (take (k + 1) xs) ≡ each f (take k xs) ++ f (get_or xs k 0)
each_more f xs k h = rw (add-one, take-suc xs k 0 h) (each_snoc f (take k xs) (get_or xs k 0))

pub all_get_d : {P : ℕ → Type 0} {l : List ℕ} → All P l → (k a : ℕ) → k < length l → a ≡ get_or l k 0 → P a
all_get_d {P} {l} h k a lt e = rw e (all_mem h (get_or l k 0) (mem_get_d l k lt))

-- every element, by its place
pub all-at : (P : ℕ → Type 0) (l : List ℕ) → ((k : ℕ) → k < length l → P (get_or l k 0)) → All P l
all-at P [] h = all[]
all-at P (a ∷ l) h = all∷ (h 0 (omega arith)) (all-at P l (λ k lt. h (suc k) (omega arith)))

-- a call of tables that passed the test
pub calls_fit : {stmts falls links : List ℕ} {n : ℕ} → CallsRead stmts falls links n → (c : ℕ) → c < n → call_word (word_of stmts c) ≡ true → CallFits stmts falls links c
calls_fit {stmts} {falls} {links} r c lt e =
    let t = r.calls c lt e in
    record {
      targets = record {
        node = omega (arith, r.few);
        in_stmts = omega (arith, r.in_stmts);
        in_links = omega (arith, r.in_links);
        few = t.few;
        ids = all-at (λ (x : ℕ). x ≤ 4096) (target_row stmts links c) (λ k h. omega (arith, t.targets k h, r.few));
      };
      in_falls = omega (arith, r.in_falls);
      continues = omega (arith, t.continues, r.few);
    }

pub calls_ready : {stmts falls links : List ℕ} {n : ℕ} {calls : List ℕ} → CallsRead stmts falls links n → calls ≡ calls_below stmts n → CallsReady stmts falls links n calls
calls_ready {stmts} {falls} {links} {n} r q =
    record { few = r.few; in_stmts = r.in_stmts; listed = q; fit = rw q (where_all (is_call stmts) (CallFits stmts falls links) n (λ c lt e. calls_fit r c lt e)) }

pub targets_fit : {stmts falls links l : List ℕ} → All (CallFits stmts falls links) l → All (TargetsFit stmts links) l
targets_fit h = all_map (λ c f. f.targets) h

-- the row as `targets` cuts it
pub targets_row : (stmts links : List ℕ) (c : ℕ) (row : List ℕ) → row ≡ take (get_or stmts (c * 12 + 10) 0) (drop (c * 64) links) → row ≡ target_row stmts links c
unfolding target_row
targets_row stmts links c row e = e

pub part_ids : (stmts links : List ℕ) (c : ℕ) (row : List ℕ) → row ≡ target_row stmts links c → TargetsFit stmts links c → All (λ (t : ℕ). t ≤ 4096) row
part_ids stmts links c row e f = rw e f.ids

pub target-entries : (stmts links : List ℕ) (c k : ℕ) (row : List ℕ) (s t : List (Option Span)) → row ≡ target_row stmts links c → SpansGrow k (each decode row) s t → SpansGrow k (link_entries stmts links c) s t
unfolding target_row link_entries
target-entries stmts links c k row s t e m = rw e at m

-- ---- nodes go into a set

set-kept : (s : List ℕ) → SetAdded s s []
set-kept s = record { size = refl; members = λ k. (λ m. inl m, λ m. ⊎_elim (λ x. x) (λ x. absurd (mathlib.Core.List.Memᴰ.not-nil x)) m) }

set_both : (s t u k l : List ℕ) → SetAdded s t k → SetAdded t u l → SetAdded s u (k ++ l)
set_both s t u k l a b =
    record {
      size = b.size ∙ a.size;
      members = λ x. (
        λ m. ⊎_elim (λ p. ⊎_elim (λ q. inl q) (λ q. inr (mathlib.Core.List.Memᴰ.append_left l q)) ((a.members x).0 p)) (λ p. inr (mathlib.Core.List.Memᴰ.append_right k p)) ((b.members x).0 m),
        λ m. (b.members x).1
            (⊎_elim (λ p. inl ((a.members x).1 (inl p))) (λ p. ⊎_elim (λ q. inl ((a.members x).1 (inr q))) (λ q. inr q) (mathlib.Core.List.Memᴰ.append_cases k p)) m),
      );
    }

set-one : (s : List ℕ) (i : ℕ) → i / 64 < length s → SetAdded s (inserted s i) (i ∷ [])
set-one s i h =
    record {
      size = inserted-length s i;
      members = λ k. (
        λ m. ⊎_elim (λ e. inr (mathlib.Core.List.Memᴰ.head e)) (λ p. inl p) ((in_inserted s i k h).0 m),
        λ m. (in_inserted s i k h).1 (⊎_elim (λ p. inr p) (λ p. ⊎_elim (λ e. inl e) (λ x. absurd (mathlib.Core.List.Memᴰ.not-nil x)) (mathlib.Core.List.Memᴰ.cases_cons p)) m),
      );
    }

-- the node t - 1, where t is not 0
pub set-zero : (s : List ℕ) (t : ℕ) → t ≡ 0 → SetAdded s s (decode t)
set-zero s zero e = set-kept s
set-zero s (suc t) e = absurd (omega arith)

pub set-some : (s s' : List ℕ) (t u : ℕ) → u ≡ t → (t ≡ 0 → ⊥) → t ≤ length s * 64 → s' ≡ inserted s (u - 1) → SetAdded s s' (decode t)
set-some s s' zero u q e h i = absurd (e refl)
set-some s s' (suc t) u q e h i = let v : u - 1 ≡ t = omega arith in rw (i, v) (set-one s t (omega arith))

-- call c, by the test b whether e is among its targets, for which code looks for a in a row
module _ (stmts falls links : List ℕ) (e c a : ℕ) (row : List ℕ) (b : Bool) (ea : a ≡ e + 1) (er : row ≡ target_row stmts links c) (eb : b ≡ has a row) where
  test : has (e + 1) (target_row stmts links c) ≡ b
  test = ap (λ (x : ℕ). has x (target_row stmts links c)) (sym ea) ∙ ap (has a) (sym er) ∙ sym eb

  pub back_yes : (s t : List ℕ) → b ≡ true → SetAdded s t (decode (get_or falls (c * 3) 0)) → SetAdded s t (back_from stmts falls links e c)
  unfolding back_from fall_entry
  back_yes s t h m = rw (test ∙ h) m

  pub back_no : (s : List ℕ) → b ≡ false → SetAdded s s (back_from stmts falls links e c)
  unfolding back_from
  back_no s h = rw (test ∙ h) (set-kept s)

-- a loop that inserts what f gives for each element
module _ (f : ℕ → List ℕ) (xs : List ℕ) where
  pub set-start : (s : List ℕ) → SetAdded s s (each f (take 0 xs))
  unfolding each
  set-start s = set-kept s

  -- a is the element at k
  pub set_more : (k a : ℕ) → k < length xs → a ≡ get_or xs k 0 → (s t u : List ℕ) → SetAdded s t (each f (take k xs)) → SetAdded t u (f a) → SetAdded s u (each f (take (k + 1) xs))
  set_more k a h e s t u p q = rw (each_more f xs k h, ← e) (set_both s t u (each f (take k xs)) (f a) p q)

-- ---- the calls of an entry, by the tables and in the graph

truth : (b : Bool) → T b → b ≡ true
truth true t = refl
truth false t = absurd t

truth_back : (b : Bool) → b ≡ true → T b
truth_back true e = tt
truth_back false e = absurd (let z : ◌≡◌ {A = ℕ} 0 1 = cc in omega arith)

decoded : (e t : ℕ) → Memᴰ e (decode t) → e + 1 ≡ t
decoded e zero m = absurd (mathlib.Core.List.Memᴰ.not-nil m)
decoded e (suc a) m = ⊎_elim (λ q. omega arith) (λ x. absurd (mathlib.Core.List.Memᴰ.not-nil x)) (mathlib.Core.List.Memᴰ.cases_cons m)

-- e is among the targets of a row of links
row_has : (e : ℕ) (row : List ℕ) → Memᴰ e (each decode row) → has (e + 1) row ≡ true
row_has e row m =
    let t = each_mem decode row m in
    truth (has (e + 1) row) (mem→has (subst (λ (x : ℕ). Memᴰ x row) (sym (decoded e t.0 t.2)) t.1))

has_row : (e : ℕ) (row : List ℕ) → has (e + 1) row ≡ true → Memᴰ e (each decode row)
has_row e row h =
    let m : Memᴰ (suc e) row = subst (λ (x : ℕ). Memᴰ x row) (add-one e) (has→mem (e + 1) row (truth_back (has (e + 1) row) h)) in
    mem_each decode m (mathlib.Core.List.Memᴰ.head refl)

picked : {k : ℕ} (b : Bool) (l : List ℕ) → Memᴰ k (pick b l []) → (b ≡ true) × Memᴰ k l
picked true l m = (refl, m)
picked false l m = absurd (mathlib.Core.List.Memᴰ.not-nil m)

into : {k : ℕ} (b : Bool) (l : List ℕ) → b ≡ true → Memᴰ k l → Memᴰ k (pick b l [])
into true l e m = m
into false l e m = absurd (let z : ◌≡◌ {A = ℕ} 0 1 = cc in omega arith)

module _ (stmts falls links : List ℕ) (n e k : ℕ) where
  backs_table : Memᴰ k (each (back_from stmts falls links e) (calls_below stmts n)) → CallsBack stmts falls links n e k
  unfolding back_from link_entries target_row continuation_entry
  backs_table m =
      let t = each_mem (back_from stmts falls links e) (calls_below stmts n) m in
      let r = where_mem (is_call stmts) n t.0 t.1 in
      let p = picked (has (e + 1) (target_row stmts links t.0)) (fall_entry falls t.0) t.2 in
      record {
        caller = t.0;
        node = r.0;
        exists = has_row e (target_row stmts links t.0) p.0;
        continues = into (call_word (word_of stmts t.0)) (fall_entry falls t.0) r.1 p.1;
      }

  -- a node that goes on somewhere is a call
  goes_on : (c : ℕ) → Memᴰ k (continuation_entry stmts falls c) → (call_word (word_of stmts c) ≡ true) × Memᴰ k (fall_entry falls c)
  unfolding continuation_entry
  goes_on c m = picked (call_word (word_of stmts c)) (fall_entry falls c) m

  table_backs : CallsBack stmts falls links n e k → Memᴰ k (each (back_from stmts falls links e) (calls_below stmts n))
  unfolding back_from link_entries target_row
  table_backs b =
      let c = b.caller in
      let p = goes_on c b.continues in
      mem_each (back_from stmts falls links e) (mem_where (is_call stmts) n c b.node p.0)
      (into (has (e + 1) (target_row stmts links c)) (fall_entry falls c) (row_has e (target_row stmts links c) b.exists) p.1)

  -- the set of the continuations of the calls of e
  pub backs_are : (none backs calls : List ℕ) → ((a : ℕ) → In none a → ⊥) → EntryCalls stmts falls links n e calls → SetAdded none backs (each (back_from stmts falls links e) calls)
      → In backs k ↔ CallsBack stmts falls links n e k
  backs_are none backs calls z r a = (
    λ m. ⊎_elim (λ x. absurd (z k x)) (λ x. backs_table ((r.backs k).0 x)) ((a.members k).0 m),
    λ b. (a.members k).1 (inr ((r.backs k).1 (table_backs b))),
  )

  -- an entry that some call has among its targets is one of the nodes, and has a span
  pub called_node : CallsRead stmts falls links n → CallsBack stmts falls links n e k → e < n
  unfolding link_entries target_row
  called_node s b =
      let c = b.caller in
      let t = s.calls c b.node (goes_on c b.continues).0 in
      let m = each_mem decode (target_row stmts links c) b.exists in
      let h : m.0 ≤ n = all_mem (all-at (λ (x : ℕ). x ≤ n) (target_row stmts links c) t.targets) m.0 m.1 in
      omega (arith, decoded e m.0 m.2)

  called_spanned : (calls : List ℕ) (spans : List (Option Span)) → calls ≡ calls_below stmts n → Spanned stmts links calls (length calls) spans → CallsBack stmts falls links n e k → get_or spans e None ≡ None → ⊥
  called_spanned calls spans q p b z =
      let m = mem_place {c = b.caller} calls (rw q (mem_where (is_call stmts) n b.caller b.node (goes_on b.caller b.continues).0)) in
      let i = p.covers m.0 m.1 e (rw m.2 b.exists) in
      no_span (sym z ∙ i.is)

-- ---- a span has all calls of its entry

module _ (stmts falls links : List ℕ) (n e : ℕ) (calls : List ℕ) (spans : List (Option Span)) (r : CallsReady stmts falls links n calls) (p : Spanned stmts links calls (length calls) spans) (s : Span)
    (is : get_or spans e None ≡ Some s) where
  pub span_fits : (s.first ≤ s.end) × (s.end ≤ length calls)
  span_fits = let h = p.ends e s is in (omega (arith, h.1), h.0)

  in_span : {k : ℕ} (c : ℕ) → Memᴰ c calls → Memᴰ k (back_from stmts falls links e c) → Memᴰ c (take (s.end - s.first) (drop s.first calls))
  unfolding back_from target_row link_entries
  in_span c mc mk =
      let h = has_row e (target_row stmts links c) (picked (has (e + 1) (target_row stmts links c)) (fall_entry falls c) mk).0 in
      let m = mem_place calls mc in
      let i = p.covers m.0 m.1 e (rw m.2 h) in
      let q : Some i.span ≡ Some s = sym i.is ∙ is in
      subst (λ (x : ℕ). Memᴰ x (take (s.end - s.first) (drop s.first calls))) m.2 (part_place calls s.first s.end m.0 (omega (arith, i.above, same_first q)) (omega (arith, i.below, same_end q)) span_fits.1)

  pub entry_calls : EntryCalls stmts falls links n e (take (s.end - s.first) (drop s.first calls))
  entry_calls =
      record {
        few = r.few;
        in_stmts = r.in_stmts;
        fit = all_take (CallFits stmts falls links) (s.end - s.first) (drop s.first calls) (λ j h. rw (get_or-drop s.first calls j 0) (all_get_d r.fit (s.first + j) _ (omega (arith, span_fits.1)) refl));
        backs = λ k. (
          λ m. let t = each_mem (back_from stmts falls links e) (take (s.end - s.first) (drop s.first calls)) m in mem_each (back_from stmts falls links e) (subst (Memᴰ t.0) r.listed (mem_drop s.first calls (mem_take (s.end - s.first) (drop s.first calls) t.1))) t.2,
          λ m. let t = each_mem (back_from stmts falls links e) (calls_below stmts n) m in mem_each (back_from stmts falls links e) (in_span t.0 (subst (Memᴰ t.0) (sym r.listed) t.1) t.2) t.2,
        );
      }

-- ---- one entry

module _ (stmts falls links : List ℕ) (step : ℕ → List ℕ) (n e : ℕ) where
  -- an entry without calls changes nothing
  pub region_skipped : (xs : List ℕ) → ((k : ℕ) → CallsBack stmts falls links n e k → ⊥) → RegionJoined stmts falls links step n e xs xs
  region_skipped xs f =
      record {
        size = refl;
        members = λ r h k. (λ m. inl m, λ m. ⊎_elim (λ x. x) (λ b. absurd (f k b.calls)) m);
        others = λ i h. refl;
      }

  pub region_joined : (l backs xs ys : List ℕ) → ((k : ℕ) → In backs k ↔ CallsBack stmts falls links n e k) → Reached step e l → ReturnsJoined stmts n l backs xs ys
      → RegionJoined stmts falls links step n e xs ys
  region_joined l backs xs ys b w s =
      record {
        size = s.size;
        members = λ r h k. (
          λ m. ⊎_elim (λ x. inl x) (λ x. inr (record { calls = (b k).0 x.1; path = w.sound r x.0 })) ((s.members r h k).0 m),
          λ m. (s.members r h k).1 (⊎_elim (λ x. inl x) (λ x. inr (w.complete r x.path, (b k).1 x.calls)) m),
        );
        others = s.others;
      }

pub listed-joined : (stmts falls links : List ℕ) (n e : ℕ) (l none backs calls xs ys : List ℕ) → none ≡ replicate 64 0 → EntryCalls stmts falls links n e calls
    → SetAdded none backs (each (back_from stmts falls links e) calls) → ReturnsJoined stmts n l backs xs ys → ListedJoined stmts falls links n e l xs ys
listed-joined stmts falls links n e l none backs calls xs ys z r a j step w =
    let empty : (k : ℕ) → In none k → ⊥ = λ k m. none_in 64 k (rw z at m) in
    region_joined stmts falls links step n e l backs xs ys (λ k. backs_are stmts falls links n e k none backs calls empty r a) w j

-- an entry with no span has no calls
pub uncalled_joined : (stmts falls links : List ℕ) (n e : ℕ) (calls : List ℕ) (spans : List (Option Span)) (xs : List ℕ) → calls ≡ calls_below stmts n → Spanned stmts links calls (length calls) spans
    → get_or spans e None ≡ None → (step : ℕ → List ℕ) → RegionJoined stmts falls links step n e xs xs
uncalled_joined stmts falls links n e calls spans xs q p z step = region_skipped stmts falls links step n e xs (λ k c. called_spanned stmts falls links n e k calls spans q p c z)

-- ---- entry after entry

module _ (stmts falls links : List ℕ) (step : ℕ → List ℕ) (n : ℕ) where
  pub regions_none : (xs : List ℕ) → RegionsJoined stmts falls links step n 0 xs xs
  regions_none xs =
      record {
        size = refl;
        members = λ r h k. (λ m. inl m, λ m. ⊎_elim (λ x. x) (λ b. absurd (omega (arith, b.1))) m);
        others = λ i h. refl;
      }

  pub regions_more : (m : ℕ) (xs ys zs : List ℕ) → RegionsJoined stmts falls links step n m xs ys → RegionJoined stmts falls links step n m ys zs → RegionsJoined stmts falls links step n (m + 1) xs zs
  regions_more m xs ys zs s t =
      record {
        size = t.size ∙ s.size;
        members = λ r h k. (
          λ x.
              ⊎_elim (λ p. ⊎_elim (λ q. inl q) (λ q. inr (q.0, omega (arith, q.1), q.2)) ((s.members r h k).0 p)) (λ p. inr (m, omega arith, p)) ((t.members r h k).0 x),
          λ x. (t.members r h k).1 (⊎_elim (λ p. inl ((s.members r h k).1 (inl p))) (λ p. earlier r h k p.0 p.1 p.2 (eq-or p.0 m)) x),
        );
        others = λ i h. t.others i h ∙ s.others i h;
      }
    where
      earlier : (r : ℕ) (h : IsReturn stmts n r) (k e : ℕ) → e < m + 1 → ReturnsBy stmts falls links step n e r k → (e ≡ m) ⊎ (e ≡ m → ⊥) → In (set_of ys r) k ⊎ ReturnsBy stmts falls links step n m r k
      earlier r h k e lt b (inl q) = inr (rw q at b)
      earlier r h k e lt b (inr q) = inl ((s.members r h k).1 (inr (e, omega arith, b)))

  -- every called entry is one of the nodes
  pub regions_all : CallsRead stmts falls links n → (xs ys : List ℕ) → RegionsJoined stmts falls links step n n xs ys → SetsFound stmts falls links step n xs ys
  regions_all c xs ys t =
      record {
        size = t.size;
        members = λ r h k. (
          λ x. ⊎_elim (λ p. inl p) (λ p. inr (p.0, p.2)) ((t.members r h k).0 x),
          λ x. (t.members r h k).1 (⊎_elim (λ p. inl p) (λ p. inr (p.0, called_node stmts falls links n p.0 k c p.1.calls, p.1)) x),
        );
        others = t.others;
      }

-- the same tables, with other sets
pub entries_again : {stmts falls links lists edges : List ℕ} {n : ℕ} {calls : List ℕ} {spans : List (Option Span)} {xs : List ℕ} (ys : List ℕ) → length ys ≡ length xs
    → EntriesReady stmts falls links lists edges n calls spans xs → EntriesReady stmts falls links lists edges n calls spans ys
entries_again ys e r = record { calls_ready = r.calls_ready; spanned = r.spanned; stored = r.stored; in_sets = omega (arith, r.in_sets) }

-- ---- the RETURNs' lists

pub set-clear : (stmts : List ℕ) (n : ℕ) (sets : List ℕ) → n * 64 ≤ length sets → SetsClear stmts n sets → (r : ℕ) → IsReturn stmts n r → set_of sets r ≡ replicate 64 0
unfolding set_of
set-clear stmts n sets fits z r h =
    let l : length (take 64 (drop (r * 64) sets)) ≡ 64 = length-take-le 64 (drop (r * 64) sets) (omega (arith, length-drop (r * 64) sets, h.0)) in
    ext_get_or 0 (take 64 (drop (r * 64) sets)) (replicate 64 0) (l ∙ sym (length-replicate {A = ℕ} 64 0)) (λ q lt.
    get_or-take 64 (drop (r * 64) sets) q 0 (omega arith) ∙ get_or-drop (r * 64) sets q 0 ∙ z r h.0 h.1 q (omega arith)
    ∙ sym (get_or-replicate {A = ℕ} 64 q 0 0 (omega arith)))

-- ---- tables of a listing

-- they pass the test
pub roles_read : (W : Wired) (stmts falls links : List ℕ) (n : ℕ) → Roles W stmts falls links n → CallsRead stmts falls links n
unfolding target_row
roles_read W stmts falls links n s =
    record {
      few = s.few;
      in_stmts = s.stmts_fit;
      in_falls = s.falls_fit;
      in_links = s.links_fit;
      calls = λ c lt e. record {
        few = s.few_targets c lt e;
        continues = s.fall_fits c lt;
        targets = λ k h.
            let q : k < get_or stmts (c * 12 + 10) 0 = omega (arith, length-take (get_or stmts (c * 12 + 10) 0) (drop (c * 64) links)) in
            rw (get_or-take (get_or stmts (c * 12 + 10) 0) (drop (c * 64) links) k 0 q, get_or-drop (c * 64) links k 0) (s.link_fits c lt e k q);
      };
    }

pub stored_read : {lists edges : List ℕ} {n : ℕ} {step : ℕ → List ℕ} → n ≤ 4096 → Stored lists edges n step → lists_readable lists edges n ≡ true
unfolding stored_list
stored_read {lists} {edges} {n} few s =
    let o = stored_own s in
    read_lists lists edges n (record { few = few; rows = s.rows; within = s.within; ids = λ v lt k h. id_at n _ k (o.ids v lt) h })

pub read_stored : (lists edges : List ℕ) (n : ℕ) → lists_readable lists edges n ≡ true → Stored lists edges n (stored_list lists edges)
unfolding stored_list
read_stored lists edges n h =
    let r = lists_read lists edges n h in
    record { rows = r.rows; within = r.within; list = λ v lt. refl; ids = λ v lt. all-at (λ (x : ℕ). x < n) _ (r.ids v lt) }

-- steps of nodes below n, all of which the other steps take too
reach_on : {a b : ℕ → List ℕ} {from v : ℕ} (n : ℕ) → ((v u : ℕ) → v < n → Memᴰ u (a v) → (u < n) × Memᴰ u (b v)) → from < n → Reach a from v → (v < n) × Reach b from v
reach_on n same h here = (h, here)
reach_on n same h (on {b = v} {c = u} r m) =
    let p = reach_on n same h r in
    let q = same v u p.0 m in
    (q.0, on p.1 q.1)

-- the sets that steps give are the lists that the graph has, where the steps are those of skipping paths
module _ (W : Wired) (stmts falls links : List ℕ) (n : ℕ) (s : Roles W stmts falls links n) (step : ℕ → List ℕ) (ids : (v : ℕ) → v < n → Ids n (skip_steps W v))
    (skips : (v u : ℕ) → v < n → Memᴰ u (step v) ↔ Memᴰ u (skip_steps W v)) where
  back_graph : {e r k : ℕ} → ReturnsBy stmts falls links step n e r k → Memᴰ k (region_return_edges W r)
  unfolding continuation_entry
  back_graph {e} {r} {k} b =
      let c = b.calls.caller in
      let lt = b.calls.node in
      let p = picked (call_word (word_of stmts c)) (fall_entry falls c) b.calls.continues in
      region_complete W r k
      (record {
        caller = c;
        callee = e;
        continues = rw (s.continuing c lt) b.calls.continues;
        exists = rw (s.targets c lt) (into (call_word (word_of stmts c)) (link_entries stmts links c) p.0 b.calls.exists);
        skips = (reach_on n (λ v u h m. let q = (skips v u h).0 m in (all_mem (ids v h) u q, q)) (called_node stmts falls links n e k (roles_read W stmts falls links n s) b.calls) b.path).1;
      })

  graph_back : {r k : ℕ} → Memᴰ k (region_return_edges W r) → (e : ℕ) × ReturnsBy stmts falls links step n e r k
  unfolding continuation_entry
  graph_back {r} {k} m =
      let b = region_sound W r k m in
      let c = b.caller in
      let lt : c < n = omega (arith, conts_inside W c k b.continues, s.nodes_are) in
      let q = picked (call_word (word_of stmts c)) (link_entries stmts links c) (rw (s.targets c lt) at b.exists) in
      let t : CallsBack stmts falls links n b.callee k = record { caller = c; node = lt; exists = q.1; continues = rw (s.continuing c lt) at b.continues } in
      (b.callee, record { calls = t; path = (reach_on n (λ v u h m. (all_mem (ids v h) u m, (skips v u h).1 m)) (called_node stmts falls links n b.callee k (roles_read W stmts falls links n s) t) b.skips).1 })

  pub back_exact : (r k : ℕ) → Memᴰ k (region_return_edges W r) ↔ ((e : ℕ) × ReturnsBy stmts falls links step n e r k)
  back_exact r k = (λ m. graph_back m, λ b. back_graph b.1)

  pub sets_graph : (xs ys : List ℕ) → n * 64 ≤ length xs → SetsClear stmts n xs → SetsFound stmts falls links step n xs ys → ReturnRows W stmts n xs ys
  sets_graph xs ys fits z t =
      record { size = t.size; members = λ r lt w. members_are (set_of ys r) (region_asc W r) (λ k. exactly r (lt, w) k); others = t.others }
    where
      exactly : (r : ℕ) → IsReturn stmts n r → (k : ℕ) → Memᴰ k (region_return_edges W r) ↔ In (set_of ys r) k
      exactly r h k = (
        λ m. (t.members r h k).1 (inr ((back_exact r k).0 m)),
        λ m. ⊎_elim (λ x. absurd (none_in 64 k (rw (set-clear stmts n xs fits z r h) at x))) (λ x. (back_exact r k).1 x) ((t.members r h k).0 m),
      )

-- stored lists
pub stored_graph : (W : Wired) (stmts falls links lists edges : List ℕ) (n : ℕ) (xs ys : List ℕ) → Roles W stmts falls links n → Stored lists edges n (skip_steps W) → n * 64 ≤ length xs → SetsClear stmts n xs
    → SetsFound stmts falls links (stored_list lists edges) n xs ys → ReturnRows W stmts n xs ys
stored_graph W stmts falls links lists edges n xs ys s t fits z f =
    sets_graph W stmts falls links n s (stored_list lists edges) t.ids
    (λ v u h. (λ m. subst (Memᴰ u) (t.list v h) m, λ m. subst (Memᴰ u) (sym (t.list v h)) m)) xs ys fits z f

-- ---- as the code answers

module _ (stmts falls links lists edges : List ℕ) (n : ℕ) (sets : List ℕ) where
  pub walks_lists : walks_readable stmts falls links lists edges n sets ≡ true → lists_readable lists edges n ≡ true
  unfolding walks_readable
  walks_lists h = (both_true (lists_readable lists edges n) (calls_readable stmts falls links n sets) h).0

  pub walks_calls : walks_readable stmts falls links lists edges n sets ≡ true → calls_readable stmts falls links n sets ≡ true
  unfolding walks_readable
  walks_calls h = (both_true (lists_readable lists edges n) (calls_readable stmts falls links n sets) h).1

  pub walks-refused : lists_readable lists edges n ≡ false → false ≡ walks_readable stmts falls links lists edges n sets
  unfolding walks_readable
  walks-refused h = rw h

  pub walks_by : lists_readable lists edges n ≡ true → (good : Bool) → good ≡ calls_readable stmts falls links n sets → good ≡ walks_readable stmts falls links lists edges n sets
  unfolding walks_readable
  walks_by h good e = rw h e

  -- what the call leaves, on tables of a listing
  pub answered_graph : (sets' : List ℕ) (r : Bool) (W : Wired) → Roles W stmts falls links n → Stored lists edges n (skip_steps W) → n * 64 ≤ length sets → SetsClear stmts n sets
      → RegionsAnswered stmts falls links lists edges n sets sets' r → ReturnRows W stmts n sets sets'
  unfolding walks_readable
  answered_graph sets' r W s t fits z f =
      let y = both_so (lists_readable lists edges n) (calls_readable stmts falls links n sets) (stored_read s.few t) (read_calls stmts falls links n sets (roles_read W stmts falls links n s) fits) in
      stored_graph W stmts falls links lists edges n sets sets' s t fits z (f.found (f.answer ∙ y))
