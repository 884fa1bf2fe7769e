-- A graph's lists written from any tables: whether these can be read, how many edges they say, and what then stands
-- where. Assumes nothing.
use Prim.Native.Nat.{ℕ, zero, suc, ◌*◌, ◌≤◌, ◌<◌}
use Rattle.std.proofs.Math.Path.{◌≡◌, refl}
use Rattle.std.proofs.Common.{sym, ap, ◌∙◌, arith}
use Rattle.std.specs.Prelude.{Result, Ok, Err, Bool, ◌&&◌, leb, set, take, drop}
use Rattle.std.proofs.Math.Bool.{true, false}
use mathlib.Core.List.{List, [], ◌∷◌, ◌++◌}
use borrow.Author.Tests.{leb-true, le-leb, lt-leb, eqb-true, eq-eqb}
use Rattle.std.proofs.Math.Dec.{eqb}
use Rattle.std.proofs.Math.ListN.{length, get_or}
use Rattle.layout.specs.Layout.{return_word, list_entries}
use Rattle.layout.specs.Refusals.{refusal_at}
use Rattle.layout.specs.declared.refusals.Reason.TheVariants as reason
use Rattle.layout.specs.declared.refusals.Refusal.{Refusal}
use Rattle.listings.specs.Bytes.{pick}
use Rattle.listings.specs.Tests.{both_true}
use Rattle.listings.specs.Every.{All, all[], all∷, all_append}
use Rattle.graph.specs.Questions.{Reply}
use Rattle.graph.specs.Questions as reply
use Rattle.graph_laws.specs.EdgeBounds.{Ids, add_all-ids}
use Rattle.tables.specs.Columns.{succ_part, call_word, word_of}
use Rattle.tables.specs.Readable.{every_below, ids_below, lists_readable, ListsRead, both_so, every_at, every_all, lists_read, read_lists}
use Rattle.tables.specs.Told.{told}
use Rattle.passes.specs.Sets.{members_of}
use Rattle.passes.specs.ReturnSets.{set_of}
use Rattle.passes.specs.Clearing.{SetsCleared, ClearAnswered}
use Rattle.passes.specs.EdgeTable.{joined_lists, lists_to, length_lists, list_rows, ListsStored, columns_past}
use Rattle.passes.specs.Counting.{sum_to}
use Rattle.passes.specs.Regions.{target_row}
use Rattle.passes.specs.WalkTables.{calls_readable, walks_readable, CallsRead, calls_read, calls_sets, read_calls, read-sets}
use Rattle.storing.specs.EdgesFit.{edges_fit, EdgesFit, edges_fit_lem}
use Rattle.storing.specs.Predecessors.{sources_of, IdLists}
use Rattle.storing.specs.PredecessorLists.{Successors, Ready, Written, stored_successors, successors_part}
use Rattle.storing.specs.JoinedReturns.{set_readable, ids_all, ids-read, read-ids}
use Rattle.storing.specs.FinalLists.{return_list, call_list, final_list, final_size, WritesReady, WritesDone, CountsReady, jump_ids, sizes_are}

-- ---- "25 a used count or a record that the call reads points outside its table"

-- with handlers the return targets are there, without them the sets
unfoldable pub returns_readable : (handlers : Bool) (stmts args : List ℕ) (n : ℕ) (returns : List ℕ) (targets : ℕ) → Bool
returns_readable true stmts args n returns targets = leb targets (length returns) && ids_below n (take targets returns)
returns_readable false stmts args n returns targets = every_below (set_readable stmts args n) n

-- no graph has more rows of entries than 1,024, or more return targets than 4,096; records, calls and lists are those
-- that walks read
unfoldable pub graph_readable : (handlers : Bool) (stmts args falls links : List ℕ) (n rows : ℕ) (lists scratch returns : List ℕ) (targets : ℕ) → Bool
graph_readable handlers stmts args falls links n rows lists scratch returns targets =
    leb rows 1024 && (leb targets 4096 && (walks_readable stmts falls links lists scratch n args && returns_readable handlers stmts args n returns targets))

-- ---- what is written

-- the lists of n nodes
unfoldable pub final_lists : (handlers : Bool) (stmts args falls links : List ℕ) (n : ℕ) (lists scratch returns : List ℕ) (targets : ℕ) → List (List ℕ)
final_lists handlers stmts args falls links n lists scratch returns targets = lists_to (final_list handlers stmts args falls links lists scratch returns targets) n

-- the answer: document 01's 25 and 23, or so many edges
unfoldable pub stored_of : (readable fits : Bool) (edges : ℕ) → Reply ℕ
stored_of false fits edges = reply.refused 25 0
stored_of true false edges = reply.refused 23 edges
stored_of true true edges = reply.answer edges

-- the lists ls and their predecessors in the tables; the rest of each is as it was
pub record GraphStored (stmts args : List ℕ) (n rows : ℕ) (counts lists : List ℕ) (targets : ℕ) (succ pred : List ℕ) (ls : List (List ℕ)) (counts' args' lists' succ' pred' : List ℕ) : Type 0 where
  pub counts_are : counts' ≡ set (set (set counts 3 (length (joined_lists ls))) 4 targets) 5 rows
  pub cleared : SetsCleared stmts n args args'
  pub lists_are : lists' ≡ list_rows ls (sources_of ls) n ++ drop (n * list_entries) lists
  pub succ_are : succ' ≡ joined_lists ls ++ drop (length (joined_lists ls)) succ
  pub pred_are : pred' ≡ joined_lists (sources_of ls) ++ drop (length (joined_lists ls)) pred

pub record NothingStored (counts args lists succ pred counts' args' lists' succ' pred' : List ℕ) : Type 0 where
  pub counts_are : counts' ≡ counts
  pub args_are : args' ≡ args
  pub lists_are : lists' ≡ lists
  pub succ_are : succ' ≡ succ
  pub pred_are : pred' ≡ pred

abbrev pub TablesAnswered : Result ℕ Refusal → (stmts args : List ℕ) (n rows : ℕ) (counts lists : List ℕ) (targets : ℕ) (succ pred : List ℕ) (ls : List (List ℕ)) (counts' args' lists' succ' pred' : List ℕ) → Type 0
TablesAnswered (Ok edges) stmts args n rows counts lists targets succ pred ls counts' args' lists' succ' pred' = GraphStored stmts args n rows counts lists targets succ pred ls counts' args' lists' succ' pred'
TablesAnswered (Err refusal) stmts args n rows counts lists targets succ pred ls counts' args' lists' succ' pred' = NothingStored counts args lists succ pred counts' args' lists' succ' pred'

-- the lists and their predecessors, total edges in all
pub record EdgesStored (n : ℕ) (lists lists' succ succ' pred pred' : List ℕ) (ls : List (List ℕ)) (total : ℕ) : Type 0 where
  pub total_is : total ≡ length (joined_lists ls)
  pub lists_are : lists' ≡ list_rows ls (sources_of ls) n ++ drop (n * list_entries) lists
  pub succ_are : succ' ≡ joined_lists ls ++ drop (length (joined_lists ls)) succ
  pub pred_are : pred' ≡ joined_lists (sources_of ls) ++ drop (length (joined_lists ls)) pred

pub record StoredAnswered (readable : Bool) (stmts args : List ℕ) (n rows : ℕ) (counts lists : List ℕ) (targets : ℕ) (succ pred : List ℕ) (ls : List (List ℕ)) (counts' args' lists' succ' pred' : List ℕ) (r : Result ℕ Refusal) : Type 0 where
  pub answer : told r ≡ stored_of readable (edges_fit (length (joined_lists ls)) (length succ) (length pred)) (length (joined_lists ls))
  pub tables : TablesAnswered r stmts args n rows counts lists targets succ pred ls counts' args' lists' succ' pred'

-- on all tables
abbrev pub GraphAnswered : (handlers : Bool) (stmts args falls links : List ℕ) (n rows : ℕ) (counts lists scratch returns : List ℕ) (targets : ℕ) (succ pred counts' args' lists' succ' pred' : List ℕ) → Result ℕ Refusal → Type 0
GraphAnswered handlers stmts args falls links n rows counts lists scratch returns targets succ pred counts' args' lists' succ' pred' r =
    StoredAnswered (graph_readable handlers stmts args falls links n rows lists scratch returns targets) stmts args n rows counts lists targets succ pred (final_lists handlers stmts args falls links n lists scratch returns targets) counts' args' lists' succ' pred' r

-- ---- what the test says

pub record GraphRead (handlers : Bool) (stmts args falls links : List ℕ) (n : ℕ) (lists scratch returns : List ℕ) (targets : ℕ) : Type 0 where
  pub few_targets : targets ≤ 4096
  pub lists_in : ListsRead lists scratch n
  pub calls : CallsRead stmts falls links n
  pub in_sets : n * 64 ≤ length args
  pub through : handlers ≡ true → (targets ≤ length returns) × Ids n (take targets returns)
  pub back : handlers ≡ false → (i : ℕ) → i < n → word_of stmts i ≡ return_word → Ids n (members_of (set_of args i))

-- and the edges fit tables of s and p entries
pub record GraphReady (handlers : Bool) (stmts args falls links : List ℕ) (n : ℕ) (lists scratch returns : List ℕ) (targets s p : ℕ) : Type 0 where
  pub read : GraphRead handlers stmts args falls links n lists scratch returns targets
  pub fits : EdgesFit (length (joined_lists (final_lists handlers stmts args falls links n lists scratch returns targets))) s p

module _ (handlers : Bool) (stmts args falls links : List ℕ) (n rows : ℕ) (lists scratch returns : List ℕ) (targets : ℕ) where
  abbrev walks : Bool
  walks = walks_readable stmts falls links lists scratch n args

  abbrev sets : Bool
  sets = returns_readable handlers stmts args n returns targets

  pub graph_read : graph_readable handlers stmts args falls links n rows lists scratch returns targets ≡ true → (rows ≤ 1024) × GraphRead handlers stmts args falls links n lists scratch returns targets
  unfolding graph_readable walks_readable returns_readable set_readable
  graph_read h =
      let a = both_true (leb rows 1024) (leb targets 4096 && (walks && sets)) h in
      let b = both_true (leb targets 4096) (walks && sets) a.1 in
      let c = both_true walks sets b.1 in
      let d = both_true (lists_readable lists scratch n) (calls_readable stmts falls links n args) c.0 in (
        leb-true rows 1024 a.0,
        record {
          few_targets = leb-true targets 4096 b.0;
          lists_in = lists_read lists scratch n d.0;
          calls = calls_read stmts falls links n args d.1;
          in_sets = calls_sets stmts falls links n args d.1;
          through = λ e. with_handlers handlers e c.1;
          back = λ e i lt w. without handlers e c.1 i lt w;
        },
      )
    where
      with_handlers : (b : Bool) → b ≡ true → returns_readable b stmts args n returns targets ≡ true → (targets ≤ length returns) × Ids n (take targets returns)
      with_handlers true e g =
          let p = both_true (leb targets (length returns)) (ids_below n (take targets returns)) g in
          (leb-true targets (length returns) p.0, ids-read n (take targets returns) p.1)
      with_handlers false e g = absurd (let z : ◌≡◌ {A = ℕ} 0 1 = cc in omega arith)

      without : (b : Bool) → b ≡ false → returns_readable b stmts args n returns targets ≡ true → (i : ℕ) → i < n → word_of stmts i ≡ return_word → Ids n (members_of (set_of args i))
      without true e g i lt w = absurd (let z : ◌≡◌ {A = ℕ} 0 1 = cc in omega arith)
      without false e g i lt w = ids-read n (members_of (set_of args i)) (rw (eq-eqb (word_of stmts i) 9 w) at (every_at (set_readable stmts args n) n g i lt))

  pub read_graph : rows ≤ 1024 → GraphRead handlers stmts args falls links n lists scratch returns targets → graph_readable handlers stmts args falls links n rows lists scratch returns targets ≡ true
  unfolding graph_readable walks_readable returns_readable set_readable
  read_graph few r =
      both_so (leb rows 1024) (leb targets 4096 && (walks && sets)) (le-leb rows 1024 few)
      (both_so (leb targets 4096) (walks && sets) (le-leb targets 4096 r.few_targets)
      (both_so walks sets
      (both_so (lists_readable lists scratch n) (calls_readable stmts falls links n args) (read_lists lists scratch n r.lists_in) (read_calls stmts falls links n args r.calls r.in_sets))
      (go handlers refl)))
    where
      one : (i : ℕ) → i < n → handlers ≡ false → (b : Bool) → eqb (word_of stmts i) return_word ≡ b → pick b (ids_below n (members_of (set_of args i))) true ≡ true
      one i lt e true w = read-ids n (members_of (set_of args i)) (r.back e i lt (eqb-true (word_of stmts i) return_word w))
      one i lt e false w = refl

      go : (b : Bool) → handlers ≡ b → returns_readable b stmts args n returns targets ≡ true
      go true e =
          both_so (leb targets (length returns)) (ids_below n (take targets returns)) (le-leb targets (length returns) (r.through e).0) (read-ids n (take targets returns) (r.through e).1)
      go false e = every_all (set_readable stmts args n) n (λ i lt. one i lt e (eqb (word_of stmts i) return_word) refl)

-- ---- the lists that can be read

module _ {handlers : Bool} {stmts args falls links : List ℕ} {n : ℕ} {lists scratch returns : List ℕ} {targets : ℕ} (q : GraphRead handlers stmts args falls links n lists scratch returns targets) where
  abbrev ls : List (List ℕ)
  ls = final_lists handlers stmts args falls links n lists scratch returns targets

  call_ids : (i : ℕ) → i < n → call_word (word_of stmts i) ≡ true → Ids n (call_list stmts falls links i)
  unfolding call_list
  call_ids i h w =
      let c = q.calls.calls i h w in
      add_all-ids n all[] (jump_ids n stmts falls links i (row_all (target_row stmts links i) c.targets) c.continues)
    where
      row_all : (row : List ℕ) → ((k : ℕ) → k < length row → get_or row k 0 ≤ n) → All (λ (t : ℕ). t ≤ n) row
      row_all [] f = all[]
      row_all (t ∷ row) f = all∷ (f 0 (omega arith)) (row_all row (λ k g. f (suc k) (omega arith)))

  return_ids : (i : ℕ) → i < n → word_of stmts i ≡ return_word → (b : Bool) → handlers ≡ b → Ids n (return_list b args i returns targets)
  unfolding return_list
  return_ids i h w true e = (q.through e).1
  return_ids i h w false e = q.back e i h w

  final_ids : (i : ℕ) → i < n → Ids n (final_list handlers stmts args falls links lists scratch returns targets i)
  unfolding final_list
  final_ids i h = go (eqb (word_of stmts i) return_word) refl (call_word (word_of stmts i)) refl
    where
      go : (b : Bool) → eqb (word_of stmts i) return_word ≡ b → (c : Bool) → call_word (word_of stmts i) ≡ c
          → Ids n (pick b (return_list handlers args i returns targets) (pick c (call_list stmts falls links i) (succ_part lists scratch i)))
      go true e c f = return_ids i h (eqb-true (word_of stmts i) return_word e) handlers refl
      go false e true f = call_ids i h f
      go false e false f = ids_all n (succ_part lists scratch i) (q.lists_in.ids i h)

  all_ids : (m : ℕ) → m ≤ n → All (Ids n) (lists_to (final_list handlers stmts args falls links lists scratch returns targets) m)
  unfolding lists_to
  all_ids zero h = all[]
  all_ids (suc m) h = all_append (all_ids m (omega arith)) (all∷ (final_ids m h) all[])

  pub id_lists : IdLists n ls
  unfolding final_lists
  id_lists = record { size = length_lists (final_list handlers stmts args falls links lists scratch returns targets) n; ids = all_ids n (omega arith) }

  pub counts_ready : CountsReady stmts args falls links n lists targets
  counts_ready = record { calls = q.calls; in_sets = q.in_sets; rows = q.lists_in.rows; few_targets = q.few_targets }

  pub counted : (edges : ℕ) → edges ≡ sum_to (final_size handlers stmts args falls links lists targets) n → edges ≡ length (joined_lists ls)
  unfolding final_lists
  counted edges e = e ∙ sizes_are handlers stmts args falls links lists scratch returns targets (λ h. (q.through h).0) n q.lists_in.within

  -- the edges fit
  module _ (succ pred : List ℕ) (f : EdgesFit (length (joined_lists ls)) (length succ) (length pred)) where
    pub writes_ready : WritesReady handlers stmts args falls links n lists scratch returns targets (length succ)
    unfolding final_lists
    writes_ready =
        record {
          calls = q.calls;
          in_sets = q.in_sets;
          rows = q.lists_in.rows;
          within = q.lists_in.within;
          targets_fit = λ h. (q.through h).0;
          few_targets = λ h. q.few_targets;
          fits = f.in_succ;
          few = f.few;
        }

    module _ {lists₁ succ₁ : List ℕ} {total : ℕ} (s : WritesDone handlers stmts args falls links n lists lists₁ scratch returns targets succ succ₁ total) where
      done : ListsStored ls total lists lists₁ succ succ₁
      unfolding final_lists
      done = s

      -- the part of succ that they take
      part : (length (take total succ₁) ≡ total) × Successors n ls (take total succ₁) lists₁
      part = successors_part total done.used (stored_successors id_lists (omega (arith, done.used, f.in_succ)) done)

      pub edges_inside : total ≤ length succ₁
      edges_inside = omega (arith, done.used, (stored_successors id_lists (omega (arith, done.used, f.in_succ)) done).inside)

      pub preds_ready : Ready n (length (take total succ₁)) (take total succ₁) lists₁ pred
      preds_ready =
          record {
            ls = ls;
            held = part.1;
            edges_are = part.0 ∙ done.used;
            room = record {
              few_nodes = q.lists_in.few;
              few_edges = omega (arith, part.0, done.used, f.few);
              rows = omega (arith, q.lists_in.rows, done.rows.size);
              space = omega (arith, part.0, done.used, f.in_pred);
            };
          }

      pub edges_stored : {lists₂ pred₂ : List ℕ} → Written n (length (take total succ₁)) (take total succ₁) lists₁ lists₂ pred pred₂ → EdgesStored n lists lists₂ succ succ₁ pred pred₂ ls total
      edges_stored w =
          let p = w ls part.1 (part.0 ∙ done.used) in
          record {
            total_is = done.used;
            lists_are = p.rows ∙ ap (λ (x : List ℕ). list_rows ls (sources_of ls) n ++ x) (behind id_lists.size);
            succ_are = done.table ∙ ap (λ (x : ℕ). joined_lists ls ++ drop x succ) done.used;
            pred_are = p.table;
          }
        where
          behind : length ls ≡ n → drop (n * 4) lists₁ ≡ drop (n * 4) lists
          behind e = ap (λ (x : ℕ). drop (x * 4) lists₁) (sym e) ∙ columns_past done.rows ∙ ap (λ (x : ℕ). drop (x * 4) lists) e

    -- the whole
    pub graph_stored : {rows total : ℕ} {counts counts' args' lists' succ' pred' : List ℕ} → EdgesStored n lists lists' succ succ' pred pred' ls total → ClearAnswered stmts n args args'
        → counts' ≡ set (set (set counts 3 total) 4 targets) 5 rows → GraphStored stmts args n rows counts lists targets succ pred ls counts' args' lists' succ' pred'
    graph_stored {rows} {total} {counts} e c k =
        record {
          counts_are = k ∙ ap (λ (x : ℕ). set (set (set counts 3 x) 4 targets) 5 rows) e.total_is;
          cleared = c.fitting (read-sets stmts n args (record { few = q.calls.few; in_stmts = q.calls.in_stmts; in_sets = q.in_sets }));
          lists_are = e.lists_are;
          succ_are = e.succ_are;
          pred_are = e.pred_are;
        }

-- ---- as the code answers

module _ (handlers : Bool) (stmts args : List ℕ) (n : ℕ) (returns : List ℕ) (targets : ℕ) where
  pub through_short : handlers ≡ true → length returns < targets → false ≡ returns_readable handlers stmts args n returns targets
  unfolding returns_readable
  through_short e h = rw (e, lt-leb targets (length returns) h)

  pub through_by : handlers ≡ true → targets ≤ length returns → (good : Bool) → good ≡ ids_below n (take targets returns) → good ≡ returns_readable handlers stmts args n returns targets
  unfolding returns_readable
  through_by e h good g = rw (e, le-leb targets (length returns) h) g

  pub back_by : handlers ≡ false → (good : Bool) → good ≡ every_below (set_readable stmts args n) n → good ≡ returns_readable handlers stmts args n returns targets
  unfolding returns_readable
  back_by e good g = rw e g

module _ (handlers : Bool) (stmts args falls links : List ℕ) (n rows : ℕ) (lists scratch returns : List ℕ) (targets : ℕ) where
  pub many_rows : 1024 < rows → false ≡ graph_readable handlers stmts args falls links n rows lists scratch returns targets
  unfolding graph_readable
  many_rows h = rw (lt-leb rows 1024 h)

  module _ (f : rows ≤ 1024) where
    pub many_targets : 4096 < targets → false ≡ graph_readable handlers stmts args falls links n rows lists scratch returns targets
    unfolding graph_readable
    many_targets h = rw (le-leb rows 1024 f, lt-leb targets 4096 h)

    module _ (g : targets ≤ 4096) where
      pub walks-outside : walks_readable stmts falls links lists scratch n args ≡ false → false ≡ graph_readable handlers stmts args falls links n rows lists scratch returns targets
      unfolding graph_readable
      walks-outside h = rw (le-leb rows 1024 f, le-leb targets 4096 g, h)

      pub graph_by : walks_readable stmts falls links lists scratch n args ≡ true → (good : Bool) → good ≡ returns_readable handlers stmts args n returns targets
          → good ≡ graph_readable handlers stmts args falls links n rows lists scratch returns targets
      unfolding graph_readable
      graph_by h good e = rw (le-leb rows 1024 f, le-leb targets 4096 g, h) e

pub walks-sets : (stmts falls links lists scratch : List ℕ) (n : ℕ) (args : List ℕ) → walks_readable stmts falls links lists scratch n args ≡ true → (n ≤ 4096) × (n * 12 ≤ length stmts) × (n * 64 ≤ length args)
unfolding walks_readable
walks-sets stmts falls links lists scratch n args h =
    let d = both_true (lists_readable lists scratch n) (calls_readable stmts falls links n args) h in
    let c = calls_read stmts falls links n args d.1 in
    (c.few, c.in_stmts, calls_sets stmts falls links n args d.1)

-- edges as counted, and the test of them
module _ (edges s p : ℕ) (ls : List (List ℕ)) (e : edges ≡ length (joined_lists ls)) (x : Bool) (t : x ≡ edges_fit edges s p) where
  pub fits_all : x ≡ true → EdgesFit (length (joined_lists ls)) s p
  fits_all y = rw (← e) (edges_fit_lem edges s p (sym t ∙ y))

  tested : (y : Bool) → x ≡ y → stored_of true y edges ≡ stored_of true (edges_fit (length (joined_lists ls)) s p) (length (joined_lists ls))
  tested y z = rw (← e, ← t, z)

  pub answered-fits : x ≡ true → told (Ok edges) ≡ stored_of true (edges_fit (length (joined_lists ls)) s p) (length (joined_lists ls))
  unfolding stored_of
  answered-fits y = tested true y

  pub answered_many : {r : Refusal} → r ≡ refusal_at reason.EdgeTables edges → x ≡ false → told (Err r) ≡ stored_of true (edges_fit (length (joined_lists ls)) s p) (length (joined_lists ls))
  unfolding stored_of
  answered_many q y = rw q (tested false y)

pub answered-outside : (fits : Bool) (edges : ℕ) {r : Refusal} → r ≡ refusal_at reason.Outside 0 → told (Err r) ≡ stored_of false fits edges
unfolding stored_of
answered-outside fits edges q = rw q

pub nothing : (counts args lists succ pred : List ℕ) → NothingStored counts args lists succ pred counts args lists succ pred
nothing counts args lists succ pred = record { counts_are = refl; args_are = refl; lists_are = refl; succ_are = refl; pred_are = refl }

pub answered_as : {a b : Bool} {stmts args : List ℕ} {n rows : ℕ} {counts lists : List ℕ} {targets : ℕ} {succ pred : List ℕ} {ls : List (List ℕ)} {counts' args' lists' succ' pred' : List ℕ} {r : Result ℕ Refusal} → a ≡ b
    → StoredAnswered a stmts args n rows counts lists targets succ pred ls counts' args' lists' succ' pred' r → StoredAnswered b stmts args n rows counts lists targets succ pred ls counts' args' lists' succ' pred' r
answered_as e t = rw (← e) t
