-- The edges of a graph counted, before any is written: the lists that skipping paths follow, the return targets, the RETURNs' sets. Assumes nothing.
use Rattle.std.specs.Prelude.{ℕ, zero, suc, ◌+◌, ◌*◌, ◌-◌, ◌≤◌, ◌<◌, ◌≡◌, Bool, get_or, take}
use Rattle.std.proofs.Math.Path.{refl, sym, ap}
use Rattle.std.proofs.Common.{◌∙◌, arith, eqb-true, take-append-drop, length-append, length-take-le}
use Rattle.std.proofs.Math.Bool.{true, false}
use mathlib.Core.List.{List, ◌++◌}
use Rattle.std.proofs.Math.Dec.{eqb}
use Rattle.std.proofs.Math.ListN.{length, drop, replicate}
use Rattle.listings.specs.Listing.{Listing}
use Rattle.listings.specs.Records.{padded}
use Rattle.reader.specs.Tables.{drop_zeros}
use Rattle.graph.specs.Graph.{wire, skip_steps, return_targets, region_return_edges, return_edges, successors}
use Rattle.graph_laws.specs.GraphLaws.{node_count, lists_ok}
use Rattle.graph.specs.Build.{edge_count}
use Rattle.passes.specs.Sets.{members_of}
use Rattle.passes.specs.ReturnSets.{set_of}
use Rattle.passes.specs.EdgeTable.{joined_lists, joined_snoc, lists_to}
use Rattle.passes.specs.Walk.{Stored}
use Rattle.passes.specs.Prepared.{Prepared, Roles}
use Rattle.tables.specs.Columns.{word_of}
use Rattle.passes.specs.PreparedLaws.{prepared_roles, return_row}
use Rattle.passes.specs.ReturnTotals.{sum_where, return_size, return_total, sum_where_on, total_is}
use Rattle.passes.specs.ReturnTargets.{TargetsListed, FallsFit, targets_are, roles_falls}
use Rattle.passes.specs.WalkTables.{RegionsAnswered}
use Rattle.passes.specs.RegionLaws.{answered_graph}
use Rattle.passes.specs.ByRows.{ReturnsByRows}
use Rattle.passes.specs.FillRows.{FillReady}
use Rattle.passes.specs.EdgeCount.{edge_count_lem, edges-joined}
use Rattle.wiring.specs.FinalGraph.{ReturnRowsOnly, FinalTables}
use Rattle.passes.specs.SkipLists.{SkipsReady, SkipTable, skips_walk}
use Rattle.wiring.specs.WriteGraph.{SkipsStored}
use Rattle.passes.specs.Connecting.{no}

-- ---- the RETURNs' sets

-- own: how many edges the other nodes have; their lists are stored where these are few
pub record ReturnsReady (own : ℕ) (stmts args entries falls links frames dispatched : List ℕ) (lines n : ℕ) (lists scratch : List ℕ) (room : ℕ) : Type 0 where
  pub listing : Listing
  pub prepared : Prepared listing stmts args entries falls links frames dispatched lines n
  pub stored : own ≤ 32768 → Stored lists scratch n (skip_steps (wire listing))
  pub buffer : n ≤ room

pub record FoundReturns (L : Listing) (handlers : Bool) (own : ℕ) (stmts : List ℕ) (n : ℕ) (args args' : List ℕ) : Type 0 where
  pub size : length args' ≡ length args
  pub members : handlers ≡ false → (r : ℕ) → r < n → get_or stmts (r * 12) 0 ≡ 9 → members_of (set_of args' r) ≡ region_return_edges (wire L) r
  pub kept : own ≤ 32768 → ReturnRowsOnly stmts n args args'

abbrev pub ReturnsFound : (handlers : Bool) (own : ℕ) (stmts args entries falls links frames dispatched : List ℕ) (lines n : ℕ) (lists scratch args' : List ℕ) → Type 0
ReturnsFound h own stmts args entries falls links frames dispatched lines n lists scratch args' =
    (L : Listing) → Prepared L stmts args entries falls links frames dispatched lines n → (own ≤ 32768 → Stored lists scratch n (skip_steps (wire L))) → FoundReturns L h own stmts n args args'

module _ {own : ℕ} {stmts args entries falls links frames dispatched : List ℕ} {lines n : ℕ} {lists scratch : List ℕ} where
  pub returns_through : (h : Bool) → h ≡ true → ReturnsFound h own stmts args entries falls links frames dispatched lines n lists scratch args
  returns_through true e L p s = record { size = refl; members = λ q. no q; kept = λ q x z. refl }
  returns_through false e L p s = no (sym e)

  pub regions_found : {args' : List ℕ} {r : Bool} (h : Bool) → own ≤ 32768 → RegionsAnswered stmts falls links lists scratch n args args' r → ReturnsFound h own stmts args entries falls links frames dispatched lines n lists scratch args'
  regions_found {args'} {r} h few f L p s =
      let w = answered_graph stmts falls links lists scratch n args args' r (wire L) (prepared_roles p) (s few) p.args_fit (λ i lt e j g. return_row p i lt e j g) f in
      record { size = w.size; members = λ q r lt e. w.members r lt e; kept = λ q x z. w.others x (λ y. z y.0 y.1) }

  pub by_rows_ready : {room : ℕ} → ReturnsReady own stmts args entries falls links frames dispatched lines n lists scratch room → FillReady stmts args entries falls links frames dispatched lines n room
  by_rows_ready r = let p = r.prepared in record { listing = r.listing; prepared = p; roles = prepared_roles p; room_for = r.buffer }

  pub by_rows_found : {args' : List ℕ} (h : Bool) → (own ≤ 32768 → ⊥) → ReturnsByRows stmts args entries falls links frames dispatched lines n args'
      → ReturnsFound h own stmts args entries falls links frames dispatched lines n lists scratch args'
  by_rows_found h many f L p s = record { size = f.size; members = λ q r lt e. f.members L p (prepared_roles p) r lt e; kept = λ q. absurd (many q) }

-- ---- no graph has many edges

joined_few : (f : ℕ → List ℕ) (n m : ℕ) → ((i : ℕ) → length (f i) ≤ m) → length (joined_lists (lists_to f n)) ≤ n * m
unfolding lists_to joined_lists
joined_few f zero m h = omega arith
joined_few f (suc n) m h = omega (arith, ap length (joined_snoc (lists_to f n) (f n)), length-append (joined_lists (lists_to f n)) (f n), joined_few f n m h, h n)

pub edges_few : (L : Listing) → node_count L ≤ 4096 → edge_count L ≤ 16777216
edges_few L h = omega (arith, edges-joined L, joined_few (successors L) (node_count L) 4096 (λ i. omega (arith, (lists_ok L).short i)))

-- ---- the whole count

pub record CountReady (handlers : Bool) (stmts args entries falls links frames dispatched : List ℕ) (lines n : ℕ) (lists scratch returns : List ℕ) (room : ℕ) : Type 0 where
  pub listing : Listing
  pub handled : handlers ≡ listing.handlers
  pub prepared : Prepared listing stmts args entries falls links frames dispatched lines n
  pub rows : n * 4 ≤ length lists
  pub returns_fit : n ≤ length returns
  pub zero_lists : lists ≡ replicate (length lists) 0
  pub zero_returns : returns ≡ replicate (length returns) 0
  pub scratch_size : length scratch ≡ 36864
  pub buffer_size : room ≡ 4096

pub record GraphCounted (L : Listing) (handlers : Bool) (stmts args entries falls links frames dispatched : List ℕ) (lines n : ℕ) (args' lists' scratch' returns' : List ℕ) (edges targets : ℕ) : Type 0 where
  pub edges_are : edges ≡ edge_count L
  pub targets_are : targets ≡ length (return_targets (wire L))
  pub returns_are : returns' ≡ padded (length returns') (return_targets (wire L))
  pub tables : edges ≤ 32768 → FinalTables L args handlers stmts args' entries falls links frames dispatched lines n returns' targets
  pub held : edges ≤ 32768 → SkipsStored (wire L) n lists' scratch'

abbrev pub CountedTo : (handlers : Bool) (stmts args entries falls links frames dispatched : List ℕ) (lines n : ℕ) (args' lists' scratch' returns' : List ℕ) (edges targets : ℕ) → Type 0
CountedTo h stmts args entries falls links frames dispatched lines n args' lists' scratch' returns' edges targets =
    (L : Listing) → h ≡ L.handlers → Prepared L stmts args entries falls links frames dispatched lines n
    → GraphCounted L h stmts args entries falls links frames dispatched lines n args' lists' scratch' returns' edges targets

module _ {handlers : Bool} {stmts args entries falls links frames dispatched : List ℕ} {lines n : ℕ} {lists scratch returns : List ℕ} {room : ℕ}
    (c : CountReady handlers stmts args entries falls links frames dispatched lines n lists scratch returns room) where
  pub count_skips : (buffer : List ℕ) → length buffer ≡ room → SkipsReady stmts args entries falls links frames dispatched lines n lists scratch buffer
  count_skips buffer e =
      record { listing = c.listing; prepared = c.prepared; roles = prepared_roles c.prepared; rows = c.rows; scratch_size = c.scratch_size; buffer_size = e ∙ c.buffer_size }

  pub count_targets : ((n ≤ 4096) × (n * 12 ≤ length stmts) × (n * 3 ≤ length falls) × (n ≤ length returns)) × FallsFit falls n
  count_targets = let p = c.prepared in ((p.few, p.stmts_fit, p.falls_fit, c.returns_fit), roles_falls (prepared_roles p))

  module _ {own : ℕ} {lists' scratch' : List ℕ} where
    stored_walk : (L : Listing) → Prepared L stmts args entries falls links frames dispatched lines n → SkipTable (wire L) n lists lists' scratch scratch' own → own ≤ 32768 → Stored lists' scratch' n (skip_steps (wire L))
    stored_walk L p t few = skips_walk L p.nodes_are c.rows (t.stored few)

    pub count_found : SkipTable (wire c.listing) n lists lists' scratch scratch' own → (m : ℕ) → m ≡ room → ReturnsReady own stmts args entries falls links frames dispatched lines n lists' scratch' m
    count_found t m e =
        record { listing = c.listing; prepared = c.prepared; stored = stored_walk c.listing c.prepared t; buffer = omega (arith, e, c.buffer_size, c.prepared.few) }

    module _ {args' returns' : List ℕ} {targets back : ℕ} (t : (L : Listing) → Prepared L stmts args entries falls links frames dispatched lines n → Roles (wire L) stmts falls links n → SkipTable (wire L) n lists lists' scratch scratch' own)
        (l : TargetsListed stmts falls n returns returns' targets) (f : ReturnsFound handlers own stmts args entries falls links frames dispatched lines n lists' scratch' args')
        (b : back ≡ return_total handlers stmts args' n targets) (L : Listing) (h : handlers ≡ L.handlers) (p : Prepared L stmts args entries falls links frames dispatched lines n) where
      table : SkipTable (wire L) n lists lists' scratch scratch' own
      table = t L p (prepared_roles p)

      found : FoundReturns L handlers own stmts n args args'
      found = f L p (stored_walk L p table)

      summed : back ≡ sum_where (λ i. eqb (word_of stmts i) 9) (λ i. return_size handlers targets args' i) n
      summed = b ∙ total_is handlers stmts args' n targets p.few p.stmts_fit (omega (arith, p.args_fit, found.size)) (omega (arith, l.few, p.few))

      listed : take targets returns' ≡ return_targets (wire L)
      listed = l.list ∙ targets_are (wire L) stmts falls links n (prepared_roles p)

      fits : targets ≤ length returns'
      fits = omega (arith, l.few, l.size, c.returns_fit)

      many : targets ≡ length (return_targets (wire L))
      many = sym (length-take-le targets returns' fits) ∙ ap length listed

      size_of : (x : Bool) → x ≡ handlers → (i : ℕ) → i < n → get_or stmts (i * 12) 0 ≡ 9 → return_size x targets args' i ≡ length (return_edges x (wire L) i)
      unfolding return_size return_edges
      size_of true e i lt w = many
      size_of false e i lt w = ap length (found.members (sym e) i lt w)

      counted : own + back ≡ edge_count L
      unfolding word_of
      counted =
          let q : sum_where (λ i. eqb (word_of stmts i) 9) (λ i. return_size handlers targets args' i) n ≡ sum_where (λ i. eqb (word_of stmts i) 9) (λ i. length (return_edges L.handlers (wire L) i)) n
          = sum_where_on (λ i. eqb (word_of stmts i) 9) (λ i. return_size handlers targets args' i) (λ i. length (return_edges L.handlers (wire L) i)) n
          (λ i lt e. size_of handlers refl i lt (eqb-true (get_or stmts (i * 12) 0) 9 e) ∙ ap (λ (x : Bool). length (return_edges x (wire L) i)) h) in
          ap (λ (x : ℕ). own + x) (summed ∙ q) ∙ ap (λ (x : ℕ). x + sum_where (λ i. eqb (word_of stmts i) 9) (λ i. length (return_edges L.handlers (wire L) i)) n) table.counted ∙ sym (edge_count_lem L (prepared_roles p))

      left : length returns - targets ≡ length returns' - length (return_targets (wire L))
      left = omega (arith, l.size, many)

      pub graph_counted : GraphCounted L handlers stmts args entries falls links frames dispatched lines n args' lists' scratch' returns' (own + back) targets
      unfolding padded
      graph_counted =
          record {
            edges_are = counted;
            targets_are = many;
            returns_are = sym (take-append-drop targets returns') ∙ ap (λ (x : List ℕ). x ++ drop targets returns') listed
                ∙ ap (λ (x : List ℕ). return_targets (wire L) ++ x) (l.rest ∙ ap (drop targets) c.zero_returns ∙ drop_zeros (length returns) targets ∙ ap (λ (x : ℕ). replicate x 0) left);
            tables = λ few. record {
              handled = sym h;
              prepared = p;
              roles = prepared_roles p;
              kept = found.kept (omega arith);
              args_size = found.size;
              targets_fit = λ e. fits;
              through = λ e. listed;
              back = found.members;
            };
            held = λ few. record { skips = record { at = table.at; lists₀ = lists; scratch₀ = scratch; stored = table.stored (omega arith) }; zero-rows = c.zero_lists };
          }

    pub count_fits : {args' returns' : List ℕ} {targets back : ℕ} → ((L : Listing) → Prepared L stmts args entries falls links frames dispatched lines n → Roles (wire L) stmts falls links n → SkipTable (wire L) n lists lists' scratch scratch' own)
        → TargetsListed stmts falls n returns returns' targets → ReturnsFound handlers own stmts args entries falls links frames dispatched lines n lists' scratch' args'
        → back ≡ return_total handlers stmts args' n targets → own + back ≤ 16777216
    count_fits t l f b =
        let p = c.prepared in
        let q = graph_counted t l f b c.listing c.handled p in
        omega (arith, q.edges_are, edges_few c.listing (omega (arith, p.nodes_are, p.few)))
