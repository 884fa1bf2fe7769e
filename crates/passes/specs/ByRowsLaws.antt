-- Laws of regions by closed rows of bits: the RETURNs' rows change, the others stay closed. Assumes nothing.
use Rattle.std.specs.Prelude.{Option, ℕ, ◌+◌, ◌*◌, ◌/◌, ◌≤◌, ◌<◌, ◌≡◌, Bool, ◌⊎◌, ◌↔◌, length, get_or}
use Rattle.std.proofs.Common.{sym, ap, ◌∙◌, inl, inr, ⊎_elim, arith}
use mathlib.Core.List.Memᴰ
use mathlib.Core.List.{List, [], Memᴰ}
use borrow.Author.Tests.{lt-ltb, le-ltb, eq-eqb, ne_eqb}
use Rattle.listings.specs.Listing.{Listing}
use Rattle.graph.specs.Graph.{wire, skip_steps, region_return_edges}
use Rattle.graph_laws.specs.ReturnLists.{region_asc}
use Rattle.tables.specs.Columns.{word_of}
use Rattle.passes.specs.declared.spans.Span.{Span}
use Rattle.passes.specs.Compare.{eq-or}
use Rattle.passes.specs.Sets.{In, members_of}
use Rattle.passes.specs.SetLaws.{none_in, members_in, members_are}
use Rattle.passes.specs.ReturnSets.{set_of}
use Rattle.layout.specs.Layout.{return_word}
use Rattle.passes.specs.ReturnSetLaws.{row_same}
use Rattle.passes.specs.Clearing.{SetsCleared}
use Rattle.passes.specs.Closure.{RowsHold, RowsClosed, StepsBelow, Closed, OthersClosed}
use Rattle.passes.specs.ClosureLaws.{leads-none, others_closed, others_kept}
use Rattle.passes.specs.FillRows.{FillReady, RowsFilled}
use Rattle.passes.specs.SkipLists.{skip_ids}
use Rattle.passes.specs.FillRowLaws.{skip_none}
use Rattle.passes.specs.Prepared.{Prepared, Roles}
use Rattle.passes.specs.Regions.{SetsClear}
use Rattle.passes.specs.WalkTables.{CallsRead, read_calls}
use Rattle.passes.specs.RegionLaws.{regions_more, regions_all, set-clear, roles_read, back_exact}
use Rattle.passes.specs.ByRows.{EntryByRows, EntriesByRows, ByRowsReady, row_steps, SetsByRows, ByRowsAnswered, ReturnsByRows}

-- ---- entry after entry

pub entries_more : (stmts falls links : List ℕ) (n m : ℕ) (xs ys zs : List ℕ) → n * 64 ≤ length xs → EntriesByRows stmts falls links n m xs ys → EntryByRows stmts falls links n m ys zs
    → EntriesByRows stmts falls links n (m + 1) xs zs
entries_more stmts falls links n m xs ys zs fits s t step o =
    let a = s step o in
    regions_more stmts falls links step n m xs ys zs a (t step (others_kept step stmts n xs ys fits a.size a.others o))

-- the same tables, with other rows
pub by_rows_again : {stmts falls links : List ℕ} {n : ℕ} {calls : List ℕ} {spans : List (Option Span)} {xs : List ℕ} (ys : List ℕ) → length ys ≡ length xs
    → ByRowsReady stmts falls links n calls spans xs → ByRowsReady stmts falls links n calls spans ys
by_rows_again ys e r = record { calls_ready = r.calls_ready; spanned = r.spanned; in_rows = omega (arith, r.in_rows) }

-- ---- steps of rows

module _ (stmts rows : List ℕ) (n : ℕ) where
  pub steps_below : StepsBelow n (row_steps stmts rows n)
  unfolding row_steps
  steps_below i h = rw (le-ltb i n h)

  pub return_steps : (i : ℕ) → i < n → get_or stmts (i * 12) 0 ≡ return_word → row_steps stmts rows n i ≡ []
  unfolding row_steps word_of
  return_steps i h w = rw (lt-ltb i n h, eq-eqb (get_or stmts (i * 12) 0) 9 w)

  pub other_steps : (i : ℕ) → i < n → (get_or stmts (i * 12) 0 ≡ return_word → ⊥) → row_steps stmts rows n i ≡ members_of (set_of rows i)
  unfolding row_steps word_of
  other_steps i h w = rw (lt-ltb i n h, ne_eqb (get_or stmts (i * 12) 0) 9 w)

-- cleared rows of RETURNs are empty sets
pub sets-clear : (stmts : List ℕ) (n : ℕ) (xs ys : List ℕ) → SetsCleared stmts n xs ys → SetsClear stmts n ys
sets-clear stmts n xs ys s i h w j lt =
    let e : (i * 64 + j) / 64 ≡ i = omega arith in
    s.cleared (i * 64 + j) (omega arith) (ap (λ (x : ℕ). get_or stmts (x * 12) 0) e ∙ w)

-- ---- the rows of RETURNs cleared, all closed, and the regions joined

module _ (stmts falls links : List ℕ) (n : ℕ) (xs ys zs : List ℕ) (fits : n * 64 ≤ length xs) (z : SetsCleared stmts n xs ys) (c : Closed n ys zs) where
  rows-hold : RowsHold (row_steps stmts xs n) n ys
  rows-hold = record { row = λ i h j. go i h j (eq-or (get_or stmts (i * 12) 0) return_word) }
    where
      go : (i : ℕ) → i < n → (j : ℕ) → (get_or stmts (i * 12) 0 ≡ return_word) ⊎ (get_or stmts (i * 12) 0 ≡ return_word → ⊥) → In (set_of ys i) j ↔ Memᴰ j (row_steps stmts xs n i)
      go i h j (inl w) =
          let e = set-clear stmts n ys (omega (arith, z.size)) (sets-clear stmts n xs ys z) i (h, w) in
          rw (return_steps stmts xs n i h w) (λ m. absurd (none_in 64 j (rw e at m)), λ m. absurd (Memᴰ.not-nil m))
      go i h j (inr w) =
          let e : set_of ys i ≡ set_of xs i = row_same xs ys i (omega arith) z.size (λ e d. z.kept e (λ r. w (ap (λ (x : ℕ). get_or stmts (x * 12) 0) (sym d) ∙ r.1))) in
          rw (other_steps stmts xs n i h w, e) (λ m. (members_in (set_of xs i) j).1 m, λ m. (members_in (set_of xs i) j).0 m)

  rows-closed : RowsClosed (row_steps stmts xs n) n zs
  rows-closed = c.closed (row_steps stmts xs n) (steps_below stmts xs n) rows-hold

  others_so : OthersClosed (row_steps stmts xs n) stmts n zs
  others_so = others_closed (row_steps stmts xs n) stmts n zs rows-closed (return_steps stmts xs n)

  pub sets_by_rows : (ws : List ℕ) → CallsRead stmts falls links n → EntriesByRows stmts falls links n n zs ws → SetsByRows stmts falls links n xs ws
  sets_by_rows ws calls f =
      let t = f (row_steps stmts xs n) others_so in
      let a = regions_all stmts falls links (row_steps stmts xs n) n calls zs ws t in
      let size : length zs ≡ length xs = c.size ∙ z.size in
      record {
        size = t.size ∙ size;
        members = λ r h k. (
          λ m. ⊎_elim (λ x. absurd (leads-none (return_steps stmts xs n r h.0 h.1) ((rows-closed.row r h.0 k).0 x))) (λ x. x) ((a.members r h k).0 m),
          λ m. (a.members r h k).1 (inr m),
        );
        others = λ i h w j.
            let q : set_of ws i ≡ set_of zs i = row_same zs ws i (omega arith) t.size (λ e d. t.others e (λ r. w (ap (λ (x : ℕ). get_or stmts (x * 12) 0) (sym d) ∙ r.1))) in
            rw q (rows-closed.row i h j);
        rest = λ e h. t.others e (λ r. omega (arith, r.0)) ∙ c.rest e h ∙ z.kept e (λ r. omega (arith, r.0));
      }

-- ---- the rows of a listing's arguments, filled and then closed

module _ (stmts args entries falls links frames dispatched : List ℕ) (lines n room : ℕ) (r : FillReady stmts args entries falls links frames dispatched lines n room) (xs ys : List ℕ)
    (f : RowsFilled stmts args entries falls links frames dispatched lines n xs) (b : Bool) (t : ByRowsAnswered stmts falls links n xs ys b) where
  fitting : n * 64 ≤ length xs
  fitting = omega (arith, r.prepared.args_fit, f.size)

  found_sets : SetsByRows stmts falls links n xs ys
  found_sets = t.found (t.answer ∙ read_calls stmts falls links n xs (roles_read (wire r.listing) stmts falls links n r.roles) fitting)

  module _ (L : Listing) (P : Prepared L stmts args entries falls links frames dispatched lines n) (R : Roles (wire L) stmts falls links n) where
    same : (v u : ℕ) → v < n → (get_or stmts (v * 12) 0 ≡ return_word) ⊎ (get_or stmts (v * 12) 0 ≡ return_word → ⊥) → Memᴰ u (row_steps stmts xs n v) ↔ Memᴰ u (skip_steps (wire L) v)
    same v u h (inl w) =
        rw (return_steps stmts xs n v h w, skip_none (wire L) stmts falls links n v R h w) (λ m. m, λ m. m)
    same v u h (inr w) =
        let g = (f.rows L P R).row v h u in
        rw (other_steps stmts xs n v h w) (λ m. g.0 ((members_in (set_of xs v) u).0 m), λ m. (members_in (set_of xs v) u).1 (g.1 m))

    pub by_rows_row : (i : ℕ) → i < n → get_or stmts (i * 12) 0 ≡ return_word → members_of (set_of ys i) ≡ region_return_edges (wire L) i
    by_rows_row i h w =
        members_are (set_of ys i) (region_asc (wire L) i) (λ k.
        let e = back_exact (wire L) stmts falls links n R (row_steps stmts xs n) (λ v lt. rw P.nodes_are (skip_ids L v)) (λ v u lt. same v u lt (eq-or (get_or stmts (v * 12) 0) return_word)) i k in
        (λ m. (found_sets.members i (h, w) k).1 (e.0 m), λ m. e.1 ((found_sets.members i (h, w) k).0 m)))

  pub by_rows_to : ReturnsByRows stmts args entries falls links frames dispatched lines n ys
  by_rows_to = record { size = found_sets.size ∙ f.size; members = λ L P R i h w. by_rows_row L P R i h w }
