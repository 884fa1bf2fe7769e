-- Tables that are filled with the records of the listing that an input means: before and after, whatever the input is.
-- Assumes nothing.
use Rattle.std.specs.Prelude.{◌≡◌, List, [], ℕ, length, replicate}
use Rattle.std.proofs.Common.{sym, ap, ◌∙◌, subst}
use Rattle.listings.specs.Listing.{Listing}
use Rattle.listings.specs.Read.{Answer, listing, start}
use Rattle.listings.specs.Rows.{Content}
use Rattle.listings.specs.Records.{line_recs, line_numbers}
use Rattle.listing_laws.specs.RowsTaken.{Leads}
use Rattle.reader.specs.Machine.{State, as_state}
use Rattle.reader.specs.Fill.{outside_walk}
use Rattle.reader.specs.Holds.{Holds, holds_as}
use Rattle.reader.specs.FillSteps.{Room, Fills, fills_start, fills_last}
use Rattle.reader.specs.declared.fill.Walk.{Walk}

-- q: what the input means. It is a listing, and there is room for it
pub record Accepts (q : Answer) (nl ns na : ℕ) : Type 0 where
  pub tree : Listing
  pub reads : q ≡ listing tree
  pub room : Room tree nl ns na

-- zeroed tables, and room in them for the listing
pub record Zeroed (q : Answer) (n t a : List ℕ) : Type 0 where
  pub accepts : Accepts q (length n) (length t) (length a)
  pub lines : n ≡ replicate (length n) 0
  pub stmts : t ≡ replicate (length t) 0
  pub args : a ≡ replicate (length a) 0

-- the tables hold the listing
abbrev pub Filled : (q : Answer) (n t a n' t' a' : List ℕ) → Type 0
Filled q n t a n' t' a' = (L : Listing) → q ≡ listing L → Holds (line_numbers L.lines) (line_recs L.lines) (length n) (length t) (length a) n' t' a'

-- before the first row
pub filled_start : {q : Answer} {n t a : List ℕ} (z : Zeroed q n t a) (ds : List Content) → Leads start ds z.accepts.tree → (s : State) (w : Walk) → s ≡ as_state start → w ≡ outside_walk
    → Fills z.accepts.tree (length n) (length t) (length a) ds s w n t a
filled_start {n = n} {t = t} {a = a} z ds h s w e k =
    let L = z.accepts.tree in
    subst (λ (x : List ℕ). Fills L (length n) (length t) (length a) ds s w x t a) (sym z.lines)
    (subst (λ (x : List ℕ). Fills L (length n) (length t) (length a) ds s w (replicate (length n) 0) x a) (sym z.stmts)
    (subst (λ (x : List ℕ). Fills L (length n) (length t) (length a) ds s w (replicate (length n) 0) (replicate (length t) 0) x) (sym z.args)
    (fills_start L (length n) (length t) (length a) ds s w h e k)))

-- behind the last
pub filled_end : {q : Answer} {nl ns na : ℕ} {s : State} {w : Walk} {n t a : List ℕ} (g : Accepts q nl ns na) → Fills g.tree nl ns na [] s w n t a
    → (L : Listing) → q ≡ listing L → Holds (line_numbers L.lines) (line_recs L.lines) nl ns na n t a
filled_end {nl = nl} {ns = ns} {na = na} {n = n} {t = t} {a = a} g f L e =
    let z : g.tree.lines ≡ L.lines = lines_is (sym g.reads ∙ e) in
    holds_as nl ns na n t a (ap line_numbers z) (ap line_recs z) (fills_last f)
  where
    lines_is : {A B : Listing} → listing A ≡ listing B → A.lines ≡ B.lines
    lines_is e = cc
