-- The passes before the lists, one after the other: from the reader's tables to what Prepared says. Assumes nothing.
use Prim.Native.Nat.{ℕ, ◌*◌, ◌≤◌}
use Rattle.std.proofs.Common.{sym, ◌∙◌, arith}
use Rattle.std.specs.Prelude.{◌≡◌, Bool, true, false, not, get_or}
use Rattle.std.proofs.Math.Path.{refl, ap}
use mathlib.Core.List.{List, []}
use Rattle.std.proofs.Math.ListN.{length, replicate}
use Rattle.std.proofs.lemmas.List.{length-replicate}
use Rattle.std.proofs.lemmas.Bool.{not-true}
use Rattle.listings.specs.Listing.{Listing}
use Rattle.listings.specs.Records.{padded}
use Rattle.listings.specs.WordTable.{zeros}
use Rattle.graph.specs.Nodes as definition
use Rattle.graph.specs.Nodes.{NodeStmt, Node}
use Rattle.graph.specs.Graph.{wire}
use Rattle.passes.specs.ListedNodes.{AllCounted, listed-counted}
use Rattle.passes.specs.FramePass.{AllZero}
use Rattle.passes.specs.Frames.{Framed}
use Rattle.passes.specs.LineEntries.{entry_rows, EntriesComputed}
use Rattle.passes.specs.LineSearch.{EntryTable, entry_table}
use Rattle.passes.specs.Falls.{fall_rows, LinesConnected}
use Rattle.passes.specs.TableReads.{falls-listed}
use Rattle.passes.specs.Jumps.{linked, JumpsLinked}
use Rattle.passes.specs.ForLinks.{linked_rows, ForsLinked}
use Rattle.passes.specs.Dispatched.{dispatched_ids}
use Rattle.passes.specs.OrphanKeys.{ids_are}
use Rattle.passes.specs.Prepared.{link_table, LinksPrepared, Prepared}
use Rattle.passes.specs.HoldsListing.{HoldsListing, holds_few, holds-length, holds_lines, holds_stmts, holds_args, holds-listed}

-- ---- the contract

-- the reader's tables hold a listing; the others are zero and have room
pub record PrepareReady (lines stmts args entries falls links : List ℕ) (c n : ℕ) : Type 0 where
  pub listing : Listing
  pub holds : HoldsListing listing lines stmts args c n
  pub zero-entries : entries ≡ replicate (length entries) 0
  pub zero-falls : falls ≡ replicate (length falls) 0
  pub zero_links : links ≡ replicate (length links) 0
  pub entries_fit : c * 2 ≤ length entries
  pub falls_fit : n * 3 ≤ length falls
  pub links_fit : n * 64 ≤ length links

-- no statement was lost (27), and the tables say where each leads
pub record PreparedTo (lines stmts args entries falls links : List ℕ) (c n : ℕ) (r : Bool) : Type 0 where
  pub answered : r ≡ true
  pub prepared : (L : Listing) → HoldsListing L lines stmts args c n → LinksPrepared L stmts args entries falls links c n

-- in the build's own arrays: the frames of n nodes, and the dispatched FORs that have a body
pub record FramesMade (stmts falls frames dispatched : List ℕ) (n : ℕ) : Type 0 where
  pub framed : Framed stmts n frames
  pub frames_fit : n * 3 ≤ length frames
  pub listed : dispatched ≡ dispatched_ids stmts falls n

-- ---- each pass, of a listing that the tables hold

pub all-zero : (t : List ℕ) → t ≡ replicate (length t) 0 → AllZero t
all-zero t z q = ap (λ (x : List ℕ). get_or x q 0) z ∙ zeros (length t) q

module _ {L : Listing} {lines stmts args : List ℕ} {c n : ℕ} (h : HoldsListing L lines stmts args c n) where
  -- what link_fors needs
  pub holds-counted : AllCounted stmts n
  holds-counted = rw (holds-length h) (listed-counted stmts args (wire L).nodes (holds-listed h))

  entered : (t u : List ℕ) → t ≡ replicate (length t) 0 → length u ≡ length t → EntriesComputed lines stmts c n t u → u ≡ padded (length u) (entry_rows L.lines)
  entered t u z e p = p L.lines (holds_lines h) (holds_stmts h) z ∙ ap (λ (k : ℕ). padded k (entry_rows L.lines)) (sym e)

  module _ (entries : List ℕ) (held : entries ≡ padded (length entries) (entry_rows L.lines)) where
    rows_held : EntryTable (definition.entries L.lines) entries c
    rows_held = rw h.count_is (entry_table L.lines (length entries) entries h.within.lines held)

    found : (t u : List ℕ) (r : Bool) → t ≡ replicate (length t) 0 → LinesConnected entries stmts c n t u r → r ≡ true
    found t u r z p = (p L.lines h.within.lines rows_held (holds_stmts h) z).done

    falling : (t u : List ℕ) (r : Bool) → t ≡ replicate (length t) 0 → length u ≡ length t → LinesConnected entries stmts c n t u r → u ≡ padded (length u) (fall_rows (wire L).entries (wire L).nodes)
    unfolding wire
    falling t u r z e p = (p L.lines h.within.lines rows_held (holds_stmts h) z).table ∙ ap (λ (k : ℕ). padded k (fall_rows (wire L).entries (wire L).nodes)) (sym e)

    linking : (t u v : List ℕ) → t ≡ replicate (length t) 0 → length v ≡ length t → JumpsLinked entries c stmts args n t u → ForsLinked stmts args n u v → v ≡ link_table (length v) (wire L)
    unfolding link_table wire
    linking t u v z e p q =
        let W = wire L in
        let a : u ≡ linked W.entries (replicate (length v) 0) 0 W.nodes = p L.lines h.within.lines rows_held (holds_stmts h) (holds_args h)
        ∙ ap (λ (x : List ℕ). linked W.entries x 0 W.nodes) (z ∙ ap (λ (k : ℕ). replicate k 0) (sym e)) in
        q W.nodes (holds-listed h) (sym (holds-length h)) ∙ ap (linked_rows 0 W.nodes []) a

-- ---- all passes of prepare

-- an answer is not both
pub never_lost : (x : Bool) → x ≡ true → not x ≡ true → ⊥
never_lost x f e = let z : ◌≡◌ {A = Bool} true false = sym f ∙ not-true x e in let y : ◌≡◌ {A = ℕ} 0 1 = cc in omega arith

module _ {lines stmts args entries falls links : List ℕ} {c n : ℕ} (ready : PrepareReady lines stmts args entries falls links c n)
    {entries' falls' : List ℕ} {ok : Bool} (long_entries : length entries' ≡ length entries) (computed : EntriesComputed lines stmts c n entries entries') (connected : LinesConnected entries' stmts c n falls falls' ok) where
  -- 27 is never answered
  pub none_lost : not ok ≡ true → ⊥
  none_lost e =
      let h = ready.holds in
      never_lost ok (found h entries' (entered h entries entries' ready.zero-entries long_entries computed) falls falls' ok ready.zero-falls connected) e

  pub all_prepared : {links₁ links' : List ℕ} → length falls' ≡ length falls → length links' ≡ length links → JumpsLinked entries' c stmts args n links links₁ → ForsLinked stmts args n links₁ links'
      → PreparedTo lines stmts args entries' falls' links' c n true
  all_prepared {links₁} {links'} long_falls long_links jumps fors =
      record { answered = refl; prepared = λ L h. made L h }
    where
      made : (L : Listing) → HoldsListing L lines stmts args c n → LinksPrepared L stmts args entries' falls' links' c n
      made L h =
          let en = entered h entries entries' ready.zero-entries long_entries computed in
          let fa = falling h entries' en falls falls' ok ready.zero-falls long_falls connected in
          record {
            in_form = h.within.lines;
            lines_are = h.count_is;
            nodes_are = holds-length h;
            few = holds_few h;
            listed = holds-listed h;
            entered = en;
            falling = fa;
            linking = linking h entries' en links links₁ links' ready.zero_links long_links jumps fors;
            stmts_fit = h.stmts_fit;
            args_fit = h.args_fit;
            few_lines = omega (arith, h.count_is, h.within.line_count);
            entries_fit = omega (arith, ready.entries_fit);
            falls_fit = omega (arith, ready.falls_fit);
            links_fit = omega (arith, ready.links_fit);
          }

-- ---- with the frames and the dispatched FORs

-- an array of k zeros
pub zeros_size : (k : ℕ) (t : List ℕ) → t ≡ replicate k 0 → length t ≡ k
zeros_size k t e = ap length e ∙ length-replicate k 0

pub zeros_sized : (k : ℕ) (t : List ℕ) → t ≡ replicate k 0 → t ≡ replicate (length t) 0
zeros_sized k t e = e ∙ ap (λ (j : ℕ). replicate j 0) (sym (zeros_size k t e))

pub with_frames : {L : Listing} {stmts args entries falls links frames dispatched : List ℕ} {c n : ℕ} → LinksPrepared L stmts args entries falls links c n → FramesMade stmts falls frames dispatched n
    → Prepared L stmts args entries falls links frames dispatched c n
with_frames {L} {stmts} {args} {entries} {falls} {links} {frames} {dispatched} {c} {n} p m =
    let W = wire L in
    record {
      in_form = p.in_form;
      lines_are = p.lines_are;
      nodes_are = p.nodes_are;
      few = p.few;
      listed = p.listed;
      entered = p.entered;
      falling = p.falling;
      linking = p.linking;
      framed = m.framed W.nodes (sym p.nodes_are) (λ i s e. (p.listed i s e).word);
      dispatching = m.listed ∙ ap (dispatched_ids stmts falls) p.nodes_are ∙ ids_are stmts args falls W.nodes p.listed (falls-listed W.entries W.nodes (length falls) falls p.falling);
      stmts_fit = p.stmts_fit;
      args_fit = p.args_fit;
      few_lines = p.few_lines;
      entries_fit = p.entries_fit;
      falls_fit = p.falls_fit;
      links_fit = p.links_fit;
      frames_fit = m.frames_fit;
    }
