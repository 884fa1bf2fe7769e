-- Reading the tables of falls and links back, node by node. Assumes nothing.
use Prim.Native.Nat.{ℕ, zero, suc, ◌+◌, ◌*◌, ◌≤◌, ◌<◌}
use Rattle.std.proofs.Math.Path.{◌≡◌, refl, ap}
use Rattle.std.proofs.Common.{sym, ◌∙◌, inl, inr, ⊎_elim, length-set, get_or-set_same, get_or-set_other}
use mathlib.Core.List.{List, [], ◌∷◌}
use Rattle.std.specs.Prelude.{◌⊎◌, set}
use Rattle.std.proofs.Math.Option.{none, some}
use native.Mathlib.Omega.{arith}
use Rattle.std.proofs.Math.ListN.{length, get_or, get_elem?}
use Rattle.std.proofs.lemmas.List.Edits.{sets}
use Rattle.std.proofs.Math.Seq.{length-sets}
use Rattle.listings.specs.Every.{All, all[], all∷}
use Rattle.listings.specs.Listing.{CondWord, Lines}
use Rattle.listings.specs.ListingText.{LinesOk}
use Rattle.listings.specs.Records.{Rec, arg_row, padded}
use Rattle.reader.specs.Tables.{Wide}
use Rattle.reader.specs.ReadBack.{lines_wide}
use Rattle.graph_laws.specs.Adding.{node_number, decode, decode_number}
use Rattle.graph.specs.Lists.{each}
use Rattle.graph.specs.Nodes.{BranchTarget, NodeStmt, simple, cond, Node, Entries, entry_of, nodes}
use Rattle.graph.specs.Targets.{target_entries, branch_edges}
use Rattle.graph_laws.specs.NodeRecords.{Match, match[], match∷, lines_match}
use Rattle.passes.specs.ListedNodes.{FallsListed}
use Rattle.passes.specs.Falls.{stmt_row, fall_row, fall_rows, leads-edges}
use Rattle.passes.specs.FallLaws.{fall_at_lem}
use Rattle.passes.specs.Jumps.{stmt_targets, link_row, linked}
use Rattle.passes.specs.JumpLaws.{link_length, row_few, targets_few}

-- ---- where a node falls, and where its branches lead

module _ (es : Entries) (ns : List Node) (k : ℕ) (table : List ℕ) (held : table ≡ padded k (fall_rows es ns)) (i : ℕ) (n : Node) (e : get_elem? ns i ≡ some n) where
  row_of : (c : ℕ) → c < 3 → get_or table (i * 3 + c) 0 ≡ get_or (fall_row es n) c 0
  unfolding padded
  row_of c h = ap (λ (l : List ℕ). get_or l (i * 3 + c) 0) held ∙ fall_at_lem es ns _ i c n e h

  falls-first : (x : NodeStmt) (f : ℕ) → get_or (stmt_row es f x) 0 0 ≡ f
  unfolding stmt_row
  falls-first (simple o) f = refl
  falls-first (cond w a b) f = refl

  pub fall_of_lem : get_or table (i * 3) 0 ≡ node_number n.fall
  unfolding fall_row
  fall_of_lem = let z : i * 3 ≡ i * 3 + 0 = omega arith in ap (λ (j : ℕ). get_or table j 0) z ∙ row_of 0 (omega arith) ∙ falls-first n.stmt (node_number n.fall)

  module _ (w : CondWord) (x y : BranchTarget) (s : n.stmt ≡ cond w x y) where
    pub first-branch : decode (get_or table (i * 3 + 1) 0) ≡ branch_edges es n.fall x
    unfolding fall_row stmt_row
    first-branch = ap decode (row_of 1 (omega arith) ∙ ap (λ (z : NodeStmt). get_or (stmt_row es (node_number n.fall) z) 1 0) s) ∙ leads-edges es n.fall x

    pub second_branch : decode (get_or table (i * 3 + 2) 0) ≡ branch_edges es n.fall y
    unfolding fall_row stmt_row
    second_branch = ap decode (row_of 2 (omega arith) ∙ ap (λ (z : NodeStmt). get_or (stmt_row es (node_number n.fall) z) 2 0) s) ∙ leads-edges es n.fall y

-- of all nodes
pub falls-listed : (es : Entries) (ns : List Node) (k : ℕ) (table : List ℕ) → table ≡ padded k (fall_rows es ns) → FallsListed table ns
falls-listed es ns k table held i n e = fall_of_lem es ns k table held i n e

-- ---- where the line numbers of a node lead

-- a row's entries give the edges to its targets
pub links_edges : (es : Entries) (ts : List ℕ) → each decode (link_row es ts) ≡ target_entries es ts
unfolding link_row target_entries each
links_edges es [] = refl
links_edges es (t ∷ ts) = rw (decode_number (entry_of es t), links_edges es ts)

-- entry j: where argument j leads
pub link_entry : (es : Entries) (ts : List ℕ) (j : ℕ) → j < length ts → get_or (link_row es ts) j 0 ≡ node_number (entry_of es (get_or ts j 0))
unfolding link_row
link_entry es [] j h = absurd (omega arith)
link_entry es (t ∷ ts) zero h = refl
link_entry es (t ∷ ts) (suc j) h = link_entry es ts j (omega arith)

sets-other : (t : List ℕ) (p : ℕ) (l : List ℕ) (k : ℕ) → (k < p) ⊎ (p + length l ≤ k) → get_or (sets t p l) k 0 ≡ get_or t k 0
sets-other t p [] k h = refl
sets-other t p (a ∷ l) k h =
    sets-other (set t p a) (suc p) l k (⊎_elim (λ (x : k < p). inl (omega arith)) (λ (x : p + suc (length l) ≤ k). inr (omega arith)) h)
    ∙ get_or-set_other t p k a 0 (λ e. ⊎_elim (λ (x : k < p). absurd (omega arith)) (λ (x : p + suc (length l) ≤ k). absurd (omega arith)) h)

sets_here : (t : List ℕ) (p : ℕ) (l : List ℕ) (j : ℕ) → j < length l → p + length l ≤ length t → get_or (sets t p l) (p + j) 0 ≡ get_or l j 0
sets_here t p [] j h g = absurd (omega arith)
sets_here t p (a ∷ l) zero h g =
    let z : p + 0 ≡ p = omega arith in
    rw z (sets-other (set t p a) (suc p) l p (inl (omega arith)) ∙ get_or-set_same t p a 0 (omega arith))
sets_here t p (a ∷ l) (suc j) h g =
    let z : p + suc j ≡ suc p + j = omega arith in
    rw z (sets_here (set t p a) (suc p) l j (omega arith) (simp length-set (omega arith)))

-- an entry of a run of stores depends on that entry and the length alone
same_set : (t u : List ℕ) (p a k : ℕ) → get_or t k 0 ≡ get_or u k 0 → length t ≡ length u → get_or (set t p a) k 0 ≡ get_or (set u p a) k 0
same_set [] [] p a k e h = e
same_set [] (y ∷ u) p a k e h = absurd (omega arith)
same_set (x ∷ t) [] p a k e h = absurd (omega arith)
same_set (x ∷ t) (y ∷ u) zero a zero e h = refl
same_set (x ∷ t) (y ∷ u) zero a (suc k) e h = e
same_set (x ∷ t) (y ∷ u) (suc p) a zero e h = e
same_set (x ∷ t) (y ∷ u) (suc p) a (suc k) e h = same_set t u p a k e (omega arith)

same_entry : (t u : List ℕ) (p : ℕ) (l : List ℕ) (k : ℕ) → get_or t k 0 ≡ get_or u k 0 → length t ≡ length u → get_or (sets t p l) k 0 ≡ get_or (sets u p l) k 0
same_entry t u p [] k e h = e
same_entry t u p (a ∷ l) k e h = same_entry (set t p a) (set u p a) (suc p) l k (same_set t u p a k e h) (length-set t p a ∙ h ∙ sym (length-set u p a))

-- a node's targets fit its row
abbrev pub Few : Node → Type 0
Few n = length (stmt_targets n.stmt) ≤ 64

nodes_few : {i : ℕ} {ns : List Node} {rs : List Rec} → Match i ns rs → Wide arg_row 64 rs → All Few ns
nodes_few match[] a = all[]
nodes_few {i} (match∷ {n = n} {r = r} p ps) (all∷ h hs) = all∷ (targets_few n.stmt i r p.stmt_is (row_few r h)) (nodes_few ps hs)

pub targets_fit : (ls : Lines) → LinesOk ls → All Few (nodes ls)
unfolding nodes
targets_fit ls ok = nodes_few (lines_match none ls) (lines_wide ls ok)

module _ (es : Entries) where
  -- rows before the first are as they were
  linked-before : (t : List ℕ) (i : ℕ) (ns : List Node) (q j : ℕ) → q < i → j < 64 → get_or (linked es t i ns) (q * 64 + j) 0 ≡ get_or t (q * 64 + j) 0
  unfolding linked
  linked-before t i [] q j h g = refl
  linked-before t i (n ∷ ns) q j h g =
      linked-before (sets t (i * 64) (link_row es (stmt_targets n.stmt))) (suc i) ns q j (omega arith) g
      ∙ sets-other t (i * 64) (link_row es (stmt_targets n.stmt)) (q * 64 + j) (inl (omega arith))

  pub linked-length : (t : List ℕ) (i : ℕ) (ns : List Node) → length (linked es t i ns) ≡ length t
  unfolding linked
  linked-length t i [] = refl
  linked-length t i (n ∷ ns) =
      linked-length (sets t (i * 64) (link_row es (stmt_targets n.stmt))) (suc i) ns ∙ length-sets t (i * 64) (link_row es (stmt_targets n.stmt))

  -- row k of those from i on: as if it had been written alone
  linked_row_lem : (t : List ℕ) (i : ℕ) (ns : List Node) (k j : ℕ) (n : Node) → All Few ns → get_elem? ns k ≡ some n → j < 64
      → get_or (linked es t i ns) ((i + k) * 64 + j) 0 ≡ get_or (sets t ((i + k) * 64) (link_row es (stmt_targets n.stmt))) ((i + k) * 64 + j) 0
  unfolding linked
  linked_row_lem t i [] k j n a e g = absurd (let z : ◌≡◌ {A = ℕ} 0 1 = cc in omega arith)
  linked_row_lem t i (m ∷ ns) zero j n (all∷ f fs) e g =
      let q : m ≡ n = cc in
      let z : i + 0 ≡ i = omega arith in
      rw (z, q) (linked-before (sets t (i * 64) (link_row es (stmt_targets n.stmt))) (suc i) ns i j (omega arith) g)
  linked_row_lem t i (m ∷ ns) (suc k) j n (all∷ f fs) e g =
      let L = link_row es (stmt_targets m.stmt) in
      let z : suc i + k ≡ i + suc k = omega arith in
      let s = linked_row_lem (sets t (i * 64) L) (suc i) ns k j n fs e g in
      rw z at s ∙ kept (sets t (i * 64) L) (sets-other t (i * 64) L ((i + suc k) * 64 + j) (inr (omega (arith, link_length es (stmt_targets m.stmt))))) (length-sets t (i * 64) L)
    where
      -- the same row of another table with the same entry there
      kept : (t' : List ℕ) → get_or t' ((i + suc k) * 64 + j) 0 ≡ get_or t ((i + suc k) * 64 + j) 0 → length t' ≡ length t
          → get_or (sets t' ((i + suc k) * 64) (link_row es (stmt_targets n.stmt))) ((i + suc k) * 64 + j) 0
          ≡ get_or (sets t ((i + suc k) * 64) (link_row es (stmt_targets n.stmt))) ((i + suc k) * 64 + j) 0
      kept t' e' el = same_entry t' t ((i + suc k) * 64) (link_row es (stmt_targets n.stmt)) ((i + suc k) * 64 + j) e' el

  module _ (t : List ℕ) (ns : List Node) (few : All Few ns) (i : ℕ) (n : Node) (e : get_elem? ns i ≡ some n) where
    at_row : (j : ℕ) → j < 64 → get_or (linked es t 0 ns) (i * 64 + j) 0 ≡ get_or (sets t (i * 64) (link_row es (stmt_targets n.stmt))) (i * 64 + j) 0
    at_row j h = let z : 0 + i ≡ i = omega arith in rw z at (linked_row_lem t 0 ns i j n few e h)

    -- the entry of the line that argument j names
    pub link_of : (j : ℕ) → j < length (stmt_targets n.stmt) → i * 64 + 64 ≤ length t → length (stmt_targets n.stmt) ≤ 64
        → get_or (linked es t 0 ns) (i * 64 + j) 0 ≡ get_or (link_row es (stmt_targets n.stmt)) j 0
    link_of j h room f =
        let k = link_length es (stmt_targets n.stmt) in
        at_row j (omega arith) ∙ sets_here t (i * 64) (link_row es (stmt_targets n.stmt)) j (omega arith) (omega arith)
