-- The records of a listing lead from each path to the one node that stands there, and from each node up to its line. Assumes nothing.
use Prim.Native.Nat.{ℕ, zero, suc, ◌+◌, ◌*◌, ◌-◌, ◌≤◌, ◌<◌}
use Rattle.std.proofs.Math.Path.{◌≡◌, refl, sym, ap}
use Rattle.std.proofs.Common.{◌∙◌}
use Rattle.std.specs.Prelude.{Bool, ◌&&◌, eqb, get_or}
use Rattle.std.proofs.Math.Bool.{true, false}
use mathlib.Core.List.{List, [], ◌∷◌, ◌++◌, append_assoc, append-nil}
use Rattle.std.proofs.Math.Logic.{inl, inr}
use Rattle.std.proofs.Math.Option.{Option, none, some}
use native.Mathlib.Omega.{arith}
use borrow.Author.Tests.{eq-eqb, eqb-true, lt-ltb, lt-leb}
use Rattle.std.proofs.Math.ListN.{length, get_elem?, length-append}
use Rattle.listings.specs.Bytes.{same, pick}
use Rattle.listing_laws.specs.WordText.{same_equal}
use Rattle.listings.specs.Listing.{Lines, count}
use Rattle.listings.specs.ListingText.{LinesOk}
use Rattle.listings.specs.Records.{line_numbers, line_recs, rec_rows}
use Rattle.graph.specs.Nodes.{Node, nodes_before}
use Rattle.graph.specs.NodeWords.{stmt_word, stmt_number}
use Rattle.passes.specs.Compare.{eq-or, lt-or}
use Rattle.passes.specs.LineEntries.{at_place}
use Rattle.passes.specs.OpenerLaws.{in_range}
use Rattle.passes.specs.Paths.{node_read}
use Rattle.tables.specs.Columns.{word_of, holder_of, index_of, line_of, held_by, path_in}
use Rattle.passes.specs.ListedNodes.{same_self}
use Rattle.graph.specs.Questions.{node_from}
use Rattle.statements.specs.StatementAt.{record_outside, branching_word, stands_at, first_from, child_at, stmt_at, if_found, statement_from, climb, no_statement}
use Rattle.statements.specs.StatementLaws.{other_holder, other_index, under-if, on_line_lem, child_le}
use Rattle.questions.specs.PathNodes.{HeldBy, on_line, in_if, line_below, one_node, node_held}
use Rattle.questions.specs.Words.{word_opens, branching_word_lem}

-- ---- the first that passes

module _ (t : ℕ → Bool) where
  first-is : (k i j : ℕ) → i ≤ j → j < i + k → t j ≡ true → ((m : ℕ) → m < j → t m ≡ true → ⊥) → first_from t k i ≡ suc j
  unfolding first_from
  first-is zero i j h g e f = absurd (omega arith)
  first-is (suc k) i j h g e f = go (t i) refl (λ l. first-is k (suc i) j l (omega arith) e f)
    where
      go : (x : Bool) → t i ≡ x → (suc i ≤ j → first_from t k (suc i) ≡ suc j) → pick x (suc i) (first_from t k (suc i)) ≡ suc j
      go true q r = elim (lt-or i j) [ inl l ↦ absurd (f i l q) | inr l ↦ (let z : i ≡ j = omega arith in ap suc z) ]
      go false q r =
          elim (lt-or i j) [
            | inl l ↦ r l
            | inr l ↦ (let z : i ≡ j = omega arith in let y : true ≡ false = sym e ∙ ap t (sym z) ∙ q in let w : ◌≡◌ {A = ℕ} 0 1 = cc in absurd (omega arith))
          ]

  first_sound : (k i j : ℕ) → first_from t k i ≡ suc j → (t j ≡ true) × (j < i + k)
  unfolding first_from
  first_sound zero i j e = absurd (omega arith)
  first_sound (suc k) i j e = go (t i) refl e (λ q. first_sound k (suc i) j q)
    where
      go : (x : Bool) → t i ≡ x → pick x (suc i) (first_from t k (suc i)) ≡ suc j → (first_from t k (suc i) ≡ suc j → (t j ≡ true) × (j < suc i + k)) → (t j ≡ true) × (j < i + suc k)
      go true q e r = let z : i ≡ j = omega arith in (ap t (sym z) ∙ q, omega arith)
      go false q e r = let s = r e in (s.0, omega (arith, s.1))

-- ---- equal lists

-- ---- what `node_from` finds

pub record Stands (ns : List Node) (line : ℕ) (path : List ℕ) (k : ℕ) : Type 0 where
  pub node : Node
  pub is : get_elem? ns k ≡ some node
  pub line_is : node.line ≡ line
  pub path_is : node.path ≡ path

pub data Sought (ns : List Node) (i line : ℕ) (path : List ℕ) : Option (ℕ × List ℕ) → Type 0 where
  found : (k : ℕ) (s : Stands ns line path k) → Sought ns i line path (some (i + k, stmt_word s.node.stmt))
  missing : ((k : ℕ) → Stands ns line path k → ⊥) → Sought ns i line path none

pub sought : (ns : List Node) (i line : ℕ) (path : List ℕ) → Sought ns i line path (node_from i line path ns)
unfolding node_from
sought [] i line path = missing (λ k s. let z : ◌≡◌ {A = Option Node} none (some s.node) = s.is in let w : ◌≡◌ {A = ℕ} 0 1 = cc in absurd (omega arith))
sought (n ∷ ns) i line path = go (eqb n.line line) (same n.path path) refl refl (node_from (suc i) line path ns) (sought ns (suc i) line path)
  where
    later : (r : Option (ℕ × List ℕ)) → (Stands (n ∷ ns) line path 0 → ⊥) → Sought ns (suc i) line path r → Sought (n ∷ ns) i line path r
    later r f (found k s) =
        let z : i + suc k ≡ suc i + k = omega arith in
        let t : Stands (n ∷ ns) line path (suc k) = record { node = s.node; is = s.is; line_is = s.line_is; path_is = s.path_is } in
        let o : Sought (n ∷ ns) i line path (some (i + suc k, stmt_word s.node.stmt)) = found (suc k) t in
        rw z at o
    later r f (missing g) = missing h
      where
        h : (k : ℕ) → Stands (n ∷ ns) line path k → ⊥
        h zero s = f s
        h (suc k) s = g k (record { node = s.node; is = s.is; line_is = s.line_is; path_is = s.path_is })

    not_line : eqb n.line line ≡ false → Stands (n ∷ ns) line path 0 → ⊥
    not_line q s =
        let m : n ≡ s.node = cc in
        let y : true ≡ false = sym (eq-eqb n.line line (ap (λ (d : Node). d.line) m ∙ s.line_is)) ∙ q in
        let w : ◌≡◌ {A = ℕ} 0 1 = cc in absurd (omega arith)

    not_path : same n.path path ≡ false → Stands (n ∷ ns) line path 0 → ⊥
    not_path q s =
        let m : n ≡ s.node = cc in
        let p : n.path ≡ path = ap (λ (d : Node). d.path) m ∙ s.path_is in
        let y : true ≡ false = sym (same_self path) ∙ ap (λ (l : List ℕ). same l path) (sym p) ∙ q in
        let w : ◌≡◌ {A = ℕ} 0 1 = cc in absurd (omega arith)

    go : (x y : Bool) → eqb n.line line ≡ x → same n.path path ≡ y → (r : Option (ℕ × List ℕ)) → Sought ns (suc i) line path r → Sought (n ∷ ns) i line path (pick (x && y) (some (i, stmt_word n.stmt)) r)
    go true true e f r s =
        let z : i + 0 ≡ i = omega arith in
        let t : Stands (n ∷ ns) line path 0 = record { node = n; is = refl; line_is = eqb-true n.line line e; path_is = same_equal n.path path f } in
        let o : Sought (n ∷ ns) i line path (some (i + 0, stmt_word n.stmt)) = found 0 t in
        rw z at o
    go true false e f r s = later r (not_path f) s
    go false y e f r s = later r (not_line e) s

-- ---- the node at a path, where no record points outside

abbrev if_some : ℕ → (ℕ → ℕ) → ℕ
if_some zero f = 0
if_some (suc i) f = f (suc i)

-- one more than the node at a path, or 0: by each number to what the node found so far holds
unfoldable pub node_at : (stmts : List ℕ) (n line h : ℕ) → List ℕ → ℕ
node_at stmts n line h [] = h
node_at stmts n line h (p ∷ ps) = if_some (child_at stmts n line h p) (λ k. node_at stmts n line k ps)

module _ (stmts : List ℕ) (n line : ℕ) where
  if_self : (c : ℕ) → if_some c (λ k. k) ≡ c
  if_self zero = refl
  if_self (suc c) = refl

  -- one number more
  node_snoc : (h q : ℕ) (qs : List ℕ) (x : ℕ) → node_at stmts n line h (q ∷ (qs ++ (x ∷ []))) ≡ if_some (node_at stmts n line h (q ∷ qs)) (λ k. child_at stmts n line k x)
  unfolding node_at
  node_snoc h q [] x = go (child_at stmts n line h q)
    where
      go : (c : ℕ) → if_some c (λ k. if_some (child_at stmts n line k x) (λ j. j)) ≡ if_some (if_some c (λ k. k)) (λ k. child_at stmts n line k x)
      go zero = refl
      go (suc c) = if_self (child_at stmts n line (suc c) x)
  node_snoc h q (p ∷ qs) x = go (child_at stmts n line h q) (λ c. node_snoc c p qs x)
    where
      go : (c : ℕ) → ((k : ℕ) → node_at stmts n line k (p ∷ (qs ++ (x ∷ []))) ≡ if_some (node_at stmts n line k (p ∷ qs)) (λ j. child_at stmts n line j x))
          → if_some c (λ k. node_at stmts n line k (p ∷ (qs ++ (x ∷ [])))) ≡ if_some (if_some c (λ k. node_at stmts n line k (p ∷ qs))) (λ k. child_at stmts n line k x)
      go zero f = refl
      go (suc c) f = f (suc c)

  from_node_lem : (lines : ℕ) → ((i : ℕ) → i < n → record_outside lines stmts i ≡ false) → (h : ℕ) (ps : List ℕ) → statement_from lines stmts n line h ps ≡ stmt_at stmts (node_at stmts n line h ps)
  unfolding statement_from node_at if_found stmt_at
  from_node_lem lines f h [] = refl
  from_node_lem lines f h (p ∷ ps) = go (child_at stmts n line h p) (child_le stmts n line h p) (λ k. from_node_lem lines f k ps)
    where
      go : (c : ℕ) → c ≤ n → ((k : ℕ) → statement_from lines stmts n line k ps ≡ stmt_at stmts (node_at stmts n line k ps))
          → if_found lines stmts c (λ k. statement_from lines stmts n line k ps) ≡ stmt_at stmts (if_some c (λ k. node_at stmts n line k ps))
      go zero e r = refl
      go (suc i) e r = rw (f i (omega arith)) (r (suc i))

-- ---- down a path

stands_true : (stmts : List ℕ) (line h p i : ℕ) → stands_at stmts line h p i ≡ true → (holder_of stmts i ≡ h) × (index_of stmts i ≡ p) × (h ≡ 0 → line_of stmts i ≡ line)
stands_true stmts line h p i e =
    elim (eq-or (holder_of stmts i) h) [
      | inr f ↦ absurd (no (other_holder stmts line h p i f))
      | inl a ↦ elim (eq-or (index_of stmts i) p) [
        | inr f ↦ absurd (no (other_index stmts line h p i a f))
        | inl b ↦ (a, b, λ z. eqb-true (line_of stmts i) line (on_line_lem stmts line h p i a b z ∙ e))
      ]
    ]
  where
    no : false ≡ stands_at stmts line h p i → ⊥
    no f = let y : false ≡ true = f ∙ e in let w : ◌≡◌ {A = ℕ} 0 1 = cc in absurd (omega arith)

module _ (lines : ℕ) (stmts : List ℕ) (ns : List Node) where
  -- what the records say of these nodes
  pub record Recorded : Type 0 where
    pub one : (i j : ℕ) (a b : Node) → get_elem? ns i ≡ some a → get_elem? ns j ≡ some b → a.line ≡ b.line → a.path ≡ b.path → i ≡ j
    pub held : (i : ℕ) (d : Node) → get_elem? ns i ≡ some d → HeldBy (λ j. get_elem? ns j) (holder_of stmts i) (index_of stmts i) i d
    pub lined : (i : ℕ) (d : Node) → get_elem? ns i ≡ some d → line_of stmts i ≡ d.line
    pub below : (i : ℕ) (d : Node) → get_elem? ns i ≡ some d → d.line < lines
    pub worded : (i : ℕ) (d : Node) → get_elem? ns i ≡ some d → get_or stmts (i * 12) 0 ≡ stmt_number d.stmt
    pub short : (i : ℕ) (d : Node) → get_elem? ns i ≡ some d → length d.path ≤ 17

module _ (lines : ℕ) (stmts : List ℕ) (ns : List Node) (R : Recorded lines stmts ns) where
  both : (j : ℕ) (a b : Node) → get_elem? ns j ≡ some a → get_elem? ns j ≡ some b → a ≡ b
  both j a b e f = let q : some a ≡ some b = sym e ∙ f in let r : a ≡ b = cc in r

  -- one place, one node
  spot : (i j : ℕ) (a b : Node) → get_elem? ns i ≡ some a → get_elem? ns j ≡ some b → holder_of stmts i ≡ holder_of stmts j → index_of stmts i ≡ index_of stmts j → (holder_of stmts j ≡ 0 → line_of stmts i ≡ line_of stmts j) → i ≡ j
  spot i j a b e f g h l = go (R.held i a e) (R.held j b f)
    where
      go : HeldBy (λ k. get_elem? ns k) (holder_of stmts i) (index_of stmts i) i a → HeldBy (λ k. get_elem? ns k) (holder_of stmts j) (index_of stmts j) j b → i ≡ j
      go (on_line x p) (on_line y q) = R.one i j a b e f (sym (R.lined i a e) ∙ l y ∙ R.lined j b f) (p ∙ ap (λ (k : ℕ). k ∷ []) h ∙ sym q)
      go (on_line x p) (in_if k m u o v y w q) = absurd (omega (arith, x, y, g))
      go (in_if k m u o v y w q) (on_line x p) = absurd (omega (arith, x, y, g))
      go (in_if k m u o v y w q) (in_if k' m' u' o' v' y' w' q') =
          let z : k ≡ k' = omega (arith, y, y', g) in
          let c : m ≡ m' = both k m m' u (ap (λ (o : ℕ). get_elem? ns o) z ∙ u') in
          R.one i j a b e f (sym w ∙ ap (λ (d : Node). d.line) c ∙ w') (q ∙ ap (λ (d : Node). d.path ++ (index_of stmts i ∷ [])) c ∙ ap (λ (o : ℕ). m'.path ++ (o ∷ [])) h ∙ sym q')

  child_is : (i : ℕ) (d : Node) → get_elem? ns i ≡ some d → (h x : ℕ) → holder_of stmts i ≡ h → index_of stmts i ≡ x → child_at stmts (length ns) d.line h x ≡ suc i
  unfolding child_at word_of
  child_is i d e h x a b =
      first-is (stands_at stmts d.line h x) (length ns) 0 i (omega arith) (omega (arith, in_range ns i d e)) here
      (λ m l q.
      let s = stands_true stmts d.line h x m q in
      let p = at_place ns m (omega (arith, l, in_range ns i d e)) in
      absurd (omega (arith, l, spot m i p.0 d p.1 e (s.0 ∙ sym a) (s.1 ∙ sym b) (λ z. s.2 (sym a ∙ z) ∙ sym (R.lined i d e)))))
    where
      in_if_here : HeldBy (λ j. get_elem? ns j) (holder_of stmts i) (index_of stmts i) i d → (h ≡ 0 → ⊥) → branching_word (word_of stmts (h - 1)) ≡ true
      in_if_here (on_line y p) f = absurd (f (sym a ∙ y))
      in_if_here (in_if j m u o v y w q) f =
          let z : h - 1 ≡ j = omega (arith, a, y) in
          ap (λ (k : ℕ). branching_word (word_of stmts k)) z ∙ ap branching_word (R.worded j m u) ∙ branching_word_lem m.stmt o

      here : stands_at stmts d.line h x i ≡ true
      here =
          elim (eq-or h 0) [
            | inl z ↦ sym (on_line_lem stmts d.line h x i a b z) ∙ eq-eqb (line_of stmts i) d.line (R.lined i d e)
            | inr f ↦ sym (under-if stmts d.line h x i a b (h - 1) (omega arith)) ∙ in_if_here (R.held i d e) f
          ]

  node_on : (line : ℕ) (ps : List ℕ) (j x : ℕ) → node_at stmts (length ns) line 0 ps ≡ suc j → node_at stmts (length ns) line 0 (ps ++ (x ∷ [])) ≡ child_at stmts (length ns) line (suc j) x
  unfolding node_at
  node_on line [] j x e = absurd (omega arith)
  node_on line (q ∷ qs) j x e = node_snoc stmts (length ns) line 0 q qs x ∙ ap (λ (z : ℕ). if_some z (λ k. child_at stmts (length ns) line k x)) e

  -- "every node's path leads back to it"
  leads : (k i : ℕ) (d : Node) → i < k → get_elem? ns i ≡ some d → node_at stmts (length ns) d.line 0 d.path ≡ suc i
  unfolding node_at
  leads zero i d h e = absurd (omega arith)
  leads (suc k) i d h e = go (R.held i d e) (λ j m l f. leads k j m l f)
    where
      go : HeldBy (λ j. get_elem? ns j) (holder_of stmts i) (index_of stmts i) i d → ((j : ℕ) (m : Node) → j < k → get_elem? ns j ≡ some m → node_at stmts (length ns) m.line 0 m.path ≡ suc j) → node_at stmts (length ns) d.line 0 d.path ≡ suc i
      go (on_line a p) f = ap (λ (l : List ℕ). node_at stmts (length ns) d.line 0 l) p ∙ ap (λ (c : ℕ). if_some c (λ o. o)) (child_is i d e 0 (index_of stmts i) a refl)
      go (in_if j m u o v y w q) f =
          ap (λ (l : List ℕ). node_at stmts (length ns) d.line 0 l) q
          ∙ node_on d.line m.path j (index_of stmts i) (ap (λ (o : ℕ). node_at stmts (length ns) o 0 m.path) (sym w) ∙ f j m (omega arith) u)
          ∙ child_is i d e (suc j) (index_of stmts i) y refl

  pub leads_back : (i : ℕ) (d : Node) → get_elem? ns i ≡ some d → node_at stmts (length ns) d.line 0 d.path ≡ suc i
  leads_back i d e = leads (suc i) i d (omega arith) e

  -- what stands for the path q so far
  data Spot (line h : ℕ) (q : List ℕ) : Type 0 where
    start : h ≡ 0 → q ≡ [] → Spot line h q
    node : (j : ℕ) → h ≡ suc j → Stands ns line q j → Spot line h q

  below_spot : (line h p j : ℕ) (q : List ℕ) (d : Node) → get_elem? ns j ≡ some d → Spot line h q → stands_at stmts line h p j ≡ true → Stands ns line (q ++ (p ∷ [])) j
  below_spot line h p j q d e s t = go s (R.held j d e) (stands_true stmts line h p j t)
    where
      go : Spot line h q → HeldBy (λ k. get_elem? ns k) (holder_of stmts j) (index_of stmts j) j d → (holder_of stmts j ≡ h) × (index_of stmts j ≡ p) × (h ≡ 0 → line_of stmts j ≡ line) → Stands ns line (q ++ (p ∷ [])) j
      go (start a b) (on_line x y) w =
          record { node = d; is = e; line_is = sym (R.lined j d e) ∙ w.2 a; path_is = y ∙ ap (λ (o : ℕ). o ∷ []) w.1 ∙ ap (λ (l : List ℕ). l ++ (p ∷ [])) (sym b) }
      go (start a b) (in_if k m u o v y l r) w = absurd (omega (arith, a, y, w.0))
      go (node k a s) (on_line x y) w = absurd (omega (arith, a, x, w.0))
      go (node k a s) (in_if k' m u o v y l r) w =
          let z : k' ≡ k = omega (arith, a, y, w.0) in
          let c : m ≡ s.node = both k' m s.node u (ap (λ (o : ℕ). get_elem? ns o) z ∙ s.is) in
          record {
            node = d;
            is = e;
            line_is = sym l ∙ ap (λ (o : Node). o.line) c ∙ s.line_is;
            path_is = r ∙ ap (λ (o : List ℕ). o ++ (index_of stmts j ∷ [])) (ap (λ (o : Node). o.path) c ∙ s.path_is) ∙ ap (λ (o : ℕ). q ++ (o ∷ [])) w.1;
          }

  sound : (line h : ℕ) (q ps : List ℕ) (i : ℕ) → Spot line h q → node_at stmts (length ns) line h ps ≡ suc i → Stands ns line (q ++ ps) i
  unfolding node_at child_at
  sound line h q [] i (start a b) e = absurd (omega arith)
  sound line h q [] i (node j a s) e = let z : j ≡ i = omega arith in rw (← z, append-nil q) s
  sound line h q (p ∷ ps) i s e = go (child_at stmts (length ns) line h p) refl e (λ k t f. sound line k (q ++ (p ∷ [])) ps i t f)
    where
      go : (c : ℕ) → child_at stmts (length ns) line h p ≡ c → if_some c (λ k. node_at stmts (length ns) line k ps) ≡ suc i
          → ((k : ℕ) → Spot line k (q ++ (p ∷ [])) → node_at stmts (length ns) line k ps ≡ suc i → Stands ns line ((q ++ (p ∷ [])) ++ ps) i) → Stands ns line (q ++ (p ∷ ps)) i
      go zero f e r = absurd (omega arith)
      go (suc j) f e r =
          let t = first_sound (stands_at stmts line h p) (length ns) 0 j f in
          let d = at_place ns j (omega (arith, t.1)) in
          let b = below_spot line h p j q d.0 d.1 s t.0 in
          rw (append_assoc q (p ∷ []) ps) at (r (suc j) (node j refl b) e)

  pub stands_there : (line : ℕ) (path : List ℕ) (i : ℕ) → node_at stmts (length ns) line 0 path ≡ suc i → Stands ns line path i
  stands_there line path i e = sound line 0 [] path i (start refl refl) e

  record_in : (i : ℕ) (d : Node) → get_elem? ns i ≡ some d → record_outside lines stmts i ≡ false
  unfolding record_outside word_of
  record_in i d e = rw (R.worded i d e, word_opens d.stmt, R.lined i d e) (lt-leb lines d.line (R.below i d e))

  pub by_node_at : (line : ℕ) (path : List ℕ) → statement_from lines stmts (length ns) line 0 path ≡ stmt_at stmts (node_at stmts (length ns) line 0 path)
  by_node_at line path = from_node_lem stmts (length ns) line lines (λ i l. let p = at_place ns i l in record_in i p.0 p.1) 0 path

  -- ---- up by the holders

  some_path : (i : ℕ) (d : Node) → get_elem? ns i ≡ some d → 0 < length d.path
  some_path i d e = go (R.held i d e)
    where
      go : HeldBy (λ j. get_elem? ns j) (holder_of stmts i) (index_of stmts i) i d → 0 < length d.path
      go (on_line a p) = omega (arith, ap length p)
      go (in_if j m u o v y w q) = omega (arith, ap length q, length-append m.path (index_of stmts i ∷ []))

  climb_is : (k i : ℕ) (d : Node) → get_elem? ns i ≡ some d → length d.path ≤ suc k → climb lines stmts (length ns) k (holder_of stmts i) ≡ 0
  unfolding climb word_of
  climb_is zero i d e h = go (R.held i d e)
    where
      go : HeldBy (λ j. get_elem? ns j) (holder_of stmts i) (index_of stmts i) i d → climb lines stmts (length ns) 0 (holder_of stmts i) ≡ 0
      go (on_line a p) = rw a refl
      go (in_if j m u o v y w q) = absurd (omega (arith, some_path j m u, h, ap length q, length-append m.path (index_of stmts i ∷ [])))
  climb_is (suc k) i d e h = go (R.held i d e) (λ j m f l. climb_is k j m f l)
    where
      go : HeldBy (λ j. get_elem? ns j) (holder_of stmts i) (index_of stmts i) i d → ((j : ℕ) (m : Node) → get_elem? ns j ≡ some m → length m.path ≤ suc k → climb lines stmts (length ns) k (holder_of stmts j) ≡ 0)
          → climb lines stmts (length ns) (suc k) (holder_of stmts i) ≡ 0
      go (on_line a p) f = rw a refl
      go (in_if j m u o v y w q) f =
          rw (y, lt-ltb j (length ns) (in_range ns j m u), record_in j m u, R.worded j m u, branching_word_lem m.stmt o)
          (f j m u (omega (arith, h, ap length q, length-append m.path (index_of stmts i ∷ []))))

  -- each node has a statement
  pub stated : (i : ℕ) (d : Node) → get_elem? ns i ≡ some d → no_statement lines stmts (length ns) i ≡ 0
  unfolding no_statement
  stated i d e = rw (record_in i d e) (climb_is 16 i d e (R.short i d e))

-- ---- the tables that hold a listing

path_short : (stmts : List ℕ) (k i : ℕ) → length (path_in stmts k i) ≤ suc k
unfolding path_in
path_short stmts zero i = omega arith
path_short stmts (suc k) i = go (holder_of stmts i) (λ h. path_short stmts k h)
  where
    go : (h : ℕ) → ((j : ℕ) → length (path_in stmts k j) ≤ suc k) → length (held_by (λ j. path_in stmts k j) h ++ (index_of stmts i ∷ [])) ≤ suc (suc k)
    go zero f = omega arith
    go (suc h) f = omega (arith, f h, length-append (path_in stmts k h) (index_of stmts i ∷ []))

pub recorded_by : (ls : Lines) → LinesOk ls → (lines stmts more rest : List ℕ) → lines ≡ line_numbers ls ++ more → stmts ≡ rec_rows (line_recs ls) ++ rest → Recorded (count ls) stmts (nodes_before none ls)
recorded_by ls ok lines stmts more rest el es =
    let r = node_read ls ok lines stmts more rest el es in
    record {
      one = one_node ls;
      held = node_held ls stmts rest es;
      lined = λ i d e. (r i d e).line_is;
      below = line_below ls;
      worded = λ i d e. (r i d e).word_is;
      short = λ i d e. omega (arith, path_short stmts 16 i, ap length (r i d e).path_is);
    }
