-- The tables that the passes leave say what each node is to a call. Assumes nothing.
use Prim.Native.Nat.{ℕ, ◌+◌, ◌*◌, ◌≤◌, ◌<◌}
use Rattle.std.proofs.Math.Path.{◌≡◌, refl, sym, ap}
use Rattle.std.proofs.Common.{◌∙◌, length-drop, ext_get_or, length-take-le}
use Rattle.std.specs.Prelude.{Bool, drop, replicate}
use Rattle.std.proofs.Math.Bool.{true, false}
use mathlib.Core.List.{List, [], ◌∷◌, ◌++◌}
use Rattle.std.proofs.Math.Option.{Option, some}
use native.Mathlib.Omega.{arith}
use Rattle.std.proofs.lemmas.Bool.{eqb-false}
use Rattle.std.proofs.Math.Dec.{eqb}
use Rattle.std.proofs.Math.ListN.{length, get_or, get_elem?, take}
use Rattle.std.proofs.lemmas.List.{length-replicate}
use Rattle.std.proofs.Math.Seq.{get_or-take, get_or-drop}
use Rattle.listings.specs.Bytes.{pick, same, bytes}
use Rattle.listings.specs.Listing.{goto, gosub, runto, ongoto, ongosub, BlockWord, BareWord, return, run, clr, stop, any, jump, on, for, next, block, bare, if, ifelse, rcomp, Listing}
use Rattle.listings.specs.ListingText.{simple_word, cond_word}
use Rattle.listings.specs.Rows.{opening_words}
use Rattle.listings.specs.WordTable.{words, first, word_index}
use Rattle.listing_laws.specs.WordKinds.{block_never}
use Rattle.listings.specs.Records.{args_of}
use Rattle.graph.specs.Lists.{add_all, each, list}
use Rattle.graph_laws.specs.Adding.{node_number, decode, decode_number}
use Rattle.graph_laws.specs.Members.{all-at}
use Rattle.graph.specs.Nodes.{NodeStmt, simple, cond, Node, Entries, entry_of}
use Rattle.graph_laws.specs.NodeLaws.{entry_fits}
use Rattle.graph.specs.NodeWords.{stmt_word, stmt_number}
use Rattle.graph.specs.Targets.{on_simple, on_next, orphan_edges, dispatch_targets}
use Rattle.graph.specs.Edges.{no_moves, moves_of, node_moves, own_simple, own, loop_stack, do_stack}
use Rattle.graph.specs.Graph.{Role, call, returns, forgets, steps, simple_role, stmt_role, wire, role_of, role, fall_of, fall_from, base, continuation_by, continuation, callees_by, callees, skip_steps_by, skip_steps}
use Rattle.graph_laws.specs.GraphLaws.{entry_ids, fall_below}
use Rattle.graph_laws.specs.PerNode.{no_openers, Fact, facts, fall_at, body_met, late, per_node}
use Rattle.graph_laws.specs.PerNodeLaws.{length-facts}
use Rattle.graph_laws.specs.Theorems.{facts_of, lists_per_node}
use Rattle.passes.specs.OpenerLaws.{some_at, stmt_at_lem}
use Rattle.passes.specs.ListedNodes.{StmtListed}
use Rattle.passes.specs.Jumps.{jump_targets, stmt_targets, link_row, linked}
use Rattle.passes.specs.JumpLaws.{link_length}
use Rattle.passes.specs.ForLinkLaws.{other_links}
use Rattle.passes.specs.TableReads.{fall_of_lem, links_edges, link_entry, targets_fit, linked-length, link_of}
use Rattle.passes.specs.Prepared.{link_table, Prepared, is_call, is_return, link_entries, Roles}
use Rattle.tables.specs.Columns.{call_word, word_of, fall_entry}
use Rattle.passes.specs.ClosingLaws.{number_below}

-- ---- calls, RETURNs, and the others

-- such a role calls nothing and goes to all successors
record Passes (q : Role) : Type 0 where
  no_call : is_call q ≡ false
  no_return : is_return q ≡ false
  no_continuation : (e : Option ℕ) → continuation_by q e ≡ []
  no_callees : (es : Entries) → callees_by es q ≡ []
  goes : (e : Option ℕ) (l : List ℕ) → skip_steps_by q e l ≡ l

forgets_pass : Passes forgets
unfolding is_call is_return continuation_by callees_by skip_steps_by
forgets_pass = record { no_call = refl; no_return = refl; no_continuation = λ e. refl; no_callees = λ es. refl; goes = λ e l. refl }

steps_pass : Passes steps
unfolding is_call is_return continuation_by callees_by skip_steps_by
steps_pass = record { no_call = refl; no_return = refl; no_continuation = λ e. refl; no_callees = λ es. refl; goes = λ e l. refl }

data CallKind : NodeStmt → Role → Type 0 where
  is_gosub : (t : ℕ) → CallKind (simple (jump gosub t)) (call false (t ∷ []))
  is_on_gosub : (ts : List ℕ) → CallKind (simple (on ongosub ts)) (call true ts)
  is_back : CallKind (simple (bare return)) returns
  is_other : {s : NodeStmt} {q : Role} → call_word (stmt_number s) ≡ false → eqb (stmt_number s) 9 ≡ false → Passes q → CallKind s q

forget : {s : NodeStmt} → call_word (stmt_number s) ≡ false → eqb (stmt_number s) 9 ≡ false → CallKind s forgets
forget a b = is_other a b forgets_pass

step : {s : NodeStmt} → call_word (stmt_number s) ≡ false → eqb (stmt_number s) 9 ≡ false → CallKind s steps
step a b = is_other a b steps_pass

block_kind : (w : BlockWord) → CallKind (simple (block w)) steps
unfolding call_word stmt_number stmt_word simple_word
block_kind w = step (block_never call_word refl w) (block_never (λ k. eqb k 9) refl w)

call_kind : (s : NodeStmt) → CallKind s (stmt_role s)
unfolding stmt_role simple_role call_word stmt_number stmt_word simple_word cond_word word_index words first same bytes opening_words
call_kind (simple (jump gosub t)) = is_gosub t
call_kind (simple (on ongosub ts)) = is_on_gosub ts
call_kind (simple (bare return)) = is_back
call_kind (simple (bare run)) = forget refl refl
call_kind (simple (jump runto t)) = forget refl refl
call_kind (simple (bare clr)) = forget refl refl
call_kind (simple (jump goto t)) = step refl refl
call_kind (simple (on ongoto ts)) = step refl refl
call_kind (simple (for v t)) = step refl refl
call_kind (simple (next m ss)) = step refl refl
call_kind (simple (block w)) = block_kind w
call_kind (simple (bare stop)) = step refl refl
call_kind (simple (bare any)) = step refl refl
call_kind (simple (bare BareWord.plain)) = step refl refl
call_kind (cond if a b) = step refl refl
call_kind (cond ifelse a b) = step refl refl
call_kind (cond rcomp a b) = step refl refl

-- a call moves no stack
pub call_moves : (s : NodeStmt) → call_word (stmt_number s) ≡ true → node_moves s ≡ no_moves
unfolding node_moves moves_of
call_moves s h = go s (stmt_role s) (call_kind s) h
  where
    go : (s : NodeStmt) (q : Role) → CallKind s q → call_word (stmt_number s) ≡ true → node_moves s ≡ no_moves
    go s q (is_gosub t) h = refl
    go s q (is_on_gosub ts) h = refl
    go s q is_back h = refl
    go s q (is_other a b p) h = absurd (let y : ◌≡◌ {A = Bool} true false = sym h ∙ a in let z : ◌≡◌ {A = ℕ} 0 1 = cc in omega arith)

pub gosub_number : (t : ℕ) → stmt_number (simple (jump gosub t)) ≡ 8
unfolding stmt_number stmt_word simple_word word_index words first same bytes opening_words
gosub_number t = refl

pub ongosub_number : (ts : List ℕ) → stmt_number (simple (on ongosub ts)) ≡ 12
unfolding stmt_number stmt_word simple_word word_index words first same bytes opening_words
ongosub_number ts = refl

pub return_number : stmt_number (simple (bare return)) ≡ 9
unfolding stmt_number stmt_word simple_word word_index words first same bytes opening_words
return_number = refl

no_args : (stmts args : List ℕ) (i : ℕ) (s : NodeStmt) (q : Role) → CallKind s q → get_or stmts (i * 12) 0 ≡ stmt_number s → StmtListed stmts args i s → get_or stmts (i * 12) 0 ≡ 9 → (j : ℕ) → j < 64 → get_or args (i * 64 + j) 0 ≡ 0
unfolding args_of
no_args stmts args i s q (is_gosub t) e h w j b = absurd (omega (arith, gosub_number t))
no_args stmts args i s q (is_on_gosub ts) e h w j b = absurd (omega (arith, ongosub_number ts))
no_args stmts args i s q is_back e h w j b = h.args j b
no_args stmts args i s q (is_other a r p) e h w j b = absurd (eqb-false (stmt_number s) 9 r (sym e ∙ w))

-- ---- a row of links

module _ {L : Listing} {stmts args entries falls links frames dispatched : List ℕ} {lines n : ℕ} (p : Prepared L stmts args entries falls links frames dispatched lines n) (i : ℕ) (node : Node) (at : get_elem? (wire L).nodes i ≡ some node) (lt : i < n) where
  fact : (f : Fact) × (get_elem? (facts 0 (wire L).nodes no_openers) i ≡ some f)
  fact = some_at (facts 0 (wire L).nodes no_openers) i (omega (arith, length-facts 0 (wire L).nodes no_openers, p.nodes_are))

  pub fall_entry_lem : get_or falls (i * 3) 0 ≡ node_number node.fall
  fall_entry_lem = fall_of_lem (wire L).entries (wire L).nodes (length falls) falls p.falling i node at

  -- the row of a node that is no NEXT is as the jumps left it
  module _ (other : stmt_number node.stmt ≡ 14 → ⊥) where
    abbrev jumps : List ℕ
    jumps = linked (wire L).entries (replicate (length links) 0) 0 (wire L).nodes

    jumps_long : length jumps ≡ length links
    jumps_long = linked-length (wire L).entries (replicate (length links) 0) 0 (wire L).nodes ∙ length-replicate {A = ℕ} (length links) 0

    row_kept : take 64 (drop (i * 64) links) ≡ take 64 (drop (i * 64) jumps)
    unfolding link_table
    row_kept =
        let room : length (wire L).nodes * 64 ≤ length jumps = omega (arith, jumps_long, p.links_fit, p.nodes_are) in
        let same : fact.0.stmt ≡ node.stmt = stmt_at_lem loop_stack (wire L).nodes i node fact.0 at fact.1 in
        ap (λ (x : List ℕ). take 64 (drop (i * 64) x)) p.linking ∙ other_links stmts args (wire L).nodes p.listed jumps room i fact.0 fact.1 (λ e. other (sym (ap stmt_number same) ∙ e))

    few : length (stmt_targets node.stmt) ≤ 64
    unfolding wire
    few = all-at (targets_fit L.lines p.in_form) i node at

    -- where argument j leads
    pub link_at : (j : ℕ) → j < length (stmt_targets node.stmt) → get_or links (i * 64 + j) 0 ≡ get_or (link_row (wire L).entries (stmt_targets node.stmt)) j 0
    unfolding wire
    link_at j h =
        let g : j < 64 = omega (arith, few) in
        let room : i * 64 + 64 ≤ length {A = ℕ} (replicate (length links) 0) = rw (length-replicate {A = ℕ} (length links) 0) (omega (arith, p.links_fit)) in
        sym (get_or-drop (i * 64) links j 0) ∙ sym (get_or-take 64 (drop (i * 64) links) j 0 g) ∙ ap (λ (x : List ℕ). get_or x j 0) row_kept
        ∙ get_or-take 64 (drop (i * 64) jumps) j 0 g ∙ get_or-drop (i * 64) jumps j 0
        ∙ link_of (wire L).entries (replicate (length links) 0) (wire L).nodes (targets_fit L.lines p.in_form) i node at j h room few

    -- all of them
    pub links_are : take (length (stmt_targets node.stmt)) (drop (i * 64) links) ≡ link_row (wire L).entries (stmt_targets node.stmt)
    links_are =
        let ts = stmt_targets node.stmt in
        let c : length (take (length ts) (drop (i * 64) links)) ≡ length ts = length-take-le (length ts) (drop (i * 64) links) (simp length-drop (omega (arith, few, p.links_fit))) in
        ext_get_or 0 (take (length ts) (drop (i * 64) links)) (link_row (wire L).entries ts) (c ∙ sym (link_length (wire L).entries ts)) (λ j h.
        let g : j < length ts = omega (arith, c) in
        get_or-take (length ts) (drop (i * 64) links) j 0 g ∙ get_or-drop (i * 64) links j 0 ∙ link_at j g)

    pub links_fit : (j : ℕ) → j < length (stmt_targets node.stmt) → get_or links (i * 64 + j) 0 ≤ n
    links_fit j h =
        let ts = stmt_targets node.stmt in
        let t = get_or ts j 0 in
        omega (arith, link_at j h, link_entry (wire L).entries ts j h, number_below (length (wire L).nodes) (entry_of (wire L).entries t) (entry_fits (length (wire L).nodes) (entry_ids L) t), p.nodes_are)

-- ---- one node

-- RETURN has no edges by the rules
return_base : (L : Listing) (i : ℕ) (f : Fact) → get_elem? (facts_of L) i ≡ some f → f.stmt ≡ simple (bare return) → base (wire L) i ≡ []
unfolding per_node own own_simple late node_moves moves_of no_moves orphan_edges on_simple on_next add_all
return_base L i f h e = lists_per_node L i f h ∙ ap (add_all []) (go f.stmt e)
  where
    go : (s : NodeStmt) → s ≡ simple (bare return)
        → own (wire L).entries s f.fall (each (fall_at (facts_of L)) f.popped) (body_met (facts_of L) f.loop_met)
        ++ (late loop_stack (facts_of L) i (node_moves s).loops f.loop_met ++ (late do_stack (facts_of L) i (node_moves s).dos f.do_met ++ orphan_edges (dispatch_targets (wire L).nodes) s)) ≡ []
    go s q = rw q refl

-- what node i is to a call: its role q, where it falls, its list by the rules
record NodeRole (es : Entries) (stmts falls links : List ℕ) (n i : ℕ) (q : Role) (e : Option ℕ) (l : List ℕ) : Type 0 where
  calling : call_word (word_of stmts i) ≡ is_call q
  returning : eqb (word_of stmts i) 9 ≡ is_return q
  continuing : continuation_by q e ≡ pick (call_word (word_of stmts i)) (fall_entry falls i) []
  targets : callees_by es q ≡ pick (call_word (word_of stmts i)) (link_entries stmts links i) []
  skipping : skip_steps_by q e l ≡ pick (call_word (word_of stmts i)) (fall_entry falls i) (pick (eqb (word_of stmts i) 9) [] l)
  returns_none : eqb (word_of stmts i) 9 ≡ true → l ≡ []
  few_targets : call_word (word_of stmts i) ≡ true → get_or stmts (i * 12 + 10) 0 ≤ 64
  link_fits : call_word (word_of stmts i) ≡ true → (j : ℕ) → j < get_or stmts (i * 12 + 10) 0 → get_or links (i * 64 + j) 0 ≤ n

module _ (es : Entries) (stmts falls links : List ℕ) (n i : ℕ) (e : Option ℕ) (l : List ℕ) (fall : get_or falls (i * 3) 0 ≡ node_number e) where
  abbrev RowIs : List ℕ → Type 0
  RowIs ts = (take (length ts) (drop (i * 64) links) ≡ link_row es ts) × ((j : ℕ) → j < length ts → get_or links (i * 64 + j) 0 ≤ n)

  call_role : (m : Bool) (ts : List ℕ) (w : ℕ) → get_or stmts (i * 12) 0 ≡ w → call_word w ≡ true → eqb w 9 ≡ false → get_or stmts (i * 12 + 10) 0 ≡ length ts → length ts ≤ 64 → RowIs ts
      → NodeRole es stmts falls links n i (call m ts) e l
  unfolding word_of is_call is_return continuation_by callees_by skip_steps_by fall_entry link_entries
  call_role m ts w a c r k few row =
      let d : list e ≡ decode (get_or falls (i * 3) 0) = sym (ap decode fall ∙ decode_number e) in
      let no : (eqb (get_or stmts (i * 12) 0) 9 ≡ true → ⊥) = λ y. let z : ◌≡◌ {A = Bool} true false = sym y ∙ ap (λ (x : ℕ). eqb x 9) a ∙ r in absurd (let v : ◌≡◌ {A = ℕ} 0 1 = cc in omega arith) in
      record {
        calling = rw (a, c);
        returning = rw (a, r);
        continuing = rw (a, c) d;
        targets = rw (a, c, k) (sym (ap (each decode) row.0 ∙ links_edges es ts));
        skipping = rw (a, c) d;
        returns_none = λ y. absurd (no y);
        few_targets = λ y. omega arith;
        link_fits = λ y j h. row.1 j (omega arith);
      }

  back_role : get_or stmts (i * 12) 0 ≡ 9 → l ≡ [] → NodeRole es stmts falls links n i returns e l
  unfolding word_of call_word is_call is_return continuation_by callees_by skip_steps_by
  back_role a z =
      record {
        calling = rw a;
        returning = rw a;
        continuing = rw a;
        targets = rw a;
        skipping = rw a;
        returns_none = λ y. z;
        few_targets = λ y. absurd (none_called (rw a at y));
        link_fits = λ y. absurd (none_called (rw a at y));
      }
    where
      none_called : ◌≡◌ {A = Bool} false true → ⊥
      none_called y = let v : ◌≡◌ {A = ℕ} 0 1 = cc in omega arith

  other-role : (q : Role) → Passes q → (w : ℕ) → get_or stmts (i * 12) 0 ≡ w → call_word w ≡ false → eqb w 9 ≡ false → NodeRole es stmts falls links n i q e l
  unfolding word_of
  other-role q p w a c r =
      record {
        calling = rw (a, c) (sym p.no_call);
        returning = rw (a, r) (sym p.no_return);
        continuing = rw (a, c) (p.no_continuation e);
        targets = rw (a, c) (p.no_callees es);
        skipping = rw (a, c, r) (p.goes e l);
        returns_none = λ y. absurd (never (λ x. eqb x 9) r y);
        few_targets = λ y. absurd (never call_word c y);
        link_fits = λ y. absurd (never call_word c y);
      }
    where
      never : (f : ℕ → Bool) → f w ≡ false → f (get_or stmts (i * 12) 0) ≡ true → ⊥
      never f h y = let z : ◌≡◌ {A = Bool} true false = sym y ∙ ap f a ∙ h in let v : ◌≡◌ {A = ℕ} 0 1 = cc in omega arith

  node_role : (args : List ℕ) (s : NodeStmt) (q : Role) → CallKind s q → get_or stmts (i * 12) 0 ≡ stmt_number s → StmtListed stmts args i s → (s ≡ simple (bare return) → l ≡ [])
      → ((stmt_number s ≡ 14 → ⊥) → RowIs (stmt_targets s)) → NodeRole es stmts falls links n i q e l
  unfolding stmt_targets on_simple jump_targets args_of call_word
  node_role args s q (is_gosub t) w h b row = call_role false (t ∷ []) 8 (w ∙ gosub_number t) refl refl h.count h.few (row (λ x. omega (arith, x, gosub_number t)))
  node_role args s q (is_on_gosub ts) w h b row = call_role true ts 12 (w ∙ ongosub_number ts) refl refl h.count h.few (row (λ x. omega (arith, x, ongosub_number ts)))
  node_role args s q is_back w h b row = back_role (w ∙ return_number) (b refl)
  node_role args s q (is_other c r p) w h b row = other-role q p (stmt_number s) w c r

-- ---- all nodes

module _ {L : Listing} {stmts args entries falls links frames dispatched : List ℕ} {lines n : ℕ} (p : Prepared L stmts args entries falls links frames dispatched lines n) where
  role_at : (i : ℕ) → i < n → NodeRole (wire L).entries stmts falls links n i (role (wire L) i) (fall_from (wire L) i) (base (wire L) i)
  unfolding role role_of fall_from fall_of facts_of
  role_at i lt =
      let c = some_at (wire L).nodes i (omega (arith, p.nodes_are)) in
      let s = c.0.stmt in
      let r = p.listed i c.0 c.1 in
      let f = fact p i c.0 c.1 lt in
      rw c.1
      (node_role (wire L).entries stmts falls links n i c.0.fall (base (wire L) i) (fall_entry_lem p i c.0 c.1 lt) args s (stmt_role s) (call_kind s) r.word r.stmt
      (λ e. return_base L i f.0 f.1 (stmt_at_lem loop_stack (wire L).nodes i c.0 f.0 c.1 f.1 ∙ e))
      (λ o. (links_are p i c.0 c.1 lt o, links_fit p i c.0 c.1 lt o)))

  falls_below : (i : ℕ) → i < n → get_or falls (i * 3) 0 ≤ n
  unfolding fall_from fall_of
  falls_below i h =
      let c = some_at (wire L).nodes i (omega (arith, p.nodes_are)) in
      omega (arith, fall_entry_lem p i c.0 c.1 h, number_below (length (wire L).nodes) c.0.fall (rw c.1 at (fall_below L i)), p.nodes_are)

  -- a RETURN's row of arguments is zero
  pub return_row : (i : ℕ) → i < n → get_or stmts (i * 12) 0 ≡ 9 → (j : ℕ) → j < 64 → get_or args (i * 64 + j) 0 ≡ 0
  return_row i lt w j h =
      let c = some_at (wire L).nodes i (omega (arith, p.nodes_are)) in
      let s = c.0.stmt in
      let r = p.listed i c.0 c.1 in
      no_args stmts args i s (stmt_role s) (call_kind s) r.word r.stmt w j h

  pub prepared_roles : Roles (wire L) stmts falls links n
  unfolding continuation callees skip_steps
  prepared_roles =
      record {
        nodes_are = p.nodes_are;
        few = p.few;
        stmts_fit = p.stmts_fit;
        falls_fit = p.falls_fit;
        links_fit = p.links_fit;
        calling = λ i h. (role_at i h).calling;
        returning = λ i h. (role_at i h).returning;
        continuing = λ i h. (role_at i h).continuing;
        targets = λ i h. (role_at i h).targets;
        skipping = λ i h. (role_at i h).skipping;
        returns_none = λ i h. (role_at i h).returns_none;
        few_targets = λ i h. (role_at i h).few_targets;
        fall_fits = falls_below;
        link_fits = λ i h. (role_at i h).link_fits;
      }
