-- The frame question on the tables that a build wrote for a listing: the answer is that of the listing's graph. Assumes nothing.
use Rattle.std.specs.Prelude.{ℕ, Result, ◌+◌, ◌*◌, ◌≤◌, ◌<◌, ◌≡◌, Bool, eqb, length, get_or}
use Rattle.std.proofs.Math.Path.{refl, ap, subst}
use Rattle.std.proofs.Common.{sym, ◌∙◌, arith}
use mathlib.Core.List.{List, []}
use Rattle.std.proofs.Math.Bool.{true, false, and-false}
use Rattle.std.proofs.Math.Option.{Option, none, some}
use borrow.Author.Tests.{le-ltb, ltb-true}
use Rattle.std.proofs.Math.Dec.{ltb}
use Rattle.std.proofs.Math.ListN.{get_elem?}
use Rattle.listings.specs.Bytes.{same, bytes, pick}
use Rattle.listings.specs.Listing.{Name, Tier, goto, gosub, runto, ongoto, ongosub, BlockWord, BareWord, return, run, clr, stop, any, jump, on, for, next, block, bare, if, ifelse, rcomp, Listing, total, count}
use Rattle.listings.specs.ListingText.{simple_word, cond_word, SimpleOk, Within}
use Rattle.listings.specs.Rows.{is_name, opening_words}
use Rattle.listings.specs.Records.{name_key, args_of, padded}
use Rattle.listings.specs.Cut.{cut_name}
use Rattle.listing_laws.specs.CutLaws.{cut_name_lem}
use Rattle.listings.specs.Scan.{same_sym}
use Rattle.listings.specs.WordTable.{words, first, word_index}
use Rattle.listing_laws.specs.WordKinds.{block_never}
use Rattle.graph.specs.Graph.{Role, return_targets, stmt_role, simple_role, role_of, role, fall_of, fall_from, wire, continuation, successors}
use Rattle.graph_laws.specs.GraphLaws.{node_count, fall_below}
use Rattle.graph_laws.specs.NodeLaws.{Below}
use Rattle.graph.specs.NodeWords.{stmt_word, stmt_number}
use Rattle.graph.specs.Nodes.{NodeStmt, simple, cond, Node, nodes, nodes_before}
use Rattle.graph.specs.Targets.{on_for, on_next, on_simple}
use Rattle.wiring.specs.WrittenLaws.{graph_held, listing_held, counts_held, nodes-total, held_succ, held_continuation}
use Rattle.wiring.specs.Refusals.{LongEnough}
use Rattle.tables.specs.Columns.{succ_start, succ_count, call_word, word_of, fall_entry, continuation_entry, succ_part}
use Rattle.passes.specs.GraphHeld.{GraphHeld}
use Rattle.passes.specs.TableForms.{Sizes, Tables, Written}
use Rattle.passes.specs.HoldsListing.{HoldsListing, holds-listed}
use Rattle.passes.specs.ListedNodes.{SimpleListed, StmtListed, Listed, key_same}
use Rattle.passes.specs.OpenerLaws.{some_at}
use Rattle.passes.specs.GraphReads.{nodes_readable}
use Rattle.passes.specs.TableReads.{fall_of_lem}
use Rattle.passes.specs.ClosingLaws.{number_below}
use Rattle.graph.specs.Questions.{refused, kept, frame_simple, frame_by, frame_of, frame_list, if_node, if_room, ask_frame}
use Rattle.frame_lists.specs.FrameAt.{forgets_word, ends_frame, keeps_shared, frame_read, short_tables, part_outside, fall_outside, frame_outside, frame_in, frame_at}
use Rattle.frame_slices.specs.FrameAnswer.{FrameAnswered}
use Rattle.frame_lists.specs.FrameChecks.{answer_as}
use Rattle.statements.specs.StatementAt.{no_statement, unless_refused}
use Rattle.questions.specs.PathAnswers.{stated, recorded_by}
use Rattle.layout.specs.declared.refusals.Refusal.{Refusal}

-- ---- by the number of the opening word

-- a: the first argument in the record; ks: where the record says that it falls
abbrev by_word : (w a k : ℕ) → Bool → (ss hs ks : List ℕ) → List ℕ
by_word w a k flag ss hs ks = pick (ends_frame w a k) [] (pick (keeps_shared w flag) (kept hs ss) (pick (call_word w) ks ss))

-- a FOR has the key of its name
abbrev KeyAnswered : ℕ → Name → NodeStmt → Type 0
KeyAnswered a v s = (u : Name) (t : Tier) → s ≡ simple (for u t) → eqb a (name_key v) ≡ same u v

for_pick : (x y : Bool) (ss : List ℕ) → x ≡ y → pick x [] ss ≡ pick y [] ss
for_pick x y ss e = ap (λ (b : Bool). pick b [] ss) e

-- a word of a loop or a DO: "else all successors"
block_word_lem : (w : BlockWord) (a k : ℕ) (flag : Bool) (ss hs ks : List ℕ) → by_word (stmt_number (simple (block w))) a k flag ss hs ks ≡ ss
unfolding ends_frame forgets_word keeps_shared call_word stmt_number stmt_word simple_word
block_word_lem w a k flag ss hs ks = rw (block_never (λ n. ends_frame n a k) refl w, block_never (λ n. keeps_shared n flag) refl w, block_never call_word refl w)

by_word_lem : (s : NodeStmt) (a : ℕ) (v : Name) (flag : Bool) (ss hs ks c : List ℕ) → KeyAnswered a v s → pick (call_word (stmt_number s)) ks [] ≡ c
    → by_word (stmt_number s) a (name_key v) flag ss hs ks ≡ frame_by (stmt_role s) v flag ss hs c s
unfolding ends_frame forgets_word keeps_shared call_word stmt_number stmt_word simple_word cond_word word_index words first same bytes opening_words stmt_role simple_role frame_by frame_simple on_simple on_for on_next
by_word_lem (simple (for u t)) a v flag ss hs ks c f e = for_pick (eqb a (name_key v)) (same u v) ss (f u t refl)
by_word_lem (simple (next m l)) a v flag ss hs ks c f e = refl
by_word_lem (simple (jump gosub t)) a v flag ss hs ks c f e = e
by_word_lem (simple (on ongosub t)) a v flag ss hs ks c f e = e
by_word_lem (simple (bare return)) a v flag ss hs ks c f e = refl
by_word_lem (simple (bare run)) a v flag ss hs ks c f e = refl
by_word_lem (simple (jump runto t)) a v flag ss hs ks c f e = refl
by_word_lem (simple (bare clr)) a v flag ss hs ks c f e = refl
by_word_lem (simple (jump goto t)) a v flag ss hs ks c f e = refl
by_word_lem (simple (on ongoto ts)) a v flag ss hs ks c f e = refl
by_word_lem (simple (block w)) a v flag ss hs ks c f e = block_word_lem w a (name_key v) flag ss hs ks
by_word_lem (simple (bare stop)) a v flag ss hs ks c f e = refl
by_word_lem (simple (bare any)) a v flag ss hs ks c f e = refl
by_word_lem (simple (bare BareWord.plain)) a v flag ss hs ks c f e = refl
by_word_lem (cond if x y) a v flag ss hs ks c f e = refl
by_word_lem (cond ifelse x y) a v flag ss hs ks c f e = refl
by_word_lem (cond rcomp x y) a v flag ss hs ks c f e = refl

key_answered : (ts ks : List ℕ) (i : ℕ) (v : Name) (s : NodeStmt) → is_name v ≡ true → StmtListed ts ks i s → KeyAnswered (get_or ks (i * 64) 0) v s
unfolding args_of SimpleOk
key_answered ts ks i v s ok l u t q =
    let m : SimpleListed ts ks i (for u t) = subst (StmtListed ts ks i) q l in
    let z : i * 64 ≡ i * 64 + 0 = omega arith in
    ap (λ (j : ℕ). eqb (get_or ks j 0) (name_key v)) z ∙ ap (λ (k : ℕ). eqb k (name_key v)) (m.args 0 (omega arith)) ∙ key_same v u ok m.names ∙ same_sym v u

-- ---- what the tables say

-- of the n nodes of the listing L
pub record FrameTables (L : Listing) (lines n : ℕ) (stmts args falls lists succ : List ℕ) : Type 0 where
  pub nodes_are : n ≡ node_count L
  pub in_stmts : n * 12 ≤ length stmts
  pub in_args : n * 64 ≤ length args
  pub in_falls : n * 3 ≤ length falls
  pub in_lists : n * 4 ≤ length lists
  pub listed : Listed stmts args (wire L).nodes
  pub lists_are : (i : ℕ) → i < n → succ_part lists succ i ≡ successors L i
  pub lists_in : (i : ℕ) → i < n → succ_start lists i + succ_count lists i ≤ length succ
  pub continues : (i : ℕ) (d : Node) → get_elem? (wire L).nodes i ≡ some d → continuation_entry stmts falls i ≡ continuation (wire L) i
  pub falls_in : (i : ℕ) → i < n → get_or falls (i * 3) 0 ≤ n
  pub has_stmt : (i : ℕ) → i < n → no_statement lines stmts n i ≡ 0

module _ {L : Listing} {lines n : ℕ} {stmts args falls lists succ : List ℕ} (g : FrameTables L lines n stmts args falls lists succ) where
  part_in : (i : ℕ) → i < n → part_outside lists succ i ≡ false
  unfolding part_outside
  part_in i h = le-ltb (length succ) (succ_start lists i + succ_count lists i) (g.lists_in i h)

  none-short : short_tables n (length stmts) (length args) (length falls) (length lists) ≡ false
  unfolding short_tables
  none-short = rw (le-ltb (length stmts) (n * 12) g.in_stmts, le-ltb (length args) (n * 64) g.in_args, le-ltb (length falls) (n * 3) g.in_falls) (le-ltb (length lists) (n * 4) g.in_lists)

  fall_in_lem : (i : ℕ) → i < n → fall_outside n stmts falls i ≡ false
  unfolding fall_outside
  fall_in_lem i h = rw (le-ltb n (get_or falls (i * 3) 0) (g.falls_in i h)) (and-false (call_word (word_of stmts i)))

  none-outside : (h i : ℕ) → h < n → i < n → frame_outside n stmts args falls lists succ h i ≡ false
  unfolding frame_outside
  none-outside h i a b = rw (none-short, part_in h a, part_in i b) (fall_in_lem i b)

  module _ (h i : ℕ) (v : Name) (flag : Bool) (ok : is_name v ≡ true) (a : h < n) (b : i < n) where
    node_list : (d : Node) → get_elem? (wire L).nodes i ≡ some d → frame_by (stmt_role d.stmt) v flag (successors L i) (successors L h) (continuation (wire L) i) d.stmt ≡ frame_list L h i v flag
    unfolding frame_list frame_of wire role role_of
    node_list d e =
        let r : role (wire L) i ≡ stmt_role d.stmt = ap role_of e in
        ap (λ (x : Role). frame_by x v flag (successors L i) (successors L h) (continuation (wire L) i) d.stmt) (sym r) ∙ ap (frame_of L h i v flag) (sym e)

    node_read : (d : Node) → get_elem? (wire L).nodes i ≡ some d → frame_read stmts args falls lists succ h i (name_key v) flag ≡ frame_list L h i v flag
    unfolding frame_read word_of continuation_entry
    node_read d e =
        let l = g.listed i d e in
        let c : pick (call_word (stmt_number d.stmt)) (fall_entry falls i) [] ≡ continuation (wire L) i = ap (λ (w : ℕ). pick (call_word w) (fall_entry falls i) []) (sym l.word) ∙ g.continues i d e in
        rw (l.word, g.lists_are h a, g.lists_are i b)
        (by_word_lem d.stmt (get_or args (i * 64) 0) v flag (successors L i) (successors L h) (fall_entry falls i) (continuation (wire L) i) (key_answered stmts args i v d.stmt ok l.stmt) c
        ∙ node_list d e)

    read_is : frame_read stmts args falls lists succ h i (name_key v) flag ≡ frame_list L h i v flag
    read_is = let p = some_at (wire L).nodes i (omega (arith, g.nodes_are)) in node_read p.0 p.1

  -- the answer read from the tables is that of the listing's graph
  pub frame_is : (h i : ℕ) (v : Name) (flag : Bool) (room : ℕ) → frame_at lines n stmts args falls lists succ h i v flag room ≡ ask_frame L h i v flag room
  unfolding frame_at frame_in unless_refused ask_frame if_node wire
  frame_is h i v flag room = go (is_name v) (ltb h n) (ltb i n) refl refl refl
    where
      go : (x y z : Bool) → is_name v ≡ x → ltb h n ≡ y → ltb i n ≡ z
          → pick x (pick y (pick z (pick (frame_outside n stmts args falls lists succ h i) (refused 25 0) (unless_refused (no_statement lines stmts n i) (if_room room (frame_read stmts args falls lists succ h i (name_key (cut_name v)) flag)))) (refused 24 i)) (refused 24 h)) (refused 3 0)
          ≡ pick x (pick (ltb h (length (nodes L.lines))) (pick (ltb i (length (nodes L.lines))) (if_room room (frame_list L h i (cut_name v) flag)) (refused 24 i)) (refused 24 h)) (refused 3 0)
      go false y z e f k = refl
      go true false z e f k = rw (sym g.nodes_are, f) refl
      go true true false e f k = rw (sym g.nodes_are, f, k) refl
      go true true true e f k =
          let a : h < n = ltb-true h n f in
          let b : i < n = ltb-true i n k in
          rw (sym g.nodes_are, f, k, none-outside h i a b, g.has_stmt i b) (ap (if_room room) (read_is h i (cut_name v) flag (cut_name_lem v e) a b))

-- ---- the tables that a build wrote

module _ (L : Listing) (s : Sizes) (T : Tables) (ok : Within L) (f : LongEnough s L) (w : Written L s T) where
  held : GraphHeld L T.lines T.stmts T.entries T.falls T.lists T.returns T.succ T.pred (length (wire L).entries.rows) (total L.lines) (length (return_targets (wire L)))
  held = graph_held L s T ok f w

  holds : HoldsListing L T.lines T.stmts T.args (count L.lines) (total L.lines)
  holds = listing_held L s T ok f w

  fall_in_nodes : (i : ℕ) → i < total L.lines → get_or T.falls (i * 3) 0 ≤ total L.lines
  unfolding fall_from fall_of
  fall_in_nodes i h =
      let p = some_at (wire L).nodes i (omega (arith, nodes-total L)) in
      let q : Below (node_count L) p.0.fall = subst (λ (o : Option Node). Below (node_count L) (fall_of o)) p.1 (fall_below L i) in
      omega (arith, fall_of_lem (wire L).entries (wire L).nodes (length T.falls) T.falls held.falls_are i p.0 p.1, number_below (node_count L) p.0.fall q, nodes-total L)

  stmt_of : (i : ℕ) → i < total L.lines → no_statement (count L.lines) T.stmts (total L.lines) i ≡ 0
  unfolding wire nodes padded
  stmt_of i h =
      let p = some_at (wire L).nodes i (omega (arith, nodes-total L)) in
      let r = recorded_by L.lines ok.lines T.lines T.stmts _ _ held.lines_are held.stmts_are in
      ap (λ (k : ℕ). no_statement (count L.lines) T.stmts k i) (sym (nodes-total L)) ∙ stated (count L.lines) T.stmts (nodes_before none L.lines) r i p.0 p.1

  frame_tables : FrameTables L (count L.lines) (total L.lines) T.stmts T.args T.falls T.lists T.succ
  frame_tables =
      record {
        nodes_are = sym (nodes-total L);
        in_stmts = held.stmts_fit;
        in_args = holds.args_fit;
        in_falls = held.falls_fit;
        in_lists = held.lists_fit;
        listed = holds-listed holds;
        lists_are = λ i h. held_succ held i (omega (arith, nodes-total L));
        lists_in = (nodes_readable held).succ_in;
        continues = held_continuation held;
        falls_in = fall_in_nodes;
        has_stmt = stmt_of;
      }

  -- `ask_frame` on these tables
  pub frame_built : (h i : ℕ) (v : Name) (flag : Bool) (room : ℕ)
      → frame_at (get_or T.counts 0 0) (get_or T.counts 1 0) T.stmts T.args T.falls T.lists T.succ h i v flag room ≡ ask_frame L h i v flag room
  frame_built h i v flag room =
      let n = counts_held L s T w in
      ap (λ (k : ℕ). frame_at k (get_or T.counts 1 0) T.stmts T.args T.falls T.lists T.succ h i v flag room) n.lines
      ∙ ap (λ (k : ℕ). frame_at (count L.lines) k T.stmts T.args T.falls T.lists T.succ h i v flag room) n.stmts
      ∙ frame_is frame_tables h i v flag room

  -- so what `ask_frame` promises is the answer of the listing's graph
  pub frame_answered : (h i : ℕ) (v : Name) (flag : Bool) (out out' : List ℕ) (r : Result ℕ Refusal)
      → FrameAnswered (frame_at (get_or T.counts 0 0) (get_or T.counts 1 0) T.stmts T.args T.falls T.lists T.succ h i v flag (length out)) out out' r → FrameAnswered (ask_frame L h i v flag (length out)) out out' r
  frame_answered h i v flag out out' r g = answer_as _ _ out out' r (frame_built h i v flag (length out)) g
