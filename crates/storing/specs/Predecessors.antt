-- Predecessors by counting: how many edges lead to each node, where its list begins, and the lists as they fill.
-- Assumes nothing.
use Rattle.std.specs.Prelude.{◌≡◌, refl, Bool, true, false, List, [], ◌∷◌, ◌++◌, ℕ, zero, suc, ◌+◌, ◌*◌, ◌≤◌, ◌<◌, eqb, ltb, length, get_or, set, take, drop, replicate}
use Rattle.std.proofs.Common.{sym, ap, ◌∙◌, append_assoc, append-nil, arith, add-one, eq-eqb, ne_eqb, lt-ltb, le-ltb, length-append, length-set, take-append-drop, take-suc, length-take-le, get_or-set_same, get_or-set_other}
use Rattle.std.proofs.Math.Decide.{ℕ_discrete, dec_lt}
use Rattle.std.proofs.lemmas.List.{length-replicate}
use Rattle.listings.specs.Bytes.{pick}
use Rattle.listings.specs.Every.{All, all[], all∷}
use Rattle.graph.specs.Lists.{has}
use Rattle.graph_laws.specs.Distinct.{Distinct}
use Rattle.graph_laws.specs.EdgeBounds.{Ids}
use Rattle.graph.specs.Graph.{predecessors_in}
use Rattle.passes.specs.EdgeTable.{joined_lists, start_of, start_end, lists_to, length_lists, lists_at, Columns, columns_self, columns_ext, changed, changed_here, changed-other, columns_set2, columns_set3}
use Rattle.passes.specs.Predecessors.{preds_of, joined-ids}
use Rattle.tables.specs.Columns.{succ_start, succ_count, pred_start, pred_count}
use Rattle.passes.specs.Counting.{one, occurs, occurs-append, occurs_snoc, occurs-le, occurs_once, sum_to, sum_ext, sum_occurs, start_sum}

-- ---- where edges come from

-- the nodes from j on, whose lists are ls, that lead to i: each as often as i is in its list
unfoldable pub sources_in : ℕ → ℕ → List (List ℕ) → List ℕ
sources_in i j [] = []
sources_in i j (l ∷ ls) = replicate (occurs i l) j ++ sources_in i (suc j) ls

-- the predecessors of nodes 0, 1, ..
unfoldable pub sources_of : List (List ℕ) → List (List ℕ)
sources_of ls = lists_to (λ i. sources_in i 0 ls) (length ls)

-- lists of n nodes, whose ids are below n
pub record IdLists (n : ℕ) (ls : List (List ℕ)) : Type 0 where
  pub size : length ls ≡ n
  pub ids : All (Ids n) ls

pub sources_append : (i j : ℕ) (ls ms : List (List ℕ)) → sources_in i j (ls ++ ms) ≡ sources_in i j ls ++ sources_in i (j + length ls) ms
unfolding sources_in
sources_append i j [] ms = let z : j ≡ j + 0 = omega arith in ap (λ (k : ℕ). sources_in i k ms) z
sources_append i j (l ∷ ls) ms =
    let z : suc j + length ls ≡ j + suc (length ls) = omega arith in
    ap (λ (k : List ℕ). replicate (occurs i l) j ++ k) (sources_append i (suc j) ls ms ∙ ap (λ (k : ℕ). sources_in i (suc j) ls ++ sources_in i k ms) z)
    ∙ sym (append_assoc (replicate (occurs i l) j) (sources_in i (suc j) ls) (sources_in i (j + suc (length ls)) ms))

-- one more list at the end: its node, as often as it leads to i
pub sources_snoc : (i : ℕ) (ls : List (List ℕ)) (l : List ℕ) → sources_in i 0 (ls ++ (l ∷ [])) ≡ sources_in i 0 ls ++ replicate (occurs i l) (length ls)
unfolding sources_in
sources_snoc i ls l =
    let z : 0 + length ls ≡ length ls = omega arith in
    sources_append i 0 ls (l ∷ []) ∙ ap (λ (k : List ℕ). sources_in i 0 ls ++ k) (append-nil (replicate (occurs i l) (0 + length ls)) ∙ ap (replicate (occurs i l)) z)

-- a node has as many predecessors as there are edges to it
pub sources_length : (i j : ℕ) (ls : List (List ℕ)) → length (sources_in i j ls) ≡ occurs i (joined_lists ls)
unfolding sources_in joined_lists occurs
sources_length i j [] = refl
sources_length i j (l ∷ ls) =
    omega (arith, length-append (replicate (occurs i l) j) (sources_in i (suc j) ls), length-replicate (occurs i l) j, sources_length i (suc j) ls, occurs-append i l (joined_lists ls))

pub sources_at : (ls : List (List ℕ)) (i : ℕ) → i < length ls → get_or (sources_of ls) i [] ≡ sources_in i 0 ls
unfolding sources_of
sources_at ls i h = lists_at (λ i. sources_in i 0 ls) (length ls) i h

pub length_sources : (ls : List (List ℕ)) → length (sources_of ls) ≡ length ls
unfolding sources_of
length_sources ls = length_lists (λ i. sources_in i 0 ls) (length ls)

-- where a node's predecessors begin: behind the edges to the nodes before it
pub sources_start : {n : ℕ} {ls : List (List ℕ)} → IdLists n ls → (i : ℕ) → i ≤ n → start_of (sources_of ls) i ≡ sum_to (λ x. occurs x (joined_lists ls)) i
unfolding sources_of
sources_start {n} {ls} k i h =
    start_sum (λ x. sources_in x 0 ls) (length ls) i (omega (arith, k.size)) ∙ sum_ext (λ x. length (sources_in x 0 ls)) (λ x. occurs x (joined_lists ls)) i (λ x _. sources_length x 0 ls)

-- every edge is in one predecessor list
pub sources_total : {n : ℕ} {ls : List (List ℕ)} → IdLists n ls → length (joined_lists (sources_of ls)) ≡ length (joined_lists ls)
sources_total {n} {ls} k =
    sym (start_end (sources_of ls)) ∙ ap (start_of (sources_of ls)) (length_sources ls ∙ k.size) ∙ sources_start k n (omega arith) ∙ sum_occurs n (joined-ids n k.ids)

-- where no list has a node twice, each predecessor stands once
sources_once : (i j : ℕ) {ls : List (List ℕ)} → All Distinct ls → sources_in i j ls ≡ predecessors_in i j ls
unfolding sources_in predecessors_in
sources_once i j all[] = refl
sources_once i j (all∷ {a = l} {l = ls} d ds) =
    ap (λ (x : ℕ). replicate x j ++ sources_in i (suc j) ls) (occurs_once i d) ∙ ap (λ (k : List ℕ). replicate (one (has i l)) j ++ k) (sources_once i (suc j) ds) ∙ go (has i l) (predecessors_in i (suc j) ls)
  where
    go : (x : Bool) (p : List ℕ) → replicate (one x) j ++ p ≡ pick x (j ∷ p) p
    go true p = refl
    go false p = refl

lists_same : (f g : ℕ → List ℕ) (n : ℕ) → ((i : ℕ) → f i ≡ g i) → lists_to f n ≡ lists_to g n
unfolding lists_to
lists_same f g zero h = refl
lists_same f g (suc n) h = rw (lists_same f g n h, h n)

pub sources_are : {ls : List (List ℕ)} → All Distinct ls → sources_of ls ≡ preds_of ls
unfolding sources_of preds_of
sources_are {ls} d = lists_same (λ i. sources_in i 0 ls) (λ i. predecessors_in i 0 ls) (length ls) (λ i. sources_once i 0 d)

-- ---- counting the edges to each node

-- the first edges entries of succ are nodes, and their counts fit
pub record Countable (nodes edges : ℕ) (succ lists : List ℕ) : Type 0 where
  pub rows : nodes * 4 ≤ length lists
  pub inside : edges ≤ length succ
  pub ids : (m : ℕ) → m < edges → get_or succ m 0 < nodes
  pub fits : (i : ℕ) → i < nodes → pred_count lists i + edges < 65536

-- the predecessor counts have gone up by the edges among the first m
abbrev pub Counted : ℕ → ℕ → List ℕ → List ℕ → List ℕ → Type 0
Counted nodes m succ lists lists' = Columns nodes (succ_start lists) (succ_count lists) (pred_start lists) (λ i. pred_count lists i + occurs i (take m succ)) lists lists'

pub counted_none : (nodes : ℕ) (succ lists : List ℕ) → Counted nodes 0 succ lists lists
unfolding occurs
counted_none nodes succ lists = columns_ext (columns_self nodes lists) (λ i l. refl) (λ i l. refl) (λ i l. refl) (λ i l. omega arith)

one_of : (i a : ℕ) → i ≡ a → one (eqb i a) ≡ 1
one_of i a e = ap one (eq-eqb i a e)

none_of : (i a : ℕ) → (i ≡ a → ⊥) → one (eqb i a) ≡ 0
none_of i a e = ap one (ne_eqb i a e)

-- a column k that went up by one at a
up_one : (k : ℕ → ℕ) (a v i : ℕ) → v ≡ k a + 1 → changed k a v i ≡ k i + one (eqb i a)
up_one k a v i e =
    elim (ℕ_discrete i a) [
      | yes y ↦ changed_here k a v i y ∙ omega (arith, e, one_of i a y, ap k y)
      | no ne ↦ changed-other k a v i ne ∙ omega (arith, none_of i a ne)
    ]

occurs-take : (i m : ℕ) (l : List ℕ) → m < length l → occurs i (take (m + 1) l) ≡ occurs i (take m l) + one (eqb i (get_or l m 0))
occurs-take i m l h = ap (occurs i) (ap (λ (n : ℕ). take n l) (add-one m) ∙ take-suc l m 0 h) ∙ occurs_snoc i (take m l) (get_or l m 0)

-- the next edge leads to a
module _ {nodes edges a : ℕ} {succ lists₀ lists : List ℕ} (m : ℕ) (k : Countable nodes edges succ lists₀) (h : m < edges) (e : a ≡ get_or succ m 0) (c : Counted nodes m succ lists₀ lists) where
  pub counted_node : a < nodes
  counted_node = omega (arith, k.ids m h)

  pub counted-fits : get_or lists (a * 4 + 3) 0 + 1 < 65536
  counted-fits = omega (arith, c.col3 a counted_node, k.fits a counted_node, occurs-le a (take m succ), length-take-le m succ (omega (arith, k.inside)))

  pub counted_more : Counted nodes (m + 1) succ lists₀ (set lists (a * 4 + 3) (get_or lists (a * 4 + 3) 0 + 1))
  counted_more =
      columns_ext (columns_set3 k.rows a (get_or lists (a * 4 + 3) 0 + 1) counted_node c) (λ i l. refl) (λ i l. refl) (λ i l. refl)
      (λ i g. up_one (λ i. pred_count lists₀ i + occurs i (take m succ)) a (get_or lists (a * 4 + 3) 0 + 1) i (omega (arith, c.col3 a counted_node))
      ∙ omega (arith, occurs-take i m succ (omega (arith, k.inside)), ap (λ (x : ℕ). one (eqb i x)) e))

-- ---- no edge is counted yet

-- the predecessor counts of the first m rows are 0
abbrev pub Emptied : ℕ → ℕ → List ℕ → List ℕ → Type 0
Emptied nodes m lists lists' = Columns nodes (succ_start lists) (succ_count lists) (pred_start lists) (λ i. pick (ltb i m) 0 (pred_count lists i)) lists lists'

pub emptied_none : (nodes : ℕ) (lists : List ℕ) → Emptied nodes 0 lists lists
emptied_none nodes lists =
    columns_ext (columns_self nodes lists) (λ i l. refl) (λ i l. refl) (λ i l. refl) (λ i l. sym (ap (λ (x : Bool). pick x 0 (pred_count lists i)) (le-ltb i 0 (omega arith))))

-- ---- the starts, from the counts

abbrev pub Started : ℕ → List ℕ → List ℕ → Type 0
Started nodes lists lists' = Columns nodes (succ_start lists) (succ_count lists) (sum_to (pred_count lists)) (λ i. 0) lists lists'

-- while the rows before m have their starts
abbrev pub Starting : ℕ → ℕ → List ℕ → List ℕ → Type 0
Starting nodes m lists lists' =
    Columns nodes (succ_start lists) (succ_count lists) (λ i. pick (ltb i m) (sum_to (pred_count lists) i) (pred_start lists i)) (λ i. pick (ltb i m) 0 (pred_count lists i)) lists lists'

pub starting_none : (nodes : ℕ) (lists : List ℕ) → Starting nodes 0 lists lists
starting_none nodes lists =
    columns_ext (columns_self nodes lists) (λ i l. refl) (λ i l. refl) (λ i l. sym (ap (λ (x : Bool). pick x (sum_to (pred_count lists) i) (pred_start lists i)) (le-ltb i 0 (omega arith))))
    (λ i l. sym (ap (λ (x : Bool). pick x 0 (pred_count lists i)) (le-ltb i 0 (omega arith))))

-- below m + 1 is m or below m
pick_more : (f g : ℕ → ℕ) (m i v : ℕ) → v ≡ f m → changed (λ i. pick (ltb i m) (f i) (g i)) m v i ≡ pick (ltb i (m + 1)) (f i) (g i)
pick_more f g m i v e =
    elim (ℕ_discrete i m) [
      | yes y ↦ changed_here (λ i. pick (ltb i m) (f i) (g i)) m v i y ∙ e ∙ ap f (sym y) ∙ sym (ap (λ (x : Bool). pick x (f i) (g i)) (lt-ltb i (m + 1) (omega arith)))
      | no ne ↦ changed-other (λ i. pick (ltb i m) (f i) (g i)) m v i ne
          ∙ elim (dec_lt i m) [
            | yes l ↦ ap (λ (x : Bool). pick x (f i) (g i)) (lt-ltb i m l ∙ sym (lt-ltb i (m + 1) (omega arith)))
            | no nl ↦ ap (λ (x : Bool). pick x (f i) (g i)) (le-ltb i m (omega arith) ∙ sym (le-ltb i (m + 1) (omega arith)))
          ]
    ]

pub emptied_more : (nodes m : ℕ) (lists₀ lists : List ℕ) → nodes * 4 ≤ length lists₀ → m < nodes → Emptied nodes m lists₀ lists → Emptied nodes (m + 1) lists₀ (set lists (m * 4 + 3) 0)
emptied_more nodes m lists₀ lists b l c =
    columns_ext (columns_set3 b m 0 l c) (λ i l. refl) (λ i l. refl) (λ i l. refl) (λ i g. pick_more (λ _. 0) (pred_count lists₀) m i 0 refl)

pub emptied_all : (nodes : ℕ) (lists₀ lists : List ℕ) → Emptied nodes nodes lists₀ lists → (i : ℕ) → i < nodes → pred_count lists i ≡ 0
emptied_all nodes lists₀ lists c i l = c.col3 i l ∙ ap (λ (x : Bool). pick x 0 (pred_count lists₀ i)) (lt-ltb i nodes l)

pub starting_count : (nodes m : ℕ) (lists₀ lists : List ℕ) → m < nodes → Starting nodes m lists₀ lists → get_or lists (m * 4 + 3) 0 ≡ pred_count lists₀ m
starting_count nodes m lists₀ lists l c = c.col3 m l ∙ ap (λ (x : Bool). pick x 0 (pred_count lists₀ m)) (le-ltb m m (omega arith))

pub starting_more : (nodes m at : ℕ) (lists₀ lists : List ℕ) → nodes * 4 ≤ length lists₀ → m < nodes → at ≡ sum_to (pred_count lists₀) m → Starting nodes m lists₀ lists
    → Starting nodes (m + 1) lists₀ (set (set lists (m * 4 + 2) at) (m * 4 + 3) 0)
starting_more nodes m at lists₀ lists b l e c =
    columns_ext (columns_set3 b m 0 l (columns_set2 b m at l c)) (λ i l. refl) (λ i l. refl) (λ i g. pick_more (sum_to (pred_count lists₀)) (pred_start lists₀) m i at e)
    (λ i g. pick_more (λ _. 0) (pred_count lists₀) m i 0 refl)

pub starting_all : (nodes : ℕ) (lists₀ lists : List ℕ) → Starting nodes nodes lists₀ lists → Started nodes lists₀ lists
starting_all nodes lists₀ lists c =
    columns_ext c (λ i l. refl) (λ i l. refl) (λ i l. ap (λ (x : Bool). pick x (sum_to (pred_count lists₀) i) (pred_start lists₀ i)) (lt-ltb i nodes l))
    (λ i l. ap (λ (x : Bool). pick x 0 (pred_count lists₀ i)) (lt-ltb i nodes l))

-- ---- a node goes into the lists of its successors

-- where a node's next predecessor goes
abbrev pub slot : List ℕ → ℕ → ℕ
slot lists t = pred_start lists t + pred_count lists t

-- the list's nodes have rows and room
pub record Fillable (nodes : ℕ) (list lists pred : List ℕ) : Type 0 where
  pub rows : nodes * 4 ≤ length lists
  pub ids : (m : ℕ) → m < length list → get_or list m 0 < nodes
  pub room : (t : ℕ) → t < nodes → 0 < occurs t list → slot lists t + occurs t list ≤ length pred
  pub fits : (t : ℕ) → t < nodes → pred_count lists t + occurs t list < 65536

-- node j stands from the slot of each node of the list on, as often as that is in the list, and their counts went up
pub record Placed (nodes j : ℕ) (list lists lists' pred pred' : List ℕ) : Type 0 where
  pub rows : Columns nodes (succ_start lists) (succ_count lists) (pred_start lists) (λ i. pred_count lists i + occurs i list) lists lists'
  pub size : length pred' ≡ length pred
  pub here : (t : ℕ) → t < nodes → (m : ℕ) → m < occurs t list → get_or pred' (slot lists t + m) 0 ≡ j
  pub other : (x : ℕ) → ((t : ℕ) → t < nodes → (m : ℕ) → m < occurs t list → slot lists t + m ≡ x → ⊥) → get_or pred' x 0 ≡ get_or pred x 0

pub placed-none : (nodes j : ℕ) (list lists pred : List ℕ) → Placed nodes j (take 0 list) lists lists pred pred
unfolding occurs
placed-none nodes j list lists pred =
    record {
      rows = columns_ext (columns_self nodes lists) (λ i l. refl) (λ i l. refl) (λ i l. refl) (λ i l. omega arith);
      size = refl;
      here = λ t l m h. absurd (omega arith);
      other = λ x f. refl;
    }

occurs_front : (i m : ℕ) (l : List ℕ) → occurs i (take m l) ≤ occurs i l
occurs_front i m l = let e = ap (occurs i) (take-append-drop m l) in omega (arith, e, occurs-append i (take m l) (drop m l))

-- the next node of the list is a
module _ {nodes j a : ℕ} {list lists₀ lists pred₀ pred : List ℕ} (m : ℕ) (k : Fillable nodes list lists₀ pred₀) (h : m < length list) (e : a ≡ get_or list m 0) (c : Placed nodes j (take m list) lists₀ lists pred₀ pred) where
  pub placed_node : a < nodes
  placed_node = omega (arith, k.ids m h)

  -- how often the nodes stand in the list so far, and with a
  step : (t : ℕ) → occurs t (take (m + 1) list) ≡ occurs t (take m list) + one (eqb t a)
  step t = occurs-take t m list h ∙ ap (λ (x : ℕ). occurs t (take m list) + one (eqb t x)) (sym e)

  once : occurs a (take m list) + 1 ≤ occurs a list
  once = omega (arith, step a, one_of a a refl, occurs_front a (m + 1) list)

  abbrev place : ℕ
  place = get_or lists (a * 4 + 2) 0 + get_or lists (a * 4 + 3) 0

  place_is : place ≡ slot lists₀ a + occurs a (take m list)
  place_is = omega (arith, c.rows.col2 a placed_node, c.rows.col3 a placed_node)

  pub placed_room : get_or lists (a * 4 + 2) 0 + get_or lists (a * 4 + 3) 0 < length pred
  placed_room = omega (arith, place_is, once, k.room a placed_node (omega (arith, once)), c.size)

  pub placed-fits : get_or lists (a * 4 + 3) 0 + 1 < 65536
  placed-fits = omega (arith, c.rows.col3 a placed_node, once, k.fits a placed_node)

  module _ (at : ℕ) (q : at ≡ get_or lists (a * 4 + 2) 0 + get_or lists (a * 4 + 3) 0) where
    new_here : (t : ℕ) → t < nodes → (i : ℕ) → i < occurs t (take (m + 1) list) → get_or (set pred at j) (slot lists₀ t + i) 0 ≡ j
    new_here t l i g =
        elim (ℕ_discrete (slot lists₀ t + i) at) [
          | yes y ↦ ap (λ (x : ℕ). get_or (set pred at j) x 0) y ∙ get_or-set_same pred at j 0 (omega (arith, placed_room))
          | no ne ↦ get_or-set_other pred at (slot lists₀ t + i) j 0 ne
              ∙ c.here t l i
              (elim (ℕ_discrete t a) [
                | yes y ↦ let s = ap (λ (x : ℕ). occurs x (take m list)) y in
                    let z = ap (slot lists₀) y in
                    let w : i ≡ occurs t (take m list) → ⊥ = λ u. ne (omega (arith, place_is, q, s, z)) in
                    less i (occurs t (take m list)) (omega (arith, step t, one_of t a y)) w
                | no nt ↦ omega (arith, step t, none_of t a nt)
              ])
        ]
      where
        less : (x y : ℕ) → x < y + 1 → (x ≡ y → ⊥) → x < y
        less x y b f = elim (dec_lt x y) [ yes lt ↦ lt | no nl ↦ absurd (f (omega arith)) ]

    new_other : (x : ℕ) → ((t : ℕ) → t < nodes → (i : ℕ) → i < occurs t (take (m + 1) list) → slot lists₀ t + i ≡ x → ⊥) → get_or (set pred at j) x 0 ≡ get_or pred₀ x 0
    new_other x f =
        get_or-set_other pred at x j 0 (λ z. f a placed_node (occurs a (take m list)) (omega (arith, step a, one_of a a refl)) (omega (arith, place_is, q, z)))
        ∙ c.other x (λ t l i g. f t l i (omega (arith, step t)))

    pub placed_more : Placed nodes j (take (m + 1) list) lists₀ (set lists (a * 4 + 3) (get_or lists (a * 4 + 3) 0 + 1)) pred₀ (set pred at j)
    placed_more =
        record {
          rows = columns_ext (columns_set3 k.rows a (get_or lists (a * 4 + 3) 0 + 1) placed_node c.rows) (λ i l. refl) (λ i l. refl) (λ i l. refl)
              (λ i g. up_one (λ i. pred_count lists₀ i + occurs i (take m list)) a (get_or lists (a * 4 + 3) 0 + 1) i (omega (arith, c.rows.col3 a placed_node)) ∙ omega (arith, step i));
          size = length-set pred at j ∙ c.size;
          here = new_here;
          other = new_other;
        }
