-- What is printed, in terms of the tables that hold a graph; and what the tables must be for it to be read off them. Assumes nothing.
use Prim.Native.Nat.{ℕ, zero, suc, ◌+◌, ◌*◌, ◌-◌, ◌/◌, ◌<◌, ◌≤◌}
use Rattle.std.specs.Prelude.{◌≡◌, refl, true, false, Option, Some, None, List, [], ◌∷◌, ◌++◌, length, get_or, take, drop}
use Rattle.std.specs.Option.{SomeIff, option_to_list}
use Rattle.std.specs.Simd.{first_chunks}
use Rattle.std.proofs.Common.{sym, ◌∙◌, append_assoc, append-nil, arith, length-append, length-take-le}
use Rattle.std.proofs.lemmas.List.{get_or-take, get_or-drop}
use Rattle.std.proofs.Math.Path.{ap}
use Rattle.std.proofs.Math.Numerals.{sub-one}
use Rattle.listings.specs.Bytes.{bytes, decimal, pick}
use Rattle.graph.specs.Lists.{each}
use Rattle.listings.specs.Listing.{Listing}
use Rattle.graph.specs.Print.{spaced, joined, printed}
use Rattle.passes.specs.GraphHeld.{GraphHeld}
use Rattle.graph_laws.specs.Adding.{decode}
use Rattle.tables.specs.Columns.{call_word, word_of, holder_of, index_of, line_of, held_by, path_in, Holders, succ_part, pred_part}
use Rattle.formatting.specs.Printing.{Puts}
use Rattle.formatting.specs.Pages.{Wrote, wrote_none, wrote_both, wrote_is, spaced_snoc, pair_text}
use Rattle.formatting.specs.declared.page.Page.{Page}

-- ---- a node's row

unfoldable pub head_text : (i number line : ℕ) → List ℕ
head_text i number line = bytes "(node" ++ spaced (i ∷ number ∷ line ∷ []) ++ bytes " ("

-- one more than the IF that holds it, or 0
unfoldable pub holder_text : ℕ → List ℕ
holder_text h = bytes ") (in" ++ spaced (decode h)

unfoldable pub lists_text : (ss ps : List ℕ) → List ℕ
lists_text ss ps = bytes ") (succ" ++ spaced ss ++ bytes ") (pred" ++ spaced ps ++ bytes "))\n"

unfoldable pub node_text : (lines stmts lists succ pred : List ℕ) → ℕ → List ℕ
node_text lines stmts lists succ pred i =
    head_text i (get_or lines (line_of stmts i) 0) (line_of stmts i) ++ joined (path_in stmts 16 i) ++ holder_text (holder_of stmts i) ++ lists_text (succ_part lists succ i) (pred_part lists pred i)

-- ---- the other rows

-- a row for a node, one more than its id, or none
unfoldable pub some_text : List ℕ → (a e : ℕ) → List ℕ
some_text w a e = each (pair_text w a) (decode e)

-- row k of the line entries
unfoldable pub entry_text : (entries : List ℕ) → ℕ → List ℕ
entry_text entries k = some_text (bytes "(entry") (get_or entries (k * 2 + 0) 0) (get_or entries (k * 2 + 1) 0)

-- where a call falls
unfoldable pub back_text : (stmts falls : List ℕ) → ℕ → List ℕ
back_text stmts falls i = pick (call_word (word_of stmts i)) (some_text (bytes "(back") i (get_or falls (i * 3) 0)) []

unfoldable pub returns_text : List ℕ → List ℕ
returns_text l = bytes "(returns" ++ spaced l ++ bytes ")\n"

-- ---- the path, put from the outermost IF in

joined_snoc : (l : List ℕ) (x : ℕ) → 0 < length l → joined (l ++ (x ∷ [])) ≡ joined l ++ (32 ∷ decimal x)
unfolding joined
joined_snoc [] x h = absurd (omega arith)
joined_snoc (b ∷ l) x h = ap (λ (k : List ℕ). decimal b ++ k) (spaced_snoc l x) ∙ sym (append_assoc (decimal b) (spaced l) (32 ∷ decimal x))

joined-one : (x : ℕ) → joined (x ∷ []) ≡ decimal x
unfolding joined spaced each
joined-one x = append-nil (decimal x)

path_some : (stmts : List ℕ) (k i : ℕ) → 0 < length (path_in stmts k i)
unfolding path_in
path_some stmts zero i = omega arith
path_some stmts (suc k) i = simp length-append (omega arith)

module _ (stmts : List ℕ) (p : Page) (i x : ℕ) (e : x ≡ index_of stmts i) where
  unheld : (k : ℕ) → 0 ≡ holder_of stmts i → x ∷ [] ≡ path_in stmts k i
  unfolding path_in
  unheld zero f = ap (λ (y : ℕ). y ∷ []) e
  unheld (suc k) f = ap (λ (y : ℕ). y ∷ []) e ∙ ap (λ (y : ℕ). held_by (λ h. path_in stmts k h) y ++ (index_of stmts i ∷ [])) f

  -- no further up
  pub path_top : {q : Page} (k : ℕ) → k ≡ 0 → Wrote p q (decimal x) → Wrote p q (joined (path_in stmts k i))
  unfolding path_in
  path_top zero z a = wrote_is (sym (joined-one x) ∙ ap (λ (y : ℕ). joined (y ∷ [])) e) a
  path_top (suc k) z a = absurd (omega arith)

  -- no IF holds it
  pub path_first : {q : Page} (k : ℕ) → 0 ≡ holder_of stmts i → Wrote p q (decimal x) → Wrote p q (joined (path_in stmts k i))
  path_first k f a = wrote_is (sym (joined-one x) ∙ ap joined (unheld k f)) a

  -- behind the path of the IF that holds it
  pub path_next : {q s : Page} (k h : ℕ) → suc h ≡ holder_of stmts i → (k ≡ 0 → ⊥) → Wrote p q (joined (path_in stmts (k - 1) h)) → Wrote q s (32 ∷ decimal x)
      → Wrote p s (joined (path_in stmts k i))
  unfolding path_in
  path_next zero h f y a b = absurd (y refl)
  path_next (suc k) h f y a b =
      wrote_is
      (sym (joined_snoc (path_in stmts k h) x (path_some stmts k h)) ∙ ap (λ (v : ℕ). joined (path_in stmts k h ++ (v ∷ []))) e
      ∙ ap (λ (v : ℕ). joined (held_by (λ h. path_in stmts k h) v ++ (index_of stmts i ∷ []))) f)
      (wrote_both (rw (sub-one (suc k)) at a) b)

-- the IF that holds a statement is one of them
pub holder_in : {stmts : List ℕ} {n i h : ℕ} → Holders stmts n → i < n → h ≡ holder_of stmts i → (h ≡ 0 → ⊥) → h - 1 < n
holder_in {stmts} {n} {i} {h} k l e z = omega (arith, k.held i l, nonzero h z)
  where
    nonzero : (h : ℕ) → (h ≡ 0 → ⊥) → 0 < h
    nonzero zero z = absurd (z refl)
    nonzero (suc h) z = omega arith

-- ---- the pieces of a row

pub wrote_head : {p q s t : Page} (i number line : ℕ) → Wrote p q (bytes "(node" ++ spaced (i ∷ number ∷ [])) → Wrote q s (32 ∷ decimal line) → Wrote s t (bytes " (")
    → Wrote p t (head_text i number line)
unfolding head_text
wrote_head i number line a b c =
    let w = bytes "(node" in
    let e : w ++ spaced (i ∷ number ∷ []) ++ (32 ∷ decimal line) ≡ w ++ spaced (i ∷ number ∷ line ∷ [])
    = append_assoc w (spaced (i ∷ number ∷ [])) (32 ∷ decimal line) ∙ ap (λ (l : List ℕ). w ++ l) (sym (spaced_snoc (i ∷ number ∷ []) line)) in
    wrote_both (wrote_is e (wrote_both a b)) c

pub wrote_lists : {p q s t : Page} (lists succ pred : List ℕ) (i : ℕ) (own before : List ℕ) → own ≡ succ_part lists succ i → before ≡ pred_part lists pred i
    → Wrote p q (bytes ") (succ" ++ spaced own) → Wrote q s (bytes ") (pred" ++ spaced before) → Wrote s t (bytes "))\n")
    → Wrote p t (lists_text (succ_part lists succ i) (pred_part lists pred i))
unfolding lists_text
wrote_lists {p} {q} {s} {t} lists succ pred i own before e f x y z =
    let x' : Wrote p q (bytes ") (succ" ++ spaced (succ_part lists succ i)) = rw e at x in
    let y' : Wrote q s (bytes ") (pred" ++ spaced (pred_part lists pred i)) = rw f at y in
    wrote_is (simp append_assoc) (wrote_both (wrote_both x' y') z)

-- the IF that holds it, or none
pub no_holder : {p q : Page} (h : ℕ) → 0 ≡ h → Wrote p q (bytes ") (in") → Wrote p q (holder_text h)
unfolding holder_text spaced each
no_holder h e a = wrote_is (sym (append-nil (bytes ") (in")) ∙ ap holder_text e) a

pub one_holder : {p q s : Page} (x h : ℕ) → suc x ≡ h → Wrote p q (bytes ") (in") → Wrote q s (32 ∷ decimal x) → Wrote p s (holder_text h)
unfolding holder_text spaced each
one_holder x h e a b = wrote_is (ap (λ (l : List ℕ). bytes ") (in" ++ (32 ∷ l)) (sym (append-nil (decimal x))) ∙ ap holder_text e) (wrote_both a b)

pub wrote_node : {p q o s t : Page} (lines stmts lists succ pred : List ℕ) (i number line : ℕ) → line ≡ line_of stmts i → number ≡ get_or lines line 0
    → Wrote p q (head_text i number line) → Wrote q o (joined (path_in stmts 16 i)) → Wrote o s (holder_text (holder_of stmts i)) → Wrote s t (lists_text (succ_part lists succ i) (pred_part lists pred i))
    → Wrote p t (node_text lines stmts lists succ pred i)
unfolding node_text
wrote_node {p} {q} {o} {s} {t} lines stmts lists succ pred i number line e f a b h c =
    let a' : Wrote p q (head_text i (get_or lines (line_of stmts i) 0) (line_of stmts i)) = rw (f, e) at a in
    wrote_is (simp append_assoc) (wrote_both (wrote_both (wrote_both a' b) h) c)

-- ---- the pieces of the other rows

-- the row of a node or none
pub no_row : (p : Page) (w : List ℕ) (a : ℕ) (o : Option ℕ) → o ≡ None → Wrote p p (each (pair_text w a) (option_to_list o))
unfolding each
no_row p w a None e = wrote_none p
no_row p w a (Some x) e = absurd cc

pub one_row : {p q : Page} (w : List ℕ) (a : ℕ) (o : Option ℕ) (x : ℕ) → o ≡ Some x → Wrote p q (pair_text w a x) → Wrote p q (each (pair_text w a) (option_to_list o))
unfolding each
one_row w a None x e b = absurd cc
one_row w a (Some y) x e b = let z : x ≡ y = cc in wrote_is (ap (pair_text w a) z ∙ sym (append-nil (pair_text w a y))) b

less_listed : (e : ℕ) (o : Option ℕ) → SomeIff o (1 ≤ e) (e - 1) → option_to_list o ≡ decode e
less_listed zero None h = refl
less_listed zero (Some i) h = absurd (omega (arith, h.0))
less_listed (suc e) None h = absurd (h (omega arith))
less_listed (suc e) (Some i) h = let z : i ≡ e = omega (arith, h.1) in ap (λ (k : ℕ). k ∷ []) z

-- by an entry, one more than the node or 0
pub some_read : {p q : Page} (w : List ℕ) (a x e : ℕ) (o : Option ℕ) → x ≡ e → SomeIff o (1 ≤ x) (x - 1) → Wrote p q (each (pair_text w a) (option_to_list o)) → Wrote p q (some_text w a e)
unfolding some_text
some_read w a x e o f h b = wrote_is (ap (each (pair_text w a)) (less_listed x o h ∙ ap decode f)) b

pub wrote_entry : {p q : Page} (entries : List ℕ) (k x : ℕ) → x ≡ get_or entries (k * 2 + 0) 0 → Wrote p q (some_text (bytes "(entry") x (get_or entries (k * 2 + 1) 0))
    → Wrote p q (entry_text entries k)
unfolding entry_text
wrote_entry entries k x e a = rw e at a

-- row i of those before n, by itself
chunk_at : (k : ℕ) (t : List ℕ) (i j : ℕ) (d : List ℕ) → i < k → j < 2 → get_or (get_or (first_chunks 2 k t) i d) j 0 ≡ get_or t (i * 2 + j) 0
chunk_at zero t i j d h b = absurd (omega arith)
chunk_at (suc k) t zero j d h b = let e : j ≡ 0 * 2 + j = omega arith in get_or-take 2 t j 0 b ∙ ap (λ (z : ℕ). get_or t z 0) e
chunk_at (suc k) t (suc i) j d h b =
    let e : 2 + (i * 2 + j) ≡ suc i * 2 + j = omega arith in
    chunk_at k (drop 2 t) i j d (omega arith) b ∙ get_or-drop 2 t (i * 2 + j) 0 ∙ ap (λ (z : ℕ). get_or t z 0) e

module _ (entries : List ℕ) (n : ℕ) (rows : List (List ℕ)) (fit : n * 2 ≤ length entries) (e : rows ≡ first_chunks 2 (length entries / 2) entries) (many : length rows ≡ length entries / 2) where
  pub row_count : length (take n rows) ≡ n
  row_count = length-take-le n rows (omega (arith, many))

  pub row_alone : (i : ℕ) → i < n → entry_text (get_or (take n rows) i []) 0 ≡ entry_text entries i
  unfolding entry_text
  row_alone i h =
      let r : get_or (take n rows) i [] ≡ get_or (first_chunks 2 (length entries / 2) entries) i [] = get_or-take n rows i [] h ∙ ap (λ (l : List (List ℕ)). get_or l i []) e in
      let f : (j : ℕ) → j < 2 → get_or (get_or (take n rows) i []) j 0 ≡ get_or entries (i * 2 + j) 0 = λ j b.
      ap (λ (l : List ℕ). get_or l j 0) r ∙ chunk_at (length entries / 2) entries i j [] (omega arith) b in
      ap (λ (x : ℕ). some_text (bytes "(entry") x (get_or (get_or (take n rows) i []) 1 0)) (f 0 (omega arith)) ∙ ap (some_text (bytes "(entry") (get_or entries (i * 2 + 0) 0)) (f 1 (omega arith))

pub wrote_back : {p q : Page} (stmts falls : List ℕ) (i : ℕ) → call_word (word_of stmts i) ≡ true → Wrote p q (some_text (bytes "(back") i (get_or falls (i * 3) 0)) → Wrote p q (back_text stmts falls i)
unfolding back_text
wrote_back stmts falls i e a = rw e a

pub wrote_no_back : (p : Page) (stmts falls : List ℕ) (i : ℕ) → call_word (word_of stmts i) ≡ false → Wrote p p (back_text stmts falls i)
unfolding back_text
wrote_no_back p stmts falls i e = rw e (wrote_none p)

pub wrote_returns : {p q s : Page} (l : List ℕ) → Wrote p q (bytes "(returns" ++ spaced l) → Wrote q s (bytes ")\n") → Wrote p s (returns_text l)
unfolding returns_text
wrote_returns l a b = wrote_is (simp append_assoc) (wrote_both a b)

-- of some listing
abbrev pub SomeGraph : (lines stmts entries falls lists returns succ pred : List ℕ) (rows n targets : ℕ) → Type 0
SomeGraph lines stmts entries falls lists returns succ pred rows n targets =
    (L : Listing) × GraphHeld L lines stmts entries falls lists returns succ pred rows n targets

-- the printed graph of the listing whose graph they hold, in a lent part
abbrev pub GraphPrinted : (lines stmts entries falls lists returns succ pred : List ℕ) (rows n targets : ℕ) (out out' : List ℕ) (r : ℕ) → Type 0
GraphPrinted lines stmts entries falls lists returns succ pred rows n targets out out' r =
    (L : Listing) → GraphHeld L lines stmts entries falls lists returns succ pred rows n targets → Puts out 0 out' r (printed L)

-- on a page
abbrev pub GraphWrote : (lines stmts entries falls lists returns succ pred : List ℕ) (rows n targets : ℕ) (p p' : Page) → Type 0
GraphWrote lines stmts entries falls lists returns succ pred rows n targets p p' =
    (L : Listing) → GraphHeld L lines stmts entries falls lists returns succ pred rows n targets → Wrote p p' (printed L)
