-- What later nodes add to a node's list is what the tables say. Assumes nothing.
use Rattle.std.specs.Prelude.{ℕ, zero, suc, ◌+◌, ◌*◌, ◌<◌, ◌≤◌, Bool, ◌||◌, ◌⊎◌, eqb, drop}
use Rattle.std.proofs.Math.Path.{◌≡◌, refl, sym, ap}
use Rattle.std.proofs.Common.{subst, ◌∙◌, ne_eqb, eqb-true}
use Rattle.std.proofs.Math.Bool.{true, false}
use mathlib.Core.List.{List, [], ◌∷◌, ◌++◌, append-nil}
use Rattle.std.proofs.Math.Logic.{inl, inr}
use Rattle.std.proofs.Math.Option.{Option, none, some}
use native.Mathlib.Omega.{arith}
use Rattle.std.proofs.Math.ListN.{length, get_or, get_elem?}
use Rattle.listings.specs.Bytes.{pick}
use Rattle.listings.specs.Every.{All, all[], all∷}
use Rattle.graph.specs.Lists.{each, list}
use Rattle.graph.specs.Nodes.{Node}
use Rattle.graph.specs.NodeWords.{stmt_number}
use Rattle.graph_laws.specs.NodeLaws.{Below, NodeFits}
use Rattle.graph_laws.specs.Members.{all-at}
use Rattle.graph.specs.Edges.{Move, stays, opens, closes, joins, node_moves, Stack, loop_stack, do_stack}
use Rattle.graph_laws.specs.PerNode.{Met, nothing, closing, joining, meets, is_closing, is_joining, move_on, met_on, no_openers, Fact, facts, falls_where, some_where, closer_fall, doif_falls, late}
use Rattle.graph_laws.specs.Adding.{node_number, decode, decode_number, Added, added_none}
use Rattle.graph_laws.specs.ListLaws.{later}
use Rattle.passes.specs.Frames.{loop_move, do_move, word_move, either_met, frame_met, met_number, met_entry, closes_frame, is_else_of, first_where, next_where, do_met_of, else_entry}
use Rattle.graph_laws.specs.PerNodeLaws.{length-facts}
use Rattle.passes.specs.OpenerLaws.{MetIs, some_at, in_range, OpensHere, open_at, met_at, fall_at_lem, stmt_at_lem, met-opened, closed_once, node_of}
use Rattle.passes.specs.MoveLaws.{word_move_lem, one_stack, is_exit, loop_joins, do_joins, do_opens}
use Rattle.passes.specs.FrameRows.{met_entry_lem, closer_entry, else_entry_lem}
use Rattle.passes.specs.FramePassLaws.{either_nothing}
use Rattle.passes.specs.LinkLaws.{met_word, frame_below}
use Rattle.passes.specs.Closing.{fall_by, fall_from, FallFits, FallFitsFrom, AboveNode, ElseChain, chain[], chain∷, elses_or, DoifFits, DoifAdded, closer_from, CloserFits, joins_word, ClosingTables, ClosingReady, closing_edges, ClosingAdded}

-- ---- the nodes from k on that pass a test
unfoldable nodes_where : (Fact → Bool) → ℕ → List Fact → List ℕ
nodes_where p k [] = []
nodes_where p k (f ∷ fs) = pick (p f) (k ∷ nodes_where p (suc k) fs) (nodes_where p (suc k) fs)

-- the facts from node k on
abbrev FactsFrom : List Fact → ℕ → List Fact → Type 0
FactsFrom F k G = drop k F ≡ G

from_head : (F : List Fact) (k : ℕ) (f : Fact) (G : List Fact) → FactsFrom F k (f ∷ G) → get_elem? F k ≡ some f
from_head [] zero f G e = absurd (let z : ◌≡◌ {A = ℕ} 0 1 = cc in omega arith)
from_head [] (suc k) f G e = absurd (let z : ◌≡◌ {A = ℕ} 0 1 = cc in omega arith)
from_head (g ∷ F) zero f G e = let q : g ≡ f = cc in ap some q
from_head (g ∷ F) (suc k) f G e = from_head F k f G e

from_tail : (F : List Fact) (k : ℕ) (f : Fact) (G : List Fact) → FactsFrom F k (f ∷ G) → FactsFrom F (suc k) G
from_tail [] zero f G e = absurd (let z : ◌≡◌ {A = ℕ} 0 1 = cc in omega arith)
from_tail [] (suc k) f G e = absurd (let z : ◌≡◌ {A = ℕ} 0 1 = cc in omega arith)
from_tail (g ∷ F) zero f G e = cc
from_tail (g ∷ F) (suc k) f G e = from_tail F k f G e

from_start : (F : List Fact) → FactsFrom F 0 F
from_start F = refl

first_above : (p : Fact → Bool) (k : ℕ) (G : List Fact) (j : ℕ) → first_where p k G ≡ suc j → (k ≤ j) × (j < k + length G)
unfolding first_where
first_above p k [] j e = absurd (omega arith)
first_above p k (f ∷ G) j e = go (p f) (first_above p (suc k) G j) e
  where
    go : (x : Bool) → (first_where p (suc k) G ≡ suc j → (suc k ≤ j) × (j < suc k + length G)) → pick x (suc k) (first_where p (suc k) G) ≡ suc j → (k ≤ j) × (j < k + suc (length G))
    go true r q = (omega arith, omega arith)
    go false r q = let y = r q in (omega (arith, y.0), omega (arith, y.1))

-- ---- falls by the tables
module _ (falls : List ℕ) (F : List Fact) (falling : (j : ℕ) (f : Fact) → get_elem? F j ≡ some f → get_or falls (j * 3) 0 ≡ node_number f.fall) where
  fall_is : (k : ℕ) (f : Fact) → get_elem? F k ≡ some f → fall_by falls k ≡ list f.fall
  unfolding fall_by
  fall_is k f e = ap decode (falling k f e) ∙ decode_number f.fall

  falls_are : (s : Stack) (p : Met → Bool) (k : ℕ) (G : List Fact) → FactsFrom F k G → falls_where s p G ≡ each (fall_by falls) (nodes_where (λ f. p (met_on s f)) k G)
  unfolding falls_where nodes_where each
  falls_are s p k [] h = refl
  falls_are s p k (f ∷ G) h = go (p (met_on s f)) (falls_are s p (suc k) G (from_tail F k f G h))
    where
      go : (x : Bool) → falls_where s p G ≡ each (fall_by falls) (nodes_where (λ f. p (met_on s f)) (suc k) G)
          → pick x (list f.fall ++ falls_where s p G) (falls_where s p G) ≡ each (fall_by falls) (pick x (k ∷ nodes_where (λ f. p (met_on s f)) (suc k) G) (nodes_where (λ f. p (met_on s f)) (suc k) G))
      go true e = rw (e, fall_is k f (from_head F k f G h))
      go false e = e

-- whether there is one
some_first : (s : Stack) (p : Met → Bool) (k : ℕ) (G : List Fact) (a b : List ℕ) → pick (some_where s p G) a b ≡ elses_or (first_where (λ f. p (met_on s f)) k G) a b
unfolding some_where first_where
some_first s p k [] a b = refl
some_first s p k (f ∷ G) a b = go (p (met_on s f)) (some_first s p (suc k) G a b)
  where
    go : (x : Bool) → pick (some_where s p G) a b ≡ elses_or (first_where (λ f. p (met_on s f)) (suc k) G) a b
        → pick (x || some_where s p G) a b ≡ elses_or (pick x (suc k) (first_where (λ f. p (met_on s f)) (suc k) G)) a b
    go true e = refl
    go false e = e

-- ---- closers
no_closing : (P : ℕ → Type 0) (o : ℕ) → (P o → ⊥) → (x : Met) → MetIs P x → is_closing o x ≡ false
unfolding is_closing
no_closing P o h nothing p = refl
no_closing P o h (closing q) p = ne_eqb o q (λ e. h (subst P (sym e) p))
no_closing P o h (joining q) p = refl

is_closing_lem : (o : ℕ) (x : Met) → is_closing o x ≡ true → x ≡ closing o
unfolding is_closing
is_closing_lem o nothing e = absurd (let z : ◌≡◌ {A = ℕ} 0 1 = cc in omega arith)
is_closing_lem o (closing q) e = ap closing (sym (eqb-true o q e))
is_closing_lem o (joining q) e = absurd (let z : ◌≡◌ {A = ℕ} 0 1 = cc in omega arith)

is_joining_lem : (o : ℕ) (x : Met) → is_joining o x ≡ true → x ≡ joining o
unfolding is_joining
is_joining_lem o nothing e = absurd (let z : ◌≡◌ {A = ℕ} 0 1 = cc in omega arith)
is_joining_lem o (joining q) e = ap joining (sym (eqb-true o q e))
is_joining_lem o (closing q) e = absurd (let z : ◌≡◌ {A = ℕ} 0 1 = cc in omega arith)

-- ---- the words that join
joins_cases : (w : ℕ) → joins_word w ≡ true → (w ≡ 19) ⊎ ((w ≡ 20) ⊎ (w ≡ 22))
unfolding joins_word
joins_cases w e = go (eqb w 19) (eqb w 20) refl refl e
  where
    go : (x y : Bool) → eqb w 19 ≡ x → eqb w 20 ≡ y → ((x || y) || eqb w 22) ≡ true → (w ≡ 19) ⊎ ((w ≡ 20) ⊎ (w ≡ 22))
    go true y p q r = inl (eqb-true w 19 p)
    go false true p q r = inr (inl (eqb-true w 20 q))
    go false false p q r = inr (inr (eqb-true w 22 r))

no_join : (w : ℕ) → joins_word w ≡ false → (is_exit w ≡ true) ⊎ (eqb w 22 ≡ true) → ⊥
unfolding joins_word
no_join w e (inl q) = let r : true ≡ false = rw q at e in let z : ◌≡◌ {A = ℕ} 0 1 = cc in omega arith
no_join w e (inr q) = let r = later (eqb w 19 || eqb w 20) (eqb w 22) q in let z : ◌≡◌ {A = ℕ} 0 1 = cc in omega arith

loop_none : (F : List Fact) (i : ℕ) (m : Move) (x : Met) → (m ≡ joins → ⊥) → late loop_stack F i m x ≡ []
unfolding late
loop_none F i stays x h = refl
loop_none F i opens x h = refl
loop_none F i closes x h = refl
loop_none F i joins x h = absurd (h refl)

do_none : (F : List Fact) (i : ℕ) (m : Move) (x : Met) → (m ≡ joins → ⊥) → (m ≡ opens → ⊥) → late do_stack F i m x ≡ []
unfolding late
do_none F i stays x h g = refl
do_none F i opens x h g = absurd (g refl)
do_none F i closes x h g = refl
do_none F i joins x h g = absurd (h refl)

node_one : (d : Node) → (move_on loop_stack (node_moves d.stmt) ≡ stays) ⊎ (move_on do_stack (node_moves d.stmt) ≡ stays)
unfolding word_move
node_one d =
    elim (one_stack (stmt_number d.stmt)) [
      | inl e ↦ inl (sym (word_move_lem loop_stack d.stmt) ∙ e)
      | inr e ↦ inr (sym (word_move_lem do_stack d.stmt) ∙ e)
    ]

module _ (ns : List Node) where
  abbrev F : List Fact
  F = facts 0 ns no_openers

  opens_one : (o : ℕ) → OpensHere loop_stack ns o → OpensHere do_stack ns o → ⊥
  opens_one o a b =
      elim (node_one a.0) [
        | inl e ↦ let z : ◌≡◌ {A = ℕ} 0 1 = let m = a.2 in cc in omega arith
        | inr e ↦
            let d : a.0 ≡ b.0 = let x = a.1 in let y = b.1 in cc in
            let m : move_on do_stack (node_moves a.0.stmt) ≡ opens = rw d b.2 in
            let z : ◌≡◌ {A = ℕ} 0 1 = cc in omega arith
      ]

  one-met : (j : ℕ) (f : Fact) → get_elem? F j ≡ some f → (f.loop_met ≡ nothing) ⊎ (f.do_met ≡ nothing)
  unfolding met_on meets
  one-met j f at =
      let d = node_of loop_stack ns j f at in
      elim (node_one d.0) [
        | inl e ↦ inl (met_at loop_stack ns j d.0 f d.1 at ∙ rw e)
        | inr e ↦ inr (met_at do_stack ns j d.0 f d.1 at ∙ rw e)
      ]

  -- the frame of an opener is closed on its own stack
  same_closer : (s : Stack) (o : ℕ) → OpensHere s ns o → (j : ℕ) (f : Fact) → get_elem? F j ≡ some f → closes_frame o f ≡ is_closing o (met_on s f)
  unfolding closes_frame frame_met either_met met_on is_closing
  same_closer loop_stack o h j f at =
      elim (one-met j f at) [
        | inl e ↦ rw e (no_closing (OpensHere do_stack ns) o (opens_one o h) f.do_met (met-opened do_stack ns j f at))
        | inr e ↦ rw e (ap (is_closing o) (either_nothing f.loop_met))
      ]
  same_closer do_stack o h j f at =
      elim (one-met j f at) [
        | inl e ↦ rw e
        | inr e ↦ rw e (ap (is_closing o) (either_nothing f.loop_met) ∙ no_closing (OpensHere loop_stack ns) o (λ a. opens_one o a h) f.loop_met (met-opened loop_stack ns j f at))
      ]

  -- two tests that agree on all facts
  first-same : (p q : Fact → Bool) (k : ℕ) (G : List Fact) → FactsFrom F k G → ((j : ℕ) (f : Fact) → get_elem? F j ≡ some f → p f ≡ q f) → first_where p k G ≡ first_where q k G
  unfolding first_where
  first-same p q k [] h e = refl
  first-same p q k (f ∷ G) h e = rw (e k f (from_head F k f G h), first-same p q (suc k) G (from_tail F k f G h) e)

  nodes-none : (p : Fact → Bool) (k : ℕ) (G : List Fact) → FactsFrom F k G → ((j : ℕ) (f : Fact) → k ≤ j → get_elem? F j ≡ some f → p f ≡ false) → nodes_where p k G ≡ []
  unfolding nodes_where
  nodes-none p k [] h e = refl
  nodes-none p k (f ∷ G) h e = rw (e k f (omega arith) (from_head F k f G h)) (nodes-none p (suc k) G (from_tail F k f G h) (λ j g a. e j g (omega arith)))

  -- one closer at most
  abbrev closes_on : Stack → ℕ → Fact → Bool
  closes_on s o f = is_closing o (met_on s f)

  closer_alone : (s : Stack) (o k : ℕ) (f : Fact) → get_elem? F k ≡ some f → closes_on s o f ≡ true → (j : ℕ) (g : Fact) → suc k ≤ j → get_elem? F j ≡ some g → closes_on s o g ≡ false
  closer_alone s o k f at c j g h a = no_closing (λ (p : ℕ). o ≡ p → ⊥) o (λ n. n refl) (met_on s g) (closed_once s ns k f o at (is_closing_lem o (met_on s f) c) j g h a)

  closer_one : (falls : List ℕ) (s : Stack) (o k : ℕ) (G : List Fact) → FactsFrom F k G → each (fall_by falls) (nodes_where (closes_on s o) k G) ≡ fall_from falls (first_where (closes_on s o) k G)
  unfolding nodes_where first_where each fall_from
  closer_one falls s o k [] h = refl
  closer_one falls s o k (f ∷ G) h = go (closes_on s o f) refl (closer_one falls s o (suc k) G (from_tail F k f G h))
    where
      go : (x : Bool) → closes_on s o f ≡ x → each (fall_by falls) (nodes_where (closes_on s o) (suc k) G) ≡ fall_from falls (first_where (closes_on s o) (suc k) G)
          → each (fall_by falls) (pick x (k ∷ nodes_where (closes_on s o) (suc k) G) (nodes_where (closes_on s o) (suc k) G)) ≡ fall_from falls (pick x (suc k) (first_where (closes_on s o) (suc k) G))
      go true e r = rw (nodes-none (closes_on s o) (suc k) G (from_tail F k f G h) (closer_alone s o k f (from_head F k f G h) e)) (append-nil (fall_by falls k))
      go false e r = r

  module _ (stmts falls frames : List ℕ) (t : ClosingTables stmts falls frames ns) where
    -- where the closer of opener o falls
    closer_falls : (s : Stack) (o : ℕ) → OpensHere s ns o → falls_where s (is_closing o) F ≡ fall_from falls (get_or frames (o * 3 + 1) 0)
    unfolding next_where
    closer_falls s o h =
        let g = in_range ns o h.0 h.1 in
        let e : get_or frames (o * 3 + 1) 0 ≡ first_where (closes_frame o) 0 F
        = ap (λ (x : List ℕ). get_or x (o * 3 + 1) 0) t.framed ∙ closer_entry F (length frames) o (omega (arith, length-facts 0 ns no_openers)) in
        falls_are falls F t.falling s (is_closing o) 0 F (from_start F) ∙ closer_one falls s o 0 F (from_start F)
        ∙ ap (fall_from falls) (sym (e ∙ first-same (closes_frame o) (closes_on s o) 0 F (from_start F) (same_closer s o h)))

    above_by : (p : Fact → Bool) (k c : ℕ) (G : List Fact) → first_where p (suc k) G ≡ c → AboveNode k c
    above_by p k zero G e = tt
    above_by p k (suc j) G e = omega (arith, (first_above p (suc k) G j e).0)

    -- the ELSEs of o from node k on are those of the chain
    else_link : (o k : ℕ) (f : Fact) (G : List Fact) → FactsFrom F k (f ∷ G) → is_else_of o f ≡ true → get_or frames (k * 3 + 2) 0 ≡ first_where (is_else_of o) (suc k) G
    unfolding else_entry do_met_of next_where is_else_of
    else_link o k f G h e =
        let at = from_head F k f G h in
        ap (λ (x : List ℕ). get_or x (k * 3 + 2) 0) t.framed ∙ else_entry_lem F (length frames) k (in_range F k f at)
        ∙ rw (at, is_joining_lem o f.do_met e, from_tail F k f G h)

    else_there : (k : ℕ) (f : Fact) → get_elem? F k ≡ some f → k * 3 + 2 < length frames
    else_there k f at = omega (arith, in_range F k f at, length-facts 0 ns no_openers, t.frames_fit)

    else_chain : (o k : ℕ) (G : List Fact) → FactsFrom F k G → ElseChain frames (first_where (is_else_of o) k G) (nodes_where (is_else_of o) k G)
    unfolding first_where nodes_where
    else_chain o k [] h = chain[]
    else_chain o k (f ∷ G) h = go (is_else_of o f) refl (else_chain o (suc k) G (from_tail F k f G h))
      where
        go : (x : Bool) → is_else_of o f ≡ x → ElseChain frames (first_where (is_else_of o) (suc k) G) (nodes_where (is_else_of o) (suc k) G)
            → ElseChain frames (pick x (suc k) (first_where (is_else_of o) (suc k) G)) (pick x (k ∷ nodes_where (is_else_of o) (suc k) G) (nodes_where (is_else_of o) (suc k) G))
        go true e r =
            let q = else_link o k f G h e in
            chain∷ {j = k} {l = nodes_where (is_else_of o) (suc k) G} (else_there k f (from_head F k f G h)) (rw q (above_by (is_else_of o) k (first_where (is_else_of o) (suc k) G) G refl)) (rw q r)
        go false e r = r

    fit_by : (m : ℕ) (p : Fact → Bool) (k : ℕ) (G : List Fact) → FactsFrom F k G → ((j : ℕ) → j < length ns → get_or falls (j * 3) 0 ≤ m) → All (FallFits falls m) (nodes_where p k G)
    unfolding nodes_where
    fit_by m p k [] h b = all[]
    fit_by m p k (f ∷ G) h b = go (p f) (fit_by m p (suc k) G (from_tail F k f G h) b)
      where
        go : (x : Bool) → All (FallFits falls m) (nodes_where p (suc k) G) → All (FallFits falls m) (pick x (k ∷ nodes_where p (suc k) G) (nodes_where p (suc k) G))
        go true r =
            let l : k < length ns = omega (arith, in_range F k f (from_head F k f G h), length-facts 0 ns no_openers) in
            all∷ {a = k} (omega (arith, t.falls_fit), b k l) r
        go false r = r

    -- ---- node i
    module _ (i : ℕ) (f : Fact) (at : get_elem? F i ≡ some f) where
      abbrev word : ℕ
      word = get_or stmts (i * 12) 0

      move_word : (s : Stack) → move_on s (node_moves f.stmt) ≡ word_move s word
      move_word s =
          let d = node_of s ns i f at in
          ap (λ x. move_on s (node_moves x)) (stmt_at_lem s ns i d.0 f d.1 at) ∙ sym (ap (word_move s) (t.worded i d.0 d.1) ∙ word_move_lem s d.0.stmt)

      closing-words : closing_edges F i f ≡ late loop_stack F i (loop_move word) f.loop_met ++ late do_stack F i (do_move word) f.do_met
      unfolding closing_edges move_on word_move
      closing-words = rw (move_word loop_stack, move_word do_stack)

      met_is : get_or frames (i * 3) 0 ≡ met_number (frame_met f)
      unfolding met_entry
      met_is = ap (λ (x : List ℕ). get_or x (i * 3) 0) t.framed ∙ met_entry_lem F (length frames) i (in_range F i f at) ∙ rw at

      -- an EXIT or an ELSE goes where the closer of its frame falls
      closer_met : (s : Stack) (l : List ℕ) (x : Met) → x ≡ meets joins l → MetIs (OpensHere s ns) x → closer_fall s F x ≡ closer_from falls frames (met_number x)
      unfolding closer_fall closer_from met_number meets
      closer_met s l nothing e h = refl
      closer_met s l (joining o) e h = closer_falls s o h
      closer_met s [] (closing o) e h = absurd (let z : ◌≡◌ {A = ℕ} 0 1 = cc in omega arith)
      closer_met s (p ∷ l) (closing o) e h = absurd (let z : ◌≡◌ {A = ℕ} 0 1 = cc in omega arith)

      exit_closing : loop_move word ≡ joins → do_move word ≡ stays → closing_edges F i f ≡ closer_from falls frames (get_or frames (i * 3) 0)
      unfolding met_on word_move late frame_met meets
      exit_closing a b =
          let m : f.loop_met ≡ meets joins (open_at loop_stack ns i) = met_word stmts ns t.worded i f at loop_stack ∙ rw a in
          let d : f.do_met ≡ nothing = met_word stmts ns t.worded i f at do_stack ∙ rw b in
          closing-words ∙ rw (a, b, met_is, d, either_nothing f.loop_met)
          (append-nil (closer_fall loop_stack F f.loop_met) ∙ closer_met loop_stack (open_at loop_stack ns i) f.loop_met m (met-opened loop_stack ns i f at))

      else_closing : loop_move word ≡ stays → do_move word ≡ joins → closing_edges F i f ≡ closer_from falls frames (get_or frames (i * 3) 0)
      unfolding met_on word_move late frame_met either_met meets
      else_closing a b =
          let m : f.loop_met ≡ nothing = met_word stmts ns t.worded i f at loop_stack ∙ rw a in
          let d : f.do_met ≡ meets joins (open_at do_stack ns i) = met_word stmts ns t.worded i f at do_stack ∙ rw b in
          closing-words ∙ rw (a, b, met_is, m) (closer_met do_stack (open_at do_stack ns i) f.do_met d (met-opened do_stack ns i f at))

      joined-closing : joins_word word ≡ true → closing_edges F i f ≡ closer_from falls frames (get_or frames (i * 3) 0)
      unfolding loop_move do_move
      joined-closing e =
          elim (joins_cases word e) [
            | inl q ↦ exit_closing (rw q) (rw q)
            | inr (inl q) ↦ exit_closing (rw q) (rw q)
            | inr (inr q) ↦ else_closing (rw q) (rw q)
          ]

      -- no other node has later edges, but a DOIF
      none-closing : joins_word word ≡ false → (word ≡ 21 → ⊥) → closing_edges F i f ≡ []
      none-closing e h =
          closing-words
          ∙ rw (loop_none F i (loop_move word) f.loop_met (λ q. no_join word e (inl (loop_joins word q).1)), do_none F i (do_move word) f.do_met (λ q. no_join word e (inr (do_joins word q))) (λ q. h (do_opens word q)))

      -- ---- a DOIF
      first_else : word ≡ 21 → get_or frames (i * 3 + 2) 0 ≡ first_where (is_else_of i) 0 F
      unfolding else_entry do_met_of next_where met_on word_move do_move meets
      first_else e =
          let d : f.do_met ≡ nothing = met_word stmts ns t.worded i f at do_stack ∙ rw e in
          ap (λ (x : List ℕ). get_or x (i * 3 + 2) 0) t.framed ∙ else_entry_lem F (length frames) i (in_range F i f at) ∙ rw (at, d)

      opens_do : word ≡ 21 → OpensHere do_stack ns i
      unfolding word_move do_move
      opens_do e =
          let d = node_of do_stack ns i f at in
          (d.0, d.1, sym (ap (λ x. move_on do_stack (node_moves x)) (stmt_at_lem do_stack ns i d.0 f d.1 at)) ∙ move_word do_stack ∙ rw e)

      doif_is : word ≡ 21 → closing_edges F i f ≡ doif_falls F i
      unfolding late loop_move do_move
      doif_is e = closing-words ∙ rw e

      doif_falls_here : word ≡ 21 → doif_falls F i ≡ elses_or (get_or frames (i * 3 + 2) 0) (each (fall_by falls) (nodes_where (is_else_of i) 0 F)) (fall_from falls (get_or frames (i * 3 + 1) 0))
      unfolding doif_falls is_else_of met_on
      doif_falls_here e =
          some_first do_stack (is_joining i) 0 F (falls_where do_stack (is_joining i) F) (falls_where do_stack (is_closing i) F)
          ∙ rw (first_else e, falls_are falls F t.falling do_stack (is_joining i) 0 F (from_start F), closer_falls do_stack i (opens_do e))

      doif_chain : word ≡ 21 → ElseChain frames (get_or frames (i * 3 + 2) 0) (nodes_where (is_else_of i) 0 F)
      doif_chain e = rw (first_else e) (else_chain i 0 F (from_start F))

      doif_closing : (p q : List ℕ) (n r : ℕ) → word ≡ 21 → DoifAdded falls frames i p n q r → Added p n q r (closing_edges F i f)
      doif_closing p q n r e a = rw (doif_is e ∙ doif_falls_here e) (a (nodes_where (is_else_of i) 0 F) (doif_chain e))

      -- ---- what the code may read
      module _ (m : ℕ) (below : (j : ℕ) → j < length ns → get_or falls (j * 3) 0 ≤ m) where
        from_fits : (c : ℕ) → ((j : ℕ) → c ≡ suc j → j < length ns) → FallFitsFrom falls m c
        from_fits zero h = tt
        from_fits (suc j) h = let l = h j refl in (omega (arith, t.falls_fit), below j l)

        closer_fits : (o : ℕ) → o < length ns → FallFitsFrom falls m (get_or frames (o * 3 + 1) 0)
        unfolding next_where
        closer_fits o h =
            let e : get_or frames (o * 3 + 1) 0 ≡ first_where (closes_frame o) 0 F
            = ap (λ (x : List ℕ). get_or x (o * 3 + 1) 0) t.framed ∙ closer_entry F (length frames) o (omega (arith, length-facts 0 ns no_openers)) in
            from_fits (get_or frames (o * 3 + 1) 0) (λ j q. omega (arith, (first_above (closes_frame o) 0 F j (sym e ∙ q)).1, length-facts 0 ns no_openers))

        doif_fits : word ≡ 21 → DoifFits falls frames m i
        doif_fits e = record {
          there = else_there i f at;
          elses = record { elses = nodes_where (is_else_of i) 0 F; chain = doif_chain e; fit = fit_by m (is_else_of i) 0 F (from_start F) below };
          closer = closer_fits i (omega (arith, in_range F i f at, length-facts 0 ns no_openers));
        }

        met-fits : (x : Met) → MetIs (λ (o : ℕ). o < i) x → CloserFits falls frames m (met_number x)
        unfolding met_number
        met-fits nothing h = tt
        met-fits (closing o) h = let g = else_there i f at in (omega arith, closer_fits o (omega (arith, in_range F i f at, length-facts 0 ns no_openers)))
        met-fits (joining o) h = let g = else_there i f at in (omega arith, closer_fits o (omega (arith, in_range F i f at, length-facts 0 ns no_openers)))

        joined-fits : CloserFits falls frames m (get_or frames (i * 3) 0)
        joined-fits = rw met_is (met-fits (frame_met f) (frame_below stmts ns t.worded i f at))

-- ---- for the callers: a listing's nodes fall to nodes
pub number_below : (n : ℕ) (e : Option ℕ) → Below n e → node_number e ≤ n
number_below n none h = omega arith
number_below n (some a) h = h

pub closing_ready : (stmts falls frames : List ℕ) (i m : ℕ) (ns : List Node) → ClosingTables stmts falls frames ns → i < length ns → length ns ≤ m → All (NodeFits (length ns)) ns
    → ClosingReady stmts falls frames i m
closing_ready stmts falls frames i m ns t h g a = record {
  nodes = ns;
  tables = t;
  node = h;
  fall_below = λ j l.
      let d = some_at ns j l in
      let f = some_at (facts 0 ns no_openers) j (omega (arith, length-facts 0 ns no_openers)) in
      let b : Below (length ns) f.0.fall = rw (fall_at_lem loop_stack ns j d.0 f.0 d.1 f.1) (all-at a j d.0 d.1).0 in
      omega (arith, t.falling j f.0 f.1, number_below (length ns) f.0.fall b);
}

-- ---- for the code
module _ (stmts falls frames : List ℕ) (i m : ℕ) (r : ClosingReady stmts falls frames i m) where
  ready_fact : (f : Fact) × (get_elem? (facts 0 r.nodes no_openers) i ≡ some f)
  ready_fact = some_at (facts 0 r.nodes no_openers) i (omega (arith, r.node, length-facts 0 r.nodes no_openers))

  pub ready_stmt : i * 12 < length stmts
  ready_stmt = omega (arith, r.node, r.tables.stmts_fit)

  pub ready_frame : i * 3 < length frames
  ready_frame = omega (arith, r.node, r.tables.frames_fit)

  pub ready_doif : get_or stmts (i * 12) 0 ≡ 21 → DoifFits falls frames m i
  ready_doif e = let f = ready_fact in doif_fits r.nodes stmts falls frames r.tables i f.0 f.1 m r.fall_below e

  pub ready_closer : (x : ℕ) → x ≡ get_or frames (i * 3) 0 → CloserFits falls frames m x
  ready_closer x e = let f = ready_fact in rw e (joined-fits r.nodes stmts falls frames r.tables i f.0 f.1 m r.fall_below)

module _ (stmts falls frames : List ℕ) (i : ℕ) (p q : List ℕ) (n r : ℕ) where
  pub closing_doif : get_or stmts (i * 12) 0 ≡ 21 → DoifAdded falls frames i p n q r → ClosingAdded stmts falls frames i p n q r
  closing_doif e a ns t f at = doif_closing ns stmts falls frames t i f at p q n r e a

  pub closing-joined : (x : ℕ) → joins_word (get_or stmts (i * 12) 0) ≡ true → x ≡ get_or frames (i * 3) 0 → Added p n q r (closer_from falls frames x) → ClosingAdded stmts falls frames i p n q r
  closing-joined x e z a ns t f at = rw (joined-closing ns stmts falls frames t i f at e, ← z) a

  pub closing-none : joins_word (get_or stmts (i * 12) 0) ≡ false → (get_or stmts (i * 12) 0 ≡ 21 → ⊥) → ClosingAdded stmts falls frames i p n p n
  closing-none e h ns t f at = rw (none-closing ns stmts falls frames t i f at e h) (added_none p n)
