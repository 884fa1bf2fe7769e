-- The openers of a stack before each node, newest first: they descend, each opens a frame of that stack, and none is
-- met again once its frame is closed. Assumes nothing.
use Rattle.std.specs.Prelude.{ℕ, zero, suc, ◌+◌, ◌-◌, ◌<◌, ◌≤◌, length}
use Rattle.std.proofs.Math.Path.{◌≡◌, refl, ap}
use Rattle.std.proofs.Common.{sym, ◌∙◌}
use mathlib.Core.List.{List, [], ◌∷◌}
use Rattle.std.proofs.Math.Option.{some}
use native.Mathlib.Omega.{arith}
use Rattle.std.proofs.Math.ListN.{get_elem?}
use Rattle.listings.specs.Every.{All, all[], all∷}
use Rattle.graph_laws.specs.Members.{all_map}
use Rattle.graph.specs.Nodes.{Node}
use Rattle.graph.specs.Edges.{Move, stays, opens, closes, joins, Moves, node_moves, Stack, loop_stack, do_stack}
use Rattle.graph_laws.specs.PerNode.{Openers, no_openers, openers_after, after, Met, nothing, closing, joining, meets, Fact, fact_of, facts, move_on, met_on}
use Rattle.graph_laws.specs.PerNodeLaws.{length-facts}
use Rattle.passes.specs.FrameStacks.{top_of}

pub some_at : {A : Type 0} (l : List A) (k : ℕ) → k < length l → (a : A) × (get_elem? l k ≡ some a)
some_at [] k h = absurd (omega arith)
some_at (a ∷ l) zero h = (a, refl)
some_at (a ∷ l) (suc k) h = some_at l k (omega arith)

pub in_range : {A : Type 0} (l : List A) (k : ℕ) (a : A) → get_elem? l k ≡ some a → k < length l
in_range [] k a e = absurd (let z : ◌≡◌ {A = ℕ} 0 1 = cc in omega arith)
in_range (b ∷ l) zero a e = omega arith
in_range (b ∷ l) (suc k) a e = omega (arith, in_range l k a e)

-- ---- the openers before the j-th of the nodes from i on
unfoldable pub openers_at : ℕ → List Node → Openers → ℕ → Openers
openers_at i ns st zero = st
openers_at i [] st (suc j) = st
openers_at i (d ∷ ns) st (suc j) = openers_at (suc i) ns (after i (node_moves d.stmt) st) j

openers_next : (i : ℕ) (ns : List Node) (st : Openers) (j : ℕ) (d : Node) → get_elem? ns j ≡ some d → openers_at i ns st (suc j) ≡ after (i + j) (node_moves d.stmt) (openers_at i ns st j)
unfolding openers_at
openers_next i [] st j d e = absurd (let z : ◌≡◌ {A = ℕ} 0 1 = cc in omega arith)
openers_next i (c ∷ ns) st zero d e = let q : c ≡ d = cc in let z : i ≡ i + 0 = omega arith in rw (← z, q)
openers_next i (c ∷ ns) st (suc j) d e = let z : suc i + j ≡ i + suc j = omega arith in rw (← z) (openers_next (suc i) ns (after i (node_moves c.stmt) st) j d e)

fact_at : (i : ℕ) (ns : List Node) (st : Openers) (j : ℕ) (d : Node) → get_elem? ns j ≡ some d → get_elem? (facts i ns st) j ≡ some (fact_of d (openers_at i ns st j))
unfolding facts openers_at
fact_at i [] st j d e = absurd (let z : ◌≡◌ {A = ℕ} 0 1 = cc in omega arith)
fact_at i (c ∷ ns) st zero d e = let q : c ≡ d = cc in rw q
fact_at i (c ∷ ns) st (suc j) d e = fact_at (suc i) ns (after i (node_moves c.stmt) st) j d e

abbrev open_on : Stack → Openers → List ℕ
open_on loop_stack os = os.loops
open_on do_stack os = os.dos

on_after : (s : Stack) (k : ℕ) (m : Moves) (os : Openers) → open_on s (after k m os) ≡ openers_after k (move_on s m) (open_on s os)
unfolding after move_on
on_after loop_stack k m os = refl
on_after do_stack k m os = refl

met_of : (s : Stack) (d : Node) (os : Openers) → met_on s (fact_of d os) ≡ meets (move_on s (node_moves d.stmt)) (open_on s os)
unfolding met_on fact_of move_on
met_of loop_stack d os = refl
met_of do_stack d os = refl

-- ---- descending, all below k
pub data Desc : ℕ → List ℕ → Type 0 where
  desc[] : {k : ℕ} → Desc k []
  desc∷ : {k o : ℕ} {l : List ℕ} → o < k → Desc o l → Desc k (o ∷ l)

raise : (j k : ℕ) {l : List ℕ} → Desc j l → j ≤ k → Desc k l
raise j k desc[] h = desc[]
raise j k (desc∷ {o} g d) h = desc∷ {k = k} {o = o} (omega arith) d

desc_after : (m : Move) (k : ℕ) {l : List ℕ} → Desc k l → Desc (suc k) (openers_after k m l)
unfolding openers_after
desc_after stays k d = raise k (suc k) d (omega arith)
desc_after opens k d = desc∷ {k = suc k} {o = k} (omega arith) d
desc_after closes k desc[] = desc[]
desc_after closes k (desc∷ {o} g d) = raise o (suc k) d (omega arith)
desc_after joins k d = raise k (suc k) d (omega arith)

pub desc_top : (k : ℕ) {l : List ℕ} → Desc k l → top_of l ≤ k
desc_top k desc[] = omega arith
desc_top k (desc∷ g d) = g

abbrev Without : ℕ → List ℕ → Type 0
Without o l = All (λ (p : ℕ). o ≡ p → ⊥) l

without : (k o : ℕ) → k ≤ o → {l : List ℕ} → Desc k l → Without o l
without k o h desc[] = all[]
without k o h (desc∷ {o = p} g d) = all∷ {a = p} (λ e. omega arith) (without p o (omega arith) d)

without-after : (o k : ℕ) (m : Move) → o < k → {l : List ℕ} → Without o l → Without o (openers_after k m l)
unfolding openers_after
without-after o k stays h a = a
without-after o k opens h a = all∷ {a = k} (λ e. omega arith) a
without-after o k closes h all[] = all[]
without-after o k closes h (all∷ p a) = a
without-after o k joins h a = a

-- the opener, if there is one, of the frame that a node closes or joins
abbrev pub MetIs : (ℕ → Type 0) → Met → Type 0
MetIs P nothing = Unit {0}
MetIs P (closing o) = P o
MetIs P (joining o) = P o

all-met : {P : ℕ → Type 0} (m : Move) {l : List ℕ} → All P l → MetIs P (meets m l)
unfolding meets
all-met stays a = tt
all-met opens a = tt
all-met closes all[] = tt
all-met closes (all∷ p a) = p
all-met joins all[] = tt
all-met joins (all∷ p a) = p

below_all : (k : ℕ) {l : List ℕ} → Desc k l → All (λ (o : ℕ). o < k) l
below_all k desc[] = all[]
below_all k (desc∷ {o} g d) = all∷ {a = o} g (all_map (λ (p : ℕ) h. omega arith) (below_all o d))

-- ---- one stack of a list of nodes
module _ (s : Stack) (ns : List Node) where
  -- the openers on the stack before node j
  unfoldable pub open_at : ℕ → List ℕ
  open_at j = open_on s (openers_at 0 ns no_openers j)

  pub open_start : open_at 0 ≡ []
  unfolding open_at openers_at no_openers
  open_start = go s
    where
      go : (k : Stack) → open_on k no_openers ≡ []
      go loop_stack = refl
      go do_stack = refl

  pub open_next : (j : ℕ) (d : Node) → get_elem? ns j ≡ some d → open_at (suc j) ≡ openers_after j (move_on s (node_moves d.stmt)) (open_at j)
  unfolding open_at
  open_next j d e =
      let z : 0 + j ≡ j = omega arith in
      ap (open_on s) (openers_next 0 ns no_openers j d e) ∙ on_after s (0 + j) (node_moves d.stmt) (openers_at 0 ns no_openers j)
      ∙ ap (λ (x : ℕ). openers_after x (move_on s (node_moves d.stmt)) (open_on s (openers_at 0 ns no_openers j))) z

  -- what node j meets
  pub met_at : (j : ℕ) (d : Node) (f : Fact) → get_elem? ns j ≡ some d → get_elem? (facts 0 ns no_openers) j ≡ some f → met_on s f ≡ meets (move_on s (node_moves d.stmt)) (open_at j)
  unfolding open_at
  met_at j d f e g =
      let q : fact_of d (openers_at 0 ns no_openers j) ≡ f = let h = fact_at 0 ns no_openers j d e in cc in
      ap (met_on s) (sym q) ∙ met_of s d (openers_at 0 ns no_openers j)

  pub fall_at_lem : (j : ℕ) (d : Node) (f : Fact) → get_elem? ns j ≡ some d → get_elem? (facts 0 ns no_openers) j ≡ some f → f.fall ≡ d.fall
  unfolding fact_of
  fall_at_lem j d f e g =
      let q : fact_of d (openers_at 0 ns no_openers j) ≡ f = let h = fact_at 0 ns no_openers j d e in cc in
      ap (λ (x : Fact). x.fall) (sym q)

  pub stmt_at_lem : (j : ℕ) (d : Node) (f : Fact) → get_elem? ns j ≡ some d → get_elem? (facts 0 ns no_openers) j ≡ some f → f.stmt ≡ d.stmt
  unfolding fact_of
  stmt_at_lem j d f e g =
      let q : fact_of d (openers_at 0 ns no_openers j) ≡ f = let h = fact_at 0 ns no_openers j d e in cc in
      ap (λ (x : Fact). x.stmt) (sym q)

  pub open_desc : (j : ℕ) → j ≤ length ns → Desc j (open_at j)
  open_desc zero h = rw open_start desc[]
  open_desc (suc j) h =
      let d = some_at ns j (omega arith) in
      rw (open_next j d.0 d.1) (desc_after (move_on s (node_moves d.0.stmt)) j (open_desc j (omega arith)))

  -- node o opens a frame of the stack
  abbrev pub OpensHere : ℕ → Type 0
  OpensHere o = (d : Node) × (get_elem? ns o ≡ some d) × (move_on s (node_moves d.stmt) ≡ opens)

  opened_after : (j : ℕ) (d : Node) → get_elem? ns j ≡ some d → (m : Move) → move_on s (node_moves d.stmt) ≡ m → {l : List ℕ} → All OpensHere l → All OpensHere (openers_after j m l)
  unfolding openers_after
  opened_after j d e stays q a = a
  opened_after j d e opens q a = all∷ {a = j} (d, e, q) a
  opened_after j d e closes q all[] = all[]
  opened_after j d e closes q (all∷ p a) = a
  opened_after j d e joins q a = a

  open_opened : (j : ℕ) → j ≤ length ns → All OpensHere (open_at j)
  open_opened zero h = rw open_start all[]
  open_opened (suc j) h =
      let d = some_at ns j (omega arith) in
      rw (open_next j d.0 d.1) (opened_after j d.0 d.1 (move_on s (node_moves d.0.stmt)) refl (open_opened j (omega arith)))

  open_without : (o j i : ℕ) → o < j → Without o (open_at j) → j + i ≤ length ns → Without o (open_at (j + i))
  open_without o j zero h a g = let z : j ≡ j + 0 = omega arith in rw z at a
  open_without o j (suc i) h a g =
      let d = some_at ns j (omega arith) in
      let z : suc j + i ≡ j + suc i = omega arith in
      rw z at (open_without o (suc j) i (omega arith) (rw (open_next j d.0 d.1) (without-after o j (move_on s (node_moves d.0.stmt)) h a)) (omega arith))

  -- the node of a fact
  pub node_of : (j : ℕ) (f : Fact) → get_elem? (facts 0 ns no_openers) j ≡ some f → (d : Node) × (get_elem? ns j ≡ some d) × (j < length ns)
  node_of j f g =
      let h : j < length ns = omega (arith, in_range (facts 0 ns no_openers) j f g, length-facts 0 ns no_openers) in
      let d = some_at ns j h in
      (d.0, d.1, h)

  met_by : (P : ℕ → Type 0) (j : ℕ) (f : Fact) → get_elem? (facts 0 ns no_openers) j ≡ some f → All P (open_at j) → MetIs P (met_on s f)
  met_by P j f g a = let d = node_of j f g in rw (met_at j d.0 f d.1 g) (all-met (move_on s (node_moves d.0.stmt)) a)

  pub met-below : (j : ℕ) (f : Fact) → get_elem? (facts 0 ns no_openers) j ≡ some f → MetIs (λ (o : ℕ). o < j) (met_on s f)
  met-below j f g = let h = (node_of j f g).2 in met_by (λ (o : ℕ). o < j) j f g (below_all j (open_desc j (omega arith)))

  pub met-opened : (j : ℕ) (f : Fact) → get_elem? (facts 0 ns no_openers) j ≡ some f → MetIs OpensHere (met_on s f)
  met-opened j f g = let h = (node_of j f g).2 in met_by OpensHere j f g (open_opened j (omega arith))

  closed_gone : (m : Move) (j o : ℕ) {l : List ℕ} → Desc j l → meets m l ≡ closing o → (o < suc j) × Without o (openers_after j m l)
  unfolding meets openers_after
  closed_gone stays j o d e = absurd (let z : ◌≡◌ {A = ℕ} 0 1 = cc in omega arith)
  closed_gone opens j o d e = absurd (let z : ◌≡◌ {A = ℕ} 0 1 = cc in omega arith)
  closed_gone closes j o desc[] e = absurd (let z : ◌≡◌ {A = ℕ} 0 1 = cc in omega arith)
  closed_gone closes j o (desc∷ {o = p} g d) e = let q : p ≡ o = cc in (omega arith, without p o (omega arith) d)
  closed_gone joins j o desc[] e = absurd (let z : ◌≡◌ {A = ℕ} 0 1 = cc in omega arith)
  closed_gone joins j o (desc∷ g d) e = absurd (let z : ◌≡◌ {A = ℕ} 0 1 = cc in omega arith)

  -- a frame that node j has closed is not met again
  pub closed_once : (j : ℕ) (f : Fact) (o : ℕ) → get_elem? (facts 0 ns no_openers) j ≡ some f → met_on s f ≡ closing o
      → (k : ℕ) (g : Fact) → j < k → get_elem? (facts 0 ns no_openers) k ≡ some g → MetIs (λ (p : ℕ). o ≡ p → ⊥) (met_on s g)
  closed_once j f o e c k g h a =
      let d = node_of j f e in
      let kn = (node_of k g a).2 in
      let m = move_on s (node_moves d.0.stmt) in
      let w = closed_gone m j o (open_desc j (omega arith)) (sym (met_at j d.0 f d.1 e) ∙ c) in
      let v : Without o (open_at (suc j)) = rw (open_next j d.0 d.1) w.1 in
      let z : suc j + (k - suc j) ≡ k = omega arith in
      met_by (λ (p : ℕ). o ≡ p → ⊥) k g a (rw z at (open_without o (suc j) (k - suc j) w.0 v (omega arith)))
