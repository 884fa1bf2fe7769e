-- One stack, the loop stack or the DO stack: what its frames send to a node is what the facts say. Assumes nothing.
use Rattle.std.specs.Prelude.{ℕ, zero, suc, ◌+◌, ◌<◌, ◌≤◌, ◌≡◌, Bool, ◌||◌, eqb, length}
use Rattle.std.proofs.Math.Path.{refl}
use Rattle.std.proofs.Common.{sym, ◌∙◌, inl, arith, le_refl, le_trans}
use mathlib.Core.List.{List, [], ◌∷◌, ◌++◌, map}
use Rattle.std.proofs.Math.Bool.{true, false}
use Rattle.std.proofs.Math.Option.{Option, some}
use Rattle.std.proofs.Math.Nat.{le_step}
use Rattle.std.proofs.Math.ListN.{get_elem?}
use borrow.Author.Tests.{ne_eqb, eq-eqb, eqb-false}
use Rattle.listings.specs.Bytes.{pick}
use Rattle.graph.specs.Lists.{list}
use Rattle.listings.specs.Every.{All, all[], all∷}
use Rattle.graph_laws.specs.Members.{all_map, all-at}
use Rattle.graph.specs.Edges.{Frame, Move, stays, opens, closes, joins, node_moves, frames_after, Stack, loop_stack, do_stack, jumps_or, sent, Edge, to_fall, ends}
use Rattle.graph_laws.specs.PerNode.{Met, nothing, closing, joining, meets, openers_after, Fact, move_on, met_on, is_closing, is_joining, falls_where, some_where, closer_fall, doif_falls, late}
use Rattle.graph_laws.specs.EdgeLaws.{ends-append, Outside, out_head, out_tail, Never, Once, never[], never_one, once_one, never_snoc, once_snoc, once_new, never_or, once_or, turn_never, turn_once}

lt-eqb : (i k : ℕ) → i < k → eqb i k ≡ false
lt-eqb i k h = ne_eqb i k (λ e. omega arith)

abbrev pub opener_of : Frame → ℕ
opener_of f = f.opener

-- what holds of all frames after a move: of those before it, of the one that node k opens, of the one that it joins
pub all_after : {P : Frame → Type 0} (k : ℕ) (e : Option ℕ) → P (record { opener = k; body = e; joined = [] })
    → ((f : Frame) → P f → P (record { opener = f.opener; body = f.body; joined = f.joined ++ (k ∷ []) }))
    → (m : Move) {fs : List Frame} → All P fs → All P (frames_after k e m fs)
unfolding frames_after
all_after k e new join stays q = q
all_after k e new join opens q = all∷ new q
all_after k e new join closes all[] = all[]
all_after k e new join closes (all∷ p ps) = ps
all_after k e new join joins all[] = all[]
all_after k e new join joins (all∷ {a = f} p ps) = all∷ (join f p) ps

pub openers_after_lem : (k : ℕ) (e : Option ℕ) (m : Move) (fs : List Frame) → map opener_of (frames_after k e m fs) ≡ openers_after k m (map opener_of fs)
unfolding frames_after openers_after
openers_after_lem k e stays fs = refl
openers_after_lem k e opens fs = refl
openers_after_lem k e closes [] = refl
openers_after_lem k e closes (f ∷ fs) = refl
openers_after_lem k e joins [] = refl
openers_after_lem k e joins (f ∷ fs) = refl

-- openers descend, all below k
pub data Descending : ℕ → List Frame → Type 0 where
  desc[] : {k : ℕ} → Descending k []
  desc∷ : {k : ℕ} {f : Frame} {fs : List Frame} → f.opener < k → Descending f.opener fs → Descending k (f ∷ fs)

desc_up : (k l : ℕ) → k ≤ l → {fs : List Frame} → Descending k fs → Descending l fs
desc_up k l h desc[] = desc[]
desc_up k l h (desc∷ p d) = desc∷ (le_trans p h) d

desc_after : (k : ℕ) (e : Option ℕ) (m : Move) {fs : List Frame} → Descending k fs → Descending (suc k) (frames_after k e m fs)
unfolding frames_after
desc_after k e stays d = desc_up k (suc k) (omega arith) d
desc_after k e opens d = desc∷ (le_refl (suc k)) d
desc_after k e closes desc[] = desc[]
desc_after k e closes (desc∷ {f} p d) = desc_up f.opener (suc k) (omega arith) d
desc_after k e joins desc[] = desc[]
desc_after k e joins (desc∷ p d) = desc∷ (le_step p) d

-- no frame of opener o
abbrev Absent : ℕ → List Frame → Type 0
Absent o fs = All (λ (f : Frame). eqb o f.opener ≡ false) fs

absent : (k o : ℕ) → k ≤ o → {fs : List Frame} → Descending k fs → Absent o fs
absent k o h desc[] = all[]
absent k o h (desc∷ {f} p d) = all∷ (ne_eqb o f.opener (λ e. omega arith)) (absent f.opener o (omega arith) d)

-- ---- frames that do not know node i

-- the opener, where the stack sends it
abbrev opener_sent : Stack → ℕ → List ℕ
opener_sent loop_stack o = []
opener_sent do_stack o = o ∷ []

abbrev pub Unknown : Stack → ℕ → List Frame → Type 0
Unknown s i fs = All (λ (f : Frame). Never i (opener_sent s f.opener) × Never i f.joined) fs

other_opener : (s : Stack) (i k : ℕ) → eqb i k ≡ false → Never i (opener_sent s k)
other_opener loop_stack i k h = never[] i
other_opener do_stack i k h = never_one i k h

pub unknown_after : (s : Stack) (i k : ℕ) (e : Option ℕ) (m : Move) → eqb i k ≡ false → {fs : List Frame} → Unknown s i fs → Unknown s i (frames_after k e m fs)
unknown_after s i k e m h u = all_after k e (other_opener s i k h, never[] i) (λ f p. (p.0, never_snoc i f.joined k p.1 h)) m u

pub never_sent : (s : Stack) (i : ℕ) (m : Move) {fs : List Frame} → Unknown s i fs → Never i (sent s m fs)
unfolding sent
never_sent s i stays u = never[] i
never_sent s i opens u = never[] i
never_sent loop_stack i joins u = never[] i
never_sent do_stack i joins all[] = never[] i
never_sent do_stack i joins (all∷ p u) = p.0
never_sent loop_stack i closes all[] = never[] i
never_sent loop_stack i closes (all∷ p u) = p.1
never_sent do_stack i closes all[] = never[] i
never_sent do_stack i closes (all∷ {a = f} p u) = never_or i f.opener f.joined p.0 p.1

-- what a node meets is no frame of opener o
abbrev Misses : ℕ → Met → Type 0
Misses o x = (is_closing o x ≡ false) × (is_joining o x ≡ false)

misses : (o : ℕ) (m : Move) {fs : List Frame} → Absent o fs → Misses o (meets m (map opener_of fs))
unfolding meets is_closing is_joining
misses o stays a = (refl, refl)
misses o opens a = (refl, refl)
misses o closes all[] = (refl, refl)
misses o closes (all∷ p a) = (p, refl)
misses o joins all[] = (refl, refl)
misses o joins (all∷ p a) = (refl, p)

-- ---- the turns on one stack, from node k on: the frames, the facts, and the edges that the stack sends
pub data Turns (s : Stack) : ℕ → List Frame → List Fact → List Edge → Type 0 where
  end : {k : ℕ} {fs : List Frame} → Turns s k fs [] []
  turn : {k : ℕ} {fs : List Frame} {f : Fact} {F : List Fact} {E : List Edge} (m : Move) → move_on s (node_moves f.stmt) ≡ m → met_on s f ≡ meets m (map opener_of fs)
      → Turns s (suc k) (frames_after k f.fall m fs) F E → Turns s k fs (f ∷ F) (to_fall (sent s m fs) f.fall ++ E)

module _ (s : Stack) where
  -- frames that do not know node i send it nowhere
  pub idle : (i k : ℕ) {fs : List Frame} {F : List Fact} {E : List Edge} → Turns s k fs F E → Outside i k (length F) → Unknown s i fs → ends i E ≡ []
  unfolding ends
  idle i k end o u = refl
  idle i k (turn {fs} {f} {F} {E} m q t r) o u =
      turn_never i (sent s m fs) f.fall E (never_sent s i m u)
      ∙ idle i (suc k) r (out_tail i k (length F) o) (unknown_after s i k f.fall m (out_head i k (length F) o) u)

  -- an opener that is on no frame is met no more
  never_met : (o k : ℕ) {fs : List Frame} {F : List Fact} {E : List Edge} → Turns s k fs F E → o < k → Absent o fs → All (λ (f : Fact). Misses o (met_on s f)) F
  never_met o k end h a = all[]
  never_met o k (turn {f} m q t r) h a =
      all∷ {a = f} (rw t (misses o m a)) (never_met o (suc k) r (omega arith) (all_after k f.fall (lt-eqb o k h) (λ f p. p) m a))

  -- ---- lists of facts, by the first
  falls_no : (p : Met → Bool) (f : Fact) (F : List Fact) → p (met_on s f) ≡ false → falls_where s p (f ∷ F) ≡ falls_where s p F
  unfolding falls_where
  falls_no p f F h = rw h

  falls_yes : (p : Met → Bool) (f : Fact) (F : List Fact) → p (met_on s f) ≡ true → falls_where s p (f ∷ F) ≡ list f.fall ++ falls_where s p F
  unfolding falls_where
  falls_yes p f F h = rw h

  falls-none : (p : Met → Bool) {F : List Fact} → All (λ (f : Fact). p (met_on s f) ≡ false) F → falls_where s p F ≡ []
  unfolding falls_where
  falls-none p all[] = refl
  falls-none p (all∷ {a = f} {l = F} h a) = falls_no p f F h ∙ falls-none p a

  some-none : (p : Met → Bool) {F : List Fact} → All (λ (f : Fact). p (met_on s f) ≡ false) F → some_where s p F ≡ false
  unfolding some_where
  some-none p all[] = refl
  some-none p (all∷ {a = f} {l = F} h a) = rw h (some-none p a)

-- ---- node i belongs to the frame of opener o, and to no other; of that frame P holds
data Belongs (s : Stack) (i o : ℕ) (P : Frame → Type 0) : List Frame → Type 0 where
  top : {f : Frame} {fs : List Frame} → eqb o f.opener ≡ true → P f → Unknown s i fs → Absent o fs → Belongs s i o P (f ∷ fs)
  deep : {f : Frame} {fs : List Frame} → Never i (opener_sent s f.opener) → Never i f.joined → eqb o f.opener ≡ false → Belongs s i o P fs → Belongs s i o P (f ∷ fs)

never_joins : (s : Stack) (i : ℕ) (f : Frame) (fs : List Frame) → Never i (opener_sent s f.opener) → Never i (sent s joins (f ∷ fs))
unfolding sent
never_joins loop_stack i f fs p = p
never_joins do_stack i f fs p = p

never_closes : (s : Stack) (i : ℕ) (f : Frame) (fs : List Frame) → Never i (opener_sent s f.opener) → Never i f.joined → Never i (sent s closes (f ∷ fs))
unfolding sent
never_closes loop_stack i f fs p q = q
never_closes do_stack i f fs p q = never_or i f.opener f.joined p q

once_closes : (s : Stack) (i : ℕ) (f : Frame) (fs : List Frame) → Once i f.joined → Once i (sent s closes (f ∷ fs))
unfolding sent
once_closes loop_stack i f fs q = q
once_closes do_stack i f fs q = once_or i f.opener f.joined q

-- ---- node i has joined the frame
module _ (s : Stack) (i o : ℕ) where
  abbrev Joined : Frame → Type 0
  Joined f = Once i f.joined × Never i (opener_sent s f.opener)

  -- a turn that sends node i nowhere
  pass : (l : List ℕ) (f : Fact) (F : List Fact) (E : List Edge) (x : Met) → Never i l → met_on s f ≡ x → is_closing o x ≡ false
      → ends i E ≡ falls_where s (is_closing o) F → ends i (to_fall l f.fall ++ E) ≡ falls_where s (is_closing o) (f ∷ F)
  pass l f F E x p t c ih = turn_never i l f.fall E p ∙ ih ∙ sym (falls_no s (is_closing o) f F (rw t c))

  joined_law : (k : ℕ) {fs : List Frame} {F : List Fact} {E : List Edge} → Turns s k fs F E → i < k → o < k → Belongs s i o Joined fs → ends i E ≡ falls_where s (is_closing o) F
  unfolding ends falls_where frames_after meets is_closing sent
  joined_law k end hi ho h = refl
  joined_law k (turn {f} {F} {E} stays q t r) hi ho h = pass [] f F E nothing (never[] i) t refl (joined_law (suc k) r (le_step hi) (le_step ho) h)
  joined_law k (turn {f} {F} {E} opens q t r) hi ho h =
      pass [] f F E nothing (never[] i) t refl
      (joined_law (suc k) r (le_step hi) (le_step ho) (deep (other_opener s i k (lt-eqb i k hi)) (never[] i) (lt-eqb o k ho) h))
  joined_law k (turn {f} {F} {E} closes q t r) hi ho (top {f = g} {fs = gs} e p u a) =
      turn_once i (sent s closes (g ∷ gs)) f.fall E (once_closes s i g gs p.0)
      ∙ rw (idle s i (suc k) r (inl (le_step hi)) u, falls_yes s (is_closing o) f F (rw t e), falls-none s (is_closing o) (all_map (λ (f : Fact) p. p.0) (never_met s o (suc k) r (le_step ho) a)))
  joined_law k (turn {f} {F} {E} closes q t r) hi ho (deep {f = g} {fs = gs} p p' e h) =
      pass (sent s closes (g ∷ gs)) f F E (closing g.opener) (never_closes s i g gs p p') t e (joined_law (suc k) r (le_step hi) (le_step ho) h)
  joined_law k (turn {f} {F} {E} joins q t r) hi ho (top {f = g} {fs = gs} e p u a) =
      pass (sent s joins (g ∷ gs)) f F E (joining g.opener) (never_joins s i g gs p.1) t refl
      (joined_law (suc k) r (le_step hi) (le_step ho) (top e (once_snoc i g.joined k p.0 (lt-eqb i k hi), p.1) u a))
  joined_law k (turn {f} {F} {E} joins q t r) hi ho (deep {f = g} {fs = gs} p p' e h) =
      pass (sent s joins (g ∷ gs)) f F E (joining g.opener) (never_joins s i g gs p) t refl
      (joined_law (suc k) r (le_step hi) (le_step ho) (deep p (never_snoc i g.joined k p' (lt-eqb i k hi)) e h))

-- ---- node i is the DOIF of the frame; x: it has an ELSE
module _ (i : ℕ) where
  abbrev Doif : Bool → Frame → Type 0
  Doif x f = Never i f.joined × ((e : Option ℕ) → ends i (to_fall (jumps_or f.opener f.joined) e) ≡ pick x [] (list e))

  abbrev doif_due : Bool → List Fact → List ℕ
  doif_due x F = pick (x || some_where do_stack (is_joining i) F) (falls_where do_stack (is_joining i) F) (falls_where do_stack (is_closing i) F)

  doif_skip : (x : Bool) (f : Fact) (F : List Fact) → Misses i (met_on do_stack f) → doif_due x (f ∷ F) ≡ doif_due x F
  unfolding falls_where some_where
  doif_skip x f F h = rw (h.0, h.1)

  doif_else : (x : Bool) (f : Fact) (F : List Fact) → is_joining i (met_on do_stack f) ≡ true → list f.fall ++ falls_where do_stack (is_joining i) F ≡ doif_due x (f ∷ F)
  unfolding falls_where some_where
  doif_else true f F h = rw h
  doif_else false f F h = rw h

  doif_done : (x : Bool) (f : Fact) (F : List Fact) → is_closing i (met_on do_stack f) ≡ true → is_joining i (met_on do_stack f) ≡ false → All (λ (f : Fact). Misses i (met_on do_stack f)) F
      → pick x [] (list f.fall) ++ [] ≡ doif_due x (f ∷ F)
  unfolding falls_where some_where
  doif_done true f F c j a = rw (j, falls-none do_stack (is_joining i) (all_map (λ (f : Fact) p. p.1) a))
  doif_done false f F c j a = rw (j, c, some-none do_stack (is_joining i) (all_map (λ (f : Fact) p. p.1) a), falls-none do_stack (is_closing i) (all_map (λ (f : Fact) p. p.0) a))

  pass_doif : (x : Bool) (l : List ℕ) (f : Fact) (F : List Fact) (E : List Edge) (y : Met) → Never i l → met_on do_stack f ≡ y → Misses i y → ends i E ≡ doif_due x F → ends i (to_fall l f.fall ++ E) ≡ doif_due x (f ∷ F)
  pass_doif x l f F E y p t c ih = turn_never i l f.fall E p ∙ ih ∙ sym (doif_skip x f F (rw t c))

  jumps_snoc : (o k : ℕ) (l : List ℕ) → jumps_or o (l ++ (k ∷ [])) ≡ l ++ (k ∷ [])
  unfolding jumps_or
  jumps_snoc o k [] = refl
  jumps_snoc o k (j ∷ l) = refl

  doif_law : (x : Bool) (k : ℕ) {fs : List Frame} {F : List Fact} {E : List Edge} → Turns do_stack k fs F E → i < k → Belongs do_stack i i (Doif x) fs → ends i E ≡ doif_due x F
  unfolding ends falls_where some_where frames_after meets is_closing is_joining sent
  doif_law true k end hi h = refl
  doif_law false k end hi h = refl
  doif_law x k (turn {f} {F} {E} stays q t r) hi h = pass_doif x [] f F E nothing (never[] i) t (refl, refl) (doif_law x (suc k) r (le_step hi) h)
  doif_law x k (turn {f} {F} {E} opens q t r) hi h =
      pass_doif x [] f F E nothing (never[] i) t (refl, refl) (doif_law x (suc k) r (le_step hi) (deep (never_one i k (lt-eqb i k hi)) (never[] i) (lt-eqb i k hi) h))
  doif_law x k (turn {f} {F} {E} closes q t r) hi (top {f = g} {fs = gs} e p u a) =
      ends-append i (to_fall (jumps_or g.opener g.joined) f.fall) E
      ∙ rw (p.1 f.fall, idle do_stack i (suc k) r (inl (le_step hi)) u) (doif_done x f F (rw t e) (rw t) (never_met do_stack i (suc k) r (le_step hi) a))
  doif_law x k (turn {f} {F} {E} closes q t r) hi (deep {f = g} {fs = gs} p p' e h) =
      pass_doif x (sent do_stack closes (g ∷ gs)) f F E (closing g.opener) (never_closes do_stack i g gs p p') t (e, refl) (doif_law x (suc k) r (le_step hi) h)
  doif_law x k (turn {f} {F} {E} joins q t r) hi (top {f = g} {fs = gs} e p u a) =
      let n = never_snoc i g.joined k p.0 (lt-eqb i k hi) in
      turn_once i (g.opener ∷ []) f.fall E (once_one i g.opener e)
      ∙ rw (doif_law true (suc k) r (le_step hi) (top e (n, λ z. rw (jumps_snoc g.opener k g.joined) (n z)) u a)) (doif_else x f F (rw t e))
  doif_law x k (turn {f} {F} {E} joins q t r) hi (deep {f = g} {fs = gs} p p' e h) =
      pass_doif x (g.opener ∷ []) f F E (joining g.opener) p t (refl, e) (doif_law x (suc k) r (le_step hi) (deep p (never_snoc i g.joined k p' (lt-eqb i k hi)) e h))

-- ---- what the stack sends to node i
closing_skip : (s : Stack) (g : Fact) (F : List Fact) (i : ℕ) (m : Move) (x : Met) → Misses i (met_on s g) → ((o : ℕ) → x ≡ joining o → is_closing o (met_on s g) ≡ false)
    → late s F i m x ≡ late s (g ∷ F) i m x
unfolding late closer_fall doif_falls
closing_skip s g F i joins nothing h c = refl
closing_skip s g F i joins (closing o) h c = refl
closing_skip s g F i joins (joining o) h c = sym (falls_no s (is_closing o) g F (c o refl))
closing_skip loop_stack g F i opens x h c = refl
closing_skip do_stack g F i opens x h c = sym (doif_skip i false g F h)
closing_skip s g F i stays x h c = refl
closing_skip s g F i closes x h c = refl

module _ (s : Stack) where
  -- a frame that is closed now is not joined later
  closed-before : (k : ℕ) (e : Option ℕ) (m : Move) {fs : List Frame} {F : List Fact} {E : List Edge} → Descending k fs → Turns s (suc k) (frames_after k e m fs) F E
      → (j : ℕ) (f : Fact) → get_elem? F j ≡ some f → (o : ℕ) → met_on s f ≡ joining o → is_closing o (meets m (map opener_of fs)) ≡ false
  unfolding frames_after meets is_closing is_joining
  closed-before k e stays d r j f at o t = refl
  closed-before k e opens d r j f at o t = refl
  closed-before k e joins desc[] r j f at o t = refl
  closed-before k e joins (desc∷ p d) r j f at o t = refl
  closed-before k e closes desc[] r j f at o t = refl
  closed-before k e closes (desc∷ {f = g} p d) r j f at o t =
      let a = all-at (never_met s g.opener (suc k) r (le_step p) (absent g.opener g.opener (le_refl g.opener) d)) j f at in
      ne_eqb o g.opener (λ z. eqb-false g.opener o (rw t at a.1) (sym z))

-- node i's own turn
at_turn : (s : Stack) (i k : ℕ) (g : Fact) (m : Move) {fs : List Frame} {F : List Fact} {E : List Edge} → k ≡ i → Descending k fs → Unknown s i fs
    → met_on s g ≡ meets m (map opener_of fs) → Turns s (suc k) (frames_after k g.fall m fs) F E → ends i E ≡ late s (g ∷ F) i m (meets m (map opener_of fs))
unfolding frames_after late meets closer_fall is_closing is_joining doif_falls jumps_or
at_turn s i k g stays z d u t r = idle s i (suc k) r (inl (omega arith)) u
at_turn s i k g closes z desc[] u t r = idle s i (suc k) r (inl (omega arith)) all[]
at_turn s i k g closes z (desc∷ p d) (all∷ _ u) t r = idle s i (suc k) r (inl (omega arith)) u
at_turn loop_stack i k g opens z d u t r = idle loop_stack i (suc k) r (inl (omega arith)) (all∷ (never[] i, never[] i) u)
at_turn do_stack i k g opens {F = F} z d u t r =
    let e = eq-eqb i k (sym z) in
    doif_law i false (suc k) r (omega arith) (top e (never[] i, once_one i k e) u (absent k i (omega arith) d)) ∙ sym (doif_skip i false g F (rw t (refl, refl)))
at_turn s i k g joins z desc[] u t r = idle s i (suc k) r (inl (omega arith)) all[]
at_turn s i k g joins {F = F} z (desc∷ {f = c} p d) (all∷ w u) t r =
    joined_law s i c.opener (suc k) r (omega arith) (le_step p)
    (top (eq-eqb c.opener c.opener refl) (once_new i c.joined k w.1 (eq-eqb i k (sym z)), w.0) u (absent c.opener c.opener (le_refl c.opener) d))
    ∙ sym (falls_no s (is_closing c.opener) g F (rw t))

module _ (s : Stack) (i : ℕ) where
  -- from node k on, where node i is the j-th
  pub closing_law : (k : ℕ) {fs : List Frame} {F : List Fact} {E : List Edge} → Turns s k fs F E → Descending k fs → Unknown s i fs
      → (j : ℕ) (f : Fact) → k + j ≡ i → get_elem? F j ≡ some f → ends i E ≡ late s F i (move_on s (node_moves f.stmt)) (met_on s f)
  closing_law k end d u j f z at = absurd (let z : ◌≡◌ {A = ℕ} 0 1 = cc in omega arith)
  closing_law k (turn {fs} {f = g} {F} {E} m q t r) d u zero f z at =
      let same : g ≡ f = cc in
      turn_never i (sent s m fs) g.fall E (never_sent s i m u) ∙ at_turn s i k g m (omega arith) d u t r ∙ rw (← same, q, t)
  closing_law k (turn {fs} {f = g} {F} {E} m q t r) d u (suc j) f z at =
      let n = ne_eqb i k (λ e. omega arith) in
      turn_never i (sent s m fs) g.fall E (never_sent s i m u)
      ∙ closing_law (suc k) r (desc_after k g.fall m d) (unknown_after s i k g.fall m n u) j f (omega arith) at
      ∙ closing_skip s g F i _ _ (rw t (misses i m (absent k i (omega arith) d))) (λ o e. rw t (closed-before s k g.fall m d r j f at o e))
