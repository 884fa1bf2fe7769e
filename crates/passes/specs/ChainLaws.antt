-- Falls added by the tables: one node's, a closer's, those along a chain of ELSEs. Assumes nothing.
use Prim.Native.Nat.{ℕ, zero, suc, ◌+◌, ◌-◌, ◌*◌, ◌<◌, ◌≤◌}
use Rattle.std.specs.Prelude.{◌≡◌, length}
use Rattle.std.proofs.Math.Path.{refl, sym, subst}
use Rattle.std.proofs.Common.{ap, ◌∙◌, arith, sub-one}
use mathlib.Core.List.{List, [], ◌∷◌, ◌++◌, append_assoc, append-nil}
use Rattle.std.proofs.Math.ListN.{get_or}
use Rattle.listings.specs.Every.{All, all∷}
use Rattle.graph.specs.Lists.{each}
use Rattle.graph_laws.specs.Adding.{decode, Added, added_none, added_both}
use Rattle.passes.specs.Closing.{FitsPart, fall_by, fall_from, FallFits, FallFitsFrom, AboveNode, ElseChain, chain[], chain∷, ElsesFit, ElsesAdded, elses_or, DoifAdded, closer_from, CloserFits}

-- ---- one node
module _ (falls : List ℕ) where
  pub fall_fits : (m c : ℕ) → (c ≡ 0 → ⊥) → FallFitsFrom falls m c → FallFits falls m (c - 1)
  fall_fits m zero h f = absurd (h refl)
  fall_fits m (suc j) h f = rw (sub-one (suc j)) f

  pub fall_none : (p : List ℕ) (n c : ℕ) → c ≡ 0 → Added p n p n (fall_from falls c)
  unfolding fall_from
  fall_none p n zero e = added_none p n
  fall_none p n (suc j) e = absurd (omega arith)

  pub fall_some : (p q : List ℕ) (n r c : ℕ) → (c ≡ 0 → ⊥) → Added p n q r (decode (get_or falls ((c - 1) * 3) 0)) → Added p n q r (fall_from falls c)
  unfolding fall_from fall_by
  fall_some p q n r zero h a = absurd (h refl)
  fall_some p q n r (suc j) h a = rw (sub-one (suc j)) at a

-- ---- the closer of a frame
module _ (falls frames : List ℕ) where
  pub closer_there : (m x : ℕ) → (x ≡ 0 → ⊥) → CloserFits falls frames m x → (x - 1) * 3 + 1 < length frames
  closer_there m zero h f = absurd (h refl)
  closer_there m (suc o) h f = rw (sub-one (suc o)) f.0

  pub closer_fits : (m x c : ℕ) → (x ≡ 0 → ⊥) → c ≡ get_or frames ((x - 1) * 3 + 1) 0 → CloserFits falls frames m x → FallFitsFrom falls m c
  closer_fits m zero c h e f = absurd (h refl)
  closer_fits m (suc o) c h e f = subst (FallFitsFrom falls m) (sym (rw (sub-one (suc o)) at e)) f.1

  pub closer_none : (p : List ℕ) (n x : ℕ) → x ≡ 0 → Added p n p n (closer_from falls frames x)
  unfolding closer_from
  closer_none p n zero e = added_none p n
  closer_none p n (suc o) e = absurd (omega arith)

  pub closer_some : (p q : List ℕ) (n r x c : ℕ) → (x ≡ 0 → ⊥) → c ≡ get_or frames ((x - 1) * 3 + 1) 0 → Added p n q r (fall_from falls c) → Added p n q r (closer_from falls frames x)
  unfolding closer_from
  closer_some p q n r zero c h e a = absurd (h refl)
  closer_some p q n r (suc o) c h e a = subst (λ (z : ℕ). Added p n q r (fall_from falls z)) (rw (sub-one (suc o)) at e) a

-- ---- along the chain

-- a chain visits the same nodes
chain_same : (frames : List ℕ) (c : ℕ) {k l : List ℕ} → ElseChain frames c k → ElseChain frames c l → k ≡ l
chain_same frames zero chain[] chain[] = refl
chain_same frames (suc j) (chain∷ h a x) (chain∷ g b y) = ap (λ z. j ∷ z) (chain_same frames (get_or frames (j * 3 + 2) 0) x y)

each_append : (f : ℕ → List ℕ) (k l : List ℕ) → each f (k ++ l) ≡ each f k ++ each f l
unfolding each
each_append f [] l = refl
each_append f (a ∷ k) l = rw (each_append f k l, append_assoc)

each-one : (f : ℕ → List ℕ) (a : ℕ) → each f (a ∷ []) ≡ f a
unfolding each
each-one f a = append-nil (f a)

-- what is left of the chain, at most
abbrev pub chain_left : ℕ → ℕ → ℕ
chain_left m zero = 0
chain_left m (suc j) = m - j

-- of all nodes of the chain some are done, and the rest is linked from c - 1 on
pub record Walk (falls frames : List ℕ) (first : ℕ) (part₀ : List ℕ) (n : ℕ) (part : List ℕ) (r c : ℕ) : Type 0 where
  pub all : List ℕ
  pub done : List ℕ
  pub rest : List ℕ
  pub chain : ElseChain frames first all
  pub whole : all ≡ done ++ rest
  pub left : ElseChain frames c rest
  pub fit : All (FallFits falls (length part₀)) rest
  pub added : Added part₀ n part r (each (fall_by falls) done)
  pub fits : FitsPart part r
  pub size : length part ≡ length part₀

pub record Visit (falls frames : List ℕ) (m c : ℕ) : Type 0 where
  pub there : (c - 1) * 3 < length falls
  pub leads : get_or falls ((c - 1) * 3) 0 ≤ m
  pub linked : (c - 1) * 3 + 2 < length frames
  pub less : chain_left (length frames) (get_or frames ((c - 1) * 3 + 2) 0) < chain_left (length frames) c

left_less : (m j c : ℕ) → j * 3 + 2 < m → AboveNode j c → chain_left m c < m - j
left_less m j zero h a = omega arith
left_less m j (suc k) h a = omega arith

module _ (falls frames : List ℕ) (first : ℕ) (part₀ : List ℕ) (n : ℕ) where
  pub walk_start : FitsPart part₀ n → ElsesFit frames falls (length part₀) first → Walk falls frames first part₀ n part₀ n first
  unfolding each
  walk_start f e = record { all = e.elses; done = []; rest = e.elses; chain = e.chain; whole = refl; left = e.chain; fit = e.fit; added = added_none part₀ n; fits = f; size = refl }

  module _ (part : List ℕ) (r : ℕ) where
    visit_by : (c : ℕ) (l : List ℕ) → (c ≡ 0 → ⊥) → ElseChain frames c l → All (FallFits falls (length part₀)) l → length part ≡ length part₀ → Visit falls frames (length part) c
    visit_by zero [] h x f e = absurd (h refl)
    visit_by zero (i ∷ l) h x f e = elim x [ ]
    visit_by (suc j) [] h x f e = elim x [ ]
    visit_by (suc j) (i ∷ l) h (chain∷ g a x) (all∷ p f) e =
        let s = sub-one (suc j) in
        record { there = rw s p.0; leads = rw (s, e) p.1; linked = rw s g; less = rw s (left_less (length frames) j (get_or frames (j * 3 + 2) 0) g a) }

    pub walk_visit : (c : ℕ) → (c ≡ 0 → ⊥) → Walk falls frames first part₀ n part r c → Visit falls frames (length part) c
    walk_visit c h w = visit_by c w.rest h w.left w.fit w.size

    next_by : (c d s : ℕ) (part' rest : List ℕ) → (c ≡ 0 → ⊥) → (w : Walk falls frames first part₀ n part r c) → w.all ≡ w.done ++ rest → ElseChain frames c rest → All (FallFits falls (length part₀)) rest
        → Added part r part' s (decode (get_or falls ((c - 1) * 3) 0)) → FitsPart part' s → length part' ≡ length part → d ≡ get_or frames ((c - 1) * 3 + 2) 0 → Walk falls frames first part₀ n part' s d
    unfolding fall_by
    next_by zero d s part' [] h w q x f a b e z = absurd (h refl)
    next_by zero d s part' (i ∷ l) h w q x f a b e z = elim x [ ]
    next_by (suc j) d s part' [] h w q x f a b e z = elim x [ ]
    next_by (suc j) d s part' (i ∷ l) h w q (chain∷ g u x) (all∷ p f) a b e z =
        let a' : Added part r part' s (fall_by falls j) = rw (sub-one (suc j)) at a in
        let z' : get_or frames (j * 3 + 2) 0 ≡ d = sym (rw (sub-one (suc j)) at z) in
        record {
          all = w.all;
          done = w.done ++ (j ∷ []);
          rest = l;
          chain = w.chain;
          whole = q ∙ sym (append_assoc w.done (j ∷ []) l);
          left = rw z' at x;
          fit = f;
          added = rw (each_append (fall_by falls) w.done (j ∷ []), each-one) (added_both part₀ part part' n r s (each (fall_by falls) w.done) (fall_by falls j) w.added a');
          fits = b;
          size = e ∙ w.size;
        }

    pub walk_next : (c d s : ℕ) (part' : List ℕ) → (c ≡ 0 → ⊥) → Added part r part' s (decode (get_or falls ((c - 1) * 3) 0)) → FitsPart part' s → length part' ≡ length part
        → d ≡ get_or frames ((c - 1) * 3 + 2) 0 → Walk falls frames first part₀ n part r c → Walk falls frames first part₀ n part' s d
    walk_next c d s part' h a b e z w = next_by c d s part' w.rest h w w.whole w.left w.fit a b e z

    pub walk_end : (c : ℕ) → c ≡ 0 → Walk falls frames first part₀ n part r c → ElsesAdded falls frames first part₀ n part r
    walk_end c e w l x =
        let y : w.rest ≡ [] = none c w.rest e w.left in
        let q : w.done ≡ l = sym (append-nil w.done) ∙ ap (λ z. w.done ++ z) (sym y) ∙ sym w.whole ∙ chain_same frames first w.chain x in
        subst (λ (z : List ℕ). Added part₀ n part r (each (fall_by falls) z)) q w.added
      where
        none : (d : ℕ) (k : List ℕ) → d ≡ 0 → ElseChain frames d k → k ≡ []
        none zero [] g u = refl
        none zero (i ∷ k) g u = elim u [ ]
        none (suc j) [] g u = elim u [ ]
        none (suc j) (i ∷ k) g u = absurd (omega arith)

-- ---- a DOIF
module _ (falls frames : List ℕ) (i : ℕ) (p q : List ℕ) (n r c : ℕ) (first : c ≡ get_or frames (i * 3 + 2) 0) where
  or_elses : (x : ℕ) (a b : List ℕ) → (x ≡ 0 → ⊥) → elses_or x a b ≡ a
  or_elses zero a b h = absurd (h refl)
  or_elses (suc x) a b h = refl

  or_closer : (x : ℕ) (a b : List ℕ) → x ≡ 0 → elses_or x a b ≡ b
  or_closer zero a b h = refl
  or_closer (suc x) a b h = absurd (omega arith)

  pub doif_elses : (c ≡ 0 → ⊥) → ElsesAdded falls frames c p n q r → DoifAdded falls frames i p n q r
  doif_elses h a l x =
      rw (or_elses (get_or frames (i * 3 + 2) 0) (each (fall_by falls) l) (fall_from falls (get_or frames (i * 3 + 1) 0)) (λ e. h (first ∙ e))) (a l (rw first x))

  pub doif_closer : (d : ℕ) → c ≡ 0 → d ≡ get_or frames (i * 3 + 1) 0 → Added p n q r (fall_from falls d) → DoifAdded falls frames i p n q r
  doif_closer d h e a l x =
      rw (or_closer (get_or frames (i * 3 + 2) 0) (each (fall_by falls) l) (fall_from falls (get_or frames (i * 3 + 1) 0)) (sym first ∙ h), ← e) a
