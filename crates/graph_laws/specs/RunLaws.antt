-- Demand 3, proved of the lists that the rules give. Assumes nothing.
use Rattle.std.specs.Prelude.{ℕ, zero, suc, ◌<◌, ◌≤◌, Bool, not, ◌⊎◌, ◌↔◌, length}
use Rattle.std.proofs.Math.Path.{◌≡◌, refl, subst}
use Rattle.std.proofs.Common.{ap, sym, ◌∙◌, arith}
use mathlib.Core.List.Memᴰ
use mathlib.Core.List.{List, [], ◌∷◌, ◌++◌, map, Memᴰ}
use Rattle.std.proofs.Math.Bool.{true, false}
use Rattle.std.proofs.Math.Logic.{inl, inr}
use Rattle.std.proofs.Math.Option.{Option, none, some}
use Rattle.std.proofs.Math.ListN.{get_elem?}
use Rattle.graph.specs.Lists.{list, Ascending}
use Rattle.listings.specs.Every.{All, all[], all∷}
use Rattle.graph_laws.specs.Members.{all_map, past}
use Rattle.graph_laws.specs.GraphLaws.{node_count}
use Rattle.listings.specs.Listing.{Listing}
use Rattle.graph.specs.Nodes.{Entries}
use Rattle.graph.specs.Reach.{Reach, here, on}
use Rattle.graph.specs.Graph.{role_of, Role, call, returns, forgets, steps, no_node, Wired, wire, role, fall_from, base, continuation_by, continuation, callees_by, callees, skip_steps_by, skip_steps, region_return_edges, return_edges, successors_by, successors_in, successors}
use Rattle.graph.specs.Run.{State, toward, may_fall, close_call, moves_by, moves, run_from, run}
use Rattle.graph.specs.Demand3.{SkippingPath, Returns, Demand3}
use Rattle.graph_laws.specs.ReturnLists.{ReturnList, return_list_lem}

map_mem : {A B : Type 0} (f : A → B) {b : B} (l : List A) → Memᴰ b (map f l) → (a : A) × Memᴰ a l × (b ≡ f a)
map_mem f [] m = absurd (Memᴰ.not-nil m)
map_mem f (a ∷ l) m =
    elim (Memᴰ.cases_cons m) [ inl e ↦ (a, Memᴰ.head refl, e) | inr n ↦ let r = map_mem f l n in (r.0, Memᴰ.tail r.1, r.2) ]

pick_mem : {A : Type 0} (l : List A) (i : ℕ) {a : A} → get_elem? l i ≡ some a → Memᴰ a l
pick_mem [] i {a} e = absurd (let z : ◌≡◌ {A = ℕ} 0 1 = cc in omega arith)
pick_mem (b ∷ l) zero {a} e = let p : a ≡ b = cc in Memᴰ.head p
pick_mem (b ∷ l) (suc i) e = Memᴰ.tail (pick_mem l i e)

module _ (W : Wired) where
  -- each open call has an existing target whose entry leads by a skipping path to the node, or to the call opened after it
  abbrev Inv : ℕ → List ℕ → Type 0
  Inv n [] = Unit {0}
  Inv n (c ∷ cs) = ((e : ℕ) × Memᴰ e (callees W c) × SkippingPath W e n) × Inv c cs

  extend : (n : ℕ) (cs : List ℕ) → Inv n cs → (m : ℕ) → Memᴰ m (skip_steps W n) → Inv m cs
  extend n [] v m s = tt
  extend n (c ∷ cs) v m s = ((v.0.0, v.0.1, on v.0.2 s), v.1)

  cont_skip : (c k : ℕ) → Memᴰ k (continuation W c) → Memᴰ k (skip_steps W c)
  unfolding continuation skip_steps continuation_by skip_steps_by
  cont_skip c k m = go (role W c) m
    where
      go : (q : Role) → Memᴰ k (continuation_by q (fall_from W c)) → Memᴰ k (skip_steps_by q (fall_from W c) (base W c))
      go (call m ts) n = n
      go returns n = absurd (Memᴰ.not-nil n)
      go forgets n = absurd (Memᴰ.not-nil n)
      go steps n = absurd (Memᴰ.not-nil n)
      go no_node n = absurd (Memᴰ.not-nil n)

  toward_mem : {t : State} (cs l : List ℕ) → Memᴰ t (toward cs l) → (n : ℕ) × Memᴰ n l × (t ≡ record { node = n; calls = cs })
  unfolding toward
  toward_mem cs l m = map_mem (λ n. record { node = n; calls = cs }) l m

  falling : (b : Bool) (e : Option ℕ) (k : ℕ) → Memᴰ k (may_fall b e) → Memᴰ k (list e)
  unfolding may_fall
  falling true e k m = m
  falling false e k m = absurd (Memᴰ.not-nil m)

  moves_ok : (q : Role) (n : ℕ) (cs : List ℕ) (e : Option ℕ) (b : List ℕ) → Inv n cs
      → ((m : ℕ) → Memᴰ m (callees_by W.entries q) → Memᴰ m (callees W n))
      → ((m : ℕ) → Memᴰ m (skip_steps_by q e b) → Inv m cs)
      → {t : State} → Memᴰ t (moves_by q W.entries e b (continuation W) (record { node = n; calls = cs }))
      → Inv t.node t.calls × (q ≡ returns → Returns W n t.node)
  unfolding moves_by skip_steps_by close_call
  moves_ok (call m ts) n cs e b v g grow {t} mem =
      elim (Memᴰ.append_cases (toward (n ∷ cs) (callees_by W.entries (call m ts))) mem) [
        | inl i ↦ let d = toward_mem (n ∷ cs) (callees_by W.entries (call m ts)) i in
            (subst (λ (s : State). Inv s.node s.calls) (sym d.2) ((d.0, g d.0 d.1, here), v), λ x. absurd (let z : ◌≡◌ {A = ℕ} 0 1 = cc in omega arith))
        | inr i ↦ let d = toward_mem cs (may_fall m e) i in
            (subst (λ (s : State). Inv s.node s.calls) (sym d.2) (grow d.0 (falling m e d.0 d.1)), λ x. absurd (let z : ◌≡◌ {A = ℕ} 0 1 = cc in omega arith))
      ]
  moves_ok returns n [] e b v g grow mem = absurd (Memᴰ.not-nil mem)
  moves_ok returns n (c ∷ cs) e b v g grow {t} mem =
      let d = toward_mem cs (continuation W c) mem in (
        subst (λ (s : State). Inv s.node s.calls) (sym d.2) (extend c cs v.1 d.0 (cont_skip c d.0 d.1)),
        λ x. subst (λ (s : State). Returns W n s.node) (sym d.2) (record { caller = c; callee = v.0.0; continues = d.1; exists = v.0.1; skips = v.0.2 }),
      )
  moves_ok forgets n cs e b v g grow {t} mem =
      let d = toward_mem [] b mem in
      (subst (λ (s : State). Inv s.node s.calls) (sym d.2) tt, λ x. absurd (let z : ◌≡◌ {A = ℕ} 0 1 = cc in omega arith))
  moves_ok steps n cs e b v g grow {t} mem =
      let d = toward_mem cs b mem in
      (subst (λ (s : State). Inv s.node s.calls) (sym d.2) (grow d.0 d.1), λ x. absurd (let z : ◌≡◌ {A = ℕ} 0 1 = cc in omega arith))
  moves_ok no_node n cs e b v g grow mem = absurd (Memᴰ.not-nil mem)

  step_ok : (s t : State) → Inv s.node s.calls → Memᴰ t (moves W s)
      → Inv t.node t.calls × (role W s.node ≡ returns → Returns W s.node t.node)
  unfolding moves callees skip_steps
  step_ok s t v m =
      moves_ok (role W s.node) s.node s.calls (fall_from W s.node) (base W s.node) v
      (λ _ x. x) (extend s.node s.calls v) m

  -- what is claimed of one step, before it is put in terms of the lists
  abbrev Closes : State × State → Type 0
  Closes d = role W d.0.node ≡ returns → Returns W d.0.node d.1.node

  runs_ok : (cs : List ℕ) (s : State) → Inv s.node s.calls → All Closes (run_from W s cs)
  unfolding run_from
  runs_ok [] s v = all[]
  runs_ok (c ∷ cs) s v = go (get_elem? (moves W s) c) refl (λ t w. runs_ok cs t w)
    where
      go : (o : Option State) → get_elem? (moves W s) c ≡ o → ((t : State) → Inv t.node t.calls → All Closes (run_from W t cs))
          → All Closes (elim o [ none ↦ [] | some t ↦ (s, t) ∷ run_from W t cs ])
      go none e rest = all[]
      go (some t) e rest = let w = step_ok s t v (pick_mem (moves W s) c e) in all∷ w.1 (rest t w.0)

pub demand3 : (L : Listing) → L.handlers ≡ false → Demand3 L (successors L)
unfolding run
demand3 L h =
    record {
      lands = λ i cs. all_map (λ d c e. ((return_list_lem L h d.0.node e).exactly d.1.node).1 (c e)) (runs_ok (wire L) cs (record { node = i; calls = [] }) tt);
      ascends = λ r e. (return_list_lem L h r e).ascends;
      exactly = λ r e. (return_list_lem L h r e).exactly;
    }

-- a RETURN is a node
pub return_inside : (L : Listing) (r : ℕ) → role (wire L) r ≡ returns → r < node_count L
unfolding role role_of
return_inside L r e = elim (past (wire L).nodes r) [ inl h ↦ h | inr n ↦ absurd (let q : no_node ≡ returns = sym (ap role_of n) ∙ e in let z : ◌≡◌ {A = ℕ} 0 1 = cc in omega arith) ]

-- and of any lists that are those of the rules, node by node
pub demand3_of : (L : Listing) → L.handlers ≡ false → (list : ℕ → List ℕ) → ((i : ℕ) → i < node_count L → list i ≡ successors L i) → Demand3 L list
demand3_of L h list same =
    let at : (r : ℕ) → role (wire L) r ≡ returns → successors L r ≡ list r = λ r e. sym (same r (return_inside L r e)) in
    record {
      lands = λ i cs. all_map (λ d f e. subst (λ (l : List ℕ). Memᴰ d.1.node l) (at d.0.node e) (f e)) ((demand3 L h).lands i cs);
      ascends = λ r e. subst Ascending (at r e) ((demand3 L h).ascends r e);
      exactly = λ r e k. subst (λ (l : List ℕ). Memᴰ k l ↔ Returns (wire L) r k) (at r e) ((demand3 L h).exactly r e k);
    }
