-- RETURN lists without handlers are exactly what skipping paths give (demand 3, second sentence). Assumes nothing.
use Rattle.std.specs.Prelude.{ℕ, zero, suc, ◌<◌, ◌≤◌, ◌≡◌, refl, Bool, true, false, not, ◌⊎◌, ◌↔◌, T}
use Rattle.std.proofs.Common.{subst, sym, ◌∙◌, arith}
use mathlib.Core.List.Memᴰ
use mathlib.Core.List.{List, [], ◌∷◌, ◌++◌, map, Memᴰ}
use Rattle.std.proofs.Math.Logic.{inl, inr}
use Rattle.std.proofs.Math.Option.{Option, none, some}
use Rattle.std.proofs.Math.ListN.{length, get_elem?}
use Rattle.graph.specs.Demand3.{SkippingPath, Returns}
use Rattle.graph.specs.Lists.{each, list, below, ascending, Ascending}
use Rattle.graph_laws.specs.Members.{mem_each, each_mem, mem_below, ascending_asc, ascending_mem, mem_ascending, past}
use Rattle.listings.specs.Listing.{Listing}
use Rattle.graph.specs.Nodes.{Node}
use Rattle.graph.specs.Reach.{Reach, here, on, reaches}
use Rattle.graph_laws.specs.ReachLaws.{Reach·join, reaches_exact}
use Rattle.graph.specs.Graph.{role_of, Role, call, returns, forgets, steps, no_node, Wired, wire, role, fall_from, base, continuation_by, continuation, callees_by, callees, skip_steps_by, skip_steps, some_reaches, return_from, region_return_edges, return_targets, return_edges, successors_by, successors_in, successors}

either : (x y : Bool) → T (elim x [ true ↦ true | false ↦ y ]) → T x ⊎ T y
either true y t = inl tt
either false y t = inr t

either_left : (x y : Bool) → T x → T (elim x [ true ↦ true | false ↦ y ])
either_left true y t = tt
either_left false y t = absurd t

either_right : (x y : Bool) → T y → T (elim x [ true ↦ true | false ↦ y ])
either_right true y t = tt
either_right false y t = t

guarded : {k : ℕ} (x : Bool) (l : List ℕ) → Memᴰ k (elim x [ true ↦ l | false ↦ [] ]) → T x × Memᴰ k l
guarded true l m = (tt, m)
guarded false l m = absurd (Memᴰ.not-nil m)

guard : {k : ℕ} (x : Bool) (l : List ℕ) → T x → Memᴰ k l → Memᴰ k (elim x [ true ↦ l | false ↦ [] ])
guard true l t m = m
guard false l t m = absurd t

some_reaches→ : (step : ℕ → List ℕ) (n : ℕ) (es : List ℕ) (r : ℕ) → T (some_reaches step n es r) → (e : ℕ) × Memᴰ e es × T (reaches step n e r)
unfolding some_reaches
some_reaches→ step n [] r t = absurd t
some_reaches→ step n (e ∷ es) r t =
    elim (either (reaches step n e r) (some_reaches step n es r) t) [
      | inl u ↦ (e, Memᴰ.head refl, u)
      | inr u ↦ let d = some_reaches→ step n es r u in (d.0, Memᴰ.tail d.1, d.2)
    ]

→some_reaches : (step : ℕ → List ℕ) (n r : ℕ) {e : ℕ} {es : List ℕ} → Memᴰ e es → T (reaches step n e r) → T (some_reaches step n es r)
unfolding some_reaches
→some_reaches step n r (Memᴰ.head {x} {xs} p) t = either_left (reaches step n x r) (some_reaches step n xs r) (subst (λ (d : ℕ). T (reaches step n d r)) p t)
→some_reaches step n r (Memᴰ.tail {x} {xs} m) t = either_right (reaches step n x r) (some_reaches step n xs r) (→some_reaches step n r m t)

module _ (W : Wired) where
  -- what is no node has no role
  absent : (i : ℕ) → (i < length W.nodes) ⊎ (role W i ≡ no_node)
  unfolding role role_of
  absent i = elim (past W.nodes i) [ inl h ↦ inl h | inr e ↦ inr (rw e) ]

  steps_inside : (b c : ℕ) → Memᴰ c (skip_steps W b) → b < length W.nodes
  unfolding skip_steps skip_steps_by
  steps_inside b c m =
      elim (absent b) [ inl h ↦ h | inr e ↦ absurd (Memᴰ.not-nil (subst (λ (r : Role). Memᴰ c (skip_steps_by r (fall_from W b) (base W b))) e m)) ]

  pub conts_inside : (b c : ℕ) → Memᴰ c (continuation W b) → b < length W.nodes
  unfolding continuation continuation_by
  conts_inside b c m =
      elim (absent b) [ inl h ↦ h | inr e ↦ absurd (Memᴰ.not-nil (subst (λ (r : Role). Memᴰ c (continuation_by r (fall_from W b))) e m)) ]

  pub skips_exact : (a b : ℕ) → T (reaches (skip_steps W) (length W.nodes) a b) ↔ SkippingPath W a b
  skips_exact = reaches_exact (skip_steps W) (length W.nodes) steps_inside

  pub region_sound : (r k : ℕ) → Memᴰ k (region_return_edges W r) → Returns W r k
  unfolding region_return_edges return_from
  region_sound r k m =
      let a = each_mem (return_from W r) (below (length W.nodes)) (ascending_mem k (each (return_from W r) (below (length W.nodes))) m) in
      let g = guarded (some_reaches (skip_steps W) (length W.nodes) (callees W a.0) r) (continuation W a.0) a.2 in
      let s = some_reaches→ (skip_steps W) (length W.nodes) (callees W a.0) r g.0 in
      record { caller = a.0; callee = s.0; continues = g.1; exists = s.1; skips = (skips_exact s.0 r).0 s.2 }

  pub region_complete : (r k : ℕ) → Returns W r k → Memᴰ k (region_return_edges W r)
  unfolding region_return_edges return_from
  region_complete r k h =
      let n = length W.nodes in
      mem_ascending k (each (return_from W r) (below n))
      (mem_each (return_from W r) (mem_below n h.caller (conts_inside h.caller k h.continues))
      (guard (some_reaches (skip_steps W) n (callees W h.caller) r) (continuation W h.caller)
      (→some_reaches (skip_steps W) n r h.exists ((skips_exact h.callee r).1 h.skips)) h.continues))

  pub region_asc : (r : ℕ) → Ascending (region_return_edges W r)
  unfolding region_return_edges
  region_asc r = ascending_asc (each (return_from W r) (below (length W.nodes)))

-- demand 3, second half: the list of a RETURN
pub record ReturnList (L : Listing) (r : ℕ) : Type 0 where
  pub ascends : Ascending (successors L r)
  pub exactly : (k : ℕ) → Memᴰ k (successors L r) ↔ Returns (wire L) r k

back_list : (h : Bool) (W : Wired) (r : ℕ) (q : Role) → h ≡ false → q ≡ returns → successors_by q (base W r) (return_edges h W r) ≡ region_return_edges W r
unfolding successors_by return_edges
back_list h W r q e f = rw (f, e)

succ_back : (L : Listing) → L.handlers ≡ false → (r : ℕ) → role (wire L) r ≡ returns → successors L r ≡ region_return_edges (wire L) r
unfolding successors successors_in
succ_back L h r e = back_list L.handlers (wire L) r (role (wire L) r) h e

pub return_list_lem : (L : Listing) → L.handlers ≡ false → (r : ℕ) → role (wire L) r ≡ returns → ReturnList L r
return_list_lem L h r e = record {
  ascends = rw (succ_back L h r e) (region_asc (wire L) r);
  exactly = λ k. rw (succ_back L h r e) (region_sound (wire L) r k, region_complete (wire L) r k);
}
