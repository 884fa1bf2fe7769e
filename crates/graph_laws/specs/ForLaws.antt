-- The FOR stack: its frames are their openers with where those fall, and a NEXT adds where the FORs fall that it pops. Assumes nothing.
use Rattle.std.specs.Prelude.{ℕ, ◌≡◌, Bool}
use Rattle.std.proofs.Math.Path.{refl}
use Rattle.std.proofs.Common.{sym}
use mathlib.Core.List.{List, [], ◌∷◌, ◌++◌, map, append_assoc, append-nil}
use Rattle.std.proofs.Math.Bool.{true, false}
use Rattle.std.proofs.Math.Option.{Option, none, some}
use Rattle.listings.specs.Bytes.{same, pick}
use Rattle.listings.specs.Listing.{Name, Slot}
use Rattle.graph.specs.Lists.{each, list}
use Rattle.graph.specs.Edges.{ForFrame, ForMove, keep_fors, push_for, pop_fors, find_for, under_or, found_or, pop_for, popped, left, fors_after, frame_body, popped_bodies}
use Rattle.graph_laws.specs.PerNode.{find_opener, openers_under, opener_found, pop_opener, openers_popped, openers_left, for_openers_after, pops}

pub each_append : {A B : Type 0} (f : A → List B) (a b : List A) → each f (a ++ b) ≡ each f a ++ each f b
unfolding each
each_append f [] b = refl
each_append f (x ∷ a) b = rw (each_append f a b, append_assoc)

-- B: where each node falls
module _ (B : ℕ → Option ℕ) where
  abbrev pub frame_at : Name × ℕ → ForFrame
  frame_at p = record { name = p.0; opener = p.1; body = B p.1 }

  data Found : Option (ForFrame × List ForFrame) → Option (ℕ × List (Name × ℕ)) → Type 0 where
    missing : Found none none
    found : {f : ForFrame} {o : ℕ} {os : List (Name × ℕ)} → f.body ≡ B o → Found (some (f, map frame_at os)) (some (o, os))

  find_law : (v : Name) (os : List (Name × ℕ)) → Found (find_for v (map frame_at os)) (find_opener v os)
  unfolding find_for find_opener
  find_law v [] = missing
  find_law v (p ∷ os) = go (same v p.0) (find_law v os)
    where
      go : (x : Bool) {a : Option (ForFrame × List ForFrame)} {b : Option (ℕ × List (Name × ℕ))} → Found a b → Found (pick x (some (frame_at p, map frame_at os)) a) (pick x (some (p.1, os)) b)
      go true h = found refl
      go false h = h

  under_law : (os : List (Name × ℕ)) {a : Option (ForFrame × List ForFrame)} {b : Option (ℕ × List (Name × ℕ))} → Found a b → under_or (map frame_at os) a ≡ map frame_at (openers_under os b)
  unfolding under_or openers_under
  under_law os missing = refl
  under_law os (found e) = refl

  abbrev falls : ℕ → List ℕ
  falls o = list (B o)

  abbrev Popped : Option ForFrame × List ForFrame → Option ℕ × List (Name × ℕ) → Type 0
  Popped a b = (frame_body a.0 ≡ each falls (list b.0)) × (a.1 ≡ map frame_at b.1)

  found_law : (os : List (Name × ℕ)) {a : Option (ForFrame × List ForFrame)} {b : Option (ℕ × List (Name × ℕ))} → Found a b → Popped (found_or (map frame_at os) a) (opener_found os b)
  unfolding found_or opener_found frame_body each list
  found_law os missing = (refl, refl)
  found_law os (found {o = o} e) = (rw e (sym (append-nil (list (B o)))), refl)

  pop_law : (s : Slot) (os : List (Name × ℕ)) → Popped (pop_for s (map frame_at os)) (pop_opener s os)
  unfolding pop_for pop_opener frame_body each list
  pop_law none [] = (refl, refl)
  pop_law none (p ∷ os) = (sym (append-nil (list (B p.1))), refl)
  pop_law (some v) os = found_law os (find_law v os)

  popped_law : (ss : List Slot) (os : List (Name × ℕ)) → each frame_body (popped ss (map frame_at os)) ≡ each falls (openers_popped ss os)
  unfolding popped openers_popped each
  popped_law [] os = refl
  popped_law (s ∷ ss) os =
      let r = pop_law s os in
      rw (r.0, r.1, popped_law ss (pop_opener s os).1) (sym (each_append falls (list (pop_opener s os).0) (openers_popped ss (pop_opener s os).1)))

  left_law : (ss : List Slot) (os : List (Name × ℕ)) → left ss (map frame_at os) ≡ map frame_at (openers_left ss os)
  unfolding left openers_left
  left_law [] os = refl
  left_law (s ∷ ss) os = rw (pop_law s os).1 (left_law ss (pop_opener s os).1)

  pub fors_after_lem : (k : ℕ) (e : Option ℕ) (m : ForMove) (os : List (Name × ℕ)) → B k ≡ e → fors_after k e m (map frame_at os) ≡ map frame_at (for_openers_after k m os)
  unfolding fors_after for_openers_after
  fors_after_lem k e keep_fors os h = refl
  fors_after_lem k e (push_for v) os h = rw (under_law os (find_law v os), h)
  fors_after_lem k e (pop_fors ss) os h = left_law ss os

  pub bodies_law : (m : ForMove) (os : List (Name × ℕ)) → popped_bodies m (map frame_at os) ≡ each falls (pops m os)
  unfolding popped_bodies pops each
  bodies_law keep_fors os = refl
  bodies_law (push_for v) os = refl
  bodies_law (pop_fors ss) os = popped_law ss os
