-- The keys of FORs are noted in a set, by their remainders. Names may share one: a key that is noted may be open, one
-- that is not cannot be. Assumes nothing.
use Rattle.std.specs.Prelude.{ℕ, ◌*◌, ◌/◌, ◌%◌, ◌<◌, ◌≡◌, refl, Bool, true, false, List, [], ◌∷◌, ◌++◌, eqb, length, replicate}
use Rattle.std.proofs.Common.{ap, ◌∙◌, inr, inl, arith, mod-lt, eqb-true}
use Rattle.std.proofs.Math.Option.{Option, none, some}
use Rattle.std.proofs.lemmas.Bool.{eqb-false}
use Rattle.std.proofs.Math.ListN.{get_or}
use Rattle.std.proofs.lemmas.List.{length-replicate}
use Rattle.listings.specs.Bytes.{pick}
use Rattle.listings.specs.Every.{All, all[], all∷}
use Rattle.graph_laws.specs.Members.{all_map}
use Rattle.passes.specs.Sets.{bit, In, inserted}
use Rattle.passes.specs.SetLaws.{in_inserted, inserted-length}
use Rattle.passes.specs.FrameStacks.{Holds, HoldsBelow}
use Rattle.passes.specs.FrameStackLaws.{holds_same}
use Rattle.passes.specs.ForStack.{find_key, found_number, under_found, pop_key, keys_left, push_key, Sought, SlotPopped, ForPushed, SlotsPopped}
use Rattle.passes.specs.ForStackLaws.{Split, nowhere, split, find_split, pop_split}

abbrev pub note_of : ℕ → ℕ
note_of v = v % 32719

-- the key of every open FOR is noted
abbrev AllNoted : List ℕ → List ℕ → List ℕ → Type 0
AllNoted ks ms l = All (λ (o : ℕ). In ms (note_of (get_or ks (o * 64) 0))) l

pub record KeysNoted (ks ms ws : List ℕ) : Type 0 where
  pub size : length ms ≡ 512
  pub noted : (l : List ℕ) → Holds ws l → AllNoted ks ms l

pub note_below : (v : ℕ) → note_of v / 64 < 512
note_below v = omega (arith, mod-lt v {m = 32719} (omega arith))

-- what is held is known: it is enough that its keys are noted
by_list : (ks ms us l : List ℕ) → length ms ≡ 512 → Holds us l → AllNoted ks ms l → KeysNoted ks ms us
by_list ks ms us l s o a = record { size = s; noted = λ k h. rw (holds_same k l h o) a }

pub none_noted : (n : ℕ) (ks ms ws : List ℕ) → n ≡ 512 → ms ≡ replicate n 0 → Holds ws [] → KeysNoted ks ms ws
none_noted n ks ms ws q e o = by_list ks ms ws [] (ap length e ∙ length-replicate {A = ℕ} n 0 ∙ q) o all[]

-- ---- a key that is not noted is not found

not_found : (ks ms : List ℕ) (v : ℕ) → (In ms (note_of v) → ⊥) → {l : List ℕ} → AllNoted ks ms l → 0 ≡ found_number (find_key ks v l)
unfolding find_key
not_found ks ms v n all[] = refl
not_found ks ms v n (all∷ {a = o} {l} p ps) = go (eqb (get_or ks (o * 64) 0) v) refl (not_found ks ms v n ps)
  where
    go : (x : Bool) → eqb (get_or ks (o * 64) 0) v ≡ x → 0 ≡ found_number (find_key ks v l) → 0 ≡ found_number (pick x (some (o, l)) (find_key ks v l))
    go true e q = absurd (n (rw (eqb-true (get_or ks (o * 64) 0) v e) at p))
    go false e q = q

pub unnoted : (ks ms ws : List ℕ) (v : ℕ) → KeysNoted ks ms ws → eqb (bit ms (note_of v)) 1 ≡ false → Sought ks v ws 0
unnoted ks ms ws v k e l o = not_found ks ms v (eqb-false (bit ms (note_of v)) 1 e) (k.noted l o)

-- ---- what is left open is noted still

all-behind : {P : ℕ → Type 0} (p : List ℕ) {l : List ℕ} → All P (p ++ l) → All P l
all-behind [] a = a
all-behind (x ∷ p) (all∷ h a) = all-behind p a

all_tail : {P : ℕ → Type 0} {a : ℕ} {l : List ℕ} → All P (a ∷ l) → All P l
all_tail (all∷ h a) = a

all_under : {P : ℕ → Type 0} (l : List ℕ) (s : Option (ℕ × List ℕ)) → Split l s → All P l → All P (under_found l s)
all_under l none nowhere a = a
all_under l (some x) (split p k r e) a = all_tail (all-behind p (rw e at a))

all-popped : {P : ℕ → Type 0} (ks : List ℕ) (v : ℕ) (l : List ℕ) → All P l → All P (pop_key ks v l).1
all-popped ks v l a = let g = pop_split ks v l in rw g.popped (all_under l g.found g.split a)

all_left : {P : ℕ → Type 0} (ks vs l : List ℕ) → All P l → All P (keys_left ks vs l)
unfolding keys_left
all_left ks [] l a = a
all_left ks (v ∷ vs) l a = all_left ks vs (pop_key ks v l).1 (all-popped ks v l a)

module _ (ks ms ws us : List ℕ) (i : ℕ) (b : HoldsBelow ws i) (k : KeysNoted ks ms ws) where
  pub noted_slot : (v f : ℕ) → SlotPopped ks v ws us f → KeysNoted ks ms us
  noted_slot v f p = by_list ks ms us (pop_key ks v b.openers).1 k.size (p b.openers b.held).1 (all-popped ks v b.openers (k.noted b.openers b.held))

  pub noted_slots : (vs row : List ℕ) → SlotsPopped ks vs ws us row → KeysNoted ks ms us
  noted_slots vs row p = by_list ks ms us (keys_left ks vs b.openers) k.size (p b.openers b.held).1 (all_left ks vs b.openers (k.noted b.openers b.held))

  pub noted_for : ForPushed ks i ws us → In ms (note_of (get_or ks (i * 64) 0)) → KeysNoted ks ms us
  unfolding push_key
  noted_for p n =
      let v = get_or ks (i * 64) 0 in
      by_list ks ms us (push_key ks i b.openers) k.size (p b.openers b.held b.below)
      (all∷ n (all_under b.openers (find_key ks v b.openers) (find_split ks v b.openers) (k.noted b.openers b.held)))

-- ---- one more key is noted

module _ (ks ms : List ℕ) (v : ℕ) (s : length ms ≡ 512) where
  pub own_note : In (inserted ms (note_of v)) (note_of v)
  own_note = (in_inserted ms (note_of v) (note_of v) (rw s (note_below v))).1 (inl refl)

  pub more_noted : (ws : List ℕ) → KeysNoted ks ms ws → KeysNoted ks (inserted ms (note_of v)) ws
  more_noted ws k = record { size = inserted-length ms (note_of v) ∙ s; noted = λ l o. all_map (λ j h. (in_inserted ms (note_of v) (note_of (get_or ks (j * 64) 0)) (rw s (note_below v))).1 (inr h)) (k.noted l o) }
