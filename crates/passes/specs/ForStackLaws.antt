-- The search down the FOR stack, slot by slot. Assumes nothing.
use Rattle.std.specs.Prelude.{ℕ, zero, suc, ◌+◌, ◌*◌, ◌-◌, ◌≤◌, ◌<◌, refl, Bool, true, false, ◌||◌, eqb, set, replicate}
use Rattle.std.proofs.Math.Path.{◌≡◌, sym, ap}
use Rattle.std.proofs.Common.{◌∙◌, add-one, drop_of_length-le, length-append, take-append-drop, take-suc, take_at, take_all, drop-cons}
use mathlib.Core.List.{List, [], ◌∷◌, ◌++◌, append_assoc, append-nil}
use Rattle.std.proofs.Math.Option.{Option, none, some}
use native.Mathlib.Omega.{arith}
use borrow.Author.Tests.{eq-eqb, ne_eqb, eqb-true}
use Rattle.std.proofs.Math.ListN.{length, get_or, take, drop, length-drop}
use Rattle.std.proofs.lemmas.List.{set_at}
use Rattle.std.proofs.Math.Seq.{length-take-le, drop-drop}
use Rattle.listings.specs.Bytes.{pick}
use Rattle.passes.specs.FrameStacks.{top_of, pushed, top_mark, under, Holds, holds[], holds∷, HoldsBelow}
use Rattle.passes.specs.FrameStackLaws.{top_held, under_held}
use Rattle.passes.specs.ForStack.{find_key, found_number, under_found, pop_key, key_links, keys_left, push_key, moves_fors, fors_open, fors_linked, Sought, SlotFound, SlotPopped, ForPushed, SlotsPopped, NodeLinked}
use Rattle.passes.specs.ListedNodes.{keys_at}
use Rattle.layout.specs.Zeroed.{cleared_behind}

pub open_wider : {ws : List ℕ} (i j : ℕ) → i ≤ j → HoldsBelow ws i → HoldsBelow ws j
open_wider i j h o = record { openers = o.openers; held = o.held; below = omega (arith, o.below) }

top_few : {ws l : List ℕ} → Holds ws l → top_of l ≤ 4096
top_few (holds[] e f) = omega arith
top_few (holds∷ o le lt e) = lt

pub open_few : {ws : List ℕ} {i : ℕ} → HoldsBelow ws i → HoldsBelow ws 4096
open_few o = record { openers = o.openers; held = o.held; below = top_few o.held }

-- ---- openers descend

data Descends : List ℕ → Type 0 where
  desc[] : Descends []
  desc∷ : {i : ℕ} {l : List ℕ} → top_of l ≤ i → Descends l → Descends (i ∷ l)

holds_desc : {ws l : List ℕ} → Holds ws l → Descends l
holds_desc (holds[] e f) = desc[]
holds_desc (holds∷ o le lt e) = desc∷ le (holds_desc o)

top_under : (p : List ℕ) (k : ℕ) (l : List ℕ) → Descends (p ++ (k ∷ l)) → (top_of l ≤ k) × (k < top_of (p ++ (k ∷ l))) × Descends l
top_under [] k l (desc∷ h d) = (h, omega arith, d)
top_under (j ∷ p) k l (desc∷ h d) = let r = top_under p k l d in (r.0, omega (arith, r.1), r.2)

-- ---- where a search ends

pub data Split (l : List ℕ) : Option (ℕ × List ℕ) → Type 0 where
  nowhere : Split l none
  split : (p : List ℕ) (k : ℕ) (r : List ℕ) → l ≡ p ++ (k ∷ r) → Split l (some (k, r))

split_more : (o : ℕ) (l : List ℕ) {s : Option (ℕ × List ℕ)} → Split l s → Split (o ∷ l) s
split_more o l nowhere = nowhere
split_more o l (split p k r e) = split (o ∷ p) k r (ap (λ x. o ∷ x) e)

pub find_split : (ks : List ℕ) (v : ℕ) (l : List ℕ) → Split l (find_key ks v l)
unfolding find_key
find_split ks v [] = nowhere
find_split ks v (o ∷ l) = go (eqb (get_or ks (o * 64) 0) v) (find_split ks v l)
  where
    go : (x : Bool) → Split l (find_key ks v l) → Split (o ∷ l) (pick x (some (o, l)) (find_key ks v l))
    go true s = split [] o l refl
    go false s = split_more o l s

-- what is found is open, and what lies under it is lower
record Lower (l k : List ℕ) (f : ℕ) : Type 0 where
  top : top_of k ≤ top_of l
  frame : f ≤ top_of l
  descends : Descends k

under-le : (l : List ℕ) (s : Option (ℕ × List ℕ)) → Split l s → Descends l → Lower l (under_found l s) (found_number s)
under-le l none nowhere d = record { top = omega arith; frame = omega arith; descends = d }
under-le l (some x) (split p k r e) d =
    let q = top_under p k r (rw e at d) in
    record { top = omega (arith, q.0, q.1, ap top_of e); frame = omega (arith, q.1, ap top_of e); descends = q.2 }

-- ---- the search: t is one more than the newest that is left to look at
pub record Left (ks : List ℕ) (v t : ℕ) (l : List ℕ) : Type 0 where
  pub gone : List ℕ
  pub rest : List ℕ
  pub whole : l ≡ gone ++ rest
  pub top : t ≡ top_of rest
  pub alike : find_key ks v l ≡ find_key ks v rest

abbrev pub Seeking : List ℕ → ℕ → List ℕ → ℕ → Type 0
Seeking ks v ws t = (l : List ℕ) → Holds ws l → Left ks v t l

pub seek-start : (ks : List ℕ) (v : ℕ) (ws : List ℕ) (t : ℕ) → t ≡ top_mark ws → Seeking ks v ws t
seek-start ks v ws t u l o = record { gone = []; rest = l; whole = refl; top = u ∙ top_held o; alike = refl }

module _ (ks : List ℕ) (v : ℕ) (ws : List ℕ) (t : ℕ) (s : Seeking ks v ws t) where
  pub seek-none : t ≡ 0 → Sought ks v ws 0
  unfolding find_key
  seek-none z l o = go (s l o).rest (s l o).top (s l o).alike
    where
      go : (r : List ℕ) → t ≡ top_of r → find_key ks v l ≡ find_key ks v r → ◌≡◌ {A = ℕ} 0 (found_number (find_key ks v l))
      go [] e q = rw q
      go (a ∷ r) e q = absurd (omega arith)

  pub seek_here : (t ≡ 0 → ⊥) → get_or ks ((t - 1) * 64) 0 ≡ v → Sought ks v ws t
  unfolding find_key
  seek_here z e l o = go (s l o).rest (s l o).top (s l o).alike
    where
      go : (r : List ℕ) → t ≡ top_of r → find_key ks v l ≡ find_key ks v r → t ≡ found_number (find_key ks v l)
      go [] q w = absurd (z q)
      go (a ∷ r) q w =
          let i : t - 1 ≡ a = omega arith in
          let f : get_or ks (a * 64) 0 ≡ v = rw i at e in
          rw (w, eq-eqb (get_or ks (a * 64) 0) v f) q

  pub seek_on : (t ≡ 0 → ⊥) → (get_or ks ((t - 1) * 64) 0 ≡ v → ⊥) → (r : ℕ) → r ≡ top_mark (under ws (t - 1)) → Seeking ks v ws r
  unfolding find_key
  seek_on z e r b l o = go (s l o).gone (s l o).rest (s l o).whole (s l o).top (s l o).alike
    where
      go : (p q : List ℕ) → l ≡ p ++ q → t ≡ top_of q → find_key ks v l ≡ find_key ks v q → Left ks v r l
      go p [] w h m = absurd (z h)
      go p (a ∷ q) w h m =
          let i : t - 1 ≡ a = omega arith in
          let f : get_or ks (a * 64) 0 ≡ v → ⊥ = rw i at e in
          let c : r ≡ top_mark (under ws a) = rw i at b in
          record { gone = p ++ (a ∷ []); rest = q; whole = w ∙ sym (append_assoc p (a ∷ []) q); top = c ∙ top_held (under_held p a q (rw w at o)); alike = m ∙ rw (ne_eqb (get_or ks (a * 64) 0) v f) }

-- ---- what is found is popped, and all above it

found_cut : (ws us : List ℕ) (t : ℕ) (l : List ℕ) (s : Option (ℕ × List ℕ)) → Split l s → Holds ws l → t ≡ found_number s → (t ≡ 0 → ⊥) → us ≡ under ws (t - 1) → Holds us (under_found l s)
found_cut ws us t l none nowhere o e z c = absurd (z e)
found_cut ws us t l (some x) (split p k r w) o e z c =
    let i : t - 1 ≡ k = omega arith in
    let d : us ≡ under ws k = rw i at c in
    rw d (under_held p k r (rw w at o))

found_none : (ws : List ℕ) (t : ℕ) (l : List ℕ) (s : Option (ℕ × List ℕ)) → Holds ws l → t ≡ found_number s → t ≡ 0 → Holds ws (under_found l s)
found_none ws t l none o e z = o
found_none ws t l (some x) o e z = absurd (omega arith)

-- ---- one slot

-- what it pops is found as a search finds it
pub record PopSplit (ks : List ℕ) (v : ℕ) (l : List ℕ) : Type 0 where
  pub found : Option (ℕ × List ℕ)
  pub split : Split l found
  pub popped : pop_key ks v l ≡ (found_number found, under_found l found)

pub pop_split : (ks : List ℕ) (v : ℕ) (l : List ℕ) → PopSplit ks v l
unfolding pop_key
pop_split ks zero [] = record { found = none; split = nowhere; popped = refl }
pop_split ks zero (o ∷ l) = record { found = some (o, l); split = split [] o l refl; popped = refl }
pop_split ks (suc v) l = record { found = find_key ks (suc v) l; split = find_split ks (suc v) l; popped = refl }

pub slot_any : (ks : List ℕ) (v : ℕ) (ws : List ℕ) (f : ℕ) → v ≡ 0 → f ≡ top_mark ws → SlotFound ks v ws f
unfolding pop_key
slot_any ks v ws f z t l o = rw z (t ∙ top_held o)

pub slot-name : (ks : List ℕ) (v : ℕ) (ws : List ℕ) (f : ℕ) → (v ≡ 0 → ⊥) → Sought ks v ws f → SlotFound ks v ws f
unfolding pop_key
slot-name ks zero ws f z s l o = absurd (z refl)
slot-name ks (suc v) ws f z s l o = s l o

module _ (ks : List ℕ) (v : ℕ) (ws : List ℕ) (f : ℕ) (s : SlotFound ks v ws f) where
  number_found : (l : List ℕ) → Holds ws l → f ≡ found_number (pop_split ks v l).found
  number_found l o = s l o ∙ ap (λ (x : ℕ × List ℕ). x.0) (pop_split ks v l).popped

  pub slot-none : f ≡ 0 → SlotPopped ks v ws ws f
  slot-none z l o = let g = pop_split ks v l in rw g.popped (number_found l o, found_none ws f l g.found o (number_found l o) z)

  pub slot_cut : (us : List ℕ) → (f ≡ 0 → ⊥) → us ≡ under ws (f - 1) → SlotPopped ks v ws us f
  slot_cut us z c l o = let g = pop_split ks v l in rw g.popped (number_found l o, found_cut ws us f l g.found g.split o (number_found l o) z c)

pop_le : (ks : List ℕ) (v : ℕ) (l : List ℕ) → Descends l → Lower l (pop_key ks v l).1 (pop_key ks v l).0
pop_le ks v l d = let g = pop_split ks v l in rw g.popped (under-le l g.found g.split d)

pub slot_open : (ks : List ℕ) (v : ℕ) (ws us : List ℕ) (f i : ℕ) → HoldsBelow ws i → SlotPopped ks v ws us f → HoldsBelow us i
slot_open ks v ws us f i o p =
    record { openers = (pop_key ks v o.openers).1; held = (p o.openers o.held).1; below = omega (arith, o.below, (pop_le ks v o.openers (holds_desc o.held)).top) }

pub slot-fits : (ks : List ℕ) (v : ℕ) (ws : List ℕ) (f i : ℕ) → HoldsBelow ws i → SlotFound ks v ws f → f ≤ i
slot-fits ks v ws f i o p = omega (arith, o.below, p o.openers o.held, (pop_le ks v o.openers (holds_desc o.held)).frame)

pub sought_fits : (ks : List ℕ) (v : ℕ) (ws : List ℕ) (f i : ℕ) → HoldsBelow ws i → Sought ks v ws f → f ≤ i
sought_fits ks v ws f i o s = omega (arith, o.below, s o.openers o.held, (under-le o.openers (find_key ks v o.openers) (find_split ks v o.openers) (holds_desc o.held)).frame)

-- ---- FOR

module _ (ks : List ℕ) (i : ℕ) (ws us : List ℕ) (f : ℕ) (small : i < 4096) (s : Sought ks (get_or ks (i * 64) 0) ws f) where
  pub push_new : f ≡ 0 → us ≡ pushed ws i → ForPushed ks i ws us
  unfolding push_key
  push_new z p l o h =
      let r = find_key ks (get_or ks (i * 64) 0) l in
      holds∷ {i = i} (found_none ws f l r o (s l o) z) (omega (arith, (under-le l r (find_split ks (get_or ks (i * 64) 0) l) (holds_desc o)).top)) small p

  pub push_cut : (xs : List ℕ) → (f ≡ 0 → ⊥) → xs ≡ under ws (f - 1) → us ≡ pushed xs i → ForPushed ks i ws us
  unfolding push_key
  push_cut xs z c p l o h =
      let r = find_key ks (get_or ks (i * 64) 0) l in
      let w = find_split ks (get_or ks (i * 64) 0) l in
      holds∷ {i = i} (found_cut ws xs f l r w o (s l o) z c) (omega (arith, (under-le l r w (holds_desc o)).top)) small p

pub cut_open : (ks : List ℕ) (v : ℕ) (ws xs : List ℕ) (f i : ℕ) → Sought ks v ws f → (f ≡ 0 → ⊥) → xs ≡ under ws (f - 1) → HoldsBelow ws i → HoldsBelow xs i
cut_open ks v ws xs f i s z c o =
    let r = find_key ks v o.openers in
    let w = find_split ks v o.openers in
    record { openers = under_found o.openers r; held = found_cut ws xs f o.openers r w o.held (s o.openers o.held) z c; below = omega (arith, o.below, (under-le o.openers r w (holds_desc o.held)).top) }

-- ---- slot by slot

links_append : (ks us vs l : List ℕ) → key_links ks (us ++ vs) l ≡ key_links ks us l ++ key_links ks vs (keys_left ks us l)
unfolding key_links keys_left
links_append ks [] vs l = refl
links_append ks (u ∷ us) vs l = ap (λ x. (pop_key ks u l).0 ∷ x) (links_append ks us vs (pop_key ks u l).1)

left-append : (ks us vs l : List ℕ) → keys_left ks (us ++ vs) l ≡ keys_left ks vs (keys_left ks us l)
unfolding keys_left
left-append ks [] vs l = refl
left-append ks (u ∷ us) vs l = left-append ks us vs (pop_key ks u l).1

-- with no FOR open every slot pops nothing
none_links : (ks vs : List ℕ) → (key_links ks vs [] ≡ replicate (length vs) 0) × (keys_left ks vs [] ≡ [])
unfolding key_links keys_left pop_key find_key
none_links ks [] = (refl, refl)
none_links ks (zero ∷ vs) = let r = none_links ks vs in (ap (λ x. 0 ∷ x) r.0, r.1)
none_links ks (suc v ∷ vs) = let r = none_links ks vs in (ap (λ x. 0 ∷ x) r.0, r.1)

pub links_length : (ks vs l : List ℕ) → length (key_links ks vs l) ≡ length vs
unfolding key_links
links_length ks [] l = refl
links_length ks (v ∷ vs) l = ap suc (links_length ks vs (pop_key ks v l).1)

-- the first j slots are popped: row₀ is the row at the start
pub record Popping (ks vs ws us row₀ row : List ℕ) (j : ℕ) (l : List ℕ) : Type 0 where
  pub row_is : row ≡ key_links ks (take j vs) l ++ drop j row₀
  pub held : Holds us (keys_left ks (take j vs) l)

abbrev pub PoppingTo : List ℕ → List ℕ → List ℕ → List ℕ → List ℕ → List ℕ → ℕ → Type 0
PoppingTo ks vs ws us row₀ row j = (l : List ℕ) → Holds ws l → Popping ks vs ws us row₀ row j l

pub popping_start : (ks vs ws row : List ℕ) → PoppingTo ks vs ws ws row row 0
unfolding key_links keys_left
popping_start ks vs ws row l o = record { row_is = refl; held = o }

set_next : (a row : List ℕ) (j v : ℕ) → length a ≡ j → j < length row → set (a ++ drop j row) j v ≡ (a ++ (v ∷ [])) ++ drop (suc j) row
set_next a row j v n h = rw (drop-cons row j 0 h) (set_at a (get_or row j 0) (drop (suc j) row) v j n ∙ sym (append_assoc a (v ∷ []) (drop (suc j) row)))

pub popping_on : (ks vs ws us xs row₀ row row' : List ℕ) (j f : ℕ) → j < length vs → length vs ≡ length row₀ → row' ≡ set row j f → PoppingTo ks vs ws us row₀ row j → SlotPopped ks (get_or vs j 0) us xs f
    → PoppingTo ks vs ws xs row₀ row' (j + 1)
unfolding key_links keys_left
popping_on ks vs ws us xs row₀ row row' j f h s q p t l o =
    let g = p l o in
    let u = t (keys_left ks (take j vs) l) g.held in
    let a = key_links ks (take j vs) l in
    let n : length a ≡ j = links_length ks (take j vs) l ∙ length-take-le j vs (omega arith) in
    let r : row' ≡ (a ++ ((pop_key ks (get_or vs j 0) (keys_left ks (take j vs) l)).0 ∷ [])) ++ drop (suc j) row₀
    = q ∙ ap (λ (x : List ℕ). set x j f) g.row_is ∙ set_next a row₀ j f n (omega arith) ∙ ap (λ (x : ℕ). (a ++ (x ∷ [])) ++ drop (suc j) row₀) u.0 in
    record { row_is = rw (add-one, take-suc vs j 0 h, links_append) r; held = rw (add-one, take-suc vs j 0 h, left-append) u.1 }

pub popping_end : (ks vs ws us row₀ row : List ℕ) (j : ℕ) → length row₀ ≤ j → length vs ≡ length row₀ → PoppingTo ks vs ws us row₀ row j → SlotsPopped ks vs ws us row
popping_end ks vs ws us row₀ row j h s p l o =
    let g = p l o in
    let t : take j vs ≡ vs = take_all j vs (omega arith) in
    let d : drop j row₀ ≡ [] = drop_of_length-le row₀ h in
    (g.row_is ∙ rw (t, d) (append-nil (key_links ks vs l)), rw t at g.held)

pub popping_none : (ks vs ws us row₀ row : List ℕ) (j f : ℕ) → j ≤ length row₀ → length vs ≡ length row₀ → f ≡ 0 → f ≡ top_mark us → PoppingTo ks vs ws us row₀ row j → SlotsPopped ks vs ws us (cleared_behind j row)
unfolding cleared_behind
popping_none ks vs ws us row₀ row j f h s z t p l o = go (keys_left ks (take j vs) l) g.held refl (t ∙ top_held g.held)
  where
    g : Popping ks vs ws us row₀ row j l
    g = p l o

    a : List ℕ
    a = key_links ks (take j vs) l

    go : (m : List ℕ) → Holds us m → keys_left ks (take j vs) l ≡ m → f ≡ top_of m → (take j row ++ replicate (length row - j) 0 ≡ key_links ks vs l) × Holds us (keys_left ks vs l)
    go (x ∷ m) u e q = absurd (omega arith)
    go [] u e q =
        let r = none_links ks (drop j vs) in
        let n : length a ≡ j = links_length ks (take j vs) l ∙ length-take-le j vs (omega arith) in
        let front : take j row ≡ a = ap (take j) g.row_is ∙ take_at a (drop j row₀) j n in
        let size : length row - j ≡ length (drop j vs) = omega (arith, ap length g.row_is, length-append a (drop j row₀), length-drop j row₀, length-drop j vs) in
        let links : key_links ks vs l ≡ a ++ replicate (length (drop j vs)) 0
        = ap (λ (x : List ℕ). key_links ks x l) (sym (take-append-drop j vs)) ∙ links_append ks (take j vs) (drop j vs) l
        ∙ ap (λ (x : List ℕ). a ++ key_links ks (drop j vs) x) e ∙ ap (λ (x : List ℕ). a ++ x) r.0 in
        let left : keys_left ks vs l ≡ []
        = ap (λ (x : List ℕ). keys_left ks x l) (sym (take-append-drop j vs)) ∙ left-append ks (take j vs) (drop j vs) l
        ∙ ap (λ (x : List ℕ). keys_left ks (drop j vs) x) e ∙ r.1 in
        (rw (front, size, links), rw left u)

slots-le : (ks vs l : List ℕ) → Descends l → top_of (keys_left ks vs l) ≤ top_of l
unfolding keys_left
slots-le ks [] l d = omega arith
slots-le ks (v ∷ vs) l d = let q = pop_le ks v l d in omega (arith, q.top, slots-le ks vs (pop_key ks v l).1 q.descends)

-- ---- one node

pub open_le : (ks : List ℕ) (w i : ℕ) (vs l : List ℕ) {ws : List ℕ} → Holds ws l → top_of l ≤ i → top_of (fors_open ks w i vs l) ≤ i + 1
unfolding fors_open push_key
open_le ks w i vs l o h = go (eqb w 13) (eqb w 14)
  where
    go : (x y : Bool) → top_of (pick x (push_key ks i l) (pick y (keys_left ks vs l) l)) ≤ i + 1
    go true y = omega arith
    go false true = omega (arith, slots-le ks vs l (holds_desc o))
    go false false = omega arith

pub node_open : (ts ks : List ℕ) (i : ℕ) (ws us t t' : List ℕ) → HoldsBelow ws i → NodeLinked ts ks i ws us t t' → HoldsBelow us (i + 1)
node_open ts ks i ws us t t' o p =
    let w = get_or ts (i * 12) 0 in
    let vs = keys_at ts ks i in
    record { openers = fors_open ks w i vs o.openers; held = p.held o.openers o.held o.below; below = open_le ks w i vs o.openers o.held o.below }

module _ (ts ks : List ℕ) (i : ℕ) (ws us t : List ℕ) where
  pub node_for : get_or ts (i * 12) 0 ≡ 13 → ForPushed ks i ws us → NodeLinked ts ks i ws us t t
  unfolding fors_open fors_linked
  node_for e p = record { links = λ l o h. rw e; held = λ l o h. rw e (p l o h) }

  -- the part of the row that is lent ends at e + its start
  pub node_next : (e : ℕ) (row : List ℕ) → e ≡ get_or ts (i * 12 + 10) 0 → i * 64 + e ≤ length ks → get_or ts (i * 12) 0 ≡ 14 → SlotsPopped ks (take (i * 64 + e - i * 64) (drop (i * 64) ks)) ws us row
      → NodeLinked ts ks i ws us t (take (i * 64) t ++ (row ++ drop (i * 64 + e - i * 64) (drop (i * 64) t)))
  unfolding fors_open fors_linked
  node_next e row q r w p =
      let z : i * 64 + e - i * 64 ≡ e = omega arith in
      let k : take (i * 64 + e - i * 64) (drop (i * 64) ks) ≡ keys_at ts ks i = ap (λ (x : ℕ). take x (drop (i * 64) ks)) (z ∙ q) in
      let n : length (keys_at ts ks i) ≡ e = ap (λ (x : ℕ). length (take x (drop (i * 64) ks))) (sym q) ∙ length-take-le e (drop (i * 64) ks) (simp length-drop (omega arith)) in
      let d : drop (i * 64 + e - i * 64) (drop (i * 64) t) ≡ drop (i * 64 + length (keys_at ts ks i)) t
      = ap (λ (x : ℕ). drop x (drop (i * 64) t)) z ∙ drop-drop e (i * 64) t ∙ ap (λ (x : ℕ). drop (i * 64 + x) t) (sym n) in
      let g : SlotsPopped ks (keys_at ts ks i) ws us row = rw k at p in
      record { links = λ l o h. rw (w, d, (g l o).0); held = λ l o h. rw w (g l o).1 }

not_any : (w : ℕ) → moves_fors w ≡ false → (eqb w 13 ≡ false) × (eqb w 14 ≡ false)
unfolding moves_fors
not_any w e = go (eqb w 13) (eqb w 14) e
  where
    go : (x y : Bool) → (x || y) ≡ false → (x ≡ false) × (y ≡ false)
    go true y q = absurd (let z : ◌≡◌ {A = ℕ} 0 1 = cc in omega arith)
    go false y q = (refl, q)

pub node_other : (ts ks : List ℕ) (i : ℕ) (ws t : List ℕ) → moves_fors (get_or ts (i * 12) 0) ≡ false → NodeLinked ts ks i ws ws t t
unfolding fors_open fors_linked
node_other ts ks i ws t e =
    let n = not_any (get_or ts (i * 12) 0) e in
    record { links = λ l o h. rw n.1; held = λ l o h. rw (n.0, n.1) o }

-- what moves the stack is a FOR or a NEXT
pub must_next : (w : ℕ) → moves_fors w ≡ true → (w ≡ 13 → ⊥) → w ≡ 14
unfolding moves_fors
must_next w e f = eqb-true w 14 (rw (ne_eqb w 13 f) at e)
