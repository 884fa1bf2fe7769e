-- What a NEXT's list gets of FORs: the bodies of those that it pops, and of the dispatched ones that an orphan's slots
-- select. Assumes nothing.
use Rattle.std.specs.Prelude.{ℕ, zero, suc, ◌+◌, ◌*◌, ◌-◌, ◌≤◌, ◌<◌, ◌≡◌, Bool, ◌||◌, eqb, length, take, drop}
use Rattle.std.proofs.Math.Path.{refl}
use Rattle.std.proofs.Common.{sym, ◌∙◌, add-one, drop-cons}
use Rattle.std.proofs.Math.Bool.{true, false}
use mathlib.Core.List.{List, [], ◌∷◌, append-nil}
use native.Mathlib.Omega.{arith}
use borrow.Author.Tests.{eq-eqb, ne_eqb, eqb-true}
use Rattle.std.proofs.Math.ListN.{get_or}
use Rattle.layout.specs.Layout.{next_word, orphan_mark}
use Rattle.listings.specs.Bytes.{pick}
use Rattle.listings.specs.Every.{All, all[], all∷, all_append}
use Rattle.graph.specs.Lists.{each}
use Rattle.graph_laws.specs.Adding.{decode}
use Rattle.graph_laws.specs.Members.{all-each}
use Rattle.graph_laws.specs.EdgeBounds.{Ids}
use Rattle.graph_laws.specs.ForLaws.{each_append}
use Rattle.passes.specs.ListedNodes.{keys_at}
use Rattle.passes.specs.ForLinks.{popped_by}
use Rattle.passes.specs.Growing.{Grown, Grows, RoomFor, grown_room, grows_none, all_left, all_right}
use Rattle.passes.specs.Closing.{fall_by, fall_from}
use Rattle.passes.specs.AddedAgain.{AllIn, grows_again}

-- es: where nodes fall, 3 entries a node. Of m nodes, each falls to one of them or nowhere
pub record FallsFit (m : ℕ) (es : List ℕ) : Type 0 where
  pub table : m * 3 ≤ length es
  pub fits : (k : ℕ) → k < m → get_or es (k * 3) 0 ≤ m

-- the body of the FOR o: where it falls
unfoldable pub body_at : List ℕ → ℕ → List ℕ
body_at es o = decode (get_or es (o * 3) 0)

-- of a link: one more than a FOR, or 0
unfoldable pub link_body : List ℕ → ℕ → List ℕ
unfolding body_at
link_body es t = each (body_at es) (decode t)

-- "all for `*`, else those of its name", by keys
unfoldable pub selects_key : ℕ → ℕ → Bool
selects_key key name = pick (eqb key 0) true (eqb name key)

unfoldable pub selected_body : List ℕ → List ℕ → ℕ → ℕ → List ℕ
selected_body ks es key o = pick (selects_key key (get_or ks (o * 64) 0)) (body_at es o) []

unfoldable pub slot_bodies : List ℕ → List ℕ → List ℕ → ℕ → List ℕ
slot_bodies ks es os key = each (selected_body ks es key) os

-- of node i, where the FORs os are the dispatched ones that have a body
unfoldable pub orphan_bodies : List ℕ → List ℕ → List ℕ → List ℕ → ℕ → List ℕ
orphan_bodies ts ks es os i = pick (eqb (get_or ts (i * 12) 0) next_word) (pick (eqb (get_or ts (i * 12 + 11) 0) orphan_mark) (each (slot_bodies ks es os) (keys_at ts ks i)) []) []

-- ---- room: for some number of nodes all that may be added is below it

pub record SelectRoom (ks es os part : List ℕ) (n : ℕ) : Type 0 where
  pub nodes : ℕ
  pub grown : Grown nodes part n
  pub falls : FallsFit nodes es
  pub args : nodes * 64 ≤ length ks
  pub ids : Ids nodes os

-- one link, one FOR
pub record ForRoom (ks es : List ℕ) (o : ℕ) (part : List ℕ) (n : ℕ) : Type 0 where
  pub args : o * 64 < length ks
  pub falls : o * 3 < length es
  pub room : RoomFor part n (get_or es (o * 3) 0)

-- ---- what is added is below

all_take : {A : Type 0} {P : A → Type 0} (k : ℕ) {l : List A} → All P l → All P (take k l)
all_take zero h = all[]
all_take (suc k) all[] = all[]
all_take (suc k) (all∷ p h) = all∷ p (all_take k h)

pub all_get : {P : ℕ → Type 0} {l : List ℕ} → All P l → (j : ℕ) → j < length l → P (get_or l j 0)
all_get all[] j h = absurd (omega arith)
all_get (all∷ p ps) zero h = p
all_get (all∷ p ps) (suc j) h = all_get ps j (omega arith)

decode-fits : (m t : ℕ) → t ≤ m → Ids m (decode t)
decode-fits m zero h = all[]
decode-fits m (suc t) h = all∷ h all[]

module _ (m : ℕ) (es : List ℕ) (f : FallsFit m es) where
  body_fits : (o : ℕ) → o < m → Ids m (body_at es o)
  unfolding body_at
  body_fits o h = decode-fits m (get_or es (o * 3) 0) (f.fits o h)

  selected_fits : (ks : List ℕ) (key o : ℕ) → o < m → Ids m (selected_body ks es key o)
  unfolding selected_body
  selected_fits ks key o h = go (selects_key key (get_or ks (o * 64) 0))
    where
      go : (x : Bool) → Ids m (pick x (body_at es o) [])
      go true = body_fits o h
      go false = all[]

  slot-fits : (ks os : List ℕ) → Ids m os → (key : ℕ) → Ids m (slot_bodies ks es os key)
  unfolding slot_bodies
  slot-fits ks os h key = all-each (selected_body ks es key) (selected_fits ks key) h

  slots_fit : (ks os vs : List ℕ) → Ids m os → Ids m (each (slot_bodies ks es os) vs)
  unfolding each
  slots_fit ks os [] h = all[]
  slots_fit ks os (v ∷ vs) h = all_append (slot-fits ks os h v) (slots_fit ks os vs h)

-- ---- so there is room at each turn

module _ (ks es os p q : List ℕ) (key n r k : ℕ) (w : SelectRoom ks es os p n) (a : Grows p n q r (each (selected_body ks es key) (take k os))) where
  pub for_room : k < length os → ForRoom ks es (get_or os k 0) q r
  for_room h =
      let m = w.nodes in
      let f = w.falls in
      let t = all_get w.ids k h in
      let g = a.grown m w.grown (all-each (selected_body ks es key) (selected_fits m es f ks key) (all_take k w.ids)) in
      record { args = omega (arith, t, w.args); falls = omega (arith, t, f.table); room = grown_room m q r (get_or es (get_or os k 0 * 3) 0) g (f.fits (get_or os k 0) t) }

pub slot_room : (ks es os vs p q : List ℕ) (n r k : ℕ) → SelectRoom ks es os p n → Grows p n q r (each (slot_bodies ks es os) (take k vs)) → SelectRoom ks es os q r
slot_room ks es os vs p q n r k w a =
    record { nodes = w.nodes; grown = a.grown w.nodes w.grown (slots_fit w.nodes es w.falls ks os (take k vs) w.ids); falls = w.falls; args = w.args; ids = w.ids }

-- ---- one link, one FOR

-- where the node t - 1 falls
pub link_is : (es : List ℕ) (t : ℕ) → fall_from es t ≡ link_body es t
unfolding fall_from fall_by link_body body_at each
link_is es zero = refl
link_is es (suc j) = sym (append-nil (decode (get_or es (j * 3) 0)))

pub selects_any : (key name : ℕ) → key ≡ 0 → true ≡ selects_key key name
unfolding selects_key
selects_any key name e = rw e

pub selects_name : (key name : ℕ) → (key ≡ 0 → ⊥) → eqb name key ≡ selects_key key name
unfolding selects_key
selects_name key name h = rw (ne_eqb key 0 h)

module _ (ks es p : List ℕ) (n key o u : ℕ) (i : u ≡ o) where
  pub for_fit : ForRoom ks es o p n → RoomFor p n (get_or es (u * 3) 0)
  for_fit w = rw i w.room

  pub for_selected : (q : List ℕ) (r : ℕ) → selects_key key (get_or ks (u * 64) 0) ≡ true → Grows p n q r (decode (get_or es (u * 3) 0)) → Grows p n q r (selected_body ks es key o)
  unfolding selected_body body_at
  for_selected q r e a = rw (← i, e) a

  pub for_left_out : selects_key key (get_or ks (u * 64) 0) ≡ false → Grows p n p n (selected_body ks es key o)
  unfolding selected_body
  for_left_out e = rw (← i, e) (grows_none p n)

-- ---- a slot before selects all that a slot does: `*`, or the same name

unfoldable pub came_before : List ℕ → ℕ → Bool
came_before [] key = false
came_before (v ∷ vs) key = selects_key v key || came_before vs key

pub came_here : (vs : List ℕ) (key k : ℕ) → k < length vs → selects_key (get_or vs k 0) key ≡ true → came_before (drop k vs) key ≡ true
unfolding came_before
came_here vs key k h e = rw (drop-cons vs k 0 h, e)

pub came_later : (vs : List ℕ) (key k : ℕ) → k < length vs → selects_key (get_or vs k 0) key ≡ false → came_before (drop k vs) key ≡ came_before (drop (k + 1) vs) key
unfolding came_before
came_later vs key k h e = rw (drop-cons vs k 0 h, e, add-one)

selects_too : (v key name : ℕ) → selects_key v key ≡ true → selects_key key name ≡ true → selects_key v name ≡ true
unfolding selects_key
selects_too zero key name e f = refl
selects_too (suc v) key name e f = let q : key ≡ suc v = eqb-true key (suc v) (selects_name (suc v) key (λ z. omega arith) ∙ e) in rw q at f

module _ (ks es l : List ℕ) (v key : ℕ) (e : selects_key v key ≡ true) where
  selected_in : (o : ℕ) → AllIn l (selected_body ks es v o) → AllIn l (selected_body ks es key o)
  unfolding selected_body
  selected_in o h = go (selects_key key (get_or ks (o * 64) 0)) refl
    where
      go : (x : Bool) → selects_key key (get_or ks (o * 64) 0) ≡ x → AllIn l (pick x (body_at es o) [])
      go true f = rw (selects_too v key (get_or ks (o * 64) 0) e f) at h
      go false f = all[]

  slot_in : (os : List ℕ) → AllIn l (slot_bodies ks es os v) → AllIn l (slot_bodies ks es os key)
  unfolding slot_bodies each
  slot_in [] h = all[]
  slot_in (o ∷ os) h = all_append (selected_in o (all_left (selected_body ks es v o) _ h)) (slot_in os (all_right (selected_body ks es v o) _ h))

came_in : (ks es os l : List ℕ) (key : ℕ) (vs : List ℕ) → came_before vs key ≡ true → AllIn l (each (slot_bodies ks es os) vs) → AllIn l (slot_bodies ks es os key)
unfolding came_before each
came_in ks es os l key [] e h = absurd (let z : ◌≡◌ {A = ℕ} 0 1 = cc in omega arith)
came_in ks es os l key (v ∷ vs) e h = go (selects_key v key) refl (λ f. came_in ks es os l key vs (rw f at e) (all_right (slot_bodies ks es os v) _ h))
  where
    go : (x : Bool) → selects_key v key ≡ x → (selects_key v key ≡ false → AllIn l (slot_bodies ks es os key)) → AllIn l (slot_bodies ks es os key)
    go true f rest = slot_in ks es l v key f os (all_left (slot_bodies ks es os v) _ h)
    go false f rest = rest f

-- so it adds nothing
pub came_grows : (ks es os vs p : List ℕ) (n key : ℕ) → came_before vs key ≡ true → AllIn (take n p) (each (slot_bodies ks es os) vs) → Grows p n p n (slot_bodies ks es os key)
came_grows ks es os vs p n key e h = grows_again p n (slot_bodies ks es os key) (came_in ks es os (take n p) key vs e h)

-- ---- the links of a NEXT

each-each : {A B C : Type 0} (f : A → List B) (g : B → List C) (l : List A) → each (λ a. each g (f a)) l ≡ each g (each f l)
unfolding each
each-each f g [] = refl
each-each f g (a ∷ l) = rw (each-each f g l) (sym (each_append g (f a) (each f l)))

pub links_joined : (es t : List ℕ) (i count : ℕ) → each (link_body es) (take count (drop (i * 64) t)) ≡ each (body_at es) (popped_by t i count)
unfolding link_body popped_by
links_joined es t i count = each-each decode (body_at es) (take count (drop (i * 64) t))

-- ---- an orphan's slots

module _ (ts ks es os p : List ℕ) (n i : ℕ) where
  pub orphan_not_next : (get_or ts (i * 12) 0 ≡ 14 → ⊥) → Grows p n p n (orphan_bodies ts ks es os i)
  unfolding orphan_bodies
  orphan_not_next h = rw (ne_eqb (get_or ts (i * 12) 0) 14 h) (grows_none p n)

  pub orphan_plain : get_or ts (i * 12) 0 ≡ 14 → (get_or ts (i * 12 + 11) 0 ≡ 1 → ⊥) → Grows p n p n (orphan_bodies ts ks es os i)
  unfolding orphan_bodies
  orphan_plain e h = rw (eq-eqb (get_or ts (i * 12) 0) 14 e, ne_eqb (get_or ts (i * 12 + 11) 0) 1 h) (grows_none p n)

  -- the part of the arguments that is lent ends at c + its start
  pub orphan_slots : (q : List ℕ) (r c : ℕ) → get_or ts (i * 12) 0 ≡ 14 → get_or ts (i * 12 + 11) 0 ≡ 1 → c ≡ get_or ts (i * 12 + 10) 0
      → Grows p n q r (each (slot_bodies ks es os) (take (i * 64 + c - i * 64) (drop (i * 64) ks))) → Grows p n q r (orphan_bodies ts ks es os i)
  unfolding orphan_bodies
  orphan_slots q r c e h s a =
      let z : i * 64 + c - i * 64 ≡ get_or ts (i * 12 + 10) 0 = omega arith in
      rw (eq-eqb (get_or ts (i * 12) 0) 14 e, eq-eqb (get_or ts (i * 12 + 11) 0) 1 h) (rw z at a)
