-- Lists of numbers and of keys, item by item. Assumes nothing.
use Rattle.std.specs.Prelude.{ℕ, zero, suc, ◌+◌, ◌≤◌, ◌<◌, ◌≡◌, ◌⊎◌, ◌++◌, refl, List, [], ◌∷◌, map, Bool, true, false, eqb, length, take, drop}
use Rattle.std.proofs.Common.{inl, inr, sym, ◌∙◌, ap, arith, not-suc-le-zero, append_assoc, length-append, take_at, take_all}
use Rattle.std.proofs.Math.ListN.{set}
use borrow.Author.Tests.{ne_eqb}
use Rattle.listings.specs.Bytes.{pick}
use Rattle.listings.specs.Records.{name_key}
use Rattle.program_files.specs.Program.{Placed, Found, found, lacks, map_found, name, after_comma, several}
use Rattle.basic.specs.declared.items.Item.{Item}
use Rattle.basic.specs.declared.items.Item.TheVariants.{Number, Name}
use Rattle.basic.specs.Items.{item, items_from, values_in, put_front}
use Rattle.basic.specs.Fuel.{rest_shorter, map_shorter, Shortens, number_shortens, name_shortens, several_more}

-- ---- what is found, mapped

pub map-map : {A B C : Type 0} (g : B → C) (f : A → B) (x : Found A) → map_found g (map_found f x) ≡ map_found (λ a. g (f a)) x
unfolding map_found
map-map g f (found a r) = refl
map-map g f (lacks p) = refl

pub map-same : {A B : Type 0} (f g : A → B) → ((a : A) → f a ≡ g a) → (x : Found A) → map_found f x ≡ map_found g x
unfolding map_found
map-same f g e (found a r) = ap (λ b. found b r) (e a)
map-same f g e (lacks p) = refl

-- a list of mapped items is the list of items, each mapped
pub several-map : {A B : Type 0} (g : A → B) (f : List Placed → Found A) (h : List Placed → Found B) → ((l : List Placed) → h l ≡ map_found g (f l))
    → (k : ℕ) (l : List Placed) → several h k l ≡ map_found (map g) (several f k l)
unfolding several map_found after_comma
several-map g f h e zero l = refl
several-map {A} {B} g f h e (suc k) l =
    ap (λ (x : Found B). elim x [ lacks p ↦ lacks p | found b r ↦ after_comma b (several h k) r ]) (e l) ∙ go (λ m. several-map g f h e k m) (f l)
  where
    more : (a : A) (x : Found (List A)) → map_found (λ bs. g a ∷ bs) (map_found (map g) x) ≡ map_found (map g) (map_found (λ bs. a ∷ bs) x)
    more a (found bs r) = refl
    more a (lacks p) = refl

    here : (a : A) (d : Placed) (m : List Placed) (t : Bool) → several h k m ≡ map_found (map g) (several f k m)
        → pick t (map_found (λ bs. g a ∷ bs) (several h k m)) (found (g a ∷ []) (d ∷ m)) ≡ map_found (map g) (pick t (map_found (λ bs. a ∷ bs) (several f k m)) (found (a ∷ []) (d ∷ m)))
    here a d m true q = ap (map_found (λ bs. g a ∷ bs)) q ∙ more a (several f k m)
    here a d m false q = refl

    go : ((m : List Placed) → several h k m ≡ map_found (map g) (several f k m)) → (x : Found A)
        → ◌≡◌ {A = Found (List B)} (elim (map_found g x) [ lacks p ↦ lacks p | found b r ↦ after_comma b (several h k) r ])
        (map_found (map g) (elim x [ lacks p ↦ lacks p | found a r ↦ after_comma a (several f k) r ]))
    go q (lacks p) = refl
    go q (found a []) = refl
    go q (found a (d ∷ m)) = here a d m (eqb d.1 44) (q m)

-- ---- item by item

pub item_shortens : (b : Item) → Shortens (item b)
unfolding item map_found
item_shortens Name = record { shorter = λ l. map_shorter name_key (length l) (name l) (name_shortens.shorter l); at_end = ap (map_found name_key) name_shortens.at_end }
item_shortens Number = record { shorter = λ l. number_shortens.shorter l; at_end = number_shortens.at_end }

items_step : (b : Item) (d : Placed) (l : List Placed) (x : Found ℕ) → item b (d ∷ l) ≡ x
    → items_from b (d ∷ l) ≡ elim x [ lacks p ↦ lacks p | found a r ↦ after_comma a (several (item b) (length l)) r ]
unfolding several
items_step b d l x e = ap (λ (y : Found ℕ). elim y [ lacks p ↦ lacks p | found a r ↦ after_comma a (several (item b) (length l)) r ]) e

-- no list where no item is
pub items_lacking : (b : Item) (l : List Placed) (p : ℕ) → item b l ≡ lacks p → items_from b l ≡ lacks p
unfolding several
items_lacking b [] p e =
    let q : ◌≡◌ {A = Found ℕ} (lacks 0) (lacks p) = sym (item_shortens b).at_end ∙ e in
    let z : 0 ≡ p = cc in
    ap lacks z
items_lacking b (d ∷ l) p e = items_step b d l (lacks p) e

module _ (b : Item) (l : List Placed) (v : ℕ) (r : List Placed) (is : item b l ≡ found v r) (d : Placed) (m : List Placed) (rest : r ≡ d ∷ m) where
  -- the last
  pub items_last : (d.1 ≡ 44 → ⊥) → items_from b l ≡ found (v ∷ []) r
  unfolding after_comma
  items_last h = go l is
    where
      go : (k : List Placed) → item b k ≡ found v r → items_from b k ≡ found (v ∷ []) r
      go [] e = let q = (item_shortens b).at_end in cc
      go (c ∷ k) e = items_step b c k (found v r) e ∙ rw (rest, ne_eqb d.1 44 h)

  -- one of several
  pub items_more : d.1 ≡ 44 → items_from b l ≡ map_found (λ vs. v ∷ vs) (items_from b m)
  unfolding after_comma
  items_more h = go l is
    where
      go : (k : List Placed) → item b k ≡ found v r → items_from b k ≡ map_found (λ vs. v ∷ vs) (items_from b m)
      go [] e = let q = (item_shortens b).at_end in cc
      go (c ∷ k) e =
          let s : length r < suc (length k) = rest_shorter (suc (length k)) e ((item_shortens b).shorter (c ∷ k)) in
          items_step b c k (found v r) e ∙ rw (rest, h) (ap (map_found (λ vs. v ∷ vs)) (several_more (item b) (item_shortens b) (length k) (length m) m (omega (arith, ap length rest)) (omega arith)))

-- ---- written at the front

pub put_none : (t : List ℕ) → put_front [] t ≡ t
unfolding put_front
put_none [] = refl
put_none (x ∷ t) = refl

-- one value more behind those that are put, where there is room for it and where there is none
put_more : (vs t : List ℕ) (v : ℕ) → length vs < length t → set (put_front vs t) (length vs) v ≡ put_front (vs ++ v ∷ []) t
unfolding put_front
put_more [] [] v h = absurd (not-suc-le-zero h)
put_more [] (x ∷ t) v h = ap (λ (l : List ℕ). v ∷ l) (sym (put_none t))
put_more (u ∷ vs) [] v h = absurd (not-suc-le-zero h)
put_more (u ∷ vs) (x ∷ t) v h = ap (λ (l : List ℕ). u ∷ l) (put_more vs t v (omega arith))

put_past : (vs t : List ℕ) (v : ℕ) → length t ≤ length vs → put_front vs t ≡ put_front (vs ++ v ∷ []) t
unfolding put_front
put_past [] [] v h = refl
put_past [] (x ∷ t) v h = absurd (not-suc-le-zero h)
put_past (u ∷ vs) [] v h = refl
put_past (u ∷ vs) (x ∷ t) v h = ap (λ (l : List ℕ). u ∷ l) (put_past vs t v (omega arith))

-- one value
pub put_one_front : (v : ℕ) (t : List ℕ) → 0 < length t → set t 0 v ≡ put_front (v ∷ []) t
put_one_front v t h = ap (λ (l : List ℕ). set l 0 v) (sym (put_none t)) ∙ put_more [] t v h

pub put_one_full : (v : ℕ) (t : List ℕ) → length t ≤ 0 → t ≡ put_front (v ∷ []) t
put_one_full v t h = sym (put_none t) ∙ put_past [] t v h

-- so many values at the front of a list that has room for them
pub front_args : (vs t : List ℕ) → length vs ≤ length t → take (length vs) (put_front vs t) ≡ vs
unfolding put_front
front_args vs t h = ap (λ (l : List ℕ). take (length vs) (l ++ drop (length vs) t)) (take_all (length t) vs h) ∙ take_at vs (drop (length vs) t) (length vs) refl

-- ---- put

-- n values, `front`, stand in t' where t stood at first; they and those of x are all of y
pub record Putting (n : ℕ) (x y : Found (List ℕ)) (t t' : List ℕ) : Type 0 where
  pub front : List ℕ
  pub many : n ≡ length front
  pub put : t' ≡ put_front front t
  pub whole : y ≡ map_found (λ ws. front ++ ws) x

-- t'': a value more, where t' had room for it
abbrev pub NextPut : ℕ → ℕ → List ℕ → List ℕ → Type 0
NextPut n v t' t'' = (n < length t' × t'' ≡ set t' n v) ⊎ (length t' ≤ n × t'' ≡ t')

pub putting_start : (x : Found (List ℕ)) (t : List ℕ) → Putting 0 x x t t
unfolding map_found
putting_start (found vs r) t = record { front = []; many = refl; put = sym (put_none t); whole = refl }
putting_start (lacks p) t = record { front = []; many = refl; put = sym (put_none t); whole = refl }

next_put : (n v : ℕ) (front t t' t'' : List ℕ) → n ≡ length front → t' ≡ put_front front t → length t' ≡ length t → NextPut n v t' t'' → t'' ≡ put_front (front ++ v ∷ []) t
next_put n v front t t' t'' e p g (inl h) = h.1 ∙ rw (p, e) (put_more front t v (omega (arith, h.0)))
next_put n v front t t' t'' e p g (inr h) = h.1 ∙ p ∙ put_past front t v (omega (arith, h.0))

-- one of several
pub putting_more : (n v : ℕ) (x y : Found (List ℕ)) (t t' t'' : List ℕ) → length t' ≡ length t → NextPut n v t' t'' → Putting n (map_found (λ vs. v ∷ vs) x) y t t' → Putting (n + 1) x y t t''
putting_more n v x y t t' t'' g s h =
    record {
      front = h.front ++ v ∷ [];
      many = omega (arith, h.many, length-append h.front (v ∷ []));
      put = next_put n v h.front t t' t'' h.many h.put g s;
      whole = h.whole ∙ map-map (λ ws. h.front ++ ws) (λ vs. v ∷ vs) x ∙ map-same (λ vs. h.front ++ v ∷ vs) (λ vs. (h.front ++ v ∷ []) ++ vs) (λ vs. sym (append_assoc h.front (v ∷ []) vs)) x;
    }

-- the last
pub putting_last : (n v : ℕ) (r : List Placed) (y : Found (List ℕ)) (t t' t'' : List ℕ) → length t' ≡ length t → NextPut n v t' t'' → Putting n (found (v ∷ []) r) y t t' → t'' ≡ put_front (values_in y) t
unfolding map_found
putting_last n v r y t t' t'' g s h = next_put n v h.front t t' t'' h.many h.put g s ∙ ap (λ (vs : List ℕ). put_front vs t) (sym (ap values_in h.whole))

-- and how many they are, or that one is lacking
pub putting_counts : (n v : ℕ) (r : List Placed) (y : Found (List ℕ)) (t t' : List ℕ) → Putting n (found (v ∷ []) r) y t t' → found (n + 1) r ≡ map_found length y
unfolding map_found
putting_counts n v r y t t' h =
    ap (λ (k : ℕ). found k r) (omega (arith, h.many, length-append h.front (v ∷ []))) ∙ sym (ap (map_found length) h.whole)

pub putting_lacks : (n p : ℕ) (y : Found (List ℕ)) (t t' : List ℕ) → Putting n (lacks p) y t t' → lacks p ≡ map_found length y
unfolding map_found
putting_lacks n p y t t' h = sym (ap (map_found length) h.whole)
