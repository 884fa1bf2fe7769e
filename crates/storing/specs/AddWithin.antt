-- A list that grows in a part of any length: a node is added where it is new and the part is not full. Assumes nothing.
use Prim.Native.Nat.{ℕ, zero, suc, ◌+◌, ◌-◌, ◌*◌, ◌≤◌, ◌<◌}
use Rattle.std.specs.Prelude.{◌≡◌, refl, Bool, true, false, ◌&&◌, List, [], ◌∷◌, ◌++◌, ltb, leb, length, get_or, set, take, drop}
use Rattle.std.proofs.Common.{sym, ap, ◌∙◌, append-nil, arith, add-one, sub-one, length-append, length-drop, take-append-drop, drop_of_length-le, take-suc, take_all, take_at, drop_at, take-suc-set, drop-set-lt, drop-drop}
use Rattle.std.proofs.Math.Decide.{dec_lt}
use borrow.Author.Tests.{lt-ltb, le-ltb, le-leb, lt-leb, leb-true}
use Rattle.std.proofs.Math.Seq.{drop-append-add, length-take-le}
use Rattle.layout.specs.Layout.{stmt_entries, arg_entries, fall_entries, count_column}
use Rattle.listings.specs.Bytes.{pick}
use Rattle.listings.specs.Tests.{both_true}
use Rattle.listings.specs.Every.{all[], all∷}
use Rattle.graph.specs.Lists.{has, add, add_all, each}
use Rattle.graph_laws.specs.ListLaws.{add_old, add_new}
use Rattle.graph_laws.specs.Adding.{Added, decode}
use Rattle.graph_laws.specs.Distinct.{Distinct, room as room_new, distinct_add}
use Rattle.graph_laws.specs.EdgeBounds.{Ids, add_all-ids}
use Rattle.tables.specs.Readable.{both_so}
use Rattle.passes.specs.Growing.{Grows, RoomFor, grown_added, each_snoc}
use Rattle.passes.specs.AddRoom.{RoomToAdd}
use Rattle.passes.specs.NodeList.{jump_edges}

-- ---- what is added

-- a at the end of l, once, where l has fewer than room nodes
unfoldable pub add_in : ℕ → List ℕ → ℕ → List ℕ
add_in room l a = pick (ltb (length l) room) (add l a) l

unfoldable pub add_all_in : ℕ → List ℕ → List ℕ → List ℕ
add_all_in room l [] = l
add_all_in room l (a ∷ k) = add_all_in room (add_in room l a) k

-- l is added to the first n entries of a part, as far as it has room; behind them the part is as it was
pub record AddedIn (part : List ℕ) (n : ℕ) (part' : List ℕ) (r : ℕ) (l : List ℕ) : Type 0 where
  pub count : r + length (take n part) ≡ n + length (add_all_in (length part) (take n part) l)
  pub table : part' ≡ add_all_in (length part) (take n part) l ++ drop (length (add_all_in (length part) (take n part) l)) part

-- ---- lengths

add_low : (l : List ℕ) (a : ℕ) → (x : Bool) → has a l ≡ x → (length l ≤ length (add l a)) × (length (add l a) ≤ length l + 1)
add_low l a true e = let q = ap length (add_old l a e) in (omega (arith, q), omega (arith, q))
add_low l a false e = let q = ap length (add_new l a e) ∙ length-append l (a ∷ []) in (omega (arith, q), omega (arith, q))

in_old : (room : ℕ) (l : List ℕ) (a : ℕ) → room ≤ length l → add_in room l a ≡ l
unfolding add_in
in_old room l a h = rw (le-ltb (length l) room h)

in_new : (room : ℕ) (l : List ℕ) (a : ℕ) → length l < room → add_in room l a ≡ add l a
unfolding add_in
in_new room l a h = rw (lt-ltb (length l) room h)

in_length : (room : ℕ) (l : List ℕ) (a : ℕ) → length l ≤ room → (length l ≤ length (add_in room l a)) × (length (add_in room l a) ≤ room) × (length (add_in room l a) ≤ length l + 1)
in_length room l a h =
    elim (dec_lt (length l) room) [
      | yes lt ↦ let q = ap length (in_new room l a lt) in let w = add_low l a (has a l) refl in (omega (arith, q, w.0), omega (arith, q, w.1), omega (arith, q, w.1))
      | no nl ↦ let q = ap length (in_old room l a (omega arith)) in (omega (arith, q), omega (arith, q), omega (arith, q))
    ]

pub all-length : (room : ℕ) (l k : List ℕ) → length l ≤ room
    → (length l ≤ length (add_all_in room l k)) × (length (add_all_in room l k) ≤ room) × (length (add_all_in room l k) ≤ length l + length k)
unfolding add_all_in
all-length room l [] h = (omega arith, h, omega arith)
all-length room l (a ∷ k) h =
    let w = in_length room l a h in
    let v = all-length room (add_in room l a) k w.1 in
    (omega (arith, w.0, v.0), v.1, omega (arith, w.2, v.2))

all_full : (room : ℕ) (l k : List ℕ) → room ≤ length l → add_all_in room l k ≡ l
unfolding add_all_in
all_full room l [] h = refl
all_full room l (a ∷ k) h = rw (in_old room l a h) (all_full room l k h)

all_append : (room : ℕ) (l k m : List ℕ) → add_all_in room (add_all_in room l k) m ≡ add_all_in room l (k ++ m)
unfolding add_all_in
all_append room l [] m = refl
all_append room l (a ∷ k) m = all_append room (add_in room l a) k m

-- ---- the part as it was

take_short : (n : ℕ) (p : List ℕ) → length (take n p) ≤ length p
take_short n p = let e = ap length (take-append-drop n p) in omega (arith, e, length-append (take n p) (drop n p))

drop_past : (k : ℕ) (p : List ℕ) → length p ≤ k → drop k p ≡ []
drop_past k p h = drop_of_length-le p h

split_front : (n : ℕ) (p : List ℕ) → take n p ++ drop (length (take n p)) p ≡ p
split_front n p =
    elim (dec_lt (length p) n) [
      | yes lt ↦ let e = take_all n p (omega arith) in rw (e, drop_past (length p) p (omega arith)) (append-nil p)
      | no nl ↦ let e = length-take-le n p (omega arith) in rw e (take-append-drop n p)
    ]

-- nothing is added
pub within_same : (p : List ℕ) (n : ℕ) (l : List ℕ) → add_all_in (length p) (take n p) l ≡ take n p → AddedIn p n p n l
within_same p n l e = record { count = ap (λ (k : List ℕ). n + length k) (sym e); table = sym (ap (λ (k : List ℕ). k ++ drop (length k) p) e ∙ split_front n p) }

pub within_none : (p : List ℕ) (n : ℕ) → AddedIn p n p n []
unfolding add_all_in
within_none p n = within_same p n [] refl

module _ {p q : List ℕ} {n r : ℕ} {l : List ℕ} (a : AddedIn p n q r l) where
  abbrev whole : List ℕ
  whole = add_all_in (length p) (take n p) l

  whole_in : (length (take n p) ≤ length whole) × (length whole ≤ length p) × (length whole ≤ length (take n p) + length l)
  whole_in = all-length (length p) (take n p) l (take_short n p)

  pub within_size : length q ≡ length p
  within_size = ap length a.table ∙ length-append whole (drop (length whole) p) ∙ omega (arith, length-drop (length whole) p, whole_in.1)

  pub within_take : take r q ≡ whole
  within_take =
      elim (dec_lt (length p) n) [
        | yes lt ↦ let e = take_all n p (omega arith) in
            let f : whole ≡ p = ap (λ (k : List ℕ). add_all_in (length p) k l) e ∙ all_full (length p) p l (omega arith) in
            let z : length (take n p) ≡ length p = ap length e in
            let g : length q ≤ r = omega (arith, a.count, z, ap length f, within_size) in
            take_all r q g ∙ a.table ∙ ap (λ (k : List ℕ). whole ++ k) (drop_past (length whole) p (omega (arith, ap length f))) ∙ append-nil whole
        | no nl ↦ let e = length-take-le n p (omega arith) in
            ap (take r) a.table ∙ take_at whole (drop (length whole) p) r (omega (arith, a.count, e))
      ]

  pub within_drop : n ≤ length p → (r ≡ length whole) × (drop r q ≡ drop r p)
  within_drop h =
      let e = length-take-le n p h in
      let z : r ≡ length whole = omega (arith, a.count, e) in
      (z, ap (drop r) a.table ∙ drop_at whole (drop (length whole) p) r (sym z) ∙ ap (λ (k : ℕ). drop k p) (sym z))

-- one piece after the other
pub within_both : (p q s : List ℕ) (n m r : ℕ) (k l : List ℕ) → AddedIn p n q m k → AddedIn q m s r l → AddedIn p n s r (k ++ l)
within_both p q s n m r k l a b =
    let R = length p in
    let w = add_all_in R (take n p) k in
    let v = add_all_in R (take n p) (k ++ l) in
    let e : add_all_in (length q) (take m q) l ≡ v
    = ap (λ (x : ℕ). add_all_in x (take m q) l) (within_size a) ∙ ap (λ (x : List ℕ). add_all_in R x l) (within_take a) ∙ all_append R (take n p) k l in
    let g : length w ≤ length v = omega (arith, ap length (all_append R (take n p) k l), (all-length R w l (whole_in a).1).0) in
    let c : length w + (length v - length w) ≡ length v = omega arith in
    let d : drop (length v) q ≡ drop (length v) p
    = ap (λ (x : ℕ). drop x q) (sym c) ∙ ap (drop (length w + (length v - length w))) a.table ∙ drop-append-add w (drop (length w) p) (length v - length w)
    ∙ drop-drop (length v - length w) (length w) p ∙ ap (λ (x : ℕ). drop x p) c in
    record {
      count = omega (arith, a.count, b.count, ap length e, ap length (within_take a));
      table = b.table ∙ ap (λ (x : List ℕ). x ++ drop (length x) q) e ∙ ap (λ (x : List ℕ). v ++ x) d;
    }

-- ---- one node

pub within_zero : (p : List ℕ) (n t : ℕ) → t ≡ 0 → AddedIn p n p n (decode t)
within_zero p n zero e = within_none p n
within_zero p n (suc t) e = absurd (omega arith)

pub within_full : (p : List ℕ) (n t : ℕ) → length p ≤ n → AddedIn p n p n (decode t)
within_full p n t h = let e = take_all n p h in within_same p n (decode t) (all_full (length p) (take n p) (decode t) (omega (arith, ap length e)))

module _ (p : List ℕ) (n t : ℕ) (z : t ≡ 0 → ⊥) (h : n < length p) where
  one_is : add_all_in (length p) (take n p) (decode t) ≡ add (take n p) (t - 1)
  unfolding add_all_in
  one_is = go t z
    where
      go : (t : ℕ) → (t ≡ 0 → ⊥) → add_all_in (length p) (take n p) (decode t) ≡ add (take n p) (t - 1)
      go zero f = absurd (f refl)
      go (suc a) f = rw (sub-one (suc a)) (in_new (length p) (take n p) a (omega (arith, length-take-le n p (omega arith))))

  pub within_old : has (t - 1) (take n p) ≡ true → AddedIn p n p n (decode t)
  within_old e = within_same p n (decode t) (one_is ∙ add_old (take n p) (t - 1) e)

  pub within_new : (v : ℕ) → v ≡ t - 1 → has (t - 1) (take n p) ≡ false → AddedIn p n (set p n v) (n + 1) (decode t)
  within_new v q e =
      let w : add_all_in (length p) (take n p) (decode t) ≡ take n p ++ ((t - 1) ∷ []) = one_is ∙ add_new (take n p) (t - 1) e in
      let c : length (add_all_in (length p) (take n p) (decode t)) ≡ n + 1 = ap length w ∙ length-append (take n p) ((t - 1) ∷ []) ∙ omega (arith, length-take-le n p (omega arith)) in
      let l : take (n + 1) (set p n v) ≡ take n p ++ ((t - 1) ∷ []) = rw (add-one, q) (take-suc-set p n (t - 1) h) in
      let d : drop (n + 1) (set p n v) ≡ drop (n + 1) p = drop-set-lt (n + 1) p n v (omega arith) in
      record {
        count = omega (arith, c, length-take-le n p (omega arith));
        table = sym (take-append-drop (n + 1) (set p n v)) ∙ ap (λ (x : List ℕ). x ++ drop (n + 1) (set p n v)) (l ∙ sym w) ∙ ap (λ (x : List ℕ). add_all_in (length p) (take n p) (decode t) ++ x) (d ∙ ap (λ (x : ℕ). drop x p) (sym c));
      }

-- ---- a loop over a row: the pieces of its first k

module _ (f : ℕ → List ℕ) (xs p : List ℕ) (n : ℕ) where
  pub within_start : AddedIn p n p n (each f (take 0 xs))
  unfolding each
  within_start = within_none p n

  pub within_on : (q s : List ℕ) (m r k : ℕ) → k < length xs → AddedIn p n q m (each f (take k xs)) → AddedIn q m s r (f (get_or xs k 0)) → AddedIn p n s r (each f (take (k + 1) xs))
  within_on q s m r k h a b = rw (add-one, take-suc xs k 0 h, each_snoc) (within_both p q s n m r (each f (take k xs)) (f (get_or xs k 0)) a b)

  pub within_end : (q : List ℕ) (r k : ℕ) → length xs ≤ k → AddedIn p n q r (each f (take k xs)) → AddedIn p n q r (each f xs)
  within_end q r k h a = rw (take_all k xs h) at a

pub within_as : {p q : List ℕ} {n r : ℕ} {k l : List ℕ} → k ≡ l → AddedIn p n q r k → AddedIn p n q r l
within_as e a = rw (← e) a

-- ---- where there is room for all

pub all_in : (nodes room : ℕ) {l : List ℕ} (k : List ℕ) → nodes ≤ room → Distinct l → Ids nodes l → Ids nodes k → add_all_in room l k ≡ add_all l k
unfolding add_all_in add_all
all_in nodes room [] h d i all[] = refl
all_in nodes room {l} (a ∷ k) h d i (all∷ lt j) = rw (one (has a l) refl) (all_in nodes room {l = add l a} k h (distinct_add a d) (ids-add) j)
  where
    one : (x : Bool) → has a l ≡ x → add_in room l a ≡ add l a
    one true e = elim (dec_lt (length l) room) [ yes g ↦ in_new room l a g | no g ↦ in_old room l a (omega arith) ∙ sym (add_old l a e) ]
    one false e = in_new room l a (omega (arith, room_new nodes a d i lt e))

    ids-add : Ids nodes (add l a)
    ids-add = add_all-ids nodes {l = l} {k = a ∷ []} i (all∷ lt all[])

module _ {p q : List ℕ} {n r : ℕ} {l : List ℕ} (a : AddedIn p n q r l) where
  grows_of : n ≤ length p → add_all_in (length p) (take n p) l ≡ add_all (take n p) l → Grows p n q r l
  grows_of h e =
      let w = within_drop a h in
      let c = whole_in a in
      let z = length-take-le n p h in
      let d : Added p n q r l = record { grows = omega (arith, w.0, c.0); more = omega (arith, w.0, c.2); list = within_take a ∙ e; rest = w.1 } in
      record { added = d; grown = λ m g i. grown_added m p q n r l d (within_size a) (omega (arith, w.0, c.1, within_size a)) g i }

  pub grows_within : RoomToAdd p n l → Grows p n q r l
  grows_within w = let g = w.grown in grows_of g.within (all_in w.nodes (length p) l g.room g.distinct g.below w.ids)

pub grows_one : {p q : List ℕ} {n r t : ℕ} → RoomFor p n t → AddedIn p n q r (decode t) → Grows p n q r (decode t)
unfolding add_all_in add_all
grows_one {p} {q} {n} {r} {t} w a = grows_of a w.within (go t w.free)
  where
    go : (t : ℕ) → ((t ≡ 0 → ⊥) → has (t - 1) (take n p) ≡ false → n < length p) → add_all_in (length p) (take n p) (decode t) ≡ add_all (take n p) (decode t)
    go zero f = refl
    go (suc b) f = one (has b (take n p)) refl
      where
        one : (x : Bool) → has b (take n p) ≡ x → add_in (length p) (take n p) b ≡ add (take n p) b
        one true e = elim (dec_lt (length (take n p)) (length p)) [ yes g ↦ in_new (length p) (take n p) b g | no g ↦ in_old (length p) (take n p) b (omega arith) ∙ sym (add_old (take n p) b e) ]
        one false e =
            let g : n < length p = f (λ z. omega arith) (ap (λ (x : ℕ). has x (take n p)) (sub-one (suc b)) ∙ e) in
            in_new (length p) (take n p) b (omega (arith, length-take-le n p w.within))

-- ---- a jump that any tables hold

-- node i's record, where it falls and its links stand in their tables, and it has at most 64 targets
unfoldable pub jump_readable : (stmts falls links : List ℕ) (i : ℕ) → Bool
jump_readable stmts falls links i =
    leb (i * stmt_entries + stmt_entries) (length stmts) && (leb (i * fall_entries + fall_entries) (length falls) && (leb (i * arg_entries + arg_entries) (length links) && leb (get_or stmts (i * stmt_entries + count_column) 0) 64))

-- its targets, and where an ON falls; nothing where it cannot be read
unfoldable pub jump_read : (stmts falls links : List ℕ) (i : ℕ) → List ℕ
jump_read stmts falls links i = pick (jump_readable stmts falls links i) (jump_edges stmts falls links i) []

module _ (stmts falls links : List ℕ) (i : ℕ) where
  abbrev c₁ : Bool
  c₁ = leb (i * 12 + 12) (length stmts)

  abbrev c₂ : Bool
  c₂ = leb (i * 3 + 3) (length falls)

  abbrev c₃ : Bool
  c₃ = leb (i * 64 + 64) (length links)

  abbrev c₄ : Bool
  c₄ = leb (get_or stmts (i * 12 + 10) 0) 64

  pub jump_fits : jump_readable stmts falls links i ≡ true → (i * 12 + 12 ≤ length stmts) × (i * 3 + 3 ≤ length falls) × (i * 64 + 64 ≤ length links) × (get_or stmts (i * 12 + 10) 0 ≤ 64)
  unfolding jump_readable
  jump_fits h =
      let a = both_true c₁ (c₂ && (c₃ && c₄)) h in
      let b = both_true c₂ (c₃ && c₄) a.1 in
      let d = both_true c₃ c₄ b.1 in
      (leb-true (i * 12 + 12) (length stmts) a.0, leb-true (i * 3 + 3) (length falls) b.0, leb-true (i * 64 + 64) (length links) d.0, leb-true (get_or stmts (i * 12 + 10) 0) 64 d.1)

  pub fits_jump : i * 12 + 12 ≤ length stmts → i * 3 + 3 ≤ length falls → i * 64 + 64 ≤ length links → get_or stmts (i * 12 + 10) 0 ≤ 64 → jump_readable stmts falls links i ≡ true
  unfolding jump_readable
  fits_jump f g h k =
      both_so c₁ (c₂ && (c₃ && c₄)) (le-leb (i * 12 + 12) (length stmts) f)
      (both_so c₂ (c₃ && c₄) (le-leb (i * 3 + 3) (length falls) g) (both_so c₃ c₄ (le-leb (i * 64 + 64) (length links) h) (le-leb (get_or stmts (i * 12 + 10) 0) 64 k)))

  pub jump_is : jump_readable stmts falls links i ≡ true → jump_read stmts falls links i ≡ jump_edges stmts falls links i
  unfolding jump_read
  jump_is h = rw h

  pub jump_none : jump_readable stmts falls links i ≡ false → jump_read stmts falls links i ≡ []
  unfolding jump_read
  jump_none h = rw h

  -- as the code answers
  pub jump_no_record : length stmts < i * 12 + 12 → false ≡ jump_readable stmts falls links i
  unfolding jump_readable
  jump_no_record h = rw (lt-leb (i * 12 + 12) (length stmts) h)

  module _ (f : i * 12 + 12 ≤ length stmts) where
    pub jump_no_fall : length falls < i * 3 + 3 → false ≡ jump_readable stmts falls links i
    unfolding jump_readable
    jump_no_fall h = rw (le-leb (i * 12 + 12) (length stmts) f, lt-leb (i * 3 + 3) (length falls) h)

    module _ (g : i * 3 + 3 ≤ length falls) where
      pub jump_no_links : length links < i * 64 + 64 → false ≡ jump_readable stmts falls links i
      unfolding jump_readable
      jump_no_links h = rw (le-leb (i * 12 + 12) (length stmts) f, le-leb (i * 3 + 3) (length falls) g, lt-leb (i * 64 + 64) (length links) h)

      pub jump_by : i * 64 + 64 ≤ length links → (m : ℕ) → m ≡ get_or stmts (i * 12 + 10) 0 → leb m 64 ≡ jump_readable stmts falls links i
      unfolding jump_readable
      jump_by h m e = rw (le-leb (i * 12 + 12) (length stmts) f, le-leb (i * 3 + 3) (length falls) g, le-leb (i * 64 + 64) (length links) h, e)
