-- A list that grows at the front of a table's part: each edge once, at the end. Assumes nothing.
use Rattle.std.specs.Prelude.{◌≡◌, refl, List, [], ◌∷◌, ◌++◌, ℕ, zero, suc, ◌+◌, ◌-◌, ◌≤◌, ◌<◌, length, take, drop}
use Rattle.std.proofs.Common.{sym, ap, ◌∙◌, arith, sub-one, length-append, drop-drop}
use Rattle.std.proofs.Math.Option.{Option, none, some}
use Rattle.graph.specs.Lists.{add, add_all, list}

-- a node or none as an entry: one more than the node, or 0
abbrev pub node_number : Option ℕ → ℕ
node_number none = 0
node_number (some a) = suc a

abbrev pub decode : ℕ → List ℕ
decode zero = []
decode (suc a) = a ∷ []

pub decode_number : (e : Option ℕ) → decode (node_number e) ≡ list e
unfolding list
decode_number none = refl
decode_number (some a) = refl

-- the first r entries of the part are the first n of before, with l added; what stands behind them is as it was
pub record Added (part : List ℕ) (n : ℕ) (part' : List ℕ) (r : ℕ) (l : List ℕ) : Type 0 where
  pub grows : n ≤ r
  pub more : r ≤ n + length l
  pub list : take r part' ≡ add_all (take n part) l
  pub rest : drop r part' ≡ drop r part

pub add-append : (a k l : List ℕ) → add_all (add_all a k) l ≡ add_all a (k ++ l)
unfolding add_all
add-append a [] l = refl
add-append a (x ∷ k) l = add-append (add a x) k l

pub added_none : (p : List ℕ) (n : ℕ) → Added p n p n []
unfolding add_all
added_none p n = record { grows = omega arith; more = omega arith; list = refl; rest = refl }

-- one piece after the other
pub added_both : (p q s : List ℕ) (n m r : ℕ) (k l : List ℕ) → Added p n q m k → Added q m s r l → Added p n s r (k ++ l)
added_both p q s n m r k l a b =
    let e : m + (r - m) ≡ r = omega (arith, b.grows) in
    let d : drop r q ≡ drop r p
    = ap (λ (x : ℕ). drop x q) (sym e) ∙ sym (drop-drop (r - m) m q) ∙ ap (drop (r - m)) a.rest ∙ drop-drop (r - m) m p ∙ ap (λ (x : ℕ). drop x p) e in
    record {
      grows = omega (arith, a.grows, b.grows);
      more = omega (arith, a.more, b.more, length-append k l);
      list = b.list ∙ ap (λ (x : List ℕ). add_all x l) a.list ∙ add-append (take n p) k l;
      rest = b.rest ∙ d;
    }

pub added_one : (p q : List ℕ) (n r t : ℕ) → (t ≡ 0 → ⊥) → n ≤ r → r ≤ n + 1 → take r q ≡ add (take n p) (t - 1) → drop r q ≡ drop r p → Added p n q r (decode t)
unfolding add_all
added_one p q n r zero f g h e d = absurd (f refl)
added_one p q n r (suc a) f g h e d = record { grows = g; more = omega arith; list = rw (sub-one (suc a)) at e; rest = d }

pub added_zero : (p : List ℕ) (n t : ℕ) → t ≡ 0 → Added p n p n (decode t)
added_zero p n zero e = added_none p n
added_zero p n (suc t) e = absurd (omega arith)
