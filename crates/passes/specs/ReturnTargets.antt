-- The return targets by the tables: where the calls continue, in the order in which the calls stand, each once. Marks
-- say which are in the list already, so that nothing is searched. Assumes nothing.
use Rattle.std.specs.Prelude.{◌≡◌, Bool, true, false, ◌||◌, List, [], ◌∷◌, ◌++◌, ℕ, zero, suc, ◌+◌, ◌-◌, ◌*◌, ◌≤◌, ◌<◌, eqb, length, get_or, set, take, drop, replicate}
use Rattle.std.proofs.Math.Path.{refl}
use Rattle.std.proofs.Common.{sym, ap, ◌∙◌, ⊎_elim, add-one, arith, eq-eqb, ne_eqb, length-set, get_or-set_same, get_or-set_other, take-suc-set, drop-set-lt}
use Rattle.std.proofs.lemmas.List.{get_or-replicate, length-replicate}
use Rattle.listings.specs.Bytes.{pick}
use Rattle.graph.specs.Lists.{has, add_all, each, below}
use Rattle.graph_laws.specs.ListLaws.{add_old, add_new, or-true, or-false, has_end}
use Rattle.graph_laws.specs.Adding.{Added, decode, added_none, added_both, added_one, added_zero}
use Rattle.graph.specs.Graph.{Wired, continuation, return_targets}
use Rattle.passes.specs.Compare.{eq-or}
use Rattle.passes.specs.Growing.{each_snoc}
use Rattle.tables.specs.Columns.{call_word, word_of, fall_entry, continuation_entry}
use Rattle.passes.specs.Prepared.{Roles}

-- as an entry: one more than the node, or 0
unfoldable pub continuation_number : List ℕ → List ℕ → ℕ → ℕ
continuation_number stmts falls i = pick (call_word (word_of stmts i)) (get_or falls (i * 3) 0) 0

unfoldable pub targets_by : List ℕ → List ℕ → ℕ → List ℕ
targets_by stmts falls n = add_all [] (each (continuation_entry stmts falls) (below n))

pub each_below : (f g : ℕ → List ℕ) (n : ℕ) → ((i : ℕ) → i < n → f i ≡ g i) → each f (below n) ≡ each g (below n)
unfolding below each
each_below f g zero e = refl
each_below f g (suc n) e = rw (each_snoc f (below n) n, each_snoc g (below n) n, each_below f g n (λ i h. e i (omega arith)), e n (omega arith))

pub targets_are : (W : Wired) (stmts falls links : List ℕ) (n : ℕ) → Roles W stmts falls links n → targets_by stmts falls n ≡ return_targets W
unfolding targets_by continuation_entry return_targets
targets_are W stmts falls links n r =
    ap (add_all []) (each_below (continuation_entry stmts falls) (continuation W) n (λ i h. sym (r.continuing i h)) ∙ ap (λ (x : ℕ). each (continuation W) (below x)) r.nodes_are)

-- ---- what code promises

-- the first r entries of returns are the targets of n nodes; what stands behind them is as it was
pub record TargetsListed (stmts falls : List ℕ) (n : ℕ) (returns returns' : List ℕ) (r : ℕ) : Type 0 where
  pub few : r ≤ n
  pub list : take r returns' ≡ targets_by stmts falls n
  pub rest : drop r returns' ≡ drop r returns
  pub size : length returns' ≡ length returns

-- each node that a statement falls to has a mark
abbrev pub FallsFit : List ℕ → ℕ → Type 0
FallsFit falls n = (i : ℕ) → i < n → get_or falls (i * 3) 0 ≤ 4096

-- each node below the bound has a mark if it is one of the first k entries
pub record Marking (bound : ℕ) (marks : List Bool) (returns : List ℕ) (k : ℕ) : Type 0 where
  pub marks-size : length marks ≡ bound
  pub marked : (x : ℕ) → x < bound → get_or marks x false ≡ has x (take k returns)

-- the nodes of l, each once, came behind the first k entries, and the marks follow
pub record TargetsAdded (bound : ℕ) (l : List ℕ) (returns : List ℕ) (k : ℕ) (marks' : List Bool) (returns' : List ℕ) (r : ℕ) : Type 0 where
  pub added : Added returns k returns' r l
  pub marking : Marking bound marks' returns' r
  pub size : length returns' ≡ length returns

-- ---- marks

pub marking_none : (bound : ℕ) (marks : List Bool) (returns : List ℕ) → marks ≡ replicate bound false → Marking bound marks returns 0
unfolding has
marking_none bound marks returns e =
    record { marks-size = ap length e ∙ length-replicate bound false; marked = λ x h. ap (λ (m : List Bool). get_or m x false) e ∙ get_or-replicate bound x false false h }

same_mark : (x a : ℕ) (l : List ℕ) → x ≡ a → true ≡ (has x l || eqb x a)
same_mark x a l q = sym (ap (λ (y : Bool). has x l || y) (eq-eqb x a q) ∙ or-true (has x l))

other_mark : (x a : ℕ) (l : List ℕ) → (x ≡ a → ⊥) → has x l ≡ (has x l || eqb x a)
other_mark x a l q = sym (ap (λ (y : Bool). has x l || y) (ne_eqb x a q) ∙ or-false (has x l))

-- ---- one node

module _ (bound : ℕ) (marks : List Bool) (returns : List ℕ) (k t : ℕ) (m : Marking bound marks returns k) where
  pub target_none : t ≡ 0 → TargetsAdded bound (decode t) returns k marks returns k
  target_none z = record { added = added_zero returns k t z; marking = m; size = refl }

  module _ (z : t ≡ 0 → ⊥) (lt : t ≤ bound) where
    pub target_old : (x : ℕ) → x ≡ t - 1 → get_or marks x false ≡ true → TargetsAdded bound (decode t) returns k marks returns k
    target_old x q f =
        let e : get_or marks (t - 1) false ≡ true = ap (λ (y : ℕ). get_or marks y false) (sym q) ∙ f in
        let h : has (t - 1) (take k returns) ≡ true = sym (m.marked (t - 1) (omega arith)) ∙ e in
        record { added = added_one returns returns k k t z (omega arith) (omega arith) (sym (add_old (take k returns) (t - 1) h)) refl; marking = m; size = refl }

    module _ (fits : k < length returns) (e : get_or marks (t - 1) false ≡ false) where
      new_list : take (k + 1) (set returns k (t - 1)) ≡ take k returns ++ ((t - 1) ∷ [])
      new_list = rw add-one (take-suc-set returns k (t - 1) fits)

      new_marked : (x : ℕ) → x < bound → get_or (set marks (t - 1) true) x false ≡ has x (take (k + 1) (set returns k (t - 1)))
      new_marked x h =
          rw (new_list, has_end x (t - 1) (take k returns))
          (⊎_elim
          (λ q. ap (λ (y : ℕ). get_or (set marks (t - 1) true) y false) q ∙ get_or-set_same marks (t - 1) true false (omega (arith, m.marks-size)) ∙ same_mark x (t - 1) (take k returns) q)
          (λ q. get_or-set_other marks (t - 1) x true false q ∙ m.marked x h ∙ other_mark x (t - 1) (take k returns) q)
          (eq-or x (t - 1)))

      new : TargetsAdded bound (decode t) returns k (set marks (t - 1) true) (set returns k (t - 1)) (k + 1)
      new =
          let h : has (t - 1) (take k returns) ≡ false = sym (m.marked (t - 1) (omega arith)) ∙ e in
          record {
            added = added_one returns (set returns k (t - 1)) k (k + 1) t z (omega arith) (omega arith) (new_list ∙ sym (add_new (take k returns) (t - 1) h))
                (drop-set-lt (k + 1) returns k (t - 1) (omega arith));
            marking = record { marks-size = length-set marks (t - 1) true ∙ m.marks-size; marked = new_marked };
            size = length-set returns k (t - 1);
          }

    pub target_new : (x : ℕ) → x ≡ t - 1 → k < length returns → get_or marks x false ≡ false
        → TargetsAdded bound (decode t) returns k (set marks x true) (set returns k (t - 1)) (k + 1)
    target_new x q fits e = rw q (new fits (ap (λ (y : ℕ). get_or marks y false) (sym q) ∙ e))

pub one_at_most : (t : ℕ) → length (decode t) ≤ 1
one_at_most zero = omega arith
one_at_most (suc a) = omega arith

pub one_more : {bound : ℕ} (t : ℕ) {xs : List ℕ} {k : ℕ} {marks : List Bool} {ys : List ℕ} {r : ℕ} → TargetsAdded bound (decode t) xs k marks ys r → r ≤ k + 1
one_more t s = omega (arith, s.added.more, one_at_most t)

-- ---- node after node

module _ (bound : ℕ) (f : ℕ → List ℕ) (xs : List ℕ) where
  pub targets_none : (marks : List Bool) → Marking bound marks xs 0 → TargetsAdded bound (each f (below 0)) xs 0 marks xs 0
  unfolding each below
  targets_none marks m = record { added = added_none xs 0; marking = m; size = refl }

  pub targets_more : (i : ℕ) (marks marks' : List Bool) (ys zs l : List ℕ) (k r : ℕ) → TargetsAdded bound (each f (below i)) xs 0 marks ys k → l ≡ f i → TargetsAdded bound l ys k marks' zs r
      → TargetsAdded bound (each f (below (i + 1))) xs 0 marks' zs r
  unfolding below
  targets_more i marks marks' ys zs l k r s e t =
      record {
        added = rw (add-one, each_snoc f (below i) i, ← e) (added_both xs ys zs 0 k r (each f (below i)) l s.added t.added);
        marking = t.marking;
        size = t.size ∙ s.size;
      }

pub targets_listed : (bound : ℕ) (stmts falls : List ℕ) (n : ℕ) (xs : List ℕ) (marks : List Bool) (ys : List ℕ) (r : ℕ) → r ≤ n
    → TargetsAdded bound (each (continuation_entry stmts falls) (below n)) xs 0 marks ys r → TargetsListed stmts falls n xs ys r
unfolding targets_by
targets_listed bound stmts falls n xs marks ys r le s = record { few = le; list = s.added.list; rest = s.added.rest; size = s.size }

-- ---- one node's continuation as an entry

pub continuation_decoded : (stmts falls : List ℕ) (i : ℕ) → decode (continuation_number stmts falls i) ≡ continuation_entry stmts falls i
unfolding continuation_number continuation_entry fall_entry
continuation_decoded stmts falls i = go (call_word (word_of stmts i))
  where
    go : (x : Bool) → decode (pick x (get_or falls (i * 3) 0) 0) ≡ pick x (decode (get_or falls (i * 3) 0)) []
    go true = refl
    go false = refl

pub continuation-le : (stmts falls : List ℕ) (i m : ℕ) → get_or falls (i * 3) 0 ≤ m → continuation_number stmts falls i ≤ m
unfolding continuation_number
continuation-le stmts falls i m h = go (call_word (word_of stmts i))
  where
    go : (x : Bool) → pick x (get_or falls (i * 3) 0) 0 ≤ m
    go true = h
    go false = omega arith

module _ (stmts falls : List ℕ) (i : ℕ) where
  pub continuation_call : call_word (get_or stmts (i * 12) 0) ≡ true → get_or falls (i * 3) 0 ≡ continuation_number stmts falls i
  unfolding continuation_number word_of
  continuation_call e = rw e

  pub continuation-none : call_word (get_or stmts (i * 12) 0) ≡ false → 0 ≡ continuation_number stmts falls i
  unfolding continuation_number word_of
  continuation-none e = rw e

pub roles_falls : {W : Wired} {stmts falls links : List ℕ} {n : ℕ} → Roles W stmts falls links n → FallsFit falls n
roles_falls r i h = omega (arith, r.fall_fits i h, r.few)
