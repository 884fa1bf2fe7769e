-- Bytes that are put into a lent part, as far as it goes: one piece after the other. Assumes nothing.
use Rattle.std.specs.Prelude.{ℕ, suc, ◌+◌, ◌-◌, ◌*◌, ◌/◌, ◌%◌, ◌≤◌, ◌<◌, min, ◌≡◌, refl, List, [], ◌∷◌, ◌++◌, length, get_or, set, take, drop}
use Rattle.std.proofs.Common.{sym, ap, ◌∙◌, arith, append_assoc, append-nil, add-one, take-suc, length-take-le, length-append, length-set}
use Rattle.std.proofs.Math.Decide.{dec_le}
use Rattle.std.proofs.lemmas.List.{take-append-drop}
use Rattle.std.proofs.lemmas.List.Edits.{sets, sets-eq}
use Rattle.std.proofs.Math.Seq.{length-sets, set_out, drop-drop}
use Rattle.tables.specs.Stores.{sets-append}
use Rattle.listings.specs.Bytes.{decimal}
use Rattle.listing_laws.specs.NumberText.{decimal_small, decimal_more}
use Rattle.graph.specs.Lists.{each}
use Rattle.graph.specs.Print.{spaced}

-- l is stored from `at` on, as far as the part goes; r is past the last byte that was stored
pub record Puts (out : List ℕ) (at : ℕ) (out' : List ℕ) (r : ℕ) (l : List ℕ) : Type 0 where
  pub bytes : out' ≡ sets out at l
  pub next : r ≡ at + min (length l) (length out - at)

pub puts_none : (p : List ℕ) (at : ℕ) → Puts p at p at []
puts_none p at = record { bytes = refl; next = omega arith }

pub puts_one : (p : List ℕ) (at b : ℕ) → at < length p → Puts p at (set p at b) (at + 1) (b ∷ [])
puts_one p at b h = record { bytes = refl; next = omega arith }

pub puts_over : (p : List ℕ) (at b : ℕ) → length p ≤ at → Puts p at p at (b ∷ [])
puts_over p at b h = record { bytes = sym (set_out p at b h); next = omega arith }

-- ---- one piece after the other

sets_out : (p : List ℕ) (at : ℕ) (l : List ℕ) → length p ≤ at → sets p at l ≡ p
sets_out p at [] h = refl
sets_out p at (b ∷ l) h = sets_out (set p at b) (suc at) l (simp length-set (omega arith)) ∙ set_out p at b h

pub puts_both : (p q s : List ℕ) (n m r : ℕ) (k l : List ℕ) → Puts p n q m k → Puts q m s r l → Puts p n s r (k ++ l)
puts_both p q s n m r k l a b =
    let f : length q ≡ length p = ap length a.bytes ∙ length-sets p n k in
    record {
      bytes = b.bytes
          ∙ elim (dec_le (length k) (length p - n)) [
            | yes h ↦ let e : m ≡ n + length k = omega (arith, a.next) in
                ap (λ (x : ℕ). sets q x l) e ∙ ap (λ (x : List ℕ). sets x (n + length k) l) a.bytes ∙ sym (sets-append p n k l)
            | no h ↦ sets_out q m l (omega (arith, a.next)) ∙ sym (sets_out q (n + length k) l (omega arith))
                ∙ ap (λ (x : List ℕ). sets x (n + length k) l) a.bytes ∙ sym (sets-append p n k l)
          ];
      next = omega (arith, a.next, b.next, length-append k l);
    }

-- ---- bytes that are copied at once

-- behind the part's end nothing is stored
pub puts_outside : (p : List ℕ) (at : ℕ) (l : List ℕ) → length p < at → Puts p at p at l
puts_outside p at l h = record { bytes = sym (sets_out p at l (omega arith)); next = omega arith }

-- s is what was copied, before what the part holds behind it
rest : (p : List ℕ) (at k e : ℕ) → at + k ≡ e → drop k (drop at p) ≡ drop e p
rest p at k e h = drop-drop k at p ∙ ap (λ (x : ℕ). drop x p) h

-- all of them
pub puts_copied : (p l s : List ℕ) (at k : ℕ) → k ≡ length l → at + k ≤ length p → s ≡ l → Puts p at (take at p ++ (s ++ drop k (drop at p))) (at + length l) l
puts_copied p l s at k f h g =
    record {
      bytes = ap (λ (x : List ℕ). take at p ++ (x ++ drop k (drop at p))) g ∙ ap (λ (x : List ℕ). take at p ++ (l ++ x)) (rest p at k (at + length l) (omega arith))
          ∙ sym (append_assoc (take at p) l (drop (at + length l) p)) ∙ sym (sets-eq l p at (omega arith));
      next = omega arith;
    }

-- as many as fit
pub puts_front : (p l s : List ℕ) (at k : ℕ) → k ≡ length p - at → at ≤ length p → k ≤ length l → s ≡ take k l → Puts p at (take at p ++ (s ++ drop k (drop at p))) (length p) l
puts_front p l s at k f h g e =
    let n : length (take k l) ≡ k = length-take-le k l g in
    record {
      bytes = ap (λ (x : List ℕ). take at p ++ (x ++ drop k (drop at p))) e ∙ ap (λ (x : List ℕ). take at p ++ (take k l ++ x)) (rest p at k (at + length (take k l)) (omega arith))
          ∙ sym (append_assoc (take at p) (take k l) (drop (at + length (take k l)) p))
          ∙ sym
          (ap (λ (x : List ℕ). sets p at x) (sym (take-append-drop k l)) ∙ sets-append p at (take k l) (drop k l)
          ∙ sets_out (sets p at (take k l)) (at + length (take k l)) (drop k l) (omega (arith, length-sets p at (take k l))) ∙ sets-eq (take k l) p at (omega arith));
      next = omega arith;
    }

-- the same bytes, said otherwise
pub puts_is : {p q k l : List ℕ} {n r : ℕ} → k ≡ l → Puts p n q r k → Puts p n q r l
puts_is e a = rw e at a

-- ---- loops: the first k of some numbers

pub each_snoc : {A : Type 0} (f : A → List ℕ) (l : List A) (a : A) → each f (l ++ (a ∷ [])) ≡ each f l ++ f a
unfolding each
each_snoc f [] a = append-nil (f a)
each_snoc f (x ∷ l) a = rw (each_snoc f l a, append_assoc)

module _ (xs : List ℕ) {p q s : List ℕ} {n m r : ℕ} (k : ℕ) (h : k < length xs) where
  pub number_next : (x : ℕ) → x ≡ get_or xs k 0 → Puts p n q m (spaced (take k xs)) → Puts q m s r (32 ∷ decimal x) → Puts p n s r (spaced (take (k + 1) xs))
  unfolding spaced
  number_next x e a b =
      let f : ℕ → List ℕ = λ y. 32 ∷ decimal y in
      rw (add-one, take-suc xs k 0 h, each_snoc) (puts_both p q s n m r (each f (take k xs)) (f (get_or xs k 0)) a (rw e at b))

-- ---- numbers

-- a digit behind the others
pub puts_digit : {p q s : List ℕ} {n m r : ℕ} (x d : ℕ) → 10 ≤ x → d ≡ 48 + x % 10 → Puts p n q m (decimal (x / 10)) → Puts q m s r (d ∷ []) → Puts p n s r (decimal x)
puts_digit {p} {q} {s} {n} {m} {r} x d h e a b =
    let z : x / 10 * 10 + x % 10 ≡ x = omega arith in
    let t : decimal (x / 10) ++ (d ∷ []) ≡ decimal x
    = ap (λ (y : ℕ). decimal (x / 10) ++ (y ∷ [])) e ∙ sym (decimal_more (x / 10) (x % 10) (omega arith) (omega arith)) ∙ ap decimal z in
    puts_is t (puts_both p q s n m r (decimal (x / 10)) (d ∷ []) a b)

pub puts_small : {p q : List ℕ} {n r : ℕ} (x d : ℕ) → x < 10 → d ≡ 48 + x → Puts p n q r (d ∷ []) → Puts p n q r (decimal x)
puts_small x d h e a = puts_is (ap (λ (y : ℕ). y ∷ []) e ∙ sym (decimal_small x h)) a
