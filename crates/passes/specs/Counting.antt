-- Counting: how often a node is in a list, and sums over the nodes. Assumes nothing.
use Rattle.std.specs.Prelude.{◌≡◌, refl, Bool, true, false, ◌||◌, List, [], ◌∷◌, ◌++◌, ℕ, zero, suc, ◌+◌, ◌-◌, ◌≤◌, ◌<◌, eqb, length}
use Rattle.std.proofs.Common.{ap, ◌∙◌, arith, eqb-true, eq-eqb, ne_eqb}
use Rattle.std.proofs.Math.Decide.{ℕ_discrete}
use Rattle.listings.specs.Every.{all[], all∷}
use Rattle.graph.specs.Lists.{has}
use Rattle.graph_laws.specs.Distinct.{Distinct, dist[], dist∷}
use Rattle.graph_laws.specs.EdgeBounds.{Ids}
use Rattle.passes.specs.EdgeTable.{start_of, start-zero, start_next, lists_to, lists_at}

abbrev pub one : Bool → ℕ
one true = 1
one false = 0

unfoldable pub occurs : ℕ → List ℕ → ℕ
occurs i [] = 0
occurs i (a ∷ l) = one (eqb i a) + occurs i l

pub occurs-append : (i : ℕ) (k l : List ℕ) → occurs i (k ++ l) ≡ occurs i k + occurs i l
unfolding occurs
occurs-append i [] l = omega arith
occurs-append i (a ∷ k) l = omega (arith, occurs-append i k l)

pub occurs_snoc : (i : ℕ) (l : List ℕ) (a : ℕ) → occurs i (l ++ (a ∷ [])) ≡ occurs i l + one (eqb i a)
unfolding occurs
occurs_snoc i l a = omega (arith, occurs-append i l (a ∷ []))

one-le : (x : Bool) → one x ≤ 1
one-le true = omega arith
one-le false = omega arith

pub occurs-le : (i : ℕ) (l : List ℕ) → occurs i l ≤ length l
unfolding occurs
occurs-le i [] = omega arith
occurs-le i (a ∷ l) = omega (arith, occurs-le i l, one-le (eqb i a))

-- a list without duplicates has a node once, or not
pub occurs_once : (i : ℕ) {l : List ℕ} → Distinct l → occurs i l ≡ one (has i l)
unfolding occurs has
occurs_once i dist[] = refl
occurs_once i (dist∷ {a} {l} h d) = go (eqb i a) refl (occurs_once i d)
  where
    go : (x : Bool) → eqb i a ≡ x → occurs i l ≡ one (has i l) → one x + occurs i l ≡ one (x || has i l)
    go false e r = omega (arith, r)
    go true e r = let z : has i l ≡ false = ap (λ (y : ℕ). has y l) (eqb-true i a e) ∙ h in omega (arith, r, ap one z)

-- ---- sums

unfoldable pub sum_to : (ℕ → ℕ) → ℕ → ℕ
sum_to f zero = 0
sum_to f (suc n) = sum_to f n + f n

pub sum_next : (f : ℕ → ℕ) (n : ℕ) → sum_to f (n + 1) ≡ sum_to f n + f n
unfolding sum_to
sum_next f n = let e : n + 1 ≡ suc n = omega arith in ap (sum_to f) e

pub sum_ext : (f g : ℕ → ℕ) (n : ℕ) → ((i : ℕ) → i < n → f i ≡ g i) → sum_to f n ≡ sum_to g n
unfolding sum_to
sum_ext f g zero h = refl
sum_ext f g (suc n) h = omega (arith, sum_ext f g n (λ i l. h i (omega arith)), h n (omega arith))

sum_grows : (f : ℕ → ℕ) (i d : ℕ) → sum_to f i ≤ sum_to f (i + d)
unfolding sum_to
sum_grows f i zero = let e : i + 0 ≡ i = omega arith in rw e (omega arith)
sum_grows f i (suc d) = let e : i + suc d ≡ suc (i + d) = omega arith in rw e (omega (arith, sum_grows f i d))

pub sum-le : (f : ℕ → ℕ) (i j : ℕ) → i ≤ j → sum_to f i ≤ sum_to f j
sum-le f i j h = let e : i + (j - i) ≡ j = omega arith in rw e at (sum_grows f i (j - i))

sum_add : (f g : ℕ → ℕ) (n : ℕ) → sum_to (λ i. f i + g i) n ≡ sum_to f n + sum_to g n
unfolding sum_to
sum_add f g zero = refl
sum_add f g (suc n) = omega (arith, sum_add f g n)

sum_zero : (n : ℕ) → sum_to (λ i. 0) n ≡ 0
unfolding sum_to
sum_zero zero = refl
sum_zero (suc n) = omega (arith, sum_zero n)

sum_none : (a n : ℕ) → n ≤ a → sum_to (λ i. one (eqb i a)) n ≡ 0
unfolding sum_to
sum_none a zero h = refl
sum_none a (suc n) h = omega (arith, sum_none a n (omega arith), ap one (ne_eqb n a (λ e. omega arith)))

sum_one : (a n : ℕ) → a < n → sum_to (λ i. one (eqb i a)) n ≡ 1
unfolding sum_to
sum_one a zero h = absurd (omega arith)
sum_one a (suc n) h =
    elim (ℕ_discrete n a) [
      | yes e ↦ omega (arith, sum_none a n (omega arith), ap one (eq-eqb n a e))
      | no ne ↦ omega (arith, sum_one a n (omega arith), ap one (ne_eqb n a ne))
    ]

-- each entry is counted at its node
pub sum_occurs : (n : ℕ) {l : List ℕ} → Ids n l → sum_to (λ i. occurs i l) n ≡ length l
unfolding occurs
sum_occurs n all[] = sum_zero n
sum_occurs n (all∷ {a} {l} h hs) = sum_add (λ i. one (eqb i a)) (λ i. occurs i l) n ∙ omega (arith, sum_one a n h, sum_occurs n hs)

-- where the lists of the nodes begin is the sum of the lengths before
pub start_sum : (f : ℕ → List ℕ) (n i : ℕ) → i ≤ n → start_of (lists_to f n) i ≡ sum_to (λ x. length (f x)) i
unfolding sum_to
start_sum f n zero h = start-zero (lists_to f n)
start_sum f n (suc i) h = start_next (lists_to f n) i ∙ omega (arith, start_sum f n i (omega arith), ap length (lists_at f n i (omega arith)))
