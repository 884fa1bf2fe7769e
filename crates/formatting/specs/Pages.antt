-- A page: bytes are put into a lent part, one piece after the other. Assumes nothing.
use Rattle.std.specs.Prelude.{ℕ, ◌+◌, ◌≤◌, ◌<◌, ◌≡◌, refl, List, [], ◌∷◌, ◌++◌, length, get_or, take}
use Rattle.std.proofs.Common.{◌∙◌, append_assoc, append-nil, add-one, take-suc, take_all}
use Rattle.listings.specs.Bytes.{bytes, decimal}
use Rattle.graph.specs.Lists.{each, below}
use Rattle.graph.specs.Print.{spaced}
use Rattle.formatting.specs.Printing.{Puts, puts_none, puts_both, each_snoc}
use Rattle.formatting.specs.declared.page.Page.{Page}

-- l was put on the page p, which is p' then and still holds the same part
pub record Wrote (p p' : Page) (l : List ℕ) : Type 0 where
  pub same_reference : p'.bytes.ghost_name ≡ p.bytes.ghost_name
  pub puts : Puts p.bytes.now p.at p'.bytes.now p'.at l

-- ---- one piece after the other

pub wrote_none : (p : Page) → Wrote p p []
wrote_none p = record { same_reference = refl; puts = puts_none _ _ }

pub wrote_both : {p q s : Page} {k l : List ℕ} → Wrote p q k → Wrote q s l → Wrote p s (k ++ l)
wrote_both a b = record { same_reference = b.same_reference ∙ a.same_reference; puts = puts_both _ _ _ _ _ _ _ _ a.puts b.puts }

-- the same bytes, said otherwise
pub wrote_is : {p q : Page} {k l : List ℕ} → k ≡ l → Wrote p q k → Wrote p q l
wrote_is e a = rw e at a

-- on a new page: what was put stands in the part that was lent
pub put_on : {out : List ℕ} {p p' : Page} {l : List ℕ} → (p.bytes.now ≡ out) × (p.at ≡ 0) → Wrote p p' l → Puts out 0 p'.bytes.now p'.at l
put_on b w = rw (b.0, b.1) at w.puts

-- ---- loops

-- over a list: the pieces of the first k
module _ (f : ℕ → List ℕ) (xs : List ℕ) (p : Page) where
  pub each_start : Wrote p p (each f (take 0 xs))
  unfolding each
  each_start = wrote_none p

  pub each_on : {q s : Page} (k : ℕ) → k < length xs → Wrote p q (each f (take k xs)) → Wrote q s (f (get_or xs k 0)) → Wrote p s (each f (take (k + 1) xs))
  each_on k h a b = rw (add-one, take-suc xs k 0 h, each_snoc) (wrote_both a b)

  pub each_end : {q : Page} (k : ℕ) → length xs ≤ k → Wrote p q (each f (take k xs)) → Wrote p q (each f xs)
  each_end k h a = rw (take_all k xs h) at a

-- over the numbers below k
module _ (f : ℕ → List ℕ) (p : Page) where
  pub below-start : Wrote p p (each f (below 0))
  unfolding each below
  below-start = wrote_none p

  pub below_on : {q s : Page} (k : ℕ) → Wrote p q (each f (below k)) → Wrote q s (f k) → Wrote p s (each f (below (k + 1)))
  unfolding below
  below_on k a b = rw (add-one, each_snoc) (wrote_both a b)

-- over bytes: the first k
pub bytes_on : (xs : List ℕ) {p q s : Page} (k : ℕ) → k < length xs → Wrote p q (take k xs) → Wrote q s (get_or xs k 0 ∷ []) → Wrote p s (take (k + 1) xs)
bytes_on xs k h a b = rw (add-one, take-suc xs k 0 h) (wrote_both a b)

-- ---- numbers

-- one more number
pub spaced_snoc : (l : List ℕ) (a : ℕ) → spaced (l ++ (a ∷ [])) ≡ spaced l ++ (32 ∷ decimal a)
unfolding spaced
spaced_snoc l a = each_snoc (λ (y : ℕ). 32 ∷ decimal y) l a

pub wrote_pair : {p q s t : Page} (w : List ℕ) (a b : ℕ) → Wrote p q w → Wrote q s (32 ∷ decimal a) → Wrote s t (32 ∷ decimal b) → Wrote p t (w ++ spaced (a ∷ b ∷ []))
unfolding spaced each
wrote_pair w a b x y z = wrote_is (simp (append_assoc, append-nil)) (wrote_both (wrote_both x y) z)

unfoldable pub pair_text : List ℕ → (a b : ℕ) → List ℕ
pair_text w a b = w ++ spaced (a ∷ b ∷ []) ++ bytes ")\n"

pub wrote_row : {p q s : Page} (w : List ℕ) (a b : ℕ) → Wrote p q (w ++ spaced (a ∷ b ∷ [])) → Wrote q s (bytes ")\n") → Wrote p s (pair_text w a b)
unfolding pair_text
wrote_row w a b x y = wrote_both x y
