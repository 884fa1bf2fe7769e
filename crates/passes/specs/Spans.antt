-- Where in a list of calls those of an entry stand: from the first of them to behind the last. A table has a span for
-- each node, or none where no call has it among its targets. Assumes nothing.
use Rattle.std.specs.Prelude.{ℕ, zero, suc, ◌+◌, ◌-◌, ◌≤◌, ◌<◌, ◌≡◌, refl, ◌⊎◌, Option, Some, None, length, get_or, set, take, drop, replicate}
use Rattle.std.proofs.Common.{sym, ap, subst, ◌∙◌, inl, inr, ⊎_elim, add-one, arith, length-set, length-drop, take-suc, get_or-set_same, get_or-set_other, get_or-take, get_or-drop, length-take-le}
use mathlib.Core.List.Memᴰ
use mathlib.Core.List.{List, [], ◌∷◌, ◌++◌, Memᴰ}
use Rattle.graph.specs.Lists.{each}
use Rattle.graph_laws.specs.Adding.{decode}
use Rattle.passes.specs.Compare.{eq-or}
use Rattle.passes.specs.Growing.{each_snoc}
use Rattle.passes.specs.Prepared.{link_entries}
use Rattle.passes.specs.WalkLaws.{mem_get_d}
use Rattle.passes.specs.declared.spans.Span.{Span}

-- place j is in the span of entry e
pub record InSpan (spans : List (Option Span)) (e j : ℕ) : Type 0 where
  pub span : Span
  pub is : get_or spans e None ≡ Some span
  pub above : span.first ≤ j
  pub below : j < span.end

-- each span has places, all among the first m
abbrev pub SpansTo : List (Option Span) → ℕ → Type 0
SpansTo spans m = (e : ℕ) (s : Span) → get_or spans e None ≡ Some s → (s.end ≤ m) × (s.first < s.end)

-- place k, the last so far, came into the spans of the entries l, and no place left one
pub record SpansGrow (k : ℕ) (l : List ℕ) (spans spans' : List (Option Span)) : Type 0 where
  pub size : length spans' ≡ length spans
  pub ends : SpansTo spans (k + 1) → SpansTo spans' (k + 1)
  pub stays : SpansTo spans (k + 1) → (e j : ℕ) → InSpan spans e j → InSpan spans' e j
  pub comes : SpansTo spans (k + 1) → (e : ℕ) → Memᴰ e l → InSpan spans' e k

-- the spans of the first k calls
pub record Spanned (stmts links calls : List ℕ) (k : ℕ) (spans : List (Option Span)) : Type 0 where
  pub ends : SpansTo spans k
  pub covers : (j : ℕ) → j < k → (e : ℕ) → Memᴰ e (link_entries stmts links (get_or calls j 0)) → InSpan spans e j

-- where a span begins that gets place k
unfoldable pub first_of : Option Span → ℕ → ℕ
first_of None k = k
first_of (Some s) k = s.first

-- what is said of a span is said of its numbers
end_of : Option Span → ℕ
end_of None = 0
end_of (Some s) = s.end

some_of : Option Span → ℕ
some_of None = 0
some_of (Some s) = 1

pub same_first : {s t : Span} → Some s ≡ Some t → s.first ≡ t.first
unfolding first_of
same_first e = ap (λ (o : Option Span). first_of o 0) e

pub same_end : {s t : Span} → Some s ≡ Some t → s.end ≡ t.end
unfolding end_of
same_end e = ap end_of e

pub no_span : {A : Type 0} {s : Span} → None ≡ Some s → A
unfolding some_of
no_span e = let z = ap some_of e in absurd (omega (arith, z))

-- ---- entries come into spans

grow_none : (k : ℕ) (s : List (Option Span)) → SpansGrow k [] s s
grow_none k s = record { size = refl; ends = λ h. h; stays = λ h e j i. i; comes = λ h e m. absurd (Memᴰ.not-nil m) }

grow_both : (k : ℕ) (l m : List ℕ) (s t u : List (Option Span)) → SpansGrow k l s t → SpansGrow k m t u → SpansGrow k (l ++ m) s u
grow_both k l m s t u a b =
    record {
      size = b.size ∙ a.size;
      ends = λ h. b.ends (a.ends h);
      stays = λ h e j i. b.stays (a.ends h) e j (a.stays h e j i);
      comes = λ h e x. ⊎_elim (λ y. b.stays (a.ends h) e k (a.comes h e y)) (λ y. b.comes (a.ends h) e y) (Memᴰ.append_cases l x);
    }

-- entry e₀ alone
module _ (k e₀ : ℕ) (s : List (Option Span)) (fits : e₀ < length s) (f : ℕ) (ef : f ≡ first_of (get_or s e₀ None) k) where
  abbrev n : Span
  n = record { first = f; end = k + 1 }

  abbrev t : List (Option Span)
  t = set s e₀ (Some n)

  now : get_or t e₀ None ≡ Some n
  now = get_or-set_same s e₀ (Some n) None fits

  away : (e : ℕ) → (e ≡ e₀ → ⊥) → get_or t e None ≡ get_or s e None
  away e ne = get_or-set_other s e₀ e (Some n) None ne

  -- the span that stood there
  first_was : (x : Span) → get_or s e₀ None ≡ Some x → f ≡ x.first
  unfolding first_of
  first_was x q = ef ∙ ap (λ (o : Option Span). first_of o k) q

  first_few : SpansTo s (k + 1) → f ≤ k
  unfolding first_of
  first_few h = go (get_or s e₀ None) refl
    where
      go : (o : Option Span) → get_or s e₀ None ≡ o → f ≤ k
      go None q = omega (arith, ef ∙ ap (λ (o : Option Span). first_of o k) q)
      go (Some x) q = let b = h e₀ x q in omega (arith, first_was x q, b.0, b.1)

  ends-one : SpansTo s (k + 1) → SpansTo t (k + 1)
  ends-one h e x q = ⊎_elim (λ p. here p) (λ ne. h e x (sym (away e ne) ∙ q)) (eq-or e e₀)
    where
      here : e ≡ e₀ → (x.end ≤ k + 1) × (x.first < x.end)
      here p =
          let i : Some n ≡ Some x = sym now ∙ ap (λ (y : ℕ). get_or t y None) (sym p) ∙ q in
          (omega (arith, same_end i), omega (arith, same_end i, same_first i, first_few h))

  stays_one : SpansTo s (k + 1) → (e j : ℕ) → InSpan s e j → InSpan t e j
  stays_one h e j i = ⊎_elim (λ p. here p) (λ ne. record { span = i.span; is = away e ne ∙ i.is; above = i.above; below = i.below }) (eq-or e e₀)
    where
      here : e ≡ e₀ → InSpan t e j
      here p =
          let q : get_or s e₀ None ≡ Some i.span = ap (λ (y : ℕ). get_or s y None) (sym p) ∙ i.is in
          record {
            span = n;
            is = ap (λ (y : ℕ). get_or t y None) p ∙ now;
            above = omega (arith, first_was i.span q, i.above);
            below = omega (arith, (h e₀ i.span q).0, i.below);
          }

  grow_one : SpansGrow k (e₀ ∷ []) s t
  grow_one =
      record {
        size = length-set s e₀ (Some n);
        ends = ends-one;
        stays = stays_one;
        comes = λ h e m.
            ⊎_elim (λ p. record { span = n; is = ap (λ (y : ℕ). get_or t y None) p ∙ now; above = first_few h; below = omega arith }) (λ x. absurd (Memᴰ.not-nil x)) (Memᴰ.cases_cons m);
      }

-- the entry t - 1, where t is not 0
pub grow_zero : (k : ℕ) (s : List (Option Span)) (t : ℕ) → t ≡ 0 → SpansGrow k (decode t) s s
grow_zero k s zero e = grow_none k s
grow_zero k s (suc t) e = absurd (omega arith)

pub grow_some : (k : ℕ) (s : List (Option Span)) (t u f w : ℕ) → u ≡ t → (t ≡ 0 → ⊥) → t ≤ length s → f ≡ first_of (get_or s (u - 1) None) k → w ≡ k + 1
    → SpansGrow k (decode t) s (set s (u - 1) (Some (record { first = f; end = w })))
grow_some k s zero u f w q z h ef ew = absurd (z refl)
grow_some k s (suc t) u f w q z h ef ew =
    let v : u - 1 ≡ t = omega arith in
    rw (v, ew) (grow_one k t s (omega arith) f (rw v at ef))

-- a loop over a row of links
module _ (k : ℕ) (row : List ℕ) where
  pub row_start : (s : List (Option Span)) → SpansGrow k (each decode (take 0 row)) s s
  unfolding each
  row_start s = grow_none k s

  pub row_more : (i : ℕ) (s t u : List (Option Span)) → i < length row → SpansGrow k (each decode (take i row)) s t → SpansGrow k (decode (get_or row i 0)) t u → SpansGrow k (each decode (take (i + 1) row)) s u
  row_more i s t u h a b = rw (add-one, take-suc row i 0 h, each_snoc) (grow_both k (each decode (take i row)) (decode (get_or row i 0)) s t u a b)

-- ---- call after call

nones : (n i : ℕ) → get_or {A = Option Span} (replicate n None) i None ≡ None
nones zero zero = refl
nones zero (suc i) = refl
nones (suc n) zero = refl
nones (suc n) (suc i) = nones n i

module _ (stmts links calls : List ℕ) where
  pub spanned_none : (n : ℕ) (s : List (Option Span)) → s ≡ replicate n None → Spanned stmts links calls 0 s
  spanned_none n s e =
      record {
        ends = λ i x q. no_span (sym (ap (λ (l : List (Option Span)). get_or l i None) e ∙ nones n i) ∙ q);
        covers = λ j h. absurd (omega arith);
      }

  pub spanned_more : (k c : ℕ) (s t : List (Option Span)) → c ≡ get_or calls k 0 → Spanned stmts links calls k s → SpansGrow k (link_entries stmts links c) s t → Spanned stmts links calls (k + 1) t
  spanned_more k c s t ec a b = record { ends = b.ends wider; covers = λ j h e m. go j h e m (eq-or j k) }
    where
      wider : SpansTo s (k + 1)
      wider e x q = let h = a.ends e x q in (omega (arith, h.0), h.1)

      go : (j : ℕ) → j < k + 1 → (e : ℕ) → Memᴰ e (link_entries stmts links (get_or calls j 0)) → (j ≡ k) ⊎ (j ≡ k → ⊥) → InSpan t e j
      go j h e m (inl q) = rw q (b.comes wider e (subst (λ (x : ℕ). Memᴰ e (link_entries stmts links x)) (ap (λ (x : ℕ). get_or calls x 0) q ∙ sym ec) m))
      go j h e m (inr q) = b.stays wider e j (a.covers j (omega arith) e m)

-- ---- a part of a list

pub mem_place : {c : ℕ} (l : List ℕ) → Memᴰ c l → (j : ℕ) × (j < length l) × (get_or l j 0 ≡ c)
mem_place [] m = absurd (Memᴰ.not-nil m)
mem_place (a ∷ l) m =
    elim (Memᴰ.cases_cons m) [
      | inl q ↦ (0, omega arith, sym q)
      | inr n ↦ let r = mem_place l n in (suc r.0, omega (arith, r.1), r.2)
    ]

pub mem_take : {c : ℕ} (n : ℕ) (l : List ℕ) → Memᴰ c (take n l) → Memᴰ c l
mem_take zero l m = absurd (Memᴰ.not-nil m)
mem_take (suc n) [] m = m
mem_take (suc n) (a ∷ l) m = ⊎_elim (λ q. Memᴰ.head q) (λ x. Memᴰ.tail (mem_take n l x)) (Memᴰ.cases_cons m)

pub mem_drop : {c : ℕ} (n : ℕ) (l : List ℕ) → Memᴰ c (drop n l) → Memᴰ c l
mem_drop zero l m = m
mem_drop (suc n) [] m = m
mem_drop (suc n) (a ∷ l) m = Memᴰ.tail (mem_drop n l m)

-- a place in the part from a to b
pub part_place : (l : List ℕ) (a b j : ℕ) → a ≤ j → j < b → b ≤ length l → Memᴰ (get_or l j 0) (take (b - a) (drop a l))
part_place l a b j h lt fits =
    let n = length-take-le (b - a) (drop a l) (omega (arith, length-drop a l)) in
    let q : a + (j - a) ≡ j = omega arith in
    let e : get_or (take (b - a) (drop a l)) (j - a) 0 ≡ get_or l j 0 = get_or-take (b - a) (drop a l) (j - a) 0 (omega arith) ∙ get_or-drop a l (j - a) 0 ∙ ap (λ (x : ℕ). get_or l x 0) q in
    subst (λ (x : ℕ). Memᴰ x (take (b - a) (drop a l))) e (mem_get_d (take (b - a) (drop a l)) (j - a) (omega arith))
