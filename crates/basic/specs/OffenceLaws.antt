-- The least offence of a line, part by part. Assumes nothing.
use Rattle.std.specs.Prelude.{ℕ, suc, ◌+◌, ◌-◌, ◌≤◌, ◌<◌, ◌≡◌, refl, List, [], ◌∷◌, ◌++◌, Bool, true, false, ◌&&◌, ◌||◌, eqb, ltb, leb, length, take, drop, Some, None, Result, Ok, Err}
use Rattle.std.specs.Bool.{then_some}
use Rattle.std.specs.List.{list_any}
use Rattle.std.proofs.Common.{arith, sym, ap, ◌∙◌, inl, inr, length-drop}
use Rattle.std.proofs.Math.Option.{Option, none, some}
use borrow.Author.Tests.{lt-ltb, le-ltb, le-leb, lt-leb, eq-eqb, ne_eqb, ltb-true, ltb-false, eqb-true, eqb-false}
use Rattle.std.specs.Prelude.{cond}
use Rattle.std.proofs.Common.{Less, Equal, Greater}
use Rattle.std.specs.Ordering.{is_lt, is_some_and, nat_cmp, partial_lt, partial_ordering_then}
use Rattle.listings.specs.Bytes.{pick}
use Rattle.listings.specs.Scan.{index_of, index_le}
use Rattle.listings.specs.Tests.{both_true, either_true}
use Rattle.program_files.specs.Program as definition
use Rattle.program_files.specs.Program.{Placed, Offence, Cover, uncovered, behind, counts, counted, sooner, soonest, foreign, lacking, body, bad, offences}
use Rattle.basic.specs.Lines.{EndsLine, IsCut, first_foreign, with_foreign, bytes_at, zero_at}
use Rattle.layout.specs.Refusals.{refusal_at}
use Rattle.layout.specs.declared.refusals.Reason.TheVariants as reason
use Rattle.basic.specs.Bodies.{summary}
use Rattle.basic.specs.declared.bodies.Body.{Body}
use Rattle.basic.specs.declared.found.Lack.{Lack}

-- ---- two on different bytes

before : (a b : Offence) → a.0 < b.0 → sooner a (some b) ≡ some a
unfolding sooner
before a b h = rw (lt-ltb a.0 b.0 h)

not_behind : (a b : Offence) → (ltb a.0 b.0 || (eqb a.0 b.0 && leb a.1 b.1)) ≡ true → a.0 ≤ b.0
not_behind a b e = elim (either_true (ltb a.0 b.0) (eqb a.0 b.0 && leb a.1 b.1) e) [
  | inl h ↦ let z = ltb-true a.0 b.0 h in omega arith
  | inr h ↦ let z = eqb-true a.0 b.0 (both_true (eqb a.0 b.0) (leb a.1 b.1) h).0 in omega arith
]

-- behind an offence no later one counts
skip : (a b : Offence) (x : Option Offence) → a.0 < b.0 → sooner a (sooner b x) ≡ sooner a x
unfolding sooner
skip a b none h = before a b h
skip a b (some c) h = go (ltb b.0 c.0 || (eqb b.0 c.0 && leb b.1 c.1)) refl
  where
    go : (t : Bool) → (ltb b.0 c.0 || (eqb b.0 c.0 && leb b.1 c.1)) ≡ t → sooner a (pick t (some b) (some c)) ≡ sooner a (some c)
    go true e = let z = not_behind b c e in before a b h ∙ sym (before a c (omega arith))
    go false e = refl

-- ---- 64 hexadecimal

module _ (q p b : ℕ) (r : List Placed) (x : List Offence) (h : q < p) (rest : sooner (q, 34) (soonest (foreign r ++ x)) ≡ sooner (q, 34) (soonest x)) where
  absorbed_here : (u : Bool) → sooner (q, 34) (soonest (pick u ((p, 34) ∷ foreign r) (foreign r) ++ x)) ≡ sooner (q, 34) (soonest x)
  unfolding soonest
  absorbed_here true = skip (q, 34) (p, 34) (soonest (foreign r ++ x)) h ∙ rest
  absorbed_here false = rest

  absorbed_next : (s t : Bool) → sooner (q, 34) (soonest (foreign (pick s ((p, 0) ∷ []) (pick t ((p, b) ∷ r) r)) ++ x)) ≡ sooner (q, 34) (soonest x)
  unfolding foreign
  absorbed_next true t = refl
  absorbed_next false true = absorbed_here (eqb b 100)
  absorbed_next false false = rest

-- the places of a line's bytes ascend
absorbed : (c : Cover) (q p : ℕ) (l : List ℕ) (x : List Offence) → q < p → sooner (q, 34) (soonest (foreign (counted c p l) ++ x)) ≡ sooner (q, 34) (soonest x)
unfolding counted foreign
absorbed c q p [] x h = refl
absorbed c q p (b ∷ l) x h = absorbed_next q p b (counted (behind c b) (suc p) l) x h (absorbed (behind c b) q (suc p) l x (omega arith)) (eqb b 0) (counts c b)

module _ (p b : ℕ) (r : List Placed) (x : List Offence) (rest : soonest (foreign r ++ x) ≡ with_foreign (first_foreign r) (soonest x))
    (later : sooner (p, 34) (soonest (foreign r ++ x)) ≡ sooner (p, 34) (soonest x)) where
  foreign_here : (u : Bool) → soonest (pick u ((p, 34) ∷ foreign r) (foreign r) ++ x) ≡ with_foreign (pick u (Some p) (first_foreign r)) (soonest x)
  unfolding soonest
  foreign_here true = later
  foreign_here false = rest

  foreign_next : (s t : Bool)
      → soonest (foreign (pick s ((p, 0) ∷ []) (pick t ((p, b) ∷ r) r)) ++ x) ≡ with_foreign (first_foreign (pick s ((p, 0) ∷ []) (pick t ((p, b) ∷ r) r))) (soonest x)
  unfolding foreign first_foreign
  foreign_next true t = refl
  foreign_next false true = foreign_here (eqb b 100)
  foreign_next false false = rest

pub foreign-first : (c : Cover) (p : ℕ) (l : List ℕ) (x : List Offence)
    → soonest (foreign (counted c p l) ++ x) ≡ with_foreign (first_foreign (counted c p l)) (soonest x)
unfolding counted foreign first_foreign
foreign-first c p [] x = refl
foreign-first c p (b ∷ l) x =
    let r = counted (behind c b) (suc p) l in
    foreign_next p b r x (foreign-first (behind c b) (suc p) l x) (absorbed (behind c b) p (suc p) l x (omega arith)) (eqb b 0) (counts c b)

-- ---- the loop over a line's bytes

module _ (p b : ℕ) (m : List Placed) where
  pub foreign_end : first_foreign ((p, 0) ∷ []) ≡ None
  unfolding first_foreign
  foreign_end = refl

  pub foreign_at : b ≡ 100 → first_foreign ((p, b) ∷ m) ≡ Some p
  unfolding first_foreign
  foreign_at h = rw (eq-eqb b 100 h) refl

  pub foreign_on : (b ≡ 100 → ⊥) → first_foreign ((p, b) ∷ m) ≡ first_foreign m
  unfolding first_foreign
  foreign_on h = rw (ne_eqb b 100 h) refl

-- none among a line's bytes is none among those that count
module _ (p b : ℕ) (r : List Placed) (h : first_foreign r ≡ None) where
  foreign_none : (t u : Bool) → u ≡ false → eqb b 100 ≡ u → first_foreign (pick t ((p, b) ∷ r) r) ≡ None
  unfolding first_foreign
  foreign_none true u i e = rw (e, i) h
  foreign_none false u i e = h

foreign_absent : (c : Cover) (p : ℕ) (l : List ℕ) → list_any (λ y. eqb y 100) (take (index_of 0 l) l) ≡ false → first_foreign (counted c p l) ≡ None
unfolding counted index_of first_foreign
foreign_absent c p [] h = refl
foreign_absent c p (b ∷ l) h = go (eqb b 0) (λ e. foreign_absent (behind c b) (suc p) l e) h
  where
    some_more : (u : Bool) → eqb b 100 ≡ u → (list_any (λ y. eqb y 100) (take (index_of 0 l) l) ≡ false → first_foreign (counted (behind c b) (suc p) l) ≡ None)
        → u || list_any (λ y. eqb y 100) (take (index_of 0 l) l) ≡ false → first_foreign (pick (counts c b) ((p, b) ∷ counted (behind c b) (suc p) l) (counted (behind c b) (suc p) l)) ≡ None
    some_more true i f e = absurd cc
    some_more false i f e = foreign_none p b (counted (behind c b) (suc p) l) (f e) (counts c b) false refl i

    go : (t : Bool) → (list_any (λ y. eqb y 100) (take (index_of 0 l) l) ≡ false → first_foreign (counted (behind c b) (suc p) l) ≡ None)
        → list_any (λ y. eqb y 100) (take (pick t 0 (suc (index_of 0 l))) (b ∷ l)) ≡ false
        → first_foreign (pick t ((p, 0) ∷ []) (pick (counts c b) ((p, b) ∷ counted (behind c b) (suc p) l) (counted (behind c b) (suc p) l))) ≡ None
    go true f e = refl
    go false f e = some_more (eqb b 100) refl f e

pub none_foreign : (f : List ℕ) (p z : ℕ) → EndsLine f p z → list_any (λ y. eqb y 100) (take (z - (p + 4)) (drop (p + 4) f)) ≡ false → None ≡ first_foreign (bytes_at f p)
none_foreign f p z e h =
    let k : z - (p + 4) ≡ zero_at f p = omega arith in
    sym (foreign_absent uncovered (p + 4) (drop (p + 4) f) (rw k at h))

-- ---- the choice of two

module _ (p n q m : ℕ) where
  pub least_alone : some (p, n) ≡ sooner (p, n) none
  unfolding sooner
  least_alone = refl

  least-before : p < q → some (p, n) ≡ sooner (p, n) (some (q, m))
  unfolding sooner
  least-before e = rw (lt-ltb p q e) refl

  least-behind : q < p → some (q, m) ≡ sooner (p, n) (some (q, m))
  unfolding sooner
  least-behind e = rw (le-ltb p q (omega arith), ne_eqb p q (λ z. omega arith)) refl

  least_lower : p ≡ q → m < n → some (q, m) ≡ sooner (p, n) (some (q, m))
  unfolding sooner
  least_lower e f = rw (le-ltb p q (omega arith), eq-eqb p q e, lt-leb n m f) refl

  least-first : p ≡ q → n ≤ m → some (p, n) ≡ sooner (p, n) (some (q, m))
  unfolding sooner
  least-first e f = rw (le-ltb p q (omega arith), eq-eqb p q e, le-leb n m f) refl

  -- as the code compares the two pairs
  abbrev pub is_sooner : Bool
  is_sooner = partial_lt {X = ℕ × ℕ} (λ x y. partial_ordering_then (Some (nat_cmp x.0 y.0)) (Some (nat_cmp x.1 y.1))) (q, m) (p, n)

  least_pair : some (pick is_sooner (q, m) (p, n)) ≡ sooner (p, n) (some (q, m))
  least_pair = go (ltb q p) (eqb q p) (ltb m n) (eqb m n) refl refl refl
    where
      go : (s t u v : Bool) → ltb q p ≡ s → eqb q p ≡ t → ltb m n ≡ u
          → some (pick (is_some_and is_lt (partial_ordering_then (Some (cond s Less (cond t Equal Greater))) (Some (cond u Less (cond v Equal Greater))))) (q, m) (p, n)) ≡ sooner (p, n) (some (q, m))
      go true t u v d e f = least-behind (ltb-true q p d)
      go false true true v d e f = least_lower (sym (eqb-true q p e)) (ltb-true m n f)
      go false true false true d e f = least-first (sym (eqb-true q p e)) (ltb-false m n f)
      go false true false false d e f = least-first (sym (eqb-true q p e)) (ltb-false m n f)
      go false false u true d e f = least-before (omega (arith, ltb-false q p d, eqb-false q p e))
      go false false u false d e f = least-before (omega (arith, ltb-false q p d, eqb-false q p e))

  pub least_second : true ≡ is_sooner → some (q, m) ≡ sooner (p, n) (some (q, m))
  least_second h = ap (λ (t : Bool). some (pick {A = ℕ × ℕ} t (q, m) (p, n))) h ∙ least_pair

  pub least_stays : false ≡ is_sooner → some (p, n) ≡ sooner (p, n) (some (q, m))
  least_stays h = ap (λ (t : Bool). some (pick {A = ℕ × ℕ} t (q, m) (p, n))) h ∙ least_pair

-- ---- the parts of a line's offences

part_cut : (e : ℕ) (t : Bool) → t ≡ false → some (e, 33) ≡ soonest (pick t [] ((e, 33) ∷ []))
unfolding soonest sooner
part_cut e t h = rw h refl

part_whole : (e : ℕ) (t : Bool) → t ≡ true → none ≡ soonest (pick t [] ((e, 33) ∷ []))
unfolding soonest
part_whole e t h = rw h refl

pub cut_at : (f : List ℕ) (p z : ℕ) → p + 3 < length f → EndsLine f p z → IsCut f p (then_some (eqb z (length f)) (refusal_at reason.EndsEarly (length f)))
cut_at f p z h e = go (eqb z (length f)) refl
  where
    go : (t : Bool) → eqb z (length f) ≡ t → IsCut f p (then_some t (refusal_at reason.EndsEarly (length f)))
    go true g =
        let a = length-drop (p + 4) f in
        let b = eqb-true z (length f) g in
        part_cut (length f) _ (le-ltb (zero_at f p) (length (drop (p + 4) f)) (omega arith))
    go false g =
        let a = length-drop (p + 4) f in
        let b = index_le 0 (drop (p + 4) f) in
        let c : z ≡ length f → ⊥ = λ i. absurd (let k = sym (eq-eqb z (length f) i) ∙ g in cc) in
        part_whole (length f) _ (lt-ltb (zero_at f p) (length (drop (p + 4) f)) (omega arith))

-- that zero stands in the file or at its end
pub zero_within : (f : List ℕ) (p z : ℕ) → p + 3 < length f → EndsLine f p z → z ≤ length f
zero_within f p z h e = omega (arith, length-drop (p + 4) f, index_le 0 (drop (p + 4) f))

pub part_foreign : (f : List ℕ) (p : ℕ) (x : List Offence) → soonest (foreign (bytes_at f p) ++ x) ≡ with_foreign (first_foreign (bytes_at f p)) (soonest x)
part_foreign f p x = foreign-first uncovered (p + 4) (drop (p + 4) f) x

pub part_number : (q n : ℕ) (x : List Offence) → soonest (pick (leb n 63999) [] ((q, 35) ∷ []) ++ x) ≡ pick (leb n 63999) (soonest x) (sooner (q, 35) (soonest x))
unfolding soonest
part_number q n x = go (leb n 63999)
  where
    go : (t : Bool) → soonest (pick t [] ((q, 35) ∷ []) ++ x) ≡ pick t (soonest x) (sooner (q, 35) (soonest x))
    go true = refl
    go false = refl

-- ---- the statements of a line, by what is told of them

pub bad_is : (b : definition.Body) (d : Result Body Lack) (e : Lack) → d ≡ Err e → d ≡ summary b → b ≡ bad e.place
unfolding summary
bad_is (bad q) d e f g = let z : q ≡ e.place = cc in ap bad z
bad_is (body s) d e f g = absurd cc

pub good_is : (b : definition.Body) (d : Result Body Lack) (o : Body) → d ≡ Ok o → d ≡ summary b → lacking b ≡ []
unfolding summary lacking
good_is (bad q) d o f g = absurd cc
good_is (body s) d o f g = refl
