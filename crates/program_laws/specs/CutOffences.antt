-- The first offence of a line, where it is cut and where it is whole. Assumes nothing.
use Rattle.std.specs.Prelude.{ℕ, suc, ◌+◌, ◌≤◌, ◌<◌, ◌≡◌, ◌⊎◌, refl, List, [], ◌∷◌, ◌++◌, Bool, true, false, ◌&&◌, ◌||◌, eqb, ltb, leb, length, take}
use Rattle.std.proofs.Common.{sym, ap, ◌∙◌, subst, arith, inl, inr, leb-true, leb-false, eqb-true, ltb-true, ltb-false, eq-eqb, lt-ltb, le-leb, length-take-le, length-take, le-ltb}
use Rattle.std.proofs.lemmas.Bool.{eqb-false}
use Rattle.std.proofs.Math.Option.{Option, none, some}
use Rattle.listings.specs.Bytes.{pick}
use Rattle.listings.specs.Scan.{index_of, index_le}
use Rattle.listings.specs.Tests.{not_both, both_true, either_true}
use Rattle.listings.specs.Listing.{∅}
use Rattle.program_files.specs.Program.{Placed, uncovered, counted, join_go, Body, body, bad, body_of, Offence, sooner, soonest, foreign, lacking, offences}
use Rattle.program_laws.specs.CutNumbers.{From, Crossing}
use Rattle.program_laws.specs.CutLines.{LateBody, fine, late_bad, SameBody, same_bad, late_bodies, cross_body, body_same}
use Rattle.program_laws.specs.CutBytes.{counted_rising, counted_cut, index_cut, index_whole, counted-whole, join_cut, In, first, next, cut_foreign, whole-foreign, crossing_place, join_rising, crossing_foreign}

-- ---- the first of some

-- "The first offending byte decides .., and 34 comes before 35 on one byte"
abbrev pub NotAfter : Offence → Offence → Type 0
NotAfter a b = (a.0 < b.0) ⊎ ((a.0 ≡ b.0) × (a.1 ≤ b.1))

abbrev sooner_test : Offence → Offence → Bool
sooner_test a b = ltb a.0 b.0 || (eqb a.0 b.0 && leb a.1 b.1)

or-true : (x : Bool) → (x || true) ≡ true
or-true true = refl
or-true false = refl

test_not_after : (a b : Offence) → NotAfter a b → sooner_test a b ≡ true
test_not_after a b (inl h) = rw (lt-ltb a.0 b.0 h)
test_not_after a b (inr h) = rw (eq-eqb a.0 b.0 h.0, le-leb a.1 b.1 h.1, or-true (ltb a.0 b.0))

not_after_test : (a b : Offence) → sooner_test a b ≡ true → NotAfter a b
not_after_test a b e =
    elim (either_true (ltb a.0 b.0) (eqb a.0 b.0 && leb a.1 b.1) e) [
      | inl h ↦ inl (ltb-true a.0 b.0 h)
      | inr h ↦ let k = both_true (eqb a.0 b.0) (leb a.1 b.1) h in inr (eqb-true a.0 b.0 k.0, leb-true a.1 b.1 k.1)
    ]

pair-same : (a b : Offence) → a.0 ≡ b.0 → a.1 ≡ b.1 → a ≡ b
pair-same a b e f = ap (λ (x : ℕ). (x, a.1)) e ∙ ap (λ (y : ℕ). (b.0, y)) f

not_after_both : (a b : Offence) → NotAfter a b → NotAfter b a → a ≡ b
not_after_both a b (inl h) (inl g) = absurd (omega arith)
not_after_both a b (inl h) (inr g) = absurd (let e = g.0 in omega arith)
not_after_both a b (inr h) (inl g) = absurd (let e = h.0 in omega arith)
not_after_both a b (inr h) (inr g) = pair-same a b h.0 (let x = h.1 in let y = g.1 in omega arith)

not_after_refl : (a : Offence) → NotAfter a a
not_after_refl a = inr (refl, omega arith)

not_after_trans : (a b c : Offence) → NotAfter a b → NotAfter b c → NotAfter a c
not_after_trans a b c (inl h) (inl g) = inl (omega arith)
not_after_trans a b c (inl h) (inr g) = inl (let e = g.0 in omega arith)
not_after_trans a b c (inr h) (inl g) = inl (let e = h.0 in omega arith)
not_after_trans a b c (inr h) (inr g) = inr (h.0 ∙ g.0, let x = h.1 in let y = g.1 in omega arith)

-- where the test fails
after_test : (a b : Offence) → sooner_test a b ≡ false → NotAfter b a
after_test a b e = go (ltb b.0 a.0) (eqb a.0 b.0) (leb b.1 a.1) refl refl refl
  where
    go : (x y z : Bool) → ltb b.0 a.0 ≡ x → eqb a.0 b.0 ≡ y → leb b.1 a.1 ≡ z → NotAfter b a
    go true y z p q r = inl (ltb-true b.0 a.0 p)
    go false true true p q r = inr (sym (eqb-true a.0 b.0 q), leb-true b.1 a.1 r)
    go false true false p q r = absurd (not_both (sym (test_not_after a b (inr (eqb-true a.0 b.0 q, let x = leb-false b.1 a.1 r in omega arith))) ∙ e))
    go false false z p q r = absurd (not_both (sym (test_not_after a b (inl (let x = ltb-false b.0 a.0 p in let y = eqb-false a.0 b.0 q in omega arith))) ∙ e))

-- of some offences, one that comes after none
pub record First (o : Offence) (l : List Offence) : Type 0 where
  pub inside : In o l
  pub least : (x : Offence) → In x l → NotAfter o x

first-pick : (a b : Offence) (l : List Offence) (t : Bool) → sooner_test a b ≡ t → First b l → First (pick t a b) (a ∷ l)
first-pick a b l true e f = record { inside = first refl; least = λ x i. elim i [ first h ↦ subst (λ (y : Offence). NotAfter a y) h (not_after_refl a) | next y j ↦ not_after_trans a b x (not_after_test a b e) (f.least x j) ] }
first-pick a b l false e f = record { inside = next a f.inside; least = λ x i. elim i [ first h ↦ subst (λ (y : Offence). NotAfter b y) h (after_test a b e) | next y j ↦ f.least x j ] }

-- what soonest gives
data Soonest (l : List Offence) : Option Offence → Type 0 where
  no_offence : l ≡ [] → Soonest l none
  the_first : (o : Offence) → First o l → Soonest l (some o)

sooner-soonest : (a : Offence) (l : List Offence) {m : Option Offence} → Soonest l m → Soonest (a ∷ l) (sooner a m)
unfolding sooner
sooner-soonest a l (no_offence e) = the_first a (record { inside = first refl; least = λ x i. elim i [ first h ↦ subst (λ (y : Offence). NotAfter a y) h (not_after_refl a) | next y j ↦ absurd (let k = subst (λ (z : List Offence). In x z) e j in elim k [ ]) ] })
sooner-soonest a l (the_first b f) = go (sooner_test a b) refl
  where
    go : (t : Bool) → sooner_test a b ≡ t → Soonest (a ∷ l) (pick t (some a) (some b))
    go true e = the_first a (first-pick a b l true e f)
    go false e = the_first b (first-pick a b l false e f)

soonest_view : (l : List Offence) → Soonest l (soonest l)
unfolding soonest
soonest_view [] = no_offence refl
soonest_view (a ∷ l) = sooner-soonest a l (soonest_view l)

-- the first of them is what soonest gives
pub soonest-first : (l : List Offence) (o : Offence) → First o l → soonest l ≡ some o
soonest-first l o f = go (soonest_view l)
  where
    go : {m : Option Offence} → Soonest l m → m ≡ some o
    go (no_offence e) = absurd (let k = subst (λ (z : List Offence). In o z) e f.inside in elim k [ ])
    go (the_first b g) = ap some (not_after_both b o (g.least o f.inside) (f.least b g.inside))

pub first-soonest : (l : List Offence) (o : Offence) → soonest l ≡ some o → First o l
first-soonest l o e = go (soonest_view l) e
  where
    go : {m : Option Offence} → Soonest l m → m ≡ some o → First o l
    go (no_offence h) k = absurd (let z : ◌≡◌ {A = ℕ} 0 1 = cc in omega arith)
    go (the_first b g) k = let z : b ≡ o = cc in subst (λ (y : Offence). First y l) z g

-- some offence, some first one
pub record SomeFirst (l : List Offence) : Type 0 where
  pub one : Offence
  pub is_first : First one l
  pub given : soonest l ≡ some one

pub some-first : (l : List Offence) (x : Offence) → In x l → SomeFirst l
some-first l x i = go (soonest_view l) refl
  where
    go : {m : Option Offence} → Soonest l m → soonest l ≡ m → SomeFirst l
    go (no_offence e) k = absurd (let j = subst (λ (z : List Offence). In x z) e i in elim j [ ])
    go (the_first b g) k = record { one = b; is_first = g; given = k }

pub no_offence_lem : (l : List Offence) → soonest l ≡ none → (x : Offence) → In x l → ⊥
no_offence_lem l e x i = let f = some-first l x i in let z : some f.one ≡ none = sym f.given ∙ e in let w : ◌≡◌ {A = ℕ} 0 1 = cc in omega arith

-- ---- joined lists

pub in_left : {x : Offence} (a b : List Offence) → In x a → In x (a ++ b)
in_left (y ∷ a) b (first e) = first e
in_left (y ∷ a) b (next _ i) = next y (in_left a b i)
in_left [] b i = elim i [ ]

pub in_right : {x : Offence} (a b : List Offence) → In x b → In x (a ++ b)
in_right [] b i = i
in_right (y ∷ a) b i = next y (in_right a b i)

pub in_append : {x : Offence} (a b : List Offence) → In x (a ++ b) → In x a ⊎ In x b
in_append [] b i = inr i
in_append (y ∷ a) b (first e) = inl (first e)
in_append (y ∷ a) b (next _ i) = elim (in_append a b i) [ inl j ↦ inl (next y j) | inr j ↦ inr j ]

-- ---- the cut line and the whole one

-- what a line is refused by where it is cut at q, and where it is whole: "33, the file ends early", or the same in both
pub data CutVerdict (q : ℕ) : Option Offence → Option Offence → Type 0 where
  early : {m : Option Offence} → CutVerdict q (some (q, 33)) m
  kept : (o : Offence) → o.0 < q → CutVerdict q (some o) (some o)

lacking-place : (x : Offence) (b : Body) → In x (lacking b) → x.1 ≡ 35
unfolding lacking
lacking-place x (body s) i = elim i [ ]
lacking-place x (bad p) (first e) = sym (ap (λ (y : Offence). y.1) e)
lacking-place x (bad p) (next _ i) = elim i [ ]

module _ (o : Offence) where
  late-lacking : {q : ℕ} {y : Body} → o.0 < q → LateBody (From q) y → (x : Offence) → In x (lacking y) → NotAfter o x
  unfolding lacking
  late-lacking h (fine s) x i = elim i [ ]
  late-lacking h (late_bad p k) x (first e) = inl (let f = ap (λ (y : Offence). y.0) e in omega arith)
  late-lacking h (late_bad p k) x (next _ i) = elim i [ ]

  bodies_not_after : {q : ℕ} {u v : List Placed} {y' y : Body} → o.0 < q → ((p : ℕ) → Crossing q p u → o.0 < p) → SameBody q u v y' y → ((x : Offence) → In x (lacking y') → NotAfter o x)
      → (x : Offence) → In x (lacking y) → NotAfter o x
  unfolding lacking
  bodies_not_after h f (same_bad p) g x i = g x i
  bodies_not_after h f (late_bodies k l) g x i = late-lacking h l x i
  bodies_not_after h f (cross_body k p c n w z) g x (first e) = inl (let l = f p c in let m = ap (λ (y : Offence). y.0) e in omega arith)
  bodies_not_after h f (cross_body k p c n w z) g x (next _ i) = elim i [ ]

  -- where the cut line lacks what stands before q, so does the whole
  lacking-same : {q : ℕ} {u v : List Placed} {y' y : Body} → o.0 < q → SameBody q u v y' y → In o (lacking y') → y' ≡ y
  unfolding lacking
  lacking-same h (same_bad p) i = refl
  lacking-same h (late_bodies (fine s) l) i = elim i [ ]
  lacking-same h (late_bodies (late_bad p k) l) (first e) = absurd (let n = ap (λ (y : Offence). y.0) e in omega arith)
  lacking-same h (late_bodies (late_bad p k) l) (next _ i) = elim i [ ]
  lacking-same h (cross_body (fine s) p c n w z) i = elim i [ ]
  lacking-same h (cross_body (late_bad r k) p c n w z) (first e) = absurd (let m = ap (λ (y : Offence). y.0) e in omega arith)
  lacking-same h (cross_body (late_bad r k) p c n w z) (next _ i) = elim i [ ]

module _ (q : ℕ) (u v : List Placed) (a c c' e : List Offence) (b b' : Body)
    (a_before : (x : Offence) → In x a → x.0 < q)
    (c_cut : (x : Offence) → In x c' → (x.0 < q) × In x c)
    (c_whole : (x : Offence) → In x c → In x c' ⊎ (q ≤ x.0))
    (e_late : (x : Offence) → In x e → q ≤ x.0)
    (same : SameBody q u v b' b)
    (across : (p : ℕ) → Crossing q p u → (x : Offence) → In x a ⊎ In x c' → x.0 < p) where
  abbrev cut_list : List Offence
  cut_list = a ++ (c' ++ (lacking b' ++ ((q, 33) ∷ [])))

  abbrev whole_list : List Offence
  whole_list = a ++ (c ++ (lacking b ++ e))

  kept_verdict : (o : Offence) → First o cut_list → o.0 < q → In o whole_list → ((x : Offence) → In x (lacking b) → NotAfter o x) → CutVerdict q (some o) (soonest whole_list)
  kept_verdict o f h i g = rw (soonest-first whole_list o (record { inside = i; least = λ x j. least x (in_append a (c ++ (lacking b ++ e)) j) })) (kept o h)
    where
      of_c : (x : Offence) → In x c' ⊎ (q ≤ x.0) → NotAfter o x
      of_c x (inl k) = f.least x (in_right a (c' ++ (lacking b' ++ ((q, 33) ∷ []))) (in_left c' (lacking b' ++ ((q, 33) ∷ [])) k))
      of_c x (inr k) = inl (omega arith)

      of_e : (x : Offence) → In x (lacking b) ⊎ In x e → NotAfter o x
      of_e x (inl k) = g x k
      of_e x (inr k) = inl (let l = e_late x k in omega arith)

      of_rest : (x : Offence) → In x c ⊎ In x (lacking b ++ e) → NotAfter o x
      of_rest x (inl k) = of_c x (c_whole x k)
      of_rest x (inr k) = of_e x (in_append (lacking b) e k)

      least : (x : Offence) → In x a ⊎ In x (c ++ (lacking b ++ e)) → NotAfter o x
      least x (inl k) = f.least x (in_left a (c' ++ (lacking b' ++ ((q, 33) ∷ []))) k)
      least x (inr k) = of_rest x (in_append c (lacking b ++ e) k)

  verdict_of_lem : (o : Offence) → First o cut_list → CutVerdict q (some o) (soonest whole_list)
  verdict_of_lem o f = split (in_append a (c' ++ (lacking b' ++ ((q, 33) ∷ []))) f.inside)
    where
      cut_lacks : (x : Offence) → In x (lacking b') → NotAfter o x
      cut_lacks x k = f.least x (in_right a (c' ++ (lacking b' ++ ((q, 33) ∷ []))) (in_right c' (lacking b' ++ ((q, 33) ∷ [])) (in_left (lacking b') ((q, 33) ∷ []) k)))

      before : o.1 ≡ 35 → o.0 < q
      before k = elim (f.least (q, 33) (in_right a (c' ++ (lacking b' ++ ((q, 33) ∷ []))) (in_right c' (lacking b' ++ ((q, 33) ∷ [])) (in_right (lacking b') ((q, 33) ∷ []) (first refl))))) [
        | inl h ↦ h
        | inr h ↦ absurd (let m = h.1 in omega arith)
      ]

      of_e : In o (lacking b') ⊎ In o ((q, 33) ∷ []) → CutVerdict q (some o) (soonest whole_list)
      of_e (inl k) =
          let h = before (lacking-place o b' k) in
          let s = lacking-same o h same k in
          kept_verdict o f h (in_right a (c ++ (lacking b ++ e)) (in_right c (lacking b ++ e) (in_left (lacking b) e (subst (λ (y : Body). In o (lacking y)) s k))))
          (subst (λ (y : Body). (x : Offence) → In x (lacking y) → NotAfter o x) s cut_lacks)
      of_e (inr (first h)) = subst (λ (y : Offence). CutVerdict q (some y) (soonest whole_list)) h early
      of_e (inr (next _ k)) = elim k [ ]

      of_c : In o c' ⊎ In o (lacking b' ++ ((q, 33) ∷ [])) → CutVerdict q (some o) (soonest whole_list)
      of_c (inl k) =
          let h = c_cut o k in
          kept_verdict o f h.0 (in_right a (c ++ (lacking b ++ e)) (in_left c (lacking b ++ e) h.1)) (bodies_not_after o h.0 (λ p d. across p d o (inr k)) same cut_lacks)
      of_c (inr k) = of_e (in_append (lacking b') ((q, 33) ∷ []) k)

      split : In o a ⊎ In o (c' ++ (lacking b' ++ ((q, 33) ∷ []))) → CutVerdict q (some o) (soonest whole_list)
      split (inl k) =
          let h = a_before o k in
          kept_verdict o f h (in_left a (c ++ (lacking b ++ e)) k) (bodies_not_after o h (λ p d. across p d o (inl k)) same cut_lacks)
      split (inr k) = of_c (in_append c' (lacking b' ++ ((q, 33) ∷ [])) k)

  cut_soonest : CutVerdict q (soonest cut_list) (soonest whole_list)
  cut_soonest =
      let f = some-first cut_list (q, 33) (in_right a (c' ++ (lacking b' ++ ((q, 33) ∷ []))) (in_right c' (lacking b' ++ ((q, 33) ∷ [])) (in_right (lacking b') ((q, 33) ∷ []) (first refl)))) in
      rw f.given (verdict_of_lem f.one f.is_first)

-- ---- a line's bytes, its statements and what it is refused by

-- of the line whose bytes are the first of l and whose link stands at p
abbrev pub line_bytes : ℕ → List ℕ → List Placed
line_bytes p l = counted uncovered (p + 4) l

abbrev pub line_body : ℕ → List ℕ → Body
line_body p l = body_of (length (line_bytes p l)) ∅ (join_go (line_bytes p l))

-- n: its number; e: the file's length
abbrev pub line_offences : ℕ → ℕ → ℕ → List ℕ → List Offence
line_offences e p n l = offences e (p + 2) n l (line_bytes p l) (line_body p l)

in_number : (x : Offence) (t : Bool) (q : ℕ) → In x (pick t [] ((q, 35) ∷ [])) → x.0 ≡ q
in_number x true q i = elim i [ ]
in_number x false q (first e) = sym (ap (λ (y : Offence). y.0) e)
in_number x false q (next _ i) = elim i [ ]

in_early : (x : Offence) (t : Bool) (e : ℕ) → In x (pick t [] ((e, 33) ∷ [])) → x.0 ≡ e
in_early x true q i = elim i [ ]
in_early x false q (first e) = sym (ap (λ (y : Offence). y.0) e)
in_early x false q (next _ i) = elim i [ ]

cut_early : (q i : ℕ) (l : List ℕ) → i ≤ index_of 0 l → pick {A = List Offence} (ltb (index_of 0 (take i l)) (length (take i l))) [] ((q, 33) ∷ []) ≡ (q, 33) ∷ []
cut_early q i l h =
    let n = index_le 0 l in
    rw (index_cut l i h, length-take-le i l (omega arith), le-ltb i i (omega arith)) refl

join-length-pick : (t : Bool) (d : Placed) (k m : List Placed) (n : ℕ) → length k ≤ n → length m ≤ suc n → length (pick t ((d.0, 137) ∷ k) (d ∷ m)) ≤ suc (suc n)
join-length-pick true d k m n h i = omega arith
join-length-pick false d k m n h i = omega arith

pub join-length : (l : List Placed) → length (join_go l) ≤ length l
unfolding join_go
join-length [] = omega arith
join-length (d ∷ []) = omega arith
join-length (d ∷ e ∷ l) = join-length-pick (eqb d.1 203 && eqb e.1 164) d (join_go l) (join_go (e ∷ l)) (length l) (join-length l) (join-length (e ∷ l))

pub cut_line : (e p n : ℕ) (l : List ℕ) (i q : ℕ) → q ≡ p + 4 + i → i ≤ index_of 0 l → q ≤ e → CutVerdict q (soonest (line_offences q p n (take i l))) (soonest (line_offences e p n l))
unfolding offences
cut_line e p n l i q g h k =
    let c = counted_cut uncovered (p + 4) l i g h in
    let r = counted_rising uncovered (p + 4) (take i l) in
    rw (cut_early q i l h) (cut_soonest q (join_go (line_bytes p (take i l))) (join_go (line_bytes p l)) (pick (leb n 63999) [] ((p + 2, 35) ∷ [])) (foreign (line_bytes p l)) (foreign (line_bytes p (take i l)))
    (pick (ltb (index_of 0 l) (length l)) [] ((e, 33) ∷ [])) (line_body p l) (line_body p (take i l))
    (λ x j. let y = in_number x (leb n 63999) (p + 2) j in omega arith)
    (λ x j. cut_foreign x c j)
    (λ x j. whole-foreign x c j)
    (λ x j. let y = in_early x (ltb (index_of 0 l) (length l)) e j in omega arith)
    (body_same q (length (line_bytes p (take i l))) (length (line_bytes p l)) ∅ ∅ (join_go (line_bytes p (take i l))) (join_go (line_bytes p l)) (join-length (line_bytes p (take i l))) (join-length (line_bytes p l)) (join_cut c))
    (λ b d x j. elim j [
      | inl m ↦ let y = in_number x (leb n 63999) (p + 2) m in let z = crossing_place (join_rising r) d in omega arith
      | inr m ↦ crossing_foreign x r d m
    ]))

-- behind its zero a line may be cut anywhere
module _ (p i : ℕ) (l : List ℕ) (behind_zero : index_of 0 l < i) (closed : index_of 0 l < length l) where
  bytes-whole : line_bytes p (take i l) ≡ line_bytes p l
  bytes-whole = counted-whole uncovered (p + 4) l i behind_zero closed

  pub body_whole : line_body p (take i l) ≡ line_body p l
  body_whole = ap (λ (cs : List Placed). body_of (length cs) ∅ (join_go cs)) bytes-whole

  take-closed : index_of 0 (take i l) < length (take i l)
  take-closed = rw (index_whole l i behind_zero closed, length-take i l) (omega arith)

  pub offences-whole : (e e' n : ℕ) → line_offences e' p n (take i l) ≡ line_offences e p n l
  unfolding offences
  offences-whole e e' n =
      rw (lt-ltb (index_of 0 (take i l)) (length (take i l)) take-closed, lt-ltb (index_of 0 l) (length l) closed, body_whole, bytes-whole) refl

-- a line that is not refused ends with a zero
pub closed_line : (e p n : ℕ) (l : List ℕ) → soonest (line_offences e p n l) ≡ none → index_of 0 l < length l
unfolding offences
closed_line e p n l h = go (ltb (index_of 0 l) (length l)) refl
  where
    go : (t : Bool) → ltb (index_of 0 l) (length l) ≡ t → index_of 0 l < length l
    go true q = ltb-true (index_of 0 l) (length l) q
    go false q =
        let a = pick (leb n 63999) [] ((p + 2, 35) ∷ []) in
        let c = foreign (line_bytes p l) in
        let b = lacking (line_body p l) in
        let z : pick {A = List Offence} (ltb (index_of 0 l) (length l)) [] ((e, 33) ∷ []) ≡ (e, 33) ∷ [] = rw q refl in
        let i : In (e, 33) (a ++ (c ++ (b ++ pick (ltb (index_of 0 l) (length l)) [] ((e, 33) ∷ [])))) = rw z (in_right a (c ++ (b ++ ((e, 33) ∷ []))) (in_right c (b ++ ((e, 33) ∷ [])) (in_right b ((e, 33) ∷ []) (first refl)))) in
        absurd (no_offence_lem (a ++ (c ++ (b ++ pick (ltb (index_of 0 l) (length l)) [] ((e, 33) ∷ [])))) h (e, 33) i)
