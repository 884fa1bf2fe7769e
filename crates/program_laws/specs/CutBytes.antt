-- The bytes of a line that count, where the line is cut and where it is whole: their places, GO and TO, and those that are foreign. Assumes nothing.
use Rattle.std.specs.Prelude.{ℕ, zero, suc, ◌+◌, ◌≤◌, ◌<◌, ◌≡◌, ◌⊎◌, refl, List, [], ◌∷◌, Bool, true, false, ◌&&◌, eqb, leb, length, take}
use Rattle.std.proofs.Common.{sym, ap, subst, arith, inl, inr, leb-true, eqb-true}
use Rattle.listings.specs.Bytes.{pick}
use Rattle.listings.specs.Rows.{is_digit}
use Rattle.listings.specs.Scan.{index_of}
use Rattle.listings.specs.Tests.{not_both, both_true}
use Rattle.program_files.specs.Program.{Placed, Cover, behind, counts, counted, join_go, Offence, foreign}
use Rattle.program_laws.specs.CutNumbers.{From, Ended, last, more, CutAt, end, go, both, Run, stop, step, Crossing, here, later}

-- ---- where they stand

-- each stands at p or later, and behind the one before it
pub data Rising : ℕ → List Placed → Type 0 where
  none : (p : ℕ) → Rising p []
  at : (p : ℕ) (d : Placed) {l : List Placed} → p ≤ d.0 → Rising (suc d.0) l → Rising p (d ∷ l)

pub rising_less : {l : List Placed} {r : ℕ} (p : ℕ) → p ≤ r → Rising r l → Rising p l
rising_less p h (none r) = none p
rising_less p h (at r d i t) = at p d (omega arith) t

pick_rising : {r : List Placed} (t u : Bool) (p b : ℕ) → Rising (suc p) r → Rising p (pick t ((p, 0) ∷ []) (pick u ((p, b) ∷ r) r))
pick_rising true u p b h = at p (p, 0) (omega arith) (none (suc p))
pick_rising false true p b h = at p (p, b) (omega arith) h
pick_rising false false p b h = rising_less p (omega arith) h

pub counted_rising : (c : Cover) (p : ℕ) (l : List ℕ) → Rising p (counted c p l)
unfolding counted
counted_rising c p [] = at p (p, 0) (omega arith) (none (suc p))
counted_rising c p (b ∷ l) = pick_rising (eqb b 0) (counts c b) p b (counted_rising (behind c b) (suc p) l)

pick-ended : {P : ℕ → Type 0} {r : List Placed} (t u : Bool) (p b : ℕ) → P p → Ended P r → Ended P (pick t ((p, 0) ∷ []) (pick u ((p, b) ∷ r) r))
pick-ended true u p b h e = last p h
pick-ended false true p b h e = more (p, b) h e
pick-ended false false p b h e = e

pub counted-ended : {q : ℕ} (c : Cover) (p : ℕ) (l : List ℕ) → q ≤ p → Ended (From q) (counted c p l)
unfolding counted
counted-ended c p [] h = last p h
counted-ended c p (b ∷ l) h = pick-ended (eqb b 0) (counts c b) p b h (counted-ended (behind c b) (suc p) l (omega arith))

-- the first is the second, cut at q, before GO and TO are joined
pub data Cut (q : ℕ) : List Placed → List Placed → Type 0 where
  ending : (p : ℕ) {m : List Placed} → q ≤ p → Ended (From q) m → Cut q ((p, 0) ∷ []) m
  shared : (d : Placed) {l m : List Placed} → d.0 < q → Cut q l m → Cut q (d ∷ l) (d ∷ m)

pick_cut : {q : ℕ} {r s : List Placed} (t u : Bool) (p b i z : ℕ) → p < q → suc i ≤ pick t 0 (suc z) → (i ≤ z → Cut q r s)
    → Cut q (pick t ((p, 0) ∷ []) (pick u ((p, b) ∷ r) r)) (pick t ((p, 0) ∷ []) (pick u ((p, b) ∷ s) s))
pick_cut true u p b i z g h f = absurd (omega arith)
pick_cut false true p b i z g h f = shared (p, b) g (f (omega arith))
pick_cut false false p b i z g h f = f (omega arith)

pub counted_cut : {q : ℕ} (c : Cover) (p : ℕ) (l : List ℕ) (i : ℕ) → q ≡ p + i → i ≤ index_of 0 l → Cut q (counted c p (take i l)) (counted c p l)
unfolding counted index_of
counted_cut c p l zero e h = ending p (omega arith) (counted-ended c p l (omega arith))
counted_cut c p [] (suc i) e h = absurd (omega arith)
counted_cut c p (b ∷ l) (suc i) e h =
    pick_cut (eqb b 0) (counts c b) p b i (index_of 0 l) (omega arith) h (λ g. counted_cut (behind c b) (suc p) l i (omega arith) g)

-- ---- the bytes before the zero

pick_index : (t : Bool) (i z k : ℕ) → (i ≤ z → k ≡ i) → suc i ≤ pick t 0 (suc z) → pick t 0 (suc k) ≡ suc i
pick_index true i z k f h = absurd (omega arith)
pick_index false i z k f h = ap suc (f (omega arith))

-- cut at its zero or before, it has none
pub index_cut : (l : List ℕ) (i : ℕ) → i ≤ index_of 0 l → index_of 0 (take i l) ≡ i
unfolding index_of
index_cut l zero h = refl
index_cut [] (suc i) h = absurd (omega arith)
index_cut (b ∷ l) (suc i) h = pick_index (eqb b 0) i (index_of 0 l) (index_of 0 (take i l)) (index_cut l i) h

pick-whole : (t : Bool) (i z n k : ℕ) → (z < i → z < n → k ≡ z) → pick t 0 (suc z) < suc i → pick t 0 (suc z) < suc n → pick t 0 (suc k) ≡ pick t 0 (suc z)
pick-whole true i z n k f h g = refl
pick-whole false i z n k f h g = ap suc (f (omega arith) (omega arith))

-- cut behind its zero, it has it
pub index_whole : (l : List ℕ) (i : ℕ) → index_of 0 l < i → index_of 0 l < length l → index_of 0 (take i l) ≡ index_of 0 l
unfolding index_of
index_whole l zero h g = absurd (omega arith)
index_whole [] (suc i) h g = absurd (omega arith)
index_whole (b ∷ l) (suc i) h g = pick-whole (eqb b 0) i (index_of 0 l) (length l) (index_of 0 (take i l)) (index_whole l i) h g

pick-same : {r s : List Placed} (t u : Bool) (p b i z n : ℕ) → (z < i → z < n → r ≡ s) → pick t 0 (suc z) < suc i → pick t 0 (suc z) < suc n
    → pick t ((p, 0) ∷ []) (pick u ((p, b) ∷ r) r) ≡ pick t ((p, 0) ∷ []) (pick u ((p, b) ∷ s) s)
pick-same true u p b i z n f h g = refl
pick-same false true p b i z n f h g = ap (λ x. (p, b) ∷ x) (f (omega arith) (omega arith))
pick-same false false p b i z n f h g = f (omega arith) (omega arith)

pub counted-whole : (c : Cover) (p : ℕ) (l : List ℕ) (i : ℕ) → index_of 0 l < i → index_of 0 l < length l → counted c p (take i l) ≡ counted c p l
unfolding counted index_of
counted-whole c p l zero h g = absurd (omega arith)
counted-whole c p [] (suc i) h g = absurd (omega arith)
counted-whole c p (b ∷ l) (suc i) h g = pick-same (eqb b 0) (counts c b) p b i (index_of 0 l) (length l) (counted-whole (behind c b) (suc p) l i) h g

-- ---- GO and TO

join-first : (x : Placed) (y : Bool) (t : List Placed) (s : List Placed) → pick (y && false) t s ≡ s
join-first x true t s = refl
join-first x false t s = refl

pick-ended-join : {P : ℕ → Type 0} {l m : List Placed} (t : Bool) (d : Placed) → P d.0 → Ended P l → Ended P m → Ended P (pick t ((d.0, 137) ∷ l) (d ∷ m))
pick-ended-join true d h e f = more (d.0, 137) h e
pick-ended-join false d h e f = more d h f

pub join-ended : {P : ℕ → Type 0} {l : List Placed} → Ended P l → Ended P (join_go l)
unfolding join_go
join-ended (last p h) = last p h
join-ended (more d h (last p i)) = rw (join-first d (eqb d.1 203) ((d.0, 137) ∷ []) (d ∷ (p, 0) ∷ [])) (more d h (last p i))
join-ended (more d h (more e i t)) = pick-ended-join (eqb d.1 203 && eqb e.1 164) d h (join-ended t) (join-ended (more e i t))

cut_go : {q : ℕ} {m n : List Placed} (t v : Bool) (d : Placed) (p : ℕ) → eqb d.1 203 ≡ t → d.0 < q → q ≤ p → Ended (From q) m → Ended (From q) n
    → CutAt q (d ∷ (p, 0) ∷ []) (pick (t && v) ((d.0, 137) ∷ m) (d ∷ n))
cut_go {q} {m = m} true true d p e h i f g = subst (λ (b : ℕ). CutAt q ((d.0, b) ∷ (p, 0) ∷ []) ((d.0, 137) ∷ m)) (sym (eqb-true d.1 203 e)) (go d.0 p h i f)
cut_go true false d p e h i f g = both d h (end p i g)
cut_go false v d p e h i f g = both d h (end p i g)

cut_join : {q : ℕ} {l m r s : List Placed} (t : Bool) (d : Placed) → d.0 < q → CutAt q l m → CutAt q r s → CutAt q (pick t ((d.0, 137) ∷ l) (d ∷ r)) (pick t ((d.0, 137) ∷ m) (d ∷ s))
cut_join true d h c e = both (d.0, 137) h c
cut_join false d h c e = both d h e

pub join_cut : {q : ℕ} {l m : List Placed} → Cut q l m → CutAt q (join_go l) (join_go m)
unfolding join_go
join_cut (ending p h e) = end p h (join-ended e)
join_cut (shared d h (ending p i (last r k))) =
    rw (join-first d (eqb d.1 203) ((d.0, 137) ∷ []) (d ∷ (p, 0) ∷ []), join-first d (eqb d.1 203) ((d.0, 137) ∷ []) (d ∷ (r, 0) ∷ [])) (both d h (end p i (last r k)))
join_cut (shared d h (ending p i (more e k f))) =
    rw (join-first d (eqb d.1 203) ((d.0, 137) ∷ []) (d ∷ (p, 0) ∷ [])) (cut_go (eqb d.1 203) (eqb e.1 164) d p refl h i (join-ended f) (join-ended (more e k f)))
join_cut (shared d h (shared e i c)) = cut_join (eqb d.1 203 && eqb e.1 164) d h (join_cut c) (join_cut (shared e i c))

-- the places of the joined list, and that of a number that reaches the cut
pub crossing_place : {q p b : ℕ} {l : List Placed} → Rising b l → Crossing q p l → b ≤ p
crossing_place (none b) c = elim c [ ]
crossing_place (at b _ h r) (here d e t u v) = omega arith
crossing_place (at b _ h r) (later d c) = let i = crossing_place r c in omega arith

join_rising_pick : {l m : List Placed} (t : Bool) (b : ℕ) (d e : Placed) → b ≤ d.0 → suc d.0 ≤ e.0 → Rising (suc e.0) l → Rising (suc d.0) m → Rising b (pick t ((d.0, 137) ∷ l) (d ∷ m))
join_rising_pick true b d e h i r s = at b (d.0, 137) h (rising_less (suc d.0) (omega arith) r)
join_rising_pick false b d e h i r s = at b d h s

pub join_rising : {b : ℕ} {l : List Placed} → Rising b l → Rising b (join_go l)
unfolding join_go
join_rising (none b) = none b
join_rising (at b d h (none c)) = at b d h (none c)
join_rising (at b d h (at c e i r)) = join_rising_pick (eqb d.1 203 && eqb e.1 164) b d e h i (join_rising r) (join_rising (at c e i r))

-- ---- the foreign ones

pub data In {A : Type 0} (x : A) : List A → Type 0 where
  first : {y : A} {l : List A} → y ≡ x → In x (y ∷ l)
  next : (y : A) {l : List A} → In x l → In x (y ∷ l)

module _ (o : Offence) where
  foreign_34_pick : {l : List Offence} (t : Bool) (d : Placed) → (In o l → o.1 ≡ 34) → In o (pick t ((d.0, 34) ∷ l) l) → o.1 ≡ 34
  foreign_34_pick true d f (first e) = sym (ap (λ (x : Offence). x.1) e)
  foreign_34_pick true d f (next y i) = f i
  foreign_34_pick false d f i = f i

  pub foreign_34 : (l : List Placed) → In o (foreign l) → o.1 ≡ 34
  unfolding foreign
  foreign_34 [] i = elim i [ ]
  foreign_34 (d ∷ l) i = foreign_34_pick (eqb d.1 100) d (foreign_34 l) i

  cut_foreign-pick : {q : ℕ} {l m : List Offence} (t : Bool) (d : Placed) → d.0 < q → (In o l → (o.0 < q) × In o m) → In o (pick t ((d.0, 34) ∷ l) l)
      → (o.0 < q) × In o (pick t ((d.0, 34) ∷ m) m)
  cut_foreign-pick {q} true d h f (first e) = (subst (λ (n : ℕ). n < q) (ap (λ (x : Offence). x.0) e) h, first e)
  cut_foreign-pick true d h f (next y i) = let r = f i in (r.0, next y r.1)
  cut_foreign-pick false d h f i = f i

  pub cut_foreign : {q : ℕ} {l m : List Placed} → Cut q l m → In o (foreign l) → (o.0 < q) × In o (foreign m)
  unfolding foreign
  cut_foreign (ending p h e) i = elim i [ ]
  cut_foreign (shared d h c) i = cut_foreign-pick (eqb d.1 100) d h (cut_foreign c) i

  late-foreign-pick : {q : ℕ} {m : List Offence} (t : Bool) (d : Placed) → q ≤ d.0 → (In o m → q ≤ o.0) → In o (pick t ((d.0, 34) ∷ m) m) → q ≤ o.0
  late-foreign-pick {q} true d h f (first e) = subst (λ (n : ℕ). q ≤ n) (ap (λ (x : Offence). x.0) e) h
  late-foreign-pick true d h f (next y i) = f i
  late-foreign-pick false d h f i = f i

  late-foreign : {q : ℕ} {m : List Placed} → Ended (From q) m → In o (foreign m) → q ≤ o.0
  unfolding foreign
  late-foreign (last p h) i = elim i [ ]
  late-foreign (more d h e) i = late-foreign-pick (eqb d.1 100) d h (late-foreign e) i

  whole-foreign-pick : {q : ℕ} {l m : List Offence} (t : Bool) (d : Placed) → (In o m → In o l ⊎ (q ≤ o.0)) → In o (pick t ((d.0, 34) ∷ m) m) → In o (pick t ((d.0, 34) ∷ l) l) ⊎ (q ≤ o.0)
  whole-foreign-pick true d f (first e) = inl (first e)
  whole-foreign-pick true d f (next y i) = elim (f i) [ inl j ↦ inl (next y j) | inr h ↦ inr h ]
  whole-foreign-pick false d f i = f i

  pub whole-foreign : {q : ℕ} {l m : List Placed} → Cut q l m → In o (foreign m) → In o (foreign l) ⊎ (q ≤ o.0)
  unfolding foreign
  whole-foreign (ending p h e) i = inr (late-foreign e i)
  whole-foreign (shared d h c) i = whole-foreign-pick (eqb d.1 100) d (whole-foreign c) i

  -- ---- none of them stands behind the beginning of a number that reaches the cut

  digit_not_100 : (n : ℕ) → is_digit n ≡ true → eqb n 100 ≡ true → ⊥
  unfolding is_digit
  digit_not_100 n h e = let a = both_true (leb 48 n) (leb n 57) h in let b = leb-true n 57 a.1 in let c = eqb-true n 100 e in omega arith

  run-foreign-pick : {l : List Offence} (t : Bool) (d : Placed) → (t ≡ true → ⊥) → (In o l → ⊥) → In o (pick t ((d.0, 34) ∷ l) l) → ⊥
  run-foreign-pick true d f g i = f refl
  run-foreign-pick false d f g i = g i

  run_head : {q : ℕ} {d : Placed} {l : List Placed} → Run q (d ∷ l) → ((is_digit d.1 ≡ true) × Run q l) ⊎ ((d.1 ≡ 0) × (l ≡ []))
  run_head (stop p h) = inr (refl, refl)
  run_head (step d h k u) = inl (h, u)

  run-one : {q : ℕ} (d : Placed) → Run q (d ∷ []) → In o (pick (eqb d.1 100) ((d.0, 34) ∷ []) []) → ⊥
  run-one d u i =
      elim (run_head u) [
        | inl h ↦ run-foreign-pick (eqb d.1 100) d (λ f. digit_not_100 d.1 h.0 f) (λ j. elim j [ ]) i
        | inr h ↦ run-foreign-pick (eqb d.1 100) d (λ f. let g = eqb-true d.1 100 f in let z = h.0 in omega arith) (λ j. elim j [ ]) i
      ]

  run-join : {q : ℕ} (k m : List Placed) {l : List Offence} (t : Bool) (d : Placed) → (Run q m → In o l → ⊥) → (m ≡ [] → ⊥) → Run q (pick t ((d.0, 137) ∷ k) (d ∷ m))
      → In o (pick (eqb d.1 100) ((d.0, 34) ∷ l) l) → ⊥
  unfolding is_digit
  run-join k m true d f g u i = elim (run_head u) [ inl h ↦ not_both (sym h.0) | inr h ↦ let z : ◌≡◌ {A = ℕ} 137 0 = h.0 in omega arith ]
  run-join k m false d f g u i = elim (run_head u) [ inl h ↦ run-foreign-pick (eqb d.1 100) d (λ e. digit_not_100 d.1 h.0 e) (f h.1) i | inr h ↦ g h.1 ]

  pick-some : (k m : List Placed) (t : Bool) (d e : Placed) → pick t (d ∷ k) (e ∷ m) ≡ [] → ⊥
  pick-some k m true d e h = let z : ◌≡◌ {A = ℕ} 0 1 = cc in omega arith
  pick-some k m false d e h = let z : ◌≡◌ {A = ℕ} 0 1 = cc in omega arith

  join-some : (d : Placed) (l : List Placed) → join_go (d ∷ l) ≡ [] → ⊥
  unfolding join_go
  join-some d [] e = let z : ◌≡◌ {A = ℕ} 0 1 = cc in omega arith
  join-some d (e ∷ l) h = pick-some _ _ (eqb d.1 203 && eqb e.1 164) (d.0, 137) d h

  run-foreign : {q : ℕ} (l : List Placed) → Run q (join_go l) → In o (foreign l) → ⊥
  unfolding join_go foreign
  run-foreign [] u i = elim i [ ]
  run-foreign (d ∷ []) u i = run-one d u i
  run-foreign (d ∷ e ∷ l) u i = run-join _ _ (eqb d.1 203 && eqb e.1 164) d (run-foreign (e ∷ l)) (join-some e l) u i

  before-pick : {p : ℕ} {l : List Offence} (t : Bool) (d : Placed) → d.0 < p → (In o l → o.0 < p) → In o (pick t ((d.0, 34) ∷ l) l) → o.0 < p
  before-pick {p} true d h f (first e) = subst (λ (n : ℕ). n < p) (ap (λ (x : Offence). x.0) e) h
  before-pick true d h f (next y i) = f i
  before-pick false d h f i = f i

  crossing_tail : {q p : ℕ} {d : Placed} {l : List Placed} → Crossing q p (d ∷ l) → (Run q (d ∷ l) → ⊥) → Crossing q p l
  crossing_tail (here d e t u v) f = absurd (f u)
  crossing_tail (later d c) f = c

  crossing_join : {q p : ℕ} (k m : List Placed) {l : List Offence} (t : Bool) (d e : Placed) → suc d.0 ≤ e.0 → Rising (suc e.0) k → Rising (suc d.0) m
      → (Run q (pick t ((d.0, 137) ∷ k) (d ∷ m)) → In o (pick (eqb d.1 100) ((d.0, 34) ∷ (pick (eqb e.1 100) ((e.0, 34) ∷ l) l)) (pick (eqb e.1 100) ((e.0, 34) ∷ l) l)) → ⊥)
      → (Crossing q p k → In o l → o.0 < p) → (Crossing q p m → In o (pick (eqb e.1 100) ((e.0, 34) ∷ l) l) → o.0 < p)
      → Crossing q p (pick t ((d.0, 137) ∷ k) (d ∷ m)) → In o (pick (eqb d.1 100) ((d.0, 34) ∷ (pick (eqb e.1 100) ((e.0, 34) ∷ l) l)) (pick (eqb e.1 100) ((e.0, 34) ∷ l) l)) → o.0 < p
  crossing_join k m true d e h r s n f g c i =
      let t = crossing_tail c (λ u. n u i) in
      let w = crossing_place r t in
      before-pick (eqb d.1 100) d (omega arith) (before-pick (eqb e.1 100) e (omega arith) (f t)) i
  crossing_join k m false d e h r s n f g c i =
      let t = crossing_tail c (λ u. n u i) in
      let w = crossing_place s t in
      before-pick (eqb d.1 100) d (omega arith) (g t) i

  pub crossing_foreign : {q p b : ℕ} {l : List Placed} → Rising b l → Crossing q p (join_go l) → In o (foreign l) → o.0 < p
  unfolding join_go foreign
  crossing_foreign (none b) c i = elim i [ ]
  crossing_foreign (at b d h (none e)) c i = absurd (let t = crossing_tail c (λ u. run-one d u i) in elim t [ ])
  crossing_foreign (at b d h (at r e {l = l} k s)) c i =
      crossing_join _ _ (eqb d.1 203 && eqb e.1 164) d e k (join_rising s) (join_rising (at r e k s)) (run-foreign (d ∷ e ∷ l)) (crossing_foreign s) (crossing_foreign (at r e k s)) c i
