-- The byte of a line at which its 34 or 35 is found: cut behind it, the line is refused alike. Assumes nothing.
use Rattle.std.specs.Prelude.{ℕ, suc, ◌+◌, ◌*◌, ◌-◌, ◌≤◌, ◌<◌, ◌≡◌, ◌⊎◌, refl, List, [], ◌∷◌, ◌++◌, Bool, true, false, eqb, ltb, leb, length, take, drop, get_or}
use Rattle.std.proofs.lemmas.List.{drop-take}
use Rattle.std.proofs.Common.{sym, ap, ◌∙◌, subst, arith, inl, inr, leb-true, leb-false, drop-drop, get_or-drop, le-ltb, ltb-true, ltb-false}
use Rattle.std.proofs.Math.Option.{Option, some}
use Rattle.listings.specs.Bytes.{pick}
use Rattle.listings.specs.Scan.{index_of, index_le}
use Rattle.listings.specs.Listing.{∅}
use Rattle.program_files.specs.Program.{Placed, Cover, uncovered, behind, counts, counted, join_go, digits, Body, body, bad, Offence, soonest, foreign, lacking, offences}
use Rattle.program_laws.specs.CutNumbers.{From, Ended, last, more, Crossing, here, later, Number, begins, farther}
use Rattle.program_laws.specs.CutLines.{LateBody, fine, late_bad, SameBody, same_bad, late_bodies, cross_body, body_late, body_same}
use Rattle.program_laws.specs.CutBytes.{counted_cut, join-ended, join_cut, In, first, next, whole-foreign}
use Rattle.program_laws.specs.CutOffences.{first-soonest, in_left, in_right, in_append, CutVerdict, early, kept, line_bytes, line_body, line_offences, join-length, cut_line, offences-whole}
use Rattle.program_laws.specs.FoundWhere.{value_of, zero_link, LinkAt, FoundAt, at_place, at_second_byte, at_digit}
use Rattle.program_laws.specs.NumberBytes.{first_value, joined_number, NumberAt, counted_number, Exceeds, exceeds, first-all}

-- ---- the offences of a line

data Kind (e p n : ℕ) (l : List ℕ) (o : Offence) : Type 0 where
  number_word : 63999 < n → o ≡ (p + 2, 35) → Kind e p n l o
  foreign_byte : In o (foreign (line_bytes p l)) → Kind e p n l o
  lacks_at : (x : ℕ) → line_body p l ≡ bad x → o ≡ (x, 35) → Kind e p n l o
  ends_early : o ≡ (e, 33) → Kind e p n l o

in_number_word : (o : Offence) (n q : ℕ) → In o (pick (leb n 63999) [] ((q, 35) ∷ [])) → (63999 < n) × (o ≡ (q, 35))
in_number_word o n q = go (leb n 63999) refl
  where
    go : (t : Bool) → leb n 63999 ≡ t → In o (pick t [] ((q, 35) ∷ [])) → (63999 < n) × (o ≡ (q, 35))
    go true h i = elim i [ ]
    go false h (first e) = (leb-false n 63999 h, sym e)
    go false h (next y i) = elim i [ ]

in_early : (o : Offence) (t : Bool) (e : ℕ) → In o (pick t [] ((e, 33) ∷ [])) → o ≡ (e, 33)
in_early o true e i = elim i [ ]
in_early o false e (first h) = sym h
in_early o false e (next y i) = elim i [ ]

in_lacking : (e p n : ℕ) (l : List ℕ) (o : Offence) (b : Body) → line_body p l ≡ b → In o (lacking b) → Kind e p n l o
unfolding lacking
in_lacking e p n l o (body s) h i = elim i [ ]
in_lacking e p n l o (bad x) h (first g) = lacks_at x h (sym g)
in_lacking e p n l o (bad x) h (next y i) = elim i [ ]

kind : (e p n : ℕ) (l : List ℕ) (o : Offence) → In o (line_offences e p n l) → Kind e p n l o
unfolding offences
kind e p n l o i = of_a (in_append (pick (leb n 63999) [] ((p + 2, 35) ∷ [])) (foreign (line_bytes p l) ++ (lacking (line_body p l) ++ pick (ltb (index_of 0 l) (length l)) [] ((e, 33) ∷ []))) i)
  where
    of_e : In o (lacking (line_body p l)) ⊎ In o (pick (ltb (index_of 0 l) (length l)) [] ((e, 33) ∷ [])) → Kind e p n l o
    of_e (inl j) = in_lacking e p n l o (line_body p l) refl j
    of_e (inr j) = ends_early (in_early o (ltb (index_of 0 l) (length l)) e j)

    of_c : In o (foreign (line_bytes p l)) ⊎ In o (lacking (line_body p l) ++ pick (ltb (index_of 0 l) (length l)) [] ((e, 33) ∷ [])) → Kind e p n l o
    of_c (inl j) = foreign_byte j
    of_c (inr j) = of_e (in_append (lacking (line_body p l)) (pick (ltb (index_of 0 l) (length l)) [] ((e, 33) ∷ [])) j)

    of_a : In o (pick (leb n 63999) [] ((p + 2, 35) ∷ [])) ⊎ In o (foreign (line_bytes p l) ++ (lacking (line_body p l) ++ pick (ltb (index_of 0 l) (length l)) [] ((e, 33) ∷ []))) → Kind e p n l o
    of_a (inl j) = let k = in_number_word o n (p + 2) j in number_word k.0 k.1
    of_a (inr j) = of_c (in_append (foreign (line_bytes p l)) (lacking (line_body p l) ++ pick (ltb (index_of 0 l) (length l)) [] ((e, 33) ∷ [])) j)

module _ (e p n : ℕ) (l : List ℕ) (o : Offence) where
  number_in : 63999 < n → o ≡ (p + 2, 35) → In o (line_offences e p n l)
  unfolding offences
  number_in h g =
      in_left (pick (leb n 63999) [] ((p + 2, 35) ∷ [])) (foreign (line_bytes p l) ++ (lacking (line_body p l) ++ pick (ltb (index_of 0 l) (length l)) [] ((e, 33) ∷ []))) (go (leb n 63999) refl)
    where
      go : (t : Bool) → leb n 63999 ≡ t → In o (pick t [] ((p + 2, 35) ∷ []))
      go true k = absurd (let r = leb-true n 63999 k in omega arith)
      go false k = first (sym g)

  foreign_in : In o (foreign (line_bytes p l)) → In o (line_offences e p n l)
  unfolding offences
  foreign_in i =
      in_right (pick (leb n 63999) [] ((p + 2, 35) ∷ [])) (foreign (line_bytes p l) ++ (lacking (line_body p l) ++ pick (ltb (index_of 0 l) (length l)) [] ((e, 33) ∷ [])))
      (in_left (foreign (line_bytes p l)) (lacking (line_body p l) ++ pick (ltb (index_of 0 l) (length l)) [] ((e, 33) ∷ [])) i)

  lacking_in : (x : ℕ) → line_body p l ≡ bad x → o ≡ (x, 35) → In o (line_offences e p n l)
  unfolding offences lacking
  lacking_in x h g =
      in_right (pick (leb n 63999) [] ((p + 2, 35) ∷ [])) (foreign (line_bytes p l) ++ (lacking (line_body p l) ++ pick (ltb (index_of 0 l) (length l)) [] ((e, 33) ∷ [])))
      (in_right (foreign (line_bytes p l)) (lacking (line_body p l) ++ pick (ltb (index_of 0 l) (length l)) [] ((e, 33) ∷ []))
      (in_left (lacking (line_body p l)) (pick (ltb (index_of 0 l) (length l)) [] ((e, 33) ∷ [])) (rw h (first (sym g)))))

  early_in : index_of 0 l ≡ length l → In (e, 33) (line_offences e p n l)
  unfolding offences
  early_in h =
      in_right (pick (leb n 63999) [] ((p + 2, 35) ∷ [])) (foreign (line_bytes p l) ++ (lacking (line_body p l) ++ pick (ltb (index_of 0 l) (length l)) [] ((e, 33) ∷ [])))
      (in_right (foreign (line_bytes p l)) (lacking (line_body p l) ++ pick (ltb (index_of 0 l) (length l)) [] ((e, 33) ∷ []))
      (in_right (lacking (line_body p l)) (pick (ltb (index_of 0 l) (length l)) [] ((e, 33) ∷ [])) (rw (le-ltb (index_of 0 l) (length l) (omega arith)) (first refl))))

-- ---- where they stand

-- in the line, its zero included
abbrev InLine : ℕ → List ℕ → ℕ → Type 0
InLine p l x = (p ≤ x) × (x ≤ p + index_of 0 l)

ended_less : {p : ℕ} (b : ℕ) (l : List ℕ) {m : List Placed} → eqb b 0 ≡ false → Ended (InLine (suc p) l) m → Ended (InLine p (b ∷ l)) m
unfolding index_of
ended_less b l f (last x h) = last x (let u = h.0 in let v = h.1 in rw f (omega arith, omega arith))
ended_less b l f (more d h e) = more d (let u = h.0 in let v = h.1 in rw f (omega arith, omega arith)) (ended_less b l f e)

counted_in_line : (c : Cover) (p : ℕ) (l : List ℕ) → Ended (InLine p l) (counted c p l)
unfolding counted
counted_in_line c p [] = last p (omega arith, omega arith)
counted_in_line c p (b ∷ l) = go (eqb b 0) (counts c b) refl (counted_in_line (behind c b) (suc p) l)
  where
    go : (t u : Bool) → eqb b 0 ≡ t → Ended (InLine (suc p) l) (counted (behind c b) (suc p) l)
        → Ended (InLine p (b ∷ l)) (pick t ((p, 0) ∷ []) (pick u ((p, b) ∷ counted (behind c b) (suc p) l) (counted (behind c b) (suc p) l)))
    go true u f e = last p (omega arith, omega arith)
    go false true f e = more (p, b) (omega arith, omega arith) (ended_less b l f e)
    go false false f e = ended_less b l f e

lacks_in_line : (p : ℕ) (l : List ℕ) (x : ℕ) → line_body p l ≡ bad x → InLine (p + 4) l x
lacks_in_line p l x h = go (body_late (InLine (p + 4) l) (length (line_bytes p l)) ∅ (join_go (line_bytes p l)) (join-length (line_bytes p l)) (join-ended (counted_in_line uncovered (p + 4) l))) h
  where
    go : {b : Body} → LateBody (InLine (p + 4) l) b → b ≡ bad x → InLine (p + 4) l x
    go (fine s) h = absurd (let z : ◌≡◌ {A = ℕ} 0 1 = cc in omega arith)
    go (late_bad y k) h = let z : y ≡ x = cc in subst (InLine (p + 4) l) z k

-- a foreign byte stands before the zero
foreign_in_line : (o : Offence) (c : Cover) (p : ℕ) (l : List ℕ) → In o (foreign (counted c p l)) → (p ≤ o.0) × (o.0 < p + index_of 0 l)
unfolding counted foreign index_of
foreign_in_line o c p [] i = elim i [ ]
foreign_in_line o c p (b ∷ l) i = go (eqb b 0) (counts c b) (eqb b 100) (foreign_in_line o (behind c b) (suc p) l) i
  where
    there : (In o (foreign (counted (behind c b) (suc p) l)) → (suc p ≤ o.0) × (o.0 < suc p + index_of 0 l)) → In o (foreign (counted (behind c b) (suc p) l)) → (p ≤ o.0) × (o.0 < p + suc (index_of 0 l))
    there f i = let r = f i in let u = r.0 in let v = r.1 in (omega arith, omega arith)

    here : (v : Bool) → (In o (foreign (counted (behind c b) (suc p) l)) → (suc p ≤ o.0) × (o.0 < suc p + index_of 0 l))
        → In o (pick v ((p, 34) ∷ foreign (counted (behind c b) (suc p) l)) (foreign (counted (behind c b) (suc p) l))) → (p ≤ o.0) × (o.0 < p + suc (index_of 0 l))
    here true f (first e) = let z = ap (λ (y : Offence). y.0) e in (omega arith, omega arith)
    here true f (next y i) = there f i
    here false f i = there f i

    go : (t u v : Bool) → (In o (foreign (counted (behind c b) (suc p) l)) → (suc p ≤ o.0) × (o.0 < suc p + index_of 0 l))
        → In o (foreign (pick t ((p, 0) ∷ []) (pick u ((p, b) ∷ counted (behind c b) (suc p) l) (counted (behind c b) (suc p) l)))) → (p ≤ o.0) × (o.0 < p + pick t 0 (suc (index_of 0 l)))
    go true u v f i = elim i [ ]
    go false true v f i = here (eqb b 100) f i
    go false false v f i = there f i

-- ---- where it is found

-- of the line whose link stands at p and whose bytes are the first of l: with i of them it is refused as with all
pub record LineSettles (f : List ℕ) (p n : ℕ) (l : List ℕ) (o : Offence) : Type 0 where
  pub i : ℕ
  pub enough : i ≤ length l
  pub place : o.0 < p + 4 + i
  pub found_at : FoundAt f o.1 o.0 (p + 3 + i)
  pub cut : soonest (line_offences (p + 4 + i) p n (take i l)) ≡ some o

module _ (f : List ℕ) (e p n : ℕ) (l : List ℕ) (l_is : l ≡ drop (p + 4) f) (e_is : e ≡ p + 4 + length l) (n-is : n ≡ get_or f (p + 2) 0 + 256 * get_or f (p + 3) 0)
    (reached_link : LinkAt f p) (link_on : zero_link f p ≡ false) (o : Offence) (o_is : soonest (line_offences e p n l) ≡ some o) where
  cut_alike : (i : ℕ) → i ≤ index_of 0 l → o.0 < p + 4 + i → In o (line_offences (p + 4 + i) p n (take i l)) → soonest (line_offences (p + 4 + i) p n (take i l)) ≡ some o
  cut_alike i h g j = go (cut_line e p n l i (p + 4 + i) refl h (let k = index_le 0 l in omega arith)) refl o_is
    where
      go : {u v : Option Offence} → CutVerdict (p + 4 + i) u v → soonest (line_offences (p + 4 + i) p n (take i l)) ≡ u → v ≡ some o → u ≡ some o
      go early a b = absurd (let c = first-soonest (line_offences (p + 4 + i) p n (take i l)) (p + 4 + i, 33) a in elim (c.least o j) [ inl d ↦ omega arith | inr d ↦ let k = d.0 in omega arith ])
      go (kept x k) a b = b

  word_settles : 63999 < n → o ≡ (p + 2, 35) → LineSettles f p n l o
  word_settles h g =
      let a = ap (λ (y : Offence). y.0) g in
      let b = ap (λ (y : Offence). y.1) g in
      let s : FoundAt f 35 (p + 2) (suc (p + 2)) = at_second_byte p refl reached_link link_on refl (let m : suc (p + 2) ≡ p + 3 = omega arith in rw m (omega arith)) in
      record {
        i = 0;
        enough = omega arith;
        place = omega arith;
        found_at = let m : suc (p + 2) ≡ p + 3 + 0 = omega arith in rw (g, ← m) s;
        cut = cut_alike 0 (omega arith) (omega arith) (number_in (p + 4 + 0) p n (take 0 l) o h g);
      }

  foreign_settles : In o (foreign (line_bytes p l)) → LineSettles f p n l o
  foreign_settles j =
      let k = foreign_in_line o uncovered (p + 4) l j in
      let u = k.0 in
      let v = k.1 in
      let i = suc o.0 - (p + 4) in
      let h : i ≤ index_of 0 l = omega arith in
      let g : o.0 < p + 4 + i = omega arith in
      let c = counted_cut uncovered (p + 4) l i refl h in
      record {
        i = i;
        enough = let q = index_le 0 l in omega arith;
        place = g;
        found_at = let m : p + 3 + i ≡ o.0 = omega arith in rw m at_place;
        cut = cut_alike i h g (elim (whole-foreign o c j) [ inl w ↦ foreign_in (p + 4 + i) p n (take i l) o w | inr w ↦ absurd (omega arith) ]);
      }

  same-bodies : (i : ℕ) → i ≤ index_of 0 l → SameBody (p + 4 + i) (join_go (line_bytes p (take i l))) (join_go (line_bytes p l)) (line_body p (take i l)) (line_body p l)
  same-bodies i h =
      body_same (p + 4 + i) (length (line_bytes p (take i l))) (length (line_bytes p l)) ∅ ∅ (join_go (line_bytes p (take i l))) (join_go (line_bytes p l)) (join-length (line_bytes p (take i l)))
      (join-length (line_bytes p l)) (join_cut (counted_cut uncovered (p + 4) l i refl h))

  record Reached (q x : ℕ) (u : List Placed) : Type 0 where
    m : ℕ
    small : m ≤ 63999
    number : Number x m u

  reached : {q x : ℕ} {u : List Placed} → Crossing q x u → Reached q x u
  reached (here d g t r k) = record { m = (digits 0 (d ∷ _)).0; small = k; number = begins d g t refl }
  reached (later d c) = let r = reached c in record { m = r.m; small = r.small; number = farther d r.number }

  module _ (x : ℕ) (bad_is : line_body p l ≡ bad x) (o_lacks : o ≡ (x, 35)) where
    bad_same : (r : ℕ) → bad r ≡ bad x → r ≡ x
    bad_same r h = cc

    -- cut behind x, and not in a number that is too large only with what follows
    cut_bad : (i : ℕ) → i ≤ index_of 0 l → x < p + 4 + i → (Crossing (p + 4 + i) x (join_go (line_bytes p (take i l))) → ⊥) → line_body p (take i l) ≡ bad x
    cut_bad i h g f = go (same-bodies i h) bad_is f
      where
        late : {b : Body} → LateBody (From (p + 4 + i)) b → b ≡ bad x → ⊥
        late (fine s) k = let z : ◌≡◌ {A = ℕ} 0 1 = cc in omega arith
        late (late_bad r j) k = let q = bad_same r k in omega arith

        go : {b b' : Body} → SameBody (p + 4 + i) (join_go (line_bytes p (take i l))) (join_go (line_bytes p l)) b b' → b' ≡ bad x → (Crossing (p + 4 + i) x (join_go (line_bytes p (take i l))) → ⊥) → b ≡ bad x
        go (same_bad r) k f = k
        go (late_bodies u v) k f = absurd (late v k)
        go (cross_body u r c m w v) k f = absurd (f (subst (λ (y : ℕ). Crossing (p + 4 + i) y (join_go (line_bytes p (take i l)))) (bad_same r k) c))

    no_crossing : {n' : ℕ} (a : NumberAt (p + 4) x n' l) (w : Exceeds 0 (drop a.t l)) → Crossing (p + 4 + (a.t + suc w.s)) x (join_go (line_bytes p (take (a.t + suc w.s) l))) → ⊥
    no_crossing a w c =
        let r = reached c in
        let b = counted_number uncovered (p + 4) (take (a.t + suc w.s) l) (joined_number (line_bytes p (take (a.t + suc w.s) l)) r.number) in
        let t_is : b.t ≡ a.t = let u = a.place in let v = b.place in omega arith in
        let bytes : drop b.t (take (a.t + suc w.s) l) ≡ take (suc w.s) (drop a.t l) = ap (λ (k : ℕ). drop k (take (a.t + suc w.s) l)) t_is ∙ drop-take a.t (suc w.s) l in
        let v : value_of 0 (take (suc w.s) (drop a.t l)) ≡ r.m = sym (first-all 0 (take (suc w.s) (drop a.t l)) w.plain) ∙ (ap (first_value 0) (sym bytes) ∙ b.value) in
        let big = w.now in
        let small = r.small in
        omega arith

    -- a number that is too large with its digit s bytes behind its first
    number_settles : (n' : ℕ) → 63999 < n' → NumberAt (p + 4) x n' l → LineSettles f p n l o
    number_settles n' big a =
        let w = exceeds 0 (drop a.t l) (omega arith) (rw a.value big) in
        settle w
      where
        settle : Exceeds 0 (drop a.t l) → LineSettles f p n l o
        settle w =
            let x-is = a.place in
            let i = a.t + suc w.s in
            let zero_is = a.before_zero in
            let ins = w.inside in
            let h : i ≤ index_of 0 l = omega arith in
            let o_at = ap (λ (y : Offence). y.0) o_lacks in
            let g : o.0 < p + 4 + i = omega arith in
            let rest : drop a.t l ≡ drop x f = ap (drop a.t) l_is ∙ (drop-drop a.t (p + 4) f ∙ ap (λ (k : ℕ). drop k f) (sym x-is)) in
            let at_x : get_or l a.t 0 ≡ get_or f x 0 = ap (λ (y : List ℕ). get_or y a.t 0) l_is ∙ (get_or-drop (p + 4) f a.t 0 ∙ ap (λ (k : ℕ). get_or f k 0) (sym x-is)) in
            let q_is : p + 3 + i ≡ x + w.s = omega arith in
            let one_more : suc (x + w.s) - x ≡ suc w.s = omega arith in
            let none_more : x + w.s - x ≡ w.s = omega arith in
            let found : FoundAt f 35 x (x + w.s) = at_digit (x + w.s) refl (rw (← at_x) a.digit) (rw (one_more, ← rest) w.plain) (rw (none_more, ← rest) w.not_yet) (rw (one_more, ← rest) w.now) in
            let body_is : line_body p (take i l) ≡ bad x = cut_bad i h (omega arith) (no_crossing a w) in
            record {
              i = i;
              enough = let q = index_le 0 l in omega arith;
              place = g;
              found_at = rw (o_lacks, q_is) found;
              cut = cut_alike i h g (lacking_in (p + 4 + i) p n (take i l) o x body_is o_lacks);
            }

    lack_settles : LineSettles f p n l o
    lack_settles = go (leb (p + 4 + index_of 0 l) x) refl
      where
        o_at : o.0 ≡ x
        o_at = ap (λ (y : Offence). y.0) o_lacks

        -- at the line's zero
        closed : x ≡ p + 4 + index_of 0 l → index_of 0 l < length l
        closed h = lt (ltb (index_of 0 l) (length l)) refl
          where
            lt : (t : Bool) → ltb (index_of 0 l) (length l) ≡ t → index_of 0 l < length l
            lt true k = ltb-true (index_of 0 l) (length l) k
            lt false k = absurd (let m = ltb-false (index_of 0 l) (length l) k in let q = index_le 0 l in let c = first-soonest (line_offences e p n l) o o_is in
                elim (c.least (e, 33) (early_in e p n l o (omega arith))) [ inl d ↦ let r = o_at in omega arith | inr d ↦ let u = d.1 in let v = ap (λ (y : Offence). y.1) o_lacks in omega arith ])

        at_zero : x ≡ p + 4 + index_of 0 l → LineSettles f p n l o
        at_zero h =
            let c = closed h in
            record {
              i = suc (index_of 0 l);
              enough = omega arith;
              place = let k = o_at in omega arith;
              found_at = let m : p + 3 + suc (index_of 0 l) ≡ x = omega arith in rw (o_lacks, m) at_place;
              cut = ap soonest (offences-whole p (suc (index_of 0 l)) l (omega arith) c e (p + 4 + suc (index_of 0 l)) n) ∙ o_is;
            }

        late : {b : Body} (i : ℕ) → p + 4 + i ≡ suc x → LateBody (From (p + 4 + i)) b → b ≡ bad x → ⊥
        late i g (fine s) k = let z : ◌≡◌ {A = ℕ} 0 1 = cc in omega arith
        late i g (late_bad r j) k = let q = bad_same r k in omega arith

        in_body : {b b' : Body} (i : ℕ) → i ≤ index_of 0 l → p + 4 + i ≡ suc x → SameBody (p + 4 + i) (join_go (line_bytes p (take i l))) (join_go (line_bytes p l)) b b' → line_body p (take i l) ≡ b → b' ≡ bad x
            → LineSettles f p n l o
        in_body i h g (same_bad r) u k =
            record {
              i = i;
              enough = let q = index_le 0 l in omega arith;
              place = let q = o_at in omega arith;
              found_at = let m : p + 3 + i ≡ x = omega arith in rw (o_lacks, m) at_place;
              cut = cut_alike i h (let q = o_at in omega arith) (lacking_in (p + 4 + i) p n (take i l) o x (u ∙ k) o_lacks);
            }
        in_body i h g (late_bodies v w) u k = absurd (late i g w k)
        in_body i h g (cross_body v r c m big w) u k =
            number_settles m big (counted_number uncovered (p + 4) l (subst (λ (y : ℕ). Number y m (line_bytes p l)) (bad_same r k) (joined_number (line_bytes p l) w)))

        before-zero : x < p + 4 + index_of 0 l → LineSettles f p n l o
        before-zero h =
            let b = lacks_in_line p l x bad_is in
            let low = b.0 in
            let i = suc x - (p + 4) in
            let inside : i ≤ index_of 0 l = omega arith in
            in_body i inside (omega arith) (same-bodies i inside) refl bad_is

        go : (t : Bool) → leb (p + 4 + index_of 0 l) x ≡ t → LineSettles f p n l o
        go true k = let b = lacks_in_line p l x bad_is in let u = b.1 in let v = leb-true (p + 4 + index_of 0 l) x k in at_zero (omega arith)
        go false k = before-zero (leb-false (p + 4 + index_of 0 l) x k)

  pub line_settles : (o.1 ≡ 33 → ⊥) → LineSettles f p n l o
  line_settles not_33 = go (kind e p n l o (first-soonest (line_offences e p n l) o o_is).inside)
    where
      go : Kind e p n l o → LineSettles f p n l o
      go (number_word h g) = word_settles h g
      go (foreign_byte i) = foreign_settles i
      go (lacks_at x h g) = lack_settles x h g
      go (ends_early g) = absurd (not_33 (ap (λ (y : Offence). y.1) g))
