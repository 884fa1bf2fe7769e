-- Laws of the RETURNs' sets: a row put, and node after node of a list. Assumes nothing.
use Rattle.std.specs.Prelude.{◌≡◌, refl, ◌⊎◌, ◌↔◌, ℕ, ◌+◌, ◌-◌, ◌*◌, ◌/◌, ◌≤◌, ◌<◌, length, get_or, take, drop}
use Rattle.std.proofs.Common.{sym, ap, subst, ◌∙◌, inl, inr, add-one, arith, length-append, get_or-append-add, ext_get_or, take-suc, take_at, drop_at}
use mathlib.Core.List.Memᴰ
use mathlib.Core.List.{List, [], ◌∷◌, ◌++◌, Memᴰ}
use Rattle.std.proofs.Math.ListN.{length-drop, get_or-append}
use Rattle.std.proofs.Math.Seq.{length-take-le, get_or-take, get_or-drop}
use Rattle.listings.specs.Bytes.{bytes, same}
use Rattle.listings.specs.Rows.{opening_words}
use Rattle.listings.specs.Listing.{return, bare}
use Rattle.listings.specs.ListingText.{simple_word}
use Rattle.listings.specs.WordTable.{words, first, word_index}
use Rattle.passes.specs.Compare.{eq-or, lt-or}
use Rattle.passes.specs.Sets.{In, joined}
use Rattle.passes.specs.SetLaws.{joined_length, in_joined}
use Rattle.passes.specs.ReturnSets.{IsReturn, set_of, RowPut, ReturnsJoined}
use Rattle.layout.specs.Layout.{return_word}

-- the table of opening words has `return` there
pub return_word_lem : word_index (simple_word (bare return)) ≡ return_word
unfolding word_index words first bytes same opening_words simple_word
return_word_lem = refl

-- ---- ys in the place of k entries from a on

module _ (xs ys : List ℕ) (a k : ℕ) (ly : length ys ≡ k) (fits : a + k ≤ length xs) where
  front : length (take a xs) ≡ a
  front = length-take-le a xs (omega arith)

  pub put_size : length (take a xs ++ (ys ++ drop k (drop a xs))) ≡ length xs
  put_size = simp (length-append, length-drop) (omega (arith, front))

  put_before : (e : ℕ) → e < a → get_or (take a xs ++ (ys ++ drop k (drop a xs))) e 0 ≡ get_or xs e 0
  put_before e h = get_or-append (take a xs) (ys ++ drop k (drop a xs)) 0 e (omega (arith, front)) ∙ get_or-take a xs e 0 h

  pub put_in : (r : ℕ) → r < k → get_or (take a xs ++ (ys ++ drop k (drop a xs))) (a + r) 0 ≡ get_or ys r 0
  put_in r h =
      ap (λ (x : ℕ). get_or (take a xs ++ (ys ++ drop k (drop a xs))) (x + r) 0) (sym front) ∙ get_or-append-add (take a xs) (ys ++ drop k (drop a xs)) r 0
      ∙ get_or-append ys (drop k (drop a xs)) 0 r (omega arith)

  put_after : (d : ℕ) → get_or (take a xs ++ (ys ++ drop k (drop a xs))) (a + (k + d)) 0 ≡ get_or xs (a + (k + d)) 0
  put_after d =
      ap (λ (x : ℕ). get_or (take a xs ++ (ys ++ drop k (drop a xs))) (x + (k + d)) 0) (sym front)
      ∙ get_or-append-add (take a xs) (ys ++ drop k (drop a xs)) (k + d) 0 ∙ ap (λ (x : ℕ). get_or (ys ++ drop k (drop a xs)) (x + d) 0) (sym ly)
      ∙ get_or-append-add ys (drop k (drop a xs)) d 0 ∙ get_or-drop k (drop a xs) d 0 ∙ get_or-drop a xs (k + d) 0

  pub put_other : (e : ℕ) → (e < a) ⊎ (a + k ≤ e) → get_or (take a xs ++ (ys ++ drop k (drop a xs))) e 0 ≡ get_or xs e 0
  put_other e (inl h) = put_before e h
  put_other e (inr h) = let q : a + (k + (e - (a + k))) ≡ e = omega arith in rw (← q) (put_after (e - (a + k)))

-- ---- rows

-- an entry outside row i
pub row_away : (e i k : ℕ) → k ≡ 64 → (e / 64 ≡ i → ⊥) → (e < i * 64) ⊎ (i * 64 + k ≤ e)
row_away e i k ek q = go (lt-or e (i * 64))
  where
    go : (e < i * 64) ⊎ (i * 64 ≤ e) → (e < i * 64) ⊎ (i * 64 + k ≤ e)
    go (inl h) = inl h
    go (inr h) = inr (omega arith)

module _ (rows : List ℕ) (i : ℕ) (fits : i * 64 + 64 ≤ length rows) where
  pub row_length : length (set_of rows i) ≡ 64
  unfolding set_of
  row_length = length-take-le 64 (drop (i * 64) rows) (omega (arith, length-drop (i * 64) rows))

  pub row_at : (q : ℕ) → q < 64 → get_or (set_of rows i) q 0 ≡ get_or rows (i * 64 + q) 0
  unfolding set_of
  row_at q h = get_or-take 64 (drop (i * 64) rows) q 0 h ∙ get_or-drop (i * 64) rows q 0

-- row i where only other entries changed
pub row_same : (rows rows' : List ℕ) (i : ℕ) → i * 64 + 64 ≤ length rows → length rows' ≡ length rows
    → ((e : ℕ) → e / 64 ≡ i → get_or rows' e 0 ≡ get_or rows e 0) → set_of rows' i ≡ set_of rows i
row_same rows rows' i fits l h =
    let a = row_length rows i fits in
    let b = row_length rows' i (omega arith) in
    ext_get_or 0 (set_of rows' i) (set_of rows i) (b ∙ sym a) (λ q lt.
    row_at rows' i (omega arith) q (omega arith) ∙ h (i * 64 + q) (omega arith) ∙ sym (row_at rows i fits q (omega arith)))

-- as code lends a row: k entries from i * 64 on
pub row_part : (rows : List ℕ) (i k : ℕ) → k ≡ 64 → take k (drop (i * 64) rows) ≡ set_of rows i
unfolding set_of
row_part rows i k e = rw e

pub row_put : (i k : ℕ) (row rows : List ℕ) → k ≡ 64 → length row ≡ 64 → i * 64 + 64 ≤ length rows
    → RowPut i row rows (take (i * 64) rows ++ (row ++ drop k (drop (i * 64) rows)))
unfolding set_of
row_put i k row rows ek lr fits =
    let f = length-take-le (i * 64) rows (omega arith) in
    record {
      size = put_size rows row (i * 64) k (lr ∙ sym ek) (omega arith);
      here = ap (take 64) (drop_at (take (i * 64) rows) (row ++ drop k (drop (i * 64) rows)) (i * 64) f) ∙ take_at row (drop k (drop (i * 64) rows)) 64 lr;
      others = λ e ne. put_other rows row (i * 64) k (lr ∙ sym ek) (omega arith) e (row_away e i k ek ne);
    }

-- ---- `backs` joined into the sets of a list's RETURNs

module _ (stmts : List ℕ) (n : ℕ) (backs : List ℕ) where
  pub returns_none : (list xs : List ℕ) → ReturnsJoined stmts n (take 0 list) backs xs xs
  returns_none list xs = record { size = refl; members = λ r h k. (λ m. inl m, elim [ inl m ↦ m | inr m ↦ absurd (Memᴰ.not-nil m.0) ]); others = λ i h. refl }

  -- one node: no RETURN, or one
  one-cases : {r i : ℕ} → Memᴰ r (i ∷ []) → r ≡ i
  one-cases m = elim (Memᴰ.cases_cons m) [ inl q ↦ q | inr q ↦ absurd (Memᴰ.not-nil q) ]

  pub return_other : (i : ℕ) (xs : List ℕ) → (IsReturn stmts n i → ⊥) → ReturnsJoined stmts n (i ∷ []) backs xs xs
  return_other i xs ne =
      record {
        size = refl;
        members = λ r h k. (λ m. inl m, elim [ inl m ↦ m | inr m ↦ absurd (ne (subst (IsReturn stmts n) (one-cases m.0) h)) ]);
        others = λ j h. refl;
      }

  pub return_joined : (i k : ℕ) (xs ys : List ℕ) → IsReturn stmts n i → n * 64 ≤ length xs → k ≡ 64 → length backs ≡ 64 → ys ≡ joined (take k (drop (i * 64) xs)) backs
      → ReturnsJoined stmts n (i ∷ []) backs xs (take (i * 64) xs ++ (ys ++ drop k (drop (i * 64) xs)))
  return_joined i k xs ys ri fits ek lb ey =
      record { size = put.size; members = λ r h j. go r h j (eq-or r i); others = λ e ne. put.others e (λ q. ne (rw q ri)) }
    where
      zs : List ℕ
      zs = take (i * 64) xs ++ (ys ++ drop k (drop (i * 64) xs))

      room : (r : ℕ) → r < n → r * 64 + 64 ≤ length xs
      room r h = omega arith

      q : ys ≡ joined (set_of xs i) backs
      q = ey ∙ ap (λ (x : List ℕ). joined x backs) (row_part xs i k ek)

      put : RowPut i ys xs zs
      put = row_put i k ys xs ek (ap length q ∙ joined_length (set_of xs i) backs ∙ row_length xs i (room i ri.0)) (room i ri.0)

      here : (j : ℕ) → In (set_of zs i) j ↔ (In (set_of xs i) j ⊎ (Memᴰ i (i ∷ []) × In backs j))
      here j =
          let u = in_joined (set_of xs i) backs j (lb ∙ sym (row_length xs i (room i ri.0))) in (
            λ m. elim (u.0 (rw (put.here ∙ q) at m)) [ inl x ↦ inl x | inr x ↦ inr (Memᴰ.head refl, x) ],
            λ m. rw (put.here ∙ q) (u.1 (elim m [ inl x ↦ inl x | inr x ↦ inr x.1 ])),
          )

      go : (r : ℕ) → IsReturn stmts n r → (j : ℕ) → (r ≡ i) ⊎ (r ≡ i → ⊥) → In (set_of zs r) j ↔ (In (set_of xs r) j ⊎ (Memᴰ r (i ∷ []) × In backs j))
      go r h j (inl e) = rw e (here j)
      go r h j (inr ne) =
          let e : set_of zs r ≡ set_of xs r = row_same xs zs r (room r h.0) put.size (λ d p. put.others d (λ f. ne (sym p ∙ f))) in (
            λ m. inl (rw e at m),
            elim [ inl m ↦ rw e m | inr m ↦ absurd (ne (one-cases m.0)) ],
          )

  -- the list's next node x
  pub returns_more : (list : List ℕ) (k x : ℕ) (xs ys zs : List ℕ) → k < length list → x ≡ get_or list k 0 → ReturnsJoined stmts n (take k list) backs xs ys
      → ReturnsJoined stmts n (x ∷ []) backs ys zs → ReturnsJoined stmts n (take (k + 1) list) backs xs zs
  returns_more list k x xs ys zs h ex s t =
      let e : take (k + 1) list ≡ take k list ++ (x ∷ []) = rw (add-one, take-suc list k 0 h, ex) in
      rw e
      (record {
        size = t.size ∙ s.size;
        members = λ r h a. (
          λ m.
              elim ((t.members r h a).0 m) [
                | inl p ↦ elim ((s.members r h a).0 p) [ inl y ↦ inl y | inr y ↦ inr (Memᴰ.append_left (x ∷ []) y.0, y.1) ]
                | inr p ↦ inr (Memᴰ.append_right (take k list) p.0, p.1)
              ],
          λ m.
              (t.members r h a).1
              (elim m [
                | inl p ↦ inl ((s.members r h a).1 (inl p))
                | inr p ↦ elim (Memᴰ.append_cases (take k list) p.0) [ inl y ↦ inl ((s.members r h a).1 (inr (y, p.1))) | inr y ↦ inr (y, p.1) ]
              ]),
        );
        others = λ i h. t.others i h ∙ s.others i h;
      })
