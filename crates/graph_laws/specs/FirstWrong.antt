-- A graph is refused exactly with the number and the place of its first wrong row. Assumes nothing.
use Rattle.std.specs.Prelude.{ℕ, suc, ◌+◌, ◌≡◌, Bool, true, false, List, [], ◌∷◌, ◌++◌, ◌↔◌, length}
use Rattle.std.proofs.Math.Path.{refl}
use Rattle.std.proofs.Common.{sym, ap, ◌∙◌, append_assoc, arith}
use Rattle.listings.specs.Bytes.{same, pick}
use Rattle.listings.specs.Listing.{Listing}
use Rattle.listings.specs.Rows.{split}
use Rattle.listings.specs.ListingText.{text_of}
use Rattle.listings.specs.Every.{All, all[], all∷, no_newline}
use Rattle.listings.specs.Tests.{not_both}
use Rattle.listing_laws.specs.WordText.{lacks, same_equal}
use Rattle.listing_laws.specs.RowForms.{join, join-split, split_next, split_last, text_split}
use Rattle.graph.specs.Print.{printed}
use Rattle.graph.specs.Build.{graph}
use Rattle.graph.specs.Check.{Verdict, right, wrong, is_graph_row, row_number, compared, against}
use Rattle.graph_laws.specs.FormLaws.{form_exactly}
use Rattle.graph_laws.specs.Checked.{IsRow, RowRefusal, no_form, in_form, WrongAtOnce, missing, unended, another, too_many, FirstWrong}
use Rattle.graph_laws.specs.CheckLaws.{split-first, split-lacks, last_byte, last_append, last_piece, printed_last, printed_pieces, not_right, same_refl}

-- ---- rows

-- the number of a row that is not the one due
refusal_is : (w : List ℕ) → RowRefusal w (row_number w)
unfolding row_number
refusal_is w = go (is_graph_row w) refl
  where
    go : (x : Bool) → is_graph_row w ≡ x → RowRefusal w (pick x 32 31)
    go true e = in_form ((form_exactly w).0 e)
    go false e = no_form (λ r. not_both (sym ((form_exactly w).1 r) ∙ e))

is_refusal : {w : List ℕ} {n : ℕ} → RowRefusal w n → n ≡ row_number w
unfolding row_number
is_refusal {w} (no_form h) = go (is_graph_row w) refl
  where
    go : (x : Bool) → is_graph_row w ≡ x → ◌≡◌ {A = ℕ} 31 (pick x 32 31)
    go true e = absurd (h ((form_exactly w).0 e))
    go false e = refl
is_refusal {w} (in_form r) = rw ((form_exactly w).1 r)

-- ---- what is refused has a first wrong row

-- from row i on: the first wrong row
abbrev Found : ℕ → (due given : List ℕ) → (number place : ℕ) → Type 0
Found i due given n p = (q : ℕ) × (p ≡ i + q) × FirstWrong due given n q

not_wrong : {n p : ℕ} {A : Type 0} → right ≡ wrong n p → A
not_wrong e = not_right (sym e)

at_once : (i : ℕ) {due given : List ℕ} (m n p : ℕ) → WrongAtOnce due given m → wrong m i ≡ wrong n p → Found i due given n p
unfolding text_of
at_once i {due} {given} m n p h e =
    let a : m ≡ n = cc in
    let b : i ≡ p = cc in
    (0, omega arith, record { before = []; rows = all[]; due_left = due; given_left = given; due_is = refl; given_is = refl; place_is = refl; wrong_then = rw a at h })

-- one more row before it
one_more_lem : (i : ℕ) {due given : List ℕ} (r : List ℕ) (n p : ℕ) → IsRow r → Found (suc i) due given n p → Found i (r ++ (10 ∷ due)) (r ++ (10 ∷ given)) n p
unfolding text_of
one_more_lem i r n p h (q, e, f) = (
  suc q,
  omega arith,
  record {
    before = r ∷ f.before;
    rows = all∷ h f.rows;
    due_left = f.due_left;
    given_left = f.given_left;
    due_is = ap (λ (z : List ℕ). r ++ (10 ∷ z)) f.due_is ∙ sym (append_assoc r (10 ∷ text_of f.before) f.due_left);
    given_is = ap (λ (z : List ℕ). r ++ (10 ∷ z)) f.given_is ∙ sym (append_assoc r (10 ∷ text_of f.before) f.given_left);
    place_is = ap suc f.place_is;
    wrong_then = f.wrong_then;
  },
)

-- a row is due, and nothing is given
nothing-given : (r l : List ℕ) → WrongAtOnce (r ++ (10 ∷ l)) [] 32
nothing-given [] l = missing
nothing-given (b ∷ r) l = missing

module _ (i n p : ℕ) (r w : List ℕ) (hr : IsRow r) (hw : IsRow w) (v : Verdict) (due given : List ℕ) where
  next_row : (v ≡ wrong n p → Found (suc i) due given n p) → pick (same r w) v (wrong (row_number w) i) ≡ wrong n p → Found i (r ++ (10 ∷ due)) (w ++ (10 ∷ given)) n p
  next_row f e = go (same r w) refl e
    where
      go : (x : Bool) → same r w ≡ x → pick x v (wrong (row_number w) i) ≡ wrong n p → Found i (r ++ (10 ∷ due)) (w ++ (10 ∷ given)) n p
      go true h e = rw (← (same_equal r w h)) (one_more_lem i r n p hr (f e))
      go false h e = at_once i (row_number w) n p (another r w due given hr hw (λ q. not_both (sym (same_refl r) ∙ ap (same r) q ∙ h)) (refusal_is w)) e

found : (i n p : ℕ) (rs : List (List ℕ)) (w : List ℕ) (ws : List (List ℕ)) → All IsRow rs → IsRow w → All IsRow ws
    → compared i (rs ++ ([] ∷ [])) (w ∷ ws) ≡ wrong n p → Found i (text_of rs) (join 10 (w ∷ ws)) n p
unfolding compared join text_of
found i n p [] [] [] hr hw hs e = not_wrong e
found i n p (r ∷ []) [] [] hr hw hs e = at_once i 32 n p (nothing-given r []) e
found i n p (r ∷ q ∷ rs) [] [] hr hw hs e = at_once i 32 n p (nothing-given r (text_of (q ∷ rs))) e
found i n p [] (b ∷ w) [] hr hw hs e = at_once i 31 n p (unended hw) e
found i n p (r ∷ rs) (b ∷ w) [] hr hw hs e = at_once i 31 n p (unended hw) e
found i n p [] w (v ∷ ws) hr hw hs e = at_once i (row_number w) n p (too_many w (join 10 (v ∷ ws)) hw (refusal_is w)) e
found i n p (r ∷ []) w (v ∷ ws) (all∷ h hr) hw (all∷ k hs) e =
    next_row i n p r w h hw (compared (suc i) ([] ∷ []) (v ∷ ws)) [] (join 10 (v ∷ ws)) (found (suc i) n p [] v ws hr k hs) e
found i n p (r ∷ q ∷ rs) w (v ∷ ws) (all∷ h hr) hw (all∷ k hs) e =
    next_row i n p r w h hw (compared (suc i) (q ∷ (rs ++ ([] ∷ []))) (v ∷ ws)) (text_of (q ∷ rs)) (join 10 (v ∷ ws)) (found (suc i) n p (q ∷ rs) v ws hr k hs) e

-- ---- what has a first wrong row is refused so

-- both texts have a first row, and it is the same one
past_row : (i : ℕ) (r k l : List ℕ) → IsRow r → compared i (split 10 (r ++ (10 ∷ k))) (split 10 (r ++ (10 ∷ l))) ≡ compared (suc i) (split 10 k) (split 10 l)
unfolding compared no_newline lacks
past_row i r k l h =
    let a = split-first 10 k in
    let b = split-first 10 l in
    rw (split_next 10 r k h, split_next 10 r l h, a.2, b.2, same_refl r)

other_row : (i : ℕ) (d w k l : List ℕ) → IsRow d → IsRow w → (d ≡ w → ⊥) → compared i (split 10 (d ++ (10 ∷ k))) (split 10 (w ++ (10 ∷ l))) ≡ wrong (row_number w) i
unfolding compared no_newline lacks
other_row i d w k l hd hw h =
    let a = split-first 10 k in
    let b = split-first 10 l in
    rw (split_next 10 d k hd, split_next 10 w l hw, a.2, b.2, differ (same d w) refl)
  where
    differ : (x : Bool) → same d w ≡ x → same d w ≡ false
    differ true e = absurd (h (same_equal d w e))
    differ false e = e

-- a row is due, and nothing is given; what is due ends with byte 10
nothing_left : (i b : ℕ) (due : List ℕ) → last_byte b due ≡ 10 → compared i (split 10 (b ∷ due)) ([] ∷ []) ≡ wrong 32 i
unfolding compared last_byte text_of
nothing_left i b due h =
    let r = last_piece 10 (b ∷ due) (omega arith) h in
    rw r.1 (go r.0 r.1)
  where
    go : (rs : List (List ℕ)) → split 10 (b ∷ due) ≡ rs ++ ([] ∷ []) → compared i (rs ++ ([] ∷ [])) ([] ∷ []) ≡ wrong 32 i
    go [] e = absurd (omega (arith, ap length (text_split (b ∷ due) [] e)))
    go (r ∷ []) e = refl
    go (r ∷ q ∷ rs) e = refl

byte_lacking : (i : ℕ) (ds : List (List ℕ)) (b : ℕ) (w : List ℕ) → IsRow (b ∷ w) → compared i ds (split 10 (b ∷ w)) ≡ wrong 31 i
unfolding no_newline lacks
byte_lacking i ds b w h = rw (split_last 10 (b ∷ w) h) (go ds)
  where
    go : (ds : List (List ℕ)) → compared i ds ((b ∷ w) ∷ []) ≡ wrong 31 i
    go ds = unfold compared in refl

further_row : (i : ℕ) (w l : List ℕ) → IsRow w → compared i ([] ∷ []) (split 10 (w ++ (10 ∷ l))) ≡ wrong (row_number w) i
unfolding compared no_newline lacks
further_row i w l h = let b = split-first 10 l in rw (split_next 10 w l h, b.2)

refused_at_once : (i n : ℕ) {due given : List ℕ} → WrongAtOnce due given n → last_byte 10 due ≡ 10 → compared i (split 10 due) (split 10 given) ≡ wrong n i
unfolding split last_byte
refused_at_once i n (missing {b} {due}) h = nothing_left i b due h
refused_at_once i n (unended {due} {b} {w} k) h = byte_lacking i (split 10 due) b w k
refused_at_once i n (another d w due given hd hw k r) h = other_row i d w due given hd hw k ∙ ap (λ (z : ℕ). wrong z i) (sym (is_refusal r))
refused_at_once i n (too_many w given hw r) h = further_row i w given hw ∙ ap (λ (z : ℕ). wrong z i) (sym (is_refusal r))

refused-later : (i n : ℕ) {before : List (List ℕ)} {due given : List ℕ} → All IsRow before → WrongAtOnce due given n → last_byte 10 due ≡ 10
    → compared i (split 10 (text_of before ++ due)) (split 10 (text_of before ++ given)) ≡ wrong n (i + length before)
unfolding text_of
refused-later i n all[] r h = let z : i + 0 ≡ i = omega arith in rw z (refused_at_once i n r h)
refused-later i n {due = due} {given = given} (all∷ {a = w} {l = ws} k ks) r h =
    let z : i + suc (length ws) ≡ suc i + length ws = omega arith in
    rw (z, append_assoc w (10 ∷ text_of ws) due, append_assoc w (10 ∷ text_of ws) given)
    (past_row i w (text_of ws ++ due) (text_of ws ++ given) k ∙ refused-later (suc i) n ks r h)

-- what is left of a text that ends with byte 10
last_left : (d : ℕ) (l : List ℕ) → last_byte d l ≡ 10 → last_byte 10 l ≡ 10
unfolding last_byte
last_left d [] h = refl
last_left d (b ∷ l) h = h

pieces_rows : {ws : List (List ℕ)} → All (λ w. lacks 10 w ≡ true) ws → All IsRow ws
unfolding no_newline lacks
pieces_rows h = h

found_first : {n p : ℕ} (rs : List (List ℕ)) (w : List ℕ) (ws : List (List ℕ)) → All IsRow rs → All IsRow (w ∷ ws)
    → compared 0 (rs ++ ([] ∷ [])) (w ∷ ws) ≡ wrong n p → FirstWrong (text_of rs) (join 10 (w ∷ ws)) n p
found_first {n} {p} rs w ws hr (all∷ hw hs) e =
    let f = found 0 n p rs w ws hr hw hs e in
    let b : f.0 ≡ p = omega (arith, f.1) in
    rw b at f.2

-- ---- "the place is the first such row of the graph file, its row count if one is missing at the end, and 31 wins on the same row"

pub first_wrong : (L : Listing) (g : List ℕ) (n p : ℕ) → (against (graph L) g ≡ wrong n p) ↔ FirstWrong (printed L) g n p
unfolding against
first_wrong L g n p = (go, back)
  where
    go : compared 0 (split 10 (printed L)) (split 10 g) ≡ wrong n p → FirstWrong (printed L) g n p
    go e =
        let r = printed_pieces L in
        let w = split-first 10 g in
        let given : All IsRow (w.0 ∷ w.1) = rw w.2 at (pieces_rows (split-lacks 10 g)) in
        let k : compared 0 (r.0 ++ ([] ∷ [])) (w.0 ∷ w.1) ≡ wrong n p = rw (r.1, w.2) at e in
        let h : FirstWrong (text_of r.0) (join 10 (w.0 ∷ w.1)) n p = found_first r.0 w.0 w.1 (pieces_rows r.2) given k in
        let a : text_of r.0 ≡ printed L = sym (text_split (printed L) r.0 r.1) in
        let b : join 10 (w.0 ∷ w.1) ≡ g = ap (join 10) (sym w.2) ∙ join-split 10 g in
        rw (a, b) at h

    back : FirstWrong (printed L) g n p → compared 0 (split 10 (printed L)) (split 10 g) ≡ wrong n p
    back f =
        let z : 0 + length f.before ≡ p = omega (arith, f.place_is) in
        let l = last_left (last_byte 0 (text_of f.before)) f.due_left (sym (last_append 0 (text_of f.before) f.due_left) ∙ ap (last_byte 0) (sym f.due_is) ∙ printed_last L) in
        ap (λ (z : List ℕ). compared 0 (split 10 z) (split 10 g)) f.due_is
        ∙ ap (λ (z : List ℕ). compared 0 (split 10 (text_of f.before ++ f.due_left)) (split 10 z)) f.given_is
        ∙ refused-later 0 n f.rows f.wrong_then l
        ∙ ap (wrong n) z

-- so number and place are determined: two descriptions have the same
pub first_wrong_once : (L : Listing) (g : List ℕ) (n p m q : ℕ) → FirstWrong (printed L) g n p → FirstWrong (printed L) g m q → (n ≡ m) × (p ≡ q)
first_wrong_once L g n p m q f h =
    let e : wrong n p ≡ wrong m q = sym ((first_wrong L g n p).1 f) ∙ (first_wrong L g m q).1 h in
    (cc, cc)
