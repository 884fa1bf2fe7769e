-- Tables with a stride: rows one after the other and zeros after them. Storing, appending and reading back, stated once
-- for every table. Assumes nothing.
use Rattle.std.specs.Prelude.{◌≡◌, refl, take, drop, replicate}
use Rattle.std.proofs.Math.Path.{sym, ap}
use Rattle.std.proofs.Common.{◌∙◌, not-suc-le-zero, le_of_suc-le-suc, drop_of_length-le, drop-drop, take_all}
use mathlib.Core.List.{List, [], ◌∷◌, ◌++◌, append_assoc, append-nil}
use Prim.Native.Nat.{ℕ, zero, suc, ◌+◌, ◌*◌, ◌-◌, ◌≤◌, ◌<◌}
use native.Mathlib.Omega.{arith}
use Rattle.std.proofs.Math.ListN.{length, set, get_or, length-append, get_or-append}
use Rattle.std.proofs.lemmas.List.{length-replicate, replicate-append-replicate}
use Rattle.std.proofs.Math.Seq.{set-append_left, set-append_seam, take-append_seam, drop-append-add, get_or-append-add}
use Rattle.listings.specs.Every.{All, all[], all∷}
use Rattle.listings.specs.Records.{Rec, padded, joined, rec_row}
use Rattle.listing_laws.specs.ReadingRecords.{amend}
use Rattle.reader.specs.declared.tables.Entry.{Entry}

-- ---- zeros

pub drop_zeros : (n k : ℕ) → drop k (replicate {A = ℕ} n 0) ≡ replicate (n - k) 0
drop_zeros n zero = let e : n ≡ n - 0 = omega arith in ap (λ (k : ℕ). replicate {A = ℕ} k 0) e
drop_zeros zero (suc k) = let e : 0 ≡ 0 - suc k = omega arith in ap (λ (n : ℕ). replicate {A = ℕ} n 0) e
drop_zeros (suc n) (suc k) = let e : n - k ≡ suc n - suc k = omega arith in drop_zeros n k ∙ ap (λ (m : ℕ). replicate {A = ℕ} m 0) e

-- ---- a table filled from its start

pub padded-length : (n : ℕ) (l : List ℕ) → length l ≤ n → length (padded n l) ≡ n
unfolding padded
padded-length n l h = length-append l (replicate (n - length l) 0) ∙ omega (arith, length-replicate {A = ℕ} (n - length l) 0)

pub padded-nil : (n : ℕ) → padded n [] ≡ replicate n 0
unfolding padded
padded-nil n = let e : n - 0 ≡ n = omega arith in ap (λ (k : ℕ). replicate {A = ℕ} k 0) e

-- what is written after the used part
pub padded-append : (n at : ℕ) (l x : List ℕ) → at ≡ length l → take at (padded n l) ++ (x ++ drop (at + length x) (padded n l)) ≡ padded n (l ++ x)
unfolding padded
padded-append n at l x e =
    let q : n - length l - length x ≡ n - length (l ++ x) = omega (arith, length-append l x) in
    let d : drop (length l + length x) (padded n l) ≡ replicate (n - length (l ++ x)) 0 =
    drop-append-add l (replicate (n - length l) 0) (length x) ∙ drop_zeros (n - length l) (length x) ∙ ap (λ (k : ℕ). replicate k 0) q in
    ap (λ (k : ℕ). take k (padded n l) ++ (x ++ drop (k + length x) (padded n l))) e
    ∙ ap (λ (z : List ℕ). take (length l) (padded n l) ++ (x ++ z)) d
    ∙ ap (λ (z : List ℕ). z ++ (x ++ replicate (n - length (l ++ x)) 0)) (take-append_seam l (replicate (n - length l) 0))
    ∙ sym (append_assoc l x (replicate (n - length (l ++ x)) 0))

-- one entry
pub padded-set : (n at : ℕ) (l : List ℕ) (v : ℕ) → at ≡ length l → at < n → set (padded n l) at v ≡ padded n (l ++ (v ∷ []))
unfolding padded
padded-set n at l v e h =
    let q : n - length l ≡ suc (n - length (l ++ (v ∷ []))) = omega (arith, length-append l (v ∷ [])) in
    ap (λ (k : ℕ). set (l ++ replicate k 0) at v) q ∙ ap (λ (k : ℕ). set (l ++ (0 ∷ replicate (n - length (l ++ (v ∷ []))) 0)) k v) e
    ∙ set-append_seam l 0 (replicate (n - length (l ++ (v ∷ []))) 0) v
    ∙ sym (append_assoc l (v ∷ []) (replicate (n - length (l ++ (v ∷ []))) 0))

-- some zeros of a list's, and the rest
zeros_cut : (y : List ℕ) (p m k : ℕ) → p ≡ m + k → y ++ replicate p 0 ≡ (y ++ replicate m 0) ++ replicate k 0
zeros_cut y p m k e =
    ap (λ (z : ℕ). y ++ replicate z 0) e ∙ ap (λ (z : List ℕ). y ++ z) (sym (replicate-append-replicate m k 0)) ∙ sym (append_assoc y (replicate m 0) (replicate k 0))

-- the zeros up to a row's width are the table's
pub padded_row : (n m : ℕ) (l x : List ℕ) → length x ≤ m → length l + m ≤ n → padded n (l ++ x) ≡ padded n (l ++ padded m x)
unfolding padded
padded_row n m l x h k =
    let w = padded-length m x h in
    let q : n - length (l ++ x) ≡ m - length x + (n - length (l ++ padded m x)) = omega (arith, length-append l x, length-append l (padded m x), w) in
    zeros_cut (l ++ x) (n - length (l ++ x)) (m - length x) (n - length (l ++ padded m x)) q
    ∙ ap (λ (z : List ℕ). z ++ replicate (n - length (l ++ padded m x)) 0) (append_assoc l x (replicate (m - length x) 0))

-- ---- rows

pub joined-append : (f : Rec → List ℕ) (rs qs : List Rec) → joined f (rs ++ qs) ≡ joined f rs ++ joined f qs
unfolding joined
joined-append f [] qs = refl
joined-append f (r ∷ rs) qs = ap (λ (l : List ℕ). f r ++ l) (joined-append f rs qs) ∙ sym (append_assoc (f r) (joined f rs) (joined f qs))

pub joined-one : (f : Rec → List ℕ) (r : Rec) → joined f (r ∷ []) ≡ f r
unfolding joined
joined-one f r = append-nil (f r)

pub joined_last : (f : Rec → List ℕ) (rs : List Rec) (r : Rec) → joined f (rs ++ (r ∷ [])) ≡ joined f rs ++ f r
joined_last f rs r = joined-append f rs (r ∷ []) ∙ ap (λ (l : List ℕ). joined f rs ++ l) (joined-one f r)

-- an amended record of which a row's function sees nothing
pub joined-amend : (f : Rec → List ℕ) (g : Rec → Rec) → ((r : Rec) → f (g r) ≡ f r) → (rs : List Rec) (i : ℕ) → joined f (amend rs i g) ≡ joined f rs
unfolding joined amend
joined-amend f g e [] i = refl
joined-amend f g e (r ∷ rs) zero = ap (λ (l : List ℕ). l ++ joined f rs) (e r)
joined-amend f g e (r ∷ rs) (suc i) = ap (λ (l : List ℕ). f r ++ l) (joined-amend f g e rs i)

-- each row has k entries
abbrev pub Wide : (Rec → List ℕ) → ℕ → List Rec → Type 0
Wide f k rs = All (λ r. length (f r) ≡ k) rs

pub rec_wide : (rs : List Rec) → Wide rec_row 12 rs
unfolding rec_row
rec_wide [] = all[]
rec_wide (r ∷ rs) = all∷ refl (rec_wide rs)

pub set_past : (a l : List ℕ) (j v : ℕ) → set (a ++ l) (length a + j) v ≡ a ++ set l j v
set_past [] l j v = ap (λ (n : ℕ). set l n v) (omega arith)
set_past (x ∷ a) l j v = let e : length (x ∷ a) + j ≡ suc (length a + j) = omega arith in ap (λ (n : ℕ). set (x ∷ (a ++ l)) n v) e ∙ ap (λ (z : List ℕ). x ∷ z) (set_past a l j v)

module _ (f : Rec → List ℕ) (k : ℕ) where
  pub joined_length : {rs : List Rec} → Wide f k rs → length (joined f rs) ≡ length rs * k
  unfolding joined
  joined_length all[] = omega arith
  joined_length (all∷ {a = r} {l = rs} e w) = length-append (f r) (joined f rs) ∙ omega (arith, e, joined_length w)

  -- a store at (row i, column c)
  pub joined-set : (c v : ℕ) (g : Rec → Rec) → ((r : Rec) → set (f r) c v ≡ f (g r)) → c < k → {rs : List Rec} → Wide f k rs → (i : ℕ) → i < length rs → (rest : List ℕ)
      → set (joined f rs ++ rest) (i * k + c) v ≡ joined f (amend rs i g) ++ rest
  unfolding joined amend
  joined-set c v g e h all[] i b rest = absurd (not-suc-le-zero b)
  joined-set c v g e h (all∷ {a = r} {l = rs} q w) zero b rest =
      let z : 0 * k + c ≡ c = omega arith in
      ap (λ (n : ℕ). set ((f r ++ joined f rs) ++ rest) n v) z ∙ ap (λ (l : List ℕ). set l c v) (append_assoc (f r) (joined f rs) rest)
      ∙ set-append_left (f r) (joined f rs ++ rest) c v (omega (arith, q)) ∙ ap (λ (l : List ℕ). l ++ (joined f rs ++ rest)) (e r) ∙ sym (append_assoc (f (g r)) (joined f rs) rest)
  joined-set c v g e h (all∷ {a = r} {l = rs} q w) (suc i) b rest =
      let z : suc i * k + c ≡ length (f r) + (i * k + c) = omega (arith, q) in
      ap (λ (n : ℕ). set ((f r ++ joined f rs) ++ rest) n v) z ∙ ap (λ (l : List ℕ). set l (length (f r) + (i * k + c)) v) (append_assoc (f r) (joined f rs) rest)
      ∙ set_past (f r) (joined f rs ++ rest) (i * k + c) v
      ∙ ap (λ (l : List ℕ). f r ++ l) (joined-set c v g e h w i (le_of_suc-le-suc b) rest)
      ∙ sym (append_assoc (f r) (joined f (amend rs i g)) rest)

  -- reading back at (row i, column c)
  pub joined_get : (c : ℕ) → c < k → {rs : List Rec} → Wide f k rs → (i : ℕ) → i < length rs → (z : Rec) (rest : List ℕ) → get_or (joined f rs ++ rest) (i * k + c) 0 ≡ get_or (f (get_or rs i z)) c 0
  unfolding joined
  joined_get c h all[] i b z rest = absurd (not-suc-le-zero b)
  joined_get c h (all∷ {a = r} {l = rs} q w) zero b z rest =
      let e : 0 * k + c ≡ c = omega arith in
      ap (λ (n : ℕ). get_or ((f r ++ joined f rs) ++ rest) n 0) e ∙ ap (λ (l : List ℕ). get_or l c 0) (append_assoc (f r) (joined f rs) rest)
      ∙ get_or-append (f r) (joined f rs ++ rest) 0 c (omega (arith, q))
  joined_get c h (all∷ {a = r} {l = rs} q w) (suc i) b z rest =
      let e : suc i * k + c ≡ length (f r) + (i * k + c) = omega (arith, q) in
      ap (λ (n : ℕ). get_or ((f r ++ joined f rs) ++ rest) n 0) e ∙ ap (λ (l : List ℕ). get_or l (length (f r) + (i * k + c)) 0) (append_assoc (f r) (joined f rs) rest)
      ∙ get_or-append-add (f r) (joined f rs ++ rest) (i * k + c) 0 ∙ joined_get c h w i (le_of_suc-le-suc b) z rest

-- ---- a part that goes back into its whole

pub whole : (t p l : List ℕ) (at m k : ℕ) → length (drop at t) ≤ m → p ≡ l ++ drop k (take m (drop at t)) → take at t ++ (p ++ drop m (drop at t)) ≡ take at t ++ (l ++ drop (at + k) t)
whole t p l at m k h e =
    let z : drop m (drop at t) ≡ [] = drop_of_length-le (drop at t) h in
    rw (z, append-nil, e, take_all m (drop at t) h, drop-drop)

-- ---- a new row of the statement table

abbrev pub entry_row : Entry → List ℕ
entry_row e = e.word ∷ e.line ∷ e.holder ∷ e.index ∷ e.end ∷ 0 ∷ 0 ∷ 0 ∷ 0 ∷ 0 ∷ e.count ∷ e.detail ∷ []

unfoldable pub append_row : List ℕ → ℕ → Entry → List ℕ
append_row t n e = take (n * 12) t ++ (entry_row e ++ drop (n * 12 + 12) t)

sets : List ℕ → ℕ → List ℕ → List ℕ
sets p i [] = p
sets p i (a ∷ l) = sets (set p i a) (suc i) l

sets_from : (q p l : List ℕ) → length l ≤ length p → sets (q ++ p) (length q) l ≡ q ++ (l ++ drop (length l) p)
unfolding sets
sets_from q p [] h = refl
sets_from q [] (a ∷ l) h = absurd (not-suc-le-zero h)
sets_from q (b ∷ p) (a ∷ l) h =
    let e : suc (length q) ≡ length (q ++ (a ∷ [])) = omega (arith, length-append q (a ∷ [])) in
    ap (λ (z : List ℕ). sets z (suc (length q)) l) (set-append_seam q b p a) ∙ ap (λ (z : List ℕ). sets z (suc (length q)) l) (sym (append_assoc q (a ∷ []) p))
    ∙ ap (λ (n : ℕ). sets ((q ++ (a ∷ [])) ++ p) n l) e ∙ sets_from (q ++ (a ∷ [])) p l (le_of_suc-le-suc h) ∙ append_assoc q (a ∷ []) (l ++ drop (length l) p)

pub sets_row : (p : List ℕ) (a b c d e f g h i j k l : ℕ) → 12 ≤ length p
    → set (set (set (set (set (set (set (set (set (set (set (set p 0 a) 1 b) 2 c) 3 d) 4 e) 5 f) 6 g) 7 h) 8 i) 9 j) 10 k) 11 l
    ≡ (a ∷ b ∷ c ∷ d ∷ e ∷ f ∷ g ∷ h ∷ i ∷ j ∷ k ∷ l ∷ []) ++ drop 12 p
unfolding sets
sets_row p a b c d e f g h i j k l x = sets_from [] p (a ∷ b ∷ c ∷ d ∷ e ∷ f ∷ g ∷ h ∷ i ∷ j ∷ k ∷ l ∷ []) x
