-- The edge table: the nodes' lists one after the other, and for each node a row of four entries that says where its
-- lists stand. Assumes nothing.
use Rattle.std.specs.Prelude.{◌≡◌, eqb, take, drop, set}
use Rattle.std.proofs.Math.Path.{refl, ap}
use Rattle.std.proofs.Common.{sym, ◌∙◌, eq-eqb, ne_eqb, length-drop, length-set, take-append-drop, drop_of_length-le, drop-cons, drop-drop, take_all, take_at, drop_at, length-take-le, get_or-take, get_or-drop, get_or-append-add, get_or-set_same, get_or-set_other, ext_get_or}
use mathlib.Core.List.{List, [], ◌∷◌, ◌++◌, append_assoc, append-nil, map}
use Prim.Native.Nat.{ℕ, zero, suc, ◌+◌, ◌-◌, ◌*◌, ◌≤◌, ◌<◌}
use native.Mathlib.Omega.{arith}
use Rattle.std.proofs.Math.Decide.{ℕ_discrete}
use Rattle.std.proofs.Math.ListN.{length, length-append, get_or, get_or-append}
use Rattle.std.proofs.Math.Seq.{take-append_seam, drop-append-add, take-add, get_or-append_seam}
use Rattle.std.proofs.lemmas.List.{take-append-le, drop-append-le}
use Rattle.listings.specs.Bytes.{pick}
use Rattle.listings.specs.Every.{All, all[], all∷, all_append}
use Rattle.graph.specs.Lists.{below}
use Rattle.tables.specs.Columns.{succ_start, succ_count, pred_start, pred_count}

-- ---- lists one after the other, and where each begins

unfoldable pub joined_lists : List (List ℕ) → List ℕ
joined_lists [] = []
joined_lists (l ∷ ls) = l ++ joined_lists ls

unfoldable pub start_of : List (List ℕ) → ℕ → ℕ
start_of [] i = 0
start_of (l ∷ ls) zero = 0
start_of (l ∷ ls) (suc i) = length l + start_of ls i

-- the i-th list is its part of the table
pub part_law : (ls : List (List ℕ)) (i : ℕ) → i < length ls → take (length (get_or ls i [])) (drop (start_of ls i) (joined_lists ls)) ≡ get_or ls i []
unfolding joined_lists start_of
part_law [] i h = absurd (omega arith)
part_law (l ∷ ls) zero h = take-append_seam l (joined_lists ls)
part_law (l ∷ ls) (suc i) h = rw (drop-append-add l (joined_lists ls) (start_of ls i)) (part_law ls i (omega arith))

pub joined-append : (ls ms : List (List ℕ)) → joined_lists (ls ++ ms) ≡ joined_lists ls ++ joined_lists ms
unfolding joined_lists
joined-append [] ms = refl
joined-append (l ∷ ls) ms = rw (joined-append ls ms) (sym (append_assoc l (joined_lists ls) (joined_lists ms)))

pub joined_snoc : (ls : List (List ℕ)) (l : List ℕ) → joined_lists (ls ++ (l ∷ [])) ≡ joined_lists ls ++ l
unfolding joined_lists
joined_snoc ls l = joined-append ls (l ∷ []) ∙ ap (λ (k : List ℕ). joined_lists ls ++ k) (append-nil l)

pub start-zero : (ls : List (List ℕ)) → start_of ls 0 ≡ 0
unfolding start_of
start-zero [] = refl
start-zero (l ∷ ls) = refl

pub start_next : (ls : List (List ℕ)) (i : ℕ) → start_of ls (suc i) ≡ start_of ls i + length (get_or ls i [])
unfolding start_of
start_next [] i = refl
start_next (l ∷ ls) zero = omega (arith, start-zero ls)
start_next (l ∷ ls) (suc i) = omega (arith, start_next ls i)

pub start_grows : (ls : List (List ℕ)) (i d : ℕ) → start_of ls i ≤ start_of ls (i + d)
start_grows ls i zero = let e : i + 0 ≡ i = omega arith in rw e (omega arith)
start_grows ls i (suc d) = let e : i + suc d ≡ suc (i + d) = omega arith in rw (e, start_next ls (i + d)) (omega (arith, start_grows ls i d))

pub start-le : (ls : List (List ℕ)) (i j : ℕ) → i ≤ j → start_of ls i ≤ start_of ls j
start-le ls i j h = let e : i + (j - i) ≡ j = omega arith in rw e at (start_grows ls i (j - i))

pub start_end : (ls : List (List ℕ)) → start_of ls (length ls) ≡ length (joined_lists ls)
unfolding joined_lists start_of
start_end [] = refl
start_end (l ∷ ls) = omega (arith, start_end ls, length-append l (joined_lists ls))

-- a node's part ends within the table,
pub part_within : (ls : List (List ℕ)) (i : ℕ) → i < length ls → start_of ls i + length (get_or ls i []) ≤ length (joined_lists ls)
part_within ls i h = omega (arith, start_next ls i, start-le ls (suc i) (length ls) h, start_end ls)

-- so it is that part too of a table that holds more behind the lists
pub part_in : (ls : List (List ℕ)) (r : List ℕ) (i : ℕ) → i < length ls → take (length (get_or ls i [])) (drop (start_of ls i) (joined_lists ls ++ r)) ≡ get_or ls i []
part_in ls r i h =
    let w = part_within ls i h in
    let n = length (get_or ls i []) in
    ap (take n) (drop-append-le (start_of ls i) (joined_lists ls) r (omega arith))
    ∙ take-append-le n (drop (start_of ls i) (joined_lists ls)) r (omega (arith, length-drop (start_of ls i) (joined_lists ls))) ∙ part_law ls i h

-- a node's part ends before the part of a later node
pub parts_apart : (ls : List (List ℕ)) (i j : ℕ) → i < j → start_of ls i + length (get_or ls i []) ≤ start_of ls j
parts_apart ls i j h = omega (arith, start_next ls i, start-le ls (suc i) j h)

pub start-append : (ls ms : List (List ℕ)) (i : ℕ) → i ≤ length ls → start_of (ls ++ ms) i ≡ start_of ls i
unfolding start_of
start-append [] ms i h = let e : i ≡ 0 = omega arith in rw e (start-zero ms)
start-append (l ∷ ls) ms zero h = refl
start-append (l ∷ ls) ms (suc i) h = ap (λ (n : ℕ). length l + n) (start-append ls ms i (omega arith))

-- a table that holds every part holds the joined lists
pub joined_ext : (ls : List (List ℕ)) (t : List ℕ) → length (joined_lists ls) ≤ length t
    → ((i : ℕ) → i < length ls → (m : ℕ) → m < length (get_or ls i []) → get_or t (start_of ls i + m) 0 ≡ get_or (get_or ls i []) m 0)
    → take (length (joined_lists ls)) t ≡ joined_lists ls
unfolding joined_lists start_of
joined_ext [] t h f = refl
joined_ext (l ∷ ls) t h f =
    let n = length l in
    let k : n + length (joined_lists ls) ≤ length t = omega (arith, length-append l (joined_lists ls)) in
    let front : take n t ≡ l = ext_get_or 0 (take n t) l (length-take-le n t (omega arith))
    (λ m g. let g' : m < n = omega (arith, length-take-le n t (omega arith)) in get_or-take n t m 0 g' ∙ ap (λ (x : ℕ). get_or t x 0) (omega arith) ∙ f 0 (omega arith) m g') in
    let back : take (length (joined_lists ls)) (drop n t) ≡ joined_lists ls
    = joined_ext ls (drop n t) (omega (arith, length-drop n t))
    (λ i g m e. get_or-drop n t (start_of ls i + m) 0 ∙ ap (λ (x : ℕ). get_or t x 0) (omega arith) ∙ f (suc i) (omega arith) m e) in
    rw (length-append l (joined_lists ls), take-add n (length (joined_lists ls)) t, front, back)

-- ---- a list for each node, in node order

unfoldable pub lists_to : (ℕ → List ℕ) → ℕ → List (List ℕ)
lists_to f zero = []
lists_to f (suc n) = lists_to f n ++ (f n ∷ [])

module _ (f : ℕ → List ℕ) where
  pub length_lists : (n : ℕ) → length (lists_to f n) ≡ n
  unfolding lists_to
  length_lists zero = refl
  length_lists (suc n) = omega (arith, length-append (lists_to f n) (f n ∷ []), length_lists n)

  pub lists_at : (n i : ℕ) → i < n → get_or (lists_to f n) i [] ≡ f i
  unfolding lists_to
  lists_at zero i h = absurd (omega arith)
  lists_at (suc n) i h =
      elim (ℕ_discrete i (length (lists_to f n))) [
        | yes e ↦ ap (λ (x : ℕ). get_or (lists_to f n ++ (f n ∷ [])) x []) e ∙ get_or-append_seam (lists_to f n) (f n) [] [] ∙ ap f (sym (e ∙ length_lists n))
        | no ne ↦ let g : i < length (lists_to f n) = omega (arith, length_lists n) in
            get_or-append (lists_to f n) (f n ∷ []) [] i g ∙ lists_at n i (omega (arith, length_lists n))
      ]

  pub lists_map : (n : ℕ) → map f (below n) ≡ lists_to f n
  unfolding lists_to below
  lists_map zero = refl
  lists_map (suc n) = map_snoc (below n) n ∙ ap (λ (k : List (List ℕ)). k ++ (f n ∷ [])) (lists_map n)
    where
      map_snoc : (l : List ℕ) (a : ℕ) → map f (l ++ (a ∷ [])) ≡ map f l ++ (f a ∷ [])
      map_snoc [] a = refl
      map_snoc (b ∷ l) a = ap (λ (k : List (List ℕ)). f b ∷ k) (map_snoc l a)

  pub lists_all : {P : List ℕ → Type 0} → ((i : ℕ) → P (f i)) → (n : ℕ) → All P (lists_to f n)
  unfolding lists_to
  lists_all h zero = all[]
  lists_all h (suc n) = all_append (lists_all h n) (all∷ (h n) all[])

-- ---- rows of four: column by column, and as the table has them

unfoldable pub rows_of : (ℕ → ℕ) → (ℕ → ℕ) → (ℕ → ℕ) → (ℕ → ℕ) → ℕ → List ℕ
rows_of f g h k zero = []
rows_of f g h k (suc n) = rows_of f g h k n ++ (f n ∷ g n ∷ h n ∷ k n ∷ [])

-- the rows of n nodes: start and count in the table of ls, start and count in the table of ps
unfoldable pub list_rows : List (List ℕ) → List (List ℕ) → ℕ → List ℕ
list_rows ls ps n = rows_of (start_of ls) (λ i. length (get_or ls i [])) (start_of ps) (λ i. length (get_or ps i [])) n

-- the first n rows of t by their columns; behind them t is as t₀
pub record Columns (n : ℕ) (f g h k : ℕ → ℕ) (t₀ t : List ℕ) : Type 0 where
  pub size : length t ≡ length t₀
  pub col0 : (i : ℕ) → i < n → succ_start t i ≡ f i
  pub col1 : (i : ℕ) → i < n → succ_count t i ≡ g i
  pub col2 : (i : ℕ) → i < n → pred_start t i ≡ h i
  pub col3 : (i : ℕ) → i < n → pred_count t i ≡ k i
  pub past : (j : ℕ) → n * 4 ≤ j → get_or t j 0 ≡ get_or t₀ j 0

-- what stands behind the rows
pub columns_past : {n : ℕ} {f g h k : ℕ → ℕ} {t₀ t : List ℕ} → Columns n f g h k t₀ t → drop (n * 4) t ≡ drop (n * 4) t₀
columns_past {n} {t₀ = t₀} {t = t} c =
    let s = c.size in
    ext_get_or 0 (drop (n * 4) t) (drop (n * 4) t₀) (omega (arith, length-drop (n * 4) t, length-drop (n * 4) t₀))
    (λ i _. get_or-drop (n * 4) t i 0 ∙ c.past (n * 4 + i) (omega arith) ∙ sym (get_or-drop (n * 4) t₀ i 0))

four : (m : ℕ) (t : List ℕ) → m + 4 ≤ length t → take 4 (drop m t) ≡ get_or t m 0 ∷ get_or t (m + 1) 0 ∷ get_or t (m + 2) 0 ∷ get_or t (m + 3) 0 ∷ []
four m t h = ap (take 4) (drop-cons t m 0 (omega arith) ∙ ap (λ (r : List ℕ). get_or t m 0 ∷ r) (more (m + 1) e₁ (omega arith) (more (m + 2) e₂ (omega arith) (more (m + 3) e₃ (omega arith) refl))))
  where
    e₁ : suc m ≡ m + 1
    e₁ = omega arith

    e₂ : suc (m + 1) ≡ m + 2
    e₂ = omega arith

    e₃ : suc (m + 2) ≡ m + 3
    e₃ = omega arith

    more : (i : ℕ) {j : ℕ} {r : List ℕ} → j ≡ i → i < length t → drop (suc i) t ≡ r → drop j t ≡ get_or t i 0 ∷ r
    more i {r = r} e g d = ap (λ (x : ℕ). drop x t) e ∙ drop-cons t i 0 g ∙ ap (λ (k : List ℕ). get_or t i 0 ∷ k) d

module _ (f g h k : ℕ → ℕ) where
  pub length-rows : (n : ℕ) → length (rows_of f g h k n) ≡ n * 4
  unfolding rows_of
  length-rows zero = refl
  length-rows (suc n) = omega (arith, length-append (rows_of f g h k n) (f n ∷ g n ∷ h n ∷ k n ∷ []), length-rows n)

  columns_take : (n : ℕ) (t₀ t : List ℕ) → n * 4 ≤ length t → Columns n f g h k t₀ t → (m : ℕ) → m ≤ n → take (m * 4) t ≡ rows_of f g h k m
  unfolding rows_of
  columns_take n t₀ t b c zero l = refl
  columns_take n t₀ t b c (suc m) l =
      let e : suc m * 4 ≡ m * 4 + 4 = omega arith in
      rw (e, take-add (m * 4) 4 t, columns_take n t₀ t b c m (omega arith), four (m * 4) t (omega arith), c.col0 m l, c.col1 m l, c.col2 m l, c.col3 m l)

  -- the columns of n rows as one table
  pub columns_rows : (n : ℕ) (t₀ t : List ℕ) → n * 4 ≤ length t₀ → Columns n f g h k t₀ t → t ≡ rows_of f g h k n ++ drop (n * 4) t₀
  columns_rows n t₀ t b c =
      let s = c.size in
      let d : drop (n * 4) t ≡ drop (n * 4) t₀ = columns_past c in
      sym (take-append-drop (n * 4) t) ∙ (rw (columns_take n t₀ t (omega arith) c n (omega arith), d) refl)

  rows_at : (n i j : ℕ) (r : List ℕ) → i < n → j < 4 → get_or (rows_of f g h k n ++ r) (i * 4 + j) 0 ≡ get_or (f i ∷ g i ∷ h i ∷ k i ∷ []) j 0
  unfolding rows_of
  rows_at zero i j r l b = absurd (omega arith)
  rows_at (suc n) i j r l b =
      let q = f n ∷ g n ∷ h n ∷ k n ∷ [] in
      rw (append_assoc (rows_of f g h k n) q r)
      (elim (ℕ_discrete i n) [
        | yes e ↦ rw (e, ← (length-rows n)) (get_or-append-add (rows_of f g h k n) (q ++ r) j 0 ∙ get_or-append q r 0 j b)
        | no ne ↦ rows_at n i j (q ++ r) (omega arith) b
      ])

  -- and back
  pub rows_columns : (n : ℕ) (t₀ t : List ℕ) → n * 4 ≤ length t₀ → t ≡ rows_of f g h k n ++ drop (n * 4) t₀ → Columns n f g h k t₀ t
  rows_columns n t₀ t b e =
      let z : (i : ℕ) → i * 4 ≡ i * 4 + 0 = λ i. omega arith in
      record {
        size = rw (e) (omega (arith, length-append (rows_of f g h k n) (drop (n * 4) t₀), length-rows n, length-drop (n * 4) t₀));
        col0 = λ i l. ap (λ (s : List ℕ). get_or s (i * 4) 0) e ∙ ap (λ (x : ℕ). get_or (rows_of f g h k n ++ drop (n * 4) t₀) x 0) (z i) ∙ rows_at n i 0 (drop (n * 4) t₀) l (omega arith);
        col1 = λ i l. ap (λ (s : List ℕ). get_or s (i * 4 + 1) 0) e ∙ rows_at n i 1 (drop (n * 4) t₀) l (omega arith);
        col2 = λ i l. ap (λ (s : List ℕ). get_or s (i * 4 + 2) 0) e ∙ rows_at n i 2 (drop (n * 4) t₀) l (omega arith);
        col3 = λ i l. ap (λ (s : List ℕ). get_or s (i * 4 + 3) 0) e ∙ rows_at n i 3 (drop (n * 4) t₀) l (omega arith);
        past = λ j l. ap (λ (s : List ℕ). get_or s j 0) e ∙ behind j (j - n * 4) (omega arith);
      }
    where
      behind : (j d : ℕ) → j ≡ n * 4 + d → get_or (rows_of f g h k n ++ drop (n * 4) t₀) j 0 ≡ get_or t₀ j 0
      behind j d q =
          let q' : j ≡ length (rows_of f g h k n) + d = omega (arith, length-rows n) in
          ap (λ (x : ℕ). get_or (rows_of f g h k n ++ drop (n * 4) t₀) x 0) q' ∙ get_or-append-add (rows_of f g h k n) (drop (n * 4) t₀) d 0 ∙ get_or-drop (n * 4) t₀ d 0
          ∙ ap (λ (x : ℕ). get_or t₀ x 0) (sym q)

-- a table's columns are what they are
pub columns_self : (n : ℕ) (t : List ℕ) → Columns n (succ_start t) (succ_count t) (pred_start t) (pred_count t) t t
columns_self n t = record { size = refl; col0 = λ i l. refl; col1 = λ i l. refl; col2 = λ i l. refl; col3 = λ i l. refl; past = λ j l. refl }

pub columns_ext : {n : ℕ} {f g h k f' g' h' k' : ℕ → ℕ} {t₀ t : List ℕ} → Columns n f g h k t₀ t
    → ((i : ℕ) → i < n → f i ≡ f' i) → ((i : ℕ) → i < n → g i ≡ g' i) → ((i : ℕ) → i < n → h i ≡ h' i) → ((i : ℕ) → i < n → k i ≡ k' i) → Columns n f' g' h' k' t₀ t
columns_ext c e₀ e₁ e₂ e₃ =
    record {
      size = c.size;
      col0 = λ i l. c.col0 i l ∙ e₀ i l;
      col1 = λ i l. c.col1 i l ∙ e₁ i l;
      col2 = λ i l. c.col2 i l ∙ e₂ i l;
      col3 = λ i l. c.col3 i l ∙ e₃ i l;
      past = c.past;
    }

-- first to t, then to t'
pub columns_then : {n : ℕ} {f g h k f' g' h' k' : ℕ → ℕ} {t₀ t t' : List ℕ} → Columns n f g h k t₀ t → Columns n f' g' h' k' t t' → Columns n f' g' h' k' t₀ t'
columns_then c d =
    record { size = d.size ∙ c.size; col0 = d.col0; col1 = d.col1; col2 = d.col2; col3 = d.col3; past = λ j l. d.past j l ∙ c.past j l }

-- ---- one entry of a row changes

unfoldable pub changed : (ℕ → ℕ) → ℕ → ℕ → ℕ → ℕ
changed f x v i = pick (eqb i x) v (f i)

pub changed_here : (f : ℕ → ℕ) (x v i : ℕ) → i ≡ x → changed f x v i ≡ v
unfolding changed
changed_here f x v i e = simp (eq-eqb i x e)

pub changed-other : (f : ℕ → ℕ) (x v i : ℕ) → (i ≡ x → ⊥) → changed f x v i ≡ f i
unfolding changed
changed-other f x v i e = simp (ne_eqb i x e)

module _ {n : ℕ} {f g h k : ℕ → ℕ} {t₀ t : List ℕ} (b : n * 4 ≤ length t₀) (x v : ℕ) (l : x < n) (c : Columns n f g h k t₀ t) where
  at_entry : (f : ℕ → ℕ) (p : ℕ) → ((i : ℕ) → i < n → get_or t (i * 4 + p) 0 ≡ f i) → x * 4 + p < length t → (i : ℕ) → i < n → get_or (set t (x * 4 + p) v) (i * 4 + p) 0 ≡ changed f x v i
  at_entry f p old q i m =
      elim (ℕ_discrete i x) [
        | yes e ↦ ap (λ (z : ℕ). get_or (set t (x * 4 + p) v) (z * 4 + p) 0) e ∙ get_or-set_same t (x * 4 + p) v 0 q ∙ sym (changed_here f x v i e)
        | no ne ↦ get_or-set_other t (x * 4 + p) (i * 4 + p) v 0 (λ z. ne (omega arith)) ∙ old i m ∙ sym (changed-other f x v i ne)
      ]

  pub columns_set2 : Columns n f g (changed h x v) k t₀ (set t (x * 4 + 2) v)
  columns_set2 =
      record {
        size = length-set t (x * 4 + 2) v ∙ c.size;
        col0 = λ i m. get_or-set_other t (x * 4 + 2) (i * 4) v 0 (λ z. omega arith) ∙ c.col0 i m;
        col1 = λ i m. get_or-set_other t (x * 4 + 2) (i * 4 + 1) v 0 (λ z. omega arith) ∙ c.col1 i m;
        col2 = at_entry h 2 c.col2 (omega (arith, c.size));
        col3 = λ i m. get_or-set_other t (x * 4 + 2) (i * 4 + 3) v 0 (λ z. omega arith) ∙ c.col3 i m;
        past = λ j m. get_or-set_other t (x * 4 + 2) j v 0 (λ z. omega arith) ∙ c.past j m;
      }

  pub columns_set3 : Columns n f g h (changed k x v) t₀ (set t (x * 4 + 3) v)
  columns_set3 =
      record {
        size = length-set t (x * 4 + 3) v ∙ c.size;
        col0 = λ i m. get_or-set_other t (x * 4 + 3) (i * 4) v 0 (λ z. omega arith) ∙ c.col0 i m;
        col1 = λ i m. get_or-set_other t (x * 4 + 3) (i * 4 + 1) v 0 (λ z. omega arith) ∙ c.col1 i m;
        col2 = λ i m. get_or-set_other t (x * 4 + 3) (i * 4 + 2) v 0 (λ z. omega arith) ∙ c.col2 i m;
        col3 = at_entry k 3 c.col3 (omega (arith, c.size));
        past = λ j m. get_or-set_other t (x * 4 + 3) j v 0 (λ z. omega arith) ∙ c.past j m;
      }

-- ---- the lists stored so far, in node order

-- the lists ls stand at the front of the table, at entries in all, and the rows of their nodes say where
pub record ListsStored (ls : List (List ℕ)) (at : ℕ) (lists₀ lists succ₀ succ : List ℕ) : Type 0 where
  pub used : at ≡ length (joined_lists ls)
  pub table : succ ≡ joined_lists ls ++ drop at succ₀
  pub rows : Columns (length ls) (start_of ls) (λ i. length (get_or ls i [])) (pred_start lists₀) (pred_count lists₀) lists₀ lists

-- one more list l: it was stored behind the others, and its row was written
pub record Appended (node at count : ℕ) (l lists lists' succ succ' : List ℕ) (r : ℕ) : Type 0 where
  pub next : r ≡ at + count
  pub table : succ' ≡ take at succ ++ (l ++ drop (at + count) succ)
  pub row : lists' ≡ set (set lists (node * 4) at) (node * 4 + 1) count

pub stored_none : (lists succ : List ℕ) → ListsStored [] 0 lists lists succ succ
unfolding joined_lists start_of
stored_none lists succ =
    record { used = refl; table = refl; rows = record { size = refl; col0 = λ i l. absurd (omega arith); col1 = λ i l. absurd (omega arith); col2 = λ i l. absurd (omega arith); col3 = λ i l. absurd (omega arith); past = λ j l. refl } }

-- the part from a start on came back with a list at its front
pub part_back : (l e p : List ℕ) (at m : ℕ) → length (drop at e) ≤ m → p ≡ l ++ drop (length l) (take m (drop at e)) → take at e ++ (p ++ drop m (drop at e)) ≡ take at e ++ (l ++ drop (at + length l) e)
part_back l e p at m h q =
    let z : drop m (drop at e) ≡ [] = drop_of_length-le (drop at e) h in
    rw (z, append-nil, q, take_all m (drop at e) h, drop-drop)

module _ {ls : List (List ℕ)} {at : ℕ} {lists₀ lists succ₀ succ : List ℕ} (s : ListsStored ls at lists₀ lists succ₀ succ) where
  stored_rows : (l lists' : List ℕ) → lists' ≡ set (set lists (length ls * 4) at) (length ls * 4 + 1) (length l) → length ls * 4 + 4 ≤ length lists₀
      → Columns (length (ls ++ (l ∷ []))) (start_of (ls ++ (l ∷ []))) (λ i. length (get_or (ls ++ (l ∷ [])) i [])) (pred_start lists₀) (pred_count lists₀) lists₀ lists'
  stored_rows l lists' e b =
      record {
        size = ap length e ∙ length-set t₁ (n * 4 + 1) (length l) ∙ length-set lists (n * 4) at ∙ q.size;
        col0 = λ i h. see (i * 4) ∙ get_or-set_other t₁ (n * 4 + 1) (i * 4) (length l) 0 (λ z. omega arith)
            ∙ elim (ℕ_discrete i n) [
              | yes y ↦ ap (λ (x : ℕ). get_or t₁ (x * 4) 0) y ∙ get_or-set_same lists (n * 4) at 0 (omega (arith, q.size)) ∙ s.used ∙ sym (start_end ls)
                  ∙ sym (start-append ls (l ∷ []) n (omega arith)) ∙ ap (start_of (ls ++ (l ∷ []))) (sym y)
              | no ne ↦ let g : i < n = old i h ne in
                  get_or-set_other lists (n * 4) (i * 4) at 0 (λ z. omega arith) ∙ q.col0 i g ∙ sym (start-append ls (l ∷ []) i (omega arith))
            ];
        col1 = λ i h. see (i * 4 + 1)
            ∙ elim (ℕ_discrete i n) [
              | yes y ↦ ap (λ (x : ℕ). get_or (set t₁ (n * 4 + 1) (length l)) (x * 4 + 1) 0) y ∙ get_or-set_same t₁ (n * 4 + 1) (length l) 0 (omega (arith, q.size, length-set lists (n * 4) at))
                  ∙ ap length (sym (get_or-append_seam ls l [] [])) ∙ ap (λ (x : ℕ). length (get_or (ls ++ (l ∷ [])) x [])) (sym y)
              | no ne ↦ let g : i < n = old i h ne in
                  get_or-set_other t₁ (n * 4 + 1) (i * 4 + 1) (length l) 0 (λ z. omega arith) ∙ get_or-set_other lists (n * 4) (i * 4 + 1) at 0 (λ z. omega arith)
                  ∙ q.col1 i g ∙ ap length (sym (get_or-append ls (l ∷ []) [] i g))
            ];
        col2 = λ i h. see (i * 4 + 2) ∙ get_or-set_other t₁ (n * 4 + 1) (i * 4 + 2) (length l) 0 (λ z. omega arith) ∙ get_or-set_other lists (n * 4) (i * 4 + 2) at 0 (λ z. omega arith)
            ∙ elim (ℕ_discrete i n) [ yes y ↦ q.past (i * 4 + 2) (omega arith) | no ne ↦ q.col2 i (old i h ne) ];
        col3 = λ i h. see (i * 4 + 3) ∙ get_or-set_other t₁ (n * 4 + 1) (i * 4 + 3) (length l) 0 (λ z. omega arith) ∙ get_or-set_other lists (n * 4) (i * 4 + 3) at 0 (λ z. omega arith)
            ∙ elim (ℕ_discrete i n) [ yes y ↦ q.past (i * 4 + 3) (omega arith) | no ne ↦ q.col3 i (old i h ne) ];
        past = λ j h. let g : n * 4 + 4 ≤ j = omega (arith, longer) in
            see j ∙ get_or-set_other t₁ (n * 4 + 1) j (length l) 0 (λ z. omega arith) ∙ get_or-set_other lists (n * 4) j at 0 (λ z. omega arith) ∙ q.past j (omega arith);
      }
    where
      n : ℕ
      n = length ls

      t₁ : List ℕ
      t₁ = set lists (n * 4) at

      q : Columns n (start_of ls) (λ i. length (get_or ls i [])) (pred_start lists₀) (pred_count lists₀) lists₀ lists
      q = s.rows

      see : (j : ℕ) → get_or lists' j 0 ≡ get_or (set t₁ (n * 4 + 1) (length l)) j 0
      see j = ap (λ (t : List ℕ). get_or t j 0) e

      longer : length (ls ++ (l ∷ [])) ≡ length ls + 1
      longer = length-append ls (l ∷ [])

      old : (i : ℕ) → i < length (ls ++ (l ∷ [])) → (i ≡ length ls → ⊥) → i < length ls
      old i h ne = omega (arith, longer)

  pub stored_more : (l lists' succ' : List ℕ) (count r : ℕ) → length l ≡ count → length ls * 4 + 4 ≤ length lists₀
      → Appended (length ls) at count l lists lists' succ succ' r → ListsStored (ls ++ (l ∷ [])) r lists₀ lists' succ₀ succ'
  stored_more l lists' succ' count r e m a =
      let j = joined_lists ls in
      let t : take at succ ≡ j = ap (take at) s.table ∙ take_at j (drop at succ₀) at (sym s.used) in
      let d : drop (at + count) succ ≡ drop r succ₀
      = sym (drop-drop count at succ) ∙ ap (drop count) (ap (drop at) s.table ∙ drop_at j (drop at succ₀) at (sym s.used)) ∙ drop-drop count at succ₀ ∙ ap (λ (x : ℕ). drop x succ₀) (sym a.next) in
      record {
        used = rw (joined_snoc ls l) (omega (arith, length-append j l, a.next, s.used));
        table = a.table ∙ (rw (t, d, joined_snoc ls l) (sym (append_assoc j l (drop r succ₀))));
        rows = stored_rows l lists' (a.row ∙ ap (λ (x : ℕ). set (set lists (length ls * 4) at) (length ls * 4 + 1) x) (sym e)) m;
      }

  -- a stored list is the part of the table that its row names
  pub stored_part : (i : ℕ) → i < length ls → take (succ_count lists i) (drop (succ_start lists i) succ) ≡ get_or ls i []
  stored_part i h =
      ap (λ (n : ℕ). take n (drop (succ_start lists i) succ)) (s.rows.col1 i h) ∙ ap (λ (n : ℕ). take (length (get_or ls i [])) (drop n succ)) (s.rows.col0 i h)
      ∙ ap (λ (t : List ℕ). take (length (get_or ls i [])) (drop (start_of ls i) t)) s.table ∙ part_in ls (drop at succ₀) i h

-- the first entries of a list, stored in the part from `at` on
pub appended : (list lists succ p : List ℕ) (node at count : ℕ) → count ≤ length list → p ≡ take count list ++ drop count (take (length succ - at) (drop at succ))
    → Appended node at count (take count list) lists (set (set lists (node * 4) at) (node * 4 + 1) count) succ (take at succ ++ (p ++ drop (length succ - at) (drop at succ))) (at + count)
appended list lists succ p node at count h e =
    let q : length (take count list) ≡ count = length-take-le count list h in
    record {
      next = refl;
      table = part_back (take count list) succ p at (length succ - at) (omega (arith, length-drop at succ)) (rw q e) ∙ ap (λ (n : ℕ). take at succ ++ (take count list ++ drop (at + n) succ)) q;
      row = refl;
    }

-- a list that stood in another table, from start on
pub moved : {node at s n : ℕ} {lists lists' succ succ' : List ℕ} {r : ℕ} (start count : ℕ) (from : List ℕ) → start ≡ s → count ≡ n
    → Appended node at count (take count (take (length from - start) (drop start from))) lists lists' succ succ' r → Appended node at n (take n (drop s from)) lists lists' succ succ' r
moved start count from es en a =
    let e : take (length from - start) (drop start from) ≡ drop start from = take_all (length from - start) (drop start from) (omega (arith, length-drop start from)) in
    rw (← es, ← en) (rw e at a)
