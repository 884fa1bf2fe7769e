-- A space more, put anywhere into a line of an accepted file below 65,536 bytes, changes no meaning: outside quotes, REM and DATA, and in them (document 02, L3). Assumes nothing.
use Rattle.std.specs.Prelude.{ℕ, zero, suc, ◌+◌, ◌*◌, ◌-◌, ◌<◌, ◌≤◌, ◌≡◌, refl, List, [], ◌∷◌, ◌++◌, Bool, true, false, ◌&&◌, ◌||◌, eqb, ltb, leb, length, take, drop}
use Rattle.std.proofs.Common.{sym, ap, ◌∙◌, arith, lt-ltb, ltb-true, le-leb}
use Rattle.std.proofs.Math.Option.{Option, none, some}
use Rattle.listings.specs.Bytes.{pick}
use Rattle.listings.specs.Listing.{∅, Lines, nolines, Listing, count}
use Rattle.listings.specs.Read.{Outcome, taken, refused, Answer, listing, refusal}
use Rattle.listings.specs.Scan.{index_of}
use Rattle.program_files.specs.Program.{Placed, Cover, uncovered, quoted, remark, items, quoted_item, counted, behind, counts, join_go, body_of, Body, Offence, sooner, soonest, offences, foreign, lacking, with_line, stmts_in, judged, program, lines_from, loaded, read_program}
use Rattle.program_laws.specs.Places.{erase, erase_body, erase-length, erase-nil, join_go_erased, body_erased, foreign_erased, lacking_erased, stmts_erased}

-- A file goes on from place p with a link, and place i lies among the bytes of one of its lines, or at that line's zero. It walks as `lines_from` does
pub data Within : ℕ → List ℕ → ℕ → Type 0 where
  -- in the first line: behind a link that is not 0 and the number word, up to the zero
  here : {p a b c d i : ℕ} {l : List ℕ} → (eqb a 0 && eqb b 0) ≡ false → p + 4 ≤ i → i ≤ p + 4 + index_of 0 l → Within p (a ∷ b ∷ c ∷ d ∷ l) i
  -- or in one behind that zero
  later : {p a b c d i : ℕ} {l : List ℕ} → (eqb a 0 && eqb b 0) ≡ false → Within (p + 5 + index_of 0 l) (drop (suc (index_of 0 l)) l) i → Within p (a ∷ b ∷ c ∷ d ∷ l) i

-- place i of the file f lies within a line, or at its zero ("two load address bytes, then per line ..")
abbrev pub InLine : List ℕ → ℕ → Type 0
InLine f i = Within 2 (drop 2 f) i

-- a space put in at i
abbrev spaced : ℕ → List ℕ → List ℕ
spaced i l = take i l ++ (32 ∷ drop i l)

-- ---- the bytes of a line with a space more

spaced-length : (i : ℕ) (l : List ℕ) → length (spaced i l) ≡ suc (length l)
spaced-length zero l = refl
spaced-length (suc i) [] = refl
spaced-length (suc i) (b ∷ l) = ap suc (spaced-length i l)

counted-step : (b p q : ℕ) (x y : Bool) (r s : List Placed) → (x ≡ false → erase r ≡ erase s)
    → erase (pick x ((p, 0) ∷ []) (pick y ((p, b) ∷ r) r)) ≡ erase (pick x ((q, 0) ∷ []) (pick y ((q, b) ∷ s) s))
unfolding erase
counted-step b p q true y r s h = refl
counted-step b p q false true r s h = ap (λ (z : List Placed). (0, b) ∷ z) (h refl)
counted-step b p q false false r s h = h refl

-- the bytes that count, moved
moved : (c : Cover) (p q : ℕ) (l : List ℕ) → erase (counted c p l) ≡ erase (counted c q l)
unfolding counted erase
moved c p q [] = refl
moved c p q (b ∷ l) = counted-step b p q (eqb b 0) (counts c b) (counted (behind c b) (suc p) l) (counted (behind c b) (suc q) l) (λ e. moved (behind c b) (suc p) (suc q) l)

-- a space never counts, and what follows is covered as before
a_space : (c : Cover) (p : ℕ) (l : List ℕ) → counted c p (32 ∷ l) ≡ counted c (suc p) l
unfolding counted behind counts
a_space uncovered p l = refl
a_space quoted p l = refl
a_space remark p l = refl
a_space items p l = refl
a_space quoted_item p l = refl

-- up to the zero
here_counted : (c : Cover) (p q i : ℕ) (l : List ℕ) → i ≤ index_of 0 l → erase (counted c p (spaced i l)) ≡ erase (counted c q l)
unfolding index_of counted
here_counted c p q zero l h = ap erase (a_space c p l) ∙ moved c (suc p) q l
here_counted c p q (suc i) [] h = absurd (omega arith)
here_counted c p q (suc i) (b ∷ l) h =
    counted-step b p q (eqb b 0) (counts c b) (counted (behind c b) (suc p) (spaced i l)) (counted (behind c b) (suc q) l)
    (λ e. here_counted (behind c b) (suc p) (suc q) i l (let g = rw e at h in omega arith))

here_index : (i : ℕ) (l : List ℕ) → i ≤ index_of 0 l → index_of 0 (spaced i l) ≡ suc (index_of 0 l)
unfolding index_of
here_index zero l h = refl
here_index (suc i) [] h = absurd (omega arith)
here_index (suc i) (b ∷ l) h = go (eqb b 0) h (here_index i l)
  where
    go : (x : Bool) → suc i ≤ pick x 0 (suc (index_of 0 l)) → (i ≤ index_of 0 l → index_of 0 (spaced i l) ≡ suc (index_of 0 l))
        → pick x 0 (suc (index_of 0 (spaced i l))) ≡ suc (pick x 0 (suc (index_of 0 l)))
    go true q f = absurd (omega arith)
    go false q f = ap suc (f (omega arith))

here_drop : (i : ℕ) (l : List ℕ) → i ≤ index_of 0 l → drop (suc (suc (index_of 0 l))) (spaced i l) ≡ drop (suc (index_of 0 l)) l
unfolding index_of
here_drop zero l h = refl
here_drop (suc i) [] h = absurd (omega arith)
here_drop (suc i) (b ∷ l) h = go (eqb b 0) h (here_drop i l)
  where
    go : (x : Bool) → suc i ≤ pick x 0 (suc (index_of 0 l)) → (i ≤ index_of 0 l → drop (suc (suc (index_of 0 l))) (spaced i l) ≡ drop (suc (index_of 0 l)) l)
        → drop (suc (suc (pick x 0 (suc (index_of 0 l))))) (b ∷ spaced i l) ≡ drop (suc (pick x 0 (suc (index_of 0 l)))) (b ∷ l)
    go true q f = absurd (omega arith)
    go false q f = f (omega arith)

-- behind the zero
late-counted : (c : Cover) (p q i : ℕ) (l : List ℕ) → index_of 0 l < i → index_of 0 l < length l → erase (counted c p (spaced i l)) ≡ erase (counted c q l)
unfolding index_of counted
late-counted c p q i [] h g = absurd (omega arith)
late-counted c p q zero (b ∷ l) h g = absurd (omega arith)
late-counted c p q (suc i) (b ∷ l) h g =
    counted-step b p q (eqb b 0) (counts c b) (counted (behind c b) (suc p) (spaced i l)) (counted (behind c b) (suc q) l)
    (λ e. late-counted (behind c b) (suc p) (suc q) i l (let r = rw e at h in omega arith) (let r = rw e at g in omega arith))

late_index : (i : ℕ) (l : List ℕ) → index_of 0 l < i → index_of 0 l < length l → index_of 0 (spaced i l) ≡ index_of 0 l
unfolding index_of
late_index i [] h g = absurd (omega arith)
late_index zero (b ∷ l) h g = absurd (omega arith)
late_index (suc i) (b ∷ l) h g = go (eqb b 0) h g (late_index i l)
  where
    go : (x : Bool) → pick x 0 (suc (index_of 0 l)) < suc i → pick x 0 (suc (index_of 0 l)) < suc (length l) → (index_of 0 l < i → index_of 0 l < length l → index_of 0 (spaced i l) ≡ index_of 0 l)
        → pick x 0 (suc (index_of 0 (spaced i l))) ≡ pick x 0 (suc (index_of 0 l))
    go true q r f = refl
    go false q r f = ap suc (f (omega arith) (omega arith))

late-drop : (i j : ℕ) (l : List ℕ) → i ≡ suc (index_of 0 l + j) → index_of 0 l < length l → drop (suc (index_of 0 l)) (spaced i l) ≡ spaced j (drop (suc (index_of 0 l)) l)
unfolding index_of
late-drop i j [] h g = absurd (omega arith)
late-drop zero j (b ∷ l) h g = absurd (omega arith)
late-drop (suc i) j (b ∷ l) h g = go (eqb b 0) h g (late-drop i j l)
  where
    go : (x : Bool) → suc i ≡ suc (pick x 0 (suc (index_of 0 l)) + j) → pick x 0 (suc (index_of 0 l)) < suc (length l)
        → (i ≡ suc (index_of 0 l + j) → index_of 0 l < length l → drop (suc (index_of 0 l)) (spaced i l) ≡ spaced j (drop (suc (index_of 0 l)) l))
        → drop (suc (pick x 0 (suc (index_of 0 l)))) (b ∷ spaced i l) ≡ spaced j (drop (suc (pick x 0 (suc (index_of 0 l)))) (b ∷ l))
    go true q r f = let e : i ≡ j = omega arith in ap (λ (z : ℕ). spaced z l) e
    go false q r f = f (omega arith) (omega arith)

-- ---- an accepted line

-- the statements of a line, by its bytes that count
abbrev body_from : List Placed → Body
body_from cs = body_of (length cs) ∅ (join_go cs)

body_from-erased : (cs : List Placed) → erase_body (body_from cs) ≡ body_from (erase cs)
body_from-erased cs = sym (body_erased (length cs) ∅ (join_go cs)) ∙ rw (← join_go_erased cs, ← erase-length cs) refl

-- no offence: the number is one, no byte is foreign, nothing is lacking, the zero is there
record Clean (n : ℕ) (l : List ℕ) (cs : List Placed) (b : Body) : Type 0 where
  number : leb n 63999 ≡ true
  tokens : foreign cs ≡ []
  entire : lacking b ≡ []
  zeroed : ltb (index_of 0 l) (length l) ≡ true

nil-parts : (k l : List Offence) → k ++ l ≡ [] → (k ≡ []) × (l ≡ [])
nil-parts [] l h = (refl, h)
nil-parts (a ∷ k) l h = cc

nil-pick : (x : Bool) (a : Offence) → pick x [] (a ∷ []) ≡ [] → x ≡ true
nil-pick true a h = refl
nil-pick false a h = cc

clean : (e q n : ℕ) (l : List ℕ) (cs : List Placed) (b : Body) → offences e q n l cs b ≡ [] → Clean n l cs b
unfolding offences
clean e q n l cs b h =
    let x = nil-parts (pick (leb n 63999) [] ((q, 35) ∷ [])) (foreign cs ++ (lacking b ++ pick (ltb (index_of 0 l) (length l)) [] ((e, 33) ∷ []))) h in
    let y = nil-parts (foreign cs) (lacking b ++ pick (ltb (index_of 0 l) (length l)) [] ((e, 33) ∷ [])) x.1 in
    let z = nil-parts (lacking b) (pick (ltb (index_of 0 l) (length l)) [] ((e, 33) ∷ [])) y.1 in
    record { number = nil-pick (leb n 63999) (q, 35) x.0; tokens = y.0; entire = z.0; zeroed = nil-pick (ltb (index_of 0 l) (length l)) (e, 33) z.1 }

unoffending : (e q n : ℕ) (l : List ℕ) (cs : List Placed) (b : Body) → Clean n l cs b → offences e q n l cs b ≡ []
unfolding offences
unoffending e q n l cs b h = rw (h.number, h.tokens, h.entire, h.zeroed)

none-soonest : (l : List Offence) → soonest l ≡ none → l ≡ []
unfolding soonest sooner
none-soonest [] h = refl
none-soonest (a ∷ l) h = go (soonest l) h
  where
    go : (o : Option Offence) → sooner a o ≡ none → a ∷ l ≡ []
    go none h = cc
    go (some b) h = at (ltb a.0 b.0 || (eqb a.0 b.0 && leb a.1 b.1)) h
      where
        at : (x : Bool) → pick x (some a) (some b) ≡ none → a ∷ l ≡ []
        at true h = cc
        at false h = cc

-- a line that is judged to be a part of a listing has no offence
judged_clean : (ls : Lines) (e q n : ℕ) (l : List ℕ) (cs : List Placed) (b : Body) (f : Lines → Answer) (L : Listing) → judged ls n b (soonest (offences e q n l cs b)) f ≡ listing L → Clean n l cs b
unfolding judged
judged_clean ls e q n l cs b f L h = clean e q n l cs b (none-soonest (offences e q n l cs b) (go (soonest (offences e q n l cs b)) h))
  where
    go : (o : Option Offence) → judged ls n b o f ≡ listing L → o ≡ none
    go none g = refl
    go (some o) g = cc

-- the lines behind it may be told otherwise
judged_on : (ls : Lines) (n : ℕ) (b c : Body) (f g : Lines → Answer) (L : Listing) → stmts_in c ≡ stmts_in b → ((ms : Lines) → f ms ≡ listing L → g ms ≡ listing L)
    → judged ls n b none f ≡ listing L → judged ls n c none g ≡ listing L
unfolding judged
judged_on ls n b c f g L e t h = go (with_line ls n (stmts_in b)) (with_line ls n (stmts_in c)) (ap (with_line ls n) e) h
  where
    go : (x y : Outcome Lines) → y ≡ x → elim x as (λ _. Answer) [ refused m ↦ refusal m (count ls) | taken ms ↦ f ms ] ≡ listing L
        → elim y as (λ _. Answer) [ refused m ↦ refusal m (count ls) | taken ms ↦ g ms ] ≡ listing L
    go (refused m) y r q = cc
    go (taken ms) y r q = rw r (t ms q)

-- the line whose link stands at p and whose bytes are the first of l, judged as `lines_from` judges it
abbrev judged_at : (k e p : ℕ) → Lines → ℕ → List ℕ → Answer
judged_at k e p ls n l =
    let cs = counted uncovered (p + 4) l in
    judged ls n (body_from cs) (soonest (offences e (p + 2) n l cs (body_from cs))) (λ ms. lines_from k e ms (p + 5 + index_of 0 l) (drop (suc (index_of 0 l)) l))

judged_at_clean : (k e p : ℕ) (ls : Lines) (n : ℕ) (l : List ℕ) (L : Listing) → judged_at k e p ls n l ≡ listing L → Clean n l (counted uncovered (p + 4) l) (body_from (counted uncovered (p + 4) l))
judged_at_clean k e p ls n l L h =
    judged_clean ls e (p + 2) n l (counted uncovered (p + 4) l) (body_from (counted uncovered (p + 4) l)) (λ ms. lines_from k e ms (p + 5 + index_of 0 l) (drop (suc (index_of 0 l)) l)) L h

has-zero : (k e p : ℕ) (ls : Lines) (n : ℕ) (l : List ℕ) (L : Listing) → judged_at k e p ls n l ≡ listing L → index_of 0 l < length l
has-zero k e p ls n l L h = ltb-true (index_of 0 l) (length l) (judged_at_clean k e p ls n l L h).zeroed

-- a line with the same bytes that count, wherever they stand, is accepted too, if it has its zero
line_same : (k e p i j q : ℕ) (ls : Lines) (n : ℕ) (l m : List ℕ) (L : Listing) → erase (counted uncovered (q + 4) m) ≡ erase (counted uncovered (p + 4) l) → index_of 0 m < length m
    → ((ms : Lines) → lines_from k e ms (p + 5 + index_of 0 l) (drop (suc (index_of 0 l)) l) ≡ listing L → lines_from i j ms (q + 5 + index_of 0 m) (drop (suc (index_of 0 m)) m) ≡ listing L)
    → judged_at k e p ls n l ≡ listing L → judged_at i j q ls n m ≡ listing L
unfolding erase soonest
line_same k e p i j q ls n l m L s z t h =
    let cs = counted uncovered (p + 4) l in
    let ds = counted uncovered (q + 4) m in
    let c = judged_at_clean k e p ls n l L h in
    let o : erase_body (body_from ds) ≡ erase_body (body_from cs) = body_from-erased ds ∙ ap (λ (x : List Placed). body_from x) s ∙ sym (body_from-erased cs) in
    let y : Clean n m ds (body_from ds) = record {
      number = c.number;
      tokens = erase-nil (foreign ds) (sym (foreign_erased ds) ∙ ap foreign s ∙ foreign_erased cs ∙ ap erase c.tokens);
      entire = erase-nil (lacking (body_from ds)) (sym (lacking_erased (body_from ds)) ∙ ap lacking o ∙ lacking_erased (body_from cs) ∙ ap erase c.entire);
      zeroed = lt-ltb (index_of 0 m) (length m) z;
    } in
    rw (unoffending j (q + 2) n m ds (body_from ds) y)
    (judged_on ls n (body_from cs) (body_from ds) (λ ms. lines_from k e ms (p + 5 + index_of 0 l) (drop (suc (index_of 0 l)) l)) (λ ms. lines_from i j ms (q + 5 + index_of 0 m) (drop (suc (index_of 0 m)) m)) L
    (sym (stmts_erased (body_from ds)) ∙ ap stmts_in o ∙ stmts_erased (body_from cs)) t (rw (unoffending e (p + 2) n l cs (body_from cs) c) at h))

-- ---- the lines

-- what is accepted is accepted from any other place on, in a file of any other length
moved_on : (k e j p q : ℕ) (ls : Lines) (l : List ℕ) (L : Listing) → lines_from k e ls p l ≡ listing L → lines_from (suc k) j ls q l ≡ listing L
unfolding lines_from
moved_on zero e j p q ls l L h = cc
moved_on (suc k) e j p q ls [] L h = cc
moved_on (suc k) e j p q ls (a ∷ []) L h = cc
moved_on (suc k) e j p q ls (a ∷ b ∷ []) L h = go (eqb a 0 && eqb b 0) h
  where
    go : (x : Bool) → pick x (program ls) (refusal 33 e) ≡ listing L → pick x (program ls) (refusal 33 j) ≡ listing L
    go true g = g
    go false g = cc
moved_on (suc k) e j p q ls (a ∷ b ∷ c ∷ []) L h = go (eqb a 0 && eqb b 0) h
  where
    go : (x : Bool) → pick x (program ls) (refusal 33 e) ≡ listing L → pick x (program ls) (refusal 33 j) ≡ listing L
    go true g = g
    go false g = cc
moved_on (suc k) e j p q ls (a ∷ b ∷ c ∷ d ∷ l) L h =
    go (eqb a 0 && eqb b 0) h (λ g.
    line_same k e p (suc k) j q ls (c + 256 * d) l l L (moved uncovered (q + 4) (p + 4) l) (has-zero k e p ls (c + 256 * d) l L g)
    (λ ms. moved_on k e j (p + 5 + index_of 0 l) (q + 5 + index_of 0 l) ms (drop (suc (index_of 0 l)) l) L) g)
  where
    go : {A B : Answer} (x : Bool) → pick x (program ls) A ≡ listing L → (A ≡ listing L → B ≡ listing L) → pick x (program ls) B ≡ listing L
    go true g t = g
    go false g t = t g

within_from : {p i : ℕ} {l : List ℕ} → Within p l i → p + 4 ≤ i
within_from (here r g h) = g
within_from (later r m) = let h = within_from m in omega arith

-- the lines behind a line with a space more
here_on : (k e o p q j : ℕ) (l : List ℕ) (L : Listing) → j ≤ index_of 0 l → (ms : Lines) → lines_from k e ms (p + 5 + index_of 0 l) (drop (suc (index_of 0 l)) l) ≡ listing L
    → lines_from (suc k) o ms (q + 5 + index_of 0 (spaced j l)) (drop (suc (index_of 0 (spaced j l))) (spaced j l)) ≡ listing L
here_on k e o p q j l L v ms g = rw (here_index j l v, here_drop j l v) (moved_on k e o (p + 5 + index_of 0 l) (q + 5 + suc (index_of 0 l)) ms (drop (suc (index_of 0 l)) l) L g)

-- the same with a space more, i being the j-th place behind p
spaced_on : {p i : ℕ} {l : List ℕ} → Within p l i → (k e o q j : ℕ) (ls : Lines) (L : Listing) → i ≡ p + j → lines_from k e ls p l ≡ listing L → lines_from (suc k) o ls q (spaced j l) ≡ listing L
unfolding lines_from
spaced_on (here r g h) zero e o q j ls L s t = cc
spaced_on (here r g h) (suc k) e o q zero ls L s t = absurd (omega arith)
spaced_on (here r g h) (suc k) e o q (suc zero) ls L s t = absurd (omega arith)
spaced_on (here r g h) (suc k) e o q (suc (suc zero)) ls L s t = absurd (omega arith)
spaced_on (here r g h) (suc k) e o q (suc (suc (suc zero))) ls L s t = absurd (omega arith)
spaced_on (here {p = p} {c = c} {d = d} {l = l} r g h) (suc k) e o q (suc (suc (suc (suc j)))) ls L s t =
    let v : j ≤ index_of 0 l = omega arith in
    let w : judged_at k e p ls (c + 256 * d) l ≡ listing L = rw r at t in
    let z = has-zero k e p ls (c + 256 * d) l L w in
    rw r (line_same k e p (suc k) o q ls (c + 256 * d) l (spaced j l) L (here_counted uncovered (q + 4) (p + 4) j l v)
    (rw (here_index j l v, spaced-length j l) (omega arith)) (here_on k e o p q j l L v) w)
spaced_on (later r m) zero e o q j ls L s t = cc
spaced_on (later r m) (suc k) e o q zero ls L s t = let h = within_from m in absurd (omega arith)
spaced_on (later r m) (suc k) e o q (suc zero) ls L s t = let h = within_from m in absurd (omega arith)
spaced_on (later r m) (suc k) e o q (suc (suc zero)) ls L s t = let h = within_from m in absurd (omega arith)
spaced_on (later r m) (suc k) e o q (suc (suc (suc zero))) ls L s t = let h = within_from m in absurd (omega arith)
spaced_on (later {p = p} {c = c} {d = d} {i = i} {l = l} r m) (suc k) e o q (suc (suc (suc (suc j)))) ls L s t =
    let h = within_from m in
    let x = i - (p + 5 + index_of 0 l) in
    let y : i ≡ p + 5 + index_of 0 l + x = omega arith in
    let u : j ≡ suc (index_of 0 l + x) = omega arith in
    let v : index_of 0 l < j = omega arith in
    let w : judged_at k e p ls (c + 256 * d) l ≡ listing L = rw r at t in
    let z = has-zero k e p ls (c + 256 * d) l L w in
    let n = late_index j l v z in
    let f = late-drop j x l u z in
    rw r (line_same k e p (suc k) o q ls (c + 256 * d) l (spaced j l) L (late-counted uncovered (q + 4) (p + 4) j l v z) (rw (n, spaced-length j l) (omega arith))
    (λ ms g. rw (n, f) (spaced_on m k e o (q + 5 + index_of 0 l) x ms L y g)) w)

-- "a space put anywhere into a line of an accepted file below 65,536 bytes, outside quotes, REM and DATA or in them, changes no meaning"; it stands before what was at place i
pub space_more : (f : List ℕ) (L : Listing) → read_program f ≡ listing L → length f < 65536 → (i : ℕ) → InLine f i → read_program (take i f ++ (32 ∷ drop i f)) ≡ listing L
unfolding read_program loaded
space_more [] L h s i m = elim m [ ]
space_more (a ∷ []) L h s i m = elim m [ ]
space_more (a ∷ b ∷ f) L h s zero m = let g = within_from m in absurd (omega arith)
space_more (a ∷ b ∷ f) L h s (suc zero) m = let g = within_from m in absurd (omega arith)
space_more (a ∷ b ∷ f) L h s (suc (suc i)) m =
    let g = rw (le-leb (suc (suc (length f))) 65536 (omega arith)) at h in
    rw (spaced-length i f, le-leb (suc (suc (suc (length f)))) 65536 (omega arith))
    (spaced_on m (suc (suc (suc (length f)))) (suc (suc (length f))) (suc (suc (suc (length f)))) 2 i nolines L (omega arith) g)
