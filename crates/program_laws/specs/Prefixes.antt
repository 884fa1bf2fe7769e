-- Every proper prefix of what is read of an accepted file ends early: it is 33 at its length. Assumes nothing.
use Rattle.std.specs.Prelude.{ℕ, zero, suc, ◌+◌, ◌*◌, ◌-◌, ◌≤◌, ◌<◌, ◌≡◌, ◌⊎◌, refl, List, [], ◌∷◌, Bool, true, false, ◌&&◌, eqb, leb, length, take, drop}
use Rattle.std.proofs.lemmas.List.{drop-take}
use Rattle.std.proofs.Common.{sym, ap, ◌∙◌, arith, inl, inr, length-take, length-drop, leb-true, le-leb, length-take-le}
use Rattle.std.proofs.Math.Option.{Option, none, some}
use Rattle.listings.specs.Bytes.{pick}
use Rattle.listings.specs.Scan.{index_of, index_le}
use Rattle.listings.specs.Tests.{not_both}
use Rattle.listings.specs.Listing.{Listing, Lines, nolines}
use Rattle.listings.specs.Read.{taken, Answer, listing, refusal}
use Rattle.program_laws.specs.CutBytes.{index_whole}
use Rattle.program_laws.specs.CutOffences.{CutVerdict, early, kept, line_body, line_offences, closed_line, cut_line, body_whole, offences-whole}
use Rattle.program_laws.specs.CutFiles.{none-some, at_most}
use Rattle.program_laws.specs.LineSteps.{Judged, offends, outside, goes_on, judged_view, judged_offends, judged_on, lines_past, next_line}
use Rattle.program_files.specs.Program.{Body, Offence, soonest, with_line, stmts_in, judged, program, lines_from, loaded, read_program}

-- ---- how much of a file is read

-- of the lines from a link on: up to the link 0, its two bytes included. "A link of 0 ends the reading; other links are not followed."
-- k: more than there are bytes left, as in the definition
unfoldable pub lines_part : ℕ → List ℕ → ℕ
lines_part zero l = 0
lines_part (suc k) [] = 0
lines_part (suc k) (a ∷ []) = 1
lines_part (suc k) (a ∷ b ∷ []) = 2
lines_part (suc k) (a ∷ b ∷ c ∷ []) = pick (eqb a 0 && eqb b 0) 2 3
lines_part (suc k) (a ∷ b ∷ c ∷ d ∷ l) =
    let i = suc (index_of 0 l) in
    pick (eqb a 0 && eqb b 0) 2 (4 + length (take i l) + lines_part k (drop i l))

-- "two load address bytes, then per line .."
unfoldable pub read_part : List ℕ → ℕ
read_part [] = 0
read_part (a ∷ []) = 1
read_part (a ∷ b ∷ l) = 2 + lines_part (suc (length l)) l

part_le-pick : (t : Bool) (n m : ℕ) → 2 ≤ n → m ≤ n → pick t 2 m ≤ n
part_le-pick true n m h i = h
part_le-pick false n m h i = i

lines_part_le : (k : ℕ) (l : List ℕ) → lines_part k l ≤ length l
unfolding lines_part
lines_part_le zero l = omega arith
lines_part_le (suc k) [] = omega arith
lines_part_le (suc k) (a ∷ []) = omega arith
lines_part_le (suc k) (a ∷ b ∷ []) = omega arith
lines_part_le (suc k) (a ∷ b ∷ c ∷ []) = part_le-pick (eqb a 0 && eqb b 0) 3 3 (omega arith) (omega arith)
lines_part_le (suc k) (a ∷ b ∷ c ∷ d ∷ l) =
    let i = suc (index_of 0 l) in
    let h = lines_part_le k (drop i l) in
    part_le-pick (eqb a 0 && eqb b 0) (length (a ∷ b ∷ c ∷ d ∷ l)) (4 + length (take i l) + lines_part k (drop i l)) (omega arith) (omega (arith, length-take i l, length-drop i l))

-- no more than there is
pub read_part_le : (f : List ℕ) → read_part f ≤ length f
unfolding read_part
read_part_le [] = omega arith
read_part_le (a ∷ []) = omega arith
read_part_le (a ∷ b ∷ l) = let h = lines_part_le (suc (length l)) l in omega arith

-- ---- what is cut before its end

not_listing : (n p : ℕ) (L : Listing) → refusal n p ≡ listing L → ⊥
not_listing n p L h = let z : ◌≡◌ {A = ℕ} 0 1 = cc in omega arith

cut_link : (t : Bool) (e e' : ℕ) (ls : Lines) (L : Listing) → pick t (program ls) (refusal 33 e) ≡ listing L → (t ≡ true → ⊥) → pick t (program ls) (refusal 33 e') ≡ refusal 33 e'
cut_link true e e' ls L h f = absurd (f refl)
cut_link false e e' ls L h f = refl

accepted_link : (t : Bool) (e : ℕ) (ls : Lines) (L : Listing) → pick t (program ls) (refusal 33 e) ≡ listing L → t ≡ true
accepted_link true e ls L h = refl
accepted_link false e ls L h = absurd (not_listing 33 e L h)

module _ (k k' e e' : ℕ) (ls : Lines) (p n : ℕ) (l : List ℕ) (L : Listing) (i : ℕ) (e'_is : e' ≡ p + 4 + i) (within : p + 4 + length l ≤ e)
    (onward : (ms : Lines) → lines_from k e ms (p + 5 + index_of 0 l) (lines_past l) ≡ listing L → index_of 0 l < length l → (j : ℕ) → i ≡ suc (index_of 0 l) + j
    → lines_from k' e' ms (p + 5 + index_of 0 l) (take j (lines_past l)) ≡ refusal 33 e') where
  abbrev cut_judged : Answer
  cut_judged = judged ls n (line_body p (take i l)) (soonest (line_offences e' p n (take i l))) (λ ms. lines_from k' e' ms (p + 5 + index_of 0 (take i l)) (lines_past (take i l)))

  cut_early : {x y : Option Offence} → CutVerdict e' x y → y ≡ none → x ≡ some (e', 33)
  cut_early early h = refl
  cut_early (kept o g) h = absurd (none-some (some o) o h refl)

  early_line : judged ls n (line_body p l) (soonest (line_offences e p n l)) (λ ms. lines_from k e ms (p + 5 + index_of 0 l) (lines_past l)) ≡ listing L → cut_judged ≡ refusal 33 e'
  early_line = view (judged_view ls n (line_body p l) (soonest (line_offences e p n l)) (λ ms. lines_from k e ms (p + 5 + index_of 0 l) (lines_past l)))
    where
      on : (ms : Lines) → soonest (line_offences e p n l) ≡ none → with_line ls n (stmts_in (line_body p l)) ≡ taken ms → lines_from k e ms (p + 5 + index_of 0 l) (lines_past l) ≡ listing L
          → (i ≤ index_of 0 l) ⊎ (index_of 0 l < i) → cut_judged ≡ refusal 33 e'
      on ms o w h (inl g) =
          let q = index_le 0 l in
          judged_offends ls n (line_body p (take i l)) (soonest (line_offences e' p n (take i l))) (λ ms. lines_from k' e' ms (p + 5 + index_of 0 (take i l)) (lines_past (take i l))) (e', 33)
          (cut_early (cut_line e p n l i e' e'_is g (omega arith)) o)
      on ms o w h (inr g) =
          let c = closed_line e p n l o in
          let z = index_whole l i g c in
          let m : i ≡ suc (index_of 0 l) + (i - suc (index_of 0 l)) = omega arith in
          let r : drop (suc (index_of 0 l)) (take i l) ≡ take (i - suc (index_of 0 l)) (drop (suc (index_of 0 l)) l) = ap (λ (x : ℕ). drop (suc (index_of 0 l)) (take x l)) m ∙ drop-take (suc (index_of 0 l)) (i - suc (index_of 0 l)) l in
          judged_on ls n (line_body p (take i l)) (soonest (line_offences e' p n (take i l))) (λ ms. lines_from k' e' ms (p + 5 + index_of 0 (take i l)) (lines_past (take i l))) ms
          (ap soonest (offences-whole p i l g c e e' n) ∙ o) (ap (λ (b : Body). with_line ls n (stmts_in b)) (body_whole p i l g c) ∙ w)
          ∙ rw (z, r) (onward ms h c (i - suc (index_of 0 l)) m)

      view : {A : Answer} → Judged ls n (line_body p l) (soonest (line_offences e p n l)) (λ ms. lines_from k e ms (p + 5 + index_of 0 l) (lines_past l)) A → A ≡ listing L → cut_judged ≡ refusal 33 e'
      view (offends x o) h = absurd (not_listing x.1 x.0 L h)
      view (outside m o w) h = absurd (not_listing m _ L h)
      view (goes_on ms o w) h = on ms o w h (at_most i (index_of 0 l))

link_on : (t : Bool) (m j : ℕ) → suc (suc j) < pick t 2 m → t ≡ false
link_on true m j h = absurd (omega arith)
link_on false m j h = refl

part_of_lem : (t : Bool) (m j : ℕ) → suc (suc j) < pick t 2 m → suc (suc j) < m
part_of_lem true m j h = absurd (omega arith)
part_of_lem false m j h = h

lines_early : (k k' K e e' : ℕ) (ls : Lines) (p : ℕ) (l : List ℕ) (L : Listing) → lines_from k e ls p l ≡ listing L → p + length l ≤ e → (j : ℕ) → j < lines_part K l → e' ≡ p + j
    → lines_from k' e' ls p (take j l) ≡ refusal 33 e'
unfolding lines_from lines_part
lines_early zero k' K e e' ls p l L h w j g q = absurd (not_listing 33 e L h)
lines_early (suc k) zero K e e' ls p l L h w j g q = refl
lines_early (suc k) (suc k') zero e e' ls p l L h w j g q = absurd (omega arith)
lines_early (suc k) (suc k') (suc K) e e' ls p l L h w zero g q = refl
lines_early (suc k) (suc k') (suc K) e e' ls p [] L h w (suc j) g q = absurd (not_listing 33 e L h)
lines_early (suc k) (suc k') (suc K) e e' ls p (a ∷ []) L h w (suc j) g q = absurd (not_listing 33 e L h)
lines_early (suc k) (suc k') (suc K) e e' ls p (a ∷ b ∷ l) L h w (suc zero) g q = refl
lines_early (suc k) (suc k') (suc K) e e' ls p (a ∷ b ∷ []) L h w (suc (suc j)) g q = absurd (omega arith)
lines_early (suc k) (suc k') (suc K) e e' ls p (a ∷ b ∷ c ∷ []) L h w (suc (suc j)) g q = absurd (let t = accepted_link (eqb a 0 && eqb b 0) e ls L h in let i = rw t at g in omega arith)
lines_early (suc k) (suc k') (suc K) e e' ls p (a ∷ b ∷ c ∷ d ∷ l) L h w (suc (suc zero)) g q = rw (link_on (eqb a 0 && eqb b 0) _ zero g) refl
lines_early (suc k) (suc k') (suc K) e e' ls p (a ∷ b ∷ c ∷ d ∷ l) L h w (suc (suc (suc zero))) g q = rw (link_on (eqb a 0 && eqb b 0) _ (suc zero) g) refl
lines_early (suc k) (suc k') (suc K) e e' ls p (a ∷ b ∷ c ∷ d ∷ l) L h w (suc (suc (suc (suc i)))) g q =
    let t = link_on (eqb a 0 && eqb b 0) (4 + length (take (suc (index_of 0 l)) l) + lines_part K (lines_past l)) (suc (suc i)) g in
    let r = part_of_lem (eqb a 0 && eqb b 0) (4 + length (take (suc (index_of 0 l)) l) + lines_part K (lines_past l)) (suc (suc i)) g in
    next_line k' e' ls p a b c d (take i l) t
    ∙ early_line k k' e e' ls p (c + 256 * d) l L i (omega arith) (omega arith)
    (λ ms u x j v. lines_early k k' K e e' ms (p + 5 + index_of 0 l) (lines_past l) L u (omega (arith, length-drop (suc (index_of 0 l)) l, index_le 0 l)) j
    (omega (arith, length-take (suc (index_of 0 l)) l)) (omega arith))
    (sym (next_line k e ls p a b c d l t) ∙ h)

not_too_long : (t : Bool) (x : Answer) (L : Listing) → pick t x (refusal 1 0) ≡ listing L → (t ≡ true) × (x ≡ listing L)
not_too_long true x L h = (refl, h)
not_too_long false x L h = absurd (not_listing 1 0 L h)

loaded_early : (f : List ℕ) (L : Listing) (e : ℕ) → length f ≤ e → loaded e f ≡ listing L → (n : ℕ) → n < read_part f → loaded n (take n f) ≡ refusal 33 n
unfolding loaded read_part
loaded_early [] L e w h n g = absurd (not_listing 33 e L h)
loaded_early (a ∷ []) L e w h n g = absurd (not_listing 33 e L h)
loaded_early (a ∷ b ∷ l) L e w h zero g = refl
loaded_early (a ∷ b ∷ l) L e w h (suc zero) g = refl
loaded_early (a ∷ b ∷ l) L e w h (suc (suc n)) g =
    lines_early (suc e) (suc (suc (suc n))) (suc (length l)) e (suc (suc n)) nolines 2 l L h (omega arith) n (omega arith) (omega arith)

-- "every proper prefix of an accepted file's read part is 33 at its length"
pub prefix_early : (f : List ℕ) (L : Listing) → read_program f ≡ listing L → (n : ℕ) → n < read_part f → read_program (take n f) ≡ refusal 33 n
unfolding read_program
prefix_early f L h n g =
    let t = not_too_long (leb (length f) 65536) (loaded (length f) f) L h in
    let m = leb-true (length f) 65536 t.0 in
    let r = read_part_le f in
    let k : length (take n f) ≡ n = length-take-le n f (omega arith) in
    rw (k, le-leb n 65536 (omega arith)) (loaded_early f L (length f) (omega arith) t.1 n g)

-- ---- and the part itself is enough

accepted_pick : (t : Bool) (a b : Answer) (L : Listing) → pick t a b ≡ listing L → (t ≡ true → a ≡ listing L) × (t ≡ false → b ≡ listing L)
accepted_pick true a b L h = (λ e. h, λ e. absurd (not_both e))
accepted_pick false a b L h = (λ e. absurd (not_both (sym e)), λ e. h)

module _ (k k' e e' : ℕ) (ls : Lines) (p n : ℕ) (l : List ℕ) (L : Listing) (m : ℕ)
    (onward : (ms : Lines) → index_of 0 l < length l → lines_from k e ms (p + 5 + index_of 0 l) (lines_past l) ≡ listing L
    → lines_from k' e' ms (p + 5 + index_of 0 l) (take m (lines_past l)) ≡ listing L) where
  -- the line whose bytes are the first of l, with m bytes behind its zero
  enough_line : judged ls n (line_body p l) (soonest (line_offences e p n l)) (λ ms. lines_from k e ms (p + 5 + index_of 0 l) (lines_past l)) ≡ listing L
      → (i : ℕ) → (index_of 0 l < length l → i ≡ suc (index_of 0 l) + m)
      → judged ls n (line_body p (take i l)) (soonest (line_offences e' p n (take i l))) (λ ms. lines_from k' e' ms (p + 5 + index_of 0 (take i l)) (lines_past (take i l))) ≡ listing L
  enough_line h i f = view (judged_view ls n (line_body p l) (soonest (line_offences e p n l)) (λ ms. lines_from k e ms (p + 5 + index_of 0 l) (lines_past l))) h
    where
      view : {A : Answer} → Judged ls n (line_body p l) (soonest (line_offences e p n l)) (λ ms. lines_from k e ms (p + 5 + index_of 0 l) (lines_past l)) A → A ≡ listing L
          → judged ls n (line_body p (take i l)) (soonest (line_offences e' p n (take i l))) (λ ms. lines_from k' e' ms (p + 5 + index_of 0 (take i l)) (lines_past (take i l))) ≡ listing L
      view (offends x o) h = absurd (not_listing x.1 x.0 L h)
      view (outside m o w) h = absurd (not_listing m _ L h)
      view (goes_on ms o w) h =
          let c = closed_line e p n l o in
          let q = f c in
          let g : index_of 0 l < i = omega arith in
          let z = index_whole l i g c in
          let r : drop (suc (index_of 0 l)) (take i l) ≡ take m (drop (suc (index_of 0 l)) l) = ap (λ (x : ℕ). drop (suc (index_of 0 l)) (take x l)) q ∙ drop-take (suc (index_of 0 l)) m l in
          judged_on ls n (line_body p (take i l)) (soonest (line_offences e' p n (take i l))) (λ ms. lines_from k' e' ms (p + 5 + index_of 0 (take i l)) (lines_past (take i l))) ms
          (ap soonest (offences-whole p i l g c e e' n) ∙ o) (ap (λ (b : Body). with_line ls n (stmts_in b)) (body_whole p i l g c) ∙ w)
          ∙ rw (z, r) (onward ms c h)

lines_enough : (k k' K e e' : ℕ) (ls : Lines) (p : ℕ) (l : List ℕ) (L : Listing) → lines_from k e ls p l ≡ listing L → length l < K → lines_part K l < k'
    → lines_from k' e' ls p (take (lines_part K l) l) ≡ listing L
unfolding lines_from lines_part
lines_enough zero k' K e e' ls p l L h w g = absurd (not_listing 33 e L h)
lines_enough (suc k) zero K e e' ls p l L h w g = absurd (omega arith)
lines_enough (suc k) (suc k') zero e e' ls p l L h w g = absurd (omega arith)
lines_enough (suc k) (suc k') (suc K) e e' ls p [] L h w g = absurd (not_listing 33 e L h)
lines_enough (suc k) (suc k') (suc K) e e' ls p (a ∷ []) L h w g = absurd (not_listing 33 e L h)
lines_enough (suc k) (suc k') (suc K) e e' ls p (a ∷ b ∷ []) L h w g =
    let t = accepted_link (eqb a 0 && eqb b 0) e ls L h in
    rw t ((accepted_pick (eqb a 0 && eqb b 0) (program ls) (refusal 33 e) L h).0 t)
lines_enough (suc k) (suc k') (suc K) e e' ls p (a ∷ b ∷ c ∷ []) L h w g =
    let t = accepted_link (eqb a 0 && eqb b 0) e ls L h in
    rw (t, t) ((accepted_pick (eqb a 0 && eqb b 0) (program ls) (refusal 33 e) L h).0 t)
lines_enough (suc k) (suc k') (suc K) e e' ls p (a ∷ b ∷ c ∷ d ∷ l) L h w g =
    go (eqb a 0 && eqb b 0) refl g (λ ms r z u. lines_enough k k' K e e' ms (p + 5 + index_of 0 l) (lines_past l) L u (omega (arith, length-drop (suc (index_of 0 l)) l)) r)
  where
    less : (t : Bool) → t ≡ false → pick t 2 (4 + length (take (suc (index_of 0 l)) l) + lines_part K (lines_past l)) < suc k' → lines_part K (lines_past l) < k'
    less true e g = absurd (not_both e)
    less false e g = omega arith

    go : (t : Bool) → (eqb a 0 && eqb b 0) ≡ t → pick (eqb a 0 && eqb b 0) 2 (4 + length (take (suc (index_of 0 l)) l) + lines_part K (lines_past l)) < suc k'
        → ((ms : Lines) → lines_part K (lines_past l) < k' → index_of 0 l < length l → lines_from k e ms (p + 5 + index_of 0 l) (lines_past l) ≡ listing L
        → lines_from k' e' ms (p + 5 + index_of 0 l) (take (lines_part K (lines_past l)) (lines_past l)) ≡ listing L)
        → lines_from (suc k') e' ls p (take (pick (eqb a 0 && eqb b 0) 2 (4 + length (take (suc (index_of 0 l)) l) + lines_part K (lines_past l))) (a ∷ b ∷ c ∷ d ∷ l)) ≡ listing L
    go true t g f = rw (t, t) ((accepted_pick (eqb a 0 && eqb b 0) (program ls) _ L h).0 t)
    go false t g f =
        let i = length (take (suc (index_of 0 l)) l) + lines_part K (lines_past l) in
        let m : 4 + length (take (suc (index_of 0 l)) l) + lines_part K (lines_past l) ≡ suc (suc (suc (suc i))) = omega arith in
        let r : lines_part K (lines_past l) < k' = less (eqb a 0 && eqb b 0) t g in
        rw (t, m)
        (next_line k' e' ls p a b c d (take i l) t
        ∙ enough_line k k' e e' ls p (c + 256 * d) l L (lines_part K (lines_past l)) (λ ms. f ms r) (sym (next_line k e ls p a b c d l t) ∙ h) i (λ z. omega (arith, length-take (suc (index_of 0 l)) l)))

loaded_enough : (f : List ℕ) (L : Listing) (e e' : ℕ) → loaded e f ≡ listing L → read_part f ≤ e' → loaded e' (take (read_part f) f) ≡ listing L
unfolding loaded read_part
loaded_enough [] L e e' h w = absurd (not_listing 33 e L h)
loaded_enough (a ∷ []) L e e' h w = absurd (not_listing 33 e L h)
loaded_enough (a ∷ b ∷ l) L e e' h w =
    let m : 2 + lines_part (suc (length l)) l ≡ suc (suc (lines_part (suc (length l)) l)) = omega arith in
    rw m (lines_enough (suc e) (suc e') (suc (length l)) e e' nolines 2 l L h (omega arith) (omega arith))

-- what is read is enough: with `prefix_early`, the shortest prefix that is accepted
pub read_part_enough : (f : List ℕ) (L : Listing) → read_program f ≡ listing L → read_program (take (read_part f) f) ≡ listing L
unfolding read_program
read_part_enough f L h =
    let t = not_too_long (leb (length f) 65536) (loaded (length f) f) L h in
    let m = leb-true (length f) 65536 t.0 in
    let r = read_part_le f in
    let k : length (take (read_part f) f) ≡ read_part f = length-take-le (read_part f) f r in
    rw (k, le-leb (read_part f) 65536 (omega arith)) (loaded_enough f L (length f) (read_part f) t.1 (omega arith))
