-- A 34 or 35 hangs on nothing after the byte at which it is found. Assumes nothing.
use Rattle.std.specs.Prelude.{ℕ, zero, suc, ◌+◌, ◌*◌, ◌≤◌, ◌<◌, ◌≡◌, ◌⊎◌, refl, List, [], ◌∷◌, Bool, true, false, ◌&&◌, eqb, ltb, leb, length, take, drop, get_or}
use Rattle.std.proofs.lemmas.List.{drop-take}
use Rattle.std.proofs.Common.{sym, ap, ◌∙◌, subst, arith, inl, inr, length-drop, leb-true, length-take-le, drop-drop, get_or-drop}
use Rattle.std.proofs.Math.Option.{none, some}
use Rattle.listings.specs.Bytes.{pick}
use Rattle.listings.specs.Scan.{index_of}
use Rattle.listings.specs.Listing.{Stmts, Lines, nolines, line, size, total, count}
use Rattle.listings.specs.Read.{Outcome, taken, refused, check, ascends, Answer, refusal}
use Rattle.listings.specs.ListingText.{last_number}
use Rattle.program_files.specs.Program.{Body, Offence, soonest, shallow, short, with_line, stmts_in, lines_from, loaded, read_program}
use Rattle.program_laws.specs.CutBytes.{index_whole}
use Rattle.program_laws.specs.CutOffences.{line_body, line_offences, closed_line, body_whole, offences-whole}
use Rattle.program_laws.specs.LineSteps.{Judged, offends, outside, goes_on, judged_view, judged_offends, judged_on, lines_past, next_line}
use Rattle.program_laws.specs.CutFiles.{refusal_number, cut_link, link_on, read-loaded, refused-later}
use Rattle.program_laws.specs.FoundWhere.{zero_link, LinkAt, first_link, next_link, FoundAt}
use Rattle.program_laws.specs.LineSettles.{LineSettles, line_settles}

-- the refusal n at place p of the file f is found at a byte, and every file of the same bytes up to it, whatever follows, is refused alike
pub record Settles (f : List ℕ) (n p : ℕ) : Type 0 where
  pub found : ℕ
  pub from_place : p ≤ found
  pub inside : found < length f
  pub found_at : FoundAt f n p found
  pub alike : (g : List ℕ) → length g ≤ 65536 → take (suc found) g ≡ take (suc found) f → read_program g ≡ refusal n p

-- ---- 4 to 8 are no 34 or 35

check_small : (b : Bool) (n m : ℕ) (o : Outcome Lines) → n ≤ 8 → (o ≡ refused m → m ≤ 8) → check b n o ≡ refused m → m ≤ 8
unfolding check
check_small true n m o h f e = f e
check_small false n m o h f e = let z : n ≡ m = cc in omega arith

line_small : (ls : Lines) (n : ℕ) (s : Stmts) (m : ℕ) → with_line ls n s ≡ refused m → m ≤ 8
unfolding with_line
line_small ls n s m =
    check_small (ascends n (last_number ls)) 4 m (check (ltb (count ls) 1024) 5 (check (leb (total ls + size s) 4096) 6 (check (shallow 0 s) 7 (check (short s) 8 (taken (line ls n s)))))) (omega arith)
    (check_small (ltb (count ls) 1024) 5 m (check (leb (total ls + size s) 4096) 6 (check (shallow 0 s) 7 (check (short s) 8 (taken (line ls n s))))) (omega arith)
    (check_small (leb (total ls + size s) 4096) 6 m (check (shallow 0 s) 7 (check (short s) 8 (taken (line ls n s)))) (omega arith)
    (check_small (shallow 0 s) 7 m (check (short s) 8 (taken (line ls n s))) (omega arith)
    (check_small (short s) 8 m (taken (line ls n s)) (omega arith) (λ e. absurd (let z : ◌≡◌ {A = ℕ} 0 1 = cc in omega arith))))))

-- ---- from line to line

-- of the lines ls and what is left of the file f from place p on: with j bytes of it the answer is the same
record LinesSettle (f : List ℕ) (ls : Lines) (p : ℕ) (l : List ℕ) (n x : ℕ) : Type 0 where
  j : ℕ
  found : ℕ
  found_is : p + j ≡ suc found
  enough : j ≤ length l
  from_place : x ≤ found
  found_at : FoundAt f n x found
  cut : (k e : ℕ) → j < k → e ≡ p + j → lines_from k e ls p (take j l) ≡ refusal n x

module _ (f : List ℕ) (n x : ℕ) (over : 8 < n) (not_33 : n ≡ 33 → ⊥) where
  line_on : (k e : ℕ) (ls : Lines) (p a b c d : ℕ) (l : List ℕ) → LinkAt f p → (a ∷ b ∷ c ∷ d ∷ l) ≡ drop p f → e ≡ p + length (a ∷ b ∷ c ∷ d ∷ l) → (eqb a 0 && eqb b 0) ≡ false
      → ((ms : Lines) → LinkAt f (p + 5 + index_of 0 l) → lines_past l ≡ drop (p + 5 + index_of 0 l) f → e ≡ p + 5 + index_of 0 l + length (lines_past l)
      → lines_from k e ms (p + 5 + index_of 0 l) (lines_past l) ≡ refusal n x → LinesSettle f ms (p + 5 + index_of 0 l) (lines_past l) n x)
      → lines_from (suc k) e ls p (a ∷ b ∷ c ∷ d ∷ l) ≡ refusal n x → LinesSettle f ls p (a ∷ b ∷ c ∷ d ∷ l) n x
  line_on k e ls p a b c d l reached l_is e_is t onward h =
      view (judged_view ls (c + 256 * d) (line_body p l) (soonest (line_offences e p (c + 256 * d) l)) on) (sym (next_line k e ls p a b c d l t) ∙ h)
    where
      on : Lines → Answer
      on ms = lines_from k e ms (p + 5 + index_of 0 l) (lines_past l)

      rest_is : l ≡ drop (p + 4) f
      rest_is = ap (drop 4) l_is ∙ drop-drop 4 p f

      link_is : zero_link f p ≡ false
      link_is =
          let m : p + 0 ≡ p = omega arith in
          let r : p + 1 ≡ suc p = omega arith in
          let u : a ≡ get_or f p 0 = ap (λ (y : List ℕ). get_or y 0 0) l_is ∙ (get_or-drop p f 0 0 ∙ ap (λ (y : ℕ). get_or f y 0) m) in
          let v : b ≡ get_or f (suc p) 0 = ap (λ (y : List ℕ). get_or y 1 0) l_is ∙ (get_or-drop p f 1 0 ∙ ap (λ (y : ℕ). get_or f y 0) r) in
          rw (← u, ← v) t

      next_link_here : LinkAt f (p + 5 + index_of 0 l)
      next_link_here = subst (λ (y : List ℕ). LinkAt f (p + 5 + index_of 0 y)) (sym rest_is) (next_link p reached link_is)

      word_is : c + 256 * d ≡ get_or f (p + 2) 0 + 256 * get_or f (p + 3) 0
      word_is =
          let u : c ≡ get_or f (p + 2) 0 = ap (λ (y : List ℕ). get_or y 2 0) l_is ∙ get_or-drop p f 2 0 in
          let v : d ≡ get_or f (p + 3) 0 = ap (λ (y : List ℕ). get_or y 3 0) l_is ∙ get_or-drop p f 3 0 in
          rw (u, v) refl

      offends_cut : (o : Offence) (s : LineSettles f p (c + 256 * d) l o) → n ≡ o.1 → x ≡ o.0 → (k' e' : ℕ) → suc (suc (suc (suc s.i))) < k' → e' ≡ p + suc (suc (suc (suc s.i)))
          → lines_from k' e' ls p (a ∷ b ∷ c ∷ d ∷ take s.i l) ≡ refusal n x
      offends_cut o s n-is x-is zero e' g q = absurd (omega arith)
      offends_cut o s n-is x-is (suc k') e' g q =
          let m : e' ≡ p + 4 + s.i = omega arith in
          next_line k' e' ls p a b c d (take s.i l) t
          ∙ judged_offends ls (c + 256 * d) (line_body p (take s.i l)) (soonest (line_offences e' p (c + 256 * d) (take s.i l)))
          (λ ms. lines_from k' e' ms (p + 5 + index_of 0 (take s.i l)) (lines_past (take s.i l))) o (ap (λ (y : ℕ). soonest (line_offences y p (c + 256 * d) (take s.i l))) m ∙ s.cut)
          ∙ (ap (λ (y : ℕ). refusal y o.0) (sym n-is) ∙ ap (refusal n) (sym x-is))

      on_cut : (ms : Lines) → soonest (line_offences e p (c + 256 * d) l) ≡ none → with_line ls (c + 256 * d) (stmts_in (line_body p l)) ≡ taken ms
          → (s : LinesSettle f ms (p + 5 + index_of 0 l) (lines_past l) n x) → (k' e' : ℕ) → suc (suc (suc (suc (suc (index_of 0 l) + s.j)))) < k' → e' ≡ p + suc (suc (suc (suc (suc (index_of 0 l) + s.j))))
          → lines_from k' e' ls p (a ∷ b ∷ c ∷ d ∷ take (suc (index_of 0 l) + s.j) l) ≡ refusal n x
      on_cut ms o w s zero e' g q = absurd (omega arith)
      on_cut ms o w s (suc k') e' g q =
          let i = suc (index_of 0 l) + s.j in
          let h : index_of 0 l < i = omega arith in
          let z = closed_line e p (c + 256 * d) l o in
          next_line k' e' ls p a b c d (take i l) t
          ∙ judged_on ls (c + 256 * d) (line_body p (take i l)) (soonest (line_offences e' p (c + 256 * d) (take i l)))
          (λ ms. lines_from k' e' ms (p + 5 + index_of 0 (take i l)) (lines_past (take i l))) ms
          (ap soonest (offences-whole p i l h z e e' (c + 256 * d)) ∙ o) (ap (λ (y : Body). with_line ls (c + 256 * d) (stmts_in y)) (body_whole p i l h z) ∙ w)
          ∙ rw (index_whole l i h z, drop-take (suc (index_of 0 l)) s.j l) (s.cut k' e' (omega arith) (omega arith))

      of_line : (o : Offence) → soonest (line_offences e p (c + 256 * d) l) ≡ some o → n ≡ o.1 → x ≡ o.0 → LinesSettle f ls p (a ∷ b ∷ c ∷ d ∷ l) n x
      of_line o o_is n-is x-is =
          let s = line_settles f e p (c + 256 * d) l rest_is (omega arith) word_is reached link_is o o_is (λ q. not_33 (n-is ∙ q)) in
          record {
            j = suc (suc (suc (suc s.i)));
            found = p + 3 + s.i;
            found_is = omega arith;
            enough = let q = s.enough in omega arith;
            from_place = let q = s.place in omega arith;
            found_at = subst (λ (y : ℕ). FoundAt f y x (p + 3 + s.i)) (sym n-is) (subst (λ (y : ℕ). FoundAt f o.1 y (p + 3 + s.i)) (sym x-is) s.found_at);
            cut = λ k' e' g q. offends_cut o s n-is x-is k' e' g q;
          }

      view : {A : Answer} → Judged ls (c + 256 * d) (line_body p l) (soonest (line_offences e p (c + 256 * d) l)) on A → A ≡ refusal n x → LinesSettle f ls p (a ∷ b ∷ c ∷ d ∷ l) n x
      view (offends o o_is) r = of_line o o_is (sym (refusal_number o.1 o.0 n x r)) (let z : o.0 ≡ x = cc in sym z)
      view (outside m o w) r = absurd (let q = line_small ls (c + 256 * d) (stmts_in (line_body p l)) m w in let z = refusal_number m (count ls) n x r in omega arith)
      view (goes_on ms o w) r =
          let z = closed_line e p (c + 256 * d) l o in
          let m : p + 4 + suc (index_of 0 l) ≡ p + 5 + index_of 0 l = omega arith in
          let s = onward ms next_link_here (ap (drop (suc (index_of 0 l))) rest_is ∙ (drop-drop (suc (index_of 0 l)) (p + 4) f ∙ ap (λ (y : ℕ). drop y f) m)) (omega (arith, length-drop (suc (index_of 0 l)) l)) r in
          record {
            j = suc (suc (suc (suc (suc (index_of 0 l) + s.j))));
            found = s.found;
            found_is = let q = s.found_is in omega arith;
            enough = let q = s.enough in omega (arith, length-drop (suc (index_of 0 l)) l);
            from_place = s.from_place;
            found_at = s.found_at;
            cut = λ k' e' g q. on_cut ms o w s k' e' g q;
          }

  lines_settle : (k e : ℕ) (ls : Lines) (p : ℕ) (l : List ℕ) → LinkAt f p → l ≡ drop p f → e ≡ p + length l → lines_from k e ls p l ≡ refusal n x → LinesSettle f ls p l n x
  unfolding lines_from
  lines_settle zero e ls p l i q w h = absurd (not_33 (sym (refusal_number 33 e n x h)))
  lines_settle (suc k) e ls p [] i q w h = absurd (not_33 (sym (refusal_number 33 e n x h)))
  lines_settle (suc k) e ls p (a ∷ []) i q w h = absurd (not_33 (sym (refusal_number 33 e n x h)))
  lines_settle (suc k) e ls p (a ∷ b ∷ []) i q w h = absurd (not_33 (cut_link (eqb a 0 && eqb b 0) e ls n x h))
  lines_settle (suc k) e ls p (a ∷ b ∷ c ∷ []) i q w h = absurd (not_33 (cut_link (eqb a 0 && eqb b 0) e ls n x h))
  lines_settle (suc k) e ls p (a ∷ b ∷ c ∷ d ∷ l) i q w h =
      line_on k e ls p a b c d l i q w (link_on (eqb a 0 && eqb b 0) _ ls n x h) (λ ms j r v u. lines_settle k e ms (p + 5 + index_of 0 l) (lines_past l) j r v u) h

  loaded_settle : (g : List ℕ) → g ≡ f → length f ≤ 65536 → loaded (length g) g ≡ refusal n x → Settles f n x
  unfolding loaded
  loaded_settle [] q w h = absurd (not_33 (sym (refusal_number 33 0 n x h)))
  loaded_settle (a ∷ []) q w h = absurd (not_33 (sym (refusal_number 33 1 n x h)))
  loaded_settle (a ∷ b ∷ l) q w h =
      let s = lines_settle (suc (length (a ∷ b ∷ l))) (length (a ∷ b ∷ l)) nolines 2 l first_link (ap (drop 2) q) (omega arith) h in
      let len = ap length q in
      let m = s.found_is in
      let r = s.enough in
      let first_bytes : take (suc s.found) f ≡ a ∷ b ∷ take s.j l = ap (take (suc s.found)) (sym q) ∙ ap (λ (y : ℕ). take y (a ∷ b ∷ l)) (let z : suc s.found ≡ suc (suc s.j) = omega arith in z) in
      let len_cut : length (take s.j l) ≡ s.j = length-take-le s.j l r in
      let short_answer : read_program (a ∷ b ∷ take s.j l) ≡ refusal n x =
      read-loaded (a ∷ b ∷ take s.j l) (omega arith) ∙ s.cut (suc (length (a ∷ b ∷ take s.j l))) (length (a ∷ b ∷ take s.j l)) (omega arith) (omega arith) in
      record {
        found = s.found;
        from_place = s.from_place;
        inside = omega arith;
        found_at = s.found_at;
        alike = λ g short same. refused-later g (suc s.found) n x short not_33 (ap read_program (same ∙ first_bytes) ∙ short_answer);
      }

too_long_lem : (t : Bool) (a : Answer) (n p : ℕ) → 8 < n → pick t a (refusal 1 0) ≡ refusal n p → (t ≡ true) × (a ≡ refusal n p)
too_long_lem true a n p g h = (refl, h)
too_long_lem false a n p g h = absurd (let z = refusal_number 1 0 n p h in omega arith)

-- "a 34 or 35 depends on nothing after the byte at which it is found (for a number too large the digit that makes it so, though its place is the first digit)"
pub settled : (f : List ℕ) (n p : ℕ) → read_program f ≡ refusal n p → (n ≡ 34) ⊎ (n ≡ 35) → Settles f n p
unfolding read_program
settled f n p h g =
    let over : 8 < n = elim g [ inl e ↦ omega arith | inr e ↦ omega arith ] in
    let other : (n ≡ 33 → ⊥) = elim g [ inl e ↦ λ k. omega arith | inr e ↦ λ k. omega arith ] in
    let t = too_long_lem (leb (length f) 65536) (loaded (length f) f) n p over h in
    loaded_settle f n p over other f refl (leb-true (length f) 65536 t.0) t.1
