-- What refuses a file that is cut refuses the whole file too, unless it is the cut itself (33). Assumes nothing.
use Rattle.std.specs.Prelude.{ℕ, zero, suc, ◌+◌, ◌*◌, ◌-◌, ◌≤◌, ◌<◌, ◌≡◌, ◌⊎◌, refl, List, [], ◌∷◌, Bool, true, false, ◌&&◌, eqb, leb, length, take, drop}
use Rattle.std.proofs.lemmas.List.{drop-take}
use Rattle.std.proofs.Common.{sym, ap, ◌∙◌, arith, inl, inr, length-drop, leb-true, leb-false, le-leb, length-take-le, take_all}
use Rattle.std.proofs.Math.Option.{Option, none, some}
use Rattle.listings.specs.Bytes.{pick}
use Rattle.listings.specs.Scan.{index_of, index_le}
use Rattle.listings.specs.Listing.{Listing, Lines, nolines}
use Rattle.listings.specs.Read.{Answer, listing, refusal}
use Rattle.program_laws.specs.CutBytes.{index_whole}
use Rattle.program_laws.specs.CutOffences.{CutVerdict, early, kept, line_body, line_offences, cut_line, body_whole, offences-whole}
use Rattle.program_laws.specs.LineSteps.{Judged, offends, outside, goes_on, judged_view, judged_offends, judged-outside, judged_on, lines_past, next_line}
use Rattle.program_files.specs.Program.{Body, Offence, soonest, with_line, stmts_in, judged, program, lines_from, loaded, read_program}

pub not-refused : (n p : ℕ) (L : Listing) → listing L ≡ refusal n p → ⊥
not-refused n p L h = let z : ◌≡◌ {A = ℕ} 0 1 = cc in omega arith

pub refusal_number : (n p m q : ℕ) → refusal n p ≡ refusal m q → n ≡ m
refusal_number n p m q h = cc

pub none-some : (x : Option Offence) (o : Offence) → x ≡ none → some o ≡ x → ⊥
none-some x o e f = let z : ◌≡◌ {A = ℕ} 0 1 = cc in omega arith

pub at_most : (a b : ℕ) → (a ≤ b) ⊎ (b < a)
at_most a b = go (leb a b) refl
  where
    go : (t : Bool) → leb a b ≡ t → (a ≤ b) ⊎ (b < a)
    go true e = inl (leb-true a b e)
    go false e = inr (leb-false a b e)

pub cut_link : (t : Bool) (e : ℕ) (ls : Lines) (n x : ℕ) → pick t (program ls) (refusal 33 e) ≡ refusal n x → n ≡ 33
unfolding program
cut_link true e ls n x h = absurd (not-refused n x _ h)
cut_link false e ls n x h = sym (refusal_number 33 e n x h)

pub link_on : (t : Bool) (a : Answer) (ls : Lines) (n x : ℕ) → pick t (program ls) a ≡ refusal n x → t ≡ false
unfolding program
link_on true a ls n x h = absurd (not-refused n x _ h)
link_on false a ls n x h = refl

-- of one line, whose bytes are the first of l and of which i stand in the cut file
module _ (k k' e e' : ℕ) (ls : Lines) (p n : ℕ) (l : List ℕ) (i : ℕ) (e'_is : e' ≡ p + 4 + i) (within : p + 4 + length l ≤ e) (some_left : i ≤ length l) where
  abbrev cut_on : Lines → Answer
  cut_on ms = lines_from k' e' ms (p + 5 + index_of 0 (take i l)) (lines_past (take i l))

  abbrev whole_on : Lines → Answer
  whole_on ms = lines_from k e ms (p + 5 + index_of 0 l) (lines_past l)

  abbrev cut_first : Option Offence
  cut_first = soonest (line_offences e' p n (take i l))

  abbrev whole_first : Option Offence
  whole_first = soonest (line_offences e p n l)

  abbrev cut_judged : Answer
  cut_judged = judged ls n (line_body p (take i l)) cut_first cut_on

  abbrev whole_judged : Answer
  whole_judged = judged ls n (line_body p l) whole_first whole_on

  behind_cut : index_of 0 l < i → (ms : Lines) → cut_on ms ≡ lines_from k' e' ms (p + 5 + index_of 0 l) (take (i - suc (index_of 0 l)) (lines_past l))
  behind_cut g ms =
      let z = index_whole l i g (omega arith) in
      let m : i ≡ suc (index_of 0 l) + (i - suc (index_of 0 l)) = omega arith in
      let r : drop (suc (index_of 0 l)) (take i l) ≡ take (i - suc (index_of 0 l)) (drop (suc (index_of 0 l)) l) = ap (λ (x : ℕ). drop (suc (index_of 0 l)) (take x l)) m ∙ drop-take (suc (index_of 0 l)) (i - suc (index_of 0 l)) l in
      rw (z, r) refl

  module _ (m x : ℕ) (not_33 : m ≡ 33 → ⊥)
      (onward : (ms : Lines) → index_of 0 l < i → lines_from k' e' ms (p + 5 + index_of 0 l) (take (i - suc (index_of 0 l)) (lines_past l)) ≡ refusal m x → whole_on ms ≡ refusal m x) where
    kept_on : (y : Offence) {u v : Option Offence} → CutVerdict e' u v → u ≡ some y → refusal y.1 y.0 ≡ refusal m x → v ≡ some y
    kept_on y early h r = absurd (not_33 (let z : y ≡ (e', 33) = cc in let w = ap (λ (o : Offence). o.1) z in sym (refusal_number y.1 y.0 m x r) ∙ w))
    kept_on y (kept o g) h r = h

    none_cut : {u v : Option Offence} → CutVerdict e' u v → u ≡ none → ⊥
    none_cut early h = none-some none (e', 33) refl h
    none_cut (kept o g) h = none-some none o refl h

    later_line : cut_judged ≡ refusal m x → whole_judged ≡ refusal m x
    later_line = view (at_most i (index_of 0 l)) (judged_view ls n (line_body p (take i l)) cut_first cut_on)
      where
        view : {a : Answer} → (i ≤ index_of 0 l) ⊎ (index_of 0 l < i) → Judged ls n (line_body p (take i l)) cut_first cut_on a → a ≡ refusal m x → whole_judged ≡ refusal m x
        view (inl g) (offends y o) h = judged_offends ls n (line_body p l) whole_first whole_on y (kept_on y (cut_line e p n l i e' e'_is g (let q = index_le 0 l in omega arith)) o h) ∙ h
        view (inl g) (outside r o w) h = absurd (none_cut (cut_line e p n l i e' e'_is g (let q = index_le 0 l in omega arith)) o)
        view (inl g) (goes_on ms o w) h = absurd (none_cut (cut_line e p n l i e' e'_is g (let q = index_le 0 l in omega arith)) o)
        view (inr g) (offends y o) h = judged_offends ls n (line_body p l) whole_first whole_on y (ap soonest (sym (offences-whole p i l g (omega arith) e e' n)) ∙ o) ∙ h
        view (inr g) (outside r o w) h =
            judged-outside ls n (line_body p l) whole_first whole_on r (ap soonest (sym (offences-whole p i l g (omega arith) e e' n)) ∙ o)
            (ap (λ (b : Body). with_line ls n (stmts_in b)) (sym (body_whole p i l g (omega arith))) ∙ w) ∙ h
        view (inr g) (goes_on ms o w) h =
            judged_on ls n (line_body p l) whole_first whole_on ms (ap soonest (sym (offences-whole p i l g (omega arith) e e' n)) ∙ o)
            (ap (λ (b : Body). with_line ls n (stmts_in b)) (sym (body_whole p i l g (omega arith))) ∙ w)
            ∙ onward ms g (sym (behind_cut g ms) ∙ h)

lines_later : (k k' e e' : ℕ) (ls : Lines) (p : ℕ) (l : List ℕ) (j n x : ℕ) → (n ≡ 33 → ⊥) → e' ≡ p + j → p + length l ≤ e → j ≤ length l → length l < k
    → lines_from k' e' ls p (take j l) ≡ refusal n x → lines_from k e ls p l ≡ refusal n x
unfolding lines_from
lines_later k zero e e' ls p l j n x f q w s m h = absurd (f (sym (refusal_number 33 e' n x h)))
lines_later zero (suc k') e e' ls p l j n x f q w s m h = absurd (omega arith)
lines_later (suc k) (suc k') e e' ls p l zero n x f q w s m h = absurd (f (sym (refusal_number 33 e' n x h)))
lines_later (suc k) (suc k') e e' ls p [] (suc j) n x f q w s m h = absurd (omega arith)
lines_later (suc k) (suc k') e e' ls p (a ∷ l) (suc zero) n x f q w s m h = absurd (f (sym (refusal_number 33 e' n x h)))
lines_later (suc k) (suc k') e e' ls p (a ∷ []) (suc (suc j)) n x f q w s m h = absurd (omega arith)
lines_later (suc k) (suc k') e e' ls p (a ∷ b ∷ l) (suc (suc zero)) n x f q w s m h = absurd (f (cut_link (eqb a 0 && eqb b 0) e' ls n x h))
lines_later (suc k) (suc k') e e' ls p (a ∷ b ∷ []) (suc (suc (suc j))) n x f q w s m h = absurd (omega arith)
lines_later (suc k) (suc k') e e' ls p (a ∷ b ∷ c ∷ l) (suc (suc (suc zero))) n x f q w s m h = absurd (f (cut_link (eqb a 0 && eqb b 0) e' ls n x h))
lines_later (suc k) (suc k') e e' ls p (a ∷ b ∷ c ∷ []) (suc (suc (suc (suc i)))) n x f q w s m h = absurd (omega arith)
lines_later (suc k) (suc k') e e' ls p (a ∷ b ∷ c ∷ d ∷ l) (suc (suc (suc (suc i)))) n x f q w s m h =
    let t = link_on (eqb a 0 && eqb b 0) _ ls n x h in
    next_line k e ls p a b c d l t
    ∙ later_line k k' e e' ls p (c + 256 * d) l i (omega arith) (omega arith) (omega arith) n x f
    (λ ms g u. lines_later k k' e e' ms (p + 5 + index_of 0 l) (lines_past l) (i - suc (index_of 0 l)) n x f (omega arith) (omega (arith, length-drop (suc (index_of 0 l)) l))
    (omega (arith, length-drop (suc (index_of 0 l)) l)) (omega (arith, length-drop (suc (index_of 0 l)) l)) u)
    (sym (next_line k' e' ls p a b c d (take i l) t) ∙ h)

loaded-later : (f : List ℕ) (m n x : ℕ) → (n ≡ 33 → ⊥) → m ≤ length f → loaded m (take m f) ≡ refusal n x → loaded (length f) f ≡ refusal n x
unfolding loaded
loaded-later f zero n x g h r = absurd (g (sym (refusal_number 33 0 n x r)))
loaded-later [] (suc m) n x g h r = absurd (omega arith)
loaded-later (a ∷ l) (suc zero) n x g h r = absurd (g (sym (refusal_number 33 1 n x r)))
loaded-later (a ∷ []) (suc (suc m)) n x g h r = absurd (omega arith)
loaded-later (a ∷ b ∷ l) (suc (suc m)) n x g h r =
    lines_later (suc (length (a ∷ b ∷ l))) (suc (suc (suc m))) (length (a ∷ b ∷ l)) (suc (suc m)) nolines 2 l m n x g (omega arith) (omega arith) (omega arith) (omega arith) r

pub read-loaded : (f : List ℕ) → length f ≤ 65536 → read_program f ≡ loaded (length f) f
unfolding read_program
read-loaded f h = rw (le-leb (length f) 65536 h) refl

-- what refuses the first m bytes of a file, and is no 33, refuses the file
pub refused-later : (f : List ℕ) (m n x : ℕ) → length f ≤ 65536 → (n ≡ 33 → ⊥) → read_program (take m f) ≡ refusal n x → read_program f ≡ refusal n x
refused-later f m n x h g r = go (at_most m (length f))
  where
    go : (m ≤ length f) ⊎ (length f < m) → read_program f ≡ refusal n x
    go (inl i) =
        let k : length (take m f) ≡ m = length-take-le m f i in
        let q : loaded m (take m f) ≡ refusal n x = ap (λ (j : ℕ). loaded j (take m f)) (sym k) ∙ (sym (read-loaded (take m f) (omega arith)) ∙ r) in
        read-loaded f h ∙ loaded-later f m n x g i q
    go (inr i) = ap read_program (sym (take_all m f (omega arith))) ∙ r
