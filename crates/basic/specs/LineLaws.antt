-- A line behind others: what its numbers, its statements and its offences decide. Assumes nothing.
use Rattle.std.specs.Prelude.{ℕ, suc, ◌+◌, ◌*◌, ◌-◌, ◌≤◌, ◌<◌, ◌≡◌, refl, List, [], ◌∷◌, ◌++◌, Bool, true, false, ◌&&◌, ◌||◌, eqb, ltb, leb, length, get_or, drop, Some, None, Result, Ok, Err}
use Rattle.std.specs.Prelude as std
use Rattle.std.proofs.Common.{arith, sym, ap, ◌∙◌, subst, drop-cons, drop-drop}
use Rattle.std.proofs.Math.Option.{Option, none, some}
use borrow.Author.Tests.{lt-ltb, le-ltb, le-leb, lt-leb, eq-eqb, eqb-true}
use Rattle.listings.specs.Bytes.{pick}
use Rattle.listings.specs.Listing.{Stmts, ∅, Lines, line, total, count, size}
use Rattle.listings.specs.ListingText.{last_number}
use Rattle.listings.specs.Read.{Outcome, Answer, check, ascends, taken, refused, refusal}
use Rattle.program_files.specs.Program.{Offence, Body, body, bad, join_go, body_of, shallow, short, lacking, sooner, soonest, offences, with_line, stmts_in, judged, lines_from}
use Rattle.basic.specs.Lines.{maybe, word_at, bytes_at, stmts_at, zero_at, offence_of, offence_in, EndsLine, IsLeast, WithTold, Kept, LineTold}
use Rattle.basic.specs.Bodies.{summary}
use Rattle.basic.specs.Fuel.{body_more}
use Rattle.basic.specs.Cursors.{join-length}
use Rattle.basic.specs.declared.bodies.Body as judged_body
use Rattle.basic.specs.declared.found.Lack.{Lack}
use Rattle.basic.specs.declared.line.Taken.{Taken}
use Rattle.basic.specs.declared.line.Counted.{Counted}
use Rattle.tokens.specs.Numbers as tokens
use Rattle.layout.specs.Refusals.{number_of, refusal_at}
use Rattle.layout.specs.declared.refusals.Reason.TheVariants as reason
use Rattle.layout.specs.declared.refusals.Refusal.{Refusal}

-- ---- behind other lines

pub above_last : (n : ℕ) (o : std.Option ℕ) → tokens.ascends o n ≡ ascends n (maybe o)
unfolding ascends
above_last n None = refl
above_last n (Some m) = refl

module _ (s : Counted) (n : ℕ) (st : Stmts) where
  above : (ls : Lines) → maybe s.last ≡ last_number ls → ascends n (last_number ls) ≡ ascends n (maybe s.last)
  above ls e = ap (ascends n) (sym e)

  pub told_4 : ascends n (maybe s.last) ≡ false → WithTold s n st (Err (refusal_at reason.LineOrder s.lines))
  unfolding with_line check
  told_4 h ls a = (rw (above ls a.last ∙ h) refl, a.lines)

  module _ (up : ascends n (maybe s.last) ≡ true) where
    pub told_5 : 1024 ≤ s.lines → WithTold s n st (Err (refusal_at reason.TooManyLines s.lines))
    unfolding with_line check
    told_5 h ls a =
        let f = a.lines in
        (rw (above ls a.last ∙ up, le-ltb (count ls) 1024 (omega arith)) refl, f)

    module _ (few : s.lines < 1024) where
      pub told_6 : 4096 < s.stmts + size st → WithTold s n st (Err (refusal_at reason.TooManyStatements s.lines))
      unfolding with_line check
      told_6 h ls a =
          let f = a.lines in
          let g = a.stmts in
          (rw (above ls a.last ∙ up, lt-ltb (count ls) 1024 (omega arith), lt-leb (total ls + size st) 4096 (omega arith)) refl, f)

      module _ (little : s.stmts + size st ≤ 4096) where
        pub told_7 : shallow 0 st ≡ false → WithTold s n st (Err (refusal_at reason.TooDeep s.lines))
        unfolding with_line check
        told_7 h ls a =
            let f = a.lines in
            let g = a.stmts in
            (rw (above ls a.last ∙ up, lt-ltb (count ls) 1024 (omega arith), le-leb (total ls + size st) 4096 (omega arith), h) refl, f)

        module _ (flat : shallow 0 st ≡ true) where
          pub told_8 : short st ≡ false → WithTold s n st (Err (refusal_at reason.TooWide s.lines))
          unfolding with_line check
          told_8 h ls a =
              let f = a.lines in
              let g = a.stmts in
              (rw (above ls a.last ∙ up, lt-ltb (count ls) 1024 (omega arith), le-leb (total ls + size st) 4096 (omega arith), flat, h) refl, f)

          pub told-taken : short st ≡ true → (t : Counted) → t.last ≡ Some n → t.lines ≡ s.lines + 1 → t.stmts ≡ s.stmts + size st → (next : ℕ) → WithTold s n st (Ok (record { counted = t; next = next }))
          unfolding with_line check last_number count total
          told-taken h t last lines stmts next ls a =
              let f = a.lines in
              let g = a.stmts in (
                rw (above ls a.last ∙ up, lt-ltb (count ls) 1024 (omega arith), le-leb (total ls + size st) 4096 (omega arith), flat, h) refl,
                record { last = ap maybe last; lines = omega arith; stmts = omega arith },
              )

-- ---- a line of the file

-- the first four bytes from p on
record Four (f : List ℕ) (p : ℕ) : Type 0 where
  pub is : drop p f ≡ get_or f p 0 ∷ get_or f (p + 1) 0 ∷ get_or f (p + 2) 0 ∷ get_or f (p + 2 + 1) 0 ∷ drop (p + 4) f

four : (f : List ℕ) (p : ℕ) → p + 3 < length f → Four f p
four f p h =
    let a : p + 1 ≡ suc p = omega arith in
    let b : p + 2 ≡ suc (suc p) = omega arith in
    let c : p + 2 + 1 ≡ suc (suc (suc p)) = omega arith in
    let d : p + 4 ≡ suc (suc (suc (suc p))) = omega arith in
    let w : drop p f ≡ get_or f p 0 ∷ drop (suc p) f = drop-cons f p 0 (omega arith) in
    let x : drop (suc p) f ≡ get_or f (suc p) 0 ∷ drop (suc (suc p)) f = drop-cons f (suc p) 0 (omega arith) in
    let y : drop (suc (suc p)) f ≡ get_or f (suc (suc p)) 0 ∷ drop (suc (suc (suc p))) f = drop-cons f (suc (suc p)) 0 (omega arith) in
    let z : drop (suc (suc (suc p))) f ≡ get_or f (suc (suc (suc p))) 0 ∷ drop (suc (suc (suc (suc p)))) f = drop-cons f (suc (suc (suc p))) 0 (omega arith) in
    record { is = rw (a, c, b, d) (w ∙ ap (λ (l : List ℕ). get_or f p 0 ∷ l) (x ∙ ap (λ (l : List ℕ). get_or f (suc p) 0 ∷ l) (y ∙ ap (λ (l : List ℕ). get_or f (suc (suc p)) 0 ∷ l) z))) }

-- not both 0
pub unlinked : (a b : ℕ) → (a + 256 * b ≡ 0 → ⊥) → (eqb a 0 && eqb b 0) ≡ false
unlinked a b h = go (eqb a 0) (eqb b 0) refl refl
  where
    go : (s t : Bool) → eqb a 0 ≡ s → eqb b 0 ≡ t → (s && t) ≡ false
    go false t e g = refl
    go true false e g = refl
    go true true e g = let x = eqb-true a 0 e in let y = eqb-true b 0 g in absurd (h (omega arith))

pub linked : (a b : ℕ) → a + 256 * b ≡ 0 → (eqb a 0 && eqb b 0) ≡ true
linked a b h = rw (eq-eqb a 0 (omega arith), eq-eqb b 0 (omega arith)) refl

judged-refused : (ls : Lines) (n : ℕ) (st : Stmts) (f : Lines → Answer) (m : ℕ) → with_line ls n st ≡ refused m → judged ls n (body st) none f ≡ refusal m (count ls)
unfolding judged stmts_in
judged-refused ls n st f m h = ap (λ (o : Outcome Lines). elim o as (λ x. Answer) [ refused m ↦ refusal m (count ls) | taken ms ↦ f ms ]) h

judged-taken : (ls : Lines) (n : ℕ) (st : Stmts) (f : Lines → Answer) (ms : Lines) → with_line ls n st ≡ taken ms → judged ls n (body st) none f ≡ f ms
unfolding judged stmts_in
judged-taken ls n st f ms h = ap (λ (o : Outcome Lines). elim o as (λ x. Answer) [ refused m ↦ refusal m (count ls) | taken ms ↦ f ms ]) h

judged_clean : (ls : Lines) (n : ℕ) (st : Stmts) (f : Lines → Answer) (b : Body) (o : Option Offence) → o ≡ none → b ≡ body st → judged ls n b o f ≡ judged ls n (body st) none f
judged_clean ls n st f b o h g = rw (h, g) refl

-- what the line whose link stands at p, not 0, is judged by
abbrev pub least : List ℕ → ℕ → Option Offence
least f p = soonest (offences (length f) (p + 2) (word_at f (p + 2)) (drop (p + 4) f) (bytes_at f p) (stmts_at f p))

module _ (f : List ℕ) (p : ℕ) (inside : p + 3 < length f) (link : word_at f p ≡ 0 → ⊥) (k : ℕ) (ls : Lines) where
  line_judged : lines_from (suc k) (length f) ls p (drop p f)
      ≡ judged ls (word_at f (p + 2)) (stmts_at f p) (least f p) (λ ms. lines_from k (length f) ms (p + 5 + zero_at f p) (drop (suc (zero_at f p)) (drop (p + 4) f)))
  unfolding lines_from
  line_judged =
      let t = four f p inside in
      ap (lines_from (suc k) (length f) ls p) t.is ∙ (rw (unlinked (get_or f p 0) (get_or f (p + 1) 0) link) refl)

  pub line_offends : (o : Offence) → least f p ≡ some o → lines_from (suc k) (length f) ls p (drop p f) ≡ refusal o.1 o.0
  unfolding judged
  line_offends o h = line_judged ∙ (rw h refl)

  module _ (st : Stmts) (clean : least f p ≡ none) (good : stmts_at f p ≡ body st) where
    rest : Lines → Answer
    rest ms = lines_from k (length f) ms (p + 5 + zero_at f p) (drop (suc (zero_at f p)) (drop (p + 4) f))

    line_clean : lines_from (suc k) (length f) ls p (drop p f) ≡ judged ls (word_at f (p + 2)) (body st) none rest
    unfolding rest
    line_clean = line_judged ∙ judged_clean ls (word_at f (p + 2)) st rest (stmts_at f p) (least f p) clean good

    pub line_refused : (m : ℕ) → with_line ls (word_at f (p + 2)) st ≡ refused m → lines_from (suc k) (length f) ls p (drop p f) ≡ refusal m (count ls)
    line_refused m h = line_clean ∙ judged-refused ls (word_at f (p + 2)) st rest m h

    pub line_taken : (ms : Lines) → with_line ls (word_at f (p + 2)) st ≡ taken ms
        → lines_from (suc k) (length f) ls p (drop p f) ≡ lines_from k (length f) ms (p + 5 + zero_at f p) (drop (p + 5 + zero_at f p) f)
    unfolding rest
    line_taken ms h =
        let z : p + 4 + suc (zero_at f p) ≡ p + 5 + zero_at f p = omega arith in
        line_clean ∙ judged-taken ls (word_at f (p + 2)) st rest ms h
        ∙ ap (lines_from k (length f) ms (p + 5 + zero_at f p)) (drop-drop (suc (zero_at f p)) (p + 4) f ∙ ap (λ (i : ℕ). drop i f) z)

-- ---- a line without offences

none-first : (a : Offence) (x : Option Offence) → sooner a x ≡ none → ⊥
unfolding sooner
none-first a none e = absurd cc
none-first a (some b) e = go (ltb a.0 b.0 || (eqb a.0 b.0 && leb a.1 b.1)) e
  where
    go : (t : Bool) → pick t (some a) (some b) ≡ none → ⊥
    go true e = cc
    go false e = cc

none_least : (l : List Offence) → soonest l ≡ none → l ≡ []
unfolding soonest
none_least [] e = refl
none_least (a ∷ l) e = absurd (none-first a (soonest l) e)

no_right : {A : Type 0} (k l : List A) → k ++ l ≡ [] → l ≡ []
no_right [] l e = e
no_right (a ∷ k) l e = absurd cc

no_left : {A : Type 0} (k l : List A) → k ++ l ≡ [] → k ≡ []
no_left [] l e = refl
no_left (a ∷ k) l e = absurd cc

none-lacking : (b : Body) → lacking b ≡ [] → (st : Stmts) × (b ≡ body st)
unfolding lacking
none-lacking (body st) e = (st, refl)
none-lacking (bad p) e = absurd cc

-- its statements are in order
pub clean_good : (f : List ℕ) (p n : ℕ) (b : Body) → soonest (offences (length f) (p + 2) n (drop (p + 4) f) (bytes_at f p) b) ≡ none → (st : Stmts) × (b ≡ body st)
unfolding offences
clean_good f p n b e =
    let a = none_least _ e in
    let c = no_right _ _ a in
    let d = no_right _ _ c in
    none-lacking b (no_left _ _ d)

-- ---- the code's answer for a line

-- the statements' fuel: the bytes that count, or those with GO and TO joined
pub stmts_told : (f : List ℕ) (p : ℕ) (d : Result judged_body.Body Lack) → d ≡ summary (body_of (length (join_go (bytes_at f p))) ∅ (join_go (bytes_at f p))) → d ≡ summary (stmts_at f p)
stmts_told f p d h =
    let l = join_go (bytes_at f p) in
    h ∙ ap summary (body_more (length l) (length (bytes_at f p)) ∅ l (omega arith) (join-length (bytes_at f p)))

module _ (f : List ℕ) (p n : ℕ) (inside : p + 3 < length f) (link : word_at f p ≡ 0 → ⊥) (number : n ≡ word_at f (p + 2)) (d : Result judged_body.Body Lack) (told : d ≡ summary (stmts_at f p))
    (o : std.Option Refusal) (decides : IsLeast f p n d o) where
  is_least : offence_in o ≡ least f p
  is_least = rw (← number) (decides (stmts_at f p) told)

  pub told_offends : (r : Refusal) → o ≡ Some r → (ls : Lines) (k : ℕ) → lines_from (suc k) (length f) ls p (drop p f) ≡ refusal (number_of r.reason) r.place
  told_offends r h ls k = line_offends f p inside link k ls (offence_of r) (sym is_least ∙ ap offence_in h)

  module _ (h : o ≡ None) where
    clean : least f p ≡ none
    clean = sym is_least ∙ ap offence_in h

    good : (st : Stmts) × (stmts_at f p ≡ body st)
    unfolding clean
    good = clean_good f p (word_at f (p + 2)) (stmts_at f p) clean

    -- its statements lack nothing
    pub told_good : (e : Lack) → d ≡ Err e → ⊥
    unfolding summary
    told_good e g = let s = told ∙ ap summary good.1 in cc

    pub told_with : (r : Result Taken Refusal) (s : Counted) → ((st : Stmts) → d ≡ summary (body st) → WithTold s n st r) → Kept (p + 5 + zero_at f p) r → LineTold f p s r
    told_with (Err r) s w kept = λ ls a k.
        let t = w good.0 (told ∙ ap summary good.1) ls a in
        line_refused f p inside link k ls good.0 clean good.1 (number_of r.reason) (subst (λ (x : ℕ). with_line ls x good.0 ≡ refused (number_of r.reason)) number t.0) ∙ ap (refusal (number_of r.reason)) (sym t.1)
    told_with (Ok t) s w kept = λ ls a.
        let u = w good.0 (told ∙ ap summary good.1) ls a in
        let ms = line ls n good.0 in
        let z = kept in
        (ms, u.1, λ k. rw z (line_taken f p inside link k ls good.0 clean good.1 ms (subst (λ (x : ℕ). with_line ls x good.0 ≡ taken ms) number u.0)))

-- where the next line's link stands
pub kept_at : (f : List ℕ) (p z : ℕ) (r : Result Taken Refusal) → EndsLine f p z → Kept (z + 1) r → Kept (p + 5 + zero_at f p) r
kept_at f p z r e h =
    let i : z + 1 ≡ p + 5 + zero_at f p = omega arith in
    subst (λ (x : ℕ). Kept x r) i h
