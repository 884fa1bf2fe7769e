-- The words after a form's opening word, as the code judges them: why one of them is refused, by the lowest number, and
-- how many there are. Assumes nothing.
use Rattle.std.specs.Prelude.{ℕ, suc, ◌⊎◌, ◌+◌, ◌≤◌, ◌<◌, ◌≡◌, refl, List, [], ◌∷◌, Bool, true, false, ◌&&◌, ◌||◌, not, eqb, ltb, length, get_or, take, drop, Option as Maybe, Some, None, Result, Ok, Err}
use Rattle.std.specs.Option.{ok_or}
use Rattle.std.specs.Result.{result_and}
use Rattle.std.proofs.Common.{sym, ◌∙◌, inl, inr, arith, not-suc-le-zero, add-one, drop_of_length-le}
use Rattle.std.proofs.Math.Path.{ap}
use Rattle.std.proofs.Math.Option as M
use Rattle.std.proofs.Math.Option.{none, some}
use Rattle.std.proofs.Math.Seq.{drop-cons}
use borrow.Author.Tests.{ne_eqb, eqb-true, ltb-true, ltb-false, lt-ltb, le-ltb}
use Rattle.listings.specs.Bytes.{bytes, same, pick}
use Rattle.listings.specs.Listing as listing
use Rattle.listings.specs.Listing.{for}
use Rattle.listings.specs.Rows.{split, on_first, all, is_word, are_words, Parse, malformed, invalid, parsed, refusal_of, map_parse, with_parse, parse_number, parse_numbers, parse_name, parse_slot, parse_slots, lookup, or_malformed, tiers, parse_tier, marks, parse_mark, single, for_stmt}
use Rattle.listing_laws.specs.WordText.{same_equal}
use Rattle.listings.specs.Scan.{index_of, index_le, same_sym, split_last, split_more, split-some}
use Rattle.layout.specs.Refusals.{number_of}
use Rattle.layout.specs.declared.refusals.Reason.{Reason}
use Rattle.layout.specs.declared.refusals.Reason.TheVariants as reason
use Rattle.tokens.specs.Numbers.{as_number}
use Rattle.tokens.specs.Tiers.{tier_found, mark_found}
use Rattle.tokens.specs.declared.arguments.Arguments.{Arguments}
use Rattle.tokens.specs.declared.arguments.Arguments.TheVariants as arguments
use Rattle.tokens.specs.declared.arguments.Checked.{Checked}
use Rattle.tokens.specs.declared.words.Kind.{Kind}
use Rattle.tokens.specs.declared.words.Kind.TheVariants as kind

-- ---- why a word is refused

abbrev pub Verdict : Type 0
Verdict = Result (Unit {0}) Reason

-- of what was read: why there is no value, if there is none
abbrev pub verdict : {A : Type 0} → Parse A → Verdict
verdict malformed = Err reason.NotAForm
verdict invalid = Err reason.BadWord
verdict (parsed a) = Ok tt

-- how many there are, and why one is refused
abbrev pub checked : ℕ → Verdict → Checked
checked n v = record { count = n; verdict = v }

abbrev pub no_form : Checked
no_form = checked 0 (Err reason.NotAForm)

abbrev pub are_slots : Arguments → Bool
are_slots arguments.Numbers = false
are_slots arguments.Slots = true

-- of a slot, or of a number
unfoldable pub refusal_by : Bool → List ℕ → Verdict
refusal_by true w = verdict (parse_slot w)
refusal_by false w = verdict (parse_number w)

-- "within it, the lowest number": of two refusals; the second answer where none is refused
unfoldable pub lowest : {A B : Type 0} → Result A Reason → Result B Reason → Result B Reason
lowest (Ok a) b = b
lowest (Err r) (Ok b) = Err r
lowest (Err r) (Err s) = pick (ltb (number_of s) (number_of r)) (Err s) (Err r)

unfoldable pub lowest_of : (List ℕ → Verdict) → List (List ℕ) → Verdict
lowest_of f [] = Ok tt
lowest_of f (w ∷ ws) = lowest (f w) (lowest_of f ws)

-- the number is the definition's
pub verdict_number : {A : Type 0} (g : Parse A) (r : Reason) → verdict g ≡ Err r → number_of r ≡ refusal_of g
verdict_number malformed r e = let z : reason.NotAForm ≡ r = cc in ap number_of (sym z)
verdict_number invalid r e = let z : reason.BadWord ≡ r = cc in ap number_of (sym z)
verdict_number (parsed a) r e = cc

pub number_verdict : (g : Parse ℕ) → result_and (as_number g) (Ok tt) ≡ verdict g
number_verdict malformed = refl
number_verdict invalid = refl
number_verdict (parsed n) = refl

-- a word that is no tier, or no mark, is no form
pub tier_verdict : (w : List ℕ) → result_and (ok_or (tier_found (parse_tier w)) reason.NotAForm) (Ok tt) ≡ verdict (parse_tier w)
unfolding or_malformed parse_tier
tier_verdict w = go (lookup tiers w)
  where
    go : (o : M.Option listing.Tier) → result_and (ok_or (tier_found (or_malformed o)) reason.NotAForm) (Ok tt) ≡ verdict (or_malformed o)
    go none = refl
    go (some t) = refl

pub mark_verdict : (w : List ℕ) → result_and (ok_or (mark_found (parse_mark w)) reason.NotAForm) (Ok tt) ≡ verdict (parse_mark w)
unfolding or_malformed parse_mark
mark_verdict w = go (lookup marks w)
  where
    go : (o : M.Option listing.Mark) → result_and (ok_or (mark_found (or_malformed o)) reason.NotAForm) (Ok tt) ≡ verdict (or_malformed o)
    go none = refl
    go (some t) = refl

-- two words are refused by the lower number
pub refusal_with : {A B C : Type 0} (f : A → B → C) (a : Parse A) (b : Parse B) → verdict (with_parse f a b) ≡ lowest (verdict a) (verdict b)
unfolding with_parse lowest
refusal_with f malformed malformed = refl
refusal_with f malformed invalid = refl
refusal_with f malformed (parsed b) = refl
refusal_with f invalid malformed = refl
refusal_with f invalid invalid = refl
refusal_with f invalid (parsed b) = refl
refusal_with f (parsed a) malformed = refl
refusal_with f (parsed a) invalid = refl
refusal_with f (parsed a) (parsed b) = refl

pub numbers_refusal : (ws : List (List ℕ)) → verdict (parse_numbers ws) ≡ lowest_of (refusal_by false) ws
unfolding parse_numbers lowest_of refusal_by
numbers_refusal [] = refl
numbers_refusal (w ∷ ws) = refusal_with (λ n ns. n ∷ ns) (parse_number w) (parse_numbers ws) ∙ ap (lowest (verdict (parse_number w))) (numbers_refusal ws)

pub slots_refusal : (ws : List (List ℕ)) → verdict (parse_slots ws) ≡ lowest_of (refusal_by true) ws
unfolding parse_slots lowest_of refusal_by
slots_refusal [] = refl
slots_refusal (w ∷ ws) = refusal_with (λ s ss. s ∷ ss) (parse_slot w) (parse_slots ws) ∙ ap (lowest (verdict (parse_slot w))) (slots_refusal ws)

pub lowest_of_none : (a : Verdict) → lowest a (Ok tt) ≡ a
unfolding lowest
lowest_of_none (Ok u) = refl
lowest_of_none (Err r) = refl

pub lowest_second : (A B : Type 0) (r s : Reason) → number_of s < number_of r → lowest {A = A} {B = B} (Err r) (Err s) ≡ Err s
unfolding lowest
lowest_second A B r s h = rw (lt-ltb (number_of s) (number_of r) h)

pub lowest-first : (A B : Type 0) (r s : Reason) → number_of r ≤ number_of s → lowest {A = A} {B = B} (Err r) (Err s) ≡ Err r
unfolding lowest
lowest-first A B r s h = rw (le-ltb (number_of s) (number_of r) h)

lowest_assoc : (a b c : Verdict) → lowest (lowest a b) c ≡ lowest a (lowest b c)
unfolding lowest
lowest_assoc (Ok u) b c = refl
lowest_assoc (Err r) (Ok u) c = refl
lowest_assoc (Err r) (Err s) (Ok u) = lowest_of_none (lowest {A = Unit {0}} (Err r) (Err s))
lowest_assoc (Err r) (Err s) (Err t) = go (ltb b a) (ltb c b) refl refl
  where
    a : ℕ
    a = number_of r

    b : ℕ
    b = number_of s

    c : ℕ
    c = number_of t

    r₀ : Verdict
    r₀ = Err r

    s₀ : Verdict
    s₀ = Err s

    t₀ : Verdict
    t₀ = Err t

    go : (x y : Bool) → ltb b a ≡ x → ltb c b ≡ y → lowest (pick x s₀ r₀) t₀ ≡ lowest r₀ (pick y t₀ s₀)
    go true true p q = rw (q, lt-ltb c a (omega (arith, ltb-true b a p, ltb-true c b q)))
    go true false p q = rw (q, p)
    go false true p q = refl
    go false false p q = rw (p, le-ltb c a (omega (arith, ltb-false b a p, ltb-false c b q)))

pub lowest_last : (f : List ℕ → Verdict) (g : Verdict) (w : List ℕ) → lowest g (lowest_of f (w ∷ [])) ≡ lowest g (f w)
unfolding lowest_of
lowest_last f g w = ap (lowest g) (lowest_of_none (f w))

pub lowest_next : (f : List ℕ → Verdict) (g : Verdict) (w : List ℕ) (ws : List (List ℕ)) → lowest (lowest g (f w)) (lowest_of f ws) ≡ lowest g (lowest_of f (w ∷ ws))
unfolding lowest_of
lowest_next f g w ws = lowest_assoc g (f w) (lowest_of f ws)

-- ---- words

abbrev pub no_bracket : ℕ → Bool
no_bracket c = not (eqb c 40 || eqb c 41)

-- whether the pieces from here on are words; fresh: nothing of the first was seen before
unfoldable pub words_from : Bool → List ℕ → Bool
words_from fresh [] = not fresh
words_from fresh (b ∷ l) = no_bracket b && pick (eqb b 32) (not fresh && words_from true l) (words_from false l)

-- pieces of which the first goes on with something that was seen
rest_words : List (List ℕ) → Bool
rest_words [] = true
rest_words (w ∷ ws) = all no_bracket w && are_words ws

and_assoc : (a b c : Bool) → (a && b) && c ≡ a && (b && c)
and_assoc true b c = refl
and_assoc false b c = refl

first_byte : (b : ℕ) (r : List (List ℕ)) → 0 < length r → (no_bracket b && rest_words r ≡ are_words (on_first b r)) × (no_bracket b && rest_words r ≡ rest_words (on_first b r))
unfolding rest_words are_words is_word all on_first
first_byte b [] h = absurd (not-suc-le-zero h)
first_byte b (w ∷ ws) h = let e = sym (and_assoc (no_bracket b) (all no_bracket w) (are_words ws)) in (e, e)

words_both : (l : List ℕ) → (words_from true l ≡ are_words (split 32 l)) × (words_from false l ≡ rest_words (split 32 l))
unfolding words_from rest_words are_words is_word all split
words_both [] = (refl, refl)
words_both (b ∷ l) = go (eqb b 32) refl (words_both l)
  where
    go : (t : Bool) → eqb b 32 ≡ t → (words_from true l ≡ are_words (split 32 l)) × (words_from false l ≡ rest_words (split 32 l))
        → (no_bracket b && pick t false (words_from false l) ≡ are_words (pick t ([] ∷ split 32 l) (on_first b (split 32 l))))
        × (no_bracket b && pick t (words_from true l) (words_from false l) ≡ rest_words (pick t ([] ∷ split 32 l) (on_first b (split 32 l))))
    go true e h = let q = eqb-true b 32 e in (rw q, rw q h.0)
    go false e h = let q = first_byte b (split 32 l) (split-some 32 l) in (rw h.1 q.0, rw h.1 q.1)

pub words_from_lem : (l : List ℕ) → words_from true l ≡ are_words (split 32 l)
words_from_lem l = (words_both l).0

module _ (fresh : Bool) (s : List ℕ) (i : ℕ) (inside : i < length s) where
  pub words_bracket : (get_or s i 0 ≡ 40) ⊎ (get_or s i 0 ≡ 41) → words_from fresh (drop i s) ≡ false
  unfolding words_from
  words_bracket (inl h) = rw (drop-cons s i 0 inside, h)
  words_bracket (inr h) = rw (drop-cons s i 0 inside, h)

  pub words_space : get_or s i 0 ≡ 32 → words_from fresh (drop i s) ≡ not fresh && words_from true (drop (i + 1) s)
  unfolding words_from
  words_space h = rw (add-one, drop-cons s i 0 inside, h)

  pub words-other : (get_or s i 0 ≡ 40 → ⊥) → (get_or s i 0 ≡ 41 → ⊥) → (get_or s i 0 ≡ 32 → ⊥) → words_from fresh (drop i s) ≡ words_from false (drop (i + 1) s)
  unfolding words_from
  words-other h k m = rw (add-one, drop-cons s i 0 inside, ne_eqb (get_or s i 0) 40 h, ne_eqb (get_or s i 0) 41 k, ne_eqb (get_or s i 0) 32 m)

pub words_end_lem : (fresh : Bool) (s : List ℕ) (i : ℕ) → length s ≤ i → words_from fresh (drop i s) ≡ not fresh
unfolding words_from
words_end_lem fresh s i h = rw (drop_of_length-le s {i = i} h)

-- ---- one word, a slot

single_two : (w : List ℕ) (ws : List (List ℕ)) → 0 < length ws → single (w ∷ ws) ≡ malformed
unfolding single
single_two w [] h = absurd (not-suc-le-zero h)
single_two w (v ∷ ws) h = refl

pub single_many : (s : List ℕ) → index_of 32 s < length s → single (split 32 s) ≡ malformed
single_many s h =
    ap single (split_more 32 s h) ∙ single_two (take (index_of 32 s) s) (split 32 (drop (suc (index_of 32 s)) s)) (split-some 32 (drop (suc (index_of 32 s)) s))

pub single_is : (s : List ℕ) → index_of 32 s ≡ length s → single (split 32 s) ≡ parse_number s
unfolding single
single_is s h = ap single (split_last 32 s h)

pub slot_star : (w : List ℕ) → same (42 ∷ []) w ≡ true → parse_slot w ≡ parsed none
unfolding parse_slot
slot_star w h = rw (same_sym w (42 ∷ []) ∙ h)

pub slot_name : (w : List ℕ) → same (42 ∷ []) w ≡ false → verdict (parse_slot w) ≡ verdict (parse_name w)
unfolding parse_slot map_parse
slot_name w h = rw (same_sym w (42 ∷ []) ∙ h) (go (parse_name w))
  where
    go : (g : Parse (List ℕ)) → verdict (map_parse some g) ≡ verdict g
    go malformed = refl
    go invalid = refl
    go (parsed a) = refl

-- ---- the words of a closed form

unfoldable pub check_for : List (List ℕ) → Checked
check_for ws = checked 0 (verdict (for_stmt ws))

unfoldable pub check_next : List (List ℕ) → Checked
check_next [] = no_form
check_next (w ∷ ws) = checked (length ws) (lowest (verdict (parse_mark w)) (lowest_of (refusal_by true) ws))

-- by the kind of the opening word
unfoldable pub check_kind : Kind → List (List ℕ) → Checked
check_kind kind.Number ws = checked 0 (verdict (single ws))
check_kind kind.Run ws = checked 0 (verdict (single ws))
check_kind kind.Numbers ws = checked (length ws) (lowest_of (refusal_by false) ws)
check_kind kind.For ws = check_for ws
check_kind kind.Next ws = check_next ws
check_kind kind.Module ws = no_form
check_kind kind.Line ws = no_form
check_kind kind.To ws = no_form
check_kind kind.Stmts ws = no_form
check_kind (kind.Cond x) ws = no_form
check_kind kind.Bare ws = no_form

-- what is none of the 28 opening words has no kind
unfoldable pub check_opened : Maybe Kind → List (List ℕ) → Checked
check_opened None ws = no_form
check_opened (Some g) ws = check_kind g ws

-- ---- a name and a tier

for_one : (w : List ℕ) → check_for (w ∷ []) ≡ no_form
unfolding check_for for_stmt
for_one w = refl

for_many : (w v : List ℕ) (ws : List (List ℕ)) → 0 < length ws → check_for (w ∷ v ∷ ws) ≡ no_form
unfolding check_for for_stmt
for_many w v [] h = absurd (not-suc-le-zero h)
for_many w v (u ∷ ws) h = refl

for_two : (w v : List ℕ) → check_for (w ∷ v ∷ []) ≡ checked 0 (lowest (verdict (parse_name w)) (verdict (parse_tier v)))
unfolding check_for for_stmt
for_two w v = ap (checked 0) (refusal_with (λ n t. (for n t, 0)) (parse_name w) (parse_tier v))

pub for_alone : (s : List ℕ) → split 32 s ≡ s ∷ [] → check_for (split 32 s) ≡ no_form
for_alone s p = ap check_for p ∙ for_one s

spaced_other : (p v : List ℕ) → index_of 32 p ≡ length p → index_of 32 v < length v → same p v ≡ false
spaced_other p v e h = go (same p v) refl
  where
    go : (t : Bool) → same p v ≡ t → t ≡ false
    go true q = let z = same_equal p v q in absurd (omega (arith, e, h, ap (index_of 32) z, ap length z))
    go false q = refl

-- no tier has a space in it
tier_spaced : (v : List ℕ) → index_of 32 v < length v → parse_tier v ≡ malformed
unfolding bytes index_of lookup or_malformed parse_tier tiers
tier_spaced v h = rw (spaced_other (bytes "static") v refl h, spaced_other (bytes "framed") v refl h, spaced_other (bytes "dispatched") v refl h) refl

lowest_malformed : (g : Parse (List ℕ)) → lowest (verdict g) (verdict {A = listing.Tier} malformed) ≡ Err reason.NotAForm
unfolding lowest
lowest_malformed malformed = refl
lowest_malformed invalid = refl
lowest_malformed (parsed a) = refl

module _ (s w v : List ℕ) (cut : split 32 s ≡ w ∷ split 32 v) where
  for_longer : index_of 32 v < length v → check_for (split 32 s) ≡ no_form
  for_longer h =
      let d = index_of 32 v in
      ap check_for (cut ∙ ap (λ (z : List (List ℕ)). w ∷ z) (split_more 32 v h)) ∙ for_many w (take d v) (split 32 (drop (suc d) v)) (split-some 32 (drop (suc d) v))

  for_right : index_of 32 v ≡ length v → check_for (split 32 s) ≡ checked 0 (lowest (verdict (parse_name w)) (verdict (parse_tier v)))
  for_right h = ap check_for (cut ∙ ap (λ (z : List (List ℕ)). w ∷ z) (split_last 32 v h)) ∙ for_two w v

  pub for_more : check_for (split 32 s) ≡ checked 0 (lowest (verdict (parse_name w)) (verdict (parse_tier v)))
  for_more = go (ltb (index_of 32 v) (length v)) refl
    where
      go : (t : Bool) → ltb (index_of 32 v) (length v) ≡ t → check_for (split 32 s) ≡ checked 0 (lowest (verdict (parse_name w)) (verdict (parse_tier v)))
      go true e = let h = ltb-true (index_of 32 v) (length v) e in for_longer h ∙ ap (checked 0) (sym (rw (tier_spaced v h) (lowest_malformed (parse_name w))))
      go false e = for_right (omega (arith, ltb-false (index_of 32 v) (length v) e, index_le 32 v))

-- ---- a mark and slots

pub next_alone : (s : List ℕ) → split 32 s ≡ s ∷ [] → check_next (split 32 s) ≡ checked 0 (verdict (parse_mark s))
unfolding check_next lowest_of
next_alone s p = ap check_next p ∙ ap (checked 0) (lowest_of_none (verdict (parse_mark s)))

pub next_slots : (s w v : List ℕ) → split 32 s ≡ w ∷ split 32 v → check_next (split 32 s) ≡ checked (length (split 32 v)) (lowest (verdict (parse_mark w)) (lowest_of (refusal_by true) (split 32 v)))
unfolding check_next
next_slots s w v p = ap check_next p
