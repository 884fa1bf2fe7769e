-- Words: what is read of a name's, slot's, tier's or mark's word, and the bytes of words. Assumes nothing.
use Rattle.std.specs.Prelude.{ℕ, zero, suc, ◌+◌, ◌/◌, ◌%◌, ◌≤◌, ◌≡◌, refl, Bool, true, false, ◌&&◌, ◌||◌, not, List, [], ◌∷◌, ◌++◌, map, eqb, leb, ltb, length}
use Rattle.std.proofs.Common.{sym, ap, ◌∙◌, subst, ⊎_elim, arith, ne_eqb, eqb-true, leb-true, le-leb}
use Rattle.std.proofs.Math.Option.{Option, none, some}
use Rattle.listings.specs.Bytes.{bytes, same, pick, decimal_in, decimal}
use Rattle.listings.specs.Listing.{Tier, static, framed, dispatched, Mark, orphan, Slot}
use Rattle.listings.specs.Rows.{all, is_word, are_words, lookup, invalid, parsed, map_parse, with_parse, is_digit, is_capital, name_end, is_name, parse_name, parse_slot, parse_slots, or_malformed, tiers, parse_tier, marks, parse_mark, handler_facts}
use Rattle.listings.specs.ListingText.{tier_word, mark_word, slot_word, handler_word, NameOk, SlotsOk}
use Rattle.listings.specs.Every.{All, all[], all∷}
use Rattle.listings.specs.Tests.{not_both, both_true, either_true}
use Rattle.listing_laws.specs.NumberText.{all-append-true, all_weaken, digit_range, decimal-digits, IfParsed, of_parsed, if-map, if_with}

-- ---- the bytes of words

-- a byte of a word that a text in form has: no space, no byte 10, no bracket
unfoldable pub in_word : ℕ → Bool
in_word c = leb 36 c && not (eqb c 40 || eqb c 41)

unfoldable pub is_token : List ℕ → Bool
is_token [] = false
is_token (b ∷ l) = all in_word (b ∷ l)

unfoldable pub are_tokens : List (List ℕ) → Bool
are_tokens [] = true
are_tokens (w ∷ ws) = is_token w && are_tokens ws

in_word_lem : (c : ℕ) → 42 ≤ c → in_word c ≡ true
unfolding in_word
in_word_lem c h = rw (le-leb 36 c (omega arith), ne_eqb c 40 (λ e. omega arith), ne_eqb c 41 (λ e. omega arith))

pub token_word : (w : List ℕ) → is_token w ≡ true → is_word w ≡ true
unfolding is_token is_word in_word
token_word [] h = h
token_word (b ∷ l) h = all_weaken in_word (λ c. not (eqb c 40 || eqb c 41)) (λ c e. (both_true (leb 36 c) (not (eqb c 40 || eqb c 41)) e).1) (b ∷ l) h

-- the text has no byte s
unfoldable pub lacks : ℕ → List ℕ → Bool
lacks s l = all (λ c. not (eqb c s)) l

pub token_lacks : (s : ℕ) → in_word s ≡ false → (w : List ℕ) → is_token w ≡ true → lacks s w ≡ true
unfolding is_token lacks
token_lacks s h [] e = absurd (not_both (sym e))
token_lacks s h (b ∷ l) e = all_weaken in_word (λ c. not (eqb c s)) (λ c t. rw (ne_eqb c s (λ q. not_both (sym t ∙ ap in_word q ∙ h)))) (b ∷ l) e

pub tokens_lack : (s : ℕ) → in_word s ≡ false → (ws : List (List ℕ)) → are_tokens ws ≡ true → All (λ w. lacks s w ≡ true) ws
unfolding are_tokens
tokens_lack s h [] e = all[]
tokens_lack s h (w ∷ ws) e = let p = both_true (is_token w) (are_tokens ws) e in all∷ (token_lacks s h w p.0) (tokens_lack s h ws p.1)

pub tokens_words : (ws : List (List ℕ)) → are_tokens ws ≡ true → are_words ws ≡ true
unfolding are_tokens are_words
tokens_words [] h = refl
tokens_words (w ∷ ws) h = let p = both_true (is_token w) (are_tokens ws) h in rw (token_word w p.0) (tokens_words ws p.1)

token_append : (k l : List ℕ) → all in_word k ≡ true → is_token l ≡ true → is_token (k ++ l) ≡ true
unfolding is_token
token_append k [] g h = absurd (not_both (sym h))
token_append [] (b ∷ l) g h = h
token_append (a ∷ k) (b ∷ l) g h = all-append-true in_word (a ∷ k) (b ∷ l) g h

digit_in_word : (c : ℕ) → is_digit c ≡ true → in_word c ≡ true
digit_in_word c h = let r = digit_range c h in in_word_lem c (omega arith)

pub decimal_token : (n : ℕ) → is_token (decimal n) ≡ true
unfolding decimal decimal_in is_token all
decimal_token n = go (ltb n 10)
  where
    go : (t : Bool) → is_token (pick t ((48 + n) ∷ []) (decimal_in n (n / 10) ++ ((48 + n % 10) ∷ []))) ≡ true
    go true = rw (in_word_lem (48 + n) (omega arith))
    go false =
        token_append (decimal_in n (n / 10)) ((48 + n % 10) ∷ []) (all_weaken is_digit in_word digit_in_word (decimal_in n (n / 10)) (decimal-digits n (n / 10)))
        (rw (in_word_lem (48 + n % 10) (omega arith)))

pub decimals_tokens : (ns : List ℕ) → are_tokens (map decimal ns) ≡ true
unfolding are_tokens
decimals_tokens [] = refl
decimals_tokens (n ∷ ns) = rw (decimal_token n) (decimals_tokens ns)

-- ---- names

pub capital_range : (b : ℕ) → is_capital b ≡ true → (65 ≤ b) × (b ≤ 90)
unfolding is_capital
capital_range b h = let p = both_true (leb 65 b) (leb b 90) h in (leb-true 65 b p.0, leb-true b 90 p.1)

capital_in_word : (c : ℕ) → is_capital c ≡ true → in_word c ≡ true
capital_in_word c h = let r = capital_range c h in in_word_lem c (omega arith)

pub same-nil : (l : List ℕ) → same l [] ≡ true → l ≡ []
unfolding same
same-nil [] h = refl
same-nil (b ∷ l) h = absurd (not_both (sym h))

-- the kind of a name, `%` or `$`
kind-bytes : (b : ℕ) (l : List ℕ) → ((eqb b 37 || eqb b 36) && same l []) ≡ true → all in_word (b ∷ l) ≡ true
unfolding all in_word
kind-bytes b l h =
    let p = both_true (eqb b 37 || eqb b 36) (same l []) h in
    let e = same-nil l p.1 in
    ⊎_elim (λ x. let q = eqb-true b 37 x in rw (q, e)) (λ x. let q = eqb-true b 36 x in rw (q, e)) (either_true (eqb b 37) (eqb b 36) p.0)

name_end_bytes : (k : ℕ) (l : List ℕ) → name_end k l ≡ true → all in_word l ≡ true
unfolding name_end all
name_end_bytes k [] h = refl
name_end_bytes zero (b ∷ l) h = kind-bytes b l h
name_end_bytes (suc k) (b ∷ l) h = go (is_capital b || is_digit b) refl (λ x. name_end_bytes k l x) h
  where
    go : (t : Bool) → (is_capital b || is_digit b) ≡ t → (name_end k l ≡ true → all in_word l ≡ true)
        → pick t (name_end k l) ((eqb b 37 || eqb b 36) && same l []) ≡ true → all in_word (b ∷ l) ≡ true
    go false e f h = kind-bytes b l h
    go true e f h =
        let g : in_word b ≡ true = ⊎_elim (λ x. capital_in_word b x) (λ x. digit_in_word b x) (either_true (is_capital b) (is_digit b) e) in
        rw g (f h)

pub name_token : (v : List ℕ) → is_name v ≡ true → is_token v ≡ true
unfolding is_name is_token all
name_token [] h = absurd (not_both (sym h))
name_token (b ∷ l) h = let p = both_true (is_capital b) (name_end 7 l) h in rw (capital_in_word b p.0) (name_end_bytes 7 l p.1)

pub name_text : (v : List ℕ) → NameOk v → parse_name v ≡ parsed v
unfolding parse_name
name_text v h = rw h

pub name_of_text : (w : List ℕ) → IfParsed (λ v. (w ≡ v) × NameOk v) (parse_name w)
unfolding parse_name IfParsed
name_of_text w = go (is_name w) refl
  where
    go : (t : Bool) → is_name w ≡ t → IfParsed (λ v. (w ≡ v) × NameOk v) (pick t (parsed w) invalid)
    go true e = (refl, e)
    go false e = tt

pub text_name : (w v : List ℕ) → parse_name w ≡ parsed v → (w ≡ v) × NameOk v
text_name w v e = of_parsed (λ v. (w ≡ v) × NameOk v) v (name_of_text w) e

-- ---- slots

name_no_star : (v : List ℕ) → is_name v ≡ true → same v (42 ∷ []) ≡ false
unfolding is_name same
name_no_star [] h = absurd (not_both (sym h))
name_no_star (b ∷ l) h = let r = capital_range b (both_true (is_capital b) (name_end 7 l) h).0 in rw (ne_eqb b 42 (λ e. omega arith))

pub same_equal : (k l : List ℕ) → same k l ≡ true → k ≡ l
unfolding same
same_equal [] [] h = refl
same_equal [] (b ∷ l) h = absurd (not_both (sym h))
same_equal (a ∷ k) [] h = absurd (not_both (sym h))
same_equal (a ∷ k) (b ∷ l) h =
    let p = both_true (eqb a b) (same k l) h in
    let q = eqb-true a b p.0 in
    let r = same_equal k l p.1 in
    cc

pub slots_text : (ss : List Slot) → SlotsOk ss → parse_slots (map slot_word ss) ≡ parsed ss
unfolding parse_slots parse_slot slot_word SlotsOk with_parse map_parse same
slots_text [] h = refl
slots_text (none ∷ ss) h = rw (slots_text ss h)
slots_text (some v ∷ ss) h = rw (name_no_star v h.0, name_text v h.0, slots_text ss h.1)

pub slots_tokens : (ss : List Slot) → SlotsOk ss → are_tokens (map slot_word ss) ≡ true
unfolding are_tokens slot_word SlotsOk is_token all in_word
slots_tokens [] h = refl
slots_tokens (none ∷ ss) h = slots_tokens ss h
slots_tokens (some v ∷ ss) h = rw (name_token v h.0) (slots_tokens ss h.1)

abbrev pub SlotOk : Slot → Type 0
SlotOk none = Unit {0}
SlotOk (some v) = NameOk v

slot_of_text : (w : List ℕ) → IfParsed (λ s. (w ≡ slot_word s) × SlotOk s) (parse_slot w)
unfolding parse_slot slot_word IfParsed
slot_of_text w = go (same w (42 ∷ [])) refl
  where
    go : (t : Bool) → same w (42 ∷ []) ≡ t → IfParsed (λ s. (w ≡ slot_word s) × SlotOk s) (pick t (parsed none) (map_parse some (parse_name w)))
    go true e = (same_equal w (42 ∷ []) e, tt)
    go false e = if-map (λ v. (w ≡ v) × NameOk v) (λ s. (w ≡ slot_word s) × SlotOk s) some (λ v h. h) (parse_name w) (name_of_text w)

abbrev pub AreSlots : List (List ℕ) → List Slot → Type 0
AreSlots ws ss = (ws ≡ map slot_word ss) × SlotsOk ss × (length ws ≡ length ss)

slots-cons : (s : Slot) (ss : List Slot) → SlotOk s → SlotsOk ss → SlotsOk (s ∷ ss)
unfolding SlotsOk
slots-cons none ss p q = q
slots-cons (some v) ss p q = (p, q)

pub slots_of_text : (ws : List (List ℕ)) → IfParsed (AreSlots ws) (parse_slots ws)
unfolding parse_slots SlotsOk IfParsed
slots_of_text [] = (refl, tt, refl)
slots_of_text (w ∷ ws) =
    if_with (λ s. (w ≡ slot_word s) × SlotOk s) (AreSlots ws) (AreSlots (w ∷ ws)) (λ s ss. s ∷ ss)
    (λ s ss a b. (cc, slots-cons s ss a.1 b.1, ap suc b.2)) (parse_slot w) (parse_slots ws) (slot_of_text w) (slots_of_text ws)

pub text_slots : (ws : List (List ℕ)) (ss : List Slot) → parse_slots ws ≡ parsed ss → (ws ≡ map slot_word ss) × SlotsOk ss × (length ws ≡ length ss)
text_slots ws ss e = of_parsed (AreSlots ws) ss (slots_of_text ws) e

-- ---- tables of words

unfoldable pub IfFound : {A : Type 0} → (A → Type 0) → Option A → Type 0
IfFound P none = Unit {0}
IfFound P (some a) = P a

-- every entry of a table, its word and its value, fulfils P
abbrev pub Entries : {A : Type 0} → (List ℕ → A → Type 0) → List (List ℕ × A) → Type 0
Entries P [] = Unit {0}
Entries P (d ∷ ds) = P d.0 d.1 × Entries P ds

-- so does an entry found
pub lookup_entry : {A : Type 0} (P : List ℕ → A → Type 0) (ds : List (List ℕ × A)) → Entries P ds → (w : List ℕ) → IfFound (P w) (lookup ds w)
unfolding lookup IfFound
lookup_entry P [] h w = tt
lookup_entry P (d ∷ ds) h w = go (same d.0 w) refl (lookup_entry P ds h.1 w)
  where
    go : (x : Bool) → same d.0 w ≡ x → IfFound (P w) (lookup ds w) → IfFound (P w) (pick x (some d.1) (lookup ds w))
    go true e r = subst (λ (v : List ℕ). P v d.1) (same_equal d.0 w e) h.0
    go false e r = r

pub if_found_lem : {A : Type 0} (P : A → Type 0) (o : Option A) → IfFound P o → IfParsed P (or_malformed o)
unfolding IfFound IfParsed or_malformed
if_found_lem P none h = tt
if_found_lem P (some a) h = h

-- ---- tiers and marks

pub tier_text_lem : (t : Tier) → parse_tier (tier_word t) ≡ parsed t
unfolding parse_tier tier_word or_malformed lookup tiers bytes same
tier_text_lem static = refl
tier_text_lem framed = refl
tier_text_lem dispatched = refl

pub tier_token : (t : Tier) → is_token (tier_word t) ≡ true
unfolding is_token tier_word bytes all in_word
tier_token static = refl
tier_token framed = refl
tier_token dispatched = refl

pub tier_of_text : (w : List ℕ) → IfParsed (λ t. w ≡ tier_word t) (parse_tier w)
unfolding parse_tier tier_word tiers
tier_of_text w =
    if_found_lem (λ t. w ≡ tier_word t) (lookup tiers w)
    (lookup_entry (λ v t. v ≡ tier_word t) tiers (refl, (refl, (refl, tt))) w)

pub text_tier : (w : List ℕ) (t : Tier) → parse_tier w ≡ parsed t → w ≡ tier_word t
text_tier w t e = of_parsed (λ t. w ≡ tier_word t) t (tier_of_text w) e

pub mark_text_lem : (m : Mark) → parse_mark (mark_word m) ≡ parsed m
unfolding parse_mark mark_word or_malformed lookup marks bytes same
mark_text_lem Mark.plain = refl
mark_text_lem orphan = refl

pub mark_token : (m : Mark) → is_token (mark_word m) ≡ true
unfolding is_token mark_word bytes all in_word
mark_token Mark.plain = refl
mark_token orphan = refl

pub mark_of_text : (w : List ℕ) → IfParsed (λ m. w ≡ mark_word m) (parse_mark w)
unfolding parse_mark mark_word marks
mark_of_text w = if_found_lem (λ m. w ≡ mark_word m) (lookup marks w) (lookup_entry (λ v m. v ≡ mark_word m) marks (refl, (refl, tt)) w)

pub text_mark : (w : List ℕ) (m : Mark) → parse_mark w ≡ parsed m → w ≡ mark_word m
text_mark w m e = of_parsed (λ m. w ≡ mark_word m) m (mark_of_text w) e

-- ---- the H of `(module H`

pub handler_text : (h : Bool) → lookup handler_facts (handler_word h) ≡ some h
unfolding lookup handler_facts handler_word bytes same
handler_text false = refl
handler_text true = refl

pub handler_token : (h : Bool) → is_token (handler_word h) ≡ true
unfolding is_token handler_word bytes all in_word
handler_token false = refl
handler_token true = refl

pub handler_of_text : (w : List ℕ) → IfFound (λ h. w ≡ handler_word h) (lookup handler_facts w)
unfolding handler_facts handler_word
handler_of_text w = lookup_entry (λ v h. v ≡ handler_word h) handler_facts (refl, (refl, tt)) w
