-- A statement's row from the number of its opening word and its arguments. Assumes nothing.
use Rattle.std.specs.Prelude.{ℕ, ◌≡◌, refl, List, [], ◌∷◌, ◌++◌, map, true, false, ◌||◌, eqb, get_or}
use Rattle.std.proofs.Common.{sym, ap, ◌∙◌, append_assoc, append-nil, arith, eq-eqb, ne_eqb}
use Rattle.std.proofs.Math.Option.{none, some}
use Rattle.listings.specs.Bytes.{bytes, decimal, pick, same}
use Rattle.listings.specs.Listing.{Name, static, framed, dispatched, Mark, orphan, Slot, goto, gosub, runto, ongoto, ongosub, repeat, loop, until, endloop, exit, exitif, doif, else, done, BareWord, return, run, clr, stop, any, Simple, jump, on, for, next, block, bare}
use Rattle.listings.specs.Rows.{opening_words}
use Rattle.listings.specs.ListingText.{spaced_words, closed_form, tier_word, mark_word, slot_word, jump_word, on_word, block_word, bare_word, simple_word, simple_args, simple_text, NumberOk}
use Rattle.listings.specs.WordTable.{words, first, word_index}
use Rattle.listings.specs.Records.{name_key, slot_key, args_of, tier_number, mark_number, detail_of}
use Rattle.listings.specs.Every.{All, all[], all∷}
use Rattle.graph.specs.Lists.{each}
use Rattle.tokens.specs.Names.{key_not-zero}
use Rattle.formatting.specs.Pages.{Wrote, wrote_both}
use Rattle.formatting.specs.declared.page.Page.{Page}
use Rattle.program_text.specs.KeyText.{key_bytes, NamePrints, name_text}

-- 0 is `*`
unfoldable pub slot_text : ℕ → List ℕ
slot_text k = pick (eqb k 0) (42 ∷ []) (key_bytes 3 k)

-- FOR 13 and NEXT 14 have names, the others numbers
unfoldable pub arg_text : ℕ → ℕ → List ℕ
arg_text w v = pick (eqb w 13 || eqb w 14) (slot_text v) (decimal v)

unfoldable pub arg_texts : ℕ → List ℕ → List ℕ
arg_texts w vs = each (λ v. 32 ∷ arg_text w v) vs

-- NEXT's mark before them, FOR's tier behind them
unfoldable pub mark_text : ℕ → List ℕ
mark_text w = pick (eqb w 14) (bytes " plain") []

unfoldable pub tier_text : ℕ → List ℕ
tier_text w = pick (eqb w 13) (bytes " static") []

unfoldable pub stmt_text : ℕ → List ℕ → List ℕ
stmt_text w vs = (((40 ∷ get_or words w []) ++ mark_text w) ++ arg_texts w vs) ++ (tier_text w ++ bytes ")\n")

-- ---- statements that it prints

abbrev pub SlotPrints : Slot → Type 0
SlotPrints none = Unit {0}
SlotPrints (some v) = NamePrints v

-- numbers in form, names that are cut
unfoldable pub Prints : Simple → Type 0
Prints (jump w n) = NumberOk n
Prints (on w ns) = All NumberOk ns
Prints (for v t) = NamePrints v
Prints (next m ss) = All SlotPrints ss
Prints (block w) = Unit {0}
Prints (bare w) = Unit {0}

-- ---- arguments

number_texts : (w : ℕ) → (eqb w 13 || eqb w 14) ≡ false → (ns : List ℕ) → spaced_words (map decimal ns) ≡ arg_texts w ns
unfolding spaced_words arg_texts arg_text each
number_texts w e [] = refl
number_texts w e (n ∷ ns) = rw (e, number_texts w e ns)

slot_text_lem : (s : Slot) → SlotPrints s → slot_text (slot_key s) ≡ slot_word s
unfolding slot_text slot_key slot_word
slot_text_lem none h = refl
slot_text_lem (some v) h = rw (ne_eqb (name_key v) 0 (λ z. absurd (omega (arith, key_not-zero v h.0)))) (name_text v h)

slot_texts : (w : ℕ) → (eqb w 13 || eqb w 14) ≡ true → {ss : List Slot} → All SlotPrints ss → spaced_words (map slot_word ss) ≡ arg_texts w (map slot_key ss)
unfolding spaced_words arg_texts arg_text each
slot_texts w e all[] = refl
slot_texts w e (all∷ {a = s} {l = ss} h hs) = rw (e, slot_text_lem s h, slot_texts w e hs)

-- ---- the row

regroup : (w m a t x y : List ℕ) → (w ++ ((m ++ (a ++ t)) ++ x)) ++ y ≡ ((w ++ m) ++ a) ++ (t ++ (x ++ y))
regroup w m a t x y = simp append_assoc

closed : (w s m a t : List ℕ) → s ≡ m ++ (a ++ t) → (40 ∷ (w ++ (s ++ (41 ∷ [])))) ++ (10 ∷ []) ≡ (((40 ∷ w) ++ m) ++ a) ++ (t ++ (41 ∷ 10 ∷ []))
closed w s m a t e = rw e (ap (λ (l : List ℕ). 40 ∷ l) (regroup w m a t (41 ∷ []) (10 ∷ [])))

-- of a word with numbers or nothing behind it
plain_row : (k : ℕ) (w : List ℕ) (ns : List ℕ) → eqb k 13 ≡ false → eqb k 14 ≡ false → get_or words k [] ≡ w → closed_form w (map decimal ns) ++ (10 ∷ []) ≡ stmt_text k ns
unfolding closed_form stmt_text mark_text tier_text bytes
plain_row k w ns f g e =
    let h : (eqb k 13 || eqb k 14) ≡ false = rw (f, g) in
    rw (f, g, e) (closed w (spaced_words (map decimal ns)) [] (arg_texts k ns) [] (number_texts k h ns ∙ sym (append-nil (arg_texts k ns))))

slots-one : (v : Name) → spaced_words (map slot_word (some v ∷ [])) ≡ 32 ∷ (v ++ [])
unfolding spaced_words slot_word
slots-one v = refl

for_row : (v : Name) → NamePrints v → closed_form (bytes "for") (v ∷ bytes "static" ∷ []) ++ (10 ∷ []) ≡ stmt_text 13 (name_key v ∷ [])
unfolding closed_form stmt_text mark_text tier_text bytes words opening_words spaced_words slot_key
for_row v h =
    let e : arg_texts 13 (name_key v ∷ []) ≡ 32 ∷ (v ++ []) = sym (slot_texts 13 refl (all∷ {a = some v} h all[])) ∙ slots-one v in
    closed (bytes "for") (32 ∷ (v ++ (32 ∷ bytes "static"))) [] (arg_texts 13 (name_key v ∷ [])) (bytes " static") (rw e (simp append-nil))

next_row : {ss : List Slot} → All SlotPrints ss → closed_form (bytes "next") (bytes "plain" ∷ map slot_word ss) ++ (10 ∷ []) ≡ stmt_text 14 (map slot_key ss)
unfolding closed_form stmt_text mark_text tier_text bytes words opening_words spaced_words
next_row {ss} h =
    closed (bytes "next") (32 ∷ (bytes "plain" ++ spaced_words (map slot_word ss))) (bytes " plain") (arg_texts 14 (map slot_key ss)) []
    (ap (λ (l : List ℕ). bytes " plain" ++ l) (slot_texts 14 refl h ∙ sym (append-nil (arg_texts 14 (map slot_key ss)))))

-- FOR is static, NEXT plain
pub stmt_text_lem : (o : Simple) → Prints o → detail_of o ≡ 0 → simple_text o ++ (10 ∷ []) ≡ stmt_text (word_index (simple_word o)) (args_of o)
unfolding Prints detail_of tier_number mark_number simple_text simple_word simple_args args_of tier_word mark_word jump_word on_word block_word bare_word word_index words opening_words first same bytes
stmt_text_lem (jump goto n) h d = plain_row 7 (bytes "goto") (n ∷ []) refl refl refl
stmt_text_lem (jump gosub n) h d = plain_row 8 (bytes "gosub") (n ∷ []) refl refl refl
stmt_text_lem (jump runto n) h d = plain_row 10 (bytes "run") (n ∷ []) refl refl refl
stmt_text_lem (on ongoto ns) h d = plain_row 11 (bytes "ongoto") ns refl refl refl
stmt_text_lem (on ongosub ns) h d = plain_row 12 (bytes "ongosub") ns refl refl refl
stmt_text_lem (for v static) h d = for_row v h
stmt_text_lem (for v framed) h d = absurd (omega arith)
stmt_text_lem (for v dispatched) h d = absurd (omega arith)
stmt_text_lem (next Mark.plain ss) h d = next_row h
stmt_text_lem (next orphan ss) h d = absurd (omega arith)
stmt_text_lem (block repeat) h d = plain_row 15 (bytes "repeat") [] refl refl refl
stmt_text_lem (block loop) h d = plain_row 16 (bytes "loop") [] refl refl refl
stmt_text_lem (block until) h d = plain_row 17 (bytes "until") [] refl refl refl
stmt_text_lem (block endloop) h d = plain_row 18 (bytes "endloop") [] refl refl refl
stmt_text_lem (block exit) h d = plain_row 19 (bytes "exit") [] refl refl refl
stmt_text_lem (block exitif) h d = plain_row 20 (bytes "exitif") [] refl refl refl
stmt_text_lem (block doif) h d = plain_row 21 (bytes "doif") [] refl refl refl
stmt_text_lem (block else) h d = plain_row 22 (bytes "else") [] refl refl refl
stmt_text_lem (block done) h d = plain_row 23 (bytes "done") [] refl refl refl
stmt_text_lem (bare return) h d = plain_row 9 (bytes "return") [] refl refl refl
stmt_text_lem (bare run) h d = plain_row 10 (bytes "run") [] refl refl refl
stmt_text_lem (bare clr) h d = plain_row 24 (bytes "clr") [] refl refl refl
stmt_text_lem (bare stop) h d = plain_row 25 (bytes "stop") [] refl refl refl
stmt_text_lem (bare any) h d = plain_row 26 (bytes "any") [] refl refl refl
stmt_text_lem (bare BareWord.plain) h d = plain_row 27 (bytes "plain") [] refl refl refl

-- ---- by cases, as the code puts it

pub slot_star : (k : ℕ) → k ≡ 0 → 42 ∷ [] ≡ slot_text k
unfolding slot_text
slot_star k h = rw h

pub slot-name : (k : ℕ) → (k ≡ 0 → ⊥) → key_bytes 3 k ≡ slot_text k
unfolding slot_text
slot-name k h = rw (ne_eqb k 0 h)

pub arg_for : (w v : ℕ) → w ≡ 13 → slot_text v ≡ arg_text w v
unfolding arg_text
arg_for w v h = rw h

pub arg_next : (w v : ℕ) → w ≡ 14 → slot_text v ≡ arg_text w v
unfolding arg_text
arg_next w v h = rw h

pub arg_number : (w v : ℕ) → (w ≡ 13 → ⊥) → (w ≡ 14 → ⊥) → decimal v ≡ arg_text w v
unfolding arg_text
arg_number w v g h = rw (ne_eqb w 13 g, ne_eqb w 14 h)

pub only_own : (w k : ℕ) (t : List ℕ) → w ≡ k → t ≡ pick (eqb w k) t []
only_own w k t h = rw (eq-eqb w k h)

pub only_other : (w k : ℕ) (t : List ℕ) → (w ≡ k → ⊥) → [] ≡ pick (eqb w k) t []
only_other w k t h = rw (ne_eqb w k h)

pub wrote_stmt : {p q s t u v : Page} (w : ℕ) (vs : List ℕ) → Wrote p q (40 ∷ get_or words w []) → Wrote q s (mark_text w) → Wrote s t (arg_texts w vs)
    → Wrote t u (tier_text w) → Wrote u v (bytes ")\n") → Wrote p v (stmt_text w vs)
unfolding stmt_text
wrote_stmt w vs a b c d e = wrote_both (wrote_both (wrote_both a b) c) (wrote_both d e)
