-- The arguments of a statement's row, word by word, as they are written. Assumes nothing.
use Rattle.std.specs.Prelude.{◌≡◌, refl, Bool, true, false, take, drop, set, Option, Some, None, Result}
use Rattle.std.proofs.Common.{get_or, sym, ◌∙◌, not-suc-le-zero, arith, length-append, length-drop, take_all, take_at}
use Rattle.std.proofs.Math.Path.{ap, subst}
use mathlib.Core.List.{List, [], ◌∷◌, ◌++◌, map, append_assoc}
use Rattle.std.proofs.Math.Option.{none, some}
use Prim.Native.Nat.{ℕ, suc, ◌+◌, ◌-◌, ◌≤◌, ◌<◌}
use Rattle.std.proofs.Math.ListN.{length}
use Rattle.std.proofs.lemmas.List.{length-map, get_or-map, take-map}
use Rattle.std.specs.Option.{unwrap_or}
use Rattle.std.specs.Result.{result_unwrap_or}
use denote.Ref.{Bor}
use Rattle.layout.specs.Fronts.{front_next}
use Rattle.listings.specs.Bytes.{bytes, same, pick, decimal}
use Rattle.listings.specs.Listing.{Name, Tier, static, framed, dispatched, Mark, orphan, Slot, goto, gosub, runto, ongoto, ongosub, Simple, jump, on, for, next, block, bare}
use Rattle.listings.specs.Rows.{split, Parse, malformed, invalid, parsed, parse_number, parse_name, is_name, is_capital, opening_words, lookup, or_malformed, tiers, parse_tier, marks, parse_mark, content_of, row_of, simple_row, Counted}
use Rattle.listings.specs.ListingText.{spaced_words, closed_form, block_word, bare_word, simple_word, simple_args, simple_text, tier_word, mark_word, slot_word, SimpleOk, NumbersOk, SlotsOk}
use Rattle.listings.specs.WordTable.{words, forms, first, word_index}
use Rattle.listings.specs.Tests.{both_true}
use Rattle.listing_laws.specs.NumberText.{number_text}
use Rattle.listing_laws.specs.WordText.{same_equal, in_word, is_token, are_tokens, token_lacks, tokens_lack, name_text}
use Rattle.listing_laws.specs.RowForms.{join, split-join, join-split, join-words}
use Rattle.listing_laws.specs.RowText.{simple_tokens, row_simple}
use Rattle.listings.specs.Scan.{split-some}
use Rattle.tokens.specs.Scan.{FirstWord}
use Rattle.tokens.specs.Numbers.{as_number}
use Rattle.tokens.specs.Names.{as_key}
use Rattle.listings.specs.Cut.{cut_name, cut_slot, cut_simple}
use Rattle.listings.specs.Records.{name_key, slot_key, args_of, tier_number, mark_number, detail_of}
use Rattle.reader.specs.declared.operands.Given.{Given}
use Rattle.tokens.specs.Kinds.{form_kind, opened_kind}
use Rattle.tokens.specs.Tiers.{tier_found, mark_found}
use Rattle.tokens.specs.declared.tiers.Tier.{Tier as Found}
use Rattle.tokens.specs.declared.tiers.Tier.TheVariants as tier
use Rattle.tokens.specs.declared.tiers.Mark.{Mark as FoundMark}
use Rattle.tokens.specs.declared.tiers.Mark.TheVariants as mark
use Rattle.tokens.specs.declared.words.Kind.{Kind}
use Rattle.tokens.specs.declared.words.Kind.TheVariants as kind
use Rattle.layout.specs.declared.refusals.Reason.{Reason}

-- ---- one word

-- a number's value, a cut name's key; 0 for a word that is neither, as `*`
unfoldable pub number_entry : Parse ℕ → ℕ
number_entry malformed = 0
number_entry invalid = 0
number_entry (parsed n) = n

unfoldable pub key_entry : Parse Name → ℕ
key_entry malformed = 0
key_entry invalid = 0
key_entry (parsed v) = name_key (cut_name v)

unfoldable pub entry_by : Bool → List ℕ → ℕ
entry_by true w = key_entry (parse_name w)
entry_by false w = number_entry (parse_number w)

unfoldable pub tier_entry : List ℕ → ℕ
unfolding bytes
tier_entry w = pick (same (bytes "framed") w) 1 (pick (same (bytes "dispatched") w) 2 0)

unfoldable pub mark_entry : List ℕ → ℕ
unfolding bytes
mark_entry w = pick (same (bytes "orphan") w) 1 0

-- ---- the words of a row

-- FOR's, NEXT's or of any other word
unfoldable pub by_kind : {A : Type 0} → A → A → A → Option Kind → A
by_kind f n o None = o
by_kind f n o (Some kind.Module) = o
by_kind f n o (Some kind.Line) = o
by_kind f n o (Some kind.To) = o
by_kind f n o (Some kind.Stmts) = o
by_kind f n o (Some (kind.Cond x)) = o
by_kind f n o (Some kind.Bare) = o
by_kind f n o (Some kind.Number) = o
by_kind f n o (Some kind.Numbers) = o
by_kind f n o (Some kind.Run) = o
by_kind f n o (Some kind.For) = f
by_kind f n o (Some kind.Next) = n

-- the words after the opening one, of kind g: FOR's first, NEXT's but the first as names, all others as numbers
unfoldable pub entries_of : Option Kind → List (List ℕ) → List ℕ
entries_of g ws = by_kind (map (entry_by true) (take 1 ws)) (map (entry_by true) (drop 1 ws)) (map (entry_by false) ws) g

unfoldable pub head_mark : List (List ℕ) → ℕ
head_mark [] = 0
head_mark (w ∷ ws) = mark_entry w

unfoldable pub details_of : Option Kind → List (List ℕ) → ℕ
details_of g ws = by_kind (tier_entry (join 32 (drop 1 ws))) (head_mark ws) 0 g

-- the number of a row's opening word
unfoldable pub opening_word : List (List ℕ) → ℕ
opening_word [] = 28
opening_word (w ∷ ws) = word_index w

unfoldable pub row_entries : List (List ℕ) → List ℕ
row_entries [] = []
row_entries (w ∷ ws) = entries_of (opened_kind (word_index w)) ws

unfoldable pub row_detail : List (List ℕ) → ℕ
row_detail [] = 0
row_detail (w ∷ ws) = details_of (opened_kind (word_index w)) ws

-- what was written at the start of a part, and what is answered
pub record Put (es : List ℕ) (d : ℕ) (t t' : List ℕ) (r : Given) : Type 0 where
  pub count : r.count ≡ length es
  pub detail : r.detail ≡ d
  pub table : t' ≡ es ++ drop (length es) t

-- ---- laws for the code

-- a value, or 0
abbrev pub or_zero : Result ℕ Reason → ℕ
or_zero r = result_unwrap_or r 0

pub number_or_zero : (p : Parse ℕ) → or_zero (as_number p) ≡ number_entry p
unfolding number_entry
number_or_zero malformed = refl
number_or_zero invalid = refl
number_or_zero (parsed n) = refl

pub key_or_zero : (p : Parse Name) → or_zero (as_key p) ≡ key_entry p
unfolding key_entry
key_or_zero malformed = refl
key_or_zero invalid = refl
key_or_zero (parsed v) = refl

-- a tier that was found as it is stored, and a mark; 0 for none
abbrev pub tier_or_zero : Option Found → ℕ
tier_or_zero None = 0
tier_or_zero (Some tier.Static) = 0
tier_or_zero (Some tier.Framed) = 1
tier_or_zero (Some tier.Dispatched) = 2

abbrev pub mark_or_zero : Option FoundMark → ℕ
mark_or_zero None = 0
mark_or_zero (Some mark.Plain) = 0
mark_or_zero (Some mark.Orphan) = 1

pub tier_stored : (w : List ℕ) → tier_or_zero (tier_found (parse_tier w)) ≡ tier_entry w
unfolding tier_entry bytes same lookup or_malformed parse_tier tiers
tier_stored w = go (same (bytes "static") w) refl
  where
    others : (f d : Bool) → tier_or_zero (tier_found (or_malformed (pick f (some framed) (pick d (some dispatched) none)))) ≡ pick f 1 (pick d 2 0)
    others true d = refl
    others false true = refl
    others false false = refl

    go : (t : Bool) → same (bytes "static") w ≡ t
        → tier_or_zero (tier_found (or_malformed (pick t (some static) (pick (same (bytes "framed") w) (some framed) (pick (same (bytes "dispatched") w) (some dispatched) none)))))
        ≡ pick (same (bytes "framed") w) 1 (pick (same (bytes "dispatched") w) 2 0)
    go true e = subst (λ (v : List ℕ). ◌≡◌ {A = ℕ} 0 (pick (same (bytes "framed") v) 1 (pick (same (bytes "dispatched") v) 2 0))) (same_equal (bytes "static") w e) refl
    go false e = others (same (bytes "framed") w) (same (bytes "dispatched") w)

pub mark_stored : (w : List ℕ) → mark_or_zero (mark_found (parse_mark w)) ≡ mark_entry w
unfolding mark_entry bytes same lookup or_malformed parse_mark marks
mark_stored w = go (same (bytes "plain") w) refl
  where
    others : (o : Bool) → mark_or_zero (mark_found (or_malformed (pick o (some orphan) none))) ≡ pick o 1 0
    others true = refl
    others false = refl

    go : (t : Bool) → same (bytes "plain") w ≡ t → mark_or_zero (mark_found (or_malformed (pick t (some Mark.plain) (pick (same (bytes "orphan") w) (some orphan) none)))) ≡ pick (same (bytes "orphan") w) 1 0
    go true e = subst (λ (v : List ℕ). ◌≡◌ {A = ℕ} 0 (pick (same (bytes "orphan") v) 1 0)) (same_equal (bytes "plain") w e) refl
    go false e = others (same (bytes "orphan") w)

-- the entries of the first n words at the front of a part, and of one word more
pub filled_next : (f : List ℕ → ℕ) (ws : List (List ℕ)) (t : List ℕ) (n : ℕ) (w : List ℕ) → n < length ws → length ws ≤ length t → w ≡ get_or ws n w
    → set (map f (take n ws) ++ drop n t) n (f w) ≡ map f (take (n + 1) ws) ++ drop (n + 1) t
filled_next f ws t n w h k e =
    let same : f w ≡ get_or (map f ws) n (f w) = ap f e ∙ sym (get_or-map f ws n w (f w) h) in
    rw (← take-map f n ws, ← take-map f (n + 1) ws) (front_next (map f ws) t n (f w) (omega (arith, h, length-map ws f)) (omega (arith, k, length-map ws f)) same)

-- of all of them
pub filled_put : (f : List ℕ → ℕ) (ws : List (List ℕ)) (t t' : List ℕ) (n : ℕ) → t' ≡ map f (take n ws) ++ drop n t → n ≡ length ws → Put (map f ws) 0 t t' (record { count = n; detail = 0 })
filled_put f ws t t' n h e =
    let m : n ≡ length (map f ws) = e ∙ sym (length-map ws f) in
    record { count = m; detail = refl; table = h ∙ ap (λ (l : List (List ℕ)). map f l ++ drop n t) (take_all n ws (omega (arith, e))) ∙ ap (λ (k : ℕ). map f ws ++ drop k t) m }

-- ---- FOR's words, NEXT's, a row's

put_one : (t : List ℕ) (x v d e : ℕ) → 1 ≤ length t → x ≡ v → e ≡ d → Put (v ∷ []) d t (set t 0 x) (record { count = 1; detail = e })
put_one [] x v d e h q p = absurd (not-suc-le-zero h)
put_one (a ∷ t) x v d e h q p = record { count = refl; detail = p; table = ap (λ (z : ℕ). z ∷ t) q }

put_none : (t : List ℕ) (d e : ℕ) → e ≡ d → Put [] d t t (record { count = 0; detail = e })
put_none t d e p = record { count = refl; detail = p; table = refl }

nil_tier : tier_entry [] ≡ 0
unfolding tier_entry bytes same
nil_tier = refl

-- an opening word alone comes to nothing, whatever its kind
none-entries : (g : Option Kind) → entries_of g [] ≡ []
unfolding entries_of by_kind
none-entries None = refl
none-entries (Some kind.Module) = refl
none-entries (Some kind.Line) = refl
none-entries (Some kind.To) = refl
none-entries (Some kind.Stmts) = refl
none-entries (Some (kind.Cond x)) = refl
none-entries (Some kind.Bare) = refl
none-entries (Some kind.Number) = refl
none-entries (Some kind.Numbers) = refl
none-entries (Some kind.Run) = refl
none-entries (Some kind.For) = refl
none-entries (Some kind.Next) = refl

none_detail : (g : Option Kind) → details_of g [] ≡ 0
unfolding details_of by_kind join head_mark
none_detail None = refl
none_detail (Some kind.Module) = refl
none_detail (Some kind.Line) = refl
none_detail (Some kind.To) = refl
none_detail (Some kind.Stmts) = refl
none_detail (Some (kind.Cond x)) = refl
none_detail (Some kind.Bare) = refl
none_detail (Some kind.Number) = refl
none_detail (Some kind.Numbers) = refl
none_detail (Some kind.Run) = refl
none_detail (Some kind.For) = nil_tier
none_detail (Some kind.Next) = refl

pub put_by : {es fs : List ℕ} {d b : ℕ} (t t' : List ℕ) (r : Given) → es ≡ fs → d ≡ b → Put es d t t' r → Put fs b t t' r
put_by t t' r e q g = record { count = g.count ∙ ap length e; detail = g.detail ∙ q; table = g.table ∙ ap (λ (l : List ℕ). l ++ drop (length l) t) e }

module _ (s : List ℕ) (alone : split 32 s ≡ s ∷ []) where
  for_alone : (t : List ℕ) (x y : ℕ) → 1 ≤ length t → x ≡ entry_by true s → y ≡ tier_entry []
      → Put (map (entry_by true) (take 1 (split 32 s))) (tier_entry (join 32 (drop 1 (split 32 s)))) t (set t 0 x) (record { count = 1; detail = y })
  unfolding join
  for_alone t x y h p r =
      subst (λ (ws : List (List ℕ)). Put (map (entry_by true) (take 1 ws)) (tier_entry (join 32 (drop 1 ws))) t (set t 0 x) (record { count = 1; detail = y }))
      (sym alone) (put_one t x _ _ y h p r)

  pub next_alone : (t : List ℕ) (m : ℕ) → m ≡ mark_entry s → Put (map (entry_by true) (drop 1 (split 32 s))) (head_mark (split 32 s)) t t (record { count = 0; detail = m })
  unfolding head_mark
  next_alone t m p = subst (λ (ws : List (List ℕ)). Put (map (entry_by true) (drop 1 ws)) (head_mark ws) t t (record { count = 0; detail = m })) (sym alone) (put_none t _ m p)

  pub row_alone : (t : List ℕ) → Put (row_entries (split 32 s)) (row_detail (split 32 s)) t t (record { count = 0; detail = 0 })
  unfolding row_entries row_detail
  row_alone t =
      subst (λ (ws : List (List ℕ)). Put (row_entries ws) (row_detail ws) t t (record { count = 0; detail = 0 })) (sym alone)
      (put_by t t _ (sym (none-entries k)) (sym (none_detail k)) (put_none t 0 0 refl))
    where
      k : Option Kind
      k = opened_kind (word_index s)

-- w: the first word, v: the text behind it
module _ (s w v : List ℕ) (cut : split 32 s ≡ w ∷ split 32 v) where
  for_pair : (t : List ℕ) (x y : ℕ) → 1 ≤ length t → x ≡ entry_by true w → y ≡ tier_entry v
      → Put (map (entry_by true) (take 1 (split 32 s))) (tier_entry (join 32 (drop 1 (split 32 s)))) t (set t 0 x) (record { count = 1; detail = y })
  for_pair t x y h p r =
      subst (λ (ws : List (List ℕ)). Put (map (entry_by true) (take 1 ws)) (tier_entry (join 32 (drop 1 ws))) t (set t 0 x) (record { count = 1; detail = y }))
      (sym cut) (put_one t x _ _ y h p (r ∙ ap tier_entry (sym (join-split 32 v))))

  pub next_room : (n : ℕ) → length (drop 1 (split 32 s)) ≤ n → length (split 32 v) ≤ n
  next_room n h = omega (arith, ap length cut, length-drop 1 (split 32 s))

  pub next_slots : (t t' : List ℕ) (r : Given) (m : ℕ) → m ≡ mark_entry w → Put (map (entry_by true) (split 32 v)) 0 t t' r
      → Put (map (entry_by true) (drop 1 (split 32 s))) (head_mark (split 32 s)) t t' (record { count = r.count; detail = m })
  unfolding head_mark
  next_slots t t' r m p g =
      subst (λ (ws : List (List ℕ)). Put (map (entry_by true) (drop 1 ws)) (head_mark ws) t t' (record { count = r.count; detail = m }))
      (sym cut) (record { count = g.count; detail = p; table = g.table })

  module _ (t t' : List ℕ) (r : Given) (k : Option Kind) (is : k ≡ opened_kind (opening_word (split 32 s))) where
    kind-first : k ≡ opened_kind (word_index w)
    unfolding opening_word
    kind-first = is ∙ ap (λ (ws : List (List ℕ)). opened_kind (opening_word ws)) cut

    -- what a kind's words come to is what the row comes to
    pub row_words : Put (entries_of k (split 32 v)) (details_of k (split 32 v)) t t' r → Put (row_entries (split 32 s)) (row_detail (split 32 s)) t t' r
    unfolding row_entries row_detail
    row_words g =
        subst (λ (ws : List (List ℕ)). Put (row_entries ws) (row_detail ws) t t' r) (sym cut)
        (subst (λ (n : Option Kind). Put (entries_of n (split 32 v)) (details_of n (split 32 v)) t t' r) kind-first g)

    pub row_room : (n : ℕ) → length (row_entries (split 32 s)) ≤ n → length (entries_of k (split 32 v)) ≤ n
    unfolding row_entries
    row_room n h =
        let q : row_entries (split 32 s) ≡ entries_of k (split 32 v) = ap row_entries cut ∙ ap (λ (g : Option Kind). entries_of g (split 32 v)) (sym kind-first) in
        omega (arith, ap length q)

-- FOR's words: the first and the text behind it, or a single one and no text
pub for_words : (s e : Bor (List ℕ)) (o : Option (Bor (List ℕ) × Bor (List ℕ))) (d : Bor (List ℕ) × Bor (List ℕ)) → FirstWord s.now o → e.now ≡ [] → d ≡ unwrap_or o (s, e) → (t : List ℕ) (x y : ℕ) → 1 ≤ length t → x ≡ entry_by true d.0.now → y ≡ tier_entry d.1.now
    → Put (map (entry_by true) (take 1 (split 32 s.now))) (tier_entry (join 32 (drop 1 (split 32 s.now)))) t (set t 0 x) (record { count = 1; detail = y })
for_words s e None d f n q t x y h p r =
    for_alone s.now f t x y h (p ∙ ap (λ (z : Bor (List ℕ) × Bor (List ℕ)). entry_by true z.0.now) q) (r ∙ ap (λ (z : Bor (List ℕ) × Bor (List ℕ)). tier_entry z.1.now) q ∙ ap tier_entry n)
for_words s e (Some w) d f n q t x y h p r =
    for_pair s.now w.0.now w.1.now f t x y h (p ∙ ap (λ (z : Bor (List ℕ) × Bor (List ℕ)). entry_by true z.0.now) q) (r ∙ ap (λ (z : Bor (List ℕ) × Bor (List ℕ)). tier_entry z.1.now) q)

-- by the kind
first_one : (f : List ℕ → ℕ) (ws : List (List ℕ)) → 0 < length ws → length (map f (take 1 ws)) ≡ 1
first_one f [] h = absurd (not-suc-le-zero h)
first_one f (w ∷ ws) h = refl

pub entries_for : (ws : List (List ℕ)) (k : Option Kind) → k ≡ Some kind.For → (map (entry_by true) (take 1 ws) ≡ entries_of k ws) × (tier_entry (join 32 (drop 1 ws)) ≡ details_of k ws)
unfolding entries_of details_of by_kind
entries_for ws k e = (rw e, rw e)

pub entries_next : (ws : List (List ℕ)) (k : Option Kind) → k ≡ Some kind.Next → (map (entry_by true) (drop 1 ws) ≡ entries_of k ws) × (head_mark ws ≡ details_of k ws)
unfolding entries_of details_of by_kind
entries_next ws k e = (rw e, rw e)

pub entries_numbers : (ws : List (List ℕ)) (k : Option Kind) → (k ≡ Some kind.For → ⊥) → (k ≡ Some kind.Next → ⊥) → (map (entry_by false) ws ≡ entries_of k ws) × (0 ≡ details_of k ws)
unfolding entries_of details_of by_kind
entries_numbers ws None p q = (refl, refl)
entries_numbers ws (Some kind.Module) p q = (refl, refl)
entries_numbers ws (Some kind.Line) p q = (refl, refl)
entries_numbers ws (Some kind.To) p q = (refl, refl)
entries_numbers ws (Some kind.Stmts) p q = (refl, refl)
entries_numbers ws (Some (kind.Cond x)) p q = (refl, refl)
entries_numbers ws (Some kind.Bare) p q = (refl, refl)
entries_numbers ws (Some kind.Number) p q = (refl, refl)
entries_numbers ws (Some kind.Numbers) p q = (refl, refl)
entries_numbers ws (Some kind.Run) p q = (refl, refl)
entries_numbers ws (Some kind.For) p q = absurd (p refl)
entries_numbers ws (Some kind.Next) p q = absurd (q refl)

-- the room for what is written
pub for_room : (l : List ℕ) (k : Option Kind) (n : ℕ) → k ≡ Some kind.For → length (entries_of k (split 32 l)) ≤ n → 1 ≤ n
for_room l k n e h = omega (arith, ap length (entries_for (split 32 l) k e).0, first_one (entry_by true) (split 32 l) (split-some 32 l))

pub slots_room : (l : List ℕ) (k : Option Kind) (n : ℕ) → k ≡ Some kind.Next → length (entries_of k (split 32 l)) ≤ n → length (drop 1 (split 32 l)) ≤ n
slots_room l k n e h = omega (arith, ap length (entries_next (split 32 l) k e).0, length-map (drop 1 (split 32 l)) (entry_by true))

pub numbers_room : (l : List ℕ) (k : Option Kind) (n : ℕ) → (k ≡ Some kind.For → ⊥) → (k ≡ Some kind.Next → ⊥) → length (entries_of k (split 32 l)) ≤ n → length (split 32 l) ≤ n
numbers_room l k n p q h = omega (arith, ap length (entries_numbers (split 32 l) k p q).0, length-map (split 32 l) (entry_by false))

-- ---- the words of a statement come to its arguments, names cut

number_entry_lem : (n : ℕ) → n ≤ 65535 → entry_by false (decimal n) ≡ n
unfolding entry_by number_entry
number_entry_lem n h = rw (number_text n h)

numbers-entries : (ns : List ℕ) → NumbersOk ns → map (entry_by false) (map decimal ns) ≡ ns
unfolding NumbersOk
numbers-entries [] h = refl
numbers-entries (n ∷ ns) h = rw (number_entry_lem n h.0, numbers-entries ns h.1)

name_entry : (v : Name) → is_name v ≡ true → entry_by true v ≡ name_key (cut_name v)
unfolding entry_by key_entry
name_entry v h = rw (name_text v h)

pub star_entry : entry_by true (42 ∷ []) ≡ 0
unfolding entry_by key_entry parse_name is_name is_capital
star_entry = refl

slots-entries : (ss : List Slot) → SlotsOk ss → map (entry_by true) (map slot_word ss) ≡ map slot_key (map cut_slot ss)
unfolding SlotsOk slot_word slot_key cut_slot
slots-entries [] h = refl
slots-entries (none ∷ ss) h = rw (star_entry, slots-entries ss h)
slots-entries (some v ∷ ss) h = rw (name_entry v h.0, slots-entries ss h.1)

tier_entry_lem : (t : Tier) → tier_entry (tier_word t) ≡ tier_number t
unfolding tier_entry tier_word tier_number bytes same
tier_entry_lem static = refl
tier_entry_lem framed = refl
tier_entry_lem dispatched = refl

mark_entry_lem : (m : Mark) → mark_entry (mark_word m) ≡ mark_number m
unfolding mark_entry mark_word mark_number bytes same
mark_entry_lem Mark.plain = refl
mark_entry_lem orphan = refl

-- to unfold this is to unfold what finds the kind of an opening word
opened : Unit {0}
unfolding row_entries row_detail entries_of details_of simple_word simple_args args_of detail_of SimpleOk opened_kind form_kind by_kind forms opening_words word_index words first same bytes
opened = tt

pub simple_entries : (o : Simple) → SimpleOk o → row_entries (simple_word o ∷ simple_args o) ≡ args_of (cut_simple o)
unfolding opened cut_simple
simple_entries (jump goto n) h = rw (number_entry_lem n h)
simple_entries (jump gosub n) h = rw (number_entry_lem n h)
simple_entries (jump runto n) h = rw (number_entry_lem n h)
simple_entries (on ongoto ns) h = numbers-entries ns h
simple_entries (on ongosub ns) h = numbers-entries ns h
simple_entries (for v t) h = rw (name_entry v h)
simple_entries (next m ss) h = slots-entries ss h
simple_entries (block w) h = none-entries (opened_kind (word_index (block_word w)))
simple_entries (bare w) h = none-entries (opened_kind (word_index (bare_word w)))

pub simple_detail : (o : Simple) → row_detail (simple_word o ∷ simple_args o) ≡ detail_of (cut_simple o)
unfolding opened cut_simple join head_mark
simple_detail (jump goto n) = refl
simple_detail (jump gosub n) = refl
simple_detail (jump runto n) = refl
simple_detail (on ongoto ns) = refl
simple_detail (on ongosub ns) = refl
simple_detail (for v t) = tier_entry_lem t
simple_detail (next m ss) = mark_entry_lem m
simple_detail (block w) = none_detail (opened_kind (word_index (block_word w)))
simple_detail (bare w) = none_detail (opened_kind (word_index (bare_word w)))

-- ---- a statement's row without its brackets

-- the row r without its first byte and its last
abbrev pub inside : List ℕ → List ℕ
inside r = take (length r - 1 - 1) (drop 1 r)

inside-closed : (w : List ℕ) (ws : List (List ℕ)) → inside (closed_form w ws) ≡ w ++ spaced_words ws
unfolding closed_form
inside-closed w ws =
    let l = w ++ (spaced_words ws ++ (41 ∷ [])) in
    let k = w ++ spaced_words ws in
    let e : l ≡ k ++ (41 ∷ []) = sym (append_assoc w (spaced_words ws) (41 ∷ [])) in
    let n : suc (length l) - 1 - 1 ≡ length k = omega (arith, ap length e, length-append k (41 ∷ [])) in
    ap (λ (m : ℕ). take m l) n ∙ ap (take (length k)) e ∙ take_at k (41 ∷ []) (length k) refl

closed_long : (w : List ℕ) (ws : List (List ℕ)) (r : List ℕ) → r ≡ closed_form w ws → 2 ≤ length r
unfolding closed_form
closed_long w ws r e = omega (arith, ap length e, length-append w (spaced_words ws ++ (41 ∷ [])), length-append (spaced_words ws) (41 ∷ []))

-- what the code needs and gets of a statement's row: its arguments with their names cut
pub record Stated (row : List ℕ) (o : Simple) : Type 0 where
  pub long : 2 ≤ length row
  pub word : opening_word (split 32 (inside row)) ≡ word_index (simple_word o)
  pub entries : row_entries (split 32 (inside row)) ≡ args_of (cut_simple o)
  pub detail : row_detail (split 32 (inside row)) ≡ detail_of (cut_simple o)

pub stated : (row : List ℕ) (d : Counted) → content_of (row_of row) ≡ simple_row (parsed d) → Stated row d.0
unfolding simple_text are_tokens in_word opening_word
stated row d e =
    let o = d.0 in
    let q = row_simple row d e in
    let t = simple_tokens o q.1 in
    let p = both_true (is_token (simple_word o)) (are_tokens (simple_args o)) t in
    let s : split 32 (inside row) ≡ simple_word o ∷ simple_args o =
    ap (λ (l : List ℕ). split 32 (inside l)) q.0 ∙ ap (split 32) (inside-closed (simple_word o) (simple_args o) ∙ sym (join-words (simple_word o) (simple_args o)))
    ∙ split-join 32 (simple_word o) (simple_args o) (token_lacks 32 refl (simple_word o) p.0) (tokens_lack 32 refl (simple_args o) p.1) in
    record { long = closed_long (simple_word o) (simple_args o) row q.0; word = ap opening_word s; entries = ap row_entries s ∙ simple_entries o q.1; detail = ap row_detail s ∙ simple_detail o }
