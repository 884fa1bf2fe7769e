-- What a row says, as the code answers it, and how the code finds it. Assumes nothing.
use Rattle.std.specs.Prelude.{ℕ, zero, suc, ◌+◌, ◌≤◌, ◌<◌, ◌≡◌, refl, List, [], ◌∷◌, ◌++◌, Bool, true, false, ◌&&◌, eqb, ltb, length, take, drop, Option as Maybe, Some, None, Result, Ok, Err}
use Rattle.std.proofs.Common.{sym, ◌∙◌, subst, arith, not-suc-le-zero, le_of_suc-le-suc, ne_eqb}
use Rattle.std.proofs.Math.Path.{ap}
use Rattle.std.proofs.Math.Option.{Option, none, some}
use Rattle.std.proofs.Math.ListN.{get_elem?}
use Rattle.std.specs.Option.{IsSome}
use borrow.Author.Tests.{ltb-true, ltb-false}
use denote.Ref.{Bor}
use Rattle.listings.specs.Bytes.{bytes, same, pick}
use Rattle.listings.specs.Listing.{Simple, jump, runto, on, for, next, CondWord, if, ifelse, rcomp}
use Rattle.listings.specs.Rows.{split, on_first, all, is_word, are_words, strip_close, Row as FormRow, close, bad, form, form_row, row_of, Form, module_form, line_form, to_form, stmts_form, run_form, for_form, next_form, cond_form, bare_form, number_form, numbers_form, opening_words, lookup, Parse, malformed, invalid, parsed, map_parse, with_parse, parse_numbers, parse_name, parse_slots, parse_tier, parse_mark, Counted, Content, no_form, end_row, stmts_row, module_row, line_row, to_row, simple_row, cond_row, bare_stmt, single, run_stmt, for_stmt, next_stmt, if_no_words, handler_facts, module_by, module_content, form_content, word_content, content_of}
use Rattle.listing_laws.specs.WordText.{same_equal}
use Rattle.listings.specs.ListingText.{jump_word, on_word, simple_word}
use Rattle.listings.specs.Tests.{both_true}
use Rattle.listings.specs.WordTable.{words, forms, first, word_index, content_at}
use Rattle.listings.specs.Scan.{index_of, index_le, split_last, split_more, split-some}
use Rattle.tokens.specs.Numbers.{as_number, flag_of}
use Rattle.tokens.specs.Arguments.{Verdict, verdict, lowest, check_for, check_next, check_kind, refusal_with, numbers_refusal, slots_refusal}
use Rattle.tokens.specs.declared.arguments.Checked.{Checked}
use Rattle.tokens.specs.Kinds.{as_cond, form_kind, kind_found, opened_kind, word_found, word_is, no_word_is, opened_past}
use Rattle.tokens.specs.declared.words.Cond.{Cond}
use Rattle.tokens.specs.declared.words.Cond.TheVariants as cond
use Rattle.tokens.specs.declared.words.Kind.{Kind}
use Rattle.tokens.specs.declared.words.Kind.TheVariants as kind
use Rattle.layout.specs.declared.refusals.Reason.{Reason}
use Rattle.layout.specs.declared.refusals.Reason.TheVariants as reason
use Rattle.reader.specs.declared.rows.Position.{Position as Place}
use Rattle.reader.specs.declared.rows.Position.TheVariants as at
use Rattle.reader.specs.declared.rows.Misfit.{Misfit}
use Rattle.reader.specs.declared.rows.Which.{Which}
use Rattle.reader.specs.declared.rows.Which.TheVariants as which
use Rattle.reader.specs.declared.rows.Bracket.{Bracket}
use Rattle.reader.specs.declared.rows.Bracket.TheVariants as bracket
use Rattle.reader.specs.declared.rows.Opening.{Opening}
use Rattle.reader.specs.declared.rows.Row.{Row}
use Rattle.reader.specs.declared.rows.Row.TheVariants as row

-- ---- the code's answer for what a row says

-- the places in their order
abbrev pub place_number : Place → ℕ
place_number at.Begin = 0
place_number at.InModule = 1
place_number at.Ended = 2
place_number at.InStmts = 3
place_number at.InCond = 4

-- the number of a statement's opening word
abbrev pub word_number : Simple → ℕ
word_number o = word_index (simple_word o)

-- to unfold this is to compute such a number
numbered : Unit {0}
unfolding word_index words first opening_words bytes same simple_word
numbered = tt

abbrev pub cond_index : Cond → ℕ
cond_index cond.If = 0
cond_index cond.IfElse = 1
cond_index cond.Rcomp = 2

abbrev pub cond_by : ℕ → Cond
cond_by n = pick (eqb n 0) cond.If (pick (eqb n 1) cond.IfElse cond.Rcomp)

abbrev pub cond_number : CondWord → ℕ
cond_number k = cond_index (as_cond k)

pub cond_back : (k : CondWord) → cond_by (cond_number k) ≡ as_cond k
cond_back if = refl
cond_back ifelse = refl
cond_back rcomp = refl

abbrev pub is_second : Which → Bool
is_second which.First = false
is_second which.Second = true

-- a row, or why it is refused where such a row is due
abbrev pub Said : Type 0
Said = Result Row Misfit

abbrev pub misfit : Reason → Place → Said
misfit r p = Err (record { reason = r; due = p })

-- "2 not a form", wherever it stands
abbrev pub no_row : Said
no_row = misfit reason.NotAForm at.InStmts

abbrev pub as_line : Parse ℕ → Said
as_line malformed = misfit reason.NotAForm at.InModule
as_line invalid = misfit reason.BadWord at.InModule
as_line (parsed n) = Ok (row.Line n)

abbrev pub as_to : Parse ℕ → Said
as_to malformed = misfit reason.NotAForm at.InCond
as_to invalid = misfit reason.BadWord at.InCond
as_to (parsed n) = Ok (row.To n)

abbrev pub as_simple : Parse Counted → Said
as_simple malformed = misfit reason.NotAForm at.InStmts
as_simple invalid = misfit reason.BadWord at.InStmts
as_simple (parsed d) = Ok (row.Simple (word_number d.0) d.1)

abbrev pub as_row : Content → Said
as_row no_form = no_row
as_row end_row = Ok row.End
as_row stmts_row = Ok row.Stmts
as_row (module_row h) = Ok (row.Module h)
as_row (line_row n) = as_line n
as_row (to_row n) = as_to n
as_row (simple_row o) = as_simple o
as_row (cond_row k) = Ok (row.Cond (as_cond k))

-- ---- by the code's number, and by the check of the words

-- a number that is due there
abbrev pub number_due : Place → Result ℕ Reason → Result ℕ Misfit
number_due p (Err r) = Err (record { reason = r; due = p })
number_due p (Ok n) = Ok n

-- a row by its number
abbrev pub row_by_number : (ℕ → Row) → Result ℕ Misfit → Said
row_by_number f (Err m) = Err m
row_by_number f (Ok n) = Ok (f n)

pub to_by_number : (g : Parse ℕ) → row_by_number row.To (number_due at.InCond (as_number g)) ≡ as_to g
to_by_number malformed = refl
to_by_number invalid = refl
to_by_number (parsed n) = refl

pub line_by_number : (g : Parse ℕ) → row_by_number row.Line (number_due at.InModule (as_number g)) ≡ as_line g
line_by_number malformed = refl
line_by_number invalid = refl
line_by_number (parsed n) = refl

abbrev pub simple_of : ℕ → ℕ → Verdict → Said
simple_of k n (Ok u) = Ok (row.Simple k n)
simple_of k n (Err r) = misfit r at.InStmts

abbrev pub simple_by : ℕ → Checked → Said
simple_by k c = simple_of k c.count c.verdict

-- ---- by the kind and the number k of the opening word

abbrev pub is_closed : Bracket → Bool
is_closed bracket.Closed = true
is_closed bracket.Open = false

-- a closed form with words after the opening one
unfoldable pub closed_args : Kind → ℕ → List (List ℕ) → Said
closed_args kind.Module k ws = simple_by k (check_kind kind.Module ws)
closed_args kind.Line k ws = simple_by k (check_kind kind.Line ws)
closed_args kind.To k ws = as_to (single ws)
closed_args kind.Stmts k ws = simple_by k (check_kind kind.Stmts ws)
closed_args (kind.Cond x) k ws = simple_by k (check_kind (kind.Cond x) ws)
closed_args kind.Bare k ws = simple_by k (check_kind kind.Bare ws)
closed_args kind.Number k ws = simple_by k (check_kind kind.Number ws)
closed_args kind.Numbers k ws = simple_by k (check_kind kind.Numbers ws)
closed_args kind.Run k ws = simple_by k (check_kind kind.Run ws)
closed_args kind.For k ws = simple_by k (check_kind kind.For ws)
closed_args kind.Next k ws = simple_by k (check_kind kind.Next ws)

-- one that is not closed
unfoldable pub opened_args : Kind → List (List ℕ) → Said
opened_args kind.Module ws = as_row (module_content ws)
opened_args kind.Line ws = as_line (single ws)
opened_args kind.To ws = no_row
opened_args kind.Stmts ws = no_row
opened_args (kind.Cond x) ws = no_row
opened_args kind.Bare ws = no_row
opened_args kind.Number ws = no_row
opened_args kind.Numbers ws = no_row
opened_args kind.Run ws = no_row
opened_args kind.For ws = no_row
opened_args kind.Next ws = no_row

unfoldable pub args_row : Maybe Kind → ℕ → Bool → List (List ℕ) → Said
args_row None k c ws = no_row
args_row (Some g) k true ws = closed_args g k ws
args_row (Some g) k false ws = opened_args g ws

-- a form of the opening word alone, closed or not
unfoldable pub closed_bare : Kind → ℕ → Said
closed_bare kind.Module k = no_row
closed_bare kind.Line k = no_row
closed_bare kind.To k = misfit reason.NotAForm at.InCond
closed_bare kind.Stmts k = no_row
closed_bare (kind.Cond x) k = no_row
closed_bare kind.Bare k = Ok (row.Simple k 0)
closed_bare kind.Number k = no_row
closed_bare kind.Numbers k = Ok (row.Simple k 0)
closed_bare kind.Run k = Ok (row.Simple k 0)
closed_bare kind.For k = no_row
closed_bare kind.Next k = no_row

unfoldable pub opened_bare : Kind → ℕ → Said
opened_bare kind.Module k = no_row
opened_bare kind.Line k = misfit reason.NotAForm at.InModule
opened_bare kind.To k = no_row
opened_bare kind.Stmts k = Ok row.Stmts
opened_bare (kind.Cond x) k = Ok (row.Cond x)
opened_bare kind.Bare k = no_row
opened_bare kind.Number k = no_row
opened_bare kind.Numbers k = no_row
opened_bare kind.Run k = no_row
opened_bare kind.For k = no_row
opened_bare kind.Next k = no_row

unfoldable pub bare_row : Maybe Kind → ℕ → Bool → Said
bare_row None k c = no_row
bare_row (Some g) k true = closed_bare g k
bare_row (Some g) k false = opened_bare g k

-- every other kind
pub closed_others : (g : Kind) (k : ℕ) (ws : List (List ℕ)) → (g ≡ kind.To → ⊥) → simple_by k (check_kind g ws) ≡ closed_args g k ws
unfolding closed_args
closed_others kind.Module k ws h = refl
closed_others kind.Line k ws h = refl
closed_others kind.To k ws h = absurd (h refl)
closed_others kind.Stmts k ws h = refl
closed_others (kind.Cond x) k ws h = refl
closed_others kind.Bare k ws h = refl
closed_others kind.Number k ws h = refl
closed_others kind.Numbers k ws h = refl
closed_others kind.Run k ws h = refl
closed_others kind.For k ws h = refl
closed_others kind.Next k ws h = refl

pub opened_others : (g : Kind) (ws : List (List ℕ)) → (g ≡ kind.Module → ⊥) → (g ≡ kind.Line → ⊥) → no_row ≡ opened_args g ws
unfolding opened_args
opened_others kind.Module ws h q = absurd (h refl)
opened_others kind.Line ws h q = absurd (q refl)
opened_others kind.To ws h q = refl
opened_others kind.Stmts ws h q = refl
opened_others (kind.Cond x) ws h q = refl
opened_others kind.Bare ws h q = refl
opened_others kind.Number ws h q = refl
opened_others kind.Numbers ws h q = refl
opened_others kind.Run ws h q = refl
opened_others kind.For ws h q = refl
opened_others kind.Next ws h q = refl

pub closed_bare_others : (g : Kind) (k : ℕ) → (g ≡ kind.To → ⊥) → (g ≡ kind.Bare → ⊥) → (g ≡ kind.Numbers → ⊥) → (g ≡ kind.Run → ⊥) → no_row ≡ closed_bare g k
unfolding closed_bare
closed_bare_others kind.Module k t h p q = refl
closed_bare_others kind.Line k t h p q = refl
closed_bare_others kind.To k t h p q = absurd (t refl)
closed_bare_others kind.Stmts k t h p q = refl
closed_bare_others (kind.Cond x) k t h p q = refl
closed_bare_others kind.Bare k t h p q = absurd (h refl)
closed_bare_others kind.Number k t h p q = refl
closed_bare_others kind.Numbers k t h p q = absurd (p refl)
closed_bare_others kind.Run k t h p q = absurd (q refl)
closed_bare_others kind.For k t h p q = refl
closed_bare_others kind.Next k t h p q = refl

pub opened_bare_others : (g : Kind) (k : ℕ) → (g ≡ kind.Line → ⊥) → (g ≡ kind.Stmts → ⊥) → ((x : Cond) → g ≡ kind.Cond x → ⊥) → no_row ≡ opened_bare g k
unfolding opened_bare
opened_bare_others kind.Module k t h q = refl
opened_bare_others kind.Line k t h q = absurd (t refl)
opened_bare_others kind.To k t h q = refl
opened_bare_others kind.Stmts k t h q = absurd (h refl)
opened_bare_others (kind.Cond x) k t h q = absurd (q x refl)
opened_bare_others kind.Bare k t h q = refl
opened_bare_others kind.Number k t h q = refl
opened_bare_others kind.Numbers k t h q = refl
opened_bare_others kind.Run k t h q = refl
opened_bare_others kind.For k t h q = refl
opened_bare_others kind.Next k t h q = refl

-- what the number of an opening word says of its form
Numbered : ℕ → Form → Type 0
Numbered k module_form = Unit {0}
Numbered k line_form = Unit {0}
Numbered k to_form = Unit {0}
Numbered k stmts_form = Unit {0}
Numbered k (cond_form w) = Unit {0}
Numbered k (bare_form o) = word_number o ≡ k
Numbered k (number_form w) = word_index (jump_word w) ≡ k
Numbered k (numbers_form w) = word_index (on_word w) ≡ k
Numbered k run_form = k ≡ 10
Numbered k for_form = k ≡ 13
Numbered k next_form = k ≡ 14

AllNumbered : ℕ → List Form → Type 0
AllNumbered k [] = Unit {0}
AllNumbered k (h ∷ hs) = Numbered k h × AllNumbered (suc k) hs

forms-numbered : AllNumbered 0 forms
unfolding AllNumbered Numbered forms numbered
forms-numbered = (tt, (tt, (tt, (tt, (tt, (tt, (tt, (refl, (refl, (refl, (refl, (refl, (refl, (refl, (refl, (refl, (refl, (refl, (refl, (refl, (refl, (refl, (refl, (refl, (refl, (refl, (refl, (refl, tt))))))))))))))))))))))))))))

numbered_from : (hs : List Form) (j i : ℕ) → AllNumbered j hs → (h : Form) → get_elem? hs i ≡ some h → Numbered (j + i) h
unfolding AllNumbered
numbered_from [] j zero r h e = absurd (let z : ◌≡◌ {A = ℕ} 0 1 = cc in omega arith)
numbered_from [] j (suc i) r h e = absurd (let z : ◌≡◌ {A = ℕ} 0 1 = cc in omega arith)
numbered_from (g ∷ hs) j zero r h e =
    let q : g ≡ h = cc in
    let n : j ≡ j + 0 = omega arith in
    subst (λ (x : Form). Numbered (j + 0) x) q (subst (λ (m : ℕ). Numbered m g) n r.0)
numbered_from (g ∷ hs) j (suc i) r h e =
    let n : suc j + i ≡ j + suc i = omega arith in
    subst (λ (m : ℕ). Numbered m h) n (numbered_from hs (suc j) i r.1 h e)

numbered_at : (k : ℕ) (h : Form) → get_elem? forms k ≡ some h → Numbered k h
numbered_at k h e = let n : 0 + k ≡ k = omega arith in subst (λ (m : ℕ). Numbered m h) n (numbered_from forms 0 k forms-numbered h e)

-- ---- a form's words

simple_map : {A : Type 0} (f : A → Simple) (k n : ℕ) → ((a : A) → word_number (f a) ≡ k) → (g : Parse A) → as_simple (map_parse (λ a. (f a, n)) g) ≡ simple_of k n (verdict g)
unfolding map_parse
simple_map f k n h malformed = refl
simple_map f k n h invalid = refl
simple_map f k n h (parsed a) = ap {B = Said} (λ (z : ℕ). Ok (row.Simple z n)) (h a)

simple_with : {A B : Type 0} (f : A → B → Simple) (k n : ℕ) → ((a : A) (b : B) → word_number (f a b) ≡ k) → (g : Parse A) (d : Parse B)
    → as_simple (with_parse (λ a b. (f a b, n)) g d) ≡ simple_of k n (lowest (verdict g) (verdict d))
unfolding with_parse lowest
simple_with f k n h malformed malformed = refl
simple_with f k n h malformed invalid = refl
simple_with f k n h malformed (parsed b) = refl
simple_with f k n h invalid malformed = refl
simple_with f k n h invalid invalid = refl
simple_with f k n h invalid (parsed b) = refl
simple_with f k n h (parsed a) malformed = refl
simple_with f k n h (parsed a) invalid = refl
simple_with f k n h (parsed a) (parsed b) = ap {B = Said} (λ (z : ℕ). Ok (row.Simple z n)) (h a b)

for_row : (k : ℕ) → k ≡ 13 → (ws : List (List ℕ)) → as_simple (for_stmt ws) ≡ simple_by k (check_for ws)
unfolding for_stmt check_for numbered
for_row k h [] = refl
for_row k h (w ∷ []) = refl
for_row k h (w ∷ v ∷ []) =
    simple_with for k 0 (λ n t. sym h) (parse_name w) (parse_tier v) ∙ ap (simple_of k 0) (sym (refusal_with (λ n t. (for n t, 0)) (parse_name w) (parse_tier v)))
for_row k h (w ∷ v ∷ u ∷ ws) = refl

next_row : (k : ℕ) → k ≡ 14 → (ws : List (List ℕ)) → as_simple (next_stmt ws) ≡ simple_by k (check_next ws)
unfolding next_stmt check_next numbered
next_row k h [] = refl
next_row k h (w ∷ ws) =
    simple_with next k (length ws) (λ m ss. sym h) (parse_mark w) (parse_slots ws)
    ∙ ap (λ (g : Verdict). simple_of k (length ws) (lowest (verdict (parse_mark w)) g)) (slots_refusal ws)

form_args : (h : Form) (k : ℕ) → Numbered k h → (c : Bool) (w : List ℕ) (ws : List (List ℕ)) → as_row (form_content h c (w ∷ ws)) ≡ args_row (Some (form_kind h)) k c (w ∷ ws)
unfolding Numbered form_content args_row closed_args opened_args form_kind check_kind if_no_words bare_stmt run_stmt numbered
form_args module_form k r true w ws = refl
form_args module_form k r false w ws = refl
form_args line_form k r true w ws = refl
form_args line_form k r false w ws = refl
form_args to_form k r true w ws = refl
form_args to_form k r false w ws = refl
form_args stmts_form k r true w ws = refl
form_args stmts_form k r false w ws = refl
form_args (cond_form x) k r true w ws = refl
form_args (cond_form x) k r false w ws = refl
form_args (bare_form o) k r true w ws = refl
form_args (bare_form o) k r false w ws = refl
form_args (number_form x) k r true w ws = simple_map (jump x) k 0 (λ n. r) (single (w ∷ ws))
form_args (number_form x) k r false w ws = refl
form_args (numbers_form x) k r true w ws =
    simple_map (on x) k (length (w ∷ ws)) (λ ns. r) (parse_numbers (w ∷ ws)) ∙ ap (simple_of k (length (w ∷ ws))) (numbers_refusal (w ∷ ws))
form_args (numbers_form x) k r false w ws = refl
form_args run_form k r true w ws = simple_map (jump runto) k 0 (λ n. sym r) (single (w ∷ ws))
form_args run_form k r false w ws = refl
form_args for_form k r true w ws = for_row k r (w ∷ ws)
form_args for_form k r false w ws = refl
form_args next_form k r true w ws = next_row k r (w ∷ ws)
form_args next_form k r false w ws = refl

form_bare : (h : Form) (k : ℕ) → Numbered k h → (c : Bool) → as_row (form_content h c []) ≡ bare_row (Some (form_kind h)) k c
unfolding Numbered form_content bare_row closed_bare opened_bare form_kind if_no_words bare_stmt run_stmt for_stmt next_stmt module_content single parse_numbers map_parse numbered
form_bare module_form k r true = refl
form_bare module_form k r false = refl
form_bare line_form k r true = refl
form_bare line_form k r false = refl
form_bare to_form k r true = refl
form_bare to_form k r false = refl
form_bare stmts_form k r true = refl
form_bare stmts_form k r false = refl
form_bare (cond_form x) k r true = refl
form_bare (cond_form x) k r false = refl
form_bare (bare_form o) k r true = ap {B = Said} (λ (z : ℕ). Ok (row.Simple z 0)) r
form_bare (bare_form o) k r false = refl
form_bare (number_form x) k r true = refl
form_bare (number_form x) k r false = refl
form_bare (numbers_form x) k r true = ap {B = Said} (λ (z : ℕ). Ok (row.Simple z 0)) r
form_bare (numbers_form x) k r false = refl
form_bare run_form k r true = ap {B = Said} (λ (z : ℕ). Ok (row.Simple z 0)) (sym r)
form_bare run_form k r false = refl
form_bare for_form k r true = refl
form_bare for_form k r false = refl
form_bare next_form k r true = refl
form_bare next_form k r false = refl

args_at : (k : ℕ) (c : Bool) (w : List ℕ) (ws : List (List ℕ)) → as_row (word_content (get_elem? forms k) c (w ∷ ws)) ≡ args_row (opened_kind k) k c (w ∷ ws)
unfolding opened_kind args_row word_content
args_at k c w ws = go (get_elem? forms k) refl
  where
    go : (o : Option Form) → get_elem? forms k ≡ o → as_row (word_content o c (w ∷ ws)) ≡ args_row (kind_found o) k c (w ∷ ws)
    go none e = refl
    go (some h) e = form_args h k (numbered_at k h e) c w ws

bare_at : (k : ℕ) (c : Bool) → as_row (word_content (get_elem? forms k) c []) ≡ bare_row (opened_kind k) k c
unfolding opened_kind bare_row word_content
bare_at k c = go (get_elem? forms k) refl
  where
    go : (o : Option Form) → get_elem? forms k ≡ o → as_row (word_content o c []) ≡ bare_row (kind_found o) k c
    go none e = refl
    go (some h) e = form_bare h k (numbered_at k h e) c

-- ---- `(module H`

module_two : (w : List ℕ) (ws : List (List ℕ)) → 0 < length ws → module_content (w ∷ ws) ≡ no_form
unfolding module_content
module_two w [] h = absurd (not-suc-le-zero h)
module_two w (v ∷ ws) h = refl

module_one : (s : List ℕ) → same (48 ∷ []) s ≡ false → same (49 ∷ []) s ≡ false → module_content (s ∷ []) ≡ no_form
unfolding module_content lookup handler_facts bytes module_by
module_one s q r = rw (q, r)

-- what is no flag is no form, of one word or of more
module_bad : (s : List ℕ) → same (48 ∷ []) s ≡ false → same (49 ∷ []) s ≡ false → module_content (split 32 s) ≡ no_form
module_bad s q r = go (ltb (index_of 32 s) (length s)) refl
  where
    i : ℕ
    i = index_of 32 s

    go : (t : Bool) → ltb i (length s) ≡ t → module_content (split 32 s) ≡ no_form
    go true e = ap module_content (split_more 32 s (ltb-true i (length s) e)) ∙ module_two (take i s) (split 32 (drop (suc i) s)) (split-some 32 (drop (suc i) s))
    go false e = ap module_content (split_last 32 s (omega (arith, ltb-false i (length s) e, index_le 32 s))) ∙ module_one s q r

abbrev pub flag_row : Maybe Bool → Said
flag_row None = no_row
flag_row (Some h) = Ok (row.Module h)

zero_row : Ok (row.Module false) ≡ as_row (module_content (split 32 (48 ∷ [])))
unfolding split on_first module_content lookup handler_facts bytes module_by same
zero_row = refl

one_row : Ok (row.Module true) ≡ as_row (module_content (split 32 (49 ∷ [])))
unfolding split on_first module_content lookup handler_facts bytes module_by same
one_row = refl

pub module_flag : (s : List ℕ) → flag_row (flag_of s) ≡ as_row (module_content (split 32 s))
unfolding flag_of bytes
module_flag s = go (same (48 ∷ []) s) (same (49 ∷ []) s) refl refl
  where
    go : (a b : Bool) → same (48 ∷ []) s ≡ a → same (49 ∷ []) s ≡ b → flag_row (pick a (Some false) (pick b (Some true) None)) ≡ as_row (module_content (split 32 s))
    go true b p q = zero_row ∙ ap (λ (l : List ℕ). as_row (module_content (split 32 l))) (same_equal (48 ∷ []) s p)
    go false true p q = one_row ∙ ap (λ (l : List ℕ). as_row (module_content (split 32 l))) (same_equal (49 ∷ []) s q)
    go false false p q = ap as_row (sym (module_bad s p q))

-- ---- what stands between the brackets

pub form_false : (c : Bool) (ws : List (List ℕ)) → are_words ws ≡ false → content_of (form_row c ws) ≡ no_form
unfolding form_row content_of
form_false c [] h = refl
form_false c (w ∷ ws) h = rw h

pub form_bad : (c : Bool) (s : List ℕ) → are_words (split 32 s) ≡ false → as_row (content_of (form_row c (split 32 s))) ≡ as_row no_form
form_bad c s h = ap as_row (form_false c (split 32 s) h)

pub form_true : (c : Bool) (w : List ℕ) (ws : List (List ℕ)) → are_words (w ∷ ws) ≡ true → form_row c (w ∷ ws) ≡ form c w ws
unfolding form_row
form_true c w ws h = rw h

form_some : (c : Bool) (w : List ℕ) (ws : List (List ℕ)) → 0 < length ws → are_words (w ∷ ws) ≡ true → as_row (content_of (form_row c (w ∷ ws))) ≡ args_row (opened_kind (word_index w)) (word_index w) c ws
form_some c w [] q h = absurd (not-suc-le-zero q)
form_some c w (v ∷ ws) q h =
    ap (λ (r : FormRow). as_row (content_of r)) (form_true c w (v ∷ ws) h) ∙ ap as_row (content_at c w (v ∷ ws)) ∙ args_at (word_index w) c v ws

-- w: the opening word
module _ (c : Bool) (s : List ℕ) (ok : are_words (split 32 s) ≡ true) where
  pub form_one : split 32 s ≡ s ∷ [] → as_row (content_of (form_row c (split 32 s))) ≡ bare_row (opened_kind (word_index s)) (word_index s) c
  form_one p =
      ap (λ (z : List (List ℕ)). as_row (content_of (form_row c z))) p ∙ ap (λ (r : FormRow). as_row (content_of r)) (form_true c s [] (ap are_words (sym p) ∙ ok))
      ∙ ap as_row (content_at c s []) ∙ bare_at (word_index s) c

  pub form_more : (w v : List ℕ) → split 32 s ≡ w ∷ split 32 v → as_row (content_of (form_row c (split 32 s))) ≡ args_row (opened_kind (word_index w)) (word_index w) c (split 32 v)
  form_more w v p = ap (λ (z : List (List ℕ)). as_row (content_of (form_row c z))) p ∙ form_some c w (split 32 v) (split-some 32 v) (ap are_words (sym p) ∙ ok)

  -- a row with no opening word is no form
  pub one_unopened : split 32 s ≡ s ∷ [] → opened_kind (word_index s) ≡ None → as_row (content_of (form_row c (split 32 s))) ≡ no_row
  unfolding bare_row
  one_unopened p q = form_one p ∙ ap (λ (g : Maybe Kind). bare_row g (word_index s) c) q

  pub more_unopened : (w v : List ℕ) → split 32 s ≡ w ∷ split 32 v → opened_kind (word_index w) ≡ None → as_row (content_of (form_row c (split 32 s))) ≡ no_row
  unfolding args_row
  more_unopened w v p q = form_more w v p ∙ ap (λ (g : Maybe Kind). args_row g (word_index w) c (split 32 v)) q

-- ---- each opening word is a word

word_among : (ds : List (List ℕ)) → are_words ds ≡ true → (w : List ℕ) → first ds w < length ds → is_word w ≡ true
unfolding are_words first
word_among [] h w q = absurd (not-suc-le-zero q)
word_among (d ∷ ds) h w q = go (same d w) refl q (word_among ds (both_true (is_word d) (are_words ds) h).1 w)
  where
    go : (t : Bool) → same d w ≡ t → pick t 0 (suc (first ds w)) < suc (length ds) → (first ds w < length ds → is_word w ≡ true) → is_word w ≡ true
    go true e b more = subst (λ (x : List ℕ). is_word x ≡ true) (same_equal d w e) (both_true (is_word d) (are_words ds) h).0
    go false e b more = more (le_of_suc-le-suc b)

found_below : (w : List ℕ) (k : ℕ) → Some k ≡ word_found w → word_index w < 28
unfolding word_found
found_below w k e = go (ltb (word_index w) 28) refl e
  where
    go : (t : Bool) → ltb (word_index w) 28 ≡ t → Some k ≡ pick t (Some (word_index w)) None → word_index w < 28
    go true q e = ltb-true (word_index w) 28 q
    go false q e = cc

pub found_number : (w : List ℕ) (k : ℕ) → Some k ≡ word_found w → k < 28
found_number w k e = omega (arith, word_is w k e, found_below w k e)

-- each of the 28 opens a form
kind_below : (hs : List Form) (k : ℕ) → k < length hs → IsSome (kind_found (get_elem? hs k))
kind_below [] k h = absurd (not-suc-le-zero h)
kind_below (f ∷ hs) zero h = refl
kind_below (f ∷ hs) (suc k) h = kind_below hs k (le_of_suc-le-suc h)

pub opened_below : (k : ℕ) → k < 28 → IsSome (opened_kind k)
unfolding forms opening_words opened_kind
opened_below k h = kind_below forms k h

opens : (w : List ℕ) → word_index w < 28 → is_word w ≡ true
unfolding word_index are_words is_word words opening_words bytes all
opens w h = word_among words refl w h

none_words : are_words [] ≡ true
unfolding are_words
none_words = refl

words_of : (w : List ℕ) (ws : List (List ℕ)) → is_word w ≡ true → are_words ws ≡ true → are_words (w ∷ ws) ≡ true
unfolding are_words
words_of w ws p q = rw (p, q)

not_words : (w : List ℕ) (ws : List (List ℕ)) → are_words ws ≡ false → are_words (w ∷ ws) ≡ false
unfolding are_words
not_words w ws q = go (is_word w) (are_words ws) q
  where
    go : (x y : Bool) → y ≡ false → (x && y) ≡ false
    go true y e = e
    go false y e = refl

-- a row whose opening word was not found is no form
module _ (c : Bool) (s : List ℕ) where
  no_one : split 32 s ≡ s ∷ [] → 28 ≤ word_index s → as_row (content_of (form_row c (split 32 s))) ≡ no_row
  no_one p h = go (are_words (split 32 s)) refl
    where
      go : (t : Bool) → are_words (split 32 s) ≡ t → as_row (content_of (form_row c (split 32 s))) ≡ no_row
      go true ok = one_unopened c s ok p (opened_past _ h)
      go false f = form_bad c s f

  no_more : (w v : List ℕ) → split 32 s ≡ w ∷ split 32 v → 28 ≤ word_index w → as_row (content_of (form_row c (split 32 s))) ≡ no_row
  no_more w v p h = go (are_words (split 32 s)) refl
    where
      go : (t : Bool) → are_words (split 32 s) ≡ t → as_row (content_of (form_row c (split 32 s))) ≡ no_row
      go true ok = more_unopened c s ok w v p (opened_past _ h)
      go false f = form_bad c s f

-- by the word that was found, and by whether the others are words; o: its number and its kind
module _ (c : Bool) (s : List ℕ) where
  module _ (p : split 32 s ≡ s ∷ []) where
    pub one_none : None ≡ word_found s → no_row ≡ as_row (content_of (form_row c (split 32 s)))
    one_none e = sym (no_one c s p (no_word_is s e))

    pub one_opened : (k : ℕ) → Some k ≡ word_found s → (o : Opening) → o.number ≡ k → Some o.kind ≡ opened_kind k → bare_row (Some o.kind) o.number c ≡ as_row (content_of (form_row c (split 32 s)))
    one_opened k e o n g =
        let ok = ap are_words p ∙ words_of s [] (opens s (found_below s k e)) none_words in
        ap (λ (x : Maybe Kind). bare_row x o.number c) g ∙ ap (λ (m : ℕ). bare_row (opened_kind k) m c) n ∙ ap (λ (m : ℕ). bare_row (opened_kind m) m c) (word_is s k e) ∙ sym (form_one c s ok p)

  module _ (w v : List ℕ) (p : split 32 s ≡ w ∷ split 32 v) where
    pub more_none : None ≡ word_found w → no_row ≡ as_row (content_of (form_row c (split 32 s)))
    more_none e = sym (no_more c s w v p (no_word_is w e))

    pub more_bad : are_words (split 32 v) ≡ false → no_row ≡ as_row (content_of (form_row c (split 32 s)))
    more_bad h = sym (form_bad c s (ap are_words p ∙ not_words w (split 32 v) h))

    pub more_opened : are_words (split 32 v) ≡ true → (k : ℕ) → Some k ≡ word_found w → (o : Opening) → o.number ≡ k → Some o.kind ≡ opened_kind k → args_row (Some o.kind) o.number c (split 32 v) ≡ as_row (content_of (form_row c (split 32 s)))
    more_opened h k e o n g =
        let ok = ap are_words p ∙ words_of w (split 32 v) (opens w (found_below w k e)) h in
        ap (λ (x : Maybe Kind). args_row x o.number c (split 32 v)) g ∙ ap (λ (m : ℕ). args_row (opened_kind k) m c (split 32 v)) n
        ∙ ap (λ (m : ℕ). args_row (opened_kind m) m c (split 32 v)) (word_is w k e) ∙ sym (form_more c s ok w v p)

-- ---- a whole row

strip_closed : (l : List ℕ) → strip_close (l ++ (41 ∷ [])) ≡ (true, l)
unfolding strip_close
strip_closed [] = refl
strip_closed (b ∷ []) = refl
strip_closed (b ∷ c ∷ l) = let r : strip_close (c ∷ (l ++ (41 ∷ []))) ≡ (true, c ∷ l) = strip_closed (c ∷ l) in rw r

strip_open : (l : List ℕ) → ((w : List ℕ) → l ≡ w ++ (41 ∷ []) → ⊥) → strip_close l ≡ (false, l)
unfolding strip_close
strip_open [] h = refl
strip_open (b ∷ []) h = rw (ne_eqb b 41 (λ e. h [] (ap (λ (z : ℕ). z ∷ []) e)))
strip_open (b ∷ c ∷ l) h = let r : strip_close (c ∷ l) ≡ (false, c ∷ l) = strip_open (c ∷ l) (λ w e. h (b ∷ w) (ap (λ (z : List ℕ). b ∷ z) e)) in rw r

-- what stands between its brackets, if it begins with one
abbrev pub Inside : List ℕ → Maybe (Bor (List ℕ) × Bracket) → Type 0
Inside s None = row_of s ≡ pick (same s (41 ∷ [])) close bad
Inside s (Some d) = row_of s ≡ form_row (is_closed d.1) (split 32 d.0.now)

pub unbracketed : (s : List ℕ) → ((l : List ℕ) → s ≡ (40 ∷ []) ++ l → ⊥) → row_of s ≡ pick (same s (41 ∷ [])) close bad
unfolding row_of same
unbracketed [] h = refl
unbracketed (b ∷ l) h = rw (ne_eqb b 40 (λ e. h l (ap (λ (z : ℕ). z ∷ l) e)))

module _ (s l : List ℕ) (is : s ≡ (40 ∷ []) ++ l) where
  bracketed : (t : Bool) (w : List ℕ) → strip_close l ≡ (t, w) → row_of s ≡ form_row t (split 32 w)
  unfolding row_of
  bracketed t w e = rw (is, e)

  -- the last byte is the closing bracket, or it is not
  pub row_closed : (w : List ℕ) → l ≡ w ++ (41 ∷ []) → row_of s ≡ form_row true (split 32 w)
  row_closed w e = bracketed true w (ap strip_close e ∙ strip_closed w)

  pub row_open : ((w : List ℕ) → l ≡ w ++ (41 ∷ []) → ⊥) → row_of s ≡ form_row false (split 32 l)
  row_open h = bracketed false l (strip_open l h)

module _ (s : List ℕ) (is : row_of s ≡ pick (same s (41 ∷ [])) close bad) where
  pub row_end : same s (41 ∷ []) ≡ true → as_row (content_of (row_of s)) ≡ as_row end_row
  unfolding content_of
  row_end q = let t : pick (same s (41 ∷ [])) close bad ≡ close = rw q in ap (λ (r : FormRow). as_row (content_of r)) (is ∙ t)

  pub row_bad : same s (41 ∷ []) ≡ false → as_row (content_of (row_of s)) ≡ as_row no_form
  unfolding content_of
  row_bad q = let t : pick (same s (41 ∷ [])) close bad ≡ bad = rw q in ap (λ (r : FormRow). as_row (content_of r)) (is ∙ t)
