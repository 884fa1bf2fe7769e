-- Rows: what a row's text says is what it was written for, and only that text says it. Assumes nothing.
use Rattle.std.specs.Prelude.{ℕ, ◌≤◌, ◌≡◌, refl, Bool, true, false, List, [], ◌∷◌, map, length}
use Rattle.std.proofs.Common.{ap, ◌∙◌, subst}
use Rattle.std.proofs.Math.Option.{Option, none, some}
use Rattle.std.proofs.lemmas.List.{length-map}
use Rattle.listings.specs.Bytes.{bytes, same, decimal}
use Rattle.listings.specs.Listing.{JumpWord, goto, gosub, runto, OnWord, ongoto, ongosub, BlockWord, repeat, loop, until, endloop, exit, exitif, doif, else, done, BareWord, return, run, clr, stop, any, Simple, jump, on, for, next, block, bare, CondWord, if, ifelse, rcomp}
use Rattle.listings.specs.Rows.{is_word, are_words, strip_close, all, Row, close, bad, form, row_of, Form, module_form, line_form, to_form, stmts_form, run_form, for_form, next_form, cond_form, bare_form, number_form, numbers_form, opening_words, lookup, parsed, map_parse, with_parse, parse_number, parse_numbers, parse_name, parse_tier, parse_mark, parse_slots, Counted, Content, no_form, end_row, stmts_row, module_row, line_row, to_row, simple_row, cond_row, bare_stmt, single, run_stmt, for_stmt, next_stmt, if_no_words, handler_facts, module_by, module_content, form_content, word_content, content_of}
use Rattle.listings.specs.Every.{no_newline}
use Rattle.listings.specs.ListingText.{closed_form, open_form, end_form, tier_word, mark_word, slot_word, simple_text, cond_text, handler_word, NumbersOk, NameOk, listed, SimpleOk, block_word, bare_word, simple_word, simple_args, cond_word}
use Rattle.listings.specs.Tests.{both_true}
use Rattle.listing_laws.specs.NumberText.{IfParsed, if-same, if-map, if_with, number_text, number_of_text, numbers_text, AreNumbers, numbers_of_text}
use Rattle.listing_laws.specs.WordText.{in_word, is_token, are_tokens, decimal_token, decimals_tokens, name_token, name_text, name_of_text, slots_text, slots_tokens, AreSlots, slots_of_text, IfFound, Entries, lookup_entry, tier_text_lem, tier_token, tier_of_text, mark_text_lem, mark_token, mark_of_text, handler_text, handler_token, handler_of_text}
use Rattle.listing_laws.specs.RowForms.{form_text, form_row_lem, form_newline, RowText, row_text_lem}

-- ---- what a row's text says

-- the text r is a row that says d, and has no byte 10
abbrev pub Says : List ℕ → Content → Type 0
Says r d = (content_of (row_of r) ≡ d) × (no_newline r ≡ true)

-- to unfold this is to unfold what computes a form's content and tests its words
opened : Unit {0}
unfolding content_of word_content form_content lookup opening_words bytes same are_tokens is_token all in_word single
opened = tt

form_says : (c : Bool) (w : List ℕ) (ws : List (List ℕ)) (d : Content) → are_tokens (w ∷ ws) ≡ true → content_of (form c w ws) ≡ d → Says (form_text c w ws) d
form_says c w ws d h e = (ap content_of (form_row_lem c w ws h) ∙ e, form_newline c w ws h)

-- a word that is in form, and that says this statement where it stands alone in its row
abbrev Alone : List ℕ → Simple → Type 0
Alone w o = (is_token w ≡ true) × (content_of (form true w []) ≡ simple_row (parsed (o, 0)))

block_alone : (w : BlockWord) → Alone (block_word w) (block w)
unfolding opened block_word bare_stmt
block_alone repeat = (refl, refl)
block_alone loop = (refl, refl)
block_alone until = (refl, refl)
block_alone endloop = (refl, refl)
block_alone exit = (refl, refl)
block_alone exitif = (refl, refl)
block_alone doif = (refl, refl)
block_alone else = (refl, refl)
block_alone done = (refl, refl)

bare_alone : (w : BareWord) → Alone (bare_word w) (bare w)
unfolding opened bare_word bare_stmt run_stmt
bare_alone return = (refl, refl)
bare_alone run = (refl, refl)
bare_alone clr = (refl, refl)
bare_alone stop = (refl, refl)
bare_alone any = (refl, refl)
bare_alone BareWord.plain = (refl, refl)

-- a statement's words are in form
pub simple_tokens : (o : Simple) → SimpleOk o → are_tokens (simple_word o ∷ simple_args o) ≡ true
unfolding opened simple_word simple_args SimpleOk
simple_tokens (jump goto n) h = rw (decimal_token n)
simple_tokens (jump gosub n) h = rw (decimal_token n)
simple_tokens (jump runto n) h = rw (decimal_token n)
simple_tokens (on ongoto ns) h = decimals_tokens ns
simple_tokens (on ongosub ns) h = decimals_tokens ns
simple_tokens (for v t) h = rw (name_token v h, tier_token t)
simple_tokens (next m ss) h = rw (mark_token m) (slots_tokens ss h)
simple_tokens (block w) h = rw (block_alone w).0
simple_tokens (bare w) h = rw (bare_alone w).0

simple_content : (o : Simple) → SimpleOk o → content_of (form true (simple_word o) (simple_args o)) ≡ simple_row (parsed (o, listed o))
unfolding opened simple_word simple_args SimpleOk listed run_stmt for_stmt next_stmt map_parse with_parse
simple_content (jump goto n) h = rw (number_text n h)
simple_content (jump gosub n) h = rw (number_text n h)
simple_content (jump runto n) h = rw (number_text n h)
simple_content (on ongoto ns) h = rw (numbers_text ns h, length-map ns decimal)
simple_content (on ongosub ns) h = rw (numbers_text ns h, length-map ns decimal)
simple_content (for v t) h = rw (name_text v h, tier_text_lem t)
simple_content (next m ss) h = rw (mark_text_lem m, slots_text ss h, length-map ss slot_word)
simple_content (block w) h = (block_alone w).1
simple_content (bare w) h = (bare_alone w).1

simple_says : (o : Simple) → SimpleOk o → Says (simple_text o) (simple_row (parsed (o, listed o)))
unfolding simple_text
simple_says o h = form_says true (simple_word o) (simple_args o) _ (simple_tokens o h) (simple_content o h)

pub simple_row_lem : (o : Simple) → SimpleOk o → content_of (row_of (simple_text o)) ≡ simple_row (parsed (o, listed o))
simple_row_lem o h = (simple_says o h).0

pub simple_newline : (o : Simple) → SimpleOk o → no_newline (simple_text o) ≡ true
simple_newline o h = (simple_says o h).1

cond_says : (k : CondWord) → Says (cond_text k) (cond_row k)
unfolding opened cond_text cond_word if_no_words
cond_says if = form_says false (bytes "if") [] _ refl refl
cond_says ifelse = form_says false (bytes "ifelse") [] _ refl refl
cond_says rcomp = form_says false (bytes "rcomp") [] _ refl refl

pub cond_row_lem : (k : CondWord) → content_of (row_of (cond_text k)) ≡ cond_row k
cond_row_lem k = (cond_says k).0

pub cond_newline : (k : CondWord) → no_newline (cond_text k) ≡ true
cond_newline k = (cond_says k).1

end_says : Says end_form end_row
unfolding end_form row_of content_of same strip_close no_newline all
end_says = (refl, refl)

pub end_row_lem : content_of (row_of end_form) ≡ end_row
end_row_lem = end_says.0

pub end_newline : no_newline end_form ≡ true
end_newline = end_says.1

stmts_says : Says (open_form (bytes "stmts") []) stmts_row
unfolding opened if_no_words
stmts_says = form_says false (bytes "stmts") [] _ refl refl

pub stmts_row_lem : content_of (row_of (open_form (bytes "stmts") [])) ≡ stmts_row
stmts_row_lem = stmts_says.0

pub stmts_newline : no_newline (open_form (bytes "stmts") []) ≡ true
stmts_newline = stmts_says.1

to_says : (n : ℕ) → Says (closed_form (bytes "to") (decimal n ∷ [])) (to_row (parse_number (decimal n)))
unfolding opened
to_says n = form_says true (bytes "to") (decimal n ∷ []) _ (rw (decimal_token n)) refl

pub to_row_lem : (n : ℕ) → n ≤ 65535 → content_of (row_of (closed_form (bytes "to") (decimal n ∷ []))) ≡ to_row (parsed n)
to_row_lem n h = (to_says n).0 ∙ ap to_row (number_text n h)

pub to_newline : (n : ℕ) → no_newline (closed_form (bytes "to") (decimal n ∷ [])) ≡ true
to_newline n = (to_says n).1

line_says : (n : ℕ) → Says (open_form (bytes "line") (decimal n ∷ [])) (line_row (parse_number (decimal n)))
unfolding opened
line_says n = form_says false (bytes "line") (decimal n ∷ []) _ (rw (decimal_token n)) refl

pub line_row_lem : (n : ℕ) → n ≤ 65535 → content_of (row_of (open_form (bytes "line") (decimal n ∷ []))) ≡ line_row (parsed n)
line_row_lem n h = (line_says n).0 ∙ ap line_row (number_text n h)

pub line_newline : (n : ℕ) → no_newline (open_form (bytes "line") (decimal n ∷ [])) ≡ true
line_newline n = (line_says n).1

module_says : (h : Bool) → Says (open_form (bytes "module") (handler_word h ∷ [])) (module_row h)
unfolding opened module_content module_by
module_says h = form_says false (bytes "module") (handler_word h ∷ []) _ (rw (handler_token h)) (rw (handler_text h))

pub module_row_lem : (h : Bool) → content_of (row_of (open_form (bytes "module") (handler_word h ∷ []))) ≡ module_row h
module_row_lem h = (module_says h).0

pub module_newline : (h : Bool) → no_newline (open_form (bytes "module") (handler_word h ∷ [])) ≡ true
module_newline h = (module_says h).1

-- ---- the text of what a row says

-- d is a statement in form, with what it lists, and r is its text
abbrev pub IsSimple : List ℕ → Counted → Type 0
IsSimple r d = (r ≡ simple_text d.0) × SimpleOk d.0 × (d.1 ≡ listed d.0)

abbrev pub IsNumberForm : Bool → List ℕ → List ℕ → ℕ → Type 0
IsNumberForm c w r n = (r ≡ form_text c w (decimal n ∷ [])) × (n ≤ 65535)

-- r is the text of a row that says this
abbrev pub ContentText : List ℕ → Content → Type 0
ContentText r no_form = Unit {0}
ContentText r end_row = r ≡ end_form
ContentText r stmts_row = r ≡ open_form (bytes "stmts") []
ContentText r (module_row h) = r ≡ open_form (bytes "module") (handler_word h ∷ [])
ContentText r (line_row g) = IfParsed (IsNumberForm false (bytes "line") r) g
ContentText r (to_row g) = IfParsed (IsNumberForm true (bytes "to") r) g
ContentText r (simple_row g) = IfParsed (IsSimple r) g
ContentText r (cond_row k) = r ≡ cond_text k

-- w is the opening word of this form
abbrev Opens : List ℕ → Form → Type 0
Opens w module_form = w ≡ bytes "module"
Opens w line_form = w ≡ bytes "line"
Opens w to_form = w ≡ bytes "to"
Opens w stmts_form = w ≡ bytes "stmts"
Opens w run_form = w ≡ bytes "run"
Opens w for_form = w ≡ bytes "for"
Opens w next_form = w ≡ bytes "next"
Opens w (cond_form k) = open_form w [] ≡ cond_text k
Opens w (bare_form o) = IsSimple (closed_form w []) (o, 0)
Opens w (number_form k) = (n : ℕ) → n ≤ 65535 → IsSimple (closed_form w (decimal n ∷ [])) (jump k n, 0)
Opens w (numbers_form k) = (ns : List ℕ) → NumbersOk ns → IsSimple (closed_form w (map decimal ns)) (on k ns, length ns)

infixr 20 ◌and◌
◌and◌ : {A B : Type 0} → A → B → A × B
a and b = (a, b)

-- the table: module .. stmts; goto, gosub, return, run; ongoto, ongosub, for, next; repeat .. doif; else .. plain
opening : Entries Opens opening_words
unfolding opening_words cond_text cond_word simple_text simple_word simple_args SimpleOk listed
opening =
    refl and refl and refl and refl and refl and refl and refl
    and (λ n h. (refl, h, refl)) and (λ n h. (refl, h, refl)) and (refl, tt, refl) and refl
    and (λ ns h. (refl, h, refl)) and (λ ns h. (refl, h, refl)) and refl and refl
    and (refl, tt, refl) and (refl, tt, refl) and (refl, tt, refl) and (refl, tt, refl) and (refl, tt, refl) and (refl, tt, refl) and (refl, tt, refl)
    and (refl, tt, refl) and (refl, tt, refl) and (refl, tt, refl) and (refl, tt, refl) and (refl, tt, refl) and (refl, tt, refl) and tt

single_of_text : (ws : List (List ℕ)) → are_words ws ≡ true → IfParsed (λ n. (ws ≡ decimal n ∷ []) × (n ≤ 65535)) (single ws)
unfolding single IfParsed are_words
single_of_text [] h = tt
single_of_text (w ∷ []) h =
    if-same (λ n. (w ≡ decimal n) × (n ≤ 65535)) (λ n. (w ∷ [] ≡ decimal n ∷ []) × (n ≤ 65535)) (λ n p. (cc, p.1)) (parse_number w) (number_of_text w (both_true (is_word w) true h).0)
single_of_text (w ∷ v ∷ ws) h = tt

number_form_lem : (c : Bool) (w : List ℕ) (ws : List (List ℕ)) → are_words ws ≡ true → IfParsed (IsNumberForm c w (form_text c w ws)) (single ws)
number_form_lem c w ws h =
    if-same (λ n. (ws ≡ decimal n ∷ []) × (n ≤ 65535)) (IsNumberForm c w (form_text c w ws)) (λ n p. (ap (form_text c w) p.0, p.1)) (single ws) (single_of_text ws h)

number_simple : (k : JumpWord) (w : List ℕ) (ws : List (List ℕ)) → Opens w (number_form k) → are_words ws ≡ true
    → IfParsed (IsSimple (closed_form w ws)) (map_parse (λ n. (jump k n, 0)) (single ws))
number_simple k w ws e h =
    if-map (λ n. (ws ≡ decimal n ∷ []) × (n ≤ 65535)) (IsSimple (closed_form w ws)) (λ n. (jump k n, 0)) (λ n p. rw p.0 (e n p.1)) (single ws) (single_of_text ws h)

numbers_simple : (k : OnWord) (w : List ℕ) (ws : List (List ℕ)) → Opens w (numbers_form k) → are_words ws ≡ true
    → IfParsed (IsSimple (closed_form w ws)) (map_parse (λ ns. (on k ns, length ws)) (parse_numbers ws))
numbers_simple k w ws e h =
    if-map (AreNumbers ws) (IsSimple (closed_form w ws)) (λ ns. (on k ns, length ws)) (λ ns p. let q = e ns p.1 in (rw p.0 q.0, q.1, p.2 ∙ q.2))
    (parse_numbers ws) (numbers_of_text ws h)

run_simple : (ws : List (List ℕ)) → are_words ws ≡ true → IfParsed (IsSimple (closed_form (bytes "run") ws)) (run_stmt ws)
unfolding run_stmt IfParsed simple_text simple_word simple_args SimpleOk listed
run_simple [] h = (refl, tt, refl)
run_simple (w ∷ ws) h = number_simple runto (bytes "run") (w ∷ ws) (λ n p. (refl, p, refl)) h

for_simple : (ws : List (List ℕ)) → IfParsed (IsSimple (closed_form (bytes "for") ws)) (for_stmt ws)
unfolding for_stmt IfParsed simple_text simple_word simple_args SimpleOk listed
for_simple [] = tt
for_simple (w ∷ []) = tt
for_simple (w ∷ v ∷ []) =
    if_with (λ n. (w ≡ n) × NameOk n) (λ t. v ≡ tier_word t) (IsSimple (closed_form (bytes "for") (w ∷ v ∷ []))) (λ n t. (for n t, 0))
    (λ n t p q. (cc, p.1, refl)) (parse_name w) (parse_tier v) (name_of_text w) (tier_of_text v)
for_simple (w ∷ v ∷ u ∷ ws) = tt

next_simple : (ws : List (List ℕ)) → IfParsed (IsSimple (closed_form (bytes "next") ws)) (next_stmt ws)
unfolding next_stmt IfParsed simple_text simple_word simple_args SimpleOk listed
next_simple [] = tt
next_simple (w ∷ ws) =
    if_with (λ m. w ≡ mark_word m) (AreSlots ws) (IsSimple (closed_form (bytes "next") (w ∷ ws))) (λ m ss. (next m ss, length ws))
    (λ m ss p q. (cc, q.1, q.2)) (parse_mark w) (parse_slots ws) (mark_of_text w) (slots_of_text ws)

bare_simple : (w : List ℕ) (ws : List (List ℕ)) (o : Simple) → IsSimple (closed_form w []) (o, 0) → IfParsed (IsSimple (closed_form w ws)) (bare_stmt o ws)
unfolding IfParsed bare_stmt
bare_simple w [] o h = h
bare_simple w (v ∷ ws) o h = tt

no_words : (w : List ℕ) (ws : List (List ℕ)) (d : Content) → ContentText (open_form w []) d → ContentText (open_form w ws) (if_no_words ws d)
unfolding if_no_words
no_words w [] d h = h
no_words w (v ∷ ws) d h = tt

module_form_lem : (ws : List (List ℕ)) → ContentText (open_form (bytes "module") ws) (module_content ws)
unfolding module_content module_by IfFound
module_form_lem [] = tt
module_form_lem (w ∷ []) = go (lookup handler_facts w) (handler_of_text w)
  where
    go : (o : Option Bool) → IfFound (λ h. w ≡ handler_word h) o → ContentText (open_form (bytes "module") (w ∷ [])) (module_by o)
    go none e = tt
    go (some h) e = ap (λ (v : List ℕ). open_form (bytes "module") (v ∷ [])) e
module_form_lem (w ∷ v ∷ ws) = tt

form_text_lem : (f : Form) (c : Bool) (w : List ℕ) (ws : List (List ℕ)) → Opens w f → are_words ws ≡ true → ContentText (form_text c w ws) (form_content f c ws)
unfolding form_content
form_text_lem module_form true w ws e h = tt
form_text_lem module_form false w ws e h = rw e (module_form_lem ws)
form_text_lem line_form true w ws e h = tt
form_text_lem line_form false w ws e h = rw e (number_form_lem false (bytes "line") ws h)
form_text_lem to_form true w ws e h = rw e (number_form_lem true (bytes "to") ws h)
form_text_lem to_form false w ws e h = tt
form_text_lem stmts_form true w ws e h = tt
form_text_lem stmts_form false w ws e h = no_words w ws stmts_row (ap (λ (v : List ℕ). open_form v []) e)
form_text_lem (cond_form k) true w ws e h = tt
form_text_lem (cond_form k) false w ws e h = no_words w ws (cond_row k) e
form_text_lem run_form true w ws e h = rw e (run_simple ws h)
form_text_lem run_form false w ws e h = tt
form_text_lem for_form true w ws e h = rw e (for_simple ws)
form_text_lem for_form false w ws e h = tt
form_text_lem next_form true w ws e h = rw e (next_simple ws)
form_text_lem next_form false w ws e h = tt
form_text_lem (bare_form o) true w ws e h = bare_simple w ws o e
form_text_lem (bare_form o) false w ws e h = tt
form_text_lem (number_form k) true w ws e h = number_simple k w ws e h
form_text_lem (number_form k) false w ws e h = tt
form_text_lem (numbers_form k) true w ws e h = numbers_simple k w ws e h
form_text_lem (numbers_form k) false w ws e h = tt

-- a row that says something is its text
pub content_text : (r : List ℕ) → ContentText r (content_of (row_of r))
unfolding content_of word_content RowText are_words
content_text r = of_row (row_of r) (row_text_lem r)
  where
    of_word : (o : Option Form) (c : Bool) (w : List ℕ) (ws : List (List ℕ)) → IfFound (Opens w) o → are_words ws ≡ true → ContentText (form_text c w ws) (word_content o c ws)
    of_word none c w ws e h = tt
    of_word (some f) c w ws e h = form_text_lem f c w ws (unfold IfFound in e) h

    of_row : (d : Row) → RowText r d → ContentText r (content_of d)
    of_row bad h = tt
    of_row close h = h
    of_row (form c w ws) h =
        rw h.0 (of_word (lookup opening_words w) c w ws (lookup_entry Opens opening_words opening w) (both_true (is_word w) (are_words ws) h.1).1)

pub row_simple : (w : List ℕ) (d : Counted) → content_of (row_of w) ≡ simple_row (parsed d) → (w ≡ simple_text d.0) × SimpleOk d.0 × (d.1 ≡ listed d.0)
unfolding IfParsed
row_simple w d e = subst (ContentText w) e (content_text w)

pub row_cond : (w : List ℕ) (k : CondWord) → content_of (row_of w) ≡ cond_row k → w ≡ cond_text k
row_cond w k e = subst (ContentText w) e (content_text w)

pub row_end : (w : List ℕ) → content_of (row_of w) ≡ end_row → w ≡ end_form
row_end w e = subst (ContentText w) e (content_text w)

pub row_stmts : (w : List ℕ) → content_of (row_of w) ≡ stmts_row → w ≡ open_form (bytes "stmts") []
row_stmts w e = subst (ContentText w) e (content_text w)

pub row_to : (w : List ℕ) (n : ℕ) → content_of (row_of w) ≡ to_row (parsed n) → (w ≡ closed_form (bytes "to") (decimal n ∷ [])) × (n ≤ 65535)
unfolding IfParsed
row_to w n e = subst (ContentText w) e (content_text w)

pub row_line : (w : List ℕ) (n : ℕ) → content_of (row_of w) ≡ line_row (parsed n) → (w ≡ open_form (bytes "line") (decimal n ∷ [])) × (n ≤ 65535)
unfolding IfParsed
row_line w n e = subst (ContentText w) e (content_text w)

pub row_module : (w : List ℕ) (h : Bool) → content_of (row_of w) ≡ module_row h → w ≡ open_form (bytes "module") (handler_word h ∷ [])
row_module w h e = subst (ContentText w) e (content_text w)
