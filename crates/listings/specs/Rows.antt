-- What a row says, wherever it stands (document 01, "The listing"): words, numbers, names, forms. Assumes nothing.
use Rattle.std.specs.Prelude.{ℕ, zero, suc, ◌+◌, ◌*◌, ◌-◌, List, [], ◌∷◌, Bool, true, false, ◌&&◌, ◌||◌, not, eqb, leb, length}
use Rattle.std.proofs.Math.Option.{Option, none, some}
use Rattle.listings.specs.Bytes.{bytes, same, pick}
use Rattle.listings.specs.Listing.{Name, Tier, static, framed, dispatched, Mark, orphan, Slot, Simple, JumpWord, jump, goto, gosub, runto, OnWord, on, ongoto, ongosub, for, next, block, repeat, loop, until, endloop, exit, exitif, doif, else, done, bare, BareWord, return, run, clr, stop, any, CondWord, if, ifelse, rcomp}

-- ---- rows and words

-- the pieces of a text between the bytes s, one more than there are such bytes: rows by 10, words by 32
unfoldable pub on_first : ℕ → List (List ℕ) → List (List ℕ)
on_first b [] = (b ∷ []) ∷ []
on_first b (w ∷ ws) = (b ∷ w) ∷ ws

unfoldable pub split : ℕ → List ℕ → List (List ℕ)
split s [] = [] ∷ []
split s (b ∷ l) = let r = split s l in pick (eqb b s) ([] ∷ r) (on_first b r)

unfoldable pub all : (ℕ → Bool) → List ℕ → Bool
all p [] = true
all p (a ∷ l) = p a && all p l

-- "one or more bytes other than space, byte 10 and brackets" (a row has no byte 10, a piece by 32 no space)
unfoldable pub is_word : List ℕ → Bool
is_word [] = false
is_word (b ∷ l) = all (λ c. not (eqb c 40 || eqb c 41)) (b ∷ l)

unfoldable pub are_words : List (List ℕ) → Bool
are_words [] = true
are_words (w ∷ ws) = is_word w && are_words ws

-- whether a row ends with `)`, and what stands before that
unfoldable pub strip_close : List ℕ → Bool × List ℕ
strip_close [] = (false, [])
strip_close (b ∷ []) = pick (eqb b 41) (true, []) (false, b ∷ [])
strip_close (b ∷ c ∷ l) = let r = strip_close (c ∷ l) in (r.0, b ∷ r.1)

-- a row: `)` alone, a form (closed on its row or not) with its opening word and its other words, or neither
pub data Row : Type 0 where
  close bad : Row
  form : Bool → List ℕ → List (List ℕ) → Row

unfoldable pub form_row : Bool → List (List ℕ) → Row
form_row c [] = bad
form_row c (w ∷ ws) = pick (are_words (w ∷ ws)) (form c w ws) bad

unfoldable pub row_of : List ℕ → Row
row_of [] = bad
row_of (b ∷ l) = let r = strip_close l in pick (eqb b 40) (form_row r.0 (split 32 r.1)) (pick (same (b ∷ l) (41 ∷ [])) close bad)

-- ---- the opening words

-- what a form is by its opening word
pub data Form : Type 0 where
  module_form line_form to_form stmts_form run_form for_form next_form : Form
  cond_form : CondWord → Form
  bare_form : Simple → Form
  number_form : JumpWord → Form
  numbers_form : OnWord → Form

-- "The 28 opening words stand in one constant table"
unfoldable pub opening_words : List (List ℕ × Form)
opening_words =
    (bytes "module", module_form) ∷ (bytes "line", line_form) ∷ (bytes "if", cond_form if) ∷ (bytes "ifelse", cond_form ifelse) ∷ (bytes "rcomp", cond_form rcomp)
    ∷ (bytes "to", to_form) ∷ (bytes "stmts", stmts_form) ∷ (bytes "goto", number_form goto) ∷ (bytes "gosub", number_form gosub) ∷ (bytes "return", bare_form (bare return))
    ∷ (bytes "run", run_form) ∷ (bytes "ongoto", numbers_form ongoto) ∷ (bytes "ongosub", numbers_form ongosub) ∷ (bytes "for", for_form) ∷ (bytes "next", next_form)
    ∷ (bytes "repeat", bare_form (block repeat)) ∷ (bytes "loop", bare_form (block loop)) ∷ (bytes "until", bare_form (block until)) ∷ (bytes "endloop", bare_form (block endloop))
    ∷ (bytes "exit", bare_form (block exit)) ∷ (bytes "exitif", bare_form (block exitif)) ∷ (bytes "doif", bare_form (block doif)) ∷ (bytes "else", bare_form (block else)) ∷ (bytes "done", bare_form (block done))
    ∷ (bytes "clr", bare_form (bare clr)) ∷ (bytes "stop", bare_form (bare stop)) ∷ (bytes "any", bare_form (bare any)) ∷ (bytes "plain", bare_form (bare BareWord.plain)) ∷ []

unfoldable pub lookup {ℓ} : {A : Type ℓ} → List (List ℕ × A) → List ℕ → Option A
lookup [] w = none
lookup (d ∷ ds) w = pick (same d.0 w) (some d.1) (lookup ds w)

-- ---- numbers and names

-- what was read of a word or of a row's words: no form, a bad number or name, or a value
pub data Parse (A : Type 0) : Type 0 where
  malformed invalid : Parse A
  parsed : A → Parse A

-- "2 not a form allowed here", "3 number above 65535 or with a leading zero, or a word that is no name where one is due"; 0 for a value
abbrev pub refusal_of : {A : Type 0} → Parse A → ℕ
refusal_of malformed = 2
refusal_of invalid = 3
refusal_of (parsed a) = 0

unfoldable pub map_parse : {A B : Type 0} → (A → B) → Parse A → Parse B
map_parse f malformed = malformed
map_parse f invalid = invalid
map_parse f (parsed a) = parsed (f a)

-- "within it [a row], the lowest number": of two refusals the lower one
unfoldable pub with_parse : {A B C : Type 0} → (A → B → C) → Parse A → Parse B → Parse C
with_parse f malformed d = malformed
with_parse f invalid malformed = malformed
with_parse f invalid invalid = invalid
with_parse f invalid (parsed b) = invalid
with_parse f (parsed a) malformed = malformed
with_parse f (parsed a) invalid = invalid
with_parse f (parsed a) (parsed b) = parsed (f a b)

unfoldable pub is_digit : ℕ → Bool
is_digit b = leb 48 b && leb b 57

unfoldable pub is_capital : ℕ → Bool
is_capital b = leb 65 b && leb b 90

unfoldable pub value : ℕ → List ℕ → ℕ
value a [] = a
value a (d ∷ ds) = value (a * 10 + (d - 48)) ds

unfoldable pub no_leading_zero : List ℕ → Bool
no_leading_zero [] = true
no_leading_zero (d ∷ []) = true
no_leading_zero (d ∷ e ∷ ds) = not (eqb d 48)

-- "a word not all digits where a number is due is 2"; "number above 65535 or with a leading zero" is 3
unfoldable pub parse_number : List ℕ → Parse ℕ
parse_number w = pick (all is_digit w) (pick (no_leading_zero w) (pick (leb (value 0 w) 65535) (parsed (value 0 w)) invalid) invalid) malformed

unfoldable pub parse_numbers : List (List ℕ) → Parse (List ℕ)
parse_numbers [] = parsed []
parse_numbers (w ∷ ws) = with_parse (λ n ns. n ∷ ns) (parse_number w) (parse_numbers ws)

-- "A name is a capital letter, up to 7 more capitals or digits, then nothing, `%` or `$`"
unfoldable pub name_end : ℕ → List ℕ → Bool
name_end k [] = true
name_end zero (b ∷ l) = (eqb b 37 || eqb b 36) && same l []
name_end (suc k) (b ∷ l) = pick (is_capital b || is_digit b) (name_end k l) ((eqb b 37 || eqb b 36) && same l [])

unfoldable pub is_name : List ℕ → Bool
is_name [] = false
is_name (b ∷ l) = is_capital b && name_end 7 l

-- "a word that is no name where one is due" is 3
unfoldable pub parse_name : List ℕ → Parse Name
parse_name w = pick (is_name w) (parsed w) invalid

unfoldable pub parse_slot : List ℕ → Parse Slot
parse_slot w = pick (same w (42 ∷ [])) (parsed none) (map_parse some (parse_name w))

unfoldable pub parse_slots : List (List ℕ) → Parse (List Slot)
parse_slots [] = parsed []
parse_slots (w ∷ ws) = with_parse (λ s ss. s ∷ ss) (parse_slot w) (parse_slots ws)

unfoldable pub or_malformed : {A : Type 0} → Option A → Parse A
or_malformed none = malformed
or_malformed (some a) = parsed a

unfoldable pub tiers : List (List ℕ × Tier)
tiers = (bytes "static", static) ∷ (bytes "framed", framed) ∷ (bytes "dispatched", dispatched) ∷ []

unfoldable pub parse_tier : List ℕ → Parse Tier
parse_tier w = or_malformed (lookup tiers w)

unfoldable pub marks : List (List ℕ × Mark)
marks = (bytes "plain", Mark.plain) ∷ (bytes "orphan", orphan) ∷ []

unfoldable pub parse_mark : List ℕ → Parse Mark
parse_mark w = or_malformed (lookup marks w)

-- ---- forms

-- a statement with how many numbers or slots it lists
abbrev pub Counted : Type 0
Counted = Simple × ℕ

-- what a row says
pub data Content : Type 0 where
  no_form end_row stmts_row : Content
  module_row : Bool → Content
  line_row to_row : Parse ℕ → Content
  simple_row : Parse Counted → Content
  cond_row : CondWord → Content

-- `(return)`, `(repeat)`, .. `(plain)`: no further word
unfoldable pub bare_stmt : Simple → List (List ℕ) → Parse Counted
bare_stmt o [] = parsed (o, 0)
bare_stmt o (w ∷ ws) = malformed

-- exactly one word, a number
unfoldable pub single : List (List ℕ) → Parse ℕ
single [] = malformed
single (w ∷ []) = parse_number w
single (w ∷ v ∷ ws) = malformed

-- `(run)`, `(run N)`
unfoldable pub run_stmt : List (List ℕ) → Parse Counted
run_stmt [] = parsed (bare run, 0)
run_stmt (w ∷ ws) = map_parse (λ n. (jump runto n, 0)) (single (w ∷ ws))

-- `(for V T)`
unfoldable pub for_stmt : List (List ℕ) → Parse Counted
for_stmt [] = malformed
for_stmt (w ∷ []) = malformed
for_stmt (w ∷ v ∷ []) = with_parse (λ n t. (for n t, 0)) (parse_name w) (parse_tier v)
for_stmt (w ∷ v ∷ u ∷ ws) = malformed

-- `(next M S ..)`
unfoldable pub next_stmt : List (List ℕ) → Parse Counted
next_stmt [] = malformed
next_stmt (w ∷ ws) = with_parse (λ m ss. (next m ss, length ws)) (parse_mark w) (parse_slots ws)

unfoldable pub if_no_words : List (List ℕ) → Content → Content
if_no_words [] d = d
if_no_words (w ∷ ws) d = no_form

-- `(module H`: "an H other than 0 or 1" is 2
unfoldable pub handler_facts : List (List ℕ × Bool)
handler_facts = (bytes "0", false) ∷ (bytes "1", true) ∷ []

unfoldable pub module_by : Option Bool → Content
module_by none = no_form
module_by (some h) = module_row h

unfoldable pub module_content : List (List ℕ) → Content
module_content [] = no_form
module_content (w ∷ []) = module_by (lookup handler_facts w)
module_content (w ∷ v ∷ ws) = no_form

-- "A form that holds others opens on its row without its closing bracket"; every other form is closed on its row
unfoldable pub form_content : Form → Bool → List (List ℕ) → Content
form_content module_form true ws = no_form
form_content module_form false ws = module_content ws
form_content line_form true ws = no_form
form_content line_form false ws = line_row (single ws)
form_content to_form true ws = to_row (single ws)
form_content to_form false ws = no_form
form_content stmts_form true ws = no_form
form_content stmts_form false ws = if_no_words ws stmts_row
form_content (cond_form k) true ws = no_form
form_content (cond_form k) false ws = if_no_words ws (cond_row k)
form_content run_form true ws = simple_row (run_stmt ws)
form_content run_form false ws = no_form
form_content for_form true ws = simple_row (for_stmt ws)
form_content for_form false ws = no_form
form_content next_form true ws = simple_row (next_stmt ws)
form_content next_form false ws = no_form
form_content (bare_form o) true ws = simple_row (bare_stmt o ws)
form_content (bare_form o) false ws = no_form
form_content (number_form k) true ws = simple_row (map_parse (λ n. (jump k n, 0)) (single ws))
form_content (number_form k) false ws = no_form
form_content (numbers_form k) true ws = simple_row (map_parse (λ ns. (on k ns, length ws)) (parse_numbers ws))
form_content (numbers_form k) false ws = no_form

unfoldable pub word_content : Option Form → Bool → List (List ℕ) → Content
word_content none c ws = no_form
word_content (some h) c ws = form_content h c ws

unfoldable pub content_of : Row → Content
content_of bad = no_form
content_of close = end_row
content_of (form c w ws) = word_content (lookup opening_words w) c ws
