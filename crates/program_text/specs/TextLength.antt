-- The text of a saved program's listing is short: a row has so many bytes, and there are so many rows. Assumes nothing.
use Rattle.std.specs.Prelude.{ℕ, suc, ◌+◌, ◌*◌, ◌≤◌, ◌≡◌, refl, List, [], ◌∷◌, ◌++◌, map, Bool, true, false, length}
use Rattle.std.proofs.Common.{sym, ap, ◌∙◌, append_assoc, arith}
use Rattle.std.proofs.lemmas.List.{length-map}
use Rattle.std.proofs.Math.Option.{none, some}
use Rattle.std.proofs.Math.ListN.{length-append}
use Rattle.listings.specs.Bytes.{bytes, decimal}
use Rattle.listings.specs.Listing.{Tier, static, framed, dispatched, Mark, orphan, Slot, goto, gosub, runto, ongoto, ongosub, repeat, loop, until, endloop, exit, exitif, doif, else, done, BareWord, return, run, clr, stop, any, Simple, jump, on, for, next, block, bare, CondWord, if, ifelse, rcomp, BranchForm, to, stmts, absent, Stmts, ∅, ◌▸◌, branching, Lines, nolines, line, Listing, size, total, count}
use Rattle.listings.specs.Rows.{parsed, Content, end_row, stmts_row, module_row, line_row, to_row, simple_row, cond_row}
use Rattle.listings.specs.ListingText.{spaced_words, closed_form, open_form, end_form, tier_word, mark_word, slot_word, jump_word, on_word, block_word, bare_word, simple_word, simple_args, simple_text, cond_word, cond_text, handler_word, text_of, listing_text, NumberOk, listed, BranchOk, NoBranch, SecondOk, BranchesOk, StmtsOk, LinesOk, Within}
use Rattle.listings.specs.Records.{slot_key, args_of}
use Rattle.listings.specs.Every.{All, all[], all∷}
use Rattle.listings.specs.Cut.{cut_simple, cut_stmts, cut_lines, cut_listing}
use Rattle.listing_laws.specs.Contents.{text_by, row_text, branch_contents, stmt_contents, line_contents, contents}
use Rattle.graph.specs.Lists.{each}
use Rattle.formatting.specs.Digits.{tens, decimal-length}
use Rattle.graph.specs.Print.{spaced, printed_refusal}
use Rattle.program_text.specs.StmtText.{SlotPrints, Prints}
use Rattle.listings.specs.Read.{Answer, listing, refusal}
use Rattle.program_files.specs.Program.{read_program}
use Rattle.program_laws.specs.Accepted.{ProgramNumber, too_long, of_line, ended, foreign_byte, misses, program_within, program_cut, program-numbers}
use Rattle.program_laws.specs.Extent.{program_places}
use Rattle.program_text.specs.Listed.{answer_text, prglist}
use Rattle.program_text.specs.Printable.{StmtPrints, stmt_prints, lines_cut, rows_text, listing_rows_text}

-- ---- numbers

number_length : (n : ℕ) → NumberOk n → length (decimal n) ≤ 5
unfolding tens
number_length n h = decimal-length 4 n (omega arith)

-- "0 to 64" words of six bytes at most, with the space
numbers-length : {ns : List ℕ} → All NumberOk ns → length (spaced_words (map decimal ns)) ≤ 6 * length ns
unfolding spaced_words
numbers-length all[] = omega arith
numbers-length (all∷ {a = n} {l = ns} h hs) =
    simp length-append (omega (arith, number_length n h, numbers-length hs))

slots-length : {ss : List Slot} → All SlotPrints ss → length (spaced_words (map slot_word ss)) ≤ 6 * length ss
unfolding spaced_words slot_word
slots-length all[] = omega arith
slots-length (all∷ {a = none} {l = ss} h hs) = simp length-append (omega (arith, slots-length hs))
slots-length (all∷ {a = some v} {l = ss} h hs) = simp length-append (omega (arith, h.1, slots-length hs))

word_length : (o : Simple) → length (simple_word o) ≤ 7
unfolding simple_word jump_word on_word block_word bare_word bytes
word_length (jump goto n) = omega arith
word_length (jump gosub n) = omega arith
word_length (jump runto n) = omega arith
word_length (on ongoto ns) = omega arith
word_length (on ongosub ns) = omega arith
word_length (for v t) = omega arith
word_length (next m ss) = omega arith
word_length (block repeat) = omega arith
word_length (block loop) = omega arith
word_length (block until) = omega arith
word_length (block endloop) = omega arith
word_length (block exit) = omega arith
word_length (block exitif) = omega arith
word_length (block doif) = omega arith
word_length (block else) = omega arith
word_length (block done) = omega arith
word_length (bare return) = omega arith
word_length (bare run) = omega arith
word_length (bare clr) = omega arith
word_length (bare stop) = omega arith
word_length (bare any) = omega arith
word_length (bare BareWord.plain) = omega arith

tier_length : (t : Tier) → length (tier_word t) ≤ 10
unfolding tier_word bytes
tier_length static = omega arith
tier_length framed = omega arith
tier_length dispatched = omega arith

mark_length : (m : Mark) → length (mark_word m) ≤ 6
unfolding mark_word bytes
mark_length Mark.plain = omega arith
mark_length orphan = omega arith

words-length : (o : Simple) → StmtPrints o → length (spaced_words (simple_args o)) ≤ 400
unfolding spaced_words simple_args Prints args_of
words-length (jump w n) h = simp length-append (omega (arith, number_length n h.form))
words-length (on w ns) h = omega (arith, numbers-length h.form, h.few)
words-length (for v t) h = simp length-append (omega (arith, h.form.1, tier_length t))
words-length (next m ss) h = simp length-append (omega (arith, slots-length h.form, mark_length m, h.few, length-map ss slot_key))
words-length (block w) h = omega arith
words-length (bare w) h = omega arith

-- with its byte 10
simple_length : (o : Simple) → StmtPrints o → suc (length (simple_text o)) ≤ 420
unfolding simple_text closed_form
simple_length o h = simp length-append (omega (arith, word_length o, words-length o h))

text_append : (k l : List Content) → rows_text (k ++ l) ≡ rows_text k ++ rows_text l
unfolding rows_text text_of
text_append [] l = refl
text_append (d ∷ k) l = ap (λ (t : List ℕ). row_text d ++ (10 ∷ t)) (text_append k l) ∙ sym (append_assoc (row_text d) (10 ∷ rows_text k) (rows_text l))

text_length : (k l : List Content) → length (rows_text (k ++ l)) ≡ length (rows_text k) + length (rows_text l)
text_length k l = ap length (text_append k l) ∙ length-append (rows_text k) (rows_text l)

row_first : (d : Content) (ds : List Content) → length (rows_text (d ∷ ds)) ≡ length (row_text d) + 1 + length (rows_text ds)
unfolding rows_text text_of
row_first d ds = omega (arith, length-append (row_text d) (10 ∷ rows_text ds))

row_last : (d : Content) → length (rows_text (d ∷ [])) ≡ length (row_text d) + 1
unfolding rows_text text_of
row_last d = omega (arith, length-append (row_text d) (10 ∷ []))

end_length : length (row_text end_row) ≤ 1
unfolding row_text end_form
end_length = omega arith

stmts_row_length : length (row_text stmts_row) ≤ 6
unfolding row_text open_form spaced_words bytes
stmts_row_length = omega arith

cond_length : (w : CondWord) → length (row_text (cond_row w)) ≤ 7
unfolding row_text cond_text cond_word open_form spaced_words bytes
cond_length if = omega arith
cond_length ifelse = omega arith
cond_length rcomp = omega arith

to_length : (n : ℕ) → NumberOk n → length (row_text (to_row (parsed n))) ≤ 10
unfolding row_text text_by closed_form spaced_words bytes
to_length n h = simp length-append (omega (arith, number_length n h))

line_length : (n : ℕ) → NumberOk n → length (row_text (line_row (parsed n))) ≤ 11
unfolding row_text text_by open_form spaced_words bytes
line_length n h = simp length-append (omega (arith, number_length n h))

module_length : (h : Bool) → length (row_text (module_row h)) ≤ 9
unfolding row_text open_form handler_word spaced_words bytes
module_length true = omega arith
module_length false = omega arith

simple_row_length : (o : Simple) → StmtPrints o → length (row_text (simple_row (parsed (o, listed o)))) + 1 ≤ 420
unfolding row_text text_by
simple_row_length o h = omega (arith, simple_length o h)

-- a branch's line number is in form
IfTo : BranchForm → Type 0
IfTo (to n) = NumberOk n
IfTo stmts = Unit {0}
IfTo absent = Unit {0}

branch_to : (t : BranchForm) (a : Stmts) → BranchOk t a → IfTo t
unfolding BranchOk IfTo
branch_to (to n) a h = h.0
branch_to stmts a h = tt
branch_to absent a h = tt

no_branch_to : (t : BranchForm) (a : Stmts) → NoBranch t a → IfTo t
unfolding NoBranch IfTo
no_branch_to (to n) a h = absurd h
no_branch_to stmts a h = tt
no_branch_to absent a h = tt

second_to : (t : BranchForm) (a : Stmts) → SecondOk t a → IfTo t
unfolding SecondOk IfTo
second_to (to n) a h = h.0
second_to stmts a h = tt
second_to absent a h = tt

none_text : length (rows_text []) ≤ 0
unfolding rows_text text_of
none_text = omega arith

branches_to : (w : CondWord) (t : BranchForm) (a : Stmts) (u : BranchForm) (b : Stmts) → BranchesOk w t a u b → IfTo t × IfTo u
unfolding BranchesOk
branches_to if t a u b h = (branch_to t a h.0, no_branch_to u b h.1)
branches_to ifelse t a u b h = (branch_to t a h.0, branch_to u b h.1)
branches_to rcomp t a u b h = (branch_to t a h.0, second_to u b h.1)

branch-length : (t : BranchForm) (ds : List Content) → IfTo t → length (rows_text (branch_contents t ds)) ≤ length (rows_text ds) + 11
unfolding branch_contents IfTo
branch-length (to n) ds h = omega (arith, row_last (to_row (parsed n)), to_length n h)
branch-length stmts ds h = omega (arith, row_first stmts_row (ds ++ (end_row ∷ [])), stmts_row_length, text_length ds (end_row ∷ []), row_last end_row, end_length)
branch-length absent ds h = omega (arith, none_text)

stmts_length : (d : ℕ) (s : Stmts) → StmtsOk d s → cut_stmts s ≡ s → length (rows_text (stmt_contents s)) ≤ 420 * size s
unfolding StmtsOk cut_stmts stmt_contents size
stmts_length d ∅ h e = omega (arith, none_text)
stmts_length d (s ▸ o) h e =
    let f : cut_stmts s ≡ s = cc in
    let g : cut_simple o ≡ o = cc in
    let r = simple_row (parsed (o, listed o)) in
    omega (arith, stmts_length d s h.0 f, text_length (stmt_contents s) (r ∷ []), row_last r, simple_row_length o (stmt_prints o h.2 h.3 g))
stmts_length d (branching s w t a u b) h e =
    let f : cut_stmts s ≡ s = cc in
    let g : cut_stmts a ≡ a = cc in
    let k : cut_stmts b ≡ b = cc in
    let x = branch_contents t (stmt_contents a) in
    let y = branch_contents u (stmt_contents b) in
    let q = branches_to w t a u b h.2 in
    omega (
      arith,
      stmts_length d s h.0 f,
      stmts_length (suc d) a h.3 g,
      stmts_length (suc d) b h.4 k,
      text_length (stmt_contents s) (cond_row w ∷ (x ++ (y ++ (end_row ∷ [])))),
      row_first (cond_row w) (x ++ (y ++ (end_row ∷ []))),
      cond_length w,
      text_length x (y ++ (end_row ∷ [])),
      text_length y (end_row ∷ []),
      row_last end_row,
      end_length,
      branch-length t (stmt_contents a) q.0,
      branch-length u (stmt_contents b) q.1,
    )

lines_length : (ls : Lines) → LinesOk ls → cut_lines ls ≡ ls → length (rows_text (line_contents ls)) ≤ 420 * total ls + 16 * count ls
unfolding LinesOk cut_lines line_contents total count
lines_length nolines h e = omega (arith, none_text)
lines_length (line ls n s) h e =
    let f : cut_lines ls ≡ ls = cc in
    let g : cut_stmts s ≡ s = cc in
    let r = line_row (parsed n) in
    omega (
      arith,
      lines_length ls h.0 f,
      stmts_length 0 s h.3 g,
      text_length (line_contents ls) (r ∷ (stmt_contents s ++ (end_row ∷ []))),
      row_first r (stmt_contents s ++ (end_row ∷ [])),
      line_length n h.1,
      text_length (stmt_contents s) (end_row ∷ []),
      row_last end_row,
      end_length,
    )

-- ---- the whole text

-- a listing within the limits whose names are cut has a text of so many bytes at most
listing_length : (L : Listing) → Within L → cut_listing L ≡ L → length (listing_text L) ≤ 1736724
unfolding contents
listing_length L h e =
    omega (
      arith,
      ap length (listing_rows_text L),
      row_first (module_row L.handlers) (line_contents L.lines ++ (end_row ∷ [])),
      module_length L.handlers,
      text_length (line_contents L.lines) (end_row ∷ []),
      row_last end_row,
      end_length,
      lines_length L.lines h.lines (lines_cut L e),
      h.line_count,
      h.stmt_count,
    )

number_small : {n : ℕ} → ProgramNumber n → n ≤ 35
number_small too_long = omega arith
number_small (of_line h) = omega arith
number_small ended = omega arith
number_small foreign_byte = omega arith
number_small misses = omega arith

refusal_length : (n p : ℕ) → n ≤ 35 → p ≤ 65537 → length (printed_refusal n p) ≤ 1736724
unfolding printed_refusal spaced each bytes tens
refusal_length n p hn hp = simp length-append (omega (arith, decimal-length 4 n (omega arith), decimal-length 4 p (omega arith)))

-- by these bounds 1,736,724 bytes, whatever the file
pub prglist-length : (f : List ℕ) → length (prglist f) ≤ 1736724
unfolding prglist answer_text
prglist-length f = go (read_program f) refl
  where
    go : (a : Answer) → read_program f ≡ a → length (answer_text a) ≤ 1736724
    go (listing L) e = listing_length L (program_within f L e) (program_cut f L e)
    go (refusal n p) e = refusal_length n p (number_small (program-numbers f n p e)) (program_places f n p e)
