-- The rows of what a saved program means, as they can be printed: names cut, 64 arguments at most. Assumes nothing.
use Rattle.std.specs.Prelude.{ℕ, suc, ◌≤◌, ◌≡◌, List, [], ◌∷◌, ◌++◌, map, length}
use Rattle.std.proofs.Common.{sym, ap, append_assoc, arith}
use Rattle.std.proofs.lemmas.List.{length-map}
use Rattle.std.proofs.Math.Option.{none, some}
use Rattle.listings.specs.Listing.{Slot, Simple, jump, on, for, next, block, bare, BranchForm, to, stmts, absent, Stmts, ∅, ◌▸◌, branching, Lines, nolines, line, Listing}
use Rattle.listings.specs.Rows.{parsed, Content, no_form, end_row, stmts_row, module_row, line_row, to_row, simple_row, cond_row}
use Rattle.listings.specs.ListingText.{text_of, listing_text, NumberOk, NumbersOk, SlotsOk, listed, SimpleOk, StmtsOk, LinesOk}
use Rattle.listings.specs.Records.{slot_key, args_of}
use Rattle.listings.specs.Every.{All, all[], all∷, all_append}
use Rattle.listings.specs.Cut.{cut_name, cut_slot, cut_simple, cut_stmts, cut_lines, cut_listing}
use Rattle.listing_laws.specs.Contents.{IsParsed, row_text, branch_contents, stmt_contents, line_contents, contents, listing_rows_lem}
use Rattle.program_text.specs.KeyText.{name_prints}
use Rattle.program_text.specs.StmtText.{SlotPrints, Prints}

-- ---- statements

pub record StmtPrints (o : Simple) : Type 0 where
  pub form : Prints o
  pub few : length (args_of o) ≤ 64

numbers_print : (ns : List ℕ) → NumbersOk ns → All NumberOk ns
unfolding NumbersOk
numbers_print [] h = all[]
numbers_print (n ∷ ns) h = all∷ h.0 (numbers_print ns h.1)

slots_print : (ss : List Slot) → SlotsOk ss → map cut_slot ss ≡ ss → All SlotPrints ss
unfolding SlotsOk cut_slot
slots_print [] h e = all[]
slots_print (none ∷ ss) h e = let f : map cut_slot ss ≡ ss = cc in all∷ {a = none} tt (slots_print ss h f)
slots_print (some v ∷ ss) h e =
    let f : map cut_slot ss ≡ ss = cc in
    let g : cut_name v ≡ v = cc in
    all∷ {a = some v} (name_prints v h.0 g) (slots_print ss h.1 f)

-- in form and cut
pub stmt_prints : (o : Simple) → SimpleOk o → listed o ≤ 64 → cut_simple o ≡ o → StmtPrints o
unfolding SimpleOk listed cut_simple Prints args_of
stmt_prints (jump w n) h k e = record { form = h; few = omega arith }
stmt_prints (on w ns) h k e = record { form = numbers_print ns h; few = k }
stmt_prints (for v t) h k e = let g : cut_name v ≡ v = cc in record { form = name_prints v h g; few = omega arith }
stmt_prints (next m ss) h k e =
    let g : map cut_slot ss ≡ ss = cc in record { form = slots_print ss h g; few = omega (arith, length-map ss slot_key) }
stmt_prints (block w) h k e = record { form = tt; few = omega arith }
stmt_prints (bare w) h k e = record { form = tt; few = omega arith }

-- ---- rows

unfoldable pub Printable : Content → Type 0
Printable no_form = Unit {0}
Printable end_row = Unit {0}
Printable stmts_row = Unit {0}
Printable (module_row h) = Unit {0}
Printable (line_row g) = Unit {0}
Printable (to_row g) = Unit {0}
Printable (simple_row g) = IsParsed (λ d. StmtPrints d.0) g
Printable (cond_row k) = Unit {0}

branch_prints : (t : BranchForm) {ds : List Content} → All Printable ds → All Printable (branch_contents t ds)
unfolding branch_contents Printable
branch_prints (to n) h = all∷ {a = to_row (parsed n)} tt all[]
branch_prints stmts h = all∷ {a = stmts_row} tt (all_append h (all∷ {a = end_row} tt all[]))
branch_prints absent h = all[]

stmts_print : (d : ℕ) (s : Stmts) → StmtsOk d s → cut_stmts s ≡ s → All Printable (stmt_contents s)
unfolding StmtsOk cut_stmts stmt_contents Printable IsParsed
stmts_print d ∅ h e = all[]
stmts_print d (s ▸ o) h e =
    let f : cut_stmts s ≡ s = cc in
    let g : cut_simple o ≡ o = cc in
    all_append (stmts_print d s h.0 f) (all∷ {a = simple_row (parsed (o, listed o))} (stmt_prints o h.2 h.3 g) all[])
stmts_print d (branching s w t a u b) h e =
    let f : cut_stmts s ≡ s = cc in
    let g : cut_stmts a ≡ a = cc in
    let k : cut_stmts b ≡ b = cc in
    all_append (stmts_print d s h.0 f)
    (all∷ {a = cond_row w} tt
    (all_append (branch_prints t (stmts_print (suc d) a h.3 g)) (all_append (branch_prints u (stmts_print (suc d) b h.4 k)) (all∷ {a = end_row} tt all[]))))

lines_print : (ls : Lines) → LinesOk ls → cut_lines ls ≡ ls → All Printable (line_contents ls)
unfolding LinesOk cut_lines line_contents Printable
lines_print nolines h e = all[]
lines_print (line ls n s) h e =
    let f : cut_lines ls ≡ ls = cc in
    let g : cut_stmts s ≡ s = cc in
    all_append (lines_print ls h.0 f) (all∷ {a = line_row (parsed n)} tt (all_append (stmts_print 0 s h.3 g) (all∷ {a = end_row} tt all[])))

pub lines_cut : (L : Listing) → cut_listing L ≡ L → cut_lines L.lines ≡ L.lines
unfolding cut_listing
lines_cut L e = ap (λ (K : Listing). K.lines) e

pub listing_prints : (L : Listing) → LinesOk L.lines → cut_listing L ≡ L → All Printable (contents L)
unfolding contents Printable
listing_prints L h e = all∷ {a = module_row L.handlers} tt (all_append (lines_print L.lines h (lines_cut L e)) (all∷ {a = end_row} tt all[]))

-- ---- their text

unfoldable pub rows_text : List Content → List ℕ
rows_text ds = text_of (map row_text ds)

pub rows_text_more : (d : Content) (ds : List Content) → rows_text (d ∷ ds) ≡ (row_text d ++ (10 ∷ [])) ++ rows_text ds
unfolding rows_text text_of
rows_text_more d ds = sym (append_assoc (row_text d) (10 ∷ []) (text_of (map row_text ds)))

pub listing_rows_text : (L : Listing) → listing_text L ≡ rows_text (contents L)
unfolding listing_text rows_text
listing_rows_text L = ap text_of (listing_rows_lem L)
