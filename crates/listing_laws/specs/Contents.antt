-- What the rows of a listing say, whatever it was read from, and the row that says each. Assumes nothing.
use Rattle.std.specs.Prelude.{ℕ, ◌≡◌, refl, List, [], ◌∷◌, ◌++◌, map}
use Rattle.std.proofs.Common.{sym, ap, ◌∙◌, subst}
use Rattle.std.proofs.lemmas.List.{map-append}
use Rattle.listings.specs.Listing.{BranchForm, to, stmts, absent, Stmts, ∅, ◌▸◌, branching, Lines, nolines, line, Listing}
use Rattle.listings.specs.Rows.{Parse, malformed, invalid, parsed, Counted, Content, no_form, end_row, stmts_row, module_row, line_row, to_row, simple_row, cond_row}
use Rattle.listings.specs.ListingText.{end_form, simple_text, cond_text, stmts_text, to_text, line_text, module_text, branch_rows, stmt_rows, rows_of_lines, listing_rows, NumberOk, SimpleOk, listed}
use Rattle.listing_laws.specs.RowText.{Says, ContentText, content_text, simple_row_lem, simple_newline, cond_row_lem, cond_newline, end_row_lem, end_newline, stmts_row_lem, stmts_newline, to_row_lem, to_newline, line_row_lem, line_newline, module_row_lem, module_newline}

-- ---- contents in form

unfoldable pub IsParsed : {A : Type 0} → (A → Type 0) → Parse A → Type 0
IsParsed P malformed = ⊥
IsParsed P invalid = ⊥
IsParsed P (parsed a) = P a

-- numbers and names in form, and as many of them listed as it says
abbrev pub CountedOk : Counted → Type 0
CountedOk d = SimpleOk d.0 × (d.1 ≡ listed d.0)

unfoldable pub ContentOk : Content → Type 0
ContentOk no_form = ⊥
ContentOk end_row = Unit {0}
ContentOk stmts_row = Unit {0}
ContentOk (module_row h) = Unit {0}
ContentOk (line_row g) = IsParsed NumberOk g
ContentOk (to_row g) = IsParsed NumberOk g
ContentOk (simple_row g) = IsParsed CountedOk g
ContentOk (cond_row k) = Unit {0}

-- the row of what was parsed
unfoldable pub text_by : {A : Type 0} → (A → List ℕ) → Parse A → List ℕ
text_by f malformed = []
text_by f invalid = []
text_by f (parsed a) = f a

unfoldable pub row_text : Content → List ℕ
row_text no_form = []
row_text end_row = end_form
row_text stmts_row = stmts_text
row_text (module_row h) = module_text h
row_text (line_row g) = text_by line_text g
row_text (to_row g) = text_by to_text g
row_text (simple_row g) = text_by (λ d. simple_text d.0) g
row_text (cond_row k) = cond_text k

pub content_says : (d : Content) → ContentOk d → Says (row_text d) d
unfolding ContentOk IsParsed row_text text_by
content_says no_form h = absurd h
content_says end_row h = (end_row_lem, end_newline)
content_says stmts_row h = (stmts_row_lem, stmts_newline)
content_says (module_row b) h = (module_row_lem b, module_newline b)
content_says (line_row malformed) h = absurd h
content_says (line_row invalid) h = absurd h
content_says (line_row (parsed n)) h = (line_row_lem n h, line_newline n)
content_says (to_row malformed) h = absurd h
content_says (to_row invalid) h = absurd h
content_says (to_row (parsed n)) h = (to_row_lem n h, to_newline n)
content_says (simple_row malformed) h = absurd h
content_says (simple_row invalid) h = absurd h
content_says (simple_row (parsed d)) h = (simple_row_lem d.0 h.0 ∙ ap (λ (n : ℕ). simple_row (parsed (d.0, n))) (sym h.1), simple_newline d.0 h.0)
content_says (cond_row k) h = (cond_row_lem k, cond_newline k)

pub content_row : (d : Content) → ContentOk d → ContentText (row_text d) d
content_row d h = subst (ContentText (row_text d)) (content_says d h).0 (content_text (row_text d))

-- ---- the contents of a listing

-- of a branch, of whose statements these are the contents
unfoldable pub branch_contents : BranchForm → List Content → List Content
branch_contents (to n) ds = to_row (parsed n) ∷ []
branch_contents stmts ds = stmts_row ∷ (ds ++ (end_row ∷ []))
branch_contents absent ds = []

unfoldable pub stmt_contents : Stmts → List Content
stmt_contents ∅ = []
stmt_contents (s ▸ o) = stmt_contents s ++ (simple_row (parsed (o, listed o)) ∷ [])
stmt_contents (branching s w t a u b) = stmt_contents s ++ (cond_row w ∷ (branch_contents t (stmt_contents a) ++ (branch_contents u (stmt_contents b) ++ (end_row ∷ []))))

unfoldable pub line_contents : Lines → List Content
line_contents nolines = []
line_contents (line ls n s) = line_contents ls ++ (line_row (parsed n) ∷ (stmt_contents s ++ (end_row ∷ [])))

unfoldable pub contents : Listing → List Content
contents L = module_row L.handlers ∷ (line_contents L.lines ++ (end_row ∷ []))

-- ---- its rows say them

branch-rows : (t : BranchForm) (ds : List Content) → branch_rows t (map row_text ds) ≡ map row_text (branch_contents t ds)
unfolding branch_rows branch_contents row_text text_by
branch-rows (to n) ds = refl
branch-rows stmts ds = rw (map-append row_text ds (end_row ∷ []))
branch-rows absent ds = refl

stmt_rows_lem : (s : Stmts) → stmt_rows s ≡ map row_text (stmt_contents s)
unfolding stmt_rows stmt_contents row_text text_by
stmt_rows_lem ∅ = refl
stmt_rows_lem (s ▸ o) = ap (λ (l : List (List ℕ)). l ++ (simple_text o ∷ [])) (stmt_rows_lem s) ∙ sym (map-append row_text (stmt_contents s) _)
stmt_rows_lem (branching s w t a u b) = rw (stmt_rows_lem s, stmt_rows_lem a, stmt_rows_lem b) (simp (branch-rows, map-append))

rows_of_lines_lem : (ls : Lines) → rows_of_lines ls ≡ map row_text (line_contents ls)
unfolding rows_of_lines line_contents row_text text_by
rows_of_lines_lem nolines = refl
rows_of_lines_lem (line ls n s) = rw (rows_of_lines_lem ls, stmt_rows_lem s) (simp map-append)

pub listing_rows_lem : (L : Listing) → listing_rows L ≡ map row_text (contents L)
unfolding listing_rows contents row_text
listing_rows_lem L = rw (rows_of_lines_lem L.lines) (simp map-append)
