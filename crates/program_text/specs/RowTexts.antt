-- The rows of a file, put one after the other. Assumes nothing.
use Rattle.std.specs.Prelude.{Result, Ok, Err, ℕ, false, ◌<◌, ◌≡◌, refl, List, [], ◌∷◌, ◌++◌, length, take}
use Rattle.std.proofs.Common.{sym, ap, ◌∙◌, subst, append_assoc, append-nil, arith}
use Rattle.listings.specs.Bytes.{bytes, decimal}
use Rattle.listings.specs.Listing.{if, Listing}
use Rattle.listings.specs.Read.{Answer, listing, refusal}
use Rattle.listings.specs.ListingText.{closed_form, open_form, end_form, handler_word, cond_text, cond_word, spaced_words, text_of}
use Rattle.listings.specs.Rows.{parsed, Content, end_row, stmts_row, module_row, line_row, to_row, cond_row}
use Rattle.listings.specs.Records.{args_of}
use Rattle.listings.specs.Every.{All, all∷}
use Rattle.listing_laws.specs.Contents.{IsParsed, text_by, row_text}
use Rattle.formatting.specs.Pages.{Wrote, wrote_none, wrote_both, wrote_is}
use Rattle.formatting.specs.declared.page.Page.{Page}
use Rattle.graph.specs.Print.{printed_refusal}
use Rattle.program_files.specs.Program.{read_program}
use Rattle.program_laws.specs.Accepted.{program_within, program_cut}
use Rattle.basic.specs.Judge.{judged_of, told_of}
use Rattle.basic.specs.Rows.{lines_at, contents_from, SimpleIs, RowIs, First}
use Rattle.basic.specs.RowLaws.{args_stand}
use Rattle.basic.specs.RowsAre.{rows_are_lem}
use Rattle.basic.specs.declared.judge.Counts.{Counts}
use Rattle.layout.specs.Refusals.{number_of}
use Rattle.layout.specs.declared.refusals.Refusal.{Refusal}
use Rattle.basic.specs.declared.sources.Source.{Source}
use Rattle.basic.specs.declared.sources.Simple.{Simple}
use Rattle.basic.specs.declared.sources.FileRow.{FileRow}
use Rattle.basic.specs.declared.sources.FileRow.TheVariants as row
use Rattle.basic.specs.declared.sources.Sourced.{Sourced}
use Rattle.program_text.specs.Listed.{answer_text, prglist}
use Rattle.program_text.specs.StmtText.{stmt_text, stmt_text_lem}
use Rattle.program_text.specs.Printable.{StmtPrints, Printable, rows_text, rows_text_more, listing_rows_text, listing_prints}

-- a row, and the byte 10 that ends it
abbrev pub ended : Content → List ℕ
ended d = row_text d ++ (10 ∷ [])

-- the row of content d, put where it can be
-- t: the part that holds a statement's arguments, z before they were put
abbrev pub WroteRow : List ℕ → FileRow → Page → Page → Type 0
WroteRow t w p p' = (z : List ℕ) (d : Content) → length z ≡ 64 → RowIs z t d w → Printable d → Wrote p p' (ended d)

abbrev pub WroteSimple : List ℕ → Simple → Page → Page → Type 0
WroteSimple t s p p' = (z : List ℕ) (d : Content) → length z ≡ 64 → SimpleIs z t d s → Printable d → Wrote p p' (ended d)

-- ---- the rows of one number or none

abbrev pub numbered_text : List ℕ → ℕ → List ℕ → List ℕ
numbered_text w n l = (w ++ (32 ∷ decimal n)) ++ l

module_text_lem : bytes "(module 0\n" ≡ ended (module_row false)
unfolding bytes row_text open_form handler_word spaced_words
module_text_lem = refl

if_text : bytes "(if\n" ≡ ended (cond_row if)
unfolding bytes row_text cond_text cond_word open_form spaced_words
if_text = refl

stmts_text_lem : bytes "(stmts\n" ≡ ended stmts_row
unfolding bytes row_text open_form spaced_words
stmts_text_lem = refl

end_text : bytes ")\n" ≡ ended end_row
unfolding bytes row_text end_form
end_text = refl

line_text_lem : (n : ℕ) → numbered_text (bytes "(line") n (bytes "\n") ≡ ended (line_row (parsed n))
unfolding bytes row_text text_by open_form spaced_words
line_text_lem n = simp (append-nil, append_assoc)

to_text_lem : (n : ℕ) → numbered_text (bytes "(to") n (bytes ")\n") ≡ ended (to_row (parsed n))
unfolding bytes row_text text_by closed_form spaced_words
to_text_lem n = regroup (bytes "(to") (decimal n) (bytes ")") (bytes "\n")
  where
    regroup : (w m x y : List ℕ) → (w ++ (32 ∷ m)) ++ (x ++ y) ≡ (w ++ (32 ∷ ((m ++ []) ++ x))) ++ y
    regroup w m x y = simp (append-nil, append_assoc)

-- ---- a statement's row

module _ (t : List ℕ) (r : Simple) where
  stmt_prints : {z : List ℕ} (d : Content) (s : SimpleIs z t d r) → Printable d → StmtPrints s.simple
  unfolding Printable IsParsed
  stmt_prints d s h = rw s.content at h

  pub too_many_lem : {p : Page} → 64 < r.count → WroteSimple t r p p
  too_many_lem g = λ z d e s h. absurd (omega (arith, s.count, (stmt_prints d s h).few))

  row_is_lem : {z : List ℕ} (d : Content) (s : SimpleIs z t d r) → Printable d → stmt_text r.word (args_of s.simple) ≡ ended d
  unfolding row_text text_by
  row_is_lem d s h =
      ap (λ (k : ℕ). stmt_text k (args_of s.simple)) s.word ∙ sym (stmt_text_lem s.simple (stmt_prints d s h).form s.detail) ∙ ap ended (sym s.content)

  pub wrote_simple : {p p' : Page} → Wrote p p' (stmt_text r.word (take r.count t)) → WroteSimple t r p p'
  wrote_simple p = λ z d e s h. wrote_is (ap (stmt_text r.word) (args_stand s (omega (arith, e, (stmt_prints d s h).few))) ∙ row_is_lem d s h) p

-- ---- any row

module _ (t : List ℕ) {q q' : Page} (w : FileRow) where
  pub wrote_module : w ≡ row.Module → Wrote q q' (bytes "(module 0\n") → WroteRow t w q q'
  wrote_module e p = λ z d l h g. wrote_is (module_text_lem ∙ ap ended (sym (subst (RowIs z t d) e h))) p

  pub wrote_line : (n : ℕ) → w ≡ row.Line n → Wrote q q' (numbered_text (bytes "(line") n (bytes "\n")) → WroteRow t w q q'
  wrote_line n e p = λ z d l h g. wrote_is (line_text_lem n ∙ ap ended (sym (subst (RowIs z t d) e h))) p

  pub wrote_if : w ≡ row.If → Wrote q q' (bytes "(if\n") → WroteRow t w q q'
  wrote_if e p = λ z d l h g. wrote_is (if_text ∙ ap ended (sym (subst (RowIs z t d) e h))) p

  pub wrote_to : (n : ℕ) → w ≡ row.To n → Wrote q q' (numbered_text (bytes "(to") n (bytes ")\n")) → WroteRow t w q q'
  wrote_to n e p = λ z d l h g. wrote_is (to_text_lem n ∙ ap ended (sym (subst (RowIs z t d) e h))) p

  pub wrote_stmts : w ≡ row.Stmts → Wrote q q' (bytes "(stmts\n") → WroteRow t w q q'
  wrote_stmts e p = λ z d l h g. wrote_is (stmts_text_lem ∙ ap ended (sym (subst (RowIs z t d) e h))) p

  pub wrote_end : w ≡ row.End → Wrote q q' (bytes ")\n") → WroteRow t w q q'
  wrote_end e p = λ z d l h g. wrote_is (end_text ∙ ap ended (sym (subst (RowIs z t d) e h))) p

-- ---- row after row

first_of_lem : {P : Content → Type 0} {d : Content} {ds : List Content} → All P (d ∷ ds) → P d
first_of_lem (all∷ h hs) = h

others_of : {P : Content → Type 0} {d : Content} {ds : List Content} → All P (d ∷ ds) → All P ds
others_of (all∷ h hs) = hs

-- what was put and what is due from s on are the rows ds
pub record Going (f : List ℕ) (ds : List Content) (s : Source) (p p' : Page) : Type 0 where
  pub done : List ℕ
  pub wrote : Wrote p p' done
  pub whole : done ++ rows_text (contents_from f s) ≡ rows_text ds
  pub good : All Printable (contents_from f s)

module _ (f : List ℕ) (ds : List Content) (s : Source) (p : Page) where
  pub going_start : contents_from f s ≡ ds → All Printable ds → Going f ds s p p
  going_start e h = record { done = []; wrote = wrote_none p; whole = ap rows_text e; good = subst (All Printable) (sym e) h }

  pub going_on : {z z' : List ℕ} (q q' : Page) (t : Sourced) → length z ≡ 64 → Going f ds s p q → First f z z' s t → WroteRow z' t.row q q' → Going f ds t.next p q'
  going_on {z} q q' t l g h w =
      let good : All Printable (h.content ∷ contents_from f t.next) = subst (All Printable) h.behind g.good in
      record {
        done = g.done ++ ended h.content;
        wrote = wrote_both g.wrote (w z h.content l h.says (first_of_lem good));
        whole =
            append_assoc g.done (ended h.content) (rows_text (contents_from f t.next))
            ∙ ap (λ (l : List ℕ). g.done ++ l) (sym (rows_text_more h.content (contents_from f t.next)) ∙ ap rows_text (sym h.behind)) ∙ g.whole;
        good = others_of good;
      }

  pub going_less : {z z' : List ℕ} (t : Sourced) → First f z z' s t → length (contents_from f t.next) < length (contents_from f s)
  going_less t h = omega (arith, ap length h.behind)

  pub going_end : (q : Page) → Going f ds s p q → contents_from f s ≡ [] → Wrote p q (rows_text ds)
  unfolding rows_text text_of
  going_end q g e = wrote_is (sym (append-nil g.done) ∙ ap (λ (l : List Content). g.done ++ rows_text l) (sym e) ∙ g.whole) g.wrote

-- ---- the whole file

module _ (f : List ℕ) (j : Result Counts Refusal) (told : told_of j ≡ judged_of (read_program f)) where
  accepted : (n : Counts) → j ≡ Ok n → (L : Listing) × (read_program f ≡ listing L)
  unfolding judged_of
  accepted n e = go (read_program f) refl (sym told ∙ ap told_of e)
    where
      go : (a : Answer) → read_program f ≡ a → judged_of a ≡ told_of (Ok n) → (L : Listing) × (read_program f ≡ listing L)
      go (listing L) h i = (L, h)
      go (refusal k p) h i = absurd (cc)

  pub accepted_prints : (n : Counts) → j ≡ Ok n → All Printable (module_row false ∷ lines_at f 2)
  accepted_prints n e =
      let a = accepted n e in
      subst (All Printable) (sym (rows_are_lem f a.0 a.1)) (listing_prints a.0 (program_within f a.0 a.1).lines (program_cut f a.0 a.1))

  pub accepted_text : (n : Counts) → j ≡ Ok n → rows_text (module_row false ∷ lines_at f 2) ≡ prglist f
  unfolding prglist answer_text
  accepted_text n e =
      let a = accepted n e in
      ap rows_text (rows_are_lem f a.0 a.1) ∙ sym (listing_rows_text a.0) ∙ ap answer_text (sym a.1)

  pub refused_text : (r : Refusal) → j ≡ Err r → printed_refusal (number_of r.reason) r.place ≡ prglist f
  unfolding prglist answer_text judged_of
  refused_text r e = go (read_program f) (sym told ∙ ap told_of e)
    where
      go : (a : Answer) → judged_of a ≡ told_of (Err r) → printed_refusal (number_of r.reason) r.place ≡ answer_text a
      go (listing L) i = absurd (cc)
      go (refusal k q) i = let x : k ≡ number_of r.reason = cc in let y : q ≡ r.place = cc in rw (x, y)
