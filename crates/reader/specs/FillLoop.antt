-- The text's loop that writes: the loop over what the text's rows say. Assumes nothing.
use Rattle.std.specs.Prelude.{◌≡◌, refl, ℕ, ◌<◌, length}
use Rattle.std.proofs.Common.{sym, ap, ◌∙◌, not-suc-le-zero, arith, length-append}
use Rattle.std.proofs.Math.Path.{subst}
use mathlib.Core.List.{List, [], ◌∷◌, ◌++◌, map}
use Rattle.listings.specs.Listing.{Listing}
use Rattle.listings.specs.Rows.{split, Content, content_of, row_of}
use Rattle.listings.specs.Read.{Answer, Reading, start, listing, read}
use Rattle.listings.specs.ListingText.{listing_rows, listing_text}
use Rattle.listing_laws.specs.RowForms.{split_text}
use Rattle.listing_laws.specs.Contents.{row_text, content_says, contents, listing_rows_lem}
use Rattle.listing_laws.specs.RowsTaken.{Steps, rest, row, Leads, listing_steps, listing_taken}
use Rattle.listing_laws.specs.RoundTrip.{accepted_in_form}
use Rattle.listings.specs.Cut.{cut_listing, meant}
use Rattle.listing_laws.specs.CutLaws.{meant-written, meant_within, cut_content, contents_cut}
use Rattle.listings.specs.Scan.{split-some}
use Rattle.listings.specs.Records.{line_recs, line_numbers}
use Rattle.reader.specs.Machine.{State, as_state}
use Rattle.reader.specs.Fill.{outside_walk}
use Rattle.reader.specs.Holds.{Holds}
use Rattle.reader.specs.FillSteps.{Fills}
use Rattle.reader.specs.Filling.{Accepts, Zeroed, filled_start, filled_end}
use Rattle.reader.specs.declared.fill.Walk.{Walk}

-- ---- what the rows say

-- the pieces of a text by byte 10: each but the last is a row; what it says is written with its names cut
unfoldable pub rows_in : List (List ℕ) → List Content
rows_in [] = []
rows_in (w ∷ []) = []
rows_in (w ∷ v ∷ ws) = cut_content (content_of (row_of w)) ∷ rows_in (v ∷ ws)

rows-first : (w : List ℕ) (ws : List (List ℕ)) → 0 < length ws → rows_in (w ∷ ws) ≡ cut_content (content_of (row_of w)) ∷ rows_in ws
unfolding rows_in
rows-first w [] h = absurd (not-suc-le-zero h)
rows-first w (v ∷ ws) h = refl

-- rows that say these contents
rows_say : {r q : Reading} {ds : List Content} → Steps r ds q → rows_in (map row_text ds ++ ([] ∷ [])) ≡ map cut_content ds
unfolding rows_in
rows_say rest = refl
rows_say (row {d = d} {ds = ds} o e h) =
    rows-first (row_text d) (map row_text ds ++ ([] ∷ [])) (simp length-append (omega arith))
    ∙ ap (λ (c : Content). cut_content c ∷ rows_in (map row_text ds ++ ([] ∷ []))) (content_says d o).0 ∙ ap (λ (l : List Content). cut_content d ∷ l) (rows_say h)

-- the rows of an accepted text say what those of the listing that it means do
text_says : (text : List ℕ) (W : Listing) → read text ≡ listing W → rows_in (split 10 text) ≡ contents (cut_listing W)
unfolding listing_text
text_says text W e =
    let f = accepted_in_form text W e in
    ap (λ (t : List ℕ). rows_in (split 10 t)) f.1 ∙ ap rows_in (split_text (listing_rows W) (listing_taken W f.0.within).0)
    ∙ ap (λ (rs : List (List ℕ)). rows_in (rs ++ ([] ∷ []))) (listing_rows_lem W) ∙ rows_say (listing_steps W f.0.within).steps ∙ sym (contents_cut W)

-- so they lead to it
rows_lead : (text : List ℕ) (L : Listing) → meant text ≡ listing L → Leads start (rows_in (split 10 text)) L
rows_lead text L e =
    let w = meant-written text L e in
    subst (λ (ds : List Content). Leads start ds L) (sym (text_says text w.written w.reads ∙ ap contents (sym w.cut))) (listing_steps L (meant_within text L e))

-- ---- the loop

pub zeroed_start : (text n t a : List ℕ) (z : Zeroed (meant text) n t a) (s : State) (w : Walk) → s ≡ as_state start → w ≡ outside_walk
    → Fills z.accepts.tree (length n) (length t) (length a) (rows_in (split 10 text)) s w n t a
zeroed_start text n t a z s w e k = filled_start z (rows_in (split 10 text)) (rows_lead text z.accepts.tree z.accepts.reads) s w e k

module _ {nl ns na : ℕ} {s : State} {w : Walk} {n t a : List ℕ} (left : List ℕ) where
  -- the text ends
  pub text_ends : {q : Answer} (g : Accepts q nl ns na) → Fills g.tree nl ns na (rows_in (split 10 left)) s w n t a → split 10 left ≡ left ∷ []
      → (L : Listing) → q ≡ listing L → Holds (line_numbers L.lines) (line_recs L.lines) nl ns na n t a
  unfolding rows_in
  text_ends g f h = filled_end g (subst (λ (ws : List (List ℕ)). Fills g.tree nl ns na (rows_in ws) s w n t a) h f)

  -- one more row
  pub text_goes_on : {L : Listing} (v more : List ℕ) → split 10 left ≡ v ∷ split 10 more → Fills L nl ns na (rows_in (split 10 left)) s w n t a
      → Fills L nl ns na (cut_content (content_of (row_of v)) ∷ rows_in (split 10 more)) s w n t a
  text_goes_on {L} v more h f = subst (λ (ds : List Content). Fills L nl ns na ds s w n t a) (ap rows_in h ∙ rows-first v (split 10 more) (split-some 10 more)) f
