-- In form is accepted, and whatever is accepted is the text of a listing in form. Assumes nothing.
use Rattle.std.specs.Prelude.{ℕ, suc, ◌≤◌, ◌≡◌, refl, List, [], ◌∷◌, ◌++◌, Bool, true, false, T, leb, length}
use Rattle.std.proofs.Common.{sym, ap, ◌∙◌, subst, append_assoc, append-nil, arith, le→leb, leb→le}
use Rattle.listings.specs.Bytes.{pick}
use Rattle.listings.specs.Listing.{Listing}
use Rattle.listings.specs.Rows.{split, row_of, content_of}
use Rattle.listings.specs.Read.{Position, begin, in_module, ended, in_stmts, in_cond, Reading, start, Outcome, taken, refused, read_row, Answer, listing, refusal, finish, read_rows, read}
use Rattle.listings.specs.ListingText.{listing_rows, text_of, listing_text, Within, InForm}
use Rattle.listing_laws.specs.RowForms.{split_text, text_split}
use Rattle.listing_laws.specs.RowText.{content_text}
use Rattle.listing_laws.specs.RowsTaken.{listing_taken}
use Rattle.listing_laws.specs.Shown.{position_rows, shown, position_size, open_lines, Good, Next}
use Rattle.listing_laws.specs.ShownLaws.{row_next}
use Rattle.listing_laws.specs.ShownLaws.{good_start}

pick_true : {A : Type 0} (b : Bool) (x y : A) → T b → pick b x y ≡ x
pick_true true x y t = refl
pick_true false x y t = absurd t

-- of an answer to the pieces ps, after the rows vs: if it is a listing, it is in form, and its rows are vs and all pieces but the last, which is empty
Answered : List (List ℕ) → List (List ℕ) → Answer → Type 0
Answered vs ps (listing L) = Within L × ((ws : List (List ℕ)) × (ps ≡ ws ++ ([] ∷ [])) × (vs ++ ws ≡ listing_rows L))
Answered vs ps (refusal n i) = Unit {0}

finish-read : (r : Reading) (i : ℕ) (p : Position) (w : List ℕ) → Good r p → Answered (shown r p) (w ∷ []) (finish r i p w)
unfolding finish Answered position_rows open_lines position_size listing_rows
finish-read r i begin w g = tt
finish-read r i in_module w g = tt
finish-read r i ended [] g = (record { lines = g.lines; line_count = omega (arith, g.line_sum, g.line_most); stmt_count = omega (arith, g.stmt_sum, g.stmt_most) }, ([], refl, append-nil _))
finish-read r i ended (b ∷ l) g = tt
finish-read r i (in_stmts s fs) w g = tt
finish-read r i (in_cond s k bs fs) w g = tt

-- a row more before the pieces
more_read : (vs us ps : List (List ℕ)) (w : List ℕ) (a : Answer) → us ≡ vs ++ (w ∷ []) → Answered us ps a → Answered vs (w ∷ ps) a
unfolding Answered
more_read vs us ps w (listing L) e x = (x.0, (w ∷ x.1.0, ap (λ (l : List (List ℕ)). w ∷ l) x.1.1, sym (append_assoc vs (w ∷ []) x.1.0) ∙ sym (ap (λ (l : List (List ℕ)). l ++ x.1.0) e) ∙ x.1.2))
more_read vs us ps w (refusal n i) e x = tt

pub in_form_accepted : (L : Listing) → InForm L → read (listing_text L) ≡ listing L
unfolding read listing_text
in_form_accepted L ok =
    let h = listing_taken L ok.within in
    pick_true (leb (length (listing_text L)) 65536) _ _ (le→leb (length (listing_text L)) 65536 ok.byte_count)
    ∙ ap (read_rows start 0) (split_text (listing_rows L) h.0)
    ∙ h.1

rows-read : (ps : List (List ℕ)) (r : Reading) (i : ℕ) → Good r r.position → Answered (shown r r.position) ps (read_rows r i ps)
unfolding read_rows Answered Next
rows-read [] r i g = tt
rows-read (w ∷ []) r i g = finish-read r i r.position w g
rows-read (w ∷ v ∷ ws) r i g =
    go (read_row r r.position (content_of (row_of w))) (row_next r r.position (content_of (row_of w)) w (content_text w) g) (λ q h. rows-read (v ∷ ws) q (suc i) h)
  where
    go : (o : Outcome Reading) → Next (shown r r.position ++ (w ∷ [])) o → ((q : Reading) → Good q q.position → Answered (shown q q.position) (v ∷ ws) (read_rows q (suc i) (v ∷ ws)))
        → Answered (shown r r.position) (w ∷ v ∷ ws) (elim o [ refused n ↦ refusal n i | taken q ↦ read_rows q (suc i) (v ∷ ws) ])
    go (refused n) h next = tt
    go (taken q) h next = more_read (shown r r.position) (shown q q.position) (v ∷ ws) w (read_rows q (suc i) (v ∷ ws)) h.1 (next q h.0)

rows_accepted : (t : List ℕ) (L : Listing) → length t ≤ 65536 → Answered [] (split 10 t) (listing L) → InForm L × (t ≡ listing_text L)
unfolding Answered listing_text
rows_accepted t L few x =
    let e : t ≡ listing_text L = text_split t x.1.0 x.1.1 ∙ ap text_of x.1.2 in
    (record { within = x.0; byte_count = subst (λ (l : List ℕ). length l ≤ 65536) e few }, e)

pub accepted_in_form : (t : List ℕ) (L : Listing) → read t ≡ listing L → InForm L × (t ≡ listing_text L)
unfolding read start position_rows
accepted_in_form t L e = go (leb (length t) 65536) refl e
  where
    go : (b : Bool) → leb (length t) 65536 ≡ b → pick b (read_rows start 0 (split 10 t)) (refusal 1 0) ≡ listing L → InForm L × (t ≡ listing_text L)
    go true h f = rows_accepted t L (leb→le (length t) 65536 (rw h tt)) (subst (Answered [] (split 10 t)) f (rows-read (split 10 t) start 0 good_start))
    go false h f = let z : ◌≡◌ {A = ℕ} 0 1 = cc in absurd (omega arith)
