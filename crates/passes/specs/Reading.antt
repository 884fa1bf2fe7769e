-- Reading into the front parts of tables: zeros stand behind them. Assumes nothing.
use Rattle.std.specs.Prelude.{◌≡◌, refl, Bool, true, false, List, ◌++◌, ℕ, ◌+◌, ◌*◌, ◌-◌, ◌/◌, ◌≤◌, leb, length, replicate, take, drop, Result}
use Rattle.std.proofs.Common.{sym, ap, ◌∙◌, append_assoc, arith, length-take-le, drop_at, leb-true}
use Rattle.std.proofs.lemmas.List.{replicate-append-replicate}
use Rattle.listings.specs.Bytes.{pick}
use Rattle.listings.specs.Listing.{Listing, total, count}
use Rattle.listings.specs.Read.{Answer, listing, refusal}
use Rattle.listings.specs.Cut.{meant}
use Rattle.listings.specs.Records.{fitted, answer_of, table_of, counts_of, padded, line_recs, arg_row}
use Rattle.listing_laws.specs.ReadingRecords.{numbers-count, lines_length}
use Rattle.listing_laws.specs.RecordLaws.{recs_length}
use Rattle.listing_laws.specs.CutLaws.{meant_within}
use Rattle.reader.specs.Tables.{joined_length}
use Rattle.reader.specs.ReadBack.{lines_wide}
use Rattle.listings.specs.ListingText.{Within}
use Rattle.reader.specs.Answer.{by_number, listed_of}
use Rattle.reader.specs.Listed.{line_entries, stmt_entries, arg_entries, RecordsWritten}
use Rattle.reader.specs.declared.listing.Accepted.{Accepted}
use Rattle.layout.specs.declared.refusals.Refusal.{Refusal}
use Rattle.layout.specs.Zeroed.{cleared_behind, cleared_length}

-- ---- a wider table

pub table_wider : (f : Listing → List ℕ) (b : Answer) (k : ℕ) (t : List ℕ) → k ≤ length t → ((L : Listing) → b ≡ listing L → length (f L) ≤ k)
    → table_of f b k ++ drop k (cleared_behind k t) ≡ table_of f b (length t)
unfolding table_of cleared_behind padded
table_wider f (listing L) k t h g =
    let z = drop_at (take k t) (replicate (length t - k) 0) k (length-take-le k t h) in
    let e : (k - length (f L)) + (length t - k) ≡ length t - length (f L) = omega (arith, g L refl) in
    rw (z, append_assoc, replicate-append-replicate, e)
table_wider f (refusal n p) k t h g =
    let z = drop_at (take k t) (replicate (length t - k) 0) k (length-take-le k t h) in
    let e : k + (length t - k) ≡ length t = omega arith in
    rw (z, replicate-append-replicate, e)

-- what the reader answers where all tables hold kl lines and kn statements
abbrev pub read_by : ℕ → ℕ → Answer → Answer
read_by kl kn q = answer_of kl (kn * 12) (kn * 64) q

-- the answer and every entry, of tables with nl, ns and na entries; q: what is meant, or the refusal
pub record FittingRead (q : Answer) (kl kn nl ns na : ℕ) (c l t a : List ℕ) (r : Result Accepted Refusal) : Type 0 where
  pub answer : by_number r ≡ listed_of (read_by kl kn q)
  pub counts : c ≡ table_of counts_of (read_by kl kn q) 6
  pub lines : l ≡ table_of line_entries (read_by kl kn q) nl
  pub stmts : t ≡ table_of stmt_entries (read_by kl kn q) ns
  pub args : a ≡ table_of arg_entries (read_by kl kn q) na

-- ---- what was accepted fits

fits-counts : (kl kn : ℕ) (L M : Listing) → fitted kl (kn * 12) (kn * 64) L ≡ listing M → (L ≡ M) × (count M.lines ≤ kl) × (total M.lines ≤ kn)
unfolding fitted
fits-counts kl kn L M e = go (leb (count L.lines) kl) (leb (total L.lines) (kn * 12 / 12)) (leb (total L.lines) (kn * 64 / 64)) refl refl e
  where
    go : (x y z : Bool) → leb (count L.lines) kl ≡ x → leb (total L.lines) (kn * 12 / 12) ≡ y
        → pick x (pick y (pick z (listing L) (refusal 22 (total L.lines))) (refusal 22 (total L.lines))) (refusal 21 (count L.lines)) ≡ listing M → (L ≡ M) × (count M.lines ≤ kl) × (total M.lines ≤ kn)
    go true true true a b q =
        let z : L ≡ M = cc in
        let u = leb-true (count L.lines) kl a in
        let v = leb-true (total L.lines) (kn * 12 / 12) b in
        (z, rw (← z) u, rw (← z) (omega (arith, v)))
    go true true false a b q = absurd (let z : ◌≡◌ {A = ℕ} 0 1 = cc in omega arith)
    go true false z a b q = absurd (let z : ◌≡◌ {A = ℕ} 0 1 = cc in omega arith)
    go false y z a b q = absurd (let z : ◌≡◌ {A = ℕ} 0 1 = cc in omega arith)

pub record Fits (q : Answer) (kl kn : ℕ) (L : Listing) : Type 0 where
  pub reads : q ≡ listing L
  pub within : Within L
  pub lines : count L.lines ≤ kl
  pub stmts : total L.lines ≤ kn
  pub line_entries_length : length (line_entries L) ≡ count L.lines
  pub stmt_entries_length : length (stmt_entries L) ≡ total L.lines * 12
  pub arg_entries_length : length (arg_entries L) ≡ total L.lines * 64

-- whatever was read is a listing within the limits
abbrev pub ReadWithin : Answer → Type 0
ReadWithin q = (L : Listing) → q ≡ listing L → Within L

pub text_within : (text : List ℕ) → ReadWithin (meant text)
text_within text = meant_within text

pub read_fits : (q : Answer) → ReadWithin q → (kl kn : ℕ) (L : Listing) → read_by kl kn q ≡ listing L → Fits q kl kn L
unfolding answer_of line_entries stmt_entries arg_entries
read_fits q ok kl kn L e = go q refl e
  where
    go : (b : Answer) → q ≡ b → answer_of kl (kn * 12) (kn * 64) b ≡ listing L → Fits q kl kn L
    go (listing M) r s =
        let f = fits-counts kl kn M L s in
        let m : q ≡ listing L = r ∙ ap listing f.0 in
        let i = ok L m in
        record { reads = m; within = i; lines = f.1; stmts = f.2; line_entries_length = numbers-count L.lines; stmt_entries_length = rw (← (lines_length L.lines)) (recs_length (line_recs L.lines)); arg_entries_length = rw (← (lines_length L.lines)) (joined_length arg_row 64 (lines_wide L.lines i.lines)) }
    go (refusal n p) r s = absurd (let z : ◌≡◌ {A = ℕ} 0 1 = cc in omega arith)

-- ---- the whole: from the front parts

pub front_length : (k : ℕ) (t u : List ℕ) → k ≤ length t → u ≡ cleared_behind k t → k ≡ length (take k u)
front_length k t u h e = sym (length-take-le k u (omega (arith, ap length e, cleared_length t k h)))

module _ (b : Answer) (ok : ReadWithin b) (kl kn : ℕ) (lines stmts args : List ℕ) (hl : kl ≤ length lines) (hs : kn * 12 ≤ length stmts) (ha : kn * 64 ≤ length args) where
  pub fitting_read : (l₀ t₀ a₀ : List ℕ) → l₀ ≡ cleared_behind kl lines → t₀ ≡ cleared_behind (kn * 12) stmts → a₀ ≡ cleared_behind (kn * 64) args → (c l t a : List ℕ) (r : Result Accepted Refusal)
      → RecordsWritten b (length (take kl l₀)) (length (take (kn * 12) t₀)) (length (take (kn * 64) a₀)) c l t a r
      → FittingRead b kl kn (length lines) (length stmts) (length args) c (l ++ drop kl l₀) (t ++ drop (kn * 12) t₀) (a ++ drop (kn * 64) a₀) r
  fitting_read l₀ t₀ a₀ el et ea c l t a r w₀ =
      let w : RecordsWritten b kl (kn * 12) (kn * 64) c l t a r = rw (← (front_length kl lines l₀ hl el), ← (front_length (kn * 12) stmts t₀ hs et), ← (front_length (kn * 64) args a₀ ha ea)) at w₀ in
      record {
        answer = w.answer;
        counts = w.counts;
        lines = ap (λ (q : List ℕ). q ++ drop kl l₀) w.lines ∙ ap (λ (q : List ℕ). table_of line_entries (read_by kl kn b) kl ++ drop kl q) el
            ∙ table_wider line_entries (read_by kl kn b) kl lines hl (λ L e. let f = read_fits b ok kl kn L e in omega (arith, f.line_entries_length, f.lines));
        stmts = ap (λ (q : List ℕ). q ++ drop (kn * 12) t₀) w.stmts ∙ ap (λ (q : List ℕ). table_of stmt_entries (read_by kl kn b) (kn * 12) ++ drop (kn * 12) q) et
            ∙ table_wider stmt_entries (read_by kl kn b) (kn * 12) stmts hs (λ L e. let f = read_fits b ok kl kn L e in omega (arith, f.stmt_entries_length, f.stmts));
        args = ap (λ (q : List ℕ). q ++ drop (kn * 64) a₀) w.args ∙ ap (λ (q : List ℕ). table_of arg_entries (read_by kl kn b) (kn * 64) ++ drop (kn * 64) q) ea
            ∙ table_wider arg_entries (read_by kl kn b) (kn * 64) args ha (λ L e. let f = read_fits b ok kl kn L e in omega (arith, f.arg_entries_length, f.stmts));
      }
