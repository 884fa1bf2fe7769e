-- What is answered for a text, and the loop over its rows. Assumes nothing.
use Rattle.std.specs.Prelude.{ℕ, suc, ◌+◌, ◌≤◌, ◌<◌, ◌≡◌, refl, List, [], ◌∷◌, eqb, Result, Ok, Err}
use Rattle.std.proofs.Math.Path.{sym, ap}
use Rattle.std.proofs.Common.{◌∙◌, subst, not-suc-le-zero, add-one, arith, le-leb, ne_eqb}
use Rattle.std.proofs.Math.ListN.{length}
use Rattle.std.proofs.lemmas.Bool.{lt-leb}
use Rattle.listings.specs.Bytes.{pick}
use Rattle.listings.specs.Listing.{total, count}
use Rattle.listings.specs.Rows.{split, row_of, content_of}
use Rattle.listings.specs.Read.{Position, begin, in_module, ended, in_stmts, in_cond, Reading, start, Outcome, taken, refused, read_row, refusal, finish, read_rows, read}
use Rattle.listing_laws.specs.RowText.{content_text}
use Rattle.listing_laws.specs.Shown.{open_lines, position_size, Good, Next}
use Rattle.listing_laws.specs.ShownLaws.{row_next}
use Rattle.listings.specs.Scan.{split-some}
use Rattle.reader.specs.Answer.{by_number, listed_of}
use Rattle.reader.specs.CodedRows.{place_number, as_row}
use Rattle.tokens.specs.Arguments.{Verdict}
use Rattle.reader.specs.Machine.{State, position_code, state_at, as_state, stepped, numbered_step, as_step, step_row}
use Rattle.reader.specs.MachineLaws.{step_law}
use Rattle.reader.specs.declared.listing.Accepted.{Accepted}
use Rattle.layout.specs.Refusals.{number_of, refusal_at}
use Rattle.layout.specs.declared.refusals.Reason.{Reason}
use Rattle.layout.specs.declared.refusals.Reason.TheVariants as reason
use Rattle.layout.specs.declared.refusals.Refusal.{Refusal}
use Rattle.listing_laws.specs.ShownLaws.{good_start}

-- the text ends in row i, after e bytes of it
abbrev pub finish_state : State → ℕ → ℕ → Result Accepted Refusal
finish_state s i e =
    pick (eqb (place_number s.position) 2) (pick (eqb e 0) (Ok (record { handlers = s.handlers; lines = s.lines; stmts = s.stmts })) (Err (refusal_at reason.NotAForm i))) (Err (refusal_at reason.NotAForm i))

-- ---- the length of the text

pub read_long : (t : List ℕ) → 65536 < length t → read t ≡ refusal 1 0
unfolding read
read_long t h = rw (lt-leb (length t) 65536 h)

pub read_short : (t : List ℕ) → length t ≤ 65536 → read t ≡ read_rows start 0 (split 10 t)
unfolding read
read_short t h = rw (le-leb (length t) 65536 h)

-- ---- one row more

rows-refused : (r : Reading) (i : ℕ) (w : List ℕ) (vs : List (List ℕ)) (n : ℕ) → 0 < length vs → read_row r r.position (content_of (row_of w)) ≡ refused n → read_rows r i (w ∷ vs) ≡ refusal n i
unfolding read_rows
rows-refused r i w [] n h e = absurd (not-suc-le-zero h)
rows-refused r i w (v ∷ vs) n h e = subst (λ (o : Outcome Reading). elim o [ refused n ↦ refusal n i | taken q ↦ read_rows q (suc i) (v ∷ vs) ] ≡ refusal n i) (sym e) refl

rows_taken : (r q : Reading) (i : ℕ) (w : List ℕ) (vs : List (List ℕ)) → 0 < length vs → read_row r r.position (content_of (row_of w)) ≡ taken q → read_rows r i (w ∷ vs) ≡ read_rows q (suc i) vs
unfolding read_rows
rows_taken r q i w [] h e = absurd (not-suc-le-zero h)
rows_taken r q i w (v ∷ vs) h e = subst (λ (o : Outcome Reading). elim o [ refused n ↦ refusal n i | taken q ↦ read_rows q (suc i) (v ∷ vs) ] ≡ read_rows q (suc i) (v ∷ vs)) (sym e) refl

rows_last : (r : Reading) (i : ℕ) (w : List ℕ) → read_rows r i (w ∷ []) ≡ finish r i r.position w
unfolding read_rows
rows_last r i w = refl

-- an outcome, by the machine's step
step-refused : (o : Outcome Reading) (n : ℕ) → as_step o ≡ Err n → o ≡ refused n
unfolding as_step
step-refused (taken r) n e = cc
step-refused (refused m) n e = let z : m ≡ n = cc in ap refused z

step-taken : (o : Outcome Reading) (s : State) → as_step o ≡ Ok s → (q : Reading) × (o ≡ taken q) × (s ≡ as_state q)
unfolding as_step
step-taken (taken r) s e = (r, refl, let z : s ≡ as_state r = cc in z)
step-taken (refused m) s e = cc

-- ---- what holds from row to row

pub good_row : (r q : Reading) (w : List ℕ) → Good r r.position → read_row r r.position (content_of (row_of w)) ≡ taken q → Good q q.position
unfolding Next
good_row r q w g e = (subst (Next _) e (row_next r r.position (content_of (row_of w)) w (content_text w) g)).0

finish_by : (r : Reading) (i : ℕ) (p : Position) (w : List ℕ) → Good r p → by_number (finish_state (state_at r p) i (length w)) ≡ listed_of (finish r i p w)
unfolding finish listed_of state_at position_code open_lines position_size
finish_by r i begin w g = refl
finish_by r i in_module w g = refl
finish_by r i (in_stmts s fs) w g = refl
finish_by r i (in_cond s k bs fs) w g = refl
finish_by r i ended (b ∷ w) g = rw (ne_eqb (suc (length w)) 0 (λ e. omega arith))
finish_by r i ended [] g =
    let n : r.line_count ≡ count r.lines = omega (arith, g.line_sum) in
    let m : r.stmt_count ≡ total r.lines = omega (arith, g.stmt_sum) in
    rw (n, m)

-- ---- the loop

-- its invariant: the state stands for a reading, from which the rest of the text is read as the whole is
pub record Follows (text : List ℕ) (s : State) (i : ℕ) (left : List ℕ) : Type 0 where
  pub reading : Reading
  pub state : s ≡ as_state reading
  pub good : Good reading reading.position
  pub rest : read_rows reading i (split 10 left) ≡ read_rows start 0 (split 10 text)

pub follows_start : (text : List ℕ) (s : State) → s ≡ as_state start → Follows text s 0 text
follows_start text s e = record { reading = start; state = e; good = good_start; rest = refl }

module _ {text : List ℕ} {s : State} {i : ℕ} {left : List ℕ} (f : Follows text s i left) (short : length text ≤ 65536) where
  -- the text ends in this row
  pub follows_last : split 10 left ≡ left ∷ [] → by_number (finish_state s i (length left)) ≡ listed_of (read text)
  unfolding as_state
  follows_last h =
      let r = f.reading in
      let p : read_rows r i (split 10 left) ≡ finish r i r.position left = ap (read_rows r i) h ∙ rows_last r i left in
      ap (λ (z : State). by_number (finish_state z i (length left))) f.state ∙ finish_by r i r.position left f.good ∙ ap listed_of (sym p ∙ f.rest ∙ sym (read_short text short))

  -- a row ended by byte 10, what the machine answers to it, and the state that it leaves
  module _ (row more : List ℕ) (pieces : split 10 left ≡ row ∷ split 10 more) (v : Verdict) (t : State) (steps : stepped v t ≡ step_row s (as_row (content_of (row_of row)))) where
    outcome : numbered_step (stepped v t) ≡ as_step (read_row f.reading f.reading.position (content_of (row_of row)))
    outcome = ap numbered_step steps ∙ ap (λ (z : State). numbered_step (step_row z (as_row (content_of (row_of row))))) f.state ∙ step_law f.reading (content_of (row_of row))

    pub follows_refused : {n : Reason} → v ≡ Err n → by_number (Err (refusal_at n i)) ≡ listed_of (read text)
    unfolding listed_of
    follows_refused {n} h =
        let r = f.reading in
        let q = step-refused (read_row r r.position (content_of (row_of row))) (number_of n) (sym outcome ∙ ap (λ (x : Verdict). numbered_step (stepped x t)) h) in
        let p = rows-refused r i row (split 10 more) (number_of n) (split-some 10 more) q in
        ap listed_of (sym (ap (read_rows r i) pieces ∙ p) ∙ f.rest ∙ sym (read_short text short))

    pub follows_taken : v ≡ Ok tt → Follows text t (i + 1) more
    follows_taken h =
        let r = f.reading in
        let q = step-taken (read_row r r.position (content_of (row_of row))) t (sym outcome ∙ ap (λ (x : Verdict). numbered_step (stepped x t)) h) in
        let p = rows_taken r q.0 i row (split 10 more) (split-some 10 more) q.1 in
        record {
          reading = q.0;
          state = q.2;
          good = good_row r q.0 row f.good q.1;
          rest = rw (add-one i) (sym p ∙ sym (ap (read_rows r i) pieces) ∙ f.rest);
        }
