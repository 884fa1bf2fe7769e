-- A file that a writer wrote is no longer than its listing's text, and the bytes of its lines all count. Assumes nothing.
use Rattle.std.specs.Prelude.{ℕ, zero, suc, ◌+◌, ◌≤◌, ◌≡◌, refl, List, [], ◌∷◌, ◌++◌, map, Bool, true, false, ◌&&◌, eqb, leb, length}
use Rattle.std.proofs.Common.{ap, ◌∙◌, inl, inr, arith, length-append, leb-true, eqb-true}
use Rattle.std.proofs.Math.Option.{none, some}
use Rattle.listings.specs.Bytes.{bytes, same, pick, decimal}
use Rattle.listings.specs.Listing.{Name, Slot, goto, gosub, runto, ongoto, ongosub, Simple, jump, on, for, next, block, bare, BranchForm, to, stmts, absent, Stmts, ∅, ◌▸◌, branching, Lines, nolines, line, Listing}
use Rattle.listings.specs.Rows.{all, is_digit, is_capital, name_end, is_name}
use Rattle.listings.specs.ListingText.{spaced_words, closed_form, open_form, end_form, slot_word, on_word, simple_word, simple_args, simple_text, cond_text, branch_rows, stmt_rows, rows_of_lines, listing_rows, text_of, listing_text}
use Rattle.listings.specs.Tests.{both_true, either_true}
use Rattle.listings.specs.Every.{All, all[], all∷}
use Rattle.listing_laws.specs.NumberText.{all-append-true, all_weaken, digit_range}
use Rattle.listing_laws.specs.WordText.{same-nil}
use Rattle.program_laws.specs.V2.{NumberV2, NameV2, SimpleV2, is_plain, is_stop, is_return, is_clr, is_run, is_jump, is_on, is_for, is_star, is_next, StraightV2, empty, then_simple, StmtsV2, no_if, then_to, then_stmts}
use Rattle.program_laws.specs.NameKinds.{is_character, is_kind}
use Rattle.program_laws.specs.Saved.{commas, jump_token, on_token, bare_token, slot_bytes, simple_bytes, branch_bytes, stmts_bytes, lines_bytes, saved}
use Rattle.program_laws.specs.PlacedBytes.{is_clean, clean_between}
use Rattle.program_laws.specs.ItemReads.{decimal-all}
use Rattle.program_laws.specs.StatementReads.{slots-bytes}

-- ---- lengths

text_length : (k l : List (List ℕ)) → length (text_of (k ++ l)) ≡ length (text_of k) + length (text_of l)
unfolding text_of
text_length [] l = omega arith
text_length (r ∷ k) l = simp length-append (omega (arith, text_length k l))

commas-length : (ws : List (List ℕ)) → length (commas ws) ≤ length (spaced_words ws)
unfolding commas spaced_words
commas-length [] = omega arith
commas-length (w ∷ []) = simp length-append (omega arith)
commas-length (w ∷ v ∷ ws) = let h = commas-length (v ∷ ws) in simp length-append (omega (arith, simp length-append at h))

slots-length : (ss : List Slot) → length (commas (map slot_bytes ss)) ≤ length (spaced_words (map slot_word ss))
unfolding commas spaced_words slot_bytes slot_word
slots-length [] = omega arith
slots-length (none ∷ []) = omega arith
slots-length (some v ∷ []) = simp length-append (omega arith)
slots-length (none ∷ s ∷ ss) = let h = slots-length (s ∷ ss) in simp length-append (omega (arith, simp length-append at h))
slots-length (some v ∷ s ∷ ss) = let h = slots-length (s ∷ ss) in simp length-append (omega (arith, simp length-append at h))

simple_length : (o : Simple) → length (simple_bytes o) ≤ length (simple_text o)
unfolding simple_bytes simple_text simple_word simple_args closed_form spaced_words on_word bytes
simple_length (jump w n) = simp length-append (omega arith)
simple_length (on ongoto ns) = simp length-append (omega (arith, commas-length (map decimal ns)))
simple_length (on ongosub ns) = simp length-append (omega (arith, commas-length (map decimal ns)))
simple_length (for v t) = simp length-append (omega arith)
simple_length (next m ss) = simp length-append (omega (arith, slots-length ss))
simple_length (block w) = simp length-append (omega arith)
simple_length (bare w) = simp length-append (omega arith)

branch-length : (t : BranchForm) (l : List ℕ) (rs : List (List ℕ)) → length l ≤ length (text_of rs) → length (branch_bytes t l) ≤ length (text_of (branch_rows t rs))
unfolding branch_bytes branch_rows text_of closed_form open_form spaced_words bytes
branch-length (to n) l rs h = simp length-append (omega arith)
branch-length stmts l rs h = simp (length-append, text_length) (omega arith)
branch-length absent l rs h = omega arith

stmts_length : (s : Stmts) → length (stmts_bytes s) ≤ length (text_of (stmt_rows s))
unfolding stmts_bytes stmt_rows text_of cond_text open_form end_form
stmts_length ∅ = omega arith
stmts_length (s ▸ o) = simp (length-append, text_length) (omega (arith, stmts_length s, simple_length o))
stmts_length (branching s w t a u b) = simp (length-append, text_length) (omega (arith, stmts_length s, branch-length t (stmts_bytes a) (stmt_rows a) (stmts_length a)))

lines_length : (ls : Lines) → length (lines_bytes ls) ≤ length (text_of (rows_of_lines ls))
unfolding lines_bytes rows_of_lines text_of open_form end_form spaced_words bytes
lines_length nolines = omega arith
lines_length (line ls n s) = simp (length-append, text_length) (omega (arith, lines_length ls, stmts_length s))

-- a line and a statement take more in the text
pub saved-length : (L : Listing) → length (saved L) ≤ length (listing_text L)
unfolding saved listing_text listing_rows text_of open_form end_form spaced_words bytes
saved-length L = simp (length-append, text_length) (omega (arith, lines_length L.lines))

-- ---- the bytes that count

clean_digits : (l : List ℕ) → all is_digit l ≡ true → all is_clean l ≡ true
clean_digits l h = all_weaken is_digit is_clean (λ b e. let r = digit_range b e in clean_between b (omega arith) (omega arith)) l h

clean_number : (n : ℕ) → all is_clean (decimal n) ≡ true
clean_number n = clean_digits (decimal n) (decimal-all n)

clean_capital : (b : ℕ) → is_capital b ≡ true → is_clean b ≡ true
unfolding is_capital
clean_capital b h = let e = both_true (leb 65 b) (leb b 90) h in let f = leb-true 65 b e.0 in let g = leb-true b 90 e.1 in clean_between b (omega arith) (omega arith)

clean_character : (b : ℕ) → is_character b ≡ true → is_clean b ≡ true
clean_character b h = elim (either_true (is_capital b) (is_digit b) h) [ inl e ↦ clean_capital b e | inr e ↦ let r = digit_range b e in clean_between b (omega arith) (omega arith) ]

clean_kind : (b : ℕ) → is_kind b ≡ true → is_clean b ≡ true
unfolding is_clean
clean_kind b h = elim (either_true (eqb b 37) (eqb b 36) h) [ inl e ↦ rw (eqb-true b 37 e) | inr e ↦ rw (eqb-true b 36 e) ]

clean_last : (b : ℕ) (l : List ℕ) → (is_kind b && same l []) ≡ true → all is_clean (b ∷ l) ≡ true
unfolding all
clean_last b l h =
    let e = both_true (is_kind b) (same l []) h in
    ap (λ (k : List ℕ). is_clean b && all is_clean k) (same-nil l e.1) ∙ ap (λ (x : Bool). x && true) (clean_kind b e.0)

clean_first : (b : ℕ) (l : List ℕ) → is_clean b ≡ true → all is_clean l ≡ true → all is_clean (b ∷ l) ≡ true
unfolding all
clean_first b l h g = rw (h, g)

clean_end : (k : ℕ) (l : List ℕ) → name_end k l ≡ true → all is_clean l ≡ true
unfolding name_end
clean_end k [] h = unfold all in refl
clean_end zero (b ∷ l) h = clean_last b l h
clean_end (suc k) (b ∷ l) h = go (is_character b) refl h (clean_end k l)
  where
    go : (x : Bool) → is_character b ≡ x → pick x (name_end k l) (is_kind b && same l []) ≡ true → (name_end k l ≡ true → all is_clean l ≡ true)
        → all is_clean (b ∷ l) ≡ true
    go true e g f = clean_first b l (clean_character b e) (f g)
    go false e g f = clean_last b l g

clean_name : (v : Name) → is_name v ≡ true → all is_clean v ≡ true
unfolding is_name
clean_name [] h = unfold all in refl
clean_name (b ∷ l) h = let e = both_true (is_capital b) (name_end 7 l) h in clean_first b l (clean_capital b e.0) (clean_end 7 l e.1)

clean_commas : {A : Type 0} (P : A → Type 0) (w : A → List ℕ) → ((a : A) → P a → all is_clean (w a) ≡ true) → {l : List A} → All P l → all is_clean (commas (map w l)) ≡ true
unfolding commas all is_clean
clean_commas P w f all[] = refl
clean_commas P w f (all∷ h all[]) = f _ h
clean_commas P w f (all∷ h (all∷ g hs)) = all-append-true is_clean (w _) _ (f _ h) (clean_commas P w f (all∷ g hs))

clean_simple : {o : Simple} → SimpleV2 o → all is_clean (simple_bytes o) ≡ true
unfolding simple_bytes all is_clean bare_token jump_token on_token slot_bytes commas
clean_simple is_plain = refl
clean_simple is_stop = refl
clean_simple is_return = refl
clean_simple is_clr = refl
clean_simple is_run = refl
clean_simple (is_jump {w = goto} {n} h) = clean_number n
clean_simple (is_jump {w = gosub} {n} h) = clean_number n
clean_simple (is_jump {w = runto} {n} h) = clean_number n
clean_simple (is_on {w = ongoto} h hs) = clean_commas NumberV2 decimal (λ n g. clean_number n) (all∷ h hs)
clean_simple (is_on {w = ongosub} h hs) = clean_commas NumberV2 decimal (λ n g. clean_number n) (all∷ h hs)
clean_simple (is_for {v} h) = all-append-true is_clean v (178 ∷ 48 ∷ 164 ∷ 48 ∷ []) (clean_name v h.0) refl
clean_simple is_star = refl
clean_simple (is_next {v} {vs} h hs) =
    ap (λ (l : List Name). all is_clean (commas l)) (slots-bytes (v ∷ vs)) ∙ clean_commas NameV2 (λ v. v) (λ v g. clean_name v g.0) (all∷ h hs)

clean_straight : {s : Stmts} → StraightV2 s → all is_clean (stmts_bytes s) ≡ true
unfolding stmts_bytes
clean_straight empty = unfold all in refl
clean_straight (then_simple {s} {o} h g) =
    all-append-true is_clean (stmts_bytes s) (simple_bytes o ++ (58 ∷ [])) (clean_straight h)
    (all-append-true is_clean (simple_bytes o) (58 ∷ []) (clean_simple g) (unfold all is_clean in refl))

clean_branch : (l : List ℕ) → all is_clean l ≡ true → all is_clean (139 ∷ 65 ∷ 167 ∷ l) ≡ true
unfolding all is_clean
clean_branch l h = h

pub clean_stmts : {s : Stmts} → StmtsV2 s → all is_clean (stmts_bytes s) ≡ true
unfolding stmts_bytes branch_bytes
clean_stmts (no_if h) = clean_straight h
clean_stmts (then_to {s} {n} h g) = all-append-true is_clean (stmts_bytes s) (139 ∷ 65 ∷ 167 ∷ decimal n) (clean_straight h) (clean_branch (decimal n) (clean_number n))
clean_stmts (then_stmts {s} {a} h g) =
    all-append-true is_clean (stmts_bytes s) (139 ∷ 65 ∷ 167 ∷ 58 ∷ stmts_bytes a) (clean_straight h)
    (clean_branch (58 ∷ stmts_bytes a) (clean_first 58 (stmts_bytes a) (unfold is_clean in refl) (clean_stmts g)))
