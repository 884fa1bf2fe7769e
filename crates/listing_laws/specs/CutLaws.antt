-- What the cut of names leaves: a name, a listing within the limits, its size; cutting twice is cutting once (document 02, L2). Assumes nothing.
use Rattle.std.specs.Prelude.{ℕ, zero, suc, ◌≤◌, ◌≡◌, refl, Bool, true, false, ◌&&◌, ◌||◌, List, [], ◌∷◌, ◌++◌, map, eqb, length}
use Rattle.std.proofs.Common.{sym, ap, ◌∙◌, subst, arith}
use Rattle.std.proofs.lemmas.List.{map-append, length-map}
use Rattle.std.proofs.Math.Option.{none, some}
use Rattle.listings.specs.Bytes.{same, pick}
use Rattle.listings.specs.Listing.{Name, Slot, Simple, jump, on, for, next, block, bare, CondWord, if, ifelse, rcomp, BranchForm, to, stmts, absent, Stmts, ∅, ◌▸◌, branching, Lines, nolines, line, Listing, size, total, count}
use Rattle.listings.specs.Rows.{is_capital, is_digit, name_end, is_name, malformed, invalid, parsed, Content, no_form, end_row, stmts_row, module_row, line_row, to_row, simple_row, cond_row}
use Rattle.listings.specs.Read.{Answer, listing, refusal, read}
use Rattle.listings.specs.ListingText.{NameOk, SlotsOk, listed, SimpleOk, BranchOk, NoBranch, SecondOk, BranchesOk, StmtsOk, last_number, Above, LinesOk, Within}
use Rattle.listings.specs.Tests.{both_true}
use Rattle.listing_laws.specs.WordText.{same-nil}
use Rattle.listing_laws.specs.Contents.{branch_contents, stmt_contents, line_contents, contents}
use Rattle.listing_laws.specs.RoundTrip.{accepted_in_form}
use Rattle.listings.specs.Cut.{cut_to, cut_name, cut_slot, cut_simple, cut_stmts, cut_lines, cut_listing, cut_answer, meant}

-- ---- a name

-- what ends a name, `%` or `$`, ends it wherever it stands
kind-ends : (k b : ℕ) → (eqb b 37 || eqb b 36) ≡ true → name_end k (b ∷ []) ≡ true
unfolding name_end same
kind-ends zero b h = rw h
kind-ends (suc k) b h = go (is_capital b || is_digit b)
  where
    go : (x : Bool) → pick x true ((eqb b 37 || eqb b 36) && true) ≡ true
    go true = refl
    go false = rw h

-- behind the characters that are kept no more than that stands
kind_cut : (j b : ℕ) (l : List ℕ) → ((eqb b 37 || eqb b 36) && same l []) ≡ true → (x : Bool) → name_end j (pick x (cut_to 0 l) (b ∷ cut_to 0 l)) ≡ true
unfolding name_end cut_to
kind_cut j b l h true = let p = both_true (eqb b 37 || eqb b 36) (same l []) h in ap (λ (k : List ℕ). name_end j (cut_to 0 k)) (same-nil l p.1)
kind_cut j b l h false =
    let p = both_true (eqb b 37 || eqb b 36) (same l []) h in
    ap (λ (k : List ℕ). name_end j (b ∷ cut_to 0 k)) (same-nil l p.1) ∙ kind-ends j b p.0

cut_ends : (k j : ℕ) (l : List ℕ) → name_end k l ≡ true → name_end j (cut_to 0 l) ≡ true
unfolding name_end cut_to
cut_ends k j [] h = refl
cut_ends zero j (b ∷ l) h = kind_cut j b l h (is_capital b || is_digit b)
cut_ends (suc k) j (b ∷ l) h = go (is_capital b || is_digit b) h (cut_ends k j l)
  where
    go : (x : Bool) → pick x (name_end k l) ((eqb b 37 || eqb b 36) && same l []) ≡ true → (name_end k l ≡ true → name_end j (cut_to 0 l) ≡ true)
        → name_end j (pick x (cut_to 0 l) (b ∷ cut_to 0 l)) ≡ true
    go true q f = f q
    go false q f = kind_cut j b l q false

second_ends : (l : List ℕ) → name_end 7 l ≡ true → name_end 7 (cut_to 1 l) ≡ true
unfolding name_end cut_to same
second_ends [] h = refl
second_ends (b ∷ l) h = go (is_capital b || is_digit b) h
  where
    go : (x : Bool) → pick x (name_end 6 l) ((eqb b 37 || eqb b 36) && same l []) ≡ true
        → pick x (name_end 6 (cut_to 0 l)) ((eqb b 37 || eqb b 36) && same (cut_to 0 l) []) ≡ true
    go true q = cut_ends 6 6 l q
    go false q =
        let p = both_true (eqb b 37 || eqb b 36) (same l []) q in
        ap (λ (k : List ℕ). (eqb b 37 || eqb b 36) && same k []) (ap (cut_to 0) (same-nil l p.1)) ∙ ap (λ (x : Bool). x && true) p.0

-- a cut name is a name
pub cut_name_lem : (v : Name) → NameOk v → NameOk (cut_name v)
unfolding is_name cut_name cut_to
cut_name_lem [] h = h
cut_name_lem (b ∷ l) h = let p = both_true (is_capital b) (name_end 7 l) h in rw (p.0, second_ends l p.1)

to_again : (k : ℕ) (v : Name) → cut_to k (cut_to k v) ≡ cut_to k v
unfolding cut_to
to_again zero [] = refl
to_again (suc k) [] = refl
to_again (suc k) (b ∷ v) = ap (λ (l : Name). b ∷ l) (to_again k v)
to_again zero (b ∷ v) = go (is_capital b || is_digit b) refl (to_again 0 v)
  where
    go : (x : Bool) → (is_capital b || is_digit b) ≡ x → cut_to 0 (cut_to 0 v) ≡ cut_to 0 v → cut_to 0 (pick x (cut_to 0 v) (b ∷ cut_to 0 v)) ≡ pick x (cut_to 0 v) (b ∷ cut_to 0 v)
    go true e f = f
    go false e f = rw e (ap (λ (l : Name). b ∷ l) f)

-- no longer than before
pub name-length : (k : ℕ) (v : Name) → length (cut_to k v) ≤ length v
unfolding cut_to
name-length zero [] = omega arith
name-length (suc k) [] = omega arith
name-length (suc k) (b ∷ v) = omega (arith, name-length k v)
name-length zero (b ∷ v) = go (is_capital b || is_digit b) (name-length 0 v)
  where
    go : (x : Bool) → length (cut_to 0 v) ≤ length v → length (pick x (cut_to 0 v) (b ∷ cut_to 0 v)) ≤ suc (length v)
    go true h = omega arith
    go false h = omega arith

-- cutting twice is cutting once
pub name_again : (v : Name) → cut_name (cut_name v) ≡ cut_name v
unfolding cut_name
name_again v = to_again 2 v

slots_again : (ss : List Slot) → map cut_slot (map cut_slot ss) ≡ map cut_slot ss
unfolding cut_slot
slots_again [] = refl
slots_again (none ∷ ss) = ap (λ (l : List Slot). none ∷ l) (slots_again ss)
slots_again (some v ∷ ss) = rw (name_again v, slots_again ss)

simple_again : (o : Simple) → cut_simple (cut_simple o) ≡ cut_simple o
unfolding cut_simple
simple_again (for v t) = rw (name_again v)
simple_again (next m ss) = rw (slots_again ss)
simple_again (jump w n) = refl
simple_again (on w ns) = refl
simple_again (block w) = refl
simple_again (bare w) = refl

stmts_again : (s : Stmts) → cut_stmts (cut_stmts s) ≡ cut_stmts s
unfolding cut_stmts
stmts_again ∅ = refl
stmts_again (s ▸ o) = rw (stmts_again s, simple_again o)
stmts_again (branching s w t a u b) = rw (stmts_again s, stmts_again a, stmts_again b)

lines_again : (ls : Lines) → cut_lines (cut_lines ls) ≡ cut_lines ls
unfolding cut_lines
lines_again nolines = refl
lines_again (line ls n s) = rw (lines_again ls, stmts_again s)

pub listing_again : (L : Listing) → cut_listing (cut_listing L) ≡ cut_listing L
unfolding cut_listing
listing_again L = rw (lines_again L.lines)

-- ---- as many statements and lines

pub cut_size : (s : Stmts) → size (cut_stmts s) ≡ size s
unfolding cut_stmts size
cut_size ∅ = refl
cut_size (s ▸ o) = ap suc (cut_size s)
cut_size (branching s w t a u b) = rw (cut_size s, cut_size a, cut_size b)

pub cut_total : (ls : Lines) → total (cut_lines ls) ≡ total ls
unfolding cut_lines total
cut_total nolines = refl
cut_total (line ls n s) = rw (cut_total ls, cut_size s)

pub cut_count : (ls : Lines) → count (cut_lines ls) ≡ count ls
unfolding cut_lines count
cut_count nolines = refl
cut_count (line ls n s) = ap suc (cut_count ls)

cut_last : (ls : Lines) → last_number (cut_lines ls) ≡ last_number ls
unfolding cut_lines last_number
cut_last nolines = refl
cut_last (line ls n s) = refl

-- ---- within the limits

slots_ok : (ss : List Slot) → SlotsOk ss → SlotsOk (map cut_slot ss)
unfolding cut_slot SlotsOk
slots_ok [] h = tt
slots_ok (none ∷ ss) h = slots_ok ss h
slots_ok (some v ∷ ss) h = (cut_name_lem v h.0, slots_ok ss h.1)

pub simple_ok : (o : Simple) → SimpleOk o → SimpleOk (cut_simple o)
unfolding cut_simple SimpleOk
simple_ok (for v t) h = cut_name_lem v h
simple_ok (next m ss) h = slots_ok ss h
simple_ok (jump w n) h = h
simple_ok (on w ns) h = h
simple_ok (block w) h = tt
simple_ok (bare w) h = tt

pub simple_listed : (o : Simple) → listed (cut_simple o) ≡ listed o
unfolding cut_simple listed
simple_listed (for v t) = refl
simple_listed (next m ss) = length-map ss cut_slot
simple_listed (jump w n) = refl
simple_listed (on w ns) = refl
simple_listed (block w) = refl
simple_listed (bare w) = refl

none_cut : {s : Stmts} → s ≡ ∅ → cut_stmts s ≡ ∅
unfolding cut_stmts
none_cut e = ap cut_stmts e

branch_ok : (t : BranchForm) (s : Stmts) → BranchOk t s → BranchOk t (cut_stmts s)
unfolding BranchOk
branch_ok (to n) s h = (h.0, none_cut h.1)
branch_ok stmts s h = tt
branch_ok absent s h = h

no_branch_lem : (t : BranchForm) (s : Stmts) → NoBranch t s → NoBranch t (cut_stmts s)
unfolding NoBranch
no_branch_lem (to n) s h = h
no_branch_lem stmts s h = h
no_branch_lem absent s h = none_cut h

second_ok : (t : BranchForm) (s : Stmts) → SecondOk t s → SecondOk t (cut_stmts s)
unfolding SecondOk
second_ok (to n) s h = (h.0, none_cut h.1)
second_ok stmts s h = tt
second_ok absent s h = none_cut h

branches_ok : (w : CondWord) (t : BranchForm) (a : Stmts) (u : BranchForm) (b : Stmts) → BranchesOk w t a u b → BranchesOk w t (cut_stmts a) u (cut_stmts b)
unfolding BranchesOk
branches_ok if t a u b h = (branch_ok t a h.0, no_branch_lem u b h.1)
branches_ok ifelse t a u b h = (branch_ok t a h.0, branch_ok u b h.1)
branches_ok rcomp t a u b h = (branch_ok t a h.0, second_ok u b h.1)

stmts_ok : (d : ℕ) (s : Stmts) → StmtsOk d s → StmtsOk d (cut_stmts s)
unfolding cut_stmts StmtsOk
stmts_ok d ∅ h = tt
stmts_ok d (s ▸ o) h = (stmts_ok d s h.0, h.1, simple_ok o h.2, subst (λ (n : ℕ). n ≤ 64) (sym (simple_listed o)) h.3)
stmts_ok d (branching s w t a u b) h = (stmts_ok d s h.0, h.1, branches_ok w t a u b h.2, stmts_ok (suc d) a h.3, stmts_ok (suc d) b h.4)

lines_ok : (ls : Lines) → LinesOk ls → LinesOk (cut_lines ls)
unfolding cut_lines LinesOk
lines_ok nolines h = tt
lines_ok (line ls n s) h = (lines_ok ls h.0, h.1, subst (Above n) (sym (cut_last ls)) h.2, stmts_ok 0 s h.3)

pub cut_within : (L : Listing) → Within L → Within (cut_listing L)
unfolding cut_listing
cut_within L h =
    record {
      lines = lines_ok L.lines h.lines;
      line_count = subst (λ (n : ℕ). n ≤ 1024) (sym (cut_count L.lines)) h.line_count;
      stmt_count = subst (λ (n : ℕ). n ≤ 4096) (sym (cut_total L.lines)) h.stmt_count;
    }

-- ---- what a text means

pub meant_listing : (t : List ℕ) (W : Listing) → read t ≡ listing W → meant t ≡ listing (cut_listing W)
unfolding meant cut_answer
meant_listing t W e = ap cut_answer e

-- the listing that was written, of one that is meant
pub record WrittenAs (t : List ℕ) (L : Listing) : Type 0 where
  pub written : Listing
  pub reads : read t ≡ listing written
  pub cut : L ≡ cut_listing written

pub meant-written : (t : List ℕ) (L : Listing) → meant t ≡ listing L → WrittenAs t L
unfolding meant cut_answer
meant-written t L e = go (read t) refl e
  where
    listing_is : {A B : Listing} → listing A ≡ listing B → A ≡ B
    listing_is e = cc

    go : (a : Answer) → read t ≡ a → cut_answer a ≡ listing L → WrittenAs t L
    go (listing W) q f = record { written = W; reads = q; cut = sym (listing_is f) }
    go (refusal n p) q f = let z : ◌≡◌ {A = ℕ} 0 1 = cc in absurd (omega arith)

-- refused as it was read
pub meant-refused : (t : List ℕ) (n p : ℕ) → meant t ≡ refusal n p → read t ≡ refusal n p
unfolding meant cut_answer
meant-refused t n p e = go (read t) e
  where
    go : (a : Answer) → cut_answer a ≡ refusal n p → a ≡ refusal n p
    go (listing W) f = let z : ◌≡◌ {A = ℕ} 0 1 = cc in absurd (omega arith)
    go (refusal m q) f = f

pub refused-meant : (t : List ℕ) (n p : ℕ) → read t ≡ refusal n p → meant t ≡ refusal n p
unfolding meant cut_answer
refused-meant t n p e = ap cut_answer e

-- within the limits: the cut of a listing in form
pub meant_within : (t : List ℕ) (L : Listing) → meant t ≡ listing L → Within L
meant_within t L e =
    let w = meant-written t L e in
    subst Within (sym w.cut) (cut_within w.written (accepted_in_form t w.written w.reads).0.within)

-- ---- the rows of a cut listing

-- what a row says, cut
unfoldable pub cut_content : Content → Content
cut_content no_form = no_form
cut_content end_row = end_row
cut_content stmts_row = stmts_row
cut_content (module_row h) = module_row h
cut_content (line_row n) = line_row n
cut_content (to_row n) = to_row n
cut_content (simple_row malformed) = simple_row malformed
cut_content (simple_row invalid) = simple_row invalid
cut_content (simple_row (parsed d)) = simple_row (parsed (cut_simple d.0, d.1))
cut_content (cond_row k) = cond_row k

branch_cut : (t : BranchForm) (ds : List Content) → branch_contents t (map cut_content ds) ≡ map cut_content (branch_contents t ds)
unfolding branch_contents cut_content
branch_cut (to n) ds = refl
branch_cut stmts ds = rw (map-append cut_content ds (end_row ∷ []))
branch_cut absent ds = refl

stmts_cut : (s : Stmts) → stmt_contents (cut_stmts s) ≡ map cut_content (stmt_contents s)
unfolding cut_stmts stmt_contents cut_content
stmts_cut ∅ = refl
stmts_cut (s ▸ o) =
    ap (λ (l : List Content). l ++ (simple_row (parsed (cut_simple o, listed (cut_simple o))) ∷ [])) (stmts_cut s)
    ∙ ap (λ (n : ℕ). map cut_content (stmt_contents s) ++ (simple_row (parsed (cut_simple o, n)) ∷ [])) (simple_listed o)
    ∙ sym (map-append cut_content (stmt_contents s) _)
stmts_cut (branching s w t a u b) = rw (stmts_cut s, stmts_cut a, stmts_cut b) (simp (branch_cut, map-append))

lines_cut : (ls : Lines) → line_contents (cut_lines ls) ≡ map cut_content (line_contents ls)
unfolding cut_lines line_contents cut_content
lines_cut nolines = refl
lines_cut (line ls n s) = rw (lines_cut ls, stmts_cut s) (simp map-append)

pub contents_cut : (L : Listing) → contents (cut_listing L) ≡ map cut_content (contents L)
unfolding cut_listing contents cut_content
contents_cut L = rw (lines_cut L.lines) (simp map-append)
