-- Laws of the rows that a file gives: which come first and what follows, and that more fuel than there are bytes
-- changes nothing. Assumes nothing.
use Rattle.std.specs.Prelude.{◌≡◌, refl, ℕ, zero, suc, ◌+◌, ◌*◌, ◌≤◌, ◌<◌, Bool, true, false, ◌&&◌, List, [], ◌∷◌, ◌++◌, eqb, length, get_or, take, drop, Some}
use Rattle.std.proofs.Common.{sym, ap, ◌∙◌, subst, append_assoc, add-one, arith, ne_eqb, eqb-true, get_or-drop, length-drop, drop-drop, drop-cons}
use Rattle.std.proofs.Math.Decide.{dec_le}
use Rattle.listings.specs.Bytes.{pick}
use Rattle.listings.specs.Listing.{Simple, if}
use Rattle.listings.specs.ListingText.{simple_word, listed}
use Rattle.listings.specs.Records.{args_of, detail_of}
use Rattle.listings.specs.Rows.{parsed, Content, end_row, stmts_row, module_row, line_row, to_row, simple_row, cond_row}
use Rattle.listings.specs.Scan.{index_of}
use Rattle.listings.specs.WordTable.{word_index}
use Rattle.program_files.specs.Program.{Placed, uncovered, counted, join_go, Found, found, lacks, map_found, Action, does, jumps, holds, action, pass_over}
use Rattle.basic.specs.Covers.{cover_of}
use Rattle.basic.specs.Cursors.{tokens_at, ahead, IsNext, next_more, join-length}
use Rattle.basic.specs.Lines.{word_at}
use Rattle.basic.specs.declared.actions.Action.TheVariants as code
use Rattle.basic.specs.Actions.{coded, fuel, args_in}
use Rattle.basic.specs.Items.{put_front}
use Rattle.basic.specs.ItemLaws.{front_args}
use Rattle.basic.specs.Fuel.{Shorter, action_shorter, action_more, pass_shorter}
use Rattle.basic.specs.Rests.{Rest, whole, past, rest-zero, action-rest, pass_rest, zero_at, tokens_zero, Ordered, ordered_lower, ordered_head, rest_ordered, tokens_ordered, action_plain}
use Rattle.basic.specs.Rows.{ends_then, emits, IsDue, line_rows, lines_at, lines_behind, statements_at, contents_from, rows_by, action_rows, SimpleIs, FirstOf, Yields}
use Rattle.basic.specs.declared.cursors.Cursor.{Cursor}
use Rattle.basic.specs.declared.cursors.Token.{Token}
use Rattle.basic.specs.declared.cover.Cover.TheVariants as Cover
use Rattle.basic.specs.declared.sources.Stage.TheVariants as stage
use Rattle.basic.specs.declared.sources.Source.{Source}
use Rattle.basic.specs.declared.sources.FileRow.TheVariants as row
use Rattle.basic.specs.declared.sources.Simple as code_row
use Rattle.basic.specs.declared.sources.Sourced.{Sourced}

-- ---- statements

pub emits_end : (k : ℕ) (d : Placed) (l : List Placed) → d.1 ≡ 0 → emits k (d ∷ l) ≡ []
unfolding emits
emits_end zero d l e = refl
emits_end (suc k) d l e = rw e refl

pub emits_colon : (k : ℕ) (d : Placed) (l : List Placed) → d.1 ≡ 58 → emits (suc k) (d ∷ l) ≡ emits k l
unfolding emits
emits_colon k d l e = rw e refl

pub emits-action : (k : ℕ) (d : Placed) (l : List Placed) → (d.1 ≡ 0 → ⊥) → (d.1 ≡ 58 → ⊥) → emits (suc k) (d ∷ l) ≡ rows_by k (action k d.1 l)
unfolding emits rows_by
emits-action k d l h g = rw (ne_eqb d.1 0 h, ne_eqb d.1 58 g) refl

rows_more : (k j : ℕ) → ((l : List Placed) → length l ≤ k → length l ≤ j → emits k l ≡ emits j l) → (n : ℕ) → n ≤ k → n ≤ j → (x : Found Action) → Shorter (suc n) x
    → rows_by k x ≡ rows_by j x
unfolding rows_by
rows_more k j more n u v (lacks p) h = refl
rows_more k j more n u v (found (does o) r) h = rw (more (pass_over r) (omega (arith, pass_shorter r)) (omega (arith, pass_shorter r))) refl
rows_more k j more n u v (found (jumps m) r) h = refl
rows_more k j more n u v (found holds r) h = rw (more r (omega arith) (omega arith)) refl

pub emits_more : (k j : ℕ) (l : List Placed) → length l ≤ k → length l ≤ j → emits k l ≡ emits j l
unfolding emits rows_by
emits_more zero zero l h i = refl
emits_more zero (suc j) [] h i = refl
emits_more (suc k) zero [] h i = refl
emits_more (suc k) (suc j) [] h i = refl
emits_more zero (suc j) (d ∷ l) h i = absurd (omega arith)
emits_more (suc k) zero (d ∷ l) h i = absurd (omega arith)
emits_more (suc k) (suc j) (d ∷ l) h i =
    let e : rows_by k (action k d.1 l) ≡ rows_by j (action j d.1 l) =
    rows_more k j (λ m. emits_more k j m) (length l) (omega arith) (omega arith) (action k d.1 l) (action_shorter k d.1 l)
    ∙ ap (rows_by j) (action_more k j d.1 l (omega arith) (omega arith)) in
    go (eqb d.1 0) (eqb d.1 58) (emits_more k j l (omega arith) (omega arith)) e
  where
    go : (x y : Bool) → emits k l ≡ emits j l → rows_by k (action k d.1 l) ≡ rows_by j (action j d.1 l)
        → ◌≡◌ {A = List Content} (pick x [] (pick y (emits k l) (rows_by k (action k d.1 l)))) (pick x [] (pick y (emits j l) (rows_by j (action j d.1 l))))
    go true y a b = refl
    go false true a b = a
    go false false a b = b

-- ---- a line

-- behind two cursors before one zero the same follows
pub behind-same : (f : List ℕ) (c e : Cursor) → zero_at (tokens_at f e) ≡ zero_at (tokens_at f c) → lines_behind f e ≡ lines_behind f c
behind-same f c e h =
    let z : e.at + index_of 0 (drop e.at f) ≡ c.at + index_of 0 (drop c.at f) = sym (tokens_zero f e) ∙ (h ∙ tokens_zero f c) in
    ap (λ (n : ℕ). lines_at f (n + 1)) z

-- the statements from a later cursor of the line on
pub statements_are : (f : List ℕ) (c e : Cursor) (k n : ℕ) (l : List Placed) → tokens_at f e ≡ l → length l ≤ k → zero_at l ≡ zero_at (tokens_at f c)
    → statements_at f e n ≡ emits k l ++ ends_then n (lines_behind f c)
statements_are f c e k n l h i z =
    rw (h, behind-same f c e (ap zero_at h ∙ z), emits_more (length l) k l (omega arith) i) refl

pub ends_more : (n : ℕ) (ds : List Content) → ends_then (n + 1) ds ≡ end_row ∷ ends_then n ds
unfolding ends_then
ends_more n ds = rw add-one refl

pub ends-join : (ds es : List Content) (n : ℕ) → (ds ++ ends_then 2 []) ++ ends_then n es ≡ ds ++ ends_then (n + 2) es
unfolding ends_then
ends-join ds es n = append_assoc ds (end_row ∷ end_row ∷ []) (ends_then n es) ∙ (let z : n + 2 ≡ suc (suc n) = omega arith in rw z refl)

-- ---- what the code found

-- a statement with its word and so many arguments
pub record IsDoes (x : Found Action) (w n : ℕ) (r : List Placed) : Type 0 where
  pub simple : Simple
  pub is : x ≡ found (does simple) r
  pub word : w ≡ word_index (simple_word simple)
  pub count : n ≡ length (args_of simple)

pub coded_does : (x : Found Action) (w n : ℕ) (r : List Placed) → found (code.Does w n) r ≡ map_found coded x → IsDoes x w n r
unfolding map_found coded
coded_does (lacks p) w n r h = absurd (cc)
coded_does (found (does o) q) w n r h = record { simple = o; is = cc; word = cc; count = cc }
coded_does (found (jumps m) q) w n r h = absurd (cc)
coded_does (found holds q) w n r h = absurd (cc)

pub coded-jumps : (x : Found Action) (n : ℕ) (r : List Placed) → found (code.Jumps n) r ≡ map_found coded x → x ≡ found (jumps n) r
unfolding map_found coded
coded-jumps (lacks p) n r h = absurd (cc)
coded-jumps (found (does o) q) n r h = absurd (cc)
coded-jumps (found (jumps m) q) n r h = cc
coded-jumps (found holds q) n r h = absurd (cc)

pub coded-holds : (x : Found Action) (r : List Placed) → found code.Holds r ≡ map_found coded x → x ≡ found holds r
unfolding map_found coded
coded-holds (lacks p) r h = absurd (cc)
coded-holds (found (does o) q) r h = absurd (cc)
coded-holds (found (jumps m) q) r h = absurd (cc)
coded-holds (found holds q) r h = cc

pub coded-lacks : (x : Found Action) (p : ℕ) → lacks p ≡ map_found coded x → x ≡ lacks p
unfolding map_found coded
coded-lacks (lacks q) p h = cc
coded-lacks (found (does o) q) p h = absurd (cc)
coded-lacks (found (jumps m) q) p h = absurd (cc)
coded-lacks (found holds q) p h = absurd (cc)

-- ---- lines

pub line_rows_more : (k j p : ℕ) (l : List ℕ) → length l ≤ k → length l ≤ j → line_rows k p l ≡ line_rows j p l
unfolding line_rows
line_rows_more zero zero p [] h i = refl
line_rows_more zero (suc j) p [] h i = refl
line_rows_more zero j p (a ∷ l) h i = absurd (omega arith)
line_rows_more (suc k) zero p [] h i = refl
line_rows_more (suc k) (suc j) p [] h i = refl
line_rows_more (suc k) zero p (a ∷ l) h i = absurd (omega arith)
line_rows_more (suc k) (suc j) p (a ∷ []) h i = refl
line_rows_more (suc k) (suc j) p (a ∷ b ∷ []) h i = refl
line_rows_more (suc k) (suc j) p (a ∷ b ∷ c ∷ []) h i = refl
line_rows_more (suc k) (suc j) p (a ∷ b ∷ c ∷ d ∷ l) h i =
    let n = suc (index_of 0 l) in
    let e : line_rows k (p + 5 + index_of 0 l) (drop n l) ≡ line_rows j (p + 5 + index_of 0 l) (drop n l) =
    line_rows_more k j (p + 5 + index_of 0 l) (drop n l) (omega (arith, length-drop n l)) (omega (arith, length-drop n l)) in
    rw e refl

-- ---- a line of a file

short_lines : (k p : ℕ) (l : List ℕ) → length l < 4 → line_rows k p l ≡ end_row ∷ []
unfolding line_rows
short_lines zero p l h = refl
short_lines (suc k) p [] h = refl
short_lines (suc k) p (a ∷ []) h = refl
short_lines (suc k) p (a ∷ b ∷ []) h = refl
short_lines (suc k) p (a ∷ b ∷ c ∷ []) h = refl
short_lines (suc k) p (a ∷ b ∷ c ∷ d ∷ l) h = absurd (omega arith)

-- where the file ends before the line's bytes
pub lines_short : (f : List ℕ) (p : ℕ) → length f < p + 4 → lines_at f p ≡ end_row ∷ []
lines_short f p h = short_lines (length (drop p f)) p (drop p f) (omega (arith, length-drop p f))

four : (f : List ℕ) (p : ℕ) → p + 4 ≤ length f → drop p f ≡ get_or f p 0 ∷ get_or f (p + 1) 0 ∷ get_or f (p + 2) 0 ∷ get_or f (p + 2 + 1) 0 ∷ drop (p + 4) f
four f p h =
    let a : suc p ≡ p + 1 = omega arith in
    let b : suc (p + 1) ≡ p + 2 = omega arith in
    let c : suc (p + 2) ≡ p + 2 + 1 = omega arith in
    let d : suc (p + 2 + 1) ≡ p + 4 = omega arith in
    drop-cons f p 0 (omega arith) ∙ ap (λ (l : List ℕ). get_or f p 0 ∷ l)
    (ap (λ (n : ℕ). drop n f) a ∙ drop-cons f (p + 1) 0 (omega arith) ∙ ap (λ (l : List ℕ). get_or f (p + 1) 0 ∷ l)
    (ap (λ (n : ℕ). drop n f) b ∙ drop-cons f (p + 2) 0 (omega arith) ∙ ap (λ (l : List ℕ). get_or f (p + 2) 0 ∷ l)
    (ap (λ (n : ℕ). drop n f) c ∙ drop-cons f (p + 2 + 1) 0 (omega arith) ∙ ap (λ (l : List ℕ). get_or f (p + 2 + 1) 0 ∷ l)
    (ap (λ (n : ℕ). drop n f) d))))

zero_lines_lem : (k p : ℕ) (l : List ℕ) → get_or l 0 0 + 256 * get_or l 1 0 ≡ 0 → line_rows k p l ≡ end_row ∷ []
unfolding line_rows
zero_lines_lem zero p l h = refl
zero_lines_lem (suc k) p [] h = refl
zero_lines_lem (suc k) p (a ∷ []) h = refl
zero_lines_lem (suc k) p (a ∷ b ∷ []) h = refl
zero_lines_lem (suc k) p (a ∷ b ∷ c ∷ []) h = refl
zero_lines_lem (suc k) p (a ∷ b ∷ c ∷ d ∷ l) h =
    let x : a ≡ 0 = omega arith in
    let y : b ≡ 0 = omega arith in
    rw (x, y) refl

-- where the link is 0
pub lines_end : (f : List ℕ) (p : ℕ) → word_at f p ≡ 0 → lines_at f p ≡ end_row ∷ []
lines_end f p h =
    let a : get_or (drop p f) 0 0 ≡ get_or f p 0 = get_or-drop p f 0 0 ∙ ap (λ (n : ℕ). get_or f n 0) (omega arith) in
    let b : get_or (drop p f) 1 0 ≡ get_or f (p + 1) 0 = get_or-drop p f 1 0 in
    zero_lines_lem (length (drop p f)) p (drop p f) (omega arith)

not_both : (a b : ℕ) → (a + 256 * b ≡ 0 → ⊥) → (eqb a 0 && eqb b 0) ≡ false
not_both a b h = go (eqb a 0) refl (eqb b 0) refl
  where
    go : (x : Bool) → eqb a 0 ≡ x → (y : Bool) → eqb b 0 ≡ y → (x && y) ≡ false
    go true u true v = absurd (h (omega (arith, eqb-true a 0 u, eqb-true b 0 v)))
    go true u false v = refl
    go false u y v = refl

-- the cursor at the first of a line's bytes
abbrev pub begins : ℕ → Cursor
begins p = record { at = p; cover = Cover.Uncovered }

one_line : (f : List ℕ) (p k a b c d : ℕ) → (a + 256 * b ≡ 0 → ⊥) → length (drop (p + 4) f) ≤ k
    → line_rows (suc k) p (a ∷ b ∷ c ∷ d ∷ drop (p + 4) f) ≡ line_row (parsed (c + 256 * d)) ∷ statements_at f (begins (p + 4)) 1
unfolding line_rows ends_then cover_of
one_line f p k a b c d h g =
    let l = drop (p + 4) f in
    let cs = counted uncovered (p + 4) l in
    let i = index_of 0 l in
    let q : p + 5 + i ≡ p + 4 + i + 1 = omega arith in
    let n : p + 4 + suc i ≡ p + 4 + i + 1 = omega arith in
    let m : drop (suc i) l ≡ drop (p + 4 + i + 1) f = drop-drop (suc i) (p + 4) f ∙ ap (λ (z : ℕ). drop z f) n in
    let x : emits (length cs) (join_go cs) ≡ emits (length (join_go cs)) (join_go cs) = emits_more (length cs) (length (join_go cs)) (join_go cs) (join-length cs) (omega arith) in
    let y : line_rows k (p + 5 + i) (drop (suc i) l) ≡ lines_at f (p + 4 + i + 1) =
    line_rows_more k (length (drop (suc i) l)) (p + 5 + i) (drop (suc i) l) (omega (arith, length-drop (suc i) l)) (omega arith)
    ∙ (rw (q, m) refl) in
    rw (not_both a b h, x, y) refl

-- where it is not
pub lines_line : (f : List ℕ) (p n : ℕ) → p + 4 ≤ length f → (word_at f p ≡ 0 → ⊥) → n ≡ word_at f (p + 2) → lines_at f p ≡ line_row (parsed n) ∷ statements_at f (begins (p + 4)) 1
lines_line f p n h g e =
    rw (e, four f p h) (one_line f p (suc (suc (suc (length (drop (p + 4) f))))) (get_or f p 0) (get_or f (p + 1) 0) (get_or f (p + 2) 0) (get_or f (p + 2 + 1) 0) g (omega arith))

-- where there is none
pub lines_unlinked : (f : List ℕ) (p : ℕ) → (p + 4 ≤ length f → word_at f p ≡ 0) → lines_at f p ≡ end_row ∷ []
lines_unlinked f p h = elim (dec_le (p + 4) (length f)) [ yes q ↦ lines_end f p (h q) | no q ↦ lines_short f p (omega arith) ]

pub behind-none : (f : List ℕ) (c : Cursor) → length f ≤ c.at → lines_at f c.at ≡ lines_behind f c
behind-none f c h = lines_short f c.at (omega arith) ∙ sym (lines_short f (c.at + index_of 0 (drop c.at f) + 1) (omega arith))

-- ---- a statement's row, and what is due behind it

-- what is due at each stage
pub due_module : (f : List ℕ) (s : Source) → s.stage ≡ stage.Module → contents_from f s ≡ module_row false ∷ lines_at f s.at.at
unfolding contents_from
due_module f s e = rw e refl

pub due_line : (f : List ℕ) (s : Source) → s.stage ≡ stage.Line → contents_from f s ≡ lines_at f s.at.at
unfolding contents_from
due_line f s e = rw e refl

pub due_statements : (f : List ℕ) (s : Source) → s.stage ≡ stage.Statements → contents_from f s ≡ statements_at f s.at s.ends
unfolding contents_from
due_statements f s e = rw e refl

pub due_to : (f : List ℕ) (s : Source) (n : ℕ) → s.stage ≡ stage.To n → contents_from f s ≡ to_row (parsed n) ∷ ends_then s.ends (lines_behind f s.at)
unfolding contents_from
due_to f s n e = rw e refl

pub due_stmts : (f : List ℕ) (s : Source) → s.stage ≡ stage.Stmts → contents_from f s ≡ stmts_row ∷ statements_at f s.at s.ends
unfolding contents_from
due_stmts f s e = rw e refl

pub due_ends : (f : List ℕ) (s : Source) → s.stage ≡ stage.Ends → contents_from f s ≡ ends_then s.ends (lines_behind f s.at)
unfolding contents_from
due_ends f s e = rw e refl

pub due_ended : (f : List ℕ) (s : Source) → s.stage ≡ stage.Ended → contents_from f s ≡ []
unfolding contents_from
due_ended f s e = rw e refl

-- a statement's arguments, at the front of a part that has room for them
pub args_stand : {z z' : List ℕ} {d : Content} {s : code_row.Simple} (h : SimpleIs z z' d s) → length (args_of h.simple) ≤ length z → take s.count z' ≡ args_of h.simple
args_stand {z} {s = s} h few = ap (take s.count) h.args ∙ ap (λ (k : ℕ). take k (put_front (args_of h.simple) z)) h.count ∙ front_args (args_of h.simple) z few

pub first_rw : {z z' : List ℕ} (f : List ℕ) (ds es : List Content) (r : Sourced) → ds ≡ es → FirstOf f z z' es r → FirstOf f z z' ds r
first_rw f ds es r e h = record { content = h.content; says = h.says; behind = e ∙ h.behind }

-- a row that the stage alone says
pub module_first : {z z' : List ℕ} (f : List ℕ) (s t : Source) → s.stage ≡ stage.Module → t ≡ record s { stage = stage.Line } → FirstOf f z z' (contents_from f s) (record { row = row.Module; next = t })
unfolding contents_from
module_first f s t e g =
    record { content = module_row false; says = refl; behind = due_module f s e ∙ ap (λ (l : List Content). module_row false ∷ l) (sym (ap (contents_from f) g)) }

pub to_first : {z z' : List ℕ} (f : List ℕ) (s t : Source) (n : ℕ) → s.stage ≡ stage.To n → t ≡ record s { stage = stage.Ends } → FirstOf f z z' (contents_from f s) (record { row = row.To n; next = t })
unfolding contents_from
to_first f s t n e g =
    record { content = to_row (parsed n); says = refl; behind = due_to f s n e ∙ ap (λ (l : List Content). to_row (parsed n) ∷ l) (sym (ap (contents_from f) g)) }

pub stmts_first : {z z' : List ℕ} (f : List ℕ) (s t : Source) → s.stage ≡ stage.Stmts → t ≡ record s { stage = stage.Statements } → FirstOf f z z' (contents_from f s) (record { row = row.Stmts; next = t })
unfolding contents_from
stmts_first f s t e g = record { content = stmts_row; says = refl; behind = due_stmts f s e ∙ ap (λ (l : List Content). stmts_row ∷ l) (sym (ap (contents_from f) g)) }

-- what a statement at a cursor left is before the same zero, and no longer
left-zero : (k b : ℕ) (l r : List Placed) (a : Action) → action k b l ≡ found a r → zero_at r ≡ zero_at l
left-zero k b l r a e = let h : Rest r l = rw e at (action-rest k b l) in rest-zero h

left-length : (k b : ℕ) (l r : List Placed) (a : Action) → action k b l ≡ found a r → length r ≤ length l
left-length k b l r a e = let h : length r < suc (length l) = rw e at (action_shorter k b l) in omega arith

left_ordered : (k b : ℕ) (l r : List Placed) (a : Action) (p n : ℕ) → action k b l ≡ found a r → Ordered p n l → Ordered p n r
left_ordered k b l r a p n e o = let h : Rest r l = rw e at (action-rest k b l) in rest_ordered h o

pub does_ordered : (f : List ℕ) (b : ℕ) (at c e : Cursor) (w k p n : ℕ) → found (code.Does w k) (tokens_at f c) ≡ map_found coded (action (fuel f at) b (tokens_at f at))
    → tokens_at f e ≡ pass_over (tokens_at f c) → Ordered p n (tokens_at f at) → Ordered p n (tokens_at f e)
does_ordered f b at c e w k p n h g o =
    let d = coded_does (action (fuel f at) b (tokens_at f at)) w k (tokens_at f c) h in
    rw g (rest_ordered (pass_rest (tokens_at f c)) (left_ordered (fuel f at) b (tokens_at f at) (tokens_at f c) (does d.simple) p n d.is o))

pub jumps_ordered : (f : List ℕ) (b : ℕ) (at c : Cursor) (m p n : ℕ) → found (code.Jumps m) (tokens_at f c) ≡ map_found coded (action (fuel f at) b (tokens_at f at))
    → Ordered p n (tokens_at f at) → Ordered p n (tokens_at f c)
jumps_ordered f b at c m p n h o = left_ordered (fuel f at) b (tokens_at f at) (tokens_at f c) (jumps m) p n (coded-jumps (action (fuel f at) b (tokens_at f at)) m (tokens_at f c) h) o

pub holds_ordered : (f : List ℕ) (b : ℕ) (at c : Cursor) (p n : ℕ) → found code.Holds (tokens_at f c) ≡ map_found coded (action (fuel f at) b (tokens_at f at))
    → Ordered p n (tokens_at f at) → Ordered p n (tokens_at f c)
holds_ordered f b at c p n h o = left_ordered (fuel f at) b (tokens_at f at) (tokens_at f c) holds p n (coded-holds (action (fuel f at) b (tokens_at f at)) (tokens_at f c) h) o

module _ (f : List ℕ) (b : ℕ) (at : Cursor) (s : Source) (line : zero_at (tokens_at f at) ≡ zero_at (tokens_at f s.at)) where
  pub lacks-first : {z z' : List ℕ} (p : ℕ) (r : Sourced) → lacks p ≡ map_found coded (action (fuel f at) b (tokens_at f at)) → FirstOf f z z' (ends_then s.ends (lines_behind f s.at)) r → FirstOf f z z' (action_rows f b at s) r
  unfolding rows_by
  lacks-first p r h g =
      let e : action (fuel f at) b (tokens_at f at) ≡ lacks p = coded-lacks (action (fuel f at) b (tokens_at f at)) p h in
      let q : action_rows f b at s ≡ ends_then s.ends (lines_behind f s.at) = rw e refl in
      first_rw f (action_rows f b at s) (ends_then s.ends (lines_behind f s.at)) r q g

  pub does_first : {z z' : List ℕ} (c e : Cursor) (w n : ℕ) (t : Source) → found (code.Does w n) (tokens_at f c) ≡ map_found coded (action (fuel f at) b (tokens_at f at)) → tokens_at f e ≡ pass_over (tokens_at f c)
      → IsDue f stage.Statements e (s.ends + 0) t → z' ≡ put_front (args_in (action (fuel f at) b (tokens_at f at))) z
      → FirstOf f z z' (action_rows f b at s) (record { row = row.Simple (record { word = w; count = n }); next = t })
  unfolding rows_by args_in
  does_first {z} c e w n t h g u a =
      let k = fuel f at in
      let r = tokens_at f c in
      let d = coded_does (action k b (tokens_at f at)) w n r h in
      let p : detail_of d.simple ≡ 0 = rw d.is at (action_plain k b (tokens_at f at)) in
      let left : zero_at (pass_over r) ≡ zero_at (tokens_at f s.at) = rest-zero (pass_rest r) ∙ (left-zero k b (tokens_at f at) r (does d.simple) d.is ∙ line) in
      let m : length (pass_over r) ≤ k = omega (arith, pass_shorter r, left-length k b (tokens_at f at) r (does d.simple) d.is) in
      let n : t.ends ≡ s.ends = omega (arith, u.ends) in
      let y : contents_from f t ≡ emits k (pass_over r) ++ ends_then s.ends (lines_behind f s.at) =
      due_statements f t u.stage ∙ (statements_are f s.at t.at k t.ends (pass_over r) (u.same ∙ g) m left ∙ ap (λ (i : ℕ). emits k (pass_over r) ++ ends_then i (lines_behind f s.at)) n) in
      record {
        content = simple_row (parsed (d.simple, listed d.simple));
        says = record { simple = d.simple; content = refl; word = d.word; count = d.count; detail = p; args = a ∙ ap (λ (x : Found Action). put_front (args_in x) z) d.is };
        behind = ap (λ (x : Found Action). rows_by k x ++ ends_then s.ends (lines_behind f s.at)) d.is ∙ ap (λ (l : List Content). simple_row (parsed (d.simple, listed d.simple)) ∷ l) (sym y);
      }

  pub jumps-first : {z z' : List ℕ} (c : Cursor) (n : ℕ) (t : Source) → found (code.Jumps n) (tokens_at f c) ≡ map_found coded (action (fuel f at) b (tokens_at f at))
      → IsDue f (stage.To n) c (s.ends + 1) t → FirstOf f z z' (action_rows f b at s) (record { row = row.If; next = t })
  unfolding rows_by
  jumps-first c n t h u =
      let k = fuel f at in
      let r = tokens_at f c in
      let x : action k b (tokens_at f at) ≡ found (jumps n) r = coded-jumps (action k b (tokens_at f at)) n r h in
      let z : zero_at (tokens_at f t.at) ≡ zero_at (tokens_at f s.at) = ap zero_at u.same ∙ (left-zero k b (tokens_at f at) r (jumps n) x ∙ line) in
      let y : contents_from f t ≡ to_row (parsed n) ∷ end_row ∷ ends_then s.ends (lines_behind f s.at) =
      due_to f t n u.stage ∙ (rw (u.ends, behind-same f s.at t.at z, ends_more s.ends (lines_behind f s.at)) refl) in
      record {
        content = cond_row if;
        says = refl;
        behind = ap (λ (x : Found Action). rows_by k x ++ ends_then s.ends (lines_behind f s.at)) x ∙ ap (λ (l : List Content). cond_row if ∷ l) (sym y);
      }

  pub holds-first : {z z' : List ℕ} (c : Cursor) (t : Source) → found code.Holds (tokens_at f c) ≡ map_found coded (action (fuel f at) b (tokens_at f at))
      → IsDue f stage.Stmts c (s.ends + 2) t → FirstOf f z z' (action_rows f b at s) (record { row = row.If; next = t })
  unfolding rows_by
  holds-first c t h u =
      let k = fuel f at in
      let r = tokens_at f c in
      let x : action k b (tokens_at f at) ≡ found holds r = coded-holds (action k b (tokens_at f at)) r h in
      let z : zero_at r ≡ zero_at (tokens_at f s.at) = left-zero k b (tokens_at f at) r holds x ∙ line in
      let y : contents_from f t ≡ stmts_row ∷ (emits k r ++ ends_then (s.ends + 2) (lines_behind f s.at)) =
      due_stmts f t u.stage ∙ ap (λ (l : List Content). stmts_row ∷ l) (statements_are f s.at t.at k t.ends r u.same (left-length k b (tokens_at f at) r holds x) z
      ∙ ap (λ (i : ℕ). emits k r ++ ends_then i (lines_behind f s.at)) u.ends) in
      let j : (emits k r ++ ends_then 2 []) ++ ends_then s.ends (lines_behind f s.at) ≡ emits k r ++ ends_then (s.ends + 2) (lines_behind f s.at) =
      ends-join (emits k r) (lines_behind f s.at) s.ends in
      record {
        content = cond_row if;
        says = refl;
        behind = ap (λ (x : Found Action). rows_by k x ++ ends_then s.ends (lines_behind f s.at)) x
            ∙ ap (λ (l : List Content). cond_row if ∷ l) (ap (λ (l : List Content). stmts_row ∷ l) j ∙ sym y);
      }

-- ---- colons before a statement

-- behind colons, at c, the same is due
pub record Passed (f : List ℕ) (s : Source) (c : Cursor) : Type 0 where
  pub rows : emits (fuel f s.at) (tokens_at f s.at) ≡ emits (fuel f c) (tokens_at f c)
  pub line : zero_at (tokens_at f c) ≡ zero_at (tokens_at f s.at)
  pub later : Ordered s.at.at (length f) (tokens_at f c)

pub passed_none : (f : List ℕ) (s : Source) → Passed f s s.at
passed_none f s = record { rows = refl; line = refl; later = tokens_ordered f s.at }

module _ (f : List ℕ) (s : Source) (c : Cursor) (t : Token) (h : Passed f s c) (e : IsNext (tokens_at f) c t) where
  pub passed_end : {z z' : List ℕ} (r : Sourced) → t.byte ≡ 0 → FirstOf f z z' (ends_then s.ends (lines_behind f s.at)) r → FirstOf f z z' (statements_at f s.at s.ends) r
  passed_end r z g =
      let x : emits (fuel f c) (tokens_at f c) ≡ [] = ap (emits (fuel f c)) e ∙ emits_end (fuel f c) (t.place, t.byte) (ahead (tokens_at f) t) z in
      first_rw f (statements_at f s.at s.ends) (ends_then s.ends (lines_behind f s.at)) r (ap (λ (l : List Content). l ++ ends_then s.ends (lines_behind f s.at)) (h.rows ∙ x)) g

  module _ (more : t.byte ≡ 0 → ⊥) where
    next_is : tokens_at f c ≡ (t.place, t.byte) ∷ tokens_at f t.next
    next_is = next_more (tokens_at f) c t e more

    next_ordered : (s.at.at ≤ t.place) × (t.place < length f) × Ordered (suc t.place) (length f) (tokens_at f t.next)
    next_ordered =
        let o = ordered_head (subst (Ordered s.at.at (length f)) next_is h.later) in
        (o.0, o.1 (ne_eqb t.byte 0 more), o.2)

    pub next_later : Ordered (suc s.at.at) (length f) (tokens_at f t.next)
    next_later = ordered_lower (omega (arith, next_ordered.0)) next_ordered.2

    pub next_line : zero_at (tokens_at f t.next) ≡ zero_at (tokens_at f s.at)
    next_line =
        let q : Rest (tokens_at f t.next) ((t.place, t.byte) ∷ tokens_at f t.next) = past (ne_eqb t.byte 0 more) whole in
        rest-zero q ∙ (sym (ap zero_at next_is) ∙ h.line)

    pub passed_colon : t.byte ≡ 58 → Passed f s t.next
    passed_colon z =
        let q : emits (fuel f c) (tokens_at f c) ≡ emits (fuel f t.next) (tokens_at f t.next) =
        ap (λ (l : List Placed). emits (length l) l) next_is ∙ emits_colon (fuel f t.next) (t.place, t.byte) (tokens_at f t.next) z in
        record { rows = h.rows ∙ q; line = next_line; later = ordered_lower (omega arith) next_later }

    pub passed_first : {z z' : List ℕ} (r : Sourced) → (t.byte ≡ 58 → ⊥) → FirstOf f z z' (action_rows f t.byte t.next s) r → FirstOf f z z' (statements_at f s.at s.ends) r
    passed_first r z g =
        let q : emits (fuel f c) (tokens_at f c) ≡ rows_by (fuel f t.next) (action (fuel f t.next) t.byte (tokens_at f t.next)) =
        ap (λ (l : List Placed). emits (length l) l) next_is ∙ emits-action (fuel f t.next) (t.place, t.byte) (tokens_at f t.next) more z in
        first_rw f (statements_at f s.at s.ends) (action_rows f t.byte t.next s) r (ap (λ (l : List Content). l ++ ends_then s.ends (lines_behind f s.at)) (h.rows ∙ q)) g

-- ---- a row that was found is the first

pub due_yields : {z z' : List ℕ} (f : List ℕ) (s : Source) (ds : List Content) (r : Sourced) → contents_from f s ≡ ds → FirstOf f z z' ds r → Yields f z z' s (Some r)
due_yields f s ds r e h = first_rw f (contents_from f s) ds r e h
