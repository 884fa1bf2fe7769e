-- What the rows of an accepted file say, one after the other: the contents of the listing that the file means. Assumes
-- nothing.
use Rattle.std.specs.Prelude.{◌≡◌, refl, ℕ, zero, suc, ◌+◌, ◌*◌, ◌≤◌, Bool, true, false, ◌&&◌, ◌||◌, List, [], ◌∷◌, ◌++◌, eqb, ltb, leb, length, drop}
use Rattle.std.proofs.Common.{ap, ◌∙◌, append_assoc, append-nil, arith}
use Rattle.std.proofs.Math.Option.{Option, none, some}
use Rattle.listings.specs.Bytes.{pick}
use Rattle.listings.specs.Listing.{if, to, stmts, absent, Stmts, ∅, ◌▸◌, branching, Lines, nolines, line, Listing, count}
use Rattle.listings.specs.ListingText.{listed}
use Rattle.listings.specs.Rows.{parsed, Content, end_row, stmts_row, module_row, line_row, simple_row, cond_row}
use Rattle.listings.specs.Read.{Outcome, taken, refused, check, Answer, listing, refusal}
use Rattle.listings.specs.Scan.{index_of}
use Rattle.listing_laws.specs.Contents.{contents, line_contents, stmt_contents, branch_contents}
use Rattle.program_files.specs.Program.{Placed, uncovered, counted, join_go, Found, found, lacks, Action, does, jumps, holds, action, pass_over, Body, body, bad, map_body, body_of, Offence, sooner, soonest, foreign, lacking, offences, with_line, stmts_in, judged, program, lines_from, loaded, read_program}
use Rattle.basic.specs.Rows.{ends_then, emits, rows_by, line_rows, lines_at}
use Rattle.basic.specs.RowLaws.{line_rows_more}

-- ---- the statements of a line

-- what body_of makes of a statement that was found
statement : ℕ → Stmts → Found Action → Body
statement k s (lacks p) = bad p
statement k s (found (does o) r) = body_of k (s ▸ o) (pass_over r)
statement k s (found (jumps n) r) = body (branching s if (to n) ∅ absent ∅)
statement k s (found holds r) = map_body (λ a. branching s if stmts a absent ∅) (body_of k ∅ r)

-- the statements behind a THEN, inside its IF
then_rows : (s : Stmts) (b : Body) (t : Stmts) (ds : List Content) → ((a : Stmts) → b ≡ body a → stmt_contents a ≡ ds)
    → map_body (λ a. branching s if stmts a absent ∅) b ≡ body t → stmt_contents t ≡ stmt_contents s ++ (cond_row if ∷ stmts_row ∷ (ds ++ ends_then 2 []))
unfolding map_body stmt_contents branch_contents ends_then
then_rows s (bad p) t ds f h = absurd (cc)
then_rows s (body a) t ds f h =
    let e : t ≡ branching s if stmts a absent ∅ = cc in
    let q : (ds ++ (end_row ∷ [])) ++ (end_row ∷ []) ≡ ds ++ (end_row ∷ end_row ∷ []) = append_assoc ds (end_row ∷ []) (end_row ∷ []) in
    rw (e, f a refl) (ap (λ (l : List Content). stmt_contents s ++ (cond_row if ∷ stmts_row ∷ l)) q)

abbrev BodyRows : ℕ → Type 0
BodyRows k = (s : Stmts) (l : List Placed) (t : Stmts) → body_of k s l ≡ body t → stmt_contents t ≡ stmt_contents s ++ emits k l

found_rows : (k : ℕ) → BodyRows k → (s t : Stmts) (x : Found Action) → statement k s x ≡ body t → stmt_contents t ≡ stmt_contents s ++ rows_by k x
unfolding statement rows_by stmt_contents branch_contents
found_rows k f s t (lacks p) h = absurd (cc)
found_rows k f s t (found (does o) r) h = f (s ▸ o) (pass_over r) t h ∙ append_assoc (stmt_contents s) (simple_row (parsed (o, listed o)) ∷ []) (emits k (pass_over r))
found_rows k f s t (found (jumps n) r) h = let e : t ≡ branching s if (to n) ∅ absent ∅ = cc in rw e refl
found_rows k f s t (found holds r) h = then_rows s (body_of k ∅ r) t (emits k r) (λ a e. f ∅ r a e) h

none_more : (s t : Stmts) → body s ≡ body t → stmt_contents t ≡ stmt_contents s ++ []
none_more s t h = let e : t ≡ s = cc in rw (e, append-nil)

pub body_rows : (k : ℕ) (s : Stmts) (l : List Placed) (t : Stmts) → body_of k s l ≡ body t → stmt_contents t ≡ stmt_contents s ++ emits k l
unfolding body_of emits statement rows_by
body_rows zero s l t h = none_more s t h
body_rows (suc k) s [] t h = none_more s t h
body_rows (suc k) s (d ∷ l) t h = go (eqb d.1 0) (eqb d.1 58) (λ s l t h. body_rows k s l t h) h
  where
    go : (x y : Bool) → BodyRows k → pick x (body s) (pick y (body_of k s l) (statement k s (action k d.1 l))) ≡ body t
        → stmt_contents t ≡ stmt_contents s ++ pick x [] (pick y (emits k l) (rows_by k (action k d.1 l)))
    go true y f h = none_more s t h
    go false true f h = f s l t h
    go false false f h = found_rows k f s t (action k d.1 l) h

-- ---- the lines

no_offence : (a : Offence) (o : Option Offence) → sooner a o ≡ none → ⊥
unfolding sooner
no_offence a none h = absurd (cc)
no_offence a (some b) h = go (ltb a.0 b.0 || (eqb a.0 b.0 && leb a.1 b.1)) h
  where
    go : (x : Bool) → pick x (some a) (some b) ≡ none → ⊥
    go true h = absurd (cc)
    go false h = absurd (cc)

no_offences : (os us : List Offence) → soonest (os ++ us) ≡ none → soonest us ≡ none
unfolding soonest
no_offences [] us h = h
no_offences (o ∷ os) us h = absurd (no_offence o (soonest (os ++ us)) h)

-- then its bytes are statements
is_body_soonest : (m : Body) (us : List Offence) → soonest (lacking m ++ us) ≡ none → m ≡ body (stmts_in m)
unfolding lacking soonest stmts_in
is_body_soonest (body s) us h = refl
is_body_soonest (bad p) us h = absurd (no_offence (p, 35) (soonest us) h)

is_body : (e q n : ℕ) (l : List ℕ) (cs : List Placed) (m : Body) → soonest (offences e q n l cs m) ≡ none → m ≡ body (stmts_in m)
unfolding offences
is_body e q n l cs m h = is_body_soonest m _ (no_offences (foreign cs) _ (no_offences (pick (leb n 63999) [] ((q, 35) ∷ [])) _ h))

-- a test that a line passed
checked : (x : Bool) (n : ℕ) (o : Outcome Lines) (ms : Lines) → check x n o ≡ taken ms → o ≡ taken ms
unfolding check
checked true n o ms h = h
checked false n o ms h = absurd (cc)

taken_is : (ls : Lines) (n : ℕ) (s : Stmts) (ms : Lines) → with_line ls n s ≡ taken ms → ms ≡ line ls n s
unfolding with_line
taken_is ls n s ms h =
    let e : taken (line ls n s) ≡ taken ms = checked _ 8 _ ms (checked _ 7 _ ms (checked _ 6 _ ms (checked _ 5 _ ms (checked _ 4 _ ms h)))) in
    cc

judged_is : (ls : Lines) (n : ℕ) (b : Body) (o : Option Offence) (f : Lines → Answer) (L : Listing) → judged ls n b o f ≡ listing L
    → (o ≡ none) × (f (line ls n (stmts_in b)) ≡ listing L)
unfolding judged
judged_is ls n b (some o) f L h = absurd (cc)
judged_is ls n b none f L h = (refl, go (with_line ls n (stmts_in b)) refl h)
  where
    go : (x : Outcome Lines) → with_line ls n (stmts_in b) ≡ x → elim x [ refused m ↦ refusal m (count ls) | taken ms ↦ f ms ] ≡ listing L
        → f (line ls n (stmts_in b)) ≡ listing L
    go (refused m) e h = absurd (cc)
    go (taken ms) e h = rw (taken_is ls n (stmts_in b) ms e) at h

-- ds, the rows of all lines and the module's last, are those of the lines ls, and of what follows
pub record AreRows (L : Listing) (ls : Lines) (ds : List Content) : Type 0 where
  pub handlers : L.handlers ≡ false
  pub rows : line_contents L.lines ++ (end_row ∷ []) ≡ line_contents ls ++ ds

ended : (ls : Lines) (L : Listing) → listing (record { handlers = false; lines = ls }) ≡ listing L → AreRows L ls (end_row ∷ [])
ended ls L h =
    let e : L ≡ record { handlers = false; lines = ls } = cc in
    rw e (record { handlers = refl; rows = refl })

ends_there : (ls : Lines) (L : Listing) (e : ℕ) (x : Bool) → pick x (listing (record { handlers = false; lines = ls })) (refusal 33 e) ≡ listing L → AreRows L ls (end_row ∷ [])
ends_there ls L e true h = ended ls L h
ends_there ls L e false h = absurd (cc)

-- a line before others
more_rows : (L : Listing) (ls : Lines) (n : ℕ) (s : Stmts) (es ds : List Content) → stmt_contents s ≡ es → AreRows L (line ls n s) ds
    → AreRows L ls (line_row (parsed n) ∷ (es ++ (end_row ∷ ds)))
unfolding line_contents
more_rows L ls n s es ds h r =
    let q : (line_contents ls ++ (line_row (parsed n) ∷ (stmt_contents s ++ (end_row ∷ [])))) ++ ds ≡ line_contents ls ++ (line_row (parsed n) ∷ (es ++ (end_row ∷ ds))) =
    append_assoc (line_contents ls) (line_row (parsed n) ∷ (stmt_contents s ++ (end_row ∷ []))) ds
    ∙ ap (λ (l : List Content). line_contents ls ++ (line_row (parsed n) ∷ l)) (append_assoc (stmt_contents s) (end_row ∷ []) ds ∙ ap (λ (l : List Content). l ++ (end_row ∷ ds)) h) in
    record { handlers = r.handlers; rows = r.rows ∙ q }

abbrev LinesAre : ℕ → Type 0
LinesAre k = (e : ℕ) (ls : Lines) (p : ℕ) (l : List ℕ) (L : Listing) → lines_from k e ls p l ≡ listing L → AreRows L ls (line_rows k p l)

pub lines_are_lem : (k : ℕ) → LinesAre k
unfolding lines_from line_rows program stmt_contents
lines_are_lem zero e ls p l L h = absurd (cc)
lines_are_lem (suc k) e ls p [] L h = absurd (cc)
lines_are_lem (suc k) e ls p (a ∷ []) L h = absurd (cc)
lines_are_lem (suc k) e ls p (a ∷ b ∷ []) L h = ends_there ls L e (eqb a 0 && eqb b 0) h
lines_are_lem (suc k) e ls p (a ∷ b ∷ c ∷ []) L h = ends_there ls L e (eqb a 0 && eqb b 0) h
lines_are_lem (suc k) e ls p (a ∷ b ∷ c ∷ d ∷ l) L h = go (eqb a 0 && eqb b 0) (λ e ls p l L h. lines_are_lem k e ls p l L h) h
  where
    cs : List Placed
    cs = counted uncovered (p + 4) l

    m : Body
    m = body_of (length cs) ∅ (join_go cs)

    n : ℕ
    n = c + 256 * d

    o : Option Offence
    o = soonest (offences e (p + 2) n l cs m)

    rest : Lines → Answer
    rest ms = lines_from k e ms (p + 5 + index_of 0 l) (drop (suc (index_of 0 l)) l)

    behind : List Content
    behind = line_rows k (p + 5 + index_of 0 l) (drop (suc (index_of 0 l)) l)

    go : (x : Bool) → LinesAre k → pick x (listing (record { handlers = false; lines = ls })) (judged ls n m o rest) ≡ listing L
        → AreRows L ls (pick x (end_row ∷ []) (line_row (parsed n) ∷ (emits (length cs) (join_go cs) ++ (end_row ∷ behind))))
    go true f h = ended ls L h
    go false f h =
        let j = judged_is ls n m o rest L h in
        let s = stmts_in m in
        let b : m ≡ body s = is_body e (p + 2) n l cs m j.0 in
        more_rows L ls n s (emits (length cs) (join_go cs)) behind (body_rows (length cs) ∅ (join_go cs) s b) (f e (line ls n s) (p + 5 + index_of 0 l) (drop (suc (index_of 0 l)) l) L j.1)

-- ---- the file

loaded_are : (e : ℕ) (f : List ℕ) (L : Listing) → length f ≤ e → loaded e f ≡ listing L → AreRows L nolines (lines_at f 2)
unfolding loaded
loaded_are e [] L i h = absurd (cc)
loaded_are e (a ∷ []) L i h = absurd (cc)
loaded_are e (a ∷ b ∷ l) L i h = rw (line_rows_more (length l) (suc e) 2 l (omega arith) (omega arith)) (lines_are_lem (suc e) e nolines 2 l L h)

pub rows_are_lem : (f : List ℕ) (L : Listing) → read_program f ≡ listing L → module_row false ∷ lines_at f 2 ≡ contents L
unfolding read_program contents line_contents
rows_are_lem f L h = go (leb (length f) 65536) h
  where
    go : (x : Bool) → pick x (loaded (length f) f) (refusal 1 0) ≡ listing L → module_row false ∷ lines_at f 2 ≡ contents L
    go true h = let r = loaded_are (length f) f L (omega arith) h in rw (r.handlers, r.rows) refl
    go false h = absurd (cc)
