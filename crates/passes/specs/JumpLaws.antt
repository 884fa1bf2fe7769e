-- Laws of the table of links: a row's entries, one turn at a time, and what the reader's records say of them. Assumes
-- nothing.
use Rattle.std.specs.Prelude.{ℕ, zero, suc, ◌+◌, ◌*◌, ◌-◌, ◌≤◌, ◌<◌, ◌≡◌, refl, Bool, true, false, not, List, [], ◌∷◌, ◌++◌, eqb, leb, length, get_or, set, take, drop, replicate}
use Rattle.std.proofs.Common.{sym, ap, ◌∙◌, append_assoc, arith, add-one, leb-true, le-leb, ne_eqb, length-append, length-take, length-drop, length-set, take-append-drop, take_at, take-suc, take_all}
use Rattle.std.proofs.Math.Option.{none, some}
use Rattle.std.proofs.lemmas.Bool.{lt-leb}
use Rattle.std.proofs.lemmas.List.{length-replicate, set-append_left}
use Rattle.std.proofs.Math.ListN.{get_elem?}
use Rattle.std.proofs.lemmas.List.Edits.{sets}
use Rattle.std.proofs.Math.Seq.{take-append_seam, drop-append-add}
use Rattle.listings.specs.Bytes.{pick, bytes, same}
use Rattle.listings.specs.Every.{all[], all∷}
use Rattle.listings.specs.Listing.{goto, gosub, runto, ongoto, ongosub, jump, on, for, next, block, bare, if, ifelse, rcomp, Lines, total}
use Rattle.listings.specs.ListingText.{simple_word, cond_word, LinesOk}
use Rattle.listings.specs.Records.{Rec, args_of, line_recs, rec_row, arg_rows, padded, joined, arg_row}
use Rattle.reader.specs.Tables.{Wide, set_past}
use Rattle.reader.specs.ReadBack.{lines_wide}
use Rattle.listing_laws.specs.RecordLaws.{rec_at}
use Rattle.listings.specs.Rows.{opening_words}
use Rattle.listings.specs.WordTable.{words, first, word_index}
use Rattle.graph_laws.specs.Adding.{node_number}
use Rattle.graph.specs.Nodes.{NodeStmt, simple, cond, Node, LineEntry, Entries, entry_in, entry_of, entries, nodes_before, nodes}
use Rattle.graph_laws.specs.NodeLaws.{length-nodes}
use Rattle.graph.specs.NodeWords.{stmt_word, stmt_number}
use Rattle.graph_laws.specs.NodeRecords.{StmtIs, lines_match, match_at}
use Rattle.graph.specs.Targets.{on_simple}
use Rattle.passes.specs.Held.{StmtsHeld, ArgsHeld}
use Rattle.passes.specs.LineEntries.{numbers_of, at_place}
use Rattle.passes.specs.LineSearch.{EntryTable, EntryFound}
use Rattle.tables.specs.Stores.{sets-append}
use Rattle.passes.specs.Jumps.{jump_targets, stmt_targets, link_row, linked, names_lines, jump_count, RowLinked}
use Rattle.passes.specs.Dispatched.{take_node}

-- ---- the tests

pub words_low : (w : ℕ) → w < 7 → false ≡ names_lines w
unfolding names_lines
words_low w h = rw (lt-leb 7 w h)

pub words_high : (w : ℕ) → 7 ≤ w → 12 < w → false ≡ names_lines w
unfolding names_lines
words_high w g h = rw (le-leb 7 w g, lt-leb w 12 h)

pub words_in : (w : ℕ) → 7 ≤ w → w ≤ 12 → not (eqb w 9) ≡ names_lines w
unfolding names_lines
words_in w g h = rw (le-leb 7 w g, le-leb w 12 h)

pub count_in : (w c r : ℕ) → true ≡ names_lines w → c ≤ 64 → r ≡ c → r ≡ jump_count w c
unfolding jump_count
count_in w c r e h q = q ∙ rw (← e, le-leb c 64 h)

pub count_many : (w c : ℕ) → true ≡ names_lines w → 64 < c → 0 ≡ jump_count w c
unfolding jump_count
count_many w c e h = rw (← e, lt-leb c 64 h)

pub count_none : (w c : ℕ) → false ≡ names_lines w → 0 ≡ jump_count w c
unfolding jump_count
count_none w c e = rw (← e)

pub count_few : (w c : ℕ) → jump_count w c ≤ 64
unfolding jump_count
count_few w c = by_test (names_lines w) (leb c 64) refl
  where
    by_test : (x y : Bool) → leb c 64 ≡ y → pick x (pick y c 0) 0 ≤ 64
    by_test true true e = leb-true c 64 e
    by_test true false e = omega arith
    by_test false y e = omega arith

-- ---- a number above 65535

no_line : (es : List LineEntry) (n : ℕ) → 65535 < n → ((k : ℕ) → get_or (numbers_of es) k 0 ≤ 65535) → ◌≡◌ {A = ℕ} 0 (node_number (entry_in es n))
unfolding entry_in numbers_of
no_line [] n h f = refl
no_line (d ∷ es) n h f =
    let e : eqb d.0 n ≡ false = ne_eqb d.0 n (λ q. absurd (omega (arith, f 0))) in
    rw e (no_line es n h (λ k. f (suc k)))

pub large_number : (table : List ℕ) (c n : ℕ) → 65535 < n → EntryFound table c n 0
large_number table c n h es t = no_line es.rows n h t.small

-- ---- one row, entry by entry

pub link_length : (es : Entries) (ns : List ℕ) → length (link_row es ns) ≡ length ns
unfolding link_row
link_length es [] = refl
link_length es (n ∷ ns) = ap suc (link_length es ns)

link_append : (es : Entries) (k l : List ℕ) → link_row es (k ++ l) ≡ link_row es k ++ link_row es l
unfolding link_row
link_append es [] l = refl
link_append es (n ∷ k) l = ap (λ (x : List ℕ). node_number (entry_of es n) ∷ x) (link_append es k l)

pub link_start : (es : Entries) (args t : List ℕ) → t ≡ sets t 0 (link_row es (take 0 args))
unfolding link_row
link_start es args t = refl

pub link_step : (es : Entries) (args t u : List ℕ) (j x : ℕ) → j < length args → x ≡ node_number (entry_of es (get_or args j 0)) → u ≡ sets t 0 (link_row es (take j args))
    → set u j x ≡ sets t 0 (link_row es (take (j + 1) args))
unfolding link_row
link_step es args t u j x h ex eu =
    let a = get_or args j 0 in
    let F = link_row es (take j args) in
    let k : 0 + length F ≡ j = omega (arith, link_length es (take j args), length-take j args) in
    let q : link_row es (take (j + 1) args) ≡ F ++ (x ∷ []) = rw (add-one, take-suc args j 0 h, ex) (link_append es (take j args) (a ∷ [])) in
    ap (λ (z : List ℕ). set z j x) eu ∙ sym (ap (sets t 0) q ∙ sets-append t 0 F (x ∷ []) ∙ ap (λ (z : ℕ). set (sets t 0 F) z x) k)

pub link_end : (es : Entries) (args t u : List ℕ) (j c : ℕ) → j ≤ c → c ≤ j → u ≡ sets t 0 (link_row es (take j args)) → u ≡ sets t 0 (link_row es (take c args))
link_end es args t u j c h g e = let q : j ≡ c = omega arith in rw q at e

-- ---- a row as a part of the table

sets-left : (p q : List ℕ) (i : ℕ) (l : List ℕ) → i + length l ≤ length p → sets (p ++ q) i l ≡ sets p i l ++ q
sets-left p q i [] h = refl
sets-left p q i (a ∷ l) h =
    ap (λ (z : List ℕ). sets z (suc i) l) (set-append_left p q i a (omega arith)) ∙ sets-left (set p i a) q (suc i) l (simp length-set (omega arith))

sets-right : (p q : List ℕ) (i : ℕ) (l : List ℕ) → sets (p ++ q) (length p + i) l ≡ p ++ sets q i l
sets-right p q i [] = refl
sets-right p q i (a ∷ l) =
    let z : suc (length p + i) ≡ length p + suc i = omega arith in
    ap (λ (k : List ℕ). sets k (suc (length p + i)) l) (set_past p q i a) ∙ ap (λ (k : ℕ). sets (p ++ set q i a) k l) z ∙ sets-right p (set q i a) (suc i) l

pub sets_part : (t : List ℕ) (at w : ℕ) (l : List ℕ) → at + w ≤ length t → length l ≤ w
    → take at t ++ (sets (take w (drop at t)) 0 l ++ drop w (drop at t)) ≡ sets t at l
sets_part t at w l h g =
    let A = take w (drop at t) in
    let B = drop w (drop at t) in
    let l_a : length A ≡ w = simp (length-take, length-drop) (omega arith) in
    let l_p : length (take at t) + 0 ≡ at = simp length-take (omega arith) in
    let e : t ≡ take at t ++ (A ++ B) = sym (ap (λ (z : List ℕ). take at t ++ z) (take-append-drop w (drop at t)) ∙ take-append-drop at t) in
    sym
    (ap (λ (z : List ℕ). sets z at l) e ∙ ap (λ (k : ℕ). sets (take at t ++ (A ++ B)) k l) (sym l_p) ∙ sets-right (take at t) (A ++ B) 0 l
    ∙ ap (λ (z : List ℕ). take at t ++ z) (sets-left A B 0 l (omega arith)))

-- ---- the reader's arguments

-- the row of statement i
pub args_row : (rs : List Rec) (rest : List ℕ) (i : ℕ) (r : Rec) → Wide arg_row 64 rs → get_elem? rs i ≡ some r → take 64 (drop (i * 64) (arg_rows rs ++ rest)) ≡ arg_row r
unfolding joined
args_row [] rest i r w e = absurd (let z : ◌≡◌ {A = ℕ} 0 1 = cc in omega arith)
args_row (q ∷ rs) rest zero r (all∷ h hs) e = let p : q ≡ r = cc in rw append_assoc (take_at (arg_row q) (arg_rows rs ++ rest) 64 h ∙ ap arg_row p)
args_row (q ∷ rs) rest (suc i) r (all∷ h hs) e =
    let z : suc i * 64 ≡ length (arg_row q) + i * 64 = omega (arith, h) in
    rw (append_assoc, z, drop-append-add) (args_row rs rest i r hs e)

-- a row of 64 has no more arguments
pub row_few : (r : Rec) → length (arg_row r) ≡ 64 → length r.args ≤ 64
unfolding arg_row padded
row_few r h = omega (arith, h, length-append r.args (replicate (64 - length r.args) 0), length-replicate {A = ℕ} (64 - length r.args) 0)

pub few_at : {rs : List Rec} (i : ℕ) (r : Rec) → Wide arg_row 64 rs → get_elem? rs i ≡ some r → length r.args ≤ 64
few_at i r all[] e = absurd (let z : ◌≡◌ {A = ℕ} 0 1 = cc in omega arith)
few_at zero r (all∷ {a = q} h hs) e = let p : q ≡ r = cc in rw (← p) (row_few q h)
few_at (suc i) r (all∷ h hs) e = few_at i r hs e

none_either : (x : Bool) (l : List ℕ) → l ≡ [] → pick x l [] ≡ []
none_either true l h = h
none_either false l h = refl

-- the arguments that are line numbers, by the record's word
by_word_lem : (x : NodeStmt) (i : ℕ) (r : Rec) → StmtIs i x r → pick (names_lines (stmt_number x)) r.args [] ≡ stmt_targets x
unfolding names_lines stmt_number stmt_word stmt_targets on_simple jump_targets args_of word_index words first opening_words bytes same simple_word cond_word
by_word_lem (simple (jump goto n)) i r h = h.1
by_word_lem (simple (jump gosub n)) i r h = h.1
by_word_lem (simple (jump runto n)) i r h = h.1
by_word_lem (simple (on ongoto ns)) i r h = h.1
by_word_lem (simple (on ongosub ns)) i r h = h.1
by_word_lem (simple (for v t)) i r h = refl
by_word_lem (simple (next m ss)) i r h = refl
by_word_lem (simple (block w)) i r h = none_either (names_lines (stmt_number (simple (block w)))) r.args h.1
by_word_lem (simple (bare w)) i r h = none_either (names_lines (stmt_number (simple (bare w)))) r.args h.1
by_word_lem (cond if a b) i r h = refl
by_word_lem (cond ifelse a b) i r h = refl
by_word_lem (cond rcomp a b) i r h = refl

-- no more than there are
picked_few : (x : Bool) (l : List ℕ) → length l ≤ 64 → length (pick x l []) ≤ 64
picked_few true l h = h
picked_few false l h = omega arith

pub targets_few : (x : NodeStmt) (i : ℕ) (r : Rec) → StmtIs i x r → length r.args ≤ 64 → length (stmt_targets x) ≤ 64
targets_few x i r h f = rw (← by_word_lem x i r h) (picked_few (names_lines (stmt_number x)) r.args f)

take_picked : (x : Bool) (l : List ℕ) → length l ≤ 64 → take (pick x (pick (leb (length l) 64) (length l) 0) 0) (padded 64 l) ≡ pick x l []
unfolding padded
take_picked true l h = rw (le-leb (length l) 64 h) (take-append_seam l (replicate (64 - length l) 0))
take_picked false l h = refl

-- ---- all rows, one after the other

linked_snoc : (es : Entries) (t : List ℕ) (i : ℕ) (ns : List Node) (n : Node) → linked es t i (ns ++ (n ∷ [])) ≡ sets (linked es t i ns) ((i + length ns) * 64) (link_row es (stmt_targets n.stmt))
unfolding linked
linked_snoc es t i [] n = let z : i + 0 ≡ i = omega arith in rw z
linked_snoc es t i (m ∷ ns) n =
    let z : suc i + length ns ≡ i + suc (length ns) = omega arith in
    let t' = sets t (i * 64) (link_row es (stmt_targets m.stmt)) in
    linked_snoc es t' (suc i) ns n ∙ ap (λ (k : ℕ). sets (linked es t' (suc i) ns) (k * 64) (link_row es (stmt_targets n.stmt))) z

pub jumps-start : (es : Entries) (t : List ℕ) (ns : List Node) → t ≡ linked es t 0 (take 0 ns)
unfolding linked
jumps-start es t ns = refl

pub jumps_end : (ls : Lines) (t u : List ℕ) (i n : ℕ) → n ≡ total ls → n ≤ i → u ≡ linked (entries ls) t 0 (take i (nodes ls)) → u ≡ linked (entries ls) t 0 (nodes ls)
unfolding nodes
jumps_end ls t u i n en h e = e ∙ ap (linked (entries ls) t 0) (take_all i (nodes ls) (omega (arith, length-nodes none ls)))

-- the part of row i, lent to the routine that fills it
pub jumps-step : (table : List ℕ) (c : ℕ) (stmts args : List ℕ) (n : ℕ) (ls : Lines) → LinesOk ls → EntryTable (entries ls) table c → StmtsHeld ls stmts n → ArgsHeld ls args
    → (t u part : List ℕ) (i k : ℕ) → i < n → i * 64 + 64 ≤ length u → k ≡ jump_count (get_or stmts (i * 12 + 0) 0) (get_or stmts (i * 12 + 10) 0)
    → RowLinked table c (take 64 (drop (i * 64) args)) k (take 64 (drop (i * 64) u)) part → u ≡ linked (entries ls) t 0 (take i (nodes ls))
    → take (i * 64) u ++ (part ++ drop 64 (drop (i * 64) u)) ≡ linked (entries ls) t 0 (take (i + 1) (nodes ls))
unfolding nodes rec_row arg_row jump_count
jumps-step table c stmts args n ls ok et sh ah t u part i k h room ek row eu =
    let es = entries ls in
    let ns = nodes_before none ls in
    let nl : length ns ≡ total ls = length-nodes none ls in
    let p = at_place ns i (omega (arith, sh.counted)) in
    let m = match_at (lines_match none ls) i p.0 p.1 in
    let r = m.0 in
    let few = lines_wide ls ok in
    let fr : length r.args ≤ 64 = few_at i r few m.1 in
    let ew : get_or stmts (i * 12 + 0) 0 ≡ stmt_number p.0.stmt
    = ap (λ (x : List ℕ). get_or x (i * 12 + 0) 0) sh.rows ∙ rec_at (line_recs ls) sh.rest i 0 r m.1 (omega arith) ∙ m.2.word_is in
    let ec : get_or stmts (i * 12 + 10) 0 ≡ length r.args = ap (λ (x : List ℕ). get_or x (i * 12 + 10) 0) sh.rows ∙ rec_at (line_recs ls) sh.rest i 10 r m.1 (omega arith) in
    let ea : take 64 (drop (i * 64) args) ≡ padded 64 r.args = ap (λ (x : List ℕ). take 64 (drop (i * 64) x)) ah.rows ∙ args_row (line_recs ls) ah.rest i r few m.1 in
    let ek' : take k (take 64 (drop (i * 64) args)) ≡ stmt_targets p.0.stmt
    = rw (ea, ek, ew, ec) (take_picked (names_lines (stmt_number p.0.stmt)) r.args fr ∙ by_word_lem p.0.stmt (0 + i) r m.2.stmt_is) in
    let F = link_row es (stmt_targets p.0.stmt) in
    let ep : part ≡ sets (take 64 (drop (i * 64) u)) 0 F = row es et ∙ ap (λ (x : List ℕ). sets (take 64 (drop (i * 64) u)) 0 (link_row es x)) ek' in
    let lf : length F ≤ 64 = omega (arith, link_length es (stmt_targets p.0.stmt), targets_few p.0.stmt (0 + i) r m.2.stmt_is fr) in
    let li : (0 + length (take i ns)) * 64 ≡ i * 64 = omega (arith, length-take i ns, nl, sh.counted) in
    ap (λ (x : List ℕ). take (i * 64) u ++ (x ++ drop 64 (drop (i * 64) u))) ep ∙ sets_part u (i * 64) 64 F room lf ∙ ap (λ (x : List ℕ). sets x (i * 64) F) eu
    ∙ sym (rw (add-one i, take_node ns i p.0 p.1) (linked_snoc es t 0 (take i ns) p.0 ∙ rw li))

-- the part from `at` to `at + 64`
pub jumps-lent : (table : List ℕ) (c : ℕ) (stmts args : List ℕ) (n : ℕ) (ls : Lines) → LinesOk ls → EntryTable (entries ls) table c → StmtsHeld ls stmts n → ArgsHeld ls args
    → (t u part : List ℕ) (i k w : ℕ) → w ≡ 64 → i < n → i * 64 + 64 ≤ length u → k ≡ jump_count (get_or stmts (i * 12 + 0) 0) (get_or stmts (i * 12 + 10) 0)
    → RowLinked table c (take w (drop (i * 64) args)) k (take w (drop (i * 64) u)) part → u ≡ linked (entries ls) t 0 (take i (nodes ls))
    → take (i * 64) u ++ (part ++ drop w (drop (i * 64) u)) ≡ linked (entries ls) t 0 (take (i + 1) (nodes ls))
jumps-lent table c stmts args n ls ok et sh ah t u part i k w e h room ek row eu =
    rw e (jumps-step table c stmts args n ls ok et sh ah t u part i k h room ek (rw e at row) eu)

pub lent_length : (u part : List ℕ) (at w : ℕ) → at + w ≤ length u → length part ≡ length (take w (drop at u)) → length (take at u ++ (part ++ drop w (drop at u))) ≡ length u
lent_length u part at w h e =
    simp (length-append, length-take, length-drop) (omega (arith, e, length-take w (drop at u), length-drop at u))
