-- The line entries, found in one pass from the last line (document 02, L4). Assumes nothing.
-- Apart from the definition of entries: L12 gives this pass up.
use Rattle.std.specs.Prelude.{ℕ, zero, suc, ◌+◌, ◌*◌, ◌-◌, ◌<◌, ◌≤◌, ◌≡◌, refl, List, [], ◌∷◌, ◌++◌, length, set, take, drop, get_or, replicate}
use Rattle.std.proofs.Common.{sym, ap, ◌∙◌, subst, arith, add-one, sub-one, lt-ltb, le-ltb, length-append, append_assoc, append-nil, take-append-drop, take-take, length-take-le, drop_of_length-le, drop-cons, drop-drop, take_at, drop_at}
use Rattle.std.proofs.lemmas.List.{drop-replicate, set_at}
use Rattle.std.proofs.Math.Seq.{get_or_at}
use Rattle.std.proofs.Math.Option.{Option, none}
use Rattle.listings.specs.Listing.{Stmts, ∅, ◌▸◌, branching, Lines, nolines, line, size, total, count}
use Rattle.listings.specs.Records.{rec_rows, padded, stmt_recs, line_recs, line_numbers}
use Rattle.listing_laws.specs.ReadingRecords.{lines_length, numbers-count}
use Rattle.graph.specs.Nodes.{line_entry, entries_before, entries}
use Rattle.graph_laws.specs.Adding.{node_number}
use Rattle.passes.specs.Held.{LinesHeld, StmtsHeld}
use Rattle.passes.specs.FallLaws.{RecsAt, recs_split, recs_at}
use Rattle.passes.specs.Falls.{target_of}
use Rattle.passes.specs.Connecting.{Begins, line_begins}
use Rattle.passes.specs.LineEntries.{entry_pairs, entry_rows, pairs_append, pairs_length, entries-length, rows-length, EntriesComputed}

-- ---- what the pass is

-- both entries of row l
abbrev pub put_row : (u : List ℕ) (l number node : ℕ) → List ℕ
put_row u l number node = set (set u (l * 2 + 0) number) (l * 2 + 1) node

-- "the lines from there to the last have their entries by the definition and the earlier ones are untouched": l, how
-- many lines are not met yet, so that line l was met last; t, the table before the pass; u, the table now
pub record Entered (ls : Lines) (t : List ℕ) (l : ℕ) (u : List ℕ) : Type 0 where
  pub entered : drop (l * 2) u ≡ drop (l * 2) (entry_rows ls) ++ drop (count ls * 2) t
  pub untouched : take (l * 2) u ≡ take (l * 2) t

-- "the pass meets each line once": it begins behind the last line, and each step stores one row, that of the line before
-- the one that was met last
pub data Pass (ls : Lines) (t : List ℕ) : ℕ → List ℕ → Type 0 where
  begun : Pass ls t (count ls) t
  met : {l : ℕ} {u : List ℕ} (number node : ℕ) → Pass ls t (suc l) u → Entered ls t l (put_row u l number node) → Pass ls t l (put_row u l number node)

-- the lines that it met, in the order in which they were met
unfoldable pub met_lines : {ls : Lines} {t : List ℕ} {l : ℕ} {u : List ℕ} → Pass ls t l u → List ℕ
met_lines begun = []
met_lines (met {l = l} number node p e) = met_lines p ++ (l ∷ [])

-- k numbers, falling: n - 1, n - 2, .., n - k
unfoldable pub down_from : ℕ → ℕ → List ℕ
down_from n zero = []
down_from n (suc k) = down_from n k ++ ((n - suc k) ∷ [])

pass_le : {ls : Lines} {t : List ℕ} {l : ℕ} {u : List ℕ} → Pass ls t l u → l ≤ count ls
pass_le begun = omega arith
pass_le (met number node p e) = omega (arith, pass_le p)

-- each line from l on, once, from the last one up
pub met_once : {ls : Lines} {t : List ℕ} {l : ℕ} {u : List ℕ} (p : Pass ls t l u) → met_lines p ≡ down_from (count ls) (count ls - l)
unfolding met_lines down_from
met_once {ls} begun = let z : count ls - count ls ≡ 0 = omega arith in rw z refl
met_once {ls} (met {l = l} number node p e) =
    let z : count ls - l ≡ suc (count ls - suc l) = omega (arith, pass_le p) in
    let y : count ls - suc (count ls - suc l) ≡ l = omega (arith, pass_le p) in
    rw (z, met_once p, y) refl

-- ---- how far it has come

-- the lines that are not met yet, and the entry of the first line that is, or none
pub data Behind (whole : Lines) : Lines → Option ℕ → Type 0 where
  all_left : Behind whole whole none
  one_less : {ls : Lines} {n : ℕ} {s : Stmts} {e : Option ℕ} → Behind whole (line ls n s) e → Behind whole ls (line_entry (total ls) s e)

-- the lines from l on are met; their statements are those from `from` on, and `next` is one more than the entry of line
-- l, or 0
pub record SoFar (ls : Lines) (t : List ℕ) (l from next : ℕ) (u : List ℕ) : Type 0 where
  pub lines : Lines
  pub entry : Option ℕ
  pub behind : Behind ls lines entry
  pub left : l ≡ count lines
  pub end_is : from ≡ total lines
  pub next_is : next ≡ node_number entry
  pub pass : Pass ls t l u

-- ---- the lines that are not met

-- the records of a table hold theirs first
behind_held : {ls front : Lines} {e : Option ℕ} (stmts : List ℕ) → Behind ls front e → RecsAt stmts 0 (line_recs ls) → RecsAt stmts 0 (line_recs front)
unfolding line_recs
behind_held stmts all_left h = h
behind_held stmts (one_less {ls = front} {s = s} b) h = (recs_split stmts 0 (line_recs front) (stmt_recs (count front) 0 0 (total front) s) (behind_held stmts b h)).0

-- and so do its numbers
behind_numbers : {ls front : Lines} {e : Option ℕ} → Behind ls front e → (more : List ℕ) × (line_numbers ls ≡ line_numbers front ++ more)
unfolding line_numbers
behind_numbers {ls} all_left = ([], sym (append-nil (line_numbers ls)))
behind_numbers (one_less {ls = front} {n = n} b) = let q = behind_numbers b in (n ∷ q.0, q.1 ∙ append_assoc (line_numbers front) (n ∷ []) q.0)

-- and the rows of the definition
behind_rows : {ls front : Lines} {e : Option ℕ} → Behind ls front e → (more : List ℕ) × (entry_rows ls ≡ entry_pairs (entries_before e front) ++ more)
unfolding entry_rows entries entries_before entry_pairs
behind_rows {ls} all_left = ([], sym (append-nil (entry_pairs (entries_before none ls))))
behind_rows (one_less {ls = front} {n = n} {s = s} {e = e} b) =
    let q = behind_rows b in
    let d = line_entry (total front) s e in (
      n ∷ node_number d ∷ q.0,
      q.1 ∙ ap (λ (l : List ℕ). l ++ q.0) (pairs_append (entries_before d front) ((n, d) ∷ [])) ∙ append_assoc (entry_pairs (entries_before d front)) (n ∷ node_number d ∷ []) q.0,
    )

-- a line's entry is its first statement, or else that of the line behind it
entry_is : (i : ℕ) (s : Stmts) (e : Option ℕ) → target_of i (i + size s) (node_number e) ≡ node_number (line_entry i s e)
unfolding line_entry size
entry_is i ∅ e = rw (le-ltb i (i + 0) (omega arith)) refl
entry_is i (s ▸ o) e = rw (lt-ltb i (i + size (s ▸ o)) (omega arith)) (add-one i)
entry_is i (branching s w t a u b) e = rw (lt-ltb i (i + size (branching s w t a u b)) (omega arith)) (add-one i)

-- ---- a step

-- front: the lines before the one that is met, which is n with the statements s; e: the entry of the line behind it
module _ {ls front : Lines} {n : ℕ} {s : Stmts} {e : Option ℕ} (b : Behind ls (line front n s) e) where
  number_is : (lines rest : List ℕ) → lines ≡ line_numbers ls ++ rest → get_or lines (count front) 0 ≡ n
  unfolding line_numbers
  number_is lines rest h =
      let q = behind_numbers b in
      let z : lines ≡ line_numbers front ++ (n ∷ (q.0 ++ rest)) = h ∙ ap (λ (l : List ℕ). l ++ rest) q.1 ∙ simp append_assoc in
      ap (λ (l : List ℕ). get_or l (count front) 0) z ∙ get_or_at (line_numbers front) n (q.0 ++ rest) 0 (count front) (numbers-count front)

  starts_at : (stmts rest : List ℕ) (from : ℕ) → stmts ≡ rec_rows (line_recs ls) ++ rest → Begins stmts (count front) (total front + size s) from → from ≡ total front
  unfolding line_recs
  starts_at stmts rest from h begins =
      let held : RecsAt stmts 0 (line_recs ls) = subst (λ (t : List ℕ). RecsAt t 0 (line_recs ls)) (sym h) (recs_at (line_recs ls) [] rest 0 refl) in
      let q = recs_split stmts 0 (line_recs front) (stmt_recs (count front) 0 0 (total front) s) (behind_held stmts b held) in
      let z : 0 + length (line_recs front) ≡ total front = omega (arith, lines_length front) in
      let own : RecsAt stmts (total front) (stmt_recs (count front) 0 0 (total front) s) = rw z at q.1 in
      line_begins stmts front s q.0 own (total front + size s) from refl begins

  -- its row by the definition, and the rows behind it
  row_is : drop (count front * 2) (entry_rows ls) ≡ n ∷ node_number (line_entry (total front) s e) ∷ drop (suc (count front) * 2) (entry_rows ls)
  unfolding behind_rows
  row_is =
      let d = line_entry (total front) s e in
      let q = behind_rows (one_less b) in
      let p = behind_rows b in
      let k : length (entry_pairs (entries_before d front)) ≡ count front * 2 = pairs_length (entries_before d front) ∙ ap (λ (i : ℕ). i * 2) (entries-length d front) in
      let z : entry_rows ls ≡ entry_pairs (entries_before d front) ++ (n ∷ node_number d ∷ p.0) = q.1 in
      let y : drop (count front * 2) (entry_rows ls) ≡ n ∷ node_number d ∷ p.0 = ap (drop (count front * 2)) z ∙ drop_at (entry_pairs (entries_before d front)) (n ∷ node_number d ∷ p.0) (count front * 2) k in
      let x : drop (suc (count front) * 2) (entry_rows ls) ≡ p.0 = ap (λ (i : ℕ). drop i (entry_rows ls)) (omega arith) ∙ sym (drop-drop 2 (count front * 2) (entry_rows ls)) ∙ ap (drop 2) y in
      y ∙ ap (λ (l : List ℕ). n ∷ node_number d ∷ l) (sym x)

node_set : (p : List ℕ) (a b : ℕ) (u : List ℕ) (x l : ℕ) → length p ≡ l * 2 → set (p ++ (a ∷ b ∷ u)) (l * 2 + 1) x ≡ p ++ (a ∷ x ∷ u)
node_set p a b u x l e =
    ap (λ (t : List ℕ). set t (l * 2 + 1) x) (sym (append_assoc p (a ∷ []) (b ∷ u))) ∙ set_at (p ++ (a ∷ [])) b u x (l * 2 + 1) (simp length-append (omega arith)) ∙ append_assoc p (a ∷ []) (x ∷ u)

row_put : (p : List ℕ) (a b : ℕ) (u : List ℕ) (l number node : ℕ) → length p ≡ l * 2 → put_row (p ++ (a ∷ b ∷ u)) l number node ≡ p ++ (number ∷ node ∷ u)
row_put p a b u l number node e =
    let z : l * 2 + 0 ≡ l * 2 = omega arith in
    ap (λ (i : ℕ). set (set (p ++ (a ∷ b ∷ u)) i number) (l * 2 + 1) node) z ∙ ap (λ (t : List ℕ). set t (l * 2 + 1) node) (set_at p a (b ∷ u) number (l * 2) e) ∙ node_set p number b u node l e

-- a row that is put, between what stood before it and behind it
row_parts : (u : List ℕ) (l n d : ℕ) → l * 2 + 2 ≤ length u → put_row u l n d ≡ take (l * 2) u ++ (n ∷ d ∷ drop (suc l * 2) u)
row_parts u l n d h =
    let p = take (l * 2) u in
    let k : length p ≡ l * 2 = length-take-le (l * 2) u (omega arith) in
    let a = get_or u (l * 2) 0 in
    let b = get_or u (suc (l * 2)) 0 in
    let z : suc (suc (l * 2)) ≡ suc l * 2 = omega arith in
    let s : u ≡ p ++ (a ∷ b ∷ drop (suc l * 2) u) =
    sym (take-append-drop (l * 2) u) ∙ ap (λ (m : List ℕ). p ++ m) (drop-cons u (l * 2) 0 (omega arith) ∙ ap (λ (m : List ℕ). a ∷ m) (drop-cons u (suc (l * 2)) 0 (omega arith) ∙ ap (λ (i : ℕ). b ∷ drop i u) z)) in
    ap (λ (m : List ℕ). put_row m l n d) s ∙ row_put p a b (drop (suc l * 2) u) l n d k

-- where a line's row is put, the lines from there on are entered
enter : {ls : Lines} {t u : List ℕ} {l : ℕ} (n d : ℕ) → Entered ls t (suc l) u → drop (l * 2) (entry_rows ls) ≡ n ∷ d ∷ drop (suc l * 2) (entry_rows ls) → l * 2 + 2 ≤ length u → Entered ls t l (put_row u l n d)
enter {ls} {t} {u} {l} n d h e room =
    let p = take (l * 2) u in
    let k : length p ≡ l * 2 = length-take-le (l * 2) u (omega arith) in
    let parts = row_parts u l n d room in
    let less : (v : List ℕ) → take (l * 2) (take (suc l * 2) v) ≡ take (l * 2) v = λ v. take-take (l * 2) (suc l * 2) v (omega arith) in
    record {
      entered =
          ap (drop (l * 2)) parts ∙ drop_at p (n ∷ d ∷ drop (suc l * 2) u) (l * 2) k ∙ ap (λ (m : List ℕ). n ∷ d ∷ m) h.entered
          ∙ ap (λ (m : List ℕ). m ++ drop (count ls * 2) t) (sym e);
      untouched = ap (take (l * 2)) parts ∙ take_at p (n ∷ d ∷ drop (suc l * 2) u) (l * 2) k ∙ sym (less u) ∙ ap (take (l * 2)) h.untouched ∙ less t;
    }

pub pass_entered : {ls : Lines} {t : List ℕ} {l : ℕ} {u : List ℕ} → Pass ls t l u → Entered ls t l u
pass_entered {ls} {t} begun =
    record { entered = ap (λ (m : List ℕ). m ++ drop (count ls * 2) t) (sym (drop_of_length-le (entry_rows ls) {i = count ls * 2} (omega (arith, rows-length ls)))); untouched = refl }
pass_entered (met number node p e) = e

-- one line is met: "the pass meets each line once, and after each the lines from there to the last have their entries"
pub step_met : {ls : Lines} {t u : List ℕ} {l from next : ℕ} (lines stmts : List ℕ) (c m first x : ℕ) → LinesHeld ls lines c → StmtsHeld ls stmts m → l * 2 + 2 ≤ length u → SoFar ls t (suc l) from next u
    → Begins stmts l from first → x ≡ target_of first from next → SoFar ls t l first x (put_row u l (get_or lines l 0) x)
unfolding count total
step_met {ls} {t} {u} {l} {from} {next} lines stmts c m first x lh sh room f start entry = go f.lines f.entry f.behind f.left f.end_is f.next_is
  where
    go : (front : Lines) (e : Option ℕ) → Behind ls front e → suc l ≡ count front → from ≡ total front → next ≡ node_number e → SoFar ls t l first x (put_row u l (get_or lines l 0) x)
    go nolines e b c p q = absurd (omega arith)
    go (line front n s) e b c p q =
        let k : l ≡ count front = omega arith in
        let a : first ≡ total front = starts_at b stmts sh.rest first sh.rows (rw (k, p) at start) in
        let d = line_entry (total front) s e in
        let y : x ≡ node_number d = entry ∙ rw (a, p, q) (entry_is (total front) s e) in
        let z : get_or lines l 0 ≡ n = ap (λ (i : ℕ). get_or lines i 0) k ∙ number_is b lines lh.rest lh.rows in
        let r : drop (l * 2) (entry_rows ls) ≡ get_or lines l 0 ∷ x ∷ drop (suc l * 2) (entry_rows ls) = rw (z, y, k) (row_is b) in
        record {
          lines = front;
          entry = d;
          behind = one_less b;
          left = k;
          end_is = a;
          next_is = y;
          pass = met (get_or lines l 0) x f.pass (enter (get_or lines l 0) x (pass_entered f.pass) r room);
        }

-- ---- contracts, for every listing that the tables hold

-- of each table t that the pass began with, where the lines behind line l were met, line l is met too, and all that
-- `SoFar` says of it holds. from', next', u': how far the pass has come then, and the table
abbrev pub StepMet : (lines stmts : List ℕ) (n l from next from' next' : ℕ) (u u' : List ℕ) → Type 0
StepMet lines stmts n l from next from' next' u u' =
    (ls : Lines) (t : List ℕ) → LinesHeld ls lines (length lines) → StmtsHeld ls stmts n → SoFar ls t (suc l) from next u → SoFar ls t l from' next' u'

-- the lines from l on are met
abbrev pub PassedTo : (lines stmts : List ℕ) (n l from next : ℕ) (t u : List ℕ) → Type 0
PassedTo lines stmts n l from next t u = (ls : Lines) → LinesHeld ls lines (length lines) → StmtsHeld ls stmts n → SoFar ls t l from next u

pub pass_starts : (lines stmts : List ℕ) (n : ℕ) (t : List ℕ) → PassedTo lines stmts n (length lines) n 0 t t
pass_starts lines stmts n t ls lh sh = record { lines = ls; entry = none; behind = all_left; left = lh.counted; end_is = sh.counted; next_is = refl; pass = rw lh.counted begun }

pub pass_goes : (lines stmts : List ℕ) (n l from next from' next' : ℕ) (t u u' : List ℕ) → 0 < l → PassedTo lines stmts n l from next t u → StepMet lines stmts n (l - 1) from next from' next' u u'
    → PassedTo lines stmts n (l - 1) from' next' t u'
pass_goes lines stmts n zero from next from' next' t u u' h p m ls lh sh = absurd (omega arith)
pass_goes lines stmts n (suc l) from next from' next' t u u' h p m ls lh sh = m ls t lh sh (rw sub-one (p ls lh sh))

-- all lines are met; "nothing that a caller can see changes": what it leaves in a table of zeros
pub pass_computes : (lines stmts : List ℕ) (n l from next : ℕ) (t u : List ℕ) → l ≡ 0 → PassedTo lines stmts n l from next t u → EntriesComputed lines stmts (length lines) n t u
unfolding padded
pass_computes lines stmts n zero from next t u e p ls lh sh z =
    (pass_entered (p ls lh sh).pass).entered
    ∙ ap (λ (m : List ℕ). entry_rows ls ++ m) (ap (drop (count ls * 2)) z ∙ drop-replicate (count ls * 2) (length t) 0 ∙ ap (λ (k : ℕ). replicate (length t - k) 0) (sym (rows-length ls)))
pass_computes lines stmts n (suc l) from next t u e p ls lh sh z = absurd (omega arith)
