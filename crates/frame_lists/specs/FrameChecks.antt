-- Laws of what the frame question checks, and of its list by the opening word. Assumes nothing.
use Prim.Native.Nat.{ℕ, zero, suc, ◌+◌, ◌*◌, ◌<◌, ◌≤◌}
use Rattle.std.specs.Prelude.{◌≡◌, List, [], Bool, Option, Some, None, MatchOption, Result, Ok, Err, ◌||◌, length, get_or}
use Rattle.std.specs.Option.{option_to_list}
use Rattle.std.proofs.Math.Path.{refl, sym, ap}
use Rattle.std.proofs.Common.{subst, ◌∙◌, arith}
use Rattle.std.proofs.Math.Bool.{true, false}
use borrow.Author.Tests.{ltb-false, lt-ltb, le-ltb}
use Rattle.std.proofs.Math.Dec.{ltb, leb, leb-suc-suc}
use Rattle.listings.specs.Listing.{Name}
use Rattle.listings.specs.Bytes.{pick}
use Rattle.listings.specs.Rows.{invalid, parsed, is_name, parse_name}
use Rattle.tokens.specs.Names.{as_key}
use Rattle.listings.specs.Records.{name_key}
use Rattle.listings.specs.Cut.{cut_name}
use Rattle.tables.specs.Columns.{call_word, word_of, fall_entry, succ_start, succ_count, succ_part}
use Rattle.graph_laws.specs.Adding.{decode}
use Rattle.graph.specs.Questions.{Reply, answer, refused, kept, if_room}
use Rattle.adjacency.specs.ListsAt.{successors_at, part_of}
use Rattle.adjacency.specs.ListsAtLaws.{successors_part}
use Rattle.frame_lists.specs.FrameAt.{ends_frame, keeps_shared, frame_read, short_tables, part_outside, fall_outside, frame_outside, frame_in, frame_at}
use Rattle.frame_slices.specs.FrameAnswer.{FrameAnswered}
use Rattle.statements.specs.StatementAt.{no_statement_in, unless_refused, refused_by}
use Rattle.statements.specs.StatementLaws.{refusal_passes, answer_passes, statement_inside}
use Rattle.layout.specs.declared.refusals.Reason.{Reason}
use Rattle.layout.specs.declared.refusals.Reason.TheVariants as reason
use Rattle.layout.specs.declared.refusals.Refusal.{Refusal}

-- ---- inside the tables

pub record PartInside (counts lists succ : List ℕ) (i : ℕ) : Type 0 where
  pub is_node : i < get_or counts 1 0
  pub in_lists : get_or counts 1 0 * 4 ≤ length lists
  pub in_succ : succ_start lists i + succ_count lists i ≤ length succ

pub record FrameInside (counts stmts args falls lists succ : List ℕ) (h i : ℕ) : Type 0 where
  pub in_stmts : i * 12 < length stmts
  pub in_args : i * 64 < length args
  pub in_falls : i * 3 < length falls
  pub header : PartInside counts lists succ h
  pub node : PartInside counts lists succ i

-- so the successors of node i are that part of their table
pub part_is : (counts lists succ : List ℕ) (i : ℕ) → PartInside counts lists succ i → part_of (successors_at counts lists (length succ) i) succ ≡ succ_part lists succ i
part_is counts lists succ i p = successors_part counts lists succ i p.is_node p.in_lists p.in_succ

either_false : (a b : Bool) → (a || b) ≡ false → (a ≡ false) × (b ≡ false)
either_false true b e = let z : ◌≡◌ {A = ℕ} 0 1 = cc in absurd (omega arith)
either_false false b e = (refl, e)

pub record Fits (n stmts args falls lists : ℕ) : Type 0 where
  pub in_stmts : n * 12 ≤ stmts
  pub in_args : n * 64 ≤ args
  pub in_falls : n * 3 ≤ falls
  pub in_lists : n * 4 ≤ lists

pub fits : (n stmts args falls lists : ℕ) → short_tables n stmts args falls lists ≡ false → Fits n stmts args falls lists
unfolding short_tables
fits n stmts args falls lists e =
    let a = either_false (ltb stmts (n * 12)) (ltb args (n * 64) || (ltb falls (n * 3) || ltb lists (n * 4))) e in
    let b = either_false (ltb args (n * 64)) (ltb falls (n * 3) || ltb lists (n * 4)) a.1 in
    let c = either_false (ltb falls (n * 3)) (ltb lists (n * 4)) b.1 in
    record { in_stmts = ltb-false stmts (n * 12) a.0; in_args = ltb-false args (n * 64) b.0; in_falls = ltb-false falls (n * 3) c.0; in_lists = ltb-false lists (n * 4) c.1 }

-- ---- a fall, as the code reads it

fall_test : (n e : ℕ) (o : Option ℕ) (r : Bool) → option_to_list o ≡ decode e → MatchOption o (r ≡ false) (λ k. r ≡ leb n k) → r ≡ ltb n e
fall_test n zero None r h m = m ∙ sym (le-ltb n 0 (omega arith))
fall_test n zero (Some k) r h m = cc
fall_test n (suc e) None r h m = cc
fall_test n (suc e) (Some k) r h m = let z : k ≡ e = cc in m ∙ ap (leb n) z ∙ sym (leb-suc-suc n e)

-- where a call, by its opening word w, falls
pub fall_call : (n : ℕ) (stmts falls : List ℕ) (i w : ℕ) (o : Option ℕ) (r : Bool) → w ≡ word_of stmts i → call_word w ≡ true → option_to_list o ≡ fall_entry falls i → MatchOption o (r ≡ false) (λ k. r ≡ leb n k)
    → r ≡ fall_outside n stmts falls i
unfolding fall_outside fall_entry
fall_call n stmts falls i w o r d e h m = rw (← d, e) (fall_test n (get_or falls (i * 3) 0) o r h m)

module _ (n : ℕ) (stmts args falls lists succ : List ℕ) (h i : ℕ) where
  part_inside : (counts : List ℕ) → n ≡ get_or counts 1 0 → (j : ℕ) → j < n → n * 4 ≤ length lists → part_outside lists succ j ≡ false → PartInside counts lists succ j
  unfolding part_outside
  part_inside counts d j l a e = record { is_node = omega arith; in_lists = omega arith; in_succ = ltb-false (length succ) (succ_start lists j + succ_count lists j) e }

  pub inside : (counts : List ℕ) → n ≡ get_or counts 1 0 → h < n → i < n → frame_outside n stmts args falls lists succ h i ≡ false → FrameInside counts stmts args falls lists succ h i
  unfolding frame_outside
  inside counts d a b e =
      let s = short_tables n (length stmts) (length args) (length falls) (length lists) in
      let p = either_false s (part_outside lists succ h || (part_outside lists succ i || fall_outside n stmts falls i)) e in
      let q = either_false (part_outside lists succ h) (part_outside lists succ i || fall_outside n stmts falls i) p.1 in
      let r = either_false (part_outside lists succ i) (fall_outside n stmts falls i) q.1 in
      let f = fits n (length stmts) (length args) (length falls) (length lists) p.0 in
      record {
        in_stmts = omega (arith, f.in_stmts);
        in_args = omega (arith, f.in_args);
        in_falls = omega (arith, f.in_falls);
        header = part_inside counts d h a f.in_lists q.0;
        node = part_inside counts d i b f.in_lists r.0;
      }

  pub rows_inside : frame_outside n stmts args falls lists succ h i ≡ false → n * 12 ≤ length stmts
  unfolding frame_outside
  rows_inside e =
      let s = short_tables n (length stmts) (length args) (length falls) (length lists) in
      (fits n (length stmts) (length args) (length falls) (length lists) (either_false s (part_outside lists succ h || (part_outside lists succ i || fall_outside n stmts falls i)) e).0).in_stmts

  -- ---- the answer's cases

  module _ (lines k : ℕ) (flag : Bool) (room : ℕ) where
    pub in_24_header : n ≤ h → frame_in lines n stmts args falls lists succ h i k flag room ≡ refused 24 h
    unfolding frame_in
    in_24_header a = rw (le-ltb h n a) refl

    pub in_24_node : h < n → n ≤ i → frame_in lines n stmts args falls lists succ h i k flag room ≡ refused 24 i
    unfolding frame_in
    in_24_node a b = rw (lt-ltb h n a, le-ltb i n b) refl

    pub in_25 : h < n → i < n → frame_outside n stmts args falls lists succ h i ≡ true → frame_in lines n stmts args falls lists succ h i k flag room ≡ refused 25 0
    unfolding frame_in
    in_25 a b e = rw (lt-ltb h n a, lt-ltb i n b, e) refl

    module _ (a : h < n) (b : i < n) (e : frame_outside n stmts args falls lists succ h i ≡ false) where
      by_record : unless_refused (no_statement_in lines stmts n i) (if_room room (frame_read stmts args falls lists succ h i k flag)) ≡ frame_in lines n stmts args falls lists succ h i k flag room
      unfolding frame_in
      by_record = rw (lt-ltb h n a, lt-ltb i n b, e, statement_inside lines stmts n i b (rows_inside e)) refl

      pub in_26 : (m p : ℕ) → refused m p ≡ refused_by (no_statement_in lines stmts n i) → frame_in lines n stmts args falls lists succ h i k flag room ≡ refused m p
      in_26 m p f = sym (refusal_passes _ _ m p f ∙ by_record)

      pub in_list : answer (tt {0}) ≡ refused_by (no_statement_in lines stmts n i) → if_room room (frame_read stmts args falls lists succ h i k flag) ≡ frame_in lines n stmts args falls lists succ h i k flag room
      in_list f = answer_passes _ _ f ∙ by_record

-- ---- the list, by the opening word w and the first argument a

module _ (stmts args falls lists succ : List ℕ) (h i k : ℕ) (flag : Bool) (w a : ℕ) (ew : w ≡ word_of stmts i) (ea : a ≡ get_or args (i * 64) 0) where
  pub read-ended : ends_frame w a k ≡ true → [] ≡ frame_read stmts args falls lists succ h i k flag
  unfolding frame_read
  read-ended e = rw (← ew, ← ea, e) refl

  module _ (e : ends_frame w a k ≡ false) where
    pub read_kept : keeps_shared w flag ≡ true → (own shared : List ℕ) → own ≡ succ_part lists succ i → shared ≡ succ_part lists succ h → kept shared own ≡ frame_read stmts args falls lists succ h i k flag
    unfolding frame_read
    read_kept f own shared eo es = rw (← ew, ← ea, e, f, eo, es) refl

    module _ (f : keeps_shared w flag ≡ false) where
      pub read_call : call_word w ≡ true → (l : List ℕ) → l ≡ fall_entry falls i → l ≡ frame_read stmts args falls lists succ h i k flag
      unfolding frame_read
      read_call g l el = rw (← ew, ← ea, e, f, g) el

      pub read_all : call_word w ≡ false → (own : List ℕ) → own ≡ succ_part lists succ i → own ≡ frame_read stmts args falls lists succ h i k flag
      unfolding frame_read
      read_all g own eo = rw (← ew, ← ea, e, f, g) eo

-- ---- the name

-- it is judged and its key taken at once
pub name_taken : (v : Name) (k : ℕ) → Ok k ≡ as_key (parse_name v) → (is_name v ≡ true) × (k ≡ name_key (cut_name v))
unfolding parse_name
name_taken v k = go (is_name v) refl
  where
    go : (t : Bool) → is_name v ≡ t → Ok k ≡ as_key (pick t (parsed v) invalid) → (is_name v ≡ true) × (k ≡ name_key (cut_name v))
    go true e h = (e, cc)
    go false e h = cc

pub name_refused : (v : Name) (x : Result ℕ Reason) → x ≡ as_key (parse_name v) → ((k : ℕ) → x ≡ Ok k → ⊥) → (is_name v ≡ false) × (x ≡ Err reason.BadWord)
unfolding parse_name
name_refused v x = go (is_name v) refl
  where
    go : (t : Bool) → is_name v ≡ t → x ≡ as_key (pick t (parsed v) invalid) → ((k : ℕ) → x ≡ Ok k → ⊥) → (is_name v ≡ false) × (x ≡ Err reason.BadWord)
    go true e h n = absurd (n (name_key (cut_name v)) h)
    go false e h n = (e, h)

pub answer_as : (q p : Reply (List ℕ)) (out t : List ℕ) (r : Result ℕ Refusal) → q ≡ p → FrameAnswered q out t r → FrameAnswered p out t r
answer_as q p out t r e g = subst (λ (z : Reply (List ℕ)). FrameAnswered z out t r) e g

module _ (lines n : ℕ) (stmts args falls lists succ : List ℕ) (h i : ℕ) (v : Name) (flag : Bool) (room : ℕ) where
  pub at_3 : is_name v ≡ false → frame_at lines n stmts args falls lists succ h i v flag room ≡ refused 3 0
  unfolding frame_at
  at_3 e = rw e refl

  pub at_name : (k : ℕ) → is_name v ≡ true → k ≡ name_key (cut_name v) → frame_in lines n stmts args falls lists succ h i k flag room ≡ frame_at lines n stmts args falls lists succ h i v flag room
  unfolding frame_at
  at_name k e f = rw (e, f) refl
