-- The tables that walks read, whoever wrote them: whether they can be read, and what a call that tests them leaves.
-- Assumes nothing.
use Rattle.std.specs.Prelude.{ℕ, ◌+◌, ◌*◌, ◌≤◌, ◌<◌, ◌≡◌, Bool, ◌&&◌, List, length, get_or}
use Rattle.std.proofs.Math.Path.{refl, ap}
use Rattle.std.proofs.Common.{◌∙◌, arith}
use Rattle.std.proofs.Math.Bool.{true, false}
use borrow.Author.Tests.{ltb-true, leb-true, lt-ltb, le-leb, lt-leb}
use Rattle.std.proofs.Math.Dec.{ltb, leb}
use Rattle.listings.specs.Bytes.{pick}
use Rattle.listings.specs.Tests.{both_true}
use Rattle.tables.specs.Columns.{call_word, word_of}
use Rattle.tables.specs.Readable.{every_below, ids_below, lists_readable, both_so, every_at, every_all}
use Rattle.passes.specs.Walk.{stored_list}
use Rattle.passes.specs.Regions.{target_row, SetsFound}

-- ---- "25 a used count or a record that the call reads points outside its table"

-- n records of statements, and a set for each: there are at most 4,096
unfoldable pub sets_fit : (stmts : List ℕ) (n : ℕ) (sets : List ℕ) → Bool
sets_fit stmts n sets = leb n 4096 && (leb (n * 12) (length stmts) && leb (n * 64) (length sets))

-- call c has at most 64 targets; these, and where it falls, are one more than a node, or 0
unfoldable pub call_readable : (stmts falls links : List ℕ) (n c : ℕ) → Bool
call_readable stmts falls links n c = leb (get_or stmts (c * 12 + 10) 0) 64 && (leb (get_or falls (c * 3) 0) n && ids_below (n + 1) (target_row stmts links c))

-- of a statement that is no call nothing is read
unfoldable pub node_readable : (stmts falls links : List ℕ) (n c : ℕ) → Bool
node_readable stmts falls links n c = pick (call_word (word_of stmts c)) (call_readable stmts falls links n c) true

unfoldable pub calls_readable : (stmts falls links : List ℕ) (n : ℕ) (sets : List ℕ) → Bool
calls_readable stmts falls links n sets =
    sets_fit stmts n sets && (leb (n * 3) (length falls) && (leb (n * 64) (length links) && every_below (node_readable stmts falls links n) n))

-- and the lists that the walks follow
unfoldable pub walks_readable : (stmts falls links lists edges : List ℕ) (n : ℕ) (sets : List ℕ) → Bool
walks_readable stmts falls links lists edges n sets = lists_readable lists edges n && calls_readable stmts falls links n sets

-- ---- what the walks promise on all tables: false stands for refusal 25

pub record RegionsAnswered (stmts falls links lists edges : List ℕ) (n : ℕ) (sets sets' : List ℕ) (r : Bool) : Type 0 where
  pub answer : r ≡ walks_readable stmts falls links lists edges n sets
  pub refused : r ≡ false → sets' ≡ sets
  pub found : r ≡ true → SetsFound stmts falls links (stored_list lists edges) n sets sets'

-- ---- what the tests say

pub record SetsRead (stmts : List ℕ) (n : ℕ) (sets : List ℕ) : Type 0 where
  pub few : n ≤ 4096
  pub in_stmts : n * 12 ≤ length stmts
  pub in_sets : n * 64 ≤ length sets

pub record CallRead (stmts falls links : List ℕ) (n c : ℕ) : Type 0 where
  pub few : get_or stmts (c * 12 + 10) 0 ≤ 64
  pub continues : get_or falls (c * 3) 0 ≤ n
  pub targets : (k : ℕ) → k < length (target_row stmts links c) → get_or (target_row stmts links c) k 0 ≤ n

pub record CallsRead (stmts falls links : List ℕ) (n : ℕ) : Type 0 where
  pub few : n ≤ 4096
  pub in_stmts : n * 12 ≤ length stmts
  pub in_falls : n * 3 ≤ length falls
  pub in_links : n * 64 ≤ length links
  pub calls : (c : ℕ) → c < n → call_word (word_of stmts c) ≡ true → CallRead stmts falls links n c

module _ (stmts : List ℕ) (n : ℕ) (sets : List ℕ) where
  pub sets-read : sets_fit stmts n sets ≡ true → SetsRead stmts n sets
  unfolding sets_fit
  sets-read h =
      let a = both_true (leb n 4096) (leb (n * 12) (length stmts) && leb (n * 64) (length sets)) h in
      let b = both_true (leb (n * 12) (length stmts)) (leb (n * 64) (length sets)) a.1 in
      record { few = leb-true n 4096 a.0; in_stmts = leb-true (n * 12) (length stmts) b.0; in_sets = leb-true (n * 64) (length sets) b.1 }

  pub read-sets : SetsRead stmts n sets → sets_fit stmts n sets ≡ true
  unfolding sets_fit
  read-sets r =
      both_so (leb n 4096) (leb (n * 12) (length stmts) && leb (n * 64) (length sets)) (le-leb n 4096 r.few)
      (both_so (leb (n * 12) (length stmts)) (leb (n * 64) (length sets)) (le-leb (n * 12) (length stmts) r.in_stmts) (le-leb (n * 64) (length sets) r.in_sets))

  -- as the code answers
  pub sets_many : 4096 < n → false ≡ sets_fit stmts n sets
  unfolding sets_fit
  sets_many h = rw (lt-leb n 4096 h)

  pub sets-short : n ≤ 4096 → length stmts < n * 12 → false ≡ sets_fit stmts n sets
  unfolding sets_fit
  sets-short g h = rw (le-leb n 4096 g, lt-leb (n * 12) (length stmts) h)

  pub sets_by : n ≤ 4096 → n * 12 ≤ length stmts → leb (n * 64) (length sets) ≡ sets_fit stmts n sets
  unfolding sets_fit
  sets_by g h = rw (le-leb n 4096 g, le-leb (n * 12) (length stmts) h)

module _ (stmts falls links : List ℕ) (n c : ℕ) where
  pub call_read : call_readable stmts falls links n c ≡ true → CallRead stmts falls links n c
  unfolding call_readable ids_below
  call_read h =
      let a = both_true (leb (get_or stmts (c * 12 + 10) 0) 64) (leb (get_or falls (c * 3) 0) n && ids_below (n + 1) (target_row stmts links c)) h in
      let b = both_true (leb (get_or falls (c * 3) 0) n) (ids_below (n + 1) (target_row stmts links c)) a.1 in
      record {
        few = leb-true (get_or stmts (c * 12 + 10) 0) 64 a.0;
        continues = leb-true (get_or falls (c * 3) 0) n b.0;
        targets = λ k lt.
            let t = ltb-true (get_or (target_row stmts links c) k 0) (n + 1) (every_at (λ j. ltb (get_or (target_row stmts links c) j 0) (n + 1)) (length (target_row stmts links c)) b.1 k lt) in
            omega arith;
      }

  pub read_call : CallRead stmts falls links n c → call_readable stmts falls links n c ≡ true
  unfolding call_readable ids_below
  read_call r =
      both_so (leb (get_or stmts (c * 12 + 10) 0) 64) (leb (get_or falls (c * 3) 0) n && ids_below (n + 1) (target_row stmts links c)) (le-leb (get_or stmts (c * 12 + 10) 0) 64 r.few)
      (both_so (leb (get_or falls (c * 3) 0) n) (ids_below (n + 1) (target_row stmts links c)) (le-leb (get_or falls (c * 3) 0) n r.continues)
      (every_all (λ j. ltb (get_or (target_row stmts links c) j 0) (n + 1)) (length (target_row stmts links c)) (λ k lt. lt-ltb (get_or (target_row stmts links c) k 0) (n + 1) (omega (arith, r.targets k lt)))))

  -- as the code answers
  pub call_many : 64 < get_or stmts (c * 12 + 10) 0 → false ≡ call_readable stmts falls links n c
  unfolding call_readable
  call_many h = rw (lt-leb (get_or stmts (c * 12 + 10) 0) 64 h)

  pub call_astray : get_or stmts (c * 12 + 10) 0 ≤ 64 → n < get_or falls (c * 3) 0 → false ≡ call_readable stmts falls links n c
  unfolding call_readable
  call_astray g h = rw (le-leb (get_or stmts (c * 12 + 10) 0) 64 g, lt-leb (get_or falls (c * 3) 0) n h)

  pub call_by : get_or stmts (c * 12 + 10) 0 ≤ 64 → get_or falls (c * 3) 0 ≤ n → (good : Bool) (row : List ℕ) → row ≡ target_row stmts links c → good ≡ ids_below (n + 1) row → good ≡ call_readable stmts falls links n c
  unfolding call_readable
  call_by g h good row er e = rw (le-leb (get_or stmts (c * 12 + 10) 0) 64 g, le-leb (get_or falls (c * 3) 0) n h) (e ∙ ap (ids_below (n + 1)) er)

  pub node_call : call_word (get_or stmts (c * 12) 0) ≡ true → (good : Bool) → good ≡ call_readable stmts falls links n c → good ≡ node_readable stmts falls links n c
  unfolding node_readable word_of
  node_call w good e = rw w e

  pub node_other : call_word (get_or stmts (c * 12) 0) ≡ false → true ≡ node_readable stmts falls links n c
  unfolding node_readable word_of
  node_other w = rw w

module _ (stmts falls links : List ℕ) (n : ℕ) (sets : List ℕ) where
  abbrev rest : Bool
  rest = leb (n * 3) (length falls) && (leb (n * 64) (length links) && every_below (node_readable stmts falls links n) n)

  pub calls_read : calls_readable stmts falls links n sets ≡ true → CallsRead stmts falls links n
  unfolding calls_readable node_readable
  calls_read h =
      let a = both_true (sets_fit stmts n sets) rest h in
      let b = both_true (leb (n * 3) (length falls)) (leb (n * 64) (length links) && every_below (node_readable stmts falls links n) n) a.1 in
      let d = both_true (leb (n * 64) (length links)) (every_below (node_readable stmts falls links n) n) b.1 in
      let s = sets-read stmts n sets a.0 in
      record {
        few = s.few;
        in_stmts = s.in_stmts;
        in_falls = leb-true (n * 3) (length falls) b.0;
        in_links = leb-true (n * 64) (length links) d.0;
        calls = λ c lt w. call_read stmts falls links n c (rw w at (every_at (node_readable stmts falls links n) n d.1 c lt));
      }

  pub calls_sets : calls_readable stmts falls links n sets ≡ true → n * 64 ≤ length sets
  unfolding calls_readable
  calls_sets h = (sets-read stmts n sets (both_true (sets_fit stmts n sets) rest h).0).in_sets

  pub read_calls : CallsRead stmts falls links n → n * 64 ≤ length sets → calls_readable stmts falls links n sets ≡ true
  unfolding calls_readable node_readable
  read_calls r g =
      both_so (sets_fit stmts n sets) rest (read-sets stmts n sets (record { few = r.few; in_stmts = r.in_stmts; in_sets = g }))
      (both_so (leb (n * 3) (length falls)) (leb (n * 64) (length links) && every_below (node_readable stmts falls links n) n) (le-leb (n * 3) (length falls) r.in_falls)
      (both_so (leb (n * 64) (length links)) (every_below (node_readable stmts falls links n) n) (le-leb (n * 64) (length links) r.in_links)
      (every_all (node_readable stmts falls links n) n (λ c lt. go c lt (call_word (word_of stmts c)) refl))))
    where
      go : (c : ℕ) → c < n → (w : Bool) → call_word (word_of stmts c) ≡ w → pick w (call_readable stmts falls links n c) true ≡ true
      go c lt true e = read_call stmts falls links n c (r.calls c lt e)
      go c lt false e = refl

  -- as the code answers
  pub calls_refused : sets_fit stmts n sets ≡ false → false ≡ calls_readable stmts falls links n sets
  unfolding calls_readable
  calls_refused h = rw h

  module _ (fit : sets_fit stmts n sets ≡ true) where
    pub calls_by : (good : Bool) → good ≡ (leb (n * 3) (length falls) && (leb (n * 64) (length links) && every_below (node_readable stmts falls links n) n)) → good ≡ calls_readable stmts falls links n sets
    unfolding calls_readable
    calls_by good e = rw fit e
