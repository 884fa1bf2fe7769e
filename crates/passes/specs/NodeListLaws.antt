-- What a statement adds to its own list, case by case as the code goes. Assumes nothing.
use Rattle.std.specs.Prelude.{ℕ, ◌+◌, ◌*◌, ◌-◌, ◌≤◌, ◌<◌, ◌≡◌, true, false, not, List, [], ◌++◌, eqb, get_or, take, drop}
use Rattle.std.proofs.Common.{sym, append-nil, arith}
use borrow.Author.Tests.{lt-ltb, le-ltb, ne_eqb}
use Rattle.graph.specs.Lists.{each}
use Rattle.graph_laws.specs.Adding.{decode}
use Rattle.passes.specs.ForLinks.{popped_by}
use Rattle.passes.specs.NextBodies.{body_at, link_body}
use Rattle.tables.specs.Columns.{word_of, fall_entry}
use Rattle.passes.specs.Prepared.{link_entries}
use Rattle.tables.specs.EntryRows.{entry_column}
use Rattle.passes.specs.NodeList.{run_edges, jump_edges, next_edges, until_edges, falls_word, block_edges, own_edges}

-- the part of a table that is lent, c entries from `at` on
abbrev pub lent : List ℕ → (at c : ℕ) → List ℕ
lent t at c = take (at + c - at) (drop at t)

lent_is : (t : List ℕ) (at c : ℕ) → lent t at c ≡ take c (drop at t)
lent_is t at c = let z : at + c - at ≡ c = omega arith in rw z

links_lent : (ts ls : List ℕ) (i c : ℕ) → c ≡ get_or ts (i * 12 + 10) 0 → each decode (lent ls (i * 64) c) ≡ link_entries ts ls i
unfolding link_entries
links_lent ts ls i c e = rw (lent_is ls (i * 64) c, e)

-- ---- RUN

module _ (ts en ls : List ℕ) (lines i c : ℕ) (e : c ≡ get_or ts (i * 12 + 10) 0) where
  pub run-first : c ≡ 0 → each decode (take 1 (entry_column 1 lines en)) ≡ run_edges ts en ls lines i
  unfolding run_edges
  run-first z = rw (← e, z)

  pub run_target : (c ≡ 0 → ⊥) → each decode (lent ls (i * 64) c) ≡ run_edges ts en ls lines i
  unfolding run_edges
  run_target z = rw (← e, ne_eqb c 0 z) (links_lent ts ls i c e)

-- ---- GOTO, GOSUB, RETURN, ON GOTO, ON GOSUB

module _ (ts fs ls : List ℕ) (i c : ℕ) (e : c ≡ get_or ts (i * 12 + 10) 0) where
  pub jump_only : get_or ts (i * 12) 0 < 11 → each decode (lent ls (i * 64) c) ≡ jump_edges ts fs ls i
  unfolding jump_edges word_of
  jump_only h = rw (links_lent ts ls i c e, lt-ltb (get_or ts (i * 12) 0) 11 h) (sym (append-nil (link_entries ts ls i)))

  pub jump_falls : 11 ≤ get_or ts (i * 12) 0 → each decode (lent ls (i * 64) c) ++ decode (get_or fs (i * 3) 0) ≡ jump_edges ts fs ls i
  unfolding jump_edges word_of fall_entry
  jump_falls h = rw (links_lent ts ls i c e, le-ltb (get_or ts (i * 12) 0) 11 h)

  -- ---- NEXT

  pub next_parts : each (body_at fs) (popped_by ls i c) ++ decode (get_or fs (i * 3) 0) ≡ next_edges ts fs ls i
  unfolding next_edges fall_entry
  next_parts = rw (← e)

-- ---- UNTIL, ENDLOOP, and the words that only fall

module _ (fs fr : List ℕ) (i : ℕ) where
  pub until_none : get_or fr (i * 3) 0 ≡ 0 → [] ≡ until_edges fs fr i
  unfolding until_edges
  until_none z = rw z

  pub until_parts : (get_or fr (i * 3) 0 ≡ 0 → ⊥) → link_body fs (get_or fr (i * 3) 0) ++ decode (get_or fs (i * 3) 0) ≡ until_edges fs fr i
  unfolding until_edges fall_entry
  until_parts z = rw (ne_eqb (get_or fr (i * 3) 0) 0 z)

  module _ (w : ℕ) where
    pub block_endloop : w ≡ 18 → link_body fs (get_or fr (i * 3) 0) ≡ block_edges w fs fr i
    unfolding block_edges
    block_endloop e = rw e

    pub block_until : w ≡ 17 → until_edges fs fr i ≡ block_edges w fs fr i
    unfolding block_edges
    block_until e = rw e

    module _ (d : w ≡ 18 → ⊥) (u : w ≡ 17 → ⊥) where
      pub block_falls : falls_word w ≡ true → decode (get_or fs (i * 3) 0) ≡ block_edges w fs fr i
      unfolding block_edges fall_entry
      block_falls e = rw (ne_eqb w 18 d, ne_eqb w 17 u, e)

      pub block_stops : falls_word w ≡ false → [] ≡ block_edges w fs fr i
      unfolding block_edges
      block_stops e = rw (ne_eqb w 18 d, ne_eqb w 17 u, e)

module _ (w : ℕ) where
  pub exit_stops : w ≡ 19 → false ≡ falls_word w
  unfolding falls_word
  exit_stops e = rw e

  pub else_stops : w ≡ 22 → false ≡ falls_word w
  unfolding falls_word
  else_stops e = rw e

  pub others_fall : (w ≡ 19 → ⊥) → (w ≡ 22 → ⊥) → not (eqb w 25) ≡ falls_word w
  unfolding falls_word
  others_fall x y = rw (ne_eqb w 19 x, ne_eqb w 22 y)

-- ---- all words

module _ (ts en fs ls fr : List ℕ) (lines i : ℕ) where
  pub own_branches : get_or ts (i * 12) 0 < 7 → each decode (lent fs (i * 3 + 1) 2) ≡ own_edges ts en fs ls fr lines i
  unfolding own_edges word_of
  own_branches h = rw (lt-ltb (get_or ts (i * 12) 0) 7 h, lent_is fs (i * 3 + 1) 2)

  module _ (a : 7 ≤ get_or ts (i * 12) 0) where
    pub own-run : get_or ts (i * 12) 0 ≡ 10 → run_edges ts en ls lines i ≡ own_edges ts en fs ls fr lines i
    unfolding own_edges word_of
    own-run e = rw e

    module _ (b : get_or ts (i * 12) 0 ≡ 10 → ⊥) where
      pub own_jump : get_or ts (i * 12) 0 < 13 → jump_edges ts fs ls i ≡ own_edges ts en fs ls fr lines i
      unfolding own_edges word_of
      own_jump h = rw (le-ltb (get_or ts (i * 12) 0) 7 a, ne_eqb (get_or ts (i * 12) 0) 10 b, lt-ltb (get_or ts (i * 12) 0) 13 h)

      module _ (g : 13 ≤ get_or ts (i * 12) 0) where
        pub own_next : get_or ts (i * 12) 0 ≡ 14 → next_edges ts fs ls i ≡ own_edges ts en fs ls fr lines i
        unfolding own_edges word_of
        own_next e = rw e

        pub own_any : get_or ts (i * 12) 0 ≡ 26 → each decode (entry_column 1 lines en) ≡ own_edges ts en fs ls fr lines i
        unfolding own_edges word_of
        own_any e = rw e

        pub own_block_lem : (get_or ts (i * 12) 0 ≡ 14 → ⊥) → (get_or ts (i * 12) 0 ≡ 26 → ⊥) → block_edges (get_or ts (i * 12) 0) fs fr i ≡ own_edges ts en fs ls fr lines i
        unfolding own_edges word_of
        own_block_lem d f =
            rw (le-ltb (get_or ts (i * 12) 0) 7 a, ne_eqb (get_or ts (i * 12) 0) 10 b, le-ltb (get_or ts (i * 12) 0) 13 g, ne_eqb (get_or ts (i * 12) 0) 14 d, ne_eqb (get_or ts (i * 12) 0) 26 f)
