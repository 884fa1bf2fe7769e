-- How many statements the lent tables have room for: the least of what the tables with entries for each statement hold.
-- Assumes nothing.
use Rattle.std.specs.Prelude.{ℕ, ◌*◌, ◌/◌, ◌≤◌, min}
use Rattle.std.proofs.Math.Nat.{min-le_left, min-le_right, le-min}
use Rattle.std.proofs.Common.{arith}

-- by the lengths of the tables
unfoldable pub stmt_room : (stmts args falls links lists returns : ℕ) → ℕ
stmt_room stmts args falls links lists returns =
    min (min (min (stmts / 12) (args / 64)) (min (falls / 3) (links / 64))) (min (lists / 4) returns)

-- n statements have room in each table
pub record StmtsFit (n stmts args falls links lists returns : ℕ) : Type 0 where
  pub in_stmts : n * 12 ≤ stmts
  pub in_args : n * 64 ≤ args
  pub in_falls : n * 3 ≤ falls
  pub in_links : n * 64 ≤ links
  pub in_lists : n * 4 ≤ lists
  pub in_returns : n ≤ returns

both : (n a b : ℕ) → n ≤ min a b → (n ≤ a) × (n ≤ b)
both n a b h = (omega (arith, min-le_left a b), omega (arith, min-le_right a b))

module _ (n stmts args falls links lists returns : ℕ) where
  pub room_fits : n ≤ stmt_room stmts args falls links lists returns → StmtsFit n stmts args falls links lists returns
  unfolding stmt_room
  room_fits h =
      let u = both n (min (min (stmts / 12) (args / 64)) (min (falls / 3) (links / 64))) (min (lists / 4) returns) h in
      let v = both n (min (stmts / 12) (args / 64)) (min (falls / 3) (links / 64)) u.0 in
      let a = both n (stmts / 12) (args / 64) v.0 in
      let b = both n (falls / 3) (links / 64) v.1 in
      let c = both n (lists / 4) returns u.1 in
      record {
        in_stmts = omega (arith, a.0);
        in_args = omega (arith, a.1);
        in_falls = omega (arith, b.0);
        in_links = omega (arith, b.1);
        in_lists = omega (arith, c.0);
        in_returns = c.1;
      }

  pub fits_room : StmtsFit n stmts args falls links lists returns → n ≤ stmt_room stmts args falls links lists returns
  unfolding stmt_room
  fits_room s =
      let a : n ≤ stmts / 12 = omega (arith, s.in_stmts) in
      let b : n ≤ args / 64 = omega (arith, s.in_args) in
      let c : n ≤ falls / 3 = omega (arith, s.in_falls) in
      let d : n ≤ links / 64 = omega (arith, s.in_links) in
      let e : n ≤ lists / 4 = omega (arith, s.in_lists) in
      le-min (le-min (le-min a b) (le-min c d)) (le-min e s.in_returns)
