-- Whether a graph's edges are few, and both edge tables hold them. Assumes nothing.
use Rattle.std.specs.Prelude.{ℕ, ◌≤◌, ◌<◌, min, ◌≡◌, Bool, true, false, ◌&&◌, leb}
use Rattle.std.proofs.Common.{arith, leb-true, le-leb}
use Rattle.std.proofs.Math.Nat.{min-le_left, min-le_right}
use Rattle.std.proofs.lemmas.Bool.{lt-leb}
use Rattle.listings.specs.Tests.{both_true}
use Rattle.tables.specs.Readable.{both_so}

-- "23 either edge table too short or over 32,768 edges"
abbrev pub edges_fit : (edges succ pred : ℕ) → Bool
edges_fit edges succ pred = leb edges (min succ pred) && leb edges 32768

pub record EdgesFit (e s p : ℕ) : Type 0 where
  pub few : e ≤ 32768
  pub in_succ : e ≤ s
  pub in_pred : e ≤ p

module _ (e s p : ℕ) where
  pub fit_no : min s p < e → false ≡ edges_fit e s p
  fit_no h = rw (lt-leb e (min s p) h)

  pub fit_by : e ≤ min s p → leb e 32768 ≡ edges_fit e s p
  fit_by h = rw (le-leb e (min s p) h)

  pub edges_fit_lem : edges_fit e s p ≡ true → EdgesFit e s p
  edges_fit_lem h =
      let a = both_true (leb e (min s p)) (leb e 32768) h in
      let u = leb-true e (min s p) a.0 in
      record { few = leb-true e 32768 a.1; in_succ = omega (arith, u, min-le_left s p); in_pred = omega (arith, u, min-le_right s p) }

  pub fit_edges : EdgesFit e s p → edges_fit e s p ≡ true
  fit_edges f = both_so (leb e (min s p)) (leb e 32768) (le-leb e (min s p) (omega (arith, f.in_succ, f.in_pred))) (le-leb e 32768 f.few)
