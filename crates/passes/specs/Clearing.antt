-- The RETURNs' sets made empty again; all other rows stay. Assumes nothing.
use Rattle.std.specs.Prelude.{◌≡◌, refl, true, false, List, ◌++◌, ℕ, ◌+◌, ◌*◌, ◌/◌, ◌%◌, ◌≤◌, ◌<◌, length, get_or, take, drop, replicate}
use Rattle.std.proofs.Common.{sym, ap, ◌∙◌, ⊎_elim, arith, length-drop, length-take-le}
use Rattle.std.proofs.lemmas.List.{length-replicate, get_or-replicate}
use Rattle.passes.specs.Compare.{eq-or}
use Rattle.passes.specs.WalkTables.{sets_fit}
use Rattle.layout.specs.Layout.{return_word}
use Rattle.passes.specs.ReturnSetLaws.{put_size, put_in, put_other, row_away}

-- entry by entry: e is a word of the set of node e / 64
pub record SetsCleared (stmts : List ℕ) (n : ℕ) (sets sets' : List ℕ) : Type 0 where
  pub size : length sets' ≡ length sets
  pub cleared : (e : ℕ) → e / 64 < n → get_or stmts ((e / 64) * 12) 0 ≡ return_word → get_or sets' e 0 ≡ 0
  pub kept : (e : ℕ) → ((e / 64 < n) × (get_or stmts ((e / 64) * 12) 0 ≡ return_word) → ⊥) → get_or sets' e 0 ≡ get_or sets e 0

-- on all tables: where these hold no n statements with their sets, nothing changes
pub record ClearAnswered (stmts : List ℕ) (n : ℕ) (sets sets' : List ℕ) : Type 0 where
  pub fitting : sets_fit stmts n sets ≡ true → SetsCleared stmts n sets sets'
  pub other : sets_fit stmts n sets ≡ false → sets' ≡ sets

-- the set of node i alone may change
pub record SetCleared (stmts : List ℕ) (i : ℕ) (sets sets' : List ℕ) : Type 0 where
  pub size : length sets' ≡ length sets
  pub cleared : (e : ℕ) → e / 64 ≡ i → get_or stmts (i * 12) 0 ≡ return_word → get_or sets' e 0 ≡ 0
  pub kept : (e : ℕ) → ((e / 64 ≡ i) × (get_or stmts (i * 12) 0 ≡ return_word) → ⊥) → get_or sets' e 0 ≡ get_or sets e 0

module _ (stmts : List ℕ) where
  pub clear-other : (i : ℕ) (xs : List ℕ) → (get_or stmts (i * 12) 0 ≡ return_word → ⊥) → SetCleared stmts i xs xs
  clear-other i xs ne = record { size = refl; cleared = λ e q w. absurd (ne w); kept = λ e f. refl }

  pub clear_return : (i k : ℕ) (xs ys : List ℕ) → get_or stmts (i * 12) 0 ≡ return_word → k ≡ 64 → i * 64 + k ≤ length xs → ys ≡ replicate (length (take k (drop (i * 64) xs))) 0
      → SetCleared stmts i xs (take (i * 64) xs ++ (ys ++ drop k (drop (i * 64) xs)))
  clear_return i k xs ys t ek fits ey =
      record {
        size = put_size xs ys (i * 64) k ly fits;
        cleared = λ e q w. here e q;
        kept = λ e f. put_other xs ys (i * 64) k ly fits e (row_away e i k ek (λ q. f (q, t)));
      }
    where
      part : length (take k (drop (i * 64) xs)) ≡ k
      part = length-take-le k (drop (i * 64) xs) (omega (arith, length-drop (i * 64) xs))

      ly : length ys ≡ k
      ly = ap length ey ∙ length-replicate (length (take k (drop (i * 64) xs))) 0 ∙ part

      here : (e : ℕ) → e / 64 ≡ i → get_or (take (i * 64) xs ++ (ys ++ drop k (drop (i * 64) xs))) e 0 ≡ 0
      here e q =
          let r : i * 64 + e % 64 ≡ e = omega arith in
          let h : e % 64 < k = omega arith in
          ap (λ (x : ℕ). get_or (take (i * 64) xs ++ (ys ++ drop k (drop (i * 64) xs))) x 0) (sym r) ∙ put_in xs ys (i * 64) k ly fits (e % 64) h
          ∙ ap (λ (l : List ℕ). get_or l (e % 64) 0) ey ∙ get_or-replicate (length (take k (drop (i * 64) xs))) (e % 64) 0 0 (omega (arith, part))

  -- ---- node after node

  pub clear_none : (xs : List ℕ) → SetsCleared stmts 0 xs xs
  clear_none xs = record { size = refl; cleared = λ e h w. absurd (omega arith); kept = λ e f. refl }

  pub clear_more : (i : ℕ) (xs ys zs : List ℕ) → SetsCleared stmts i xs ys → SetCleared stmts i ys zs → SetsCleared stmts (i + 1) xs zs
  clear_more i xs ys zs s t =
      record {
        size = t.size ∙ s.size;
        cleared = λ e h w.
            ⊎_elim (λ q. t.cleared e q (ap (λ (x : ℕ). get_or stmts (x * 12) 0) (sym q) ∙ w)) (λ q. t.kept e (λ p. q p.0) ∙ s.cleared e (omega arith) w) (eq-or (e / 64) i);
        kept = λ e f.
            t.kept e (λ p. f (omega (arith, p.0), ap (λ (x : ℕ). get_or stmts (x * 12) 0) p.0 ∙ p.1)) ∙ s.kept e (λ p. f (omega (arith, p.0), p.1));
      }
