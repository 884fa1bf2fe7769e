-- A token that does not end its line, and that there is one. Assumes nothing.
use Rattle.std.specs.Prelude.{ℕ, suc, ◌<◌, ◌≡◌, List, [], ◌∷◌, Bool, true, false, ◌&&◌, eqb, length, drop}
use Rattle.std.proofs.Common.{arith}
use Rattle.listings.specs.Bytes.{pick}
use Rattle.program_files.specs.Program.{Placed, Cover, behind, counts, counted, join_go}
use Rattle.basic.specs.Covers.{cover_of}
use Rattle.basic.specs.Cursors as cursors
use Rattle.basic.specs.Cursors.{tokens_at, IsNext, next_more}
use Rattle.basic.specs.declared.cursors.Cursor.{Cursor}
use Rattle.basic.specs.declared.cursors.Token.{Token}

-- ---- the end is a token too

counted-some : (c : Cover) (p : ℕ) (l : List ℕ) → 0 < length (counted c p l)
unfolding counted
counted-some c p [] = omega arith
counted-some c p (b ∷ l) = go (counted (behind c b) (suc p) l) (counted-some (behind c b) (suc p) l) (eqb b 0) (counts c b)
  where
    go : (r : List Placed) → 0 < length r → (s t : Bool) → 0 < length (pick s ((p, 0) ∷ []) (pick t ((p, b) ∷ r) r))
    go r h true t = omega arith
    go r h false true = omega arith
    go r h false false = h

join-some : (l : List Placed) → 0 < length l → 0 < length (join_go l)
unfolding join_go
join-some [] h = h
join-some (d ∷ []) h = omega arith
join-some (d ∷ e ∷ l) h = go (eqb d.1 203 && eqb e.1 164)
  where
    go : (t : Bool) → 0 < length (pick t ((d.0, 137) ∷ join_go l) (d ∷ join_go (e ∷ l)))
    go true = omega arith
    go false = omega arith

pub tokens_some : (f : List ℕ) (c : Cursor) → 0 < length (tokens_at f c)
tokens_some f c = join-some (counted (cover_of c.cover) c.at (drop c.at f)) (counted-some (cover_of c.cover) c.at (drop c.at f))

-- ---- a token that is not the end

module _ (T : Cursor → List Placed) (c : Cursor) (t : Token) (next : IsNext T c t) (more : t.byte ≡ 0 → ⊥) where
  pub next_is : T c ≡ (t.place, t.byte) ∷ T t.next
  next_is = next_more T c t next more

  pub next_shorter : length (T t.next) < length (T c)
  next_shorter = omega (arith, cursors.next_shorter T c t next more)
