-- What stands in a line from a place on. Assumes nothing.
use Rattle.std.specs.Prelude.{◌≡◌, refl, ℕ, suc, ◌+◌, ◌<◌, ◌≤◌, List, [], ◌∷◌, Bool, true, false, ◌&&◌, eqb, drop, get_or, length}
use Rattle.std.proofs.Common.{sym, ap, ◌∙◌, arith, add-one, drop-cons, drop_of_length-le, length-drop, eq-eqb, ne_eqb}
use Rattle.listings.specs.Bytes.{pick}
use Rattle.program_files.specs.Program as definition
use Rattle.program_files.specs.Program.{Placed, behind, counts, counted, join_go}
use Rattle.basic.specs.Covers.{cover_of}
use Rattle.basic.specs.declared.cursors.Cursor.{Cursor}
use Rattle.basic.specs.declared.cursors.Token.{Token}

-- the bytes that count from a cursor on
abbrev pub raw_at : List ℕ → Cursor → List Placed
raw_at f c = counted (cover_of c.cover) c.at (drop c.at f)

-- with GO and TO as GOTO
abbrev pub tokens_at : List ℕ → Cursor → List Placed
tokens_at f c = join_go (raw_at f c)

-- what follows a byte: nothing behind the line's end
abbrev pub ahead : (Cursor → List Placed) → Token → List Placed
ahead T t = pick (eqb t.byte 0) [] (T t.next)

-- t is the first of what a cursor stands before
abbrev pub IsNext : (Cursor → List Placed) → Cursor → Token → Type 0
IsNext T c t = T c ≡ (t.place, t.byte) ∷ ahead T t

-- ---- a token that is the line's end, and one that is not

pub next_end : (T : Cursor → List Placed) (c : Cursor) (t : Token) → IsNext T c t → t.byte ≡ 0 → T c ≡ (t.place, 0) ∷ []
next_end T c t n e = n ∙ ap (λ (b : ℕ). (t.place, b) ∷ pick (eqb b 0) [] (T t.next)) e

pub next_more : (T : Cursor → List Placed) (c : Cursor) (t : Token) → IsNext T c t → (t.byte ≡ 0 → ⊥) → T c ≡ (t.place, t.byte) ∷ T t.next
next_more T c t n e = n ∙ ap (λ (x : Bool). (t.place, t.byte) ∷ pick x [] (T t.next)) (ne_eqb t.byte 0 e)

-- each token that is not the end leaves a shorter list
pub next_shorter : (T : Cursor → List Placed) (c : Cursor) (t : Token) → IsNext T c t → (t.byte ≡ 0 → ⊥) → length (T c) ≡ suc (length (T t.next))
next_shorter T c t n e = ap length (next_more T c t n e)

-- ---- the bytes that count, from place p of f on

module _ (c : definition.Cover) (f : List ℕ) (p : ℕ) where
  pub counted_past : length f ≤ p → counted c p (drop p f) ≡ (p, 0) ∷ []
  unfolding counted
  counted_past h = ap (counted c p) (drop_of_length-le f {i = p} h)

  module _ (b : ℕ) (h : p < length f) (e : get_or f p 0 ≡ b) where
    counted_at : counted c p (drop p f)
        ≡ pick (eqb b 0) ((p, 0) ∷ []) (pick (counts c b) ((p, b) ∷ counted (behind c b) (p + 1) (drop (p + 1) f)) (counted (behind c b) (p + 1) (drop (p + 1) f)))
    unfolding counted
    counted_at = rw (← e, add-one, drop-cons f p 0 h)

    pub counted_end : b ≡ 0 → counted c p (drop p f) ≡ (p, 0) ∷ []
    counted_end z = counted_at ∙ rw (eq-eqb b 0 z)

    pub counted_here : (b ≡ 0 → ⊥) → counts c b ≡ true → counted c p (drop p f) ≡ (p, b) ∷ counted (behind c b) (p + 1) (drop (p + 1) f)
    counted_here z k = counted_at ∙ rw (ne_eqb b 0 z, k)

    pub counted_skip : (b ≡ 0 → ⊥) → counts c b ≡ false → counted c p (drop p f) ≡ counted (behind c b) (p + 1) (drop (p + 1) f)
    counted_skip z k = counted_at ∙ rw (ne_eqb b 0 z, k)

-- no more of them than there are bytes, and one for the end
pub counted-length : (c : definition.Cover) (p : ℕ) (l : List ℕ) → length (counted c p l) ≤ suc (length l)
unfolding counted
counted-length c p [] = omega arith
counted-length c p (b ∷ l) = go (eqb b 0) (counts c b) (counted-length (behind c b) (suc p) l)
  where
    go : (x y : Bool) → length (counted (behind c b) (suc p) l) ≤ suc (length l)
        → length (pick x ((p, 0) ∷ []) (pick y ((p, b) ∷ counted (behind c b) (suc p) l) (counted (behind c b) (suc p) l))) ≤ suc (suc (length l))
    go true y h = omega arith
    go false true h = omega arith
    go false false h = omega arith

-- ---- GO and TO

join_end : (x : Bool) (m : List Placed) → join_go (pick x [] m) ≡ pick x [] (join_go m)
unfolding join_go
join_end true m = refl
join_end false m = refl

join_no_go : (d : Placed) (l : List Placed) → (d.1 ≡ 203 → ⊥) → join_go (d ∷ l) ≡ d ∷ join_go l
unfolding join_go
join_no_go d [] h = refl
join_no_go d (e ∷ l) h = rw (ne_eqb d.1 203 h)

join_no_to : (d e : Placed) (l : List Placed) → (e.1 ≡ 164 → ⊥) → join_go (d ∷ e ∷ l) ≡ d ∷ join_go (e ∷ l)
unfolding join_go
join_no_to d e l h = rw (ne_eqb e.1 164 h) (go (eqb d.1 203))
  where
    go : (x : Bool) → pick (x && false) ((d.0, 137) ∷ join_go l) (d ∷ join_go (e ∷ l)) ≡ d ∷ join_go (e ∷ l)
    go true = refl
    go false = refl

join_both : (d e : Placed) (l : List Placed) → d.1 ≡ 203 → e.1 ≡ 164 → join_go (d ∷ e ∷ l) ≡ (d.0, 137) ∷ join_go l
unfolding join_go
join_both d e l g h = rw (eq-eqb d.1 203 g, eq-eqb e.1 164 h)

pub join-length : (l : List Placed) → length (join_go l) ≤ length l
unfolding join_go
join-length [] = omega arith
join-length (d ∷ []) = omega arith
join-length (d ∷ e ∷ l) = go (eqb d.1 203 && eqb e.1 164) (join-length l) (join-length (e ∷ l))
  where
    go : (x : Bool) → length (join_go l) ≤ length l → length (join_go (e ∷ l)) ≤ suc (length l)
        → length (pick x ((d.0, 137) ∷ join_go l) (d ∷ join_go (e ∷ l))) ≤ suc (suc (length l))
    go true g h = omega arith
    go false g h = omega arith

-- no more tokens than there are bytes, and one for the end
pub tokens_length : (f : List ℕ) (c : Cursor) → length (tokens_at f c) ≤ suc (length f)
tokens_length f c = omega (arith, join-length (raw_at f c), counted-length (cover_of c.cover) c.at (drop c.at f), length-drop c.at f)

module _ (T : Cursor → List Placed) (c : Cursor) (t : Token) (n : IsNext T c t) where
  -- a byte other than GO
  pub token_no_go : (t.byte ≡ 203 → ⊥) → IsNext (λ (z : Cursor). join_go (T z)) c t
  token_no_go h = ap join_go n ∙ join_no_go (t.place, t.byte) _ h ∙ ap (λ (l : List Placed). (t.place, t.byte) ∷ l) (join_end (eqb t.byte 0) (T t.next))

  module _ (go : t.byte ≡ 203) (u : Token) (m : IsNext T t.next u) where
    both : T c ≡ (t.place, t.byte) ∷ (u.place, u.byte) ∷ ahead T u
    both = next_more T c t n (λ z. absurd (omega arith)) ∙ ap (λ (l : List Placed). (t.place, t.byte) ∷ l) m

    -- GO with another byte behind it
    pub token_no_to : (u.byte ≡ 164 → ⊥) → IsNext (λ (z : Cursor). join_go (T z)) c t
    token_no_to h =
        ap join_go both ∙ join_no_to (t.place, t.byte) (u.place, u.byte) _ h ∙ ap (λ (l : List Placed). (t.place, t.byte) ∷ join_go l) (sym m)
        ∙ ap (λ (x : Bool). (t.place, t.byte) ∷ pick x [] (join_go (T t.next))) (sym (ne_eqb t.byte 0 (λ z. absurd (omega arith))))

    -- GO and TO
    pub token_goto : u.byte ≡ 164 → join_go (T c) ≡ (t.place, 137) ∷ join_go (T u.next)
    token_goto h =
        ap join_go both ∙ join_both (t.place, t.byte) (u.place, u.byte) _ go h
        ∙ ap (λ (x : Bool). (t.place, 137) ∷ join_go (pick x [] (T u.next))) (ne_eqb u.byte 0 (λ z. absurd (omega arith)))
