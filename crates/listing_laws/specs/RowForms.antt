-- Rows as texts: a text and its pieces, a form and its words. Assumes nothing.
use Rattle.std.specs.Prelude.{ℕ, ◌≡◌, refl, Bool, true, false, not, List, [], ◌∷◌, ◌++◌, eqb}
use Rattle.std.proofs.Common.{sym, ap, ◌∙◌, append_assoc, append-nil, eq-eqb, eqb-true}
use Rattle.std.proofs.lemmas.Bool.{not-true}
use Rattle.listings.specs.Bytes.{same, pick}
use Rattle.listings.specs.Rows.{on_first, split, all, are_words, strip_close, Row, close, bad, form, form_row, row_of}
use Rattle.listings.specs.ListingText.{spaced_words, closed_form, open_form, end_form, text_of}
use Rattle.listings.specs.Every.{All, all[], all∷, all_append, no_newline}
use Rattle.listings.specs.Tests.{both_true}
use Rattle.listing_laws.specs.NumberText.{all-append-true}
use Rattle.listing_laws.specs.WordText.{in_word, is_token, are_tokens, lacks, token_lacks, tokens_lack, tokens_words, same_equal}

-- ---- pieces

-- the text with these pieces between the bytes s
unfoldable pub join : ℕ → List (List ℕ) → List ℕ
join s [] = []
join s (w ∷ []) = w
join s (w ∷ v ∷ ws) = w ++ (s ∷ join s (v ∷ ws))

pub split_last : (s : ℕ) (w : List ℕ) → lacks s w ≡ true → split s w ≡ w ∷ []
unfolding split on_first lacks all
split_last s [] h = refl
split_last s (b ∷ w) h =
    let p = both_true (not (eqb b s)) (lacks s w) h in
    rw (not-true (eqb b s) p.0, split_last s w p.1)

pub split_next : (s : ℕ) (w l : List ℕ) → lacks s w ≡ true → split s (w ++ (s ∷ l)) ≡ w ∷ split s l
unfolding split on_first lacks all
split_next s [] l h = rw (eq-eqb s s refl)
split_next s (b ∷ w) l h =
    let p = both_true (not (eqb b s)) (lacks s w) h in
    rw (not-true (eqb b s) p.0, split_next s w l p.1)

pub split-join : (s : ℕ) (w : List ℕ) (ws : List (List ℕ)) → lacks s w ≡ true → All (λ v. lacks s v ≡ true) ws → split s (join s (w ∷ ws)) ≡ w ∷ ws
unfolding join
split-join s w l h all[] = split_last s w h
split-join s w l h (all∷ {a = v} {l = ws} p q) = split_next s w (join s (v ∷ ws)) h ∙ ap (λ (z : List (List ℕ)). w ∷ z) (split-join s v ws p q)

join_first : (s b : ℕ) (ws : List (List ℕ)) → join s (on_first b ws) ≡ b ∷ join s ws
unfolding join on_first
join_first s b [] = refl
join_first s b (w ∷ []) = refl
join_first s b (w ∷ v ∷ ws) = refl

-- a piece before the pieces of a text: these are one or more
join_next : (s : ℕ) (w l : List ℕ) → join s (w ∷ split s l) ≡ w ++ (s ∷ join s (split s l))
unfolding join split on_first
join_next s w [] = refl
join_next s w (b ∷ l) = go (eqb b s) (split s l)
  where
    go : (t : Bool) (ws : List (List ℕ)) → join s (w ∷ pick t ([] ∷ ws) (on_first b ws)) ≡ w ++ (s ∷ join s (pick t ([] ∷ ws) (on_first b ws)))
    go true ws = refl
    go false [] = refl
    go false (v ∷ ws) = refl

pub join-split : (s : ℕ) (l : List ℕ) → join s (split s l) ≡ l
unfolding join split
join-split s [] = refl
join-split s (b ∷ l) = go (eqb b s) refl (join-split s l)
  where
    go : (t : Bool) → eqb b s ≡ t → join s (split s l) ≡ l → join s (pick t ([] ∷ split s l) (on_first b (split s l))) ≡ b ∷ l
    go true e h = let q = eqb-true b s e in join_next s [] l ∙ cc
    go false e h = join_first s b (split s l) ∙ ap (λ (z : List ℕ). b ∷ z) h

-- ---- the rows of a text

join_text : (rs : List (List ℕ)) → join 10 (rs ++ ([] ∷ [])) ≡ text_of rs
unfolding join text_of
join_text [] = refl
join_text (r ∷ []) = refl
join_text (r ∷ v ∷ rs) = ap (λ (z : List ℕ). r ++ (10 ∷ z)) (join_text (v ∷ rs))

pub split_text : (rs : List (List ℕ)) → All (λ r. no_newline r ≡ true) rs → split 10 (text_of rs) ≡ rs ++ ([] ∷ [])
unfolding text_of split no_newline lacks all
split_text l all[] = refl
split_text l (all∷ {a = r} {l = rs} h k) =
    ap (split 10) (sym (join_text (r ∷ rs))) ∙ split-join 10 r (rs ++ ([] ∷ [])) h (all_append k (all∷ {a = []} refl all[]))

pub text_split : (t : List ℕ) (rs : List (List ℕ)) → split 10 t ≡ rs ++ ([] ∷ []) → t ≡ text_of rs
text_split t rs e = sym (join-split 10 t) ∙ ap (join 10) e ∙ join_text rs

-- ---- the words of a form

pub join-words : (w : List ℕ) (ws : List (List ℕ)) → join 32 (w ∷ ws) ≡ w ++ spaced_words ws
unfolding join spaced_words
join-words w [] = sym (append-nil w)
join-words w (v ∷ ws) = ap (λ (z : List ℕ). w ++ (32 ∷ z)) (join-words v ws)

-- a form's row, closed on its row or not
abbrev pub form_text : Bool → List ℕ → List (List ℕ) → List ℕ
form_text true w ws = closed_form w ws
form_text false w ws = open_form w ws

-- what stands after `(` in a row
abbrev closing : Bool → List ℕ → List ℕ
closing true l = l ++ (41 ∷ [])
closing false l = l

form_parts : (c : Bool) (w : List ℕ) (ws : List (List ℕ)) → form_text c w ws ≡ 40 ∷ closing c (join 32 (w ∷ ws))
unfolding closed_form open_form
form_parts true w ws = ap (λ (z : List ℕ). 40 ∷ z) (sym (append_assoc w (spaced_words ws) (41 ∷ [])) ∙ ap (λ (z : List ℕ). z ++ (41 ∷ [])) (sym (join-words w ws)))
form_parts false w ws = ap (λ (z : List ℕ). 40 ∷ z) (sym (join-words w ws))

strip_closing : (c : Bool) (l : List ℕ) → lacks 41 l ≡ true → strip_close (closing c l) ≡ (c, l)
unfolding strip_close lacks all
strip_closing true [] h = refl
strip_closing true (b ∷ []) h = refl
strip_closing true (b ∷ d ∷ l) h = ap {B = Bool × List ℕ} (λ r. (r.0, b ∷ r.1)) (strip_closing true (d ∷ l) (both_true (not (eqb b 41)) (lacks 41 (d ∷ l)) h).1)
strip_closing false [] h = refl
strip_closing false (b ∷ []) h = rw (not-true (eqb b 41) (both_true (not (eqb b 41)) true h).0)
strip_closing false (b ∷ d ∷ l) h = ap {B = Bool × List ℕ} (λ r. (r.0, b ∷ r.1)) (strip_closing false (d ∷ l) (both_true (not (eqb b 41)) (lacks 41 (d ∷ l)) h).1)

closing-cons : (c : Bool) (b : ℕ) (l : List ℕ) → ◌≡◌ {A = List ℕ} (b ∷ closing c l) (closing c (b ∷ l))
closing-cons true b l = refl
closing-cons false b l = refl

closing_strip : (l : List ℕ) → l ≡ closing (strip_close l).0 (strip_close l).1
unfolding strip_close
closing_strip [] = refl
closing_strip (b ∷ []) = go (eqb b 41) refl
  where
    go : (t : Bool) → eqb b 41 ≡ t → let r : Bool × List ℕ = pick t (true, []) (false, b ∷ []) in b ∷ [] ≡ closing r.0 r.1
    go true e = ap (λ (n : ℕ). n ∷ []) (eqb-true b 41 e)
    go false e = refl
closing_strip (b ∷ d ∷ l) =
    let r = strip_close (d ∷ l) in
    ap {B = List ℕ} (λ z. b ∷ z) (closing_strip (d ∷ l)) ∙ closing-cons r.0 b r.1

lacks-join : (s t : ℕ) → eqb t s ≡ false → (w : List ℕ) (ws : List (List ℕ)) → lacks s w ≡ true → All (λ v. lacks s v ≡ true) ws → lacks s (join t (w ∷ ws)) ≡ true
unfolding join lacks all
lacks-join s t e w l h all[] = h
lacks-join s t e w l h (all∷ {a = v} {l = ws} p q) =
    all-append-true (λ c. not (eqb c s)) w (t ∷ join t (v ∷ ws)) h (rw e (lacks-join s t e v ws p q))

-- the words of a form, none with a byte s that no word has
form_lacks : (s : ℕ) → in_word s ≡ false → eqb 32 s ≡ false → (w : List ℕ) (ws : List (List ℕ)) → are_tokens (w ∷ ws) ≡ true → lacks s (join 32 (w ∷ ws)) ≡ true
unfolding are_tokens
form_lacks s h e w ws k =
    let p = both_true (is_token w) (are_tokens ws) k in
    lacks-join s 32 e w ws (token_lacks s h w p.0) (tokens_lack s h ws p.1)

pub form_row_lem : (c : Bool) (w : List ℕ) (ws : List (List ℕ)) → are_tokens (w ∷ ws) ≡ true → row_of (form_text c w ws) ≡ form c w ws
unfolding row_of form_row in_word are_tokens
form_row_lem c w ws h =
    let p = both_true (is_token w) (are_tokens ws) h in
    let t = strip_closing c (join 32 (w ∷ ws)) (form_lacks 41 refl refl w ws h) in
    let q = split-join 32 w ws (token_lacks 32 refl w p.0) (tokens_lack 32 refl ws p.1) in
    rw (form_parts c w ws, t, q, tokens_words (w ∷ ws) h)

pub form_newline : (c : Bool) (w : List ℕ) (ws : List (List ℕ)) → are_tokens (w ∷ ws) ≡ true → no_newline (form_text c w ws) ≡ true
unfolding no_newline in_word lacks all
form_newline c w ws h = rw (form_parts c w ws) (go c)
  where
    go : (c : Bool) → lacks 10 (40 ∷ closing c (join 32 (w ∷ ws))) ≡ true
    go true = all-append-true (λ c. not (eqb c 10)) (join 32 (w ∷ ws)) (41 ∷ []) (form_lacks 10 refl refl w ws h) refl
    go false = form_lacks 10 refl refl w ws h

-- ---- what text a row has

unfoldable pub RowText : List ℕ → Row → Type 0
RowText r bad = Unit {0}
RowText r close = r ≡ end_form
RowText r (form c w ws) = (r ≡ form_text c w ws) × (are_words (w ∷ ws) ≡ true)

pub row_text_lem : (r : List ℕ) → RowText r (row_of r)
unfolding row_of RowText form_row end_form
row_text_lem [] = tt
row_text_lem (b ∷ l) = go (eqb b 40) (same (b ∷ l) (41 ∷ [])) refl refl
  where
    formed : (c : Bool) (u : List ℕ) (ls : List (List ℕ)) → b ≡ 40 → l ≡ closing c u → split 32 u ≡ ls → RowText (b ∷ l) (form_row c ls)
    formed c u [] e d q = tt
    formed c u (w ∷ ws) e d q = words (are_words (w ∷ ws)) refl
      where
        words : (t : Bool) → are_words (w ∷ ws) ≡ t → RowText (b ∷ l) (pick t (form c w ws) bad)
        words true h = (rw (form_parts c w ws, e, d, sym (join-split 32 u) ∙ ap (join 32) q), h)
        words false h = tt

    go : (x y : Bool) → eqb b 40 ≡ x → same (b ∷ l) (41 ∷ []) ≡ y
        → RowText (b ∷ l) (let r = strip_close l in pick x (form_row r.0 (split 32 r.1)) (pick y close bad))
    go true y p q = formed (strip_close l).0 (strip_close l).1 (split 32 (strip_close l).1) (eqb-true b 40 p) (closing_strip l) refl
    go false true p q = same_equal (b ∷ l) (41 ∷ []) q
    go false false p q = tt
