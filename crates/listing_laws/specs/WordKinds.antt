-- The numbers of the opening words by kind: what no number of a kind passes, no word of it passes. The words are gone through here alone. Assumes nothing.
use Rattle.std.specs.Prelude.{◌≡◌, refl, Bool, true, false, ◌||◌, List, [], ◌∷◌, ℕ, eqb}
use Rattle.std.proofs.Common.{ap, ◌∙◌, arith, eqb-true}
use Rattle.listings.specs.Bytes.{bytes, same, pick}
use Rattle.listings.specs.Listing.{JumpWord, goto, gosub, runto, OnWord, ongoto, ongosub, BlockWord, repeat, loop, until, endloop, exit, exitif, doif, else, done, BareWord, return, run, clr, stop, any}
use Rattle.listings.specs.Rows.{opening_words}
use Rattle.listings.specs.ListingText.{jump_word, on_word, block_word, bare_word}
use Rattle.listings.specs.WordTable.{words, first, word_index}

-- whether one of these numbers passes the test
abbrev pub some_of : (ℕ → Bool) → List ℕ → Bool
some_of p [] = false
some_of p (n ∷ ns) = p n || some_of p ns

abbrev is_in : ℕ → List ℕ → Bool
is_in k [] = false
is_in k (n ∷ ns) = pick (eqb k n) true (is_in k ns)

neither : (a b : Bool) → (a || b) ≡ false → (a ≡ false) × (b ≡ false)
neither true b h = absurd (let z : ◌≡◌ {A = ℕ} 0 1 = cc in omega arith)
neither false b h = (refl, h)

none_of : (p : ℕ → Bool) (ns : List ℕ) (k : ℕ) → is_in k ns ≡ true → some_of p ns ≡ false → p k ≡ false
none_of p [] k h e = absurd (let z : ◌≡◌ {A = ℕ} 0 1 = cc in omega arith)
none_of p (n ∷ ns) k h e = let f = neither (p n) (some_of p ns) e in go (eqb k n) refl h f.0 (λ g. none_of p ns k g f.1)
  where
    go : (t : Bool) → eqb k n ≡ t → pick t true (is_in k ns) ≡ true → p n ≡ false → (is_in k ns ≡ true → p k ≡ false) → p k ≡ false
    go true q g here later = ap p (eqb-true k n q) ∙ here
    go false q g here later = later g

-- ---- one line number behind it

abbrev pub jump_numbers : List ℕ
jump_numbers = 7 ∷ 8 ∷ 10 ∷ []

jump_in : (w : JumpWord) → is_in (word_index (jump_word w)) jump_numbers ≡ true
unfolding word_index words first opening_words bytes same jump_word
jump_in goto = refl
jump_in gosub = refl
jump_in runto = refl

pub jump_never : (p : ℕ → Bool) → some_of p jump_numbers ≡ false → (w : JumpWord) → p (word_index (jump_word w)) ≡ false
jump_never p h w = none_of p jump_numbers (word_index (jump_word w)) (jump_in w) h

-- ---- a list of line numbers

abbrev pub on_numbers : List ℕ
on_numbers = 11 ∷ 12 ∷ []

on_in : (w : OnWord) → is_in (word_index (on_word w)) on_numbers ≡ true
unfolding word_index words first opening_words bytes same on_word
on_in ongoto = refl
on_in ongosub = refl

pub on_never : (p : ℕ → Bool) → some_of p on_numbers ≡ false → (w : OnWord) → p (word_index (on_word w)) ≡ false
on_never p h w = none_of p on_numbers (word_index (on_word w)) (on_in w) h

-- ---- loops and DOs

abbrev pub block_numbers : List ℕ
block_numbers = 15 ∷ 16 ∷ 17 ∷ 18 ∷ 19 ∷ 20 ∷ 21 ∷ 22 ∷ 23 ∷ []

block_in : (w : BlockWord) → is_in (word_index (block_word w)) block_numbers ≡ true
unfolding word_index words first opening_words bytes same block_word
block_in repeat = refl
block_in loop = refl
block_in until = refl
block_in endloop = refl
block_in exit = refl
block_in exitif = refl
block_in doif = refl
block_in else = refl
block_in done = refl

pub block_never : (p : ℕ → Bool) → some_of p block_numbers ≡ false → (w : BlockWord) → p (word_index (block_word w)) ≡ false
block_never p h w = none_of p block_numbers (word_index (block_word w)) (block_in w) h

-- ---- the others

abbrev pub bare_numbers : List ℕ
bare_numbers = 9 ∷ 10 ∷ 24 ∷ 25 ∷ 26 ∷ 27 ∷ []

bare_in : (w : BareWord) → is_in (word_index (bare_word w)) bare_numbers ≡ true
unfolding word_index words first opening_words bytes same bare_word
bare_in return = refl
bare_in run = refl
bare_in clr = refl
bare_in stop = refl
bare_in any = refl
bare_in BareWord.plain = refl

pub bare_never : (p : ℕ → Bool) → some_of p bare_numbers ≡ false → (w : BareWord) → p (word_index (bare_word w)) ≡ false
bare_never p h w = none_of p bare_numbers (word_index (bare_word w)) (bare_in w) h
