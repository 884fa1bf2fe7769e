-- What the C functions over the questions return and write. Assumes nothing.
use Rattle.std.specs.Prelude.{ℕ, ◌≡◌, List, [], ◌∷◌, length, Result, Ok, Err}
use Rattle.std.specs.Prelude as std
use Rattle.std.proofs.Common.{subst}
use Rattle.std.proofs.Math.Option.{Option, none, some}
use Rattle.graph.specs.Questions.{Reply, answer, refused}
use Rattle.tables.specs.Told.{told_as}
use Rattle.adjacency.specs.EntryAt.{node_of}
use Rattle.frame_slices.specs.FrameAnswer.{length_of, slice_after}

-- document 01's number, 0 for an answer; and two entries, a refusal's place and 0 or what is answered

unfoldable pub code_of : {A : Type 0} → Reply A → ℕ
code_of (answer a) = 0
code_of (refused n p) = n

unfoldable pub words_of : {A : Type 0} → (A → List ℕ) → Reply A → List ℕ
words_of f (answer a) = f a
words_of f (refused n p) = p ∷ 0 ∷ []

-- start and length of a part; a node and the number of its opening word
unfoldable pub pair_words : ℕ × ℕ → List ℕ
pair_words d = d.0 ∷ d.1 ∷ []

-- a node and 1, or none
unfoldable pub entry_words : Option ℕ → List ℕ
entry_words none = 0 ∷ 0 ∷ []
entry_words (some i) = i ∷ 1 ∷ []

-- the length of a list
unfoldable pub length_words : List ℕ → List ℕ
length_words l = length l ∷ 0 ∷ []

pub record Numbered {A : Type 0} (f : A → List ℕ) (q : Reply A) (number : ℕ) (words : List ℕ) : Type 0 where
  pub number_is : number ≡ code_of q
  pub words_are : words ≡ words_of f q

-- the frame list, too: what becomes of the slice lent for it
pub record ListNumbered (q : Reply (List ℕ)) (out out' : List ℕ) (number : ℕ) (words : List ℕ) : Type 0 where
  pub answered : Numbered length_words q number words
  pub slice : out' ≡ slice_after q out

-- ---- the answer to a question, then told

pub numbered_as : {A : Type 0} {f : A → List ℕ} (q p : Reply A) {n : ℕ} {w : List ℕ} → q ≡ p → Numbered f q n w → Numbered f p n w
numbered_as {A} {f} q p {n} {w} e g = subst (λ (z : Reply A). Numbered f z n w) e g

-- a line's entry, as the definition has it
abbrev pub entry_told : {R : Type 0} → (R → ℕ × ℕ) → Result (std.Option ℕ) R → Reply (Option ℕ)
entry_told f (Ok x) = answer (node_of x)
entry_told f (Err r) = refused (f r).0 (f r).1

pub entry_numbered : {R : Type 0} (f : R → ℕ × ℕ) (r : Result (std.Option ℕ) R) (q : Reply (Option ℕ)) {n : ℕ} {w : List ℕ} → entry_told f r ≡ q → Numbered (λ x. entry_words (node_of x)) (told_as f r) n w
    → Numbered entry_words q n w
unfolding code_of words_of
entry_numbered f (Ok x) q e g = numbered_as (answer (node_of x)) q e (record { number_is = g.number_is; words_are = g.words_are })
entry_numbered f (Err x) q e g = numbered_as (refused (f x).0 (f x).1) q e (record { number_is = g.number_is; words_are = g.words_are })

pub length_numbered : (x : Reply ℕ) (q : Reply (List ℕ)) {n : ℕ} {w : List ℕ} → x ≡ length_of q → Numbered (λ k. k ∷ 0 ∷ []) x n w → Numbered length_words q n w
unfolding length_of code_of words_of length_words
length_numbered x (answer l) e g = let h = numbered_as x (answer (length l)) e g in record { number_is = h.number_is; words_are = h.words_are }
length_numbered x (refused m p) e g = let h = numbered_as x (refused m p) e g in record { number_is = h.number_is; words_are = h.words_are }
