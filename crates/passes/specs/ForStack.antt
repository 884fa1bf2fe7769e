-- The FOR stack as the tables have it: the open FORs by their ids, newest first; a FOR's name is the first key of its
-- row of arguments. Assumes nothing.
use Rattle.std.specs.Prelude.{ℕ, zero, suc, ◌+◌, ◌*◌, ◌≤◌, ◌≡◌, Bool, ◌||◌, List, [], ◌∷◌, ◌++◌, eqb, length, get_or, take, drop}
use Rattle.std.proofs.Math.Option.{Option, none, some}
use Rattle.layout.specs.Layout.{for_word, next_word}
use Rattle.listings.specs.Bytes.{pick}
use Rattle.passes.specs.FrameStacks.{top_of, under_top, Holds}
use Rattle.passes.specs.ListedNodes.{keys_at}

-- the newest FOR whose name has the key v, and what lies under it
unfoldable pub find_key : List ℕ → ℕ → List ℕ → Option (ℕ × List ℕ)
find_key ks v [] = none
find_key ks v (o ∷ l) = pick (eqb (get_or ks (o * 64) 0) v) (some (o, l)) (find_key ks v l)

abbrev pub found_number : Option (ℕ × List ℕ) → ℕ
found_number none = 0
found_number (some r) = suc r.0

abbrev pub under_found : List ℕ → Option (ℕ × List ℕ) → List ℕ
under_found l none = l
under_found l (some r) = r.1

-- a slot with that key: one more than the FOR that it pops, or 0; and what is left
unfoldable pub pop_key : List ℕ → ℕ → List ℕ → ℕ × List ℕ
pop_key ks zero l = (top_of l, under_top l)
pop_key ks (suc v) l = (found_number (find_key ks (suc v) l), under_found l (find_key ks (suc v) l))

-- slot by slot
unfoldable pub key_links : List ℕ → List ℕ → List ℕ → List ℕ
key_links ks [] l = []
key_links ks (v ∷ vs) l = (pop_key ks v l).0 ∷ key_links ks vs (pop_key ks v l).1

unfoldable pub keys_left : List ℕ → List ℕ → List ℕ → List ℕ
keys_left ks [] l = l
keys_left ks (v ∷ vs) l = keys_left ks vs (pop_key ks v l).1

-- after a FOR i: its own older frame and all above it are dropped
unfoldable pub push_key : List ℕ → ℕ → List ℕ → List ℕ
push_key ks i l = i ∷ under_found l (find_key ks (get_or ks (i * 64) 0) l)

-- whether a statement whose opening word has the number w does anything to the stack
unfoldable pub moves_fors : ℕ → Bool
moves_fors w = eqb w for_word || eqb w next_word

-- after node i, whose opening word has the number w
unfoldable pub fors_open : List ℕ → ℕ → ℕ → List ℕ → List ℕ → List ℕ
fors_open ks w i vs l = pick (eqb w for_word) (push_key ks i l) (pick (eqb w next_word) (keys_left ks vs l) l)

unfoldable pub fors_linked : List ℕ → ℕ → ℕ → List ℕ → List ℕ → List ℕ → List ℕ
fors_linked ks w i vs l t = pick (eqb w next_word) (take (i * 64) t ++ (key_links ks vs l ++ drop (i * 64 + length vs) t)) t

-- ---- what the code ensures of words that hold open FORs

abbrev pub Sought : List ℕ → ℕ → List ℕ → ℕ → Type 0
Sought ks v ws r = (l : List ℕ) → Holds ws l → r ≡ found_number (find_key ks v l)

abbrev pub SlotFound : List ℕ → ℕ → List ℕ → ℕ → Type 0
SlotFound ks v ws f = (l : List ℕ) → Holds ws l → f ≡ (pop_key ks v l).0

abbrev pub SlotPopped : List ℕ → ℕ → List ℕ → List ℕ → ℕ → Type 0
SlotPopped ks v ws us f = (l : List ℕ) → Holds ws l → (f ≡ (pop_key ks v l).0) × Holds us (pop_key ks v l).1

abbrev pub ForPushed : List ℕ → ℕ → List ℕ → List ℕ → Type 0
ForPushed ks i ws us = (l : List ℕ) → Holds ws l → top_of l ≤ i → Holds us (push_key ks i l)

abbrev pub SlotsPopped : List ℕ → List ℕ → List ℕ → List ℕ → List ℕ → Type 0
SlotsPopped ks vs ws us row = (l : List ℕ) → Holds ws l → (row ≡ key_links ks vs l) × Holds us (keys_left ks vs l)

pub record NodeLinked (ts ks : List ℕ) (i : ℕ) (ws us t t' : List ℕ) : Type 0 where
  pub links : (l : List ℕ) → Holds ws l → top_of l ≤ i → t' ≡ fors_linked ks (get_or ts (i * 12) 0) i (keys_at ts ks i) l t
  pub held : (l : List ℕ) → Holds ws l → top_of l ≤ i → Holds us (fors_open ks (get_or ts (i * 12) 0) i (keys_at ts ks i) l)
