-- A piece fed by whole rows that are due, and else byte by byte. Assumes nothing.
use Prim.Native.Nat.{ℕ, suc, ◌+◌, ◌-◌, ◌≤◌, ◌<◌}
use Rattle.std.specs.Prelude.{◌≡◌, refl, List, [], ◌∷◌, Bool, true, false, eqb, length, take, drop, get_or}
use Rattle.std.proofs.Math.Path.{sym, ap}
use Rattle.std.proofs.Common.{◌∙◌, subst, length-drop, take_all, take-append-drop}
use native.Mathlib.Omega.{arith}
use Rattle.listings.specs.Bytes.{pick}
use Rattle.comparing.specs.Judging.{Reading, start, opened, lost, beside, met}
use Rattle.comparing.specs.Comparing.{Standing, same, differs, ended, begins, rows_number, differing, fed_byte, fed, is_start}
use Rattle.comparing.specs.ComparingLaws.{fed-append}
use Rattle.comparing.specs.ComparingStates.{fed_more}

-- the first i bytes of a piece that begins a row are those due
abbrev pub Matched : (due : List ℕ) (at : ℕ) (piece : List ℕ) (i : ℕ) → Type 0
Matched due at piece i = (r : Reading) × (fed due (same at start) (take i piece) ≡ same (at + i) r)

-- so many of them are whole rows
pub record RowsDue (due : List ℕ) (at : ℕ) (piece : List ℕ) (m : ℕ) : Type 0 where
  pub inside : m ≤ length piece
  pub room : 0 < m → at + m ≤ length due
  pub rows : fed due (same at start) (take m piece) ≡ same (at + m) start

-- some of a piece was fed, and with what is left the rest comes to the same
pub record FedTo (due : List ℕ) (s : Standing) (piece : List ℕ) (z : Standing) (left : List ℕ) : Type 0 where
  pub fewer : length left < length piece
  pub stands : fed due z left ≡ fed due s piece

module _ (due : List ℕ) (at : ℕ) (piece : List ℕ) where
  none_is : same at start ≡ same (at + 0) start
  none_is = let z : at ≡ at + 0 = omega arith in ap (λ (n : ℕ). same n start) z

  pub matched_none : Matched due at piece 0
  unfolding fed
  matched_none = (start, none_is)

  pub rows_none : RowsDue due at piece 0
  unfolding fed
  rows_none = record { inside = omega arith; room = λ h. omega arith; rows = none_is }

  module _ (i : ℕ) (h : i < length piece) (g : Matched due at piece i) (b : ℕ) (is : b ≡ get_or piece i 0) (e : begins (drop (at + i) due) b ≡ true) where
    matched_by : fed due (same at start) (take (i + 1) piece) ≡ same (at + (i + 1)) (pick (eqb b 10) start (met g.0 b))
    unfolding fed_byte
    matched_by =
        let n : suc (at + i) ≡ at + (i + 1) = omega arith in
        sym (fed_more due (same at start) piece i h) ∙ ap (fed_byte due (fed due (same at start) (take i piece))) (sym is)
        ∙ ap (λ (z : Standing). fed_byte due z b) g.1
        ∙ ap (λ (x : Bool). pick x (same (suc (at + i)) (pick (eqb b 10) start (met g.0 b))) (differing (at + i) g.0 b)) e
        ∙ ap (λ (k : ℕ). same k (pick (eqb b 10) start (met g.0 b))) n

    pub matched_next : Matched due at piece (i + 1)
    matched_next = (pick (eqb b 10) start (met g.0 b), matched_by)

    pub rows_next_due : (m k : ℕ) → at + (i + 1) ≤ length due → RowsDue due at piece m → k ≡ pick (eqb b 10) (i + 1) m → RowsDue due at piece k
    rows_next_due m k l w q = go (eqb b 10) q matched_by
      where
        go : (x : Bool) → k ≡ pick x (i + 1) m → fed due (same at start) (take (i + 1) piece) ≡ same (at + (i + 1)) (pick x start (met g.0 b)) → RowsDue due at piece k
        go true p f = subst (RowsDue due at piece) (sym p) (record { inside = omega arith; room = λ y. l; rows = f })
        go false p f = subst (RowsDue due at piece) (sym p) w

-- ---- one byte, whole rows, all that is left

-- what is left of a piece from byte k on
abbrev behind : List ℕ → ℕ → List ℕ
behind l k = take (length l - k) (drop k l)

behind_is : (l : List ℕ) (k : ℕ) → behind l k ≡ drop k l
behind_is l k = take_all (length l - k) (drop k l) (omega (arith, length-drop k l))

pub fed-one : (due : List ℕ) (s : Standing) (piece : List ℕ) → 0 < length piece → (z : Standing) → z ≡ fed_byte due s (get_or piece 0 0) → FedTo due s piece z (behind piece 1)
unfolding fed
fed-one due s [] h z e = absurd (omega arith)
fed-one due s (b ∷ l) h z e = record { fewer = omega (arith, ap length (behind_is (b ∷ l) 1)); stands = rw (behind_is (b ∷ l) 1, e) }

start_is : (r : Reading) → is_start r ≡ true → r ≡ start
unfolding is_start
start_is start e = refl
start_is opened e = absurd (let z : ◌≡◌ {A = ℕ} 0 1 = cc in omega arith)
start_is lost e = absurd (let z : ◌≡◌ {A = ℕ} 0 1 = cc in omega arith)
start_is (beside d) e = absurd (let z : ◌≡◌ {A = ℕ} 0 1 = cc in omega arith)

pub fed-rows : (due : List ℕ) (at : ℕ) (r : Reading) (piece : List ℕ) (m : ℕ) → is_start r ≡ true → 0 < m → RowsDue due at piece m → FedTo due (same at r) piece (same (at + m) start) (behind piece m)
fed-rows due at r piece m e p w = record {
  fewer = omega (arith, ap length (behind_is piece m), length-drop m piece, w.inside);
  stands = ap (fed due (same (at + m) start)) (behind_is piece m) ∙ ap (λ (y : Standing). fed due y (drop m piece)) (sym w.rows) ∙ sym (fed-append due (same at start) (take m piece) (drop m piece))
      ∙ ap (fed due (same at start)) (take-append-drop m piece) ∙ ap (λ (x : Reading). fed due (same at x) piece) (sym (start_is r e));
}

pub fed_differs : (due : List ℕ) (at : ℕ) (r : Reading) (b : ℕ) → differing at r b ≡ fed_byte due (differs at r) b
unfolding fed_byte
fed_differs due at r b = refl

-- the first i bytes of a piece are of the row that differs already, and the judge stands at z behind them
abbrev pub Differing : (at : ℕ) (r : Reading) (piece : List ℕ) (i : ℕ) (z : Reading) → Type 0
Differing at r piece i z = (due : List ℕ) → fed due (differs at r) (take i piece) ≡ differs at z

module _ (at : ℕ) (r : Reading) (piece : List ℕ) where
  pub differing_none : Differing at r piece 0 r
  unfolding fed
  differing_none due = refl

  module _ (i : ℕ) (z : Reading) (h : i < length piece) (g : Differing at r piece i z) (b : ℕ) (is : b ≡ get_or piece i 0) where
    -- one byte more
    differing_by : (due : List ℕ) → fed due (differs at r) (take (i + 1) piece) ≡ differing at z b
    unfolding fed_byte
    differing_by due = sym (fed_more due (differs at r) piece i h) ∙ ap (fed_byte due (fed due (differs at r) (take i piece))) (sym is) ∙ ap (λ (s : Standing). fed_byte due s b) (g due)

    pub differing_on : eqb b 10 ≡ false → Differing at r piece (i + 1) (met z b)
    unfolding differing
    differing_on e due = differing_by due ∙ ap (λ (x : Bool). pick x (ended (rows_number z) at) (differs at (met z b))) e

    pub differing_ends : eqb b 10 ≡ true → (due : List ℕ) → FedTo due (differs at r) piece (ended (rows_number z) at) (behind piece (i + 1))
    unfolding differing
    differing_ends e due = record {
      fewer = omega (arith, ap length (behind_is piece (i + 1)), length-drop (i + 1) piece);
      stands = ap (fed due (ended (rows_number z) at)) (behind_is piece (i + 1))
          ∙ ap (λ (y : Standing). fed due y (drop (i + 1) piece)) (sym (differing_by due ∙ ap (λ (x : Bool). pick x (ended (rows_number z) at) (differs at (met z b))) e))
          ∙ sym (fed-append due (differs at r) (take (i + 1) piece) (drop (i + 1) piece)) ∙ ap (fed due (differs at r)) (take-append-drop (i + 1) piece);
    }

  -- the row goes on behind the piece
  pub differing_all : (i : ℕ) (z : Reading) → 0 < length piece → length piece ≤ i → Differing at r piece i z → (due : List ℕ) → FedTo due (differs at r) piece (differs at z) []
  unfolding fed
  differing_all i z h k g due = record { fewer = h; stands = sym (g due) ∙ ap (fed due (differs at r)) (take_all i piece k) }

ended_stays : (due : List ℕ) (n at : ℕ) (g : List ℕ) → fed due (ended n at) g ≡ ended n at
unfolding fed fed_byte
ended_stays due n at [] = refl
ended_stays due n at (b ∷ g) = ended_stays due n at g

pub fed-ended : (due : List ℕ) (n at : ℕ) (piece : List ℕ) → 0 < length piece → FedTo due (ended n at) piece (ended n at) []
unfolding fed
fed-ended due n at piece h = record { fewer = h; stands = sym (ended_stays due n at piece) }

-- the same of a standing that is said otherwise
pub fed_as : {due : List ℕ} {s u : Standing} {piece : List ℕ} {z : Standing} {left : List ℕ} → s ≡ u → FedTo due s piece z left → FedTo due u piece z left
fed_as {due} {s} {u} {piece} {z} {left} e f = subst (λ (x : Standing). FedTo due x piece z left) e f

-- nothing is left
pub fed_all : (due : List ℕ) (z : Standing) (left : List ℕ) → length left ≡ 0 → z ≡ fed due z left
unfolding fed
fed_all due z [] h = refl
fed_all due z (b ∷ l) h = absurd (omega arith)
