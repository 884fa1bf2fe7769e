-- How the frame list comes into the slice lent for it: the list at its front, zeros behind. Assumes nothing.
use Rattle.std.specs.Prelude.{ℕ, ◌<◌, ◌≤◌, ◌≡◌, refl, List, [], ◌++◌, Result, Ok, Err, length, take, drop, replicate}
use Rattle.std.proofs.Common.{sym, ap, subst, ◌∙◌, arith, le-leb, length-append, length-drop, take_at}
use Rattle.std.proofs.lemmas.Bool.{lt-leb}
use Rattle.listings.specs.Records.{padded}
use Rattle.reader.specs.Tables.{padded-nil}
use Rattle.layout.specs.Zeroed.{filled_behind}
use Rattle.layout.specs.declared.refusals.Reason.TheVariants.{NoRoom}
use Rattle.layout.specs.declared.refusals.Refusal.{Refusal}
use Rattle.layout.specs.Refusals.{number_of, refusal_at}
use Rattle.tables.specs.Told.{told}
use Rattle.graph.specs.Questions.{Reply, answer, refused, if_room}
use Rattle.frame_slices.specs.FrameAnswer.{FrameAnswered, length_of, slice_after}

-- ---- the answer

room_for : (room : ℕ) (l : List ℕ) → length l ≤ room → if_room room l ≡ answer l
unfolding if_room
room_for room l h = rw (le-leb (length l) room h)

room_short : (room : ℕ) (l : List ℕ) → room < length l → if_room room l ≡ refused 28 (length l)
unfolding if_room
room_short room l h = rw (lt-leb (length l) room h)

answered_by : (q : Reply (List ℕ)) (out t : List ℕ) (r : Result ℕ Refusal) (p : Reply (List ℕ)) → q ≡ p → told r ≡ length_of p → t ≡ slice_after p out → FrameAnswered q out t r
answered_by q out t r p e f g = record { answered = f ∙ ap length_of (sym e); slice = g ∙ ap (λ (z : Reply (List ℕ)). slice_after z out) (sym e) }

-- a refused question writes nothing
pub answered-refused : (q : Reply (List ℕ)) (out : List ℕ) (r : Refusal) → q ≡ refused (number_of r.reason) r.place → FrameAnswered q out out (Err r)
unfolding length_of slice_after
answered-refused q out r e = answered_by q out out (Err r) (refused (number_of r.reason) r.place) e refl refl

-- "28 the frame answer is longer than the slice lent for it (place: the answer's length)"
pub answered_long : (l out : List ℕ) (r : Refusal) (n : ℕ) → r ≡ refusal_at NoRoom n → n ≡ length l → length out < n → FrameAnswered (if_room (length out) l) out out (Err r)
answered_long l out r n f e h = rw f (answered-refused (if_room (length out) l) out (refusal_at NoRoom n) (room_short (length out) l (omega arith) ∙ ap (λ (k : ℕ). refused 28 k) (sym e)))

padded_front : (l out t : List ℕ) → length l ≤ length out → t ≡ l ++ drop (length l) out → filled_behind 0 (length l) t ≡ padded (length out) l
unfolding padded
padded_front l out t h e =
    let k : length t ≡ length out = ap length e ∙ length-append l (drop (length l) out) ∙ omega (arith, length-drop (length l) out) in
    let f : take (length l) t ≡ l = ap (take (length l)) e ∙ take_at l (drop (length l) out) (length l) refl in
    rw (f, k)

-- the list stands at the front of t, and the rest of t became zero
pub answered-list : (l out t u : List ℕ) (n : ℕ) → n ≡ length l → n ≤ length out → t ≡ l ++ drop (length l) out → u ≡ filled_behind 0 n t → FrameAnswered (if_room (length out) l) out u (Ok n)
unfolding length_of slice_after
answered-list l out t u n e h f g =
    answered_by (if_room (length out) l) out u (Ok n) (answer l) (room_for (length out) l (omega arith)) (ap answer e)
    (g ∙ ap (λ (k : ℕ). filled_behind 0 k t) e ∙ padded_front l out t (omega arith) f)

pub answered-none : (out t : List ℕ) → t ≡ replicate (length out) 0 → FrameAnswered (if_room (length out) []) out t (Ok 0)
unfolding length_of slice_after
answered-none out t e = answered_by (if_room (length out) []) out t (Ok 0) (answer []) (room_for (length out) [] (omega arith)) refl (e ∙ sym (padded-nil (length out)))

-- by another list that is the same
pub answered_as : (l m out t : List ℕ) (r : Result ℕ Refusal) → l ≡ m → FrameAnswered (if_room (length out) l) out t r → FrameAnswered (if_room (length out) m) out t r
answered_as l m out t r e g = subst (λ (z : List ℕ). FrameAnswered (if_room (length out) z) out t r) e g
