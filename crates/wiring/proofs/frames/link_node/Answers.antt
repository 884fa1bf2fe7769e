-- `link_node`: one law for each way out. Assumes nothing.
use borrow.Author.Rules.{rules}
use Prim.Native.Nat.{ℕ, ◌+◌, ◌-◌, ◌*◌, ◌≤◌, ◌<◌}
use mathlib.Core.List.{List}
use mathlib.Core.Logic.{inl, inr}
use mathlib.Core.Path.{◌≡◌, refl, ◌∙◌}
use lib.ListN.{get_or, set, length}
use Rattle.passes.specs.Compare.{lt-or}
use Rattle.passes.specs.FramePass.{linked}
use native.Mathlib.Omega.{arith}
use Rattle.passes.specs.LinkLaws.{link_none, link_else, link_exit, link_exitif, link_closer}
use Rattle.wiring.specs.declared.leads.Frame.{Frame}
use Rattle.wiring.specs.FrameRows.{flat, no_frame, opener_at, closer_set, else_put}
use Rattle.wiring.proofs.frames.link_node.Goals as goal
use Rattle.wiring.proofs.frames.link_node.Goals.{in_default-word-via-then-word-lt19, in_default-word-via-else-word-lt19+else-word-lt21}

-- what node i meets, as the flat list has it, and that it stands in the table
met_is : (t : List Frame) (i m : ℕ) → m ≡ (get_or t i no_frame).opener → m ≡ get_or (flat t) (i * 3) 0
met_is t i m e = e ∙ opener_at t i

met_in : (t : List Frame) (i m o : ℕ) → length t ≡ 4096 → i < 4096 → m ≡ (get_or t i no_frame).opener → get_or (flat t) (i * 3) 0 ≤ i → 1 ≤ m → o ≡ m - 1 → o < 4096
met_in t i m o s h e b p q = omega (arith, met_is t i m e)

-- an EXIT or an EXITIF
quiet : (w i : ℕ) (t : List ℕ) (m : ℕ) → m ≡ get_or t (i * 3) 0 → (m ≡ 0 → ⊥) → 19 ≤ w → w < 21 → t ≡ linked w i t
quiet w i t m e h a b =
    elim (lt-or w 20) [
      | inl p ↦ link_exit w i 0 t m e h (omega arith) (omega arith)
      | inr p ↦ link_exitif w i 0 t m e h (omega arith) (omega arith) (omega arith)
    ]

pub returns-in_default : goal.returns-in_default
returns-in_default c =
    let a = c.args in
    let w = c.from-met in
    link_none a.word a.i 0 (flat a.frames.now) w.result (met_is a.frames.now a.i w.result w.ensures) (omega (arith, c.in_default.ensures))

pub bounds-frames-opener : goal.bounds-frames-opener
bounds-frames-opener c = met_in c.args.frames.now c.args.i c.from-met.result c.in-Some.opener (search rules) c.requires.0 c.from-met.ensures c.requires.1 c.in-Some.ensures.0 c.in-Some.ensures.1

pub bounds-frames-opener-in-22 : goal.bounds-frames-opener-in-22
bounds-frames-opener-in-22 c = met_in c.args.frames.now c.args.i c.from-met.result c.in-Some.opener (search rules) c.requires.0 c.from-met.ensures c.requires.1 c.in-Some.ensures.0 c.in-Some.ensures.1

pub bounds-frames-opener-in_default-word : goal.bounds-frames-opener-in_default-word
bounds-frames-opener-in_default-word c = met_in c.args.frames.now c.args.i c.from-met.result c.in-Some.opener (search rules) c.requires.0 c.from-met.ensures c.requires.1 c.in-Some.ensures.0 c.in-Some.ensures.1

pub returns-in-22 : goal.returns-in-22
returns-in-22 c =
    let a = c.args in
    let w = c.from-met in
    let t = a.frames.now in
    let o = c.in-Some.opener in
    let e : o ≡ w.result - 1 = c.in-Some.ensures.1 in
    let z : set (set (flat t) (a.i * 3 + 2) (get_or (flat t) (o * 3 + 2) 0)) (o * 3 + 2) (a.i + 1) ≡ linked a.word a.i (flat t)
    = rw e (link_else a.word a.i (a.i + 1) (flat t) w.result (met_is t a.i w.result w.ensures) (omega (arith, c.in-Some.ensures)) c.in-22.is refl) in
    else_put t a.i o (a.i + 1) (omega arith) (omega (arith, met_in t a.i w.result o (search rules) c.requires.0 w.ensures c.requires.1 c.in-Some.ensures.0 e)) ∙ z

pub returns-in-19 : goal.returns-in-19
returns-in-19 c = quiet c.args.word c.args.i (flat c.args.frames.now) c.from-met.result (met_is c.args.frames.now c.args.i c.from-met.result c.from-met.ensures) (omega (arith, c.in-Some.ensures)) (search rules) (search rules)

pub returns-in_default-word : goal.returns-in_default-word
returns-in_default-word c =
    let a = c.args in
    let w = c.from-met in
    let t = a.frames.now in
    let o = c.in-Some.opener in
    let e : o ≡ w.result - 1 = c.in-Some.ensures.1 in
    let at = met_is t a.i w.result w.ensures in
    let some : w.result ≡ 0 → ⊥ = omega (arith, c.in-Some.ensures) in
    let z : set (flat t) (o * 3 + 1) (a.i + 1) ≡ linked a.word a.i (flat t)
    = rw e (elim c.in_default-word.branch [
      | in_default-word-via-then-word-lt19 v ↦ link_closer a.word a.i (a.i + 1) (flat t) w.result at some (search rules) (search rules) (search rules) refl
      | in_default-word-via-else-word-lt19+else-word-lt21 v ↦ link_closer a.word a.i (a.i + 1) (flat t) w.result at some (search rules) (search rules) (search rules) refl
    ]) in
    closer_set t o (a.i + 1) (omega (arith, met_in t a.i w.result o (search rules) c.requires.0 w.ensures c.requires.1 c.in-Some.ensures.0 e)) ∙ z
