-- `are_words`: no byte so far breaks a word, so those still to come decide. Assumes nothing.
use native.Mathlib.Omega.{arith}
use mathlib.Core.Path.{◌∙◌, ap, sym}
use mathlib.Core.Bool.{Bool, true, not, ◌&&◌}
use mathlib.Core.Logic.{inl, inr}
use Prim.Native.Nat.{◌+◌}
use lib.ListN.{drop}
use Rattle.tokens.specs.Arguments.{words_from, words_from_lem, words_bracket, words_space, words-other, words_end_lem}
use Rattle.tokens.proofs.arguments.are_words.Goals as goal
use Rattle.tokens.proofs.arguments.are_words.Goals.{in-32+else-fresh, in_default}

pub loop-b-init : goal.loop-b-init
loop-b-init c = words_from_lem c.args.s.now

pub returns-in-40 : goal.returns-in-40
returns-in-40 c = sym (words_bracket c.loop-b.fresh c.args.s.now c.loop-b.b-index (omega arith) (inl c.in-40.is)) ∙ c.loop-b.invariant

pub returns-in-40-2 : goal.returns-in-40-2
returns-in-40-2 c = sym (words_bracket c.loop-b.fresh c.args.s.now c.loop-b.b-index (omega arith) (inr c.in-40.is)) ∙ c.loop-b.invariant

pub returns-then-fresh : goal.returns-then-fresh
returns-then-fresh c =
    let l = c.loop-b in
    sym (words_space l.fresh c.args.s.now l.b-index (omega arith) c.in-32.is ∙ ap (λ (t : Bool). not t && words_from true (drop (l.b-index + 1) c.args.s.now)) c.if-fresh.true) ∙ l.invariant

pub loop-b-preserved : goal.loop-b-preserved
loop-b-preserved c =
    let l = c.loop-b in
    let s = c.args.s.now in
    elim c.match-b.branch [
      | in-32+else-fresh w ↦
          ap (λ (t : Bool). words_from t (drop (l.b-index + 1) s)) w.fresh-is
          ∙ sym (words_space l.fresh s l.b-index (omega arith) w.in-32.is ∙ ap (λ (t : Bool). not t && words_from true (drop (l.b-index + 1) s)) w.if-fresh.false) ∙ l.invariant
      | in_default w ↦
          ap (λ (t : Bool). words_from t (drop (l.b-index + 1) s)) w.fresh-is ∙ sym (words-other l.fresh s l.b-index (omega arith) (λ e. omega (arith, e)) (λ e. omega (arith, e)) (λ e. omega (arith, e))) ∙ l.invariant
    ]

pub returns : goal.returns
returns c = sym (words_end_lem c.loop-b.fresh c.args.s.now c.loop-b.b-index (omega arith)) ∙ c.loop-b.invariant
