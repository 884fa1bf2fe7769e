-- `pass_lists`: what stops is the first byte that is no such list. Assumes nothing.
use Rattle.std.proofs.Common.{rules, arith, ◌≡◌, ◌∙◌, ◌-◌, not, length, take, drop, take_all, length-drop}
use Rattle.std.proofs.lemmas.Iterator.{YieldsList-from_slice}
use Rattle.std.proofs.lemmas.Iterator.Search.{position_from_yields_List}
use Rattle.tokens.specs.ListWords.{first_or_end}
use Rattle.comparing.specs.JudgeStates.{passes, lists_in_front, front_passed}
use Rattle.comparing.proofs.judge.pass_lists.Goals as goal

pub returns : goal.returns
unfolding lists_in_front
returns c =
    let l = c.args.left.now in
    let u = c.unwrap_or-n.result in
    let e = position_from_yields_List (λ x. not (passes x c.args.b)) _ _ c.position.result c.position.ensures.ran (YieldsList-from_slice l cc) (λ x b q k. search rules) in
    let n : u ≡ lists_in_front c.args.b l = c.unwrap_or-n.ensures ∙ (first_or_end (λ x. not (passes x c.args.b)) l c.position.result e).0 in
    let t : take (length l - u) (drop u l) ≡ drop u l = take_all _ _ (omega (arith, length-drop u l)) in
    rw (t, n) (front_passed c.args.b l)
