-- `read_items`: those put and those still to come are all; each took a byte. Assumes nothing.
use Rattle.std.proofs.Common.{◌∙◌, ◌<◌, length, sym, inl, inr, arith}
use Rattle.basic.specs.Cursors.{tokens_at, tokens_length}
use Rattle.basic.specs.Found.{handed_on}
use Rattle.basic.specs.Fuel.{rest_shorter}
use Rattle.basic.specs.Tokens.{next_is, next_shorter, tokens_some}
use Rattle.basic.specs.ItemLaws.{item_shortens, items_lacking, items_last, items_more, NextPut, putting_start, putting_more, putting_last, putting_counts, putting_lacks}
use Rattle.basic.proofs.items.read_items.Goals as goal
use Rattle.basic.proofs.items.read_items.Goals.{Joined-count-part, then-count-part, else-count-part}

-- an item takes a byte at least, and is put where there is room
taken : (c : Joined-count-part) → length (tokens_at c.args.file.now c.in_ok-item.item.next) < length (tokens_at c.args.file.now c.loop-item.at)
taken c = rest_shorter _ (sym c.in_ok-item.ensures) ((item_shortens c.args.kind).shorter _)

stored : (c : Joined-count-part) → NextPut c.loop-item.count c.in_ok-item.item.value c.loop-item.part c.if-count-part.part
stored c = elim c.if-count-part.branch [
  | then-count-part w ↦ inl (w.if-count-part.true, w.part-is)
  | else-count-part w ↦ inr (w.if-count-part.false, w.part-is)
]

pub loop-item-init : goal.loop-item-init
loop-item-init c = record { putting = putting_start _ _; few = omega arith }

pub returns-in_err-item-clause-told : goal.returns-in_err-item-clause-told
returns-in_err-item-clause-told c =
    let p = c.in_err-item.field-0.0.place in
    let e = items_lacking c.args.kind (tokens_at c.args.file.now c.loop-item.at) p (sym c.in_err-item.ensures) in
    handed_on _ c.from_residual.result _ c.from_residual.ensures.1 ∙ putting_lacks c.loop-item.count p _ _ _ (rw e at c.loop-item.invariant.putting)

pub overflow_add-count : goal.overflow_add-count
overflow_add-count c =
    omega (arith, taken (goal.at.overflow_add-count c).Joined-count-part, tokens_length c.args.file.now c.args.c, tokens_some c.args.file.now c.in_ok-item.item.next)

-- the last item
pub returns-then-t-ne44-clause-told : goal.returns-then-t-ne44-clause-told
returns-then-t-ne44-clause-told c =
    let e = items_last c.args.kind (tokens_at c.args.file.now c.loop-item.at) c.in_ok-item.item.value _ (sym c.in_ok-item.ensures) _ _ c.token_at-t.ensures c.if-t-ne44.true in
    putting_counts c.loop-item.count c.in_ok-item.item.value _ _ _ _ (rw e at c.loop-item.invariant.putting)

pub returns-then-t-ne44-clause-put : goal.returns-then-t-ne44-clause-put
returns-then-t-ne44-clause-put c =
    let e = items_last c.args.kind (tokens_at c.args.file.now c.loop-item.at) c.in_ok-item.item.value _ (sym c.in_ok-item.ensures) _ _ c.token_at-t.ensures c.if-t-ne44.true in
    putting_last c.loop-item.count c.in_ok-item.item.value _ _ _ _ _ (omega arith) (stored (goal.at.returns-then-t-ne44-clause-put c).Joined-count-part) (rw e at c.loop-item.invariant.putting)

-- one of several
pub loop-item-smaller : goal.loop-item-smaller
loop-item-smaller c =
    let t = next_shorter (tokens_at c.args.file.now) c.in_ok-item.item.next c.token_at-t.result c.token_at-t.ensures (λ z. omega arith) in
    omega (arith, taken (goal.at.loop-item-smaller c).Joined-count-part)

pub loop-item-preserved : goal.loop-item-preserved
loop-item-preserved c =
    let j = (goal.at.loop-item-preserved c).Joined-count-part in
    let s = taken j in
    let t = next_shorter (tokens_at c.args.file.now) c.in_ok-item.item.next c.token_at-t.result c.token_at-t.ensures (λ z. omega arith) in
    let n = next_is (tokens_at c.args.file.now) c.in_ok-item.item.next c.token_at-t.result c.token_at-t.ensures (λ z. omega arith) in
    let e = items_more c.args.kind (tokens_at c.args.file.now c.loop-item.at) c.in_ok-item.item.value _ (sym c.in_ok-item.ensures) _ _ n c.if-t-ne44.false in
    record {
      putting = putting_more c.loop-item.count c.in_ok-item.item.value _ _ _ _ _ (omega arith) (stored j) (rw e at c.loop-item.invariant.putting);
      few = omega arith;
    }
