-- `key_at`: no capital stands first, or the key is that of what was read. Assumes nothing.
use Rattle.std.proofs.Common.{rules, Fits, w64, ◌≡◌, ◌∙◌, sym, ℕ, List, ◌+◌, ◌-◌, ◌*◌, ◌≤◌, ◌||◌, arith, true}
use Rattle.listings.specs.Rows.{is_capital, is_digit}
use Rattle.program_files.specs.Program.{Placed}
use Rattle.basic.specs.Cursors.{tokens_at, next_more, next_shorter}
use Rattle.basic.specs.Names.{IsKeyed, character_range, kind_range, name-none, keyed_none, keyed_kept, keyed_cut, keyed_kind, keyed_end, sum_small}
use Rattle.basic.proofs.names.key_at.Goals as goal
use Rattle.basic.proofs.names.key_at.Goals.{then-weight-lt-KEPT, else-weight-lt-KEPT}

not_end : (b : ℕ) → (is_capital b || is_digit b) ≡ true → b ≡ 0 → ⊥
not_end b h e = let r = character_range b h in omega arith

-- one digit more has room
digit_fits : {k l : List Placed} {a w b x : ℕ} → IsKeyed k l a w → b ≤ 90 → x ≡ b - 32 → Fits w64 (w * x) × Fits w64 (a + w * x)
digit_fits {k} {l} {a} {w} {b} r h e = let s = sum_small k l a w b r h in rw e (search rules, search rules)

pub returns-then-not-is_capital : goal.returns-then-not-is_capital
returns-then-not-is_capital c =
    sym (name-none c.token_at-t.result.place c.token_at-t.result.byte _ _ c.token_at-t.ensures (sym c.is_capital.ensures ∙ c.if-not-is_capital.true))

pub loop-next-init : goal.loop-next-init
loop-next-init c = (c.token_at-t.ensures, keyed_none c.token_at-t.result.place c.token_at-t.result.byte _ _ c.token_at-t.ensures (sym c.is_capital.ensures ∙ c.if-not-is_capital.false))

pub overflow_sub-t : goal.overflow_sub-t
overflow_sub-t c = let r = character_range c.loop-next.t.byte (sym c.is_letter.ensures ∙ c.loop-next-test.true) in omega arith

pub overflow_mul-key : goal.overflow_mul-key
overflow_mul-key c = (digit_fits c.loop-next.invariant.1 (character_range c.loop-next.t.byte (sym c.is_letter.ensures ∙ c.loop-next-test.true)).1 c.from.ensures).0

pub overflow_add-key : goal.overflow_add-key
overflow_add-key c = (digit_fits c.loop-next.invariant.1 (character_range c.loop-next.t.byte (sym c.is_letter.ensures ∙ c.loop-next-test.true)).1 c.from.ensures).1

pub loop-next-smaller : goal.loop-next-smaller
loop-next-smaller c =
    let h = not_end c.loop-next.t.byte (sym c.is_letter.ensures ∙ c.loop-next-test.true) in
    omega (arith, next_shorter (tokens_at c.args.file.now) c.loop-next.next c.loop-next.t c.loop-next.invariant.0 h)

pub loop-next-preserved : goal.loop-next-preserved
loop-next-preserved c =
    let d = sym c.is_letter.ensures ∙ c.loop-next-test.true in
    let T = tokens_at c.args.file.now in
    let t = c.loop-next.t in
    let n = next_more T c.loop-next.next t c.loop-next.invariant.0 (not_end t.byte d) in
    let i = c.if-weight-lt-KEPT in
    let r : IsKeyed (T c.args.c) (T t.next) i.key i.weight = elim i.branch [
      | then-weight-lt-KEPT w ↦
          rw (w.key-is, w.weight-is, w.from.ensures) (keyed_kept (T c.args.c) (T c.loop-next.next) (T t.next) c.loop-next.key c.loop-next.weight t.place t.byte c.loop-next.invariant.1 n d w.if-weight-lt-KEPT.true)
      | else-weight-lt-KEPT w ↦
          rw (w.key-is, w.weight-is) (keyed_cut (T c.args.c) (T c.loop-next.next) (T t.next) c.loop-next.key c.loop-next.weight t.place t.byte c.loop-next.invariant.1 n d w.if-weight-lt-KEPT.false)
    ] in
    (c.token_at-t-in-loop-next.ensures, r)

pub overflow_sub-t-then-is_suffix : goal.overflow_sub-t-then-is_suffix
overflow_sub-t-then-is_suffix c = let r = kind_range c.loop-next.t.byte (sym c.is_suffix.ensures ∙ c.if-is_suffix.true) in omega arith

pub overflow_mul-result : goal.overflow_mul-result
overflow_mul-result c = (digit_fits c.loop-next.invariant.1 (kind_range c.loop-next.t.byte (sym c.is_suffix.ensures ∙ c.if-is_suffix.true)).1 c.from-then-is_suffix.ensures).0

pub overflow_add-result : goal.overflow_add-result
overflow_add-result c = (digit_fits c.loop-next.invariant.1 (kind_range c.loop-next.t.byte (sym c.is_suffix.ensures ∙ c.if-is_suffix.true)).1 c.from-then-is_suffix.ensures).1

pub returns-then-is_suffix : goal.returns-then-is_suffix
returns-then-is_suffix c =
    let T = tokens_at c.args.file.now in
    let t = c.loop-next.t in
    let g = sym c.is_suffix.ensures ∙ c.if-is_suffix.true in
    let r = kind_range t.byte g in
    let n = next_more T c.loop-next.next t c.loop-next.invariant.0 (λ e. omega arith) in
    rw c.from-then-is_suffix.ensures (sym (keyed_kind (T c.args.c) (T c.loop-next.next) (T t.next) c.loop-next.key c.loop-next.weight t.place t.byte c.loop-next.invariant.1 n (sym c.is_letter.ensures ∙ c.loop-next-test.false) g))

pub returns : goal.returns
returns c =
    let T = tokens_at c.args.file.now in
    let t = c.loop-next.t in
    sym (keyed_end (T c.args.c) (T c.loop-next.next) _ c.loop-next.key c.loop-next.weight t.place t.byte c.loop-next.invariant.1 c.loop-next.invariant.0 (sym c.is_letter.ensures ∙ c.loop-next-test.false)
    (sym c.is_suffix.ensures ∙ c.if-is_suffix.false))
