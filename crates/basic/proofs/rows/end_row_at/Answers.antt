use Rattle.std.proofs.Common.{refl, ◌≡◌, ◌∙◌, ◌+◌, ◌-◌, sym, ap, ℕ, List, ◌∷◌, arith}
use Rattle.listings.specs.Rows.{Content, end_row}
use Rattle.basic.specs.Rows.{ends_then, lines_at, lines_behind, contents_from}
use Rattle.basic.specs.RowLaws.{ends_more, first_rw}
use Rattle.basic.proofs.rows.end_row_at.Goals as goal

pub returns-in-0 : goal.returns-in-0
unfolding ends_then
returns-in-0 c z t =
    let f = c.args.file.now in
    let ds = lines_behind f c.args.s.at in
    let e = ap (λ (n : ℕ). ends_then n ds) c.in-0.is ∙ sym c.link_behind.ensures in
    first_rw f (ends_then c.args.s.ends ds) (lines_at f c.link_behind.result) c.line_row_at.result e (c.line_row_at.ensures z t)

pub returns-in-1 : goal.returns-in-1
unfolding ends_then contents_from
returns-in-1 c z t =
    let ds = lines_behind c.args.file.now c.args.s.at in
    record { content = end_row; says = refl; behind = rw c.uncovered.ensures (ap (λ (n : ℕ). ends_then n ds) c.in-1.is ∙ ap (λ (l : List Content). end_row ∷ l) (sym c.link_behind-in-1.ensures)) }

pub returns-in_default : goal.returns-in_default
unfolding contents_from
returns-in_default c z t =
    let ds = lines_behind c.args.file.now c.args.s.at in
    let e : c.args.s.ends ≡ c.args.s.ends - 1 + 1 = grind arith in
    record { content = end_row; says = refl; behind = ap (λ (n : ℕ). ends_then n ds) e ∙ ends_more (c.args.s.ends - 1) ds }
