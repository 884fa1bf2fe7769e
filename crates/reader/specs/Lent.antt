-- The lent tables as one value: what a row and a whole input leave in them. Assumes nothing.
use Rattle.std.specs.Prelude.{◌≡◌, refl}
use Rattle.std.proofs.Common.{◌∙◌}
use Rattle.listings.specs.Read.{Answer}
use Rattle.reader.specs.CodedRows.{Said}
use Rattle.reader.specs.Machine.{State}
use Rattle.reader.specs.Fill.{Operands, Recorded, RecordReady}
use Rattle.reader.specs.Filling.{Zeroed, Filled}
use Rattle.reader.specs.declared.fill.Walk.{Walk}
use Rattle.reader.specs.declared.tables.Records.{Records}

-- they are still the tables that were lent
pub record Same (t t' : Records) : Type 0 where
  pub lines : t'.lines.ghost_name ≡ t.lines.ghost_name
  pub stmts : t'.stmts.ghost_name ≡ t.stmts.ghost_name
  pub args : t'.args.ghost_name ≡ t.args.ghost_name

pub same_start : (t : Records) → Same t t
same_start t = record { lines = refl; stmts = refl; args = refl }

pub same_both : {t u v : Records} → Same t u → Same u v → Same t v
same_both a b = record { lines = b.lines ∙ a.lines; stmts = b.stmts ∙ a.stmts; args = b.args ∙ a.args }

-- ---- a row

abbrev pub ReadyIn : Records → State → Walk → Said → Operands → Type 0
ReadyIn t s w d x = RecordReady t.lines.now t.stmts.now t.args.now s w d x

pub record RecordedIn (t : Records) (s : State) (w : Walk) (d : Said) (x : Operands) (t' : Records) (r : Walk) : Type 0 where
  pub same : Same t t'
  pub recorded : Recorded t.lines.now t.stmts.now t.args.now s w d x t'.lines.now t'.stmts.now t'.args.now r

-- ---- all rows

abbrev pub ZeroedIn : Answer → Records → Type 0
ZeroedIn q t = Zeroed q t.lines.now t.stmts.now t.args.now

pub record FilledIn (q : Answer) (t t' : Records) : Type 0 where
  pub same : Same t t'
  pub filled : Filled q t.lines.now t.stmts.now t.args.now t'.lines.now t'.stmts.now t'.args.now
