-- The file's loop that writes: the loop over what the file's rows say. Assumes nothing.
use Rattle.std.specs.Prelude.{◌≡◌, refl, Bool, true, false, List, ℕ, ◌≤◌, length, take, Result, Ok, Err}
use Rattle.std.proofs.Common.{sym, ap, ◌∙◌, subst, arith}
use Rattle.listings.specs.Records.{args_of}
use Rattle.listings.specs.Listing.{Listing, total, count}
use Rattle.listings.specs.ListingText.{Within}
use Rattle.listing_laws.specs.CutLaws.{meant_within}
use Rattle.program_files.specs.Inputs.{meaning}
use Rattle.basic.specs.Judge.{judged_of, told_of}
use Rattle.reader.specs.Answer.{Numbered, by_number, listed_of}
use Rattle.listings.specs.Read.{Answer, listing, refusal, start}
use Rattle.listings.specs.Rows.{Content}
use Rattle.listing_laws.specs.RowsTaken.{Leads, listing_steps}
use Rattle.program_files.specs.Program.{read_program}
use Rattle.program_laws.specs.Accepted.{program_within, program_plain}
use Rattle.basic.specs.Rows.{contents_from, SimpleIs, RowIs, StartsRows}
use Rattle.basic.specs.RowLaws.{args_stand}
use Rattle.basic.specs.RowsAre.{rows_are_lem}
use Rattle.basic.specs.declared.judge.Counts.{Counts}
use Rattle.layout.specs.Refusals.{number_of}
use Rattle.layout.specs.declared.refusals.Refusal.{Refusal}
use Rattle.basic.specs.declared.sources.Source.{Source}
use Rattle.basic.specs.declared.sources.Simple.{Simple}
use Rattle.basic.specs.declared.sources.FileRow.{FileRow}
use Rattle.basic.specs.declared.sources.FileRow.TheVariants as file
use Rattle.reader.specs.CodedRows.{Said}
use Rattle.reader.specs.Machine.{State, as_state}
use Rattle.reader.specs.Fill.{written_row, Operands, no_operands, operands_of, Says, outside_walk, ArgsReady}
use Rattle.reader.specs.FillSteps.{Fills}
use Rattle.reader.specs.Filling.{Zeroed, filled_start}
use Rattle.reader.specs.declared.fill.Walk.{Walk}
use Rattle.reader.specs.declared.listing.Accepted.{Accepted}
use Rattle.tokens.specs.declared.words.Cond.TheVariants as cond
use Rattle.reader.specs.declared.rows.Row.{Row}
use Rattle.reader.specs.declared.rows.Row.TheVariants as row

-- ---- what judging answers, as the reader tells it

abbrev pub accepted_counts : Counts → Accepted
accepted_counts c = record { handlers = false; lines = c.lines; stmts = c.stmts }

abbrev pub listed_program_of : Result Counts Refusal → Result Accepted Refusal
listed_program_of (Ok c) = Ok (accepted_counts c)
listed_program_of (Err r) = Err r

-- an accepted input is within the limits
pub input_within : (b : Bool) (i : List ℕ) (L : Listing) → meaning b i ≡ listing L → Within L
input_within true i L e = program_within i L e
input_within false i L e = meant_within i L e

program_as : (h g : Bool) (a b c d : ℕ) → h ≡ g → a ≡ b → c ≡ d
    → ◌≡◌ {A = Result Accepted Numbered} (Ok (record { handlers = h; lines = a; stmts = c })) (Ok (record { handlers = g; lines = b; stmts = d }))
program_as h g a b c d p q r = cc

refused_as : (a b c d : ℕ) → a ≡ b → c ≡ d → ◌≡◌ {A = Result Accepted Numbered} (Err (record { number = a; place = c })) (Err (record { number = b; place = d }))
refused_as a b c d p q = cc

-- a saved program has no handlers
pub program_listed : (f : List ℕ) (j : Result Counts Refusal) → told_of j ≡ judged_of (read_program f) → by_number (listed_program_of j) ≡ listed_of (read_program f)
unfolding judged_of listed_of
program_listed f j e = go j (read_program f) refl e
  where
    go : (j : Result Counts Refusal) (b : Answer) → read_program f ≡ b → told_of j ≡ judged_of b → by_number (listed_program_of j) ≡ listed_of b
    go (Ok c) (listing L) q h =
        let x : c.lines ≡ count L.lines = cc in
        let y : c.stmts ≡ total L.lines = cc in
        program_as false L.handlers c.lines (count L.lines) c.stmts (total L.lines) (sym (program_plain f L q)) x y
    go (Ok c) (refusal n p) q h = absurd (cc)
    go (Err r) (listing L) q h = absurd (cc)
    go (Err r) (refusal n p) q h =
        let x : number_of r.reason ≡ n = cc in
        let y : r.place ≡ p = cc in
        refused_as (number_of r.reason) n r.place p x y

-- ---- a row of a file as one of a text

abbrev pub row_by : FileRow → Row
row_by file.Module = row.Module false
row_by (file.Line n) = row.Line n
row_by (file.Simple s) = row.Simple s.word 0
row_by file.If = row.Cond cond.If
row_by (file.To n) = row.To n
row_by file.Stmts = row.Stmts
row_by file.End = row.End

-- the arguments of a statement, which stand at the front of a part
abbrev pub operands_at : List ℕ → Simple → Operands
operands_at t s = record { entries = take s.count t; detail = 0 }

abbrev pub operands_by : List ℕ → FileRow → Operands
operands_by t file.Module = no_operands
operands_by t (file.Line n) = no_operands
operands_by t (file.Simple s) = operands_at t s
operands_by t file.If = no_operands
operands_by t (file.To n) = no_operands
operands_by t file.Stmts = no_operands
operands_by t file.End = no_operands

-- as many stand there as the code counts
abbrev pub RowCounted : List ℕ → FileRow → Type 0
RowCounted t file.Module = Unit {0}
RowCounted t (file.Line n) = Unit {0}
RowCounted t (file.Simple s) = s.count ≡ length (operands_at t s).entries
RowCounted t file.If = Unit {0}
RowCounted t (file.To n) = Unit {0}
RowCounted t file.Stmts = Unit {0}
RowCounted t file.End = Unit {0}

-- no more than a part has room for
abbrev pub Few : FileRow → Operands → Type 0
Few file.Module x = Unit {0}
Few (file.Line n) x = Unit {0}
Few (file.Simple s) x = length x.entries ≤ 64
Few file.If x = Unit {0}
Few (file.To n) x = Unit {0}
Few file.Stmts x = Unit {0}
Few file.End x = Unit {0}

pub few_by : (a : List ℕ) (n : ℕ) (r : FileRow) (x : Operands) → ArgsReady a n (Ok (row_by r)) x → Few r x
few_by a n file.Module x h = tt
few_by a n (file.Line m) x h = tt
few_by a n (file.Simple s) x h = h.1
few_by a n file.If x h = tt
few_by a n (file.To m) x h = tt
few_by a n file.Stmts x h = tt
few_by a n file.End x h = tt

-- z: the part before the row was asked for; t: the same part afterwards
module _ (z t : List ℕ) (d : Content) where
  file_row : (r : FileRow) → RowIs z t d r → ◌≡◌ {A = Said} (Ok (row_by r)) (written_row d)
  file_row file.Module h = ap written_row (sym h)
  file_row (file.Line n) h = ap written_row (sym h)
  file_row (file.Simple s) h = ap {B = Said} (λ (k : ℕ). Ok (row.Simple k 0)) h.word ∙ ap written_row (sym h.content)
  file_row file.If h = ap written_row (sym h)
  file_row (file.To n) h = ap written_row (sym h)
  file_row file.Stmts h = ap written_row (sym h)
  file_row file.End h = ap written_row (sym h)

  module _ (room : length z ≡ 64) where
    few_args : (s : Simple) (h : SimpleIs z t d s) → Few (file.Simple s) (operands_of d) → take s.count t ≡ args_of h.simple
    few_args s h few = args_stand h (omega (arith, room, few, ap (λ (e : Content). length (operands_of e).entries) h.content))

    file_operands : (r : FileRow) → RowIs z t d r → Few r (operands_of d) → operands_by t r ≡ operands_of d
    file_operands file.Module h few = ap operands_of (sym h)
    file_operands (file.Line n) h few = ap operands_of (sym h)
    file_operands (file.Simple s) h few = operands_are (few_args s h few) (sym h.detail) ∙ ap operands_of (sym h.content)
      where
        operands_are : {es fs : List ℕ} {k : ℕ} → es ≡ fs → 0 ≡ k → ◌≡◌ {A = Operands} (record { entries = es; detail = 0 }) (record { entries = fs; detail = k })
        operands_are p q = cc
    file_operands file.If h few = ap operands_of (sym h)
    file_operands (file.To n) h few = ap operands_of (sym h)
    file_operands file.Stmts h few = ap operands_of (sym h)
    file_operands file.End h few = ap operands_of (sym h)

    pub file_counted : (r : FileRow) → RowIs z t d r → Few r (operands_of d) → RowCounted t r
    file_counted file.Module h few = tt
    file_counted (file.Line n) h few = tt
    file_counted (file.Simple s) h few = h.count ∙ ap length (sym (few_args s h few))
    file_counted file.If h few = tt
    file_counted (file.To n) h few = tt
    file_counted file.Stmts h few = tt
    file_counted file.End h few = tt

  -- by the code's row e
  module _ (r : FileRow) (e : Row) (known : e ≡ row_by r) (is : RowIs z t d r) where
    row_is_lem : ◌≡◌ {A = Said} (Ok e) (written_row d)
    row_is_lem = ap {B = Said} Ok known ∙ file_row r is

    -- what the row says, with the operands of the listing
    pub file_alone : Says d (Ok e) (operands_of d)
    file_alone = record { row = row_is_lem; operands = refl }

    pub file_few : (a : List ℕ) (n : ℕ) → ArgsReady a n (Ok e) (operands_of d) → Few r (operands_of d)
    file_few a n h = few_by a n r (operands_of d) (subst (λ (x : Row). ArgsReady a n (Ok x) (operands_of d)) known h)

    -- and with those that stand in the part
    pub file_says_by : length z ≡ 64 → Few r (operands_of d) → Says d (Ok e) (operands_by t r)
    file_says_by room few = record { row = row_is_lem; operands = file_operands room r is few }

-- ---- the loop

-- an accepted file's rows lead to its listing
rows_lead : (f : List ℕ) (L : Listing) (s : Source) → read_program f ≡ listing L → StartsRows f s → Leads start (contents_from f s) L
rows_lead f L s e h = subst (λ (ds : List Content). Leads start ds L) (sym (h ∙ rows_are_lem f L e)) (listing_steps L (program_within f L e))

pub file_start : (f n t a : List ℕ) (z : Zeroed (read_program f) n t a) (d : Source) → StartsRows f d → (s : State) (w : Walk) → s ≡ as_state start → w ≡ outside_walk
    → Fills z.accepts.tree (length n) (length t) (length a) (contents_from f d) s w n t a
file_start f n t a z d h s w e k = filled_start z (contents_from f d) (rows_lead f z.accepts.tree d z.accepts.reads h) s w e k
