-- The loop that writes, over what its rows say: room for all that is still to come, the invariant, and what it gives.
-- Assumes nothing.
use Rattle.std.specs.Prelude.{◌≡◌, refl, Bool, true, false, List, [], ◌∷◌, ℕ, ◌*◌, ◌≤◌, leb, ltb, length, replicate, Ok, Err}
use Rattle.std.proofs.Common.{sym, ◌∙◌, subst, append-nil, arith}
use Rattle.std.proofs.Math.Path.{ap}
use Rattle.std.proofs.Math.Option.{Option, none, some}
use Rattle.std.specs.Result.{IsOk}
use Rattle.listings.specs.Listing.{CondWord, Stmts, Listing, total, count}
use Rattle.listings.specs.Rows.{Parse, malformed, invalid, parsed, Content, no_form, end_row, stmts_row, module_row, line_row, to_row, simple_row, cond_row}
use Rattle.listings.specs.Read.{OpenCond, Branches, Position, begin, in_module, ended, in_stmts, in_cond, Reading, Outcome, taken, refused, start, go_to, one_more, or_refused, check, ascends, at_begin, read_line, at_module, read_simple, read_cond, end_stmts, at_stmts, NextBranch, no_more, may_follow, next_branch, cond_stmt, end_cond, read_to, read_stmts, at_cond, read_row}
use Rattle.listing_laws.specs.Contents.{ContentOk}
use Rattle.listing_laws.specs.RowsTaken.{Steps, rest, row, Leads}
use Rattle.listing_laws.specs.Shown.{position_size, open_lines, Good}
use Rattle.listing_laws.specs.ShownLaws.{good_start, good_content}
use Rattle.listings.specs.Records.{joined, line_recs, line_numbers}
use Rattle.listing_laws.specs.ReadingRecords.{position_recs, recs_of, open_numbers, numbers_of}
use Rattle.listings.specs.Every.{all[]}
use Rattle.reader.specs.CodedRows.{as_row, Said}
use Rattle.tokens.specs.Arguments.{Verdict}
use Rattle.reader.specs.Machine.{State, state_at, as_state, stepped, numbered_step, as_step, taken_is, step_row}
use Rattle.reader.specs.MachineLaws.{step_law}
use Rattle.reader.specs.Tables.{padded-nil}
use Rattle.reader.specs.AcceptedRows.{WellFormed, taken_formed, taken-uncounted}
use Rattle.reader.specs.Fill.{Operands, Says, as_given, arg_table, line_table, stmt_table, walk_by, Recorded, RecordReady, outside_walk}
use Rattle.reader.specs.Holds.{Holds, holds_as}
use Rattle.reader.specs.FillLaws.{walk_at, Fits, fill_law}
use Rattle.reader.specs.FillReady.{Long, holds_long, ready_law}
use Rattle.reader.specs.declared.fill.Walk.{Walk}

-- ---- lines and statements are never fewer after a row

More : Reading → Outcome Reading → Type 0
More r (taken q) = (r.line_count ≤ q.line_count) × (r.stmt_count ≤ q.stmt_count)
More r (refused n) = Unit {0}

check_more : (r : Reading) (b : Bool) (n : ℕ) (o : Outcome Reading) → More r o → More r (check b n o)
unfolding check More
check_more r true n o h = h
check_more r false n o h = tt

parsed_more : {A : Type 0} (r : Reading) (g : Parse A) (f : A → Outcome Reading) → ((a : A) → More r (f a)) → More r (or_refused g f)
unfolding or_refused More
parsed_more r malformed f h = tt
parsed_more r invalid f h = tt
parsed_more r (parsed a) f h = h a

begin_more : (r : Reading) (d : Content) → More r (at_begin r d)
unfolding at_begin More
begin_more r no_form = tt
begin_more r end_row = tt
begin_more r stmts_row = tt
begin_more r (module_row h) = (omega arith, omega arith)
begin_more r (line_row n) = tt
begin_more r (to_row n) = tt
begin_more r (simple_row o) = tt
begin_more r (cond_row k) = tt

module_more : (r : Reading) (d : Content) → More r (at_module r d)
unfolding at_module More go_to read_line
module_more r no_form = tt
module_more r end_row = (omega arith, omega arith)
module_more r stmts_row = tt
module_more r (module_row h) = tt
module_more r (line_row n) = parsed_more r n (read_line r) (λ m. check_more r (ascends m r.last) 4 _ (check_more r (ltb r.line_count 1024) 5 _ (omega arith, omega arith)))
module_more r (to_row n) = tt
module_more r (simple_row o) = tt
module_more r (cond_row k) = tt

end_more : (r : Reading) (s : Stmts) (fs : List OpenCond) → (r.line_count ≤ (end_stmts r s fs).line_count) × (r.stmt_count ≤ (end_stmts r s fs).stmt_count)
unfolding end_stmts go_to
end_more r s [] = (omega arith, omega arith)
end_more r s (f ∷ fs) = (omega arith, omega arith)

stmts_more : (r : Reading) (s : Stmts) (fs : List OpenCond) (d : Content) → More r (at_stmts r s fs d)
unfolding at_stmts More read_simple read_cond one_more
stmts_more r s fs no_form = tt
stmts_more r s fs end_row = end_more r s fs
stmts_more r s fs stmts_row = tt
stmts_more r s fs (module_row h) = tt
stmts_more r s fs (line_row n) = tt
stmts_more r s fs (to_row n) = tt
stmts_more r s fs (simple_row o) =
    parsed_more r o (read_simple r s fs) (λ d. check_more r (ltb r.stmt_count 4096) 6 _ (check_more r (leb (length fs) 16) 7 _ (check_more r (leb d.1 64) 8 _ (omega arith, omega arith))))
stmts_more r s fs (cond_row k) = check_more r (ltb r.stmt_count 4096) 6 _ (check_more r (leb (length fs) 16) 7 _ (omega arith, omega arith))

close_more : (r : Reading) (fs : List OpenCond) (o : Option Stmts) → More r (end_cond r fs o)
unfolding end_cond More go_to
close_more r fs none = tt
close_more r fs (some s) = (omega arith, omega arith)

into_more : (r : Reading) (s : Stmts) (w : CondWord) (fs : List OpenCond) (m : NextBranch) → More r (read_stmts r s w fs m)
unfolding read_stmts More go_to
into_more r s w fs no_more = tt
into_more r s w fs (may_follow o) = (omega arith, omega arith)

to_more : (r : Reading) (s : Stmts) (w : CondWord) (fs : List OpenCond) (m : NextBranch) (n : Parse ℕ) → More r (read_to r s w fs m n)
unfolding read_to More go_to
to_more r s w fs no_more n = tt
to_more r s w fs (may_follow o) n = parsed_more r n _ (λ m. (omega arith, omega arith))

cond_more : (r : Reading) (s : Stmts) (w : CondWord) (bs : Branches) (fs : List OpenCond) (d : Content) → More r (at_cond r s w bs fs d)
unfolding at_cond More
cond_more r s w bs fs no_form = tt
cond_more r s w bs fs end_row = close_more r fs (cond_stmt s w bs)
cond_more r s w bs fs stmts_row = into_more r s w fs (next_branch w bs)
cond_more r s w bs fs (module_row h) = tt
cond_more r s w bs fs (line_row n) = tt
cond_more r s w bs fs (to_row n) = to_more r s w fs (next_branch w bs) n
cond_more r s w bs fs (simple_row o) = tt
cond_more r s w bs fs (cond_row x) = tt

row_more : (r : Reading) (p : Position) (d : Content) → More r (read_row r p d)
unfolding read_row More
row_more r begin d = begin_more r d
row_more r in_module d = module_more r d
row_more r ended d = tt
row_more r (in_stmts s fs) d = stmts_more r s fs d
row_more r (in_cond s w bs fs) d = cond_more r s w bs fs d

-- ---- the contents ahead

steps_more : {r q : Reading} {ds : List Content} → Steps r ds q → (r.line_count ≤ q.line_count) × (r.stmt_count ≤ q.stmt_count)
unfolding More
steps_more rest = (omega arith, omega arith)
steps_more (row {r = r} {d = d} o e h) =
    let m = subst (More r) e (row_more r r.position d) in
    let y = steps_more h in
    (omega (arith, m.0, y.0), omega (arith, m.1, y.1))

steps_good : {r q : Reading} {ds : List Content} → Steps r ds q → Good r r.position → Good q q.position
steps_good rest g = g
steps_good (row {r = r} {q = q} {d = d} o e h) g = steps_good h (good_content r q d o g e)

-- the listing's lines and statements are all that were begun
end_is : (r : Reading) (p : Position) (L : Listing) → Good r p → p ≡ ended → L ≡ record { handlers = r.handlers; lines = r.lines }
    → (recs_of r p ≡ line_recs L.lines) × (numbers_of r p ≡ line_numbers L.lines) × (r.stmt_count ≡ total L.lines) × (r.line_count ≡ count L.lines)
unfolding recs_of position_recs numbers_of open_numbers position_size open_lines
end_is r p L g e l =
    let z : L.lines ≡ r.lines = ap (λ (x : Listing). x.lines) l in
    let h = subst (Good r) e g in
    rw (e, z) (append-nil (line_recs r.lines), append-nil (line_numbers r.lines), omega (arith, h.stmt_sum), omega (arith, h.line_sum))

-- whatever was read, its lines and statements are among the listing's
leads_most : {r : Reading} {ds : List Content} {L : Listing} → Good r r.position → Leads r ds L → (r.line_count ≤ count L.lines) × (r.stmt_count ≤ total L.lines)
leads_most {L = L} g h =
    let q = h.last in
    let m = steps_more h.steps in
    let f = end_is q q.position L (steps_good h.steps g) h.ends h.whole in
    (omega (arith, m.0, f.3), omega (arith, m.1, f.2))

-- the first of them
record Next (r : Reading) (d : Content) (ds : List Content) (L : Listing) : Type 0 where
  reading : Reading
  ok : ContentOk d
  took : read_row r r.position d ≡ taken reading
  ahead : Leads reading ds L

next : {r : Reading} {d : Content} {ds : List Content} {L : Listing} → Leads r (d ∷ ds) L → Next r d ds L
next h = go h.steps h.ends h.whole
  where
    go : {r q : Reading} {d : Content} {ds : List Content} {L : Listing} → Steps r (d ∷ ds) q → q.position ≡ ended → L ≡ record { handlers = q.handlers; lines = q.lines } → Next r d ds L
    go {q = q} (row {q = p} o e f) x y = record { reading = p; ok = o; took = e; ahead = record { last = q; steps = f; ends = x; whole = y } }

-- ---- the invariant

-- room for a listing
pub record Room (L : Listing) (nl ns na : ℕ) : Type 0 where
  pub lines : count L.lines ≤ nl
  pub stmts : total L.lines * 12 ≤ ns
  pub args : total L.lines * 64 ≤ na

-- the tables hold what was read, and the contents ds lead from there to the listing
pub record Fills (L : Listing) (nl ns na : ℕ) (ds : List Content) (s : State) (w : Walk) (n t a : List ℕ) : Type 0 where
  pub reading : Reading
  pub state : s ≡ as_state reading
  pub walk : w ≡ walk_at reading reading.position
  pub good : Good reading reading.position
  pub ahead : Leads reading ds L
  pub holds : Holds (numbers_of reading reading.position) (recs_of reading reading.position) nl ns na n t a

pub fills_start : (L : Listing) (nl ns na : ℕ) (ds : List Content) (s : State) (w : Walk) → Leads start ds L → s ≡ as_state start → w ≡ outside_walk → Fills L nl ns na ds s w (replicate nl 0) (replicate ns 0) (replicate na 0)
unfolding start walk_at recs_of position_recs numbers_of open_numbers line_recs line_numbers joined
fills_start L nl ns na ds s w h e k =
    record {
      reading = start;
      state = e;
      walk = k;
      good = good_start;
      ahead = h;
      holds = record { lines = sym (padded-nil nl); stmts = sym (padded-nil ns); args = sym (padded-nil na); wide = all[] };
    }

-- nothing is left: the tables hold the listing
pub fills_last : {L : Listing} {nl ns na : ℕ} {s : State} {w : Walk} {n t a : List ℕ} → Fills L nl ns na [] s w n t a → Holds (line_numbers L.lines) (line_recs L.lines) nl ns na n t a
fills_last {L} {nl} {ns} {na} {n = n} {t = t} {a = a} f = go f.ahead.steps f.ahead.ends f.ahead.whole f.good f.holds
  where
    go : {r q : Reading} → Steps r [] q → q.position ≡ ended → L ≡ record { handlers = q.handlers; lines = q.lines } → Good r r.position
        → Holds (numbers_of r r.position) (recs_of r r.position) nl ns na n t a → Holds (line_numbers L.lines) (line_recs L.lines) nl ns na n t a
    go (rest {r = r}) e l g h = let q = end_is r r.position L g e l in holds_as nl ns na n t a q.1 q.0 h

fits : {L : Listing} {nl ns na : ℕ} {r : Reading} {ds : List Content} → Room L nl ns na → Good r r.position → Leads r ds L → Fits nl ns na r
fits room g h = let m = leads_most g h in record { lines = omega (arith, m.0, room.lines); stmts = omega (arith, m.1, room.stmts); args = omega (arith, m.1, room.args) }

pub fills_long : {L : Listing} {nl ns na : ℕ} {ds : List Content} {s : State} {w : Walk} {n t a : List ℕ} → Room L nl ns na → Fills L nl ns na ds s w n t a → Long nl ns na n t a
fills_long {nl = nl} {ns = ns} {na = na} {n = n} {t = t} {a = a} room f = holds_long f.reading nl ns na n t a f.good (fits room f.good f.ahead) f.holds

-- ---- a row

module _ (r q : Reading) (nl ns na : ℕ) (n t a : List ℕ) (s : State) (w : Walk) {d : Content} {e : Said} {x : Operands} (state : s ≡ as_state r) (walk : w ≡ walk_at r r.position) (says : Says d e x) (ok : ContentOk d)
    (good : Good r r.position) (holds : Holds (numbers_of r r.position) (recs_of r r.position) nl ns na n t a) (took : read_row r r.position d ≡ taken q) (room : Fits nl ns na q) where
  -- what the code needs, and what it makes of the tables, by the state and the row that it has
  ready_by : Fits nl ns na r → RecordReady n t a s w e x
  unfolding as_state state_at
  ready_by f =
      let h = ready_law r q nl ns na n t a d ok good holds took f room in
      rw (state, walk, says.row, says.operands) (record { args = h.1; rest = h.0 })

  fill_by : Holds (numbers_of q q.position) (recs_of q q.position) nl ns na (line_table n s e) (stmt_table t s w e (as_given x)) (arg_table a s.stmts e x) × (walk_by t s w e ≡ walk_at q q.position)
  unfolding as_state state_at
  fill_by = rw (state, walk, says.row, says.operands) (fill_law r q nl ns na n t a d ok good holds took room)

module _ {L : Listing} {nl ns na : ℕ} {d : Content} {ds : List Content} {s : State} {w : Walk} {n t a : List ℕ} (room : Room L nl ns na) (f : Fills L nl ns na (d ∷ ds) s w n t a) where
  after : Next f.reading d ds L
  after = next f.ahead

  steps_on : step_row s (as_row d) ≡ Ok (as_state after.reading)
  unfolding as_step
  steps_on = taken_is (step_row s (as_row d)) (as_state after.reading) (ap (λ (z : State). numbered_step (step_row z (as_row d))) f.state ∙ step_law f.reading d ∙ ap as_step after.took)

  pub fills_formed : WellFormed (as_row d)
  fills_formed = taken_formed s (as_state after.reading) (as_row d) steps_on

  good-after : Good after.reading after.reading.position
  good-after = good_content f.reading after.reading d after.ok f.good after.took

  fits_after : Fits nl ns na after.reading
  fits_after = fits room good-after after.ahead

  module _ {e : Said} {x : Operands} (says : Says d e x) where
    pub fills_ready : RecordReady n t a s w e x
    fills_ready = ready_by f.reading after.reading nl ns na n t a s w f.state f.walk says after.ok f.good f.holds after.took fits_after (fits room f.good f.ahead)

    takes : (v : Verdict) (z : State) → stepped v z ≡ step_row s e → stepped v z ≡ Ok (as_state after.reading)
    takes v z q = q ∙ ap (step_row s) says.row ∙ taken-uncounted s (as_state after.reading) (as_row d) steps_on

    -- v, z: what the machine answers, and the state that it leaves
    pub fills_ok : (v : Verdict) (z : State) → stepped v z ≡ step_row s e → IsOk v
    fills_ok (Ok u) z q = refl
    fills_ok (Err m) z q = let y = takes (Err m) z q in cc

    pub fills_taken : (v : Verdict) (z : State) {n' t' a' : List ℕ} {u : Walk} → stepped v z ≡ step_row s e → v ≡ Ok tt → Recorded n t a s w e x n' t' a' u → Fills L nl ns na ds z u n' t' a'
    fills_taken v z q h o =
        let y = fill_by f.reading after.reading nl ns na n t a s w f.state f.walk says after.ok f.good f.holds after.took fits_after in
        let k = sym (takes v z q) ∙ ap (λ (x : Verdict). stepped x z) h in
        record {
          reading = after.reading;
          state = let e : z ≡ as_state after.reading = cc in e;
          walk = o.rest.walk ∙ y.1;
          good = good-after;
          ahead = after.ahead;
          holds = record {
            lines = o.rest.lines ∙ y.0.lines;
            stmts = o.rest.stmts ∙ y.0.stmts;
            args = o.args ∙ y.0.args;
            wide = y.0.wide;
          };
        }
