-- Tables that hold line numbers and records, and what a store or an appended row makes of them. Assumes nothing.
use Rattle.std.specs.Prelude.{◌≡◌, refl, Bool, get_or}
use Rattle.std.proofs.Common.{sym, ◌∙◌, arith, take-append-drop}
use Rattle.std.proofs.Math.Path.{ap, subst}
use Rattle.std.proofs.Math.Bool.{true, false}
use mathlib.Core.List.{List, [], ◌∷◌, ◌++◌}
use Rattle.std.proofs.Math.Option.{Option, none, some}
use Prim.Native.Nat.{ℕ, zero, suc, ◌+◌, ◌*◌, ◌-◌, ◌≤◌, ◌<◌}
use Rattle.std.proofs.Math.ListN.{length, take, drop, set, replicate}
use Rattle.listings.specs.Listing.{BranchForm, Stmts}
use Rattle.listings.specs.Every.{all[], all∷, all_append}
use Rattle.listings.specs.Records.{Rec, padded, rec_row, arg_row, rec_rows, arg_rows}
use Rattle.listing_laws.specs.ReadingRecords.{amend, amend-amend, amend-length, with_end, with_first, with_second, with_branch}
use Rattle.reader.specs.Tables.{Wide, rec_wide, padded-length, padded-append, padded-set, padded_row, joined_last, joined-amend, joined_length, joined-set, joined_get, entry_row, append_row}
use Rattle.reader.specs.Fill.{add_entries, branch_stmts}
use Rattle.reader.specs.declared.tables.Entry.{Entry}

-- the line numbers ms and the records rs, in tables of so many entries
pub record Holds (ms : List ℕ) (rs : List Rec) (nl ns na : ℕ) (n t a : List ℕ) : Type 0 where
  pub lines : n ≡ padded nl ms
  pub stmts : t ≡ padded ns (rec_rows rs)
  pub args : a ≡ padded na (arg_rows rs)
  pub wide : Wide arg_row 64 rs

module _ (nl ns na : ℕ) (n t a : List ℕ) where
  pub holds_as : {ms ps : List ℕ} {rs qs : List Rec} → ms ≡ ps → rs ≡ qs → Holds ms rs nl ns na n t a → Holds ps qs nl ns na n t a
  holds_as {ps = ps} {rs = rs} e q h = subst (λ (x : List Rec). Holds ps x nl ns na n t a) q (subst (λ (x : List ℕ). Holds x rs nl ns na n t a) e h)

  -- a line more
  pub holds_line : (ms : List ℕ) (rs : List Rec) (at v : ℕ) → at ≡ length ms → at < nl → Holds ms rs nl ns na n t a → Holds (ms ++ (v ∷ [])) rs nl ns na (set n at v) t a
  holds_line ms rs at v e h g =
      record { lines = ap (λ (l : List ℕ). set l at v) g.lines ∙ padded-set nl at ms v e h; stmts = g.stmts; args = g.args; wide = g.wide }

  -- a record more, with its arguments
  pub holds_record : (ms : List ℕ) (rs : List Rec) (x : Rec) (j : ℕ) (e : Entry) (es : List ℕ) → j ≡ length rs → rec_row x ≡ entry_row e → x.args ≡ es → length es ≤ 64 → suc j * 64 ≤ na
      → Holds ms rs nl ns na n t a → Holds ms (rs ++ (x ∷ [])) nl ns na n (append_row t j e) (add_entries a j es)
  unfolding append_row arg_row
  holds_record ms rs x j e es q r y s f g =
      let l = rec_rows rs in
      let m : j * 12 ≡ length l = omega (arith, joined_length rec_row 12 (rec_wide rs)) in
      let k : j * 64 ≡ length (arg_rows rs) = omega (arith, joined_length arg_row 64 g.wide) in
      record {
        lines = g.lines;
        stmts = ap (λ (z : List ℕ). take (j * 12) z ++ (entry_row e ++ drop (j * 12 + 12) z)) g.stmts ∙ padded-append ns (j * 12) l (entry_row e) m
            ∙ ap (λ (z : List ℕ). padded ns (l ++ z)) (sym r) ∙ ap (padded ns) (sym (joined_last rec_row rs x));
        args = ap (λ (z : List ℕ). take (j * 64) z ++ (es ++ drop (j * 64 + length es) z)) g.args ∙ padded-append na (j * 64) (arg_rows rs) es k
            ∙ padded_row na 64 (arg_rows rs) es s (omega (arith, k))
            ∙ ap (λ (z : List ℕ). padded na (arg_rows rs ++ padded 64 z)) (sym y) ∙ ap (padded na) (sym (joined_last arg_row rs x));
        wide = all_append g.wide (all∷ (padded-length 64 x.args (omega (arith, ap length y))) all[]);
      }

  -- a record more that has no arguments
  pub holds-bare : (ms : List ℕ) (rs : List Rec) (x : Rec) (j : ℕ) (e : Entry) → j ≡ length rs → rec_row x ≡ entry_row e → x.args ≡ [] → suc j * 64 ≤ na
      → Holds ms rs nl ns na n t a → Holds ms (rs ++ (x ∷ [])) nl ns na n (append_row t j e) a
  holds-bare ms rs x j e q r y f g =
      let z : j * 64 + 0 ≡ j * 64 = omega arith in
      let b : add_entries a j [] ≡ a = ap (λ (k : ℕ). take (j * 64) a ++ drop k a) z ∙ take-append-drop (j * 64) a in
      subst (λ (u : List ℕ). Holds ms (rs ++ (x ∷ [])) nl ns na n (append_row t j e) u) b (holds_record ms rs x j e [] q r y (omega arith) f g)

wide_amend : (g : Rec → Rec) → ((r : Rec) → arg_row (g r) ≡ arg_row r) → {rs : List Rec} → Wide arg_row 64 rs → (i : ℕ) → Wide arg_row 64 (amend rs i g)
unfolding amend
wide_amend g e all[] i = all[]
wide_amend g e (all∷ {a = r} p w) zero = all∷ (ap length (e r) ∙ p) w
wide_amend g e (all∷ p w) (suc i) = all∷ p (wide_amend g e w i)

-- one entry of a record amended
with_start : ℕ → Rec → Rec
with_start v r = record { word = r.word; line = r.line; holder = r.holder; index = r.index; end = r.end; second = v; form1 = r.form1; number1 = r.number1; form2 = r.form2; number2 = r.number2; detail = r.detail; args = r.args }

with_form1 : ℕ → Rec → Rec
with_form1 v r = record { word = r.word; line = r.line; holder = r.holder; index = r.index; end = r.end; second = r.second; form1 = v; number1 = r.number1; form2 = r.form2; number2 = r.number2; detail = r.detail; args = r.args }

with_number1 : ℕ → Rec → Rec
with_number1 v r = record { word = r.word; line = r.line; holder = r.holder; index = r.index; end = r.end; second = r.second; form1 = r.form1; number1 = v; form2 = r.form2; number2 = r.number2; detail = r.detail; args = r.args }

with_form2 : ℕ → Rec → Rec
with_form2 v r = record { word = r.word; line = r.line; holder = r.holder; index = r.index; end = r.end; second = r.second; form1 = r.form1; number1 = r.number1; form2 = v; number2 = r.number2; detail = r.detail; args = r.args }

with_number2 : ℕ → Rec → Rec
with_number2 v r = record { word = r.word; line = r.line; holder = r.holder; index = r.index; end = r.end; second = r.second; form1 = r.form1; number1 = r.number1; form2 = r.form2; number2 = v; detail = r.detail; args = r.args }

abbrev pub is_some : Option (BranchForm × Stmts) → Bool
is_some none = false
is_some (some b) = true

-- one entry of a record
module _ (nl ns na : ℕ) (n a : List ℕ) (ms : List ℕ) where
  holds-set : (g : Rec → Rec) (c v : ℕ) → ((r : Rec) → set (rec_row r) c v ≡ rec_row (g r)) → ((r : Rec) → arg_row (g r) ≡ arg_row r) → c < 12
      → (rs : List Rec) (t : List ℕ) (i : ℕ) → i < length rs → Holds ms rs nl ns na n t a → Holds ms (amend rs i g) nl ns na n (set t (i * 12 + c) v) a
  unfolding padded
  holds-set g c v e y h rs t i b q =
      let z : List ℕ = replicate (ns - length (rec_rows rs)) 0 in
      let l : length (rec_rows (amend rs i g)) ≡ length (rec_rows rs) = omega (arith, joined_length rec_row 12 (rec_wide rs), joined_length rec_row 12 (rec_wide (amend rs i g)), amend-length rs i g) in
      record {
        lines = q.lines;
        stmts = ap (λ (x : List ℕ). set x (i * 12 + c) v) q.stmts ∙ joined-set rec_row 12 c v g e h (rec_wide rs) i b z
            ∙ ap (λ (k : ℕ). rec_rows (amend rs i g) ++ replicate (ns - k) 0) (sym l);
        args = q.args ∙ ap (padded na) (sym (joined-amend arg_row g y rs i));
        wide = wide_amend g y q.wide i;
      }

  pub holds_end : (rs : List Rec) (t : List ℕ) (i v : ℕ) → i < length rs → Holds ms rs nl ns na n t a → Holds ms (amend rs i (with_end v)) nl ns na n (set t (i * 12 + 4) v) a
  unfolding rec_row arg_row
  holds_end rs t i v b q = holds-set (with_end v) 4 v (λ r. refl) (λ r. refl) (omega arith) rs t i b q

  -- the end of a branch, the second one or the first
  second_branch : (rs : List Rec) (t : List ℕ) (i form number m : ℕ) → i < length rs → Holds ms rs nl ns na n t a → Holds ms (amend rs i (with_second form number)) nl ns na n (branch_stmts t i true form number m) a
  unfolding rec_row arg_row with_form2 with_number2
  second_branch rs t i form number m b q =
      let b₁ : i < length (amend rs i (with_form2 form)) = omega (arith, amend-length rs i (with_form2 form)) in
      let h = holds-set (with_number2 number) 9 number (λ r. refl) (λ r. refl) (omega arith) (amend rs i (with_form2 form)) (set t (i * 12 + 8) form) i b₁
      (holds-set (with_form2 form) 8 form (λ r. refl) (λ r. refl) (omega arith) rs t i b q) in
      subst (λ (x : List Rec). Holds ms x nl ns na n (branch_stmts t i true form number m) a) (amend-amend rs i (with_form2 form) (with_number2 number)) h

  first-branch : (rs : List Rec) (t : List ℕ) (i form number m : ℕ) → i < length rs → Holds ms rs nl ns na n t a → Holds ms (amend rs i (with_first form number m)) nl ns na n (branch_stmts t i false form number m) a
  unfolding rec_row arg_row with_start with_form1 with_number1
  first-branch rs t i form number m b q =
      let r₁ = amend rs i (with_start m) in
      let r₂ = amend r₁ i (with_form1 form) in
      let b₁ : i < length r₁ = omega (arith, amend-length rs i (with_start m)) in
      let b₂ : i < length r₂ = omega (arith, amend-length r₁ i (with_form1 form)) in
      let h = holds-set (with_number1 number) 7 number (λ r. refl) (λ r. refl) (omega arith) r₂ (set (set t (i * 12 + 5) m) (i * 12 + 6) form) i b₂
      (holds-set (with_form1 form) 6 form (λ r. refl) (λ r. refl) (omega arith) r₁ (set t (i * 12 + 5) m) i b₁
      (holds-set (with_start m) 5 m (λ r. refl) (λ r. refl) (omega arith) rs t i b q)) in
      subst (λ (x : List Rec). Holds ms x nl ns na n (branch_stmts t i false form number m) a)
      (ap (λ (x : List Rec). amend x i (with_number1 number)) (amend-amend rs i (with_start m) (with_form1 form)) ∙ amend-amend rs i (λ r. with_form1 form (with_start m r)) (with_number1 number)) h

  pub holds-branch : (o : Option (BranchForm × Stmts)) (rs : List Rec) (t : List ℕ) (i form number m : ℕ) → i < length rs → Holds ms rs nl ns na n t a
      → Holds ms (amend rs i (with_branch o form number m)) nl ns na n (branch_stmts t i (is_some o) form number m) a
  holds-branch none rs t i form number m b q = first-branch rs t i form number m b q
  holds-branch (some x) rs t i form number m b q = second_branch rs t i form number m b q

-- what entry c of record i is
pub holds_get : {ms : List ℕ} {rs : List Rec} {nl ns na : ℕ} {n t a : List ℕ} → Holds ms rs nl ns na n t a → (i c : ℕ) → i < length rs → c < 12 → (z : Rec) → get_or t (i * 12 + c) 0 ≡ get_or (rec_row (get_or rs i z)) c 0
unfolding padded
holds_get {rs = rs} {ns = ns} h i c b k z = ap (λ (l : List ℕ). get_or l (i * 12 + c) 0) h.stmts ∙ joined_get rec_row 12 c k (rec_wide rs) i b z (replicate (ns - length (rec_rows rs)) 0)
