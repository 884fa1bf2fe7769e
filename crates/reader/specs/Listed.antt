-- What reading an input answers and writes: the contract of the exported routine. Assumes nothing.
use Rattle.std.specs.Prelude.{◌≡◌, refl, Bool, true, false, List, [], ◌∷◌, ℕ, ◌/◌, ◌≤◌, ◌<◌, ltb, replicate, Result, Ok, Err}
use Rattle.std.proofs.Math.Path.{sym, ap}
use Rattle.std.proofs.Common.{◌∙◌, arith}
use Rattle.std.proofs.Math.ListN.{length}
use Rattle.std.proofs.lemmas.List.{length-replicate}
use borrow.Author.Tests.{le-leb, lt-leb, ltb-true, ltb-false}
use Rattle.listings.specs.Listing.{Listing, total, count}
use Rattle.listings.specs.Read.{Answer, listing, refusal, read}
use Rattle.listings.specs.Cut.{cut_listing, cut_answer, meant}
use Rattle.listing_laws.specs.CutLaws.{cut_count, cut_total, meant-written}
use Rattle.reader.specs.Answer.{Numbered, by_number, listed_of, was_accepted, was_refused}
use Rattle.reader.specs.Judge.{read_long}
use Rattle.listings.specs.Records.{line_recs, line_numbers, rec_rows, arg_rows, handler_number, counts_of, padded, fitted, answer_of, table_of}
use Rattle.listings.specs.ListingText.{Within}
use Rattle.reader.specs.Filling.{Zeroed, Filled}
use Rattle.reader.specs.declared.listing.Accepted.{Accepted}
use Rattle.layout.specs.Refusals.{number_of, refusal_at}
use Rattle.layout.specs.declared.refusals.Reason.{Reason}
use Rattle.layout.specs.declared.refusals.Reason.TheVariants as reason
use Rattle.layout.specs.declared.refusals.Refusal.{Refusal}

-- ---- the contract

-- the used part of each table
unfoldable pub line_entries : Listing → List ℕ
line_entries L = line_numbers L.lines

unfoldable pub stmt_entries : Listing → List ℕ
stmt_entries L = rec_rows (line_recs L.lines)

unfoldable pub arg_entries : Listing → List ℕ
arg_entries L = arg_rows (line_recs L.lines)

-- the answer and every entry, of tables with nl, ns and na entries; b: what is meant, or the refusal
pub record RecordsWritten (b : Answer) (nl ns na : ℕ) (c l t a : List ℕ) (r : Result Accepted Refusal) : Type 0 where
  pub answer : by_number r ≡ listed_of (answer_of nl ns na b)
  pub counts : c ≡ table_of counts_of (answer_of nl ns na b) 6
  pub lines : l ≡ table_of line_entries (answer_of nl ns na b) nl
  pub stmts : t ≡ table_of stmt_entries (answer_of nl ns na b) ns
  pub args : a ≡ table_of arg_entries (answer_of nl ns na b) na

-- the cut changes nothing that is answered
pub listed_cut : (text : List ℕ) → listed_of (meant text) ≡ listed_of (read text)
unfolding meant cut_answer listed_of cut_listing
listed_cut text = go (read text)
  where
    go : (a : Answer) → listed_of (cut_answer a) ≡ listed_of a
    go (listing W) = rw (cut_count W.lines, cut_total W.lines)
    go (refusal n p) = refl

-- so what judging a text answers is told of what it means
module _ (text : List ℕ) (v : Result Accepted Refusal) (judged : by_number v ≡ listed_of (read text)) where
  is : by_number v ≡ listed_of (meant text)
  is = judged ∙ sym (listed_cut text)

-- a text that is read, or means something, is short enough
pub short-read : (text : List ℕ) (L : Listing) → read text ≡ listing L → length text ≤ 65536
short-read text L e = go (ltb 65536 (length text)) refl
  where
    go : (b : Bool) → ltb 65536 (length text) ≡ b → length text ≤ 65536
    go true q = absurd (let p = read_long text (ltb-true 65536 (length text) q) in let z : ◌≡◌ {A = ℕ} 0 1 = cc in omega arith)
    go false q = ltb-false 65536 (length text) q

pub short : (text : List ℕ) (L : Listing) → meant text ≡ listing L → length text ≤ 65536
short text L e = let w = meant-written text L e in short-read text w.written w.reads

-- ---- an accepted text, before its tables are tested

-- q: what the input means
pub record Judged (q : Answer) (counts lines stmts args : List ℕ) (h : Bool) (nl ns : ℕ) : Type 0 where
  pub tree : Listing
  pub reads : q ≡ listing tree
  pub within : Within tree
  pub handlers : h ≡ tree.handlers
  pub line_count : nl ≡ count tree.lines
  pub stmt_count : ns ≡ total tree.lines
  pub zero_counts : counts ≡ replicate 6 0
  pub zero_lines : lines ≡ replicate (length lines) 0
  pub zero_stmts : stmts ≡ replicate (length stmts) 0
  pub zero_args : args ≡ replicate (length args) 0

module _ {q : Answer} {counts lines stmts args : List ℕ} {h : Bool} {nl ns : ℕ} (j : Judged q counts lines stmts args h nl ns) where
  pub judged_small : (nl ≤ 1024) × (ns ≤ 4096)
  judged_small = (omega (arith, j.within.line_count, j.line_count), omega (arith, j.within.stmt_count, j.stmt_count))

  -- a table is too short
  refuses : (n : Reason) (p : ℕ) → fitted (length lines) (length stmts) (length args) j.tree ≡ refusal (number_of n) p → RecordsWritten q (length lines) (length stmts) (length args) counts lines stmts args (Err (refusal_at n p))
  unfolding answer_of table_of listed_of
  refuses n p e =
      let a : answer_of (length lines) (length stmts) (length args) q ≡ refusal (number_of n) p = ap (answer_of (length lines) (length stmts) (length args)) j.reads ∙ e in
      record {
        answer = sym (ap listed_of a);
        counts = j.zero_counts ∙ sym (ap (λ (z : Answer). table_of counts_of z 6) a);
        lines = j.zero_lines ∙ sym (ap (λ (z : Answer). table_of line_entries z (length lines)) a);
        stmts = j.zero_stmts ∙ sym (ap (λ (z : Answer). table_of stmt_entries z (length stmts)) a);
        args = j.zero_args ∙ sym (ap (λ (z : Answer). table_of arg_entries z (length args)) a);
      }

  pub short_lines : length lines < nl → RecordsWritten q (length lines) (length stmts) (length args) counts lines stmts args (Err (refusal_at reason.LineTables nl))
  unfolding fitted
  short_lines b =
      let c = count j.tree.lines in
      let p : length lines < c = omega (arith, j.line_count) in
      rw j.line_count (refuses reason.LineTables c (rw (lt-leb c (length lines) p)))

  pub short_stmts : nl ≤ length lines → length stmts / 12 < ns → RecordsWritten q (length lines) (length stmts) (length args) counts lines stmts args (Err (refusal_at reason.NodeTables ns))
  unfolding fitted
  short_stmts b c =
      let k = count j.tree.lines in
      let m = total j.tree.lines in
      let p : k ≤ length lines = omega (arith, j.line_count) in
      let y : length stmts / 12 < m = omega (arith, j.stmt_count) in
      rw j.stmt_count (refuses reason.NodeTables m (rw (le-leb k (length lines) p, lt-leb m (length stmts / 12) y)))

  pub short_args : nl ≤ length lines → ns ≤ length stmts / 12 → length args / 64 < ns → RecordsWritten q (length lines) (length stmts) (length args) counts lines stmts args (Err (refusal_at reason.NodeTables ns))
  unfolding fitted
  short_args b c d =
      let k = count j.tree.lines in
      let m = total j.tree.lines in
      let p : k ≤ length lines = omega (arith, j.line_count) in
      let y : m ≤ length stmts / 12 = omega (arith, j.stmt_count) in
      let s : length args / 64 < m = omega (arith, j.stmt_count) in
      rw j.stmt_count (refuses reason.NodeTables m (rw (le-leb k (length lines) p, le-leb m (length stmts / 12) y, lt-leb m (length args / 64) s)))

  module _ (b : nl ≤ length lines) (c : ns ≤ length stmts / 12) (d : ns ≤ length args / 64) where
    pub judged_zeroed : Zeroed q lines stmts args
    judged_zeroed =
        record {
          accepts = record {
            tree = j.tree;
            reads = j.reads;
            room = record { lines = omega (arith, j.line_count); stmts = omega (arith, j.stmt_count); args = omega (arith, j.stmt_count) };
          };
          lines = j.zero_lines;
          stmts = j.zero_stmts;
          args = j.zero_args;
        }

    fits : answer_of (length lines) (length stmts) (length args) q ≡ listing j.tree
    unfolding answer_of fitted
    fits =
        let k = count j.tree.lines in
        let m = total j.tree.lines in
        let p : k ≤ length lines = omega (arith, j.line_count) in
        let y : m ≤ length stmts / 12 = omega (arith, j.stmt_count) in
        let s : m ≤ length args / 64 = omega (arith, j.stmt_count) in
        ap (answer_of (length lines) (length stmts) (length args)) j.reads ∙ rw (le-leb k (length lines) p, le-leb m (length stmts / 12) y, le-leb m (length args / 64) s)

    pub judged-written : {k n t a : List ℕ} → k ≡ nl ∷ ns ∷ handler_number h ∷ 0 ∷ 0 ∷ 0 ∷ [] → Filled q lines stmts args n t a
        → RecordsWritten q (length lines) (length stmts) (length args) k n t a (Ok (record { handlers = h; lines = nl; stmts = ns }))
    unfolding table_of listed_of line_entries stmt_entries arg_entries padded counts_of
    judged-written i f =
        let g = f j.tree j.reads in
        record {
          answer = answers j.handlers j.line_count j.stmt_count ∙ sym (ap listed_of fits);
          counts = i ∙ counted nl ns (handler_number h) j.tree j.line_count j.stmt_count (ap handler_number j.handlers) ∙ sym (ap (λ (o : Answer). table_of counts_of o 6) fits);
          lines = g.lines ∙ sym (ap (λ (o : Answer). table_of line_entries o (length lines)) fits);
          stmts = g.stmts ∙ sym (ap (λ (o : Answer). table_of stmt_entries o (length stmts)) fits);
          args = g.args ∙ sym (ap (λ (o : Answer). table_of arg_entries o (length args)) fits);
        }
      where
        answers : {v u : Bool} {a b c d : ℕ} → v ≡ u → a ≡ b → c ≡ d
            → ◌≡◌ {A = Result Accepted Numbered} (Ok (record { handlers = v; lines = a; stmts = c })) (Ok (record { handlers = u; lines = b; stmts = d }))
        answers p q r = cc

        counted : (x y z : ℕ) (L : Listing) → x ≡ count L.lines → y ≡ total L.lines → z ≡ handler_number L.handlers → x ∷ y ∷ z ∷ 0 ∷ 0 ∷ 0 ∷ [] ≡ padded 6 (counts_of L)
        counted x y z L p q s = cc

-- ---- zeroed tables of nl, ns and na entries

long : (m : ℕ) (l : List ℕ) → l ≡ replicate m 0 → length l ≡ m
long m l e = ap length e ∙ length-replicate m 0

zeros : (m : ℕ) (l : List ℕ) → l ≡ replicate m 0 → l ≡ replicate (length l) 0
zeros m l e = e ∙ ap (λ (k : ℕ). replicate k 0) (sym (long m l e))

module _ {q : Answer} (within : (L : Listing) → q ≡ listing L → Within L) {c n t a : List ℕ} (nl ns na : ℕ) (zc : c ≡ 0 ∷ 0 ∷ 0 ∷ 0 ∷ 0 ∷ 0 ∷ []) (zn : n ≡ replicate nl 0) (zt : t ≡ replicate ns 0) (za : a ≡ replicate na 0) {v : Result Accepted Refusal} (judged : by_number v ≡ listed_of q) where
  pub zeroed_judged : {x : Accepted} → v ≡ Ok x → Judged q c n t a x.handlers x.lines x.stmts
  zeroed_judged {x} e =
      let o = was_accepted q x (sym (ap by_number e) ∙ judged) in
      record { tree = o.0; reads = o.1; within = within o.0 o.1; handlers = o.2; line_count = o.3; stmt_count = o.4; zero_counts = zc; zero_lines = zeros nl n zn; zero_stmts = zeros ns t zt; zero_args = zeros na a za }

  pub zeroed_refused : {r : Refusal} → v ≡ Err r → RecordsWritten q nl ns na c n t a (Err r)
  unfolding answer_of table_of listed_of
  zeroed_refused {r} e =
      let o : answer_of nl ns na q ≡ refusal (number_of r.reason) r.place = ap (answer_of nl ns na) (was_refused q r (sym (ap by_number e) ∙ judged)) in
      record {
        answer = sym (ap listed_of o);
        counts = zc ∙ sym (ap (λ (z : Answer). table_of counts_of z 6) o);
        lines = zn ∙ sym (ap (λ (z : Answer). table_of line_entries z nl) o);
        stmts = zt ∙ sym (ap (λ (z : Answer). table_of stmt_entries z ns) o);
        args = za ∙ sym (ap (λ (z : Answer). table_of arg_entries z na) o);
      }
