-- From what the reader answers to what a build answers. Assumes nothing.
use Rattle.std.specs.Prelude.{ℕ, ◌*◌, ◌/◌, ◌≤◌, min, ◌≡◌, refl, Bool, true, false, ◌&&◌, List, leb, replicate, Result, Ok, Err}
use Rattle.std.proofs.Common.{sym, subst, ◌∙◌, arith}
use Rattle.std.proofs.Math.Path.{ap}
use Rattle.std.proofs.Math.Nat.{min-le_left, min-le_right}
use Rattle.std.proofs.Math.ListN.{length}
use Rattle.std.proofs.lemmas.List.{length-replicate}
use Rattle.listings.specs.Bytes.{pick}
use Rattle.listings.specs.Listing.{Listing, total, count}
use Rattle.listings.specs.Read.{Answer, listing, refusal}
use Rattle.listings.specs.Records.{line_numbers, line_recs, rec_rows, arg_rows, padded, counts_of, fitted as read_fitted, answer_of as read_answer, table_of as read_table}
use Rattle.reader.specs.Tables.{padded-length}
use Rattle.reader.specs.Listed.{line_entries, stmt_entries, arg_entries}
use Rattle.reader.specs.declared.listing.Accepted.{Accepted}
use Rattle.layout.specs.Refusals.{number_of}
use Rattle.layout.specs.declared.refusals.Refusal.{Refusal}
use Rattle.reader.specs.Answer.{was_accepted, was_refused}
use Rattle.graph.specs.Build.{Capacity, Built, graph, refused, edge_count, fitted, built_of_answer}
use Rattle.passes.specs.HoldsListing.{HoldsListing}
use Rattle.passes.specs.Reading.{read_by, FittingRead, Fits, ReadWithin, read_fits}
use Rattle.passes.specs.Room.{stmt_room, StmtsFit, room_fits}
use Rattle.passes.specs.TableForms.{Sizes, sizes_of, tables_of, capacity, capacity_is}
use Rattle.wiring.specs.GraphTables.{Answered, edges_fitted, Zeroed, refusal_writes}
use Rattle.wiring.specs.BuiltAnswer.{BuiltAnswer}
use Rattle.wiring.specs.BuiltAnswer as answer

-- ---- the definition's answer, by the reader's

abbrev pub after_reading : ℕ → Answer → Built
after_reading k (listing L) = edges_fitted k L
after_reading k (refusal n p) = refused n p

pub build-read : (c : Capacity) (q : Answer) → built_of_answer c q ≡ after_reading c.edges (read_by c.lines c.nodes q)
unfolding built_of_answer read_answer fitted read_fitted edges_fitted
build-read c q = go q
  where
    by : (L : Listing) (x y : Bool)
        → pick x (pick y (pick (leb (edge_count L) c.edges && leb (edge_count L) 32768) (graph L) (refused 23 (edge_count L))) (refused 22 (total L.lines))) (refused 21 (count L.lines))
        ≡ after_reading c.edges (pick x (pick y (pick y (listing L) (refusal 22 (total L.lines))) (refusal 22 (total L.lines))) (refusal 21 (count L.lines)))
    by L true true = refl
    by L true false = refl
    by L false y = refl

    go : (b : Answer) → built_of_answer c b ≡ after_reading c.edges (read_answer c.lines (c.nodes * 12) (c.nodes * 64) b)
    go (listing L) =
        let p : c.nodes * 12 / 12 ≡ c.nodes = omega arith in
        let q : c.nodes * 64 / 64 ≡ c.nodes = omega arith in
        rw (p, q) (by L (leb (count L.lines) c.lines) (leb (total L.lines) c.nodes))
    go (refusal n p) = refl

-- ---- the graph, for a listing that was read and whose lines and statements fit

-- the reader's tables hold some listing, all others are zero, and c lines and n statements fit
pub record GraphReady (handlers : Bool) (c n : ℕ) (counts lines stmts args entries falls links lists returns succ pred : List ℕ) : Type 0 where
  pub listing : Listing
  pub holds : HoldsListing listing lines stmts args c n
  pub handlers_are : handlers ≡ listing.handlers
  pub counts_are : counts ≡ padded 6 (counts_of listing)
  pub entries_fit : c * 2 ≤ length entries
  pub fit : StmtsFit n (length stmts) (length args) (length falls) (length links) (length lists) (length returns)
  pub zero-entries : entries ≡ replicate (length entries) 0
  pub zero-falls : falls ≡ replicate (length falls) 0
  pub zero_links : links ≡ replicate (length links) 0
  pub zero_lists : lists ≡ replicate (length lists) 0
  pub zero_returns : returns ≡ replicate (length returns) 0
  pub zero_succ : succ ≡ replicate (length succ) 0
  pub zero_pred : pred ≡ replicate (length pred) 0

-- of every listing that the reader's tables hold
abbrev pub GraphMade : (handlers : Bool) (c n : ℕ) (lines stmts args : List ℕ) → Sizes → (c' l' t' a' e' f' k' i' r' u' p' : List ℕ) → BuiltAnswer → Type 0
GraphMade h c n lines stmts args s c' l' t' a' e' f' k' i' r' u' p' x =
    (L : Listing) → HoldsListing L lines stmts args c n → h ≡ L.handlers → Answered (edges_fitted (min s.succ s.pred) L) s c' l' t' a' e' f' k' i' r' u' p' x

-- ---- a refused graph

-- the tables of before, and all zero
pub all-zero : (n at : ℕ) (l t a e f k i r u p : List ℕ) (c' l' t' a' e' f' k' i' r' u' p' : List ℕ)
    → (c' ≡ replicate 6 0) × Zeroed l l' × Zeroed t t' × Zeroed a a' → Zeroed e e' × Zeroed f f' × Zeroed k k' → Zeroed i i' × Zeroed r r' × Zeroed u u' × Zeroed p p'
    → Answered (refused n at) (sizes_of l t a e f k i r u p) c' l' t' a' e' f' k' i' r' u' p' (answer.Refused n at)
all-zero n at l t a e f k i r u p c' l' t' a' e' f' k' i' r' u' p' x y z =
    refusal_writes n at (sizes_of l t a e f k i r u p) (tables_of c' l' t' a' e' f' k' i' r' u' p')
    (record {
      counts = x.0;
      lines = x.1;
      stmts = x.2;
      args = x.3;
      entries = y.0;
      falls = y.1;
      links = y.2;
      lists = z.0;
      returns = z.1;
      succ = z.2;
      pred = z.3;
    })

-- ---- the whole, from tables of these lengths: line and statement tables are cut to what all hold

module _ (q : Answer) (ok : ReadWithin q) (lines stmts args entries falls links lists returns succ pred : List ℕ) where
  abbrev S : Sizes
  S = sizes_of lines stmts args entries falls links lists returns succ pred

  abbrev K : ℕ
  K = min (length lines) (length entries / 2)

  abbrev N : ℕ
  N = stmt_room (length stmts) (length args) (length falls) (length links) (length lists) (length returns)

  by_reading : (b : Answer) → read_by K N q ≡ b → built_of_answer (capacity S) q ≡ after_reading (min (length succ) (length pred)) b
  by_reading b e = ap (λ (c : Capacity). built_of_answer c q) (capacity_is S) ∙ build-read _ q ∙ ap (after_reading (min (length succ) (length pred))) e

  module _ (c l t a e f k i r u p : List ℕ) (ze : Zeroed entries e) (zf : Zeroed falls f) (zk : Zeroed links k)
      (zi : Zeroed lists i) (zr : Zeroed returns r) (zu : Zeroed succ u) (zp : Zeroed pred p) where
    pub build-refused : (y : Refusal) → FittingRead q K N (length lines) (length stmts) (length args) c l t a (Err y)
        → Answered (built_of_answer (capacity S) q) S c l t a e f k i r u p (answer.Refused (number_of y.reason) y.place)
    unfolding read_table
    build-refused y w =
        let n = number_of y.reason in
        let at = y.place in
        let d = was_refused (read_by K N q) y w.answer in
        let b : built_of_answer (capacity S) q ≡ refused n at = by_reading (refusal n at) d in
        rw b (refusal_writes n at S (tables_of c l t a e f k i r u p) (record {
          counts = w.counts ∙ ap (λ (z : Answer). read_table counts_of z 6) d;
          lines = w.lines ∙ ap (λ (z : Answer). read_table line_entries z (length lines)) d;
          stmts = w.stmts ∙ ap (λ (z : Answer). read_table stmt_entries z (length stmts)) d;
          args = w.args ∙ ap (λ (z : Answer). read_table arg_entries z (length args)) d;
          entries = ze;
          falls = zf;
          links = zk;
          lists = zi;
          returns = zr;
          succ = zu;
          pred = zp;
        }))

    module _ (h : Bool) (x n : ℕ) (w : FittingRead q K N (length lines) (length stmts) (length args) c l t a (Ok (record { handlers = h; lines = x; stmts = n }))) (L₀ : Listing)
        (found : (read_by K N q ≡ listing L₀) × (h ≡ L₀.handlers) × (x ≡ count L₀.lines) × (n ≡ total L₀.lines)) where
      fits : Fits q K N L₀
      fits = read_fits q ok K N L₀ found.0

      l_is : l ≡ padded (length lines) (line_numbers L₀.lines)
      unfolding read_table line_entries
      l_is = w.lines ∙ ap (λ (z : Answer). read_table line_entries z (length lines)) found.0

      t_is : t ≡ padded (length stmts) (rec_rows (line_recs L₀.lines))
      unfolding read_table stmt_entries
      t_is = w.stmts ∙ ap (λ (z : Answer). read_table stmt_entries z (length stmts)) found.0

      a_is : a ≡ padded (length args) (arg_rows (line_recs L₀.lines))
      unfolding read_table arg_entries
      a_is = w.args ∙ ap (λ (z : Answer). read_table arg_entries z (length args)) found.0

      c_is : c ≡ padded 6 (counts_of L₀)
      unfolding read_table
      c_is = w.counts ∙ ap (λ (z : Answer). read_table counts_of z 6) found.0

      room : StmtsFit N (length stmts) (length args) (length falls) (length links) (length lists) (length returns)
      room = room_fits N (length stmts) (length args) (length falls) (length links) (length lists) (length returns) (omega arith)

      l_long : length l ≡ length lines
      unfolding line_entries
      l_long = ap length l_is ∙ padded-length (length lines) (line_numbers L₀.lines) (omega (arith, fits.line_entries_length, fits.lines, min-le_left (length lines) (length entries / 2)))

      t_long : length t ≡ length stmts
      unfolding stmt_entries
      t_long = ap length t_is ∙ padded-length (length stmts) (rec_rows (line_recs L₀.lines)) (omega (arith, fits.stmt_entries_length, fits.stmts, room.in_stmts))

      a_long : length a ≡ length args
      unfolding arg_entries
      a_long = ap length a_is ∙ padded-length (length args) (arg_rows (line_recs L₀.lines)) (omega (arith, fits.arg_entries_length, fits.stmts, room.in_args))

      zeros_long : (t₀ t₁ : List ℕ) → Zeroed t₀ t₁ → length t₁ ≡ length t₀
      zeros_long t₀ t₁ z = ap length z ∙ length-replicate (length t₀) 0

      zeros_again : (t₀ t₁ : List ℕ) → Zeroed t₀ t₁ → t₁ ≡ replicate (length t₁) 0
      zeros_again t₀ t₁ z = z ∙ ap (λ (z : ℕ). replicate z 0) (sym (zeros_long t₀ t₁ z))

      holds : HoldsListing L₀ l t a x n
      holds =
          let b = fits.stmts in
          record {
            within = fits.within;
            count_is = found.2;
            nodes_are = found.3;
            lines_are = l_is ∙ ap (λ (z : ℕ). padded z (line_numbers L₀.lines)) (sym l_long);
            stmts_are = t_is ∙ ap (λ (z : ℕ). padded z (rec_rows (line_recs L₀.lines))) (sym t_long);
            args_are = a_is ∙ ap (λ (z : ℕ). padded z (arg_rows (line_recs L₀.lines))) (sym a_long);
            lines_fit = omega (arith, found.2, fits.lines, l_long, min-le_left (length lines) (length entries / 2));
            stmts_fit = omega (arith, found.3, b, t_long, room.in_stmts);
            args_fit = omega (arith, found.3, b, a_long, room.in_args);
          }

      ready : GraphReady h x n c l t a e f k i r u p
      ready =
          let b = fits.stmts in
          let g = found.3 in
          record {
            listing = L₀;
            holds = holds;
            handlers_are = found.1;
            counts_are = c_is;
            entries_fit = omega (arith, found.2, fits.lines, min-le_right (length lines) (length entries / 2), zeros_long entries e ze);
            fit = record {
              in_stmts = omega (arith, g, b, t_long, room.in_stmts);
              in_args = omega (arith, g, b, a_long, room.in_args);
              in_falls = omega (arith, g, b, zeros_long falls f zf, room.in_falls);
              in_links = omega (arith, g, b, zeros_long links k zk, room.in_links);
              in_lists = omega (arith, g, b, zeros_long lists i zi, room.in_lists);
              in_returns = omega (arith, g, b, zeros_long returns r zr, room.in_returns);
            };
            zero-entries = zeros_again entries e ze;
            zero-falls = zeros_again falls f zf;
            zero_links = zeros_again links k zk;
            zero_lists = zeros_again lists i zi;
            zero_returns = zeros_again returns r zr;
            zero_succ = zeros_again succ u zu;
            zero_pred = zeros_again pred p zp;
          }

      same_sizes : sizes_of l t a e f k i r u p ≡ S
      same_sizes =
          rw (l_long, t_long, a_long, zeros_long entries e ze, zeros_long falls f zf, zeros_long links k zk, zeros_long lists i zi, zeros_long returns r zr, zeros_long succ u zu, zeros_long pred p zp)

      made : (c' l' t' a' e' f' k' i' r' u' p' : List ℕ) (y : BuiltAnswer) → GraphMade h x n l t a (sizes_of l t a e f k i r u p) c' l' t' a' e' f' k' i' r' u' p' y
          → Answered (built_of_answer (capacity S) q) S c' l' t' a' e' f' k' i' r' u' p' y
      made c' l' t' a' e' f' k' i' r' u' p' y g =
          let b : built_of_answer (capacity S) q ≡ edges_fitted (min (length succ) (length pred)) L₀ = by_reading (listing L₀) found.0 in
          rw b (subst (λ (s : Sizes). Answered (edges_fitted (min s.succ s.pred) L₀) s c' l' t' a' e' f' k' i' r' u' p' y) same_sizes (g L₀ holds found.1))

    module _ (h : Bool) (x n : ℕ) (w : FittingRead q K N (length lines) (length stmts) (length args) c l t a (Ok (record { handlers = h; lines = x; stmts = n }))) where
      pub build_ready : GraphReady h x n c l t a e f k i r u p
      build_ready = let g = was_accepted (read_by K N q) (record { handlers = h; lines = x; stmts = n }) w.answer in ready h x n w g.0 (g.1, g.2, g.3, g.4)

      pub build_accepted : (c' l' t' a' e' f' k' i' r' u' p' : List ℕ) (y : BuiltAnswer) → GraphMade h x n l t a (sizes_of l t a e f k i r u p) c' l' t' a' e' f' k' i' r' u' p' y
          → Answered (built_of_answer (capacity S) q) S c' l' t' a' e' f' k' i' r' u' p' y
      build_accepted = let g = was_accepted (read_by K N q) (record { handlers = h; lines = x; stmts = n }) w.answer in made h x n w g.0 (g.1, g.2, g.3, g.4)

-- ---- with the rooms and the reader's answer as they come

pub rooms : (lines stmts args entries falls links lists returns : List ℕ) {kl kn : ℕ} → kl ≡ min (length lines) (length entries / 2)
    → kn ≡ stmt_room (length stmts) (length args) (length falls) (length links) (length lists) (length returns)
    → (kl ≤ length lines) × (kn * 12 ≤ length stmts) × (kn * 64 ≤ length args)
rooms lines stmts args entries falls links lists returns {kl} {kn} ek en =
    let f = room_fits kn (length stmts) (length args) (length falls) (length links) (length lists) (length returns) (omega (arith, en)) in
    (omega (arith, ek, min-le_left (length lines) (length entries / 2)), f.in_stmts, f.in_args)

module _ {b : Answer} (ok : ReadWithin b) (lines stmts args entries falls links lists returns succ pred : List ℕ) {kl kn : ℕ} (ek : kl ≡ min (length lines) (length entries / 2))
    (en : kn ≡ stmt_room (length stmts) (length args) (length falls) (length links) (length lists) (length returns)) where
  module _ {c l t a e f k i r u p : List ℕ} {v : Result Accepted Refusal} (ze : Zeroed entries e × Zeroed falls f × Zeroed links k)
      (zi : Zeroed lists i × Zeroed returns r × Zeroed succ u × Zeroed pred p) (w : FittingRead b kl kn (length lines) (length stmts) (length args) c l t a v) where
    pub refused-build : (y : Refusal) → v ≡ Err y
        → Answered (built_of_answer (capacity (sizes_of lines stmts args entries falls links lists returns succ pred)) b) (sizes_of lines stmts args entries falls links lists returns succ pred)
        c l t a e f k i r u p (answer.Refused (number_of y.reason) y.place)
    refused-build y q =
        build-refused b ok lines stmts args entries falls links lists returns succ pred c l t a e f k i r u p
        ze.0 ze.1 ze.2 zi.0 zi.1 zi.2 zi.3 y (rw (ek, en, q) at w)

    module _ (y : Accepted) (q : v ≡ Ok y) where
      pub ready_build : GraphReady y.handlers y.lines y.stmts c l t a e f k i r u p
      ready_build =
          build_ready b ok lines stmts args entries falls links lists returns succ pred c l t a e f k i r u p
          ze.0 ze.1 ze.2 zi.0 zi.1 zi.2 zi.3 y.handlers y.lines y.stmts (rw (ek, en, q) at w)

      pub accepted_build : {c' l' t' a' e' f' k' i' r' u' p' : List ℕ} {z : BuiltAnswer} → GraphMade y.handlers y.lines y.stmts l t a (sizes_of l t a e f k i r u p) c' l' t' a' e' f' k' i' r' u' p' z
          → Answered (built_of_answer (capacity (sizes_of lines stmts args entries falls links lists returns succ pred)) b) (sizes_of lines stmts args entries falls links lists returns succ pred)
          c' l' t' a' e' f' k' i' r' u' p' z
      accepted_build {c'} {l'} {t'} {a'} {e'} {f'} {k'} {i'} {r'} {u'} {p'} {z} g =
          build_accepted b ok lines stmts args entries falls links lists returns succ pred c l t a e f k i r u p
          ze.0 ze.1 ze.2 zi.0 zi.1 zi.2 zi.3 y.handlers y.lines y.stmts (rw (ek, en, q) at w) c' l' t' a' e' f' k' i' r' u' p' z g
