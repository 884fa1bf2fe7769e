-- What a build answers, from what it promises: every input and all tables, accepted or refused. Assumes nothing.
use Rattle.std.specs.Prelude.{ℕ, ◌/◌, ◌≤◌, ◌≡◌, refl, Bool, true, false, ◌&&◌, List, ◌⊎◌, ◌↔◌, leb}
use Rattle.std.proofs.Common.{sym, subst, ◌∙◌, inl, inr, arith}
use Rattle.std.proofs.Math.Path.{ap}
use Rattle.std.proofs.Math.Decide.{dec_le}
use Rattle.std.proofs.Math.Nat.{min-le_left, min-le_right, le-min}
use borrow.Author.Tests.{leb-true, le-leb}
use Rattle.listings.specs.Listing.{Listing, total, count}
use Rattle.listings.specs.Read.{Answer, listing, refusal}
use Rattle.listings.specs.Cut.{meant}
use Rattle.listing_laws.specs.CutLaws.{meant-refused, meant_within}
use Rattle.program_files.specs.Program.{read_program}
use Rattle.program_files.specs.Inputs.{meaning}
use Rattle.program_laws.specs.Accepted.{ProgramNumber, program_within, program-numbers}
use Rattle.graph.specs.Build.{Capacity, Built, graph, refused, edge_count, fitted, built_of_answer, InputNumber, BuildNumber}
use Rattle.graph_laws.specs.Theorems.{means, meant_of}
use Rattle.graph_laws.specs.Numbers.{read_refusal, answer_number}
use Rattle.passes.specs.Room.{room_fits, fits_room}
use Rattle.passes.specs.TableForms.{Sizes, capacity, capacity_is, Tables, Written, AllZero}
use Rattle.wiring.specs.GraphTables.{Writes, BuildWrote, writes_graph, writes_refusal}
use Rattle.wiring.specs.Refusals.{ListingOf, FileOf, Gives, NumberOf, ReadAs, LinesFit, NodesFit, EdgesFit, LongEnough, Refusal, input, no_lines, no_nodes, no_edges}
use Rattle.wiring.specs.BuiltAnswer.{BuiltAnswer}
use Rattle.wiring.specs.BuiltAnswer as answer

-- ---- the definition's answer for a listing that was read, case by case

not-leb : (a b : ℕ) → (a ≤ b → ⊥) → leb a b ≡ false
not-leb a b h = go (leb a b) refl
  where
    go : (x : Bool) → leb a b ≡ x → x ≡ false
    go true e = absurd (h (leb-true a b e))
    go false e = refl

both_false : (x y : Bool) → (x ≡ true → y ≡ true → ⊥) → (x && y) ≡ false
both_false true true h = absurd (h refl refl)
both_false true false h = refl
both_false false y h = refl

module _ (c : Capacity) (L : Listing) where
  fitted_21 : (count L.lines ≤ c.lines → ⊥) → fitted c L ≡ refused 21 (count L.lines)
  unfolding fitted
  fitted_21 h = rw (not-leb (count L.lines) c.lines h)

  module _ (a : count L.lines ≤ c.lines) where
    fitted_22 : (total L.lines ≤ c.nodes → ⊥) → fitted c L ≡ refused 22 (total L.lines)
    unfolding fitted
    fitted_22 h = rw (le-leb (count L.lines) c.lines a, not-leb (total L.lines) c.nodes h)

    module _ (b : total L.lines ≤ c.nodes) where
      fitted_23 : ((edge_count L ≤ c.edges) × (edge_count L ≤ 32768) → ⊥) → fitted c L ≡ refused 23 (edge_count L)
      unfolding fitted
      fitted_23 h =
          rw (
            le-leb (count L.lines) c.lines a,
            le-leb (total L.lines) c.nodes b,
            both_false (leb (edge_count L) c.edges) (leb (edge_count L) 32768) (λ p q. h (leb-true (edge_count L) c.edges p, leb-true (edge_count L) 32768 q)),
          )

      fitted_graph : edge_count L ≤ c.edges → edge_count L ≤ 32768 → fitted c L ≡ graph L
      unfolding fitted
      fitted_graph p q = rw (le-leb (count L.lines) c.lines a, le-leb (total L.lines) c.nodes b, le-leb (edge_count L) c.edges p, le-leb (edge_count L) 32768 q)

-- ---- which of the two

-- the tables hold so many as `capacity` says
module _ (s : Sizes) (L : Listing) where
  lines_fit : LinesFit s L ↔ (count L.lines ≤ (capacity s).lines)
  lines_fit =
      rw (capacity_is s)
      (λ h. le-min h.0 (let g : count L.lines ≤ s.entries / 2 = omega (arith, h.1) in g), λ h. (omega (arith, h, min-le_left s.lines (s.entries / 2)), omega (arith, h, min-le_right s.lines (s.entries / 2))))

  nodes_fit : NodesFit s L ↔ (total L.lines ≤ (capacity s).nodes)
  nodes_fit = rw (capacity_is s) (fits_room _ _ _ _ _ _ _, room_fits _ _ _ _ _ _ _)

  edges_fit_lem : EdgesFit s L ↔ ((edge_count L ≤ (capacity s).edges) × (edge_count L ≤ 32768))
  edges_fit_lem =
      rw (capacity_is s)
      (λ h. (le-min h.0 h.1, h.2), λ h. (omega (arith, h.0, min-le_left s.succ s.pred), omega (arith, h.0, min-le_right s.succ s.pred), h.1))

-- a text means the listing that it is the text of, with its names cut
pub text_read : (text : List ℕ) → ReadAs (ListingOf text) InputNumber (meant text)
text_read text =
    record {
      reads = λ L h. ap meant h.text_is ∙ means h.written h.in_form ∙ ap listing (sym h.cut_is);
      means = λ L e. let q = meant_of text L e in record { written = q.0; in_form = q.1; text_is = q.2; cut_is = q.3 };
      within = meant_within text;
      numbers = λ n p e. let r = read_refusal text n p (meant-refused text n p e) in (r.0, r.1);
    }

-- a saved program
pub file_read : (file : List ℕ) → ReadAs (FileOf file) ProgramNumber (read_program file)
file_read file =
    record {
      reads = λ L h. h.means;
      means = λ L e. record { means = e; within = program_within file L e };
      within = program_within file;
      numbers = program-numbers file;
    }

-- either
pub input_read : (program : Bool) (input : List ℕ) → ReadAs (Gives program input) (NumberOf program) (meaning program input)
input_read true file = file_read file
input_read false text = text_read text

module _ {Means : Listing → Type 0} {Number : ℕ → Type 0} {q : Answer} (ok : ReadAs Means Number q) (s : Sizes) where
  by_listing : (L : Listing) → Means L → (b : Built) → fitted (capacity s) L ≡ b → built_of_answer (capacity s) q ≡ b
  unfolding built_of_answer
  by_listing L h b e = ap (built_of_answer (capacity s)) (ok.reads L h) ∙ e

  pub accepted_built : (L : Listing) → Means L → LongEnough s L → built_of_answer (capacity s) q ≡ graph L
  accepted_built L h g =
      let e = (edges_fit_lem s L).0 g.edges in
      by_listing L h _ (fitted_graph (capacity s) L ((lines_fit s L).0 g.lines) ((nodes_fit s L).0 g.nodes) e.0 e.1)

  refused_built : {n p : ℕ} → Refusal Means q s n p → built_of_answer (capacity s) q ≡ refused n p
  unfolding built_of_answer
  refused_built (input n p e) = ap (built_of_answer (capacity s)) e
  refused_built (no_lines L h a) = by_listing L h _ (fitted_21 (capacity s) L (λ b. a ((lines_fit s L).1 b)))
  refused_built (no_nodes L h a b) = by_listing L h _ (fitted_22 (capacity s) L ((lines_fit s L).0 a) (λ c. b ((nodes_fit s L).1 c)))
  refused_built (no_edges L h a b c) = by_listing L h _ (fitted_23 (capacity s) L ((lines_fit s L).0 a) ((nodes_fit s L).0 b) (λ d. c ((edges_fit_lem s L).1 d)))

  abbrev pub Decided : Type 0
  Decided = ((n p : ℕ) × Refusal Means q s n p) ⊎ ((L : Listing) × Means L × LongEnough s L)

  by_edges : (L : Listing) → Means L → LinesFit s L → NodesFit s L → Decided
  by_edges L h a b =
      elim (dec_le (edge_count L) (capacity s).edges) [
        | no f ↦ inl (23, edge_count L, no_edges L h a b (λ c. f ((edges_fit_lem s L).0 c).0))
        | yes d ↦ elim (dec_le (edge_count L) 32768) [
          | no f ↦ inl (23, edge_count L, no_edges L h a b (λ c. f c.2))
          | yes e ↦ inr (L, h, record { lines = a; nodes = b; edges = (edges_fit_lem s L).1 (d, e) })
        ]
      ]

  pub decided : Decided
  decided = go q refl
    where
      go : (b : Answer) → q ≡ b → Decided
      go (refusal n p) e = inl (n, p, input n p e)
      go (listing L) e =
          let h = ok.means L e in
          elim (dec_le (count L.lines) (capacity s).lines) [
            | no f ↦ inl (21, count L.lines, no_lines L h (λ a. f ((lines_fit s L).0 a)))
            | yes a ↦ elim (dec_le (total L.lines) (capacity s).nodes) [
              | no f ↦ inl (22, total L.lines, no_nodes L h ((lines_fit s L).1 a) (λ b. f ((nodes_fit s L).0 b)))
              | yes b ↦ by_edges L h ((lines_fit s L).1 a) ((nodes_fit s L).1 b)
            ]
          ]

  -- an input means one listing
  one_listing : (L M : Listing) → Means L → Means M → M ≡ L
  one_listing L M h g = let e : listing L ≡ listing M = sym (ok.reads L h) ∙ ok.reads M g in let z : M ≡ L = cc in z

-- an answer is one of the two
not_both : (x : BuiltAnswer) (n p : ℕ) → x ≡ answer.Refused n p → x ≡ answer.Graph → ⊥
not_both x n p e f = let z : ◌≡◌ {A = ℕ} 0 1 = cc in omega arith

-- ---- what was promised

module _ {Means : Listing → Type 0} {Number : ℕ → Type 0} {q : Answer} (ok : ReadAs Means Number q) (s : Sizes) (T : Tables) (x : BuiltAnswer) (wrote : BuildWrote q s T x) where
  wrote_as : (b : Built) → built_of_answer (capacity s) q ≡ b → Writes b s T x
  wrote_as b e = subst (λ (d : Built). Writes d s T x) e wrote

  pub refuses : (n p : ℕ) → Refusal Means q s n p → (x ≡ answer.Refused n p) × AllZero s T
  refuses n p r = writes_refusal n p s T x (wrote_as (refused n p) (refused_built ok s r))

  pub carries_out : (L : Listing) → Means L → LongEnough s L → (x ≡ answer.Graph) × Written L s T
  carries_out L h g = writes_graph L s T x (wrote_as (graph L) (accepted_built ok s L h g))

  pub refused_by : (n p : ℕ) → x ≡ answer.Refused n p → Refusal Means q s n p × (built_of_answer (capacity s) q ≡ refused n p) × AllZero s T
  refused_by n p e =
      elim (decided ok s) [
        | inl d ↦ same d.0 d.1 d.2
        | inr d ↦ absurd (not_both x n p e (carries_out d.0 d.1 d.2).0)
      ]
    where
      same : (m k : ℕ) → Refusal Means q s m k → Refusal Means q s n p × (built_of_answer (capacity s) q ≡ refused n p) × AllZero s T
      same m k r =
          let f : x ≡ answer.Refused m k = (refuses m k r).0 in
          let a : m ≡ n = cc in
          let b : k ≡ p = cc in
          let r' : Refusal Means q s n p = rw (a, b) at r in
          (r', refused_built ok s r', (refuses n p r').1)

  pub graph_of : x ≡ answer.Graph → (L : Listing) × Means L × LongEnough s L × Written L s T
  graph_of e =
      elim (decided ok s) [
        | inl d ↦ absurd (not_both x d.0 d.1 (refuses d.0 d.1 d.2).0 e)
        | inr d ↦ (d.0, d.1, d.2, (carries_out d.0 d.1 d.2).1)
      ]

  pub long_enough : (L : Listing) → Means L → x ≡ answer.Graph → LongEnough s L
  long_enough L h e = let d = graph_of e in subst (λ (M : Listing). LongEnough s M) (one_listing ok s L d.0 h d.1) d.2

  -- no number but those of the input and of the tables
  pub number_of : (n p : ℕ) → x ≡ answer.Refused n p → BuildNumber Number n
  number_of n p e = answer_number Number (capacity s) q ok.numbers n p (refused_by n p e).1
