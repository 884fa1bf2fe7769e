-- The mission, proved: from what `build` promises alone. Assumes nothing.
use Rattle.std.specs.Prelude.{ℕ, ◌<◌, ◌≡◌, refl, false, List, length}
use Rattle.std.proofs.Math.Path.{sym, ap}
use Rattle.std.proofs.Common.{◌∙◌}
use Rattle.std.proofs.Math.Option.{some}
use Rattle.std.proofs.Math.ListN.{get_elem?, take}
use Rattle.listings.specs.Listing.{Listing, total}
use Rattle.listings.specs.Read.{Answer}
use Rattle.listings.specs.Cut.{meant}
use Rattle.program_files.specs.Inputs.{meaning}
use Rattle.listings.specs.ListingText.{Within}
use Rattle.graph.specs.Nodes.{Node, nodes}
use Rattle.graph.specs.Graph.{wire, return_targets}
use Rattle.graph.specs.Questions.{Reply, answer, refused}
use Rattle.graph.specs.Build.{InputNumber}
use Rattle.graph.specs.Demand3.{Demand3}
use Rattle.graph_laws.specs.GraphLaws.{node_count}
use Rattle.graph_laws.specs.RunLaws.{demand3_of}
use Rattle.graph_laws.specs.Theorems.{demand_three}
use Rattle.tables.specs.Columns.{word_of, succ_part}
use Rattle.tables.specs.EntryRows.{entries_in}
use Rattle.passes.specs.OpenerLaws.{in_range}
use Rattle.passes.specs.GraphHeld.{GraphHeld}
use Rattle.passes.specs.GraphReads.{reads, returns_are}
use Rattle.passes.specs.TableForms.{Sizes, Tables, Written}
use Rattle.wiring.specs.GraphTables.{BuildWrote}
use Rattle.wiring.specs.Refusals.{Gives, ListingOf, NumberOf, ReadAs, LongEnough}
use Rattle.wiring.specs.WrittenLaws.{graph_held, counts_held, nodes-total, held_entries, held_succ, held_pred, held_continuation}
use Rattle.wiring.specs.BuildAnswers.{input_read, text_read, decided, refuses, refused_by, carries_out, graph_of, long_enough, number_of}
use Rattle.wiring.specs.BuiltAnswer.{BuiltAnswer}
use Rattle.wiring.specs.BuiltAnswer as built
use Rattle.adjacency.specs.ListsAt.{list_reply, part_of}
use Rattle.questions.specs.Mission.{NodeWritten, Demand2, list_of, Questions, Mission, MissionMet}
use Rattle.questions.specs.TableAnswers.{successors_are, predecessors_are, entry_is}
use Rattle.questions.specs.StatementAnswers.{path_answer_lem, node_answer}
use Rattle.questions.specs.FrameBuilt.{frame_built, frame_answered}

part_list : (q : Reply (ℕ × ℕ)) (t : List ℕ) → part_of q t ≡ list_of (list_reply q t)
unfolding part_of list_reply list_of
part_list (answer d) t = refl
part_list (refused n p) t = refl

-- ---- of the tables that were written for L

module _ (L : Listing) (s : Sizes) (T : Tables) (ok : Within L) (g : LongEnough s L) (w : Written L s T) where
  held : GraphHeld L T.lines T.stmts T.entries T.falls T.lists T.returns T.succ T.pred (length (wire L).entries.rows) (total L.lines) (length (return_targets (wire L)))
  held = graph_held L s T ok g w

  node_written : (i : ℕ) (n : Node) → get_elem? (nodes L.lines) i ≡ some n → NodeWritten L T i n
  unfolding word_of wire
  node_written i n e =
      let r = reads held i n e in
      let h : i < node_count L = in_range (wire L).nodes i n e in
      record { word = r.word_is; line = r.line_is; number = r.number_is; path = r.path_is; succ = held_succ held i h; pred = held_pred held i h; continues = held_continuation held i n e }

  demand2 : Demand2 L T
  unfolding wire
  demand2 =
      let n = counts_held L s T w in
      record {
        count = n.stmts ∙ sym (nodes-total L);
        node = node_written;
        entries = ap (λ (k : ℕ). entries_in k T.entries) n.rows ∙ held_entries held;
        targets = ap (λ (k : ℕ). take k T.returns) n.targets ∙ returns_are held;
        edges = n.edges;
        handlers = n.handlers;
      }

  questions : Questions L T
  questions =
      record {
        successors = successors_are L s T ok g w;
        predecessors = predecessors_are L s T ok g w;
        successor_part = λ i. part_list _ T.succ ∙ ap list_of (successors_are L s T ok g w i);
        predecessor_part = λ i. part_list _ T.pred ∙ ap list_of (predecessors_are L s T ok g w i);
        statement = node_answer L s T ok g w;
        path = path_answer_lem L s T ok g w;
        entry = entry_is L s T ok g w;
        frame = frame_built L s T ok g w;
        slice = λ h i v flag out out' r q. let t = frame_answered L s T ok g w h i v flag out out' r q in (t.answered, t.slice);
      }

  demand3 : L.handlers ≡ false → Demand3 L (succ_part T.lists T.succ)
  demand3 h = demand3_of L h (succ_part T.lists T.succ) (held_succ held)

-- ---- of every input that was read, and all tables

pub mission_of : (Means : Listing → Type 0) (Number : ℕ → Type 0) (q : Answer) → ReadAs Means Number q → (s : Sizes) (T : Tables) (x : BuiltAnswer) → BuildWrote q s T x → Mission Means Number q s T x
mission_of Means Number q ok s T x wrote =
    let within : (L : Listing) → Means L → Within L = λ L h. ok.within L (ok.reads L h) in
    let fits : (L : Listing) → Means L → x ≡ built.Graph → LongEnough s L = long_enough ok s T x wrote in
    let written : (L : Listing) → Means L → x ≡ built.Graph → Written L s T = λ L h e. (carries_out ok s T x wrote L h (fits L h e)).1 in
    record {
      first = record {
        accepts = carries_out ok s T x wrote;
        decides = decided ok s;
        refuses = refuses ok s T x wrote;
        refused_by = λ n p e. let r = refused_by ok s T x wrote n p e in (r.0, r.2);
        graph_of = graph_of ok s T x wrote;
        numbers = number_of ok s T x wrote;
      };
      second = λ L h e. demand2 L s T (within L h) (fits L h e) (written L h e);
      questions = λ L h e. questions L s T (within L h) (fits L h e) (written L h e);
      third = λ L h e. demand3 L s T (within L h) (fits L h e) (written L h e);
      third_of_rules = λ L h. demand_three L;
    }

-- of every text and every saved program
pub mission : MissionMet
mission program input = mission_of (Gives program input) (NumberOf program) (meaning program input) (input_read program input)

-- of every text, in a text's own words
pub text_mission : (text : List ℕ) (s : Sizes) (T : Tables) (x : BuiltAnswer) → BuildWrote (meant text) s T x → Mission (ListingOf text) InputNumber (meant text) s T x
text_mission text = mission_of (ListingOf text) InputNumber (meant text) (text_read text)
