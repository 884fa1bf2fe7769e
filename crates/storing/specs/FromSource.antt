-- What is said of tables one by one, of the source that holds them. Assumes nothing.
use Rattle.std.specs.Prelude.{ℕ, ◌≡◌, Bool, true, false, List, Result, Ok, Err}
use Rattle.std.proofs.Common.{sym}
use Rattle.layout.specs.Refusals.{refusal_at}
use Rattle.layout.specs.declared.refusals.Reason.TheVariants as reason
use Rattle.layout.specs.declared.refusals.Refusal.{Refusal}
use Rattle.storing.specs.declared.source.Source.{Source}
use Rattle.storing.specs.FinalLists.{return_list, final_list, final_size, SizeReady, SizeIs, CountsReady, WriteReady, WriteDone, WritesReady, WritesDone}
use Rattle.storing.specs.StoredGraph.{final_lists, graph_readable, GraphRead, GraphReady, GraphStored, StoredAnswered, GraphAnswered, graph_read, answered_as}

-- ---- how many edges there are

abbrev pub size_from : Source → (args lists : List ℕ) → ℕ → ℕ
size_from s args lists = final_size s.handlers s.nodes.records.stmts.now args s.nodes.falls.now s.nodes.links.now lists s.targets

abbrev pub SizeReadyFrom : Source → (args : List ℕ) (i : ℕ) (lists : List ℕ) → Type 0
SizeReadyFrom s args i lists = SizeReady s.nodes.records.stmts.now args s.nodes.falls.now s.nodes.links.now i lists s.targets

abbrev pub SizeFrom : Source → (args lists : List ℕ) (i r : ℕ) → Type 0
SizeFrom s args lists i r = SizeIs s.handlers s.nodes.records.stmts.now args s.nodes.falls.now s.nodes.links.now lists s.targets i r

abbrev pub CountsReadyFrom : Source → (args lists : List ℕ) → Type 0
CountsReadyFrom s args lists = CountsReady s.nodes.records.stmts.now args s.nodes.falls.now s.nodes.links.now s.nodes.records.n lists s.targets

-- ---- the lists

abbrev pub returns_from : Source → (args : List ℕ) → ℕ → List ℕ
returns_from s args i = return_list s.handlers args i s.returns.now s.targets

abbrev pub list_from : Source → (args lists : List ℕ) → ℕ → List ℕ
list_from s args lists i = final_list s.handlers s.nodes.records.stmts.now args s.nodes.falls.now s.nodes.links.now lists s.scratch.now s.returns.now s.targets i

abbrev pub lists_from : Source → (args lists : List ℕ) → List (List ℕ)
lists_from s args lists = final_lists s.handlers s.nodes.records.stmts.now args s.nodes.falls.now s.nodes.links.now s.nodes.records.n lists s.scratch.now s.returns.now s.targets

abbrev pub WriteReadyFrom : Source → (args : List ℕ) (i at : ℕ) (lists : List ℕ) (edges : ℕ) → Type 0
WriteReadyFrom s args i at lists edges = WriteReady s.handlers s.nodes.records.stmts.now args s.nodes.falls.now s.nodes.links.now i at lists s.scratch.now s.returns.now s.targets edges

abbrev pub WriteDoneFrom : Source → (args : List ℕ) (i at : ℕ) (lists lists' succ succ' : List ℕ) (r : ℕ) → Type 0
WriteDoneFrom s args i at lists lists' succ succ' r = WriteDone s.handlers s.nodes.records.stmts.now args s.nodes.falls.now s.nodes.links.now i at lists lists' s.scratch.now s.returns.now s.targets succ succ' r

abbrev pub WritesReadyFrom : Source → (args lists : List ℕ) (edges : ℕ) → Type 0
WritesReadyFrom s args lists edges = WritesReady s.handlers s.nodes.records.stmts.now args s.nodes.falls.now s.nodes.links.now s.nodes.records.n lists s.scratch.now s.returns.now s.targets edges

abbrev pub WritesDoneFrom : Source → (args lists lists' succ succ' : List ℕ) (r : ℕ) → Type 0
WritesDoneFrom s args lists lists' succ succ' r = WritesDone s.handlers s.nodes.records.stmts.now args s.nodes.falls.now s.nodes.links.now s.nodes.records.n lists lists' s.scratch.now s.returns.now s.targets succ succ' r

-- ---- the graph

abbrev pub GraphReadFrom : Source → (args lists : List ℕ) → Type 0
GraphReadFrom s args lists = GraphRead s.handlers s.nodes.records.stmts.now args s.nodes.falls.now s.nodes.links.now s.nodes.records.n lists s.scratch.now s.returns.now s.targets

abbrev pub GraphReadyFrom : Source → (args lists : List ℕ) (succ pred : ℕ) → Type 0
GraphReadyFrom s args lists succ pred = GraphReady s.handlers s.nodes.records.stmts.now args s.nodes.falls.now s.nodes.links.now s.nodes.records.n lists s.scratch.now s.returns.now s.targets succ pred

abbrev pub GraphStoredFrom : Source → (args counts lists succ pred counts' args' lists' succ' pred' : List ℕ) → Type 0
GraphStoredFrom s args counts lists succ pred counts' args' lists' succ' pred' = GraphStored s.nodes.records.stmts.now args s.nodes.records.n s.rows counts lists s.targets succ pred (lists_from s args lists) counts' args' lists' succ' pred'

-- where the source can be read, which the routine that makes it has tested
abbrev pub AnsweredFrom : Source → (args counts lists succ pred counts' args' lists' succ' pred' : List ℕ) → Result ℕ Refusal → Type 0
AnsweredFrom s args counts lists succ pred counts' args' lists' succ' pred' r = StoredAnswered true s.nodes.records.stmts.now args s.nodes.records.n s.rows counts lists s.targets succ pred (lists_from s args lists) counts' args' lists' succ' pred' r

-- ---- the source of tables that anyone may have written

-- what it was made of
pub record MadeOf (handlers : Bool) (stmts falls links : List ℕ) (n rows : ℕ) (scratch returns : List ℕ) (targets : ℕ) (s : Source) : Type 0 where
  pub handlers_are : s.handlers ≡ handlers
  pub stmts_are : s.nodes.records.stmts.now ≡ stmts
  pub falls_are : s.nodes.falls.now ≡ falls
  pub links_are : s.nodes.links.now ≡ links
  pub count_is : s.nodes.records.n ≡ n
  pub rows_are : s.rows ≡ rows
  pub scratch_is : s.scratch.now ≡ scratch
  pub returns_are : s.returns.now ≡ returns
  pub targets_are : s.targets ≡ targets

-- the source where the tables can be read, or refusal 25
abbrev pub SourceAnswered : (handlers : Bool) (stmts args falls links : List ℕ) (n rows : ℕ) (lists scratch returns : List ℕ) (targets : ℕ) → Result Source Refusal → Type 0
SourceAnswered handlers stmts args falls links n rows lists scratch returns targets (Ok s) =
    (graph_readable handlers stmts args falls links n rows lists scratch returns targets ≡ true) × MadeOf handlers stmts falls links n rows scratch returns targets s
SourceAnswered handlers stmts args falls links n rows lists scratch returns targets (Err r) =
    (graph_readable handlers stmts args falls links n rows lists scratch returns targets ≡ false) × (r ≡ refusal_at reason.Outside 0)

module _ {handlers : Bool} {stmts args falls links : List ℕ} {n rows : ℕ} {lists scratch returns : List ℕ} {targets : ℕ} {s : Source} (t : graph_readable handlers stmts args falls links n rows lists scratch returns targets ≡ true) (m : MadeOf handlers stmts falls links n rows scratch returns targets s) where
  pub read_from : GraphReadFrom s args lists
  read_from = rw (m.handlers_are, m.stmts_are, m.falls_are, m.links_are, m.count_is, m.scratch_is, m.returns_are, m.targets_are) ((graph_read handlers stmts args falls links n rows lists scratch returns targets t).1)

  pub answered_from : {counts succ pred counts' args' lists' succ' pred' : List ℕ} {r : Result ℕ Refusal} → AnsweredFrom s args counts lists succ pred counts' args' lists' succ' pred' r
      → GraphAnswered handlers stmts args falls links n rows counts lists scratch returns targets succ pred counts' args' lists' succ' pred' r
  answered_from a = answered_as (sym t) (rw (m.handlers_are, m.stmts_are, m.falls_are, m.links_are, m.count_is, m.rows_are, m.scratch_is, m.returns_are, m.targets_are) at a)
