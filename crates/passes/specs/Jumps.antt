-- Where the line numbers lead that statements name: their rows in the table of links. Assumes nothing.
use Rattle.std.specs.Prelude.{ℕ, suc, ◌*◌, ◌≡◌, Bool, ◌&&◌, not, List, [], ◌∷◌, eqb, leb, take}
use Rattle.std.proofs.lemmas.List.Edits.{sets}
use Rattle.layout.specs.Layout.{goto_word, return_word, ongosub_word}
use Rattle.listings.specs.Bytes.{pick}
use Rattle.listings.specs.Listing.{Simple, jump, on, for, next, block, bare, Lines}
use Rattle.listings.specs.ListingText.{LinesOk}
use Rattle.graph_laws.specs.Adding.{node_number}
use Rattle.graph.specs.Nodes.{NodeStmt, Node, Entries, entry_of, entries, nodes}
use Rattle.graph.specs.Targets.{on_simple}
use Rattle.passes.specs.Held.{StmtsHeld, ArgsHeld}
use Rattle.passes.specs.LineSearch.{EntryTable}

-- the line numbers that a statement names
unfoldable pub jump_targets : Simple → List ℕ
jump_targets (jump w n) = n ∷ []
jump_targets (on w ns) = ns
jump_targets (for v t) = []
jump_targets (next m ss) = []
jump_targets (block w) = []
jump_targets (bare w) = []

unfoldable pub stmt_targets : NodeStmt → List ℕ
stmt_targets s = on_simple jump_targets [] s

-- the entry of each line: one more than the node, or 0
unfoldable pub link_row : Entries → List ℕ → List ℕ
link_row es [] = []
link_row es (n ∷ ns) = node_number (entry_of es n) ∷ link_row es ns

-- the links of the nodes from i on, each stored from the start of its row of 64; all other entries stay
unfoldable pub linked : Entries → List ℕ → ℕ → List Node → List ℕ
linked es t i [] = t
linked es t i (n ∷ ns) = linked es (sets t (i * 64) (link_row es (stmt_targets n.stmt))) (suc i) ns

-- ---- by the records

-- goto, gosub, run, ongoto and ongosub, by their numbers in the table of opening words
unfoldable pub names_lines : ℕ → Bool
names_lines w = leb goto_word w && leb w ongosub_word && not (eqb w return_word)

-- how many of a statement's arguments are line numbers; more than 64 no statement has
unfoldable pub jump_count : (word count : ℕ) → ℕ
jump_count w c = pick (names_lines w) (pick (leb c 64) c 0) 0

-- ---- contracts, for whatever the tables hold

abbrev pub RowLinked : (entries : List ℕ) (n : ℕ) (args : List ℕ) (c : ℕ) → List ℕ → List ℕ → Type 0
RowLinked entries n args c t u = (es : Entries) → EntryTable es entries n → u ≡ sets t 0 (link_row es (take c args))

abbrev pub JumpsLinked : (table : List ℕ) (count : ℕ) (stmts args : List ℕ) (n : ℕ) → List ℕ → List ℕ → Type 0
JumpsLinked table count stmts args n t u =
    (ls : Lines) → LinesOk ls → EntryTable (entries ls) table count → StmtsHeld ls stmts n → ArgsHeld ls args → u ≡ linked (entries ls) t 0 (nodes ls)
