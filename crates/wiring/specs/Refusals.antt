-- What is accepted and what is refused (00-mission.md, demand 1; document 01, "Refused because of the input",
-- "Refused because of the state"). Statements alone.
-- Assumes nothing.
use Rattle.std.specs.Prelude.{ℕ, ◌*◌, ◌≤◌, ◌≡◌, List, Bool, true, false}
use Rattle.listings.specs.Listing.{Listing, total, count}
use Rattle.listings.specs.ListingText.{Within, InForm, listing_text}
use Rattle.listings.specs.Read.{Answer, listing, refusal}
use Rattle.listings.specs.Cut.{cut_listing}
use Rattle.program_files.specs.Program.{read_program}
use Rattle.program_laws.specs.Accepted.{ProgramNumber}
use Rattle.graph.specs.Build.{InputNumber, edge_count}
use Rattle.passes.specs.Room.{StmtsFit}
use Rattle.passes.specs.TableForms.{Sizes}

-- "A listing that follows the bracket form and the limits of document 01": the text is that of a listing in form,
-- written with names of up to eight characters, and L is that listing with its names cut ("The reader therefore cuts a name to two characters", document 02, L2)
pub record ListingOf (text : List ℕ) (L : Listing) : Type 0 where
  pub written : Listing
  pub in_form : InForm written
  pub text_is : text ≡ listing_text written
  pub cut_is : L ≡ cut_listing written

-- "a file gives the graph of the listing it means, whose own text length is not judged" (document 02, L3):
-- it means L, and L lies within the limits
pub record FileOf (file : List ℕ) (L : Listing) : Type 0 where
  pub means : read_program file ≡ listing L
  pub within : Within L

-- "All three demands now cover both inputs": that an input, a saved program or a text, gives the listing L;
-- and the numbers that it can be refused by
abbrev pub Gives : Bool → List ℕ → Listing → Type 0
Gives false text L = ListingOf text L
Gives true file L = FileOf file L

abbrev pub NumberOf : Bool → ℕ → Type 0
NumberOf false n = InputNumber n
NumberOf true n = ProgramNumber n

-- What an input means or its refusal, q; `Means L` says that it gives the listing L:
-- q is that listing exactly where the input means it, it lies within the limits, and an input that means none is refused by a `Number` of such inputs.
pub record ReadAs (Means : Listing → Type 0) (Number : ℕ → Type 0) (q : Answer) : Type 0 where
  pub reads : (L : Listing) → Means L → q ≡ listing L
  pub means : (L : Listing) → q ≡ listing L → Means L
  pub within : (L : Listing) → q ≡ listing L → Within L
  pub numbers : (n p : ℕ) → q ≡ refusal n p → Number n

-- "A table is too short if it cannot hold its fixed number of entries .. for each of these":
-- the tables of 21, 22 and 23 hold the lines, statements and edges of L
-- a line has 1 entry of lines and 2 of entries
abbrev pub LinesFit : Sizes → Listing → Type 0
LinesFit s L = (count L.lines ≤ s.lines) × (count L.lines * 2 ≤ s.entries)

-- a statement has 12 entries of stmts, 64 of args, 3 of falls, 64 of links, 4 of lists, and 1 of returns
abbrev pub NodesFit : Sizes → Listing → Type 0
NodesFit s L = StmtsFit (total L.lines) s.stmts s.args s.falls s.links s.lists s.returns

-- with document 01's own limit
abbrev pub EdgesFit : Sizes → Listing → Type 0
EdgesFit s L = (edge_count L ≤ s.succ) × (edge_count L ≤ s.pred) × (edge_count L ≤ 32768)

-- "with long enough tables lent"
pub record LongEnough (s : Sizes) (L : Listing) : Type 0 where
  pub lines : LinesFit s L
  pub nodes : NodesFit s L
  pub edges : EdgesFit s L

-- "the refusals of document 01", each with its number and place. 27 is not among them:
-- no listing that was read lacks an inner statement.
pub data Refusal (Means : Listing → Type 0) (q : Answer) (s : Sizes) : (number place : ℕ) → Type 0 where
  -- 1 to 8 of a text, and 1, 33 to 35 and 4 to 8 of a saved program, as the definition of what is read has them
  input : (n p : ℕ) → q ≡ refusal n p → Refusal Means q s n p
  -- "Checked after the input": "21 line tables too short, 22 node tables too short,
  -- 23 either edge table too short or over 32,768 edges; in this order,
  -- place the count of lines, statements or edges"
  no_lines : (L : Listing) → Means L → (LinesFit s L → ⊥) → Refusal Means q s 21 (count L.lines)
  no_nodes : (L : Listing) → Means L → LinesFit s L → (NodesFit s L → ⊥) → Refusal Means q s 22 (total L.lines)
  no_edges : (L : Listing) → Means L → LinesFit s L → NodesFit s L → (EdgesFit s L → ⊥) → Refusal Means q s 23 (edge_count L)
