-- A table of cases: texts with what is claimed of their graphs, or with what `flowlist` writes for them. Assumes nothing.
use Rattle.std.specs.Prelude.{ℕ, zero, suc, List, [], ◌∷◌, ◌++◌, Bool, true, false, ◌&&◌, eqb, length}
use Prim.Native.String.{String}
use Rattle.std.proofs.Math.Option.{Option, none, some}
use Rattle.listings.specs.Bytes.{bytes, same}
use Rattle.listings.specs.Listing.{Listing}
use Rattle.listings.specs.Read.{Answer, listing, refusal}
use Rattle.listings.specs.Cut.{meant}
use Rattle.graph.specs.Lists.{list}
use Rattle.graph.specs.Nodes.{nodes, entries, entry_of}
use Rattle.graph.specs.Graph.{wire, successors, continuation}
use Rattle.graph.specs.Build.{flowlist}
use Rattle.graph.specs.Opened as definitions

-- how many nodes; a line's entry; the lists of all nodes; a node's list; a node's continuation
pub data Claim : Type 0 where
  count_is : ℕ → Claim
  entry_is : ℕ → Option ℕ → Claim
  lists_are : List (List ℕ) → Claim
  list_is : ℕ → List ℕ → Claim
  continuation_is : ℕ → Option ℕ → Claim

unfoldable pub lists_from : Listing → ℕ → List (List ℕ) → Bool
lists_from L i [] = true
lists_from L i (l ∷ ls) = same (successors L i) l && lists_from L (suc i) ls

unfoldable pub holds : Listing → Claim → Bool
holds L (count_is n) = eqb (length (nodes L.lines)) n
holds L (entry_is n e) = same (list (entry_of (entries L.lines) n)) (list e)
holds L (lists_are ls) = eqb (length (nodes L.lines)) (length ls) && lists_from L 0 ls
holds L (list_is i l) = same (successors L i) l
holds L (continuation_is i e) = same (continuation (wire L) i) (list e)

unfoldable pub hold : Listing → List Claim → Bool
hold L [] = true
hold L (c ∷ cs) = holds L c && hold L cs

-- a text that is refused holds no claim
unfoldable pub hold_of : Answer → List Claim → Bool
hold_of (listing L) cs = hold L cs
hold_of (refusal n p) cs = false

pub data Case : Type 0 where
  claims : List ℕ → List Claim → Case
  writes : List ℕ → List ℕ → Case

unfoldable pub right : Case → Bool
right (claims t cs) = hold_of (meant t) cs
right (writes t o) = same (flowlist t) o

unfoldable pub all_right : List Case → Bool
all_right [] = true
all_right (c ∷ cs) = right c && all_right cs

-- a listing of one line, number 10
unfoldable pub one : String → List ℕ
one s = bytes "(module 0\n(line 10\n" ++ bytes s ++ bytes ")\n)\n"

unfoldable pub opened : ℕ
unfolding definitions.opened lists_from holds hold hold_of right all_right one
opened = 0
