-- What is proved of the definition, for every listing, in one place: what the demands rest on first. Assumes nothing.
-- C1 to C12 are computed in the crate graph (Cases), where a wrong definition fails them.
use Rattle.std.specs.Prelude.{ℕ, ◌≡◌, false, List, []}
use Rattle.std.proofs.Common.{ap}
use Rattle.std.proofs.Math.Option.{some}
use Rattle.std.proofs.Math.ListN.{get_elem?}
use Rattle.listings.specs.Listing.{Listing}
use Rattle.listings.specs.ListingText.{InForm, listing_text}
use Rattle.listings.specs.Read.{listing, read}
use Rattle.listing_laws.specs.RoundTrip.{in_form_accepted, accepted_in_form}
use Rattle.listings.specs.Cut.{cut_listing, meant}
use Rattle.listing_laws.specs.CutLaws.{listing_again, meant_listing, meant-written}
use Rattle.listing_laws.specs.CutText.{cut_in_form}
use Rattle.graph.specs.Lists.{add_all}
use Rattle.graph.specs.Nodes.{nodes, entries}
use Rattle.graph.specs.Targets.{dispatch_targets}
use Rattle.graph.specs.Edges.{ends}
use Rattle.graph.specs.Graph.{wire, base, successors}
use Rattle.graph_laws.specs.GraphLaws.{ListsOk, lists_ok}
use Rattle.graph.specs.Build.{Capacity, refused, build, InputNumber, BuildNumber}
use Rattle.graph.specs.Demand3.{Demand3}
use Rattle.graph_laws.specs.Numbers.{build_number}
use Rattle.graph_laws.specs.RunLaws.{demand3}
use Rattle.graph_laws.specs.PerNode.{Fact, facts, no_openers, per_node}
use Rattle.graph_laws.specs.PerNodeLaws.{per_node_lem}

-- 1. in form is accepted, as the listing that it is the text of; and whatever is accepted is such a text
pub accepted : (L : Listing) → InForm L → read (listing_text L) ≡ listing L
accepted = in_form_accepted

pub in_form : (t : List ℕ) (L : Listing) → read t ≡ listing L → InForm L × (t ≡ listing_text L)
in_form = accepted_in_form

-- what it means is that listing with its names cut, which is in form too; cutting twice is cutting once (document 02, L2)
pub means : (W : Listing) → InForm W → meant (listing_text W) ≡ listing (cut_listing W)
means W h = meant_listing (listing_text W) W (accepted W h)

pub meant_of : (t : List ℕ) (L : Listing) → meant t ≡ listing L → (W : Listing) × InForm W × (t ≡ listing_text W) × (L ≡ cut_listing W)
meant_of t L e = let w = meant-written t L e in let f = in_form t w.written w.reads in (w.written, f.0, f.1, w.cut)

pub cut_listing_lem : (L : Listing) → (InForm L → InForm (cut_listing L)) × (cut_listing (cut_listing L) ≡ cut_listing L)
cut_listing_lem L = (cut_in_form L, listing_again L)

-- 2. a refused build has one of the numbers 1 to 8, 21, 22 and 23
pub numbers : (c : Capacity) (t : List ℕ) (n p : ℕ) → build c t ≡ refused n p → BuildNumber InputNumber n
numbers = build_number

-- 3. ids are nodes, no list has a duplicate, predecessors are exactly the inverse, ascending
pub lists_are_ok : (L : Listing) → ListsOk L
lists_are_ok = lists_ok

-- 4. demand 3, both sentences, of the lists that the rules give: whether the listing's graph is written or refused
pub demand_three : (L : Listing) → L.handlers ≡ false → Demand3 L (successors L)
demand_three = demand3

-- 5. the list of a node that is no RETURN, from what it met on the stacks, is the list that the rules give

-- the facts of a listing's nodes: what each meets on the stacks
unfoldable pub facts_of : Listing → List Fact
facts_of L = facts 0 (wire L).nodes no_openers

pub lists_per_node : (L : Listing) (i : ℕ) (f : Fact) → get_elem? (facts_of L) i ≡ some f
    → base (wire L) i ≡ add_all [] (per_node (wire L).entries (dispatch_targets (wire L).nodes) (facts_of L) i f)
unfolding base facts_of wire
lists_per_node L i f h = ap (add_all []) (per_node_lem (wire L).entries (wire L).nodes i f h)
