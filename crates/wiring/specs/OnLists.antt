-- What is said of a part and how full it is, of the list of nodes that holds both. Assumes nothing.
use Rattle.std.specs.Prelude.{ℕ, zero, suc, ◌+◌, ◌*◌, ◌<◌, Bool, List, length, get_or}
use Rattle.listings.specs.Every.{All, all[]}
use Rattle.graph_laws.specs.Adding.{Added}
use Rattle.passes.specs.Closing.{FitsPart, fall_by, fall_from, FallFitsFrom, ElsesAdded, DoifAdded, closer_from, CloserFits, ClosingAdded}
use Rattle.passes.specs.EntryOrder.{EntryAdded}
use Rattle.passes.specs.ReturnTargets.{TargetsAdded, TargetsListed}
use Rattle.passes.specs.FitLaws.{decode-below, fits_grown, fits_after}
use Rattle.storing.specs.declared.growing.NodeList.{NodeList}
use Rattle.storing.specs.NodeLists.{AddedTo, Became, grew_within}
use Rattle.wiring.specs.declared.leads.Leads.{Leads}

-- a list of distinct ids, whose part is as long as there are ids
abbrev pub Fits : NodeList → Type 0
Fits p = FitsPart p.part.now p.n

-- ---- what later nodes add, and the list still fits

abbrev pub FallMade : (falls : List ℕ) (c : ℕ) → (p p' : NodeList) → Type 0
FallMade falls c p p' = Became p p' (λ (a : List ℕ) (n : ℕ) (b : List ℕ) (r : ℕ). Added a n b r (fall_from falls c) × FitsPart b r)

abbrev pub ElsesMade : (falls frames : List ℕ) (first : ℕ) → (p p' : NodeList) → Type 0
ElsesMade falls frames first p p' = Became p p' (λ (a : List ℕ) (n : ℕ) (b : List ℕ) (r : ℕ). ElsesAdded falls frames first a n b r × FitsPart b r)

abbrev pub DoifMade : (falls frames : List ℕ) (i : ℕ) → (p p' : NodeList) → Type 0
DoifMade falls frames i p p' = Became p p' (λ (a : List ℕ) (n : ℕ) (b : List ℕ) (r : ℕ). DoifAdded falls frames i a n b r × FitsPart b r)

abbrev pub CloserMade : (falls frames : List ℕ) (met : ℕ) → (p p' : NodeList) → Type 0
CloserMade falls frames met p p' = Became p p' (λ (a : List ℕ) (n : ℕ) (b : List ℕ) (r : ℕ). Added a n b r (closer_from falls frames met) × FitsPart b r)

abbrev pub ClosingMade : (stmts falls frames : List ℕ) (i : ℕ) → (p p' : NodeList) → Type 0
ClosingMade stmts falls frames i p p' = Became p p' (λ (a : List ℕ) (n : ℕ) (b : List ℕ) (r : ℕ). ClosingAdded stmts falls frames i a n b r × FitsPart b r)

fall-below : (falls : List ℕ) (m c : ℕ) → FallFitsFrom falls m c → All (λ (a : ℕ). a < m) (fall_from falls c)
unfolding fall_from fall_by
fall-below falls m zero f = all[]
fall-below falls m (suc j) f = decode-below m (get_or falls (j * 3) 0) f.1

-- ids of these nodes
ids_made : {l : List ℕ} {p p' : NodeList} → Fits p → All (λ (a : ℕ). a < length p.part.now) l → AddedTo p p' l
    → Became p p' (λ (a : List ℕ) (n : ℕ) (b : List ℕ) (r : ℕ). Added a n b r l × FitsPart b r)
ids_made {l} {p} {p'} f i a =
    let g = grew_within record { nodes = length p.part.now; grown = fits_grown p.part.now p.n f; ids = i } a in
    record { same_reference = g.same_reference; size = g.size; is = (g.grows.added, fits_after p.part.now p'.part.now p.n p'.n l f i g.size g.grows) }

pub fall_made : (falls : List ℕ) (c : ℕ) {p p' : NodeList} → Fits p → FallFitsFrom falls (length p.part.now) c → AddedTo p p' (fall_from falls c) → FallMade falls c p p'
fall_made falls c f h a = ids_made f (fall-below falls _ c h) a

closer-below : (falls frames : List ℕ) (m x : ℕ) → CloserFits falls frames m x → All (λ (a : ℕ). a < m) (closer_from falls frames x)
unfolding closer_from
closer-below falls frames m zero h = all[]
closer-below falls frames m (suc o) h = fall-below falls m (get_or frames (o * 3 + 1) 0) h.1

pub closer_made : (falls frames : List ℕ) (x : ℕ) {p p' : NodeList} → Fits p → CloserFits falls frames (length p.part.now) x → AddedTo p p' (closer_from falls frames x) → CloserMade falls frames x p p'
closer_made falls frames x f h a = ids_made f (closer-below falls frames _ x h) a

-- ---- return targets, with the marks of those that are listed

abbrev pub TargetsPut : (l : List ℕ) (marks : List Bool) → (p p' : NodeList) → Type 0
TargetsPut l marks p p' = Became p p' (λ (a : List ℕ) (n : ℕ) (b : List ℕ) (r : ℕ). TargetsAdded 4096 l a n marks b r)

-- on a list without nodes
abbrev pub TargetsMade : Leads → (p p' : NodeList) → Type 0
TargetsMade g p p' = Became p p' (λ (a : List ℕ) (n : ℕ) (b : List ℕ) (r : ℕ). TargetsListed g.nodes.records.stmts.now g.nodes.falls.now g.nodes.records.n a b r)

-- ---- a line's entry

abbrev pub EntryMade : (e : ℕ) → (p p' : NodeList) → Type 0
EntryMade e p p' = Became p p' (λ (a : List ℕ) (n : ℕ) (b : List ℕ) (r : ℕ). EntryAdded a n e b r)
