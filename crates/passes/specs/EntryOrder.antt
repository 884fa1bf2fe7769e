-- The entries of the lines ascend, so that one which is not the last one added is new. Assumes nothing.
use Rattle.std.specs.Prelude.{ℕ, zero, suc, ◌+◌, ◌-◌, ◌≤◌, ◌<◌, ◌≡◌, refl, true, false, List, [], ◌∷◌, ◌++◌, length, get_or, set, take, drop}
use Rattle.std.proofs.Common.{sym, ap, ◌∙◌, append-nil, arith, add-one, length-append, take-append-drop, drop-cons, take-suc-set}
use Rattle.std.proofs.Math.Option.{Option, none, some}
use Rattle.std.proofs.Math.Seq.{get_or-append_seam}
use Rattle.listings.specs.Every.{All, all[], all∷, all_append}
use Rattle.listings.specs.Listing.{Stmts, ∅, ◌▸◌, branching, Lines, nolines, line, size, total}
use Rattle.graph.specs.Lists.{has, each, list}
use Rattle.graph_laws.specs.ListLaws.{has_found, has-none}
use Rattle.graph_laws.specs.Adding.{node_number, decode, decode_number}
use Rattle.graph_laws.specs.Members.{all_map}
use Rattle.graph_laws.specs.EdgeBounds.{Ids}
use Rattle.graph.specs.Nodes.{line_entry, LineEntry, entries_before, entries, first_entry, all_entries}
use Rattle.graph_laws.specs.ForLaws.{each_append}
use Rattle.passes.specs.LineEntries.{entry_nodes, nodes-append}
use Rattle.passes.specs.Growing.{Grows, RoomFor, grows_old, grows_new, all_left, each_on}
use Rattle.passes.specs.NextBodies.{all_get}
use Rattle.passes.specs.AddRoom.{RoomToAdd, room_one, room_each}

-- from an entry a on: none is below the one before it; after a 0 all are 0
pub data Rises : ℕ → List ℕ → Type 0 where
  rises[] : {a : ℕ} → Rises a []
  rises∷ : {a b : ℕ} {l : List ℕ} → a ≤ b → (b ≡ 0 → ⊥) → Rises b l → Rises a (b ∷ l)
  zeros : {a : ℕ} {l : List ℕ} → All (λ (b : ℕ). b ≡ 0) l → Rises a l

-- the entry `last`, if it is not 0, was added, and all that was added is below it
pub record LastAdded (part : List ℕ) (n last : ℕ) : Type 0 where
  pub below : Ids last (take n part)
  pub there : (last ≡ 0 → ⊥) → has (last - 1) (take n part) ≡ true

-- the entry e comes next
pub record EntryRoom (part : List ℕ) (n e last : ℕ) : Type 0 where
  pub added : LastAdded part n last
  pub room : RoomFor part n e
  pub some : e ≡ 0 → ⊥
  pub rises : last ≤ e

pub record EntryAdded (part : List ℕ) (n e : ℕ) (part' : List ℕ) (r : ℕ) : Type 0 where
  pub grows : Grows part n part' r (decode e)
  pub added : LastAdded part' r e

-- ---- one entry

last_found : (l : List ℕ) (a : ℕ) → has a (l ++ (a ∷ [])) ≡ true
last_found l a = has_found a (l ++ (a ∷ [])) (length l) (omega (arith, length-append l (a ∷ []))) (sym (get_or-append_seam l a [] 0))

module _ (p : List ℕ) (n e last : ℕ) (w : EntryRoom p n e last) where
  pub entry_same : e ≡ last → EntryAdded p n e p n
  entry_same q =
      let a : LastAdded p n e = rw q w.added in
      record { grows = grows_old p n e w.some w.room.within (a.there w.some); added = a }

  module _ (d : e ≡ last → ⊥) where
    entry_new : has (e - 1) (take n p) ≡ false
    entry_new = has-none (e - 1) (take n p) (λ j h q. omega (arith, all_get w.added.below j h, w.rises))

    pub entry_fits : n < length p
    entry_fits = w.room.free w.some entry_new

    pub entry_more : (v : ℕ) → v ≡ e - 1 → EntryAdded p n e (set p n v) (n + 1)
    entry_more v q = record {
      grows = grows_new p n e w.some v q entry_fits entry_new;
      added = record {
        below = rw (add-one, take-suc-set p n v entry_fits) (all_append (all_map (λ a h. omega (arith, w.rises)) w.added.below) (all∷ {a = v} (omega (arith, w.some)) all[]));
        there = λ z. rw (add-one, take-suc-set p n v entry_fits, ← q) (last_found (take n p) v);
      };
    }

-- ---- a loop over the entries

rises_on : {a b : ℕ} {l : List ℕ} → Rises a (b ∷ l) → (b ≡ 0 → ⊥) → (a ≤ b) × Rises b l
rises_on (rises∷ h z r) s = (h, r)
rises_on (zeros (all∷ e r)) s = absurd (s e)

no_more : {l : List ℕ} → All (λ (b : ℕ). b ≡ 0) l → each decode l ≡ []
unfolding each
no_more all[] = refl
no_more (all∷ e r) = rw e (no_more r)

rises_end : {a b : ℕ} {l : List ℕ} → Rises a (b ∷ l) → b ≡ 0 → each decode (b ∷ l) ≡ []
rises_end (rises∷ h z r) s = absurd (z s)
rises_end (zeros r) s = no_more r

pub last_start : (part : List ℕ) (n : ℕ) → n ≡ 0 → LastAdded part n 0
last_start part n e = rw e record { below = all[]; there = λ z. absurd (z refl) }

-- e: entry k of the row
module _ (row p q : List ℕ) (n r k last : ℕ) (h : k < length row) (a : Grows p n q r (each decode (take k row))) (t : Rises last (drop k row)) (e : ℕ) (ae : get_or row k 0 ≡ e) where
  here : Rises last (e ∷ drop (suc k) row)
  here = rw ae at (rw (drop-cons row k 0 h) at t)

  pub entry_room : RoomToAdd p n (each decode row) → LastAdded q r last → (e ≡ 0 → ⊥) → EntryRoom q r e last
  entry_room w l s = record { added = l; room = room_one q r e (rw ae at (room_each decode row p n w q r k h a)); some = s; rises = (rises_on here s).0 }

  pub rises_next : (e ≡ 0 → ⊥) → Rises e (drop (k + 1) row)
  rises_next s = rw add-one (rises_on here s).1

  -- it was added
  pub entry_on : (v : List ℕ) (m : ℕ) → Grows q r v m (decode e) → Grows p n v m (each decode (take (k + 1) row))
  entry_on v m g = each_on decode row p n q v r m k h a (rw ae g)

  -- no entry follows
  pub entries_end : e ≡ 0 → Grows p n q r (each decode row)
  entries_end s =
      let z : each decode row ≡ each decode (take k row)
      = ap (each decode) (sym (take-append-drop k row)) ∙ each_append decode (take k row) (drop k row) ∙ ap (λ (l : List ℕ). each decode (take k row) ++ each decode l) (drop-cons row k 0 h)
      ∙ ap (λ (x : ℕ). each decode (take k row) ++ each decode (x ∷ drop (suc k) row)) ae ∙ ap (λ (l : List ℕ). each decode (take k row) ++ l) (rises_end here s) ∙ append-nil (each decode (take k row)) in
      rw z a

-- ---- the entries of a listing's lines do ascend

-- a line's entry before the next line's
pub record Steps (a e : ℕ) : Type 0 where
  pub none : a ≡ 0 → e ≡ 0
  pub up : (e ≡ 0 → ⊥) → a ≤ e

all_last : {P : ℕ → Type 0} (l : List ℕ) (a : ℕ) → All P (l ++ (a ∷ [])) → P a
all_last [] a (all∷ p h) = p
all_last (b ∷ l) a (all∷ p h) = all_last l a h

zeros_snoc : (l : List ℕ) (b e : ℕ) → All (λ (x : ℕ). x ≡ 0) (l ++ (b ∷ [])) → Steps b e → All (λ (x : ℕ). x ≡ 0) ((l ++ (b ∷ [])) ++ (e ∷ []))
zeros_snoc l b e r s = all_append r (all∷ (s.none (all_last l b r)) all[])

rises_one : (a e : ℕ) → ((e ≡ 0 → ⊥) → a ≤ e) → Rises a (e ∷ [])
rises_one a zero h = zeros (all∷ refl all[])
rises_one a (suc e) h = rises∷ (h (λ q. omega arith)) (λ q. omega arith) rises[]

rises_snoc : (l : List ℕ) (a b e : ℕ) → Rises a (l ++ (b ∷ [])) → Steps b e → Rises a ((l ++ (b ∷ [])) ++ (e ∷ []))
rises_snoc [] a b e (rises∷ h z r) s = rises∷ h z (rises_one b e s.up)
rises_snoc [] a b e (zeros r) s = zeros (zeros_snoc [] b e r s)
rises_snoc (x ∷ l) a b e (rises∷ h z r) s = rises∷ h z (rises_snoc l x b e r s)
rises_snoc (x ∷ l) a b e (zeros r) s = zeros (zeros_snoc (x ∷ l) b e r s)

rises_front : (l : List ℕ) (a e : ℕ) → Rises a (l ++ (e ∷ [])) → Rises a l
rises_front [] a e r = rises[]
rises_front (x ∷ l) a e (rises∷ h z r) = rises∷ h z (rises_front l x e r)
rises_front (x ∷ l) a e (zeros r) = zeros (all_left (x ∷ l) (e ∷ []) r)

-- no statement of the lines before is node e or one after it
abbrev AtLeast : ℕ → Option ℕ → Type 0
AtLeast n none = Unit {0}
AtLeast n (some a) = n ≤ a

line_steps : (i : ℕ) (s : Stmts) (e : Option ℕ) → AtLeast (i + size s) e → Steps (node_number (line_entry i s e)) (node_number e)
unfolding line_entry size
line_steps i ∅ e h = record { none = λ q. q; up = λ q. omega arith }
line_steps i (s ▸ o) none h = record { none = λ q. refl; up = λ q. absurd (q refl) }
line_steps i (s ▸ o) (some a) h = record { none = λ q. absurd (omega arith); up = λ q. omega arith }
line_steps i (branching s w t a u b) none h = record { none = λ q. refl; up = λ q. absurd (q refl) }
line_steps i (branching s w t a u b) (some x) h = record { none = λ q. absurd (omega arith); up = λ q. omega arith }

line_least : (i : ℕ) (s : Stmts) (e : Option ℕ) → AtLeast (i + size s) e → AtLeast i (line_entry i s e)
unfolding line_entry size
line_least i ∅ none h = tt
line_least i ∅ (some a) h = omega arith
line_least i (s ▸ o) e h = omega arith
line_least i (branching s w t a u b) e h = omega arith

entries-before : (e : Option ℕ) (ls : Lines) → AtLeast (total ls) e → Rises 0 (entry_nodes (entries_before e ls) ++ (node_number e ∷ []))
unfolding entries_before entry_nodes total
entries-before e nolines h = rises_one 0 (node_number e) (λ q. omega arith)
entries-before e (line ls n s) h =
    let d = line_entry (total ls) s e in
    rw (nodes-append (entries_before d ls) ((n, d) ∷ [])) (rises_snoc (entry_nodes (entries_before d ls)) 0 (node_number d) (node_number e) (entries-before d ls (line_least (total ls) s e h)) (line_steps (total ls) s e h))

pub entries_rise : (ls : Lines) → Rises 0 (entry_nodes (entries ls).rows)
unfolding entries
entries_rise ls = rises_front (entry_nodes (entries_before none ls)) 0 0 (entries-before none ls tt)

-- ---- what they lead to, by the definition

pub all-entries : (es : List LineEntry) → each decode (entry_nodes es) ≡ all_entries es
unfolding entry_nodes all_entries each
all-entries [] = refl
all-entries (d ∷ es) = rw (decode_number d.1, all-entries es)

pub first_entry_lem : (es : List LineEntry) → each decode (take 1 (entry_nodes es)) ≡ list (first_entry es)
unfolding entry_nodes first_entry each list
first_entry_lem [] = refl
first_entry_lem (d ∷ es) = append-nil (decode (node_number d.1)) ∙ decode_number d.1
