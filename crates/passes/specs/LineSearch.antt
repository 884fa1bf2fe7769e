-- The search for a line by its number, and its entry. Assumes nothing.
use Rattle.std.specs.Prelude.{ℕ, zero, suc, ◌+◌, ◌-◌, ◌*◌, ◌<◌, ◌≤◌, ◌≡◌, refl, List, [], ◌∷◌, ◌++◌, Bool, true, false, eqb, length, get_or, replicate}
use Rattle.std.proofs.Common.{ap, sym, ◌∙◌, ⊎_elim, arith, add-one, sub-one, eq-eqb, ne_eqb, length-append}
use Rattle.std.proofs.Math.Option.{Option, none}
use Rattle.std.proofs.Math.ListN.{get_or-append, get_or-eq_default}
use Rattle.listings.specs.Bytes.{pick}
use Rattle.listings.specs.Listing.{Lines, nolines, line, total, count}
use Rattle.listings.specs.ListingText.{last_number, Above, LinesOk}
use Rattle.listings.specs.Records.{line_numbers, padded}
use Rattle.passes.specs.Compare.{lt-or}
use Rattle.graph_laws.specs.Adding.{node_number}
use Rattle.graph.specs.Nodes.{line_entry, LineEntry, Entries, entries_before, entries, entry_in, entry_of}
use Rattle.passes.specs.LineEntries.{entry_pairs, entry_rows, numbers_of, entry_nodes, entries-length, number_column, node_column}
use Rattle.tables.specs.EntryRows.{entry_column, column_length, column_at}

-- ---- a number in a list

-- one more, where it is not 0
abbrev pub onward : ℕ → ℕ
onward zero = 0
onward (suc k) = suc (suc k)

-- one more than the first place of n, or 0
unfoldable pub place_of : ℕ → List ℕ → ℕ
place_of n [] = 0
place_of n (m ∷ l) = pick (eqb m n) 1 (onward (place_of n l))

abbrev pub Ascending : List ℕ → Type 0
Ascending l = (j k : ℕ) → j < k → k < length l → get_or l j 0 < get_or l k 0

pub place_here : (n : ℕ) (l : List ℕ) (k : ℕ) → k < length l → get_or l k 0 ≡ n → ((j : ℕ) → j < k → get_or l j 0 ≡ n → ⊥) → place_of n l ≡ suc k
unfolding place_of
place_here n [] k h e f = absurd (omega arith)
place_here n (m ∷ l) zero h e f = rw (eq-eqb m n e)
place_here n (m ∷ l) (suc k) h e f = rw (ne_eqb m n (f 0 (omega arith)), place_here n l k (omega arith) e (λ j g. f (suc j) (omega arith)))

pub place_none : (n : ℕ) (l : List ℕ) → ((k : ℕ) → k < length l → get_or l k 0 ≡ n → ⊥) → place_of n l ≡ 0
unfolding place_of
place_none n [] f = refl
place_none n (m ∷ l) f = rw (ne_eqb m n (f 0 (omega arith)), place_none n l (λ k h. f (suc k) (omega arith)))

-- ---- the search

-- r: one more than the index in the ascending numbers l, or 0
pub record LineFound (l : List ℕ) (number r : ℕ) : Type 0 where
  pub within : r ≤ length l
  pub found : Ascending l → r ≡ place_of number l

-- the number is at none of the places below low, and at none from high on
pub record Narrowed (l : List ℕ) (number low high : ℕ) : Type 0 where
  pub below : (k : ℕ) → k < low → get_or l k 0 < number
  pub above : (k : ℕ) → high ≤ k → k < length l → number < get_or l k 0

module _ (l : List ℕ) (number : ℕ) where
  pub narrow_start : (n : ℕ) → length l ≡ n → Narrowed l number 0 n
  narrow_start n e = record { below = λ k h. absurd (omega arith); above = λ k h g. absurd (omega arith) }

  -- x: what stands in the middle
  module _ (low high mid : ℕ) (lm : low ≤ mid) (mh : mid < high) (hn : high ≤ length l) (x : ℕ) (at : get_or l mid 0 ≡ x) where
    pub line_here : x ≡ number → LineFound l number (mid + 1)
    line_here e =
        record {
          within = omega arith;
          found = λ a. add-one mid ∙ sym (place_here number l mid (omega arith) (at ∙ e) (λ j h q. absurd (omega (arith, a j mid h (omega arith), at, e, q))));
        }

    pub narrow_low : Ascending l → x < number → Narrowed l number low high → Narrowed l number (mid + 1) high
    narrow_low a e w =
        record {
          below = λ k h. ⊎_elim (λ (g : k < mid). omega (arith, a k mid g (omega arith), at)) (λ (g : mid ≤ k). let q : k ≡ mid = omega arith in rw q (omega (arith, at))) (lt-or k mid);
          above = w.above;
        }

    pub narrow_high : Ascending l → (x ≡ number → ⊥) → number ≤ x → Narrowed l number low high → Narrowed l number low mid
    narrow_high a ne e w =
        record {
          below = w.below;
          above = λ k h g. ⊎_elim (λ (m : mid < k). omega (arith, a mid k m g, at)) (λ (m : k ≤ mid). let q : k ≡ mid = omega arith in rw q (omega (arith, at, ne))) (lt-or mid k);
        }

  pub line_none : (low high : ℕ) → high ≤ low → (Ascending l → Narrowed l number low high) → LineFound l number 0
  line_none low high h w =
      record {
        within = omega arith;
        found = λ a. sym (place_none number l
            (λ k g e. ⊎_elim (λ (m : k < low). omega (arith, (w a).below k m, e)) (λ (m : low ≤ k). omega (arith, (w a).above k (omega arith) g, e)) (lt-or k low)));
      }

-- ---- the entry

-- the table lists the rows of es, k of them: "entries ascending by line number"
pub record EntryTable (es : Entries) (entries : List ℕ) (k : ℕ) : Type 0 where
  pub counted : k ≡ length es.rows
  pub ascends : Ascending (numbers_of es.rows)
  pub small : (i : ℕ) → get_or (numbers_of es.rows) i 0 ≤ 65535
  pub rest : List ℕ
  pub listed : entries ≡ entry_pairs es.rows ++ rest

-- its columns
module _ {es : Entries} {entries : List ℕ} {k : ℕ} (t : EntryTable es entries k) where
  pub table-numbers : entry_column 0 k entries ≡ numbers_of es.rows
  table-numbers = ap (entry_column 0 k) t.listed ∙ number_column es.rows t.rest k t.counted

  pub table-nodes : entry_column 1 k entries ≡ entry_nodes es.rows
  table-nodes = ap (entry_column 1 k) t.listed ∙ node_column es.rows t.rest k t.counted

abbrev pub EntryFound : (entries : List ℕ) (n number r : ℕ) → Type 0
EntryFound entries n number r = (es : Entries) → EntryTable es entries n → r ≡ node_number (entry_of es number)

-- what the search for a number tells of its entry
abbrev By : ℕ → List LineEntry → ℕ → Type 0
By number es zero = ◌≡◌ {A = ℕ} 0 (node_number (entry_in es number))
By number es (suc k) = (k < length es) × (get_or (entry_nodes es) k 0 ≡ node_number (entry_in es number))

by_onward : (number : ℕ) (d : LineEntry) (es : List LineEntry) (p : ℕ) → eqb d.0 number ≡ false → By number es p → By number (d ∷ es) (onward p)
unfolding entry_in entry_nodes
by_onward number d es zero e b = rw e b
by_onward number d es (suc k) e b = (omega (arith, b.0), rw e b.1)

by_place : (number : ℕ) (es : List LineEntry) → By number es (place_of number (numbers_of es))
unfolding place_of numbers_of entry_in entry_nodes
by_place number [] = refl
by_place number (d ∷ es) = go (eqb d.0 number) refl (by_place number es)
  where
    go : (x : Bool) → eqb d.0 number ≡ x → By number es (place_of number (numbers_of es)) → By number (d ∷ es) (pick x 1 (onward (place_of number (numbers_of es))))
    go true e b = (omega arith, rw e)
    go false e b = by_onward number d es (place_of number (numbers_of es)) e b

module _ (entries : List ℕ) (n number r : ℕ) (f : LineFound (entry_column 0 n entries) number r) where
  pub found_within : r ≤ n
  found_within = omega (arith, f.within, column_length 0 n entries)

  place : (es : Entries) → EntryTable es entries n → By number es.rows r
  place es t =
      let ds = es.rows in
      let p : r ≡ place_of number (numbers_of ds) = f.found (rw (table-numbers t) t.ascends) ∙ ap (place_of number) (table-numbers t) in
      rw p (by_place number ds)

  no_entry : (x : ℕ) → x ≡ 0 → (es : List LineEntry) → By number es x → ◌≡◌ {A = ℕ} 0 (node_number (entry_in es number))
  no_entry zero z es b = b
  no_entry (suc x) z es b = absurd (omega arith)

  pub entry_none : r ≡ 0 → EntryFound entries n number 0
  entry_none z es t = no_entry r z es.rows (place es t)

  one_entry : (x : ℕ) → (x ≡ 0 → ⊥) → x ≤ n → (es : Entries) → By number es.rows x → EntryTable es entries n → get_or entries ((x - 1) * 2 + 1) 0 ≡ node_number (entry_of es number)
  one_entry zero z h es b t = absurd (z refl)
  one_entry (suc x) z h es b t =
      rw (sub-one (suc x)) (sym (column_at 1 n entries x h) ∙ ap (λ (l : List ℕ). get_or l x 0) (table-nodes t) ∙ b.1)

  pub entry_some : (r ≡ 0 → ⊥) → EntryFound entries n number (get_or entries ((r - 1) * 2 + 1) 0)
  entry_some z es t = one_entry r z found_within es (place es t) t

-- ---- the entries of a listing in form

numbers_snoc : (es : List LineEntry) (d : LineEntry) → numbers_of (es ++ (d ∷ [])) ≡ numbers_of es ++ (d.0 ∷ [])
unfolding numbers_of
numbers_snoc [] d = refl
numbers_snoc (c ∷ es) d = ap (λ (l : List ℕ). c.0 ∷ l) (numbers_snoc es d)

numbers_of_lem : (e : Option ℕ) (ls : Lines) → numbers_of (entries_before e ls) ≡ line_numbers ls
unfolding entries_before line_numbers numbers_of
numbers_of_lem e nolines = refl
numbers_of_lem e (line ls n s) =
    let d = line_entry (total ls) s e in
    numbers_snoc (entries_before d ls) (n, d) ∙ ap (λ (l : List ℕ). l ++ (n ∷ [])) (numbers_of_lem d ls)

-- a place in a list with one more: before the last, or the last
in_snoc : (P : ℕ → Type 0) (l : List ℕ) (n k : ℕ) → k < length (l ++ (n ∷ [])) → (k < length l → P (get_or l k 0)) → P n → P (get_or (l ++ (n ∷ [])) k 0)
in_snoc P [] n zero h f p = p
in_snoc P [] n (suc k) h f p = absurd (omega arith)
in_snoc P (m ∷ l) n zero h f p = f (omega arith)
in_snoc P (m ∷ l) n (suc k) h f p = in_snoc P l n k (omega arith) (λ g. f (omega arith)) p

numbers-below : (ls : Lines) (n : ℕ) → LinesOk ls → Above n (last_number ls) → (k : ℕ) → k < length (line_numbers ls) → get_or (line_numbers ls) k 0 < n
unfolding LinesOk last_number Above line_numbers
numbers-below nolines n ok a k h = absurd (omega arith)
numbers-below (line ls m s) n ok a k h =
    in_snoc (λ (x : ℕ). x < n) (line_numbers ls) m k h (λ g. omega (arith, numbers-below ls m ok.0 ok.2 k g)) a

numbers_ascend : (ls : Lines) → LinesOk ls → Ascending (line_numbers ls)
unfolding LinesOk line_numbers
numbers_ascend nolines ok j k h g = absurd (omega arith)
numbers_ascend (line ls m s) ok j k h g =
    let l = line_numbers ls in
    let q : k < suc (length l) = omega (arith, length-append l (m ∷ [])) in
    let e : get_or (l ++ (m ∷ [])) j 0 ≡ get_or l j 0 = get_or-append l (m ∷ []) 0 j (omega arith) in
    rw e (in_snoc (λ (x : ℕ). get_or l j 0 < x) l m k g (λ i. numbers_ascend ls ok.0 j k h i) (numbers-below ls m ok.0 ok.2 j (omega arith)))

numbers_small : (ls : Lines) → LinesOk ls → (k : ℕ) → get_or (line_numbers ls) k 0 ≤ 65535
unfolding LinesOk line_numbers
numbers_small nolines ok zero = omega arith
numbers_small nolines ok (suc k) = omega arith
numbers_small (line ls m s) ok k =
    ⊎_elim (λ (h : k < length (line_numbers ls ++ (m ∷ []))). in_snoc (λ (x : ℕ). x ≤ 65535) (line_numbers ls) m k h (λ g. numbers_small ls ok.0 k) ok.1)
    (λ (h : length (line_numbers ls ++ (m ∷ [])) ≤ k). rw (get_or-eq_default (line_numbers ls ++ (m ∷ [])) 0 {n = k} h) (omega arith))
    (lt-or k (length (line_numbers ls ++ (m ∷ []))))

-- the table that holds a listing's line entries
pub entry_table : (ls : Lines) (m : ℕ) (table : List ℕ) → LinesOk ls → table ≡ padded m (entry_rows ls) → EntryTable (entries ls) table (count ls)
unfolding entry_rows entries padded
entry_table ls m table ok e =
    let q : numbers_of (entries_before none ls) ≡ line_numbers ls = numbers_of_lem none ls in
    record { counted = sym (entries-length none ls); ascends = rw q (numbers_ascend ls ok); small = rw q (numbers_small ls ok); rest = replicate (m - length (entry_rows ls)) 0; listed = e }
