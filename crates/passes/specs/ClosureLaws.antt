-- Laws of the closure: ways below a node, one row, one round, all rounds. Assumes nothing.
use Rattle.std.specs.Prelude.{◌≡◌, refl, ◌⊎◌, ◌↔◌, ℕ, suc, ◌+◌, ◌*◌, ◌/◌, ◌≤◌, ◌<◌, length, get_or, take, drop, replicate}
use Rattle.std.proofs.Common.{sym, ap, subst, ◌∙◌, inl, inr, add-one, arith, take-suc, length-take-le, get_or-take, ext_get_or}
use mathlib.Core.List.Memᴰ
use mathlib.Core.List.{List, [], ◌∷◌, ◌++◌, Memᴰ}
use Rattle.std.specs.Int.Bits.{bit_or, or_zero_l}
use Rattle.std.proofs.lemmas.List.{length-replicate}
use Rattle.listings.specs.WordTable.{zeros}
use Rattle.passes.specs.Compare.{eq-or, lt-or}
use Rattle.graph_laws.specs.EdgeBounds.{Ids}
use Rattle.graph.specs.Reach.{Reach, here, on}
use Rattle.graph_laws.specs.ReachLaws.{Reach·join}
use Rattle.passes.specs.Sets.{In, inserted, joined, members_of}
use Rattle.passes.specs.SetLaws.{none_in, in_inserted, inserted-length, joined_at, joined_length, in_joined, members_in}
use Rattle.passes.specs.ReturnSets.{set_of}
use Rattle.layout.specs.Layout.{return_word}
use Rattle.passes.specs.ReturnSetLaws.{row_length, row_same, row_part, row_put}
use Rattle.passes.specs.WalkLaws.{id_at}
use Rattle.passes.specs.Closure.{Leads, RowsClosed, StepsBelow, Closed, RowIs, Way, one, more, RowJoined, RowsJoined, ClosedTo, OthersClosed, RowReached, RowListed}

-- ---- ways

module _ (step : ℕ → List ℕ) where
  way_grows : {k a b : ℕ} (m : ℕ) → k ≤ m → Way step k a b → Way step m a b
  way_grows m h (one i) = one i
  way_grows m h (more w lt i) = more (way_grows m h w) (omega arith) i

  way_join : {k a b c : ℕ} → Way step k a b → b < k → Way step k b c → Way step k a c
  way_join w h (one i) = more w h i
  way_join w h (more v lt i) = more (way_join w h v) lt i

  -- without a node between its ends
  way_zero : {a b : ℕ} → Way step 0 a b → Memᴰ b (step a)
  way_zero (one i) = i
  way_zero (more w lt i) = absurd (omega arith)

  -- by way of node k, at most once
  way_split : {k a b : ℕ} → Way step (suc k) a b → Way step k a b ⊎ (Way step k a k × Way step k k b)
  way_split (one i) = inl (one i)
  way_split {k} {a} (more {b} {c} w lt i) =
      elim (eq-or b k) [
        | inl e ↦
            let v : Way step k a k ⊎ (Way step k a k × Way step k k k) = subst (λ (x : ℕ). Way step k a x ⊎ (Way step k a k × Way step k k x)) e (way_split w) in
            inr (elim v [ inl p ↦ p | inr p ↦ p.0 ], one (subst (λ (x : ℕ). Memᴰ c (step x)) e i))
        | inr ne ↦
            let h : b < k = omega arith in
            elim (way_split w) [ inl p ↦ inl (more p h i) | inr p ↦ inr (p.0, more p.1 h i) ]
      ]

  way_next : {k a b : ℕ} → Way step k a b ⊎ (Way step k a k × Way step k k b) → Way step (suc k) a b
  way_next {k} (inl w) = way_grows (suc k) (omega arith) w
  way_next {k} (inr w) = way_join (way_grows (suc k) (omega arith) w.0) (omega arith) (way_grows (suc k) (omega arith) w.1)

  way_leads : {k a b : ℕ} → Way step k a b → Leads step a b
  way_leads {b = b} (one i) = record { next = b; stepped = i; reach = here }
  way_leads (more w lt i) = let l = way_leads w in record { next = l.next; stepped = l.stepped; reach = on l.reach i }

  -- where only nodes below n take steps, every way is one below n
  module _ (n : ℕ) (none : StepsBelow n step) where
    steps_in : (b c : ℕ) → Memᴰ c (step b) → b < n
    steps_in b c m = elim (lt-or b n) [ inl h ↦ h | inr h ↦ absurd (Memᴰ.not-nil (subst (Memᴰ c) (none b h) m)) ]

    reach_way : {a b c : ℕ} → Memᴰ b (step a) → Reach step b c → Way step n a c
    reach_way i here = one i
    reach_way i (on {b = v} {c = u} r m) = more (reach_way i r) (steps_in v u m) m

-- ---- rows

-- a row joined into an empty one is copied
pub row_copied : (empty row row' : List ℕ) → empty ≡ replicate 64 0 → length row ≡ 64 → row' ≡ joined empty row → row' ≡ row
row_copied empty row row' ez lr e =
    let lz : length empty ≡ 64 = ap length ez ∙ length-replicate {A = ℕ} 64 0 in
    let lj = joined_length empty row in
    e ∙ ext_get_or 0 (joined empty row) row (lj ∙ lz ∙ sym lr) (λ q h.
    joined_at empty row q (omega arith) ∙ ap (λ (l : List ℕ). bit_or (get_or l q 0) (get_or row q 0)) ez
    ∙ ap (λ (x : ℕ). bit_or x (get_or row q 0)) (zeros 64 q) ∙ or_zero_l (get_or row q 0))

-- ---- a list as a row

pub row_none : (row : List ℕ) (k : ℕ) → row ≡ replicate k 0 → k ≡ 64 → RowIs [] row
row_none row k e l =
    record {
      size = ap length e ∙ length-replicate {A = ℕ} k 0 ∙ l;
      nodes = λ j. (λ x. absurd (none_in k j (subst (λ (y : List ℕ). In y j) e x)), λ m. absurd (Memᴰ.not-nil m));
    }

pub row_more : (row list : List ℕ) (k x : ℕ) → k < length list → x ≡ get_or list k 0 → x < 4096 → RowIs (take k list) row → RowIs (take (k + 1) list) (inserted row x)
row_more row list k x h ex lt s =
    let e : take (k + 1) list ≡ take k list ++ (x ∷ []) = rw (add-one k, take-suc list k 0 h, ex) in
    rw e
    (record {
      size = inserted-length row x ∙ s.size;
      nodes = λ j.
          let u = in_inserted row x j (omega (arith, s.size)) in (
            λ i. elim (u.0 i) [ inl q ↦ Memᴰ.append_right (take k list) (Memᴰ.head q) | inr q ↦ Memᴰ.append_left (x ∷ []) ((s.nodes j).0 q) ],
            λ m.
                u.1
                (elim (Memᴰ.append_cases (take k list) m) [
                  | inl i ↦ inr ((s.nodes j).1 i)
                  | inr i ↦ elim (Memᴰ.cases_cons i) [ inl q ↦ inl q | inr z ↦ absurd (Memᴰ.not-nil z) ]
                ]),
          );
    })

-- an id of the list
pub row_id : (list : List ℕ) (count k : ℕ) → Ids 4096 (take count list) → k < count → count ≤ length list → get_or list k 0 < 4096
row_id list count k ids h le =
    let q = id_at 4096 (take count list) k ids (omega (arith, length-take-le count list le)) in
    rw (get_or-take count list k 0 h) at q

-- ---- one row

module _ (k : ℕ) (set : List ℕ) where
  pub row_kept : (i : ℕ) (rows : List ℕ) → (In (set_of rows i) k → ⊥) → RowJoined k set i rows rows
  row_kept i rows ne =
      record {
        size = refl;
        here = λ j. (λ e. inl e, elim [ inl e ↦ e | inr e ↦ absurd (ne e.0) ]);
        others = λ e q. refl;
      }

  -- as code lends the row
  pub row_joined : (i p : ℕ) (rows row : List ℕ) → In (set_of rows i) k → length set ≡ 64 → p ≡ 64 → i * 64 + 64 ≤ length rows → row ≡ joined (take p (drop (i * 64) rows)) set
      → RowJoined k set i rows (take (i * 64) rows ++ (row ++ drop p (drop (i * 64) rows)))
  row_joined i p rows row has ls ep fits er =
      let lr = row_length rows i fits in
      let e : row ≡ joined (set_of rows i) set = er ∙ ap (λ (x : List ℕ). joined x set) (row_part rows i p ep) in
      let t = row_put i p row rows ep (ap length e ∙ joined_length (set_of rows i) set ∙ lr) fits in
      let q = t.here ∙ e in
      record {
        size = t.size;
        here = λ j.
            let u = in_joined (set_of rows i) set j (ls ∙ sym lr) in (
              λ x. elim (u.0 (rw q at x)) [ inl y ↦ inl y | inr y ↦ inr (has, y) ],
              λ x. rw q (u.1 (elim x [ inl y ↦ inl y | inr y ↦ inr y.1 ])),
            );
        others = t.others;
      }

  -- ---- one round

  pub rows_none : (rows : List ℕ) → RowsJoined k set 0 rows rows
  rows_none rows = record { size = refl; row = λ i h. absurd (omega arith); rest = λ e h. refl }

  pub rows_more : (i : ℕ) (xs ys zs : List ℕ) → i * 64 + 64 ≤ length xs → RowsJoined k set i xs ys → RowJoined k set i ys zs → RowsJoined k set (i + 1) xs zs
  rows_more i xs ys zs fits s t =
      record {
        size = t.size ∙ s.size;
        row = λ a h. go a h (eq-or a i);
        rest = λ e h. t.others e (λ q. omega arith) ∙ s.rest e (omega arith);
      }
    where
      Goal : ℕ → Type 0
      Goal a = (j : ℕ) → In (set_of zs a) j ↔ (In (set_of xs a) j ⊎ (In (set_of xs a) k × In set j))

      go : (a : ℕ) → a < i + 1 → (a ≡ i) ⊎ (a ≡ i → ⊥) → Goal a
      go a h (inl e) =
          let q : set_of ys i ≡ set_of xs i = row_same xs ys i fits s.size (λ e d. s.rest e (omega arith)) in
          subst Goal (sym e) (rw q at t.here)
      go a h (inr ne) =
          let q : set_of zs a ≡ set_of ys a = row_same ys zs a (omega (arith, s.size)) t.size (λ e d. t.others e (λ f. ne (sym d ∙ f))) in
          λ j. rw q (s.row a (omega arith) j)

-- ---- all rounds

pub closed_none : (n : ℕ) (rows : List ℕ) → ClosedTo n 0 rows rows
closed_none n rows =
    record {
      size = refl;
      ways = λ step h i lt j. (λ e. one ((h.row i lt j).0 e), λ w. (h.row i lt j).1 (way_zero step w));
      rest = λ e h. refl;
    }

pub closed_more : (n k : ℕ) (set xs ys zs : List ℕ) → k < n → set ≡ set_of ys k → ClosedTo n k xs ys → RowsJoined k set n ys zs → ClosedTo n (k + 1) xs zs
closed_more n k set xs ys zs lt es s t =
    record {
      size = t.size ∙ s.size;
      ways = λ step h i li j. rw (add-one k) (
        λ e. way_next step (elim ((t.row i li j).0 e) [ inl x ↦ inl ((s.ways step h i li j).0 x) | inr x ↦ inr ((s.ways step h i li k).0 x.0, (s.ways step h k lt j).0 (rw es at x.1)) ]),
        λ w. (t.row i li j).1 (elim (way_split step w) [ inl x ↦ inl ((s.ways step h i li j).1 x) | inr x ↦ inr ((s.ways step h i li k).1 x.0, rw es ((s.ways step h k lt j).1 x.1)) ]),
      );
      rest = λ e h. t.rest e h ∙ s.rest e h;
    }

pub closed_end : (n k : ℕ) (xs ys : List ℕ) → k ≡ n → ClosedTo n k xs ys → Closed n xs ys
closed_end n k xs ys e s =
    record {
      size = s.size;
      closed = λ step b h. record { row = λ i lt j. (λ x. way_leads step ((s.ways step h i lt j).0 x), λ l. (s.ways step h i lt j).1 (rw e (reach_way step n b l.stepped l.reach))) };
      rest = s.rest;
    }

-- ---- a node and its closed row

-- a way is none, or one of one step or more
reach_cases : {step : ℕ → List ℕ} {a b : ℕ} → Reach step a b → (b ≡ a) ⊎ Leads step a b
reach_cases here = inl refl
reach_cases {step} {a} (on {b} {c} r m) =
    elim (reach_cases r) [
      | inl e ↦ inr (record { next = c; stepped = subst (λ (x : ℕ). Memᴰ c (step x)) e m; reach = here })
      | inr l ↦ inr (record { next = l.next; stepped = l.stepped; reach = on l.reach m })
    ]

leads_reach : {step : ℕ → List ℕ} {a b : ℕ} → Leads step a b → Reach step a b
leads_reach l = Reach·join (on here l.stepped) l.reach

pub leads-none : {step : ℕ → List ℕ} {a b : ℕ} → step a ≡ [] → Leads step a b → ⊥
leads-none e l = Memᴰ.not-nil (subst (Memᴰ l.next) e l.stepped)

-- node e alone, where it is a RETURN, or with its row
module _ (e : ℕ) (lt : e < 4096) (none : List ℕ) (en : none ≡ replicate 64 0) (stmts rows : List ℕ) (n : ℕ) (le : e < n) where
  only : (v : ℕ) → In (inserted none e) v ↔ (v ≡ e)
  only v =
      let u = in_inserted none e v (omega (arith, ap length en ∙ length-replicate {A = ℕ} 64 0)) in (
        λ q. elim (u.0 q) [ inl x ↦ x | inr x ↦ absurd (none_in 64 v (rw en at x)) ],
        λ q. u.1 (inl q),
      )

  pub return_reached : (set : List ℕ) → set ≡ inserted none e → get_or stmts (e * 12) 0 ≡ return_word → RowReached stmts rows n e set
  return_reached set es w step s v =
      rw es (
        λ q. let x = (only v).0 q in rw x here,
        λ r. (only v).1 (elim (reach_cases r) [ inl q ↦ q | inr l ↦ absurd (leads-none (s.returning e le w) l) ]),
      )

  pub row_reached : (set root : List ℕ) (k : ℕ) → root ≡ inserted none e → k ≡ 64 → e * 64 + 64 ≤ length rows → set ≡ joined root (take k (drop (e * 64) rows))
      → (get_or stmts (e * 12) 0 ≡ return_word → ⊥) → RowReached stmts rows n e set
  row_reached set root k eo ek fits es w step s v =
      let q : set ≡ joined (inserted none e) (set_of rows e) = es ∙ ap (λ (x : List ℕ). joined x (take k (drop (e * 64) rows))) eo ∙ ap (joined (inserted none e)) (row_part rows e k ek) in
      let u = in_joined (inserted none e) (set_of rows e) v (row_length rows e fits ∙ sym (inserted-length none e ∙ ap length en ∙ length-replicate {A = ℕ} 64 0)) in
      rw q (
        λ x. elim (u.0 x) [ inl y ↦ (let z = (only v).0 y in rw z here) | inr y ↦ leads_reach ((s.row e le w v).0 y) ],
        λ r. u.1 (elim (reach_cases r) [ inl y ↦ inl ((only v).1 y) | inr l ↦ inr ((s.row e le w v).1 l) ]),
      )

-- the members of such a set
pub row_listed : (stmts rows : List ℕ) (n e : ℕ) (set l : List ℕ) → RowReached stmts rows n e set → l ≡ members_of set → RowListed stmts rows n e l
row_listed stmts rows n e set l h q step s =
    rw q (record { sound = λ v m. (h step s v).0 ((members_in set v).0 m); complete = λ v m. (members_in set v).1 ((h step s v).1 m) })

-- ---- rows of RETURNs

-- once the rows are closed
pub others_closed : (step : ℕ → List ℕ) (stmts : List ℕ) (n : ℕ) (rows : List ℕ) → RowsClosed step n rows
    → ((i : ℕ) → i < n → get_or stmts (i * 12) 0 ≡ return_word → step i ≡ []) → OthersClosed step stmts n rows
others_closed step stmts n rows s r = record { returning = r; row = λ i h w. s.row i h }

-- while only the rows of RETURNs change, the others stay closed
pub others_kept : (step : ℕ → List ℕ) (stmts : List ℕ) (n : ℕ) (rows rows' : List ℕ) → n * 64 ≤ length rows → length rows' ≡ length rows
    → ((e : ℕ) → ((e / 64 < n) × (get_or stmts ((e / 64) * 12) 0 ≡ return_word) → ⊥) → get_or rows' e 0 ≡ get_or rows e 0) → OthersClosed step stmts n rows → OthersClosed step stmts n rows'
others_kept step stmts n rows rows' fits l same s =
    record {
      returning = s.returning;
      row = λ i h w j.
          let q : set_of rows' i ≡ set_of rows i = row_same rows rows' i (omega arith) l (λ e d. same e (λ r. w (ap (λ (x : ℕ). get_or stmts (x * 12) 0) (sym d) ∙ r.1))) in
          rw q (s.row i h w j);
    }
