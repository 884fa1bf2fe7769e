-- Laws of filling the rows: a node's steps by its word, one row, one pass, both. Assumes nothing.
use Rattle.std.specs.Prelude.{ℕ, ◌+◌, ◌*◌, ◌/◌, ◌≤◌, ◌<◌, ◌≡◌, Bool, ◌⊎◌, eqb, length, take, drop}
use Rattle.std.proofs.Math.Path.{refl, ap, subst}
use Rattle.std.proofs.Common.{sym, ◌∙◌, inl, inr, arith}
use Rattle.std.proofs.Math.Bool.{true, false}
use mathlib.Core.List.{List, [], ◌++◌}
use borrow.Author.Tests.{eq-eqb, eqb-true}
use Rattle.std.proofs.Math.ListN.{get_or}
use Rattle.listings.specs.Bytes.{pick}
use Rattle.listings.specs.Listing.{Listing}
use Rattle.passes.specs.Compare.{eq-or}
use Rattle.graph_laws.specs.EdgeBounds.{Ids}
use Rattle.graph_laws.specs.Members.{all_map}
use Rattle.graph.specs.Graph.{Wired, wire, skip_steps}
use Rattle.passes.specs.Prepared.{Prepared, KeysKept, Keys, Roles}
use Rattle.tables.specs.Columns.{call_word, word_of}
use Rattle.passes.specs.NodeList.{ListIs, ListMade}
use Rattle.passes.specs.ReturnSets.{set_of}
use Rattle.passes.specs.Closure.{RowIs}
use Rattle.passes.specs.ReturnSetLaws.{row_put, row_same}
use Rattle.passes.specs.FillRows.{SkipReady, SkipMade, Steps, in_pass, passes, RowReady, RowFilled, PassReady, PassFilled, FillReady, RowsFilled}
use Rattle.passes.specs.SkipLists.{skip_ids, skip_list, skip_list_lem}

-- ---- a node's steps by its word

-- a RETURN takes none
pub skip_none : (W : Wired) (stmts falls links : List ℕ) (n i : ℕ) → Roles W stmts falls links n → i < n → get_or stmts (i * 12) 0 ≡ 9 → skip_steps W i ≡ []
unfolding word_of call_word
skip_none W stmts falls links n i r h e = r.skipping i h ∙ rw e

-- the node's list, and then what skipping paths follow of it, at the front of a part
pub skip_made : {stmts args entries falls links frames dispatched : List ℕ} {lines i : ℕ} {part part₁ part₂ : List ℕ} {count r : ℕ} → ListMade stmts args entries falls links frames dispatched lines i part part₁ count
    → ListIs (skip_list stmts falls i (take count part₁)) part₁ part₂ r → SkipMade stmts args entries falls links frames dispatched lines i part part₂ r
skip_made {stmts} {args} {entries} {falls} {links} {frames} {dispatched} {lines} {i} {part} {part₁} {part₂} {count} {r} m k = λ L ks n P R K l h.
    let o = m L ks n P K l h in
    let e : skip_list stmts falls i (take count part₁) ≡ skip_steps (wire L) i = ap (skip_list stmts falls i) o.list ∙ sym (skip_list_lem R i h) in
    record { count = k.count ∙ ap length e; list = k.list ∙ e; size = k.size ∙ o.size; within = omega (arith, k.within, o.size) }

-- ---- a pass

-- nodes by their words
pass_next : (w : ℕ) → in_pass true w ≡ true → w ≡ 14
unfolding in_pass
pass_next w e = go (eqb w 14) refl e
  where
    go : (x : Bool) → eqb w 14 ≡ x → pick x true false ≡ true → w ≡ 14
    go true q f = eqb-true w 14 q
    go false q f = absurd (let z : ◌≡◌ {A = ℕ} 0 1 = cc in omega arith)

pass_other : (w : ℕ) → in_pass false w ≡ true → w ≡ 14 → ⊥
unfolding in_pass
pass_other w e q = let f = rw (eq-eqb w 14 q) at e in let z : ◌≡◌ {A = ℕ} 0 1 = cc in omega arith

-- each node is in one of the passes
pass_cases : (w : ℕ) → (in_pass true w ≡ true) ⊎ (in_pass false w ≡ true)
unfolding in_pass
pass_cases w = go (eqb w 14)
  where
    go : (x : Bool) → (pick x true false ≡ true) ⊎ (pick x false true ≡ true)
    go true = inl refl
    go false = inr refl

pass_one : (w : ℕ) → in_pass true w ≡ true → in_pass false w ≡ true → ⊥
pass_one w p q = pass_other w q (pass_next w p)

clash : {A : Type 0} → false ≡ true → A
clash e = let z : ◌≡◌ {A = ℕ} 0 1 = cc in absurd (omega arith)

-- ---- one row

module _ (stmts args entries falls links frames dispatched : List ℕ) (lines i : ℕ) where
  -- what was listed fits a row
  pub skip_fits : (part part' : List ℕ) (count : ℕ) → SkipReady stmts args entries falls links frames dispatched lines i (length part)
      → SkipMade stmts args entries falls links frames dispatched lines i part part' count → (count ≤ length part') × Ids 4096 (take count part')
  skip_fits part part' count s made =
      let r = s.ready in
      let p = r.prepared in
      let m = made r.listing r.keys₀ r.nodes p s.roles r.kept r.size r.node in
      let few = p.few in
      let is = p.nodes_are in
      (omega (arith, m.within, m.size), rw m.list (all_map (λ a h. omega arith) (skip_ids r.listing i)))

  module _ (nexts : Bool) where
    pub row_left : passes stmts nexts i ≡ false → RowFilled stmts args entries falls links frames dispatched lines i nexts args
    row_left e = record { size = refl; row = λ t. clash (sym e ∙ t); others = λ k q. refl }

    pub row_filled : (part part' row : List ℕ) (count p : ℕ) → passes stmts nexts i ≡ true → p ≡ 64 → i * 64 + 64 ≤ length args
        → SkipMade stmts args entries falls links frames dispatched lines i part part' count → RowIs (take count part') row
        → RowFilled stmts args entries falls links frames dispatched lines i nexts (take (i * 64) args ++ (row ++ drop p (drop (i * 64) args)))
    row_filled part part' row count p t ep fits made s =
        let u = row_put i p row args ep s.size fits in
        let q = u.here in
        record {
          size = u.size;
          row = λ t L ks n P R K l h j.
              let m = (made L ks n P R K l h).list in
              (λ x. rw m at ((s.nodes j).0 (rw q at x)), λ x. rw q ((s.nodes j).1 (rw m x)));
          others = λ e ne. u.others e (λ f. ne f t);
        }

-- ---- one pass

module _ (stmts args entries falls links frames dispatched : List ℕ) (lines n : ℕ) (nexts : Bool) where
  pub pass_none : PassFilled stmts args entries falls links frames dispatched lines n nexts 0 args
  pass_none = record { size = refl; rows = λ L ks P R l q i h. absurd (omega arith); others = λ e q. refl }

  -- the arguments that the list of a NEXT reads are still there
  pass_keys : (k : ℕ) (args₁ ks : List ℕ) → PassFilled stmts args entries falls links frames dispatched lines n nexts k args₁ → (nexts ≡ true → args ≡ ks)
      → passes stmts nexts k ≡ true → Keys stmts ks args₁ k
  unfolding passes
  pass_keys k args₁ ks s same t = go nexts refl
    where
      go : (x : Bool) → nexts ≡ x → get_or stmts (k * 12) 0 ≡ 14 → KeysKept stmts ks args₁ k
      go true e w =
          let q : args ≡ ks = same e in
          record {
            own = λ j h. s.others (k * 64 + j) (λ lt f. omega arith) ∙ ap (λ (l : List ℕ). get_or l (k * 64 + j) 0) q;
            names = λ a v. s.others (a * 64) (λ lt f. not_for a v (a * 64 / 64) (omega arith) f) ∙ ap (λ (l : List ℕ). get_or l (a * 64) 0) q;
          }
        where
          not_for : (a : ℕ) → get_or stmts (a * 12) 0 ≡ 13 → (b : ℕ) → b ≡ a → in_pass nexts (get_or stmts (b * 12) 0) ≡ true → ⊥
          not_for a v b eb f =
              let g : in_pass true (get_or stmts (a * 12) 0) ≡ true = subst (λ (x : ℕ). in_pass true (get_or stmts (x * 12) 0) ≡ true) eb (rw e at f) in
              omega (arith, pass_next (get_or stmts (a * 12) 0) g)
      go false e w = absurd (pass_other (get_or stmts (k * 12) 0) (rw e at t) w)

  pub pass_ready : (k room : ℕ) (args₁ : List ℕ) → k < n → PassReady stmts args entries falls links frames dispatched lines n nexts room
      → PassFilled stmts args entries falls links frames dispatched lines n nexts k args₁ → RowReady stmts args₁ entries falls links frames dispatched lines k nexts room
  pass_ready k room args₁ h r s =
      let p = r.prepared in
      record {
        few = omega (arith, p.few);
        within = omega (arith, p.stmts_fit);
        fits = omega (arith, p.args_fit, r.size, s.size);
        skips = λ t.
            record {
              ready = record {
                listing = r.listing;
                keys₀ = r.keys₀;
                nodes = n;
                prepared = p;
                kept = pass_keys k args₁ r.keys₀ s r.names t;
                size = s.size ∙ r.size;
                node = h;
                room = r.room_for;
              };
              roles = r.roles;
            };
      }

  pub pass_more : (k : ℕ) (args₁ args₂ : List ℕ) → k < n → PassFilled stmts args entries falls links frames dispatched lines n nexts k args₁
      → RowFilled stmts args₁ entries falls links frames dispatched lines k nexts args₂ → PassFilled stmts args entries falls links frames dispatched lines n nexts (k + 1) args₂
  pass_more k args₁ args₂ h s t =
      record {
        size = t.size ∙ s.size;
        rows = λ L ks P R l q i lt li p. go L ks P R l q i lt li p (eq-or i k);
        others = λ e ne. t.others e (λ f g. ne (omega arith) (subst (λ (x : ℕ). passes stmts nexts x ≡ true) (sym f) g)) ∙ s.others e (λ lt g. ne (omega arith) g);
      }
    where
      go : (L : Listing) (ks : List ℕ) → Prepared L stmts ks entries falls links frames dispatched lines n → Roles (wire L) stmts falls links n → length args ≡ length ks
          → (nexts ≡ true → args ≡ ks) → (i : ℕ) → i < k + 1 → i < n → passes stmts nexts i ≡ true → (i ≡ k) ⊎ (i ≡ k → ⊥) → Steps L args₂ i
      go L ks P R l q i lt li p (inl e) =
          let p' = subst (λ (x : ℕ). passes stmts nexts x ≡ true) e p in
          subst (Steps L args₂) (sym e) (t.row p' L ks n P R (pass_keys k args₁ ks s q p') (s.size ∙ l) h)
      go L ks P R l q i lt li p (inr ne) =
          let same : set_of args₂ i ≡ set_of args₁ i = row_same args₁ args₂ i (omega (arith, P.args_fit, s.size)) t.size (λ e f. t.others e (λ g z. ne (sym f ∙ g))) in
          λ j. rw same (s.rows L ks P R l q i (omega arith) li p j)

-- ---- both passes

module _ (stmts args entries falls links frames dispatched : List ℕ) (lines n : ℕ) where
  pub first_ready : (room : ℕ) → FillReady stmts args entries falls links frames dispatched lines n room
      → PassReady stmts args entries falls links frames dispatched lines n true room
  first_ready room r =
      record { listing = r.listing; keys₀ = args; prepared = r.prepared; roles = r.roles; size = refl; names = λ e. refl; room_for = r.room_for }

  module _ (args₁ : List ℕ) (s : PassFilled stmts args entries falls links frames dispatched lines n true n args₁) where
    pub second_ready : (room : ℕ) → FillReady stmts args entries falls links frames dispatched lines n room
        → PassReady stmts args₁ entries falls links frames dispatched lines n false room
    second_ready room r =
        record { listing = r.listing; keys₀ = args; prepared = r.prepared; roles = r.roles; size = s.size; names = λ e. clash e; room_for = r.room_for }

    pub rows_filled : (args₂ : List ℕ) → PassFilled stmts args₁ entries falls links frames dispatched lines n false n args₂
        → RowsFilled stmts args entries falls links frames dispatched lines n args₂
    unfolding passes
    rows_filled args₂ t =
        record {
          size = t.size ∙ s.size;
          rows = λ L P R.
              record {
                row = λ i h. go L P R i h (pass_cases (get_or stmts (i * 12) 0));
              };
        }
      where
        go : (L : Listing) → Prepared L stmts args entries falls links frames dispatched lines n → Roles (wire L) stmts falls links n → (i : ℕ) → i < n
            → (passes stmts true i ≡ true) ⊎ (passes stmts false i ≡ true) → Steps L args₂ i
        go L P R i h (inl p) =
            let same : set_of args₂ i ≡ set_of args₁ i = row_same args₁ args₂ i (omega (arith, P.args_fit, s.size)) t.size (λ e f. t.others e (λ lt z. pass_one (get_or stmts (i * 12) 0) p (subst (λ (x : ℕ). passes stmts false x ≡ true) f z))) in
            λ j. rw same (s.rows L args P R refl (λ e. refl) i h h p j)
        go L P R i h (inr p) = t.rows L args P R s.size (λ e. clash e) i h h p
