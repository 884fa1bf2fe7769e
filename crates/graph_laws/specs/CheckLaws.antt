-- A graph is found right exactly when it is the one that the definition gives. Assumes nothing.
use Rattle.std.specs.Prelude.{ℕ, suc, ◌<◌, ◌≡◌, refl, Bool, true, false, List, [], ◌∷◌, ◌++◌, ◌↔◌, eqb}
use Rattle.std.proofs.Common.{sym, ap, ◌∙◌, arith, eq-eqb}
use Rattle.listings.specs.Bytes.{bytes, same, pick}
use Rattle.listings.specs.Listing.{Listing}
use Rattle.listings.specs.Rows.{on_first, split, all}
use Rattle.listings.specs.Every.{All, all[], all∷}
use Rattle.listing_laws.specs.RowForms.{join, join-split}
use Rattle.listing_laws.specs.WordText.{lacks, same_equal}
use Rattle.graph.specs.Print.{printed}
use Rattle.graph.specs.Build.{Capacity, Built, graph, refused, build}
use Rattle.graph.specs.Check.{Verdict, right, wrong, row_number, compared, against, checked}
use Rattle.graph_laws.specs.Checked.{IsGraphOf}

-- ---- pieces

-- there is a first piece
pub split-first : (s : ℕ) (l : List ℕ) → (w : List ℕ) × (ws : List (List ℕ)) × (split s l ≡ w ∷ ws)
unfolding split on_first
split-first s [] = ([], [], refl)
split-first s (b ∷ l) = go (eqb b s) (split s l)
  where
    go : (x : Bool) (vs : List (List ℕ)) → (w : List ℕ) × (ws : List (List ℕ)) × (pick x ([] ∷ vs) (on_first b vs) ≡ w ∷ ws)
    go true vs = ([], vs, refl)
    go false [] = (b ∷ [], [], refl)
    go false (v ∷ vs) = (b ∷ v, vs, refl)

-- pieces by the byte s lack it
pub split-lacks : (s : ℕ) (l : List ℕ) → All (λ w. lacks s w ≡ true) (split s l)
unfolding split on_first lacks all
split-lacks s [] = all∷ refl all[]
split-lacks s (b ∷ l) = go (eqb b s) refl (split-lacks s l)
  where
    go : (x : Bool) → eqb b s ≡ x → {ws : List (List ℕ)} → All (λ w. lacks s w ≡ true) ws → All (λ w. lacks s w ≡ true) (pick x ([] ∷ ws) (on_first b ws))
    go true e h = all∷ refl h
    go false e all[] = all∷ {a = b ∷ []} (rw e) all[]
    go false e (all∷ {a = w} h hs) = all∷ {a = b ∷ w} (rw (e, h)) hs

-- a text that ends with the byte s has nothing behind the last one
split_end : (s : ℕ) (l : List ℕ) → split s (l ++ (s ∷ [])) ≡ split s l ++ ([] ∷ [])
unfolding split on_first
split_end s [] = rw (eq-eqb s s refl)
split_end s (b ∷ l) = let f = split-first s l in rw (split_end s l, f.2) (go (eqb b s) f.0 f.1)
  where
    go : (x : Bool) (w : List ℕ) (ws : List (List ℕ)) → pick x ([] ∷ w ∷ (ws ++ ([] ∷ []))) ((b ∷ w) ∷ (ws ++ ([] ∷ []))) ≡ pick x ([] ∷ w ∷ ws) ((b ∷ w) ∷ ws) ++ ([] ∷ [])
    go true w ws = refl
    go false w ws = refl

-- the last byte of a text; d if it has none
unfoldable pub last_byte : ℕ → List ℕ → ℕ
last_byte d [] = d
last_byte d (b ∷ l) = last_byte b l

pub last_append : (d : ℕ) (k l : List ℕ) → last_byte d (k ++ l) ≡ last_byte (last_byte d k) l
unfolding last_byte
last_append d [] l = refl
last_append d (b ∷ k) l = last_append b k l

last_is : (b : ℕ) (l : List ℕ) → (k : List ℕ) × (b ∷ l ≡ k ++ (last_byte b l ∷ []))
unfolding last_byte
last_is b [] = ([], refl)
last_is b (c ∷ l) = let r = last_is c l in (b ∷ r.0, ap (λ (z : List ℕ). b ∷ z) r.1)

pub last_piece : (s : ℕ) (l : List ℕ) → 0 < s → last_byte 0 l ≡ s → (rs : List (List ℕ)) × (split s l ≡ rs ++ ([] ∷ [])) × All (λ w. lacks s w ≡ true) rs
unfolding last_byte
last_piece s [] h e = absurd (omega arith)
last_piece s (b ∷ l) h e = let r = last_is b l in (split s r.0, ap (split s) (r.1 ∙ ap (λ (z : ℕ). r.0 ++ (z ∷ [])) e) ∙ split_end s r.0, split-lacks s r.0)

pub printed_last : (L : Listing) → last_byte 0 (printed L) ≡ 10
unfolding printed bytes last_byte
printed_last L = simp last_append

-- what stands between the bytes 10 of a printed graph: its rows, and nothing behind the last
pub printed_pieces : (L : Listing) → (rs : List (List ℕ)) × (split 10 (printed L) ≡ rs ++ ([] ∷ [])) × All (λ w. lacks 10 w ≡ true) rs
printed_pieces L = last_piece 10 (printed L) (omega arith) (printed_last L)

-- ---- the check

pub not_right : {n p : ℕ} {A : Type 0} → wrong n p ≡ right → A
not_right e = absurd (let z : ◌≡◌ {A = ℕ} 0 1 = cc in omega arith)

pub same_refl : (l : List ℕ) → same l l ≡ true
unfolding same
same_refl [] = refl
same_refl (b ∷ l) = rw (eq-eqb b b refl, same_refl l)

-- a row was right, and so were those after it
same-right : (r w : List ℕ) (n p : ℕ) (v : Verdict) → pick (same r w) v (wrong n p) ≡ right → (r ≡ w) × (v ≡ right)
same-right r w n p v e = go (same r w) refl e
  where
    go : (x : Bool) → same r w ≡ x → pick x v (wrong n p) ≡ right → (r ≡ w) × (v ≡ right)
    go true h f = (same_equal r w h, f)
    go false h f = not_right f

compared-right : (i : ℕ) (rs ws : List (List ℕ)) → compared i (rs ++ ([] ∷ [])) ws ≡ right → ws ≡ rs ++ ([] ∷ [])
unfolding compared
compared-right i [] [] e = not_right e
compared-right i (r ∷ rs) [] e = not_right e
compared-right i [] ((b ∷ w) ∷ []) e = not_right e
compared-right i (r ∷ rs) ((b ∷ w) ∷ []) e = not_right e
compared-right i [] ([] ∷ []) e = refl
compared-right i (r ∷ []) ([] ∷ []) e = not_right e
compared-right i (r ∷ q ∷ rs) ([] ∷ []) e = not_right e
compared-right i [] (w ∷ v ∷ ws) e = not_right e
compared-right i (r ∷ []) (w ∷ v ∷ ws) e =
    let p = same-right r w (row_number w) i (compared (suc i) ([] ∷ []) (v ∷ ws)) e in
    let a = p.0 in
    let b = compared-right (suc i) [] (v ∷ ws) p.1 in
    cc
compared-right i (r ∷ q ∷ rs) (w ∷ v ∷ ws) e =
    let p = same-right r w (row_number w) i (compared (suc i) (q ∷ (rs ++ ([] ∷ []))) (v ∷ ws)) e in
    let a = p.0 in
    let b = compared-right (suc i) (q ∷ rs) (v ∷ ws) p.1 in
    cc

right-compared : (i : ℕ) (rs : List (List ℕ)) → compared i (rs ++ ([] ∷ [])) (rs ++ ([] ∷ [])) ≡ right
unfolding compared
right-compared i [] = refl
right-compared i (r ∷ []) = rw (same_refl r)
right-compared i (r ∷ q ∷ rs) = rw (same_refl r) (right-compared (suc i) (q ∷ rs))

-- ---- "accepts exactly when the graph is the one that the definition gives"

pub right_exactly : (c : Capacity) (t g : List ℕ) → (checked c t g ≡ right) ↔ IsGraphOf c t g
unfolding against
right_exactly c t g = (go (build c t) refl, back)
  where
    go : (a : Built) → build c t ≡ a → against a g ≡ right → IsGraphOf c t g
    go (graph L) h e =
        let p = printed_pieces L in
        let q : compared 0 (p.0 ++ ([] ∷ [])) (split 10 g) ≡ right = rw p.1 at e in
        let f = compared-right 0 p.0 (split 10 g) q ∙ sym p.1 in
        record { listing = L; built = h; given = sym (join-split 10 g) ∙ ap (join 10) f ∙ join-split 10 (printed L) }
    go (refused n p) h e = not_right e

    back : IsGraphOf c t g → against (build c t) g ≡ right
    back r =
        let p = printed_pieces r.listing in
        rw (r.built, r.given, p.1) (right-compared 0 p.0)

-- "Both come after all of the listing's refusals": whatever graph is given
pub listing_first : (c : Capacity) (t g : List ℕ) (n p : ℕ) → build c t ≡ refused n p → checked c t g ≡ wrong n p
unfolding against
listing_first c t g n p e = rw e
