-- Comparing byte by byte is comparing row by row. Assumes nothing.
use Rattle.std.specs.Prelude.{ℕ, suc, ◌≡◌, Bool, true, not, eqb, take}
use Rattle.std.proofs.Math.Path.{refl, sym, ap}
use Rattle.std.proofs.Common.{◌∙◌, arith, eq-eqb, eqb-true}
use mathlib.Core.List.{List, [], ◌∷◌, ◌++◌, append_assoc, append-nil}
use Rattle.std.proofs.Math.Bool.{false}
use Rattle.std.proofs.Math.Option.{Option, none, some}
use Rattle.std.proofs.Math.ListN.{length, drop, length-append}
use Rattle.std.proofs.Math.Seq.{take_at, drop_at}
use Rattle.listings.specs.Bytes.{pick}
use Rattle.listings.specs.Bytes as listing
use Rattle.listings.specs.Rows.{split, all}
use Rattle.listings.specs.ListingText.{text_of}
use Rattle.listings.specs.Every.{All, all∷, no_newline}
use Rattle.listing_laws.specs.NumberText.{all-append-true}
use Rattle.listing_laws.specs.WordText.{lacks, same_equal}
use Rattle.listing_laws.specs.RowForms.{split_last, split_next, split_text}
use Rattle.graph.specs.Check.{Left, step, right, wrong, row_number, compared}
use Rattle.graph_laws.specs.CheckLaws.{split-first, same_refl}
use Rattle.comparing.specs.Judging.{Reading, start, opened, lost, beside, chosen, met, met_all, stepped_to, judged}
use Rattle.comparing.specs.Comparing.{Standing, same, differs, ended, begins, rows_number, differing, fed_byte, fed, rows_ended, is_start, nothing, place_at, ruled}

-- ---- pieces fold

pub fed-append : (due : List ℕ) (s : Standing) (g h : List ℕ) → fed due s (g ++ h) ≡ fed due (fed due s g) h
unfolding fed
fed-append due s [] h = refl
fed-append due s (b ∷ g) h = fed-append due (fed_byte due s b) g h

-- ---- the judge

met_more : (r : Reading) (w : List ℕ) (b : ℕ) → met_all r (w ++ (b ∷ [])) ≡ met (met_all r w) b
unfolding met_all
met_more r [] b = refl
met_more r (c ∷ w) b = met_more (met r c) w b

row_number_lem : (w : List ℕ) → rows_number (met_all start w) ≡ row_number w
unfolding rows_number row_number
row_number_lem w = ap (λ (x : Bool). pick x 32 31) (judged w)

-- once a byte is read the row has begun
pick-begun : (x : Bool) (a b : Reading) → is_start a ≡ false → is_start b ≡ false → is_start (pick x a b) ≡ false
pick-begun true a b p q = p
pick-begun false a b p q = q

stepped_begun : (o : Option Left) → is_start (stepped_to o) ≡ false
unfolding stepped_to is_start
stepped_begun none = refl
stepped_begun (some d) = refl

met-begun : (r : Reading) (b : ℕ) → is_start (met r b) ≡ false
unfolding met is_start chosen
met-begun start b = pick-begun (eqb 40 b) _ _ refl (pick-begun (eqb 41 b) _ _ refl refl)
met-begun opened b =
    pick-begun (eqb 103 b) _ _ refl (pick-begun (eqb 110 b) _ _ refl (pick-begun (eqb 101 b) _ _ refl (pick-begun (eqb 114 b) _ _ refl (pick-begun (eqb 98 b) _ _ refl refl))))
met-begun lost b = refl
met-begun (beside d) b = stepped_begun (step d.0 d.1 b)

row_begun : (r : Reading) (b : ℕ) (w : List ℕ) → is_start (met_all r (b ∷ w)) ≡ false
unfolding met_all
row_begun r b [] = met-begun r b
row_begun r b (c ∷ w) = row_begun (met r b) c w

-- ---- rows

not_same : (k l : List ℕ) → (k ≡ l → ⊥) → listing.same k l ≡ false
not_same k l h = go (listing.same k l) refl
  where
    go : (x : Bool) → listing.same k l ≡ x → x ≡ false
    go true e = absurd (h (same_equal k l e))
    go false e = refl

-- what is left of the rows due begins with another row than q, or with none
abbrev Off : List ℕ → List (List ℕ) → Type 0
Off q rest = (r : List ℕ) (rs : List (List ℕ)) → rest ≡ r ∷ rs → q ≡ r → ⊥

-- a whole row that is not the one due
other_row : (i : ℕ) (q g : List ℕ) (rest : List (List ℕ)) → Off q rest → compared i (rest ++ ([] ∷ [])) (q ∷ split 10 g) ≡ wrong (row_number q) i
unfolding compared
other_row i q g [] off = let s = split-first 10 g in rw s.2
other_row i q g (r ∷ []) off = let s = split-first 10 g in rw (s.2, not_same r q (λ e. off r [] refl (sym e)))
other_row i q g (r ∷ u ∷ rs) off = let s = split-first 10 g in rw (s.2, not_same r q (λ e. off r (u ∷ rs) refl (sym e)))

-- the row due
due_row : (i : ℕ) (q g : List ℕ) (rest : List (List ℕ)) → compared i ((q ∷ rest) ++ ([] ∷ [])) (q ∷ split 10 g) ≡ compared (suc i) (rest ++ ([] ∷ [])) (split 10 g)
unfolding compared
due_row i q g [] = let s = split-first 10 g in rw (s.2, same_refl q)
due_row i q g (r ∷ rs) = let s = split-first 10 g in rw (s.2, same_refl q)

-- "lacks its byte 10"
cut_row : (i b : ℕ) (w : List ℕ) (ds : List (List ℕ)) → compared i ds ((b ∷ w) ∷ []) ≡ wrong 31 i
unfolding compared
cut_row i b w [] = refl
cut_row i b w (d ∷ []) = refl
cut_row i b w (d ∷ e ∷ ds) = refl

-- ---- texts

cancel : (p u v : List ℕ) → p ++ u ≡ p ++ v → u ≡ v
cancel p u v e = sym (drop_at p u (length p) refl) ∙ ap (drop (length p)) e ∙ drop_at p v (length p) refl

begins_self : (b : ℕ) (l : List ℕ) → begins (b ∷ l) b ≡ true
unfolding begins
begins_self b l = eq-eqb b b refl

not_both : {x : Bool} → x ≡ true → x ≡ false → ⊥
not_both p q = let z : ◌≡◌ {A = Bool} true false = sym p ∙ q in absurd (true-false z)
  where
    true-false : ◌≡◌ {A = Bool} true false → ⊥
    true-false e = let z : ◌≡◌ {A = ℕ} 1 0 = ap (λ (x : Bool). pick x 1 0) e in absurd (omega arith)

-- p of the row due was given, and now a byte that is not the next one due
module _ (p left : List ℕ) (b : ℕ) (rest : List (List ℕ)) (h : p ++ left ≡ text_of rest) (n : begins left b ≡ false) where
  off_by_end : b ≡ 10 → Off p rest
  unfolding text_of
  off_by_end e r rs q w =
      let u : p ++ left ≡ p ++ (10 ∷ text_of rs) = h ∙ ap text_of q ∙ ap (λ (z : List ℕ). z ++ (10 ∷ text_of rs)) (sym w) in
      not_both (ap (λ (z : List ℕ). begins z b) (cancel p left (10 ∷ text_of rs) u) ∙ ap (begins (10 ∷ text_of rs)) e ∙ begins_self 10 (text_of rs)) n

  apart : (r : List ℕ) (rs : List (List ℕ)) → rest ≡ r ∷ rs → (x : List ℕ) → (p ++ (b ∷ [])) ++ x ≡ r → ⊥
  unfolding text_of
  apart r rs q x w =
      let v : (p ++ (b ∷ [])) ++ x ≡ p ++ (b ∷ x) = append_assoc p (b ∷ []) x in
      let u : p ++ left ≡ p ++ (b ∷ (x ++ (10 ∷ text_of rs))) =
      h ∙ ap text_of q ∙ ap (λ (z : List ℕ). z ++ (10 ∷ text_of rs)) (sym w ∙ v) ∙ append_assoc p (b ∷ x) (10 ∷ text_of rs) in
      not_both (ap (λ (z : List ℕ). begins z b) (cancel p left (b ∷ (x ++ (10 ∷ text_of rs))) u) ∙ begins_self b (x ++ (10 ∷ text_of rs))) n

-- p is a whole row
row_whole : (p l r : List ℕ) (rs : List (List ℕ)) → lacks 10 p ≡ true → no_newline r ≡ true → p ++ (10 ∷ l) ≡ text_of (r ∷ rs) → (p ≡ r) × (l ≡ text_of rs)
unfolding text_of no_newline lacks all
row_whole p l r rs h k e =
    let s : p ∷ split 10 l ≡ r ∷ split 10 (text_of rs) = sym (split_next 10 p l h) ∙ ap (split 10) e ∙ split_next 10 r (text_of rs) k in
    let q : p ≡ r = ap first s in
    (q, let u : p ++ (10 ∷ l) ≡ p ++ (10 ∷ text_of rs) = e ∙ ap (λ (z : List ℕ). z ++ (10 ∷ text_of rs)) (sym q) in ap (drop 1) (cancel p (10 ∷ l) (10 ∷ text_of rs) u))
  where
    first : List (List ℕ) → List ℕ
    first [] = []
    first (w ∷ ws) = w

pub rows_more : (a : List ℕ) (b : ℕ) → rows_ended (a ++ (b ∷ [])) ≡ pick (eqb b 10) (suc (rows_ended a)) (rows_ended a)
unfolding rows_ended
rows_more [] b = refl
rows_more (c ∷ a) b = go (eqb c 10) (eqb b 10) (rows_more a b)
  where
    go : (x y : Bool) → rows_ended (a ++ (b ∷ [])) ≡ pick y (suc (rows_ended a)) (rows_ended a)
        → pick x (suc (rows_ended (a ++ (b ∷ [])))) (rows_ended (a ++ (b ∷ []))) ≡ pick y (suc (pick x (suc (rows_ended a)) (rows_ended a))) (pick x (suc (rows_ended a)) (rows_ended a))
    go true true e = ap suc e
    go true false e = ap suc e
    go false true e = e
    go false false e = e

lacks_more : (p : List ℕ) (b : ℕ) → lacks 10 p ≡ true → eqb b 10 ≡ false → lacks 10 (p ++ (b ∷ [])) ≡ true
unfolding lacks all
lacks_more p b h e = all-append-true (λ c. not (eqb c 10)) p (b ∷ []) h (rw e)

-- ---- byte by byte

module _ (due : List ℕ) where
  place_is : (a left : List ℕ) → due ≡ a ++ left → place_at due (length a) ≡ rows_ended a
  unfolding place_at
  place_is a left e = ap rows_ended (ap (take (length a)) e ∙ take_at a left (length a) refl)

  ended_stays : (n at : ℕ) (g : List ℕ) → fed due (ended n at) g ≡ ended n at
  unfolding fed fed_byte
  ended_stays n at [] = refl
  ended_stays n at (b ∷ g) = ended_stays n at g

  -- a row that is not the one due has ended
  row_ended : (a left : List ℕ) → due ≡ a ++ left → (rest : List (List ℕ)) (q : List ℕ) → lacks 10 q ≡ true → Off q rest → (b : ℕ) → b ≡ 10 → (g : List ℕ)
      → ruled due (fed due (ended (rows_number (met_all start q)) (length a)) g) ≡ compared (rows_ended a) (rest ++ ([] ∷ [])) (split 10 (q ++ (b ∷ g)))
  unfolding ruled
  row_ended a left e rest q h off b t g =
      ap (ruled due) (ended_stays (rows_number (met_all start q)) (length a) g)
      ∙ ap (λ (n : ℕ). wrong n (place_at due (length a))) (row_number_lem q)
      ∙ ap (wrong (row_number q)) (place_is a left e)
      ∙ sym (ap (λ (c : ℕ). compared (rows_ended a) (rest ++ ([] ∷ [])) (split 10 (q ++ (c ∷ g)))) t
      ∙ ap (compared (rows_ended a) (rest ++ ([] ∷ []))) (split_next 10 q g h)
      ∙ other_row (rows_ended a) q g rest off)

  -- the text ends in a row
  row_cut : (a left : List ℕ) → due ≡ a ++ left → (ds : List (List ℕ)) (b : ℕ) (q : List ℕ) → lacks 10 (b ∷ q) ≡ true
      → wrong 31 (place_at due (length a)) ≡ compared (rows_ended a) ds (split 10 ((b ∷ q) ++ []))
  row_cut a left e ds b q h =
      ap (wrong 31) (place_is a left e)
      ∙ sym (ap (compared (rows_ended a) ds) (ap (split 10) (append-nil (b ∷ q)) ∙ split_last 10 (b ∷ q) h) ∙ cut_row (rows_ended a) b q ds)

  differs_law : (a left : List ℕ) → due ≡ a ++ left → (rest : List (List ℕ)) (b : ℕ) (q : List ℕ) → lacks 10 (b ∷ q) ≡ true
      → ((r : List ℕ) (rs : List (List ℕ)) → rest ≡ r ∷ rs → (x : List ℕ) → (b ∷ q) ++ x ≡ r → ⊥) → (g : List ℕ)
      → ruled due (fed due (differs (length a) (met_all start (b ∷ q))) g) ≡ compared (rows_ended a) (rest ++ ([] ∷ [])) (split 10 ((b ∷ q) ++ g))
  unfolding fed ruled fed_byte differing
  differs_law a left e rest b q h off [] = row_cut a left e (rest ++ ([] ∷ [])) b q h
  differs_law a left e rest b q h off (c ∷ g) = differs_step (eqb c 10) refl (λ x. differs_law a left e rest b (q ++ (c ∷ [])) (lacks_more (b ∷ q) c h x) more g)
    where
      more : (r : List ℕ) (rs : List (List ℕ)) → rest ≡ r ∷ rs → (x : List ℕ) → (b ∷ (q ++ (c ∷ []))) ++ x ≡ r → ⊥
      more r rs w x k = off r rs w (c ∷ x) (sym (append_assoc (b ∷ q) (c ∷ []) x) ∙ k)

      differs_step : (t : Bool) → eqb c 10 ≡ t
          → (eqb c 10 ≡ false → ruled due (fed due (differs (length a) (met_all start (b ∷ (q ++ (c ∷ []))))) g) ≡ compared (rows_ended a) (rest ++ ([] ∷ [])) (split 10 ((b ∷ (q ++ (c ∷ []))) ++ g)))
          → ruled due (fed due (fed_byte due (differs (length a) (met_all start (b ∷ q))) c) g) ≡ compared (rows_ended a) (rest ++ ([] ∷ [])) (split 10 ((b ∷ q) ++ (c ∷ g)))
      differs_step true t k =
          ap (λ (s : Standing). ruled due (fed due s g)) (ap (λ (x : Bool). pick x (ended (rows_number (met_all start (b ∷ q))) (length a)) (differs (length a) (met (met_all start (b ∷ q)) c))) t)
          ∙ row_ended a left e rest (b ∷ q) h (λ r rs w z. off r rs w [] (append-nil (b ∷ q) ∙ z)) c (eqb-true c 10 t) g
      differs_step false t k =
          ap (λ (s : Standing). ruled due (fed due s g)) (ap (λ (x : Bool). pick x (ended (rows_number (met_all start (b ∷ q))) (length a)) (differs (length a) (met (met_all start (b ∷ q)) c))) t)
          ∙ ap (λ (r : Reading). ruled due (fed due (differs (length a) r) g)) (sym (met_more start (b ∷ q) c))
          ∙ k t
          ∙ ap (λ (l : List ℕ). compared (rows_ended a) (rest ++ ([] ∷ [])) (split 10 l)) (append_assoc (b ∷ q) (c ∷ []) g)

  -- the graph given ends behind a whole row
  graph_ends : (a left : List ℕ) → due ≡ a ++ left → (rest : List (List ℕ)) → left ≡ text_of rest
      → pick (nothing (drop (length a) due)) right (wrong 32 (place_at due (length a))) ≡ compared (rows_ended a) (rest ++ ([] ∷ [])) ([] ∷ [])
  unfolding compared text_of nothing
  graph_ends a left e [] h =
      let w : drop (length a) due ≡ [] = ap (drop (length a)) e ∙ drop_at a left (length a) refl ∙ h in
      ap (λ (l : List ℕ). pick (nothing l) right (wrong 32 (place_at due (length a)))) w
  graph_ends a left e (r ∷ rs) h =
      let w : drop (length a) due ≡ r ++ (10 ∷ text_of rs) = ap (drop (length a)) e ∙ drop_at a left (length a) refl ∙ h in
      ap (λ (l : List ℕ). pick (nothing l) right (wrong 32 (place_at due (length a)))) w
      ∙ ap (λ (x : Bool). pick x right (wrong 32 (place_at due (length a)))) (some_left r)
      ∙ ap (wrong 32) (place_is a left e) ∙ sym (missing rs)
    where
      some_left : (r : List ℕ) → nothing (r ++ (10 ∷ text_of rs)) ≡ false
      some_left [] = refl
      some_left (c ∷ k) = refl

      missing : (rs : List (List ℕ)) → compared (rows_ended a) ((r ∷ rs) ++ ([] ∷ [])) ([] ∷ []) ≡ wrong 32 (rows_ended a)
      missing [] = refl
      missing (u ∷ us) = refl

  -- so far all is as due: `a` is that part of the graph due, p the part of its row
  abbrev Alike : (a left p : List ℕ) → List (List ℕ) → List ℕ → Type 0
  Alike a left p rest g = ruled due (fed due (same (length a) (met_all start p)) g) ≡ compared (rows_ended a) (rest ++ ([] ∷ [])) (split 10 (p ++ g))

  alike_end : (a left : List ℕ) → due ≡ a ++ left → (rest : List (List ℕ)) (p : List ℕ) → lacks 10 p ≡ true → p ++ left ≡ text_of rest → Alike a left p rest []
  unfolding fed ruled met_all is_start split
  alike_end a left e rest [] h w = graph_ends a left e rest w
  alike_end a left e rest (b ∷ p) h w =
      ap (λ (x : Bool). pick x (pick (nothing (drop (length a) due)) right (wrong 32 (place_at due (length a)))) (wrong 31 (place_at due (length a)))) (row_begun start b p)
      ∙ row_cut a left e (rest ++ ([] ∷ [])) b p h

  -- the same for the bytes g, whatever was given before
  abbrev AlikeAll : List ℕ → Type 0
  AlikeAll g = (a left : List ℕ) → due ≡ a ++ left → (rest : List (List ℕ)) → All (λ r. no_newline r ≡ true) rest → (p : List ℕ) → lacks 10 p ≡ true → p ++ left ≡ text_of rest → Alike a left p rest g

  longer : (a : List ℕ) (b : ℕ) → length (a ++ (b ∷ [])) ≡ suc (length a)
  longer a b = omega (arith, length-append a (b ∷ []))

  -- the byte due, inside a row
  due_inside : (g : List ℕ) → AlikeAll g → (a l : List ℕ) (b : ℕ) → due ≡ a ++ (b ∷ l) → (rest : List (List ℕ)) → All (λ r. no_newline r ≡ true) rest → (p : List ℕ) → lacks 10 p ≡ true
      → p ++ (b ∷ l) ≡ text_of rest → eqb b 10 ≡ false
      → ruled due (fed due (same (suc (length a)) (met (met_all start p) b)) g) ≡ compared (rows_ended a) (rest ++ ([] ∷ [])) (split 10 (p ++ (b ∷ g)))
  due_inside g ih a l b e rest ok p h w t =
      ap (λ (n : ℕ). ruled due (fed due (same n (met (met_all start p) b)) g)) (sym (longer a b))
      ∙ ap (λ (r : Reading). ruled due (fed due (same (length (a ++ (b ∷ []))) r) g)) (sym (met_more start p b))
      ∙ ih (a ++ (b ∷ [])) l (e ∙ sym (append_assoc a (b ∷ []) l)) rest ok (p ++ (b ∷ [])) (lacks_more p b h t) (append_assoc p (b ∷ []) l ∙ w)
      ∙ ap (λ (n : ℕ). compared n (rest ++ ([] ∷ [])) (split 10 ((p ++ (b ∷ [])) ++ g))) (rows_more a b ∙ ap (λ (x : Bool). pick x (suc (rows_ended a)) (rows_ended a)) t)
      ∙ ap (λ (z : List ℕ). compared (rows_ended a) (rest ++ ([] ∷ [])) (split 10 z)) (append_assoc p (b ∷ []) g)

  -- the byte due, at the end of a row
  due_ends : (g : List ℕ) → AlikeAll g → (a l : List ℕ) → due ≡ a ++ (10 ∷ l) → (rest : List (List ℕ)) → All (λ r. no_newline r ≡ true) rest → (p : List ℕ) → lacks 10 p ≡ true
      → p ++ (10 ∷ l) ≡ text_of rest → ruled due (fed due (same (suc (length a)) start) g) ≡ compared (rows_ended a) (rest ++ ([] ∷ [])) (split 10 (p ++ (10 ∷ g)))
  unfolding met_all text_of lacks all
  due_ends g ih a l e [] ok p h w = absurd (let z : length (p ++ (10 ∷ l)) ≡ 0 = ap length w in omega (arith, length-append p (10 ∷ l)))
  due_ends g ih a l e (r ∷ rs) (all∷ k ks) p h w =
      let q = row_whole p l r rs h k w in
      ap (λ (n : ℕ). ruled due (fed due (same n start) g)) (sym (longer a 10))
      ∙ ih (a ++ (10 ∷ [])) l (e ∙ sym (append_assoc a (10 ∷ []) l)) rs ks [] refl q.1
      ∙ ap (λ (n : ℕ). compared n (rs ++ ([] ∷ [])) (split 10 g)) (rows_more a 10)
      ∙ sym (due_row (rows_ended a) p g rs)
      ∙ ap (λ (z : List ℕ). compared (rows_ended a) ((z ∷ rs) ++ ([] ∷ [])) (p ∷ split 10 g)) q.0
      ∙ sym (ap (compared (rows_ended a) ((r ∷ rs) ++ ([] ∷ []))) (split_next 10 p g h))

  -- another byte than the one due, inside a row
  not_due : (g a left : List ℕ) → due ≡ a ++ left → (rest : List (List ℕ)) (p : List ℕ) → lacks 10 p ≡ true → (b : ℕ) → eqb b 10 ≡ false
      → ((r : List ℕ) (rs : List (List ℕ)) → rest ≡ r ∷ rs → (x : List ℕ) → (p ++ (b ∷ [])) ++ x ≡ r → ⊥)
      → ruled due (fed due (differs (length a) (met (met_all start p) b)) g) ≡ compared (rows_ended a) (rest ++ ([] ∷ [])) (split 10 (p ++ (b ∷ g)))
  unfolding met_all
  not_due g a left e rest [] h b t off = differs_law a left e rest b [] (lacks_more [] b h t) off g
  not_due g a left e rest (c ∷ p) h b t off =
      ap (λ (r : Reading). ruled due (fed due (differs (length a) r) g)) (sym (met_more start (c ∷ p) b))
      ∙ differs_law a left e rest c (p ++ (b ∷ [])) (lacks_more (c ∷ p) b h t) off g
      ∙ ap (λ (z : List ℕ). compared (rows_ended a) (rest ++ ([] ∷ [])) (split 10 z)) (append_assoc (c ∷ p) (b ∷ []) g)

  next_due : (left : List ℕ) (b : ℕ) → begins left b ≡ true → (l : List ℕ) × (left ≡ b ∷ l)
  unfolding begins
  next_due [] b h = absurd (not_both h refl)
  next_due (c ∷ l) b h = (l, ap (λ (x : ℕ). x ∷ l) (eqb-true c b h))

  -- one byte
  alike_byte : (g : List ℕ) → AlikeAll g → (a left : List ℕ) → due ≡ a ++ left → (rest : List (List ℕ)) → All (λ r. no_newline r ≡ true) rest → (p : List ℕ) → lacks 10 p ≡ true
      → p ++ left ≡ text_of rest → (b : ℕ) (x y : Bool) → begins left b ≡ x → eqb b 10 ≡ y
      → ruled due (fed due (pick x (same (suc (length a)) (pick y start (met (met_all start p) b))) (pick y (ended (rows_number (met_all start p)) (length a)) (differs (length a) (met (met_all start p) b)))) g)
      ≡ compared (rows_ended a) (rest ++ ([] ∷ [])) (split 10 (p ++ (b ∷ g)))
  alike_byte g ih a left e rest ok p h w b true true m t =
      let d = next_due left b m in
      let q : b ≡ 10 = eqb-true b 10 t in
      let u : left ≡ 10 ∷ d.0 = d.1 ∙ ap (λ (x : ℕ). x ∷ d.0) q in
      due_ends g ih a d.0 (e ∙ ap (λ (z : List ℕ). a ++ z) u) rest ok p h (ap (λ (z : List ℕ). p ++ z) (sym u) ∙ w)
      ∙ ap (λ (x : ℕ). compared (rows_ended a) (rest ++ ([] ∷ [])) (split 10 (p ++ (x ∷ g)))) (sym q)
  alike_byte g ih a left e rest ok p h w b true false m t =
      let d = next_due left b m in
      due_inside g ih a d.0 b (e ∙ ap (λ (z : List ℕ). a ++ z) d.1) rest ok p h (ap (λ (z : List ℕ). p ++ z) (sym d.1) ∙ w) t
  alike_byte g ih a left e rest ok p h w b false true m t = row_ended a left e rest p h (off_by_end p left b rest w m (eqb-true b 10 t)) b (eqb-true b 10 t) g
  alike_byte g ih a left e rest ok p h w b false false m t = not_due g a left e rest p h b t (apart p left b rest w m)

  alike : (g : List ℕ) → AlikeAll g
  unfolding fed fed_byte differing
  alike [] a left e rest ok p h w = alike_end a left e rest p h w
  alike (b ∷ g) a left e rest ok p h w =
      ap
      (λ (x : Bool).
      ruled due (fed due (pick x (same (suc (length a)) (pick (eqb b 10) start (met (met_all start p) b))) (pick (eqb b 10) (ended (rows_number (met_all start p)) (length a)) (differs (length a) (met (met_all start p) b)))) g))
      (ap (λ (z : List ℕ). begins z b) (ap (drop (length a)) e ∙ drop_at a left (length a) refl))
      ∙ alike_byte g (alike g) a left e rest ok p h w b (begins left b) (eqb b 10) refl refl

-- a graph given is judged as the definition has it, whatever rows are due
pub compared_so : (rows : List (List ℕ)) → All (λ r. no_newline r ≡ true) rows → (g : List ℕ)
    → ruled (text_of rows) (fed (text_of rows) (same 0 start) g) ≡ compared 0 (split 10 (text_of rows)) (split 10 g)
unfolding met_all rows_ended lacks all
compared_so rows ok g = alike (text_of rows) g [] (text_of rows) refl rows ok [] refl refl ∙ ap (λ (z : List (List ℕ)). compared 0 z (split 10 g)) (sym (split_text rows ok))
