-- Where what is covered ends. Assumes nothing.
use Rattle.std.specs.Prelude.{◌≡◌, refl, ℕ, suc, ◌+◌, ◌<◌, ◌≤◌, List, [], ◌∷◌, Bool, true, false, eqb, drop, get_or, length}
use Rattle.std.proofs.Common.{sym, ap, ◌∙◌, arith, ne_eqb, drop-drop, drop_of_length-le}
use Rattle.listings.specs.Bytes.{pick}
use Rattle.listings.specs.Scan.{index_of}
use Rattle.program_files.specs.Program.{Cover, uncovered, quoted, remark, items, quoted_item, behind, counts, counted}
use Rattle.basic.specs.Cursors.{counted_past, counted_end, counted_here, counted_skip}

-- the bytes that count from p on under the one cover are those from q on under the other
abbrev pub Leads : List ℕ → Cover → ℕ → Cover → ℕ → Type 0
Leads f c p d q = counted c p (drop p f) ≡ counted d q (drop q f)

-- q is where the line's zero stands, from p on
abbrev pub Zero : List ℕ → ℕ → ℕ → Type 0
Zero f p q = q ≡ p + index_of 0 (drop p f)

-- what quotes close, those that nothing else covers and those in a DATA
abbrev pub Closed : List ℕ → ℕ → ℕ → Type 0
Closed f p q = Leads f quoted p uncovered q × Leads f quoted_item p items q

-- they are still open
abbrev pub Open : List ℕ → ℕ → ℕ → Type 0
Open f p q = Leads f quoted p quoted q × Leads f quoted_item p quoted_item q

module _ (f : List ℕ) (p q r : ℕ) (o : Open f p q) where
  pub still_open : Open f q r → Open f p r
  still_open h = (o.0 ∙ h.0, o.1 ∙ h.1)

  pub closed_then : Closed f q r → Closed f p r
  closed_then h = (o.0 ∙ h.0, o.1 ∙ h.1)

-- ---- at the line's end it does not matter what covers

pub leads_past : (f : List ℕ) (c d : Cover) (p : ℕ) → length f ≤ p → Leads f c p d p
leads_past f c d p h = counted_past c f p h ∙ sym (counted_past d f p h)

module _ (f : List ℕ) (p : ℕ) (h : p < length f) where
  pub leads_end : (c d : Cover) → get_or f p 0 ≡ 0 → Leads f c p d p
  leads_end c d z = counted_end c f p 0 h z refl ∙ sym (counted_end d f p 0 h z refl)

  -- ---- a byte that does not count

  pub leads_on : (c d : Cover) (b : ℕ) → get_or f p 0 ≡ b → (b ≡ 0 → ⊥) → counts c b ≡ false → behind c b ≡ d → Leads f c p d (p + 1)
  leads_on c d b e z k g = counted_skip c f p b h e z k ∙ ap (λ (x : Cover). counted x (p + 1) (drop (p + 1) f)) g

  pub quotes_close : get_or f p 0 ≡ 34 → Closed f p (p + 1)
  unfolding behind counts
  quotes_close q = (leads_on quoted uncovered 34 q (λ z. absurd (omega arith)) refl refl, leads_on quoted_item items 34 q (λ z. absurd (omega arith)) refl refl)

  pub items_quote : get_or f p 0 ≡ 34 → Leads f items p quoted_item (p + 1)
  unfolding behind counts
  items_quote q = leads_on items quoted_item 34 q (λ z. absurd (omega arith)) refl refl

  -- from the colon on nothing covers
  pub items_colon : get_or f p 0 ≡ 58 → Leads f items p uncovered p
  unfolding behind counts
  items_colon q = counted_here items f p 58 h q (λ z. absurd (omega arith)) refl ∙ sym (counted_here uncovered f p 58 h q (λ z. absurd (omega arith)) refl)

  module _ (more : get_or f p 0 ≡ 0 → ⊥) (no-quote : get_or f p 0 ≡ 34 → ⊥) where
    pub quotes_on : Open f p (p + 1)
    unfolding behind counts
    quotes_on = (leads_on quoted quoted _ refl more refl (rw (ne_eqb (get_or f p 0) 34 no-quote) refl), leads_on quoted_item quoted_item _ refl more refl (rw (ne_eqb (get_or f p 0) 34 no-quote) refl))

    pub items_on : (get_or f p 0 ≡ 58 → ⊥) → Leads f items p items (p + 1)
    unfolding behind counts
    items_on c = leads_on items items _ refl more (ne_eqb (get_or f p 0) 58 c) (rw (ne_eqb (get_or f p 0) 34 no-quote, ne_eqb (get_or f p 0) 58 c) refl)

-- ---- a REM covers all up to the zero

remark_all : (p : ℕ) (l : List ℕ) → counted remark p l ≡ (p + index_of 0 l, 0) ∷ []
unfolding counted index_of behind counts
remark_all p [] = let z : p + 0 ≡ p = omega arith in rw z refl
remark_all p (b ∷ l) = go (eqb b 0) (remark_all (suc p) l)
  where
    go : (t : Bool) → counted remark (suc p) l ≡ (suc p + index_of 0 l, 0) ∷ [] → pick t ((p, 0) ∷ []) (counted remark (suc p) l) ≡ (p + pick t 0 (suc (index_of 0 l)), 0) ∷ []
    go true h = let z : p + 0 ≡ p = omega arith in rw z refl
    go false h = let z : p + suc (index_of 0 l) ≡ suc p + index_of 0 l = omega arith in rw (z, h) refl

zero_ends : (c : Cover) (p : ℕ) (l : List ℕ) → counted c (p + index_of 0 l) (drop (index_of 0 l) l) ≡ (p + index_of 0 l, 0) ∷ []
unfolding counted index_of
zero_ends c p [] = refl
zero_ends c p (b ∷ l) = go (eqb b 0) refl (zero_ends c (suc p) l)
  where
    go : (t : Bool) → eqb b 0 ≡ t → counted c (suc p + index_of 0 l) (drop (index_of 0 l) l) ≡ (suc p + index_of 0 l, 0) ∷ []
        → counted c (p + pick t 0 (suc (index_of 0 l))) (drop (pick t 0 (suc (index_of 0 l))) (b ∷ l)) ≡ (p + pick t 0 (suc (index_of 0 l)), 0) ∷ []
    go true e h = rw e refl
    go false e h = let z : p + suc (index_of 0 l) ≡ suc p + index_of 0 l = omega arith in rw z h

pub remark_leads : (f : List ℕ) (p q : ℕ) → Zero f p q → Leads f remark p uncovered q
remark_leads f p q h =
    let l = drop p f in
    remark_all p l ∙ sym (zero_ends uncovered p l)
    ∙ ap (counted uncovered (p + index_of 0 l)) (drop-drop (index_of 0 l) p f)
    ∙ ap (λ (z : ℕ). counted uncovered z (drop z f)) (sym h)

pub zero_past : (f : List ℕ) (p : ℕ) → length f ≤ p → Zero f p p
unfolding index_of
zero_past f p h =
    let z : p ≡ p + 0 = omega arith in
    z ∙ ap (λ (l : List ℕ). p + index_of 0 l) (sym (drop_of_length-le f {i = p} h))
