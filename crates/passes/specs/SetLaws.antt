-- Laws of sets in words: what is in a set with one more id, in a union, and in the list of the members. Assumes
-- nothing.
use Rattle.std.specs.Prelude.{◌≡◌, refl, Bool, true, false, ◌⊎◌, ◌↔◌, ℕ, zero, suc, ◌+◌, ◌-◌, ◌*◌, ◌/◌, ◌%◌, ◌^◌, ◌≤◌, ◌<◌, max, eqb, get_or, set, take, drop, replicate}
use Rattle.std.proofs.Common.{sym, subst, ◌∙◌, inl, inr, arith, mod-lt, mod-eq_of_lt, pow-suc, lt_of_lt_of_le, one-mul, add-one, one-add, length-set, pow_pos, pow_mono, pow-add, shl_exact, shr-shr, get_or-set_same, get_or-set_other, take-suc-set, drop-set-lt, drop-drop}
use Rattle.std.proofs.Math.Path.{ap}
use mathlib.Core.List.Memᴰ
use mathlib.Core.List.{List, [], ◌∷◌, ◌++◌, append-nil, append_assoc, Memᴰ}
use Rattle.std.proofs.Math.Nat.{div_self, div-eq_of_lt, mul-mod_left}
use borrow.Author.Tests.{eq-eqb, ne_eqb, eqb-true, le-leb, lt-leb}
use Rattle.std.specs.Int.{bit_at}
use Rattle.std.specs.Int.Bits.{bit_or, or_step}
use Rattle.std.proofs.lemmas.Nat.{or_shr, ones_cat, shl-shr, mod-pow-add}
use Rattle.std.specs.Int.Count.{ones_in, ones}
use Rattle.std.proofs.Math.ListN.{length, length-append, get_or-eq_default}
use Rattle.std.proofs.Math.Pow.{pow-lt}
use Rattle.std.proofs.Math.Seq.{set_out}
use Rattle.listings.specs.WordTable.{zeros}
use Rattle.passes.specs.Compare.{eq-or, lt-or}
use Rattle.graph.specs.Lists.{Ascending, asc[], asc∷}
use Rattle.graph_laws.specs.Members.{asc_ext}
use Rattle.passes.specs.Sets.{bit, In, inserted, joined_to, joined, one_if, word_members, members_to, members_of, size_of, members_within, Put}

-- ---- bits

bit_two : (ws : List ℕ) (i : ℕ) → bit ws i < 2
unfolding bit
bit_two ws i = mod-lt (get_or ws (i / 64) 0 / 2 ^ (i % 64)) (omega arith)

bit-zero : (ws : List ℕ) (i : ℕ) → get_or ws (i / 64) 0 ≡ 0 → bit ws i ≡ 0
unfolding bit
bit-zero ws i e = ap (λ (w : ℕ). w / 2 ^ (i % 64) % 2) e ∙ ap (λ (x : ℕ). x % 2) (div-eq_of_lt {n = 0} (pow_pos (i % 64)))

-- an id past the words is not in the set
past_words : (ws : List ℕ) (i : ℕ) → length ws ≤ i / 64 → bit ws i ≡ 0
past_words ws i h = bit-zero ws i (get_or-eq_default ws 0 h)

pub in_below : (ws : List ℕ) (i : ℕ) → In ws i → i < length ws * 64
in_below ws i e = elim (lt-or (i / 64) (length ws)) [ inl h ↦ omega arith | inr h ↦ absurd (omega (arith, past_words ws i h)) ]

-- words that are zero hold nothing
pub none_in : (n i : ℕ) → In (replicate n 0) i → ⊥
none_in n i e = omega (arith, bit-zero (replicate n 0) i (zeros n (i / 64)))

or-bit : (a b r : ℕ) → bit_or a b / 2 ^ r % 2 ≡ max (a / 2 ^ r % 2) (b / 2 ^ r % 2)
or-bit a b r =
    let x = a / 2 ^ r in
    let y = b / 2 ^ r in
    ap (λ (z : ℕ). z % 2) (or_shr a b r) ∙ omega (arith, or_step x y)

same_bit : (r s : ℕ) → s ≡ r → 2 ^ r / 2 ^ s % 2 ≡ 1
same_bit r s e = rw (e, div_self (pow_pos r))

other-bit : (r s : ℕ) → (s ≡ r → ⊥) → 2 ^ r / 2 ^ s % 2 ≡ 0
other-bit r s ne = elim (lt-or r s) [ inl h ↦ ap (λ (x : ℕ). x % 2) (div-eq_of_lt (pow-lt h)) | inr h ↦ above (r - s - 1) (omega arith) ]
  where
    above : (d : ℕ) → r ≡ suc d + s → 2 ^ r / 2 ^ s % 2 ≡ 0
    above d e =
        ap (λ (x : ℕ). 2 ^ x / 2 ^ s % 2) e ∙ ap (λ (x : ℕ). x / 2 ^ s % 2) (pow-add 2 (suc d) s) ∙ ap (λ (x : ℕ). x % 2) (shl-shr (2 ^ suc d) s)
        ∙ ap (λ (x : ℕ). x % 2) (pow-suc 2 d) ∙ mul-mod_left (2 ^ d) 2

-- the code's 1 << r
pub one_bit : (r : ℕ) → r < 64 → 1 * 2 ^ r % 2 ^ 64 ≡ 2 ^ r
one_bit r h = shl_exact {a = 1} 1 r 64 (omega arith) (omega arith) ∙ one-mul (2 ^ r)

-- ---- one more id

insert-same : (ws : List ℕ) (i : ℕ) → i / 64 < length ws → bit (inserted ws i) i ≡ 1
unfolding bit inserted
insert-same ws i h =
    let w = get_or ws (i / 64) 0 in
    ap (λ (x : ℕ). x / 2 ^ (i % 64) % 2) (get_or-set_same ws (i / 64) (bit_or w (2 ^ (i % 64))) 0 h) ∙ or-bit w (2 ^ (i % 64)) (i % 64)
    ∙ omega (arith, same_bit (i % 64) (i % 64) refl, mod-lt (w / 2 ^ (i % 64)) {m = 2} (omega arith))

insert-other : (ws : List ℕ) (i j : ℕ) → i / 64 < length ws → (j ≡ i → ⊥) → bit (inserted ws i) j ≡ bit ws j
unfolding bit inserted
insert-other ws i j h ne = elim (eq-or (j / 64) (i / 64)) [ inl e ↦ here e | inr e ↦ ap (λ (x : ℕ). x / 2 ^ (j % 64) % 2) (get_or-set_other ws (i / 64) (j / 64) (bit_or (get_or ws (i / 64) 0) (2 ^ (i % 64))) 0 e) ]
  where
    w : ℕ
    w = bit_or (get_or ws (i / 64) 0) (2 ^ (i % 64))

    here : j / 64 ≡ i / 64 → get_or (set ws (i / 64) w) (j / 64) 0 / 2 ^ (j % 64) % 2 ≡ get_or ws (j / 64) 0 / 2 ^ (j % 64) % 2
    here e =
        let d : j % 64 ≡ i % 64 → ⊥ = λ f. ne (omega arith) in
        let b : get_or ws (i / 64) 0 / 2 ^ (j % 64) % 2 < 2 = mod-lt (get_or ws (i / 64) 0 / 2 ^ (j % 64)) (omega arith) in
        ap (λ (q : ℕ). get_or (set ws (i / 64) w) q 0 / 2 ^ (j % 64) % 2) e
        ∙ ap (λ (x : ℕ). x / 2 ^ (j % 64) % 2) (get_or-set_same ws (i / 64) w 0 h)
        ∙ or-bit (get_or ws (i / 64) 0) (2 ^ (i % 64)) (j % 64)
        ∙ omega (arith, other-bit (i % 64) (j % 64) d)
        ∙ ap (λ (q : ℕ). get_or ws q 0 / 2 ^ (j % 64) % 2) (sym e)

-- exactly that id is added
pub in_inserted : (ws : List ℕ) (i j : ℕ) → i / 64 < length ws → In (inserted ws i) j ↔ ((j ≡ i) ⊎ In ws j)
in_inserted ws i j h = (into, back)
  where
    into : In (inserted ws i) j → (j ≡ i) ⊎ In ws j
    into e = elim (eq-or j i) [ inl q ↦ inl q | inr q ↦ inr (sym (insert-other ws i j h q) ∙ e) ]

    back : (j ≡ i) ⊎ In ws j → In (inserted ws i) j
    back (inl q) = rw q (insert-same ws i h)
    back (inr e) = elim (eq-or j i) [ inl q ↦ rw q (insert-same ws i h) | inr q ↦ insert-other ws i j h q ∙ e ]

pub inserted-length : (ws : List ℕ) (i : ℕ) → length (inserted ws i) ≡ length ws
unfolding inserted
inserted-length ws i = length-set ws (i / 64) (bit_or (get_or ws (i / 64) 0) (2 ^ (i % 64)))

-- ---- a union

joined_to-length : (ws us : List ℕ) (n : ℕ) → length (joined_to ws us n) ≡ length ws
unfolding joined_to
joined_to-length ws us zero = refl
joined_to-length ws us (suc n) = length-set (joined_to ws us n) n (bit_or (get_or ws n 0) (get_or us n 0)) ∙ joined_to-length ws us n

pub joined_length : (ws us : List ℕ) → length (joined ws us) ≡ length ws
unfolding joined
joined_length ws us = joined_to-length ws us (length ws)

joined-later : (ws us : List ℕ) (n q : ℕ) → n ≤ q → get_or (joined_to ws us n) q 0 ≡ get_or ws q 0
unfolding joined_to
joined-later ws us zero q h = refl
joined-later ws us (suc n) q h =
    get_or-set_other (joined_to ws us n) n q (bit_or (get_or ws n 0) (get_or us n 0)) 0 (λ e. omega arith) ∙ joined-later ws us n q (omega arith)

joined_to_at : (ws us : List ℕ) (n q : ℕ) → q < n → n ≤ length ws → get_or (joined_to ws us n) q 0 ≡ bit_or (get_or ws q 0) (get_or us q 0)
unfolding joined_to
joined_to_at ws us zero q h l = absurd (omega arith)
joined_to_at ws us (suc n) q h l =
    let v = bit_or (get_or ws n 0) (get_or us n 0) in
    elim (eq-or q n) [
      | inl e ↦
          ap (λ (x : ℕ). get_or (set (joined_to ws us n) n v) x 0) e ∙ get_or-set_same (joined_to ws us n) n v 0 (omega (arith, joined_to-length ws us n))
          ∙ ap (λ (x : ℕ). bit_or (get_or ws x 0) (get_or us x 0)) (sym e)
      | inr e ↦ get_or-set_other (joined_to ws us n) n q v 0 e ∙ joined_to_at ws us n q (omega arith) (omega arith)
    ]

-- word by word
pub joined_at : (ws us : List ℕ) (q : ℕ) → q < length ws → get_or (joined ws us) q 0 ≡ bit_or (get_or ws q 0) (get_or us q 0)
unfolding joined
joined_at ws us q h = joined_to_at ws us (length ws) q h (omega arith)

join-bit : (ws us : List ℕ) (i : ℕ) → i / 64 < length ws → bit (joined ws us) i ≡ max (bit ws i) (bit us i)
unfolding bit
join-bit ws us i h = rw (joined_at ws us (i / 64) h) (or-bit (get_or ws (i / 64) 0) (get_or us (i / 64) 0) (i % 64))

pub in_joined : (ws us : List ℕ) (i : ℕ) → length us ≡ length ws → In (joined ws us) i ↔ (In ws i ⊎ In us i)
in_joined ws us i l = elim (lt-or (i / 64) (length ws)) [ inl h ↦ inside h | inr h ↦ outside h ]
  where
    inside : i / 64 < length ws → In (joined ws us) i ↔ (In ws i ⊎ In us i)
    inside h =
        let e = join-bit ws us i h in
        let x = bit_two ws i in
        let y = bit_two us i in
        (λ f. elim (eq-or (bit ws i) 1) [ inl q ↦ inl q | inr q ↦ inr (omega arith) ], elim [ inl q ↦ omega arith | inr q ↦ omega arith ])

    outside : length ws ≤ i / 64 → In (joined ws us) i ↔ (In ws i ⊎ In us i)
    outside h =
        let e = past_words (joined ws us) i (omega (arith, joined_length ws us)) in
        let x = past_words ws i h in
        let y = past_words us i (omega arith) in
        (λ f. absurd (omega arith), elim [ inl q ↦ absurd (omega arith) | inr q ↦ absurd (omega arith) ])

-- ---- the members of a word

in_one : (x : Bool) (a n : ℕ) → Memᴰ a (one_if x n) → (x ≡ true) × (a ≡ n)
in_one true a n m = elim (Memᴰ.cases_cons m) [ inl e ↦ (refl, e) | inr k ↦ absurd (Memᴰ.not-nil k) ]
in_one false a n m = absurd (Memᴰ.not-nil m)

one_in : (x : Bool) (n : ℕ) → x ≡ true → Memᴰ n (one_if x n)
one_in true n e = Memᴰ.head refl
one_in false n e = absurd (let z : ◌≡◌ {A = ℕ} 0 1 = cc in omega arith)

one-length : (b i : ℕ) → b < 2 → length (one_if (eqb b 1) i) ≡ b
one-length zero i h = refl
one-length (suc zero) i h = refl
one-length (suc (suc b)) i h = absurd (omega arith)

word_in : (base w k a : ℕ) → Memᴰ a (word_members base w k) → (r : ℕ) × (r < k) × (a ≡ base + r) × (w / 2 ^ r % 2 ≡ 1)
unfolding word_members
word_in base w zero a m = absurd (Memᴰ.not-nil m)
word_in base w (suc k) a m =
    elim (Memᴰ.append_cases (word_members base w k) m) [
      | inl i ↦ let t = word_in base w k a i in (t.0, omega (arith, t.1), t.2, t.3)
      | inr i ↦ let t = in_one (eqb (w / 2 ^ k % 2) 1) a (base + k) i in (k, omega arith, t.1, eqb-true (w / 2 ^ k % 2) 1 t.0)
    ]

in_word_lem : (base w k r : ℕ) → r < k → w / 2 ^ r % 2 ≡ 1 → Memᴰ (base + r) (word_members base w k)
unfolding word_members
in_word_lem base w zero r h e = absurd (omega arith)
in_word_lem base w (suc k) r h e =
    elim (eq-or r k) [
      | inl q ↦
          Memᴰ.append_right (word_members base w k)
          (rw q (one_in (eqb (w / 2 ^ k % 2) 1) (base + k) (eq-eqb (w / 2 ^ k % 2) 1 (subst (λ (x : ℕ). w / 2 ^ x % 2 ≡ 1) q e))))
      | inr q ↦ Memᴰ.append_left (one_if (eqb (w / 2 ^ k % 2) 1) (base + k)) (in_word_lem base w k r (omega arith) e)
    ]

asc_append : {k l : List ℕ} → Ascending k → Ascending l → ((a b : ℕ) → Memᴰ a k → Memᴰ b l → a < b) → Ascending (k ++ l)
asc_append asc[] al h = al
asc_append {l = l} (asc∷ {a} {l = k} lt ak) al h =
    asc∷ {a = a} {l = k ++ l} (λ b m. elim (Memᴰ.append_cases k m) [ inl i ↦ lt b i | inr i ↦ h a b (Memᴰ.head refl) i ])
    (asc_append ak al (λ c d m i. h c d (Memᴰ.tail m) i))

asc_one : (x : Bool) (n : ℕ) → Ascending (one_if x n)
asc_one true n = asc∷ (λ b m. absurd (Memᴰ.not-nil m)) asc[]
asc_one false n = asc[]

word_asc : (base w k : ℕ) → Ascending (word_members base w k)
unfolding word_members
word_asc base w zero = asc[]
word_asc base w (suc k) =
    asc_append (word_asc base w k) (asc_one (eqb (w / 2 ^ k % 2) 1) (base + k)) (λ a b m i.
    let t = word_in base w k a m in
    omega (arith, t.1, t.2, (in_one (eqb (w / 2 ^ k % 2) 1) b (base + k) i).1))

-- as many as the word has ones
ones_two : (b : ℕ) → b < 2 → ones b ≡ b
unfolding ones ones_in
ones_two zero h = refl
ones_two (suc zero) h = refl
ones_two (suc (suc b)) h = absurd (omega arith)

low_ones : (base w k : ℕ) → length (word_members base w k) ≡ ones (w % 2 ^ k)
unfolding word_members
low_ones base w zero = let z : w % 1 ≡ 0 = omega arith in sym (ap ones z ∙ ones_two 0 (omega arith))
low_ones base w (suc k) =
    let b = w / 2 ^ k % 2 in
    let lt : b < 2 = mod-lt (w / 2 ^ k) (omega arith) in
    length-append (word_members base w k) (one_if (eqb b 1) (base + k))
    ∙ omega (arith, low_ones base w k, one-length b (base + k) lt, ones_two b lt, ones_cat k b (w % 2 ^ k) (mod-lt w (pow_pos k)))
    ∙ ap ones (sym (mod-pow-add w 1 k) ∙ ap (λ (x : ℕ). w % 2 ^ x) (one-add k))

pub word_ones : (base w k : ℕ) → w < 2 ^ k → length (word_members base w k) ≡ ones w
word_ones base w k h = low_ones base w k ∙ ap ones (mod-eq_of_lt h)

-- nothing is left of the word above j
word_done : (base w j k : ℕ) → j ≤ k → w / 2 ^ j ≡ 0 → word_members base w k ≡ word_members base w j
unfolding word_members
word_done base w j zero h e = let z : j ≡ 0 = omega arith in rw z
word_done base w j (suc k) h e =
    elim (lt-or k j) [
      | inl g ↦ let z : j ≡ suc k = omega arith in rw z
      | inr g ↦
          let b : w / 2 ^ k ≡ 0
          = let q : j + (k - j) ≡ k = omega arith in
          ap (λ (x : ℕ). w / 2 ^ x) (sym q) ∙ sym (shr-shr w j (k - j)) ∙ ap (λ (x : ℕ). x / 2 ^ (k - j)) e ∙ div-eq_of_lt {n = 0} (pow_pos (k - j)) in
          ap (λ (x : ℕ). word_members base w k ++ one_if (eqb (x % 2) 1) (base + k)) b ∙ append-nil (word_members base w k) ∙ word_done base w j k g e
    ]

word_grows : (base w j k : ℕ) → j ≤ k → length (word_members base w j) ≤ length (word_members base w k)
unfolding word_members
word_grows base w j zero h = let z : j ≡ 0 = omega arith in rw z (omega arith)
word_grows base w j (suc k) h =
    elim (lt-or k j) [
      | inl g ↦ let z : j ≡ suc k = omega arith in rw z (omega arith)
      | inr g ↦ omega (arith, word_grows base w j k g, length-append (word_members base w k) (one_if (eqb (w / 2 ^ k % 2) 1) (base + k)))
    ]

word_step : (base w j x : ℕ) → x ≡ w / 2 ^ j → word_members base w (j + 1) ≡ word_members base w j ++ one_if (eqb (x % 2) 1) (base + j)
unfolding word_members
word_step base w j x e = rw (add-one j, e)

-- ---- the members of a set

members_to_in : (ws : List ℕ) (q a : ℕ) → Memᴰ a (members_to ws q) → (a < q * 64) × In ws a
unfolding members_to bit
members_to_in ws zero a m = absurd (Memᴰ.not-nil m)
members_to_in ws (suc q) a m =
    elim (Memᴰ.append_cases (members_to ws q) m) [
      | inl i ↦ let t = members_to_in ws q a i in (omega (arith, t.0), t.1)
      | inr i ↦ last (word_in (q * 64) (get_or ws q 0) 64 a i)
    ]
  where
    last : (r : ℕ) × (r < 64) × (a ≡ q * 64 + r) × (get_or ws q 0 / 2 ^ r % 2 ≡ 1) → (a < suc q * 64) × (get_or ws (a / 64) 0 / 2 ^ (a % 64) % 2 ≡ 1)
    last t =
        let d : a / 64 ≡ q = omega (arith, t.1, t.2) in
        let r : a % 64 ≡ t.0 = omega (arith, t.1, t.2) in
        (omega (arith, t.1, t.2), rw (d, r) t.3)

in_members_to : (ws : List ℕ) (q a : ℕ) → a < q * 64 → In ws a → Memᴰ a (members_to ws q)
unfolding members_to bit
in_members_to ws zero a h e = absurd (omega arith)
in_members_to ws (suc q) a h e =
    elim (lt-or a (q * 64)) [
      | inl g ↦ Memᴰ.append_left (word_members (q * 64) (get_or ws q 0) 64) (in_members_to ws q a g e)
      | inr g ↦
          let d : a / 64 ≡ q = omega arith in
          let r : q * 64 + a % 64 ≡ a = omega arith in
          let m = in_word_lem (q * 64) (get_or ws q 0) 64 (a % 64) (mod-lt a (omega arith)) (subst (λ (x : ℕ). get_or ws x 0 / 2 ^ (a % 64) % 2 ≡ 1) d e) in
          Memᴰ.append_right (members_to ws q) (subst (λ (x : ℕ). Memᴰ x (word_members (q * 64) (get_or ws q 0) 64)) r m)
    ]

-- exactly the ids of the set
pub members_in : (ws : List ℕ) (a : ℕ) → Memᴰ a (members_of ws) ↔ In ws a
unfolding members_of
members_in ws a = (λ m. (members_to_in ws (length ws) a m).1, λ e. in_members_to ws (length ws) a (in_below ws a e) e)

members_to_asc : (ws : List ℕ) (q : ℕ) → Ascending (members_to ws q)
unfolding members_to
members_to_asc ws zero = asc[]
members_to_asc ws (suc q) =
    asc_append (members_to_asc ws q) (word_asc (q * 64) (get_or ws q 0) 64) (λ a b m i.
    omega (arith, (members_to_in ws q a m).0, (word_in (q * 64) (get_or ws q 0) 64 b i).2))

pub members_asc : (ws : List ℕ) → Ascending (members_of ws)
unfolding members_of
members_asc ws = members_to_asc ws (length ws)

-- any ascending list with the same ids is that list
pub members_are : (ws : List ℕ) {l : List ℕ} → Ascending l → ((a : ℕ) → Memᴰ a l ↔ In ws a) → members_of ws ≡ l
members_are ws al h = asc_ext (members_asc ws) al (λ a. (λ m. (h a).1 ((members_in ws a).0 m), λ m. (members_in ws a).1 ((h a).0 m)))

-- ---- a list put into a part

pub put_none : (p : List ℕ) (n : ℕ) → Put p n p n []
put_none p n = record { count = omega arith; list = sym (append-nil (take n p)); rest = refl }

pub put_both : (p q s : List ℕ) (n m r : ℕ) (k l : List ℕ) → Put p n q m k → Put q m s r l → Put p n s r (k ++ l)
put_both p q s n m r k l a b =
    let e : m + (r - m) ≡ r = omega (arith, b.count) in
    let d : drop r q ≡ drop r p
    = ap (λ (x : ℕ). drop x q) (sym e) ∙ sym (drop-drop (r - m) m q) ∙ ap (drop (r - m)) a.rest ∙ drop-drop (r - m) m p ∙ ap (λ (x : ℕ). drop x p) e in
    record {
      count = omega (arith, a.count, b.count, length-append k l);
      list = b.list ∙ ap (λ (x : List ℕ). x ++ l) a.list ∙ append_assoc (take n p) k l;
      rest = b.rest ∙ d;
    }

pub put_one : (p : List ℕ) (n i x : ℕ) → n < length p → x ≡ i → Put p n (set p n x) (n + 1) (i ∷ [])
put_one p n i x h ex =
    record {
      count = omega arith;
      list = rw (add-one n, take-suc-set p n x h, ex);
      rest = drop-set-lt (n + 1) p n x (omega arith);
    }

-- a word, of which x is left at bit j
module _ (base w j x : ℕ) (ex : x ≡ w / 2 ^ j) where
  -- its lowest bit that is 1 is bit t, so none of those below it is a member
  word_passed : (t : ℕ) → ((i : ℕ) → i < t → bit_at x i ≡ 0) → word_members base w (j + t) ≡ word_members base w j
  word_passed zero h = ap (word_members base w) (omega arith)
  word_passed (suc t) h =
      let e : j + suc t ≡ j + t + 1 = omega arith in
      let b : w / 2 ^ (j + t) % 2 ≡ 0 = ap (λ (y : ℕ). y % 2) (sym (shr-shr w j t) ∙ ap (λ (y : ℕ). y / 2 ^ t) (sym ex)) ∙ h t (omega arith) in
      rw (e, word_step base w (j + t) (w / 2 ^ (j + t)) refl, b, append-nil (word_members base w (j + t))) (word_passed t (λ i g. h i (omega arith)))

  module _ (t : ℕ) (one : bit_at x t ≡ 1) (zeros : (i : ℕ) → i < t → bit_at x i ≡ 0) where
    word_bit : w / 2 ^ (j + t) % 2 ≡ 1
    word_bit = ap (λ (y : ℕ). y % 2) (sym (shr-shr w j t) ∙ ap (λ (y : ℕ). y / 2 ^ t) (sym ex)) ∙ one

    word_met : word_members base w (j + t + 1) ≡ word_members base w j ++ ((base + (j + t)) ∷ [])
    word_met = rw (word_step base w (j + t) (w / 2 ^ (j + t)) refl, word_bit, word_passed t zeros) refl

    pub word_inside : (k : ℕ) → w < 2 ^ k → j + t < k
    word_inside k h =
        elim (lt-or (j + t) k) [
          | inl g ↦ g
          | inr g ↦ let z : w / 2 ^ (j + t) % 2 ≡ 0 = ap (λ (y : ℕ). y % 2) (div-eq_of_lt (lt_of_lt_of_le h (pow_mono g))) in absurd (let q : ◌≡◌ {A = ℕ} 0 1 = sym z ∙ word_bit in omega arith)
        ]

    pub word_room : (k : ℕ) → j + t < k → length (word_members base w j) + 1 ≤ length (word_members base w k)
    word_room k h = omega (arith, length-append (word_members base w j) ((base + (j + t)) ∷ []), ap length word_met, word_grows base w (j + t + 1) k (omega arith))

    pub word_next : x / 2 ^ t / 2 ^ 1 ≡ w / 2 ^ (j + t + 1)
    word_next = shr-shr x t 1 ∙ ap (λ (y : ℕ). y / 2 ^ (t + 1)) ex ∙ shr-shr w j (t + 1) ∙ ap (λ (y : ℕ). w / 2 ^ y) (omega arith)

    pub word_put : (p q : List ℕ) (n m v : ℕ) → Put p n q m (word_members base w j) → m < length q → v ≡ base + (j + t) → Put p n (set q m v) (m + 1) (word_members base w (j + t + 1))
    word_put p q n m v a h e = rw word_met (put_both p q (set q m v) n m (m + 1) (word_members base w j) ((base + (j + t)) ∷ []) a (put_one q m (base + (j + t)) v h e))

  pub word_end : (p q : List ℕ) (n m k : ℕ) → j ≤ k → x ≡ 0 → Put p n q m (word_members base w j) → Put p n q m (word_members base w k)
  word_end p q n m k h z a = rw (word_done base w j k h (sym ex ∙ z)) a

pub word_none : (base w : ℕ) (p : List ℕ) (n : ℕ) → Put p n p n (word_members base w 0)
unfolding word_members
word_none base w p n = put_none p n

pub word_whole : (w : ℕ) → w ≡ w / 2 ^ 0
word_whole w = omega arith

-- word after word
members_to_more : (ws : List ℕ) (q : ℕ) → members_to ws (q + 1) ≡ members_to ws q ++ word_members (q * 64) (get_or ws q 0) 64
unfolding members_to
members_to_more ws q = rw (add-one q)

members_to_grows : (ws : List ℕ) (q n : ℕ) → q ≤ n → length (members_to ws q) ≤ length (members_to ws n)
unfolding members_to
members_to_grows ws q zero h = let z : q ≡ 0 = omega arith in rw z (omega arith)
members_to_grows ws q (suc n) h =
    elim (lt-or n q) [
      | inl g ↦ let z : q ≡ suc n = omega arith in rw z (omega arith)
      | inr g ↦ omega (arith, members_to_grows ws q n g, length-append (members_to ws n) (word_members (n * 64) (get_or ws n 0) 64))
    ]

module _ (ws : List ℕ) (q : ℕ) where
  pub set_room : q < length ws → length (members_to ws q) + length (word_members (q * 64) (get_or ws q 0) 64) ≤ length (members_of ws)
  unfolding members_of
  set_room h =
      omega (arith, length-append (members_to ws q) (word_members (q * 64) (get_or ws q 0) 64), ap length (members_to_more ws q), members_to_grows ws (q + 1) (length ws) (omega arith))

  pub set_put : (p t s : List ℕ) (n m r : ℕ) → Put p n t m (members_to ws q) → Put t m s r (word_members (q * 64) (get_or ws q 0) 64) → Put p n s r (members_to ws (q + 1))
  set_put p t s n m r a b = rw (members_to_more ws q) (put_both p t s n m r (members_to ws q) (word_members (q * 64) (get_or ws q 0) 64) a b)

  pub set_end : q ≡ length ws → members_to ws q ≡ members_of ws
  unfolding members_of
  set_end e = ap (members_to ws) e

  pub size_more : get_or ws q 0 < 2 ^ 64 → length (members_to ws q) + ones (get_or ws q 0) ≡ length (members_to ws (q + 1))
  size_more h =
      omega (arith, length-append (members_to ws q) (word_members (q * 64) (get_or ws q 0) 64), ap length (members_to_more ws q), word_ones (q * 64) (get_or ws q 0) 64 h)

pub set-none : (ws p : List ℕ) → Put p 0 p 0 (members_to ws 0)
unfolding members_to
set-none ws p = put_none p 0

pub size_none : (ws : List ℕ) → 0 ≡ length (members_to ws 0)
unfolding members_to
size_none ws = refl

pub joined-none : (ws us : List ℕ) → ws ≡ joined_to ws us 0
unfolding joined_to
joined-none ws us = refl

pub joined_more : (ws us vs : List ℕ) (q w : ℕ) → vs ≡ joined_to ws us q → w ≡ bit_or (get_or vs q 0) (get_or us q 0) → set vs q w ≡ joined_to ws us (q + 1)
unfolding joined_to
joined_more ws us vs q w e ew = rw (add-one, ew, e, joined-later ws us q q (omega arith))

pub joined_end : (ws us : List ℕ) (q : ℕ) → q ≡ length ws → joined_to ws us q ≡ joined ws us
unfolding joined
joined_end ws us q e = ap (joined_to ws us) e

pub inserted_is : (ws : List ℕ) (i b : ℕ) → b ≡ 2 ^ (i % 64) → set ws (i / 64) (bit_or (get_or ws (i / 64) 0) b) ≡ inserted ws i
unfolding inserted
inserted_is ws i b e = ap (λ (x : ℕ). set ws (i / 64) (bit_or (get_or ws (i / 64) 0) x)) e

-- no word for it
pub inserted_out : (ws : List ℕ) (i : ℕ) → length ws ≤ i / 64 → ws ≡ inserted ws i
unfolding inserted
inserted_out ws i h = sym (set_out ws (i / 64) (bit_or (get_or ws (i / 64) 0) (2 ^ (i % 64))) h)

-- ---- sets as they are lent

module _ (ws : List ℕ) where
  pub own-size : length ws ≡ 64 → size_of ws ≡ length (members_of ws)
  unfolding size_of
  own-size h = rw (eq-eqb (length ws) 64 h)

  pub no_size : (length ws ≡ 64 → ⊥) → 0 ≡ size_of ws
  unfolding size_of
  no_size h = rw (ne_eqb (length ws) 64 h)

  pub within_is : (k : ℕ) → length ws ≡ 64 → length (members_of ws) ≤ k → members_within ws k ≡ members_of ws
  unfolding members_within
  within_is k h g = rw (eq-eqb (length ws) 64 h, le-leb (length (members_of ws)) k g)

  pub within_no_set : (k : ℕ) → (length ws ≡ 64 → ⊥) → members_within ws k ≡ []
  unfolding members_within
  within_no_set k h = rw (ne_eqb (length ws) 64 h)

  pub within_short : (k : ℕ) → length ws ≡ 64 → k < length (members_of ws) → members_within ws k ≡ []
  unfolding members_within
  within_short k h g = rw (eq-eqb (length ws) 64 h, lt-leb (length (members_of ws)) k g)

  pub put_nothing : (part : List ℕ) (k : ℕ) → members_within ws k ≡ [] → Put part 0 part 0 (members_within ws k)
  put_nothing part k e = rw e (put_none part 0)
