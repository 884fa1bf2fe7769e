-- The sets of all RETURNs joined in one, so that one list of members says whether all their ids are those of n nodes.
-- Assumes nothing.
use Prim.Native.Nat.{ℕ, zero, suc, ◌+◌, ◌*◌, ◌≤◌, ◌<◌}
use Rattle.std.specs.Prelude.{◌≡◌, Bool, ◌⊎◌, ltb, length, get_or, drop, replicate}
use Rattle.std.proofs.Math.Path.{refl, sym, ap}
use Rattle.std.proofs.Common.{◌∙◌, inl, inr}
use Rattle.std.proofs.Math.Bool.{true, false}
use mathlib.Core.List.Memᴰ
use mathlib.Core.List.{List, [], ◌∷◌, Memᴰ}
use Rattle.std.proofs.Math.Logic.{⊎_elim}
use native.Mathlib.Omega.{arith}
use Rattle.std.proofs.Math.Decide.{ℕ_discrete}
use borrow.Author.Tests.{ltb-true, lt-ltb, eqb-true, eq-eqb, ne_eqb}
use Rattle.std.proofs.Math.Dec.{eqb}
use Rattle.std.proofs.Math.ListN.{length-drop, length-replicate, take}
use Rattle.std.proofs.Math.Seq.{length-take-le}
use Rattle.layout.specs.Layout.{return_word}
use Rattle.listings.specs.Bytes.{pick}
use Rattle.listings.specs.Every.{all[], all∷}
use Rattle.graph_laws.specs.EdgeBounds.{Ids}
use Rattle.tables.specs.Columns.{word_of}
use Rattle.tables.specs.Readable.{every_below, ids_below, every_at, every_all}
use Rattle.passes.specs.Sets.{In, joined, members_of, members_within, Put}
use Rattle.passes.specs.SetLaws.{none_in, in_joined, joined_length, members_in, within_is}
use Rattle.passes.specs.ReturnSets.{set_of}
use Rattle.passes.specs.ReturnTotals.{members_few}

-- the set of a RETURN has ids of n nodes; of any other nothing is read
unfoldable pub set_readable : (stmts args : List ℕ) (n i : ℕ) → Bool
set_readable stmts args n i = pick (eqb (word_of stmts i) return_word) (ids_below n (members_of (set_of args i))) true

-- the set of node i joined with ws, where that is a RETURN
unfoldable pub joined_return : (stmts args : List ℕ) (i : ℕ) → List ℕ → List ℕ
joined_return stmts args i ws = pick (eqb (word_of stmts i) return_word) (joined ws (set_of args i)) ws

-- those of all RETURNs among n nodes
unfoldable pub joined_returns : (stmts args : List ℕ) (n : ℕ) → List ℕ
joined_returns stmts args zero = replicate 64 0
joined_returns stmts args (suc n) = joined_return stmts args n (joined_returns stmts args n)

-- ---- ids

pub ids_all : (n : ℕ) (l : List ℕ) → ((k : ℕ) → k < length l → get_or l k 0 < n) → Ids n l
ids_all n [] f = all[]
ids_all n (a ∷ l) f = all∷ (f 0 (omega arith)) (ids_all n l (λ k h. f (suc k) (omega arith)))

ids_at : {n : ℕ} {l : List ℕ} → Ids n l → (k : ℕ) → k < length l → get_or l k 0 < n
ids_at all[] k h = absurd (omega arith)
ids_at (all∷ p ps) zero h = p
ids_at (all∷ p ps) (suc k) h = ids_at ps k (omega arith)

pub ids-read : (n : ℕ) (l : List ℕ) → ids_below n l ≡ true → Ids n l
unfolding ids_below
ids-read n l h = ids_all n l (λ k g. ltb-true (get_or l k 0) n (every_at (λ k. ltb (get_or l k 0) n) (length l) h k g))

pub read-ids : (n : ℕ) (l : List ℕ) → Ids n l → ids_below n l ≡ true
unfolding ids_below
read-ids n l h = every_all (λ k. ltb (get_or l k 0) n) (length l) (λ k g. lt-ltb (get_or l k 0) n (ids_at h k g))

ids_mem : (n : ℕ) (l : List ℕ) → ((a : ℕ) → Memᴰ a l → a < n) → Ids n l
ids_mem n [] g = all[]
ids_mem n (a ∷ l) g = all∷ (g a (Memᴰ.head refl)) (ids_mem n l (λ b i. g b (Memᴰ.tail i)))

mem_ids : {n : ℕ} {l : List ℕ} → Ids n l → (a : ℕ) → Memᴰ a l → a < n
mem_ids all[] a m = absurd (Memᴰ.not-nil m)
mem_ids {n} (all∷ {a = b} {l = l} p h) a m = ⊎_elim (λ e. rw e p) (λ i. mem_ids h a i) (Memᴰ.cases_cons m)

-- ---- one RETURN

module _ (stmts args : List ℕ) (i : ℕ) where
  pub join-other : (ws : List ℕ) → (get_or stmts (i * 12) 0 ≡ return_word → ⊥) → ws ≡ joined_return stmts args i ws
  unfolding joined_return word_of
  join-other ws w = rw (ne_eqb (get_or stmts (i * 12) 0) 9 w)

  set-length : i * 64 + 64 ≤ length args → length (set_of args i) ≡ 64
  unfolding set_of
  set-length h = length-take-le 64 (drop (i * 64) args) (omega (arith, length-drop (i * 64) args))

  pub join_one : {m : ℕ} (ws ws' : List ℕ) → m ≡ 64 → length ws ≡ 64 → i * 64 + 64 ≤ length args → get_or stmts (i * 12) 0 ≡ return_word
      → ws' ≡ pick (eqb (length (take m (drop (i * 64) args))) (length ws)) (joined ws (take m (drop (i * 64) args))) ws → ws' ≡ joined_return stmts args i ws
  unfolding joined_return word_of set_of
  join_one {m} ws ws' k l h w e =
      let q : take m (drop (i * 64) args) ≡ take 64 (drop (i * 64) args) = ap (λ (x : ℕ). take x (drop (i * 64) args)) k in
      let s : eqb (length (take 64 (drop (i * 64) args))) (length ws) ≡ true = eq-eqb (length (take 64 (drop (i * 64) args))) (length ws) (set-length h ∙ sym l) in
      rw (eq-eqb (get_or stmts (i * 12) 0) 9 w) (rw (q, s) at e)

-- ---- all of them

pick-length : (b : Bool) (ws us : List ℕ) → length ws ≡ 64 → length (pick b (joined ws us) ws) ≡ 64
pick-length true ws us e = joined_length ws us ∙ e
pick-length false ws us e = e

in_more : (b : Bool) (ws us : List ℕ) (a : ℕ) → length us ≡ length ws → In ws a → In (pick b (joined ws us) ws) a
in_more true ws us a e g = (in_joined ws us a e).1 (inl g)
in_more false ws us a e g = g

in_split : (b : Bool) (ws us : List ℕ) (a : ℕ) → length us ≡ length ws → In (pick b (joined ws us) ws) a → In ws a ⊎ ((b ≡ true) × In us a)
in_split true ws us a e g = ⊎_elim (λ k. inl k) (λ k. inr (refl, k)) ((in_joined ws us a e).0 g)
in_split false ws us a e g = inl g

module _ (stmts args : List ℕ) where
  pub join-none : replicate 64 0 ≡ joined_returns stmts args 0
  unfolding joined_returns
  join-none = refl

  pub join_next : (i : ℕ) (ws ws' : List ℕ) → ws ≡ joined_returns stmts args i → ws' ≡ joined_return stmts args i ws → ws' ≡ joined_returns stmts args (i + 1)
  unfolding joined_returns
  join_next i ws ws' e f = let z : i + 1 ≡ suc i = omega arith in f ∙ ap (joined_return stmts args i) e ∙ ap (joined_returns stmts args) (sym z)

  pub join-length : (n : ℕ) → length (joined_returns stmts args n) ≡ 64
  unfolding joined_returns joined_return
  join-length zero = length-replicate {A = ℕ} 64 0
  join-length (suc n) = pick-length (eqb (word_of stmts n) return_word) (joined_returns stmts args n) (set_of args n) (join-length n)

  as_long : (n : ℕ) → suc n * 64 ≤ length args → length (set_of args n) ≡ length (joined_returns stmts args n)
  as_long n h = set-length stmts args n (omega arith) ∙ sym (join-length n)

  -- what is in one is in all
  in_all : (n : ℕ) → n * 64 ≤ length args → (i : ℕ) → i < n → word_of stmts i ≡ return_word → (a : ℕ) → In (set_of args i) a → In (joined_returns stmts args n) a
  unfolding joined_returns joined_return
  in_all zero h i lt w a g = absurd (omega arith)
  in_all (suc n) h i lt w a g =
      elim (ℕ_discrete i n) [
        | yes y ↦ rw (eq-eqb (word_of stmts n) 9 (rw y at w)) ((in_joined (joined_returns stmts args n) (set_of args n) a (as_long n h)).1 (inr (rw y at g)))
        | no ne ↦ in_more (eqb (word_of stmts n) return_word) (joined_returns stmts args n) (set_of args n) a (as_long n h) (in_all n (omega arith) i (omega arith) w a g)
      ]

  -- and what is in all is in one
  in_one : (P : ℕ → Type 0) (n : ℕ) → n * 64 ≤ length args → ((i : ℕ) → i < n → word_of stmts i ≡ return_word → (a : ℕ) → In (set_of args i) a → P a) → (a : ℕ) → In (joined_returns stmts args n) a → P a
  unfolding joined_returns joined_return
  in_one P zero h f a g = absurd (none_in 64 a g)
  in_one P (suc n) h f a g =
      ⊎_elim (λ k. in_one P n (omega arith) (λ i lt. f i (omega arith)) a k) (λ k. f n (omega arith) (eqb-true (word_of stmts n) 9 k.0) a k.1)
      (in_split (eqb (word_of stmts n) return_word) (joined_returns stmts args n) (set_of args n) a (as_long n h) g)

  both : (x y : Bool) → (x ≡ true → y ≡ true) → (y ≡ true → x ≡ true) → x ≡ y
  both true y f g = sym (f refl)
  both false true f g = g refl
  both false false f g = refl

  -- so the test of all is the test of each
  join_test : (n : ℕ) → n * 64 ≤ length args → ids_below n (members_of (joined_returns stmts args n)) ≡ every_below (set_readable stmts args n) n
  unfolding set_readable
  join_test n h = both (ids_below n (members_of (joined_returns stmts args n))) (every_below (set_readable stmts args n) n) each all
    where
      each : ids_below n (members_of (joined_returns stmts args n)) ≡ true → every_below (set_readable stmts args n) n ≡ true
      each e = every_all (set_readable stmts args n) n (λ i lt. go i lt (eqb (word_of stmts i) return_word) refl)
        where
          go : (i : ℕ) → i < n → (b : Bool) → eqb (word_of stmts i) return_word ≡ b → pick b (ids_below n (members_of (set_of args i))) true ≡ true
          go i lt true w =
              read-ids n (members_of (set_of args i)) (ids_mem n (members_of (set_of args i)) (λ a m.
              mem_ids (ids-read n (members_of (joined_returns stmts args n)) e) a ((members_in (joined_returns stmts args n) a).1 (in_all n h i lt (eqb-true (word_of stmts i) 9 w) a ((members_in (set_of args i) a).0 m)))))
          go i lt false w = refl

      all : every_below (set_readable stmts args n) n ≡ true → ids_below n (members_of (joined_returns stmts args n)) ≡ true
      all e =
          read-ids n (members_of (joined_returns stmts args n)) (ids_mem n (members_of (joined_returns stmts args n)) (λ a m.
          in_one (λ a. a < n) n h (λ i lt w b k.
          mem_ids (ids-read n (members_of (set_of args i)) (rw (eq-eqb (word_of stmts i) 9 w) at (every_at (set_readable stmts args n) n e i lt))) b ((members_in (set_of args i) b).1 k))
          a ((members_in (joined_returns stmts args n) a).0 m)))

  -- as the code answers, with the members of all in a buffer of 4,096 entries
  module _ (n : ℕ) {all part part' : List ℕ} {r : ℕ} (h : n * 64 ≤ length args) (e : all ≡ joined_returns stmts args n) (l : length part ≡ 4096) (p : Put part 0 part' r (members_within all (length part))) where
    all_members : r ≡ length (members_of all)
    all_members =
        let k : length all ≡ 64 = ap length e ∙ join-length n in
        let f = within_is all (length part) k (omega (arith, members_few all)) in
        omega (arith, p.count, ap length f)

    pub all-inside : length part' ≡ length part → r ≤ length part'
    all-inside s = let k : length all ≡ 64 = ap length e ∙ join-length n in omega (arith, all_members, members_few all)

    pub all_by : (good : Bool) → good ≡ ids_below n (take r part') → good ≡ every_below (set_readable stmts args n) n
    all_by good g =
        let k : length all ≡ 64 = ap length e ∙ join-length n in
        let f = within_is all (length part) k (omega (arith, members_few all)) in
        g ∙ ap (ids_below n) (p.list ∙ f) ∙ ap (λ (x : List ℕ). ids_below n (members_of x)) e ∙ join_test n h
