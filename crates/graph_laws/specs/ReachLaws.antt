-- The test of reaching is exactly the predicate. Assumes nothing.
use Prim.Native.Nat.{ℕ, zero, suc, ◌<◌}
use mathlib.Core.List.{List, [], ◌∷◌, Memᴰ}
use Rattle.std.proofs.Math.Path.{subst}
use Rattle.std.specs.Prelude.{Bool, true, false, ◌||◌, ◌⊎◌, ◌↔◌, eqb}
use Rattle.std.proofs.Math.Logic.{inl, inr}
use Rattle.std.proofs.Common.{arith, not-suc-le-zero, eqb→eq}
use Rattle.std.proofs.Math.Decide.{ℕ_discrete}
use Rattle.std.proofs.Math.Dec.{T, eqb_refl}
use Rattle.graph.specs.Lists.{has}
use Rattle.graph.specs.Reach.{Reach, here, on, reaches}

-- tests of Booleans, as facts
or_cases : (x y : Bool) → T (x || y) → T x ⊎ T y
or_cases true y t = inl tt
or_cases false y t = inr t

or_left : (x y : Bool) → T x → T (x || y)
or_left true y t = tt
or_left false y t = absurd t

or_right : (x y : Bool) → T y → T (x || y)
or_right true y t = tt
or_right false y t = t

split : (x y z : Bool) → T (elim x [ true ↦ true | false ↦ elim y [ true ↦ z | false ↦ false ] ]) → T x ⊎ (T y × T z)
split true y z t = inl tt
split false true z t = inr (tt, t)
split false false z t = absurd t

first : (x y z : Bool) → T x → T (elim x [ true ↦ true | false ↦ elim y [ true ↦ z | false ↦ false ] ])
first true y z t = tt
first false y z t = absurd t

second : (x y z : Bool) → T y → T z → T (elim x [ true ↦ true | false ↦ elim y [ true ↦ z | false ↦ false ] ])
second true y z t u = tt
second false true z t u = u
second false false z t u = absurd t

pub has→mem : (a : ℕ) (l : List ℕ) → T (has a l) → Memᴰ a l
unfolding has
has→mem a [] t = absurd t
has→mem a (b ∷ l) t = elim (or_cases (eqb a b) (has a l) t) [ inl e ↦ Memᴰ.head (eqb→eq a b e) | inr u ↦ Memᴰ.tail (has→mem a l u) ]

pub mem→has : {a : ℕ} {l : List ℕ} → Memᴰ a l → T (has a l)
unfolding has
mem→has {a} (Memᴰ.head {x} {xs} e) = or_left (eqb a x) (has a xs) (subst (λ (y : ℕ). T (eqb a y)) e (eqb_refl a))
mem→has {a} (Memᴰ.tail {x} {xs} m) = or_right (eqb a x) (has a xs) (mem→has m)

pub Reach·join : {step : ℕ → List ℕ} {a b c : ℕ} → Reach step a b → Reach step b c → Reach step a c
Reach·join r here = r
Reach·join r (on s m) = on (Reach·join r s) m

module _ (step : ℕ → List ℕ) where
  pub reaches_sound : (k a b : ℕ) → T (reaches step k a b) → Reach step a b
  unfolding reaches
  reaches_sound zero a b t =
      elim (or_cases (eqb a b) (has b (step a)) t) [
        | inl e ↦ subst (Reach step a) (eqb→eq a b e) here
        | inr u ↦ on here (has→mem b (step a) u)
      ]
  reaches_sound (suc k) a b t =
      elim (split (reaches step k a b) (reaches step k a k) (reaches step k k b) t) [
        | inl u ↦ reaches_sound k a b u
        | inr u ↦ Reach·join (reaches_sound k a k u.0) (reaches_sound k k b u.1)
      ]

  reaches_here : (k a : ℕ) → T (reaches step k a a)
  unfolding reaches
  reaches_here zero a = or_left (eqb a a) (has a (step a)) (eqb_refl a)
  reaches_here (suc k) a = first (reaches step k a a) (reaches step k a k) (reaches step k k a) (reaches_here k a)

  reaches_step : (k a b : ℕ) → Memᴰ b (step a) → T (reaches step k a b)
  unfolding reaches
  reaches_step zero a b m = or_right (eqb a b) (has b (step a)) (mem→has m)
  reaches_step (suc k) a b m = first (reaches step k a b) (reaches step k a k) (reaches step k k b) (reaches_step k a b m)

  -- by way of node k
  reaches_top : (k a b : ℕ) → T (reaches step (suc k) a k) → T (reaches step (suc k) k b) → T (reaches step (suc k) a b)
  unfolding reaches
  reaches_top k a b t u =
      second (reaches step k a b) (reaches step k a k) (reaches step k k b)
      (elim (split (reaches step k a k) (reaches step k a k) (reaches step k k k) t) [ inl p ↦ p | inr p ↦ p.0 ])
      (elim (split (reaches step k k b) (reaches step k k k) (reaches step k k b) u) [ inl q ↦ q | inr q ↦ q.1 ])

  -- by way of a node c below k
  reaches_low : (k c a b : ℕ) (ih : (x y : ℕ) → T (reaches step k x c) → T (reaches step k c y) → T (reaches step k x y))
      → T (reaches step (suc k) a c) → T (reaches step (suc k) c b) → T (reaches step (suc k) a b)
  unfolding reaches
  reaches_low k c a b ih t u =
      let A : Type 0 = T (reaches step k a b) ⊎ (T (reaches step k a k) × T (reaches step k k b)) in
      let go : T (reaches step k a c) ⊎ (T (reaches step k a k) × T (reaches step k k c)) → T (reaches step k c b) ⊎ (T (reaches step k c k) × T (reaches step k k b)) → A
      = elim [
        | inl p ↦ elim [ inl q ↦ inl (ih a b p q) | inr q ↦ inr (ih a k p q.0, q.1) ]
        | inr p ↦ elim [ inl q ↦ inr (p.0, ih k b p.1 q) | inr q ↦ inr (p.0, q.1) ]
      ]
      in
      elim (go (split (reaches step k a c) (reaches step k a k) (reaches step k k c) t) (split (reaches step k c b) (reaches step k c k) (reaches step k k b) u)) [
        | inl p ↦ first (reaches step k a b) (reaches step k a k) (reaches step k k b) p
        | inr p ↦ second (reaches step k a b) (reaches step k a k) (reaches step k k b) p.0 p.1
      ]

  reaches-join : (k c a b : ℕ) → c < k → T (reaches step k a c) → T (reaches step k c b) → T (reaches step k a b)
  reaches-join zero c a b h t u = absurd (not-suc-le-zero h)
  reaches-join (suc k) c a b h t u =
      elim (ℕ_discrete c k) [
        | yes e ↦ reaches_top k a b (subst (λ (x : ℕ). T (reaches step (suc k) a x)) e t) (subst (λ (x : ℕ). T (reaches step (suc k) x b)) e u)
        | no ne ↦ reaches_low k c a b (λ x y. reaches-join k c x y (omega arith)) t u
      ]

  -- where only nodes below n take steps, the test finds every way
  pub reaches_complete : (n : ℕ) (inside : (b c : ℕ) → Memᴰ c (step b) → b < n) {a b : ℕ} → Reach step a b → T (reaches step n a b)
  reaches_complete n inside {a} here = reaches_here n a
  reaches_complete n inside {a} (on {b} {c} r m) = reaches-join n b a c (inside b c m) (reaches_complete n inside r) (reaches_step n b c m)

  pub reaches_exact : (n : ℕ) (inside : (b c : ℕ) → Memᴰ c (step b) → b < n) (a b : ℕ) → T (reaches step n a b) ↔ Reach step a b
  reaches_exact n inside a b = (reaches_sound n a b, reaches_complete n inside)
