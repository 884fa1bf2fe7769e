-- The statements of a line, one after the other. Assumes nothing.
use Rattle.std.specs.Prelude.{ℕ, zero, suc, ◌+◌, ◌≤◌, ◌≡◌, refl, List, [], ◌∷◌, Bool, true, false, ◌&&◌, ◌||◌, not, eqb, leb, ltb, length, Result, Ok, Err}
use Rattle.std.proofs.Common.{arith, sym, ap, ◌∙◌, add-one}
use Rattle.std.proofs.Math.ListN.{length-map}
use borrow.Author.Tests.{ne_eqb, eq-eqb, leb-true, leb-false, le-ltb, lt-ltb}
use Rattle.listings.specs.Bytes.{pick}
use Rattle.listings.specs.Listing.{Simple, jump, on, for, next, block, bare, if, to, stmts, absent, Stmts, ∅, ◌▸◌, branching, size}
use Rattle.listings.specs.ListingText.{listed}
use Rattle.listings.specs.Records.{slot_key, args_of}
use Rattle.program_files.specs.Program as definition
use Rattle.program_files.specs.Program.{Placed, Cover, behind, counts, counted, join_go, Found, found, lacks, map_found, digits, line_number, characters, with_kind, name, after_comma, several, does, jumps, holds, ends, seek, branch, if_action, on_action, next_action, run_action, action, pass_over, body, bad, map_body, body_of, shallow, short}
use Rattle.basic.specs.Actions.{coded}
use Rattle.basic.specs.Bodies.{summary}
use Rattle.basic.specs.Fuel.{rest_shorter, action_shorter, action_more, pass_shorter}
use Rattle.basic.specs.Rests as rests
use Rattle.basic.specs.Rests.{Rest, rest-zero, pass_rest, zero_at}
use Rattle.basic.specs.declared.actions.Action.TheVariants as coding
use Rattle.basic.specs.declared.bodies.Body.{Body}
use Rattle.basic.specs.declared.found.Lack.{Lack}

-- a statement's rest is no longer than what stands behind its first byte
action-rest : {o : definition.Action} (b : ℕ) (m x : List Placed) → action (length m) b m ≡ found o x → length x ≤ length m
action-rest b m x e = let h = rest_shorter (suc (length m)) e (action_shorter (length m) b m) in omega arith

-- ---- what is asked of the statements, told as they come

abbrev good : ℕ → Bool → Bool → Result Body Lack
good n m o = Ok (record { stmts = n; deep = m; long = o })

-- behind n statements, in d THENs; m: one stood too deep, o: one listed too much
unfoldable pub told : (n d : ℕ) (m o : Bool) → definition.Body → Result Body Lack
told n d m o (body s) = Ok (record { stmts = n + size s; deep = m || not (shallow d s); long = o || not (short s) })
told n d m o (bad p) = Err (record { place = p })

pub told-none : (b : definition.Body) → told 0 0 false false b ≡ summary b
unfolding told summary
told-none (body s) = let z : 0 + size s ≡ size s = omega arith in rw z refl
told-none (bad p) = refl

widen : (a b c : Bool) → (a || not (b && c)) ≡ ((a || not b) || not c)
widen true b c = refl
widen false true c = refl
widen false false c = refl

right-true : (a : Bool) → (a && true) ≡ a
right-true true = refl
right-true false = refl

right-false : (a : Bool) → (a || false) ≡ a
right-false true = refl
right-false false = refl

-- two ways to the same
record Alike (n m : ℕ) (d : ℕ) (a b u v : Bool) (s t : Stmts) : Type 0 where
  pub sizes : n + size s ≡ m + size t
  pub depths : (a || not (shallow d s)) ≡ (b || not (shallow d t))
  pub lists : (u || not (short s)) ≡ (v || not (short t))

wider : (a b s t c : Bool) → (a || not s) ≡ (b || not t) → (a || not (s && c)) ≡ (b || not (t && c))
wider a b s t c e = widen a s c ∙ ap (λ (z : Bool). z || not c) e ∙ sym (widen b t c)

alike_body : {n m d : ℕ} {a b u v : Bool} {s t : Stmts} → Alike n m d a b u v s t → told n d a u (body s) ≡ told m d b v (body t)
unfolding told
alike_body e = rw (e.sizes, e.depths, e.lists) refl

module _ {n m d : ℕ} {a b u v : Bool} {s t : Stmts} (e : Alike n m d a b u v s t) where
  alike_does : (o : Simple) → Alike n m d a b u v (s ▸ o) (t ▸ o)
  unfolding size shallow short
  alike_does o =
      let z = e.sizes in
      record {
        sizes = omega arith;
        depths = wider a b (shallow d s) (shallow d t) (leb d 16) e.depths;
        lists = wider u v (short s) (short t) (leb (listed o) 64) e.lists;
      }

  alike_jumps : (w : ℕ) → Alike n m d a b u v (branching s if (to w) ∅ absent ∅) (branching t if (to w) ∅ absent ∅)
  unfolding size shallow short
  alike_jumps w =
      let z = e.sizes in
      record {
        sizes = omega arith;
        depths = rw (right-true, right-true, right-true, right-true) (wider a b (shallow d s) (shallow d t) (leb d 16) e.depths);
        lists = rw (right-true, right-true, right-true, right-true) e.lists;
      }

  alike_holds : (x : Stmts) → Alike n m d a b u v (branching s if stmts x absent ∅) (branching t if stmts x absent ∅)
  unfolding size shallow short
  alike_holds x =
      let z = e.sizes in
      record {
        sizes = omega arith;
        depths = rw (right-true, right-true) (wider a b (shallow d s && leb d 16) (shallow d t && leb d 16) (shallow (suc d) x) (wider a b (shallow d s) (shallow d t) (leb d 16) e.depths));
        lists = rw (right-true, right-true) (wider u v (short s) (short t) (short x) e.lists);
      }

  alike_holding : (y : definition.Body) → told n d a u (map_body (λ z. branching s if stmts z absent ∅) y) ≡ told m d b v (map_body (λ z. branching t if stmts z absent ∅) y)
  unfolding map_body told
  alike_holding (body z) = alike_body (alike_holds z)
  alike_holding (bad p) = refl

alike_told : (k : ℕ) {n m d : ℕ} {a b u v : Bool} (s t : Stmts) (l : List Placed) → Alike n m d a b u v s t → told n d a u (body_of k s l) ≡ told m d b v (body_of k t l)
unfolding body_of told
alike_told zero s t l e = alike_body e
alike_told (suc k) s t [] e = alike_body e
alike_told (suc k) {n} {m} {d} {a} {b} {u} {v} s t (x ∷ l) e = go (eqb x.1 0) (eqb x.1 58) (action k x.1 l) (λ p q r f. alike_told k p q r f)
  where
    go : (f g : Bool) (y : Found definition.Action)
        → ((p q : Stmts) (r : List Placed) → Alike n m d a b u v p q → told n d a u (body_of k p r) ≡ told m d b v (body_of k q r))
        → told n d a u
        (pick f (body s) (pick g (body_of k s l) (elim y [
          | lacks p ↦ bad p
          | found (does o) r ↦ body_of k (s ▸ o) (pass_over r)
          | found (jumps w) r ↦ body (branching s if (to w) ∅ absent ∅)
          | found holds r ↦ map_body (λ z. branching s if stmts z absent ∅) (body_of k ∅ r)
        ])))
        ≡ told m d b v
        (pick f (body t) (pick g (body_of k t l) (elim y [
          | lacks p ↦ bad p
          | found (does o) r ↦ body_of k (t ▸ o) (pass_over r)
          | found (jumps w) r ↦ body (branching t if (to w) ∅ absent ∅)
          | found holds r ↦ map_body (λ z. branching t if stmts z absent ∅) (body_of k ∅ r)
        ])))
    go true g y i = alike_body e
    go false true y i = i s t l e
    go false false (lacks p) i = refl
    go false false (found (does o) r) i = i (s ▸ o) (t ▸ o) (pass_over r) (alike_does e o)
    go false false (found (jumps w) r) i = alike_body (alike_jumps e w)
    go false false (found holds r) i = alike_holding e (body_of k ∅ r)

-- a statement more, and then those behind it
pub told_does : (k n d : ℕ) (a u b v : Bool) (o : Simple) (l : List Placed) → b ≡ (a || not (leb d 16)) → v ≡ (u || not (leb (listed o) 64))
    → told n d a u (body_of k (∅ ▸ o) l) ≡ told (n + 1) d b v (body_of k ∅ l)
unfolding size shallow short
told_does k n d a u b v o l e f = alike_told k (∅ ▸ o) ∅ l (record { sizes = omega arith; depths = sym e ∙ sym (right-false b); lists = sym f ∙ sym (right-false v) })

pub told-holds : (n d : ℕ) (a u b : Bool) (y : definition.Body) → b ≡ (a || not (leb d 16)) → told n d a u (map_body (λ z. branching ∅ if stmts z absent ∅) y) ≡ told (n + 1) (d + 1) b u y
unfolding told map_body size shallow short
told-holds n d a u b (bad p) e = refl
told-holds n d a u b (body s) e =
    let z : n + suc (0 + size s + 0) ≡ n + 1 + size s = omega arith in
    rw (z, right-true, right-true, add-one d, e, ← widen a (leb d 16) (shallow (suc d) s)) refl

pub told-jumps : (n d w : ℕ) (a u b : Bool) → b ≡ (a || not (leb d 16)) → told n d a u (body (branching ∅ if (to w) ∅ absent ∅)) ≡ good (n + 1) b u
unfolding told size shallow short
told-jumps n d w a u b e =
    let z : n + suc (0 + 0 + 0) ≡ n + 1 = omega arith in
    rw (z, right-true, right-true, right-false, e) refl

pub told-ends : (n d : ℕ) (a u : Bool) → told n d a u (body ∅) ≡ good n a u
unfolding told size shallow short
told-ends n d a u =
    let z : n + 0 ≡ n = omega arith in
    rw (z, right-false, right-false) refl

-- ---- what the code's answer for a statement says of the definition's

lacks_is : (x : Found definition.Action) (p : ℕ) → lacks p ≡ map_found coded x → x ≡ lacks p
unfolding map_found
lacks_is (lacks q) p e = let z : q ≡ p = cc in ap lacks z
lacks_is (found o r) p e = absurd cc

-- 64 arguments or fewer, whatever is counted
pub listed_args : (o : Simple) → leb (listed o) 64 ≡ leb (length (args_of o)) 64
unfolding listed args_of
listed_args (jump w n) = refl
listed_args (on w ns) = refl
listed_args (for v t) = refl
listed_args (next m ss) = rw (length-map ss slot_key) refl
listed_args (block w) = refl
listed_args (bare w) = refl

pub record Does (x : Found definition.Action) (n : ℕ) (l : List Placed) : Type 0 where
  pub stmt : Simple
  pub is : x ≡ found (does stmt) l
  pub count : n ≡ length (args_of stmt)

does_is : (x : Found definition.Action) (w n : ℕ) (l : List Placed) → found (coding.Does w n) l ≡ map_found coded x → Does x n l
unfolding map_found coded
does_is (lacks q) w n l e = absurd cc
does_is (found (does o) r) w n l e = let z : r ≡ l = cc in record { stmt = o; is = ap (λ (y : List Placed). found (does o) y) z; count = cc }
does_is (found (jumps m) r) w n l e = absurd cc
does_is (found holds r) w n l e = absurd cc

jumps_is : (x : Found definition.Action) (n : ℕ) (l : List Placed) → found (coding.Jumps n) l ≡ map_found coded x → x ≡ found (jumps n) l
unfolding map_found coded
jumps_is (lacks q) n l e = absurd cc
jumps_is (found (does o) r) n l e = absurd cc
jumps_is (found (jumps m) r) n l e = let y : m ≡ n = cc in let z : r ≡ l = cc in rw (y, z) refl
jumps_is (found holds r) n l e = absurd cc

holds_is : (x : Found definition.Action) (l : List Placed) → found coding.Holds l ≡ map_found coded x → x ≡ found holds l
unfolding map_found coded
holds_is (lacks q) l e = absurd cc
holds_is (found (does o) r) l e = absurd cc
holds_is (found (jumps m) r) l e = absurd cc
holds_is (found holds r) l e = let z : r ≡ l = cc in rw z refl

-- ---- the loop

-- what was told so far of the whole w, and what is left of the line
pub record Reaches (w : Result Body Lack) (n d : ℕ) (a u : Bool) (l : List Placed) : Type 0 where
  pub fuel : ℕ
  pub enough : length l ≤ fuel
  pub rest : told n d a u (body_of fuel ∅ l) ≡ w

pub reaches-start : (l : List Placed) → Reaches (summary (body_of (length l) ∅ l)) 0 0 false false l
reaches-start l = record { fuel = length l; enough = omega arith; rest = told-none (body_of (length l) ∅ l) }

record Behind (w : Result Body Lack) (n d : ℕ) (a u : Bool) (p b : ℕ) (m : List Placed) : Type 0 where
  pub fuel : ℕ
  pub enough : length m ≤ fuel
  pub rest : told n d a u (body_of (suc fuel) ∅ ((p, b) ∷ m)) ≡ w

behind_by : (w : Result Body Lack) (n d : ℕ) (a u : Bool) (p b : ℕ) (m : List Placed) (k : ℕ) → suc (length m) ≤ k → told n d a u (body_of k ∅ ((p, b) ∷ m)) ≡ w → Behind w n d a u p b m
behind_by w n d a u p b m zero h e = absurd (omega arith)
behind_by w n d a u p b m (suc k) h e = record { fuel = k; enough = omega arith; rest = e }

module _ {w : Result Body Lack} {n d : ℕ} {a u : Bool} {l : List Placed} (r : Reaches w n d a u l) (p b : ℕ) (m : List Placed) (e : l ≡ (p, b) ∷ m) where
  behind-one : Behind w n d a u p b m
  behind-one = behind_by w n d a u p b m r.fuel (let h = r.enough in omega (arith, ap length e)) (sym (ap (λ (z : List Placed). told n d a u (body_of r.fuel ∅ z)) e) ∙ r.rest)

  pub reaches_end : b ≡ 0 → good n a u ≡ w
  unfolding body_of
  reaches_end h = let q = behind-one in sym (told-ends n d a u) ∙ (rw (eq-eqb b 0 h) at q.rest)

  pub reaches_colon : b ≡ 58 → Reaches w n d a u m
  unfolding body_of
  reaches_colon h = let q = behind-one in record { fuel = q.fuel; enough = q.enough; rest = rw (ne_eqb b 0 (λ z. omega arith), eq-eqb b 58 h) at q.rest }

  module _ (no-end : b ≡ 0 → ⊥) (no_colon : b ≡ 58 → ⊥) where
    by_action : (k : ℕ) → length m ≤ k → (x : Found definition.Action) → action (length m) b m ≡ x → (P : definition.Body → Type 0)
        → P (body_of (suc k) ∅ ((p, b) ∷ m))
        → P (elim x [
          | lacks p ↦ bad p
          | found (does o) r ↦ body_of k (∅ ▸ o) (pass_over r)
          | found (jumps w) r ↦ body (branching ∅ if (to w) ∅ absent ∅)
          | found holds r ↦ map_body (λ z. branching ∅ if stmts z absent ∅) (body_of k ∅ r)
        ])
    unfolding body_of
    by_action k h x f P y = rw (ne_eqb b 0 no-end, ne_eqb b 58 no_colon, action_more k (length m) b m h (omega arith), f) at y

    pub reaches_bad : (q : ℕ) → lacks q ≡ map_found coded (action (length m) b m) → Err (record { place = q }) ≡ w
    unfolding told
    reaches_bad q h = let z = behind-one in by_action z.fuel z.enough (lacks q) (lacks_is _ q h) (λ (y : definition.Body). told n d a u y ≡ w) z.rest

    module _ (a2 : Bool) (deep : a2 ≡ (a || not (leb d 16))) where
      pub reaches_does : (v c : ℕ) (x : List Placed) (u2 : Bool) → found (coding.Does v c) x ≡ map_found coded (action (length m) b m) → u2 ≡ (u || not (leb c 64))
          → Reaches w (n + 1) d a2 u2 (pass_over x)
      reaches_does v c x u2 h long =
          let z = behind-one in
          let g = does_is (action (length m) b m) v c x h in
          let t = by_action z.fuel z.enough (found (does g.stmt) x) g.is (λ (y : definition.Body). told n d a u y ≡ w) z.rest in
          let i = pass_shorter x in
          let j : length x ≤ length m = action-rest b m x g.is in
          let y = z.enough in
          let f : u2 ≡ (u || not (leb (listed g.stmt) 64)) = long ∙ ap (λ (s : ℕ). u || not (leb s 64)) g.count ∙ ap (λ (s : Bool). u || not s) (sym (listed_args g.stmt)) in
          record {
            fuel = z.fuel;
            enough = omega arith;
            rest = sym (told_does z.fuel n d a u a2 u2 g.stmt (pass_over x) deep f) ∙ t;
          }

      pub reaches-jumps : (v : ℕ) (x : List Placed) → found (coding.Jumps v) x ≡ map_found coded (action (length m) b m) → good (n + 1) a2 u ≡ w
      reaches-jumps v x h =
          let z = behind-one in
          let t = by_action z.fuel z.enough (found (jumps v) x) (jumps_is (action (length m) b m) v x h) (λ (y : definition.Body). told n d a u y ≡ w) z.rest in
          sym (told-jumps n d v a u a2 deep) ∙ t

      pub reaches-holds : (x : List Placed) → found coding.Holds x ≡ map_found coded (action (length m) b m) → Reaches w (n + 1) (d + 1) a2 u x
      reaches-holds x h =
          let z = behind-one in
          let g = holds_is (action (length m) b m) x h in
          let t = by_action z.fuel z.enough (found holds x) g (λ (y : definition.Body). told n d a u y ≡ w) z.rest in
          let j : length x ≤ length m = action-rest b m x g in
          let y = z.enough in
          record { fuel = z.fuel; enough = omega arith; rest = sym (told-holds n d a u a2 (body_of z.fuel ∅ x) deep) ∙ t }

-- what is left behind a statement
pub left_does : (b v c : ℕ) (x m : List Placed) → found (coding.Does v c) x ≡ map_found coded (action (length m) b m) → length (pass_over x) ≤ length m
left_does b v c x m h =
    let g = does_is (action (length m) b m) v c x h in
    let j : length x ≤ length m = action-rest b m x g.is in
    let i = pass_shorter x in
    omega arith

pub left-holds : (b : ℕ) (x m : List Placed) → found coding.Holds x ≡ map_found coded (action (length m) b m) → length x ≤ length m
left-holds b x m h = action-rest b m x (holds_is (action (length m) b m) x h)

-- ---- where the line's zero stands

zero_left : (k b : ℕ) (x m : List Placed) (o : definition.Action) → action k b m ≡ found o x → zero_at x ≡ zero_at m
zero_left k b x m o e = let r : Rest x m = rw e at (rests.action-rest k b m) in rest-zero r

pub zero_does : (b v c : ℕ) (x m : List Placed) → found (coding.Does v c) x ≡ map_found coded (action (length m) b m) → zero_at (pass_over x) ≡ zero_at m
zero_does b v c x m h =
    let g = does_is (action (length m) b m) v c x h in
    rest-zero (pass_rest x) ∙ zero_left (length m) b x m (does g.stmt) g.is

pub zero_jumps : (b v : ℕ) (x m : List Placed) → found (coding.Jumps v) x ≡ map_found coded (action (length m) b m) → zero_at x ≡ zero_at m
zero_jumps b v x m h = zero_left (length m) b x m (jumps v) (jumps_is (action (length m) b m) v x h)

pub zero_holds : (b : ℕ) (x m : List Placed) → found coding.Holds x ≡ map_found coded (action (length m) b m) → zero_at x ≡ zero_at m
zero_holds b x m h = zero_left (length m) b x m holds (holds_is (action (length m) b m) x h)

module _ (p b : ℕ) (m l : List Placed) (e : l ≡ (p, b) ∷ m) where
  pub zero_here : b ≡ 0 → zero_at l ≡ p
  unfolding zero_at
  zero_here h = rw (e, eq-eqb b 0 h) refl

  pub zero_on : (b ≡ 0 → ⊥) → zero_at l ≡ zero_at m
  unfolding zero_at
  zero_on h = rw (e, ne_eqb b 0 h) refl

-- a flag, with a test
pub flagged : (a : Bool) (n m : ℕ) → (a || ltb m n) ≡ (a || not (leb n m))
flagged a n m = go (leb n m) refl
  where
    go : (t : Bool) → leb n m ≡ t → (a || ltb m n) ≡ (a || not (leb n m))
    go true e = rw (e, le-ltb m n (leb-true n m e))
    go false e = rw (e, lt-ltb m n (leb-false n m e))
