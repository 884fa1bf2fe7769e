-- Lists of bytes that count, cut at a place: the statements of the one and of the other. Assumes nothing.
use Rattle.std.specs.Prelude.{ℕ, zero, suc, ◌≤◌, ◌<◌, ◌≡◌, refl, List, [], ◌∷◌, map, Bool, true, false, ◌&&◌, ◌||◌, not, eqb, length}
use Rattle.std.proofs.Common.{arith}
use Rattle.std.proofs.Math.Option.{none, some}
use Rattle.listings.specs.Bytes.{pick}
use Rattle.listings.specs.Rows.{is_digit, is_capital}
use Rattle.listings.specs.Listing.{static, Mark, goto, gosub, runto, ongoto, ongosub, return, run, clr, stop, BareWord, jump, on, for, next, bare, if, to, stmts, absent, Stmts, ∅, ◌▸◌, branching}
use Rattle.program_files.specs.Program.{Placed, Found, found, lacks, map_found, line_number, name, several, Action, does, jumps, holds, ends, seek, branch, if_action, on_action, next_action, run_action, action, pass_over, Body, body, bad, map_body, body_of}
use Rattle.program_laws.specs.CutNumbers.{From, Ended, last, more, CutAt, end, go, both, Rest, whole, behind, rest-length, Crossing, crossing_rest, Number, number_rest, Late, late_lack, late_rest, Same, same_rest, same_lack, all_late, crosses, late-rest, same-rest, late-pick, same-pick, late-map, same-map, number_late, number_same, name-late, name-same, several-late, several-same, cut_some}

-- ---- the second token of a statement

seek-late : {P : ℕ → Type 0} {l : List Placed} (x y : ℕ) → Ended P l → Late P l (seek x y l)
unfolding seek ends
seek-late x y (last p h) = late_lack p h
seek-late x y (more d h e) =
    late-pick (ends d.1) (λ t. late_lack d.0 h) (λ t. late-pick (eqb d.1 x || eqb d.1 y) (λ u. late_rest d.1 e (behind d whole)) (λ u. late-rest (behind d whole) (seek-late x y e)))

seek-same : {q : ℕ} {l m : List Placed} (x y : ℕ) → eqb 203 x || eqb 203 y ≡ false → CutAt q l m → Same q l m (seek x y l) (seek x y m)
unfolding seek ends
seek-same x y n (end p h e) = all_late (late_lack p h) (seek-late x y e)
seek-same x y n (go g p h k e) =
    rw n (all_late (late_lack p k) (late-pick (eqb 137 x || eqb 137 y) (λ u. late_rest 137 e (behind (g, 137) whole)) (λ u. late-rest (behind (g, 137) whole) (seek-late x y e))))
seek-same x y n (both d h c) =
    same-pick (ends d.1) (λ t. same_lack d.0)
    (λ t. same-pick (eqb d.1 x || eqb d.1 y) (λ u. same_rest d.1 c (behind d whole) (behind d whole)) (λ u. same-rest (behind d whole) (behind d whole) (seek-same x y n c)))

branch-late : {P : ℕ → Type 0} {l : List Placed} (b : ℕ) → Ended P l → Late P l (branch b l)
unfolding branch is_digit
branch-late b (last p h) = late-pick (eqb b 167 && false) (λ t. late_rest holds (last p h) whole) (λ t. late_lack p h)
branch-late b (more d h e) =
    late-pick (is_digit d.1) (λ t. late-map jumps (number_late (more d h e)))
    (λ t. late-pick (eqb b 167 && not (eqb d.1 0)) (λ u. late_rest holds (more d h e) whole) (λ u. late_lack d.0 h))

branch-same : {q : ℕ} {l m : List Placed} (b : ℕ) → CutAt q l m → Same q l m (branch b l) (branch b m)
unfolding branch is_digit
branch-same b (end p h e) = all_late (branch-late b (last p h)) (branch-late b e)
branch-same b (go g p h k e) = same-pick (eqb b 167 && true) (λ u. same_rest holds (go g p h k e) whole whole) (λ u. same_lack g)
branch-same b (both d h c) =
    same-pick (is_digit d.1) (λ t. same-map jumps (number_same (both d h c)))
    (λ t. same-pick (eqb b 167 && not (eqb d.1 0)) (λ u. same_rest holds (both d h c) whole whole) (λ u. same_lack d.0))

-- what follows what was found
late_then : {A B : Type 0} {P : ℕ → Type 0} {l : List Placed} {x : Found A} (f : A → List Placed → Found B) → ((a : A) (r : List Placed) → Rest r l → Ended P r → Late P r (f a r))
    → Late P l x → Late P l (elim x [ lacks p ↦ lacks p | found a r ↦ f a r ])
late_then f h (late_lack p i) = late_lack p i
late_then f h (late_rest a e r) = late-rest r (h a _ r e)

same_then : {A B : Type 0} {q : ℕ} {l m : List Placed} {x y : Found A} (f g : A → List Placed → Found B) → ((a : A) (r : List Placed) → Rest r l → Ended (From q) r → Late (From q) r (f a r))
    → ((a : A) (r : List Placed) → Rest r m → Ended (From q) r → Late (From q) r (g a r)) → ((a : A) (r s : List Placed) → Rest r l → Rest s m → CutAt q r s → Same q r s (f a r) (g a s))
    → Same q l m x y → Same q l m (elim x [ lacks p ↦ lacks p | found a r ↦ f a r ]) (elim y [ lacks p ↦ lacks p | found a r ↦ g a r ])
same_then f g h i j (same_rest a c r s) = same-rest r s (j a _ _ r s c)
same_then f g h i j (same_lack p) = same_lack p
same_then f g h i j (all_late a b) = all_late (late_then f h a) (late_then g i b)
same_then f g h i j (crosses a p c n u v) = crosses (late_then f h a) p c n u v

if-late : {P : ℕ → Type 0} {l : List Placed} → Ended P l → Late P l (if_action l)
unfolding if_action
if-late e = late_then branch (λ b r w f. branch-late b f) (seek-late 167 137 e)

if-same : {q : ℕ} {l m : List Placed} → CutAt q l m → Same q l m (if_action l) (if_action m)
unfolding if_action
if-same c = same_then branch branch (λ b r w f. branch-late b f) (λ b r w f. branch-late b f) (λ b r s w x f. branch-same b f) (seek-same 167 137 refl c)

on_with : ℕ → ℕ → List Placed → Found Action
on_with k b r = map_found (λ ns. does (on (pick (eqb b 137) ongoto ongosub) ns)) (several line_number k r)

on_late : {P : ℕ → Type 0} {l : List Placed} (k : ℕ) → length l ≤ k → Ended P l → Late P l (on_action k l)
unfolding on_action on_with
on_late {P} k h e =
    late_then (on_with k) (λ b r w f. let i = rest-length w in late-map (λ ns. does (on (pick (eqb b 137) ongoto ongosub) ns)) (several-late line_number P (λ l. number_late) k r (omega arith) f))
    (seek-late 137 141 e)

on_same : {q : ℕ} {l m : List Placed} (k n : ℕ) → length l ≤ k → length m ≤ n → CutAt q l m → Same q l m (on_action k l) (on_action n m)
unfolding on_action on_with
on_same {q} k n h o c =
    same_then (on_with k) (on_with n) (λ b r w f. let i = rest-length w in late-map (λ ns. does (on (pick (eqb b 137) ongoto ongosub) ns)) (several-late line_number (From q) (λ l. number_late) k r (omega arith) f))
    (λ b r w f. let i = rest-length w in late-map (λ ns. does (on (pick (eqb b 137) ongoto ongosub) ns)) (several-late line_number (From q) (λ l. number_late) n r (omega arith) f))
    (λ b r s w x f. let i = rest-length w in let j = rest-length x in same-map (λ ns. does (on (pick (eqb b 137) ongoto ongosub) ns))
    (several-same line_number q (λ l. number_late) (λ l m. number_same) k n r s (omega arith) (omega arith) f))
    (seek-same 137 141 refl c)

next_late : {P : ℕ → Type 0} {l : List Placed} (k : ℕ) → length l ≤ k → Ended P l → Late P l (next_action k l)
unfolding next_action is_capital
next_late k h (last p e) = late_rest (does (next Mark.plain (none ∷ []))) (last p e) whole
next_late {P} k h (more d {l = l} i e) =
    late-pick (is_capital d.1) (λ t. late-map (λ vs. does (next Mark.plain (map some vs))) (several-late name P (λ l. name-late) k (d ∷ l) h (more d i e)))
    (λ t. late_rest (does (next Mark.plain (none ∷ []))) (more d i e) whole)

next_same : {q : ℕ} {l m : List Placed} (k n : ℕ) → length l ≤ k → length m ≤ n → CutAt q l m → Same q l m (next_action k l) (next_action n m)
unfolding next_action is_capital
next_same k n h i (end p e c) = all_late (late_rest (does (next Mark.plain (none ∷ []))) (last p e) whole) (next_late n i c)
next_same k n h i (go g p e f c) = same_rest (does (next Mark.plain (none ∷ []))) (go g p e f c) whole whole
next_same {q} k n h i (both d {l = l} {m = m} e c) =
    same-pick (is_capital d.1) (λ t. same-map (λ vs. does (next Mark.plain (map some vs))) (several-same name q (λ l. name-late) (λ l m. name-same) k n (d ∷ l) (d ∷ m) h i (both d e c)))
    (λ t. same_rest (does (next Mark.plain (none ∷ []))) (both d e c) whole whole)

run-late : {P : ℕ → Type 0} {l : List Placed} → Ended P l → Late P l (run_action l)
unfolding run_action is_digit
run-late (last p e) = late_rest (does (bare run)) (last p e) whole
run-late (more d h e) = late-pick (is_digit d.1) (λ t. late-map (λ n. does (jump runto n)) (number_late (more d h e))) (λ t. late_rest (does (bare run)) (more d h e) whole)

run-same : {q : ℕ} {l m : List Placed} → CutAt q l m → Same q l m (run_action l) (run_action m)
unfolding run_action is_digit
run-same (end p h e) = all_late (late_rest (does (bare run)) (last p h) whole) (run-late e)
run-same (go g p h k e) = same_rest (does (bare run)) (go g p h k e) whole whole
run-same (both d h c) =
    same-pick (is_digit d.1) (λ t. same-map (λ n. does (jump runto n)) (number_same (both d h c))) (λ t. same_rest (does (bare run)) (both d h c) whole whole)

action-late : {P : ℕ → Type 0} {l : List Placed} (k b : ℕ) → length l ≤ k → Ended P l → Late P l (action k b l)
unfolding action
action-late k b h e =
    late-pick (eqb b 128 || eqb b 144) (λ t. late_rest (does (bare stop)) e whole) λ t.
    late-pick (eqb b 142) (λ t. late_rest (does (bare return)) e whole) λ t.
    late-pick (eqb b 156) (λ t. late_rest (does (bare clr)) e whole) λ t.
    late-pick (eqb b 129) (λ t. late-map (λ v. does (for v static)) (name-late e)) λ t.
    late-pick (eqb b 130) (λ t. next_late k h e) λ t.
    late-pick (eqb b 137) (λ t. late-map (λ n. does (jump goto n)) (number_late e)) λ t.
    late-pick (eqb b 141) (λ t. late-map (λ n. does (jump gosub n)) (number_late e)) λ t.
    late-pick (eqb b 138) (λ t. run-late e) λ t.
    late-pick (eqb b 139) (λ t. if-late e) λ t.
    late-pick (eqb b 145) (λ t. on_late k h e) λ t.
    late_rest (does (bare BareWord.plain)) e whole

action-same : {q : ℕ} {l m : List Placed} (k n b : ℕ) → length l ≤ k → length m ≤ n → CutAt q l m → Same q l m (action k b l) (action n b m)
unfolding action
action-same k n b h i c =
    same-pick (eqb b 128 || eqb b 144) (λ t. same_rest (does (bare stop)) c whole whole) λ t.
    same-pick (eqb b 142) (λ t. same_rest (does (bare return)) c whole whole) λ t.
    same-pick (eqb b 156) (λ t. same_rest (does (bare clr)) c whole whole) λ t.
    same-pick (eqb b 129) (λ t. same-map (λ v. does (for v static)) (name-same c)) λ t.
    same-pick (eqb b 130) (λ t. next_same k n h i c) λ t.
    same-pick (eqb b 137) (λ t. same-map (λ n. does (jump goto n)) (number_same c)) λ t.
    same-pick (eqb b 141) (λ t. same-map (λ n. does (jump gosub n)) (number_same c)) λ t.
    same-pick (eqb b 138) (λ t. run-same c) λ t.
    same-pick (eqb b 139) (λ t. if-same c) λ t.
    same-pick (eqb b 145) (λ t. on_same k n h i c) λ t.
    same_rest (does (bare BareWord.plain)) c whole whole

-- ---- the rest of a statement

data PassLate (P : ℕ → Type 0) (l : List Placed) : List Placed → Type 0 where
  pass_late : {r : List Placed} → Ended P r → Rest r l → PassLate P l r

data PassSame (q : ℕ) (l m : List Placed) : List Placed → List Placed → Type 0 where
  pass_same : {r s : List Placed} → CutAt q r s → Rest r l → Rest s m → PassSame q l m r s
  pass_cut : {r s : List Placed} → PassLate (From q) l r → PassLate (From q) m s → PassSame q l m r s

pass_behind : {P : ℕ → Type 0} {l r : List Placed} (d : Placed) → PassLate P l r → PassLate P (d ∷ l) r
pass_behind d (pass_late e r) = pass_late e (behind d r)

pick-late : {P : ℕ → Type 0} {l x y : List Placed} (t : Bool) → PassLate P l x → PassLate P l y → PassLate P l (pick t x y)
pick-late true f g = f
pick-late false f g = g

pass_late_lem : {P : ℕ → Type 0} {l : List Placed} → Ended P l → PassLate P l (pass_over l)
unfolding pass_over ends
pass_late_lem (last p h) = pass_late (last p h) whole
pass_late_lem (more d h e) = pick-late (ends d.1) (pass_late (more d h e) whole) (pass_behind d (pass_late_lem e))

same-behind : {q : ℕ} {l m r s : List Placed} (d : Placed) → PassSame q l m r s → PassSame q (d ∷ l) (d ∷ m) r s
same-behind d (pass_same e r s) = pass_same e (behind d r) (behind d s)
same-behind d (pass_cut e f) = pass_cut (pass_behind d e) (pass_behind d f)

pick-same : {q : ℕ} {l m x y x' y' : List Placed} (t : Bool) → PassSame q l m x x' → PassSame q l m y y' → PassSame q l m (pick t x y) (pick t x' y')
pick-same true f g = f
pick-same false f g = g

pass_same_lem : {q : ℕ} {l m : List Placed} → CutAt q l m → PassSame q l m (pass_over l) (pass_over m)
unfolding pass_over ends
pass_same_lem (end p h e) = pass_cut (pass_late (last p h) whole) (pass_late_lem e)
pass_same_lem (go g p h k e) = pass_cut (pass_late (last p k) (behind (g, 203) whole)) (pass_behind (g, 137) (pass_late_lem e))
pass_same_lem (both d h c) = pick-same (ends d.1) (pass_same (both d h c) whole whole) (same-behind d (pass_same_lem c))

-- ---- the statements of a line

-- P holds of the place of what is lacking
pub data LateBody (P : ℕ → Type 0) : Body → Type 0 where
  fine : (s : Stmts) → LateBody P (body s)
  late_bad : (p : ℕ) → P p → LateBody P (bad p)

-- of a list cut at q and the whole one: the same is lacking, or nothing before q, or a number goes on over the cut that is too large only in the whole
pub data SameBody (q : ℕ) (l m : List Placed) : Body → Body → Type 0 where
  same_bad : (p : ℕ) → SameBody q l m (bad p) (bad p)
  late_bodies : {x y : Body} → LateBody (From q) x → LateBody (From q) y → SameBody q l m x y
  cross_body : {x : Body} → LateBody (From q) x → (p : ℕ) → Crossing q p l → (n : ℕ) → 63999 < n → Number p n m → SameBody q l m x (bad p)

late-map_body : {P : ℕ → Type 0} {x : Body} (f : Stmts → Stmts) → LateBody P x → LateBody P (map_body f x)
unfolding map_body
late-map_body f (fine s) = fine (f s)
late-map_body f (late_bad p h) = late_bad p h

same-map_body : {q : ℕ} {l m : List Placed} {x y : Body} (f g : Stmts → Stmts) → SameBody q l m x y → SameBody q l m (map_body f x) (map_body g y)
unfolding map_body
same-map_body f g (same_bad p) = same_bad p
same-map_body f g (late_bodies a b) = late_bodies (late-map_body f a) (late-map_body g b)
same-map_body f g (cross_body a p c n u v) = cross_body (late-map_body f a) p c n u v

same_body_rest : {q : ℕ} {l m k n : List Placed} {x y : Body} → Rest l k → Rest m n → SameBody q l m x y → SameBody q k n x y
same_body_rest b d (same_bad p) = same_bad p
same_body_rest b d (late_bodies f g) = late_bodies f g
same_body_rest b d (cross_body f p c n u v) = cross_body f p (crossing_rest b c) n u (number_rest d v)

late-pick_body : {P : ℕ → Type 0} {x y : Body} (t : Bool) → LateBody P x → LateBody P y → LateBody P (pick t x y)
late-pick_body true f g = f
late-pick_body false f g = g

same-pick_body : {q : ℕ} {l m : List Placed} {x y x' y' : Body} (t : Bool) → SameBody q l m x x' → SameBody q l m y y' → SameBody q l m (pick t x y) (pick t x' y')
same-pick_body true f g = f
same-pick_body false f g = g

-- a statement and those behind it
with_rest : (Stmts → List Placed → Body) → Stmts → Found Action → Body
with_rest f s x =
    elim x [
      | lacks p ↦ bad p
      | found (does o) r ↦ f (s ▸ o) (pass_over r)
      | found (jumps n) r ↦ body (branching s if (to n) ∅ absent ∅)
      | found holds r ↦ map_body (λ a. branching s if stmts a absent ∅) (f ∅ r)
    ]

abbrev LateBodies : (ℕ → Type 0) → ℕ → (Stmts → List Placed → Body) → Type 0
LateBodies P k f = (s : Stmts) (l : List Placed) → length l ≤ k → Ended P l → LateBody P (f s l)

late_passed : {P : ℕ → Type 0} {l r : List Placed} (k : ℕ) (f : Stmts → List Placed → Body) (s : Stmts) → LateBodies P k f → length l ≤ k → PassLate P l r → LateBody P (f s r)
late_passed k f s h i (pass_late e r) = let a = rest-length r in h s _ (omega arith) e

rest-late : {P : ℕ → Type 0} {l : List Placed} {x : Found Action} (k : ℕ) (f : Stmts → List Placed → Body) (s : Stmts) → LateBodies P k f → length l ≤ k → Late P l x → LateBody P (with_rest f s x)
unfolding with_rest
rest-late k f s h i (late_lack p j) = late_bad p j
rest-late k f s h i (late_rest (does o) e r) = let a = rest-length r in late_passed k f (s ▸ o) h (omega arith) (pass_late_lem e)
rest-late k f s h i (late_rest (jumps n) e r) = fine (branching s if (to n) ∅ absent ∅)
rest-late k f s h i (late_rest holds e r) = let a = rest-length r in late-map_body (λ a. branching s if stmts a absent ∅) (h ∅ _ (omega arith) e)

pub body_late : (P : ℕ → Type 0) (k : ℕ) → LateBodies P k (body_of k)
unfolding body_of with_rest
body_late P zero s l h e = fine s
body_late P (suc k) s _ h (last p e) = fine s
body_late P (suc k) s _ h (more d {l = l} i e) =
    late-pick_body (eqb d.1 0) (fine s) (late-pick_body (eqb d.1 58) (body_late P k s l (omega arith) e) (rest-late k (body_of k) s (body_late P k) (omega arith) (action-late k d.1 (omega arith) e)))

abbrev SameBodies : ℕ → ℕ → ℕ → (Stmts → List Placed → Body) → (Stmts → List Placed → Body) → Type 0
SameBodies q k n f g = (s t : Stmts) (l m : List Placed) → length l ≤ k → length m ≤ n → CutAt q l m → SameBody q l m (f s l) (g t m)

same_passed : {q : ℕ} {l m r v : List Placed} (k n : ℕ) (f g : Stmts → List Placed → Body) (s t : Stmts) → LateBodies (From q) k f → LateBodies (From q) n g → SameBodies q k n f g
    → length l ≤ k → length m ≤ n → PassSame q l m r v → SameBody q l m (f s r) (g t v)
same_passed k n f g s t a b c h i (pass_same e r w) = let x = rest-length r in let y = rest-length w in same_body_rest r w (c s t _ _ (omega arith) (omega arith) e)
same_passed k n f g s t a b c h i (pass_cut d e) = late_bodies (late_passed k f s a h d) (late_passed n g t b i e)

rest-same : {q : ℕ} {l m : List Placed} {x y : Found Action} (k n : ℕ) (f g : Stmts → List Placed → Body) (s t : Stmts) → LateBodies (From q) k f → LateBodies (From q) n g → SameBodies q k n f g
    → length l ≤ k → length m ≤ n → Same q l m x y → SameBody q l m (with_rest f s x) (with_rest g t y)
unfolding with_rest
rest-same k n f g s t a b c h i (same_rest (does o) e r w) =
    let x = rest-length r in let y = rest-length w in
    same_body_rest r w (same_passed k n f g (s ▸ o) (t ▸ o) a b c (omega arith) (omega arith) (pass_same_lem e))
rest-same k n f g s t a b c h i (same_rest (jumps o) e r w) = late_bodies (fine (branching s if (to o) ∅ absent ∅)) (fine (branching t if (to o) ∅ absent ∅))
rest-same k n f g s t a b c h i (same_rest holds e r w) =
    let x = rest-length r in let y = rest-length w in
    same_body_rest r w (same-map_body (λ z. branching s if stmts z absent ∅) (λ z. branching t if stmts z absent ∅) (c ∅ ∅ _ _ (omega arith) (omega arith) e))
rest-same k n f g s t a b c h i (same_lack p) = same_bad p
rest-same k n f g s t a b c h i (all_late d e) = late_bodies (rest-late k f s a h d) (rest-late n g t b i e)
rest-same k n f g s t a b c h i (crosses d p e o u v) = cross_body (rest-late k f s a h d) p e o u v

pub body_same : (q k n : ℕ) → SameBodies q k n (body_of k) (body_of n)
unfolding body_of with_rest
body_same q zero n s t l m h i c = absurd (let x = cut_some c in omega arith)
body_same q (suc k) zero s t l m h i c = absurd (let x = cut_some c in omega arith)
body_same q (suc k) (suc n) s t _ m h i (end p e c) = late_bodies (fine s) (body_late (From q) (suc n) t m i c)
body_same q (suc k) (suc n) s t _ _ h i (go g p u v c) =
    late_bodies (rest-late k (body_of k) s (body_late (From q) k) (omega arith) (action-late k 203 (omega arith) (last p v)))
    (rest-late n (body_of n) t (body_late (From q) n) (omega arith) (action-late n 137 (omega arith) c))
body_same q (suc k) (suc n) s t _ _ h i (both d {l = l} {m = m} v c) =
    same-pick_body (eqb d.1 0) (late_bodies (fine s) (fine t)) (same_body_rest (behind d whole) (behind d whole)
    (same-pick_body (eqb d.1 58) (body_same q k n s t l m (omega arith) (omega arith) c)
    (rest-same k n (body_of k) (body_of n) s t (body_late (From q) k) (body_late (From q) n) (body_same q k n) (omega arith) (omega arith) (action-same k n d.1 (omega arith) (omega arith) c))))
