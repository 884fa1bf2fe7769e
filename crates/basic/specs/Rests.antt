-- What a statement leaves of its line's bytes: the last of them, in the order of their places, with the line's zero.
-- Assumes nothing.
use Rattle.std.specs.Prelude.{◌≡◌, refl, ℕ, zero, suc, ◌+◌, ◌*◌, ◌-◌, ◌≤◌, ◌<◌, Bool, true, false, ◌&&◌, ◌||◌, not, List, [], ◌∷◌, ◌++◌, map, eqb, leb, length, drop}
use Rattle.std.proofs.Common.{sym, ap, ◌∙◌, arith, ne_eqb, eqb-true, length-drop, drop-drop}
use Rattle.std.proofs.Math.Option.{none, some}
use Rattle.listings.specs.Bytes.{pick}
use Rattle.listings.specs.Listing.{Simple, JumpWord, Name, static, Mark, goto, gosub, runto, ongoto, ongosub, return, run, clr, stop, BareWord, jump, on, for, next, bare}
use Rattle.listings.specs.Cut.{cut_name}
use Rattle.listings.specs.Records.{detail_of, tier_number, mark_number}
use Rattle.listings.specs.Rows.{is_digit, is_capital}
use Rattle.listings.specs.Scan.{index_of}
use Rattle.program_files.specs.Program as definition
use Rattle.program_files.specs.Program.{Placed, Cover, uncovered, quoted, remark, items, quoted_item, counts, counted, join_go, Found, found, lacks, map_found, digits, line_number, characters, with_kind, name, after_comma, several, Action, does, jumps, holds, ends, seek, branch, if_action, on_action, next_action, run_action, action, pass_over}
use Rattle.basic.specs.Covers.{cover_of}
use Rattle.basic.specs.Cursors.{raw_at, tokens_at, ahead, IsNext}
use Rattle.basic.specs.declared.cover.Cover.TheVariants as CoverAt
use Rattle.basic.specs.declared.cursors.Cursor.{Cursor}
use Rattle.basic.specs.declared.cursors.Token.{Token}

-- r is what is left of l behind some bytes, none of them 0
pub data Rest : List Placed → List Placed → Type 0 where
  whole : {l : List Placed} → Rest l l
  past : {d : Placed} {r l : List Placed} → eqb d.1 0 ≡ false → Rest r l → Rest r (d ∷ l)

pub rest_trans : {r m l : List Placed} → Rest r m → Rest m l → Rest r l
rest_trans h whole = h
rest_trans h (past e q) = past e (rest_trans h q)

-- ---- what is found leaves a rest

abbrev pub Leaves : {A : Type 0} → List Placed → Found A → Type 0
Leaves l (found a r) = Rest r l
Leaves l (lacks p) = Unit {0}

leaves_trans : {A : Type 0} {m l : List Placed} → Rest m l → (x : Found A) → Leaves m x → Leaves l x
leaves_trans q (found a r) h = rest_trans h q
leaves_trans q (lacks p) h = tt

leaves-map : {A B : Type 0} (f : A → B) (l : List Placed) (x : Found A) → Leaves l x → Leaves l (map_found f x)
unfolding map_found
leaves-map f l (found a r) h = h
leaves-map f l (lacks p) h = tt

-- what passes a test that 0 fails is not 0
not-zero : (p : ℕ → Bool) (b : ℕ) → p 0 ≡ false → p b ≡ true → eqb b 0 ≡ false
not-zero p b z h = ne_eqb b 0 (λ e. let q : p 0 ≡ true = rw e at h in cc)

digits-rest : (a : ℕ) (l : List Placed) → Rest (digits a l).1 l
unfolding digits is_digit
digits-rest a [] = whole
digits-rest a (d ∷ l) = go (is_digit d.1) refl (digits-rest (a * 10 + (d.1 - 48)) l)
  where
    go : (t : Bool) → is_digit d.1 ≡ t → Rest (digits (a * 10 + (d.1 - 48)) l).1 l → Rest (pick t (digits (a * 10 + (d.1 - 48)) l) (a, d ∷ l)).1 (d ∷ l)
    go true e h = past (not-zero is_digit d.1 refl e) h
    go false e h = whole

number_rest : (l : List Placed) → Leaves l (line_number l)
unfolding line_number
number_rest [] = tt
number_rest (d ∷ l) = go (digits 0 (d ∷ l)) (digits-rest 0 (d ∷ l)) (is_digit d.1 && leb (digits 0 (d ∷ l)).0 63999)
  where
    go : (r : ℕ × List Placed) → Rest r.1 (d ∷ l) → (t : Bool) → Leaves (d ∷ l) (pick t (found r.0 r.1) (lacks d.0))
    go r h true = h
    go r h false = tt

characters-rest : (l : List Placed) → Rest (characters l).1 l
unfolding characters is_digit is_capital
characters-rest [] = whole
characters-rest (d ∷ l) = go (is_capital d.1 || is_digit d.1) refl (characters-rest l)
  where
    go : (t : Bool) → (is_capital d.1 || is_digit d.1) ≡ t → Rest (characters l).1 l → Rest (pick {A = List ℕ × List Placed} t (d.1 ∷ (characters l).0, (characters l).1) ([], d ∷ l)).1 (d ∷ l)
    go true e h = past (not-zero (λ b. is_capital b || is_digit b) d.1 refl e) h
    go false e h = whole

kind-rest : (v : List ℕ) (l : List Placed) → Leaves l (with_kind v l)
unfolding with_kind
kind-rest v [] = whole
kind-rest v (d ∷ l) = go (eqb d.1 37 || eqb d.1 36) refl
  where
    go : (t : Bool) → (eqb d.1 37 || eqb d.1 36) ≡ t → Leaves (d ∷ l) (pick t (found (cut_name (v ++ (d.1 ∷ []))) l) (found (cut_name v) (d ∷ l)))
    go true e = past (not-zero (λ b. eqb b 37 || eqb b 36) d.1 refl e) whole
    go false e = whole

name-rest : (l : List Placed) → Leaves l (name l)
unfolding name
name-rest [] = tt
name-rest (d ∷ l) = go (characters (d ∷ l)) (characters-rest (d ∷ l)) (is_capital d.1)
  where
    go : (r : List ℕ × List Placed) → Rest r.1 (d ∷ l) → (t : Bool) → Leaves (d ∷ l) (pick t (with_kind r.0 r.1) (lacks d.0))
    go r h true = leaves_trans h (with_kind r.0 r.1) (kind-rest r.0 r.1)
    go r h false = tt

several-rest : {A : Type 0} (f : List Placed → Found A) → ((l : List Placed) → Leaves l (f l)) → (k : ℕ) (l : List Placed) → Leaves l (several f k l)
unfolding several after_comma
several-rest f s zero l = tt
several-rest {A} f s (suc k) l = go (λ m. several-rest f s k m) (f l) (s l)
  where
    here : (a : A) (d : Placed) (m : List Placed) (t : Bool) → eqb d.1 44 ≡ t → Leaves m (several f k m) → Rest (d ∷ m) l
        → Leaves l (pick t (map_found (λ bs. a ∷ bs) (several f k m)) (found (a ∷ []) (d ∷ m)))
    here a d m true e g h = leaves-map (λ bs. a ∷ bs) l (several f k m) (leaves_trans (rest_trans (past (not-zero (λ b. eqb b 44) d.1 refl e) whole) h) (several f k m) g)
    here a d m false e g h = h

    go : ((m : List Placed) → Leaves m (several f k m)) → (x : Found A) → Leaves l x → Leaves l (elim x [ lacks p ↦ lacks p | found a r ↦ after_comma a (several f k) r ])
    go more (lacks p) h = tt
    go more (found a []) h = h
    go more (found a (d ∷ m)) h = here a d m (eqb d.1 44) refl (more m) h

-- ---- statements

seek-rest : (x y : ℕ) (l : List Placed) → Leaves l (seek x y l)
unfolding seek ends
seek-rest x y [] = tt
seek-rest x y (d ∷ l) = go (seek-rest x y l) (ends d.1) refl (eqb d.1 x || eqb d.1 y)
  where
    go : Leaves l (seek x y l) → (s : Bool) → ends d.1 ≡ s → (t : Bool) → Leaves (d ∷ l) (pick s (lacks d.0) (pick t (found d.1 l) (seek x y l)))
    go h true e t = tt
    go h false e true = past (not-zero (λ b. not (ends b)) d.1 refl (ap not e)) whole
    go h false e false = leaves_trans (past (not-zero (λ b. not (ends b)) d.1 refl (ap not e)) whole) (seek x y l) h

pub pass_rest : (l : List Placed) → Rest (pass_over l) l
unfolding pass_over ends
pass_rest [] = whole
pass_rest (d ∷ l) = go (ends d.1) refl (pass_rest l)
  where
    go : (t : Bool) → ends d.1 ≡ t → Rest (pass_over l) l → Rest (pick t (d ∷ l) (pass_over l)) (d ∷ l)
    go true e h = whole
    go false e h = past (not-zero (λ b. not (ends b)) d.1 refl (ap not e)) h

branch-rest : (b : ℕ) (l : List Placed) → Leaves l (branch b l)
unfolding branch
branch-rest b [] = tt
branch-rest b (d ∷ l) = go (is_digit d.1) (eqb b 167 && not (eqb d.1 0))
  where
    go : (s t : Bool) → Leaves (d ∷ l) (pick s (map_found jumps (line_number (d ∷ l))) (pick t (found holds (d ∷ l)) (lacks d.0)))
    go true t = leaves-map jumps (d ∷ l) (line_number (d ∷ l)) (number_rest (d ∷ l))
    go false true = whole
    go false false = tt

if-rest : (l : List Placed) → Leaves l (if_action l)
unfolding if_action
if-rest l = go (seek 167 137 l) (seek-rest 167 137 l)
  where
    go : (x : Found ℕ) → Leaves l x → Leaves l (elim x [ lacks p ↦ lacks p | found b r ↦ branch b r ])
    go (lacks p) h = tt
    go (found b r) h = leaves_trans h (branch b r) (branch-rest b r)

on_rest : (k : ℕ) (l : List Placed) → Leaves l (on_action k l)
unfolding on_action
on_rest k l = go (seek 137 141 l) (seek-rest 137 141 l)
  where
    go : (x : Found ℕ) → Leaves l x
        → Leaves l (elim x [ lacks p ↦ lacks p | found b r ↦ map_found (λ ns. does (on (pick (eqb b 137) ongoto ongosub) ns)) (several line_number k r) ])
    go (lacks p) h = tt
    go (found b r) h = leaves-map _ l (several line_number k r) (leaves_trans h (several line_number k r) (several-rest line_number number_rest k r))

next_rest : (k : ℕ) (l : List Placed) → Leaves l (next_action k l)
unfolding next_action
next_rest k [] = tt
next_rest k (d ∷ l) = go (is_capital d.1)
  where
    go : (t : Bool) → Leaves (d ∷ l) (pick t (map_found (λ vs. does (next Mark.plain (map some vs))) (several name k (d ∷ l))) (found (does (next Mark.plain (none ∷ []))) (d ∷ l)))
    go true = leaves-map _ (d ∷ l) (several name k (d ∷ l)) (several-rest name name-rest k (d ∷ l))
    go false = whole

run-rest : (l : List Placed) → Leaves l (run_action l)
unfolding run_action
run-rest [] = tt
run-rest (d ∷ l) = go (is_digit d.1)
  where
    go : (t : Bool) → Leaves (d ∷ l) (pick t (map_found (λ n. does (jump runto n)) (line_number (d ∷ l))) (found (does (bare run)) (d ∷ l)))
    go true = leaves-map _ (d ∷ l) (line_number (d ∷ l)) (number_rest (d ∷ l))
    go false = whole

-- a record, so that its arguments are found
record Left {A : Type 0} (l : List Placed) (x : Found A) : Type 0 where
  pub rest : Leaves l x

either : {A : Type 0} {l : List Placed} (t : Bool) {x y : Found A} → Left l x → Left l y → Left l (pick t x y)
either true h g = h
either false h g = g

pub action-rest : (k b : ℕ) (l : List Placed) → Leaves l (action k b l)
unfolding action
action-rest k b l =
    let one : (o : Action) → Left l (found o l) = λ o. record { rest = whole } in
    let number : (f : ℕ → Action) → Left l (map_found f (line_number l)) = λ f. record { rest = leaves-map f l (line_number l) (number_rest l) } in
    let r : Left l (action k b l) =
    either (eqb b 128 || eqb b 144) (one (does (bare stop))) (either (eqb b 142) (one (does (bare return))) (either (eqb b 156) (one (does (bare clr)))
    (either (eqb b 129) (record { rest = leaves-map (λ v. does (for v static)) l (name l) (name-rest l) }) (either (eqb b 130) (record { rest = next_rest k l })
    (either (eqb b 137) (number (λ n. does (jump goto n))) (either (eqb b 141) (number (λ n. does (jump gosub n))) (either (eqb b 138) (record { rest = run-rest l })
    (either (eqb b 139) (record { rest = if-rest l }) (either (eqb b 145) (record { rest = on_rest k l }) (one (does (bare BareWord.plain)))))))))))) in
    r.rest

-- ---- the zero of the line

unfoldable pub zero_at : List Placed → ℕ
zero_at [] = 0
zero_at (d ∷ l) = pick (eqb d.1 0) d.0 (zero_at l)

pub rest-zero : {r l : List Placed} → Rest r l → zero_at r ≡ zero_at l
unfolding zero_at
rest-zero whole = refl
rest-zero (past e h) = rw e (rest-zero h)

counted-zero : (c : Cover) (p : ℕ) (l : List ℕ) → zero_at (counted c p l) ≡ p + index_of 0 l
unfolding zero_at counted index_of
counted-zero c p [] = omega arith
counted-zero c p (b ∷ l) = go (eqb b 0) refl (counts c b) (counted (definition.behind c b) (suc p) l) (counted-zero (definition.behind c b) (suc p) l)
  where
    go : (s : Bool) → eqb b 0 ≡ s → (t : Bool) (r : List Placed) → zero_at r ≡ suc p + index_of 0 l → zero_at (pick s ((p, 0) ∷ []) (pick t ((p, b) ∷ r) r)) ≡ p + pick s 0 (suc (index_of 0 l))
    go true e t r h = omega arith
    go false e true r h = rw e (omega arith)
    go false e false r h = omega arith

join-zero : (l : List Placed) → zero_at (join_go l) ≡ zero_at l
unfolding zero_at join_go
join-zero [] = refl
join-zero (d ∷ []) = refl
join-zero (d ∷ e ∷ l) = go (eqb d.1 203) refl (eqb e.1 164) refl (join-zero l) (join-zero (e ∷ l))
  where
    go : (s : Bool) → eqb d.1 203 ≡ s → (t : Bool) → eqb e.1 164 ≡ t → zero_at (join_go l) ≡ zero_at l → zero_at (join_go (e ∷ l)) ≡ zero_at (e ∷ l)
        → zero_at (pick (s && t) ((d.0, 137) ∷ join_go l) (d ∷ join_go (e ∷ l))) ≡ zero_at (d ∷ e ∷ l)
    go true x true y h g = rw (eqb-true d.1 203 x, eqb-true e.1 164 y) h
    go true x false y h g = ap (pick (eqb d.1 0) d.0) g
    go false x t y h g = ap (pick (eqb d.1 0) d.0) g

pub tokens_zero : (f : List ℕ) (c : Cursor) → zero_at (tokens_at f c) ≡ c.at + index_of 0 (drop c.at f)
tokens_zero f c = join-zero (raw_at f c) ∙ counted-zero (cover_of c.cover) c.at (drop c.at f)

-- ---- the order of places

-- ascending from p on, and below n but for a zero's
pub data Ordered : ℕ → ℕ → List Placed → Type 0 where
  none_left : {p n : ℕ} → Ordered p n []
  then : {p n : ℕ} {d : Placed} {l : List Placed} → p ≤ d.0 → (eqb d.1 0 ≡ false → d.0 < n) → Ordered (suc d.0) n l → Ordered p n (d ∷ l)

pub ordered_lower : {q p n : ℕ} {l : List Placed} → q ≤ p → Ordered p n l → Ordered q n l
ordered_lower h none_left = none_left
ordered_lower h (then k m o) = then (omega arith) m o

pub rest_ordered : {p n : ℕ} {r l : List Placed} → Rest r l → Ordered p n l → Ordered p n r
rest_ordered whole o = o
rest_ordered (past e h) (then k m o) = ordered_lower (omega arith) (rest_ordered h o)

counted_ordered : (c : Cover) (p n : ℕ) (l : List ℕ) → (0 < length l → p + length l ≤ n) → Ordered p n (counted c p l)
unfolding counted
counted_ordered c p n [] h = then (omega arith) (λ e. absurd (cc)) none_left
counted_ordered c p n (b ∷ l) h = go (eqb b 0) (counts c b) (counted_ordered (definition.behind c b) (suc p) n l (λ q. omega (arith, h (omega arith)))) (omega (arith, h (omega arith)))
  where
    go : (s t : Bool) {r : List Placed} → Ordered (suc p) n r → p < n → Ordered p n (pick s ((p, 0) ∷ []) (pick t ((p, b) ∷ r) r))
    go true t o q = then (omega arith) (λ e. absurd (cc)) none_left
    go false true o q = then (omega arith) (λ e. q) o
    go false false o q = ordered_lower (omega arith) o

join_ordered : {p n : ℕ} (l : List Placed) → Ordered p n l → Ordered p n (join_go l)
unfolding join_go
join_ordered [] o = o
join_ordered (d ∷ []) o = o
join_ordered {p = p} {n = n} (d ∷ e ∷ l) o = go (eqb d.1 203) refl (eqb e.1 164) o (λ q o. join_ordered {p = q} {n = n} l o) (λ q o. join_ordered {p = q} {n = n} (e ∷ l) o)
  where
    go : (s : Bool) → eqb d.1 203 ≡ s → (t : Bool) → Ordered p n (d ∷ e ∷ l) → ((q : ℕ) → Ordered q n l → Ordered q n (join_go l))
        → ((q : ℕ) → Ordered q n (e ∷ l) → Ordered q n (join_go (e ∷ l))) → Ordered p n (pick (s && t) ((d.0, 137) ∷ join_go l) (d ∷ join_go (e ∷ l)))
    go true x true (then k m (then i j o)) f g = then k (λ z. m (not-zero (λ b. eqb b 203) d.1 refl x)) (f (suc d.0) (ordered_lower (omega arith) o))
    go true x false (then k m o) f g = then k m (g (suc d.0) o)
    go false x t (then k m o) f g = then k m (g (suc d.0) o)

pub tokens_ordered : (f : List ℕ) (c : Cursor) → Ordered c.at (length f) (tokens_at f c)
tokens_ordered f c = join_ordered (raw_at f c) (counted_ordered (cover_of c.cover) c.at (length f) (drop c.at f) (λ q. omega (arith, length-drop c.at f)))

pub ordered_head : {p n q b : ℕ} {m : List Placed} → Ordered p n ((q, b) ∷ m) → (p ≤ q) × (eqb b 0 ≡ false → q < n) × Ordered (suc q) n m
ordered_head (then k m o) = (k, m, o)

-- ---- a token's place says where it stands

-- a byte that counts under any cover counts, and covers what follows, as an uncovered one
counted-same : (c : Cover) (b : ℕ) → counts c b ≡ true → (counts uncovered b ≡ true) × (definition.behind c b ≡ definition.behind uncovered b)
unfolding counts definition.behind
counted-same uncovered b h = (h, refl)
counted-same quoted b h = absurd (cc)
counted-same remark b h = absurd (cc)
counted-same items b h = let e : b ≡ 58 = eqb-true b 58 h in rw e (refl, refl)
counted-same quoted_item b h = absurd (cc)

place_is_lem : (d e : Placed) (l m : List Placed) → d ∷ l ≡ e ∷ m → d.0 ≡ e.0
place_is_lem d e l m h = let z : d ≡ e = cc in ap (λ (x : Placed). x.0) z

drop-none : (p : ℕ) (l : List ℕ) → drop (p - p) l ≡ l
drop-none p l = let z : p - p ≡ 0 = omega arith in ap (λ (n : ℕ). drop n l) z

-- the first byte that counts, from its place on
pub record From (c : Cover) (p : ℕ) (l : List ℕ) (q : ℕ) (m : List Placed) : Type 0 where
  pub low : p ≤ q
  pub same : counted uncovered q (drop (q - p) l) ≡ m

counted-first : (c : Cover) (p : ℕ) (l : List ℕ) (q b : ℕ) (m : List Placed) → counted c p l ≡ (q, b) ∷ m → From c p l q (counted c p l)
unfolding counted
counted-first c p [] q b m h =
    let e : p ≡ q = place_is_lem (p, 0) (q, b) [] m h in
    record { low = omega arith; same = rw (sym e, drop-none p []) refl }
counted-first c p (x ∷ l) q b m h =
    go (eqb x 0) refl (counts c x) refl (counted (definition.behind c x) (suc p) l) refl (λ e. counted-first (definition.behind c x) (suc p) l q b m e) h
  where
    here : (r : List Placed) → counted uncovered p (x ∷ l) ≡ r → p ≡ q → From c p (x ∷ l) q r
    here r e z = record { low = omega arith; same = rw (sym z, drop-none p (x ∷ l)) e }

    go : (s : Bool) → eqb x 0 ≡ s → (t : Bool) → counts c x ≡ t → (r : List Placed) → counted (definition.behind c x) (suc p) l ≡ r
        → (r ≡ (q, b) ∷ m → From (definition.behind c x) (suc p) l q r) → pick s ((p, 0) ∷ []) (pick t ((p, x) ∷ r) r) ≡ (q, b) ∷ m
        → From c p (x ∷ l) q (pick s ((p, 0) ∷ []) (pick t ((p, x) ∷ r) r))
    go true e t g r k f h = here ((p, 0) ∷ []) (rw e refl) (place_is_lem (p, 0) (q, b) [] m h)
    go false e true g r k f h = let z = counted-same c x g in here ((p, x) ∷ r) (rw (e, z.0, sym z.1, k) refl) (place_is_lem (p, x) (q, b) r m h)
    go false e false g r k f h =
        let i = f h in
        let z : q - p ≡ suc (q - suc p) = omega (arith, i.low) in
        record { low = omega (arith, i.low); same = rw z i.same }

join-first : (r : List Placed) (q b : ℕ) (m : List Placed) → join_go r ≡ (q, b) ∷ m → (e : ℕ) × (n : List Placed) × (r ≡ (q, e) ∷ n)
unfolding join_go
join-first [] q b m h = absurd (cc)
join-first (d ∷ []) q b m h = (b, [], cc)
join-first (d ∷ e ∷ l) q b m h = go (eqb d.1 203 && eqb e.1 164) h
  where
    go : (t : Bool) → pick t ((d.0, 137) ∷ join_go l) (d ∷ join_go (e ∷ l)) ≡ (q, b) ∷ m → (x : ℕ) × (n : List Placed) × (d ∷ e ∷ l ≡ (q, x) ∷ n)
    go true h = let z : d.0 ≡ q = place_is_lem (d.0, 137) (q, b) (join_go l) m h in (d.1, e ∷ l, ap (λ (y : ℕ). (y, d.1) ∷ e ∷ l) z)
    go false h = let z : d ≡ (q, b) = cc in (b, e ∷ l, ap (λ (y : Placed). y ∷ e ∷ l) z)

-- so an uncovered cursor at the first token's place has the same tokens
pub tokens_first : (f : List ℕ) (c : Cursor) (q b : ℕ) (m : List Placed) → tokens_at f c ≡ (q, b) ∷ m → join_go (counted uncovered q (drop q f)) ≡ tokens_at f c
tokens_first f c q b m h =
    let j = join-first (raw_at f c) q b m h in
    let i = counted-first (cover_of c.cover) c.at (drop c.at f) q j.0 j.1 j.2 in
    let n : c.at + (q - c.at) ≡ q = omega (arith, i.low) in
    let d : drop (q - c.at) (drop c.at f) ≡ drop q f = drop-drop (q - c.at) c.at f ∙ ap (λ (z : ℕ). drop z f) n in
    ap join_go (sym (ap (counted uncovered q) d) ∙ i.same)

pub token_anchored : (f : List ℕ) (c : Cursor) (t : Token) → IsNext (tokens_at f) c t → tokens_at f (record { at = t.place; cover = CoverAt.Uncovered }) ≡ tokens_at f c
unfolding cover_of
token_anchored f c t h = tokens_first f c t.place t.byte (ahead (tokens_at f) t) h

-- ---- what a statement has beside its arguments

abbrev pub Plain : Found Action → Type 0
Plain (found (does o) r) = detail_of o ≡ 0
Plain (found (jumps n) r) = Unit {0}
Plain (found holds r) = Unit {0}
Plain (lacks p) = Unit {0}

record IsPlain (x : Found Action) : Type 0 where
  pub is : Plain x

either_plain : (t : Bool) {x y : Found Action} → IsPlain x → IsPlain y → IsPlain (pick t x y)
either_plain true h g = h
either_plain false h g = g

plain_map : {A : Type 0} (f : A → Simple) → ((a : A) → detail_of (f a) ≡ 0) → (x : Found A) → Plain (map_found (λ a. does (f a)) x)
unfolding map_found
plain_map f h (found a r) = h a
plain_map f h (lacks p) = tt

jumps_plain : (x : Found ℕ) → Plain (map_found jumps x)
unfolding map_found
jumps_plain (found n r) = tt
jumps_plain (lacks p) = tt

branch_plain : (b : ℕ) (l : List Placed) → Plain (branch b l)
unfolding branch
branch_plain b [] = tt
branch_plain b (d ∷ l) = go (is_digit d.1) (eqb b 167 && not (eqb d.1 0))
  where
    go : (s t : Bool) → Plain (pick s (map_found jumps (line_number (d ∷ l))) (pick t (found holds (d ∷ l)) (lacks d.0)))
    go true t = jumps_plain (line_number (d ∷ l))
    go false true = tt
    go false false = tt

if_plain : (l : List Placed) → Plain (if_action l)
unfolding if_action
if_plain l = go (seek 167 137 l)
  where
    go : (x : Found ℕ) → Plain (elim x [ lacks p ↦ lacks p | found b r ↦ branch b r ])
    go (lacks p) = tt
    go (found b r) = branch_plain b r

on_plain : (k : ℕ) (l : List Placed) → Plain (on_action k l)
unfolding on_action detail_of
on_plain k l = go (seek 137 141 l)
  where
    go : (x : Found ℕ) → Plain (elim x [ lacks p ↦ lacks p | found b r ↦ map_found (λ ns. does (on (pick (eqb b 137) ongoto ongosub) ns)) (several line_number k r) ])
    go (lacks p) = tt
    go (found b r) = plain_map (λ ns. on (pick (eqb b 137) ongoto ongosub) ns) (λ ns. refl) (several line_number k r)

next_plain : (k : ℕ) (l : List Placed) → Plain (next_action k l)
unfolding next_action detail_of mark_number
next_plain k [] = tt
next_plain k (d ∷ l) = go (is_capital d.1)
  where
    go : (t : Bool) → Plain (pick t (map_found (λ vs. does (next Mark.plain (map some vs))) (several name k (d ∷ l))) (found (does (next Mark.plain (none ∷ []))) (d ∷ l)))
    go true = plain_map (λ (vs : List Name). next Mark.plain (map some vs)) (λ vs. refl) (several name k (d ∷ l))
    go false = refl

run_plain : (l : List Placed) → Plain (run_action l)
unfolding run_action detail_of
run_plain [] = tt
run_plain (d ∷ l) = go (is_digit d.1)
  where
    go : (t : Bool) → Plain (pick t (map_found (λ n. does (jump runto n)) (line_number (d ∷ l))) (found (does (bare run)) (d ∷ l)))
    go true = plain_map (jump runto) (λ n. refl) (line_number (d ∷ l))
    go false = refl

-- "FOR is static, NEXT plain"
pub action_plain : (k b : ℕ) (l : List Placed) → Plain (action k b l)
unfolding action detail_of tier_number
action_plain k b l =
    let bare_one : (w : BareWord) → IsPlain (found (does (bare w)) l) = λ w. record { is = refl } in
    let number : (w : JumpWord) → IsPlain (map_found (λ n. does (jump w n)) (line_number l)) = λ w. record { is = plain_map (jump w) (λ n. refl) (line_number l) } in
    let r : IsPlain (action k b l) =
    either_plain (eqb b 128 || eqb b 144) (bare_one stop) (either_plain (eqb b 142) (bare_one return) (either_plain (eqb b 156) (bare_one clr)
    (either_plain (eqb b 129) (record { is = plain_map (λ v. for v static) (λ v. refl) (name l) }) (either_plain (eqb b 130) (record { is = next_plain k l })
    (either_plain (eqb b 137) (number goto) (either_plain (eqb b 141) (number gosub) (either_plain (eqb b 138) (record { is = run_plain l })
    (either_plain (eqb b 139) (record { is = if_plain l }) (either_plain (eqb b 145) (record { is = on_plain k l }) (bare_one BareWord.plain)))))))))) in
    r.is
