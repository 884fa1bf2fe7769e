-- No refusal of a saved program names a place beyond the file's length, or beyond 1,024, the last index that a line is judged at (document 02, L3): a place is a byte's of the file, or "the file's length for 33", or "the line index", or 0.
-- Assumes nothing.
use Rattle.std.specs.Prelude.{ℕ, zero, suc, ◌+◌, ◌*◌, ◌-◌, ◌≤◌, ◌≡◌, refl, List, [], ◌∷◌, map, Bool, true, false, ◌&&◌, ◌||◌, not, eqb, ltb, leb, length, drop}
use Rattle.std.proofs.Common.{subst, arith, leb-true, ltb-true, length-drop}
use Rattle.std.proofs.Math.Option.{Option, none, some}
use Rattle.listings.specs.Bytes.{pick}
use Rattle.listings.specs.Listing.{static, Mark, goto, gosub, runto, ongoto, ongosub, jump, on, for, next, if, to, stmts, absent, Stmts, ∅, ◌▸◌, branching, Lines, nolines, size, total, count}
use Rattle.listings.specs.Rows.{is_digit, is_capital}
use Rattle.listings.specs.Read.{Outcome, taken, refused, check, ascends, Answer, listing, refusal}
use Rattle.listings.specs.ListingText.{last_number}
use Rattle.listings.specs.Scan.{index_of}
use Rattle.listings.specs.Every.{All, all[], all∷, all_append}
use Rattle.program_files.specs.Program.{Placed, Cover, uncovered, behind, counts, counted, join_go, Found, found, lacks, map_found, digits, line_number, characters, with_kind, name, after_comma, several, Action, does, jumps, holds, ends, seek, branch, if_action, on_action, next_action, run_action, action, pass_over, Body, body, bad, map_body, body_of, Offence, sooner, soonest, foreign, lacking, offences, shallow, short, with_line, stmts_in, judged, program, lines_from, loaded, read_program}

-- one of two: of each it holds
either : {A : Type 0} (P : A → Type 0) (x : Bool) {a b : A} → P a → P b → P (pick x a b)
either P true p q = p
either P false p q = q

-- m: what no place exceeds
module _ (m : ℕ) where
  abbrev Early : Placed → Type 0
  Early d = d.0 ≤ m

  -- ---- the bytes that count

  counted_early : (c : Cover) (p : ℕ) (l : List ℕ) → p + length l ≤ m → All Early (counted c p l)
  unfolding counted
  counted_early c p [] h = all∷ (omega arith) all[]
  counted_early c p (b ∷ l) h =
      let r = counted_early (behind c b) (suc p) l (omega arith) in
      let k : p ≤ m = omega arith in
      either (All Early) (eqb b 0) (all∷ k all[]) (either (All Early) (counts c b) (all∷ k r) r)

  join_early : {l : List Placed} → All Early l → All Early (join_go l)
  unfolding join_go
  join_early all[] = all[]
  join_early (all∷ p all[]) = all∷ p all[]
  join_early (all∷ {a = d} p (all∷ {a = e} q h)) = either (All Early) (eqb d.1 203 && eqb e.1 164) (all∷ p (join_early h)) (all∷ p (join_early (all∷ q h)))

  -- ---- numbers, names, lists of them

  -- of what was found the bytes behind it, of what was not the place
  FoundEarly : {A : Type 0} → Found A → Type 0
  FoundEarly (found a l) = All Early l
  FoundEarly (lacks p) = p ≤ m

  map_early : {A B : Type 0} (f : A → B) (r : Found A) → FoundEarly r → FoundEarly (map_found f r)
  unfolding FoundEarly map_found
  map_early f (found a l) h = h
  map_early f (lacks p) h = h

  digits_early : (a : ℕ) {l : List Placed} → All Early l → All Early (digits a l).1
  unfolding digits
  digits_early a all[] = all[]
  digits_early a (all∷ {a = d} {l = l} p h) = either (λ (r : ℕ × List Placed). All Early r.1) (is_digit d.1) (digits_early (a * 10 + (d.1 - 48)) h) (all∷ p h)

  line_number_early : {l : List Placed} → All Early l → FoundEarly (line_number l)
  unfolding FoundEarly line_number
  line_number_early all[] = omega arith
  line_number_early (all∷ {a = d} {l = l} p h) = either FoundEarly (is_digit d.1 && leb (digits 0 (d ∷ l)).0 63999) (digits_early 0 (all∷ p h)) p

  characters_early : {l : List Placed} → All Early l → All Early (characters l).1
  unfolding characters
  characters_early all[] = all[]
  characters_early (all∷ {a = d} p h) = either (λ (r : List ℕ × List Placed). All Early r.1) (is_capital d.1 || is_digit d.1) (characters_early h) (all∷ p h)

  kind_early : (v : List ℕ) {l : List Placed} → All Early l → FoundEarly (with_kind v l)
  unfolding FoundEarly with_kind
  kind_early v all[] = all[]
  kind_early v (all∷ {a = d} p h) = either FoundEarly (eqb d.1 37 || eqb d.1 36) h (all∷ p h)

  name_early : {l : List Placed} → All Early l → FoundEarly (name l)
  unfolding FoundEarly name
  name_early all[] = omega arith
  name_early (all∷ {a = d} {l = l} p h) = either FoundEarly (is_capital d.1) (kind_early (characters (d ∷ l)).0 (characters_early (all∷ p h))) p

  comma_early : {A : Type 0} (a : A) (f : List Placed → Found (List A)) → ((l : List Placed) → All Early l → FoundEarly (f l)) → {l : List Placed} → All Early l → FoundEarly (after_comma a f l)
  unfolding FoundEarly after_comma
  comma_early a f g all[] = all[]
  comma_early a f g (all∷ {a = d} {l = l} p h) = either FoundEarly (eqb d.1 44) (map_early (λ bs. a ∷ bs) (f l) (g l h)) (all∷ p h)

  several_early : {A : Type 0} (f : List Placed → Found A) → ((l : List Placed) → All Early l → FoundEarly (f l)) → (k : ℕ) (l : List Placed) → All Early l → FoundEarly (several f k l)
  unfolding FoundEarly several
  several_early f g zero l h = omega arith
  several_early {A} f g (suc k) l h = go (f l) (g l h) (several_early f g k)
    where
      go : (r : Found A) → FoundEarly r → ((l : List Placed) → All Early l → FoundEarly (several f k l))
          → FoundEarly (elim r [ lacks p ↦ lacks p | found a r ↦ after_comma a (several f k) r ])
      go (lacks p) q more = q
      go (found a r) q more = comma_early a (several f k) more q

  -- ---- a statement

  seek_early : (x y : ℕ) {l : List Placed} → All Early l → FoundEarly (seek x y l)
  unfolding FoundEarly seek
  seek_early x y all[] = omega arith
  seek_early x y (all∷ {a = d} {l = l} p h) = either FoundEarly (ends d.1) p (either FoundEarly (eqb d.1 x || eqb d.1 y) h (seek_early x y h))

  branch_early : (b : ℕ) {l : List Placed} → All Early l → FoundEarly (branch b l)
  unfolding FoundEarly branch
  branch_early b all[] = omega arith
  branch_early b (all∷ {a = d} {l = l} p h) =
      either FoundEarly (is_digit d.1) (map_early jumps (line_number (d ∷ l)) (line_number_early (all∷ p h))) (either FoundEarly (eqb b 167 && not (eqb d.1 0)) (all∷ p h) p)

  if_early : (l : List Placed) → All Early l → FoundEarly (if_action l)
  unfolding FoundEarly if_action
  if_early l h = go (seek 167 137 l) (seek_early 167 137 h)
    where
      go : (r : Found ℕ) → FoundEarly r → FoundEarly (elim r [ lacks p ↦ lacks p | found b r ↦ branch b r ])
      go (lacks p) q = q
      go (found b r) q = branch_early b q

  on_early : (k : ℕ) (l : List Placed) → All Early l → FoundEarly (on_action k l)
  unfolding FoundEarly on_action
  on_early k l h = go (seek 137 141 l) (seek_early 137 141 h)
    where
      go : (r : Found ℕ) → FoundEarly r
          → FoundEarly (elim r [ lacks p ↦ lacks p | found b r ↦ map_found (λ ns. does (on (pick (eqb b 137) ongoto ongosub) ns)) (several line_number k r) ])
      go (lacks p) q = q
      go (found b r) q = map_early (λ ns. does (on (pick (eqb b 137) ongoto ongosub) ns)) (several line_number k r) (several_early line_number (λ l g. line_number_early g) k r q)

  next_early : (k : ℕ) {l : List Placed} → All Early l → FoundEarly (next_action k l)
  unfolding FoundEarly next_action
  next_early k all[] = omega arith
  next_early k (all∷ {a = d} {l = l} p h) =
      either FoundEarly (is_capital d.1) (map_early (λ vs. does (next Mark.plain (map some vs))) (several name k (d ∷ l)) (several_early name (λ l g. name_early g) k (d ∷ l) (all∷ p h))) (all∷ p h)

  run_early : {l : List Placed} → All Early l → FoundEarly (run_action l)
  unfolding FoundEarly run_action
  run_early all[] = omega arith
  run_early (all∷ {a = d} {l = l} p h) = either FoundEarly (is_digit d.1) (map_early (λ n. does (jump runto n)) (line_number (d ∷ l)) (line_number_early (all∷ p h))) (all∷ p h)

  action_early : (k b : ℕ) {l : List Placed} → All Early l → FoundEarly (action k b l)
  unfolding FoundEarly action
  action_early k b {l} h =
      either FoundEarly (eqb b 128 || eqb b 144) h (either FoundEarly (eqb b 142) h (either FoundEarly (eqb b 156) h
      (either FoundEarly (eqb b 129) (map_early (λ v. does (for v static)) (name l) (name_early h)) (either FoundEarly (eqb b 130) (next_early k h)
      (either FoundEarly (eqb b 137) (map_early (λ n. does (jump goto n)) (line_number l) (line_number_early h))
      (either FoundEarly (eqb b 141) (map_early (λ n. does (jump gosub n)) (line_number l) (line_number_early h)) (either FoundEarly (eqb b 138) (run_early h)
      (either FoundEarly (eqb b 139) (if_early l h) (either FoundEarly (eqb b 145) (on_early k l h) h)))))))))

  -- ---- a line

  pass_early : {l : List Placed} → All Early l → All Early (pass_over l)
  unfolding pass_over
  pass_early all[] = all[]
  pass_early (all∷ {a = d} p h) = either (All Early) (ends d.1) (all∷ p h) (pass_early h)

  BodyEarly : Body → Type 0
  BodyEarly (body s) = Unit {0}
  BodyEarly (bad p) = p ≤ m

  held_early : (f : Stmts → Stmts) (b : Body) → BodyEarly b → BodyEarly (map_body f b)
  unfolding BodyEarly map_body
  held_early f (body s) h = tt
  held_early f (bad p) h = h

  body_early : (k : ℕ) (s : Stmts) (l : List Placed) → All Early l → BodyEarly (body_of k s l)
  unfolding FoundEarly BodyEarly body_of
  body_early zero s l h = tt
  body_early (suc k) s [] h = tt
  body_early (suc k) s (d ∷ l) (all∷ p h) = either BodyEarly (eqb d.1 0) tt (either BodyEarly (eqb d.1 58) (body_early k s l h) (go (action k d.1 l) (action_early k d.1 h) (body_early k)))
    where
      go : (r : Found Action) → FoundEarly r → ((s : Stmts) (l : List Placed) → All Early l → BodyEarly (body_of k s l))
          → BodyEarly (elim r [
            | lacks p ↦ bad p
            | found (does o) r ↦ body_of k (s ▸ o) (pass_over r)
            | found (jumps n) r ↦ body (branching s if (to n) ∅ absent ∅)
            | found holds r ↦ map_body (λ a. branching s if stmts a absent ∅) (body_of k ∅ r)
          ])
      go (lacks p) q more = q
      go (found (does o) r) q more = more (s ▸ o) (pass_over r) (pass_early q)
      go (found (jumps n) r) q more = tt
      go (found holds r) q more = held_early (λ a. branching s if stmts a absent ∅) (body_of k ∅ r) (more ∅ r q)

  -- ---- a line, judged

  abbrev EarlyOffence : Offence → Type 0
  EarlyOffence o = o.0 ≤ m

  IfOffence : Option Offence → Type 0
  IfOffence none = Unit {0}
  IfOffence (some o) = o.0 ≤ m

  sooner_early : (a : Offence) (o : Option Offence) → a.0 ≤ m → IfOffence o → IfOffence (sooner a o)
  unfolding IfOffence sooner
  sooner_early a none p h = p
  sooner_early a (some b) p h = either IfOffence (ltb a.0 b.0 || (eqb a.0 b.0 && leb a.1 b.1)) p h

  soonest_early : {l : List Offence} → All EarlyOffence l → IfOffence (soonest l)
  unfolding IfOffence soonest
  soonest_early all[] = tt
  soonest_early (all∷ {a = a} {l = l} p h) = sooner_early a (soonest l) p (soonest_early h)

  foreign_early : {l : List Placed} → All Early l → All EarlyOffence (foreign l)
  unfolding foreign
  foreign_early all[] = all[]
  foreign_early (all∷ {a = d} p h) = either (All EarlyOffence) (eqb d.1 100) (all∷ p (foreign_early h)) (foreign_early h)

  lacking_early : (b : Body) → BodyEarly b → All EarlyOffence (lacking b)
  unfolding BodyEarly lacking
  lacking_early (body s) h = all[]
  lacking_early (bad p) h = all∷ h all[]

  offences_early : (e q n : ℕ) (l : List ℕ) (cs : List Placed) (b : Body) → e ≤ m → q ≤ m → All Early cs → BodyEarly b → All EarlyOffence (offences e q n l cs b)
  unfolding offences
  offences_early e q n l cs b he hq h g =
      all_append (either (All EarlyOffence) (leb n 63999) all[] (all∷ hq all[]))
      (all_append (foreign_early h) (all_append (lacking_early b g) (either (All EarlyOffence) (ltb (index_of 0 l) (length l)) all[] (all∷ he all[]))))

  -- ---- an answer

  IfTaken : Outcome Lines → Type 0
  IfTaken (taken ls) = count ls ≤ 1024
  IfTaken (refused n) = Unit {0}

  check_few : (x : Bool) (n : ℕ) (o : Outcome Lines) → (x ≡ true → IfTaken o) → IfTaken (check x n o)
  unfolding check IfTaken
  check_few true n o h = h refl
  check_few false n o h = tt

  -- "5 line 1,025"
  line_few : (ls : Lines) (n : ℕ) (s : Stmts) → IfTaken (with_line ls n s)
  unfolding with_line IfTaken count
  line_few ls n s =
      check_few (ascends n (last_number ls)) 4 _ λ a.
      check_few (ltb (count ls) 1024) 5 _ λ b.
      check_few (leb (total ls + size s) 4096) 6 _ λ c.
      check_few (shallow 0 s) 7 _ λ d.
      check_few (short s) 8 _ λ e.
      omega (arith, ltb-true (count ls) 1024 b)

  AnswerEarly : Answer → Type 0
  AnswerEarly (listing L) = Unit {0}
  AnswerEarly (refusal n p) = p ≤ m

  module _ (indices : 1024 ≤ m) where
    judged_early : (ls : Lines) (n : ℕ) (b : Body) (o : Option Offence) (f : Lines → Answer) → count ls ≤ 1024 → IfOffence o → ((ms : Lines) → count ms ≤ 1024 → AnswerEarly (f ms))
        → AnswerEarly (judged ls n b o f)
    unfolding judged AnswerEarly IfOffence IfTaken
    judged_early ls n b (some o) f few h more = h
    judged_early ls n b none f few h more = go (with_line ls n (stmts_in b)) (line_few ls n (stmts_in b))
      where
        go : (r : Outcome Lines) → IfTaken r → AnswerEarly (elim r [ refused m ↦ refusal m (count ls) | taken ms ↦ f ms ])
        go (refused i) g = omega arith
        go (taken ms) g = more ms g

    program_early : (ls : Lines) → AnswerEarly (program ls)
    unfolding program AnswerEarly
    program_early ls = tt

    -- where bytes are left to make a line they are the file's last
    lines_early : (k e : ℕ) (ls : Lines) (p : ℕ) (l : List ℕ) → e ≤ m → (4 ≤ length l → p + length l ≤ m) → count ls ≤ 1024 → AnswerEarly (lines_from k e ls p l)
    unfolding lines_from AnswerEarly
    lines_early zero e ls p l he hp few = he
    lines_early (suc k) e ls p [] he hp few = he
    lines_early (suc k) e ls p (a ∷ []) he hp few = he
    lines_early (suc k) e ls p (a ∷ b ∷ []) he hp few = either AnswerEarly (eqb a 0 && eqb b 0) (program_early ls) he
    lines_early (suc k) e ls p (a ∷ b ∷ c ∷ []) he hp few = either AnswerEarly (eqb a 0 && eqb b 0) (program_early ls) he
    lines_early (suc k) e ls p (a ∷ b ∷ c ∷ d ∷ l) he hp few =
        let cs : List Placed = counted uncovered (p + 4) l in
        let y : Body = body_of (length cs) ∅ (join_go cs) in
        let n : ℕ = c + 256 * d in
        let fits : p + 4 + length l ≤ m = omega (arith, hp (omega arith)) in
        let h : All Early cs = counted_early uncovered (p + 4) l fits in
        either AnswerEarly (eqb a 0 && eqb b 0) (program_early ls)
        (judged_early ls n y (soonest (offences e (p + 2) n l cs y)) _ few
        (soonest_early (offences_early e (p + 2) n l cs y he (omega arith) h (body_early (length cs) ∅ (join_go cs) (join_early h))))
        (λ ms g. lines_early k e ms (p + 5 + index_of 0 l) (drop (suc (index_of 0 l)) l) he (λ some_left. omega (arith, length-drop (suc (index_of 0 l)) l)) g))

    answer_early : (f : List ℕ) → length f ≤ m → AnswerEarly (loaded (length f) f)
    unfolding loaded AnswerEarly count
    answer_early [] h = h
    answer_early (a ∷ []) h = h
    answer_early (a ∷ b ∷ l) h = lines_early (suc (length (a ∷ b ∷ l))) (length (a ∷ b ∷ l)) nolines 2 l h (λ some_left. omega arith) (omega arith)

refusal_early : (m n p : ℕ) {r : Answer} → AnswerEarly m r → r ≡ refusal n p → p ≤ m
unfolding AnswerEarly
refusal_early m n p h e = subst (AnswerEarly m) e h

-- with "the line index as place" it is 1,024 at most ("5 line 1,025"); else a place in the file or its length: no place exceeds both
pub place_within : (m : ℕ) (f : List ℕ) (n p : ℕ) → length f ≤ m → 1024 ≤ m → read_program f ≡ refusal n p → p ≤ m
unfolding read_program AnswerEarly
place_within m f n p h i e = refusal_early m n p (either (AnswerEarly m) (leb (length f) 65536) (answer_early m i f h) (omega arith)) e

-- whatever the file: "refusal 1 comes first with place 0", so that no longer one has another place
pub program_places : (f : List ℕ) (n p : ℕ) → read_program f ≡ refusal n p → p ≤ 65537
unfolding read_program AnswerEarly
program_places f n p e = refusal_early 65537 n p (go (leb (length f) 65536) (leb-true (length f) 65536)) e
  where
    go : (x : Bool) → (x ≡ true → length f ≤ 65536) → AnswerEarly 65537 (pick x (loaded (length f) f) (refusal 1 0))
    go true h = let short : length f ≤ 65536 = h refl in answer_early 65537 (omega arith) f (omega arith)
    go false h = omega arith
