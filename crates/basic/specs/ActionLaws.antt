-- What a statement's first byte and the bytes behind it make of it, case by case. Assumes nothing.
use Rattle.std.specs.Prelude.{ℕ, ◌<◌, ◌≡◌, refl, List, [], ◌∷◌, map, Bool, true, false, ◌&&◌, ◌||◌, ◌⊎◌, not, eqb, length, Result, Ok, Err, IfOk}
use Rattle.std.proofs.Common.{sym, ◌∙◌, ap, arith, inl, inr, eq-eqb}
use Rattle.std.proofs.lemmas.List.{length-map}
use Rattle.std.proofs.lemmas.Result.{IfOk-equal, IfOk-from_err}
use Rattle.std.proofs.Math.Bool.{or-true}
use Rattle.std.proofs.Math.Option.{none, some}
use borrow.Author.Tests.{ne_eqb}
use Rattle.listings.specs.Bytes.{pick, same, bytes}
use Rattle.listings.specs.Rows.{is_digit, is_capital, opening_words}
use Rattle.listings.specs.WordTable.{words, first, word_index}
use Rattle.listings.specs.Listing.{Name, static, Mark, goto, gosub, runto, ongoto, ongosub, return, run, clr, stop, BareWord, Simple, jump, on, for, next, bare}
use Rattle.listings.specs.ListingText.{jump_word, on_word, bare_word, simple_word}
use Rattle.listings.specs.Records.{name_key, slot_key, args_of}
use Rattle.program_files.specs.Program as definition
use Rattle.program_files.specs.Program.{Placed, Found, found, lacks, map_found, line_number, name, several, ends, seek, branch, if_action, on_action, next_action, run_action, action, pass_over}
use Rattle.basic.specs.Found.{found_by}
use Rattle.basic.specs.Items.{item, items_from, values_in, put_front}
use Rattle.basic.specs.Fuel.{rest_shorter, seek_shorter, several_more, number_shortens}
use Rattle.basic.specs.ItemLaws.{map-map, map-same, several-map, put_none}
use Rattle.basic.specs.Actions.{coded, IsList, one_in, args_in}
use Rattle.basic.specs.declared.actions.Action.{Action}
use Rattle.basic.specs.declared.actions.Action.TheVariants.{Does, Jumps}
use Rattle.basic.specs.declared.cursors.Cursor.{Cursor}
use Rattle.basic.specs.declared.found.Found as read
use Rattle.basic.specs.declared.found.Lack.{Lack}
use Rattle.basic.specs.declared.items.Item.TheVariants as item_kind

-- ---- the end of a statement

ends_is : (b : ℕ) → (b ≡ 0) ⊎ (b ≡ 58) → ends b ≡ true
unfolding ends
ends_is b (inl e) = rw e
ends_is b (inr e) = rw e

ends-not : (b : ℕ) → (b ≡ 0 → ⊥) → (b ≡ 58 → ⊥) → ends b ≡ false
unfolding ends
ends-not b h g = rw (ne_eqb b 0 h, ne_eqb b 58 g)

-- of bytes l of which b is the first and m the rest
module _ (l : List Placed) (p b : ℕ) (m : List Placed) (is : l ≡ (p, b) ∷ m) where
  pub pass_end : (b ≡ 0) ⊎ (b ≡ 58) → pass_over l ≡ l
  unfolding pass_over
  pass_end h = rw (is, ends_is b h)

  pub pass_more : (b ≡ 0 → ⊥) → (b ≡ 58 → ⊥) → pass_over l ≡ pass_over m
  unfolding pass_over
  pass_more h g = rw (is, ends-not b h g)

module _ (x y : ℕ) (l : List Placed) (p b : ℕ) (m : List Placed) (is : l ≡ (p, b) ∷ m) where
  pub seek_end : (b ≡ 0) ⊎ (b ≡ 58) → seek x y l ≡ lacks p
  unfolding seek
  seek_end h = rw (is, ends_is b h)

  pub seek_here : (b ≡ 0 → ⊥) → (b ≡ 58 → ⊥) → (b ≡ x) ⊎ (b ≡ y) → seek x y l ≡ found b m
  unfolding seek
  seek_here h g e = rw (is, ends-not b h g, either_is e)
    where
      either_is : (b ≡ x) ⊎ (b ≡ y) → eqb b x || eqb b y ≡ true
      either_is (inl q) = rw (eq-eqb b x q)
      either_is (inr q) = rw (eq-eqb b y q) (or-true (eqb b x))

  pub seek_more : (b ≡ 0 → ⊥) → (b ≡ 58 → ⊥) → (b ≡ x → ⊥) → (b ≡ y → ⊥) → seek x y l ≡ seek x y m
  unfolding seek
  seek_more h g f e = rw (is, ends-not b h g, ne_eqb b x f, ne_eqb b y e)

-- ---- the number of each opening word, and how many arguments stand behind it

coded_goto : (n : ℕ) → coded (definition.does (jump goto n)) ≡ Does 7 1
unfolding coded args_of simple_word jump_word on_word bare_word word_index words opening_words first same bytes
coded_goto n = refl

coded_gosub : (n : ℕ) → coded (definition.does (jump gosub n)) ≡ Does 8 1
unfolding coded args_of simple_word jump_word on_word bare_word word_index words opening_words first same bytes
coded_gosub n = refl

coded_runto : (n : ℕ) → coded (definition.does (jump runto n)) ≡ Does 10 1
unfolding coded args_of simple_word jump_word on_word bare_word word_index words opening_words first same bytes
coded_runto n = refl

coded_return : coded (definition.does (bare return)) ≡ Does 9 0
unfolding coded args_of simple_word jump_word on_word bare_word word_index words opening_words first same bytes
coded_return = refl

coded-run : coded (definition.does (bare run)) ≡ Does 10 0
unfolding coded args_of simple_word jump_word on_word bare_word word_index words opening_words first same bytes
coded-run = refl

coded_clr : coded (definition.does (bare clr)) ≡ Does 24 0
unfolding coded args_of simple_word jump_word on_word bare_word word_index words opening_words first same bytes
coded_clr = refl

coded_stop : coded (definition.does (bare stop)) ≡ Does 25 0
unfolding coded args_of simple_word jump_word on_word bare_word word_index words opening_words first same bytes
coded_stop = refl

coded_plain : coded (definition.does (bare BareWord.plain)) ≡ Does 27 0
unfolding coded args_of simple_word jump_word on_word bare_word word_index words opening_words first same bytes
coded_plain = refl

coded_for : (v : Name) → coded (definition.does (for v static)) ≡ Does 13 1
unfolding coded args_of simple_word jump_word on_word bare_word word_index words opening_words first same bytes
coded_for v = refl

coded_ongoto : (ns : List ℕ) → coded (definition.does (on ongoto ns)) ≡ Does 11 (length ns)
unfolding coded args_of simple_word jump_word on_word bare_word word_index words opening_words first same bytes
coded_ongoto ns = refl

coded_ongosub : (ns : List ℕ) → coded (definition.does (on ongosub ns)) ≡ Does 12 (length ns)
unfolding coded args_of simple_word jump_word on_word bare_word word_index words opening_words first same bytes
coded_ongosub ns = refl

coded_star : coded (definition.does (next Mark.plain (none ∷ []))) ≡ Does 14 1
unfolding coded args_of simple_word jump_word on_word bare_word word_index words opening_words first same bytes
coded_star = refl

coded_names : (vs : List Name) → coded (definition.does (next Mark.plain (map some vs))) ≡ Does 14 (length vs)
unfolding coded args_of simple_word jump_word on_word bare_word word_index words opening_words first same bytes
coded_names vs = ap (Does 14) (length-map (map some vs) slot_key ∙ length-map vs some)

-- ---- IF

-- THEN or GOTO, or the place where one is due
pub if-lacks : (l : List Placed) (p : ℕ) → seek 167 137 l ≡ lacks p → if_action l ≡ lacks p
unfolding if_action
if-lacks l p e = ap (λ (x : Found ℕ). elim x [ lacks p ↦ lacks p | found b r ↦ branch b r ]) e

pub if_found_lem : (l : List Placed) (b : ℕ) (r : List Placed) → seek 167 137 l ≡ found b r → if_action l ≡ branch b r
unfolding if_action
if_found_lem l b r e = ap (λ (x : Found ℕ). elim x [ lacks p ↦ lacks p | found b r ↦ branch b r ]) e

module _ (b : ℕ) (l : List Placed) (p d : ℕ) (m : List Placed) (is : l ≡ (p, d) ∷ m) where
  pub branch_number_lem : is_digit d ≡ true → map_found coded (branch b l) ≡ map_found Jumps (line_number l)
  unfolding branch coded
  branch_number_lem h = rw (is, h) (map-map coded definition.jumps (line_number ((p, d) ∷ m)))

  pub branch_goto : is_digit d ≡ false → (b ≡ 167 → ⊥) → branch b l ≡ lacks p
  unfolding branch
  branch_goto h g = rw (is, h, ne_eqb b 167 g)

  pub branch_end : is_digit d ≡ false → b ≡ 167 → d ≡ 0 → branch b l ≡ lacks p
  unfolding branch
  branch_end h g e = rw (is, h, g, e)

  pub branch-holds : is_digit d ≡ false → b ≡ 167 → (d ≡ 0 → ⊥) → branch b l ≡ found definition.holds l
  unfolding branch
  branch-holds h g e = rw (is, h, g, ne_eqb d 0 e)

-- an IF has no arguments of its own
branch_args : (b : ℕ) (l : List Placed) → args_in (branch b l) ≡ []
unfolding branch args_in map_found
branch_args b [] = refl
branch_args b (d ∷ l) = go (is_digit d.1) (eqb b 167 && not (eqb d.1 0)) (line_number (d ∷ l))
  where
    go : (s t : Bool) (x : Found ℕ) → args_in (pick s (map_found definition.jumps x) (pick t (found definition.holds (d ∷ l)) (lacks d.0))) ≡ []
    go true t (found n r) = refl
    go true t (lacks p) = refl
    go false true x = refl
    go false false x = refl

if_args : (l : List Placed) → args_in (if_action l) ≡ []
unfolding if_action args_in
if_args l = go (seek 167 137 l)
  where
    go : (x : Found ℕ) → args_in (elim x [ lacks p ↦ lacks p | found b r ↦ branch b r ]) ≡ []
    go (lacks p) = refl
    go (found b r) = branch_args b r

-- ---- ON

pub on_lacks : (k : ℕ) (l : List Placed) (p : ℕ) → seek 137 141 l ≡ lacks p → on_action k l ≡ lacks p
unfolding on_action
on_lacks k l p e = ap (λ (x : Found ℕ). elim x [ lacks p ↦ lacks p | found b r ↦ map_found (λ ns. definition.does (on (pick (eqb b 137) ongoto ongosub) ns)) (several line_number k r) ]) e

-- the numbers behind GOTO or GOSUB
pub on_found : (l : List Placed) (b : ℕ) (r : List Placed) → seek 137 141 l ≡ found b r
    → on_action (length l) l ≡ map_found (λ ns. definition.does (on (pick (eqb b 137) ongoto ongosub) ns)) (items_from item_kind.Number r)
unfolding on_action item
on_found l b r e =
    let h : length r < length l = rest_shorter (length l) e (seek_shorter 137 141 l) in
    ap (λ (x : Found ℕ). elim x [ lacks p ↦ lacks p | found b r ↦ map_found (λ ns. definition.does (on (pick (eqb b 137) ongoto ongosub) ns)) (several line_number (length l) r) ]) e
    ∙ ap (map_found (λ ns. definition.does (on (pick (eqb b 137) ongoto ongosub) ns))) (several_more line_number number_shortens (length l) (length r) r (omega arith) (omega arith))

-- a statement with a list has as many arguments as there are items
counted_items : {A : Type 0} (w : ℕ) (o : List A → Simple) → ((vs : List A) → coded (definition.does (o vs)) ≡ Does w (length vs))
    → (x : Found (List A)) → map_found coded (map_found (λ vs. definition.does (o vs)) x) ≡ map_found (λ k. Does w k) (map_found length x)
counted_items w o e x =
    map-map coded (λ vs. definition.does (o vs)) x ∙ map-same (λ vs. coded (definition.does (o vs))) (λ vs. Does w (length vs)) e x ∙ sym (map-map (λ k. Does w k) length x)

pub on_goto : (l : List Placed) (b : ℕ) (r : List Placed) → seek 137 141 l ≡ found b r → b ≡ 137
    → map_found coded (on_action (length l) l) ≡ map_found (λ k. Does 11 k) (map_found length (items_from item_kind.Number r))
on_goto l b r e g = ap (map_found coded) (on_found l b r e) ∙ rw g (counted_items 11 (on ongoto) coded_ongoto (items_from item_kind.Number r))

pub on_gosub : (l : List Placed) (b : ℕ) (r : List Placed) → seek 137 141 l ≡ found b r → (b ≡ 137 → ⊥)
    → map_found coded (on_action (length l) l) ≡ map_found (λ k. Does 12 k) (map_found length (items_from item_kind.Number r))
on_gosub l b r e g = ap (map_found coded) (on_found l b r e) ∙ rw (ne_eqb b 137 g) (counted_items 12 (on ongosub) coded_ongosub (items_from item_kind.Number r))

on_args_any : (f : List ℕ → Simple) → ((ns : List ℕ) → args_of (f ns) ≡ ns) → (x : Found (List ℕ)) → args_in (map_found (λ ns. definition.does (f ns)) x) ≡ values_in x
unfolding args_in map_found
on_args_any f e (found ns r) = e ns
on_args_any f e (lacks p) = refl

pub on_args : (l : List Placed) (b : ℕ) (r : List Placed) → seek 137 141 l ≡ found b r → args_in (on_action (length l) l) ≡ values_in (items_from item_kind.Number r)
unfolding args_of
on_args l b r e = ap args_in (on_found l b r e) ∙ on_args_any (on (pick (eqb b 137) ongoto ongosub)) (λ ns. refl) (items_from item_kind.Number r)

-- ---- NEXT

-- keys are those of the names
keys : (k : ℕ) (l : List Placed) → several (item item_kind.Name) k l ≡ map_found (map name_key) (several name k l)
unfolding item
keys k l = several-map name_key name (item item_kind.Name) (λ m. refl) k l

module _ (l : List Placed) (p b : ℕ) (m : List Placed) (is : l ≡ (p, b) ∷ m) where
  next_is_names : is_capital b ≡ true → (k : ℕ) → next_action k l ≡ map_found (λ vs. definition.does (next Mark.plain (map some vs))) (several name k l)
  unfolding next_action
  next_is_names h k = rw (is, h)

  next_is_star : is_capital b ≡ false → (k : ℕ) → next_action k l ≡ found (definition.does (next Mark.plain (none ∷ []))) l
  unfolding next_action
  next_is_star h k = rw (is, h)

  pub next_names : is_capital b ≡ true → map_found coded (next_action (length l) l) ≡ map_found (λ k. Does 14 k) (map_found length (items_from item_kind.Name l))
  next_names h =
      ap (map_found coded) (next_is_names h (length l))
      ∙ counted_items 14 (λ vs. next Mark.plain (map some vs)) coded_names (several name (length l) l)
      ∙ ap (map_found (λ k. Does 14 k)) (map-same length (λ vs. length (map name_key vs)) (λ vs. sym (length-map vs name_key)) (several name (length l) l) ∙ sym (map-map length (map name_key) (several name (length l) l)) ∙ ap (map_found length) (sym (keys (length l) l)))

  pub next_star : is_capital b ≡ false → (k : ℕ) → map_found coded (next_action k l) ≡ found (Does 14 1) l
  unfolding map_found
  next_star h k = ap (map_found coded) (next_is_star h k) ∙ ap (λ (z : Action). found z l) coded_star

  pub slots_names : is_capital b ≡ true → args_in (next_action (length l) l) ≡ values_in (items_from item_kind.Name l)
  unfolding args_in args_of slot_key map_found
  slots_names h = ap args_in (next_is_names h (length l)) ∙ go (several name (length l) l) ∙ ap values_in (sym (keys (length l) l))
    where
      same_keys : (vs : List Name) → map slot_key (map some vs) ≡ map name_key vs
      same_keys [] = refl
      same_keys (v ∷ vs) = ap (λ (ks : List ℕ). name_key v ∷ ks) (same_keys vs)

      go : (x : Found (List Name)) → args_in (map_found (λ vs. definition.does (next Mark.plain (map some vs))) x) ≡ values_in (map_found (map name_key) x)
      go (found vs r) = same_keys vs
      go (lacks q) = refl

  pub slots_star : is_capital b ≡ false → (k : ℕ) → args_in (next_action k l) ≡ 0 ∷ []
  unfolding args_in args_of slot_key
  slots_star h k = ap args_in (next_is_star h k)

-- ---- what is put

-- of equal arguments
pub put_as : (a b : List ℕ) (r : Result (read.Found Action) Lack) (t t' : List ℕ) → a ≡ b → IfOk r (λ (x : read.Found Action). t' ≡ put_front a t)
    → IfOk r (λ (x : read.Found Action). t' ≡ put_front b t)
put_as a b r t t' e h = IfOk-equal r t' (put_front a t) (put_front b t) h (ap (λ (vs : List ℕ). put_front vs t) e)

-- no arguments
pub none_put : (a : List ℕ) (r : Result (read.Found Action) Lack) (t : List ℕ) → a ≡ [] → IfOk r (λ (x : read.Found Action). t ≡ put_front a t)
none_put a (Ok x) t e = sym (ap (λ (vs : List ℕ). put_front vs t) e ∙ put_none t)
none_put a (Err p) t e = IfOk-from_err (Err p) (λ (x : read.Found Action). t ≡ put_front a t) refl

-- those of a list
pub list_put : (a : List ℕ) (w : ℕ) (n : Result (read.Found ℕ) Lack) (r : Result (read.Found Action) Lack) (t t' : List ℕ) → IsList w n r → IfOk n (λ (x : read.Found ℕ). t' ≡ put_front a t)
    → IfOk r (λ (x : read.Found Action). t' ≡ put_front a t)
unfolding map_found
list_put a w (Ok x) (Ok y) t t' e h = h
list_put a w (Ok x) (Err p) t t' e h = let q = e (λ (c : Cursor). []) in absurd cc
list_put a w (Err p) (Ok y) t t' e h = let q = e (λ (c : Cursor). []) in absurd cc
list_put a w (Err q) (Err p) t t' e h = h

-- ---- one number or one name

-- a statement with one number or name has one argument
coded-one : {A : Type 0} (w : ℕ) (o : A → Simple) (g : A → ℕ) → ((a : A) → coded (definition.does (o a)) ≡ Does w 1)
    → (x : Found A) → map_found coded (map_found (λ a. definition.does (o a)) x) ≡ map_found (λ v. Does w 1) (map_found g x)
coded-one w o g e x = map-map coded (λ a. definition.does (o a)) x ∙ map-same (λ a. coded (definition.does (o a))) (λ a. Does w 1) e x ∙ sym (map-map (λ v. Does w 1) g x)

map-none : (x : Found ℕ) → map_found (λ n. n) x ≡ x
unfolding map_found
map-none (found n r) = refl
map-none (lacks p) = refl

coded_number : (w : ℕ) (o : ℕ → Simple) → ((n : ℕ) → coded (definition.does (o n)) ≡ Does w 1) → (x : Found ℕ) → map_found coded (map_found (λ n. definition.does (o n)) x) ≡ map_found (λ v. Does w 1) x
coded_number w o e x = coded-one w o (λ n. n) e x ∙ ap (map_found (λ v. Does w 1)) (map-none x)

-- of what was found, the argument is the one that the code has
pub one_args : {A : Type 0} (o : A → Simple) (g : A → ℕ) → ((a : A) → args_of (o a) ≡ g a ∷ []) → (T : Cursor → List Placed) (f : Result (read.Found ℕ) Lack) (x : Found A)
    → found_by T f ≡ map_found g x → args_in (map_found (λ a. definition.does (o a)) x) ≡ one_in f
unfolding args_in map_found
one_args o g e T (Ok f) (found a r) h = let q : f.value ≡ g a = cc in e a ∙ ap (λ (k : ℕ). k ∷ []) (sym q)
one_args o g e T (Ok f) (lacks p) h = cc
one_args o g e T (Err p) (found a r) h = cc
one_args o g e T (Err p) (lacks q) h = refl

number_args : (o : ℕ → Simple) → ((n : ℕ) → args_of (o n) ≡ n ∷ []) → (T : Cursor → List Placed) (f : Result (read.Found ℕ) Lack) (x : Found ℕ)
    → found_by T f ≡ x → args_in (map_found (λ n. definition.does (o n)) x) ≡ one_in f
number_args o e T f x h = one_args o (λ n. n) e T f x (h ∙ sym (map-none x))

-- ---- RUN

module _ (l : List Placed) (p b : ℕ) (m : List Placed) (is : l ≡ (p, b) ∷ m) where
  run_is_number : is_digit b ≡ true → run_action l ≡ map_found (λ n. definition.does (jump runto n)) (line_number l)
  unfolding run_action
  run_is_number h = rw (is, h)

  run_is_bare : is_digit b ≡ false → run_action l ≡ found (definition.does (bare run)) l
  unfolding run_action
  run_is_bare h = rw (is, h)

  pub run_number : is_digit b ≡ true → map_found coded (run_action l) ≡ map_found (λ v. Does 10 1) (line_number l)
  run_number h = ap (map_found coded) (run_is_number h) ∙ coded_number 10 (jump runto) coded_runto (line_number l)

  pub run-bare : is_digit b ≡ false → map_found coded (run_action l) ≡ found (Does 10 0) l
  unfolding map_found
  run-bare h = ap (map_found coded) (run_is_bare h) ∙ ap (λ (z : Action). found z l) coded-run

  pub run_args : is_digit b ≡ true → (T : Cursor → List Placed) (f : Result (read.Found ℕ) Lack) → found_by T f ≡ line_number l → args_in (run_action l) ≡ one_in f
  unfolding args_of
  run_args h T f e = ap args_in (run_is_number h) ∙ number_args (jump runto) (λ n. refl) T f (line_number l) e

  pub run_no_args : is_digit b ≡ false → args_in (run_action l) ≡ []
  unfolding args_in args_of
  run_no_args h = ap args_in (run_is_bare h)

-- ---- by the first byte

module _ (k b : ℕ) (l : List Placed) where
  bare_is : (o : Simple) (w : ℕ) → coded (definition.does o) ≡ Does w 0 → action k b l ≡ found (definition.does o) l → map_found coded (action k b l) ≡ found (Does w 0) l
  unfolding map_found
  bare_is o w e h = ap (map_found coded) h ∙ ap (λ (z : Action). found z l) e

  pub action_end : b ≡ 128 → map_found coded (action k b l) ≡ found (Does 25 0) l
  unfolding action
  action_end e = bare_is (bare stop) 25 coded_stop (rw e)

  pub action_stop : b ≡ 144 → map_found coded (action k b l) ≡ found (Does 25 0) l
  unfolding action
  action_stop e = bare_is (bare stop) 25 coded_stop (rw e)

  pub action_return : b ≡ 142 → map_found coded (action k b l) ≡ found (Does 9 0) l
  unfolding action
  action_return e = bare_is (bare return) 9 coded_return (rw e)

  pub action_clr : b ≡ 156 → map_found coded (action k b l) ≡ found (Does 24 0) l
  unfolding action
  action_clr e = bare_is (bare clr) 24 coded_clr (rw e)

  for_is : b ≡ 129 → action k b l ≡ map_found (λ v. definition.does (for v static)) (name l)
  unfolding action
  for_is e = rw e

  pub action_for : b ≡ 129 → map_found coded (action k b l) ≡ map_found (λ v. Does 13 1) (map_found name_key (name l))
  action_for e = ap (map_found coded) (for_is e) ∙ coded-one 13 (λ v. for v static) name_key coded_for (name l)

  pub args_for : b ≡ 129 → (T : Cursor → List Placed) (f : Result (read.Found ℕ) Lack) → found_by T f ≡ map_found name_key (name l) → args_in (action k b l) ≡ one_in f
  unfolding args_of
  args_for e T f h = ap args_in (for_is e) ∙ one_args (λ v. for v static) name_key (λ v. refl) T f (name l) h

  pub action_next : b ≡ 130 → action k b l ≡ next_action k l
  unfolding action
  action_next e = rw e

  goto_is : b ≡ 137 → action k b l ≡ map_found (λ n. definition.does (jump goto n)) (line_number l)
  unfolding action
  goto_is e = rw e

  pub action_goto : b ≡ 137 → map_found coded (action k b l) ≡ map_found (λ v. Does 7 1) (line_number l)
  action_goto e = ap (map_found coded) (goto_is e) ∙ coded_number 7 (jump goto) coded_goto (line_number l)

  pub args_goto : b ≡ 137 → (T : Cursor → List Placed) (f : Result (read.Found ℕ) Lack) → found_by T f ≡ line_number l → args_in (action k b l) ≡ one_in f
  unfolding args_of
  args_goto e T f h = ap args_in (goto_is e) ∙ number_args (jump goto) (λ n. refl) T f (line_number l) h

  gosub_is : b ≡ 141 → action k b l ≡ map_found (λ n. definition.does (jump gosub n)) (line_number l)
  unfolding action
  gosub_is e = rw e

  pub action_gosub : b ≡ 141 → map_found coded (action k b l) ≡ map_found (λ v. Does 8 1) (line_number l)
  action_gosub e = ap (map_found coded) (gosub_is e) ∙ coded_number 8 (jump gosub) coded_gosub (line_number l)

  pub args_gosub : b ≡ 141 → (T : Cursor → List Placed) (f : Result (read.Found ℕ) Lack) → found_by T f ≡ line_number l → args_in (action k b l) ≡ one_in f
  unfolding args_of
  args_gosub e T f h = ap args_in (gosub_is e) ∙ number_args (jump gosub) (λ n. refl) T f (line_number l) h

  pub action-run : b ≡ 138 → action k b l ≡ run_action l
  unfolding action
  action-run e = rw e

  pub action-if : b ≡ 139 → action k b l ≡ if_action l
  unfolding action
  action-if e = rw e

  pub args-if : b ≡ 139 → args_in (action k b l) ≡ []
  args-if e = ap args_in (action-if e) ∙ if_args l

  pub action_on : b ≡ 145 → action k b l ≡ on_action k l
  unfolding action
  action_on e = rw e

  pub action_plain : (b ≡ 128 → ⊥) → (b ≡ 144 → ⊥) → (b ≡ 142 → ⊥) → (b ≡ 156 → ⊥) → (b ≡ 129 → ⊥) → (b ≡ 130 → ⊥) → (b ≡ 137 → ⊥) → (b ≡ 141 → ⊥) → (b ≡ 138 → ⊥) → (b ≡ 139 → ⊥) → (b ≡ 145 → ⊥)
      → map_found coded (action k b l) ≡ found (Does 27 0) l
  unfolding action
  action_plain a1 a2 a3 a4 a5 a6 a7 a8 a9 a10 a11 =
      bare_is (bare BareWord.plain) 27 coded_plain
      (rw (ne_eqb b 128 a1, ne_eqb b 144 a2, ne_eqb b 142 a3, ne_eqb b 156 a4, ne_eqb b 129 a5, ne_eqb b 130 a6, ne_eqb b 137 a7, ne_eqb b 141 a8, ne_eqb b 138 a9, ne_eqb b 139 a10, ne_eqb b 145 a11))

  -- the others have none
  pub args_none : (b ≡ 129 → ⊥) → (b ≡ 130 → ⊥) → (b ≡ 137 → ⊥) → (b ≡ 141 → ⊥) → (b ≡ 138 → ⊥) → (b ≡ 145 → ⊥) → args_in (action k b l) ≡ []
  unfolding action args_in args_of
  args_none a5 a6 a7 a8 a9 a11 =
      rw (ne_eqb b 129 a5, ne_eqb b 130 a6, ne_eqb b 137 a7, ne_eqb b 141 a8, ne_eqb b 138 a9, ne_eqb b 145 a11) (go (eqb b 128 || eqb b 144) (eqb b 142) (eqb b 156) (eqb b 139) (if_args l))
    where
      go : (s t u v : Bool) → args_in (if_action l) ≡ []
          → args_in (pick s (found (definition.does (bare stop)) l) (pick t (found (definition.does (bare return)) l) (pick u (found (definition.does (bare clr)) l) (pick v (if_action l) (found (definition.does (bare BareWord.plain)) l))))) ≡ []
      go true t u v h = refl
      go false true u v h = refl
      go false false true v h = refl
      go false false false true h = h
      go false false false false h = refl
