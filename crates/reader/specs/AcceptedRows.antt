-- The rows of an accepted text: each is in form, so that less has to be judged when it is read again. Assumes nothing.
use Rattle.std.specs.Prelude.{ℕ, ◌≡◌, refl, List, [], ◌∷◌, Bool, true, false, eqb, ltb, leb, Option as Maybe, Some, None, Ok, Err}
use Rattle.std.proofs.Common.{sym, ap, ◌∙◌, subst, arith}
use Rattle.std.proofs.Math.Option.{Option, none, some}
use Rattle.std.specs.Result.{IsOk}
use Rattle.std.proofs.Math.Decide.{dec_lt}
use Rattle.listings.specs.Bytes.{same, pick}
use Rattle.listings.specs.Rows.{split, are_words, close, bad, form_row, row_of, lookup, Parse, malformed, invalid, parsed, single, handler_facts, module_by, module_content, content_of}
use Rattle.listings.specs.WordTable.{word_index}
use Rattle.listing_laws.specs.WordSlots.{candidate_of, own_candidate}
use Rattle.tokens.specs.Numbers.{as_number}
use Rattle.tokens.specs.Arguments.{Verdict, check_kind}
use Rattle.tokens.specs.Kinds.{opened_kind, opened_past}
use Rattle.tokens.specs.declared.words.Kind.{Kind}
use Rattle.tokens.specs.declared.words.Kind.TheVariants as kind
use Rattle.reader.specs.CodedRows.{place_number, number_due, as_line, as_to, as_row, Said, simple_of, closed_args, opened_args, args_row, closed_bare, opened_bare, bare_row, closed_others, form_false, form_one, form_more, row_end, row_bad}
use Rattle.reader.specs.Machine.{State, one_more, step_simple, step_row}
use Rattle.reader.specs.declared.rows.Position.TheVariants as at
use Rattle.tokens.specs.declared.words.Cond.TheVariants as cond
use Rattle.layout.specs.declared.refusals.Reason.TheVariants as reason
use Rattle.reader.specs.declared.rows.Row.TheVariants as row

-- a form, with no bad number or name
abbrev pub WellFormed : Said → Type 0
WellFormed (Err m) = ⊥
WellFormed (Ok row.End) = Unit {0}
WellFormed (Ok row.Stmts) = Unit {0}
WellFormed (Ok (row.Module h)) = Unit {0}
WellFormed (Ok (row.Line n)) = Unit {0}
WellFormed (Ok (row.To n)) = Unit {0}
WellFormed (Ok (row.Simple k n)) = Unit {0}
WellFormed (Ok (row.Cond k)) = Unit {0}

-- a statement without how many numbers or slots it lists
abbrev pub uncounted : Said → Said
uncounted (Err m) = Err m
uncounted (Ok row.End) = Ok row.End
uncounted (Ok row.Stmts) = Ok row.Stmts
uncounted (Ok (row.Module h)) = Ok (row.Module h)
uncounted (Ok (row.Line n)) = Ok (row.Line n)
uncounted (Ok (row.To n)) = Ok (row.To n)
uncounted (Ok (row.Simple k n)) = Ok (row.Simple k 0)
uncounted (Ok (row.Cond k)) = Ok (row.Cond k)

pub formed_ok : (d : Said) → WellFormed d → IsOk d
formed_ok (Err m) f = absurd f
formed_ok (Ok r) f = refl

-- ---- what is taken is in form, and is taken without its count

pub taken_formed : (s v : State) (d : Said) → step_row s d ≡ Ok v → WellFormed d
taken_formed s v (Err m) e = cc
taken_formed s v (Ok row.End) e = tt
taken_formed s v (Ok row.Stmts) e = tt
taken_formed s v (Ok (row.Module h)) e = tt
taken_formed s v (Ok (row.Line n)) e = tt
taken_formed s v (Ok (row.To n)) e = tt
taken_formed s v (Ok (row.Simple k n)) e = tt
taken_formed s v (Ok (row.Cond k)) e = tt

simple_uncounted : (s v : State) (n : ℕ) → step_simple s n ≡ Ok v → step_simple s 0 ≡ Ok v
simple_uncounted s v n = go (eqb (place_number s.position) 3) (ltb s.stmts 4096) (leb s.depth 16) (leb n 64)
  where
    go : (a b c d : Bool)
        → pick a (pick b (pick c (pick d (Ok (one_more s at.InStmts cond.If)) (Err reason.TooWide)) (Err reason.TooDeep)) (Err reason.TooManyStatements)) (Err reason.NotAForm) ≡ Ok v
        → pick a (pick b (pick c (Ok (one_more s at.InStmts cond.If)) (Err reason.TooDeep)) (Err reason.TooManyStatements)) (Err reason.NotAForm) ≡ Ok v
    go false b c d e = e
    go true false c d e = e
    go true true false d e = e
    go true true true true e = e
    go true true true false e = cc

pub taken-uncounted : (s v : State) (d : Said) → step_row s d ≡ Ok v → step_row s (uncounted d) ≡ Ok v
taken-uncounted s v (Err m) e = e
taken-uncounted s v (Ok row.End) e = e
taken-uncounted s v (Ok row.Stmts) e = e
taken-uncounted s v (Ok (row.Module h)) e = e
taken-uncounted s v (Ok (row.Line n)) e = e
taken-uncounted s v (Ok (row.To n)) e = e
taken-uncounted s v (Ok (row.Simple k n)) e = simple_uncounted s v n e
taken-uncounted s v (Ok (row.Cond k)) e = e

-- ---- the words after an opening word

to_same : (g : Parse ℕ) → as_to g ≡ uncounted (as_to g)
to_same malformed = refl
to_same invalid = refl
to_same (parsed n) = refl

line_same : (g : Parse ℕ) → as_line g ≡ uncounted (as_line g)
line_same malformed = refl
line_same invalid = refl
line_same (parsed n) = refl

module_same : (ws : List (List ℕ)) → as_row (module_content ws) ≡ uncounted (as_row (module_content ws))
unfolding module_content module_by
module_same [] = refl
module_same (w ∷ []) = go (lookup handler_facts w)
  where
    go : (o : Option Bool) → as_row (module_by o) ≡ uncounted (as_row (module_by o))
    go none = refl
    go (some h) = refl
module_same (w ∷ v ∷ ws) = refl

-- one that is not closed
pub opened_same : (g : Kind) (ws : List (List ℕ)) → opened_args g ws ≡ uncounted (opened_args g ws)
unfolding opened_args
opened_same kind.Module ws = module_same ws
opened_same kind.Line ws = line_same (single ws)
opened_same kind.To ws = refl
opened_same kind.Stmts ws = refl
opened_same (kind.Cond x) ws = refl
opened_same kind.Bare ws = refl
opened_same kind.Number ws = refl
opened_same kind.Numbers ws = refl
opened_same kind.Run ws = refl
opened_same kind.For ws = refl
opened_same kind.Next ws = refl

-- the number of `(to N)`
pub to_ok : (g : Parse ℕ) → WellFormed (as_to g) → IsOk (number_due at.InCond (as_number g))
to_ok malformed f = absurd f
to_ok invalid f = absurd f
to_ok (parsed n) f = refl

pub closed_to : (k : ℕ) (ws : List (List ℕ)) → as_to (single ws) ≡ uncounted (closed_args kind.To k ws)
unfolding closed_args
closed_to k ws = to_same (single ws)

simple_formed : (k n : ℕ) (v : Verdict) → WellFormed (simple_of k n v) → Ok (row.Simple k 0) ≡ uncounted (simple_of k n v)
simple_formed k n (Ok u) h = refl
simple_formed k n (Err r) h = absurd h

pub closed_simple : (g : Kind) (k : ℕ) (ws : List (List ℕ)) → (g ≡ kind.To → ⊥) → WellFormed (closed_args g k ws) → Ok (row.Simple k 0) ≡ uncounted (closed_args g k ws)
closed_simple g k ws h f =
    let e = closed_others g k ws h in
    simple_formed k (check_kind g ws).count (check_kind g ws).verdict (subst WellFormed (sym e) f) ∙ ap uncounted e

closed_bare_same : (g : Kind) (k : ℕ) → closed_bare g k ≡ uncounted (closed_bare g k)
unfolding closed_bare
closed_bare_same kind.Module k = refl
closed_bare_same kind.Line k = refl
closed_bare_same kind.To k = refl
closed_bare_same kind.Stmts k = refl
closed_bare_same (kind.Cond x) k = refl
closed_bare_same kind.Bare k = refl
closed_bare_same kind.Number k = refl
closed_bare_same kind.Numbers k = refl
closed_bare_same kind.Run k = refl
closed_bare_same kind.For k = refl
closed_bare_same kind.Next k = refl

opened_bare_same : (g : Kind) (k : ℕ) → opened_bare g k ≡ uncounted (opened_bare g k)
unfolding opened_bare
opened_bare_same kind.Module k = refl
opened_bare_same kind.Line k = refl
opened_bare_same kind.To k = refl
opened_bare_same kind.Stmts k = refl
opened_bare_same (kind.Cond x) k = refl
opened_bare_same kind.Bare k = refl
opened_bare_same kind.Number k = refl
opened_bare_same kind.Numbers k = refl
opened_bare_same kind.Run k = refl
opened_bare_same kind.For k = refl
opened_bare_same kind.Next k = refl

pub bare-same : (g : Maybe Kind) (k : ℕ) (c : Bool) → bare_row g k c ≡ uncounted (bare_row g k c)
unfolding bare_row
bare-same None k c = refl
bare-same (Some g) k true = closed_bare_same g k
bare-same (Some g) k false = opened_bare_same g k

-- ---- no opening word, no form

bare-none : (k : ℕ) (c : Bool) → WellFormed (bare_row None k c) → ⊥
unfolding bare_row
bare-none k c f = f

args_none : (k : ℕ) (c : Bool) (ws : List (List ℕ)) → WellFormed (args_row None k c ws) → ⊥
unfolding args_row
args_none k c ws f = f

-- ---- a form, a row

formed_words : (c : Bool) (ws : List (List ℕ)) → WellFormed (as_row (content_of (form_row c ws))) → are_words ws ≡ true
formed_words c ws f = go (are_words ws) refl
  where
    go : (t : Bool) → are_words ws ≡ t → t ≡ true
    go true e = refl
    go false e = absurd (subst WellFormed (ap as_row (form_false c ws e)) f)

module _ (c : Bool) (s : List ℕ) (formed : WellFormed (as_row (content_of (form_row c (split 32 s))))) where
  words : are_words (split 32 s) ≡ true
  words = formed_words c (split 32 s) formed

  module _ (alone : split 32 s ≡ s ∷ []) where
    -- there is an opening word
    one_kind : opened_kind (word_index s) ≡ None → ⊥
    one_kind q = bare-none (word_index s) c (subst (λ (n : Maybe Kind). WellFormed (bare_row n (word_index s) c)) q (subst WellFormed (form_one c s words alone) formed))

    pub one_candidate : (k : ℕ) → k ≡ candidate_of s → k ≡ word_index s
    one_candidate k q = q ∙ own_candidate s (elim (dec_lt (word_index s) 28) [ yes h ↦ h | no h ↦ absurd (one_kind (opened_past (word_index s) (omega (arith, h)))) ])

    -- g: what the opening word opens
    module _ (k : ℕ) (g : Maybe Kind) (opening : k ≡ word_index s) (is : g ≡ opened_kind k) where
      formed_bare : bare_row g k c ≡ as_row (content_of (form_row c (split 32 s)))
      formed_bare = ap (λ (x : Maybe Kind). bare_row x k c) is ∙ ap (λ (n : ℕ). bare_row (opened_kind n) n c) opening ∙ sym (form_one c s words alone)

      pub one_formed : WellFormed (bare_row g k c)
      one_formed = subst WellFormed (sym formed_bare) formed

      pub formed_one : bare_row g k c ≡ uncounted (as_row (content_of (form_row c (split 32 s))))
      formed_one = bare-same g k c ∙ ap uncounted formed_bare

  module _ (w v : List ℕ) (cut : split 32 s ≡ w ∷ split 32 v) where
    more_kind : opened_kind (word_index w) ≡ None → ⊥
    more_kind q = args_none (word_index w) c (split 32 v) (subst (λ (n : Maybe Kind). WellFormed (args_row n (word_index w) c (split 32 v))) q (subst WellFormed (form_more c s words w v cut) formed))

    pub more_candidate : (k : ℕ) → k ≡ candidate_of w → k ≡ word_index w
    more_candidate k q = q ∙ own_candidate w (elim (dec_lt (word_index w) 28) [ yes h ↦ h | no h ↦ absurd (more_kind (opened_past (word_index w) (omega (arith, h)))) ])

    module _ (k : ℕ) (g : Maybe Kind) (opening : k ≡ word_index w) (is : g ≡ opened_kind k) where
      pub formed_args : args_row g k c (split 32 v) ≡ as_row (content_of (form_row c (split 32 s)))
      formed_args =
          ap (λ (x : Maybe Kind). args_row x k c (split 32 v)) is ∙ ap (λ (n : ℕ). args_row (opened_kind n) n c (split 32 v)) opening
          ∙ sym (form_more c s words w v cut)

      pub formed_more : WellFormed (args_row g k c (split 32 v))
      formed_more = subst WellFormed (sym formed_args) formed

-- a row without an opening bracket
pub formed_end : (s : List ℕ) → WellFormed (as_row (content_of (row_of s))) → row_of s ≡ pick (same s (41 ∷ [])) close bad → Ok row.End ≡ uncounted (as_row (content_of (row_of s)))
formed_end s formed is = go (same s (41 ∷ [])) refl
  where
    go : (t : Bool) → same s (41 ∷ []) ≡ t → Ok row.End ≡ uncounted (as_row (content_of (row_of s)))
    go true e = ap uncounted (sym (row_end s is e))
    go false e = absurd (subst WellFormed (row_bad s is e) formed)
