-- By the kind of the opening word. Assumes nothing.
use mathlib.Core.Path.{◌≡◌, ap, subst, ◌∙◌}
use mathlib.Core.List.{List, [], ◌∷◌}
use Prim.Native.Nat.{ℕ, ◌≤◌}
use lib.ListN.{length}
use Rattle.std.proofs.Common.{rules}
use Rattle.std.specs.Prelude.{Some}
use Rattle.listings.specs.Rows.{split}
use Rattle.tokens.specs.Kinds.{opened_kind}
use Rattle.tokens.specs.Scan.{FirstWord}
use Rattle.tokens.specs.declared.words.Kind.TheVariants as kind
use Rattle.reader.specs.Operands.{entries_of, details_of, row_entries, row_detail, row_alone, row_words, row_room, entries_for, entries_next, entries_numbers, for_room, slots_room, numbers_room, put_by, Put}
use Rattle.reader.specs.declared.operands.Given.{Given}
use Rattle.reader.proofs.operands.put_operands.Goals.{After-kind_of, After-put_words-arg-1, in_default-kind_of-via-in-Some+in_default, in_default-kind_of-via-in_default}
use Rattle.reader.proofs.operands.put_operands.Goals as goal

-- the opening word, and the words after it
cut : (c : After-kind_of) → split 32 c.args.s.now ≡ c.in-Some.field-0-0.now ∷ split 32 c.in-Some.words.now
cut c = subst (FirstWord c.args.s.now) c.in-Some.is c.first_word.ensures

-- what those words come to has room, and is what the row comes to
room : (c : After-kind_of) → length (entries_of c.kind_of.result (split 32 c.in-Some.words.now)) ≤ length c.args.part.now
room c = row_room c.args.s.now _ _ (cut c) [] [] (record { count = 0; detail = 0 }) c.kind_of.result (c.kind_of.ensures ∙ ap opened_kind c.requires.0) (length c.args.part.now) c.requires.1

whole : (c : After-kind_of) (t : List ℕ) (r : Given) → Put (entries_of c.kind_of.result (split 32 c.in-Some.words.now)) (details_of c.kind_of.result (split 32 c.in-Some.words.now)) c.args.part.now t r
    → Put (row_entries (split 32 c.args.s.now)) (row_detail (split 32 c.args.s.now)) c.args.part.now t r
whole c t r g = row_words c.args.s.now _ _ (cut c) c.args.part.now t r c.kind_of.result (c.kind_of.ensures ∙ ap opened_kind c.requires.0) g

-- no FOR and no NEXT, by either way to the last arm
others : (c : After-put_words-arg-1) → (c.kind_of.result ≡ Some kind.For → ⊥) × (c.kind_of.result ≡ Some kind.Next → ⊥)
others c = elim c.in_default-kind_of.branch [
  | in_default-kind_of-via-in-Some+in_default w ↦ (search rules, search rules)
  | in_default-kind_of-via-in_default w ↦ (search rules, search rules)
]

pub returns-in_default : goal.returns-in_default
returns-in_default c =
    let e : c.default.result ≡ record { count = 0; detail = 0 } = search rules in
    rw e (row_alone c.args.s.now (subst (FirstWord c.args.s.now) c.in_default.is c.first_word.ensures) c.args.part.now)

pub put_for-requires : goal.put_for-requires
put_for-requires c = for_room _ _ _ (search rules) (room (goal.at.put_for-requires c).After-kind_of)

pub put_next-requires : goal.put_next-requires
put_next-requires c = slots_room _ _ _ (search rules) (room (goal.at.put_next-requires c).After-kind_of)

pub put_words-requires : goal.put_words-requires
put_words-requires c =
    let no = others c in
    numbers_room _ _ _ no.0 no.1 (room (goal.at.put_words-requires c).After-kind_of)

pub returns-in-Some-For : goal.returns-in-Some-For
returns-in-Some-For c =
    let q = entries_for (split 32 c.in-Some.words.now) c.kind_of.result (search rules) in
    whole (goal.at.returns-in-Some-For c).After-kind_of _ _ (put_by _ _ _ q.0 q.1 c.put_for.ensures)

pub returns-in-Some-Next : goal.returns-in-Some-Next
returns-in-Some-Next c =
    let q = entries_next (split 32 c.in-Some.words.now) c.kind_of.result (search rules) in
    whole (goal.at.returns-in-Some-Next c).After-kind_of _ _ (put_by _ _ _ q.0 q.1 c.put_next.ensures)

pub returns-in_default-kind_of : goal.returns-in_default-kind_of
returns-in_default-kind_of c =
    let no = others (goal.at.returns-in_default-kind_of c).After-put_words-arg-1 in
    let q = entries_numbers (split 32 c.in-Some.words.now) c.kind_of.result no.0 no.1 in
    whole (goal.at.returns-in_default-kind_of c).After-kind_of _ _ (put_by _ _ _ q.0 q.1 c.put_words.ensures)
