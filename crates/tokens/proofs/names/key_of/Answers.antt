-- `key_of`: a is the key of what the cut leaves of the bytes behind those that are left. Assumes nothing.
use native.Mathlib.Omega.{arith}
use mathlib.Core.Path.{◌∙◌, ◌≡◌, refl, ap, sym}
use mathlib.Core.Bool.{true}
use mathlib.Core.List.{List, [], ◌∷◌, ◌++◌, append_assoc, append-nil}
use Prim.Native.Nat.{◌*◌, ◌+◌, ◌-◌, ◌<◌, ◌≤◌, zero, suc, ℕ}
use lib.ListN.{drop, drop_of_length-le, get_or, length}
use Rattle.std.proofs.lemmas.List.{length-append}
use Rattle.std.proofs.Math.Seq.{drop-append_seam, get_or-append_seam}
use Rattle.listings.specs.Bytes.{pick}
use Rattle.listings.specs.Rows.{is_name}
use Rattle.listing_laws.specs.WordText.{name_text}
use Rattle.listings.specs.Records.{name_key}
use Rattle.listings.specs.Cut.{cut_to}
use Rattle.tokens.specs.Names.{as_key, cut_from, kept, key_next, key_whole, name_byte, name_invalid, rest_below}
use Rattle.std.specs.Prelude.{Ok}
use Rattle.tokens.proofs.names.key_of.Goals as goal

-- one byte less is left: it stands where what is left now ends
record Before (w m l : List ℕ) (b : ℕ) : Type 0 where
  one : length m ≡ suc (length l)
  short : length l < length w
  byte : b ≡ get_or w (length l) 0
  parts : l ++ drop (length l) w ≡ w

before : (w l m : List ℕ) (b : ℕ) → m ≡ l ++ b ∷ [] → m ++ drop (length m) w ≡ w → Before w m l b
before w l m b is h =
    let r = drop (length m) w in
    let e : w ≡ l ++ b ∷ r = sym h ∙ ap (λ (k : List ℕ). k ++ r) is ∙ append_assoc l (b ∷ []) r in
    record {
      one = omega (arith, ap length is, length-append l (b ∷ []));
      short = omega (arith, ap length e, length-append l (b ∷ r));
      byte = sym (ap (λ (k : List ℕ). get_or k (length l) 0) e ∙ get_or-append_seam l b r 0);
      parts = ap (λ (k : List ℕ). l ++ drop (length l) k) e ∙ ap (λ (k : List ℕ). l ++ k) (drop-append_seam l (b ∷ r)) ∙ sym e;
    }

-- one turn: that byte goes in front, or is left out
next_key : (w m l : List ℕ) (a b i r : ℕ) → Before w m l b → i ≡ length l → a ≡ name_key (cut_from w (length m)) → r ≡ pick (kept i b) ((b - 32) + 64 * a) a → r ≡ name_key (cut_from w (length l))
next_key w m l a b i r t n e v =
    let k : ℕ → ℕ → ℕ → ℕ = λ i b z. pick (kept i b) ((b - 32) + 64 * z) z in
    v ∙ ap (λ (j : ℕ). k j b a) n ∙ ap (λ (x : ℕ). k (length l) x a) t.byte ∙ ap (λ (z : ℕ). k (length l) (get_or w (length l) 0) z) (e ∙ ap (λ (z : ℕ). name_key (cut_from w z)) t.one)
    ∙ sym (key_next w (length l) t.short)

-- all bytes are left
begun : (w l : List ℕ) → l ≡ w → (l ++ drop (length l) w ≡ w) × (0 ≡ name_key (cut_from w (length l)))
unfolding cut_from cut_to name_key
begun w l e =
    let d : drop (length l) w ≡ [] = drop_of_length-le w {i = length l} (omega (arith, ap length e)) in
    (ap (λ (k : List ℕ). l ++ k) d ∙ append-nil l ∙ e, sym (ap (λ (k : List ℕ). name_key (cut_to (2 - length l) k)) d ∙ none_key (2 - length l)))
  where
    none_key : (k : ℕ) → name_key (cut_to k []) ≡ 0
    none_key zero = refl
    none_key (suc k) = refl

pub returns-then-not-is_name : goal.returns-then-not-is_name
returns-then-not-is_name c = ap as_key (sym (name_invalid c.args.w.now (sym c.is_name.ensures ∙ c.if-not-is_name.true)))

pub loop-i-init : goal.loop-i-init
loop-i-init c =
    let e : c.into_iter-i-iterator.result.iter.iter.rest.now ≡ c.args.w.now = cc in
    let t = begun c.args.w.now c.into_iter-i-iterator.result.iter.iter.rest.now e in
    (cc, t.0, t.1)

pub with_byte-a-requires : goal.with_byte-a-requires
with_byte-a-requires c =
    let w = c.args.w.now in
    let named : is_name w ≡ true = sym c.is_name.ensures ∙ c.if-not-is_name.false in
    let at = before w c.next.new.self.iter.iter.rest.now _ c.in-Some.b.now c.in-Some.ensures.steps.1.0 c.loop-i.invariant.1 in
    let r = name_byte w (length c.next.new.self.iter.iter.rest.now) named at.short in
    (omega (arith, c.loop-i.invariant.2, rest_below w (length c.loop-i.i-iterator.iter.iter.rest.now) named (omega (arith, at.one))), omega (arith, at.byte, r.0), omega (arith, at.byte, r.1))

pub loop-i-preserved : goal.loop-i-preserved
loop-i-preserved c =
    let left = c.next.new.self.iter.iter.rest.now in
    let at = before c.args.w.now left _ c.in-Some.b.now c.in-Some.ensures.steps.1.0 c.loop-i.invariant.1 in
    let none : c.next.new.self.iter.count ≡ 0 = c.in-Some.ensures.steps.0 ∙ c.loop-i.invariant.0 in
    (none, at.parts, next_key c.args.w.now _ left _ _ _ _ at (omega (arith, c.in-Some.ensures.steps.1.1, c.loop-i.invariant.0)) c.loop-i.invariant.2 c.with_byte-a.ensures)

pub returns : goal.returns
returns c =
    let w = c.args.w.now in
    let named : is_name w ≡ true = sym c.is_name.ensures ∙ c.if-not-is_name.false in
    let z : length c.loop-i.i-iterator.iter.iter.rest.now ≡ 0 = c.in-None.ensures.steps.1.0 in
    ap Ok (c.loop-i.invariant.2 ∙ ap (λ (i : ℕ). name_key (cut_from w i)) z ∙ ap name_key (key_whole w)) ∙ ap as_key (sym (name_text w named))
