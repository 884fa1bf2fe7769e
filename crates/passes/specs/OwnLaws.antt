-- What a statement adds to its own list by the tables is what the definition says. Assumes nothing.
use Prim.Native.Nat.{ℕ, zero, suc, ◌+◌, ◌*◌, ◌≤◌}
use Rattle.std.specs.Prelude.{◌≡◌, length, take}
use Rattle.std.proofs.Math.Path.{refl, ap}
use Rattle.std.proofs.Common.{◌∙◌}
use mathlib.Core.List.{List, [], ◌∷◌, ◌++◌, append-nil}
use Rattle.std.proofs.Math.Option.{Option, none, some}
use native.Mathlib.Omega.{arith}
use borrow.Author.Tests.{ne_eqb}
use Rattle.std.proofs.Math.ListN.{get_or, drop}
use Rattle.std.proofs.Math.Seq.{drop-cons}
use Rattle.listings.specs.Bytes.{same, bytes}
use Rattle.listings.specs.Listing.{Mark, Slot, goto, gosub, runto, ongoto, ongosub, BlockWord, repeat, loop, until, endloop, exit, exitif, doif, else, done, BareWord, return, run, clr, stop, any, Simple, jump, on, for, next, block, bare, CondWord, if, ifelse, rcomp}
use Rattle.listings.specs.ListingText.{simple_word, cond_word}
use Rattle.listings.specs.Rows.{opening_words}
use Rattle.listings.specs.WordTable.{words, first, word_index}
use Rattle.listings.specs.Records.{args_of}
use Rattle.graph.specs.Lists.{each, list}
use Rattle.graph_laws.specs.Adding.{decode}
use Rattle.graph.specs.Nodes.{BranchTarget, simple, cond, Entries, entry_of}
use Rattle.graph.specs.NodeWords.{stmt_word, stmt_number}
use Rattle.graph.specs.Targets.{target_entries, branch_edges}
use Rattle.graph.specs.Edges.{closes, loop_stack, on_stack, moves_of, closer_edges, own_block, own_simple, own}
use Rattle.passes.specs.Jumps.{jump_targets}
use Rattle.passes.specs.ForLinks.{popped_by}
use Rattle.passes.specs.NextBodies.{body_at, link_body}
use Rattle.tables.specs.Columns.{word_of, fall_entry}
use Rattle.tables.specs.EntryRows.{entry_column}
use Rattle.passes.specs.Prepared.{link_entries}
use Rattle.passes.specs.NodeList.{run_edges, jump_edges, next_edges, until_edges, falls_word, block_edges, own_edges}

-- one more than the opener of the frame that a closer closes, and the body of that loop
pub data BodyIs (fs : List ℕ) : ℕ → Option (List ℕ) → Type 0 where
  no_frame : BodyIs fs 0 none
  closes_frame : {o : ℕ} {l : List ℕ} → body_at fs o ≡ l → BodyIs fs (suc o) (some l)

module _ (ts en fs ls fr : List ℕ) (lines i : ℕ) (es : Entries) (e : Option ℕ) (bs : List ℕ) (b : Option (List ℕ)) (fall : decode (get_or fs (i * 3) 0) ≡ list e) where
  two_entries : i * 3 + 3 ≤ length fs → each decode (take 2 (drop (i * 3 + 1) fs)) ≡ decode (get_or fs (i * 3 + 1) 0) ++ decode (get_or fs (i * 3 + 2) 0)
  unfolding each
  two_entries h =
      let z : suc (i * 3 + 1) ≡ i * 3 + 2 = omega arith in
      ap (λ (l : List ℕ). each decode (take 2 l)) (drop-cons fs (i * 3 + 1) 0 (omega arith) ∙ ap (λ (l : List ℕ). get_or fs (i * 3 + 1) 0 ∷ l) (ap (λ (k : ℕ). drop k fs) z ∙ drop-cons fs (i * 3 + 2) 0 (omega arith)))
      ∙ ap (λ (l : List ℕ). decode (get_or fs (i * 3 + 1) 0) ++ l) (append-nil (decode (get_or fs (i * 3 + 2) 0)))

  pub own_cond : (w : CondWord) (x y : BranchTarget) → get_or ts (i * 12) 0 ≡ stmt_number (cond w x y) → i * 3 + 3 ≤ length fs
      → decode (get_or fs (i * 3 + 1) 0) ≡ branch_edges es e x → decode (get_or fs (i * 3 + 2) 0) ≡ branch_edges es e y → own_edges ts en fs ls fr lines i ≡ own es (cond w x y) e bs b
  unfolding own own_edges word_of stmt_number stmt_word cond_word word_index words first same bytes opening_words
  own_cond if x y h room p q = rw h (two_entries room ∙ ap (λ (l : List ℕ). l ++ decode (get_or fs (i * 3 + 2) 0)) p ∙ ap (λ (l : List ℕ). branch_edges es e x ++ l) q)
  own_cond ifelse x y h room p q = rw h (two_entries room ∙ ap (λ (l : List ℕ). l ++ decode (get_or fs (i * 3 + 2) 0)) p ∙ ap (λ (l : List ℕ). branch_edges es e x ++ l) q)
  own_cond rcomp x y h room p q = rw h (two_entries room ∙ ap (λ (l : List ℕ). l ++ decode (get_or fs (i * 3 + 2) 0)) p ∙ ap (λ (l : List ℕ). branch_edges es e x ++ l) q)

  endloop_is : (m : ℕ) {c : Option (List ℕ)} → get_or fr (i * 3) 0 ≡ m → BodyIs fs m c → link_body fs (get_or fr (i * 3) 0) ≡ closer_edges c []
  unfolding link_body closer_edges each
  endloop_is zero q no_frame = rw q
  endloop_is (suc o) q (closes_frame p) = rw (q, p)

  until_is : (m : ℕ) {c : Option (List ℕ)} → get_or fr (i * 3) 0 ≡ m → BodyIs fs m c → until_edges fs fr i ≡ closer_edges c (list e)
  unfolding until_edges fall_entry link_body closer_edges each
  until_is zero q no_frame = rw q
  until_is (suc o) q (closes_frame p) = rw (q, ne_eqb (suc o) 0 (λ x. omega arith), p, append-nil, fall)

  own_block_lem : (w : BlockWord) → get_or ts (i * 12) 0 ≡ stmt_number (simple (block w)) → (moves_of (block w) ≡ on_stack loop_stack closes → BodyIs fs (get_or fr (i * 3) 0) b)
      → own_edges ts en fs ls fr lines i ≡ own_simple es (block w) e bs b
  unfolding own_block own_simple own_edges block_edges falls_word word_of fall_entry stmt_number stmt_word simple_word word_index words first same bytes opening_words moves_of
  own_block_lem repeat h m = rw h fall
  own_block_lem loop h m = rw h fall
  own_block_lem exit h m = rw h
  own_block_lem exitif h m = rw h fall
  own_block_lem until h m = rw h (until_is (get_or fr (i * 3) 0) refl (m refl))
  own_block_lem endloop h m = rw h (endloop_is (get_or fr (i * 3) 0) refl (m refl))
  own_block_lem doif h m = rw h fall
  own_block_lem else h m = rw h
  own_block_lem done h m = rw h fall

  module _ (first-is : each decode (take 1 (entry_column 1 lines en)) ≡ list es.first) (all_are : each decode (entry_column 1 lines en) ≡ es.all) where
    pub own_simple_here : (o : Simple) → get_or ts (i * 12) 0 ≡ stmt_number (simple o) → get_or ts (i * 12 + 10) 0 ≡ length (args_of o)
        → ((stmt_number (simple o) ≡ 14 → ⊥) → args_of o ≡ jump_targets o → link_entries ts ls i ≡ target_entries es (jump_targets o))
        → ((m : Mark) (ss : List Slot) → o ≡ next m ss → each (body_at fs) (popped_by ls i (get_or ts (i * 12 + 10) 0)) ≡ bs)
        → (moves_of o ≡ on_stack loop_stack closes → BodyIs fs (get_or fr (i * 3) 0) b)
        → own_edges ts en fs ls fr lines i ≡ own_simple es o e bs b
    unfolding own_simple own_edges run_edges jump_edges next_edges block_edges falls_word word_of fall_entry stmt_number stmt_word simple_word word_index words first same bytes opening_words args_of jump_targets target_entries each
    own_simple_here (bare BareWord.plain) h c t p m = rw h fall
    own_simple_here (bare clr) h c t p m = rw h fall
    own_simple_here (jump goto x) h c t p m = rw h (append-nil (link_entries ts ls i) ∙ t (λ q. omega arith) refl ∙ append-nil (list (entry_of es x)))
    own_simple_here (jump gosub x) h c t p m = rw h (append-nil (link_entries ts ls i) ∙ t (λ q. omega arith) refl ∙ append-nil (list (entry_of es x)))
    own_simple_here (jump runto x) h c t p m = rw (h, c) (t (λ q. omega arith) refl ∙ append-nil (list (entry_of es x)))
    own_simple_here (on ongoto xs) h c t p m = rw (h, t (λ q. omega arith) refl, fall)
    own_simple_here (on ongosub xs) h c t p m = rw (h, t (λ q. omega arith) refl, fall)
    own_simple_here (bare run) h c t p m = rw (h, c) first-is
    own_simple_here (bare stop) h c t p m = rw h
    own_simple_here (bare any) h c t p m = rw h all_are
    own_simple_here (for v x) h c t p m = rw h fall
    own_simple_here (next x ss) h c t p m = rw (h, p x ss refl, fall)
    own_simple_here (block w) h c t p m = own_block_lem w h m
    own_simple_here (bare return) h c t p m = rw h (append-nil (link_entries ts ls i) ∙ t (λ q. omega arith) refl)
