-- Tables that suffice at all limits, as every program lends them. Assumes nothing.
use Rattle.std.specs.Prelude.{ℕ, ◌≡◌}
use Rattle.std.proofs.Common.{sym, ◌∙◌}
use Rattle.graph.specs.Build.{limits}
use Rattle.passes.specs.Room.{stmt_room}
use Rattle.passes.specs.TableForms.{Sizes, capacity, capacity_is}

numbers_at_limits : (l t a e f k i r u p : ℕ) → 1024 ≡ l → 49152 ≡ t → 262144 ≡ a → 2048 ≡ e → 12288 ≡ f → 262144 ≡ k → 16384 ≡ i → 4096 ≡ r
    → 32768 ≡ u → 32768 ≡ p
    → capacity (record { lines = l; stmts = t; args = a; entries = e; falls = f; links = k; lists = i; returns = r; succ = u; pred = p }) ≡ limits
unfolding stmt_room limits
numbers_at_limits l t a e f k i r u p hl ht ha he hf hk hi hr hu hp =
    capacity_is _ ∙ rw (sym hl, sym ht, sym ha, sym he, sym hf, sym hk, sym hi, sym hr, sym hu, sym hp)

-- tables of these lengths: s
pub at_limits : (s : Sizes) → 1024 ≡ s.lines → 49152 ≡ s.stmts → 262144 ≡ s.args → 2048 ≡ s.entries → 12288 ≡ s.falls → 262144 ≡ s.links
    → 16384 ≡ s.lists → 4096 ≡ s.returns → 32768 ≡ s.succ → 32768 ≡ s.pred → capacity s ≡ limits
at_limits s hl ht ha he hf hk hi hr hu hp =
    numbers_at_limits s.lines s.stmts s.args s.entries s.falls s.links s.lists s.returns s.succ s.pred hl ht ha he hf hk hi hr hu hp
