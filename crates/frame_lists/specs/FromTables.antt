-- The frame question's definitions, on tables that come together. Assumes nothing.
use Rattle.std.specs.Prelude.{ℕ, List, Bool, length, get_or}
use Rattle.listings.specs.Listing.{Name}
use Rattle.graph.specs.Questions.{Reply}
use Rattle.frame_lists.specs.declared.frame.FrameTables.{FrameTables}
use Rattle.frame_lists.specs.FrameAt.{short_tables, fall_outside, frame_outside, frame_read, frame_in, frame_at}
use Rattle.frame_lists.specs.FrameChecks.{FrameInside}

module _ (t : FrameTables) where
  abbrev pub short_from : Bool
  short_from = short_tables (get_or t.counts.now 1 0) (length t.stmts.now) (length t.args.now) (length t.falls.now) (length t.lists.now)

  abbrev pub fall_outside_from : ℕ → Bool
  fall_outside_from i = fall_outside (get_or t.counts.now 1 0) t.stmts.now t.falls.now i

  module _ (header node : ℕ) where
    abbrev pub FrameInsideFrom : Type 0
    FrameInsideFrom = FrameInside t.counts.now t.stmts.now t.args.now t.falls.now t.lists.now t.succ.now header node

    abbrev pub frame_outside_from : Bool
    frame_outside_from = frame_outside (get_or t.counts.now 1 0) t.stmts.now t.args.now t.falls.now t.lists.now t.succ.now header node

    abbrev pub frame_read_from : (key : ℕ) → Bool → List ℕ
    frame_read_from key flag = frame_read t.stmts.now t.args.now t.falls.now t.lists.now t.succ.now header node key flag

    abbrev pub frame_in_from : (key : ℕ) → Bool → (room : ℕ) → Reply (List ℕ)
    frame_in_from key flag room = frame_in (get_or t.counts.now 0 0) (get_or t.counts.now 1 0) t.stmts.now t.args.now t.falls.now t.lists.now t.succ.now header node key flag room

    abbrev pub frame_from : Name → Bool → (room : ℕ) → Reply (List ℕ)
    frame_from name flag room = frame_at (get_or t.counts.now 0 0) (get_or t.counts.now 1 0) t.stmts.now t.args.now t.falls.now t.lists.now t.succ.now header node name flag room
