-- `main`: as much of `out` as was written. Assumes nothing.
use Rattle.std.proofs.Common.{sym, length-take-le}
use Rattle.prglist.proofs.main.Goals as goal

pub slice_bounds-out-end : goal.slice_bounds-out-end
slice_bounds-out-end c = c.list_page-r.ensures.whole.inside

pub slice_bounds-write_all-end : goal.slice_bounds-write_all-end
slice_bounds-write_all-end c = sym (length-take-le _ _ c.list_page-r.ensures.whole.inside)
