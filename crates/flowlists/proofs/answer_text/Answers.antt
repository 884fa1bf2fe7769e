-- `answer_text`: as much of `out` is printed as was written. Assumes nothing.
use Rattle.std.proofs.Common.{sym, length-take-le}
use Rattle.flowlists.proofs.answer_text.Goals as goal

pub slice_bounds-out-end : goal.slice_bounds-out-end
slice_bounds-out-end g c = c.list_text-listed.ensures.whole.inside

pub slice_bounds-print_framed-end : goal.slice_bounds-print_framed-end
slice_bounds-print_framed-end g c = sym (length-take-le _ _ c.list_text-listed.ensures.whole.inside)
