-- `join_regions_by_rows`: the calls are listed, their spans found, all regions joined. Assumes nothing.
use Rattle.walks.proofs.by_rows.join_regions_by_rows.Goals as goal

pub join_entries_by_rows-requires : goal.join_entries_by_rows-requires
join_entries_by_rows-requires c = record {
  calls_ready = c.among-calls.ensures.ready;
  spanned = c.among-calls.ensures.spanned;
  in_rows = c.requires.1;
}
