-- `put_path`, which calls itself for the IF that holds the statement; `left` falls. Assumes nothing.
use Rattle.printing.proofs.print_nodes.+put_path.Given as goal

abbrev pub decreases-put_path : goal.decreases-put_path
decreases-put_path l = l.left
