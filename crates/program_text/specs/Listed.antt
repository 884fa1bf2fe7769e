-- The text that a saved program is printed as: the listing that it means in the bracket form, or its refusal.
-- Assumes nothing.
use Rattle.std.specs.Prelude.{ℕ, List}
use Rattle.listings.specs.Read.{Answer, listing, refusal}
use Rattle.listings.specs.ListingText.{listing_text}
use Rattle.graph.specs.Print.{printed_refusal}
use Rattle.program_files.specs.Program.{read_program}

unfoldable pub answer_text : Answer → List ℕ
answer_text (listing L) = listing_text L
answer_text (refusal n p) = printed_refusal n p

-- what the program `prglist` writes for a file
unfoldable pub prglist : List ℕ → List ℕ
prglist f = answer_text (read_program f)
