-- The numbers of opening words: that of each statement opens one, and those that hold statements are three. Assumes nothing.
use Rattle.std.specs.Prelude.{◌≤◌, ◌≡◌, refl, true, false}
use Rattle.listings.specs.Bytes.{same, bytes}
use Rattle.listings.specs.Listing.{Simple, jump, on, for, next, block, bare, if, ifelse, rcomp}
use Rattle.listings.specs.ListingText.{simple_word, cond_word}
use Rattle.listings.specs.Rows.{opening_words}
use Rattle.listings.specs.WordTable.{words, first, word_index}
use Rattle.listing_laws.specs.WordKinds.{jump_never, on_never, block_never, bare_never}
use Rattle.graph.specs.Nodes.{NodeStmt, simple, cond}
use Rattle.graph.specs.NodeWords.{stmt_word, stmt_number}
use Rattle.statements.specs.StatementWords.{no_statement_word, low_word}
use Rattle.statements.specs.StatementAt.{branching_word}
use Rattle.questions.specs.PathNodes.{Branches}

for_opens : no_statement_word (word_index (bytes "for")) ≡ false
unfolding no_statement_word word_index words opening_words first same bytes
for_opens = refl

next_opens : no_statement_word (word_index (bytes "next")) ≡ false
unfolding no_statement_word word_index words opening_words first same bytes
next_opens = refl

simple_opens : (o : Simple) → no_statement_word (stmt_number (simple o)) ≡ false
unfolding no_statement_word stmt_number stmt_word simple_word
simple_opens (jump w n) = jump_never no_statement_word refl w
simple_opens (on w ns) = on_never no_statement_word refl w
simple_opens (for v t) = for_opens
simple_opens (next m ss) = next_opens
simple_opens (block w) = block_never no_statement_word refl w
simple_opens (bare w) = bare_never no_statement_word refl w

pub word_opens : (s : NodeStmt) → no_statement_word (stmt_number s) ≡ false
unfolding no_statement_word stmt_number stmt_word cond_word word_index words opening_words first same bytes
word_opens (simple o) = simple_opens o
word_opens (cond if a b) = refl
word_opens (cond ifelse a b) = refl
word_opens (cond rcomp a b) = refl

pub word_low : (s : NodeStmt) → stmt_number s ≤ 27
word_low s = low_word (stmt_number s) (word_opens s)

pub branching_word_lem : (s : NodeStmt) → Branches s → branching_word (stmt_number s) ≡ true
unfolding branching_word stmt_number stmt_word cond_word word_index words opening_words first same bytes
branching_word_lem (simple o) h = absurd h
branching_word_lem (cond if a b) h = refl
branching_word_lem (cond ifelse a b) h = refl
branching_word_lem (cond rcomp a b) h = refl
