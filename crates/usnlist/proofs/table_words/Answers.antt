-- The words are as many zeros.
use Rattle.std.proofs.Common.{refl}
use Rattle.usn_lines.specs.Listing.{no_words}
use Rattle.usnlist.proofs.table_words.Goals as goal

pub returns-clause-zeros : goal.returns-clause-zeros
unfolding no_words
returns-clause-zeros c = refl
