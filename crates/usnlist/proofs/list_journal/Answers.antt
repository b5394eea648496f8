-- With the words of two tables, all zeros.
use Rattle.usn_lines.specs.Listing.{listing}
use Rattle.usnlist.proofs.list_journal.Goals as goal

pub returns : goal.returns
unfolding listing
returns g c = rw (c.table_words-first.ensures.zeros, c.table_words-forward.ensures.zeros) at c.write_listing.ensures.written
