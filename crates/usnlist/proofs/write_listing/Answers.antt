-- What begins goes on to the last part.
use Rattle.usnlist.proofs.PartsLaws.{on_ok, all_listed, listing_written}
use Rattle.usnlist.proofs.write_listing.Goals as goal

pub returns : goal.returns
returns g c =
    record {
      goes_through = on_ok _ (all_listed c.args.journal.now c.args.first.now c.args.forward.now c.begin-begun.ensures) c.write_parts.ensures.goes_through;
      written = on_ok _ (listing_written c.args.journal.now c.args.first.now c.args.forward.now _ _ c.begin-begun.ensures) c.write_parts.ensures.written;
    }
