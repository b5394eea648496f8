use mathlib.Core.Path.{ap}
use native.Mathlib.Omega.{arith}
use Rattle.entry_slots.specs.declared.EntryInfo.{EntryInfo}
use Rattle.chain.specs.Way.{chain_by}
use lib.ListN.{length}
use Rattle.path_text.specs.Text.{place_text, path_text}
use Rattle.path_text.proofs.NameLaws.{place-least}
use Rattle.path.proofs.BoundLaws.{fits-so, fits_not, bytes-less, text-none, path-long}
use Rattle.path.proofs.ways.bytes_fit.Goals as goal

pub returns-then-room-ending : goal.returns-then-room-ending
returns-then-room-ending c = fits_not (length (path_text c.args.journal.now c.args.image.now (chain_by c.args.slots.now c.args.way.now c.args.up))) c.args.room (omega (arith, c.if-room-ending.true, c.end_length-ending.ensures.0, path-long c.args.journal.now c.args.image.now (chain_by c.args.slots.now c.args.way.now c.args.up)))

pub returns-then-spare-name : goal.returns-then-spare-name
returns-then-spare-name c = fits_not (length (path_text c.args.journal.now c.args.image.now (chain_by c.args.slots.now c.args.way.now c.args.up))) c.args.room (omega (arith, c.if-spare-name.true, c.loop-left.invariant.0, c.end_length-ending.ensures.0, path-long c.args.journal.now c.args.image.now (chain_by c.args.slots.now c.args.way.now c.args.up), bytes-less c.args.slots.now c.args.way.now c.loop-left.left c.loop-left-test.true c.args.journal.now c.args.image.now, ap (λ (e : EntryInfo). length (place_text c.args.journal.now c.args.image.now e.name)) c.info_at.ensures, place-least c.args.journal.now c.args.image.now c.info_at.result.name))

pub returns-then-spare-bytes : goal.returns-then-spare-bytes
returns-then-spare-bytes c = fits_not (length (path_text c.args.journal.now c.args.image.now (chain_by c.args.slots.now c.args.way.now c.args.up))) c.args.room (omega (arith, c.if-spare-bytes.true, c.place_length-bytes.ensures, c.loop-left.invariant.0, c.end_length-ending.ensures.0, path-long c.args.journal.now c.args.image.now (chain_by c.args.slots.now c.args.way.now c.args.up), bytes-less c.args.slots.now c.args.way.now c.loop-left.left c.loop-left-test.true c.args.journal.now c.args.image.now, ap (λ (e : EntryInfo). length (place_text c.args.journal.now c.args.image.now e.name)) c.info_at.ensures))

pub loop-left-preserved : goal.loop-left-preserved
loop-left-preserved c = (omega (arith, c.if-spare-bytes.false, c.place_length-bytes.ensures, c.loop-left.invariant.0, bytes-less c.args.slots.now c.args.way.now c.loop-left.left c.loop-left-test.true c.args.journal.now c.args.image.now, ap (λ (e : EntryInfo). length (place_text c.args.journal.now c.args.image.now e.name)) c.info_at.ensures), (omega (arith, c.loop-left.invariant.1.0), omega (arith, c.loop-left.invariant.1.1)))

pub returns : goal.returns
returns c = fits-so (length (path_text c.args.journal.now c.args.image.now (chain_by c.args.slots.now c.args.way.now c.args.up))) c.args.room (omega (arith, c.loop-left.invariant.0, c.end_length-ending.ensures.0, path-long c.args.journal.now c.args.image.now (chain_by c.args.slots.now c.args.way.now c.args.up), ap length (text-none c.args.slots.now c.args.way.now c.args.journal.now c.args.image.now {n = c.loop-left.left} (omega (arith, c.loop-left-test.false)))))
