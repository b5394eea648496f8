-- Each sector in turn.
use Rattle.std.proofs.Common.{◌+◌, ◌*◌, ◌∙◌, refl, arith, rules, tests}
use lib.Dec.{eqb}
use Rattle.std.proofs.lemmas.Iterator.{YieldsList-from_range}
use Rattle.std.proofs.lemmas.Iterator.Search.{all_from_yields_List}
use Rattle.usn_record.specs.Bytes.{le_at}
use Rattle.mft_sectors.specs.SectorEnds.{sector, body}
use Rattle.mft_sectors.proofs.SectorLaws.{ending-all}
use Rattle.mft_sectors.proofs.sound.all_end.Goals as goal

pub returns : goal.returns
returns c =
    all_from_yields_List (λ k. eqb (le_at 2 c.args.entry.now (sector * k + body)) c.args.value) _ _ _ c.all.ensures.ran (YieldsList-from_range 0 _ _ refl (omega arith)) (λ x b q k. search (rules, tests))
    ∙ ending-all _ _ _
