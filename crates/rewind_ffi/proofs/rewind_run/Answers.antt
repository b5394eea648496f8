-- Too few words are refused, with 1 where the run is; otherwise the run's equations say what goes out.
use Rattle.rewind_ffi.proofs.CallLaws.{runs-short, runs-answered}
use borrow.Author.Rules.{rules}
use Rattle.rewind_ffi.proofs.rewind_run.Goals as goal

pub returns-then-out-lt-RUN_WORDS : goal.returns-then-out-lt-RUN_WORDS
returns-then-out-lt-RUN_WORDS c = runs-short _ _ _ _ _ _ _ _ _ _ c.if-out-lt-RUN_WORDS.true c.short_over.ensures

pub returns : goal.returns
returns c = runs-answered _ _ _ _ _ _ _ _ _ _ c.if-out-lt-RUN_WORDS.false c.rewind_run.ensures c.put_answer.ensures
