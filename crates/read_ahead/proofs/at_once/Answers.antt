-- Each way out by its tests.
use native.Mathlib.Omega.{arith}
use Rattle.read_ahead.proofs.ReadingLaws.{no_index, small-table, some_left, many-left}
use Rattle.read_ahead.proofs.at_once.Goals as goal

pub returns-then-heads-eq0 : goal.returns-then-heads-eq0
returns-then-heads-eq0 c = no_index _ _ _ _ (omega arith)

pub returns-then-slots-lt-LARGE : goal.returns-then-slots-lt-LARGE
returns-then-slots-lt-LARGE c = small-table _ _ _ _ (λ e. omega arith) (omega arith)

pub returns-then-count-position : goal.returns-then-count-position
returns-then-count-position c = some_left _ _ _ _ (λ e. omega arith) (omega arith) (omega arith) (omega arith)

pub returns-then-count-position-lt-BATCH : goal.returns-then-count-position-lt-BATCH
returns-then-count-position-lt-BATCH c = some_left _ _ _ _ (λ e. omega arith) (omega arith) (omega arith) (omega arith)

pub returns : goal.returns
returns c = many-left _ _ _ _ (λ e. omega arith) (omega arith) (omega arith)
