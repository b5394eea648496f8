-- A run of steps as a C call.
use Rattle.std.specs.Prelude.{ℕ, List, length}
use Rattle.base.specs.Outcome.{Outcome}
use Rattle.base.specs.Words.{after_domain}
use Rattle.rewind.specs.declared.Rewind.{Rewind}
use Rattle.run_steps.specs.Running.{Run, run_answer}
use Rattle.rewind_run.specs.Running.{tested_run}
use Rattle.run_steps.specs.Words.{row_of}

-- with lent words for the forward table, for the ends of the texts and for the answer
abbrev pub run_call : List ℕ → List ℕ → List ℕ → Rewind → List ℕ → List ℕ → List ℕ → List ℕ → Outcome Run
run_call journal image records r forward ends text out =
    after_domain 4 (length out) (tested_run journal image records forward r (length text) (length ends))

-- what it answers as words
abbrev pub run_words : Run → List ℕ
run_words x = row_of (run_answer x)
