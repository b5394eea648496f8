-- Many steps of a rewind in one call: what a test refuses the call is refused for; else it is its run.
use Rattle.std.specs.Prelude.{ℕ, List, Result}
use Rattle.base.specs.Outcome.{Outcome, refused, answered, outcome, map_outcome}
use Rattle.base.specs.declared.refusal.Refusal.{Refusal}
use Rattle.rewind_records.specs.Environment.{environment_of, tested}
use Rattle.rewind.specs.Stepping.{forward_table}
use Rattle.rewind.specs.declared.Rewind.{Rewind}
use Rattle.run_steps.specs.Running.{Run, ran, RunNumbers, run_numbers}
use Rattle.run_steps.specs.declared.RewindRun.{RewindRun}

-- what a call comes to, also where it is asked for no step: 1, 9, 12, 7, which its first step would be refused for; else its run
unfoldable pub tested_run : List ℕ → List ℕ → List ℕ → List ℕ → Rewind → ℕ → ℕ → Outcome Run
tested_run journal image records words r room asked =
    tested (environment_of journal image records) (forward_table words r) (answered (ran journal image records words r room asked))

-- what the lent words of the forward table hold after a call; a refusal writes nothing
abbrev pub words_run : Outcome Run → List ℕ → List ℕ
words_run (refused n) s = s
words_run (answered r) s = r.words

-- what the call's answer says
abbrev pub run_outcome : Result RewindRun Refusal → Outcome RunNumbers
run_outcome r = map_outcome run_numbers (outcome r)
