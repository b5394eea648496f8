-- A run of steps as words: the steps that were made, 0 or what stopped it, and the state after them.
use Rattle.std.specs.Prelude.{ℕ, List, [], ◌∷◌}
use Rattle.run_steps.specs.Running.{RunNumbers, run_numbers}
use Rattle.run_steps.specs.declared.RewindRun.{RewindRun}

abbrev pub row_of : RunNumbers → List ℕ
row_of x = x.steps ∷ x.stopped ∷ x.rewind.used ∷ x.rewind.position ∷ []

abbrev pub run_words : RewindRun → List ℕ
run_words r = row_of (run_numbers r)
