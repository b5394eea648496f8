-- Zero words are passed as the turns would pass them.
use native.Mathlib.Omega.{arith}
use Rattle.usn_window.proofs.ZeroLaws.{window-length, zeros-inside, zeros-search, zeros-none}
use mathlib.Core.Path.{refl}
use Rattle.usn_window.proofs.UsnJournalReader.past_zeros.Goals as goal

pub returns-then-limit-at : goal.returns-then-limit-at
returns-then-limit-at c = zeros-none _ _ c.requires.upto

pub slice_bounds-skip_zeros-end : goal.slice_bounds-skip_zeros-end
slice_bounds-skip_zeros-end c = window-length _ _ c.requires

pub overflow_add-result : goal.overflow_add-result
overflow_add-result c = omega (arith, zeros-inside _ _ c.requires (omega arith) c.skip_zeros-past.ensures, c.requires.small, c.requires.inside, c.requires.starts)

pub returns : goal.returns
returns c = zeros-search _ _ c.requires (omega arith) c.skip_zeros-past.ensures refl
