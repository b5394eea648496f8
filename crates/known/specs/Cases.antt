-- All known cases, one table.
use Rattle.std.specs.Prelude.{List, ◌++◌}
use Rattle.known.specs.Case.{Case}
use Rattle.known.specs.Paths.{depths}
use Rattle.known.specs.Records.{times, slices, fields_e}
use Rattle.known.specs.Images.{first_attributes, arrays, ends, stored, namespaces, unseen, surrogates}
use Rattle.known.specs.Journals.{empties, moves, claims, rejections}

-- those that the checker computes
abbrev pub computed_cases : List Case
computed_cases = empties ++ times ++ slices ++ fields_e ++ moves ++ claims ++ rejections ++ first_attributes ++ arrays ++ ends ++ stored ++ namespaces ++ unseen ++ surrogates

-- and those of deep paths, which have laws of their own
abbrev pub cases : List Case
cases = computed_cases ++ depths
