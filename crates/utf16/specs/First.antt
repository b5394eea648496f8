-- What is known of a code point that is taken off the front of a name.
use Rattle.std.specs.Prelude.{ℕ, ◌+◌, ◌-◌, ◌*◌, ◌≤◌, ◌<◌, ◌≡◌, List, ◌++◌}
use Rattle.utf16.specs.Utf16.{units_at}
use Rattle.utf16.specs.Utf8.{utf8}
use Rattle.utf16.specs.Text.{decoded}
use Rattle.utf16.specs.declared.code_point.CodePoint.{CodePoint}

-- p is the first code point of the n units at o: its bytes and the text of the units after it are the whole text
pub record First (s : List ℕ) (o n : ℕ) (p : CodePoint) : Type 0 where
  pub some : 1 ≤ p.units
  pub within : p.units ≤ n
  pub valid : p.code < 0x110000
  pub text : decoded (units_at s o n) ≡ utf8 p.code ++ decoded (units_at s (o + 2 * p.units) (n - p.units))
