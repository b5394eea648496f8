-- The text of units, and of a name: a place of UTF-16 in a slice.
use Rattle.std.specs.Prelude.{ℕ, ◌/◌, List}
use Rattle.base.specs.Lists.{flatten}
use Rattle.utf16.specs.Utf16.{code_points, units_at}
use Rattle.utf16.specs.Utf8.{utf8}

-- the UTF-8 of units
unfoldable pub decoded : List ℕ → List ℕ
decoded us = flatten utf8 (code_points us)

-- the text of the name of n bytes at o; an odd last byte is dropped
abbrev pub name_text : List ℕ → ℕ → ℕ → List ℕ
name_text s o n = decoded (units_at s o (n / 2))
