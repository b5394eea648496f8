-- The limit that paths go by.
use Rattle.std.specs.Prelude.{ℕ, ◌+◌}

-- how many parents up from the key asked for a path is followed at most
abbrev pub depth : ℕ
depth = 256

-- the levels of the key that is asked for, whose parent has as many as the depth
abbrev pub levels : ℕ
levels = depth + 1
