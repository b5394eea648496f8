-- The rows of P1 to P10 as docs/SCOPE.md has them: the number of the case, what it is given, and what is known. In P1, P4, P5 and P6 the first number is that
-- of the reader: 1 the scan, 2 the window, 3 the carver, 4 its counters, 5 and 6 the answers of the scan's and the carver's call.
use Rattle.std.specs.Prelude.{List, [], ◌∷◌, ◌++◌}
use Rattle.known.specs.Case.{Row, row}
use Rattle.known.specs.Paths.{names}

abbrev pub scope_rows : List Row
scope_rows =
    row 1 (5 ∷ []) (0 ∷ 0 ∷ [])
    ∷ row 1 (6 ∷ []) (0 ∷ 0 ∷ 0 ∷ 0 ∷ 0 ∷ 0 ∷ [])
    ∷ row 1 (1 ∷ []) []
    ∷ row 1 (3 ∷ []) []
    ∷ row 1 (2 ∷ []) []
    ∷ row 2 (116444735999999999 ∷ []) (0 ∷ 0 ∷ [])
    ∷ row 2 (116444736000000000 ∷ []) (0 ∷ 0 ∷ [])
    ∷ row 2 (9223372036854775807 ∷ []) (910692730085 ∷ 477580700 ∷ [])
    ∷ row 3 (2 ∷ 60 ∷ 59 ∷ []) (3 ∷ [])
    ∷ row 3 (2 ∷ 60 ∷ 60 ∷ []) (0 ∷ [])
    ∷ row 3 (2 ∷ 60 ∷ 65536 ∷ []) (4 ∷ [])
    ∷ row 3 (2 ∷ 60 ∷ 65537 ∷ []) (3 ∷ [])
    ∷ row 3 (3 ∷ 76 ∷ 65536 ∷ []) (0 ∷ [])
    ∷ row 4 (1 ∷ 48 ∷ 9 ∷ []) (8 ∷ [])
    ∷ row 4 (2 ∷ 48 ∷ 9 ∷ []) (48 ∷ [])
    ∷ row 5 (1 ∷ 96 ∷ 2 ∷ []) []
    ∷ row 5 (2 ∷ 96 ∷ 2 ∷ []) []
    ∷ row 5 (3 ∷ 96 ∷ 2 ∷ []) (8 ∷ 64 ∷ [])
    ∷ row 5 (4 ∷ 96 ∷ 2 ∷ []) (72 ∷ 1 ∷ 1 ∷ 0 ∷ 0 ∷ [])
    ∷ row 6 (4 ∷ 125911583999999999 ∷ 60 ∷ []) (64 ∷ 1 ∷ 0 ∷ 1 ∷ 0 ∷ [])
    ∷ row 6 (4 ∷ 125911584000000000 ∷ 60 ∷ []) (64 ∷ 1 ∷ 1 ∷ 0 ∷ 0 ∷ [])
    ∷ row 6 (4 ∷ 135379776000000000 ∷ 60 ∷ []) (64 ∷ 1 ∷ 1 ∷ 0 ∷ 0 ∷ [])
    ∷ row 6 (4 ∷ 135379776000000001 ∷ 60 ∷ []) (64 ∷ 1 ∷ 0 ∷ 1 ∷ 0 ∷ [])
    ∷ row 6 (4 ∷ 125911583999999999 ∷ 58 ∷ []) (64 ∷ 1 ∷ 0 ∷ 0 ∷ 1 ∷ [])
    ∷ row 7 (47 ∷ []) (1024 ∷ 1 ∷ 0 ∷ 1 ∷ [])
    ∷ row 7 (1016 ∷ []) (1024 ∷ 1 ∷ 0 ∷ 1 ∷ [])
    ∷ row 8 (2 ∷ 3 ∷ []) (0 ∷ 42 ∷ 3 ∷ 242 ∷ 6 ∷ 5 ∷ 5 ∷ 1 ∷ 1 ∷ [])
    ∷ row 8 (1 ∷ 3 ∷ []) (0 ∷ 42 ∷ 3 ∷ 146 ∷ 6 ∷ 5 ∷ 5 ∷ 1 ∷ 1 ∷ [])
    ∷ row 8 (0 ∷ 2 ∷ []) (0 ∷ 42 ∷ 3 ∷ 146 ∷ 6 ∷ 5 ∷ 5 ∷ 1 ∷ 1 ∷ [])
    ∷ row 8 (0 ∷ 0 ∷ []) (0 ∷ 42 ∷ 3 ∷ 242 ∷ 6 ∷ 5 ∷ 5 ∷ 1 ∷ 1 ∷ [])
    ∷ row 10 (0xD800 ∷ []) (0xEF ∷ 0xBF ∷ 0xBD ∷ [])
    ∷ row 10 (0xD83D ∷ 0xDE00 ∷ []) (0xF0 ∷ 0x9F ∷ 0x98 ∷ 0x80 ∷ [])
    ∷ row 9 (256 ∷ []) (0 ∷ 0x2E ∷ names 256)
    ∷ row 9 (257 ∷ []) (0 ∷ ((0x55 ∷ 0x4E ∷ 0x52 ∷ 0x45 ∷ 0x53 ∷ 0x4F ∷ 0x4C ∷ 0x56 ∷ 0x45 ∷ 0x44 ∷ 0x28 ∷ 0x35 ∷ 0x3A ∷ 0x35 ∷ 0x29 ∷ []) ++ names 257))
    ∷ row 9 [] (0 ∷ ((0x55 ∷ 0x4E ∷ 0x52 ∷ 0x45 ∷ 0x53 ∷ 0x4F ∷ 0x4C ∷ 0x56 ∷ 0x45 ∷ 0x44 ∷ 0x28 ∷ 0x39 ∷ 0x3A ∷ 0x31 ∷ 0x29 ∷ []) ++ names 257))
    ∷ []
