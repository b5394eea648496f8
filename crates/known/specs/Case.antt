-- A known case: what it is given, what a definition says of that, and what the scope knows it to say, all as numbers; the test of a table of cases, and the
-- rows that the cases of the scope have in it.
use Rattle.std.specs.Prelude.{ℕ, List, [], ◌∷◌, Bool, true, false, cond, ◌&&◌, eqb}

-- of : n for a row of Pn, and 0 for a row of a case with no such number
pub record Case : Type 0 where
  pub of : ℕ
  pub given : List ℕ
  pub says : List ℕ
  pub known : List ℕ

abbrev pub same : List ℕ → List ℕ → Bool
same [] [] = true
same [] (y ∷ ys) = false
same (x ∷ xs) [] = false
same (x ∷ xs) (y ∷ ys) = eqb x y && same xs ys

-- every case of a table is as known
abbrev pub right : List Case → Bool
right [] = true
right (c ∷ cs) = same c.says c.known && right cs

-- a row of a case of the scope: its number, what it is given, and what is known
pub record Row : Type 0 where
  pub case : ℕ
  pub from : List ℕ
  pub to : List ℕ

abbrev pub row : ℕ → List ℕ → List ℕ → Row
row case from to = record { case = case; from = from; to = to }

-- the rows of P1 to P10 in a table
abbrev pub rows_of : List Case → List Row
rows_of [] = []
rows_of (c ∷ cs) = cond (eqb c.of 0) (rows_of cs) (row c.of c.given c.known ∷ rows_of cs)
