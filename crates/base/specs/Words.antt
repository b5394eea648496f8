-- How an outcome goes out of a C function: a number, and words in lent lists. Each record says it of lists: what the lent slices hold before, and, with ', after.
use Rattle.std.specs.Prelude.{ℕ, ◌≡◌, List, [], ◌∷◌, ◌++◌, Bool, cond, ltb, eqb}
use Rattle.base.specs.Lent.{Lent, MutLent, before, before_mut, after}
use Rattle.base.specs.Lists.{overwrite, list_after}
use Rattle.base.specs.Outcome.{Outcome, refused, answered}
use Rattle.base.specs.Refusals.{above_domain, list_full}

-- 0, or the refusal's number
abbrev pub number : {A : Type 0} → Outcome A → ℕ
number (refused n) = n
number (answered a) = 0

-- a number as a word
abbrev pub count_words : ℕ → List ℕ
count_words n = n ∷ []

-- words of a window, or others that a call has to have: where they are fewer, it is refused before anything else
unfoldable pub with_room : {A : Type 0} → ℕ → ℕ → Outcome A → Outcome A
with_room words room x = cond (ltb room words) (refused list_full) x

-- what a call is refused with that is lent too few words for its answer, by whether what it is to read is above the domain
abbrev pub short_by : Bool → ℕ
short_by above = cond above above_domain list_full

-- words that a call writes: with too few of them it is refused behind the test of the domain and before every other. x is the outcome with enough.
unfoldable pub after_domain : {A : Type 0} → ℕ → ℕ → Outcome A → Outcome A
after_domain words room x = cond (ltb room words) (refused (short_by (eqb (number x) above_domain))) x

-- what a lent buffer that held b holds after a call: b where the call is refused, else b'
abbrev pub unless_refused : {A : Type 0} → Outcome A → List ℕ → List ℕ → List ℕ
unless_refused (refused n) b b' = b
unless_refused (answered a) b b' = b'

-- a row of words that is an answer
pub record RowOut (words out : List ℕ) (r : ℕ) (out' : List ℕ) : Type 0 where
  pub answer : r ≡ 0
  pub row : out' ≡ overwrite out words

abbrev pub RowPromise : Lent → MutLent → ℕ → Type 0
RowPromise words out r = RowOut (before words) (before_mut out) r (after out)

abbrev pub RowsPromise : Lent → Lent → MutLent → ℕ → Type 0
RowsPromise front rest out r = RowOut (before front ++ before rest) (before_mut out) r (after out)

-- an answer: its number, and its words
pub record Answers {A : Type 0} (words : A → List ℕ) (o : Outcome A) (out : List ℕ) (r : ℕ) (out' : List ℕ) : Type 0 where
  pub answer : r ≡ number o
  pub row : out' ≡ list_after words o out

abbrev pub AnswerPromise : {A : Type 0} → (A → List ℕ) → Outcome A → MutLent → ℕ → Type 0
AnswerPromise words o out r = Answers words o (before_mut out) r (after out)

-- an answer with a list: its number, the list, and its words
pub record Lists {A : Type 0} (items words : A → List ℕ) (o : Outcome A) (list out : List ℕ) (r : ℕ) (list' out' : List ℕ) : Type 0 where
  pub answer : r ≡ number o
  pub list-is : list' ≡ list_after items o list
  pub row : out' ≡ list_after words o out

abbrev pub ListPromise : {A : Type 0} → (A → List ℕ) → (A → List ℕ) → Outcome A → MutLent → MutLent → ℕ → Type 0
ListPromise items words o list out r = Lists items words o (before_mut list) (before_mut out) r (after list) (after out)
