-- Fields and lines from the writer's side: the bytes that a number and a line of numbers are written as. `proofs/DecimalLaws.antt` and
-- `proofs/Line.antt` show that these, and no others, are read as those numbers. Assumes nothing.
use Rattle.std.specs.Prelude.{ℕ, ◌+◌, ◌/◌, ◌%◌, ◌<◌, cond, not, ◌&&◌, List, [], ◌∷◌, ◌++◌, map, ltb, eqb}
use Rattle.law.specs.Lists.{flatten}
use Rattle.text.specs.Field.{Text}

-- "decimal, right-justified in five columns with spaces before it, without leading zeros (zero is one `0`)": the column of weight
-- p is a space where n is below p, unless it is the last, and else a digit
unfoldable pub digit_column : ℕ → ℕ → ℕ
digit_column n p = cond (ltb n p && not (eqb p 1)) 32 (48 + n / p % 10)

unfoldable pub decimal : ℕ → List ℕ
decimal n = digit_column n 10000 ∷ digit_column n 1000 ∷ digit_column n 100 ∷ digit_column n 10 ∷ digit_column n 1 ∷ []

-- "A line is its fields and byte 10."
unfoldable pub line : List ℕ → Text
line ns = flatten (map decimal ns) ++ (10 ∷ [])

-- Each number has at most five digits.
unfoldable pub Short : List ℕ → Type 0
Short [] = Unit {0}
Short (n ∷ ns) = (n < 100000) × Short ns
