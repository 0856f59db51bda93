-- The numbers of a line of n fields, where it is well-formed. Assumes nothing.
use Rattle.std.specs.Prelude.{ℕ, zero, suc, ◌+◌, List, [], ◌∷◌, cond, Option, Some, None}
use Rattle.text.specs.Field.{Text, number_at, formed}

-- the numbers of the n fields at this offset
unfoldable pub numbers_at : Text → ℕ → ℕ → List ℕ
numbers_at t at zero = []
numbers_at t at (suc n) = number_at t at ∷ numbers_at t (at + 5) n

unfoldable pub line_numbers : Text → ℕ → ℕ → Option (List ℕ)
line_numbers t at n = cond (formed t at n) (Some (numbers_at t at n)) None
