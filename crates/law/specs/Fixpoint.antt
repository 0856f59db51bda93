-- The least and the greatest fixed point of a rule on sets of numbers below n. A set is a list of n Bools, so that both
-- compute: n passes of the rule, from the empty set upward, from the full set downward. `Rattle.law.proofs.Least` and
-- `Greatest` show that they are the smallest and the largest set with their property. Assumes nothing.
use Rattle.std.specs.Prelude.{ℕ, zero, suc, ◌≡◌, Bool, true, false, List, get_or, replicate}
use Rattle.law.specs.Lists.{tab}

-- which numbers a rule adds to a set, or keeps in it
abbrev pub Rule : Type 0
Rule = (ℕ → Bool) → ℕ → Bool

-- a larger set gives the rule no fewer numbers
abbrev pub Monotone : Rule → Type 0
Monotone r =
    (X Y : ℕ → Bool) → ((s : ℕ) → X s ≡ true → Y s ≡ true) → (s : ℕ) → r X s ≡ true → r Y s ≡ true

-- a number is in a set
unfoldable pub member : List Bool → ℕ → Bool
member X s = get_or X s false

-- the numbers below n that the rule gives for the set X
unfoldable pub pass : Rule → ℕ → List Bool → List Bool
pass r n X = tab (r (member X)) n

unfoldable pub passes : Rule → ℕ → ℕ → List Bool → List Bool
passes r n zero X = X
passes r n (suc k) X = pass r n (passes r n k X)

unfoldable pub least : Rule → ℕ → List Bool
least r n = passes r n n (replicate n false)

unfoldable pub greatest : Rule → ℕ → List Bool
greatest r n = passes r n n (replicate n true)
