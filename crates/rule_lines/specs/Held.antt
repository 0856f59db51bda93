-- What looking for a line says, and what keeping it does. Assumes nothing.
use Rattle.std.specs.Prelude.{ℕ, ◌<◌, ◌≡◌, List, length, Option, MatchOption}
use Rattle.rule_text.specs.Kept.{Kept, find}

-- The lines afterwards are these, and r is this number.
pub record KeptAs (k : Kept) (r : ℕ) (after : List (List ℕ)) : Type 0 where
  pub lines : after ≡ k.lines
  pub number : r ≡ k.number

-- The number of the first of these lines that is l, if there is one.
abbrev pub Finds : List ℕ → List (List ℕ) → Option ℕ → Type 0
Finds l ls r = MatchOption r (find l ls ≡ length ls) (λ k. (k ≡ find l ls) × (k < length ls))
