-- What a call answers. Document 01: "A refusal gives its number, the line for 1 to 8 (else 0), and 0 in every other number.
-- An accepted call gives number 0." Assumes nothing.
use Rattle.std.specs.Prelude.{ℕ, List, ◌∷◌, replicate}

pub data Answer : Type 0 where
  -- with the call's own numbers
  accepted : List ℕ → Answer
  -- with the question's number, the line, and how many other numbers the call has
  refused : ℕ → ℕ → ℕ → Answer

-- Every number of an answer: number, line, and the call's own.
unfoldable pub numbers : Answer → List ℕ
numbers (accepted own) = 0 ∷ 0 ∷ own
numbers (refused number line others) = number ∷ line ∷ replicate others 0
