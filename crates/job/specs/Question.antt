-- A question put to a call, and what comes of a list of them, whatever the call was lent. Document 01: "A no ends the call with the
-- number beside it." "A refusal gives its number, the line for 1 to 8 (else 0), and 0 in every other number; the table and any other
-- lent bytes stay. An accepted call gives number 0." Assumes nothing.
use Rattle.std.specs.Prelude.{ℕ, Bool, cond, ◌&&◌, List, [], ◌∷◌, ltb, eqb}
use Rattle.std.proofs.Math.Option.{Option, Option-elim}
use Rattle.std.proofs.Math.Option as opt
use Rattle.law.specs.Lists.{every}
use Rattle.job.specs.Answer.{Answer, accepted, refused}

pub record Question : Type 0 where
  pub number : ℕ
  -- the line that a no reports
  pub line : ℕ
  -- the answer
  pub test : Bool

-- A question that is about no line.
unfoldable pub of_call : ℕ → Bool → Question
of_call number test = record { number = number; line = 0; test = test }

-- A question of a call's own: it has a number, and "the line for 1 to 8 (else 0)".
unfoldable pub is_own : Question → Bool
is_own q = ltb 0 q.number && eqb q.line 0

unfoldable pub all_yes : List Question → Bool
all_yes qs = every (λ q. q.test) qs

-- The first question that is answered no.
unfoldable pub refusal : List Question → Option Question
refusal [] = opt.none
refusal (q ∷ qs) = let later = refusal qs in cond q.test later (opt.some q)

-- Its number, 0 where there is none.
unfoldable pub no_number : List Question → ℕ
no_number qs = Option-elim (refusal qs) 0 (λ q. q.number)

-- The answer of a call that puts these questions: its own numbers, or the refusal, with so many zeros in their place.
unfoldable pub answered : List Question → ℕ → List ℕ → Answer
answered qs others own = Option-elim (refusal qs) (accepted own) (λ q. refused q.number q.line others)

-- What was lent, afterwards: as it was before where a question is answered no, else as the call makes it.
unfoldable pub afterwards : {A : Type 0} → List Question → A → A → A
afterwards qs before made = Option-elim (refusal qs) made (λ q. before)
