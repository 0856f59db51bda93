-- Demand 1: "every call reads or refuses under the number of the first check that fails". The words of it that `demands/proofs/Demands.antt`
-- uses; its other sentences are about the functions themselves (`demands/specs/Functions.antt`). Assumes nothing.
use Rattle.std.specs.Prelude.{ℕ, ◌≡◌, List}
use Rattle.std.proofs.Math.Option as opt
use Rattle.job.specs.Answer.{Answer, accepted, refused}
use Rattle.job.specs.Question.{Question, refusal}

-- "reads or refuses under the number of the first check that fails": of the call's questions none is answered no, or q is the first that
-- is. Then the answer is its number, the line that it is about, and 0 in every other number, of which there are so many.
pub data AnswersBy (questions : List Question) (others : ℕ) (own : List ℕ) (a : Answer) : Type 0 where
  reads : refusal questions ≡ opt.none → a ≡ accepted own → AnswersBy questions others own a
  refuses :
      (q : Question)
      → refusal questions ≡ opt.some q
      → a ≡ refused q.number q.line others
      → AnswersBy questions others own a
