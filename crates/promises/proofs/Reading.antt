-- The reader by its answer: it reads or refuses under the first question that is answered no, and accepts exactly the texts of jobs.
-- Assumes nothing.
use mathlib.Core.Path.{sym}
use mathlib.Core.Logic.{◌↔◌}
use Rattle.text.specs.Field.{Text}
use Rattle.job.specs.Job.{decode}
use Rattle.job.specs.Answer.{Answer}
use Rattle.job.specs.Questions.{text_questions, Accepted}
use Rattle.job.specs.Read.{read_answer, header}
use Rattle.job.proofs.QuestionLaws.{answered_none, accepted_none}
use Rattle.job.proofs.Exact.{decode_is_job, written_decode, exact}
use Rattle.promises.specs.CallContracts.{Loan, Reads}
use Rattle.promises.specs.Demand1.{AnswersBy}
use Rattle.promises.specs.Demand2.{JobText, Accepts}
use Rattle.promises.proofs.Contracts.{reads_defined}
use Rattle.promises.proofs.Calls.{answers_by}

module _ (x : Text) where
  accepts : Accepted x → Accepts (read_answer x)
  unfolding read_answer Accepted
  accepts is = record { own = header x; told = answered_none (text_questions x) 4 (header x) is }

  accepted : Accepts (read_answer x) → Accepted x
  unfolding read_answer Accepted
  accepted taken = accepted_none (text_questions x) 4 (header x) taken.own (sym taken.told)

  pub read_exact : Accepts (read_answer x) ↔ JobText x
  read_exact = (
    (λ taken.
        let is = accepted taken in
        record { job = decode x; is_job = decode_is_job x is; is_written = written_decode x is }),
    (λ j. accepts ((exact x).1 (j.job, j.is_job, j.is_written))),
  )

  -- The same of a read that happened.
  module _ (l : Loan) (a : Answer) (reads : Reads l x a) where
    pub reads_first : AnswersBy (text_questions x) 4 (header x) a
    unfolding read_answer
    reads_first = rw (reads_defined l x a reads) (answers_by (text_questions x) 4 (header x))

    pub reads_exact : Accepts a ↔ JobText x
    reads_exact = rw (reads_defined l x a reads) read_exact
