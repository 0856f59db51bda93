-- How many bytes the page for a text has. Assumes nothing.
use Rattle.std.specs.Prelude.{ℕ, ◌+◌, ◌*◌, ◌≤◌, ◌≡◌, List}
use Rattle.text.specs.Field.{Text}
use Rattle.job.specs.Job.{size, decode}
use Rattle.job.specs.Answer.{accepted}
use Rattle.job.specs.Read.{read_answer}
use Rattle.page_output.specs.PageOutput.{room}

-- r is at most the bytes of the longest page, and where the text is accepted it is those of its job's.
pub record PageSize (x : Text) (r : ℕ) : Type 0 where
  pub small : r ≤ room
  pub right : (own : List ℕ) → accepted own ≡ read_answer x → r ≡ 80 * (size (decode x) + 1)
