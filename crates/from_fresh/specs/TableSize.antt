-- How many cells the table for a text has. Assumes nothing.
use Rattle.std.specs.Prelude.{ℕ, ◌≤◌, ◌≡◌, List}
use Rattle.text.specs.Field.{Text}
use Rattle.job.specs.Job.{decode}
use Rattle.job.specs.Answer.{accepted}
use Rattle.job.specs.Read.{read_answer}
use Rattle.cells.specs.Table.{table_length}

-- n is at most the cells of the largest table, and where the text is accepted it is the cells of its job's.
pub record TableSize (x : Text) (n : ℕ) : Type 0 where
  pub small : n ≤ 65536
  pub right : (own : List ℕ) → accepted own ≡ read_answer x → n ≡ table_length (decode x)
