-- Line 1 of a text by itself: numbers that are small, and where the text is accepted those of its job. Assumes nothing.
use Rattle.std.specs.Prelude.{ℕ, ◌*◌, ◌≤◌, ◌≡◌, List}
use Rattle.text.specs.Field.{Text}
use Rattle.job.specs.Job.{size, decode}
use Rattle.job.specs.Answer.{accepted}
use Rattle.job.specs.Read.{read_answer}
use Rattle.job.specs.declared.reading.Header.{Header}
use Rattle.cells.specs.Table.{table_length}

pub record LineOne (x : Text) (h : Header) : Type 0 where
  pub states_few : h.states ≤ 256
  pub rows_few : h.nodes * h.states ≤ 2048
  pub cells_few : h.nodes * h.states * h.subformulas ≤ 65536
  pub right :
      (own : List ℕ)
      → accepted own ≡ read_answer x
      → (h.states ≡ size (decode x)) × (h.nodes * h.states * h.subformulas ≡ table_length (decode x))
