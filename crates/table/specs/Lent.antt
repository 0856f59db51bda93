-- What is lent beside an image: a table of its job, and the numbers of a row, of a column and of a cell of it. Assumes nothing.
use Rattle.std.specs.Prelude.{ℕ, ◌<◌, ◌≡◌, true, length}
use Rattle.job.specs.Job.{Job, size, subformula_count}
use Rattle.cells.specs.Table.{Table, table_length, cells_right}
use Rattle.image.specs.Denoted.{job_of}
use Rattle.image.specs.declared.image.Image.{Image}

-- The table has the length of the job that the image denotes: question 9.
pub record Lent (m : Image) (t : Table) : Type 0 where
  pub long : length t ≡ table_length (job_of m)

-- And its cells are right: question 10.
pub record Ready (m : Image) (t : Table) : Type 0 where
  pub lent : Lent m t
  pub right : cells_right (job_of m) t ≡ true

-- A row has the cells of one node and one state, a column those of one node and one subformula.
pub record IsRow (J : Job) (n s : ℕ) : Type 0 where
  pub node_in : n < J.nodes
  pub state_in : s < size J

pub record IsColumn (J : Job) (n k : ℕ) : Type 0 where
  pub node_in : n < J.nodes
  pub subformula_in : k < subformula_count J

pub record IsCell (J : Job) (n s k : ℕ) : Type 0 where
  pub node_in : n < J.nodes
  pub state_in : s < size J
  pub subformula_in : k < subformula_count J
