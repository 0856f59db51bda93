-- The step of one column by a rule, as a filling. Assumes nothing.
use Rattle.std.specs.Prelude.{ℕ, get_or}
use Rattle.job.specs.Job.{Job}
use Rattle.job.specs.declared.rule.Rule.{Rule}
use Rattle.cells.specs.Table.{Table, cell}
use Rattle.cells.specs.Step.{column}
use Rattle.table.specs.Filling.{Values, part, of_column}

-- A node's cells of a subformula, by state.
abbrev pub cells_of : Job → Table → ℕ → ℕ → ℕ → ℕ
cells_of J t n j u = cell J t n u j

-- The values that the step's definition has for the column of node n and subformula k by a rule, and the table in which it took them.
abbrev pub column_values : Job → Table → ℕ → ℕ → Rule → Values
column_values J t n k rule m s j = get_or (column J n (cells_of J t n) k rule) s 2

abbrev pub step_by : Job → ℕ → ℕ → Rule → Table → Table
step_by J n k rule t = part J (of_column n k) (column_values J t n k rule) t
