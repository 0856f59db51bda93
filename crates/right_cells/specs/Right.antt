-- Question 10 of one cell, and of the cells of one node and one state, which stand one behind the other. Assumes nothing.
use Rattle.std.specs.Prelude.{ℕ, Bool, ◌&&◌, ◌||◌, leb}
use Rattle.law.specs.Bounded.{all}
use Rattle.job.specs.Job.{Job, size, subformula_count}
use Rattle.cells.specs.Fragment.{in_fragment}
use Rattle.cells.specs.Table.{Table, cell, is_empty}

unfoldable pub cell_right : Job → Table → ℕ → ℕ → ℕ → Bool
cell_right J t n s k = leb (cell J t n s k) 2 && (in_fragment J n s || is_empty (cell J t n s k))

unfoldable pub row_right : Job → Table → ℕ → ℕ → Bool
row_right J t n s = all (cell_right J t n s) (subformula_count J)

-- And of the cells of one node.
unfoldable pub node_right : Job → Table → ℕ → Bool
node_right J t n = all (row_right J t n) (size J)
