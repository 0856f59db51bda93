-- Document 02 (v), "the table on paper": one node's table "as lines of exactly 79 columns and byte 10". Assumes nothing.
use Rattle.std.specs.Prelude.{ℕ, zero, suc, ◌+◌, ◌-◌, cond, List, [], ◌∷◌, ◌++◌, length, replicate}
use Rattle.law.specs.Lists.{tab, flatten}
use Rattle.text.specs.Field.{Text}
use Rattle.text.specs.Decimal.{digit_column, decimal}
use Rattle.job.specs.Job.{Job, size, subformula_count, owner}
use Rattle.job.specs.Written.{label}
use Rattle.cells.specs.Table.{Table, cell, is_empty}

-- "the subformula numbers, right-justified in two columns each"
unfoldable pub two_columns : ℕ → Text
two_columns k = digit_column k 10 ∷ digit_column k 1 ∷ []

-- "The first has 15 spaces and then the subformula numbers", of which there are so many.
unfoldable pub heading : ℕ → Text
heading count = replicate 15 32 ++ flatten (tab two_columns count)

-- "`0`, `1` or `.` for empty"
unfoldable pub cell_mark : ℕ → ℕ
cell_mark c = cond (is_empty c) 46 (48 + c)

-- "state, owner and label in five columns,
unfoldable pub row_front : Job → ℕ → Text
row_front J s = decimal s ++ (decimal (owner J s) ++ decimal (label J s))

-- then for each subformula a space and" the mark of its cell at node n
unfoldable pub row_cells : Job → Table → ℕ → ℕ → Text
row_cells J t n s = flatten (tab (λ k. 32 ∷ cell_mark (cell J t n s k) ∷ []) (subformula_count J))

-- The columns of line i, before it is filled: first the heading, then "each state follows".
unfoldable pub columns_of : Job → Table → ℕ → ℕ → Text
columns_of J t n zero = heading (subformula_count J)
columns_of J t n (suc s) = row_front J s ++ row_cells J t n s

-- "Each line is filled with spaces to 79", and byte 10 stands behind it.
unfoldable pub filled_line : Text → Text
filled_line columns = columns ++ (replicate (79 - length columns) 32 ++ (10 ∷ []))

unfoldable pub page_line : Job → Table → ℕ → ℕ → Text
page_line J t n i = filled_line (columns_of J t n i)

-- "There are S + 1 lines".
unfoldable pub page_lines : Job → Table → ℕ → List Text
page_lines J t n = tab (page_line J t n) (size J + 1)

unfoldable pub page : Job → Table → ℕ → Text
page J t n = flatten (page_lines J t n)
