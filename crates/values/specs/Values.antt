-- What the step has for one cell by the rules that need no sets. Assumes nothing.
use Rattle.std.specs.Prelude.{ℕ, cond}
use Rattle.job.specs.Job.{Job, atom}
use Rattle.job.specs.Rule.{quantifier}
use Rattle.job.specs.declared.rule.Rule.{Rule}
use Rattle.job.specs.declared.rule.Rule.TheVariants.{Atom, Not, And, Next, Sets}
use Rattle.cells.specs.Table.{Table, cell, is_empty}
use Rattle.cells.specs.Step.{opposite, both, next}
use Rattle.table.specs.Column.{cells_of}
use Rattle.table.specs.Filling.{Values}

-- The value at a state by the cells at node n; 2, which leaves a cell empty, where the rule needs sets.
unfoldable pub value_at : Job → ℕ → (ℕ → ℕ → ℕ) → Rule → ℕ → ℕ
value_at J n at (Atom j) s = cond (atom J.structure j s) 1 0
value_at J n at (Not a) s = opposite (at a s)
value_at J n at (And a b) s = both (at a s) (at b s)
value_at J n at (Next all a) s = next J n (quantifier all) (at a) s
value_at J n at (Sets g) s = 2

-- What a cell of the column takes: its value, over the cells of the table t, if it is empty.
abbrev pub empty_values : Job → Table → ℕ → Rule → Values
empty_values J t n rule m s j = cond (is_empty (cell J t m s j)) (value_at J n (cells_of J t n) rule s) 2
