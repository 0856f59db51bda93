-- The step of a column is its step by the subformula's rule. Assumes nothing.
use Prim.Native.Nat.{ℕ}
use mathlib.Core.Path.{◌≡◌, subst}
use Rattle.job.specs.Job.{Job}
use Rattle.job.specs.Rule.{rule_at}
use Rattle.job.specs.declared.rule.Rule.{Rule}
use Rattle.cells.specs.Table.{Table}
use Rattle.cells.specs.Step.{step_column}
use Rattle.table.specs.Filling.{Leaves, part, of_column}
use Rattle.table.specs.Column.{step_by}

-- the same rule gives the same step
pub stepped_by :
    (J : Job) (n k : ℕ) (r q : Rule) (t after : Table) (told : ℕ) → r ≡ q → Leaves t (step_by J n k r t) after told → Leaves t (step_by J n k q t) after told
stepped_by J n k r q t after told e l = subst (λ (x : Rule). Leaves t (step_by J n k x t) after told) e l

pub stepped :
    (J : Job) (n k : ℕ) (r : Rule) (t after : Table) (told : ℕ)
    → r ≡ rule_at J k
    → Leaves t (step_by J n k r t) after told
    → Leaves t (step_column J n k t) after told
unfolding part of_column step_column
stepped J n k r t after told e l = stepped_by J n k r (rule_at J k) t after told e l
