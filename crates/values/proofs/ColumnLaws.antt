-- A column is filled in place by values that read smaller subformulas, and these values are the step's. Assumes nothing.
use Prim.Native.Nat.{ℕ, ◌<◌}
use mathlib.Core.Path.{◌≡◌, sym, ◌∙◌, ap, ap₂}
use mathlib.Core.Bool.{cond}
use native.Mathlib.Omega.{arith}
use lib.ListN.{length}
use Rattle.job.specs.Job.{Job, size, subformula_count}
use Rattle.job.specs.Rule.{InRange, IsSets}
use Rattle.job.specs.declared.rule.Rule.{Rule}
use Rattle.cells.specs.Table.{Table, table_length, cell, is_empty}
use Rattle.cells.proofs.Fill.{is_empty_lem, fill_same_cells}
use Rattle.law.proofs.Bool.{cond_true}
use Rattle.job.specs.Written.{IsJob}
use Rattle.table.specs.Filling.{Leaves, part, of_column, up_to}
use Rattle.table.proofs.Parts.{leaves_is}
use Rattle.table.proofs.FillingLaws.{column_others}
use Rattle.table.specs.Column.{cells_of, step_by}
use Rattle.values.specs.Values.{value_at, empty_values}
use Rattle.values.proofs.ValueLaws.{value_same, column_value}

-- Beside the table as it is while the column is filled, a cell takes what it takes at first.
module _ (J : Job) (job : IsJob J) (t : Table) (long : length t ≡ table_length J) (n k : ℕ) (inside : k < subformula_count J) (r : Rule) (range : InRange k r) where
  pub empty_kept :
      (u : Table) (s c i : ℕ)
      → Leaves t (part J (up_to J n k i) (empty_values J t n r) t) u c
      → s < size J
      → cell J u n s k ≡ cell J t n s k
      → empty_values J u n r n s k ≡ empty_values J t n r n s k
  empty_kept u s c i so state own =
      let new = empty_values J t n r in
      let same : value_at J n (cells_of J u n) r s ≡ value_at J n (cells_of J t n) r s =
      -- the columns that the value reads are as they were
      value_same J job n k (cells_of J u n) (cells_of J t n)
      (λ j g x h. column_others J t long new n k u c i so n x j h (omega arith) (λ p q. omega arith)) r range s state in
      ap₂ (λ x v. cond (is_empty x) v 2) own same

module _ (J : Job) (t : Table) (n k : ℕ) (r : Rule) (after : Table) (told : ℕ) where
  -- the values are those of the column, unless it goes by sets
  pub values_filled :
      length t ≡ table_length J
      → (IsSets r → ⊥)
      → Leaves t (part J (of_column n k) (empty_values J t n r) t) after told
      → Leaves t (step_by J n k r t) after told
  unfolding part
  values_filled long other =
      leaves_is t _ _ after told
      (fill_same_cells J (λ m s j. cond (of_column n k m s j) (empty_values J t n r m s j) 2) _ t long
      (λ m s j a b c e o.
      ap (λ x. cond (of_column n k m s j) x 2)
      (cond_true (is_empty (cell J t m s j)) (value_at J n (cells_of J t n) r s) 2 (is_empty_lem (cell J t m s j) e)
      ∙ sym (column_value J n k (cells_of J t n) r other s b))))
