-- Tables that pass questions 9 and 10: as long as the job says, each byte 0 to 2, and 2 outside fragments. Every call leaves
-- such a table so. Assumes nothing.
use Prim.Native.Nat.{ℕ, ◌<◌, ◌≤◌}
use mathlib.Core.Bool.{true, false}
use mathlib.Core.Path.{◌≡◌, ap₂, ◌∙◌}
use native.Mathlib.Omega.{arith}
use lib.Dec.{eqb}
use borrow.Author.Tests.{eqb-true, eq-eqb}
use lib.ListN.{length, length-replicate}
use Rattle.job.specs.Job.{Job, size, subformula_count}
use Rattle.cells.specs.Fragment.{in_fragment}
use Rattle.cells.specs.Table.{Table, table_length, index, cell, inside, cells_right, fresh_table}
use Rattle.cells.specs.Step.{step_column, step_table}
use Rattle.cells.specs.Close.{accept_table, copy_table, close_table}
use Rattle.cells.specs.Finish.{round, finish}
use Rattle.cells.proofs.Index.{index_lt, node_of_index, state_of_index}
use Rattle.cells.proofs.Grown.{Grown, step_column_grown, step_table_grown, accept_table_grown, copy_table_grown, close_table_grown, round_grown, finish_grown}
use Rattle.cells.proofs.Right.{Right, right_is, is_right, right_cell_small, fresh_right, step_column_right, step_table_right, accept_table_right, copy_table_right, close_table_right, round_right, finish_right}

pub record Formed (J : Job) (t : Table) : Type 0 where
  pub long : length t ≡ table_length J
  pub right : Right J t

pub formed_is : (J : Job) (t : Table) → eqb (length t) (table_length J) ≡ true → cells_right J t ≡ true → Formed J t
formed_is J t e h = record { long = eqb-true (length t) (table_length J) e; right = right_is J t h }

pub is_formed_lem : (J : Job) (t : Table) → Formed J t → (eqb (length t) (table_length J) ≡ true) × (cells_right J t ≡ true)
is_formed_lem J t f = (eq-eqb (length t) (table_length J) f.long, is_right J t f.right)

pub fresh_table_formed : (J : Job) (t : Table) → length t ≡ table_length J → Formed J (fresh_table t)
unfolding fresh_table
fresh_table_formed J t e = record { long = length-replicate (length t) 2 ∙ e; right = fresh_right J t }

module _ (J : Job) (t : Table) (formed : Formed J t) where
  pub cell_low : (n s k : ℕ) → cell J t n s k ≤ 2
  cell_low = right_cell_small J t formed.right

  -- a cell outside the node's fragment is empty
  pub cell_outside : (n s k : ℕ) → n < J.nodes → s < size J → k < subformula_count J → in_fragment J n s ≡ false → cell J t n s k ≡ 2
  unfolding cell inside
  cell_outside n s k node state subformula away =
      let here = index J n s k in
      formed.right.outside here (omega (arith, index_lt J n s k node state subformula, formed.long))
      (ap₂ (in_fragment J) (node_of_index J n s k state subformula) (state_of_index J n s k state subformula) ∙ away)

  grown_formed : (u : Table) → Grown J t u → Right J u → Formed J u
  grown_formed u g r = record { long = g.long ∙ formed.long; right = r }

  pub step_column_formed : (n k : ℕ) → Formed J (step_column J n k t)
  step_column_formed n k = grown_formed (step_column J n k t) (step_column_grown J n k t) (step_column_right J n k t formed.right)

  pub step_table_formed : (n : ℕ) → Formed J (step_table J n t)
  step_table_formed n = grown_formed (step_table J n t) (step_table_grown J n t) (step_table_right J n t formed.right)

  pub accept_table_formed : (n s k v : ℕ) → v ≤ 2 → Formed J (accept_table J n s k v t)
  accept_table_formed n s k v low =
      grown_formed (accept_table J n s k v t) (accept_table_grown J n s k v t) (accept_table_right J n s k v low t formed.right)

  pub copy_table_formed : Formed J (copy_table J t)
  copy_table_formed = grown_formed (copy_table J t) (copy_table_grown J t) (copy_table_right J t formed.right)

  pub close_table_formed : Formed J (close_table J t)
  close_table_formed = grown_formed (close_table J t) (close_table_grown J t) (close_table_right J t formed.right)

  pub round_formed : Formed J (round J t)
  round_formed = grown_formed (round J t) (round_grown J t) (round_right J t formed.right)

  pub finish_formed : Formed J (finish J t).table
  finish_formed = grown_formed (finish J t).table (finish_grown J t) (finish_right J t formed.right)
