-- What each part of a round does to a table, a round and finish do: for any relation between a table and a later one that can be
-- put one behind the other. Assumes nothing.
use Prim.Native.Nat.{ℕ, zero, suc, ◌<◌, ◌≤◌}
use mathlib.Core.Path.{◌≡◌}
use mathlib.Core.Bool.{true, ◌&&◌}
use native.Mathlib.Nat.{le_refl}
use native.Mathlib.Omega.{arith}
use lib.Dec.{eqb}
use Rattle.law.proofs.Bool.{split, and_left, and_right}
use Rattle.law.proofs.Bounded.{below_suc}
use Rattle.job.specs.Job.{Job, subformula_count}
use Rattle.cells.specs.Table.{Table, filled, empty_cells}
use Rattle.cells.specs.Step.{step_column, step_up_to, step_table}
use Rattle.cells.specs.Close.{copy_table, settled, some_open, close_table}
use Rattle.cells.specs.Finish.{steps_up_to, exchange, closing, round, rounds_from, finish}

-- A step, from its columns.
module _
    (J : Job) (P : Table → Table → Type 0) (still : (t : Table) → P t t)
    (after : (t u v : Table) → P t u → P u v → P t v) (n : ℕ)
  where
    -- the columns from j on
    pub step_up_to_keeps :
        (j : ℕ)
        → ((k : ℕ) (t : Table) → j ≤ k → k < subformula_count J → P t (step_column J n k t))
        → (k : ℕ) (t : Table)
        → j ≤ k
        → k ≤ subformula_count J
        → P (step_up_to J n j t) (step_up_to J n k t)
    unfolding step_up_to
    step_up_to_keeps j column zero t m l = let none : j ≡ 0 = omega arith in rw none (still t)
    step_up_to_keeps j column (suc k) t m l =
        below_suc j (suc k) (omega arith)
        (λ less.
        let u = step_up_to J n k t in
        let m' : j ≤ k = omega arith in
        after (step_up_to J n j t) u (step_column J n k u) (step_up_to_keeps j column k t m' (omega arith)) (column k u m' l))
        (λ same. rw same (still (step_up_to J n (suc k) t)))

    pub step_table_keeps : ((k : ℕ) (t : Table) → k < subformula_count J → P t (step_column J n k t)) → (t : Table) → P t (step_table J n t)
    unfolding step_table step_up_to
    step_table_keeps column t = step_up_to_keeps 0 (λ k u m. column k u) (subformula_count J) t (omega arith) (le_refl (subformula_count J))

-- A round and finish, from steps, copying, and close where it is not refused.
pub record Parts (J : Job) (P : Table → Table → Type 0) : Type 0 where
  pub still : (t : Table) → P t t
  pub after : (t u v : Table) → P t u → P u v → P t v
  pub step : (n : ℕ) (t : Table) → n < J.nodes → P t (step_table J n t)
  pub copy : (t : Table) → P t (copy_table J t)
  pub close : (t : Table) → settled J t ≡ true → some_open J t ≡ true → P t (close_table J t)

module _ (J : Job) (P : Table → Table → Type 0) (parts : Parts J P) where
  pub steps_up_to_keeps : (n : ℕ) (t : Table) → n ≤ J.nodes → P t (steps_up_to J n t)
  unfolding steps_up_to
  steps_up_to_keeps zero t l = parts.still t
  steps_up_to_keeps (suc n) t l =
      let u = steps_up_to J n t in parts.after t u (step_table J n u) (steps_up_to_keeps n t (omega arith)) (parts.step n u l)

  pub exchange_keeps : (t : Table) → P t (exchange J t)
  unfolding exchange
  exchange_keeps t =
      let u = steps_up_to J J.nodes t in
      parts.after t u (copy_table J u) (steps_up_to_keeps J.nodes t (le_refl J.nodes)) (parts.copy u)

  pub closing_keeps : (t : Table) → P t (closing J t)
  unfolding closing
  closing_keeps t =
      let a = settled J t in
      let b = some_open J t in
      split (a && b) (λ e. simp e (parts.close t (and_left a b e) (and_right a b e))) (λ e. simp e (parts.still t))

  pub round_keeps : (t : Table) → P t (round J t)
  unfolding round
  round_keeps t =
      let u = exchange J t in
      split (eqb (filled t u) 0)
      (λ e. simp e (parts.after t u (closing J u) (exchange_keeps t) (closing_keeps u)))
      (λ e. simp e (exchange_keeps t))

  pub rounds_from_keeps : (n : ℕ) (t : Table) → P t (rounds_from J n t).table
  unfolding rounds_from
  rounds_from_keeps zero t = round_keeps t
  rounds_from_keeps (suc n) t =
      let u = round J t in
      split (eqb (filled t u) 0)
      (λ e. simp e (round_keeps t))
      (λ e. simp e (parts.after t u (rounds_from J n u).table (round_keeps t) (rounds_from_keeps n u)))

  pub finish_keeps : (t : Table) → P t (finish J t).table
  unfolding finish
  finish_keeps t = rounds_from_keeps (empty_cells J t) t
