-- What the call finish answers, from the rounds done and the cell read behind them. Assumes nothing.
use Prim.Native.Nat.{ℕ, ◌+◌, ◌-◌, ◌≤◌}
use mathlib.Core.Path.{◌≡◌}
use mathlib.Core.List.{[], ◌∷◌}
use native.Mathlib.Omega.{arith}
use Rattle.job.specs.Job.{Job, subformula_count}
use Rattle.cells.specs.Table.{Table, owner_cell, empty_cells}
use Rattle.cells.specs.Finish.{finish, verdict}
use Rattle.cells.specs.Calls.{Call, told}
use Rattle.cells.proofs.Finish.{finish_rounds_lem}
use Rattle.cells.proofs.Formed.{finish_formed}
use Rattle.image.specs.Denoted.{job_of}
use Rattle.image.specs.declared.image.Image.{Image}
use Rattle.table.specs.Lent.{Ready}
use Rattle.exchange.proofs.ReadyLaws.{ready_formed, formed_ready}

-- The table that is left passes questions 9 and 10 too.
pub finished_ready : {m : Image} {t : Table} → Ready m t → (u : Table) → u ≡ (finish (job_of m) t).table → Ready m u
finished_ready {m} {t} ready u is = formed_ready ready u (rw is (finish_formed (job_of m) t (ready_formed ready)))

module _ (J : Job) (t w : Table) (v rounds cells k : ℕ) (table_is : w ≡ (finish J t).table) (rounds_are : rounds ≡ (finish J t).rounds) where
  pub finished_told :
      cells ≡ (finish J t).cells → k ≡ subformula_count J → v ≡ owner_cell J w 0 (k - 1) → (v ∷ rounds ∷ cells ∷ []) ≡ told Call.finish J t
  unfolding told verdict
  finished_told cells_are all read = rw (read, rounds_are, cells_are, table_is, all)

  pub finished_rounds : rounds ≤ empty_cells J t + 1
  finished_rounds = omega (arith, rounds_are, finish_rounds_lem J t)
