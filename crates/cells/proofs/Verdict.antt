-- Rounds and finish keep a table sound, and the verdict of finish is 0 or 1, on a sound table the truth of the whole formula
-- at state 0. Assumes nothing.
use Prim.Native.Nat.{◌-◌, ◌<◌}
use native.Mathlib.Omega.{arith}
use borrow.Author.Tests.{ltb-true}
use Rattle.job.specs.Job.{Job, size, subformula_count}
use Rattle.job.specs.Written.{IsJob}
use Rattle.cells.specs.Table.{Table}
use Rattle.cells.specs.Close.{smallest_open, some_open}
use Rattle.cells.specs.Finish.{finish, verdict}
use Rattle.cells.proofs.Kept.{Parts, finish_keeps}
use Rattle.cells.proofs.Tells.{Tells}
use Rattle.cells.proofs.Formed.{Formed}
use Rattle.cells.proofs.Sound.{truth, Sound, owner_cell_tells, step_table_sound, copy_table_sound}
use Rattle.cells.proofs.Settled.{settled_is}
use Rattle.cells.proofs.Close.{close_table_sound}
use Rattle.cells.proofs.Determined.{Filled}
use Rattle.cells.proofs.Finish.{finish_complete}

module _ (J : Job) (job : IsJob J) where
  abbrev KeepsSound : Table → Table → Type 0
  KeepsSound t u = Sound J t → Sound J u

  sound_parts : Parts J KeepsSound
  unfolding some_open
  sound_parts =
      record {
        still = λ t sound. sound;
        after = λ t u v first then sound. then (first sound);
        step = λ n t l. step_table_sound J job n l t;
        copy = copy_table_sound J job;
        close =
            λ t still some sound.
            close_table_sound J job t sound (settled_is J t sound.formed.long still)
            (ltb-true (smallest_open J t) (subformula_count J) some);
      }

  pub finish_sound : (t : Table) → Sound J t → Sound J (finish J t).table
  finish_sound = finish_keeps J KeepsSound sound_parts

  -- A job has a state 0 and a whole formula.
  pub first_state : 0 < size J
  first_state = job.states.above

  whole : subformula_count J - 1 < subformula_count J
  whole = omega (arith, job.subformulas.above)

  pub verdict_filled : (t : Table) → Formed J t → Filled (verdict J (finish J t).table)
  unfolding verdict
  verdict_filled t formed = finish_complete J t job formed 0 (subformula_count J - 1) first_state whole

  module _ (t : Table) (sound : Sound J t) where
    pub verdict_tells : Tells 1 (verdict J (finish J t).table) (truth J (subformula_count J - 1) 0)
    unfolding verdict
    verdict_tells = owner_cell_tells J job (finish J t).table (finish_sound t sound) 0 (subformula_count J - 1) first_state whole
