-- What rounds are given and leave: a table that passes questions 9 and 10, and what is pending, which is right about it. Assumes nothing.
use Rattle.std.specs.Prelude.{ℕ, ◌≤◌}
use Rattle.job.specs.Job.{Job}
use Rattle.cells.specs.Table.{Table}
use Rattle.cells.specs.Rest.{Tracked}
use Rattle.image.specs.Denoted.{job_of}
use Rattle.image.specs.declared.image.Image.{Image}
use Rattle.pending.specs.declared.Pending.{Pending}
use Rattle.table.specs.Lent.{Ready}
use Rattle.table.specs.Filling.{Leaves}

pub record Running (m : Image) (t : Table) (p : Pending) : Type 0 where
  pub ready : Ready m t
  pub tracked : Tracked (job_of m) p.stale p.news t

pub record Ran (J : Job) (t wanted after : Table) (p : Pending) (told : ℕ) : Type 0 where
  pub leaves : Leaves t wanted after told
  pub tracked : Tracked J p.stale p.news after
  pub few : told ≤ 65536
