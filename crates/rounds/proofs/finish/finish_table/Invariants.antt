-- `finish_table`: the rounds so far are the first of finish.
use Prim.Native.Nat.{◌+◌, ◌-◌}
use lib.ListN.{length}
use Rattle.cells.specs.Rest.{Tracked}
use Rattle.image.specs.Denoted.{job_of}
use Rattle.rounds.proofs.CameLaws.{Came}
use Rattle.rounds.proofs.finish.finish_table.Given as goal

abbrev pub invariant-loop-pending : goal.invariant-loop-pending
invariant-loop-pending l =
    Came (job_of l.m) l.initial.table l.table l.rounds l.cells × Tracked (job_of l.m) l.pending.stale l.pending.news l.table

abbrev pub decreases-loop-pending : goal.decreases-loop-pending
decreases-loop-pending l = length l.initial.table + 1 - l.rounds
