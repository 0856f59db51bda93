-- `step_stale`: the columns passed so far are worked.
use Prim.Native.Nat.{◌≤◌}
use Rattle.image.specs.Denoted.{job_of}
use Rattle.stepping.proofs.WorkedLaws.{WorkedUpTo}
use Rattle.stepping.proofs.stale.step_stale.Given as goal

abbrev pub invariant-loop-k : goal.invariant-loop-k
invariant-loop-k l =
    (l.k ≤ l.k-end) × WorkedUpTo (job_of l.m) l.n l.k l.initial.table l.initial.pending l.table l.pending l.count
