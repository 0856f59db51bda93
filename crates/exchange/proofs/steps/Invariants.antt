-- `steps`: the nodes passed so far are stepped.
use Prim.Native.Nat.{◌-◌, ◌≤◌}
use mathlib.Core.Path.{◌≡◌}
use Rattle.cells.specs.Finish.{steps_up_to}
use Rattle.image.specs.Denoted.{job_of}
use Rattle.exchange.specs.Running.{Ran}
use Rattle.exchange.proofs.steps.Given as goal

abbrev pub invariant-loop-n : goal.invariant-loop-n
invariant-loop-n l =
    (l.n ≤ l.n-end) × (l.n-end ≡ (job_of l.m).nodes) × Ran (job_of l.m) l.initial.table (steps_up_to (job_of l.m) l.n l.initial.table) l.table l.pending l.filled

abbrev pub decreases-loop-n : goal.decreases-loop-n
decreases-loop-n l = l.n-end - l.n
