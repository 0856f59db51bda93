-- `close_column`: the nodes passed so far are closed.
use Prim.Native.Nat.{◌-◌, ◌≤◌}
use mathlib.Core.Path.{◌≡◌}
use Rattle.image.specs.Denoted.{job_of}
use Rattle.table.specs.Filling.{FillingNodes}
use Rattle.closing.specs.Closed.{constant}
use Rattle.closing.proofs.close_column.Given as goal

abbrev pub invariant-loop-n : goal.invariant-loop-n
invariant-loop-n l =
    (l.n ≤ l.n-end) × (l.n-end ≡ (job_of l.m).nodes) × FillingNodes l.m l.initial.table (constant l.v) l.k l.n l.table l.filled

abbrev pub decreases-loop-n : goal.decreases-loop-n
decreases-loop-n l = l.n-end - l.n
