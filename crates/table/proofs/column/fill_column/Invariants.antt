-- `fill_column`: the states passed so far are filled.
use Rattle.std.proofs.Common.{◌≤◌}
use Rattle.image.specs.Denoted.{job_of}
use Rattle.table.specs.Filling.{Leaves, Values, part, up_to, Gives}
use Rattle.table.proofs.column.fill_column.Given as goal

abbrev pub invariant-loop-state : goal.invariant-loop-state
invariant-loop-state g l =
    (l.filled ≤ l.state-index)
    × ((new : Values)
    → Gives (job_of l.m) l.initial.table new l.n l.k (goal.F-post g l.value)
    → Leaves l.initial.table (part (job_of l.m) (up_to (job_of l.m) l.n l.k l.state-index) new l.initial.table) l.table l.filled)
