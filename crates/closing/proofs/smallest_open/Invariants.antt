-- `smallest_open`: no subformula passed so far is open.
use Prim.Native.Nat.{ℕ, ◌<◌, ◌≤◌}
use mathlib.Core.Path.{◌≡◌}
use mathlib.Core.Bool.{false}
use Rattle.job.specs.Job.{size, subformula_count}
use Rattle.cells.specs.Table.{is_empty, owner_cell}
use Rattle.cells.specs.Close.{open?}
use Rattle.image.specs.Denoted.{job_of}
use Rattle.closing.proofs.smallest_open.Given as goal

abbrev pub invariant-loop-s : goal.invariant-loop-s
invariant-loop-s l =
    (l.s ≤ l.s-end) × (l.s-end ≡ size (job_of l.m)) × ((u : ℕ) → u < l.s → is_empty (owner_cell (job_of l.m) l.table u l.k) ≡ false)

abbrev pub invariant-loop-k : goal.invariant-loop-k
invariant-loop-k l =
    (l.k ≤ l.k-end) × (l.k-end ≡ subformula_count (job_of l.m)) × ((j : ℕ) → j < l.k → open? (job_of l.m) l.table j ≡ false)
