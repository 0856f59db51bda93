-- `spread`: some states of the set are told, the others wait.
use Prim.Native.Nat.{ℕ}
use mathlib.Core.Bool.{Bool}
use Rattle.image.specs.Denoted.{job_of}
use Rattle.spread.specs.Underway.{Spreading}
use Rattle.spread.proofs.Worklist.{left}
use Rattle.spread.proofs.spread.spread.Given as goal

abbrev pub invariant-loop-t : goal.invariant-loop-t
invariant-loop-t g l = (told : ℕ → Bool) × Spreading (job_of l.m) l.n l.all (g.M.Marks.numbers l.initial.marks) told (g.M.Marks.numbers l.marks) l.list

abbrev pub decreases-loop-t : goal.decreases-loop-t
decreases-loop-t g l = left (job_of l.m) l.n (g.M.Marks.numbers l.marks) l.list
