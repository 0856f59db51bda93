-- `tell`: the edges passed so far are seen.
use Prim.Native.Nat.{ℕ}
use mathlib.Core.Bool.{Bool}
use mathlib.Core.List.{List}
use Rattle.image.specs.Denoted.{job_of}
use Rattle.spread.specs.Underway.{Taken}
use Rattle.spread.proofs.Walk.{Walking, number}
use Rattle.spread.proofs.spread.Worklist.tell.Given as goal

abbrev pub invariant-loop-next : goal.invariant-loop-next
invariant-loop-next g l =
    (before : List ℕ) (told : ℕ → Bool)
    → Taken (job_of l.m) l.n l.all before told l.t (g.M.Marks.numbers l.initial.marks) l.initial.self
    → Walking (job_of l.m) l.n l.all before told l.t (g.M.Marks.numbers l.marks) l.self.counts.now l.self.waiting (number l.next)

abbrev pub decreases-loop-next : goal.decreases-loop-next
decreases-loop-next g l = number l.next
