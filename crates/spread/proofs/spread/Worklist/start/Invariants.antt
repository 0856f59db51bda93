-- `start`: the states of the fragment passed so far wait where they are in the set.
use Rattle.image.specs.Denoted.{job_of}
use Rattle.spread.proofs.Waits.{WaitingBelow}
use Rattle.spread.proofs.spread.Worklist.start.Given as goal

abbrev pub invariant-loop-state : goal.invariant-loop-state
invariant-loop-state g l = WaitingBelow (job_of l.m) l.n (g.M.Marks.numbers l.marks) l.waiting l.state-index
