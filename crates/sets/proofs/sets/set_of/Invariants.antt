-- `set_of`: the states passed so far are marked, and in the end the marks spread.
use Rattle.image.specs.Denoted.{job_of}
use Rattle.spread.specs.Spread.{numbers}
use Rattle.sets.specs.Marks.{unknown, mark_at, Marks}
use Rattle.sets.proofs.sets.set_of.Given as goal

abbrev pub invariant-loop-state : goal.invariant-loop-state
invariant-loop-state l =
    Marks (job_of l.m) l.n (mark_at (job_of l.m) l.table l.n l.k l.g l.wide) (unknown l.wide) l.state-index (numbers l.marks)
