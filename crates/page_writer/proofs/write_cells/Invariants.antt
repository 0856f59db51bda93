-- `write_cells`: a cell more, behind those written.
use Rattle.job.specs.Job.{subformula_count}
use Rattle.image.specs.Denoted.{job_of}
use Rattle.page_writer.proofs.PartLaws.{CellsSoFar}
use Rattle.page_writer.proofs.write_cells.Given as goal

abbrev pub invariant-loop-k : goal.invariant-loop-k
invariant-loop-k l =
    CellsSoFar (job_of l.m) l.table l.n l.s l.initial.out l.out (subformula_count (job_of l.m)) l.k
