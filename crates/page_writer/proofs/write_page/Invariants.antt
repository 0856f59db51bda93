-- `write_page`: a line more, behind those written.
use Rattle.image.specs.Denoted.{job_of}
use Rattle.page_writer.proofs.PartLaws.{RowsSoFar}
use Rattle.page_writer.proofs.write_page.Given as goal

abbrev pub invariant-loop-s : goal.invariant-loop-s
invariant-loop-s l = RowsSoFar (job_of l.m) l.table l.n l.initial.out l.out l.s
