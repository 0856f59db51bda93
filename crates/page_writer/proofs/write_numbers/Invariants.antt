-- `write_numbers`: a number more, behind those written.
use Rattle.law.proofs.Pieces.{Written}
use Rattle.page_text.specs.Page.{two_columns}
use Rattle.page_writer.proofs.write_numbers.Given as goal

abbrev pub invariant-loop-k : goal.invariant-loop-k
invariant-loop-k l = Written 2 two_columns l.at l.initial.out l.out l.count l.k
