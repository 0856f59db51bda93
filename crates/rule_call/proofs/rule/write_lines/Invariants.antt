-- `write_lines`: a line more, behind those written.
use lib.ListN.{length}
use Rattle.law.proofs.Pieces.{Written}
use Rattle.rule_call.proofs.WritingLaws.{line_at}
use Rattle.rule_call.proofs.rule.write_lines.Given as goal

abbrev pub invariant-loop-k : goal.invariant-loop-k
invariant-loop-k l = Written 16 (line_at l.lines) 0 l.initial.out l.out (length l.lines) l.k
