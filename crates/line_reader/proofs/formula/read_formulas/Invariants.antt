-- `read_formulas`: the subformula lines passed so far are well-formed and laid.
use Rattle.line_reader.specs.LinesRead.{lines_of_subformulas}
use Rattle.line_reader.proofs.LineLaws.{SoFar}
use Rattle.line_reader.proofs.formula.read_formulas.Given as goal

abbrev pub invariant-loop-k : goal.invariant-loop-k
invariant-loop-k l = SoFar (lines_of_subformulas l.text l.fn.h) l.k l.right l.formula.items
