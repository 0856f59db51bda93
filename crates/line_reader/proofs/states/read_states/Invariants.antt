-- `read_states`: the state lines passed so far are well-formed and laid.
use Rattle.line_reader.specs.LinesRead.{lines_of_states}
use Rattle.line_reader.proofs.LineLaws.{SoFar}
use Rattle.line_reader.proofs.states.read_states.Given as goal

abbrev pub invariant-loop-s : goal.invariant-loop-s
invariant-loop-s l = SoFar (lines_of_states l.text l.h) l.s l.right l.states.items
