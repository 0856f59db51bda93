-- `read_edges`: the edge lines passed so far are well-formed and laid, and what is kept is the pass's after so many lines.
use Rattle.line_reader.specs.LinesRead.{lines_of_edges}
use Rattle.line_reader.proofs.LineLaws.{SoFar}
use Rattle.line_reader.proofs.edges.read_edges.Given as goal

abbrev pub invariant-loop-e : goal.invariant-loop-e
invariant-loop-e l = SoFar (lines_of_edges l.text l.h) l.e l.kept l.edges.items
