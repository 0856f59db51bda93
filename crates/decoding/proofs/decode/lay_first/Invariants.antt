-- `lay_first`: the states passed so far have their runs, and the next one's does not begin before e.
use Prim.Native.Nat.{◌≤◌}
use mathlib.Core.Path.{◌≡◌}
use lib.ListN.{length}
use Rattle.image.specs.Lines.{lines_job}
use Rattle.image.specs.Image.{first_edge, Runs}
use Rattle.decoding.proofs.decode.lay_first.Given as goal

abbrev pub invariant-loop-s : goal.invariant-loop-s
invariant-loop-s l = (length l.lines.states.items ≤ 256) × (length l.first ≡ 257) × (l.e ≤ first_edge (lines_job l.lines).structure l.s) × (l.e ≤ 2048) × Runs (lines_job l.lines) l.s l.first
