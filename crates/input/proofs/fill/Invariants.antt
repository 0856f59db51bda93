-- `fill`: what was read is in the buffer.
use Rattle.std.specs.Prelude.{◌≤◌, ◌-◌, length}
use Rattle.input.proofs.fill.Given as goal

abbrev pub invariant-loop-n : goal.invariant-loop-n
invariant-loop-n g l = l.n ≤ length l.buf

abbrev pub decreases-loop-n : goal.decreases-loop-n
decreases-loop-n g l = length l.buf - l.n
