-- `lay_fragment`: the states passed so far have their places, and those of the fragment are listed.
use Prim.Native.Nat.{◌≤◌}
use mathlib.Core.Path.{◌≡◌}
use lib.ListN.{length}
use Rattle.job.specs.Job.{size}
use Rattle.image.specs.Lines.{lines_job}
use Rattle.decoding.proofs.FragmentLaws.{ListedSoFar}
use Rattle.decoding.proofs.decode.lay_fragment.Given as goal

abbrev pub invariant-loop-s : goal.invariant-loop-s
invariant-loop-s l =
    ((length l.lines.states.items ≡ size (lines_job l.lines)) × (length l.lines.states.items ≤ 256))
    × ListedSoFar (lines_job l.lines) l.n l.s l.places l.states.items
