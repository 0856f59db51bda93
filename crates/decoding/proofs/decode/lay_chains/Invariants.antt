-- `lay_chains`: the chains of the edges passed so far.
use Prim.Native.Nat.{◌≤◌}
use mathlib.Core.Path.{◌≡◌}
use lib.ListN.{length}
use Rattle.job.specs.Written.{edge_count}
use Rattle.image.specs.Lines.{lines_job}
use Rattle.image.specs.Image.{Chains}
use Rattle.decoding.proofs.ChainLaws.{Rows}
use Rattle.decoding.proofs.decode.lay_chains.Given as goal

abbrev pub invariant-loop-e : goal.invariant-loop-e
invariant-loop-e l =
    ((length l.lines.edges.items ≡ edge_count (lines_job l.lines)) × (length l.lines.edges.items ≤ 2048)) × Rows l.last × (length l.next ≡ 2048)
    × Chains (lines_job l.lines) l.e l.last l.next
