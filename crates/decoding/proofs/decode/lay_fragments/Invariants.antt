-- `lay_fragments`: the nodes passed so far have their fragments.
use mathlib.Core.Path.{◌≡◌}
use lib.ListN.{length}
use Rattle.image.specs.Lines.{lines_job}
use Rattle.image.specs.Image.{Fragments}
use Rattle.decoding.proofs.decode.lay_fragments.Given as goal

abbrev pub invariant-loop-n : goal.invariant-loop-n
invariant-loop-n l = (length l.fragments ≡ 8) × Fragments (lines_job l.lines) l.n l.fragments
