-- `copy_subformula`: the nodes passed so far are copied.
use Prim.Native.Nat.{◌-◌, ◌≤◌}
use mathlib.Core.Path.{◌≡◌}
use mathlib.Core.Bool.{false}
use Rattle.cells.specs.Rest.{FlagIs}
use Rattle.image.specs.Denoted.{job_of}
use Rattle.table.specs.Filling.{up_to_node}
use Rattle.messages.specs.News.{PartCopied}
use Rattle.messages.proofs.news.copy_subformula.Given as goal

abbrev pub invariant-loop-n : goal.invariant-loop-n
invariant-loop-n l =
    (l.n ≤ l.n-end) × (l.n-end ≡ (job_of l.m).nodes) × PartCopied (job_of l.m) (up_to_node l.k l.n) l.initial.table l.fn.pending.stale l.table l.pending.stale l.filled × FlagIs l.k false l.fn.pending.news l.pending.news

abbrev pub decreases-loop-n : goal.decreases-loop-n
decreases-loop-n l = l.n-end - l.n
