-- `copy_news`: the subformulas passed so far are copied and have no news.
use Prim.Native.Nat.{◌-◌, ◌≤◌}
use mathlib.Core.Path.{◌≡◌}
use Rattle.job.specs.Job.{subformula_count}
use Rattle.image.specs.Denoted.{job_of}
use Rattle.messages.proofs.NewsLaws.{NewsUpTo}
use Rattle.messages.proofs.news.copy_news.Given as goal

abbrev pub invariant-loop-k : goal.invariant-loop-k
invariant-loop-k l =
    (l.k ≤ l.k-end) × (l.k-end ≡ subformula_count (job_of l.m)) × NewsUpTo (job_of l.m) l.k l.initial.table l.initial.pending l.table l.pending l.filled

abbrev pub decreases-loop-k : goal.decreases-loop-k
decreases-loop-k l = l.k-end - l.k
