-- `mark_subformula`: the nodes passed so far are marked.
use Rattle.std.proofs.Common.{◌≡◌, ◌≤◌, true}
use Rattle.cells.specs.Rest.{column_flag, FlagsAre}
use Rattle.pending.proofs.Pending.mark_subformula.Given as goal

abbrev pub invariant-loop-n : goal.invariant-loop-n
invariant-loop-n l =
    (l.n ≤ l.nodes) × FlagsAre (λ i. column_flag i l.k) true l.n l.initial.self.stale l.self.stale × (l.self.news ≡ l.initial.self.news)
