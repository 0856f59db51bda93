-- A rule put into a job: the job with the rule's lines for its formula, and the text in front of a job's formula lines. Assumes nothing.
use Rattle.std.specs.Prelude.{ℕ, [], ◌∷◌, ◌++◌}
use Rattle.law.specs.Lists.{tab, flatten}
use Rattle.text.specs.Field.{Text}
use Rattle.text.specs.Decimal.{line}
use Rattle.job.specs.Job.{Job, size, owner}
use Rattle.job.specs.Written.{label, edge_of, edge_count}
use Rattle.rule_text.specs.Tree.{Tree}
use Rattle.rule_text.specs.Lines.{lines_of}

unfoldable pub with_rule : Job → Tree → Job
with_rule J f = record { structure = J.structure; formula = lines_of f; nodes = J.nodes; owners = J.owners }

-- Line 1 with k subformulas, and the job's own state and edge lines.
unfoldable pub front_lines : Job → ℕ → Text
front_lines J k =
    line (size J ∷ edge_count J ∷ k ∷ J.nodes ∷ [])
    ++ (flatten (tab (λ s. line (owner J s ∷ label J s ∷ [])) (size J))
    ++ flatten (tab (λ e. line ((edge_of J e).from ∷ (edge_of J e).to ∷ [])) (edge_count J)))
