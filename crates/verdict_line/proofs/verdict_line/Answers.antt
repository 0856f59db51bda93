-- `verdict_line`: the answer is finish's on a fresh table of the job's length.
use mathlib.Core.Path.{◌≡◌, sym, ◌∙◌, ap, subst}
use lib.ListN.{replicate}
use Rattle.text.specs.Decimal.{line, Short}
use Rattle.job.specs.Job.{decode}
use Rattle.job.specs.Answer.{numbers}
use Rattle.cells.specs.Table.{table_length}
use Rattle.cells.specs.Calls.{finish, answer}
use Rattle.calls.specs.Told.{finish_told}
use Rattle.verdict_line.specs.VerdictLine.{verdict_line}
use Rattle.cells.proofs.CallLaws.{any_table}
use Rattle.verdict_line.proofs.ShortLaws.{answer_short}
use Rattle.verdict_line.proofs.verdict_line.Goals as goal
use Rattle.verdict_line.proofs.verdict_line.Goals.{After-finish_fresh}

numbers_here :
    (c : After-finish_fresh)
    → let x = c.args.text.now in
    numbers (finish_told c.finish_fresh.result) ≡ numbers (answer finish x (replicate (table_length (decode x)) 2))
numbers_here c =
    ap numbers
    (c.finish_fresh.ensures.told
    ∙ any_table finish _ _ _ (λ own read. ap (λ n. replicate n 2) (c.table_size-size.ensures.right own read)))

pub line_of-requires : goal.line_of-requires
line_of-requires c = subst Short (sym (numbers_here (goal.at.line_of-requires c).After-finish_fresh)) (answer_short _)

pub returns : goal.returns
unfolding verdict_line
returns c = c.line_of.ensures ∙ ap line (numbers_here (goal.at.returns c).After-finish_fresh)
