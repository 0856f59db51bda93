-- `close_smallest`: the smallest open subformula, and what closing it leaves.
use Rattle.std.proofs.Common.{◌≡◌, sym, ◌∙◌, ap, ap₂, unwrap_or, [], ◌∷◌}
use Rattle.job.specs.Job.{subformula_count}
use Rattle.cells.specs.Calls.{told, left}
use Rattle.cells.specs.Close.{smallest_open}
use Rattle.image.specs.Denoted.{job_of}
use Rattle.closing.proofs.close_smallest.Goals as goal

pub returns : goal.returns
unfolding told left
returns c =
    let closed = c.close_column-filled.ensures in
    let is : c.unwrap-k.result ≡ smallest_open (job_of c.args.m.now) c.args.table.now =
    ap (λ o. unwrap_or o (subformula_count (job_of c.args.m.now))) (sym c.unwrap-k.ensures) ∙ c.smallest_open.ensures.value in
    record { filled_value = ap₂ (λ k r. k ∷ r ∷ []) is closed.told_is; table_after = closed.table_is }
