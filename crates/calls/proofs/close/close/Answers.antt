-- `close`: the questions, and closing the smallest open subformula.
use Rattle.std.proofs.Common.{◌<◌, refl, ap, ◌∙◌}
use Rattle.std.proofs.lemmas.Result.{err_from_is_err_and}
use Rattle.job.specs.Answer.{accepted}
use Rattle.cells.specs.Calls.{Call, width, told, left}
use Rattle.cells.proofs.CallLaws.{reading_refused}
use Rattle.image.specs.Denoted.{job_of}
use Rattle.job.specs.Job.{subformula_count}
use Rattle.cells.specs.Close.{smallest_open}
use Rattle.table.specs.Lent.{Ready}
use Rattle.questions.proofs.FineLaws.{close_fine}
use Rattle.calls.specs.Told.{close_told}
use Rattle.calls.proofs.AskedLaws.{own_no, told_is, left_is}
use Rattle.calls.proofs.close.close.Goals as goal
use Rattle.calls.proofs.close.close.Goals.{In_ok-ask_close}

pub returns-in_err-m : goal.returns-in_err-m
unfolding close_told width
returns-in_err-m c =
    let p = err_from_is_err_and c.from_residual.result c.from_residual.ensures.1 in
    let both = reading_refused Call.close c.args.text.now c.args.table.now _ c.in_err-m.ensures in
    rw (p.1, p.2) (record { told = both.0; left = both.1 })

pub returns-in_err-ask_close : goal.returns-in_err-ask_close
unfolding close_told width
returns-in_err-ask_close c =
    let p = err_from_is_err_and c.from_residual-in_err-ask_close.result c.from_residual-in_err-ask_close.ensures.1 in
    let no = c.in_err-ask_close.ensures in
    let both = own_no Call.close c.args.text.now c.args.table.now _ c.in_ok-m.ensures _ no.first_no no.no_line in
    rw (p.1, p.2) (record { told = both.0; left = both.1 })

-- no question is answered no
fine_here : (c : In_ok-ask_close) → Ready c.in_ok-m.m c.args.table.now × (smallest_open (job_of c.in_ok-m.m) c.args.table.now < subformula_count (job_of c.in_ok-m.m))
fine_here c = close_fine c.in_ok-m.m c.args.table.now 0 refl c.in_ok-ask_close.ensures.first_no

pub close_smallest-requires : goal.close_smallest-requires
close_smallest-requires c =
    let (ready, some) = fine_here (goal.at.close_smallest-requires c).In_ok-ask_close in
    record { lent = ready.lent; table_bound = some }

pub returns : goal.returns
unfolding close_told
returns c =
    let none = c.in_ok-ask_close.ensures.first_no in
    record {
      told = ap accepted c.close_smallest.ensures.filled_value ∙ told_is Call.close c.args.text.now c.args.table.now _ c.in_ok-m.ensures none;
      left = c.close_smallest.ensures.table_after ∙ left_is Call.close c.args.text.now c.args.table.now _ c.in_ok-m.ensures none;
    }
