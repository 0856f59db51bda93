-- `step`: the questions, and the step of one node.
use Rattle.std.proofs.Common.{ℕ, ◌<◌, refl, ap, ◌∙◌, [], ◌∷◌}
use Rattle.std.proofs.lemmas.Result.{err_from_is_err_and}
use Rattle.job.specs.Answer.{accepted}
use Rattle.cells.specs.Calls.{Call, width, told, left}
use Rattle.cells.proofs.CallLaws.{reading_refused}
use Rattle.image.specs.Denoted.{job_of}
use Rattle.table.specs.Lent.{Ready}
use Rattle.questions.proofs.FineLaws.{step_fine}
use Rattle.calls.specs.Told.{step_told}
use Rattle.calls.proofs.AskedLaws.{own_no, told_is, left_is}
use Rattle.calls.proofs.step.step.Goals as goal
use Rattle.calls.proofs.step.step.Goals.{In_ok-ask_step}

pub returns-in_err-m : goal.returns-in_err-m
unfolding step_told width
returns-in_err-m c =
    let p = err_from_is_err_and c.from_residual.result c.from_residual.ensures.1 in
    let both = reading_refused (Call.step c.args.node) c.args.text.now c.args.table.now _ c.in_err-m.ensures in
    rw (p.1, p.2) (record { told = both.0; left = both.1 })

pub returns-in_err-ask_step : goal.returns-in_err-ask_step
unfolding step_told width
returns-in_err-ask_step c =
    let p = err_from_is_err_and c.from_residual-in_err-ask_step.result c.from_residual-in_err-ask_step.ensures.1 in
    let no = c.in_err-ask_step.ensures in
    let both = own_no (Call.step c.args.node) c.args.text.now c.args.table.now _ c.in_ok-m.ensures _ no.first_no no.no_line in
    rw (p.1, p.2) (record { told = both.0; left = both.1 })

-- no question is answered no
fine_here : (c : In_ok-ask_step) → Ready c.in_ok-m.m c.args.table.now × (c.args.node < (job_of c.in_ok-m.m).nodes)
fine_here c = step_fine c.in_ok-m.m c.args.table.now 0 refl _ c.in_ok-ask_step.ensures.first_no

pub step_node-requires : goal.step_node-requires
step_node-requires c = let both = fine_here (goal.at.step_node-requires c).In_ok-ask_step in record { ready = both.0; node_bound = both.1 }

pub returns : goal.returns
unfolding step_told told left
returns c =
    let call = Call.step c.args.node in
    let none = c.in_ok-ask_step.ensures.first_no in
    let filled = c.step_node.ensures in
    record {
      told = ap (λ (r : ℕ). accepted (r ∷ [])) filled.told_is ∙ told_is call c.args.text.now c.args.table.now _ c.in_ok-m.ensures none;
      left = filled.table_is ∙ left_is call c.args.text.now c.args.table.now _ c.in_ok-m.ensures none;
    }
