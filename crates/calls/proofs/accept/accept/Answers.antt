-- `accept`: the questions, and filling one cell.
use Rattle.std.proofs.Common.{ℕ, ◌≡◌, true, refl, ap, ◌∙◌, [], ◌∷◌}
use Rattle.std.proofs.lemmas.Result.{err_from_is_err_and}
use Rattle.job.specs.Answer.{accepted}
use Rattle.cells.specs.Calls.{Call, width, told, left}
use Rattle.cells.proofs.CallLaws.{reading_refused}
use Rattle.image.specs.Denoted.{job_of}
use Rattle.cells.specs.Fragment.{in_fragment}
use Rattle.table.specs.Lent.{Ready, IsCell}
use Rattle.questions.proofs.FineLaws.{accept_fine}
use Rattle.calls.specs.Told.{accept_told}
use Rattle.calls.proofs.AskedLaws.{own_no, told_is, left_is}
use Rattle.calls.proofs.accept.accept.Goals as goal
use Rattle.calls.proofs.accept.accept.Goals.{In_ok-ask_accept}

pub returns-in_err-m : goal.returns-in_err-m
unfolding accept_told width
returns-in_err-m c =
    let p = err_from_is_err_and c.from_residual.result c.from_residual.ensures.1 in
    let both = reading_refused (Call.accept c.args.node c.args.message.state c.args.message.subformula c.args.message.value) c.args.text.now c.args.table.now _ c.in_err-m.ensures in
    rw (p.1, p.2) (record { told = both.0; left = both.1 })

pub returns-in_err-ask_accept : goal.returns-in_err-ask_accept
unfolding accept_told width
returns-in_err-ask_accept c =
    let p = err_from_is_err_and c.from_residual-in_err-ask_accept.result c.from_residual-in_err-ask_accept.ensures.1 in
    let no = c.in_err-ask_accept.ensures in
    let both = own_no (Call.accept c.args.node c.args.message.state c.args.message.subformula c.args.message.value) c.args.text.now c.args.table.now _ c.in_ok-m.ensures _ no.first_no no.no_line in
    rw (p.1, p.2) (record { told = both.0; left = both.1 })

-- no question is answered no
fine_here : (c : In_ok-ask_accept) → Ready c.in_ok-m.m c.args.table.now
    × (IsCell (job_of c.in_ok-m.m) c.args.node c.args.message.state c.args.message.subformula
    × (in_fragment (job_of c.in_ok-m.m) c.args.node c.args.message.state ≡ true))
fine_here c = accept_fine c.in_ok-m.m c.args.table.now 0 refl _ _ _ _ c.in_ok-ask_accept.ensures.first_no

pub put-requires : goal.put-requires
put-requires c =
    let (ready, (cell, inside)) = fine_here (goal.at.put-requires c).In_ok-ask_accept in
    record { lent = ready.lent; cell = cell; s_value = inside }

pub returns : goal.returns
unfolding accept_told told left
returns c =
    let a = c.args in
    let call = Call.accept a.node a.message.state a.message.subformula a.message.value in
    let none = c.in_ok-ask_accept.ensures.first_no in
    let filled = c.put.ensures.leaves in
    record {
      told = ap (λ (r : ℕ). accepted (r ∷ [])) filled.told_is ∙ told_is call a.text.now a.table.now _ c.in_ok-m.ensures none;
      left = filled.table_is ∙ left_is call a.text.now a.table.now _ c.in_ok-m.ensures none;
    }
