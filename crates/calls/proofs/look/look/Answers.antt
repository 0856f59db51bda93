-- `look`: the questions, and one cell.
use Rattle.std.proofs.Common.{ℕ, refl, ap, ◌∙◌, [], ◌∷◌}
use Rattle.std.proofs.lemmas.Result.{err_from_is_err_and}
use Rattle.job.specs.Answer.{accepted}
use Rattle.cells.specs.Calls.{Call, width, told, left}
use Rattle.cells.proofs.CallLaws.{reading_refused}
use Rattle.image.specs.Denoted.{job_of}
use Rattle.cells.specs.Calls.{node_read}
use Rattle.table.specs.Lent.{Ready, IsCell}
use Rattle.questions.proofs.FineLaws.{look_fine}
use Rattle.calls.specs.Told.{look_told}
use Rattle.calls.proofs.AskedLaws.{own_no, told_is, left_is}
use Rattle.calls.proofs.look.look.Goals as goal
use Rattle.calls.proofs.look.look.Goals.{In_ok-ask_look}

pub returns-in_err-m : goal.returns-in_err-m
unfolding look_told width
returns-in_err-m c =
    let p = err_from_is_err_and c.from_residual.result c.from_residual.ensures.1 in
    let both = reading_refused (Call.look c.args.node c.args.state c.args.subformula) c.args.text.now c.args.table.now _ c.in_err-m.ensures in
    rw (p.1, p.2) (record { told = both.0; left = both.1 })

pub returns-in_err-ask_look : goal.returns-in_err-ask_look
unfolding look_told width
returns-in_err-ask_look c =
    let p = err_from_is_err_and c.from_residual-in_err-ask_look.result c.from_residual-in_err-ask_look.ensures.1 in
    let no = c.in_err-ask_look.ensures in
    let both = own_no (Call.look c.args.node c.args.state c.args.subformula) c.args.text.now c.args.table.now _ c.in_ok-m.ensures _ no.first_no no.no_line in
    rw (p.1, p.2) (record { told = both.0; left = both.1 })

-- no question is answered no
fine_here : (c : In_ok-ask_look) → Ready c.in_ok-m.m c.args.table.now × IsCell (job_of c.in_ok-m.m) (node_read (job_of c.in_ok-m.m) c.args.node c.args.state) c.args.state c.args.subformula
fine_here c = look_fine c.in_ok-m.m c.args.table.now 0 refl _ _ _ c.in_ok-ask_look.ensures.first_no

pub node_read-read-requires : goal.node_read-read-requires
node_read-read-requires c = (fine_here (goal.at.node_read-read-requires c).In_ok-ask_look).1.state_in

pub cell-requires : goal.cell-requires
cell-requires c =
    let (ready, cell) = fine_here (goal.at.cell-requires c).In_ok-ask_look in
    record { lent = ready.lent; cell = rw c.node_read-read.ensures cell }

pub returns : goal.returns
unfolding look_told told left
returns c =
    let a = c.args in
    let call = Call.look a.node a.state a.subformula in
    let none = c.in_ok-ask_look.ensures.first_no in
    let read = rw c.node_read-read.ensures at c.cell.ensures in
    record {
      told = ap (λ (v : ℕ). accepted (v ∷ [])) read ∙ told_is call a.text.now a.table.now _ c.in_ok-m.ensures none;
      left = left_is call a.text.now a.table.now _ c.in_ok-m.ensures none;
    }
