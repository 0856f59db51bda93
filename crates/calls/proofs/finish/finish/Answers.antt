-- `finish`: the questions, and the rounds.
use Rattle.std.proofs.Common.{refl, ap, ◌∙◌, arith}
use Rattle.std.proofs.lemmas.Result.{err_from_is_err_and}
use Rattle.job.specs.Answer.{accepted}
use Rattle.cells.specs.Calls.{Call, width, told, left}
use Rattle.cells.proofs.CallLaws.{reading_refused}
use Rattle.table.specs.Lent.{Ready}
use Rattle.questions.proofs.NoLaws.{table_ready}
use Rattle.calls.specs.Told.{finish_told, finish_rounds}
use Rattle.calls.proofs.AskedLaws.{own_no, told_is, left_is}
use Rattle.calls.proofs.finish.finish.Goals as goal
use Rattle.calls.proofs.finish.finish.Goals.{In_ok-ask_table}

pub returns-in_err-m : goal.returns-in_err-m
unfolding finish_told finish_rounds width
returns-in_err-m c =
    let p = err_from_is_err_and c.from_residual.result c.from_residual.ensures.1 in
    let both = reading_refused Call.finish c.args.text.now c.args.table.now _ c.in_err-m.ensures in
    rw (p.1, p.2) (record { told = both.0; left = both.1; bounded = omega arith })

pub returns-in_err-ask_table : goal.returns-in_err-ask_table
unfolding finish_told finish_rounds width
returns-in_err-ask_table c =
    let p = err_from_is_err_and c.from_residual-in_err-ask_table.result c.from_residual-in_err-ask_table.ensures.1 in
    let no = c.in_err-ask_table.ensures in
    let both = own_no Call.finish c.args.text.now c.args.table.now _ c.in_ok-m.ensures _ no.first_no no.no_line in
    rw (p.1, p.2) (record { told = both.0; left = both.1; bounded = omega arith })

-- no question is answered no
fine_here : (c : In_ok-ask_table) → Ready c.in_ok-m.m c.args.table.now
fine_here c = table_ready c.in_ok-m.m c.args.table.now 0 c.in_ok-ask_table.ensures.first_no refl

pub finish_table-requires : goal.finish_table-requires
finish_table-requires c = fine_here (goal.at.finish_table-requires c).In_ok-ask_table

pub returns : goal.returns
unfolding finish_told finish_rounds
returns c =
    let none = c.in_ok-ask_table.ensures.first_no in
    let done = c.finish_table.ensures in
    record {
      told = ap accepted done.cells_value ∙ told_is Call.finish c.args.text.now c.args.table.now _ c.in_ok-m.ensures none;
      left = done.table_after ∙ left_is Call.finish c.args.text.now c.args.table.now _ c.in_ok-m.ensures none;
      bounded = rw (← c.in_ok-m.ensures.denotes) done.rounds_bound;
    }
