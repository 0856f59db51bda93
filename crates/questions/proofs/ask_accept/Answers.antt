-- `ask_accept`: a no of 9 to 11, and one of 12 or 13.
use mathlib.Core.Path.{refl, sym, ◌∙◌}
use native.Mathlib.Omega.{arith}
use Rattle.job.proofs.RefusedLaws.{numbered}
use Rattle.questions.proofs.NoLaws.{node_ready, step_asked, named_no, accept_asked, accept_number}
use Rattle.std.proofs.lemmas.Result.{err_from_is_err_and}
use Rattle.questions.proofs.ask_accept.Goals as goal

pub returns-in_err-ask_step-clause-first_no : goal.returns-in_err-ask_step-clause-first_no
returns-in_err-ask_step-clause-first_no c = grind (arith, step_asked, accept_asked, numbered)

pub returns-in_err-ask_named-clause-first_no : goal.returns-in_err-ask_named-clause-first_no
returns-in_err-ask_named-clause-first_no c =
    let (ready, under) = node_ready c.args.m.now c.args.table.now _ _ c.in_ok-ask_step.ensures.first_no refl in
    let p = err_from_is_err_and c.from_residual-in_err-ask_named.result c.from_residual-in_err-ask_named.ensures.1 in
    rw (p.1, p.2) (named_no _ _ _ _ c.in_err-ask_named.ensures.first_no _ (numbered _) ∙ sym (accept_number ready _ _ _ _ under))
