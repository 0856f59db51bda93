-- `ask_offer`: a no of 12 or 13.
use mathlib.Core.Path.{refl}
use native.Mathlib.Omega.{arith}
use Rattle.job.proofs.RefusedLaws.{numbered}
use Rattle.questions.proofs.NoLaws.{table_ready, named_number, offer_asked}
use Rattle.questions.proofs.ask_offer.Goals as goal

pub returns-in_err-ask_named-clause-first_no : goal.returns-in_err-ask_named-clause-first_no
returns-in_err-ask_named-clause-first_no c =
    let ready = table_ready c.args.m.now c.args.table.now _ c.in_ok-ask_table.ensures.first_no refl in
    grind (arith, named_number, offer_asked, numbered, ready.lent.long, ready.right)
