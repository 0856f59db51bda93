-- `ask_close`: a no of 9 or 10.
use native.Mathlib.Omega.{arith}
use Rattle.job.proofs.RefusedLaws.{numbered}
use Rattle.questions.proofs.NoLaws.{table_number, close_asked}
use Rattle.questions.proofs.ask_close.Goals as goal

pub returns-in_err-ask_table-clause-first_no : goal.returns-in_err-ask_table-clause-first_no
returns-in_err-ask_table-clause-first_no c = grind (arith, table_number, close_asked, numbered)
