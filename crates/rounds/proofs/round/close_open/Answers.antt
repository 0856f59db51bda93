-- `close_open`: the smallest open subformula, if there is one.
use native.Mathlib.Nat.{le_refl}
use Rattle.rounds.proofs.RunningLaws.{ran_closing_none, ran_closing}
use Rattle.rounds.proofs.round.close_open.Goals as goal

pub returns-in_default : goal.returns-in_default
returns-in_default c = ran_closing_none c.requires.running _ c.in_default.ensures.value (le_refl _)

pub returns : goal.returns
returns c =
    ran_closing c.requires.running c.requires.table_value c.in-Some.k c.in-Some.ensures.value c.in-Some.ensures.within
    (rw c.nodes.ensures.0 at c.mark_subformula.ensures.stale) c.mark_subformula.ensures.news c.close_column.ensures
