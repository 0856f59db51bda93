-- `empty_value`: what the rule asks.
use Rattle.job.proofs.RuleLaws.{range_up}
use Rattle.values.proofs.column.empty_value.Goals as goal

pub value-requires-clause-rule : goal.value-requires-clause-rule
value-requires-clause-rule c = range_up _ _ _ c.requires.cell.subformula_in c.requires.rule
