-- `owner_cell`: the cell at the owner.
use mathlib.Core.Path.{◌∙◌}
use Rattle.table.proofs.CellLaws.{owner_is}
use Rattle.table.proofs.cell.owner_cell.Goals as goal

pub returns : goal.returns
returns c = c.cell.ensures ∙ owner_is _ _ _ _ _ c.owner.ensures.0
