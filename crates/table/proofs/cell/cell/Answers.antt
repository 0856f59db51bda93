-- `cell`: the byte of the cell.
use Rattle.table.proofs.CellLaws.{cell_is}
use Rattle.table.proofs.cell.cell.Goals as goal

pub returns : goal.returns
returns c = cell_is _ _ _ _ _ _ c.cell_at.ensures.0
