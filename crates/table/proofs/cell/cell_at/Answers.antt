-- `cell_at`: the byte's number.
use Rattle.image.specs.Denoted.{job_of}
use Rattle.table.proofs.CellLaws.{byte_is}
use Rattle.table.proofs.cell.cell_at.Goals as goal

pub returns : goal.returns
returns c =
    byte_is (job_of c.args.m.now) _ _ _ c.requires _ c.states.ensures.0 _ c.subformulas.ensures.0
