-- `write_row`: its parts, one behind the other.
use mathlib.Core.Path.{◌∙◌}
use Rattle.page_writer.proofs.PartLaws.{row_written}
use Rattle.page_writer.proofs.write_row.Goals as goal

pub returns : goal.returns
returns c =
    row_written _ _ _ _ _ _ _ _ _ _ _ _ _ c.owner.ensures.0 (c.from.ensures ∙ c.label.ensures) c.subformulas.ensures.0
    c.write_field.ensures c.write_field-2.ensures c.write_field-3.ensures c.write_cells.ensures c.end_line.ensures
