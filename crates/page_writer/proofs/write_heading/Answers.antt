-- `write_heading`: its parts, one behind the other.
use Rattle.page_writer.proofs.PartLaws.{heading_written}
use Rattle.page_writer.proofs.write_heading.Goals as goal

pub returns : goal.returns
returns c =
    heading_written _ _ _ _ _ c.write_spaces.ensures c.write_numbers.ensures c.end_line.ensures
