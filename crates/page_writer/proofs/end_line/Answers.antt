-- `end_line`: byte 10 behind the spaces.
use Rattle.page_writer.proofs.PartLaws.{end_written}
use Rattle.page_writer.proofs.end_line.Goals as goal

pub returns : goal.returns
returns c = end_written _ _ _ _ c.requires.0 c.write_spaces.ensures
