-- `source`: what the edge's line says.
use Rattle.image.proofs.ImageLaws.{image_job}
use Rattle.image.proofs.LinesLaws.{edge_there, source_read}
use Rattle.image.proofs.image.Image.source.Goals as goal

pub bounds-as_slice-e : goal.bounds-as_slice-e
bounds-as_slice-e c = edge_there c.args.self.now.space.now.lines _ c.as_slice.ensures.value c.args.e c.requires

pub returns : goal.returns
returns c = source_read _ (image_job c.args.self.now) _ c.as_slice.ensures.value c.args.e c.requires _ c.from.ensures
