-- `first_edge`: the beginning of the state's run.
use Rattle.image.proofs.ImageLaws.{first_read}
use Rattle.image.proofs.image.Image.first_edge.Goals as goal

pub returns : goal.returns
returns c = first_read c.args.self.now c.args.s c.requires _ c.from.ensures
