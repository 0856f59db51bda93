-- `place`: what is laid for the state.
use Rattle.image.proofs.ImageLaws.{place_read}
use Rattle.image.proofs.image.Image.place.Goals as goal

pub returns : goal.returns
returns c = place_read c.args.self.now c.args.n c.args.s c.requires.0 c.requires.1 _
