-- `owner`: what the state's line says.
use Rattle.image.proofs.ImageLaws.{image_job}
use Rattle.image.proofs.LinesLaws.{state_there, owner_read}
use Rattle.image.proofs.image.Image.owner.Goals as goal

pub bounds-as_slice-s : goal.bounds-as_slice-s
bounds-as_slice-s c = state_there c.args.self.now.space.now.lines _ c.as_slice.ensures.value c.args.s c.requires

pub returns : goal.returns
returns c = owner_read _ (image_job c.args.self.now) _ c.as_slice.ensures.value c.args.s c.requires _ c.from.ensures
