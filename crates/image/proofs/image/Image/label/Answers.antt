-- `label`: what the state's line says.
use Rattle.image.proofs.LinesLaws.{state_there, label_read}
use Rattle.image.proofs.image.Image.label.Goals as goal

pub bounds-as_slice-s : goal.bounds-as_slice-s
bounds-as_slice-s c = state_there c.args.self.now.space.now.lines _ c.as_slice.ensures.value c.args.s c.requires

pub returns : goal.returns
returns c = label_read _ _ c.as_slice.ensures.value c.args.s
