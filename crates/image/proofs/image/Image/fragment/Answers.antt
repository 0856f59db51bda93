-- `fragment`: the listed states.
use mathlib.Core.Path.{◌∙◌}
use Rattle.image.proofs.ImageLaws.{fragment_read}
use Rattle.image.proofs.image.Image.fragment.Goals as goal

pub returns : goal.returns
returns c = c.as_slice.ensures.value ∙ fragment_read c.args.self.now c.args.n c.requires _
