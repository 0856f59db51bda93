-- `states`: the first number of line 1.
use Rattle.image.proofs.ImageLaws.{image_job}
use Rattle.image.proofs.LinesLaws.{states_read}
use Rattle.image.proofs.image.Image.states.Goals as goal

pub returns : goal.returns
returns c = states_read _ (image_job c.args.self.now) _ c.len.ensures.value
