-- `subformulas`: the third number of line 1.
use Rattle.image.proofs.ImageLaws.{image_job}
use Rattle.image.proofs.LinesLaws.{subformulas_read}
use Rattle.image.proofs.image.Image.subformulas.Goals as goal

pub returns : goal.returns
returns c = subformulas_read _ (image_job c.args.self.now) _ c.len.ensures.value
