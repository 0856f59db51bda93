-- `nodes`: the fourth number of line 1.
use mathlib.Core.Path.{refl}
use Rattle.image.proofs.ImageLaws.{image_job}
use Rattle.image.proofs.LinesLaws.{nodes_read}
use Rattle.image.proofs.image.Image.nodes.Goals as goal

pub returns : goal.returns
returns c = nodes_read _ (image_job c.args.self.now) _ refl
