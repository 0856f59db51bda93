-- `subformula`: what its line says.
use mathlib.Core.Path.{refl}
use Rattle.image.proofs.ImageLaws.{image_job}
use Rattle.image.proofs.LinesLaws.{subformula_there, subformula_read}
use Rattle.image.proofs.image.Image.subformula.Goals as goal

pub bounds-as_slice-k : goal.bounds-as_slice-k
bounds-as_slice-k c = subformula_there c.args.self.now.space.now.lines _ c.as_slice.ensures.value c.args.k c.requires

pub returns : goal.returns
returns c = subformula_read _ (image_job c.args.self.now) _ c.as_slice.ensures.value c.args.k c.requires _ refl
