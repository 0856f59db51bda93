-- `next_into`: a link of a chain.
use Rattle.image.proofs.ImageLaws.{next_read, told_below}
use Rattle.image.proofs.image.Image.next_into.Goals as goal

pub returns-clause-upper_bound : goal.returns-clause-upper_bound
returns-clause-upper_bound c = told_below _ _ _ c.checked_sub.ensures (next_read c.args.self.now c.args.e c.requires _ c.from.ensures).1
