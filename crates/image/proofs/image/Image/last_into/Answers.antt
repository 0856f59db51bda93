-- `last_into`: the end of a chain.
use Rattle.image.proofs.ImageLaws.{last_read, told_below}
use Rattle.image.proofs.image.Image.last_into.Goals as goal

pub returns-clause-upper_bound : goal.returns-clause-upper_bound
returns-clause-upper_bound c =
    told_below _ _ _ c.checked_sub.ensures (last_read c.args.self.now c.args.n c.args.s c.requires.0 c.requires.1 _ c.from.ensures).1
