-- `put_in`: the number of the mark that is written is 2.
use Rattle.spread.specs.declared.mark.Mark.TheVariants.{In}
use Rattle.spread.proofs.Marks.{numbers_set}
use Rattle.spread.proofs.mark.ArrayMark256Marks.put_in.Goals as goal

pub returns : goal.returns
returns c = numbers_set c.args.self.now c.args.s In
