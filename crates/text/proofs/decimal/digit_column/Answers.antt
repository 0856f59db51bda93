-- `digit_column`: its tests are those of `digit_column`.
use Rattle.std.proofs.Common.{arith}
use Rattle.std.proofs.lemmas.Bool.Decides.{nat_tests}
use Rattle.text.specs.Decimal.{digit_column}
use Rattle.text.proofs.decimal.digit_column.Goals as goal

pub returns-then-p-ne1 : goal.returns-then-p-ne1
unfolding digit_column
returns-then-p-ne1 c = grind (arith, nat_tests)

pub returns : goal.returns
unfolding digit_column
returns c = grind (arith, nat_tests)
