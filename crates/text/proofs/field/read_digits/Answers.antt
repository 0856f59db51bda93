-- `read_digits`: the number so far and the columns left give the whole.
use Rattle.std.proofs.Common.{◌+◌, sym, ◌∙◌, arith}
use Rattle.std.proofs.lemmas.Bool.Decides.{nat_tests}
use Rattle.text.proofs.FieldLaws.{digits_more, digits_done, digit_more}
use Rattle.text.proofs.field.read_digits.Goals as goal

pub returns-then-not-is_ascii_digit : goal.returns-then-not-is_ascii_digit
returns-then-not-is_ascii_digit c = grind (arith, nat_tests, c.loop-c.invariant.same, digits_more c.args.columns.now c.loop-c.c-index c.loop-c.value (omega arith))

pub loop-c-preserved : goal.loop-c-preserved
loop-c-preserved c =
    let more = digits_more c.args.columns.now c.loop-c.c-index c.loop-c.value (omega arith) in
    record {
      below = digit_more c.loop-c.value c.digit.result (c.loop-c.c-index + 1) c.loop-c.invariant.below c.digit.ensures.1;
      same = grind (arith, nat_tests, c.loop-c.invariant.same, more);
    }

pub returns : goal.returns
returns c = sym (c.loop-c.invariant.same ∙ digits_done c.args.columns.now c.loop-c.c-index c.loop-c.value (omega arith))
