-- `read_field`: spaces, a digit, and the columns behind it, as in the definition.
use Rattle.std.proofs.Common.{◌≡◌, sym, ◌∙◌}
use Rattle.text.specs.Field.{field}
use Rattle.text.proofs.FieldLaws.{field_blank, field_no_digit, field_digit, field_short}
use Rattle.text.proofs.field.read_field.Goals as goal
use Rattle.text.proofs.field.read_field.Goals.{After-read_digits}

pub returns-in_err-first-clause-is : goal.returns-in_err-first-clause-is
returns-in_err-first-clause-is c =
    let blank = field_blank c.args.text.now c.args.at _ c.spaces.ensures c.in_err-first.ensures.cases in cc

pub returns-then-not-is_ascii_digit-clause-is : goal.returns-then-not-is_ascii_digit-clause-is
returns-then-not-is_ascii_digit-clause-is c =
    sym
    (field_no_digit c.args.text.now c.args.at _ c.spaces.ensures _ _ c.in_ok-first.ensures.cases.0
    (sym c.is_ascii_digit.ensures.value ∙ c.if-not-is_ascii_digit.true))

read : (c : After-read_digits) → c.read_digits.result ≡ field c.args.text.now c.args.at
read c =
    let is = field_digit c.args.text.now c.args.at _ c.spaces.ensures _ _ c.in_ok-first.ensures.cases.0
    (sym c.is_ascii_digit.ensures.value ∙ c.if-not-is_ascii_digit.false) in
    cc

pub returns-clause-is : goal.returns-clause-is
returns-clause-is c = read c

pub returns-clause-short : goal.returns-clause-short
returns-clause-short c = field_short c.args.text.now c.args.at c.read_digits.result (read c)
