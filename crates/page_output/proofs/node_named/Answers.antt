-- `node_named`: by the argument's length and its byte.
use Rattle.std.proofs.Common.{◌≡◌, length, sym, ◌∙◌, arith}
use Rattle.page_output.proofs.NodeLaws.{other_length, no_digit, a_digit}
use Rattle.page_output.proofs.node_named.Goals as goal

pub returns-in-len1 : goal.returns-in-len1
returns-in-len1 c =
    let one : length c.args.argument.now ≡ 1 = omega arith in
    c.digit.ensures.0 ∙ sym (a_digit _ one (sym c.is_ascii_digit.ensures.value ∙ c.if-is_ascii_digit.true))

pub returns-in_default : goal.returns-in_default
returns-in_default c = sym (other_length _ (λ one. omega arith))

pub returns-in_default-2 : goal.returns-in_default-2
returns-in_default-2 c =
    let one : length c.args.argument.now ≡ 1 = omega arith in
    sym (no_digit _ one (sym c.is_ascii_digit.ensures.value ∙ c.if-is_ascii_digit.false))

pub returns-in_default-3 : goal.returns-in_default-3
returns-in_default-3 c = sym (other_length _ (λ one. omega arith))
