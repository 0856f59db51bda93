-- `read_rule`: an expression, and only spaces behind it.
use Rattle.law.proofs.Bool.{then_some_cases}
use Rattle.rule_call.specs.Ruled.{ReadsRule}
use Rattle.rule_call.proofs.WholeLaws.{rule_missing, rule_ends, rule_goes_on}
use Rattle.rule_call.proofs.rule.read_rule.Goals as goal

pub returns-in_err-expression : goal.returns-in_err-expression
returns-in_err-expression c =
    rw c.from_residual.ensures (rule_missing _ _ _ c.new-reader.ensures.0 _ _ c.in_err-expression.ensures)

pub returns : goal.returns
returns c =
    let ends = c.is_empty.ensures in
    then_some_cases _ _ _ (ReadsRule c.args.text.now) c.then_some.ensures
    (λ t. rule_ends _ _ _ c.new-reader.ensures.0 _ _ _ c.in_ok-expression.ensures _ c.skip_spaces.ensures _ ends c.new-reader.ensures.1 t)
    (λ f. rule_goes_on _ _ _ c.new-reader.ensures.0 _ _ _ c.in_ok-expression.ensures _ c.skip_spaces.ensures _ ends f)
