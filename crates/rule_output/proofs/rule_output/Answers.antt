-- `rule_output`: the call's lines stand behind the line of its numbers.
use mathlib.Core.Path.{◌∙◌}
use borrow.Author.Rules.{rules}
use Rattle.rule_output.specs.RuleOutput.{buffer}
use Rattle.rule_output.proofs.OutputLaws.{Called, called, numbers_fit, lines_few, output_right}
use Rattle.rule_output.proofs.rule_output.Goals as goal
use Rattle.rule_output.proofs.rule_output.Goals.{After-first_numbers-numbers}

pub rule_behind-told-requires : goal.rule_behind-told-requires
unfolding buffer
rule_behind-told-requires c = search rules

here : (c : After-first_numbers-numbers) → Called c.args.input.now c.rule_behind-told.new.out c.first_numbers-numbers.result
here c =
    let call = c.rule_behind-told in
    called _ _ _ _ _ c.typed.ensures call.ensures.told call.ensures.left c.first_numbers-numbers.ensures (search rules)

pub write_line-requires : goal.write_line-requires
write_line-requires c = numbers_fit _ _ _ (here (goal.at.write_line-requires c).After-first_numbers-numbers)

pub overflow_mul-numbers : goal.overflow_mul-numbers
overflow_mul-numbers c =
    let few = lines_few _ _ _ (here (goal.at.overflow_mul-numbers c).After-first_numbers-numbers) in
    search rules

pub overflow_add-numbers : goal.overflow_add-numbers
overflow_add-numbers c =
    let few = lines_few _ _ _ (here (goal.at.overflow_add-numbers c).After-first_numbers-numbers) in
    search rules

pub new-requires : goal.new-requires
new-requires c =
    let few = lines_few _ _ _ (here (goal.at.new-requires c).After-first_numbers-numbers) in
    search rules

pub returns : goal.returns
returns c = c.new.ensures ∙ (output_right _ _ _ (here (goal.at.returns c).After-first_numbers-numbers) _ c.write_line.ensures).0
