-- `rule_behind`: the part that is lent is the buffer, and nothing stands behind it.
use mathlib.Core.Path.{ap, ◌∙◌}
use Rattle.rule_text.specs.RuleCall.{rule_answer, rule_buffer}
use Rattle.rule_output.proofs.PartLaws.{part_lent, part_back}
use Rattle.rule_output.proofs.rule_behind.Goals as goal

pub returns : goal.returns
returns c =
    let told = c.rule.ensures in
    let text = c.args.text.now in
    let out = c.args.out.now in
    let lent = part_lent out c.requires.0 c.requires.1 in
    record { told = told.told ∙ ap (rule_answer text) lent; left = part_back out c.requires.0 _ ∙ told.left ∙ ap (rule_buffer text) lent }
