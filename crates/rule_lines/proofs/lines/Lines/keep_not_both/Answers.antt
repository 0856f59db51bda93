-- `keep_not_both`: three lines, one after the other.
use Rattle.rule_lines.proofs.JoiningLaws.{kept_not_both}
use Rattle.rule_lines.proofs.lines.Lines.keep_not_both.Goals as goal

pub returns : goal.returns
returns c = kept_not_both _ _ _ _ _ _ _ _ _ c.keep-negated.ensures c.keep-both.ensures c.keep.ensures
