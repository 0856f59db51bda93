-- `find`: a line is the one looked for exactly where its numbers are.
use Rattle.std.proofs.Common.{rules}
use Rattle.std.proofs.lemmas.Iterator.{YieldsList-from_slice}
use Rattle.std.proofs.lemmas.Iterator.Search.{position_from_yields_List}
use Rattle.rule_lines.proofs.HeldLaws.{same_tested, is_it, found}
use Rattle.rule_lines.proofs.lines.Lines.find.Goals as goal

pub returns : goal.returns
returns c =
    found c.args.f _ _ _ c.as_slice.ensures
    (position_from_yields_List (is_it c.args.f) _ _ _ c.position.ensures.ran (YieldsList-from_slice c.as_slice.result.now cc)
    (λ x b q h. (search rules, same_tested _ _ _ (λ t. search rules) (λ t e. search rules))))
