-- `some_above`: over the marks' places.
use Rattle.std.proofs.Common.{◌∙◌, nat_lt, rules, tests}
use Rattle.std.proofs.lemmas.Iterator.{YieldsList-from_slice}
use Rattle.std.proofs.lemmas.Iterator.Search.{any_from_yields_List}
use Rattle.law.proofs.Ranges.{any_places}
use Rattle.opening.proofs.some_above.Goals as goal

pub returns : goal.returns
returns c =
    let above = nat_lt c.args.v in
    any_from_yields_List above _ _ _ c.any.ensures.ran (YieldsList-from_slice c.args.marks.now cc) (λ x b q k. search (rules, tests))
    ∙ any_places above c.args.marks.now 0
