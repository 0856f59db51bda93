-- `first_operator`: the token is no operator, one that is too weak, or one that is strong enough.
use mathlib.Core.Path.{◌∙◌}
use Rattle.rule_places.proofs.BindingLaws.{binding_strength, binding_few, binding_right}
use Rattle.rule_places.proofs.PlaceLaws.{scans_starts, scans_infix, other_token_ends, weak_operator_ends}
use Rattle.rule_places.proofs.places.first_operator.Goals as goal

pub returns-in_default : goal.returns-in_default
returns-in_default c = other_token_ends _ _ _ _ c.in_default.not-Operator c.first_token-first.ensures.starts

pub returns-then-b-least : goal.returns-then-b-least
returns-then-b-least c =
    weak_operator_ends c.in-Operator.operator _ _ _ (rw (binding_strength _ _ c.binding_of-b.ensures) at c.if-b-least.true)
    (scans_starts _ _ _ c.first_token-first.ensures _ c.in-Operator.is)

pub right_level-requires : goal.right_level-requires
right_level-requires c = binding_few _ _ c.binding_of-b.ensures

pub returns : goal.returns
returns c =
    let binding = c.binding_of-b.ensures in
    scans_infix _ _ _ c.first_token-first.ensures c.in-Operator.operator _ _ c.in-Operator.is
    (rw (binding_strength _ _ binding) at c.if-b-least.false) (c.right_level.ensures ∙ binding_right _ _ binding)
