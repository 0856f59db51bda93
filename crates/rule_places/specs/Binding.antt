-- The bindings of the binary operators, by the grammar's strengths and groupings. Assumes nothing.
use Rattle.std.specs.Prelude.{ℕ, suc, cond}
use Rattle.rule_text.specs.Grammar.{strength, groups_left}
use Rattle.rule_text.specs.declared.token.Operator.{Operator}
use Rattle.rule_places.specs.declared.binding.Binding.{Binding}

unfoldable pub binding_of : Operator → Binding
binding_of o = record { strength = strength o; leftward = groups_left o }

-- The least strength of the operators in the right operand.
unfoldable pub right_of : Binding → ℕ
right_of b = cond b.leftward (suc b.strength) b.strength
