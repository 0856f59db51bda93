-- The bindings of the binary operators, and the right operand's level, are those of the grammar. Assumes nothing.
use Prim.Native.Nat.{◌≤◌}
use mathlib.Core.Path.{◌≡◌, ap}
use native.Mathlib.Omega.{arith}
use Rattle.rule_text.specs.Grammar.{strength, right_level}
use Rattle.rule_text.specs.declared.token.Operator.{Operator}
use Rattle.rule_text.specs.declared.token.Operator.TheVariants.{And, Or, Implies}
use Rattle.rule_places.specs.Binding.{binding_of, right_of}
use Rattle.rule_places.specs.declared.binding.Binding.{Binding}

-- Of an operator's binding.
pub binding_strength : (o : Operator) (b : Binding) → b ≡ binding_of o → b.strength ≡ strength o
unfolding binding_of
binding_strength o b e = ap (λ c. c.strength) e

pub binding_few : (o : Operator) (b : Binding) → b ≡ binding_of o → b.strength ≤ 3
unfolding strength
binding_few o b e = rw (binding_strength o b e) (few o)
  where
    few : (p : Operator) → strength p ≤ 3
    few And = omega arith
    few Or = omega arith
    few Implies = omega arith

pub binding_right : (o : Operator) (b : Binding) → b ≡ binding_of o → right_of b ≡ right_level o
unfolding right_of binding_of right_level
binding_right o b e = rw e
