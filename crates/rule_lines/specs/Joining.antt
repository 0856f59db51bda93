-- The lines that a binary operator adds, as the code keeps them: some before the right operand's lines, the others behind them. Assumes nothing.
use Rattle.std.specs.Prelude.{ℕ, List}
use Rattle.job.specs.Formula.{fields}
use Rattle.job.specs.declared.subformula.Subformula.TheVariants as kind
use Rattle.rule_text.specs.Kept.{Kept, keep}
use Rattle.rule_text.specs.declared.token.Operator.{Operator}
use Rattle.rule_text.specs.declared.token.Operator.TheVariants.{And, Or, Implies}

unfoldable pub left_kept : Operator → ℕ → List (List ℕ) → Kept
left_kept And a ls = record { lines = ls; number = a }
left_kept Or a ls = keep (fields (kind.Not a)) ls
left_kept Implies a ls = record { lines = ls; number = a }

-- not(a and not b)
unfoldable pub not_both : ℕ → ℕ → List (List ℕ) → Kept
not_both a b ls =
    let v = keep (fields (kind.Not b)) ls in
    let w = keep (fields (kind.And a v.number)) v.lines in
    keep (fields (kind.Not w.number)) w.lines

unfoldable pub join_kept : Operator → ℕ → ℕ → List (List ℕ) → Kept
join_kept And a b ls = keep (fields (kind.And a b)) ls
join_kept Or a b ls = not_both a b ls
join_kept Implies a b ls = not_both a b ls
