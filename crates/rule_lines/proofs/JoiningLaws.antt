-- The lines that a binary operator adds around its right operand's are those of the rewritten rule. Assumes nothing.
use Prim.Native.Nat.{ℕ}
use mathlib.Core.Path.{◌≡◌, refl}
use mathlib.Core.List.{List}
use Rattle.job.specs.Formula.{fields}
use Rattle.job.specs.declared.subformula.Subformula.TheVariants as kind
use Rattle.rule_text.specs.Lines.{Basic, joining, prefix_line}
use Rattle.rule_text.specs.Kept.{keep, kept}
use Rattle.rule_text.specs.declared.token.Operator.{Operator}
use Rattle.rule_text.specs.declared.token.Operator.TheVariants.{And, Or, Implies}
use Rattle.rule_lines.specs.Held.{KeptAs}
use Rattle.rule_lines.specs.Joining.{left_kept, not_both, join_kept}

pub joining_kept :
    (o : Operator) (f g : Basic) (ls : List (List ℕ))
    → kept (joining o f g) ls
    ≡ (let u = kept f ls in
    let v = left_kept o u.number u.lines in
    let w = kept g v.lines in
    join_kept o v.number w.number w.lines)
unfolding kept joining left_kept join_kept not_both prefix_line
joining_kept And f g ls = refl
joining_kept Or f g ls = refl
joining_kept Implies f g ls = refl

-- Three lines kept one after the other.
pub kept_not_both :
    (a b : ℕ) (ls : List (List ℕ)) (n₁ n₂ n₃ : ℕ) (m₁ m₂ m₃ : List (List ℕ))
    → KeptAs (keep (fields (kind.Not b)) ls) n₁ m₁
    → KeptAs (keep (fields (kind.And a n₁)) m₁) n₂ m₂
    → KeptAs (keep (fields (kind.Not n₂)) m₂) n₃ m₃
    → KeptAs (not_both a b ls) n₃ m₃
unfolding not_both
kept_not_both a b ls n₁ n₂ n₃ m₁ m₂ m₃ p q r = rw (← p.number, ← p.lines, ← q.number, ← q.lines) r
