-- One list of subformulas under other numbers in another list: some lines are left out because they are equal to earlier ones, or
-- other lines stand before them. Assumes nothing.
use Rattle.std.specs.Prelude.{ℕ, ◌<◌, ◌≡◌, List}
use Rattle.job.specs.Job.{subformula}
use Rattle.job.specs.Formula.{renamed}
use Rattle.job.specs.Written.{Operands}
use Rattle.job.specs.declared.subformula.Subformula.{Subformula}

-- Line k of f, below the bound, is line ρ k of g, with its operands renamed along; in both lists operands are smaller numbers.
pub record Renames (ρ : ℕ → ℕ) (f : List Subformula) (bound : ℕ) (g : List Subformula) : Type 0 where
  pub same : (k : ℕ) → k < bound → subformula g (ρ k) ≡ renamed ρ (subformula f k)
  pub left : (k : ℕ) → k < bound → Operands k (subformula f k)
  pub right : (k : ℕ) → k < bound → Operands (ρ k) (subformula g (ρ k))
