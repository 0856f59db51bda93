-- For a value of 0 or 1: no cell filled with the other value is in the smallest set, and no cell of the smallest is in the largest. Assumes
-- nothing.
use Prim.Native.Nat.{ℕ, ◌-◌, ◌≤◌}
use mathlib.Core.Path.{◌≡◌}
use mathlib.Core.Bool.{Bool, true, false}
use native.Mathlib.Omega.{arith}
use Rattle.law.specs.Fixpoint.{member}
use Rattle.job.specs.Job.{Job}
use Rattle.cells.specs.SetRule.{SetRule, smallest, largest}
use Rattle.cells.specs.Sets.{Stays, other, blocked, follows}
use Rattle.cells.proofs.Sets.{smallest_is, largest_is}

module _ (J : Job) (n : ℕ) (own : ℕ → ℕ) (R : SetRule) (small : R.value ≤ 1) where
  pub smallest_no_other : (s : ℕ) → own s ≡ 1 - R.value → member (smallest J n own R) s ≡ false
  smallest_no_other s e = (smallest_is J n own R).no_other s (λ v. omega arith) (λ v. omega arith)

  stays_apart : (X : ℕ → Bool) (s : ℕ) → Stays J n own R (smallest J n own R) X s → member (smallest J n own R) s ≡ false
  stays_apart X s (other v) = smallest_no_other s v
  stays_apart X s (blocked e l i b a) = l
  stays_apart X s (follows e l i b o) = l

  pub largest_apart :
      (s : ℕ) → member (largest J n own R (smallest J n own R)) s ≡ true → member (smallest J n own R) s ≡ false
  largest_apart s e =
      let L = smallest J n own R in
      stays_apart (member (largest J n own R L)) s ((largest_is J n own R L).reason s e)
