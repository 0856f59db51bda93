-- The two sets of a set rule, as they are computed, are the smallest and the largest of `specs/Sets.antt`. Assumes nothing.
use Prim.Native.Nat.{ℕ, ◌-◌}
use mathlib.Core.Path.{◌≡◌}
use mathlib.Core.Bool.{Bool, true, false}
use mathlib.Core.List.{List}
use Rattle.law.specs.Fixpoint.{member, least, greatest}
use Rattle.law.proofs.Bool.{split, clash}
use Rattle.law.proofs.Least.{least_bound, least_closed, least_rule, least_inside}
use Rattle.law.proofs.Greatest.{greatest_bound, greatest_supported, greatest_rule, greatest_holds}
use Rattle.job.specs.Job.{Job, size}
use Rattle.cells.specs.Fragment.{inner}
use Rattle.cells.specs.SetRule.{SetRule, joins, smallest, stays, largest}
use Rattle.cells.specs.Sets.{Joins, already, starts, grows, IsSmallest, Stays, other, blocked, follows, IsLargest}
use Rattle.cells.proofs.SetForms.{joins_monotone, joins_intro, stays_monotone, stays_intro}
use Rattle.cells.proofs.SetReasons.{joins_reason, stays_reason}

module _ (J : Job) (n : ℕ) (own : ℕ → ℕ) (R : SetRule) where
  joins_own : (X : ℕ → Bool) (s : ℕ) → (own s ≡ R.value → ⊥) → (own s ≡ 2 → ⊥) → Joins J n own R X s → ⊥
  joins_own X s apart filled (already v) = apart v
  joins_own X s apart filled (starts e i b) = filled e
  joins_own X s apart filled (grows e i a o) = filled e

  joins_border : (X : ℕ → Bool) (s : ℕ) → inner J n s ≡ false → Joins J n own R X s → own s ≡ R.value
  joins_border X s border (already v) = v
  joins_border X s border (starts e i b) = clash (inner J n s) i border
  joins_border X s border (grows e i a o) = clash (inner J n s) i border

  pub smallest_is : IsSmallest J n own R (member (smallest J n own R))
  unfolding smallest
  smallest_is =
      let r = joins J n own R in
      let L = member (least r (size J)) in
      let reason : (s : ℕ) → L s ≡ true → Joins J n own R L s = λ s e. joins_reason J n own R L s (least_rule r (size J) (joins_monotone J n own R) s e) in
      record {
        states = least_bound r (size J);
        joined = λ s l why. least_closed r (size J) (joins_monotone J n own R) s l (joins_intro J n own R L s why);
        reason = reason;
        no_other = λ s apart filled. split (L s) (λ e. absurd (joins_own L s apart filled (reason s e))) (λ f. f);
        border_value = λ s border e. joins_border L s border (reason s e);
        within_each =
            λ Y closed. least_inside r (size J) (joins_monotone J n own R) Y (λ s l h. closed s l (joins_reason J n own R Y s h));
      }

module _ (J : Job) (n : ℕ) (own : ℕ → ℕ) (R : SetRule) (L : List Bool) where
  stays_border : (X : ℕ → Bool) (s : ℕ) → inner J n s ≡ false → Stays J n own R L X s → own s ≡ 1 - R.value
  stays_border X s border (other v) = v
  stays_border X s border (blocked e l i b a) = clash (inner J n s) i border
  stays_border X s border (follows e l i b o) = clash (inner J n s) i border

  pub largest_is : IsLargest J n own R L (member (largest J n own R L))
  unfolding largest
  largest_is =
      let r = stays J n own R L in
      let G = member (greatest r (size J)) in
      let reason : (s : ℕ) → G s ≡ true → Stays J n own R L G s =
      λ s e. stays_reason J n own R L G s (greatest_supported r (size J) (stays_monotone J n own R L) s e) in
      record {
        states = greatest_bound r (size J);
        reason = reason;
        stayed = λ s l why. greatest_rule r (size J) (stays_monotone J n own R L) s l (stays_intro J n own R L G s why);
        border_value = λ s border e. stays_border G s border (reason s e);
        holds_each =
            λ Y bound supported. greatest_holds r (size J) (stays_monotone J n own R L) Y bound (λ s l e. stays_intro J n own R L Y s (supported s e));
      }
