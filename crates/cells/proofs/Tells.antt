-- What a cell tells of a truth: `Tells v c b` says that the cell c, if filled, is right about b, where v is the value for
-- true. The values that a step has for atoms, not, and, and next, and what it knows of a condition, are right where the
-- cells that they read are. Assumes nothing.
use Prim.Native.Nat.{ℕ, ◌-◌, ◌≤◌, ◌<◌}
use mathlib.Core.Path.{◌≡◌, refl}
use mathlib.Core.Bool.{Bool, true, false, not, cond, ◌&&◌, ◌||◌}
use mathlib.Core.Logic.{⊎_elim}
use native.Mathlib.Omega.{arith}
use lib.Dec.{eqb}
use borrow.Author.Tests.{eqb-true, not-true, not-false}
use Rattle.law.proofs.Bool.{split, clash, not_is_true, not_is_false, and_intro, and_left, and_right, and_no_left, and_no_right, or_cases}
use Rattle.law.proofs.Bounded.{by_equal}
use Rattle.job.specs.Job.{Job, Quantifier, dual, over, size}
use Rattle.job.specs.Rule.{AsksSmaller}
use Rattle.job.specs.Written.{IsJob}
use Rattle.job.specs.declared.rule.Condition.{Condition}
use Rattle.job.specs.declared.rule.Condition.TheVariants.{Always, Holds, Fails}
use Rattle.ctl.specs.Labelling.{valued, meets}
use Rattle.cells.specs.Fragment.{inner}
use Rattle.cells.specs.Table.{is_empty}
use Rattle.cells.specs.Step.{opposite, both, next, known}
use Rattle.job.proofs.Successors.{over_within, over_share}
use Rattle.cells.proofs.FragmentLaws.{edge_bound}

pub record Tells (v c : ℕ) (b : Bool) : Type 0 where
  pub inside : c ≡ v → b ≡ true
  pub outside : c ≡ 1 - v → b ≡ false

-- an empty cell tells nothing, and a value by cases tells what each case tells
pub empty_tells : (b : Bool) → Tells 1 2 b
empty_tells b = record { inside = λ e. absurd (omega arith); outside = λ e. absurd (omega arith) }

pub true_tells : (b : Bool) → b ≡ true → Tells 1 1 b
true_tells b t = record { inside = λ e. t; outside = λ e. absurd (omega arith) }

pub false_tells : (b : Bool) → b ≡ false → Tells 1 0 b
false_tells b f = record { inside = λ e. absurd (omega arith); outside = λ e. f }

pub cond_tells : (t : Bool) (x y : ℕ) (b : Bool) → (t ≡ true → Tells 1 x b) → (t ≡ false → Tells 1 y b) → Tells 1 (cond t x y) b
cond_tells true x y b then else = then refl
cond_tells false x y b then else = else refl

pub atom_tells : (b : Bool) → Tells 1 (cond b 1 0) b
atom_tells b = cond_tells b 1 0 b (true_tells b) (false_tells b)

-- by cases on what is in a cell
pub by_cell {ℓ} : {A : Type ℓ} (c : ℕ) → c ≤ 2 → (c ≡ 0 → A) → (c ≡ 1 → A) → (c ≡ 2 → A) → A
by_cell c l zero one two = by_equal c 0 zero (λ n. by_equal c 1 one (λ m. two (omega arith)))

pub opposite_tells : (c : ℕ) (b : Bool) → c ≤ 2 → Tells 1 c b → Tells 1 (opposite c) (not b)
unfolding opposite is_empty
opposite_tells c b l right =
    by_cell c l
    (λ e. rw e (true_tells (not b) (not_is_true b (right.outside e))))
    (λ e. rw e (false_tells (not b) (not_is_false b (right.inside e))))
    (λ e. rw e (empty_tells (not b)))

pub opposite_twice : (c : ℕ) → c ≤ 2 → opposite (opposite c) ≡ c
unfolding opposite is_empty
opposite_twice c low = by_cell c low (λ e. rw e refl) (λ e. rw e refl) (λ e. rw e refl)

module _
    (at : ℕ → ℕ → ℕ) (T : ℕ → ℕ → Bool) (k s : ℕ)
    (low : (j : ℕ) → at j s ≤ 2) (right : (j : ℕ) → j < k → Tells 1 (at j s) (T j s))
  where
    pub known_tells : (c : Condition) → AsksSmaller k c → Tells 1 (known at c s) (meets T c s)
    unfolding known
    known_tells Always o = true_tells true refl
    known_tells (Holds a) o = right a o
    known_tells (Fails a) o = opposite_tells (at a s) (T a s) (low a) (right a o)

pub both_tells : (c d : ℕ) (a b : Bool) → Tells 1 c a → Tells 1 d b → Tells 1 (both c d) (a && b)
unfolding both
both_tells c d a b left right =
    cond_tells (eqb c 1 && eqb d 1) 1 _ (a && b)
    (λ h.
    let p = left.inside (eqb-true c 1 (and_left (eqb c 1) (eqb d 1) h)) in
    let q = right.inside (eqb-true d 1 (and_right (eqb c 1) (eqb d 1) h)) in
    true_tells (a && b) (and_intro a b p q))
    (λ h.
    cond_tells (eqb c 0 || eqb d 0) 0 2 (a && b)
    (λ h.
    false_tells (a && b)
    (⊎_elim
    (λ z. and_no_left a b (left.outside (eqb-true c 0 z)))
    (λ z. and_no_right a b (right.outside (eqb-true d 0 z)))
    (or_cases (eqb c 0) (eqb d 0) h)))
    (λ h. empty_tells (a && b)))

-- A cell that is right about a set of value v is right about the truth that the set gives, and back.
pub tells_valued : (v c : ℕ) (b : Bool) → v ≤ 1 → Tells v c b → Tells 1 c (valued v b)
tells_valued v c b small right =
    by_cell v (omega arith)
    (λ e.
    let tells : Tells 0 c b = rw e at right in
    rw e (record { inside = λ h. not_is_true b (tells.outside h); outside = λ h. not_is_false b (tells.inside h) }))
    (λ e. rw e (rw e at right))
    (λ e. absurd (omega arith))

pub valued_tells : (v c : ℕ) (b : Bool) → v ≤ 1 → Tells 1 c (valued v b) → Tells v c b
valued_tells v c b small right =
    by_cell v (omega arith)
    (λ e.
    let tells : Tells 1 c (not b) = rw e at right in
    rw e (record { inside = λ h. not-false b (tells.outside h); outside = λ h. not-true b (tells.inside h) }))
    (λ e. rw e (rw e at right))
    (λ e. absurd (omega arith))

module _ (J : Job) (job : IsJob J) (n : ℕ) (q : Quantifier) (c : ℕ → ℕ) (a : ℕ → Bool) where
  pub next_tells : ((s : ℕ) → s < size J → Tells 1 (c s) (a s)) → (s : ℕ) → Tells 1 (next J n q c s) (over J.structure q s a)
  unfolding next
  next_tells right s =
      let M = J.structure in
      let one : ℕ → Bool = λ u. eqb (c u) 1 in
      let nil : ℕ → Bool = λ u. eqb (c u) 0 in
      let truth = over M q s a in
      cond_tells (inner J n s) _ 2 truth
      (λ i.
      cond_tells (over M q s one) 1 _ truth
      (λ h.
      true_tells truth
      (over_within M q s one a (λ u e t. (right u (edge_bound J job s u e)).inside (eqb-true (c u) 1 t)) h))
      (λ h.
      cond_tells (over M (dual q) s nil) 0 2 truth
      (λ d.
      false_tells truth
      (split truth
      (λ t.
      let (u, e, x, z) = over_share M q s a nil t d in
      clash (a u) x ((right u (edge_bound J job s u e)).outside (eqb-true (c u) 0 z)))
      (λ f. f)))
      (λ d. empty_tells truth)))
      (λ i. empty_tells truth)
