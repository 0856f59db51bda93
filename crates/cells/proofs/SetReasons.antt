-- A state that joins one of the two sets, as they are computed, has one of the reasons of `specs/Sets.antt`. Assumes nothing.
use Prim.Native.Nat.{ℕ, ◌-◌}
use mathlib.Core.Path.{◌≡◌}
use mathlib.Core.Bool.{Bool, true, not, ◌&&◌, ◌||◌}
use mathlib.Core.List.{List}
use mathlib.Core.Logic.{⊎_elim}
use borrow.Author.Tests.{eqb-true, not-true}
use lib.Dec.{eqb}
use Rattle.law.specs.Fixpoint.{member}
use Rattle.law.proofs.Bool.{and_left, and_right, or_cases}
use Rattle.job.specs.Job.{Job, dual, over}
use Rattle.cells.specs.Fragment.{inner}
use Rattle.cells.specs.Table.{is_empty}
use Rattle.cells.specs.SetRule.{SetRule, joins, stays}
use Rattle.cells.specs.Sets.{Joins, already, starts, grows, Stays, other, blocked, follows}

module _ (J : Job) (n : ℕ) (own : ℕ → ℕ) (R : SetRule) where
  pub joins_reason : (X : ℕ → Bool) (s : ℕ) → joins J n own R X s ≡ true → Joins J n own R X s
  unfolding joins is_empty
  joins_reason X s h =
      let b = eqb (R.start s) 1 in
      let a = eqb (R.grow s) 1 in
      let o = over J.structure R.quantifier s X in
      let e = is_empty (own s) in
      let i = inner J n s in
      ⊎_elim
      (λ v. already (eqb-true (own s) R.value v))
      (λ w.
      let empty = eqb-true (own s) 2 (and_left e i (and_left (e && i) (b || (a && o)) w)) in
      let inside = and_right e i (and_left (e && i) (b || (a && o)) w) in
      ⊎_elim
      (λ t. starts empty inside (eqb-true (R.start s) 1 t))
      (λ t. grows empty inside (eqb-true (R.grow s) 1 (and_left a o t)) (and_right a o t))
      (or_cases b (a && o) (and_right (e && i) (b || (a && o)) w)))
      (or_cases (eqb (own s) R.value) (e && i && (b || (a && o))) h)

module _ (J : Job) (n : ℕ) (own : ℕ → ℕ) (R : SetRule) (L : List Bool) where
  pub stays_reason : (X : ℕ → Bool) (s : ℕ) → stays J n own R L X s ≡ true → Stays J n own R L X s
  unfolding stays is_empty
  stays_reason X s h =
      let a = eqb (R.grow s) 0 in
      let o = over J.structure (dual R.quantifier) s X in
      let e = is_empty (own s) in
      let l = not (member L s) in
      let i = inner J n s in
      let b = eqb (R.start s) 0 in
      ⊎_elim
      (λ v. other (eqb-true (own s) (1 - R.value) v))
      (λ w.
      let free = and_left (e && l && i && b) (a || o) w in
      let here = and_left (e && l && i) b free in
      let apart = and_left (e && l) i here in
      let empty = eqb-true (own s) 2 (and_left e l apart) in
      let out = not-true (member L s) (and_right e l apart) in
      let inside = and_right (e && l) i here in
      let still = eqb-true (R.start s) 0 (and_right (e && l && i) b free) in
      ⊎_elim
      (λ t. blocked empty out inside still (eqb-true (R.grow s) 0 t))
      (follows empty out inside still)
      (or_cases a o (and_right (e && l && i && b) (a || o) w)))
      (or_cases (eqb (own s) (1 - R.value)) (e && l && i && b && (a || o)) h)
