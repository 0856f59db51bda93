-- The rules by which a state joins one of the two sets, as they are computed: they grow with the set, and hold wherever `specs/Sets.antt` has a
-- reason to join. Assumes nothing.
use Prim.Native.Nat.{ℕ, ◌-◌}
use mathlib.Core.Path.{◌≡◌, refl}
use mathlib.Core.Bool.{Bool, true, not, ◌&&◌, ◌||◌}
use mathlib.Core.List.{List}
use borrow.Author.Tests.{eq-eqb}
use lib.Dec.{eqb}
use Rattle.law.specs.Fixpoint.{Monotone, member}
use Rattle.law.proofs.Bool.{and_mono, or_right, or_mono}
use Rattle.job.specs.Job.{Job, dual, over}
use Rattle.job.proofs.Successors.{over_mono}
use Rattle.cells.specs.Fragment.{inner}
use Rattle.cells.specs.Table.{is_empty}
use Rattle.cells.specs.SetRule.{SetRule, joins, stays}
use Rattle.cells.specs.Sets.{Joins, already, starts, grows, Stays, other, blocked, follows}

module _ (J : Job) (n : ℕ) (own : ℕ → ℕ) (R : SetRule) where
  pub joins_monotone : Monotone (joins J n own R)
  unfolding joins
  joins_monotone X Y inside s =
      let M = J.structure in
      let q = R.quantifier in
      let b = eqb (R.start s) 1 in
      let a = eqb (R.grow s) 1 in
      let free = is_empty (own s) && inner J n s in
      or_mono (eqb (own s) R.value) (free && (b || (a && over M q s X))) (free && (b || (a && over M q s Y)))
      (and_mono free (b || (a && over M q s X)) (b || (a && over M q s Y))
      (or_mono b (a && over M q s X) (a && over M q s Y)
      (and_mono a (over M q s X) (over M q s Y) (over_mono M q s X Y inside))))

  pub joins_intro : (X : ℕ → Bool) (s : ℕ) → Joins J n own R X s → joins J n own R X s ≡ true
  unfolding joins is_empty
  joins_intro X s (already v) = simp (eq-eqb (own s) R.value v)
  joins_intro X s (starts e i b) =
      or_right (eqb (own s) R.value) _ (simp (eq-eqb (own s) 2 e, i, eq-eqb (R.start s) 1 b))
  joins_intro X s (grows e i a o) =
      or_right (eqb (own s) R.value) _
      (simp (eq-eqb (own s) 2 e, i, eq-eqb (R.grow s) 1 a, o) (or_right (eqb (R.start s) 1) true refl))

module _ (J : Job) (n : ℕ) (own : ℕ → ℕ) (R : SetRule) (L : List Bool) where
  pub stays_monotone : Monotone (stays J n own R L)
  unfolding stays
  stays_monotone X Y inside s =
      let M = J.structure in
      let q = dual R.quantifier in
      let a = eqb (R.grow s) 0 in
      let free = is_empty (own s) && not (member L s) && inner J n s && eqb (R.start s) 0 in
      or_mono (eqb (own s) (1 - R.value)) (free && (a || over M q s X)) (free && (a || over M q s Y))
      (and_mono free (a || over M q s X) (a || over M q s Y)
      (or_mono a (over M q s X) (over M q s Y) (over_mono M q s X Y inside)))

  pub stays_intro : (X : ℕ → Bool) (s : ℕ) → Stays J n own R L X s → stays J n own R L X s ≡ true
  unfolding stays is_empty
  stays_intro X s (other v) = simp (eq-eqb (own s) (1 - R.value) v)
  stays_intro X s (blocked e l i b a) =
      or_right (eqb (own s) (1 - R.value)) _
      (simp (eq-eqb (own s) 2 e, l, i, eq-eqb (R.start s) 0 b, eq-eqb (R.grow s) 0 a))
  stays_intro X s (follows e l i b o) =
      or_right (eqb (own s) (1 - R.value)) _
      (simp (eq-eqb (own s) 2 e, l, i, eq-eqb (R.start s) 0 b, o) (or_right (eqb (R.grow s) 0) true refl))
