-- The two sets of a set rule are right where the cells that it reads are: the smallest holds only states of the least set of
-- the uncut structure, the largest none. So what `by_sets` has for a state is right. Assumes nothing.
use Prim.Native.Nat.{ℕ, ◌<◌, ◌≤◌}
use mathlib.Core.Path.{◌≡◌}
use mathlib.Core.Bool.{Bool, true, false}
use native.Mathlib.Omega.{arith}
use mathlib.Core.List.{List}
use lib.ListN.{get_or}
use Rattle.law.specs.Fixpoint.{member}
use Rattle.law.proofs.Bool.{split, clash}
use Rattle.job.specs.Job.{Job, size, over}
use Rattle.ctl.specs.Labelling.{reached}
use Rattle.cells.specs.SetRule.{SetRule, smallest, largest, by_sets}
use Rattle.cells.specs.Sets.{Joins, already, starts, grows, Stays, other, blocked, follows}
use Rattle.cells.proofs.Sets.{smallest_is, largest_is}
use Rattle.cells.proofs.Repeat.{by_sets_at}
use Rattle.job.proofs.Successors.{over_within, over_share}
use Rattle.ctl.proofs.Reached.{reached_start, reached_grow, reached_state}
use Rattle.ctl.proofs.Reached.{reached_turns}
use Rattle.cells.proofs.Tells.{Tells}

-- The least set of the uncut structure that a rule speaks of, for the truths b of its start and a of its growing.
abbrev pub reached_by : Job → SetRule → (ℕ → Bool) → (ℕ → Bool) → ℕ → Bool
reached_by J R b a = reached J.structure R.quantifier b a

-- The cells that a rule reads are right.
pub record Telling (J : Job) (own : ℕ → ℕ) (R : SetRule) (b a : ℕ → Bool) : Type 0 where
  pub owns : (s : ℕ) → s < size J → Tells R.value (own s) (reached_by J R b a s)
  pub starts : (s : ℕ) → s < size J → Tells 1 (R.start s) (b s)
  pub grows : (s : ℕ) → s < size J → Tells 1 (R.grow s) (a s)

module _ (J : Job) (n : ℕ) (own : ℕ → ℕ) (R : SetRule) (b a : ℕ → Bool) (right : Telling J own R b a) where
  -- what joins a set of states of the target is one
  pub joins_target :
      (X : ℕ → Bool)
      → ((u : ℕ) → X u ≡ true → reached_by J R b a u ≡ true)
      → (s : ℕ)
      → s < size J
      → Joins J n own R X s
      → reached_by J R b a s ≡ true
  unfolding size
  joins_target X inside s l (already v) = (right.owns s l).inside v
  joins_target X inside s l (starts e i t) = reached_start J.structure R.quantifier b a s l ((right.starts s l).inside t)
  joins_target X inside s l (grows e i t o) =
      reached_grow J.structure R.quantifier b a s l ((right.grows s l).inside t)
      (over_within J.structure R.quantifier s X (reached_by J R b a) (λ u e. inside u) o)

  pub smallest_target : (s : ℕ) → member (smallest J n own R) s ≡ true → reached_by J R b a s ≡ true
  smallest_target = (smallest_is J n own R).within_each (reached_by J R b a) (joins_target (reached_by J R b a) (λ u e. e))

  -- what stays in a set is no state of the target, neither where the target starts nor where it grows from outside the set
  stays_no_start :
      (L : List Bool) (X : ℕ → Bool) (s : ℕ)
      → s < size J
      → reached_by J R b a s ≡ true
      → b s ≡ true
      → Stays J n own R L X s
      → X s ≡ false
  stays_no_start L X s l t e (other v) = clash (reached_by J R b a s) t ((right.owns s l).outside v)
  stays_no_start L X s l t e (blocked m o i z y) = clash (b s) e ((right.starts s l).outside z)
  stays_no_start L X s l t e (follows m o i z y) = clash (b s) e ((right.starts s l).outside z)

  stays_no_grow :
      (L : List Bool) (X Y : ℕ → Bool) (s : ℕ)
      → s < size J
      → reached_by J R b a s ≡ true
      → a s ≡ true
      → ((u : ℕ) → Y u ≡ true → X u ≡ false)
      → over J.structure R.quantifier s Y ≡ true
      → Stays J n own R L X s
      → X s ≡ false
  stays_no_grow L X Y s l t e apart h (other v) = clash (reached_by J R b a s) t ((right.owns s l).outside v)
  stays_no_grow L X Y s l t e apart h (blocked m o i z y) = clash (a s) e ((right.grows s l).outside y)
  stays_no_grow L X Y s l t e apart h (follows m o i z d) =
      let (u, edge, y, x) = over_share J.structure R.quantifier s Y X h d in clash (X u) x (apart u y)

  pub largest_target : (L : List Bool) (s : ℕ) → member (largest J n own R L) s ≡ true → reached_by J R b a s ≡ false
  unfolding size
  largest_target L s g =
      let G = member (largest J n own R L) in
      let M = J.structure in
      let q = R.quantifier in
      let stays : (u : ℕ) → (Stays J n own R L G u → G u ≡ false) → G u ≡ false =
      λ u no. split (G u) (λ h. no ((largest_is J n own R L).reason u h)) (λ f. f) in
      split (reached_by J R b a s)
      (λ t.
      clash (G s) g
      (reached_turns M q b a (λ u. G u ≡ false)
      (λ u r e. stays u (stays_no_start L G u (reached_state M q b a u r) r e))
      (λ u r e Y apart o. stays u (stays_no_grow L G Y u (reached_state M q b a u r) r e apart o))
      s t))
      (λ f. f)

  -- the value that the two sets have for a state
  pub by_sets_tells : R.value ≤ 1 → (s : ℕ) → s < size J → Tells R.value (get_or (by_sets J n own R) s 2) (reached_by J R b a s)
  by_sets_tells small s l =
      let L = smallest J n own R in
      let first = member L s in
      let second = member (largest J n own R L) s in
      rw (by_sets_at J n own R s l)
      (split first
      (λ t. rw t (record { inside = λ e. smallest_target s t; outside = λ e. absurd (omega arith) }))
      (λ f. rw f
      (split second
      (λ t. rw t (record { inside = λ e. absurd (omega arith); outside = λ e. largest_target L s t }))
      (λ f. rw f (record { inside = λ e. absurd (omega arith); outside = λ e. absurd (omega arith) })))))
