-- The values that a step has for the cells of a subformula are right where the cells that it reads are. Assumes nothing.
use Prim.Native.Nat.{ℕ, ◌<◌, ◌≤◌}
use mathlib.Core.Bool.{Bool, cond}
use lib.ListN.{get_or}
use Rattle.law.proofs.Lists.{tab_at}
use Rattle.job.specs.Job.{Job, size, atom}
use Rattle.job.specs.Rule.{AsksSmaller, InRange, quantifier}
use Rattle.job.specs.Written.{IsJob}
use Rattle.job.specs.declared.rule.Condition.{Condition}
use Rattle.job.specs.declared.rule.Growth.{Growth}
use Rattle.job.specs.declared.rule.Rule.{Rule}
use Rattle.job.specs.declared.rule.Rule.TheVariants.{Atom, Not, And, Next, Sets}
use Rattle.ctl.specs.Labelling.{reached, meets, labelled}
use Rattle.cells.specs.SetRule.{set_rule, by_sets}
use Rattle.cells.specs.Step.{opposite, both, next, known, column}
use Rattle.cells.proofs.Tells.{Tells, atom_tells, opposite_tells, known_tells, both_tells, next_tells, tells_valued, valued_tells}
use Rattle.cells.proofs.RightSets.{reached_by, Telling, by_sets_tells}

-- The cells `at` of a node, by subformula and state, that the column of subformula k by rule r reads are right about the truths T of
-- smaller subformulas, and so are its own.
pub record ReadsTruth (J : Job) (T : ℕ → ℕ → Bool) (k : ℕ) (r : Rule) (at : ℕ → ℕ → ℕ) : Type 0 where
  pub low : (j s : ℕ) → at j s ≤ 2
  pub operands : (j s : ℕ) → j < k → s < size J → Tells 1 (at j s) (T j s)
  pub own : (s : ℕ) → s < size J → Tells 1 (at k s) (labelled J.structure T r s)

module _ (J : Job) (T : ℕ → ℕ → Bool) (k : ℕ) (at : ℕ → ℕ → ℕ) where
  pub reads_sets :
      (g : Growth)
      → InRange k (Sets g)
      → ReadsTruth J T k (Sets g) at
      → Telling J (at k) (set_rule (quantifier g.all) (known at g.start) (known at g.grow) g.value) (meets T g.start) (meets T g.grow)
  unfolding InRange labelled
  reads_sets g (lb, la, small) reads =
      let tells : (c : Condition) → AsksSmaller k c → (s : ℕ) → s < size J → Tells 1 (known at c s) (meets T c s) =
      λ c o s l. known_tells at T k s (λ j. reads.low j s) (λ j h. reads.operands j s h l) c o in
      record {
        owns = λ s l. valued_tells g.value (at k s) (reached J.structure (quantifier g.all) (meets T g.start) (meets T g.grow) s) small (reads.own s l);
        starts = tells g.start lb;
        grows = tells g.grow la;
      }

  module _ (job : IsJob J) (n : ℕ) where
    pub column_tells :
        (r : Rule)
        → InRange k r
        → ReadsTruth J T k r at
        → (s : ℕ)
        → s < size J
        → Tells 1 (get_or (column J n at k r) s 2) (labelled J.structure T r s)
    unfolding column InRange labelled
    column_tells (Atom j) o reads s l =
        rw (tab_at (λ u. cond {A = ℕ} (atom J.structure j u) 1 0) (size J) s 2 l) (atom_tells (atom J.structure j s))
    column_tells (Not a) o reads s l =
        rw (tab_at (λ u. opposite (at a u)) (size J) s 2 l)
        (opposite_tells (at a s) (T a s) (reads.low a s) (reads.operands a s o l))
    column_tells (And a b) o reads s l =
        rw (tab_at (λ u. both (at a u) (at b u)) (size J) s 2 l)
        (both_tells (at a s) (at b s) (T a s) (T b s) (reads.operands a s o.0 l) (reads.operands b s o.1 l))
    column_tells (Next all a) o reads s l =
        rw (tab_at (next J n (quantifier all) (at a)) (size J) s 2 l)
        (next_tells J job n (quantifier all) (at a) (T a) (λ u. reads.operands a u o) s)
    column_tells (Sets g) o reads s l =
        let R = set_rule (quantifier g.all) (known at g.start) (known at g.grow) g.value in
        tells_valued g.value (get_or (by_sets J n (at k) R) s 2) (reached_by J R (meets T g.start) (meets T g.grow) s) o.2
        (by_sets_tells J n (at k) R (meets T g.start) (meets T g.grow) (reads_sets g o reads) o.2 s l)
