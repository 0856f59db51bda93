-- A column has a value for a state where the cells that it reads are filled: not and and at every state, next where the node
-- owns the state. So a close can only be for a subformula that goes by sets. Assumes nothing.
use Prim.Native.Nat.{ℕ, ◌<◌, ◌≤◌}
use mathlib.Core.Path.{◌≡◌, refl}
use mathlib.Core.Bool.{Bool, true, false, not, cond, true≢false}
use native.Mathlib.Nat.{le_refl}
use native.Mathlib.Omega.{arith}
use lib.ListN.{get_or}
use lib.Dec.{eqb}
use borrow.Author.Tests.{eq-eqb, eqb-false, ne_eqb, not-true}
use Rattle.law.proofs.Bool.{split}
use Rattle.law.proofs.Lists.{tab_at}
use Rattle.job.specs.Job.{Job, Quantifier, dual, over, size, atom, edge}
use Rattle.job.specs.Rule.{temporal, quantifier, IsSets, AsksSmaller, InRange}
use Rattle.job.specs.declared.rule.Condition.{Condition}
use Rattle.job.specs.declared.rule.Condition.TheVariants.{Always, Holds, Fails}
use Rattle.job.specs.declared.rule.Rule.{Rule}
use Rattle.job.specs.declared.rule.Rule.TheVariants.{Atom, Not, And, Next, Sets}
use Rattle.cells.specs.Fragment.{inner}
use Rattle.cells.specs.Table.{is_empty}
use Rattle.cells.specs.Step.{opposite, both, next, known, column}
use Rattle.job.proofs.Successors.{over_within, over_else}
use Rattle.cells.proofs.Tells.{by_cell}

-- A filled cell: 0 or 1.
abbrev pub Filled : ℕ → Type 0
Filled c = c ≤ 1

opposite_filled : (c : ℕ) → Filled c → Filled (opposite c)
unfolding opposite is_empty
opposite_filled c l = simp (ne_eqb c 2 (λ e. omega arith)) (omega arith)

pub known_filled :
    (at : ℕ → ℕ → ℕ) (k s : ℕ) → ((j : ℕ) → j < k → Filled (at j s)) → (c : Condition) → AsksSmaller k c → Filled (known at c s)
unfolding known
known_filled at k s filled Always o = le_refl 1
known_filled at k s filled (Holds a) o = filled a o
known_filled at k s filled (Fails a) o = opposite_filled (at a s) (filled a o)

both_filled : (c d : ℕ) → Filled c → Filled d → Filled (both c d)
unfolding both
both_filled c d l m =
    by_cell c (omega arith)
    (λ e. simp e (omega arith))
    (λ e. by_cell d (omega arith) (λ f. simp (e, f) (omega arith)) (λ f. simp (e, f) (omega arith)) (λ f. omega arith))
    (λ e. omega arith)

next_filled :
    (J : Job) (n : ℕ) (q : Quantifier) (c : ℕ → ℕ) (s : ℕ)
    → inner J n s ≡ true
    → ((u : ℕ) → edge J.structure s u ≡ true → Filled (c u))
    → Filled (next J n q c s)
unfolding next
next_filled J n q c s i filled =
    let M = J.structure in
    let one : ℕ → Bool = λ u. eqb (c u) 1 in
    let nil : ℕ → Bool = λ u. eqb (c u) 0 in
    split (over M q s one)
    (λ t. simp (i, t) (omega arith))
    (λ f.
    let zero =
    over_within M (dual q) s (λ u. not (one u)) nil
    (λ u e h. let low = filled u e in eq-eqb (c u) 0 (omega (arith, eqb-false (c u) 1 (not-true (one u) h))))
    (over_else M q s one f) in
    simp (i, f, zero) (omega arith))

module _ (J : Job) (n : ℕ) (at : ℕ → ℕ → ℕ) (k s : ℕ) (l : s < size J) where
  -- not temporal: from the operands' cells of the same state
  pub local_filled :
      (r : Rule)
      → InRange k r
      → temporal r ≡ false
      → ((j : ℕ) → j < k → Filled (at j s))
      → Filled (get_or (column J n at k r) s 2)
  unfolding column InRange
  local_filled (Atom j) o p filled =
      rw (tab_at (λ u. cond {A = ℕ} (atom J.structure j u) 1 0) (size J) s 2 l)
      (split (atom J.structure j s) (λ t. simp t (omega arith)) (λ f. simp f (omega arith)))
  local_filled (Not a) o p filled =
      rw (tab_at (λ u. opposite (at a u)) (size J) s 2 l) (opposite_filled (at a s) (filled a o))
  local_filled (And a b) o p filled =
      rw (tab_at (λ u. both (at a u) (at b u)) (size J) s 2 l) (both_filled (at a s) (at b s) (filled a o.0) (filled b o.1))
  local_filled (Next all a) o p filled = absurd (true≢false p)
  local_filled (Sets g) o p filled = absurd (true≢false p)

  -- an owned state without a value, where the operands' cells are filled at the state and its successors
  pub empty_sets :
      (r : Rule)
      → InRange k r
      → inner J n s ≡ true
      → ((j : ℕ) → j < k → Filled (at j s))
      → ((j u : ℕ) → j < k → edge J.structure s u ≡ true → Filled (at j u))
      → get_or (column J n at k r) s 2 ≡ 2
      → IsSets r
  unfolding column InRange
  empty_sets (Atom j) o i filled later e = absurd (omega (arith, local_filled (Atom j) o refl filled))
  empty_sets (Not a) o i filled later e = absurd (omega (arith, local_filled (Not a) o refl filled))
  empty_sets (And a b) o i filled later e = absurd (omega (arith, local_filled (And a b) o refl filled))
  empty_sets (Next all a) o i filled later e =
      let q = quantifier all in
      absurd (omega (arith, tab_at (next J n q (at a)) (size J) s 2 l, next_filled J n q (at a) s i (λ u. later a u o)))
  empty_sets (Sets g) o i filled later e = record { growth = g; is = refl }
