-- Document 01, "Step of one node": "Subformulas are taken from 0 upward. A filled cell is never changed." Assumes nothing.
use Rattle.std.specs.Prelude.{ℕ, zero, suc, ◌-◌, cond, ◌&&◌, ◌||◌, List, get_or, eqb}
use Rattle.law.specs.Lists.{tab}
use Rattle.job.specs.Job.{Job, Quantifier, dual, over, size, subformula_count, atom}
use Rattle.job.specs.Rule.{rule_at, quantifier}
use Rattle.job.specs.declared.rule.Condition.{Condition}
use Rattle.job.specs.declared.rule.Condition.TheVariants.{Always, Holds, Fails}
use Rattle.job.specs.declared.rule.Rule.{Rule}
use Rattle.job.specs.declared.rule.Rule.TheVariants.{Atom, Not, And, Next, Sets}
use Rattle.cells.specs.Fragment.{inner}
use Rattle.cells.specs.Table.{Table, cell, is_empty, fill}
use Rattle.cells.specs.SetRule.{set_rule, by_sets}

-- "Not: the other value of a filled cell."
unfoldable pub opposite : ℕ → ℕ
opposite a = cond (is_empty a) 2 (1 - a)

-- "And: true if both are true, false if either is false. Otherwise empty."
unfoldable pub both : ℕ → ℕ → ℕ
both a b = cond (eqb a 1 && eqb b 1) 1 (cond (eqb a 0 || eqb b 0) 0 2)

-- "AX: true if a is true at all successors, false if a is false at some. EX: true if a is true at some, false if false at all."
-- A border state stays empty.
unfoldable pub next : Job → ℕ → Quantifier → (ℕ → ℕ) → ℕ → ℕ
next J n q a s =
    cond (inner J n s)
    (cond (over J.structure q s (λ u. eqb (a u) 1)) 1 (cond (over J.structure (dual q) s (λ u. eqb (a u) 0)) 0 2))
    2

-- Where a state meets a condition, by the node's cells: 1 where it does, 0 where it does not, 2 where that is not known yet.
unfoldable pub known : (ℕ → ℕ → ℕ) → Condition → ℕ → ℕ
known at Always s = 1
known at (Holds a) s = at a s
known at (Fails a) s = opposite (at a s)

-- What the step of node n has for the cells of subformula k by its rule, by state, given the node's cells of a subformula by state.
unfoldable pub column : Job → ℕ → (ℕ → ℕ → ℕ) → ℕ → Rule → List ℕ
column J n at k (Atom j) = tab (λ s. cond (atom J.structure j s) 1 0) (size J)
column J n at k (Not a) = tab (λ s. opposite (at a s)) (size J)
column J n at k (And a b) = tab (λ s. both (at a s) (at b s)) (size J)
column J n at k (Next all a) = tab (next J n (quantifier all) (at a)) (size J)
column J n at k (Sets g) = by_sets J n (at k) (set_rule (quantifier g.all) (known at g.start) (known at g.grow) g.value)

-- The empty cells of node n and subformula k take their values.
unfoldable pub step_column : Job → ℕ → ℕ → Table → Table
step_column J n k t =
    let values = column J n (λ j s. cell J t n s j) k (rule_at J k) in
    fill J (λ m s j. cond (eqb m n && eqb j k) (get_or values s 2) 2) t

unfoldable pub step_up_to : Job → ℕ → ℕ → Table → Table
step_up_to J n zero t = t
step_up_to J n (suc k) t = step_column J n k (step_up_to J n k t)

unfoldable pub step_table : Job → ℕ → Table → Table
step_table J n t = step_up_to J n (subformula_count J) t
