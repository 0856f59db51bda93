-- The labelling that computes CTL truth: each subformula's states from its operands' states by its rule, the sets of a rule by a least
-- fixed point. That it is truth by walks is a theorem; nothing that a reader must believe is here. Assumes nothing.
use Rattle.std.specs.Prelude.{ℕ, zero, suc, Bool, true, false, not, cond, ◌&&◌, ◌||◌, List, length, eqb}
use Rattle.law.specs.Fixpoint.{Rule as Operator, member, least}
use Rattle.job.specs.Job.{Structure, Quantifier, over, atom, subformula}
use Rattle.job.specs.Rule.{rule_of, quantifier}
use Rattle.job.specs.declared.subformula.Subformula.{Subformula}
use Rattle.job.specs.declared.rule.Condition.{Condition}
use Rattle.job.specs.declared.rule.Condition.TheVariants.{Always, Holds, Fails}
use Rattle.job.specs.declared.rule.Rule.{Rule}
use Rattle.job.specs.declared.rule.Rule.TheVariants.{Atom, Not, And, Next, Sets}

-- A state is in the set if it starts there, or may grow and that many of its successors are in the set.
unfoldable pub reaches : Structure → Quantifier → (ℕ → Bool) → (ℕ → Bool) → Operator
reaches M q start grow X s = start s || (grow s && over M q s X)

-- The least such set.
unfoldable pub reached : Structure → Quantifier → (ℕ → Bool) → (ℕ → Bool) → ℕ → Bool
reached M q start grow s = member (least (reaches M q start grow) (length M.labels)) s

-- The truth where a set gives the value v: v inside, 1 - v outside.
abbrev pub valued : ℕ → Bool → Bool
valued v inside = cond (eqb v 1) inside (not inside)

-- A state meets a condition, given the states of the operands.
abbrev pub meets : (ℕ → ℕ → Bool) → Condition → ℕ → Bool
meets sat Always s = true
meets sat (Holds a) s = sat a s
meets sat (Fails a) s = not (sat a s)

-- The states of a subformula by its rule, given those of its operands.
unfoldable pub labelled : Structure → (ℕ → ℕ → Bool) → Rule → ℕ → Bool
labelled M sat (Atom j) s = atom M j s
labelled M sat (Not a) s = not (sat a s)
labelled M sat (And a b) s = sat a s && sat b s
labelled M sat (Next all a) s = over M (quantifier all) s (sat a)
labelled M sat (Sets g) s = valued g.value (reached M (quantifier g.all) (meets sat g.start) (meets sat g.grow) s)

unfoldable pub labelling : Structure → List Subformula → ℕ → ℕ → ℕ → Bool
labelling M f zero k s = false
labelling M f (suc n) k s = labelled M (labelling M f n) (rule_of (subformula f k)) s

-- Subformula k of f is labelled true at state s.
unfoldable pub sat : Structure → List Subformula → ℕ → ℕ → Bool
sat M f k s = labelling M f (suc k) k s
