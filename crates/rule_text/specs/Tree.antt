-- Document 02 (i), and (iii) for EG and AG: a rule as it is typed, as a syntax tree. Or and implies are cases of their own. What it says of
-- a state goes over walks, as for the subformulas of a job (document 01, "CTL truth"); nothing is rewritten here. Assumes nothing.
use Rattle.std.specs.Prelude.{ℕ, ◌≤◌, ◌≡◌, true, ◌⊎◌}
use Rattle.job.specs.Job as job
use Rattle.job.specs.Job.{Structure, Quantifier, for_all, exists}
use Rattle.ctl.specs.Truth.{Predicate, HasEdge, Until, Throughout, OnWalks}
use Rattle.rule_text.specs.declared.token.Prefix.{Prefix}
use Rattle.rule_text.specs.declared.token.Prefix.TheVariants.{Not, Ax, Ex, Eg, Ag}
use Rattle.rule_text.specs.declared.token.Operator.{Operator}
use Rattle.rule_text.specs.declared.token.Operator.TheVariants.{And, Or, Implies}

pub data Tree : Type 0 where
  atom : ℕ → Tree
  -- !f, AX f, EX f, EG f, AG f
  prefix : Prefix → Tree → Tree
  -- f & g, f | g, f => g
  binary : Operator → Tree → Tree → Tree
  -- A[f U g], E[f U g]
  until : Quantifier → Tree → Tree → Tree

-- "Atoms are `p0` to `p15`."
unfoldable pub AtomsInRange : Tree → Type 0
AtomsInRange (atom j) = j ≤ 15
AtomsInRange (prefix p f) = AtomsInRange f
AtomsInRange (binary o f g) = AtomsInRange f × AtomsInRange g
AtomsInRange (until q f g) = AtomsInRange f × AtomsInRange g

-- What an operator says of a state, given what its operands say.
unfoldable pub prefixed : Structure → Prefix → Predicate → Predicate
prefixed M Not A s = A s → ⊥
prefixed M Ax A s = (t : ℕ) → HasEdge M s t → A t
prefixed M Ex A s = (t : ℕ) × HasEdge M s t × A t
prefixed M Eg A s = OnWalks M exists s (Throughout M A s)
prefixed M Ag A s = OnWalks M for_all s (Throughout M A s)

unfoldable pub joined : Operator → Type 0 → Type 0 → Type 0
joined And A B = A × B
joined Or A B = A ⊎ B
joined Implies A B = A → B

-- The rule is true at state s of M.
unfoldable pub Satisfies : Structure → Tree → Predicate
Satisfies M (atom j) s = job.atom M j s ≡ true
Satisfies M (prefix p f) s = prefixed M p (Satisfies M f) s
Satisfies M (binary o f g) s = joined o (Satisfies M f s) (Satisfies M g s)
Satisfies M (until q f g) s = OnWalks M q s (Until M (Satisfies M f) (Satisfies M g) s)
