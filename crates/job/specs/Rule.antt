-- What a step does for a subformula, by five rules. `rule_of` is the one table from the kinds (`Formula.antt`, where kinds are named); what
-- a cell takes, what a column reads, which subformulas are temporal and what closing fills go by the rule. Assumes nothing.
use Rattle.std.specs.Prelude.{ℕ, ◌-◌, ◌<◌, ◌≤◌, ◌≡◌, Bool, true, false, List, [], ◌∷◌, ◌++◌}
use Rattle.job.specs.Job.{Job, Quantifier, for_all, exists, subformula}
pub use Rattle.job.specs.Formula.{until, global, rule_of}
use Rattle.job.specs.declared.rule.Condition.{Condition}
use Rattle.job.specs.declared.rule.Condition.TheVariants.{Always, Holds, Fails}
use Rattle.job.specs.declared.rule.Growth.{Growth}
use Rattle.job.specs.declared.rule.Rule.{Rule}
use Rattle.job.specs.declared.rule.Rule.TheVariants.{Atom, Not, And, Next, Sets}

-- the rule of subformula k of a job
abbrev pub rule_at : Job → ℕ → Rule
rule_at J k = rule_of (subformula J.formula k)

-- the subformulas that a condition, and a rule, takes cells of
abbrev pub asks : Condition → List ℕ
asks Always = []
asks (Holds a) = a ∷ []
asks (Fails a) = a ∷ []

abbrev pub operands : Rule → List ℕ
operands (Atom j) = []
operands (Not a) = a ∷ []
operands (And a b) = a ∷ b ∷ []
operands (Next all a) = a ∷ []
operands (Sets g) = asks g.start ++ asks g.grow

-- the value of its sets is 0 or 1
unfoldable pub Valued : Rule → Type 0
Valued (Atom j) = Unit {0}
Valued (Not a) = Unit {0}
Valued (And a b) = Unit {0}
Valued (Next all a) = Unit {0}
Valued (Sets g) = g.value ≤ 1

-- It goes by sets.
pub record IsSets (r : Rule) : Type 0 where
  pub growth : Growth
  pub is : r ≡ Sets growth

-- What a condition, and a rule, of subformula k names is in range: an atom 0 to 15, smaller subformulas, a value 0 or 1.
abbrev pub AsksSmaller : ℕ → Condition → Type 0
AsksSmaller k Always = Unit {0}
AsksSmaller k (Holds a) = a < k
AsksSmaller k (Fails a) = a < k

unfoldable pub InRange : ℕ → Rule → Type 0
InRange k (Atom j) = j ≤ 15
InRange k (Not a) = a < k
InRange k (And a b) = (a < k) × (b < k)
InRange k (Next all a) = a < k
InRange k (Sets g) = AsksSmaller k g.start × AsksSmaller k g.grow × (g.value ≤ 1)

-- "Kinds 4 to 7 are temporal"; document 02 (iii), of 8 and 9: "both temporal": those that look at successors
abbrev pub temporal : Rule → Bool
temporal (Atom j) = false
temporal (Not a) = false
temporal (And a b) = false
temporal (Next all a) = true
temporal (Sets g) = true

-- what closing fills: a state that the smallest set never reached has the other value
abbrev pub closed_value : Rule → ℕ
closed_value (Atom j) = 0
closed_value (Not a) = 0
closed_value (And a b) = 0
closed_value (Next all a) = 0
closed_value (Sets g) = 1 - g.value

-- all successors, or some
abbrev pub quantifier : Bool → Quantifier
quantifier true = for_all
quantifier false = exists
