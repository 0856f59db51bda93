-- Document 01, "Step of one node", the sets of a rule by their properties: the smallest set with one, the largest with another. `Joins` and
-- `Stays` say these properties of one state in its words, `IsSmallest` and `IsLargest` of a set of states. That the sets which `SetRule.antt`
-- computes are these is `smallest_is` and `largest_is` of `proofs/Sets.antt`. Assumes nothing.
use Rattle.std.specs.Prelude.{ℕ, ◌-◌, ◌<◌, ◌≡◌, Bool, true, false, List}
use Rattle.law.specs.Fixpoint.{member}
use Rattle.job.specs.Job.{Job, dual, over, size}
use Rattle.cells.specs.Fragment.{inner}
use Rattle.cells.specs.SetRule.{SetRule}

module _ (J : Job) (n : ℕ) (own : ℕ → ℕ) (R : SetRule) where
  -- "the smallest set holding those already true, those with b true, and those with a true and all successors in the set"; "the
  -- smallest set already false, or with a false, or with all successors in the set": why a state is in the set X. Border states join only
  -- by their own value.
  pub data Joins (X : ℕ → Bool) (s : ℕ) : Type 0 where
    already : own s ≡ R.value → Joins X s
    starts : own s ≡ 2 → inner J n s ≡ true → R.start s ≡ 1 → Joins X s
    grows :
        own s ≡ 2
        → inner J n s ≡ true
        → R.grow s ≡ 1
        → over J.structure R.quantifier s X ≡ true
        → Joins X s

  -- The set X of states is the smallest that holds each state that joins it.
  pub record IsSmallest (X : ℕ → Bool) : Type 0 where
    pub states : (s : ℕ) → X s ≡ true → s < size J
    pub joined : (s : ℕ) → s < size J → Joins X s → X s ≡ true
    pub reason : (s : ℕ) → X s ≡ true → Joins X s
    -- "the smallest set may hold no cell already filled with the other value"
    pub no_other : (s : ℕ) → (own s ≡ R.value → ⊥) → (own s ≡ 2 → ⊥) → X s ≡ false
    -- a border state, as every state that is not inner, "counts only by its own value"
    pub border_value : (s : ℕ) → inner J n s ≡ false → X s ≡ true → own s ≡ R.value
    pub within_each : (Y : ℕ → Bool) → ((s : ℕ) → s < size J → Joins Y s → Y s ≡ true) → (s : ℕ) → X s ≡ true → Y s ≡ true

module _ (J : Job) (n : ℕ) (own : ℕ → ℕ) (R : SetRule) (L : List Bool) where
  -- "the largest set of cells each already false, or with b false and either a false or some successor in the set"; "the largest set
  -- already true, or with a true and some successor in the set"; and "no cell of the smallest", L: why a state is in the set X.
  pub data Stays (X : ℕ → Bool) (s : ℕ) : Type 0 where
    other : own s ≡ 1 - R.value → Stays X s
    blocked : own s ≡ 2 → member L s ≡ false → inner J n s ≡ true → R.start s ≡ 0 → R.grow s ≡ 0 → Stays X s
    follows :
        own s ≡ 2
        → member L s ≡ false
        → inner J n s ≡ true
        → R.start s ≡ 0
        → over J.structure (dual R.quantifier) s X ≡ true
        → Stays X s

  -- The set X of states is the largest whose states all stay in it.
  pub record IsLargest (X : ℕ → Bool) : Type 0 where
    pub states : (s : ℕ) → X s ≡ true → s < size J
    pub reason : (s : ℕ) → X s ≡ true → Stays X s
    pub stayed : (s : ℕ) → s < size J → Stays X s → X s ≡ true
    -- a border state, as every state that is not inner, "counts only by its own value"
    pub border_value : (s : ℕ) → inner J n s ≡ false → X s ≡ true → own s ≡ 1 - R.value
    pub holds_each :
        (Y : ℕ → Bool)
        → ((s : ℕ) → Y s ≡ true → s < size J)
        → ((s : ℕ) → Y s ≡ true → Stays Y s)
        → (s : ℕ)
        → Y s ≡ true
        → X s ≡ true
