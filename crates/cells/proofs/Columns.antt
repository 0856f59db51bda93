-- What the step of a node has for a column depends on the cells of the operands at the states that it reads and, by sets, on the
-- column's own cells. Assumes nothing.
use Prim.Native.Nat.{ℕ, ◌+◌, ◌<◌}
use mathlib.Core.Path.{◌≡◌, refl, ap, ap₂}
use mathlib.Core.Bool.{Bool, not, ◌&&◌, ◌||◌}
use mathlib.Core.List.{List, ◌++◌}
use mathlib.Core.Logic.{◌⊎◌, inl, inr}
use native.Mathlib.Omega.{arith}
use lib.ListN.{length, get_or, length-append, get_or-append}
use lib.Seq.{get_or-append-add}
use lib.Dec.{eqb}
use Rattle.law.proofs.Lists.{every_same, some_same, tab_same}
use Rattle.law.proofs.Least.{least_same}
use Rattle.law.proofs.Greatest.{greatest_same}
use Rattle.job.specs.Job.{Job, Quantifier, for_all, exists, dual, over, size}
use Rattle.job.specs.Rule.{asks, operands, quantifier, IsSets, AsksSmaller, InRange}
use Rattle.job.specs.Written.{no_edge, edge_of, edge_count}
use Rattle.job.specs.declared.rule.Condition.{Condition}
use Rattle.job.specs.declared.rule.Condition.TheVariants.{Always, Holds, Fails}
use Rattle.job.specs.declared.rule.Rule.{Rule}
use Rattle.job.specs.declared.rule.Rule.TheVariants.{Atom, Not, And, Next, Sets}
use Rattle.job.proofs.RuleLaws.{asked_smaller, operand_smaller}
use Rattle.cells.specs.SetRule.{SetRule, set_rule, joins, smallest, stays, largest, by_sets}
use Rattle.cells.specs.Step.{opposite, both, next, known, column}

-- A state of the job, or an end of an edge: the states whose cells a step may read.
abbrev pub Read : Job → ℕ → Type 0
Read J s = (s < size J) ⊎ ((e : ℕ) × (e < edge_count J) × ((edge_of J e).to ≡ s))

module _ (J : Job) where
  -- Next: only successors are read.
  pub over_same :
      (q : Quantifier) (s : ℕ) (X Y : ℕ → Bool)
      → ((u : ℕ) → Read J u → X u ≡ Y u)
      → over J.structure q s X ≡ over J.structure q s Y
  unfolding over edge_of edge_count
  over_same for_all s X Y same =
      every_same (λ e. not (eqb e.from s) || X e.to) (λ e. not (eqb e.from s) || Y e.to)
      J.structure.edges no_edge
      (λ i l. ap (λ (b : Bool). not (eqb (edge_of J i).from s) || b) (same (edge_of J i).to (inr (i, l, refl))))
  over_same exists s X Y same =
      some_same (λ e. eqb e.from s && X e.to) (λ e. eqb e.from s && Y e.to)
      J.structure.edges no_edge
      (λ i l. ap (λ (b : Bool). eqb (edge_of J i).from s && b) (same (edge_of J i).to (inr (i, l, refl))))

  pub next_same :
      (n : ℕ) (q : Quantifier) (a b : ℕ → ℕ)
      → ((u : ℕ) → Read J u → a u ≡ b u)
      → (s : ℕ)
      → next J n q a s ≡ next J n q b s
  unfolding next
  next_same n q a b same s =
      rw (
        over_same q s (λ u. eqb (a u) 1) (λ u. eqb (b u) 1) (λ u r. ap (λ (c : ℕ). eqb c 1) (same u r)),
        over_same (dual q) s (λ u. eqb (a u) 0) (λ u. eqb (b u) 0) (λ u r. ap (λ (c : ℕ). eqb c 0) (same u r)),
      )

-- Sets: only states are read.
module _
    (J : Job) (n : ℕ) (own own' : ℕ → ℕ) (R R' : SetRule) (quantifier : R'.quantifier ≡ R.quantifier)
    (value : R'.value ≡ R.value) (owns : (s : ℕ) → s < size J → own' s ≡ own s)
    (starts : (s : ℕ) → s < size J → R'.start s ≡ R.start s) (grows : (s : ℕ) → s < size J → R'.grow s ≡ R.grow s)
  where
    smallest_same : smallest J n own' R' ≡ smallest J n own R
    unfolding smallest joins
    smallest_same =
        least_same (joins J n own' R') (joins J n own R) (size J)
        (λ X s l. rw (quantifier, value, owns s l, starts s l, grows s l))

    largest_same : (L : List Bool) → largest J n own' R' L ≡ largest J n own R L
    unfolding largest stays
    largest_same L =
        greatest_same (stays J n own' R' L) (stays J n own R L) (size J)
        (λ X s l. rw (quantifier, value, owns s l, starts s l, grows s l))

    pub by_sets_same : by_sets J n own' R' ≡ by_sets J n own R
    unfolding by_sets
    by_sets_same = rw (smallest_same, largest_same (smallest J n own R), value)

-- The cells `at` of a node by subformula and state, and other cells `at'`: a column by rule r is the same where the operands' cells are
-- and, where it goes by sets, its own.
module _ (J : Job) (n k : ℕ) (at' at : ℕ → ℕ → ℕ) where
  abbrev pub SameCells : List ℕ → Type 0
  SameCells l = (i : ℕ) → i < length l → (s : ℕ) → Read J s → at' (get_or l i 0) s ≡ at (get_or l i 0) s

  abbrev pub SameOwn : Type 0
  SameOwn = (s : ℕ) → s < size J → at' k s ≡ at k s

  known_reads : (c : Condition) → SameCells (asks c) → (s : ℕ) → s < size J → known at' c s ≡ known at c s
  unfolding known
  known_reads Always same s l = refl
  known_reads (Holds a) same s l = same 0 (omega arith) s (inl l)
  known_reads (Fails a) same s l = ap opposite (same 0 (omega arith) s (inl l))

  same_left : (l m : List ℕ) → SameCells (l ++ m) → SameCells l
  same_left l m same i h s r = rw (get_or-append l m 0 i h) at (same i (omega (arith, length-append l m)) s r)

  same_right : (l m : List ℕ) → SameCells (l ++ m) → SameCells m
  same_right l m same i h s r = rw (get_or-append-add l m i 0) at (same (length l + i) (omega (arith, length-append l m)) s r)

  pub column_reads : (r : Rule) → SameCells (operands r) → (IsSets r → SameOwn) → column J n at' k r ≡ column J n at k r
  unfolding column
  column_reads (Atom j) same own = refl
  column_reads (Not a) same own = tab_same _ _ (size J) 0 (λ s l. ap opposite (same 0 (omega arith) s (inl l)))
  column_reads (And a b) same own =
      tab_same _ _ (size J) 0 (λ s l. ap₂ both (same 0 (omega arith) s (inl l)) (same 1 (omega arith) s (inl l)))
  column_reads (Next all a) same own =
      tab_same _ _ (size J) 0 (λ s l. next_same J n (quantifier all) (at' a) (at a) (same 0 (omega arith)) s)
  column_reads (Sets g) same own =
      by_sets_same J n (at k) (at' k) (set_rule (quantifier g.all) (known at g.start) (known at g.grow) g.value)
      (set_rule (quantifier g.all) (known at' g.start) (known at' g.grow) g.value) refl refl
      (own (record { growth = g; is = refl }))
      (known_reads g.start (same_left (asks g.start) (asks g.grow) same)) (known_reads g.grow (same_right (asks g.start) (asks g.grow) same))

  -- so where the cells of smaller subformulas are the same
  abbrev pub Below : Type 0
  Below = (j : ℕ) → j < k → (s : ℕ) → Read J s → at' j s ≡ at j s

  pub known_below : Below → (c : Condition) → AsksSmaller k c → (s : ℕ) → s < size J → known at' c s ≡ known at c s
  known_below same c o = known_reads c (λ i l. same (get_or (asks c) i 0) (asked_smaller k c o i l))

  pub below_operands : Below → (r : Rule) → InRange k r → SameCells (operands r)
  below_operands same r o i l = same (get_or (operands r) i 0) (operand_smaller k r o i l)

  pub column_same : Below → SameOwn → (r : Rule) → InRange k r → column J n at' k r ≡ column J n at k r
  column_same same own r o = column_reads r (below_operands same r o) (λ sets. own)

-- The column of a rule that goes by sets.
pub sets_column :
    (J : Job) (n : ℕ) (at : ℕ → ℕ → ℕ) (k : ℕ) (r : Rule) (sets : IsSets r)
    → column J n at k r
    ≡ by_sets J n (at k) (set_rule (quantifier sets.growth.all) (known at sets.growth.start) (known at sets.growth.grow) sets.growth.value)
unfolding column
sets_column J n at k r sets = ap (column J n at k) sets.is
