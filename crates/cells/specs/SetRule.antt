-- Document 01, "Step of one node", the sets of the untils, and document 02 (iii), those of EG and AG, as one rule: a quantifier over
-- successors, where the smallest set starts, where it may grow, and the value that its cells take. `start` and `grow` give for each
-- state whether that is so, 2 where it is not known yet. For A(a U b): all successors, b, a, 1. For E(a U b): some, b, a, 1. For EG a:
-- all, a false, everywhere, 0. For AG a: some, a false, everywhere, 0.
-- "On every table the sets are taken under this restriction: the smallest set may hold no cell already filled with the other
-- value, and the largest no cell of the smallest." "Temporal at a border state .. counts only by its own value."
-- Assumes nothing.
use Rattle.std.specs.Prelude.{ℕ, ◌-◌, Bool, cond, not, ◌&&◌, ◌||◌, List, eqb}
use Rattle.law.specs.Lists.{tab}
use Rattle.law.specs.Fixpoint.{Rule, member, least, greatest}
use Rattle.job.specs.Job.{Job, Quantifier, dual, over, size}
use Rattle.cells.specs.Fragment.{inner}
use Rattle.cells.specs.Table.{is_empty}

pub record SetRule : Type 0 where
  pub quantifier : Quantifier
  pub start : ℕ → ℕ
  pub grow : ℕ → ℕ
  pub value : ℕ

abbrev pub set_rule : Quantifier → (ℕ → ℕ) → (ℕ → ℕ) → ℕ → SetRule
set_rule q start grow v = record { quantifier = q; start = start; grow = grow; value = v }

-- The sets of a rule at node n, over the node's own cells of the subformula, by state.
module _ (J : Job) (n : ℕ) (own : ℕ → ℕ) (R : SetRule) where
  -- s joins the smallest set: it has the value already; or it is empty, not border, and starts, or grows with its successors
  unfoldable pub joins : Rule
  joins X s =
      eqb (own s) R.value
      || (is_empty (own s) && inner J n s
      && (eqb (R.start s) 1 || (eqb (R.grow s) 1 && over J.structure R.quantifier s X)))

  unfoldable pub smallest : List Bool
  smallest = least joins (size J)

  -- s stays in the largest set: it has the other value already; or it is empty, not of the smallest set, not border, does not
  -- start, and does not grow or has successors that stay
  unfoldable pub stays : List Bool → Rule
  stays L X s =
      eqb (own s) (1 - R.value)
      || (is_empty (own s) && not (member L s) && inner J n s
      && eqb (R.start s) 0 && (eqb (R.grow s) 0 || over J.structure (dual R.quantifier) s X))

  unfoldable pub largest : List Bool → List Bool
  largest L = greatest (stays L) (size J)

  -- The value of each state's cell by the two sets, 2 in neither.
  unfoldable pub by_sets : List ℕ
  by_sets =
      let L = smallest in
      let G = largest L in
      tab (λ s. cond (member L s) R.value (cond (member G s) (1 - R.value) 2)) (size J)
