-- The two sets of a set rule as least sets that spread from marks, and arrays that hold the marks of a node's fragment. Assumes nothing.
use Rattle.std.specs.Prelude.{ℕ, ◌-◌, ◌<◌, ◌≡◌, Bool, cond, ◌&&◌, ◌||◌, List, length, get_or, eqb, ltb}
use Rattle.std.specs.List.{list_any}
use Rattle.law.specs.Fixpoint.{member, least}
use Rattle.law.specs.Fixpoint as fixpoint
use Rattle.job.specs.Job.{Job, over, size}
use Rattle.job.specs.Rule.{quantifier}
use Rattle.job.specs.declared.rule.Condition.{Condition}
use Rattle.job.specs.declared.rule.Condition.TheVariants.{Always, Holds, Fails}
use Rattle.job.specs.declared.rule.Rule.{Rule}
use Rattle.job.specs.declared.rule.Rule.TheVariants.{Sets}
use Rattle.cells.specs.Fragment.{in_fragment, inner}
use Rattle.cells.specs.Table.{Table, cell, is_empty}
use Rattle.cells.specs.Step.{known}
use Rattle.image.specs.Image.{rank, fragment}
use Rattle.table.specs.Column.{cells_of}
use Rattle.table.specs.Filling.{Values}
use Rattle.table.specs.Lent.{IsCell}
use Rattle.job.specs.declared.rule.Growth.{Growth}
use Rattle.sets.specs.declared.sets.WantedCell.{WantedCell}
use Rattle.sets.specs.declared.sets.Marking.{Marking}

-- The rule that grows so.
abbrev pub rule_by : Growth → Rule
rule_by g = Sets g

-- The mark of a state of which nothing is known.
abbrev pub unknown : Bool → ℕ
unknown wide = cond wide 2 0

-- A state's mark by whether it is inner, its own cell and whether it starts and may grow: 2 where it starts in the set, 1 where it may join,
-- else another.
unfoldable pub mark : Bool → ℕ → Bool → ℕ → Bool → Bool → ℕ
mark wide v inside own starts grows =
    cond (eqb own v) 2 (cond (is_empty own) (cond inside (cond starts 2 (cond grows 1 0)) (unknown wide)) 0)

-- Where v is wanted, whether what is not known yet counts as it: where it doesn't, the smallest set grows; where it does, what the largest
-- leaves out.
abbrev pub counts : Bool → ℕ → ℕ → Bool
counts wide v x = eqb x v || (wide && eqb x 2)

-- The cell that a condition of subformula k reads where the cell of k is empty, and its value where the condition is met.
abbrev pub wanted : ℕ → Condition → WantedCell
wanted k Always = record { subformula = k; value = 2 }
wanted k (Holds a) = record { subformula = a; value = 1 }
wanted k (Fails a) = record { subformula = a; value = 0 }

-- What the states of column k are marked by, for a set that grows so.
abbrev pub marking_of : ℕ → Growth → Bool → Marking
marking_of k g wide =
    record { own = record { subformula = k; value = g.value }; start = wanted k g.start; grow = wanted k g.grow; wide = wide }

-- The cells that are read for a state's mark are cells of the table,
pub record CellsIn (J : Job) (n s : ℕ) (by : Marking) : Type 0 where
  pub own_in : IsCell J n s by.own.subformula
  pub start_in : IsCell J n s by.start.subformula
  pub grow_in : IsCell J n s by.grow.subformula

-- and its mark by them.
abbrev pub mark_by : Job → Table → ℕ → ℕ → Marking → ℕ
mark_by J t n s by =
    mark by.wide by.own.value (inner J n s) (cell J t n s by.own.subformula)
    (counts by.wide by.start.value (cell J t n s by.start.subformula))
    (counts by.wide by.grow.value (cell J t n s by.grow.subformula))

-- The column of node n and subformula k, over the cells of the table t: the marks by state, and how a set grows by them.
module _ (J : Job) (t : Table) (n k : ℕ) (g : Growth) (wide : Bool) where
  abbrev pub mark_at : ℕ → ℕ
  mark_at s =
      mark wide g.value (inner J n s) (cell J t n s k) (counts wide 1 (known (cells_of J t n) g.start s))
      (counts wide 1 (known (cells_of J t n) g.grow s))

  unfoldable pub grows : fixpoint.Rule
  grows X s = eqb (mark_at s) 2 || (eqb (mark_at s) 1 && over J.structure (quantifier g.all) s X)

  -- An array has 2 at the states of the set that grows so.
  pub record IsSet (marks : List ℕ) : Type 0 where
    pub has : (s : ℕ) → s < size J → eqb (get_or marks s 0) 2 ≡ member (least grows (size J)) s

-- An array has f at the states of rank below i in node n's fragment, and d everywhere else.
pub record Marks (J : Job) (n : ℕ) (f : ℕ → ℕ) (d i : ℕ) (marks : List ℕ) : Type 0 where
  pub long : length marks ≡ 256
  pub at_state : (s : ℕ) → s < 256 → get_or marks s 0 ≡ cond (in_fragment J n s && ltb (rank J n s) i) (f s) d

-- Some state of the fragment has an empty cell.
abbrev pub has_empty : Job → Table → ℕ → ℕ → Bool
has_empty J t n k = list_any (λ s. is_empty (cell J t n s k)) (fragment J n)

-- A state's value by its marks in the end: in the smallest set, left out of the largest, or in the largest.
unfoldable pub set_value : ℕ → ℕ → ℕ → ℕ
set_value v small out = cond (eqb small 2) v (cond (eqb out 2) 2 (1 - v))

abbrev pub set_values : ℕ → List ℕ → List ℕ → Values
set_values v small out m s j = set_value v (get_or small s 0) (get_or out s 0)
