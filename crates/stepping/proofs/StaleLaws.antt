-- One column of a node: which marks bear on it, and what becomes of it. Assumes nothing.
use Prim.Native.Nat.{ℕ, ◌<◌}
use mathlib.Core.Path.{◌≡◌, refl, sym, ◌∙◌, ap₂}
use mathlib.Core.Bool.{Bool, true, false, ◌||◌}
use mathlib.Core.List.{List, [], ◌∷◌, ◌++◌}
use native.Mathlib.Omega.{arith}
use Rattle.law.specs.Lists.{some}
use Rattle.law.proofs.Bool.{or_left, or_false}
use Rattle.law.proofs.Lists.{some_append}
use Rattle.job.specs.Job.{Job, subformula_count}
use Rattle.job.specs.Rule.{rule_at, operands}
use Rattle.job.specs.declared.rule.Rule.{Rule}
use Rattle.cells.specs.Table.{Table}
use Rattle.cells.specs.Step.{step_column}
use Rattle.cells.specs.Rest.{column_flag, is_stale, reads, bears, FlagIs}
use Rattle.cells.proofs.Grown.{step_column_grown}
use Rattle.cells.proofs.Counts.{filled_same, filled_none}
use Rattle.cells.proofs.Tracked.{mark_none, mark_set}
use Rattle.image.specs.Denoted.{job_of}
use Rattle.image.specs.declared.image.Image.{Image}
use Rattle.image.proofs.ImageLaws.{image_job}
use Rattle.pending.specs.declared.Pending.{Pending}
use Rattle.table.specs.Filling.{Leaves}
use Rattle.stepping.specs.Stale.{Resting, ColumnWorked}

-- The columns that a condition asks for, by its case.
module _ (stale : List Bool) (n : ℕ) where
  pub asks_none : false ≡ some (is_stale stale n) []
  unfolding some
  asks_none = refl

  pub asks_one : (a : ℕ) {r : Bool} → r ≡ is_stale stale n a → r ≡ some (is_stale stale n) (a ∷ [])
  unfolding some
  asks_one a one = one ∙ sym (or_false (is_stale stale n a))

-- By the column's own mark, and by those of its operands.
module _ (stale : List Bool) (n k : ℕ) (rule : Rule) where
  pub bears_own : is_stale stale n k ≡ true → true ≡ bears stale n k rule
  unfolding bears reads some
  bears_own e = sym (or_left (is_stale stale n k) (some (is_stale stale n) (operands rule)) e)

  bears_by : (l : List ℕ) → is_stale stale n k ≡ false → operands rule ≡ l → some (is_stale stale n) l ≡ bears stale n k rule
  unfolding bears reads some
  bears_by l e is = simp (e, is)

  pub bears_none : is_stale stale n k ≡ false → operands rule ≡ [] → false ≡ bears stale n k rule
  unfolding some
  bears_none e is = bears_by [] e is

  pub bears_one : (a : ℕ) (r : Bool) → is_stale stale n k ≡ false → operands rule ≡ a ∷ [] → r ≡ is_stale stale n a → r ≡ bears stale n k rule
  bears_one a r e is one = asks_one stale n a one ∙ bears_by (a ∷ []) e is

  pub bears_both :
      (l m : List ℕ) {x y : Bool}
      → is_stale stale n k ≡ false
      → operands rule ≡ l ++ m
      → x ≡ some (is_stale stale n) l
      → y ≡ some (is_stale stale n) m
      → (x || y) ≡ bears stale n k rule
  bears_both l m e is left right =
      ap₂ ◌||◌ left right ∙ sym (some_append (is_stale stale n) l m) ∙ bears_by (l ++ m) e is

-- One column.
module _ {m : Image} {t : Table} {n : ℕ} {p : Pending} (w : Resting m t n p) (k : ℕ) (l : k < subformula_count (job_of m)) where
  abbrev J : Job
  J = job_of m

  pub column_numbers : (n < 8) × (k < 32)
  column_numbers =
      let node = w.node_in in
      let nodes = (image_job m).nodes.below in
      let subformulas = (image_job m).subformulas.below in
      (omega arith, omega arith)

  -- left out
  pub column_left : (rule : Rule) → rule ≡ rule_at J k → bears p.stale n k rule ≡ false → ColumnWorked J n k t p t p 0
  column_left rule is none =
      let idle = w.rested k l (rw is at none) in
      record {
        leaves = record { table_is = sym idle; told_is = sym (rw idle (filled_same t)) };
        stale_marked = mark_none t (column_flag n k) p.stale t refl;
        news_marked = mark_none t k p.news t refl;
      }

  module _ (after : Table) (r : ℕ) (leaves : Leaves t (step_column J n k t) after r) where
    -- worked, and nothing is filled
    pub column_idle : r ≡ 0 → ColumnWorked J n k t p after p 0
    column_idle none =
        let idle = filled_none J t (step_column J n k t) (step_column_grown J n k t) (sym leaves.told_is ∙ none) in
        let same = leaves.table_is ∙ idle in
        record {
          leaves = record { table_is = leaves.table_is; told_is = sym none ∙ leaves.told_is };
          stale_marked = mark_none t (column_flag n k) p.stale after same;
          news_marked = mark_none t k p.news after same;
        }

    -- marked, and then its news told
    pub column_marked :
        {p' p'' : Pending}
        → FlagIs (column_flag n k) true p.stale p'.stale
        → p'.news ≡ p.news
        → p''.stale ≡ p'.stale
        → FlagIs k true p'.news p''.news
        → ColumnWorked J n k t p after p'' r
    column_marked {p'} {p''} marked news_same stale_same told =
        record {
          leaves = leaves;
          stale_marked = rw stale_same (mark_set t (column_flag n k) p.stale after p'.stale marked);
          news_marked = mark_set t k p.news after p''.news (rw news_same at told);
        }
