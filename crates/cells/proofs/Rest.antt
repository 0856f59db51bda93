-- Columns on which nothing stale bears are idle, and stay so: a column reads its own cells and its operands', so it is idle again
-- where these are as they were; after the step of a node all its columns are idle. Assumes nothing.
use Prim.Native.Nat.{ℕ, zero, suc, ◌<◌}
use mathlib.Core.Path.{◌≡◌, sym, ◌∙◌, ap}
use mathlib.Core.Bool.{Bool, true, false}
use mathlib.Core.List.{List}
use native.Mathlib.Nat.{le_refl}
use native.Mathlib.Omega.{arith}
use lib.ListN.{length, get_or}
use Rattle.law.specs.Lists.{some}
use Rattle.law.proofs.Bool.{split, clash}
use Rattle.law.proofs.Lists.{some_intro, some_none}
use Rattle.job.specs.Job.{Job, subformula_count}
use Rattle.job.specs.Rule.{rule_at, InRange}
use Rattle.job.specs.Written.{IsJob}
use Rattle.job.specs.declared.rule.Rule.{Rule}
use Rattle.job.proofs.RuleLaws.{operand_smaller}
use Rattle.cells.specs.Table.{Table, cell}
use Rattle.cells.specs.Step.{step_column, step_table}
use Rattle.cells.specs.Rest.{column_flag, is_stale, reads, bears, Rested, SameColumn, TellsChanges}
use Rattle.cells.proofs.Columns.{column_reads}
use Rattle.cells.proofs.Local.{column_of, read_lt}
use Rattle.cells.proofs.Idle.{step_column_idle, idle_column, step_table_column}

-- A column reads no subformula above its own.
reads_within : (k : ℕ) (r : Rule) → InRange k r → (i : ℕ) → i < length (reads k r) → get_or (reads k r) i 0 < suc k
unfolding reads
reads_within k r o zero h = le_refl (suc k)
reads_within k r o (suc i) h = omega (arith, operand_smaller k r o i (omega arith))

module _ (J : Job) (job : IsJob J) (n : ℕ) where
  -- The columns that column k reads are the same in both tables.
  abbrev pub SameReads : ℕ → Table → Table → Type 0
  SameReads k t u = (i : ℕ) → i < length (reads k (rule_at J k)) → SameColumn J n (get_or (reads k (rule_at J k)) i 0) t u

  -- Then the step has the same for it, and it is idle in one where it is in the other.
  pub column_of_same : (t u : Table) (k : ℕ) → SameReads k t u → column_of J n k u ≡ column_of J n k t
  unfolding reads
  column_of_same t u k same =
      column_reads J n k (λ j s. cell J u n s j) (λ j s. cell J t n s j) (rule_at J k)
      (λ i h s r. same (suc i) (omega arith) s (read_lt J job.operands (λ e g. (job.ends e g).1) n s r)) (λ sets. same 0 (omega arith))

  pub idle_same : (t u : Table) (k : ℕ) → k < subformula_count J → SameReads k t u → step_column J n k t ≡ t → step_column J n k u ≡ u
  unfolding reads
  idle_same t u k l same idle =
      let own : SameColumn J n k t u = same 0 (omega arith) in
      step_column_idle J n k u
      (λ s b e o. ap (λ values. get_or values s 2) (column_of_same t u k same) ∙ idle_column J n k t idle l s b (sym (own s b) ∙ e) o)

  -- What nothing stale bears on reads no marked column.
  unmarked :
      (stale : List Bool) (k : ℕ) (r : Rule)
      → bears stale n k r ≡ false
      → (i : ℕ)
      → i < length (reads k r)
      → get_or stale (column_flag n (get_or (reads k r) i 0)) false ≡ false
  unfolding bears is_stale
  unmarked stale k r none i h =
      split (is_stale stale n (get_or (reads k r) i 0))
      (λ e. clash (some (is_stale stale n) (reads k r)) (some_intro (is_stale stale n) (reads k r) 0 i h e) none)
      (λ e. e)

  no_mark : (stale : List Bool) (k : ℕ) → get_or stale (column_flag n k) false ≡ false → is_stale stale n k ≡ false
  unfolding is_stale
  no_mark stale k e = e

  -- A table that differs only in columns that are marked now.
  pub rested_kept :
      (t u : Table) (stale stale' : List Bool)
      → Rested J n stale t
      → TellsChanges J n (column_flag n) stale t stale' u
      → Rested J n stale' u
  unfolding bears
  rested_kept t u stale stale' rested marks k l none =
      let r = rule_at J k in
      let read = get_or (reads k r) in
      let kept : (i : ℕ) → i < length (reads k r) → (get_or stale (column_flag n (read i 0)) false ≡ false) × SameColumn J n (read i 0) t u =
      λ i h.
      let low = reads_within k r (job.operands k l) i h in
      marks (read i 0) (omega arith) (unmarked stale' k r none i h) in
      idle_same t u k l (λ i h. (kept i h).1)
      (rested k l (some_none (is_stale stale n) (reads k r) 0 (λ i h. no_mark stale (read i 0) (kept i h).0)))

  -- The step of the node leaves it so, whatever the marks.
  pub stepped_rested : (t : Table) (stale : List Bool) → Rested J n stale (step_table J n t)
  stepped_rested t stale k l none = step_table_column J job.operands n k l t

  -- With all marks set nothing is said.
  pub marked_rested : (t : Table) (stale : List Bool) → ((k : ℕ) → k < subformula_count J → get_or stale (column_flag n k) false ≡ true) → Rested J n stale t
  unfolding reads
  marked_rested t stale all k l none =
      clash (get_or stale (column_flag n k) false) (all k l) (unmarked stale k (rule_at J k) none 0 (omega arith))
