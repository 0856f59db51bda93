-- What a step that leaves out idle columns is given, and what it leaves. Assumes nothing.
use Rattle.std.specs.Prelude.{ℕ, ◌<◌, ◌≡◌, false, get_or}
use Rattle.job.specs.Job.{Job}
use Rattle.cells.specs.Table.{Table}
use Rattle.cells.specs.Step.{step_column, step_table}
use Rattle.cells.specs.Rest.{column_flag, Rested, TellsChanges, Mark}
use Rattle.image.specs.Denoted.{job_of}
use Rattle.image.specs.declared.image.Image.{Image}
use Rattle.pending.specs.declared.Pending.{Pending}
use Rattle.table.specs.Lent.{Ready}
use Rattle.table.specs.Filling.{Leaves}

-- A node of an image with what is pending.
pub record Resting (m : Image) (t : Table) (n : ℕ) (p : Pending) : Type 0 where
  pub ready : Ready m t
  pub node_in : n < (job_of m).nodes
  pub rested : Rested (job_of m) n p.stale t

-- A column is stepped, and marked if cells of it were filled.
pub record ColumnWorked (J : Job) (n k : ℕ) (t : Table) (p : Pending) (after : Table) (p' : Pending) (told : ℕ)
    : Type 0 where
  pub leaves : Leaves t (step_column J n k t) after told
  pub stale_marked : Mark t after (column_flag n k) p.stale p'.stale
  pub news_marked : Mark t after k p.news p'.news

-- A node is stepped: none of its columns is stale any more, and a subformula without news had none before and has the same cells.
pub record Worked (J : Job) (n : ℕ) (t : Table) (p : Pending) (after : Table) (p' : Pending) (told : ℕ)
    : Type 0 where
  pub leaves : Leaves t (step_table J n t) after told
  pub row_clear : (k : ℕ) → k < 32 → get_or p'.stale (column_flag n k) false ≡ false
  pub rows_kept : (m k : ℕ) → k < 32 → (m ≡ n → ⊥) → get_or p'.stale (column_flag m k) false ≡ get_or p.stale (column_flag m k) false
  pub news_marked : TellsChanges J n (λ k. k) p.news t p'.news after
