-- What copying that leaves out subformulas without news leaves. Assumes nothing.
use Rattle.std.specs.Prelude.{ℕ, ◌<◌, ◌≡◌, Bool, false, cond, ◌&&◌, List, get_or}
use Rattle.job.specs.Job.{Job, subformula_count}
use Rattle.cells.specs.Fragment.{border}
use Rattle.cells.specs.Table.{Table, owner_cell}
use Rattle.cells.specs.Close.{is_temporal, copy_table}
use Rattle.cells.specs.Rest.{column_flag, TellsChanges}
use Rattle.pending.specs.declared.Pending.{Pending}
use Rattle.table.specs.Filling.{Leaves, Cells, Values, part, of_subformula}

-- What copying has for a cell: at a border state the owner's cell of a temporal subformula.
unfoldable pub copied : Job → Table → Values
copied J t n s k = cond (border J n s && is_temporal J k) (owner_cell J t s k) 2

-- The cells that pass a test are copied: a column that is not stale was not so before and has the same cells.
pub record PartCopied (J : Job) (keep : Cells) (t : Table) (stale : List Bool) (after : Table) (stale' : List Bool) (told : ℕ) : Type 0 where
  pub leaves : Leaves t (part J keep (copied J t) t) after told
  pub stale_marked : (n : ℕ) → TellsChanges J n (column_flag n) stale t stale' after

-- A subformula is copied, and has no news any more.
pub record NewsTaken (J : Job) (k : ℕ) (t : Table) (p : Pending) (after : Table) (p' : Pending) (told : ℕ) : Type 0 where
  pub part_copied : PartCopied J (of_subformula k) t p.stale after p'.stale told
  pub news_clear : get_or p'.news k false ≡ false
  pub news_rest : (j : ℕ) → (j ≡ k → ⊥) → get_or p'.news j false ≡ get_or p.news j false

-- All are copied: no subformula has news, and a column that is not stale was not so before and has the same cells.
pub record NewsCopied (J : Job) (t : Table) (p : Pending) (after : Table) (p' : Pending) (told : ℕ) : Type 0 where
  pub leaves : Leaves t (copy_table J t) after told
  pub stale_marked : (n : ℕ) → TellsChanges J n (column_flag n) p.stale t p'.stale after
  pub news_clear : (k : ℕ) → k < subformula_count J → get_or p'.news k false ≡ false
