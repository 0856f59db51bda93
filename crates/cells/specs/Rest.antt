-- Columns, the cells of one node and one subformula, that a step or a copying may leave out because it would fill nothing there.
-- `stale` has a flag for each column of which a cell was filled since its node was last stepped, and `news` for each subformula of which
-- a cell was filled since the last copying. No call's contract cites these. Assumes nothing.
use Rattle.std.specs.Prelude.{ℕ, ◌+◌, ◌*◌, ◌<◌, ◌≡◌, Bool, true, false, List, ◌∷◌, get_or}
use Rattle.law.specs.Lists.{some}
use Rattle.job.specs.Job.{Job, size, subformula_count}
use Rattle.job.specs.Rule.{rule_at, operands}
use Rattle.job.specs.declared.rule.Rule.{Rule}
use Rattle.cells.specs.Fragment.{border}
use Rattle.cells.specs.Table.{Table, cell, owner_cell}
use Rattle.cells.specs.Step.{step_column}
use Rattle.cells.specs.Close.{is_temporal}

-- Where the flag of a column stands in `stale`: 32 for each node.
abbrev pub column_flag : ℕ → ℕ → ℕ
column_flag n k = n * 32 + k

unfoldable pub is_stale : List Bool → ℕ → ℕ → Bool
is_stale stale n k = get_or stale (column_flag n k) false

-- The subformulas whose cells the step of a node reads for column k, by its rule.
unfoldable pub reads : ℕ → Rule → List ℕ
reads k r = k ∷ operands r

-- Something stale bears on column k of node n, by its rule.
unfoldable pub bears : List Bool → ℕ → ℕ → Rule → Bool
bears stale n k r = some (is_stale stale n) (reads k r)

-- The step of node n would fill nothing in a column on which nothing stale bears.
abbrev pub Rested : Job → ℕ → List Bool → Table → Type 0
Rested J n stale t =
    (k : ℕ) → k < subformula_count J → bears stale n k (rule_at J k) ≡ false → step_column J n k t ≡ t

-- Copying would fill nothing of subformula k: none of its temporal cells is filled at its owner and empty at a border state.
abbrev pub Copied : Job → Table → ℕ → Type 0
Copied J t k =
    (n s : ℕ)
    → n < J.nodes
    → s < size J
    → border J n s ≡ true
    → is_temporal J k ≡ true
    → cell J t n s k ≡ 2
    → owner_cell J t s k ≡ 2

-- Copying would fill nothing of a subformula without news.
abbrev pub Exchanged : Job → List Bool → Table → Type 0
Exchanged J news t = (k : ℕ) → k < subformula_count J → get_or news k false ≡ false → Copied J t k

-- Both marks are right about the table.
pub record Tracked (J : Job) (stale news : List Bool) (t : Table) : Type 0 where
  pub rested : (n : ℕ) → n < J.nodes → Rested J n stale t
  pub exchanged : Exchanged J news t

-- A column has the same cells in both tables.
abbrev pub SameColumn : Job → ℕ → ℕ → Table → Table → Type 0
SameColumn J n k t u = (s : ℕ) → s < size J → cell J u n s k ≡ cell J t n s k

-- Between two tables the columns of node n that differ were marked, column k by the flag `at k`: a column without a mark had none before.
abbrev pub TellsChanges : Job → ℕ → (ℕ → ℕ) → List Bool → Table → List Bool → Table → Type 0
TellsChanges J n at before t after u =
    (k : ℕ) → k < subformula_count J → get_or after (at k) false ≡ false → (get_or before (at k) false ≡ false) × SameColumn J n k t u

-- The flag at i is v, and the others are as they were.
pub record FlagIs (i : ℕ) (v : Bool) (before after : List Bool) : Type 0 where
  pub written : get_or after i false ≡ v
  pub rest : (j : ℕ) → (j ≡ i → ⊥) → get_or after j false ≡ get_or before j false

-- One flag is set if the tables differ, the others are as they were.
pub record Mark (t u : Table) (i : ℕ) (before after : List Bool) : Type 0 where
  pub rest : (j : ℕ) → (j ≡ i → ⊥) → get_or after j false ≡ get_or before j false
  pub here : get_or after i false ≡ false → (get_or before i false ≡ false) × (u ≡ t)

-- The flags `at 0`, `at 1`, .., i of them, are v, and the others as they were.
pub record FlagsAre (at : ℕ → ℕ) (v : Bool) (i : ℕ) (before after : List Bool) : Type 0 where
  pub written : (j : ℕ) → j < i → get_or after (at j) false ≡ v
  pub rest : (b : ℕ) → ((j : ℕ) → j < i → b ≡ at j → ⊥) → get_or after b false ≡ get_or before b false
