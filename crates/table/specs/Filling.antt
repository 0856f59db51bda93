-- Filling some cells of a table: those that pass a test. Assumes nothing.
use Rattle.std.specs.Prelude.{ℕ, ◌≤◌, ◌≡◌, Bool, true, cond, ◌&&◌, List, eqb, ltb}
use Rattle.std.specs.Borrow.{Bor}
use Rattle.job.specs.Job.{Job}
use Rattle.cells.specs.Fragment.{in_fragment}
use Rattle.cells.specs.Table.{Table, cell, fill, filled}
use Rattle.image.specs.Image.{rank}
use Rattle.image.specs.Denoted.{job_of}
use Rattle.image.specs.declared.image.Image.{Image}
use Rattle.table.specs.Lent.{Lent, IsCell}

-- The table that is left is the one that is wanted, and as many cells are filled as are told.
pub record Leaves (t wanted after : Table) (told : ℕ) : Type 0 where
  pub table_is : after ≡ wanted
  pub told_is : told ≡ filled t wanted

abbrev pub Cells : Type 0
Cells = ℕ → ℕ → ℕ → Bool

abbrev pub Values : Type 0
Values = ℕ → ℕ → ℕ → ℕ

unfoldable pub part : Job → Cells → Values → Table → Table
part J keep new t = fill J (λ m s k. cond (keep m s k) (new m s k) 2) t

-- The cells of one node and one subformula; of these the ones at states of rank below i in the node's fragment; those of one subformula.
unfoldable pub of_column : ℕ → ℕ → Cells
of_column n k m s j = eqb m n && eqb j k

unfoldable pub up_to : Job → ℕ → ℕ → ℕ → Cells
up_to J n k i m s j = eqb m n && eqb j k && ltb (rank J n s) i

unfoldable pub of_subformula : ℕ → Cells
of_subformula k m s j = eqb j k

-- Of these the cells of the nodes below i.
unfoldable pub up_to_node : ℕ → ℕ → Cells
up_to_node k i m s j = ltb m i && eqb j k

-- A closure that is asked for the values of a column: it may be asked for each state of the fragment, beside each table that is lent,
abbrev pub Askable : Image → ℕ → ℕ → (Bor (List ℕ) → ℕ → Type 0) → Type 0
Askable m n k may_ask =
    (u : Bor (List ℕ)) (s : ℕ) → Lent m u.now → IsCell (job_of m) n s k → in_fragment (job_of m) n s ≡ true → may_ask u s

-- and it gives the new values, beside each table in which the column is filled up to a state whose cell is as before.
abbrev pub Gives : Job → Table → Values → ℕ → ℕ → (Bor (List ℕ) → ℕ → ℕ → Type 0) → Type 0
Gives J t new n k answers =
    (u : Bor (List ℕ)) (s r c i : ℕ)
    → Leaves t (part J (up_to J n k i) new t) u.now c
    → IsCell J n s k
    → cell J u.now n s k ≡ cell J t n s k
    → answers u s r
    → r ≡ new n s k

-- The loops that fill a column along its fragment's list, at rank i, and the columns of a subformula, at node i: the table and the count then.
pub record Filling (m : Image) (t : Table) (new : Values) (n k i : ℕ) (u : Table) (c : ℕ) : Type 0 where
  pub lent : Lent m u
  pub leaves : Leaves t (part (job_of m) (up_to (job_of m) n k i) new t) u c
  pub few : c ≤ i

pub record FillingNodes (m : Image) (t : Table) (new : Values) (k i : ℕ) (u : Table) (c : ℕ) : Type 0 where
  pub lent : Lent m u
  pub leaves : Leaves t (part (job_of m) (up_to_node k i) new t) u c
  pub few : c ≤ 65536
