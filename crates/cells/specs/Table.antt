-- Document 01, "Fragments and cells": "The table has N × S × K bytes; the cell of node n, state s, subformula k is byte
-- (n × S + s) × K + k. A cell is 0 (false), 1 (true) or 2 (empty). Cells of states outside the node's fragment are always 2.
-- Fresh makes all cells 2." Every change that a call makes to a table is `fill`: empty cells of fragments take a value.
-- Assumes nothing.
use Rattle.std.specs.Prelude.{ℕ, ◌+◌, ◌*◌, ◌/◌, ◌%◌, Bool, cond, not, ◌&&◌, ◌||◌, List, length, get_or, replicate, leb, eqb}
use Rattle.law.specs.Bounded.{all, count}
use Rattle.law.specs.Lists.{tab}
use Rattle.job.specs.Job.{Job, size, subformula_count, owner}
use Rattle.cells.specs.Fragment.{in_fragment}

abbrev pub Table : Type 0
Table = List ℕ

unfoldable pub table_length : Job → ℕ
table_length J = J.nodes * size J * subformula_count J

-- The byte of a cell, and back: the node, the state and the subformula of byte i.
unfoldable pub index : Job → ℕ → ℕ → ℕ → ℕ
index J n s k = (n * size J + s) * subformula_count J + k

unfoldable pub node_of : Job → ℕ → ℕ
node_of J i = i / subformula_count J / size J

unfoldable pub state_of : Job → ℕ → ℕ
state_of J i = i / subformula_count J % size J

unfoldable pub subformula_of : Job → ℕ → ℕ
subformula_of J i = i % subformula_count J

unfoldable pub cell : Job → Table → ℕ → ℕ → ℕ → ℕ
cell J t n s k = get_or t (index J n s k) 0

-- The cell of the state's owner.
unfoldable pub owner_cell : Job → Table → ℕ → ℕ → ℕ
owner_cell J t s k = cell J t (owner J s) s k

unfoldable pub is_empty : ℕ → Bool
is_empty c = eqb c 2

-- Byte i belongs to a state of its node's fragment.
unfoldable pub inside : Job → ℕ → Bool
inside J i = in_fragment J (node_of J i) (state_of J i)

-- Each byte is 0 to 2, and 2 outside fragments.
unfoldable pub cells_right : Job → Table → Bool
cells_right J t = all (λ i. leb (get_or t i 0) 2 && (inside J i || is_empty (get_or t i 0))) (length t)

unfoldable pub fresh_table : Table → Table
fresh_table t = replicate (length t) 2

-- Each empty cell of a fragment takes the value that `new` has for its node, state and subformula, where 2 leaves it empty.
unfoldable pub fill_at : Job → (ℕ → ℕ → ℕ → ℕ) → Table → ℕ → ℕ
fill_at J new t i =
    cond (is_empty (get_or t i 0) && inside J i) (new (node_of J i) (state_of J i) (subformula_of J i)) (get_or t i 0)

unfoldable pub fill : Job → (ℕ → ℕ → ℕ → ℕ) → Table → Table
fill J new t = tab (fill_at J new t) (length t)

-- How many cells are empty in t and filled in u.
unfoldable pub filled : Table → Table → ℕ
filled t u = count (λ i. is_empty (get_or t i 0) && not (is_empty (get_or u i 0))) (length t)

-- "The empty cells are the cells of the nodes' fragments that are 2."
unfoldable pub empty_cells : Job → Table → ℕ
empty_cells J t = count (λ i. is_empty (get_or t i 0) && inside J i) (length t)
