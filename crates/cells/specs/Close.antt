-- Document 01, "Messages, closing, finishing": copying between nodes, accept, settled and close. Assumes nothing.
use Rattle.std.specs.Prelude.{ℕ, Bool, cond, not, ◌&&◌, length, get_or, eqb, ltb}
use Rattle.law.specs.Bounded.{first, all, any}
use Rattle.job.specs.Job.{Job, size, subformula_count}
use Rattle.job.specs.Rule.{rule_at, temporal, closed_value}
use Rattle.cells.specs.Fragment.{border}
use Rattle.cells.specs.Table.{Table, node_of, state_of, subformula_of, owner_cell, is_empty, fill, filled}
use Rattle.cells.specs.Step.{step_table}

unfoldable pub is_temporal : Job → ℕ → Bool
is_temporal J k = temporal (rule_at J k)

-- "Accept names a node and a message and fills that node's cell if empty."
unfoldable pub accept_table : Job → ℕ → ℕ → ℕ → ℕ → Table → Table
accept_table J n s k v t = fill J (λ m u j. cond (eqb m n && eqb u s && eqb j k) v 2) t

-- "Every owner's filled temporal cell is copied into the empty cells for it at border states."
unfoldable pub copy_table : Job → Table → Table
copy_table J t = fill J (λ m s k. cond (border J m s && is_temporal J k) (owner_cell J t s k) 2) t

-- "no step of any node would fill a cell"
unfoldable pub steps_done : Job → Table → Bool
steps_done J t = all (λ n. eqb (filled t (step_table J n t)) 0) J.nodes

-- "no temporal cell is filled at its owner and empty at a node where that state is border"
unfoldable pub copies_done : Job → Table → Bool
copies_done J t =
    all
    (λ i.
    not
    (is_empty (get_or t i 0) && border J (node_of J i) (state_of J i) && is_temporal J (subformula_of J i)
    && not (is_empty (owner_cell J t (state_of J i) (subformula_of J i)))))
    (length t)

unfoldable pub settled : Job → Table → Bool
settled J t = steps_done J t && copies_done J t

-- Some owner's cell of k is empty.
unfoldable pub open? : Job → Table → ℕ → Bool
open? J t k = any (λ s. is_empty (owner_cell J t s k)) (size J)

-- "the smallest number k for which some owner's cell is empty", K where there is none
unfoldable pub smallest_open : Job → Table → ℕ
smallest_open J t = first (open? J t) (subformula_count J)

unfoldable pub some_open : Job → Table → Bool
some_open J t = ltb (smallest_open J t) (subformula_count J)

-- "makes every empty cell of k in every fragment 0", document 02 (iii): "0 for kinds 6 and 7, 1 for kinds 8 and 9": the value that its
-- smallest set does not give
unfoldable pub close_table : Job → Table → Table
close_table J t = let k = smallest_open J t in fill J (λ m s j. cond (eqb j k) (closed_value (rule_at J k)) 2) t
