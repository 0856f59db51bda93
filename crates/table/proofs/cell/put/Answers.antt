-- `put`: by its tests.
use native.Mathlib.Omega.{arith}
use Rattle.table.proofs.CellLaws.{put_full, put_two, put_done}
use Rattle.table.proofs.cell.put.Goals as goal

pub returns-then-table-at-ne2 : goal.returns-then-table-at-ne2
returns-then-table-at-ne2 c = record { leaves = put_full _ _ _ _ _ _ _ c.cell_at-at.ensures.0 c.if-table-at-ne2.true; upper_bound = omega arith }

pub returns-then-v-eq2 : goal.returns-then-v-eq2
returns-then-v-eq2 c = record { leaves = put_two _ _ _ _ _ _ c.if-v-eq2.true; upper_bound = omega arith }

pub returns : goal.returns
returns c =
    record {
      leaves = put_done _ _ _ _ _ _ _ c.cell_at-at.ensures.0 c.requires.lent.long c.requires.cell c.requires.s_value
          c.if-table-at-ne2.false c.if-v-eq2.false;
      upper_bound = omega arith;
    }
