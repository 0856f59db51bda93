-- Document 02 (ii), "an unnamed node means the owner", on a job worked out by hand: 0 -> 1 -> 2 -> 2 with EX p0, where p0 holds
-- at 2; node 0 owns 0, so that its fragment is 0 and 1; node 1 owns 1 and 2 and has stepped, node 0 has not. Computed from the
-- definitions alone, as the printed cases are; `look_without_node_lem` of `proofs/Printed.antt` shows it. Assumes nothing.
use Rattle.std.specs.Prelude.{[], ◌∷◌}
use Rattle.cells.specs.Calls.{fresh, step, accept, look}
use Rattle.cells.specs.Cases.{Case}

unfoldable pub look_without_node : Case
look_without_node =
    record {
      job = "    3    3    2    2\n    0    0\n    1    0\n    1    1\n    0    1\n    1    2\n    2    2\n    1    0    0\n    5    0    0\n";
      calls =
          fresh ∷ step 1
          -- the owner's cell is filled; node 0's is empty, and read where node 0 is named
          ∷ look 255 1 1
          ∷ look 0 1 1
          -- node 0's fragment has no state 2
          ∷ look 255 2 1
          ∷ look 0 2 1
          -- there is no state 3 and no subformula 2: no owner is sought
          ∷ look 255 3 1
          ∷ look 255 2 2
          -- no other number is read so, and no other call
          ∷ look 254 2 1
          ∷ look 256 2 1
          ∷ step 255
          ∷ accept 255 1 1 1
          ∷ [];
      told =
          (0 ∷ 0 ∷ []) ∷ (0 ∷ 0 ∷ 4 ∷ [])
          ∷ (0 ∷ 0 ∷ 1 ∷ [])
          ∷ (0 ∷ 0 ∷ 2 ∷ [])
          ∷ (0 ∷ 0 ∷ 1 ∷ [])
          ∷ (18 ∷ 0 ∷ 0 ∷ [])
          ∷ (12 ∷ 0 ∷ 0 ∷ [])
          ∷ (12 ∷ 0 ∷ 0 ∷ [])
          ∷ (11 ∷ 0 ∷ 0 ∷ [])
          ∷ (11 ∷ 0 ∷ 0 ∷ [])
          ∷ (11 ∷ 0 ∷ 0 ∷ [])
          ∷ (11 ∷ 0 ∷ 0 ∷ [])
          ∷ [];
      cells = 2 ∷ 2 ∷ 2 ∷ 2 ∷ 2 ∷ 2 ∷ 2 ∷ 2 ∷ 0 ∷ 1 ∷ 1 ∷ 1 ∷ [];
    }
