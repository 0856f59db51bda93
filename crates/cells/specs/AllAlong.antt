-- Document 02 (iii), "rules that hold all along", on jobs worked out by hand. Computed from the definitions alone, as the printed cases are;
-- `all_along_lem` and `could_join_both_lem` of `proofs/Printed.antt` show them. Assumes nothing.
use Rattle.std.specs.Prelude.{List, [], ◌∷◌}
use Prim.Native.String.{String}
use Rattle.cells.specs.Table.{Table}
use Rattle.cells.specs.Calls.{fresh, step, close, finish}
use Rattle.cells.specs.Cases.{Case, verdict_calls}

-- EG p0 on a ring of two states, one for each node, with p0 at both: no step sees all of the ring
unfoldable pub ring_job : String
ring_job = "    2    2    2    2\n    0    1\n    1    1\n    0    1\n    1    0\n    1    0    0\n    8    0    0\n"

-- AG p0 => A[p0 U p1] on the same ring, as not (AG p0 and not A(p0 U p1))
unfoldable pub implies_job : String
implies_job = "    2    2    7    2\n    0    1\n    1    1\n    0    1\n    1    0\n    1    0    0\n    9    0    0\n    1    1    0\n    6    0    2\n    2    3    0\n    3    1    4\n    2    5    0\n"

unfoldable pub all_along : List Case
all_along =
    -- close fills 1, at the owners and at the border states
    record {
      job = ring_job;
      calls = fresh ∷ step 0 ∷ step 1 ∷ close ∷ finish ∷ [];
      told = (0 ∷ 0 ∷ []) ∷ (0 ∷ 0 ∷ 2 ∷ []) ∷ (0 ∷ 0 ∷ 2 ∷ []) ∷ (0 ∷ 0 ∷ 1 ∷ 4 ∷ []) ∷ (0 ∷ 0 ∷ 1 ∷ 1 ∷ 0 ∷ []) ∷ [];
      cells = 1 ∷ 1 ∷ 1 ∷ 1 ∷ 1 ∷ 1 ∷ 1 ∷ 1 ∷ [];
    }
    -- the same by finish: atoms, the close, and a round that fills nothing
    ∷ record {
      job = ring_job;
      calls = verdict_calls;
      told = (0 ∷ 0 ∷ []) ∷ (0 ∷ 0 ∷ 1 ∷ 3 ∷ 8 ∷ []) ∷ [];
      cells = 1 ∷ 1 ∷ 1 ∷ 1 ∷ 1 ∷ 1 ∷ 1 ∷ 1 ∷ [];
    }
    -- AG p0 is closed to 1 and A(p0 U p1) to 0, so that the rule is false; with either of them closed to the other value it would be true
    ∷ record {
      job = implies_job;
      calls = verdict_calls;
      told = (0 ∷ 0 ∷ []) ∷ (0 ∷ 0 ∷ 0 ∷ 5 ∷ 28 ∷ []) ∷ [];
      cells =
          1 ∷ 1 ∷ 0 ∷ 0 ∷ 1 ∷ 1 ∷ 0
          ∷ 1 ∷ 1 ∷ 0 ∷ 0 ∷ 1 ∷ 1 ∷ 0
          ∷ 1 ∷ 1 ∷ 0 ∷ 0 ∷ 1 ∷ 1 ∷ 0
          ∷ 1 ∷ 1 ∷ 0 ∷ 0 ∷ 1 ∷ 1 ∷ 0
          ∷ [];
    }
    -- EG p0 and AG p0 at a state with a way into p0 for ever and a way out of it: true and false, by one step
    ∷ record {
      job = "    3    4    3    1\n    0    1\n    0    1\n    0    0\n    0    1\n    0    2\n    1    1\n    2    2\n    1    0    0\n    8    0    0\n    9    0    0\n";
      calls = fresh ∷ step 0 ∷ [];
      told = (0 ∷ 0 ∷ []) ∷ (0 ∷ 0 ∷ 9 ∷ []) ∷ [];
      cells = 1 ∷ 1 ∷ 0 ∷ 1 ∷ 1 ∷ 1 ∷ 0 ∷ 0 ∷ 0 ∷ [];
    }
    ∷ []

-- EG p0 on 0 -> 1 -> 2 -> 2 with p0 everywhere, and a table that no list of calls reaches: state 1 is false already, and has p0 and a
-- true successor, so that it could join both sets. It is in the smallest, and state 0, whose one successor it is, becomes false.
unfoldable pub line_job : String
line_job = "    3    3    2    1\n    0    1\n    0    1\n    0    1\n    0    1\n    1    2\n    2    2\n    1    0    0\n    8    0    0\n"

unfoldable pub line_table : Table
line_table = 1 ∷ 2 ∷ 1 ∷ 0 ∷ 1 ∷ 1 ∷ []

unfoldable pub could_join_both : Case
could_join_both =
    record {
      job = line_job;
      calls = step 0 ∷ [];
      told = (0 ∷ 0 ∷ 1 ∷ []) ∷ [];
      cells = 1 ∷ 0 ∷ 1 ∷ 0 ∷ 1 ∷ 1 ∷ [];
    }
