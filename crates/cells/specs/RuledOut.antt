-- Document 01, "Ruled out", where C1 to C10 do not tell: three small jobs on which a ruled-out rule gives another answer. Computed
-- from the definitions alone, as the printed cases are; `ruled_out_lem` of `proofs/Printed.antt` shows them. Assumes nothing.
use Rattle.std.specs.Prelude.{List, [], ◌∷◌}
use Rattle.cells.specs.Cases.{Case, verdict_calls}

unfoldable pub ruled_out : List Case
ruled_out =
    -- not A(p0 U p1) where A(p0 U p1) is true: "the opposite of an empty cell taken as true" would answer 1
    record {
      job = "    2    2    4    2\n    0    1\n    1    2\n    0    1\n    1    0\n    1    0    0\n    1    1    0\n    6    0    1\n    2    2    0\n";
      calls = verdict_calls;
      told = (0 ∷ 0 ∷ []) ∷ (0 ∷ 0 ∷ 0 ∷ 4 ∷ 16 ∷ []) ∷ [];
      cells = 1 ∷ 0 ∷ 1 ∷ 0 ∷ 0 ∷ 1 ∷ 1 ∷ 0 ∷ 1 ∷ 0 ∷ 1 ∷ 0 ∷ 0 ∷ 1 ∷ 1 ∷ 0 ∷ [];
    }
    -- not A(p0 U p1) where A(p0 U p1) is false by close: "close filling every empty subformula instead of the smallest (a not
    -- above it then comes out wrong)", or the largest, would answer 0
    ∷ record {
      job = "    2    2    4    2\n    0    1\n    1    1\n    0    1\n    1    0\n    1    0    0\n    1    1    0\n    6    0    1\n    2    2    0\n";
      calls = verdict_calls;
      told = (0 ∷ 0 ∷ []) ∷ (0 ∷ 0 ∷ 1 ∷ 4 ∷ 16 ∷ []) ∷ [];
      cells = 1 ∷ 0 ∷ 0 ∷ 1 ∷ 1 ∷ 0 ∷ 0 ∷ 1 ∷ 1 ∷ 0 ∷ 0 ∷ 1 ∷ 1 ∷ 0 ∷ 0 ∷ 1 ∷ [];
    }
    -- AX AX p1, false: "all successors" of AX taken as met at a border state would answer 1
    ∷ record {
      job = "    2    2    3    2\n    0    1\n    1    1\n    0    1\n    1    0\n    1    1    0\n    4    0    0\n    4    1    0\n";
      calls = verdict_calls;
      told = (0 ∷ 0 ∷ []) ∷ (0 ∷ 0 ∷ 0 ∷ 3 ∷ 12 ∷ []) ∷ [];
      cells = 0 ∷ 0 ∷ 0 ∷ 0 ∷ 0 ∷ 0 ∷ 0 ∷ 0 ∷ 0 ∷ 0 ∷ 0 ∷ 0 ∷ [];
    }
    ∷ []
