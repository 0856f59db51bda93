-- Pages worked out by hand. Each is computed from the definitions. Assumes nothing.
use Prim.Native.Nat.{ℕ}
use Prim.Native.String.{String}
use mathlib.Core.Path.{◌≡◌, refl}
use mathlib.Core.List.{List, [], ◌∷◌, ◌++◌}
use lib.ListN.{replicate}
use Rattle.text.specs.Field.{Text}
use Rattle.text.specs.Decimal.{digit_column, decimal}
use Rattle.job.specs.Written.{label}
use Rattle.cells.specs.Calls.{Call, fresh, step, finish}
use Rattle.cells.specs.Cases.{bytes, table_after, zeros, job_v}
use Rattle.cells.proofs.Printed.{printed}
use Rattle.page_text.specs.Page.{two_columns, heading, cell_mark, row_front, row_cells, columns_of, filled_line, page_line, page_lines, page}
use Rattle.page_text.specs.PageCall.{overwritten, page_buffer}

-- The buffer that page of a node leaves, where so many bytes 7 are lent, behind these calls. To unfold it is to unfold all that it computes with.
left : String → List Call → ℕ → ℕ → Text
unfolding printed digit_column decimal label two_columns heading cell_mark row_front row_cells columns_of filled_line page_line page_lines page overwritten page_buffer
left j calls n room = page_buffer (bytes j) (table_after (bytes j) (zeros (bytes j)) calls) n (replicate room 7)

-- V behind the first step of node 0, case C7: "the first step of node 0 on V fills 4 and leaves subformula 2 empty".
c7_page :
    left job_v (fresh ∷ step 0 ∷ []) 0 240
    ≡ bytes "                0 1 2                                                          \n    0    0    1 1 0 .                                                          \n    1    1    1 1 0 .                                                          \n"
unfolding left
c7_page = refl

-- the other node has filled nothing; two bytes more are lent, and stay
c7_other :
    left job_v (fresh ∷ step 0 ∷ []) 1 242
    ≡ bytes "                0 1 2                                                          \n    0    0    1 . . .                                                          \n    1    1    1 . . .                                                          \n" ++ (7 ∷ 7 ∷ [])
unfolding left
c7_other = refl

-- V behind finish, C1
c1_page :
    left job_v (fresh ∷ finish ∷ []) 1 240
    ≡ bytes "                0 1 2                                                          \n    0    0    1 1 0 0                                                          \n    1    1    1 1 0 0                                                          \n"
unfolding left
c1_page = refl

-- 0 -> 1 -> 2 -> 2 with EX p0, where node 0 owns 0 alone: 1 is its border state, and 2 outside its fragment. The label of 1 has five digits.
abbrev far_job : String
far_job = "    3    3    2    2\n    0    0\n    165535\n    1    1\n    0    1\n    1    2\n    2    2\n    1    0    0\n    5    0    0\n"

far_page :
    left far_job (fresh ∷ step 0 ∷ []) 0 320
    ≡ bytes "                0 1                                                            \n    0    0    0 0 1                                                            \n    1    165535 1 .                                                            \n    2    1    1 . .                                                            \n"
unfolding left
far_page = refl

-- Twelve subformulas: p0, not p0, not not p0 and so on, at one state.
abbrev twelve_job : String
twelve_job = "    1    1   12    1\n    0    1\n    0    0\n    1    0    0\n    2    0    0\n    2    1    0\n    2    2    0\n    2    3    0\n    2    4    0\n    2    5    0\n    2    6    0\n    2    7    0\n    2    8    0\n    2    9    0\n    2   10    0\n"

twelve_page :
    left twelve_job (fresh ∷ finish ∷ []) 0 160
    ≡ bytes "                0 1 2 3 4 5 6 7 8 91011                                        \n    0    0    1 1 0 1 0 1 0 1 0 1 0 1 0                                        \n"
unfolding left
twelve_page = refl

-- A byte too few, and no such node: every byte stays.
short_page : left job_v (fresh ∷ []) 0 239 ≡ replicate 239 7
unfolding left
short_page = refl

no_node : left job_v (fresh ∷ []) 2 240 ≡ replicate 240 7
unfolding left
no_node = refl
