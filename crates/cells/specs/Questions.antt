-- Document 01, "The questions put to a call", 9 to 20, and document 02's 24, each of the job, the table and the numbers passed. They are about no
-- line. Assumes nothing.
use Rattle.std.specs.Prelude.{ℕ, ◌+◌, ◌*◌, not, ◌&&◌, ◌||◌, List, length, ltb, leb, eqb}
use Rattle.job.specs.Job.{Job, size, subformula_count}
use Rattle.job.specs.Question.{Question, of_call}
use Rattle.cells.specs.Fragment.{in_fragment, border}
use Rattle.cells.specs.Table.{Table, table_length, cell, owner_cell, is_empty, cells_right}
use Rattle.cells.specs.Close.{is_temporal, settled, some_open}
use Rattle.cells.specs.Opening.{are_marks, some_opening}

-- "Has the table N × S × K bytes? No: 9."
unfoldable pub table_size : Job → Table → Question
table_size J t = of_call 9 (eqb (length t) (table_length J))

-- "Is each byte 0 to 2, and 2 outside fragments? No: 10."
unfoldable pub table_cells : Job → Table → Question
table_cells J t = of_call 10 (cells_right J t)

-- "Is the node below N (look: or 255)? No: 11."
unfoldable pub node_below : Job → ℕ → Question
node_below J n = of_call 11 (ltb n J.nodes)

unfoldable pub node_or255 : Job → ℕ → Question
node_or255 J n = of_call 11 (ltb n J.nodes || eqb n 255)

-- "Is the state below S and the subformula below K? No: 12."
unfoldable pub numbers_below : Job → ℕ → ℕ → Question
numbers_below J s k = of_call 12 (ltb s (size J) && ltb k (subformula_count J))

-- "Is the subformula temporal? No: 13."
unfoldable pub temporal_named : Job → ℕ → Question
temporal_named J k = of_call 13 (is_temporal J k)

-- "Is the owner's cell filled? No: 14."
unfoldable pub owner_filled : Job → Table → ℕ → ℕ → Question
owner_filled J t s k = of_call 14 (not (is_empty (owner_cell J t s k)))

-- "Is the message's value 0 or 1? No: 15."
unfoldable pub truth_value : ℕ → Question
truth_value v = of_call 15 (leb v 1)

-- "Is the state a border state of the node's fragment? No: 16."
unfoldable pub state_at_border : Job → ℕ → ℕ → Question
state_at_border J n s = of_call 16 (border J n s)

-- "Is the cell empty or equal to the value? No: 17."
unfoldable pub cell_agrees : Job → Table → ℕ → ℕ → ℕ → ℕ → Question
cell_agrees J t n s k v = of_call 17 (is_empty (cell J t n s k) || eqb (cell J t n s k) v)

-- "Is the state in the node's fragment? No: 18."
unfoldable pub state_in_fragment : Job → ℕ → ℕ → Question
state_in_fragment J n s = of_call 18 (in_fragment J n s)

-- "Is the table settled? No: 19."
unfoldable pub table_settled : Job → Table → Question
table_settled J t = of_call 19 (settled J t)

-- "Is some owner's cell empty? No: 20."
unfoldable pub some_owner_empty : Job → Table → Question
some_owner_empty J t = of_call 20 (some_open J t)

-- Document 02 (v): "24 the buffer is shorter than 80 × (S + 1)". `room` is the buffer's length.
unfoldable pub page_fits : Job → ℕ → Question
page_fits J room = of_call 24 (leb (80 * (size J + 1)) room)

-- Document 02 (vi): "25 the marks are not S bytes of 0 or 1; 26 no mark is 1".
unfoldable pub marks_right : Job → List ℕ → Question
marks_right J marks = of_call 25 (are_marks J marks)

unfoldable pub some_marked : List ℕ → Question
some_marked marks = of_call 26 (some_opening marks)
