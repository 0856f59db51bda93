-- What the program page prints of its argument and its input: the page of a node's table after finish from fresh, or where something is refused
-- number and line. Assumes nothing.
use Rattle.std.specs.Prelude.{ℕ, ◌-◌, cond, List, [], ◌∷◌, replicate}
use Rattle.text.specs.Field.{Text, is_digit}
use Rattle.text.specs.Decimal.{line}
use Rattle.job.specs.Job.{decode}
use Rattle.job.specs.Answer.{Answer, accepted, refused}
use Rattle.cells.specs.Table.{Table, table_length}
use Rattle.cells.specs.Calls.{Call, answer, after}
use Rattle.page_text.specs.Page.{page}

-- The node that the argument names: one digit does, and no job has more than 8 nodes. Whatever else it is, and where it is missing, it is read as 255,
-- which is no node's number.
unfoldable pub node_named : List ℕ → ℕ
node_named [] = 255
node_named (c ∷ []) = cond (is_digit c) (c - 48) 255
node_named (c ∷ d ∷ more) = 255

-- the table after finish from fresh
unfoldable pub finished_table : Text → Table
finished_table x = after Call.finish x (replicate (table_length (decode x)) 2)

-- the buffer that the program lends, 80 × (256 + 1) bytes, enough for the page of every job
abbrev pub room : ℕ
room = 20560

-- the page where the call accepts, else its two numbers in five columns each, and byte 10
unfoldable pub printed : Answer → Text → Text
printed (accepted own) written = written
printed (refused number at others) written = line (number ∷ at ∷ [])

unfoldable pub page_output : List ℕ → Text → Text
page_output argument x =
    let n = node_named argument in
    let t = finished_table x in
    printed (answer (Call.page n room) x t) (page (decode x) t n)
