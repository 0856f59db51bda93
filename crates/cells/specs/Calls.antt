-- Document 01's calls on a table, look as document 02 (ii) has it, and page of document 02 (v). For each its questions in order, and for any
-- text, any table and any numbers passed its whole answer and the whole table afterwards: the functions that the contracts cite and that demand
-- 3 is about. Assumes nothing.
use Rattle.std.specs.Prelude.{ℕ, cond, List, [], ◌∷◌, ◌++◌, eqb}
use Rattle.text.specs.Field.{Text}
use Rattle.job.specs.Job.{Job, owner, decode}
use Rattle.job.specs.Answer.{Answer}
use Rattle.job.specs.Question.{Question, answered, afterwards}
use Rattle.job.specs.Questions.{text_questions}
use Rattle.cells.specs.Table.{Table, cell, owner_cell, filled, fresh_table}
use Rattle.cells.specs.Step.{step_table}
use Rattle.cells.specs.Close.{accept_table, smallest_open, close_table}
use Rattle.cells.specs.Finish as finishing
use Rattle.cells.specs.Questions.{table_size, table_cells, node_below, node_or255, numbers_below, temporal_named, owner_filled, truth_value, state_at_border, cell_agrees, state_in_fragment, table_settled, some_owner_empty, page_fits}

-- A call with the numbers passed: nodes, states, subformulas, values, in document 01's order; page with its node and how many bytes the
-- buffer has that it is lent.
pub data Call : Type 0 where
  fresh : Call
  step : ℕ → Call
  offer : ℕ → ℕ → Call
  accept : ℕ → ℕ → ℕ → ℕ → Call
  look : ℕ → ℕ → ℕ → Call
  close : Call
  finish : Call
  page : ℕ → ℕ → Call

-- The node whose cell look gives. "Node 255 means that no node is named"; document 02 (ii): "255 is read as the owner of the
-- state."
unfoldable pub node_read : Job → ℕ → ℕ → ℕ
node_read J n s = cond (eqb n 255) (owner J s) n

-- "Fresh 1 to 9; step 1 to 11; offer 1 to 10, 12 to 14; accept 1 to 13, 15 to 17; look 1 to 12, 18; close 1 to 10, 19, 20;
-- finish 1 to 10": those behind 8. Page: "24 [..], asked after 11".
unfoldable pub own_questions : Call → Job → Table → List Question
own_questions fresh J t = table_size J t ∷ []
own_questions (step n) J t = table_size J t ∷ table_cells J t ∷ node_below J n ∷ []
own_questions (offer s k) J t =
    table_size J t ∷ table_cells J t ∷ numbers_below J s k ∷ temporal_named J k ∷ owner_filled J t s k ∷ []
own_questions (accept n s k v) J t =
    table_size J t ∷ table_cells J t ∷ node_below J n ∷ numbers_below J s k ∷ temporal_named J k ∷ truth_value v ∷ state_at_border J n s
    ∷ cell_agrees J t n s k v
    ∷ []
own_questions (look n s k) J t =
    table_size J t ∷ table_cells J t ∷ node_or255 J n ∷ numbers_below J s k ∷ state_in_fragment J (node_read J n s) s ∷ []
own_questions close J t = table_size J t ∷ table_cells J t ∷ table_settled J t ∷ some_owner_empty J t ∷ []
own_questions finish J t = table_size J t ∷ table_cells J t ∷ []
own_questions (page n room) J t = table_size J t ∷ table_cells J t ∷ node_below J n ∷ page_fits J room ∷ []

-- "A call .. that takes a job puts 1 to 8 before questions of its own."
unfoldable pub questions : Call → Text → Table → List Question
questions c x t = text_questions x ++ own_questions c (decode x) t

-- How many numbers an answer has besides number and line; a refusal has 0 in each.
unfoldable pub width : Call → ℕ
width fresh = 0
width (step n) = 1
width (offer s k) = 3
width (accept n s k v) = 1
width (look n s k) = 1
width close = 2
width finish = 3
width (page n room) = 0

-- These numbers where the call is accepted for job J.
unfoldable pub told : Call → Job → Table → List ℕ
told fresh J t = []
told (step n) J t = filled t (step_table J n t) ∷ []
told (offer s k) J t = s ∷ k ∷ owner_cell J t s k ∷ []
told (accept n s k v) J t = filled t (accept_table J n s k v t) ∷ []
told (look n s k) J t = cell J t (node_read J n s) s k ∷ []
told close J t = smallest_open J t ∷ filled t (close_table J t) ∷ []
told finish J t =
    let done = finishing.finish J t in
    finishing.verdict J done.table ∷ done.rounds ∷ done.cells ∷ []
told (page n room) J t = []

-- The table where the call is accepted for job J.
unfoldable pub left : Call → Job → Table → Table
left fresh J t = fresh_table t
left (step n) J t = step_table J n t
left (offer s k) J t = t
left (accept n s k v) J t = accept_table J n s k v t
left (look n s k) J t = t
left close J t = close_table J t
left finish J t = (finishing.finish J t).table
left (page n room) J t = t

unfoldable pub answer : Call → Text → Table → Answer
answer c x t = answered (questions c x t) (width c) (told c (decode x) t)

-- "A refusal ..: the table and any other lent bytes stay."
unfoldable pub after : Call → Text → Table → Table
after c x t = afterwards (questions c x t) t (left c (decode x) t)
