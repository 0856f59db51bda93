-- Request (ii), an unnamed node means the owner: "From now on 255 is read as the owner of the state. For 255, number 18 can no longer occur."
-- The words of it that `demands/proofs/Demands.antt` uses. Assumes nothing.
use Rattle.std.specs.Prelude.{ℕ, false, List, [], ◌∷◌, ◌++◌}
use Rattle.text.specs.Field.{Text}
use Rattle.job.specs.Job.{decode}
use Rattle.job.specs.Question.{Question, of_call}
use Rattle.job.specs.Questions.{text_questions}
use Rattle.cells.specs.Table.{Table}
use Rattle.cells.specs.Questions.{table_size, table_cells, numbers_below}

-- The questions that a look without a node may be refused by: 1 to 10, and 12.
unfoldable pub unnamed_questions : Text → Table → ℕ → ℕ → List Question
unnamed_questions x t s k = text_questions x ++ (table_size (decode x) t ∷ table_cells (decode x) t ∷ numbers_below (decode x) s k ∷ [])

-- Those of every other call that is passed node 255: 1 to 10, and 11, which is answered no, so that nothing behind it is asked.
unfoldable pub unknown_node_questions : Text → Table → List Question
unknown_node_questions x t = text_questions x ++ (table_size (decode x) t ∷ table_cells (decode x) t ∷ of_call 11 false ∷ [])
