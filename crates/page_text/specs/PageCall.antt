-- Document 02 (v), the call page: its questions, answer and table are those of `cells/specs/Calls.antt`; here the lent buffer afterwards.
-- Assumes nothing.
use Rattle.std.specs.Prelude.{ℕ, List, ◌++◌, length, drop}
use Rattle.text.specs.Field.{Text}
use Rattle.job.specs.Job.{decode}
use Rattle.job.specs.Question.{afterwards}
use Rattle.cells.specs.Table.{Table}
use Rattle.cells.specs.Calls.{Call, questions}
use Rattle.page_text.specs.Page.{page}

-- These bytes stand at the buffer's start, "and bytes past them stay".
unfoldable pub overwritten : List ℕ → Text → List ℕ
overwritten buffer written = written ++ drop (length written) buffer

-- The buffer afterwards, all of it: a refused call leaves it.
unfoldable pub page_buffer : Text → Table → ℕ → List ℕ → List ℕ
page_buffer x t n buffer = afterwards (questions (Call.page n (length buffer)) x t) buffer (overwritten buffer (page (decode x) t n))
