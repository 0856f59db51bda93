-- What a function of this crate leaves in the array that its caller lends for the answer. Assumes nothing.
use Rattle.std.specs.Prelude.{ℕ, List}
use Rattle.text.specs.Field.{Text}
use Rattle.job.specs.Answer.{numbers}
use Rattle.cells.specs.Table.{Table}
use Rattle.cells.specs.Calls.{Call, answer}
use Rattle.numbers.specs.Stored.{stored}

-- All numbers of a call's answer, stored: number, line, then its own.
abbrev pub stored_answer : List ℕ → Call → Text → Table → List ℕ
stored_answer out c x t = stored out (numbers (answer c x t))
