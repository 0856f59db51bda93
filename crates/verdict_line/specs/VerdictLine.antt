-- Document 01, "Printed cases": "The program `verdict` reads one job from standard input, uses a fresh table, and prints one line of five
-- fields of five columns: number, line, verdict, rounds, cells filled." Assumes nothing.
use Rattle.std.specs.Prelude.{replicate}
use Rattle.text.specs.Field.{Text}
use Rattle.text.specs.Decimal.{line}
use Rattle.job.specs.Job.{decode}
use Rattle.job.specs.Answer.{numbers}
use Rattle.cells.specs.Table.{table_length}
use Rattle.cells.specs.Calls.{finish, answer}

-- The five numbers of finish's answer on a fresh table.
unfoldable pub verdict_line : Text → Text
verdict_line x = line (numbers (answer finish x (replicate (table_length (decode x)) 2)))
