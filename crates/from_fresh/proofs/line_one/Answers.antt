-- `line_one`: the numbers that questions 1 to 3 let by, or others that are small.
use Rattle.std.proofs.Common.{◌≡◌, ◌*◌, ◌≤◌, arith, Result, Ok, Err}
use Rattle.std.specs.Result.{result_unwrap_or}
use Rattle.text.specs.Field.{Text}
use Rattle.job.specs.Read.{read_told, head_answer}
use Rattle.job.specs.declared.reading.Header.{Header}
use Rattle.job.specs.declared.refusal.Refusal.{Refusal}
use Rattle.from_fresh.specs.LineOne.{LineOne}
use Rattle.from_fresh.proofs.TableLaws.{head_numbers, size_refused}
use Rattle.from_fresh.proofs.line_one.Goals as goal

numbers_or :
    (x : Text) (r : Result Header Refusal) (h : Header)
    → read_told r ≡ head_answer x
    → h.states ≤ 256
    → h.nodes * h.states ≤ 2048
    → h.nodes * h.states * h.subformulas ≤ 65536
    → LineOne x (result_unwrap_or r h)
numbers_or x (Ok read) h told states_few rows_few cells_few = head_numbers x read told
numbers_or x (Err why) h told states_few rows_few cells_few =
    record {
      states_few = states_few;
      rows_few = rows_few;
      cells_few = cells_few;
      right = λ own accepts. absurd (size_refused x own why told accepts);
    }

pub returns : goal.returns
returns c = rw c.unwrap_or.ensures (numbers_or c.args.text.now c.head.result _ c.head.ensures (omega arith) (omega arith) (omega arith))
