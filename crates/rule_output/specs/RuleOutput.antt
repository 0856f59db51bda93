-- The program `rule`, as it is described: "standard input (one final byte 10, as an editor leaves it, is not part of the text; otherwise
-- all bytes; it reads at most 514 bytes, enough to find any longer text too long), then on standard output a line of two fields of five
-- columns, number and lines, and then the lines themselves (nothing more where it is refused)." Assumes nothing.
use Rattle.std.specs.Prelude.{ℕ, ◌-◌, ◌*◌, cond, List, [], ◌∷◌, ◌++◌, length, take, get_or, replicate, eqb}
use Rattle.text.specs.Field.{Text}
use Rattle.text.specs.Decimal.{line}
use Rattle.job.specs.Answer.{Answer, accepted, refused}
use Rattle.rule_text.specs.RuleCall.{rule_answer, rule_buffer}

-- The input without one final byte 10.
unfoldable pub typed : Text → Text
typed x =
    let last = length x - 1 in
    cond (eqb (get_or x last 0) 10) (take last x) x

-- The buffer that is lent to the call; what it holds does not matter.
unfoldable pub buffer : List ℕ
buffer = replicate 512 10

-- "number and lines" of the call's answer.
unfoldable pub number_told : Answer → ℕ
number_told (accepted own) = 0
number_told (refused n l others) = n

unfoldable pub lines_told : Answer → ℕ
lines_told (accepted own) = get_or own 0 0
lines_told (refused n l others) = 0

-- What the program prints: a line is 16 bytes.
unfoldable pub rule_output : Text → Text
rule_output x =
    let answer = rule_answer (typed x) buffer in
    line (number_told answer ∷ lines_told answer ∷ []) ++ take (16 * lines_told answer) (rule_buffer (typed x) buffer)
