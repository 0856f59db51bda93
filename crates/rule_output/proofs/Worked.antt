-- What the program prints of some texts, worked out by hand. Each is computed from the definitions. Assumes nothing.
use Prim.Native.String.{String}
use mathlib.Core.Path.{◌≡◌, refl}
use Rattle.law.specs.Lists.{flatten}
use Rattle.text.specs.Field.{Text}
use Rattle.text.specs.Decimal.{digit_column, decimal, line}
use Rattle.job.specs.Question.{of_call, refusal, answered, afterwards}
use Rattle.rule_text.specs.Lines.{lines_text}
use Rattle.rule_text.specs.RuleCall.{is_rule, rule_questions, rule_answer, rule_buffer}
use Rattle.rule_text.proofs.Worked.{quoted, lines_in}
use Rattle.rule_output.specs.RuleOutput.{buffer, typed, number_told, lines_told, rule_output}

-- What is printed of a quoted text. To unfold it is to unfold all that it computes with.
printed : String → Text
unfolding lines_in is_rule flatten digit_column decimal line lines_text of_call refusal answered afterwards rule_questions rule_answer rule_buffer buffer typed number_told lines_told rule_output
printed s = rule_output (quoted s)

-- "number and lines, and then the lines themselves"
rule_printed : printed "AX p0 & !p15" ≡ quoted "    0    5\n    1    0    0\n    4    0    0\n    1   15    0\n    2    2    0\n    3    1    3\n"
unfolding printed
rule_printed = refl

-- "one final byte 10, as an editor leaves it, is not part of the text"
newline_typed : printed "E[p0 U p1]\n" ≡ quoted "    0    3\n    1    0    0\n    1    1    0\n    7    0    1\n"
unfolding printed
newline_typed = refl

-- "nothing more where it is refused"
newline_twice : printed "p0\n\n" ≡ quoted "   22    0\n"
unfolding printed
newline_twice = refl

nothing_typed : printed "\n" ≡ quoted "   22    0\n"
unfolding printed
nothing_typed = refl
