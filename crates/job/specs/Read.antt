-- The calls read and line. Document 01: "Read puts 1 to 8 ..; read also gives S, E, K, N." "The call line takes a text and a
-- line number and hands back that part of the caller's text without byte 10; the line is found by the lengths above and its
-- last byte is dropped unread; the part is empty if questions 1 to 3 fail or no such line exists." Assumes nothing.
use Rattle.std.specs.Prelude.{ℕ, ◌*◌, Bool, cond, ◌&&◌, List, [], ◌∷◌, take, drop, leb, Result}
use Rattle.text.specs.Field.{Text}
use Rattle.job.specs.Layout.{states, edges, subformulas, nodes, lines, fields_of, line_at}
use Rattle.job.specs.Question.{all_yes, answered}
use Rattle.job.specs.Questions.{head_questions, text_questions}
use Rattle.job.specs.Answer.{Answer}
use Rattle.job.specs.Refused.{told}
use Rattle.job.specs.declared.reading.Header.{Header}
use Rattle.job.specs.declared.refusal.Refusal.{Refusal}

unfoldable pub header : Text → List ℕ
header t = states t ∷ edges t ∷ subformulas t ∷ nodes t ∷ []

unfoldable pub read_answer : Text → Answer
read_answer t = answered (text_questions t) 4 (header t)

-- The answer to questions 1 to 3 alone.
unfoldable pub head_answer : Text → Answer
head_answer t = answered (head_questions t) 4 (header t)

-- The numbers of line 1, and what the reader's result says in numbers.
abbrev pub header_numbers : Header → List ℕ
header_numbers h = h.states ∷ h.edges ∷ h.subformulas ∷ h.nodes ∷ []

unfoldable pub read_told : Result Header Refusal → Answer
read_told r = told header_numbers 4 r

-- Whether there is a line l to hand back: questions 1 to 3 are answered yes, and lines are counted from 1.
unfoldable pub has_line : Text → ℕ → Bool
has_line t l = all_yes (head_questions t) && leb 1 l && leb l (lines t)

-- Where that part of the text begins and how many bytes it has; 0 and 0, the empty part, where there is no such line.
unfoldable pub line_start : Text → ℕ → ℕ
line_start t l = cond (has_line t l) (line_at t l) 0

unfoldable pub line_length : Text → ℕ → ℕ
line_length t l = cond (has_line t l) (5 * fields_of t l) 0

unfoldable pub line_of : Text → ℕ → List ℕ
line_of t l = take (line_length t l) (drop (line_start t l) t)
