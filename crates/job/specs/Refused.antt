-- A refusal in numbers: the question's, and the line for the questions about a text's lines, 1 to 8, else 0. Assumes nothing.
use Rattle.std.specs.Prelude.{ℕ, List, Result, Ok, Err}
use Rattle.job.specs.Answer.{Answer, accepted, refused}
use Rattle.job.specs.declared.refusal.Refusal.{Refusal}
use Rattle.job.specs.declared.refusal.Refusal.TheVariants.{LineOne, Ranges, TextLength, MalformedLine, StateLine, EdgeLine, NoEdgeOut, SubformulaLine, TableLength, Cells, Node, StateOrSubformula, NotTemporal, OwnerEmpty, Value, NotBorder, OtherValue, OutsideFragment, NotSettled, NothingOpen, RuleBuffer, NoRule, TooManyLines, PageBuffer, Marks, NoneMarked}

abbrev pub number_of : Refusal → ℕ
number_of LineOne = 1
number_of Ranges = 2
number_of TextLength = 3
number_of (MalformedLine line) = 4
number_of (StateLine line) = 5
number_of (EdgeLine line) = 6
number_of (NoEdgeOut line) = 7
number_of (SubformulaLine line) = 8
number_of TableLength = 9
number_of Cells = 10
number_of Node = 11
number_of StateOrSubformula = 12
number_of NotTemporal = 13
number_of OwnerEmpty = 14
number_of Value = 15
number_of NotBorder = 16
number_of OtherValue = 17
number_of OutsideFragment = 18
number_of NotSettled = 19
number_of NothingOpen = 20
number_of RuleBuffer = 21
number_of NoRule = 22
number_of TooManyLines = 23
number_of PageBuffer = 24
number_of Marks = 25
number_of NoneMarked = 26

abbrev pub line_of_refusal : Refusal → ℕ
line_of_refusal LineOne = 1
line_of_refusal Ranges = 1
line_of_refusal TextLength = 1
line_of_refusal (MalformedLine line) = line
line_of_refusal (StateLine line) = line
line_of_refusal (EdgeLine line) = line
line_of_refusal (NoEdgeOut line) = line
line_of_refusal (SubformulaLine line) = line
line_of_refusal _ = 0

-- What a call's result says in numbers: its own, or the refusal's, with so many zeros in their place.
abbrev pub told : {A : Type 0} → (A → List ℕ) → ℕ → Result A Refusal → Answer
told own others (Ok a) = accepted (own a)
told own others (Err why) = refused (number_of why) (line_of_refusal why) others

-- The number of the first question that is answered no, 0 where there is none.
abbrev pub no_of : Result Unit Refusal → ℕ
no_of (Ok a) = 0
no_of (Err why) = number_of why
