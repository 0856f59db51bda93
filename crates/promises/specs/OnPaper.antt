-- Request (v), the table on paper. The words of it that `demands/proofs/Demands.antt` uses; the page itself is `page_text/specs/Page.antt`.
-- Assumes nothing.
use Rattle.std.specs.Prelude.{ℕ, ◌+◌, ◌*◌, ◌<◌, ◌≤◌, ◌≡◌, true, false, List, [], ◌∷◌, ◌++◌, length, get_or, replicate, take, drop, leb}
use Rattle.law.specs.Lists.{flatten, every}
use Rattle.text.specs.Field.{Text}
use Rattle.text.specs.Decimal.{line, decimal, digit_column}
use Rattle.job.specs.Job.{Job, size, subformula_count, owner, decode}
use Rattle.job.specs.Written.{label}
use Rattle.job.specs.Answer.{refused}
use Rattle.job.specs.Questions.{Accepted}
use Rattle.job.specs.Read.{read_answer}
use Rattle.cells.specs.Fragment.{in_fragment}
use Rattle.cells.specs.Table.{Table, cell}
use Rattle.page_text.specs.Page.{cell_mark, page}
use Rattle.page_output.specs.PageOutput.{node_named, finished_table}
use Rattle.promises.specs.Demand2.{IsTruth}

-- "lines of exactly 79 columns and byte 10": no column is below 32, so byte 10 ends the line and stands nowhere else in it.
pub record IsLine (bytes : Text) : Type 0 where
  pub columns : Text
  pub ends : bytes ≡ columns ++ (10 ∷ [])
  pub columns_79 : length columns ≡ 79
  pub visible : every (leb 32) columns ≡ true

-- "There are S + 1 lines".
pub record LinesOf (J : Job) (bytes : Text) : Type 0 where
  pub lines : List Text
  pub made_of : bytes ≡ flatten lines
  pub count : length lines ≡ size J + 1
  pub each : (i : ℕ) → i < length lines → IsLine (get_or lines i [])

-- The bytes of a page, and the byte of it that stands for a state and a subformula: behind the heading, 80 for each state before, 15 columns and a
-- space, two columns for each subformula before.
abbrev pub page_bytes : Job → ℕ
page_bytes J = 80 * (size J + 1)

abbrev pub mark_at : ℕ → ℕ → ℕ
mark_at s k = 80 * (s + 1) + (16 + 2 * k)

-- An accepted call leaves the page at the start of the buffer.
pub record PageWritten (J : Job) (t : Table) (n : ℕ) (before after : List ℕ) : Type 0 where
  -- "and bytes past them stay"
  pub whole : after ≡ page J t n ++ drop (page_bytes J) before
  pub long : length after ≡ length before
  pub in_lines : LinesOf J (page J t n)
  -- "The first has 15 spaces and then the subformula numbers, right-justified in two columns each."
  pub blank : take 15 after ≡ replicate 15 32
  pub tens : (k : ℕ) → k < subformula_count J → get_or after (15 + 2 * k) 0 ≡ digit_column k 10
  pub units : (k : ℕ) → k < subformula_count J → get_or after (16 + 2 * k) 0 ≡ digit_column k 1
  -- "Each state follows: state, owner and label in five columns,
  pub fronts : (s : ℕ) → s < size J → take 15 (drop (80 * (s + 1)) after) ≡ decimal s ++ (decimal (owner J s) ++ decimal (label J s))
  -- then for each subformula a space and `0`, `1` or `.` for empty."
  pub spaces : (s k : ℕ) → s < size J → k < subformula_count J → get_or after (80 * (s + 1) + (15 + 2 * k)) 0 ≡ 32
  pub marks : (s k : ℕ) → s < size J → k < subformula_count J → get_or after (mark_at s k) 0 ≡ cell_mark (cell J t n s k)
  -- which it is at the states outside the node's fragment
  pub outside : (s k : ℕ) → s < size J → k < subformula_count J → in_fragment J n s ≡ false → get_or after (mark_at s k) 0 ≡ 46
  -- "Each line is filled with spaces to 79."
  pub filled : (i j : ℕ) → i < size J + 1 → 15 + 2 * subformula_count J ≤ j → j < 79 → get_or after (80 * i + j) 0 ≡ 32

-- "equal cells of that node"
abbrev pub SameCells : Job → ℕ → Table → Table → Type 0
SameCells J n t u = (s k : ℕ) → s < size J → k < subformula_count J → cell J t n s k ≡ cell J u n s k

-- On a printed page each mark that is not `.` is the CTL truth, and at the states that node n owns none is `.`.
abbrev pub MarksTrue : Text → List ℕ → Type 0
MarksTrue x said =
    (s k : ℕ)
    → s < size (decode x)
    → k < subformula_count (decode x)
    → (get_or said (mark_at s k) 0 ≡ 46 → ⊥)
    → (c : ℕ) × (get_or said (mark_at s k) 0 ≡ 48 + c) × IsTruth x k s c

abbrev pub OwnedKnown : Text → ℕ → List ℕ → Type 0
OwnedKnown x n said =
    (s k : ℕ) → s < size (decode x) → k < subformula_count (decode x) → owner (decode x) s ≡ n → get_or said (mark_at s k) 0 ≡ 46 → ⊥

-- What the program page prints of its argument and its input: number and line of the reader's refusal; 11 and 0 where the argument names no node of
-- the job; or the page of the node that is named, of the table after finish from fresh.
pub data PagePrinted (argument x : Text) (said : List ℕ) : Type 0 where
  as_refused : (number at : ℕ) → read_answer x ≡ refused number at 4 → said ≡ line (number ∷ at ∷ []) → PagePrinted argument x said
  no_such_node : Accepted x → (decode x).nodes ≤ node_named argument → said ≡ line (11 ∷ 0 ∷ []) → PagePrinted argument x said
  as_page :
      Accepted x
      → node_named argument < (decode x).nodes
      → said ≡ page (decode x) (finished_table x) (node_named argument)
      → MarksTrue x said
      → OwnedKnown x (node_named argument) said
      → PagePrinted argument x said
