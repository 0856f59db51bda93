-- Request (i), rules typed as text: "Within the limits below, a text is accepted exactly when the grammar derives it, it has one reading, and its
-- CTL truth is that of the lines. Bytes after the lines stay." The words of it that `demands/proofs/Demands.antt` uses, beside those of
-- `rule_text/specs`. Assumes nothing.
use Rattle.std.specs.Prelude.{ℕ, ◌-◌, ◌*◌, ◌<◌, ◌≡◌, List, [], ◌∷◌, ◌++◌, ◌↔◌, length, take, drop}
use Rattle.text.specs.Field.{Text}
use Rattle.text.specs.Decimal.{line}
use Rattle.job.specs.Job.{Job, Structure, size, decode, subformula, subformula_count}
use Rattle.job.specs.Answer.{Answer, accepted, refused}
use Rattle.job.specs.Questions.{Accepted}
use Rattle.job.specs.Written.{Operands}
use Rattle.ctl.specs.Truth.{Holds}
use Rattle.rule_text.specs.Tree.{Tree, Satisfies}
use Rattle.rule_text.specs.Lines.{lines_of, lines_text}
use Rattle.rule_text.specs.RuleCall.{rule_answer, InLimits}
use Rattle.rule_text.specs.RuleJob.{with_rule, front_lines}
use Rattle.rule_output.specs.RuleOutput.{buffer, typed}
use Rattle.promises.specs.Demand2.{TrueAt}

-- "The answer is the number of lines", which stand at the buffer's start; "bytes after the lines stay".
pub record LinesWritten (f : Tree) (b : List ℕ) (a : Answer) (u : List ℕ) : Type 0 where
  pub told : a ≡ accepted (length (lines_of f) ∷ [])
  pub left : u ≡ lines_text (lines_of f) ++ drop (16 * length (lines_of f)) b

-- "the whole rule's being the last": on a structure, the rule is true at a state exactly where its last line is.
abbrev pub LastLineIsTruth : Structure → Tree → ℕ → Type 0
LastLineIsTruth M f s = Satisfies M f s ↔ Holds M (lines_of f) (length (lines_of f) - 1) s

-- Each line's operands have smaller numbers, and no line is equal to an earlier one.
pub record LinesInOrder (f : Tree) : Type 0 where
  pub operands : (k : ℕ) → k < length (lines_of f) → Operands k (subformula (lines_of f) k)
  pub differ : (i j : ℕ) → i < j → j < length (lines_of f) → subformula (lines_of f) i ≡ subformula (lines_of f) j → ⊥

-- The lines in buffer u put into a job: line 1 with their number, the job's state and edge lines, and the lines. The reader accepts it, it
-- describes the same machine with the rule for its formula, and that is true at a state of it exactly where the rule is.
abbrev pub job_with : Job → Tree → List ℕ → Text
job_with J f u = front_lines J (length (lines_of f)) ++ take (16 * length (lines_of f)) u

pub record InJob (J : Job) (f : Tree) (u : List ℕ) : Type 0 where
  pub accepted_text : Accepted (job_with J f u)
  pub described : decode (job_with J f u) ≡ with_rule J f
  pub truth :
      (s : ℕ)
      → s < size J
      → Satisfies J.structure f s ↔ TrueAt (job_with J f u) (subformula_count (decode (job_with J f u)) - 1) s

-- What the program rule prints of its input: the number of the refusal and no line, or 0, how many lines there are, and the lines.
pub data RulePrinted (x : Text) (said : List ℕ) : Type 0 where
  as_refused :
      (number : ℕ) → rule_answer (typed x) buffer ≡ refused number 0 1 → said ≡ line (number ∷ 0 ∷ []) → RulePrinted x said
  as_lines :
      (is : InLimits (typed x) buffer)
      → said ≡ line (0 ∷ length (lines_of is.tree) ∷ []) ++ lines_text (lines_of is.tree)
      → RulePrinted x said
