-- Document 02 (i): the call that reads rule text into a lent buffer. "The answer is the number of lines, the whole rule's being the last."
-- "Bytes after the lines stay. Errors: 21 the lent buffer is not 512 bytes; 22 the text is over 512 bytes or not in the grammar; 23 more
-- than 32 lines; asked in this order." Assumes nothing.
use Rattle.std.specs.Prelude.{ℕ, ◌≤◌, ◌≡◌, Bool, true, false, ◌&&◌, List, [], ◌∷◌, length, leb, eqb}
use Rattle.std.proofs.Math.Option.{Option-elim}
use Rattle.std.proofs.lemmas.List.Edits.{sets}
use Rattle.text.specs.Field.{Text}
use Rattle.job.specs.Answer.{Answer}
use Rattle.job.specs.Question.{Question, of_call, answered, afterwards}
use Rattle.job.specs.declared.subformula.Subformula.{Subformula}
use Rattle.rule_text.specs.Tree.{Tree}
use Rattle.rule_text.specs.Grammar.{Means}
use Rattle.rule_text.specs.Lines.{lines_of, lines_text}
use Rattle.rule_text.specs.Parse.{reading}

-- The lines of the text's tree; a text that has none has no lines. `reading` computes the tree that the grammar derives
-- (`proofs/Reading.antt: reading_means, means_reading`).
unfoldable pub rule_lines : Text → List Subformula
rule_lines x = Option-elim (reading x) [] lines_of

unfoldable pub is_rule : Text → Bool
is_rule x = Option-elim (reading x) false (λ f. true)

unfoldable pub rule_questions : Text → List ℕ → List Question
rule_questions x buffer =
    of_call 21 (eqb (length buffer) 512)
    ∷ of_call 22 (leb (length x) 512 && is_rule x)
    ∷ of_call 23 (leb (length (rule_lines x)) 32)
    ∷ []

unfoldable pub rule_answer : Text → List ℕ → Answer
rule_answer x buffer = answered (rule_questions x buffer) 1 (length (rule_lines x) ∷ [])

-- The buffer afterwards.
unfoldable pub rule_buffer : Text → List ℕ → List ℕ
rule_buffer x buffer = afterwards (rule_questions x buffer) buffer (sets buffer 0 (lines_text (rule_lines x)))

-- When the call accepts: "Within the limits below, a text is accepted exactly when the grammar derives it".
pub record InLimits (x : Text) (buffer : List ℕ) : Type 0 where
  pub tree : Tree
  pub means : Means x tree
  pub buffer_size : length buffer ≡ 512
  pub text_size : length x ≤ 512
  pub few : length (lines_of tree) ≤ 32
