-- What reading a whole text comes to. Assumes nothing.
use Rattle.std.specs.Prelude.{◌≡◌, Result, Ok}
use Rattle.text.specs.Field.{Text}
use Rattle.job.specs.Job.{decode}
use Rattle.job.specs.Read.{read_told, read_answer}
use Rattle.job.specs.declared.reading.Header.{Header}
use Rattle.job.specs.declared.refusal.Refusal.{Refusal}
use Rattle.image.specs.Lines.{lines_job}
use Rattle.image.specs.declared.job_lines.JobLines.{JobLines}

-- The reader's answer, and where it accepts, the lines that are laid say the text's job.
pub record JobRead (t : Text) (m : JobLines) (r : Result Header Refusal) : Type 0 where
  pub told : read_told r ≡ read_answer t
  pub laid : (h : Header) → r ≡ Ok h → lines_job m ≡ decode t
