-- What reading a text into an image comes to: the refusal by the first of questions 1 to 8 that is answered no, or the image of the text's job.
-- Assumes nothing.
use Rattle.std.specs.Prelude.{◌≡◌, Result, Ok, Err}
use Rattle.text.specs.Field.{Text}
use Rattle.job.specs.Job.{decode}
use Rattle.job.specs.Questions.{Accepted}
use Rattle.job.specs.Read.{read_answer, read_told}
use Rattle.job.specs.declared.refusal.Refusal.{Refusal}
use Rattle.image.specs.Denoted.{job_of}
use Rattle.image.specs.declared.image.Image.{Image}

pub record IsRead (x : Text) (m : Image) : Type 0 where
  pub accepts : Accepted x
  pub denotes : job_of m ≡ decode x

abbrev pub ImageRead : Text → Result Image Refusal → Type 0
ImageRead x (Ok m) = IsRead x m
ImageRead x (Err why) = read_told (Err why) ≡ read_answer x
