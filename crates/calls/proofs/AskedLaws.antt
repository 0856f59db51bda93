-- All questions of a call, from the text read and the first no to its own: whichever the call. Assumes nothing.
use Rattle.std.proofs.Common.{ℕ, ◌≡◌, refl, ap, ◌∙◌}
use Rattle.text.specs.Field.{Text}
use Rattle.job.specs.Answer.{accepted, refused}
use Rattle.job.specs.Job.{decode}
use Rattle.job.specs.Question.{no_number}
use Rattle.job.specs.Refused.{number_of, line_of_refusal}
use Rattle.job.specs.declared.refusal.Refusal.{Refusal}
use Rattle.job.proofs.RefusedLaws.{numbered}
use Rattle.cells.specs.Table.{Table}
use Rattle.cells.specs.Calls.{Call, own_questions, width, told, left, answer, after}
use Rattle.cells.proofs.CallLaws.{own_refused, own_accepted}
use Rattle.image.specs.Denoted.{job_of}
use Rattle.image.specs.declared.image.Image.{Image}
use Rattle.decoding.specs.ImageRead.{IsRead}

module _ (c : Call) (x : Text) (t : Table) (m : Image) (read : IsRead x m) where
  -- the same questions of the job that the text describes
  same_asked : (r : ℕ) → r ≡ no_number (own_questions c (job_of m) t) → r ≡ no_number (own_questions c (decode x) t)
  same_asked r asked = asked ∙ ap (λ J. no_number (own_questions c J t)) read.denotes

  -- a no to one of the call's own
  pub own_no :
      (why : Refusal)
      → number_of why ≡ no_number (own_questions c (job_of m) t)
      → line_of_refusal why ≡ 0
      → (refused (number_of why) (line_of_refusal why) (width c) ≡ answer c x t) × (t ≡ after c x t)
  own_no why asked none =
      let both = own_refused c x t read.accepts (number_of why) (same_asked (number_of why) asked) (numbered why) in
      (rw none both.0, both.1)

  -- none
  module _ (asked : 0 ≡ no_number (own_questions c (job_of m) t)) where
    pub told_is : accepted (told c (job_of m) t) ≡ answer c x t
    told_is = rw read.denotes (own_accepted c x t read.accepts 0 (same_asked 0 asked) refl).0

    pub left_is : left c (job_of m) t ≡ after c x t
    left_is = rw read.denotes (own_accepted c x t read.accepts 0 (same_asked 0 asked) refl).1
