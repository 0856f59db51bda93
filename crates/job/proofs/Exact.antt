-- The reader accepts exactly the texts of jobs: an accepted text is the text of the job that it is decoded as, and the text of a
-- job is accepted and decoded as that job. Assumes nothing.
use mathlib.Core.Path.{◌≡◌, sym, subst}
use mathlib.Core.Logic.{◌↔◌}
use Rattle.text.specs.Field.{Text}
use Rattle.job.specs.Questions.{Accepted}
use Rattle.job.specs.Job.{Job, decode}
use Rattle.job.specs.Written.{written, IsJob}
use Rattle.job.proofs.Asked.{accepted_passed, passed_accepted}
use Rattle.job.proofs.Agrees.{passed_job, passed_written, written_passed, written_decoded}

pub decode_is_job : (t : Text) → Accepted t → IsJob (decode t)
decode_is_job t a = passed_job t (accepted_passed t a)

pub written_decode : (t : Text) → Accepted t → t ≡ written (decode t)
written_decode t a = passed_written t (accepted_passed t a)

pub written_accepted : (J : Job) → IsJob J → Accepted (written J)
written_accepted job is = passed_accepted (written job) (written_passed job is)

pub decode_written : (J : Job) → IsJob J → decode (written J) ≡ J
decode_written = written_decoded

pub exact : (t : Text) → Accepted t ↔ ((J : Job) × IsJob J × (t ≡ written J))
exact t = (λ a. (decode t, decode_is_job t a, written_decode t a), λ (J, j, e). subst Accepted (sym e) (written_accepted J j))
