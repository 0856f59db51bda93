-- The job that an image denotes. Assumes nothing.
use Rattle.job.specs.Job.{Job}
use Rattle.image.specs.Lines.{lines_job}
use Rattle.image.specs.declared.image.Image.{Image}

abbrev pub job_of : Image → Job
job_of m = lines_job m.space.now.lines
