-- `read_image`: the image, where the reader accepts.
use mathlib.Core.Path.{◌≡◌, sym, ◌∙◌, ap, subst}
use Rattle.std.proofs.Common.{Ok}
use Rattle.job.specs.Read.{read_told, read_answer}
use Rattle.job.specs.Written.{IsJob}
use Rattle.job.proofs.Agrees.{passed_job}
use Rattle.job.proofs.ReadLaws.{read_passed, text_accepted}
use Rattle.image.specs.Lines.{lines_job}
use Rattle.decoding.proofs.read.read_image.Goals as goal
use Rattle.decoding.proofs.read.read_image.Goals.{In_ok-read_lines}

told_here : (c : In_ok-read_lines) → read_told (Ok c.in_ok-read_lines.field-0) ≡ read_answer c.args.text.now
told_here c = sym (ap read_told c.in_ok-read_lines.was) ∙ c.read_lines.ensures.told

pub lay_derived-requires : goal.lay_derived-requires
lay_derived-requires c =
    let told = told_here (goal.at.lay_derived-requires c).In_ok-read_lines in
    subst IsJob (sym (c.read_lines.ensures.laid _ c.in_ok-read_lines.was)) (passed_job c.args.text.now (read_passed c.args.text.now _ told))

pub returns : goal.returns
returns c =
    record {
      accepts = text_accepted _ _ (told_here (goal.at.returns c).In_ok-read_lines);
      denotes = c.new.ensures ∙ ap lines_job c.lay_derived.ensures.lines ∙ c.read_lines.ensures.laid _ c.in_ok-read_lines.was;
    }
