-- `selahmur_line`: where the line starts and how long it is.
use Rattle.std.proofs.Common.{[], ◌∷◌, ◌∙◌, ap, ap₂, unwrap_or}
use Rattle.layout.proofs.LinesLaws.{part_or_empty}
use Rattle.layout.specs.declared.lines.Part.{Part}
use Rattle.numbers.specs.Stored.{stored, stored_from}
use Rattle.selahmur.proofs.reading.selahmur_line.Goals as goal

pub returns : goal.returns
unfolding stored_from
returns c =
    let a = c.args in
    let part = part_or_empty a.text.now a.number in
    let is = c.unwrap_or-part.ensures ∙ ap (λ o. unwrap_or o (record { start = 0; size = 0 })) c.line_part.ensures.stands in
    c.put_all.ensures
    ∙ ap₂ (λ s n. stored a.out.now (s ∷ n ∷ [])) (ap (λ (p : Part). p.start) is ∙ part.0) (ap (λ (p : Part). p.size) is ∙ part.1)
