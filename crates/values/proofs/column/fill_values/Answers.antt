-- `fill_values`: each cell takes what it takes at first, and that is the step's.
use Rattle.std.proofs.Common.{rules}
use Rattle.image.specs.Denoted.{job_of}
use Rattle.image.proofs.ImageLaws.{image_job}
use Rattle.values.specs.Values.{empty_values}
use Rattle.values.proofs.ColumnLaws.{empty_kept, values_filled}
use Rattle.values.proofs.column.fill_values.Goals as goal

pub returns : goal.returns
returns c =
    let a = c.args in
    let J = job_of a.m.now in
    values_filled J a.table.now a.n a.k a.rule _ _ c.requires.lent.long c.requires.rule.1
    (c.fill_column.ensures.leaves (empty_values J a.table.now a.n a.rule)
    (λ u s r d i l h own p.
    let kept =
    empty_kept J (image_job a.m.now) a.table.now c.requires.lent.long a.n a.k c.requires.column.subformula_in a.rule c.requires.rule.0 u.now s d i l h.state_in own in
    search (rules, kept)))
