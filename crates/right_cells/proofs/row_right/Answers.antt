-- `row_right`: the cells, each as it is asked.
use Rattle.std.proofs.Common.{◌∙◌, ap, refl, rules}
use Rattle.law.specs.Bounded.{all}
use Rattle.law.proofs.Ranges.{range_all}
use Rattle.image.specs.Denoted.{job_of}
use Rattle.right_cells.specs.Right.{cell_right, row_right}
use Rattle.right_cells.proofs.RightLaws.{cell_asked}
use Rattle.right_cells.proofs.row_right.Goals as goal

pub returns : goal.returns
unfolding row_right
returns c =
    let asked = cell_right (job_of c.args.m.now) c.args.table.now c.args.n c.args.s in
    range_all asked c.subformulas.result _ _ _ _ refl (λ x b q k. (search rules, search (rules, cell_asked (job_of c.args.m.now) c.args.n c.args.s c.place.result c.place.ensures c.eq-outside.result c.eq-outside.ensures))) c.all.ensures.ran ∙ ap (all asked) c.subformulas.ensures.0
