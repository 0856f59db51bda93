-- `node_right`: the rows, each as it is asked.
use Rattle.std.proofs.Common.{◌∙◌, ap, refl, rules, tests}
use Rattle.law.specs.Bounded.{all}
use Rattle.law.proofs.Ranges.{range_all}
use Rattle.image.specs.Denoted.{job_of}
use Rattle.right_cells.specs.Right.{row_right, node_right}
use Rattle.right_cells.proofs.node_right.Goals as goal

pub returns : goal.returns
unfolding node_right
returns c =
    let asked = row_right (job_of c.args.m.now) c.args.table.now c.args.n in
    range_all asked c.states.result _ _ _ _ refl (λ x b q k. search (rules, tests)) c.all.ensures.ran ∙ ap (all asked) c.states.ensures.0
