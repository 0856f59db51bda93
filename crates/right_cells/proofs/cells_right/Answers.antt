-- `cells_right`: the nodes, each as it is asked.
use Rattle.std.proofs.Common.{◌∙◌, ap, refl, rules, tests}
use Rattle.law.specs.Bounded.{all}
use Rattle.law.proofs.Ranges.{range_all}
use Rattle.image.specs.Denoted.{job_of}
use Rattle.right_cells.specs.Right.{node_right}
use Rattle.right_cells.proofs.RightLaws.{nodes_right}
use Rattle.right_cells.proofs.cells_right.Goals as goal

pub returns : goal.returns
returns c =
    let asked = node_right (job_of c.args.m.now) c.args.table.now in
    range_all asked c.nodes.result _ _ _ _ refl (λ x b q k. search (rules, tests)) c.all.ensures.ran
    ∙ ap (all asked) c.nodes.ensures.0 ∙ nodes_right _ _ c.requires.long
