-- `step_node`: with every column marked the marks are right.
use Rattle.cells.proofs.Tracked.{all_tracked}
use Rattle.image.proofs.ImageLaws.{image_job}
use Rattle.stepping.proofs.node.step_node.Goals as goal

pub step_stale-requires-clause-rested : goal.step_stale-requires-clause-rested
step_stale-requires-clause-rested c =
    rw c.all.ensures.stale ((all_tracked _ (image_job c.args.m.now) _).rested _ c.requires.node_bound)
