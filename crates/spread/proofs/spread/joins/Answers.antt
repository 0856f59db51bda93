-- `joins`: only a state that may, and where that many of its edges are told.
use Rattle.std.proofs.Common.{arith}
use Rattle.image.proofs.ImageLaws.{image_job}
use Rattle.spread.proofs.Marks.{number_is}
use Rattle.spread.proofs.Tally.{run_is, joins_all, joins_some}
use Rattle.spread.proofs.spread.joins.Goals as goal

pub may_join-requires : goal.may_join-requires
may_join-requires g c = let few = (image_job c.args.m.now).states.below in omega arith

pub overflow_sub-result : goal.overflow_sub-result
overflow_sub-result g c =
    (run_is _ _ _ _ c.first_edge-then-all.ensures.0 c.first_edge.ensures.0).0

pub returns-then-all : goal.returns-then-all
returns-then-all g c =
    rw c.from.ensures
    (joins_all _ _ _ _ _ _ _ (number_is _ 1 c.may_join.ensures c.if-not-may_join.false) c.if-all.true
    c.first_edge-then-all.ensures.0 c.first_edge.ensures.0)

pub returns : goal.returns
returns g c = joins_some _ _ _ _ (number_is _ 1 c.may_join.ensures c.if-not-may_join.false) c.if-all.false
