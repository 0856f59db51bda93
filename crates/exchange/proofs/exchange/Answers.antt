-- `exchange`: the steps, then the copying.
use Prim.Native.Nat.{◌+◌}
use Rattle.cells.specs.Finish.{exchange}
use Rattle.image.specs.Denoted.{job_of}
use Rattle.exchange.specs.Running.{Ran}
use Rattle.exchange.proofs.RunningLaws.{ran_exchanged}
use native.Mathlib.Omega.{arith}
use Rattle.exchange.proofs.exchange.Goals as goal
use Rattle.exchange.proofs.exchange.Goals.{After-slice_known-3-1}

-- after the copying
module _ (c : After-slice_known-3-1) where
  exchanged :
      Ran (job_of c.args.m.now) c.args.table.now (exchange (job_of c.args.m.now) c.args.table.now)
      c.copy_news-copied.new.table c.copy_news-copied.new.pending
      (c.steps-stepped.result + c.copy_news-copied.result)
  exchanged =
      ran_exchanged c.requires c.steps-stepped.ensures c.copy_news-copied.ensures

pub overflow_add-result : goal.overflow_add-result
overflow_add-result c = let few = (exchanged (goal.at.overflow_add-result c).After-slice_known-3-1).few in omega arith

pub returns : goal.returns
returns c = exchanged (goal.at.returns c).After-slice_known-3-1
