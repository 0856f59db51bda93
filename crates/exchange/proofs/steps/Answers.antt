-- `steps`: the nodes passed so far are stepped.
use Prim.Native.Nat.{◌+◌}
use Rattle.cells.specs.Finish.{steps_up_to}
use Rattle.image.specs.Denoted.{job_of}
use Rattle.exchange.specs.Running.{Ran}
use Rattle.exchange.proofs.RunningLaws.{ran_none, stepped_ready, ran_more}
use native.Mathlib.Omega.{arith}
use Rattle.exchange.proofs.steps.Goals as goal
use Rattle.exchange.proofs.steps.Goals.{After-step_stale-filled}

pub loop-n-init : goal.loop-n-init
loop-n-init c = (omega arith, c.nodes-n-end.ensures.0, ran_none c.requires)

pub step_stale-filled-requires-clause-ready : goal.step_stale-filled-requires-clause-ready
step_stale-filled-requires-clause-ready c = stepped_ready c.requires _ c.loop-n.invariant.2

-- after the step of a node
module _ (c : After-step_stale-filled) where
  stepped :
      Ran (job_of c.args.m.now) c.args.table.now
      (steps_up_to (job_of c.args.m.now) (c.loop-n.n + 1) c.args.table.now)
      c.step_stale-filled.new.table c.step_stale-filled.new.pending
      (c.loop-n.filled + c.step_stale-filled.result)
  stepped = ran_more c.requires c.loop-n.n c.loop-n.invariant.2 (omega (arith, c.loop-n.invariant.1)) c.step_stale-filled.ensures

pub overflow_add-filled : goal.overflow_add-filled
overflow_add-filled c = let few = (stepped (goal.at.overflow_add-filled c).After-step_stale-filled).few in omega arith

pub loop-n-preserved : goal.loop-n-preserved
loop-n-preserved c = (omega arith, c.loop-n.invariant.1, stepped (goal.at.loop-n-preserved c).After-step_stale-filled)
