-- `step_stale`: the columns passed so far are worked.
use Prim.Native.Nat.{◌<◌}
use borrow.Author.Rules.{rules}
use native.Mathlib.Omega.{arith}
use Rattle.job.specs.Job.{subformula_count}
use Rattle.image.specs.Denoted.{job_of}
use Rattle.stepping.specs.Stale.{Resting}
use Rattle.stepping.proofs.WorkedLaws.{worked_none, node_small, column_next, worked_more, worked_few, worked_over}
use Rattle.stepping.proofs.stale.step_stale.Goals as goal
use Rattle.stepping.proofs.stale.step_stale.Goals.{In-loop-k, Start}

resting :
    (c : Start)
    → Resting c.args.m.now c.args.table.now c.args.n c.args.pending.now
resting c =
    record {
      ready = c.requires.ready;
      node_in = c.requires.n_bound;
      rested = c.requires.rested;
    }

pub loop-k-init : goal.loop-k-init
loop-k-init c = (search rules, worked_none (resting (goal.at.loop-k-init c).Start))

-- a turn of the loop
module _ (c : In-loop-k) where
  k_in : c.loop-k.k < subformula_count (job_of c.args.m.now)
  k_in = let is = c.subformulas-k-end.ensures.0 in omega arith

pub work_column-count-requires-clause-resting : goal.work_column-count-requires-clause-resting
work_column-count-requires-clause-resting c =
    column_next (resting (goal.at.work_column-count-requires-clause-resting c).Start) c.loop-k.invariant.1

pub overflow_add-count : goal.overflow_add-count
overflow_add-count c =
    let few = worked_few (resting (goal.at.overflow_add-count c).Start) c.loop-k.invariant.1 (k_in (goal.at.overflow_add-count c).In-loop-k) c.work_column-count.ensures in
    search (rules, few)

pub loop-k-preserved : goal.loop-k-preserved
loop-k-preserved c =
    (search rules, worked_more (resting (goal.at.loop-k-preserved c).Start) c.loop-k.invariant.1 (k_in (goal.at.loop-k-preserved c).In-loop-k) c.work_column-count.ensures)

pub clear_node-requires : goal.clear_node-requires
clear_node-requires c = node_small (resting (goal.at.clear_node-requires c).Start)

pub returns : goal.returns
returns c =
    let w = resting (goal.at.returns c).Start in
    let is = c.subformulas-k-end.ensures.0 in
    worked_over w c.loop-k.invariant.1 (omega arith) c.clear_node.ensures.stale c.clear_node.ensures.news
