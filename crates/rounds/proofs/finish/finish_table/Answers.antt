-- `finish_table`: the rounds so far are the first of finish. Behind the last one the verdict is read.
use Prim.Native.Nat.{◌+◌}
use mathlib.Core.Path.{◌≡◌}
use Rattle.cells.specs.Calls.{left}
use Rattle.cells.proofs.Tracked.{all_tracked}
use Rattle.image.specs.Denoted.{job_of}
use Rattle.image.proofs.ImageLaws.{image_job}
use Rattle.exchange.proofs.ReadyLaws.{ready_formed, formed_ready, ready_small}
use Rattle.rounds.proofs.CameLaws.{Came, came_first, came_rounds, came_cells, came_more, came_last}
use Rattle.rounds.proofs.FinishLaws.{finished_told, finished_rounds}
use native.Mathlib.Omega.{arith}
use Rattle.rounds.proofs.finish.finish_table.Goals as goal
use Rattle.rounds.proofs.finish.finish_table.Goals.{After-round-filled}

pub loop-pending-init : goal.loop-pending-init
loop-pending-init c = (came_first _ _ (ready_formed c.requires), rw (c.all-pending.ensures.stale, c.all-pending.ensures.news) (all_tracked _ (image_job c.args.m.now) _))

pub round-filled-requires : goal.round-filled-requires
round-filled-requires c =
    let l = c.loop-pending in
    record { ready = formed_ready c.requires _ l.invariant.0.formed; tracked = l.invariant.1 }

pub overflow_add-rounds : goal.overflow_add-rounds
overflow_add-rounds c =
    omega (arith, came_rounds _ _ _ _ _ c.loop-pending.invariant.0, ready_small c.requires)

-- after a round
module _ (c : After-round-filled) where
  -- and another is to come
  came_here :
      (c.round-filled.result ≡ 0 → ⊥)
      → Came (job_of c.args.m.now) c.args.table.now c.round-filled.new.table (c.loop-pending.rounds + 1) (c.loop-pending.cells + c.round-filled.result)
  came_here = came_more _ _ _ _ _ c.loop-pending.invariant.0 _ _ c.round-filled.ensures.leaves

pub returns-then-filled-eq0 : goal.returns-then-filled-eq0
unfolding left
returns-then-filled-eq0 c =
    let (table, (rounds, cells)) = came_last _ _ _ _ _ c.loop-pending.invariant.0 _ _ c.round-filled.ensures.leaves c.if-filled-eq0.true in
    record {
      cells_value = finished_told _ _ _ _ _ _ _ table rounds cells c.subformulas.ensures.0 c.owner_cell-verdict.ensures;
      table_after = table;
      rounds_bound = finished_rounds _ _ _ 0 _ 0 0 table rounds;
    }

pub overflow_add-cells : goal.overflow_add-cells
overflow_add-cells c =
    omega (arith, came_cells _ _ _ _ _ (came_here (goal.at.overflow_add-cells c).After-round-filled c.if-filled-eq0.false), ready_small c.requires)

pub loop-pending-smaller : goal.loop-pending-smaller
loop-pending-smaller c =
    omega (arith, came_rounds _ _ _ _ _ c.loop-pending.invariant.0)

pub loop-pending-preserved : goal.loop-pending-preserved
loop-pending-preserved c =
    (came_here (goal.at.loop-pending-preserved c).After-round-filled c.if-filled-eq0.false, c.round-filled.ensures.tracked)
