-- `write_cells`: a cell more, behind those written.
use Rattle.std.proofs.Common.{ℕ, ◌≤◌, ◌+◌, length, length-take, length-drop, arith, rules}
use Rattle.image.specs.Denoted.{job_of}
use Rattle.page_writer.proofs.PartLaws.{cells_turn, cells_over, run_inside, run_low}
use Rattle.page_writer.proofs.write_cells.Goals as goal
use Rattle.page_writer.proofs.write_cells.Goals.{After-subformulas}

-- the run lies in the table
within : (c : After-subformulas) → c.cell_at-first.result + c.subformulas.result ≤ length c.args.table.now
within c =
    let a = c.args in
    run_inside a.m.now a.table.now c.requires.ready a.n a.s c.requires.row.node_in c.requires.row.state_in _ _ c.cell_at-first.ensures.0 c.subformulas.ensures.0

pub slice_bounds-cell-items-end : goal.slice_bounds-cell-items-end
slice_bounds-cell-items-end c = let fits = within (goal.at.slice_bounds-cell-items-end c).After-subformulas in search (rules, fits)

pub mark-requires : goal.mark-requires
mark-requires c =
    let a = c.args in
    run_low a.m.now a.table.now c.requires.ready a.n a.s c.requires.row.node_in c.requires.row.state_in _ c.loop-k.k _ c.cell_at-first.ensures.0
    (omega (arith, length-take {A = ℕ}))

pub loop-k-preserved : goal.loop-k-preserved
loop-k-preserved c =
    let a = c.args in
    cells_turn (job_of a.m.now) a.table.now a.n a.s _ _ _ c.loop-k.out _ _ c.loop-k.k _ c.cell_at-first.ensures.0 (omega (arith, length-take {A = ℕ}))
    c.loop-k.invariant (omega (arith, length-take {A = ℕ})) c.mark.ensures c.write_two.ensures

pub returns : goal.returns
returns c =
    let a = c.args in
    let fits = within (goal.at.returns c).After-subformulas in
    cells_over (job_of a.m.now) a.table.now a.n a.s _ _ c.loop-k.k c.loop-k.invariant (omega (arith, length-take {A = ℕ}, length-drop {A = ℕ}))
