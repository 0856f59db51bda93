-- `close_column`: the nodes passed so far are closed.
use mathlib.Core.Path.{◌≡◌}
use Rattle.image.specs.Denoted.{job_of}
use Rattle.table.proofs.FillingLoops.{nodes_filling_start, nodes_filling_turn, nodes_filling_over}
use Rattle.closing.specs.Closed.{constant}
use Rattle.closing.proofs.ClosingLaws.{all_closed, value_is}
use borrow.Author.Rules.{rules}
use native.Mathlib.Omega.{arith}
use Rattle.closing.proofs.close_column.Goals as goal

pub loop-n-init : goal.loop-n-init
loop-n-init c =
    (omega arith, c.nodes-n-end.ensures.0, nodes_filling_start c.args.m.now c.args.table.now c.requires.lent _ c.args.k)

pub loop-n-preserved : goal.loop-n-preserved
unfolding constant
loop-n-preserved c = (
  search rules,
  c.loop-n.invariant.1,
  nodes_filling_turn c.args.m.now c.args.table.now c.requires.lent _ c.args.k c.loop-n.n c.loop-n.table c.loop-n.filled
      c.loop-n.invariant.2 _ _ (c.fill_column-filled.ensures.leaves (constant c.closed_value-v.result) (λ u s r d i l h own p. search rules)),
)

pub returns : goal.returns
returns c =
    let l = c.loop-n in
    let done : l.n ≡ (job_of c.args.m.now).nodes = omega (arith, l.invariant.1) in
    all_closed _ _ c.args.k c.closed_value-v.result _ _ c.requires.k_value.0
    (value_is (job_of c.args.m.now) c.args.k _ _ _ c.subformula.ensures.0 c.rule_of.ensures
    c.closed_value-v.ensures)
    (nodes_filling_over c.args.m.now c.args.table.now c.requires.lent _ c.args.k l.n _ _ done l.invariant.2)
