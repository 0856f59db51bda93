-- `smallest_open`: no subformula passed so far is open.
use mathlib.Core.Path.{refl, sym, ◌∙◌}
use borrow.Author.Count.{below_more}
use borrow.Author.Rules.{rules}
use native.Mathlib.Omega.{arith}
use Rattle.cells.proofs.Fill.{not_empty}
use Rattle.closing.proofs.ClosingLaws.{open_here, open_nowhere, smallest_open_is, smallest_none}
use Rattle.closing.proofs.smallest_open.Goals as goal

pub loop-s-preserved : goal.loop-s-preserved
loop-s-preserved c =
    let l = c.loop-s in (
      search rules,
      l.invariant.1,
      below_more _ l.s l.invariant.2 (not_empty _ (λ e. c.if-owner_cell-eq2.false (c.owner_cell.ensures ∙ e))),
    )

pub loop-k-preserved : goal.loop-k-preserved
loop-k-preserved c =
    let l = c.loop-k in
    let r = c.loop-s in (
      search rules,
      l.invariant.1,
      below_more _ l.k l.invariant.2 (open_nowhere _ _ l.k (λ u g. r.invariant.2 u (omega (arith, r.invariant.1)))),
    )

pub returns-then-owner_cell-eq2-clause-value : goal.returns-then-owner_cell-eq2-clause-value
returns-then-owner_cell-eq2-clause-value c =
    let l = c.loop-k in
    let r = c.loop-s in
    (smallest_open_is _ _ l.k (omega (arith, l.invariant.1)) l.invariant.2
    (open_here _ _ r.s l.k (omega (arith, r.invariant.1)) (sym c.owner_cell.ensures ∙ c.if-owner_cell-eq2.true))).0

pub returns-after-loop-k-clause-value : goal.returns-after-loop-k-clause-value
returns-after-loop-k-clause-value c =
    let l = c.loop-k in
    (smallest_none _ _ _ refl (λ j g. l.invariant.2 j (omega (arith, l.invariant.1)))).0
