-- `mark`: by its tests, over the cells that were read before each.
use mathlib.Core.Path.{refl, sym, ◌∙◌}
use borrow.Author.Tests.{not-true, not-false}
use Rattle.image.proofs.Places.{place_inner}
use Rattle.sets.proofs.MarkLaws.{mark_own, mark_other, mark_border, mark_start, mark_grow, mark_no_join, mark_by_cells}
use Rattle.sets.proofs.sets.mark.Goals as goal

pub returns-then-own-by : goal.returns-then-own-by
returns-then-own-by c = mark_by_cells _ _ _ _ _ c.cell-own.ensures refl refl refl (mark_own _ _ _ _ _ _ c.if-own-by.true)

pub returns-then-own-ne2 : goal.returns-then-own-ne2
returns-then-own-ne2 c =
    mark_by_cells _ _ _ _ _ c.cell-own.ensures refl refl refl (mark_other _ _ _ _ _ _ c.if-own-by.false c.if-own-ne2.true)

pub returns-then-counts : goal.returns-then-counts
returns-then-counts c =
    mark_by_cells _ _ _ _ _ c.cell-own.ensures (place_inner _ _ _ _ c.place.ensures) c.cell-b.ensures refl
    (mark_start _ _ _ _ _ _ c.if-own-by.false c.if-own-ne2.false (not-false _ (sym c.ne.ensures ∙ c.if-ne.false)) (sym c.counts.ensures ∙ c.if-counts.true))

pub returns-then-counts-2 : goal.returns-then-counts-2
returns-then-counts-2 c =
    mark_by_cells _ _ _ _ _ c.cell-own.ensures (place_inner _ _ _ _ c.place.ensures) c.cell-b.ensures c.cell-a.ensures
    (mark_grow _ _ _ _ _ _ c.if-own-by.false c.if-own-ne2.false (not-false _ (sym c.ne.ensures ∙ c.if-ne.false)) (sym c.counts.ensures ∙ c.if-counts.false) (sym c.counts-2.ensures ∙ c.if-counts-2.true))

pub returns : goal.returns
returns c =
    mark_by_cells _ _ _ _ _ c.cell-own.ensures (place_inner _ _ _ _ c.place.ensures) c.cell-b.ensures c.cell-a.ensures
    (mark_no_join _ _ _ _ _ _ c.if-own-by.false c.if-own-ne2.false (not-false _ (sym c.ne.ensures ∙ c.if-ne.false)) (sym c.counts.ensures ∙ c.if-counts.false) (sym c.counts-2.ensures ∙ c.if-counts-2.false))

pub returns-then-ne : goal.returns-then-ne
returns-then-ne c =
    mark_by_cells _ _ _ _ _ c.cell-own.ensures (place_inner _ _ _ _ c.place.ensures) refl refl
    (c.unknown.ensures ∙ mark_border _ _ _ _ _ _ c.if-own-by.false c.if-own-ne2.false (not-true _ (sym c.ne.ensures ∙ c.if-ne.true)))
