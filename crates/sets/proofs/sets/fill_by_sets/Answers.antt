-- `fill_by_sets`: no empty cell, or the two sets give the values.
use mathlib.Core.Path.{sym, ◌∙◌}
use Rattle.std.proofs.Common.{rules}
use Rattle.sets.proofs.SetLaws.{value_low, sets_filled, no_empty_filled}
use Rattle.image.proofs.ImageLaws.{image_job}
use Rattle.spread.proofs.Marks.{number_at}
use Rattle.sets.proofs.sets.fill_by_sets.Goals as goal

pub returns-then-not-has_empty : goal.returns-then-not-has_empty
returns-then-not-has_empty c =
    let lent = c.requires.ready.lent in
    no_empty_filled _ _ _ _ (image_job c.args.m.now) lent.long _ (sym c.has_empty.ensures ∙ c.if-not-has_empty.true)

pub fill_column-requires-clause-askable : goal.fill_column-requires-clause-askable
fill_column-requires-clause-askable c =
    let low = value_low _ _ c.requires.ready _ _ c.args.g c.requires.column c.requires.in_range in
    let few = (image_job c.args.m.now).states.below in
    search (rules, low, few)

pub returns : goal.returns
returns c =
    sets_filled _ _ c.requires.ready _ _ c.args.g c.requires.column c.requires.in_range _ _ c.set_of-small.ensures c.set_of-out.ensures _ _
    (c.fill_column.ensures.leaves _ (λ u s r d i l h own p. search (rules, number_at)))
