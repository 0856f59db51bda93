-- `finish_fresh`: the first cells of a fresh table are a fresh table, and those that are left are finish's.
use Prim.Native.Nat.{◌-◌}
use mathlib.Core.Path.{◌∙◌, ap}
use borrow.Rule.Slice.PartMut.{post_of}
use Rattle.cells.specs.Calls.{finish, answer}
use Rattle.from_fresh.proofs.TableLaws.{part_fresh, part_finished}
use Rattle.from_fresh.proofs.finish_fresh.Goals as goal

pub returns : goal.returns
returns c =
    let given = c.requires in
    let a = c.args in
    let fresh = part_fresh _ _ given.size_in_bounds given.cells_value in
    record { told = c.finish.ensures.told ∙ ap (answer finish _) fresh; left = part_finished _ a.size _ _ (post_of 0 (a.size - 0) a.cells.now) fresh c.finish.ensures.left }
