-- `is_idle`: the exchange on a copy of the table.
use Prim.Native.Nat.{◌≤◌}
use mathlib.Core.Path.{◌∙◌, ap}
use lib.ListN.{length}
use Rattle.cells.specs.Close.{settled}
use Rattle.image.specs.Denoted.{job_of}
use Rattle.image.proofs.ImageLaws.{image_job}
use Rattle.cells.proofs.Tracked.{all_tracked}
use Rattle.exchange.proofs.ReadyLaws.{ready_small}
use Rattle.exchange.proofs.SettledLaws.{settled_told}
use native.Mathlib.Omega.{arith}
use borrow.Author.Rules.{rules}
use Rattle.exchange.proofs.settled.is_idle.Goals as goal

pub slice_bounds-part-end : goal.slice_bounds-part-end
slice_bounds-part-end c =
    let small = ready_small c.requires.ready in
    let room = c.requires.in_bounds in
    let within : length c.args.table.now ≤ length c.args.copy.now = omega arith in
    search (rules, within)

pub exchange-requires : goal.exchange-requires
exchange-requires c =
    let same = c.copy_from_slice.ensures.after in
    rw same (record { ready = c.requires.ready; tracked = rw (c.all.ensures.stale, c.all.ensures.news) (all_tracked _ (image_job c.args.m.now) _) })

pub returns : goal.returns
returns c =
    let same = c.copy_from_slice.ensures.after in
    settled_told _ _ (rw same c.requires.ready.lent.long) _ c.exchange.ensures.leaves.told_is ∙ ap (settled (job_of c.args.m.now)) same
