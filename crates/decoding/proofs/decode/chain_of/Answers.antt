-- `chain_of`: what the lines of the edge and of its source say.
use Prim.Native.Nat.{◌<◌}
use mathlib.Core.Path.{◌≡◌, ◌∙◌, ap}
use Rattle.std.proofs.Common.{rules}
use Rattle.job.specs.Job.{size, owner}
use Rattle.image.specs.Lines.{lines_job}
use Rattle.image.specs.Image.{edge_from}
use Rattle.image.proofs.LinesLaws.{state_there, edge_there, source_read, target_read, owner_read}
use Rattle.decoding.proofs.decode.chain_of.Goals as goal
use Rattle.decoding.proofs.decode.chain_of.Goals.{After-from}

pub bounds-as_slice-e : goal.bounds-as_slice-e
bounds-as_slice-e c = edge_there c.args.lines.now _ c.as_slice.ensures.value c.args.e c.requires.e_bound

pub bounds-as_slice-e-2 : goal.bounds-as_slice-e-2
bounds-as_slice-e-2 c = edge_there c.args.lines.now _ c.as_slice.ensures.value c.args.e c.requires.e_bound

source : (c : After-from) → (c.from.result ≡ edge_from (lines_job c.args.lines.now).structure c.args.e) × (c.from.result < size (lines_job c.args.lines.now)) × (c.from.result < 256)
source c = source_read c.args.lines.now c.requires.is_job _ c.as_slice.ensures.value c.args.e c.requires.e_bound _ c.from.ensures

pub offset_bounds-as_slice-from : goal.offset_bounds-as_slice-from
offset_bounds-as_slice-from c = let small = source (goal.at.offset_bounds-as_slice-from c).After-from in search (rules, small.2)

pub bounds-as_slice-from : goal.bounds-as_slice-from
bounds-as_slice-from c = state_there c.args.lines.now _ c.as_slice-2.ensures.value _ (source (goal.at.bounds-as_slice-from c).After-from).1

pub returns-clause-node : goal.returns-clause-node
returns-clause-node c =
    let m = c.args.lines.now in
    let (is, inside, small) = source (goal.at.returns-clause-node c).After-from in
    let (o, node, few) = owner_read m c.requires.is_job _ c.as_slice-2.ensures.value _ inside _ c.from-2.ensures in
    (o ∙ ap (owner (lines_job m)) is, few)

pub returns-clause-state : goal.returns-clause-state
returns-clause-state c =
    let (is, inside, small) = target_read c.args.lines.now c.requires.is_job _ c.as_slice.ensures.value c.args.e c.requires.e_bound _ c.from-3.ensures in
    (is, small)
