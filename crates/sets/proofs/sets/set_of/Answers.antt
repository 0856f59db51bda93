-- `set_of`: the states passed so far are marked, and in the end the marks spread.
use Rattle.image.specs.Image.{fragment_size}
use Rattle.image.specs.Denoted.{job_of}
use Rattle.image.proofs.ImageLaws.{image_job}
use Rattle.image.proofs.FragmentSlice.{Member, member_read, members_over}
use Rattle.spread.specs.Spread.{mark_number, numbers}
use Rattle.spread.proofs.Marks.{numbers_all, numbers_set}
use Rattle.sets.specs.Marks.{unknown, mark_at, Marks}
use Rattle.sets.proofs.MarkLaws.{marks_start, marks_more, cells_in, mark_read, marks_join, marks_set}
use native.Mathlib.Omega.{arith}
use Rattle.sets.proofs.sets.set_of.Goals as goal
use Rattle.sets.proofs.sets.set_of.Goals.{After-from-s, After-marks-1}

pub loop-state-init : goal.loop-state-init
loop-state-init c =
    rw (numbers_all 256 c.unknown-marks.result, c.unknown-marks.ensures) (marks_start _ (image_job c.args.m.now) _ _ (unknown c.args.wide))

-- the state at the loop's index
here : (c : After-from-s) → Member (job_of c.args.m.now) c.args.n c.loop-state.state-index c.from-s.result
here c =
    member_read _ (image_job c.args.m.now) c.args.n _ c.fragment-state-items.ensures c.loop-state.state-index _ c.loop-state-test.true
    c.from-s.ensures

pub mark-requires : goal.mark-requires
mark-requires c =
    let at = here (goal.at.mark-requires c).After-from-s in
    record {
      lent = c.requires.ready.lent;
      cells_in = cells_in _ _ c.requires.ready _ _ c.args.g c.args.wide c.requires.column c.requires.in_range _ at.state_in _ c.marking_of-by.ensures;
    }

pub bounds-marks-s : goal.bounds-marks-s
bounds-marks-s c = (here (goal.at.bounds-marks-s c).After-from-s).small

pub loop-state-preserved : goal.loop-state-preserved
loop-state-preserved c =
    let at = here (goal.at.loop-state-preserved c).After-from-s in
    let l = c.loop-state in
    let s = c.from-s.result in
    let read = mark_read _ _ c.requires.ready _ _ c.args.g c.args.wide c.requires.column c.requires.in_range s c.mark.ensures c.marking_of-by.ensures in
    rw (numbers_set l.marks s c.mark.result)
    (marks_more _ (image_job c.args.m.now) _ _ (unknown c.args.wide) l.state-index at.ranked s at.is (mark_number c.mark.result) read (numbers l.marks) l.invariant)

-- the loop is over
module _ (c : After-marks-1) where
  all_marked :
      let a = c.args in
      Marks (job_of a.m.now) a.n (mark_at (job_of a.m.now) a.table.now a.n a.k a.g a.wide) (unknown a.wide)
      (fragment_size (job_of a.m.now) a.n) (numbers c.loop-state.marks)
  all_marked =
      let over = members_over _ (image_job c.args.m.now) c.args.n _ c.fragment-state-items.ensures c.loop-state.state-index (omega arith) c.loop-state-test.false in
      rw over at c.loop-state.invariant

pub spread-requires : goal.spread-requires
spread-requires c =
    record { n_bound = c.requires.column.node_in; joinable = marks_join _ _ c.requires.ready _ _ c.args.g c.args.wide c.requires.column c.requires.in_range _ (all_marked (goal.at.spread-requires c).After-marks-1) }

pub returns : goal.returns
returns c =
    marks_set _ _ c.requires.ready _ _ c.args.g c.args.wide c.requires.column c.requires.in_range _ (all_marked (goal.at.returns c).After-marks-1) _ c.spread.ensures
