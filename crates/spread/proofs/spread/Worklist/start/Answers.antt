-- `start`: the states of the fragment passed so far wait where they are in the set.
use Rattle.std.proofs.Common.{arith}
use Rattle.image.specs.Denoted.{job_of}
use Rattle.image.proofs.ImageLaws.{image_job}
use Rattle.image.proofs.FragmentSlice.{Member, member_read, members_over}
use Rattle.spread.proofs.Marks.{number_is, number_not}
use Rattle.spread.proofs.Waits.{start_none, start_rest, start_room, start_push, start_over}
use Rattle.spread.proofs.Worklist.{list_start}
use Rattle.spread.proofs.spread.Worklist.start.Given.{Over}
use Rattle.spread.proofs.spread.Worklist.start.Goals as goal
use Rattle.spread.proofs.spread.Worklist.start.Goals.{After-from, then-is_in, else-is_in}

pub loop-state-init : goal.loop-state-init
loop-state-init g c = rw c.new-waiting.ensures (start_none _ _ _)

-- the state at the loop's index
here : (g : Over) (c : After-from g) → Member (job_of c.args.m.now) c.args.n c.loop-state.state-index c.from.result
here g c =
    member_read _ (image_job c.args.m.now) c.args.n _ c.fragment-state-items.ensures c.loop-state.state-index _ c.loop-state-test.true
    c.from.ensures

pub push-requires : goal.push-requires
push-requires g c =
    let at = here g (goal.at.push-requires g c).After-from in
    start_room _ _ (g.M.Marks.numbers c.args.marks.now) (image_job c.args.m.now) c.loop-state.invariant at.ranked _ at.is
    (number_is _ 2 c.is_in.ensures c.if-is_in.true)

pub loop-state-preserved : goal.loop-state-preserved
loop-state-preserved g c =
    let at = here g (goal.at.loop-state-preserved g c).After-from in
    let l = c.loop-state in
    let marks = g.M.Marks.numbers c.args.marks.now in
    elim c.if-is_in.branch [
      | then-is_in w ↦
          rw (w.waiting-is, w.push.ensures, ← c.from.ensures)
          (start_push _ _ marks (image_job c.args.m.now) l.invariant at.ranked _ at.is (number_is _ 2 c.is_in.ensures w.if-is_in.true))
      | else-is_in w ↦
          rw w.waiting-is
          (start_rest _ _ marks (image_job c.args.m.now) l.invariant at.ranked _ at.is (number_not _ 2 c.is_in.ensures w.if-is_in.false))
    ]

pub returns : goal.returns
returns g c =
    let over = members_over _ (image_job c.args.m.now) c.args.n _ c.fragment-state-items.ensures c.loop-state.state-index (omega arith) c.loop-state-test.false in
    let done = start_over _ _ _ (image_job c.args.m.now) (rw over at c.loop-state.invariant) in
    λ all. rw c.requires.counts (list_start (image_job c.args.m.now) c.requires.long done)
