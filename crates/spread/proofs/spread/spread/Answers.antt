-- `spread`: some states of the set are told, the others wait.
use Rattle.std.proofs.Common.{◌≡◌, ◌∙◌, refl, ap, sym, [], ◌∷◌, ◌++◌}
use Rattle.image.specs.Denoted.{job_of}
use Rattle.image.proofs.ImageLaws.{image_job}
use Rattle.spread.specs.Underway.{Taken}
use Rattle.spread.proofs.Worklist.{list_taken, list_less, list_over}
use Rattle.spread.proofs.spread.spread.Given.{Over}
use Rattle.spread.proofs.spread.spread.Goals as goal
use Rattle.spread.proofs.spread.spread.Goals.{After-from}

pub loop-t-init : goal.loop-t-init
loop-t-init g c = (_, c.start-list.ensures c.args.all)

-- the state that is popped
module _ (g : Over) (c : After-from g) where
  popped : c.loop-t.list.waiting ≡ c.pop.new.self ++ c.from.result ∷ []
  popped = c.in-Some.ensures.some ∙ ap (λ t. c.pop.new.self ++ t ∷ []) (sym c.from.ensures)

  taken :
      Taken (job_of c.args.m.now) c.args.n c.args.all (g.M.Marks.numbers c.args.marks.now) c.loop-t.invariant.0 c.from.result
      (g.M.Marks.numbers c.loop-t.marks)
      (record { counts = c.loop-t.list.counts; waiting = c.pop.new.self })
  taken = list_taken c.loop-t.list c.loop-t.invariant.1 c.pop.new.self c.from.result popped _ refl refl

pub tell-requires-clause-taken : goal.tell-requires-clause-taken
tell-requires-clause-taken g c = (_, _, taken g (goal.at.tell-requires-clause-taken g c).After-from)

pub loop-t-smaller : goal.loop-t-smaller
loop-t-smaller g c =
    let at = (goal.at.loop-t-smaller g c).After-from in
    list_less c.loop-t.list c.tell.new.self c.loop-t.invariant.1 c.pop.new.self c.from.result (popped g at) (c.tell.ensures _ _ (taken g at))

pub loop-t-preserved : goal.loop-t-preserved
loop-t-preserved g c = (_, c.tell.ensures _ _ (taken g (goal.at.loop-t-preserved g c).After-from))

pub returns : goal.returns
returns g c =
    list_over (image_job c.args.m.now) c.loop-t.invariant.1 c.requires.joinable c.in_default.ensures.none
