-- `fill_column`: the states passed so far are filled.
use Rattle.std.proofs.Common.{◌∙◌, arith, rules}
use Rattle.image.specs.Denoted.{job_of}
use Rattle.image.proofs.ImageLaws.{image_job}
use Rattle.image.proofs.FragmentSlice.{Member, member_read, members_over, members_few}
use Rattle.table.specs.Lent.{Lent, IsCell}
use Rattle.table.specs.Filling.{Filling}
use Rattle.table.proofs.FillingLaws.{column_start, column_own}
use Rattle.table.proofs.FillingLoops.{filling_turn, filling_over}
use Rattle.table.proofs.column.fill_column.Given.{Over}
use Rattle.table.proofs.column.fill_column.Goals as goal
use Rattle.table.proofs.column.fill_column.Goals.{After-from-s}

pub loop-state-init : goal.loop-state-init
loop-state-init g c =
    (omega arith, λ new gives. column_start (job_of c.args.m.now) c.args.table.now c.requires.lent.long new c.args.n c.args.k)

-- the state at the loop's index
module _ (g : Over) (c : After-from-s g) where
  here : Member (job_of c.args.m.now) c.args.n c.loop-state.state-index c.from-s.result
  here =
      member_read (job_of c.args.m.now) (image_job c.args.m.now) c.args.n c.fragment-state-items.result.now c.fragment-state-items.ensures
      c.loop-state.state-index c.from-s.result c.loop-state-test.true c.from-s.ensures

  its_cell : IsCell (job_of c.args.m.now) c.args.n c.from-s.result c.args.k
  its_cell = record { node_in = c.requires.column.node_in; state_in = here.state_in; subformula_in = c.requires.column.subformula_in }

pub value-v-requires : goal.value-v-requires
value-v-requires g c =
    let so = goal.at.value-v-requires g c in
    let at = here g so.After-from-s in
    let cell = its_cell g so.After-from-s in
    let lent : Lent c.args.m.now c.loop-state.table = record { long = c.loop-state.auto.table ∙ c.requires.lent.long } in
    search (rules, c.requires.askable, at.inside)

pub put-filled-requires-clause-cell : goal.put-filled-requires-clause-cell
put-filled-requires-clause-cell g c =
    let in_state = (here g (goal.at.put-filled-requires-clause-cell g c).After-from-s).state_in in search (rules, in_state)

pub put-filled-requires-clause-s_value : goal.put-filled-requires-clause-s_value
put-filled-requires-clause-s_value g c = (here g (goal.at.put-filled-requires-clause-s_value g c).After-from-s).inside

pub loop-state-preserved : goal.loop-state-preserved
loop-state-preserved g c =
    let J = job_of c.args.m.now in
    let l = c.loop-state in
    let at = here g (goal.at.loop-state-preserved g c).After-from-s in
    let s = c.from-s.result in (
      omega (arith, l.invariant.0, c.put-filled.ensures.upper_bound),
      λ new gives.
          let so : Filling c.args.m.now c.args.table.now new c.args.n c.args.k l.state-index l.table l.filled =
          record { lent = record { long = l.auto.table ∙ c.requires.lent.long }; leaves = l.invariant.1 new gives; few = l.invariant.0 } in
          let own =
          column_own J c.args.table.now c.requires.lent.long new c.args.n c.args.k l.table l.filled (image_job c.args.m.now) l.state-index at.ranked so.leaves
          s at.is at.state_in c.requires.column.subformula_in in
          (filling_turn c.args.m.now c.args.table.now c.requires.lent new c.args.n c.args.k l.state-index l.table l.filled so at.ranked s
          at.is c.value-v.result _ _
          (gives _ s c.value-v.result l.filled l.state-index so.leaves (its_cell g (goal.at.loop-state-preserved g c).After-from-s) own c.value-v.ensures)
          (c.put-filled.ensures.leaves, c.put-filled.ensures.upper_bound)).leaves,
    )

pub returns-clause-leaves : goal.returns-clause-leaves
returns-clause-leaves g c =
    let l = c.loop-state in
    let over = members_over (job_of c.args.m.now) (image_job c.args.m.now) c.args.n _ c.fragment-state-items.ensures l.state-index (omega arith) c.loop-state-test.false in
    λ new gives.
    filling_over c.args.m.now c.args.table.now c.requires.lent new c.args.n c.args.k l.state-index l.table l.filled
    (record { lent = record { long = l.auto.table ∙ c.requires.lent.long }; leaves = l.invariant.1 new gives; few = l.invariant.0 }) over

pub returns-clause-upper_bound : goal.returns-clause-upper_bound
returns-clause-upper_bound g c =
    let few = members_few (job_of c.args.m.now) (image_job c.args.m.now) c.args.n _ c.fragment-state-items.ensures in omega (arith, c.loop-state.invariant.0)
