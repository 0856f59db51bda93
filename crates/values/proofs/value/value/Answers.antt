-- `value`: each rule by its own law.
use mathlib.Core.Path.{refl, ◌∙◌, ap, ap₂, subst}
use Rattle.job.specs.Rule.{InRange}
use Rattle.cells.specs.Step.{opposite, both}
use Rattle.values.specs.Values.{value_at}
use Rattle.values.proofs.ValueLaws.{atom_value, by_case}
use native.Mathlib.Omega.{arith}
use Rattle.values.proofs.value.value.Goals as goal

pub overflow_cast-bit : goal.overflow_cast-bit
unfolding InRange
overflow_cast-bit c = let small = subst (InRange _) c.in-Atom.is c.requires.rule in omega arith

pub overflow_shr-bit : goal.overflow_shr-bit
unfolding InRange
overflow_shr-bit c = let small = subst (InRange _) c.in-Atom.is c.requires.rule in omega arith

pub cell-a-requires : goal.cell-a-requires
unfolding InRange
cell-a-requires c =
    let p = c.requires in
    record { lent = p.lent; cell = record { node_in = p.row.node_in; state_in = p.row.state_in; subformula_in = subst (InRange _) c.in-Not.is p.rule } }

pub cell-a-requires-in-And : goal.cell-a-requires-in-And
unfolding InRange
cell-a-requires-in-And c =
    let p = c.requires in
    record { lent = p.lent; cell = record { node_in = p.row.node_in; state_in = p.row.state_in; subformula_in = (subst (InRange _) c.in-And.is p.rule).0 } }

pub cell-b-requires : goal.cell-b-requires
unfolding InRange
cell-b-requires c =
    let p = c.requires in
    record { lent = p.lent; cell = record { node_in = p.row.node_in; state_in = p.row.state_in; subformula_in = (subst (InRange _) c.in-And.is p.rule).1 } }

pub next-requires : goal.next-requires
unfolding InRange
next-requires c =
    let p = c.requires in
    record { lent = p.lent; cell = record { node_in = p.row.node_in; state_in = p.row.state_in; subformula_in = subst (InRange _) c.in-Next.is p.rule } }

pub returns-in-Atom : goal.returns-in-Atom
unfolding value_at
returns-in-Atom c =
    by_case _ _ _ _ _ _ _ c.in-Atom.is (atom_value _ _ _ _ c.label.ensures)

pub returns-in-Not : goal.returns-in-Not
unfolding value_at
returns-in-Not c =
    by_case _ _ _ _ _ _ _ c.in-Not.is (c.opposite.ensures ∙ ap opposite c.cell-a.ensures)

pub returns-in-And : goal.returns-in-And
unfolding value_at
returns-in-And c =
    by_case _ _ _ _ _ _ _ c.in-And.is (c.both.ensures ∙ ap₂ both c.cell-a-in-And.ensures c.cell-b.ensures)

pub returns-in-Next : goal.returns-in-Next
unfolding value_at
returns-in-Next c = by_case _ _ _ _ _ _ _ c.in-Next.is c.next.ensures

pub returns-in-Sets : goal.returns-in-Sets
unfolding value_at
returns-in-Sets c = by_case _ _ _ _ _ _ _ c.in-Sets.is refl
