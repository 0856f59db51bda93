-- `bears`: by the mark of its own, then by rule.
use mathlib.Core.Path.{◌≡◌, refl, sym, ◌∙◌, ap}
use mathlib.Core.Bool.{false}
use mathlib.Core.List.{[], ◌∷◌}
use native.Mathlib.Omega.{arith}
use borrow.Author.Rules.{rules}
use Rattle.job.specs.Rule.{operands, InRange}
use Rattle.job.proofs.RuleLaws.{asks_up}
use Rattle.cells.specs.Rest.{is_stale}
use Rattle.stepping.proofs.StaleLaws.{asks_one, bears_own, bears_none, bears_one, bears_both}
use Rattle.stepping.proofs.stale.bears.Goals as goal
use Rattle.stepping.proofs.stale.bears.Goals.{Else-is_stale}

pub returns-then-is_stale : goal.returns-then-is_stale
returns-then-is_stale c = bears_own _ _ _ _ (sym c.is_stale.ensures ∙ c.if-is_stale.true)

-- the column itself is not stale
own_rested : (c : Else-is_stale) → is_stale c.args.pending.now.stale c.args.n c.args.k ≡ false
own_rested c = sym c.is_stale.ensures ∙ c.if-is_stale.false

pub is_stale-requires-in-Not : goal.is_stale-requires-in-Not
unfolding InRange
is_stale-requires-in-Not c = let a = rw c.in-Not.is at c.requires.2 in (search rules, omega arith)

pub is_stale-requires-in-And : goal.is_stale-requires-in-And
unfolding InRange
is_stale-requires-in-And c = let (a, b) = rw c.in-And.is at c.requires.2 in (search rules, omega arith)

pub is_stale-requires-else-is_stale-2 : goal.is_stale-requires-else-is_stale-2
unfolding InRange
is_stale-requires-else-is_stale-2 c =
    let (a, b) = rw c.in-And.is at c.requires.2 in (search rules, omega arith)

pub is_stale-requires-in-Next : goal.is_stale-requires-in-Next
unfolding InRange
is_stale-requires-in-Next c = let a = rw c.in-Next.is at c.requires.2 in (search rules, omega arith)

pub asks_stale-requires : goal.asks_stale-requires
unfolding InRange
asks_stale-requires c =
    let pre = c.requires in
    (pre.0, asks_up _ 32 c.in-Sets.g.start pre.1 (rw c.in-Sets.is at pre.2).0)

pub asks_stale-requires-else-asks_stale : goal.asks_stale-requires-else-asks_stale
unfolding InRange
asks_stale-requires-else-asks_stale c =
    let pre = c.requires in
    (pre.0, asks_up _ 32 c.in-Sets.g.grow pre.1 (rw c.in-Sets.is at pre.2).1)

pub returns-in-Atom : goal.returns-in-Atom
returns-in-Atom c = bears_none _ _ _ _ (own_rested (goal.at.returns-in-Atom c).Else-is_stale) (ap operands c.in-Atom.is)

pub returns-in-Not : goal.returns-in-Not
returns-in-Not c =
    bears_one _ _ _ _ _ c.is_stale-in-Not.result (own_rested (goal.at.returns-in-Not c).Else-is_stale) (ap operands c.in-Not.is)
    c.is_stale-in-Not.ensures

pub returns-in-Next : goal.returns-in-Next
returns-in-Next c =
    bears_one _ _ _ _ _ c.is_stale-in-Next.result (own_rested (goal.at.returns-in-Next c).Else-is_stale) (ap operands c.in-Next.is)
    c.is_stale-in-Next.ensures

-- of two, the first or else the second
pub returns-then-is_stale-2 : goal.returns-then-is_stale-2
returns-then-is_stale-2 c =
    c.if-is_stale-2.true
    ∙ bears_both _ _ _ _ (_ ∷ []) (_ ∷ []) (own_rested (goal.at.returns-then-is_stale-2 c).Else-is_stale)
    (ap operands c.in-And.is) (asks_one _ _ _ (sym c.if-is_stale-2.true ∙ c.is_stale-in-And.ensures)) refl

pub returns-else-is_stale-2 : goal.returns-else-is_stale-2
returns-else-is_stale-2 c =
    bears_both _ _ _ _ (_ ∷ []) (_ ∷ []) (own_rested (goal.at.returns-else-is_stale-2 c).Else-is_stale)
    (ap operands c.in-And.is) (asks_one _ _ _ (sym c.if-is_stale-2.false ∙ c.is_stale-in-And.ensures))
    (asks_one _ _ _ c.is_stale-else-is_stale-2.ensures)

pub returns-then-asks_stale : goal.returns-then-asks_stale
returns-then-asks_stale c =
    c.if-asks_stale.true
    ∙ bears_both _ _ _ _ _ _ (own_rested (goal.at.returns-then-asks_stale c).Else-is_stale)
    (ap operands c.in-Sets.is) (sym c.if-asks_stale.true ∙ c.asks_stale.ensures) refl

pub returns-else-asks_stale : goal.returns-else-asks_stale
returns-else-asks_stale c =
    bears_both _ _ _ _ _ _ (own_rested (goal.at.returns-else-asks_stale c).Else-is_stale)
    (ap operands c.in-Sets.is) (sym c.if-asks_stale.false ∙ c.asks_stale.ensures) c.asks_stale-else-asks_stale.ensures
