-- `next`: by its tests.
use Rattle.values.proofs.ValueLaws.{next_border, next_yes, next_no, next_open}
use Rattle.values.proofs.value.next.Goals as goal

pub returns-then-ne : goal.returns-then-ne
returns-then-ne c =
    next_border _ _ _ _ _ c.args.all _ c.place.ensures _ c.ne.ensures c.if-ne.true

pub returns-then-meets : goal.returns-then-meets
returns-then-meets c =
    next_yes _ _ _ _ _ c.args.all _ c.place.ensures _ c.ne.ensures c.if-ne.false _ c.meets.ensures
    c.if-meets.true

pub returns-then-meets-2 : goal.returns-then-meets-2
returns-then-meets-2 c =
    next_no _ _ _ _ _ c.args.all _ c.place.ensures _ c.ne.ensures c.if-ne.false _ c.meets.ensures _
    c.meets-2.ensures c.if-meets.false c.if-meets-2.true

pub returns : goal.returns
returns c =
    next_open _ _ _ _ _ c.args.all _ c.place.ensures _ c.ne.ensures c.if-ne.false _ c.meets.ensures _
    c.meets-2.ensures c.if-meets.false c.if-meets-2.false
