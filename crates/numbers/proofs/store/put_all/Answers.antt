-- `put_all`: after i turns the first i numbers are stored.
use Rattle.std.proofs.Common.{sym, ◌∙◌, arith, rules}
use Rattle.numbers.proofs.StoredLaws.{from_none, from_more, from_all, from_past}
use Rattle.numbers.proofs.store.put_all.Goals as goal

pub returns-then-out-at : goal.returns-then-out-at
returns-then-out-at c = sym (from_past c.args.at c.args.out.now c.args.numbers.now c.if-out-at.true)

pub loop-i-init : goal.loop-i-init
loop-i-init c = (search rules, sym (from_none c.args.at c.args.out.now c.args.numbers.now))

pub loop-i-preserved : goal.loop-i-preserved
loop-i-preserved c =
    let a = c.args in
    let now = c.loop-i in
    (search rules, from_more a.at a.out.now a.numbers.now now.out _ now.i (omega arith) now.invariant.1 c.put.ensures)

pub returns : goal.returns
returns c =
    let a = c.args in
    c.loop-i.invariant.1 ∙ from_all a.at a.out.now a.numbers.now c.loop-i.i (omega arith)
