-- `read_line`: all fields and byte 10, as in the definition.
use Rattle.std.proofs.Common.{sym, ◌∙◌, arith}
use Rattle.text.proofs.FieldsLaws.{line_no_field, line_no_end, line_read, line_short}
use Rattle.text.proofs.fields.read_line.Goals as goal

pub returns-in_err-number-clause-is : goal.returns-in_err-number-clause-is
returns-in_err-number-clause-is g c =
    let none = line_no_field c.args.text.now c.args.at g.row.N c.loop-i.i c.loop-i-test.true (sym c.read_field.ensures.is ∙ c.in_err-number.was) in
    cc

pub returns-then-text-at-ne10-clause-is : goal.returns-then-text-at-ne10-clause-is
returns-then-text-at-ne10-clause-is g c =
    let i = c.loop-i.invariant in
    sym (line_no_end c.args.text.now c.args.at g.row.N c.loop-i.number-items i.long (λ k l. i.read k (omega arith)) c.if-text-at-ne10.true)

pub returns-clause-is : goal.returns-clause-is
returns-clause-is g c =
    let i = c.loop-i.invariant in
    sym (line_read c.args.text.now c.args.at g.row.N c.loop-i.number-items i.long (λ k l. i.read k (omega arith)) c.if-text-at-ne10.false)

pub returns-clause-short : goal.returns-clause-short
returns-clause-short g c =
    let i = c.loop-i.invariant in
    line_short c.args.text.now c.args.at g.row.N c.loop-i.number-items i.long (λ k l. i.read k (omega arith))
