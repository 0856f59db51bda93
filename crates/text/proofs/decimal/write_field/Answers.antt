-- `write_field`: with the columns that are left, the number is written.
use mathlib.Core.Path.{sym, ◌∙◌}
use native.Mathlib.Omega.{arith}
use Rattle.text.proofs.WriteLaws.{column_written, columns_written}
use Rattle.text.proofs.decimal.write_field.Goals as goal

pub loop-column-preserved : goal.loop-column-preserved
loop-column-preserved c =
    let l = c.loop-column in
    let more = column_written l.out c.args.at c.args.n l.column (omega arith) in
    rw c.digit_column.ensures (more ∙ l.invariant)

pub returns : goal.returns
returns c =
    let l = c.loop-column in
    sym (columns_written l.out c.args.at c.args.n l.column (omega arith)) ∙ l.invariant
