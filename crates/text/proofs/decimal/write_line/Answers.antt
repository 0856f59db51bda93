-- `write_line`: a number more, and byte 10 behind the last.
use mathlib.Core.Path.{refl}
use Rattle.law.proofs.Pieces.{written_next, written_end}
use Rattle.text.proofs.WriteLaws.{short_at, field_of, fields_length, line_written}
use borrow.Author.Rules.{rules}
use native.Mathlib.Omega.{arith}
use Rattle.text.proofs.decimal.write_line.Goals as goal

pub write_field-requires : goal.write_field-requires
write_field-requires c =
    let a = c.args in
    let l = c.loop-i in
    (short_at a.numbers.now l.i c.requires.0 (search rules), omega (arith, l.invariant.long, l.invariant.within))

pub loop-i-preserved : goal.loop-i-preserved
loop-i-preserved c =
    let a = c.args in
    let l = c.loop-i in
    written_next 5 (field_of a.numbers.now) a.at _ _ l.out l.i l.invariant _ _ (search rules) (fields_length a.numbers.now l.i) refl
    c.write_field.ensures

pub returns : goal.returns
returns c = line_written _ _ _ _ (written_end _ _ _ _ _ _ c.loop-i.i c.loop-i.invariant (search rules))
