-- `read_line`: the fields so far are read.
use mathlib.Core.Path.{◌≡◌}
use lib.ListN.{length}
use Rattle.text.proofs.FieldsLaws.{FieldsRead}
use Rattle.text.proofs.fields.read_line.Given as goal

abbrev pub invariant-loop-i : goal.invariant-loop-i
invariant-loop-i g l = record { long : length l.number-items ≡ g.row.N; read : FieldsRead l.text l.at l.number-items l.i }
