-- `write_field`: with the columns that are left, the number is written.
use Prim.Native.Nat.{◌+◌}
use mathlib.Core.Path.{◌≡◌}
use lib.ListN.{drop}
use lib.Seq.{sets}
use Rattle.text.specs.Decimal.{decimal}
use Rattle.text.proofs.decimal.write_field.Given as goal

abbrev pub invariant-loop-column : goal.invariant-loop-column
invariant-loop-column l = sets l.out (l.at + l.column) (drop l.column (decimal l.n)) ≡ sets l.initial.out l.at (decimal l.n)
