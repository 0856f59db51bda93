-- `read_digits`: the number so far and the columns left give the whole.
use Prim.Native.Nat.{◌+◌, ◌^◌, ◌<◌}
use mathlib.Core.Path.{◌≡◌}
use lib.ListN.{drop}
use Rattle.text.specs.Field.{digits}
use Rattle.text.proofs.field.read_digits.Given as goal

abbrev pub invariant-loop-c : goal.invariant-loop-c
invariant-loop-c l =
    record { below : l.value < 10 ^ (l.c-index + 1); same : digits l.first l.columns ≡ digits l.value (drop l.c-index l.columns) }
