-- What closing fills: one value. Assumes nothing.
use Rattle.std.specs.Prelude.{ℕ}
use Rattle.table.specs.Filling.{Values}

unfoldable pub constant : ℕ → Values
constant v n s k = v
