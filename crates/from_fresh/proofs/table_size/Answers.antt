-- `table_size`: line 1's product.
use Rattle.from_fresh.proofs.table_size.Goals as goal

pub returns : goal.returns
returns c = let one = c.line_one-h.ensures in record { small = one.cells_few; right = λ own read. (one.right own read).1 }
