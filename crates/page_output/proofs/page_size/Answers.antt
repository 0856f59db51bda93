-- `page_size`: 80 bytes for each state that line 1 has, and 80 more.
use Rattle.std.proofs.Common.{◌+◌, ◌*◌, ap, arith}
use Rattle.page_output.proofs.page_size.Goals as goal

pub returns : goal.returns
returns c =
    let one = c.line_one-h.ensures in
    let few = one.states_few in
    record { small = omega arith; right = λ own read. ap (λ s. 80 * (s + 1)) (one.right own read).0 }
