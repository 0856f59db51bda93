-- `put_all`: after i turns the first i numbers are stored.
use Rattle.std.proofs.Common.{◌≡◌, ◌≤◌, length, take}
use Rattle.numbers.specs.Stored.{stored_from}
use Rattle.numbers.proofs.store.put_all.Given as goal

abbrev pub invariant-loop-i : goal.invariant-loop-i
invariant-loop-i l = (l.i ≤ length l.numbers) × (l.out ≡ stored_from l.at l.initial.out (take l.i l.numbers))
