-- `write_line`: a number more, and byte 10 behind the last.
use lib.ListN.{length}
use Rattle.law.proofs.Pieces.{Written}
use Rattle.text.proofs.WriteLaws.{field_of}
use Rattle.text.proofs.decimal.write_line.Given as goal

abbrev pub invariant-loop-i : goal.invariant-loop-i
invariant-loop-i l = Written 5 (field_of l.numbers) l.at l.initial.out l.out (length l.numbers) l.i
