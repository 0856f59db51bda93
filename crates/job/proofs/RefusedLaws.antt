-- Every refusal has a number. Assumes nothing.
use Rattle.std.proofs.Common.{◌≡◌, arith}
use Rattle.job.specs.Refused.{number_of}
use Rattle.job.specs.declared.refusal.Refusal.{Refusal}
use Rattle.job.specs.declared.refusal.Refusal.TheVariants.{LineOne, Ranges, TextLength, MalformedLine, StateLine, EdgeLine, NoEdgeOut, SubformulaLine, TableLength, Cells, Node, StateOrSubformula, NotTemporal, OwnerEmpty, Value, NotBorder, OtherValue, OutsideFragment, NotSettled, NothingOpen, RuleBuffer, NoRule, TooManyLines, PageBuffer, Marks, NoneMarked}

pub numbered : (why : Refusal) → number_of why ≡ 0 → ⊥
numbered LineOne e = omega arith
numbered Ranges e = omega arith
numbered TextLength e = omega arith
numbered (MalformedLine line) e = omega arith
numbered (StateLine line) e = omega arith
numbered (EdgeLine line) e = omega arith
numbered (NoEdgeOut line) e = omega arith
numbered (SubformulaLine line) e = omega arith
numbered TableLength e = omega arith
numbered Cells e = omega arith
numbered Node e = omega arith
numbered StateOrSubformula e = omega arith
numbered NotTemporal e = omega arith
numbered OwnerEmpty e = omega arith
numbered Value e = omega arith
numbered NotBorder e = omega arith
numbered OtherValue e = omega arith
numbered OutsideFragment e = omega arith
numbered NotSettled e = omega arith
numbered NothingOpen e = omega arith
numbered RuleBuffer e = omega arith
numbered NoRule e = omega arith
numbered TooManyLines e = omega arith
numbered PageBuffer e = omega arith
numbered Marks e = omega arith
numbered NoneMarked e = omega arith
