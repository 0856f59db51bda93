-- The typed text, by whether the input ends in byte 10. Assumes nothing.
use Prim.Native.Nat.{◌-◌, ◌≤◌}
use mathlib.Core.Path.{◌≡◌}
use native.Mathlib.Omega.{arith}
use borrow.Author.Tests.{eq-eqb, ne_eqb}
use lib.ListN.{length, take, get_or}
use lib.Seq.{take-length}
use Rattle.text.specs.Field.{Text}
use Rattle.rule_output.specs.RuleOutput.{typed}

module _ (x : Text) where
  pub typed_ended : get_or x (length x - 1) 0 ≡ 10 → (take (length x - 1) x ≡ typed x) × (length x - 1 ≤ length x)
  unfolding typed
  typed_ended e = (simp (eq-eqb (get_or x (length x - 1) 0) 10 e), omega arith)

  pub typed_whole : (get_or x (length x - 1) 0 ≡ 10 → ⊥) → (take (length x) x ≡ typed x) × (length x ≤ length x)
  unfolding typed
  typed_whole n = (simp (ne_eqb (get_or x (length x - 1) 0) 10 n, take-length), omega arith)
