-- The bytes behind the first line, lent as a part and taken back. Assumes nothing.
use Prim.Native.Nat.{◌≤◌}
use mathlib.Core.Path.{◌≡◌, ap, ◌∙◌}
use mathlib.Core.List.{◌++◌, append-nil}
use native.Mathlib.Omega.{arith}
use lib.ListN.{length, take, drop, length-drop, drop_of_length-le}
use lib.Seq.{take_all, length-take-le, drop_at}
use borrow.Rule.Slice.PartMut.{put_mid}
use Rattle.text.specs.Field.{Text}
use Rattle.rule_output.specs.RuleOutput.{buffer}

module _ (out : Text) (long : length out ≡ 523) where
  behind_long : length (drop 11 out) ≡ 512
  behind_long = simp (length-drop) (omega arith)

  pub part_lent : drop 11 out ≡ buffer → take 512 (drop 11 out) ≡ buffer
  part_lent e = take_all 512 (drop 11 out) (omega (arith, behind_long)) ∙ e

  pub part_back : (part : Text) → drop 11 (put_mid 11 512 out part) ≡ part
  part_back part =
      let all : length (drop 11 out) ≤ 512 = omega (arith, behind_long) in
      drop_at (take 11 out) (part ++ drop 512 (drop 11 out)) 11 (length-take-le 11 out (omega arith))
      ∙ ap (λ r. part ++ r) (drop_of_length-le (drop 11 out) all)
      ∙ append-nil part
