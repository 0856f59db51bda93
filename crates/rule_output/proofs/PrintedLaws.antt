-- What the program prints, without the buffer: the lines themselves, nothing more where it is refused; and 514 bytes decide. Assumes nothing.
use Prim.Native.Nat.{ℕ, ◌-◌, ◌*◌, ◌≤◌}
use mathlib.Core.Path.{◌≡◌, sym, ap, ◌∙◌}
use mathlib.Core.List.{[], ◌∷◌, ◌++◌, append-nil}
use native.Mathlib.Omega.{arith}
use borrow.Author.Tests.{leb-true, leb-false, eqb-true, eqb-false}
use lib.ListN.{length, take, drop, get_or, length-replicate}
use lib.Seq.{take_all, take_at, length-take-le}
use lib.Dec.{leb, eqb}
use Rattle.law.proofs.Bool.{split}
use Rattle.text.specs.Field.{Text}
use Rattle.text.specs.Decimal.{line}
use Rattle.rule_text.specs.Tree.{Tree}
use Rattle.rule_text.specs.Grammar.{Means}
use Rattle.rule_text.specs.Lines.{lines_of, lines_text}
use Rattle.rule_text.proofs.RuleCallLaws.{RefusedWith, rule_22_long, rule_accepted_when, lines_text_length}
use Rattle.rule_output.specs.RuleOutput.{buffer, typed, number_told, lines_told, rule_output}
use Rattle.rule_output.proofs.TypedLaws.{typed_ended, typed_whole}

buffer_long : length buffer ≡ 512
unfolding buffer
buffer_long = length-replicate {A = ℕ} 512 10

module _ (x : Text) where
  pub accepted_output :
      (f : Tree)
      → Means (typed x) f
      → length (typed x) ≤ 512
      → length (lines_of f) ≤ 32
      → rule_output x ≡ line (0 ∷ length (lines_of f) ∷ []) ++ lines_text (lines_of f)
  unfolding rule_output number_told lines_told
  accepted_output f means short few =
      let (told, left) = rule_accepted_when (typed x) buffer f means buffer_long short few in
      rw (told, left)
      (ap (λ r. line (0 ∷ length (lines_of f) ∷ []) ++ r)
      (take_at (lines_text (lines_of f)) (drop (16 * length (lines_of f)) buffer) (16 * length (lines_of f)) (lines_text_length (lines_of f))))

  pub refused_output : (n : ℕ) → RefusedWith (typed x) buffer n → rule_output x ≡ line (n ∷ 0 ∷ [])
  unfolding rule_output number_told lines_told
  refused_output n (told, left) = rw told (append-nil (line (n ∷ 0 ∷ [])))

  typed_long : length x - 1 ≤ length (typed x)
  typed_long =
      split (eqb (get_or x (length x - 1) 0) 10)
      (λ t.
      let (e, l) = typed_ended x (eqb-true (get_or x (length x - 1) 0) 10 t) in
      let n = length-take-le (length x - 1) x l in
      rw (← e) (omega arith))
      (λ t.
      let (e, l) = typed_whole x (eqb-false (get_or x (length x - 1) 0) 10 t) in
      let n = length-take-le (length x) x l in
      rw (← e) (omega arith))

  pub long_output : 514 ≤ length x → rule_output x ≡ line (22 ∷ 0 ∷ [])
  long_output l = refused_output 22 (rule_22_long (typed x) buffer buffer_long (omega (arith, typed_long)))

-- "it reads at most 514 bytes, enough to find any longer text too long"
pub bytes_enough : (x : Text) → rule_output (take 514 x) ≡ rule_output x
bytes_enough x =
    split (leb (length x) 514)
    (λ t. ap rule_output (take_all 514 x (leb-true (length x) 514 t)))
    (λ t.
    let l = leb-false (length x) 514 t in
    let n = length-take-le 514 x (omega arith) in
    long_output (take 514 x) (omega arith) ∙ sym (long_output x (omega arith)))
