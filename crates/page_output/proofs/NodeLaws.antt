-- The node that an argument names, by its length and its byte. Assumes nothing.
use Prim.Native.Nat.{ℕ, ◌-◌}
use mathlib.Core.Path.{◌≡◌, refl}
use mathlib.Core.Bool.{true, false}
use mathlib.Core.List.{List, [], ◌∷◌}
use native.Mathlib.Omega.{arith}
use lib.ListN.{length, get_or}
use Rattle.law.proofs.Bool.{cond_true, cond_false}
use Rattle.text.specs.Field.{is_digit}
use Rattle.page_output.specs.PageOutput.{node_named}

pub other_length : (argument : List ℕ) → (length argument ≡ 1 → ⊥) → node_named argument ≡ 255
unfolding node_named
other_length [] other = refl
other_length (c ∷ []) other = absurd (other refl)
other_length (c ∷ d ∷ more) other = refl

pub no_digit : (argument : List ℕ) → length argument ≡ 1 → is_digit (get_or argument 0 0) ≡ false → node_named argument ≡ 255
unfolding node_named
no_digit [] one e = absurd (omega arith)
no_digit (c ∷ []) one e = cond_false (is_digit c) (c - 48) 255 e
no_digit (c ∷ d ∷ more) one e = absurd (omega arith)

pub a_digit : (argument : List ℕ) → length argument ≡ 1 → is_digit (get_or argument 0 0) ≡ true → node_named argument ≡ get_or argument 0 0 - 48
unfolding node_named
a_digit [] one e = absurd (omega arith)
a_digit (c ∷ []) one e = cond_true (is_digit c) (c - 48) 255 e
a_digit (c ∷ d ∷ more) one e = absurd (omega arith)
