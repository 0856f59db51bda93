-- A word ends where its letters and digits end: the test of the code is that of the definition. Assumes nothing.
use Prim.Native.Nat.{ℕ}
use mathlib.Core.Path.{◌≡◌, refl, sym, ◌∙◌}
use mathlib.Core.Bool.{Bool, true, false, ◌||◌}
use Rattle.std.specs.Int.{is_in_range}
use Rattle.std.specs.Char.{is_ascii_alphanumeric}
use Rattle.rule_text.specs.Token.{letter_or_digit}

or_grouped : (a b d : Bool) → (a || (b || d)) ≡ ((a || b) || d)
or_grouped true b d = refl
or_grouped false b d = refl

letters : (c : ℕ) → letter_or_digit c ≡ is_ascii_alphanumeric c
unfolding letter_or_digit
letters c = or_grouped (is_in_range 48 57 c) (is_in_range 65 90 c) (is_in_range 97 122 c)

pub word_tested : (c : ℕ) (r v : Bool) → r ≡ is_ascii_alphanumeric c → r ≡ v → letter_or_digit c ≡ v
word_tested c r v e t = letters c ∙ sym e ∙ t
