-- Marks are the same exactly where their bytes are. Assumes nothing.
use Prim.Native.Nat.{ℕ}
use mathlib.Core.Path.{◌≡◌, refl, sym, ap, ◌∙◌}
use mathlib.Core.Bool.{true, false, cond}
use borrow.Author.Tests.{eqb-true}
use lib.Dec.{eqb}
use Rattle.law.proofs.Bool.{split}
use Rattle.rule_text.specs.declared.token.Mark.{Mark}
use Rattle.rule_text.specs.declared.token.Mark.TheVariants.{ForAllPaths, OnSomePath, Until, LeftParenthesis, RightParenthesis, LeftBracket, RightBracket}
use Rattle.rule_text.specs.Token.{mark_byte, same_mark}

abbrev mark_of : ℕ → Mark
mark_of c =
    cond (eqb c 65) ForAllPaths
    (cond (eqb c 69) OnSomePath
    (cond (eqb c 85) Until
    (cond (eqb c 40) LeftParenthesis
    (cond (eqb c 41) RightParenthesis
    (cond (eqb c 91) LeftBracket RightBracket)))))

back : (m : Mark) → mark_of (mark_byte m) ≡ m
unfolding mark_byte
back ForAllPaths = refl
back OnSomePath = refl
back Until = refl
back LeftParenthesis = refl
back RightParenthesis = refl
back LeftBracket = refl
back RightBracket = refl

pub marks_same : (m n : Mark) → same_mark m n ≡ true → m ≡ n
unfolding same_mark
marks_same m n e = sym (back m) ∙ ap mark_of (eqb-true (mark_byte m) (mark_byte n) e) ∙ back n

pub mark_itself : (m : Mark) → same_mark m m ≡ true
unfolding same_mark mark_byte
mark_itself ForAllPaths = refl
mark_itself OnSomePath = refl
mark_itself Until = refl
mark_itself LeftParenthesis = refl
mark_itself RightParenthesis = refl
mark_itself LeftBracket = refl
mark_itself RightBracket = refl

pub marks_other : (m n : Mark) → (m ≡ n → ⊥) → same_mark m n ≡ false
marks_other m n other = split (same_mark m n) (λ e. absurd (other (marks_same m n e))) (λ e. e)
