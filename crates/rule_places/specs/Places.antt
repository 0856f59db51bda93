-- What stands at the start of a text, in terms of its tokens. Assumes nothing.
use Rattle.std.specs.Prelude.{ℕ, ◌≤◌, ◌≡◌, Bool, false, List, [], ◌∷◌, Option, MatchOption}
use Rattle.std.specs.Borrow.{Bor}
use Rattle.text.specs.Field.{Text}
use Rattle.rule_text.specs.Token.{same_mark}
use Rattle.rule_text.specs.Scan.{tokens}
use Rattle.rule_text.specs.Grammar.{strength, right_level}
use Rattle.rule_text.specs.declared.token.Mark.{Mark as MarkKind}
use Rattle.rule_text.specs.declared.token.Operator.{Operator as BinaryOperator}
use Rattle.rule_text.specs.declared.token.Token.{Token}
use Rattle.rule_text.specs.declared.token.Token.TheVariants.{Atom, Prefix, Operator, Mark, Unknown}
use Rattle.rule_text.proofs.Levels.{Ends}
use Rattle.scanner.specs.Scanned.{Left}
use Rattle.rule_places.specs.declared.places.Infix.{Infix}

-- The first of the tokens is the mark m.
unfoldable pub starts_with_mark : MarkKind → List Token → Bool
starts_with_mark m [] = false
starts_with_mark m (Atom j ∷ ts) = false
starts_with_mark m (Prefix p ∷ ts) = false
starts_with_mark m (Operator o ∷ ts) = false
starts_with_mark m (Mark n ∷ ts) = same_mark n m
starts_with_mark m (Unknown ∷ ts) = false

-- The tokens of x are this one and those of y, which is left of x behind at least a byte.
pub record Passes (x : Text) (t : Token) (y : Text) : Type 0 where
  pub first : tokens x ≡ t ∷ tokens y
  pub left : Left 1 x y

-- The mark stands first, or another token or none does.
abbrev pub Marked : Text → MarkKind → Option (Bor Text) → Type 0
Marked x m r = MatchOption r (starts_with_mark m (tokens x) ≡ false) (λ y. Passes x (Mark m) y.now)

-- The operator that stands first, strong enough, with the level of its right operand and the text behind it.
pub record Infixes (x : Text) (least : ℕ) (o : BinaryOperator) (right : ℕ) (y : Text) : Type 0 where
  pub passes : Passes x (Operator o) y
  pub strong : least ≤ strength o
  pub level : right ≡ right_level o

-- An operator stands first that is at least so strong, or none does.
abbrev pub Follows : Text → ℕ → Option Infix → Type 0
Follows x least r = MatchOption r (Ends least (tokens x)) (λ i. Infixes x least i.operator i.right i.behind.now)
