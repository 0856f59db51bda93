-- What the scanner's functions promise about a text, in terms of its tokens. Assumes nothing.
use Rattle.std.specs.Prelude.{ℕ, ◌+◌, ◌≤◌, ◌≡◌, Bool, List, [], ◌∷◌, ◌++◌, length, drop, get_or, replicate, eqb}
use Rattle.text.specs.Field.{Text}
use Rattle.rule_text.specs.Scan.{tokens}
use Rattle.rule_text.specs.declared.token.Token.{Token}
use Rattle.rule_text.specs.declared.token.Token.TheVariants.{Atom, Prefix, Operator, Mark, Unknown}

abbrev pub is_space : ℕ → Bool
is_space c = eqb c 32

-- y is what is left of x behind at least n bytes.
pub record Left (n : ℕ) (x y : Text) : Type 0 where
  pub passed : ℕ
  pub is : y ≡ drop passed x
  pub shorter : n + length y ≤ length x

-- Of x only spaces are passed, all that it starts with.
pub record Skips (x y : Text) : Type 0 where
  pub spaces : ℕ
  pub is : x ≡ replicate spaces 32 ++ y
  pub left : Left 0 x y
  pub same : tokens y ≡ tokens x
  pub stops : get_or y 0 0 ≡ 32 → ⊥

-- There is no token: the text ends, or what follows is unknown.
pub data NoToken : List Token → Type 0 where
  ended : NoToken []
  not_known : (ts : List Token) → NoToken (Unknown ∷ ts)

-- The tokens ts are this token, and behind it the tokens us.
unfoldable pub StartsWith : Token → List Token → List Token → Type 0
StartsWith (Atom j) ts us = ts ≡ Atom j ∷ us
StartsWith (Prefix p) ts us = ts ≡ Prefix p ∷ us
StartsWith (Operator o) ts us = ts ≡ Operator o ∷ us
StartsWith (Mark m) ts us = ts ≡ Mark m ∷ us
StartsWith Unknown ts us = NoToken ts

-- The tokens of x start with this one, and y is left of x behind it, if it is a token.
pub record Scans (x : Text) (t : Token) (y : Text) : Type 0 where
  pub starts : StartsWith t (tokens x) (tokens y)
  pub further : (t ≡ Unknown → ⊥) → Left 1 x y
