-- Document 02 (i): the tokens of rule text, and how a text spells them. "Atoms are `p0` to `p15`." "Brackets, `A`, `E` and `U` are tokens;
-- spaces may stand before, between and after tokens and must stand between two of letters or digits." (iii): "`EG` and `AG` as prefixes
-- like `AX`". Bytes are those of ASCII; a space is byte 32. Assumes nothing.
use Rattle.std.specs.Prelude.{ℕ, ◌+◌, ◌/◌, ◌%◌, ◌<◌, ◌≡◌, Bool, true, false, cond, ◌&&◌, ◌||◌, List, [], ◌∷◌, ◌++◌, replicate, leb, ltb, eqb}
use Rattle.law.specs.Lists.{every}
use Rattle.text.specs.Field.{Text}
use Rattle.rule_text.specs.declared.token.Prefix.TheVariants.{Not, Ax, Ex, Eg, Ag}
use Rattle.rule_text.specs.declared.token.Operator.TheVariants.{And, Or, Implies}
use Rattle.rule_text.specs.declared.token.Mark.{Mark as MarkKind}
use Rattle.rule_text.specs.declared.token.Mark.TheVariants.{ForAllPaths, OnSomePath, Until, LeftParenthesis, RightParenthesis, LeftBracket, RightBracket}
use Rattle.rule_text.specs.declared.token.Token.{Token}
use Rattle.rule_text.specs.declared.token.Token.TheVariants.{Atom, Prefix, Operator, Mark, Unknown}

-- An atom's number in decimal, of one digit or two.
unfoldable pub numeral : ℕ → List ℕ
numeral j = cond (ltb j 10) ((48 + j) ∷ []) ((48 + j / 10) ∷ (48 + j % 10) ∷ [])

-- `A`, `E`, `U`, `(`, `)`, `[`, `]`
unfoldable pub mark_byte : MarkKind → ℕ
mark_byte ForAllPaths = 65
mark_byte OnSomePath = 69
mark_byte Until = 85
mark_byte LeftParenthesis = 40
mark_byte RightParenthesis = 41
mark_byte LeftBracket = 91
mark_byte RightBracket = 93

-- Two marks are the same: their bytes are.
unfoldable pub same_mark : MarkKind → MarkKind → Bool
same_mark m n = eqb (mark_byte m) (mark_byte n)

-- `p3`, `!`, `AX`, `EX`, `EG`, `AG`, `&`, `|`, `=>`; a mark is its byte
unfoldable pub spelling : Token → List ℕ
spelling (Atom j) = 112 ∷ numeral j
spelling (Prefix Not) = 33 ∷ []
spelling (Prefix Ax) = 65 ∷ 88 ∷ []
spelling (Prefix Ex) = 69 ∷ 88 ∷ []
spelling (Prefix Eg) = 69 ∷ 71 ∷ []
spelling (Prefix Ag) = 65 ∷ 71 ∷ []
spelling (Operator And) = 38 ∷ []
spelling (Operator Or) = 124 ∷ []
spelling (Operator Implies) = 61 ∷ 62 ∷ []
spelling (Mark m) = mark_byte m ∷ []
spelling Unknown = []

-- `A`, `E`, `U`
abbrev pub for_all_paths : Token
for_all_paths = Mark ForAllPaths

abbrev pub on_some_path : Token
on_some_path = Mark OnSomePath

abbrev pub until_mark : Token
until_mark = Mark Until

-- `(`, `)`, `[`, `]`
abbrev pub left_parenthesis : Token
left_parenthesis = Mark LeftParenthesis

abbrev pub right_parenthesis : Token
right_parenthesis = Mark RightParenthesis

abbrev pub left_bracket : Token
left_bracket = Mark LeftBracket

abbrev pub right_bracket : Token
right_bracket = Mark RightBracket

-- The tokens of the grammar: p0 to p15, the operators, and the marks.
unfoldable pub is_token : Token → Bool
is_token (Atom j) = leb j 15
is_token (Prefix p) = true
is_token (Operator o) = true
is_token (Mark m) = true
is_token Unknown = false

unfoldable pub letter_or_digit : ℕ → Bool
letter_or_digit c = (leb 48 c && leb c 57) || ((leb 65 c && leb c 90) || (leb 97 c && leb c 122))

-- "of letters or digits"
unfoldable pub is_word : Token → Bool
is_word t = every letter_or_digit (spelling t)

unfoldable pub starts_with_word : List Token → Bool
starts_with_word [] = false
starts_with_word (t ∷ ts) = is_word t

-- n spaces may stand between t and the tokens ts.
abbrev pub Apart : Token → ℕ → List Token → Type 0
Apart t n ts = is_word t ≡ true → starts_with_word ts ≡ true → 0 < n

-- A text that starts with its first token: each token is spelled, with spaces behind it.
pub data Spells : Text → List Token → Type 0 where
  nothing : Spells [] []
  token :
      (t : Token) (n : ℕ) (x : Text) (ts : List Token)
      → is_token t ≡ true
      → Apart t n ts
      → Spells x ts
      → Spells (spelling t ++ (replicate n 32 ++ x)) (t ∷ ts)

-- Any text that spells the tokens: spaces may stand before them.
pub record Spelled (x : Text) (ts : List Token) : Type 0 where
  pub spaces : ℕ
  pub rest : Text
  pub is : x ≡ replicate spaces 32 ++ rest
  pub spells : Spells rest ts
