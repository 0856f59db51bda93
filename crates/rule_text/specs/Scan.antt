-- The tokens of any text, computed: at each place the longest run of letters and digits, or an operator's or bracket's bytes. That a text
-- spells these tokens and no others is a theorem; nothing that a reader must believe is here. Assumes nothing.
use Rattle.std.specs.Prelude.{ℕ, zero, suc, ◌-◌, cond, not, ◌&&◌, List, [], ◌∷◌, get_or, leb, eqb}
use Rattle.text.specs.Field.{Text, is_digit}
use Rattle.rule_text.specs.declared.token.Prefix.TheVariants.{Not, Ax, Ex, Eg, Ag}
use Rattle.rule_text.specs.declared.token.Operator.TheVariants.{And, Or, Implies}
use Rattle.rule_text.specs.declared.token.Token.{Token}
use Rattle.rule_text.specs.declared.token.Token.TheVariants.{Atom, Prefix, Operator, Mark, Unknown}
pub use Rattle.rule_text.specs.declared.token.Lexeme.{Lexeme}
use Rattle.rule_text.specs.Token.{letter_or_digit, for_all_paths, on_some_path, until_mark, left_parenthesis, right_parenthesis, left_bracket, right_bracket}

abbrev pub lexeme : Token → ℕ → Lexeme
lexeme t n = record { token = t; width = n }

abbrev pub unknown : Lexeme
unknown = lexeme Unknown 1

-- A token of no letter, by its first byte and the byte behind it.
unfoldable pub symbol : ℕ → ℕ → Lexeme
symbol c d =
    cond (eqb c 33) (lexeme (Prefix Not) 1)
    (cond (eqb c 38) (lexeme (Operator And) 1)
    (cond (eqb c 124) (lexeme (Operator Or) 1)
    (cond (eqb c 61 && eqb d 62) (lexeme (Operator Implies) 2)
    (cond (eqb c 40) (lexeme left_parenthesis 1)
    (cond (eqb c 41) (lexeme right_parenthesis 1)
    (cond (eqb c 91) (lexeme left_bracket 1)
    (cond (eqb c 93) (lexeme right_bracket 1) unknown)))))))

-- A word of one, two or three letters and digits.
unfoldable pub word1 : ℕ → Lexeme
word1 c =
    cond (eqb c 65) (lexeme for_all_paths 1)
    (cond (eqb c 69) (lexeme on_some_path 1)
    (cond (eqb c 85) (lexeme until_mark 1) unknown))

unfoldable pub word2 : ℕ → ℕ → Lexeme
word2 c d =
    cond (eqb c 112 && is_digit d) (lexeme (Atom (d - 48)) 2)
    (cond (eqb c 65 && eqb d 88) (lexeme (Prefix Ax) 2)
    (cond (eqb c 69 && eqb d 88) (lexeme (Prefix Ex) 2)
    (cond (eqb c 69 && eqb d 71) (lexeme (Prefix Eg) 2)
    (cond (eqb c 65 && eqb d 71) (lexeme (Prefix Ag) 2) unknown))))

unfoldable pub word3 : ℕ → ℕ → ℕ → Lexeme
word3 c d e =
    cond (eqb c 112 && (eqb d 49 && (leb 48 e && leb e 53))) (lexeme (Atom (e - 38)) 3) unknown

-- The token that a text starts with, by its first four bytes, 0 where it ends before.
unfoldable pub lexed : ℕ → ℕ → ℕ → ℕ → Lexeme
lexed c d e f =
    cond (not (letter_or_digit c)) (symbol c d)
    (cond (not (letter_or_digit d)) (word1 c)
    (cond (not (letter_or_digit e)) (word2 c d)
    (cond (not (letter_or_digit f)) (word3 c d e) unknown)))

unfoldable pub first_lexeme : Text → Lexeme
first_lexeme x = lexed (get_or x 0 0) (get_or x 1 0) (get_or x 2 0) (get_or x 3 0)

-- The token, and the tokens behind it, of which there are none where it is unknown.
unfoldable pub followed : Token → List Token → List Token
followed (Atom j) ts = Atom j ∷ ts
followed (Prefix p) ts = Prefix p ∷ ts
followed (Operator o) ts = Operator o ∷ ts
followed (Mark m) ts = Mark m ∷ ts
followed Unknown ts = Unknown ∷ []

-- The tokens of a text of which n bytes are passed over first: those of the token before.
unfoldable pub scan : ℕ → Text → List Token
scan n [] = []
scan zero (c ∷ x) =
    let l = first_lexeme (c ∷ x) in
    cond (eqb c 32) (scan zero x) (followed l.token (scan (l.width - 1) x))
scan (suc n) (c ∷ x) = scan n x

unfoldable pub tokens : Text → List Token
tokens x = scan zero x
