-- A token that is spelled at the start of a text, with no word going on behind it, is what `first_lexeme` finds. Assumes nothing.
use Prim.Native.Nat.{ℕ, ◌+◌, ◌-◌, ◌/◌, ◌%◌, ◌≤◌, ◌<◌}
use mathlib.Core.Path.{◌≡◌, refl, sym, ap, ◌∙◌}
use mathlib.Core.Bool.{true, false, and-true, true≢false}
use mathlib.Core.List.{[], ◌∷◌, ◌++◌}
use native.Mathlib.Omega.{arith}
use borrow.Author.Tests.{ltb-true, ltb-false, leb-true, lt-ltb, le-ltb, le-leb}
use lib.Dec.{leb, ltb}
use lib.ListN.{length, get_or}
use Rattle.law.specs.Lists.{every}
use Rattle.law.proofs.Bool.{split, and_intro}
use Rattle.text.specs.Field.{Text, is_digit}
use Rattle.rule_text.specs.declared.token.Prefix.TheVariants.{Not, Ax, Ex, Eg, Ag}
use Rattle.rule_text.specs.declared.token.Operator.TheVariants.{And, Or, Implies}
use Rattle.rule_text.specs.declared.token.Mark.TheVariants.{ForAllPaths, OnSomePath, Until, LeftParenthesis, RightParenthesis, LeftBracket, RightBracket}
use Rattle.rule_text.specs.declared.token.Token.{Token}
use Rattle.rule_text.specs.declared.token.Token.TheVariants.{Atom, Prefix, Operator, Mark, Unknown}
use Rattle.rule_text.specs.Token.{numeral, mark_byte, spelling, is_token, letter_or_digit, is_word}
use Rattle.rule_text.specs.Scan.{lexeme, symbol, word1, word2, word3, lexed, first_lexeme}

-- An atom's number has one digit or two.
pub numeral_one : (j : ℕ) → j < 10 → numeral j ≡ (48 + j) ∷ []
unfolding numeral
numeral_one j l = rw (lt-ltb j 10 l)

pub numeral_two : (j : ℕ) → 10 ≤ j → j ≤ 15 → numeral j ≡ 49 ∷ (38 + j) ∷ []
unfolding numeral
numeral_two j l h =
    let tens : 48 + j / 10 ≡ 49 = omega arith in
    let ones : 48 + j % 10 ≡ 38 + j = omega arith in
    rw (le-ltb j 10 l, tens, ones)

digit_intro : (c : ℕ) → 48 ≤ c → c ≤ 57 → is_digit c ≡ true
digit_intro c l h = and_intro (leb 48 c) (leb c 57) (le-leb 48 c l) (le-leb c 57 h)

-- No letter or digit stands behind a word.
abbrev pub Ended : Token → ℕ → Type 0
Ended t c = is_word t ≡ true → letter_or_digit c ≡ false

-- A token that is spelled at the start of a text, with no word going on behind it, is found there.
atom_one :
    (d : ℕ) (y : Text) → is_digit d ≡ true → letter_or_digit (get_or y 0 0) ≡ false
    → first_lexeme (112 ∷ d ∷ y) ≡ lexeme (Atom (d - 48)) 2
unfolding first_lexeme lexed letter_or_digit word2
atom_one d y e n = simp (e, n)

atom_two :
    (e : ℕ) (y : Text) → 48 ≤ e → e ≤ 53 → letter_or_digit (get_or y 0 0) ≡ false
    → first_lexeme (112 ∷ 49 ∷ e ∷ y) ≡ lexeme (Atom (e - 38)) 3
unfolding first_lexeme lexed word3 letter_or_digit
atom_two e y l h n = let m : e ≤ 57 = omega arith in simp (n, le-leb 48 e l, le-leb e 53 h, le-leb e 57 m)

atom_word : (j : ℕ) → j ≤ 15 → is_word (Atom j) ≡ true
unfolding is_word spelling every letter_or_digit
atom_word j h =
    split (ltb j 10)
    (λ t. let l = ltb-true j 10 t in simp (numeral_one j l, digit_intro (48 + j) (omega arith) (omega arith)))
    (λ f. let l = ltb-false j 10 f in simp (numeral_two j l h, digit_intro (38 + j) (omega arith) (omega arith)))

atom_first :
    (j : ℕ) (y : Text) → j ≤ 15 → letter_or_digit (get_or y 0 0) ≡ false
    → first_lexeme (spelling (Atom j) ++ y) ≡ lexeme (Atom j) (length (spelling (Atom j)))
unfolding spelling
atom_first j y h n =
    split (ltb j 10)
    (λ t.
    let l = ltb-true j 10 t in
    let back : 48 + j - 48 ≡ j = omega arith in
    let digit = digit_intro (48 + j) (omega arith) (omega arith) in
    rw (numeral_one j l) (atom_one (48 + j) y digit n ∙ ap (λ k. lexeme (Atom k) 2) back))
    (λ f.
    let l = ltb-false j 10 f in
    let back : 38 + j - 38 ≡ j = omega arith in
    rw (numeral_two j l h) (atom_two (38 + j) y (omega arith) (omega arith) n ∙ ap (λ k. lexeme (Atom k) 3) back))

-- The first byte of a token's spelling tells whether it is a word.
pub word_byte : (t : Token) (y : Text) → is_token t ≡ true → letter_or_digit (get_or (spelling t ++ y) 0 0) ≡ is_word t
unfolding is_token is_word spelling every letter_or_digit
word_byte (Atom j) y e = sym (atom_word j (leb-true j 15 e))
word_byte (Prefix Not) y e = refl
word_byte (Prefix Ax) y e = refl
word_byte (Prefix Ex) y e = refl
word_byte (Prefix Eg) y e = refl
word_byte (Prefix Ag) y e = refl
word_byte (Operator And) y e = refl
word_byte (Operator Or) y e = refl
word_byte (Operator Implies) y e = refl
word_byte (Mark m) y e = sym (and-true (letter_or_digit (mark_byte m)))
word_byte Unknown y e = absurd (true≢false (sym e))

pub lexeme_spelling :
    (t : Token) (y : Text) → is_token t ≡ true → Ended t (get_or y 0 0)
    → first_lexeme (spelling t ++ y) ≡ lexeme t (length (spelling t))
unfolding first_lexeme lexed symbol word1 word2 letter_or_digit is_token is_word mark_byte spelling every
lexeme_spelling (Atom j) y e n = let h = leb-true j 15 e in atom_first j y h (n (atom_word j h))
lexeme_spelling (Prefix Not) y e n = refl
lexeme_spelling (Prefix Ax) y e n = simp (n refl)
lexeme_spelling (Prefix Ex) y e n = simp (n refl)
lexeme_spelling (Prefix Eg) y e n = simp (n refl)
lexeme_spelling (Prefix Ag) y e n = simp (n refl)
lexeme_spelling (Operator And) y e n = refl
lexeme_spelling (Operator Or) y e n = refl
lexeme_spelling (Operator Implies) y e n = refl
lexeme_spelling (Mark ForAllPaths) y e n = simp (n refl)
lexeme_spelling (Mark OnSomePath) y e n = simp (n refl)
lexeme_spelling (Mark Until) y e n = simp (n refl)
lexeme_spelling (Mark LeftParenthesis) y e n = refl
lexeme_spelling (Mark RightParenthesis) y e n = refl
lexeme_spelling (Mark LeftBracket) y e n = refl
lexeme_spelling (Mark RightBracket) y e n = refl
lexeme_spelling Unknown y e n = absurd (true≢false (sym e))
