-- What `first_lexeme` finds in a text: bytes that are no token, or a token that is spelled there, with no word going on behind it.
-- Assumes nothing.
use Prim.Native.Nat.{ℕ, zero, suc, ◌+◌, ◌-◌, ◌≤◌, ◌<◌}
use mathlib.Core.Path.{◌≡◌, refl, sym}
use mathlib.Core.Bool.{Bool, true, false, cond, not, ◌&&◌}
use mathlib.Core.List.{[], ◌∷◌, ◌++◌}
use mathlib.Core.Logic.{◌⊎◌, inl, inr, ⊎_elim}
use native.Mathlib.Omega.{arith}
use borrow.Author.Tests.{leb-true, eqb-true, not-true, not-false, le-leb}
use lib.Dec.{leb, eqb, lit≤}
use lib.ListN.{length, get_or, take, drop, take-append-drop}
use lib.Seq.{take-suc}
use Rattle.law.specs.Lists.{every}
use Rattle.law.proofs.Bool.{clash, and_left, and_right}
use Rattle.text.specs.Field.{Text, is_digit}
use Rattle.text.proofs.FieldLaws.{digit_range}
use Rattle.rule_text.specs.declared.token.Prefix.TheVariants.{Not, Ax, Ex, Eg, Ag}
use Rattle.rule_text.specs.declared.token.Operator.TheVariants.{And, Or, Implies}
use Rattle.rule_text.specs.declared.token.Token.{Token}
use Rattle.rule_text.specs.declared.token.Token.TheVariants.{Atom, Prefix, Operator}
use Rattle.rule_text.specs.Token.{mark_byte, spelling, is_token, letter_or_digit, is_word}
use Rattle.rule_text.specs.Token.{for_all_paths, on_some_path, until_mark, left_parenthesis, right_parenthesis, left_bracket, right_bracket}
use Rattle.rule_text.specs.Scan.{Lexeme, lexeme, unknown, symbol, word1, word2, word3, lexed, first_lexeme}
use Rattle.rule_text.proofs.Spelling.{numeral_one, numeral_two, Ended}

-- A token that is found, and how many bytes spell it.
record Starts (x : Text) (l : Lexeme) : Type 0 where
  known : is_token l.token ≡ true
  from : 1 ≤ l.width
  to : l.width ≤ 3
  within : l.width ≤ length x
  spelled : take l.width x ≡ spelling l.token
  ended : Ended l.token (get_or x l.width 0)

abbrev Found : Text → Lexeme → Type 0
Found x l = (l ≡ unknown) ⊎ Starts x l

byte_within : (x : Text) (i : ℕ) → (get_or x i 0 ≡ 0 → ⊥) → i < length x
byte_within [] i n = absurd (n refl)
byte_within (c ∷ x) zero n = omega arith
byte_within (c ∷ x) (suc i) n = omega (arith, byte_within x i n)

letter_some : (c : ℕ) → letter_or_digit c ≡ true → c ≡ 0 → ⊥
unfolding letter_or_digit
letter_some c e z = clash (letter_or_digit c) e (rw z)

symbol_ended : (t : Token) (c : ℕ) → is_word t ≡ false → Ended t c
symbol_ended t c n w = clash (is_word t) w n

pair_is : (c a d b : ℕ) → (eqb c a && eqb d b) ≡ true → c ∷ d ∷ [] ≡ a ∷ b ∷ []
pair_is c a d b e =
    rw (eqb-true c a (and_left (eqb c a) (eqb d b) e), eqb-true d b (and_right (eqb c a) (eqb d b) e))

module _ (c : ℕ) (x : Text) where
  -- A token of the first byte and n behind it; of one byte, two or three.
  bytes_found :
      (t : Token) (n : ℕ) → n ≤ 2 → is_token t ≡ true → n ≤ length x → c ∷ take n x ≡ spelling t → Ended t (get_or x n 0)
      → Found (c ∷ x) (lexeme t (suc n))
  bytes_found t n l k h s e =
      inr (record { known = k; from = omega arith; to = omega arith; within = omega arith; spelled = s; ended = e })

  one_found : (t : Token) → is_token t ≡ true → c ∷ [] ≡ spelling t → Ended t (get_or x 0 0) → Found (c ∷ x) (lexeme t 1)
  one_found t k s e = bytes_found t 0 (lit≤ tt) k (omega arith) s e

  two_found :
      (t : Token) → is_token t ≡ true → (get_or x 0 0 ≡ 0 → ⊥) → c ∷ get_or x 0 0 ∷ [] ≡ spelling t → Ended t (get_or x 1 0)
      → Found (c ∷ x) (lexeme t 2)
  two_found t k n s e = let l = byte_within x 0 n in bytes_found t 1 (lit≤ tt) k l (rw (take-suc x 0 0 l) s) e

  three_found :
      (t : Token) → is_token t ≡ true → (get_or x 1 0 ≡ 0 → ⊥) → c ∷ get_or x 0 0 ∷ get_or x 1 0 ∷ [] ≡ spelling t
      → Ended t (get_or x 2 0) → Found (c ∷ x) (lexeme t 3)
  three_found t k n s e =
      let l = byte_within x 1 n in
      let m : 0 < length x = omega arith in
      bytes_found t 2 (lit≤ tt) k l (rw (take-suc x 1 0 l, take-suc x 0 0 m) s) e

  by_test :
      (b : Bool) (l m : Lexeme) → (b ≡ true → Found (c ∷ x) l) → (b ≡ false → Found (c ∷ x) m) → Found (c ∷ x) (cond b l m)
  by_test true l m t f = t refl
  by_test false l m t f = f refl

  symbol_found : letter_or_digit c ≡ false → Found (c ∷ x) (symbol c (get_or x 0 0))
  unfolding symbol is_token is_word mark_byte spelling every letter_or_digit
  symbol_found n =
      by_test (eqb c 33) _ _
      (λ e. one_found (Prefix Not) refl (rw (eqb-true c 33 e)) (symbol_ended (Prefix Not) (get_or x 0 0) refl))
      (λ _.
      by_test (eqb c 38) _ _
      (λ e. one_found (Operator And) refl (rw (eqb-true c 38 e)) (symbol_ended (Operator And) (get_or x 0 0) refl))
      (λ _.
      by_test (eqb c 124) _ _
      (λ e. one_found (Operator Or) refl (rw (eqb-true c 124 e)) (symbol_ended (Operator Or) (get_or x 0 0) refl))
      (λ _.
      by_test (eqb c 61 && eqb (get_or x 0 0) 62) _ _
      (λ e.
      let second = eqb-true (get_or x 0 0) 62 (and_right (eqb c 61) (eqb (get_or x 0 0) 62) e) in
      two_found (Operator Implies) refl (λ z. omega arith) (pair_is c 61 (get_or x 0 0) 62 e)
      (symbol_ended (Operator Implies) (get_or x 1 0) refl))
      (λ _.
      by_test (eqb c 40) _ _
      (λ e. one_found left_parenthesis refl (rw (eqb-true c 40 e)) (symbol_ended left_parenthesis (get_or x 0 0) refl))
      (λ _.
      by_test (eqb c 41) _ _
      (λ e. one_found right_parenthesis refl (rw (eqb-true c 41 e)) (symbol_ended right_parenthesis (get_or x 0 0) refl))
      (λ _.
      by_test (eqb c 91) _ _
      (λ e. one_found left_bracket refl (rw (eqb-true c 91 e)) (symbol_ended left_bracket (get_or x 0 0) refl))
      (λ _.
      by_test (eqb c 93) _ _
      (λ e. one_found right_bracket refl (rw (eqb-true c 93 e)) (symbol_ended right_bracket (get_or x 0 0) refl))
      (λ _. inl refl))))))))

  word1_found : letter_or_digit (get_or x 0 0) ≡ false → Found (c ∷ x) (word1 c)
  unfolding word1 is_token mark_byte spelling
  word1_found n =
      by_test (eqb c 65) _ _
      (λ e. one_found for_all_paths refl (rw (eqb-true c 65 e)) (λ _. n))
      (λ _.
      by_test (eqb c 69) _ _
      (λ e. one_found on_some_path refl (rw (eqb-true c 69 e)) (λ _. n))
      (λ _.
      by_test (eqb c 85) _ _
      (λ e. one_found until_mark refl (rw (eqb-true c 85 e)) (λ _. n))
      (λ _. inl refl)))

  word2_found : letter_or_digit (get_or x 0 0) ≡ true → letter_or_digit (get_or x 1 0) ≡ false → Found (c ∷ x) (word2 c (get_or x 0 0))
  unfolding word2 is_token spelling
  word2_found y n =
      let d = get_or x 0 0 in
      let some = letter_some d y in
      by_test (eqb c 112 && is_digit d) _ _
      (λ e.
      let first = eqb-true c 112 (and_left (eqb c 112) (is_digit d) e) in
      let digit = digit_range d (and_right (eqb c 112) (is_digit d) e) in
      let back : 48 + (d - 48) ≡ d = omega arith in
      two_found (Atom (d - 48)) (le-leb (d - 48) 15 (omega arith)) some
      (rw (first, numeral_one (d - 48) (omega arith), back)) (λ _. n))
      (λ _.
      by_test (eqb c 65 && eqb d 88) _ _
      (λ e. two_found (Prefix Ax) refl some (pair_is c 65 d 88 e) (λ _. n))
      (λ _.
      by_test (eqb c 69 && eqb d 88) _ _
      (λ e. two_found (Prefix Ex) refl some (pair_is c 69 d 88 e) (λ _. n))
      (λ _.
      by_test (eqb c 69 && eqb d 71) _ _
      (λ e. two_found (Prefix Eg) refl some (pair_is c 69 d 71 e) (λ _. n))
      (λ _.
      by_test (eqb c 65 && eqb d 71) _ _
      (λ e. two_found (Prefix Ag) refl some (pair_is c 65 d 71 e) (λ _. n))
      (λ _. inl refl)))))

  word3_found :
      letter_or_digit (get_or x 1 0) ≡ true → letter_or_digit (get_or x 2 0) ≡ false → Found (c ∷ x) (word3 c (get_or x 0 0) (get_or x 1 0))
  unfolding word3 is_token spelling
  word3_found y n =
      let d = get_or x 0 0 in
      let e = get_or x 1 0 in
      by_test (eqb c 112 && (eqb d 49 && (leb 48 e && leb e 53))) _ _
      (λ h.
      let first = eqb-true c 112 (and_left (eqb c 112) (eqb d 49 && (leb 48 e && leb e 53)) h) in
      let behind = and_right (eqb c 112) (eqb d 49 && (leb 48 e && leb e 53)) h in
      let second = eqb-true d 49 (and_left (eqb d 49) (leb 48 e && leb e 53) behind) in
      let third = and_right (eqb d 49) (leb 48 e && leb e 53) behind in
      let from = leb-true 48 e (and_left (leb 48 e) (leb e 53) third) in
      let to = leb-true e 53 (and_right (leb 48 e) (leb e 53) third) in
      let back : 38 + (e - 38) ≡ e = omega arith in
      three_found (Atom (e - 38)) (le-leb (e - 38) 15 (omega arith)) (letter_some e y)
      (rw (first, second, numeral_two (e - 38) (omega arith) (omega arith), back)) (λ _. n))
      (λ _. inl refl)

lexeme_found : (x : Text) → Found x (first_lexeme x)
unfolding first_lexeme lexed symbol letter_or_digit
lexeme_found [] = inl refl
lexeme_found (c ∷ x) =
    let d = get_or x 0 0 in
    let e = get_or x 1 0 in
    let f = get_or x 2 0 in
    by_test c x (not (letter_or_digit c)) _ _
    (λ a. symbol_found c x (not-true (letter_or_digit c) a))
    (λ _.
    by_test c x (not (letter_or_digit d)) _ _
    (λ a. word1_found c x (not-true (letter_or_digit d) a))
    (λ second.
    by_test c x (not (letter_or_digit e)) _ _
    (λ a. word2_found c x (not-false (letter_or_digit d) second) (not-true (letter_or_digit e) a))
    (λ third.
    by_test c x (not (letter_or_digit f)) _ _
    (λ a. word3_found c x (not-false (letter_or_digit e) third) (not-true (letter_or_digit f) a))
    (λ _. inl refl))))

pub width_from : (x : Text) → 1 ≤ (first_lexeme x).width
width_from x = ⊎_elim (λ u. rw u (lit≤ tt)) (λ s. s.from) (lexeme_found x)

pub lexeme_is_token : (x : Text) → (first_lexeme x ≡ unknown) ⊎ (is_token (first_lexeme x).token ≡ true)
lexeme_is_token x = ⊎_elim inl (λ s. inr s.known) (lexeme_found x)

-- Of a token that is found: it is spelled at the start of the text, and no word goes on behind it.
module _ (x : Text) (k : is_token (first_lexeme x).token ≡ true) where
  lexeme_starts : Starts x (first_lexeme x)
  unfolding is_token
  lexeme_starts = ⊎_elim (λ u. clash (is_token (first_lexeme x).token) k (rw u)) (λ s. s) (lexeme_found x)

  pub width_within : (first_lexeme x).width ≤ length x
  width_within = lexeme_starts.within

  pub lexeme_spelled : x ≡ spelling (first_lexeme x).token ++ drop (first_lexeme x).width x
  lexeme_spelled = rw (← lexeme_starts.spelled) (sym (take-append-drop (first_lexeme x).width x))

  pub lexeme_ended : Ended (first_lexeme x).token (get_or x (first_lexeme x).width 0)
  lexeme_ended = lexeme_starts.ended
