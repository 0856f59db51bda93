-- The tokens of a text, a token at a time, and that they are the only tokens that the text spells. Assumes nothing.
use Prim.Native.Nat.{ℕ, zero, suc, ◌-◌, ◌≤◌, ◌<◌}
use mathlib.Core.Path.{◌≡◌, refl, sym, ap, subst₂, ◌∙◌}
use mathlib.Core.Bool.{true, true≢false}
use mathlib.Core.List.{List, [], ◌∷◌, ◌++◌}
use mathlib.Core.Logic.{⊎_elim}
use native.Mathlib.Nat.{not-suc-le-zero, add-zero}
use native.Mathlib.Omega.{arith}
use borrow.Author.Tests.{eqb-true, eqb-false, ne_eqb}
use lib.Dec.{eqb}
use lib.ListN.{length, get_or, drop, replicate, length-drop}
use lib.Seq.{drop-append_seam, get_or-drop}
use Rattle.law.specs.Lists.{every}
use Rattle.law.proofs.Bool.{split, clash, and_right}
use Rattle.text.specs.Field.{Text}
use Rattle.rule_text.specs.declared.token.Token.{Token}
use Rattle.rule_text.specs.declared.token.Token.TheVariants.{Atom, Prefix, Operator, Mark, Unknown}
use Rattle.rule_text.specs.Token.{spelling, is_token, letter_or_digit, starts_with_word, Apart, Spells, nothing, token, Spelled}
use Rattle.rule_text.specs.Scan.{unknown, symbol, lexed, first_lexeme, followed, scan, tokens}
use Rattle.rule_text.proofs.Spelling.{Ended, word_byte, lexeme_spelling}
use Rattle.rule_text.proofs.Lexemes.{width_from, lexeme_is_token, lexeme_spelled, lexeme_ended}

-- A token at a time.
pub scan_drop : (n : ℕ) (x : Text) → scan n x ≡ tokens (drop n x)
unfolding scan tokens
scan_drop zero x = refl
scan_drop (suc n) [] = refl
scan_drop (suc n) (c ∷ x) = scan_drop n x

pub tokens_empty : tokens [] ≡ []
unfolding scan tokens
tokens_empty = refl

pub tokens_space : (x : Text) → tokens (32 ∷ x) ≡ tokens x
unfolding scan tokens
tokens_space x = refl

drop_behind : (n c : ℕ) (x : Text) → 1 ≤ n → drop (n - 1) x ≡ drop n (c ∷ x)
drop_behind zero c x l = absurd (not-suc-le-zero l)
drop_behind (suc n) c x l = let e : suc n - 1 ≡ n = omega arith in rw e

pub tokens_first :
    (c : ℕ) (x : Text) → (c ≡ 32 → ⊥)
    → tokens (c ∷ x) ≡ followed (first_lexeme (c ∷ x)).token (tokens (drop (first_lexeme (c ∷ x)).width (c ∷ x)))
unfolding scan tokens
tokens_first c x n =
    let w = (first_lexeme (c ∷ x)).width in
    simp (ne_eqb c 32 n, scan_drop (w - 1) x, drop_behind w c x (width_from (c ∷ x)))

pub tokens_unknown : (c : ℕ) (x : Text) → (c ≡ 32 → ⊥) → first_lexeme (c ∷ x) ≡ unknown → tokens (c ∷ x) ≡ Unknown ∷ []
unfolding followed
tokens_unknown c x n u = rw (tokens_first c x n, u)

followed_token : (t : Token) (ts : List Token) → is_token t ≡ true → followed t ts ≡ t ∷ ts
unfolding followed is_token
followed_token (Atom j) ts e = refl
followed_token (Prefix p) ts e = refl
followed_token (Operator o) ts e = refl
followed_token (Mark m) ts e = refl
followed_token Unknown ts e = absurd (true≢false (sym e))

space_unknown : (c : ℕ) (x : Text) → c ≡ 32 → first_lexeme (c ∷ x) ≡ unknown
unfolding first_lexeme lexed symbol letter_or_digit
space_unknown c x e = rw e

pub tokens_token :
    (x : Text) → is_token (first_lexeme x).token ≡ true → tokens x ≡ (first_lexeme x).token ∷ tokens (drop (first_lexeme x).width x)
unfolding first_lexeme lexed symbol letter_or_digit is_token
tokens_token [] k = absurd (true≢false (sym k))
tokens_token (c ∷ x) k =
    tokens_first c x (λ e. clash (is_token (first_lexeme (c ∷ x)).token) k (rw (space_unknown c x e)))
    ∙ followed_token (first_lexeme (c ∷ x)).token (tokens (drop (first_lexeme (c ∷ x)).width (c ∷ x))) k

tokens_spelling :
    (t : Token) (y : Text) → is_token t ≡ true → Ended t (get_or y 0 0) → tokens (spelling t ++ y) ≡ t ∷ tokens y
tokens_spelling t y k n =
    let found = lexeme_spelling t y k n in
    rw (found, drop-append_seam (spelling t) y) at (tokens_token (spelling t ++ y) (rw found k))

tokens_spaces : (n : ℕ) (x : Text) → tokens (replicate n 32 ++ x) ≡ tokens x
tokens_spaces zero x = refl
tokens_spaces (suc n) x = tokens_space (replicate n 32 ++ x) ∙ tokens_spaces n x

-- A text that starts with its first token: what its first byte is, and how the gap in front of it looks from the token before.
spells_byte : (x : Text) (ts : List Token) → Spells x ts → letter_or_digit (get_or x 0 0) ≡ starts_with_word ts
unfolding starts_with_word letter_or_digit
spells_byte x ts nothing = refl
spells_byte x ts (token t n y us k a s) = word_byte t (replicate n 32 ++ y) k

apart_byte :
    (t : Token) (n : ℕ) (x : Text) (ts : List Token) → Apart t n ts → Spells x ts → Ended t (get_or (replicate n 32 ++ x) 0 0)
unfolding letter_or_digit
apart_byte t zero x ts a s w =
    split (starts_with_word ts) (λ e. absurd (not-suc-le-zero (a w e))) (λ e. spells_byte x ts s ∙ e)
apart_byte t (suc n) x ts a s w = refl

byte_apart :
    (t : Token) (n : ℕ) (x : Text) (ts : List Token) → Spells x ts → Ended t (get_or (replicate n 32 ++ x) 0 0) → Apart t n ts
byte_apart t zero x ts s e w b = clash (letter_or_digit (get_or x 0 0)) (spells_byte x ts s ∙ b) (e w)
byte_apart t (suc n) x ts s e w b = omega arith

-- A text spells no tokens but these.
spells_tokens : (x : Text) (ts : List Token) → Spells x ts → tokens x ≡ ts
spells_tokens x ts nothing = tokens_empty
spells_tokens x ts (token t n y us k a s) =
    tokens_spelling t (replicate n 32 ++ y) k (apart_byte t n y us a s)
    ∙ ap (λ vs. t ∷ vs) (tokens_spaces n y ∙ spells_tokens y us s)

pub spelled_tokens : (x : Text) (ts : List Token) → Spelled x ts → tokens x ≡ ts
spelled_tokens x ts s = rw s.is (tokens_spaces s.spaces s.rest ∙ spells_tokens s.rest ts s.spells)

-- And these it spells, if each is a token: by the text's length, a space or a token at a time.
spelled_space : (x : Text) (ts : List Token) → Spelled x ts → Spelled (32 ∷ x) ts
spelled_space x ts s = record { spaces = suc s.spaces; rest = s.rest; is = ap (λ y. 32 ∷ y) s.is; spells = s.spells }

spelled_token :
    (t : Token) (x : Text) (ts : List Token) → is_token t ≡ true → Ended t (get_or x 0 0)
    → Spelled x ts → Spelled (spelling t ++ x) (t ∷ ts)
spelled_token t x ts k e s =
    let a = byte_apart t s.spaces s.rest ts s.spells (λ w. rw s.is at (e w)) in
    record { spaces = 0; rest = spelling t ++ x; is = refl; spells = rw s.is (token t s.spaces s.rest ts k a s.spells) }

behind_ended :
    (x : Text) → is_token (first_lexeme x).token ≡ true → Ended (first_lexeme x).token (get_or (drop (first_lexeme x).width x) 0 0)
behind_ended x k w = rw (get_or-drop (first_lexeme x).width x 0 0, add-zero) (lexeme_ended x k w)

abbrev Sound : Text → Type 0
Sound x = every is_token (tokens x) ≡ true → Spelled x (tokens x)

sound_step : (x : Text) → ((y : Text) → length y < length x → Sound y) → Sound x
unfolding scan tokens every is_token
sound_step [] shorter e = record { spaces = 0; rest = []; is = refl; spells = nothing }
sound_step (c ∷ x) shorter e =
    split (eqb c 32)
    (λ b. let space = eqb-true c 32 b in rw space (spelled_space x (tokens x) (shorter x (omega arith) (rw space at e))))
    (λ b.
    ⊎_elim
    (λ u. clash (every is_token (tokens (c ∷ x))) e (ap (every is_token) (tokens_unknown c x (eqb-false c 32 b) u)))
    (λ k.
    let t = (first_lexeme (c ∷ x)).token in
    let w = (first_lexeme (c ∷ x)).width in
    let r = drop w (c ∷ x) in
    let first = tokens_token (c ∷ x) k in
    let less : length r < length (c ∷ x) = rw (length-drop w (c ∷ x)) (omega (arith, width_from (c ∷ x))) in
    let rest = shorter r less (and_right (is_token t) (every is_token (tokens r)) (rw first at e)) in
    subst₂ Spelled (sym (lexeme_spelled (c ∷ x) k)) (sym first) (spelled_token t r (tokens r) k (behind_ended (c ∷ x) k) rest))
    (lexeme_is_token (c ∷ x)))

sound_below : (n : ℕ) (x : Text) → length x < n → Sound x
sound_below zero x l = absurd (not-suc-le-zero l)
sound_below (suc n) x l = sound_step x (λ y h. sound_below n y (omega arith))

pub tokens_spelled : (x : Text) → every is_token (tokens x) ≡ true → Spelled x (tokens x)
tokens_spelled x = sound_below (suc (length x)) x (omega arith)
