-- What the scanner finds in a text, token by token: behind spaces, and behind a token. Assumes nothing.
use Prim.Native.Nat.{ℕ, suc, ◌+◌, ◌-◌, ◌<◌, ◌≤◌}
use mathlib.Core.Path.{◌≡◌, refl, sym, ap, subst, ◌∙◌}
use mathlib.Core.Bool.{Bool, true, false}
use mathlib.Core.Logic.{⊎_elim}
use mathlib.Core.List.{List, [], ◌∷◌, ◌++◌}
use native.Mathlib.Nat.{not-suc-le-zero}
use native.Mathlib.Numerals.{one-add}
use native.Mathlib.Omega.{arith}
use borrow.Author.Tests.{eqb-true, eqb-false}
use lib.Dec.{eqb}
use lib.ListN.{length, take, drop, get_or, replicate, length-drop}
use lib.Seq.{drop-drop}
use Rattle.std.proofs.lemmas.List.{take_all}
use Rattle.std.specs.List.{prefix_len}
use Rattle.law.proofs.Bool.{split}
use Rattle.text.specs.Field.{Text}
use Rattle.rule_text.specs.Scan.{first_lexeme, lexed, followed, tokens}
use Rattle.rule_text.specs.Token.{is_token}
use Rattle.rule_text.specs.declared.token.Lexeme.{Lexeme}
use Rattle.rule_text.specs.declared.token.Token.{Token}
use Rattle.rule_text.specs.declared.token.Token.TheVariants.{Atom, Prefix, Operator, Mark, Unknown}
use Rattle.rule_text.proofs.Lexemes.{width_from, width_within, lexeme_is_token}
use Rattle.rule_text.proofs.Scanning.{tokens_empty, tokens_space, tokens_first}
use Rattle.scanner.specs.Scanned.{is_space, Left, Skips, NoToken, ended, not_known, StartsWith, Scans}

-- The four bytes that decide.
pub bytes_decide :
    (x : Text) (c d e f : ℕ)
    → c ≡ get_or x 0 0
    → d ≡ get_or x 1 0
    → e ≡ get_or x 2 0
    → f ≡ get_or x 3 0
    → lexed c d e f ≡ first_lexeme x
unfolding first_lexeme
bytes_decide x c d e f p q r s = rw (p, q, r, s)

-- A lexeme stays inside the text.
pub lexeme_inside : (x : Text) → 0 < length x → (first_lexeme x).width ≤ length x
lexeme_inside x l =
    ⊎_elim
    (λ e. let one : (first_lexeme x).width ≡ 1 = ap (λ i. i.width) e in omega arith)
    (width_within x)
    (lexeme_is_token x)

-- The slice from n on.
rest_is : (n : ℕ) (x : Text) → take (length x - n) (drop n x) ≡ drop n x
rest_is n x = let h = length-drop n x in take_all (length x - n) (drop n x) (omega arith)

-- What is left behind a part that is passed.
pub left_behind : (n : ℕ) (x : Text) → n ≤ length x → Left n x (drop n x)
left_behind n x l = record { passed = n; is = refl; shorter = let left = length-drop n x in omega arith }

pub left_further : (m n : ℕ) (x y z : Text) → Left m x y → Left n y z → Left (m + n) x z
left_further m n x y z l r =
    record {
      passed = l.passed + r.passed;
      is = r.is ∙ ap (drop r.passed) l.is ∙ drop-drop r.passed l.passed x;
      shorter = let h = l.shorter in let g = r.shorter in omega arith;
    }

left_fewer : (m n : ℕ) (x y : Text) → m ≤ n → Left n x y → Left m x y
left_fewer m n x y h l = record { passed = l.passed; is = l.is; shorter = let g = l.shorter in omega arith }

pub left_then : (k m n : ℕ) (x y z : Text) → k ≤ m + n → Left m x y → Left n y z → Left k x z
left_then k m n x y z h l r = left_fewer k (m + n) x z h (left_further m n x y z l r)

-- The spaces that a text starts with.

-- one more
more_spaces : (c : ℕ) (x : Text) → is_space c ≡ true → prefix_len is_space (c ∷ x) ≡ suc (prefix_len is_space x)
more_spaces c x t = simp (t, one-add)

no_space : (c : ℕ) (x : Text) → is_space c ≡ false → prefix_len is_space (c ∷ x) ≡ 0
no_space c x f = simp f

space_split : (x : Text) → x ≡ replicate (prefix_len is_space x) 32 ++ drop (prefix_len is_space x) x
space_split [] = refl
space_split (c ∷ x) =
    split (is_space c)
    (λ t.
    ap (λ b. b ∷ x) (eqb-true c 32 t)
    ∙ ap (λ y. 32 ∷ y) (space_split x)
    ∙ ap (λ n. replicate n 32 ++ drop n (c ∷ x)) (sym (more_spaces c x t)))
    (λ f. ap (λ n. replicate n 32 ++ drop n (c ∷ x)) (sym (no_space c x f)))

space_same : (x : Text) → tokens (drop (prefix_len is_space x) x) ≡ tokens x
space_same [] = refl
space_same (c ∷ x) =
    split (is_space c)
    (λ t.
    ap (λ n. tokens (drop n (c ∷ x))) (more_spaces c x t)
    ∙ space_same x
    ∙ sym (tokens_space x)
    ∙ ap (λ b. tokens (b ∷ x)) (sym (eqb-true c 32 t)))
    (λ f. ap (λ n. tokens (drop n (c ∷ x))) (no_space c x f))

space_stops : (x : Text) → get_or (drop (prefix_len is_space x) x) 0 0 ≡ 32 → ⊥
space_stops [] = λ e. omega arith
space_stops (c ∷ x) =
    split (is_space c)
    (λ t e. space_stops x (sym (ap (λ n. get_or (drop n (c ∷ x)) 0 0) (more_spaces c x t)) ∙ e))
    (λ f e. eqb-false c 32 f (sym (ap (λ n. get_or (drop n (c ∷ x)) 0 0) (no_space c x f)) ∙ e))

pub space_inside : (x : Text) → prefix_len is_space x ≤ length x
space_inside [] = omega arith
space_inside (c ∷ x) =
    split (is_space c)
    (λ t. let h = space_inside x in let e = more_spaces c x t in omega arith)
    (λ f. let e = no_space c x f in omega arith)

pub skips_spaces : (x : Text) (n : ℕ) → n ≡ prefix_len is_space x → Skips x (take (length x - n) (drop n x))
skips_spaces x n is =
    let l = space_inside x in
    rw (rest_is n x, is)
    (record {
      spaces = prefix_len is_space x;
      is = space_split x;
      left = left_fewer 0 (prefix_len is_space x) x _ (omega arith) (left_behind (prefix_len is_space x) x l);
      same = space_same x;
      stops = space_stops x;
    })

-- A token and the tokens behind it start with the token; what is unknown is no token.
followed_starts : (t : Token) (ts us : List Token) → ts ≡ followed t us → StartsWith t ts us
unfolding followed StartsWith
followed_starts (Atom j) ts us e = e
followed_starts (Prefix p) ts us e = e
followed_starts (Operator o) ts us e = e
followed_starts (Mark m) ts us e = e
followed_starts Unknown ts us e = subst NoToken (sym e) (not_known [])

tokens_start :
    (y : Text) → 0 < length y → (get_or y 0 0 ≡ 32 → ⊥)
    → tokens y ≡ followed (first_lexeme y).token (tokens (drop (first_lexeme y).width y))
tokens_start [] l n = absurd (not-suc-le-zero l)
tokens_start (c ∷ y) l n = tokens_first c y n

known_token : (y : Text) → ((first_lexeme y).token ≡ Unknown → ⊥) → is_token (first_lexeme y).token ≡ true
known_token y n = ⊎_elim (λ e. absurd (n (ap (λ l. l.token) e))) (λ k. k) (lexeme_is_token y)

nothing_left : (y : Text) → length y ≡ 0 → y ≡ []
nothing_left [] e = refl
nothing_left (c ∷ y) e = absurd (omega arith)

-- Behind the spaces the text ends, or a token stands there.
module _ (x y : Text) (s : Skips x y) (empty : Bool) (e : empty ≡ eqb (length y) 0) where
  pub scans_end : empty ≡ true → Scans x Unknown y
  unfolding StartsWith
  scans_end t =
      let nothing : y ≡ [] = nothing_left y (eqb-true (length y) 0 (sym e ∙ t)) in
      record {
        starts = subst NoToken (sym (ap tokens nothing ∙ tokens_empty) ∙ s.same) ended;
        further = λ n. absurd (n refl);
      }

  pub scans_token :
      (l : Lexeme) (z : Text)
      → empty ≡ false
      → l ≡ first_lexeme y
      → Skips (take (length y - l.width) (drop l.width y)) z
      → Scans x l.token z
  scans_token l z t is later =
      let some = eqb-false (length y) 0 (sym e ∙ t) in
      let here : first_lexeme y ≡ l = sym is in
      let behind = rw (rest_is l.width y) at later in
      record {
        starts =
            followed_starts l.token (tokens x) (tokens z)
            (sym s.same
            ∙ tokens_start y (omega arith) s.stops
            ∙ ap (λ i. followed i.token (tokens (drop i.width y))) here
            ∙ ap (followed l.token) (sym behind.same));
        further = λ n.
            let from : 1 ≤ l.width = rw is (width_from y) in
            let inside : l.width ≤ length y = rw is (width_within y (known_token y (λ u. n (ap (λ i. i.token) is ∙ u)))) in
            left_fewer 1 (0 + (l.width + 0)) x z (omega arith) (left_further 0 (l.width + 0) x y z s.left (left_further l.width 0 y _ z (left_behind l.width y inside) behind.left));
      }
