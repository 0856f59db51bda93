-- Every prefix is taken alike: behind it a rule in parentheses is a rule. Assumes nothing.
use Prim.Native.Nat.{ℕ}
use mathlib.Core.Path.{refl, sym}
use mathlib.Core.Bool.{true≢false}
use mathlib.Core.List.{List, [], ◌∷◌, ◌++◌, append_assoc}
use lib.ListN.{replicate}
use Rattle.law.specs.Lists.{every}
use Rattle.text.specs.Field.{Text}
use Rattle.rule_text.specs.declared.token.Prefix.{Prefix as PrefixOperator}
use Rattle.rule_text.specs.declared.token.Token.{Token}
use Rattle.rule_text.specs.declared.token.Token.TheVariants.{Prefix}
use Rattle.rule_text.specs.Tree.{Tree, prefix}
use Rattle.rule_text.specs.Token.{mark_byte, spelling, is_token, letter_or_digit, is_word, starts_with_word}
use Rattle.rule_text.specs.Token.{Apart, Spells, nothing, token, left_parenthesis, right_parenthesis}
use Rattle.rule_text.specs.Grammar.{prefixed, in_parentheses, tighter, Means}

-- no space is needed before a closing parenthesis
before_parenthesis : (t : Token) (n : ℕ) (ts : List Token) → Apart t n ts → Apart t n (ts ++ (right_parenthesis ∷ []))
unfolding starts_with_word is_word mark_byte spelling every letter_or_digit
before_parenthesis t n [] apart = λ w h. absurd (true≢false (sym h))
before_parenthesis t n (u ∷ us) apart = apart

closed_spells : (x : Text) (ts : List Token) → Spells x ts → Spells (x ++ (41 ∷ [])) (ts ++ (right_parenthesis ∷ []))
unfolding is_token mark_byte spelling starts_with_word is_word
closed_spells x ts nothing = token right_parenthesis 0 [] [] refl (λ w h. absurd (true≢false (sym h))) nothing
closed_spells x ts (token t n y us is apart rest) =
    rw (append_assoc (spelling t) (replicate n 32 ++ y) (41 ∷ []), append_assoc (replicate n 32) y (41 ∷ []))
    (token t n (y ++ (41 ∷ [])) (us ++ (right_parenthesis ∷ [])) is (before_parenthesis t n us apart) (closed_spells y us rest))

-- "`EG` and `AG` as prefixes like `AX`"
pub prefix_means :
    (p : PrefixOperator) (x : Text) (f : Tree) → Means x f → Means (spelling (Prefix p) ++ (40 ∷ (x ++ (41 ∷ [])))) (prefix p f)
unfolding is_token mark_byte spelling starts_with_word is_word every letter_or_digit
prefix_means p x f m =
    let s = m.spelled in
    let ts = m.tokens in
    let inside = closed_spells s.rest ts s.spells in
    record {
      tokens = Prefix p ∷ left_parenthesis ∷ (ts ++ (right_parenthesis ∷ []));
      spelled =
          record {
            spaces = 0;
            rest = spelling (Prefix p) ++ (40 ∷ (x ++ (41 ∷ [])));
            is = refl;
            spells =
                token (Prefix p) 0 (40 ∷ (x ++ (41 ∷ []))) (left_parenthesis ∷ (ts ++ (right_parenthesis ∷ []))) refl (λ w h. absurd (true≢false (sym h)))
                (rw (s.is, append_assoc (replicate s.spaces 32) s.rest (41 ∷ []))
                (token left_parenthesis s.spaces (s.rest ++ (41 ∷ [])) _ refl (λ w h. absurd (true≢false (sym w))) inside));
          };
      derived = tighter 1 _ _ (tighter 2 _ _ (tighter 3 _ _ (prefixed p _ f (in_parentheses ts f m.derived))));
    }
