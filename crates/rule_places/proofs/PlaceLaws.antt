-- What a scanned token says of the tokens of a text. A `let .. else` on a token knows that it is not of that case. Assumes nothing.
use Prim.Native.Nat.{ℕ, ◌<◌, ◌≤◌}
use mathlib.Core.Path.{◌≡◌, refl, sym, ap, subst, ◌∙◌}
use mathlib.Core.Bool.{Bool, true, false, true≢false}
use mathlib.Core.List.{List, ◌∷◌}
use Rattle.text.specs.Field.{Text}
use Rattle.rule_text.specs.Scan.{tokens}
use Rattle.rule_text.specs.Grammar.{strength, right_level}
use Rattle.rule_text.specs.declared.token.Mark.{Mark as MarkKind}
use Rattle.rule_text.specs.declared.token.Operator.{Operator as BinaryOperator}
use Rattle.rule_text.specs.declared.token.Token.{Token}
use Rattle.rule_text.specs.declared.token.Token.TheVariants.{Atom, Prefix, Operator, Mark, Unknown}
use Rattle.rule_text.proofs.Levels.{Ends}
use Rattle.rule_text.proofs.MarkLaws.{marks_other}
use Rattle.scanner.specs.Scanned.{NoToken, ended, not_known, StartsWith, Scans}
use Rattle.rule_places.specs.Places.{starts_with_mark, Passes, Infixes}

unfoldable pub known : Token → Bool
known (Atom j) = true
known (Prefix p) = true
known (Operator o) = true
known (Mark m) = true
known Unknown = false

starts_known : (t : Token) (ts us : List Token) → known t ≡ true → StartsWith t ts us → ts ≡ t ∷ us
unfolding StartsWith known
starts_known (Atom j) ts us k s = s
starts_known (Prefix p) ts us k s = s
starts_known (Operator o) ts us k s = s
starts_known (Mark m) ts us k s = s
starts_known Unknown ts us k s = absurd (true≢false (sym k))

known_further : (t : Token) → known t ≡ true → t ≡ Unknown → ⊥
unfolding known
known_further t k e = true≢false (sym k ∙ ap known e)

module _ (x y : Text) (s : Token) (is : Scans x s y) where
  pub scans_passes : (t : Token) → s ≡ t → known t ≡ true → Passes x t y
  scans_passes t e k =
      let here : known s ≡ true = ap known e ∙ k in
      record {
        first = starts_known s _ _ here is.starts ∙ ap (λ u. u ∷ tokens y) e;
        left = is.further (known_further s here);
      }

  pub scans_infix :
      (o : BinaryOperator) (least right : ℕ)
      → s ≡ Operator o
      → least ≤ strength o
      → right ≡ right_level o
      → Infixes x least o right y
  unfolding known
  scans_infix o least right e l r = record { passes = scans_passes (Operator o) e refl; strong = l; level = r }

  pub scans_starts : (t : Token) → s ≡ t → StartsWith t (tokens x) (tokens y)
  scans_starts t e = subst (λ u. StartsWith u (tokens x) (tokens y)) e is.starts

-- No mark, no operator.
no_token_mark : (m : MarkKind) (ts : List Token) → NoToken ts → starts_with_mark m ts ≡ false
unfolding starts_with_mark
no_token_mark m ts ended = refl
no_token_mark m ts (not_known us) = refl

pub other_token_mark :
    (t : Token) (ts us : List Token) (m : MarkKind) → (t ≡ Mark m → ⊥) → StartsWith t ts us → starts_with_mark m ts ≡ false
unfolding starts_with_mark StartsWith
other_token_mark (Atom j) ts us m h s = ap (starts_with_mark m) s
other_token_mark (Prefix p) ts us m h s = ap (starts_with_mark m) s
other_token_mark (Operator o) ts us m h s = ap (starts_with_mark m) s
other_token_mark (Mark n) ts us m h s = ap (starts_with_mark m) s ∙ marks_other n m (λ e. h (ap Mark e))
other_token_mark Unknown ts us m h s = no_token_mark m ts s

no_token_ends : (least : ℕ) (ts : List Token) → NoToken ts → Ends least ts
no_token_ends least ts ended = tt
no_token_ends least ts (not_known us) = tt

pub other_token_ends :
    (t : Token) (ts us : List Token) (least : ℕ) → ((o : BinaryOperator) → t ≡ Operator o → ⊥) → StartsWith t ts us → Ends least ts
unfolding StartsWith
other_token_ends (Atom j) ts us least h s = subst (Ends least) (sym s) tt
other_token_ends (Prefix p) ts us least h s = subst (Ends least) (sym s) tt
other_token_ends (Operator o) ts us least h s = absurd (h o refl)
other_token_ends (Mark m) ts us least h s = subst (Ends least) (sym s) tt
other_token_ends Unknown ts us least h s = no_token_ends least ts s

pub weak_operator_ends :
    (o : BinaryOperator) (ts us : List Token) (least : ℕ) → strength o < least → StartsWith (Operator o) ts us → Ends least ts
unfolding StartsWith
weak_operator_ends o ts us least l s = subst (Ends least) (sym s) l
