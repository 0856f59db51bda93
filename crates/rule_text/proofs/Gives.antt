-- A parse that goes on behind another or behind a mark: what it gives, and when two are the same. Assumes nothing.
use mathlib.Core.Path.{◌≡◌, refl, ◌∙◌, ap}
use mathlib.Core.Bool.{Bool, true, false, cond}
use mathlib.Core.List.{List, [], ◌∷◌}
use Rattle.law.proofs.Bool.{split}
use Rattle.rule_text.specs.declared.token.Mark.{Mark as MarkKind}
use Rattle.rule_text.specs.declared.token.Token.{Token}
use Rattle.rule_text.specs.declared.token.Token.TheVariants.{Atom, Prefix, Operator, Mark, Unknown}
use Rattle.rule_text.specs.Token.{same_mark}
use Rattle.rule_text.specs.Tree.{Tree}
use Rattle.rule_text.specs.Parse.{Parse, none, found, and_then, behind}
use Rattle.rule_text.proofs.MarkLaws.{marks_same}

marked : (n m : MarkKind) (ts : List Token) → same_mark n m ≡ true → Mark n ∷ ts ≡ Mark m ∷ ts
marked n m ts e = ap (λ (x : MarkKind). Mark x ∷ ts) (marks_same n m e)

-- The tree and the tokens behind it, if any are found, have a property.
abbrev pub Gives : (Tree → List Token → Type 0) → Parse → Type 0
Gives P none = Unit {0}
Gives P (found f us) = P f us

module _ (P : Tree → List Token → Type 0) where
  pub gives_more :
      (Q : Tree → List Token → Type 0) (p : Parse)
      → ((f : Tree) (us : List Token) → P f us → Q f us)
      → Gives P p
      → Gives Q p
  gives_more Q none h g = tt
  gives_more Q (found f us) h g = h f us g

  pub cond_gives : (b : Bool) (p q : Parse) → (b ≡ true → Gives P p) → (b ≡ false → Gives P q) → Gives P (cond b p q)
  cond_gives true p q h g = h refl
  cond_gives false p q h g = g refl

  pub and_then_gives :
      (p : Parse) (next : Tree → List Token → Parse)
      → ((f : Tree) (us : List Token) → p ≡ found f us → Gives P (next f us))
      → Gives P (and_then p next)
  unfolding and_then
  and_then_gives none next h = tt
  and_then_gives (found f us) next h = h f us refl

  pub behind_gives :
      (m : MarkKind) (ts : List Token) (next : List Token → Parse)
      → ((us : List Token) → ts ≡ Mark m ∷ us → Gives P (next us))
      → Gives P (behind m ts next)
  unfolding behind
  behind_gives m [] next h = tt
  behind_gives m (Atom j ∷ ts) next h = tt
  behind_gives m (Prefix p ∷ ts) next h = tt
  behind_gives m (Operator o ∷ ts) next h = tt
  behind_gives m (Mark n ∷ ts) next h =
      cond_gives (same_mark n m) (next ts) none (λ e. h ts (marked n m ts e)) (λ e. tt)
  behind_gives m (Unknown ∷ ts) next h = tt

pub and_then_same :
    (p q : Parse) (next other : Tree → List Token → Parse)
    → p ≡ q
    → ((f : Tree) (us : List Token) → p ≡ found f us → next f us ≡ other f us)
    → and_then p next ≡ and_then q other
unfolding and_then
and_then_same p q next other e h = here p h ∙ ap (λ (r : Parse). and_then r other) e
  where
    here :
        (r : Parse)
        → ((f : Tree) (us : List Token) → r ≡ found f us → next f us ≡ other f us)
        → and_then r next ≡ and_then r other
    here none g = refl
    here (found f us) g = g f us refl

pub behind_same :
    (m : MarkKind) (ts : List Token) (next other : List Token → Parse)
    → ((us : List Token) → ts ≡ Mark m ∷ us → next us ≡ other us)
    → behind m ts next ≡ behind m ts other
unfolding behind
behind_same m [] next other h = refl
behind_same m (Atom j ∷ ts) next other h = refl
behind_same m (Prefix p ∷ ts) next other h = refl
behind_same m (Operator o ∷ ts) next other h = refl
behind_same m (Mark n ∷ ts) next other h =
    split (same_mark n m) (λ e. ap (λ (p : Parse). cond (same_mark n m) p none) (h ts (marked n m ts e))) (λ e. simp e)
behind_same m (Unknown ∷ ts) next other h = refl
