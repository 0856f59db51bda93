-- Which operators may stand behind what is derived at a level, and which are taken there. Assumes nothing.
use Prim.Native.Nat.{ℕ, zero, suc, ◌≤◌, ◌<◌}
use mathlib.Core.Path.{◌≡◌, refl, sym, subst}
use mathlib.Core.Logic.{◌↔◌, ⊎_elim}
use mathlib.Core.List.{List, [], ◌∷◌}
use native.Mathlib.Nat.{eq-or-lt_of_le, le_of_suc-le-suc}
use native.Mathlib.Omega.{arith}
use Rattle.rule_text.specs.declared.token.Operator.{Operator as BinaryOperator}
use Rattle.rule_text.specs.declared.token.Operator.TheVariants.{And, Or, Implies}
use Rattle.rule_text.specs.declared.token.Token.{Token}
use Rattle.rule_text.specs.declared.token.Token.TheVariants.{Atom, Prefix, Operator, Mark, Unknown}
use Rattle.rule_text.specs.Tree.{Tree}
use Rattle.rule_text.specs.Grammar.{strength, groups_left, left_level, right_level, tightest, Derives, tighter}

-- An operator that stands first has a property.
abbrev Heads : (BinaryOperator → Type 0) → List Token → Type 0
Heads P [] = Unit {0}
Heads P (Atom j ∷ ts) = Unit {0}
Heads P (Prefix p ∷ ts) = Unit {0}
Heads P (Operator o ∷ ts) = P o
Heads P (Mark m ∷ ts) = Unit {0}
Heads P (Unknown ∷ ts) = Unit {0}

heads :
    (P : BinaryOperator → Type 0) (ts : List Token)
    → ((o : BinaryOperator) (us : List Token) → ts ≡ Operator o ∷ us → P o)
    → Heads P ts
heads P [] h = tt
heads P (Atom j ∷ ts) h = tt
heads P (Prefix p ∷ ts) h = tt
heads P (Operator o ∷ ts) h = h o ts refl
heads P (Mark m ∷ ts) h = tt
heads P (Unknown ∷ ts) h = tt

heads_more : (P Q : BinaryOperator → Type 0) (ts : List Token) → ((o : BinaryOperator) → P o → Q o) → Heads P ts → Heads Q ts
heads_more P Q ts h g = heads Q ts (λ o us e. h o (subst (Heads P) e g))

-- The operator asks no more of its left operand than the level gives.
abbrev pub Stops : ℕ → List Token → Type 0
Stops l ts = Heads (λ o. left_level o ≤ l) ts

-- The operator is too weak to be taken.
abbrev pub Ends : ℕ → List Token → Type 0
Ends l ts = Heads (λ o. strength o < l) ts

pub record Bounds (o : BinaryOperator) : Type 0 where
  pub left : strength o ≤ left_level o
  pub right : strength o ≤ right_level o
  pub left_most : left_level o < tightest
  pub right_most : right_level o ≤ tightest

pub bounds : (o : BinaryOperator) → Bounds o
unfolding strength left_level right_level groups_left
bounds And = omega arith
bounds Or = omega arith
bounds Implies = omega arith

-- Behind a right operand of o, the operators that are not taken are those that take all of it as their left operand.
not_taken : (o p : BinaryOperator) → left_level p ≤ strength o ↔ strength p < right_level o
unfolding strength left_level right_level groups_left
not_taken And And = omega arith
not_taken And Or = omega arith
not_taken And Implies = omega arith
not_taken Or And = omega arith
not_taken Or Or = omega arith
not_taken Or Implies = omega arith
not_taken Implies And = omega arith
not_taken Implies Or = omega arith
not_taken Implies Implies = omega arith

pub stops_ends : (o : BinaryOperator) (ts : List Token) → Stops (strength o) ts → Ends (right_level o) ts
stops_ends o ts = heads_more _ _ ts (λ p. (not_taken o p).0)

pub ends_stops : (o : BinaryOperator) (ts : List Token) → Ends (right_level o) ts → Stops (strength o) ts
ends_stops o ts = heads_more _ _ ts (λ p. (not_taken o p).1)

pub stops_later : (l m : ℕ) (ts : List Token) → l ≤ m → Stops l ts → Stops m ts
stops_later l m ts h = heads_more _ _ ts (λ p g. omega arith)

pub stops_tightest : (ts : List Token) → Stops tightest ts
stops_tightest ts = heads _ ts (λ o us e. let b = bounds o in omega arith)

pub ends_tightest : (ts : List Token) → Ends tightest ts
ends_tightest ts = heads _ ts (λ o us e. let b = bounds o in omega arith)

pub derives_weaker : (m l : ℕ) (ts : List Token) (f : Tree) → l ≤ m → Derives m ts f → Derives l ts f
derives_weaker zero l ts f h d = let e : zero ≡ l = omega arith in subst (λ k. Derives k ts f) e d
derives_weaker (suc m) l ts f h d =
    ⊎_elim
    (λ e. subst (λ k. Derives k ts f) (sym e) d)
    (λ g. derives_weaker m l ts f (le_of_suc-le-suc g) (tighter m ts f d))
    (eq-or-lt_of_le h)
