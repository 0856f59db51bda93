-- The rule that a line says, with its operands looked up in the lines before it. Where operands are smaller numbers, it does not depend on
-- the lines behind. Assumes nothing.
use Prim.Native.Nat.{ℕ, zero, suc, ◌<◌}
use mathlib.Core.Path.{◌≡◌, refl, ap, ap₂}
use mathlib.Core.List.{List}
use native.Mathlib.Nat.{le_refl, not-suc-le-zero}
use native.Mathlib.Omega.{arith}
use Rattle.job.specs.Job.{Quantifier, for_all, exists, subformula}
use Rattle.job.specs.declared.subformula.Subformula.{Subformula}
use Rattle.job.specs.declared.subformula.Subformula.TheVariants.{Atom, And, Au, Eu}
use Rattle.job.specs.declared.subformula.Subformula.TheVariants as kind
use Rattle.rule_text.specs.declared.token.Prefix.{Prefix}
use Rattle.rule_text.specs.declared.token.Prefix.TheVariants.{Not, Ax, Ex, Eg, Ag}
use Rattle.rule_text.specs.Lines.{Basic, atom, prefix, both, until, negation, prefix_line, until_line}

-- What a line says, given what its operands say.
unfoldable pub line_says : (ℕ → Basic) → Subformula → Basic
line_says r (Atom j) = atom j
line_says r (kind.Not a) = prefix Not (r a)
line_says r (And a b) = both (r a) (r b)
line_says r (kind.Ax a) = prefix Ax (r a)
line_says r (kind.Ex a) = prefix Ex (r a)
line_says r (Au a b) = until for_all (r a) (r b)
line_says r (Eu a b) = until exists (r a) (r b)
line_says r (kind.Eg a) = prefix Eg (r a)
line_says r (kind.Ag a) = prefix Ag (r a)

pub prefix_says : (r : ℕ → Basic) (p : Prefix) (a : ℕ) → line_says r (prefix_line p a) ≡ prefix p (r a)
unfolding line_says prefix_line
prefix_says r Not a = refl
prefix_says r Ax a = refl
prefix_says r Ex a = refl
prefix_says r Eg a = refl
prefix_says r Ag a = refl

pub until_says : (r : ℕ → Basic) (q : Quantifier) (a b : ℕ) → line_says r (until_line q a b) ≡ until q (r a) (r b)
unfolding line_says until_line
until_says r for_all a b = refl
until_says r exists a b = refl

-- By fuel, as truth is; without any, a rule that is nowhere true.
abbrev pub nowhere : Basic
nowhere = both (atom 0) (negation (atom 0))

unfoldable pub says_up_to : List Subformula → ℕ → ℕ → Basic
says_up_to ls zero k = nowhere
says_up_to ls (suc n) k = line_says (says_up_to ls n) (subformula ls k)

unfoldable pub says : List Subformula → ℕ → Basic
says ls k = says_up_to ls (suc k) k

-- What line k names is in range: atoms with P, smaller numbers.
module _ (P : ℕ → Type 0) where
  unfoldable pub Ranged : ℕ → Subformula → Type 0
  Ranged k (Atom j) = P j
  Ranged k (kind.Not a) = a < k
  Ranged k (And a b) = (a < k) × (b < k)
  Ranged k (kind.Ax a) = a < k
  Ranged k (kind.Ex a) = a < k
  Ranged k (Au a b) = (a < k) × (b < k)
  Ranged k (Eu a b) = (a < k) × (b < k)
  Ranged k (kind.Eg a) = a < k
  Ranged k (kind.Ag a) = a < k

  pub prefix_ranged : (p : Prefix) (k a : ℕ) → a < k → Ranged k (prefix_line p a)
  unfolding Ranged prefix_line
  prefix_ranged Not k a l = l
  prefix_ranged Ax k a l = l
  prefix_ranged Ex k a l = l
  prefix_ranged Eg k a l = l
  prefix_ranged Ag k a l = l

  pub until_ranged : (q : Quantifier) (k a b : ℕ) → a < k → b < k → Ranged k (until_line q a b)
  unfolding Ranged until_line
  until_ranged for_all k a b l r = (l, r)
  until_ranged exists k a b l r = (l, r)

  line_same : (r q : ℕ → Basic) (k : ℕ) → ((a : ℕ) → a < k → r a ≡ q a) → (f : Subformula) → Ranged k f → line_says r f ≡ line_says q f
  unfolding line_says Ranged
  line_same r q k same (Atom j) o = refl
  line_same r q k same (kind.Not a) o = ap (prefix Not) (same a o)
  line_same r q k same (And a b) (o, p) = ap₂ both (same a o) (same b p)
  line_same r q k same (kind.Ax a) o = ap (prefix Ax) (same a o)
  line_same r q k same (kind.Ex a) o = ap (prefix Ex) (same a o)
  line_same r q k same (Au a b) (o, p) = ap₂ (until for_all) (same a o) (same b p)
  line_same r q k same (Eu a b) (o, p) = ap₂ (until exists) (same a o) (same b p)
  line_same r q k same (kind.Eg a) o = ap (prefix Eg) (same a o)
  line_same r q k same (kind.Ag a) o = ap (prefix Ag) (same a o)

  -- Two lists with the same lines below a bound, of operands in range.
  module _ (ls gs : List Subformula) (bound : ℕ) (ranged : (k : ℕ) → k < bound → Ranged k (subformula ls k))
      (same : (k : ℕ) → k < bound → subformula gs k ≡ subformula ls k) where
    within_same : (n m k : ℕ) → k < n → k < m → k < bound → says_up_to ls n k ≡ says_up_to gs m k
    unfolding says_up_to
    within_same zero m k h h' l = absurd (not-suc-le-zero h)
    within_same (suc n) zero k h h' l = absurd (not-suc-le-zero h')
    within_same (suc n) (suc m) k h h' l =
        rw (same k l)
        (line_same (says_up_to ls n) (says_up_to gs m) k
        (λ a x. within_same n m a (omega arith) (omega arith) (omega arith)) (subformula ls k) (ranged k l))

    pub says_same : (k : ℕ) → k < bound → says ls k ≡ says gs k
    unfolding says
    says_same k l = within_same (suc k) (suc k) k (le_refl (suc k)) (le_refl (suc k)) l

    pub says_line : Ranged bound (subformula ls bound) → says ls bound ≡ line_says (says gs) (subformula ls bound)
    unfolding says says_up_to
    says_line o =
        line_same (says_up_to ls bound) (says gs) bound (λ a x. within_same bound (suc a) a x (le_refl (suc a)) x) (subformula ls bound) o
