-- The three numbers of a subformula line are read as a subformula exactly where they are the ones that it is written with and its
-- operands are in range. Assumes nothing.
use Prim.Native.Nat.{ℕ, ◌<◌, ◌≤◌}
use mathlib.Core.Path.{◌≡◌, refl, sym, ◌∙◌, ap, subst}
use mathlib.Core.Bool.{Bool, true, false, cond, ◌&&◌, true≢false}
use mathlib.Core.List.{[], ◌∷◌}
use native.Mathlib.Omega.{arith}
use lib.ListN.{length, get_or}
use lib.Dec.{leb, ltb, eqb}
use borrow.Author.Tests.{ltb-true, lt-ltb, leb-true, le-leb, eqb-true}
use Rattle.law.proofs.Bool.{split, cond_true, cond_false, and_left, and_right}
use Rattle.job.specs.Formula.{atomic, unary, binary, parsed, fields, is_formula, formula, renamed}
use Rattle.job.specs.Rule.{rule_of, InRange, Valued}
use Rattle.job.specs.Written.{Operands}
use Rattle.job.specs.declared.subformula.Subformula.{Subformula}
use Rattle.job.specs.declared.subformula.Subformula.TheVariants.{Atom, Not, And, Ax, Ex, Au, Eu, Eg, Ag}
use Rattle.std.proofs.Common.{Option, Some, None}
use Rattle.text.specs.Decimal.{Short}

-- These numbers are what f is written with, and f can stand at place k.
abbrev pub Stands : ℕ → ℕ → ℕ → ℕ → Subformula → Type 0
Stands k kind a b f = (kind ∷ a ∷ b ∷ [] ≡ fields f) × Operands k f

-- Forward: whatever rung of the nine tests gives f, the numbers are f's.
no_formula {ℓ} : {A : Type ℓ} (f : Subformula) → None ≡ Some f → A
no_formula f e = let stop : ◌≡◌ {A = ℕ} 0 1 = cc in absurd (omega arith)

formula_if : (c : Bool) (g f : Subformula) → cond c (Some g) None ≡ Some f → (c ≡ true) × (g ≡ f)
formula_if true g f e = (refl, cc)
formula_if false g f e = no_formula f e

-- one kind of the nine: it is this one, or the test goes on
rung : {P : Type 0} (kind n : ℕ) (here next : Option Subformula) (f : Subformula) → cond (eqb kind n) here next ≡ Some f
    → (kind ≡ n → here ≡ Some f → P) → (next ≡ Some f → P) → P
rung kind n here next f e is other =
    split (eqb kind n)
    (λ t. is (eqb-true kind n t) (sym (cond_true (eqb kind n) here next t) ∙ e))
    (λ n'. other (sym (cond_false (eqb kind n) here next n') ∙ e))

module _ (k kind a b : ℕ) (f : Subformula) where
  -- a kind with one operand, whose test t stands before that of b, and a kind with two
  one_stands : (n : ℕ) (g : Subformula) (t : Bool) → fields g ≡ n ∷ a ∷ 0 ∷ [] → (t ≡ true → Operands k g) → kind ≡ n
      → cond (t && eqb b 0) (Some g) None ≡ Some f → Stands k kind a b f
  one_stands n g t w o q e =
      let (test, same) = formula_if (t && eqb b 0) g f e in
      let z = eqb-true b 0 (and_right t (eqb b 0) test) in
      subst (Stands k kind a b) same (rw (q, z, w), o (and_left t (eqb b 0) test))

  two_stands : (n : ℕ) (g : Subformula) → fields g ≡ n ∷ a ∷ b ∷ [] → ((a < k) × (b < k) → Operands k g) → kind ≡ n
      → binary k a b g ≡ Some f → Stands k kind a b f
  unfolding binary
  two_stands n g w o q e =
      let (test, same) = formula_if (ltb a k && ltb b k) g f e in
      subst (Stands k kind a b) same
      (rw (q, w), o (ltb-true a k (and_left (ltb a k) (ltb b k) test), ltb-true b k (and_right (ltb a k) (ltb b k) test)))

  pub parsed_stands : parsed k kind a b ≡ Some f → Stands k kind a b f
  unfolding parsed atomic unary fields InRange
  parsed_stands e =
      rung kind 1 _ _ f e (one_stands 1 (Atom a) (leb a 15) refl (leb-true a 15)) λ e.
      rung kind 2 _ _ f e (one_stands 2 (Not a) (ltb a k) refl (ltb-true a k)) λ e.
      rung kind 3 _ _ f e (two_stands 3 (And a b) refl (λ o. o)) λ e.
      rung kind 4 _ _ f e (one_stands 4 (Ax a) (ltb a k) refl (ltb-true a k)) λ e.
      rung kind 5 _ _ f e (one_stands 5 (Ex a) (ltb a k) refl (ltb-true a k)) λ e.
      rung kind 6 _ _ f e (two_stands 6 (Au a b) refl until) λ e.
      rung kind 7 _ _ f e (two_stands 7 (Eu a b) refl until) λ e.
      rung kind 8 _ _ f e (one_stands 8 (Eg a) (ltb a k) refl throughout) λ e.
      rung kind 9 _ _ f e (one_stands 9 (Ag a) (ltb a k) refl throughout) λ e.
      no_formula f e
    where
      until : (a < k) × (b < k) → (b < k) × (a < k) × (1 ≤ 1)
      until (l, r) = (r, l, omega arith)

      throughout : ltb a k ≡ true → (a < k) × Unit {0} × (0 ≤ 1)
      throughout e = (ltb-true a k e, tt, omega arith)

-- Back: the numbers of f pass its rung.
pub fields_length : (f : Subformula) → length (fields f) ≡ 3
unfolding fields
fields_length (Atom a) = refl
fields_length (Not a) = refl
fields_length (And a b) = refl
fields_length (Ax a) = refl
fields_length (Ex a) = refl
fields_length (Au a b) = refl
fields_length (Eu a b) = refl
fields_length (Eg a) = refl
fields_length (Ag a) = refl

-- each with at most five digits
pub fields_short : (k : ℕ) (f : Subformula) → k < 100000 → Operands k f → Short (fields f)
unfolding fields Short InRange
fields_short k (Atom a) l o = omega arith
fields_short k (Not a) l o = omega arith
fields_short k (And a b) l o = omega arith
fields_short k (Ax a) l o = omega arith
fields_short k (Ex a) l o = omega arith
fields_short k (Au a b) l o = omega arith
fields_short k (Eu a b) l o = omega arith
fields_short k (Eg a) l o = omega arith
fields_short k (Ag a) l o = omega arith

-- and each below every bound that the atoms and the subformulas before it are below
pub fields_below :
    (k b : ℕ) (f : Subformula)
    → 16 ≤ b
    → k ≤ b
    → Operands k f
    → (get_or (fields f) 0 0 < b) × (get_or (fields f) 1 0 < b) × (get_or (fields f) 2 0 < b)
unfolding fields InRange
fields_below k b (Atom a) w l o = (omega arith, omega arith, omega arith)
fields_below k b (Not a) w l o = (omega arith, omega arith, omega arith)
fields_below k b (And c d) w l o = (omega arith, omega arith, omega arith)
fields_below k b (Ax a) w l o = (omega arith, omega arith, omega arith)
fields_below k b (Ex a) w l o = (omega arith, omega arith, omega arith)
fields_below k b (Au c d) w l o = (omega arith, omega arith, omega arith)
fields_below k b (Eu c d) w l o = (omega arith, omega arith, omega arith)
fields_below k b (Eg a) w l o = (omega arith, omega arith, omega arith)
fields_below k b (Ag a) w l o = (omega arith, omega arith, omega arith)

fields_parsed : (k : ℕ) (f : Subformula) → Operands k f
    → parsed k (get_or (fields f) 0 0) (get_or (fields f) 1 0) (get_or (fields f) 2 0) ≡ Some f
unfolding parsed atomic unary binary fields InRange
fields_parsed k (Atom a) o = simp (le-leb a 15 o)
fields_parsed k (Not a) o = simp (lt-ltb a k o)
fields_parsed k (And a b) o = simp (lt-ltb a k o.0, lt-ltb b k o.1)
fields_parsed k (Ax a) o = simp (lt-ltb a k o)
fields_parsed k (Ex a) o = simp (lt-ltb a k o)
fields_parsed k (Au a b) o = simp (lt-ltb a k o.1, lt-ltb b k o.0)
fields_parsed k (Eu a b) o = simp (lt-ltb a k o.1, lt-ltb b k o.0)
fields_parsed k (Eg a) o = simp (lt-ltb a k o.0)
fields_parsed k (Ag a) o = simp (lt-ltb a k o.0)

pub stands_parsed : (k kind a b : ℕ) (f : Subformula) → Stands k kind a b f → parsed k kind a b ≡ Some f
stands_parsed k kind a b f (e, o) =
    rw (ap (λ l. get_or l 0 0) e, ap (λ l. get_or l 1 0) e, ap (λ l. get_or l 2 0) e) (fields_parsed k f o)

-- Whatever its kind, the value of the sets of its rule is 0 or 1.
pub rule_valued : (f : Subformula) → Valued (rule_of f)
unfolding Valued
rule_valued (Atom j) = tt
rule_valued (Not a) = tt
rule_valued (And a b) = tt
rule_valued (Ax a) = tt
rule_valued (Ex a) = tt
rule_valued (Au a b) = omega arith
rule_valued (Eu a b) = omega arith
rule_valued (Eg a) = omega arith
rule_valued (Ag a) = omega arith

-- Its operands under their own numbers.
pub renamed_same : (f : Subformula) → renamed (λ k. k) f ≡ f
unfolding renamed
renamed_same (Atom j) = refl
renamed_same (Not a) = refl
renamed_same (And a b) = refl
renamed_same (Ax a) = refl
renamed_same (Ex a) = refl
renamed_same (Au a b) = refl
renamed_same (Eu a b) = refl
renamed_same (Eg a) = refl
renamed_same (Ag a) = refl

-- A line that is not malformed has its formula.
pub formula_is : (p : Option Subformula) → is_formula p ≡ true → p ≡ Some (formula p)
unfolding is_formula formula
formula_is (Some f) e = refl
formula_is None e = absurd (true≢false (sym e))
