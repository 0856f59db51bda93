-- The labelling does not depend on its fuel: where operands have smaller numbers, each subformula is labelled from the labels of
-- its operands. Assumes nothing.
use Prim.Native.Nat.{ℕ, zero, suc, ◌<◌}
use mathlib.Core.Path.{◌≡◌, refl, ap, ap₂}
use mathlib.Core.Bool.{Bool, not, ◌&&◌}
use mathlib.Core.List.{List}
use native.Mathlib.Nat.{not-suc-le-zero, le_refl}
use native.Mathlib.Omega.{arith}
use lib.ListN.{length}
use Rattle.job.specs.Job.{Structure, over, subformula}
use Rattle.job.specs.Rule.{rule_of, AsksSmaller, InRange, quantifier}
use Rattle.job.specs.Written.{Operands}
use Rattle.job.specs.declared.subformula.Subformula.{Subformula}
use Rattle.job.specs.declared.rule.Condition.{Condition}
use Rattle.job.specs.declared.rule.Condition.TheVariants.{Always, Holds, Fails}
use Rattle.job.specs.declared.rule.Rule.{Rule}
use Rattle.job.specs.declared.rule.Rule.TheVariants.{Atom, Not, And, Next, Sets}
use Rattle.ctl.specs.Labelling.{reached, valued, meets, labelled, labelling, sat}

-- Operands have smaller numbers: the field `operands` of a job.
abbrev pub Smaller : List Subformula → Type 0
Smaller f = (k : ℕ) → k < length f → Operands k (subformula f k)

-- A condition, and a label, needs the labels of its operands alone.
meets_same :
    (p q : ℕ → ℕ → Bool) (k : ℕ) → ((a : ℕ) → a < k → p a ≡ q a) → (c : Condition) → AsksSmaller k c → meets p c ≡ meets q c
meets_same p q k same Always o = refl
meets_same p q k same (Holds a) o = same a o
meets_same p q k same (Fails a) o = ap (λ x s. not (x s)) (same a o)

pub label_same :
    (M : Structure) (p q : ℕ → ℕ → Bool) (k : ℕ)
    → ((a : ℕ) → a < k → p a ≡ q a)
    → (r : Rule)
    → InRange k r
    → labelled M p r ≡ labelled M q r
unfolding labelled InRange
label_same M p q k same (Atom j) o = refl
label_same M p q k same (Not a) o = ap (λ x s. not (x s)) (same a o)
label_same M p q k same (And a b) o = ap₂ (λ x y s. x s && y s) (same a o.0) (same b o.1)
label_same M p q k same (Next all a) o = ap (λ x s. over M (quantifier all) s x) (same a o)
label_same M p q k same (Sets g) o =
    ap₂ (λ x y s. valued g.value (reached M (quantifier g.all) x y s)) (meets_same p q k same g.start o.0) (meets_same p q k same g.grow o.1)

module _ (M : Structure) (f : List Subformula) (smaller : Smaller f) where
  -- Any two fuels above k label k alike, by induction on both: the operands' fuels are above the operands.
  labelling_same : (n m k : ℕ) → k < n → k < m → k < length f → labelling M f n k ≡ labelling M f m k
  unfolding labelling
  labelling_same zero m k h g l = absurd (not-suc-le-zero h)
  labelling_same (suc n) zero k h g l = absurd (not-suc-le-zero g)
  labelling_same (suc n) (suc m) k h g l =
      label_same M (labelling M f n) (labelling M f m) k
      (λ a s. labelling_same n m a (omega arith) (omega arith) (omega arith))
      (rule_of (subformula f k)) (smaller k l)

  -- The fuel that `sat` has is one of them.
  pub sat_label : (k : ℕ) → k < length f → (s : ℕ) → sat M f k s ≡ labelled M (sat M f) (rule_of (subformula f k)) s
  unfolding sat labelling
  sat_label k l s =
      ap (λ x. x s)
      (label_same M (labelling M f k) (sat M f) k
      (λ a h. labelling_same k (suc a) a h (le_refl (suc a)) (omega arith))
      (rule_of (subformula f k)) (smaller k l))
