-- Truth by walks does not depend on the numbers of subformulas: where one list of subformulas stands under other numbers in another
-- list, a subformula holds exactly where the one with its new number does, on every structure. So a subformula means what its kind means
-- of what its operands mean, whatever the fuel. Assumes nothing.
use Prim.Native.Nat.{ℕ, zero, suc, ◌-◌, ◌<◌}
use mathlib.Core.Path.{◌≡◌, refl, sym}
use mathlib.Core.List.{List, [], ◌∷◌}
use mathlib.Core.Logic.{◌↔◌}
use native.Mathlib.Nat.{le_refl, not-suc-le-zero}
use native.Mathlib.Omega.{arith}
use lib.ListN.{length}
use Rattle.job.specs.Job.{Structure, subformula}
use Rattle.job.specs.Formula.{renamed}
use Rattle.job.specs.Rule.{InRange}
use Rattle.job.specs.Written.{Operands}
use Rattle.job.specs.declared.subformula.Subformula.{Subformula}
use Rattle.job.specs.declared.subformula.Subformula.TheVariants.{Atom, And}
use Rattle.ctl.specs.Truth.{meaning, truth_up_to, Holds}
use Rattle.ctl.specs.Renaming.{Renames}
use Rattle.job.proofs.Formula.{renamed_same}
use Rattle.ctl.proofs.Labelling.{Smaller}
use Rattle.ctl.proofs.Truth.{meaning_renamed}

module _ (M : Structure) (ρ : ℕ → ℕ) (f g : List Subformula) (bound : ℕ) (renames : Renames ρ f bound g) where
  -- Any fuels above k and above ρ k: an operand of line k is below k, and its new number is an operand of line ρ k, so below ρ k.
  within_renamed :
      (n m k : ℕ) → k < n → ρ k < m → k < bound → (s : ℕ) → truth_up_to M f n k s ↔ truth_up_to M g m (ρ k) s
  unfolding truth_up_to
  within_renamed zero m k h h' l s = absurd (not-suc-le-zero h)
  within_renamed (suc n) zero k h h' l s = absurd (not-suc-le-zero h')
  within_renamed (suc n) (suc m) k h h' l s =
      rw (renames.same k l)
      (meaning_renamed M ρ k (ρ k) (truth_up_to M f n) (truth_up_to M g m)
      (λ a x y. within_renamed n m a (omega arith) (omega arith) (omega arith))
      (subformula f k) (renames.left k l) (rw (renames.same k l) at (renames.right k l)) s)

  pub holds_renamed : (k : ℕ) → k < bound → (s : ℕ) → Holds M f k s ↔ Holds M g (ρ k) s
  unfolding Holds
  holds_renamed k l = within_renamed (suc k) (suc (ρ k)) k (le_refl (suc k)) (le_refl (suc (ρ k))) l

-- A list under its own numbers: the fuel does not matter.
module _ (M : Structure) (f : List Subformula) (smaller : Smaller f) where
  same_numbers : Renames (λ k. k) f (length f) f
  same_numbers = record { same = λ k l. sym (renamed_same (subformula f k)); left = smaller; right = smaller }

  pub holds_meaning : (k : ℕ) → k < length f → (s : ℕ) → Holds M f k s ↔ meaning M (Holds M f) (subformula f k) s
  unfolding Holds truth_up_to
  holds_meaning k l s =
      let g = subformula f k in
      rw (renamed_same g)
      at
      (meaning_renamed M (λ a. a) k k (truth_up_to M f k) (Holds M f)
      (λ a x y. within_renamed M (λ a. a) f f (length f) same_numbers k (suc a) a x (le_refl (suc a)) (omega arith))
      g (smaller k l) (rw (renamed_same g) (smaller k l)) s)

-- Such lists: p0, p0 again, and both; and p0 once, and both.
abbrev pub twice : List Subformula
twice = Atom 0 ∷ Atom 0 ∷ And 0 1 ∷ []

abbrev pub once : List Subformula
once = Atom 0 ∷ And 0 0 ∷ []

abbrev pub earlier : ℕ → ℕ
earlier k = k - 1

pub once_renames : Renames earlier twice 3 once
unfolding subformula renamed InRange
once_renames = record { same = lines; left = left; right = right }
  where
    lines : (k : ℕ) → k < 3 → subformula once (earlier k) ≡ renamed earlier (subformula twice k)
    lines zero l = refl
    lines (suc zero) l = refl
    lines (suc (suc zero)) l = refl
    lines (suc (suc (suc k))) l = absurd (omega arith)

    left : (k : ℕ) → k < 3 → Operands k (subformula twice k)
    left zero l = omega arith
    left (suc zero) l = omega arith
    left (suc (suc zero)) l = (omega arith, omega arith)
    left (suc (suc (suc k))) l = absurd (omega arith)

    right : (k : ℕ) → k < 3 → Operands (earlier k) (subformula once (earlier k))
    right zero l = omega arith
    right (suc zero) l = omega arith
    right (suc (suc zero)) l = (omega arith, omega arith)
    right (suc (suc (suc k))) l = absurd (omega arith)

pub once_holds : (M : Structure) (s : ℕ) → Holds M twice 2 s ↔ Holds M once 1 s
once_holds M = holds_renamed M earlier twice once 3 once_renames 2 (omega arith)
