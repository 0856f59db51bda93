-- What a kind means, at the two places that need it kind by kind: its line with renamed operands means the same, and the label that its
-- rule gives decides it. So truth by walks is what the labelling computes: at each state of a total structure a subformula holds exactly
-- where it is labelled true, by the fuel that both have. Assumes nothing.
use Prim.Native.Nat.{ℕ, zero, suc, ◌<◌}
use mathlib.Core.Path.{◌≡◌, sym}
use mathlib.Core.Bool.{Bool, true, true≢false}
use mathlib.Core.List.{List}
use mathlib.Core.Logic.{◌↔◌}
use Rattle.law.proofs.Bool.{and_intro, and_left, and_right}
use Rattle.job.specs.Job.{Structure, for_all, exists, dual, subformula}
use Rattle.job.specs.Formula.{renamed}
use Rattle.job.specs.Rule.{rule_of, InRange}
use Rattle.job.specs.Written.{Operands}
use Rattle.job.specs.declared.subformula.Subformula.{Subformula}
use Rattle.job.specs.declared.subformula.Subformula.TheVariants.{Atom, Not, And, Ax, Ex, Au, Eu, Eg, Ag}
use Rattle.job.proofs.Successors.{over_all, over_some}
use Rattle.ctl.specs.Truth.{Predicate, HasEdge, meaning, truth_up_to, Holds}
use Rattle.ctl.specs.Labelling.{labelled, labelling, sat}
use Rattle.ctl.proofs.Total.{State, Total}
use Rattle.ctl.proofs.Walks.{until_same, throughout_same}
use Rattle.ctl.proofs.Untils.{Decides, not_decides, walks_reached, throughout_outside}

-- Predicates P of subformulas below k and Q of their new names below j agree along ρ.
abbrev pub Along : (ℕ → ℕ) → ℕ → ℕ → (ℕ → Predicate) → (ℕ → Predicate) → Type 0
Along ρ k j P Q = (a : ℕ) → a < k → ρ a < j → (s : ℕ) → P a s ↔ Q (ρ a) s

-- A line whose operands are renamed says the same, where what the operands say is the same: kind by kind.
module _ (M : Structure) (ρ : ℕ → ℕ) (k j : ℕ) (P Q : ℕ → Predicate) (same : Along ρ k j P Q) where
  pub meaning_renamed :
      (g : Subformula) → Operands k g → Operands j (renamed ρ g) → (s : ℕ) → meaning M P g s ↔ meaning M Q (renamed ρ g) s
  unfolding meaning renamed InRange
  meaning_renamed (Atom i) o p s = (λ h. h, λ h. h)
  meaning_renamed (Not a) o p s = (λ h x. h ((same a o p s).1 x), λ h x. h ((same a o p s).0 x))
  meaning_renamed (And a b) (o, q) (p, r) s = (
    (λ (x, y). ((same a o p s).0 x, (same b q r s).0 y)),
    (λ (x, y). ((same a o p s).1 x, (same b q r s).1 y)),
  )
  meaning_renamed (Ax a) o p s = (λ h t e. (same a o p t).0 (h t e), λ h t e. (same a o p t).1 (h t e))
  meaning_renamed (Ex a) o p s = (λ (t, e, x). (t, e, (same a o p t).0 x), λ (t, e, x). (t, e, (same a o p t).1 x))
  meaning_renamed (Au a b) (q, o, v) (r, p, v') s = until_same M _ s _ _ _ _ (λ w i. same a o p (w.at i)) (λ w i. same b q r (w.at i))
  meaning_renamed (Eu a b) (q, o, v) (r, p, v') s = until_same M _ s _ _ _ _ (λ w i. same a o p (w.at i)) (λ w i. same b q r (w.at i))
  meaning_renamed (Eg a) o p s = throughout_same M _ s _ _ (λ w i. same a o.0 p.0 (w.at i))
  meaning_renamed (Ag a) o p s = throughout_same M _ s _ _ (λ w i. same a o.0 p.0 (w.at i))

module _ (M : Structure) (total : Total M) where
  -- Where Bools decide what the operands say, the label decides what the subformula says.
  module _ (holds : ℕ → Predicate) (sat : ℕ → ℕ → Bool) (decides : (a : ℕ) → Decides M (holds a) (sat a)) where
    meaning_label : (g : Subformula) → Decides M (meaning M holds g) (labelled M sat (rule_of g))
    unfolding meaning labelled HasEdge dual
    meaning_label (Atom j) s l = (λ h. h, λ h. h)
    meaning_label (Not a) s l = not_decides (holds a s) (sat a s) (decides a s l)
    meaning_label (And a b) s l = (
      (λ (x, y). and_intro (sat a s) (sat b s) ((decides a s l).0 x) ((decides b s l).0 y)),
      (λ e. ((decides a s l).1 (and_left (sat a s) (sat b s) e), (decides b s l).1 (and_right (sat a s) (sat b s) e))),
    )
    meaning_label (Ax a) s l = (
      (λ h. (over_all M s (sat a)).1 (λ t e. (decides a t (total.inside s t e).1).0 (h t e))),
      (λ h t e. (decides a t (total.inside s t e).1).1 ((over_all M s (sat a)).0 h t e)),
    )
    meaning_label (Ex a) s l = (
      (λ (t, e, x). (over_some M s (sat a)).1 (t, e, (decides a t (total.inside s t e).1).0 x)),
      (λ h. let (t, e, x) = (over_some M s (sat a)).0 h in (t, e, (decides a t (total.inside s t e).1).1 x)),
    )
    meaning_label (Au a b) s l = walks_reached M total (sat b) (sat a) (holds a) (holds b) (decides a) (decides b) for_all s l
    meaning_label (Eu a b) s l = walks_reached M total (sat b) (sat a) (holds a) (holds b) (decides a) (decides b) exists s l
    meaning_label (Eg a) s l = throughout_outside M total (sat a) (holds a) (decides a) for_all s l
    meaning_label (Ag a) s l = throughout_outside M total (sat a) (holds a) (decides a) exists s l

  -- Both have the same fuel, so this goes through every subformula.
  within_labelling : (f : List Subformula) (n k : ℕ) → Decides M (truth_up_to M f n k) (labelling M f n k)
  unfolding truth_up_to labelling
  within_labelling f zero k s l = (λ h. absurd h, λ e. absurd (true≢false (sym e)))
  within_labelling f (suc n) k s l = meaning_label (truth_up_to M f n) (labelling M f n) (within_labelling f n) (subformula f k) s l

  pub holds_sat : (f : List Subformula) (k s : ℕ) → State M s → Holds M f k s ↔ (sat M f k s ≡ true)
  unfolding Holds sat
  holds_sat f k = within_labelling f (suc k) k
