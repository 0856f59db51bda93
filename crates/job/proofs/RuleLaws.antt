-- Laws of the table from subformulas to rules: what a rule names is in range, and the value that closing fills. Assumes nothing.
use Prim.Native.Nat.{ℕ, ◌<◌, ◌≤◌}
use mathlib.Core.Path.{◌≡◌, refl, sym, ◌∙◌, ap}
use mathlib.Core.Bool.{Bool, true, false, true≢false}
use native.Mathlib.Omega.{arith}
use lib.ListN.{length, get_or}
use lib.Dec.{ltb}
use borrow.Author.Tests.{ltb-true, lt-ltb}
use Rattle.law.specs.Lists.{every}
use Rattle.law.proofs.Lists.{every_elim, every_append}
use Rattle.job.specs.Rule.{asks, operands, IsSets, AsksSmaller, InRange, closed_value}
use Rattle.job.specs.declared.rule.Condition.{Condition}
use Rattle.job.specs.declared.rule.Condition.TheVariants.{Always, Holds, Fails}
use Rattle.job.specs.declared.rule.Rule.{Rule}
use Rattle.job.specs.declared.rule.Rule.TheVariants.{Atom, Not, And, Next, Sets}

-- Every operand of a rule in range is a smaller subformula.
asks_smaller : (k : ℕ) (c : Condition) → AsksSmaller k c → every (λ a. ltb a k) (asks c) ≡ true
unfolding every
asks_smaller k Always o = refl
asks_smaller k (Holds a) o = simp (lt-ltb a k o)
asks_smaller k (Fails a) o = simp (lt-ltb a k o)

operands_smaller : (k : ℕ) (r : Rule) → InRange k r → every (λ a. ltb a k) (operands r) ≡ true
unfolding every InRange
operands_smaller k (Atom j) o = refl
operands_smaller k (Not a) o = simp (lt-ltb a k o)
operands_smaller k (And a b) o = simp (lt-ltb a k o.0, lt-ltb b k o.1)
operands_smaller k (Next all a) o = simp (lt-ltb a k o)
operands_smaller k (Sets g) o =
    every_append (λ a. ltb a k) (asks g.start) (asks g.grow) (asks_smaller k g.start o.0) (asks_smaller k g.grow o.1)

pub asked_smaller : (k : ℕ) (c : Condition) → AsksSmaller k c → (i : ℕ) → i < length (asks c) → get_or (asks c) i 0 < k
asked_smaller k c o i l = ltb-true (get_or (asks c) i 0) k (every_elim (λ a. ltb a k) (asks c) 0 (asks_smaller k c o) i l)

pub operand_smaller : (k : ℕ) (r : Rule) → InRange k r → (i : ℕ) → i < length (operands r) → get_or (operands r) i 0 < k
operand_smaller k r o i l =
    ltb-true (get_or (operands r) i 0) k (every_elim (λ a. ltb a k) (operands r) 0 (operands_smaller k r o) i l)

-- What is in range for a subformula is so for a later one.
pub asks_up : (k n : ℕ) (c : Condition) → k < n → AsksSmaller k c → AsksSmaller n c
asks_up k n Always l o = tt
asks_up k n (Holds a) l o = omega arith
asks_up k n (Fails a) l o = omega arith

pub range_up : (k n : ℕ) (r : Rule) → k < n → InRange k r → InRange n r
unfolding InRange
range_up k n (Atom j) l o = o
range_up k n (Not a) l o = omega arith
range_up k n (And a b) l o = (omega arith, omega arith)
range_up k n (Next all a) l o = omega arith
range_up k n (Sets g) l o = (asks_up k n g.start l o.0, asks_up k n g.grow l o.1, o.2)

-- It goes by sets, or it does not.
abbrev is_sets : Rule → Bool
is_sets (Atom j) = false
is_sets (Not a) = false
is_sets (And a b) = false
is_sets (Next all a) = false
is_sets (Sets g) = true

pub not_sets : (r : Rule) → is_sets r ≡ false → IsSets r → ⊥
not_sets r e i = true≢false (sym (ap is_sets i.is) ∙ e)

pub by_sets_lem {ℓ} : {A : Type ℓ} (r : Rule) → (IsSets r → A) → ((IsSets r → ⊥) → A) → A
by_sets_lem (Atom j) sets other = other (not_sets (Atom j) refl)
by_sets_lem (Not a) sets other = other (not_sets (Not a) refl)
by_sets_lem (And a b) sets other = other (not_sets (And a b) refl)
by_sets_lem (Next all a) sets other = other (not_sets (Next all a) refl)
by_sets_lem (Sets g) sets other = sets (record { growth = g; is = refl })

-- What sets name is in range.
pub sets_range : (k : ℕ) (r : Rule) (sets : IsSets r) → InRange k r → AsksSmaller k sets.growth.start × AsksSmaller k sets.growth.grow × (sets.growth.value ≤ 1)
unfolding InRange
sets_range k r sets o = rw sets.is at o

-- What closing fills is 0 or 1.
pub closed_bound : (r : Rule) → closed_value r ≤ 1
closed_bound (Atom j) = omega arith
closed_bound (Not a) = omega arith
closed_bound (And a b) = omega arith
closed_bound (Next all a) = omega arith
closed_bound (Sets g) = omega arith
