-- Marks as they are tested, read, compared and written, and their numbers. Assumes nothing.
use Prim.Native.Nat.{ℕ, zero, suc}
use mathlib.Core.Path.{◌≡◌, refl, sym, ◌∙◌, ap}
use mathlib.Core.Bool.{Bool, true, false, not, ◌&&◌}
use borrow.Author.Tests.{eqb-true, eqb-false, not-false}
use mathlib.Core.List.{List, ◌∷◌}
use denote.Enum.Bare.{sameb}
use lib.ListN.{get_or, set, replicate, get_or-map}
use lib.Dec.{eqb}
use Rattle.std.proofs.lemmas.List.{map-set}
use Rattle.spread.specs.Spread.{mark_number, numbers}
use Rattle.spread.specs.declared.mark.Mark.{Mark}
use Rattle.spread.specs.declared.mark.Mark.TheVariants.{Out, May, In}
use Rattle.spread.specs.contracts.mark.Mark.{the_type}

-- what a test of a number says
pub number_is : (n k : ℕ) {r : Bool} → r ≡ eqb n k → r ≡ true → n ≡ k
number_is n k told t = eqb-true n k (sym told ∙ t)

pub number_not : (n k : ℕ) {r : Bool} → r ≡ eqb n k → r ≡ false → n ≡ k → ⊥
number_not n k told f = eqb-false n k (sym told ∙ f)

-- whether two marks are the same, as `==` has it
abbrev pub same_mark : Mark → Mark → Bool
same_mark = sameb the_type

pub is_in : (m : Mark) → same_mark m In ≡ eqb (mark_number m) 2
is_in Out = refl
is_in May = refl
is_in In = refl

pub is_may : (m : Mark) → same_mark m May ≡ eqb (mark_number m) 1
is_may Out = refl
is_may May = refl
is_may In = refl

pub number_at : (marks : List Mark) (s : ℕ) → get_or (numbers marks) s 0 ≡ mark_number (get_or marks s Out)
number_at marks s = get_or-map mark_number marks s Out

-- by the test that a mark is one that may join, and that it is in the set
pub may_number : (m : Mark) {r : Bool} → r ≡ not (same_mark m May) → r ≡ false → mark_number m ≡ 1
may_number m told f = number_is (mark_number m) 1 (is_may m) (not-false (same_mark m May) (sym told ∙ f))

in_at : (marks : List Mark) (s : ℕ) → same_mark (get_or marks s Out) In ≡ eqb (get_or (numbers marks) s 0) 2
in_at marks s = is_in (get_or marks s Out) ∙ ap (λ x. eqb x 2) (sym (number_at marks s))

pub in_number : (marks : List Mark) (s : ℕ) {r : Bool} → r ≡ same_mark (get_or marks s Out) In → r ≡ true → get_or (numbers marks) s 0 ≡ 2
in_number marks s told t = number_is (get_or (numbers marks) s 0) 2 (told ∙ in_at marks s) t

pub no_number :
    (marks : List Mark) (s : ℕ) {r : Bool} → r ≡ same_mark (get_or marks s Out) In → r ≡ false → get_or (numbers marks) s 0 ≡ 2 → ⊥
no_number marks s told f = number_not (get_or (numbers marks) s 0) 2 (told ∙ in_at marks s) f

pub may_at :
    (marks : List Mark) (s : ℕ) (b : Bool) {r : Bool}
    → r ≡ (eqb (mark_number (get_or marks s Out)) 1 && b) → r ≡ (eqb (get_or (numbers marks) s 0) 1 && b)
may_at marks s b told = told ∙ ap (λ x. eqb x 1 && b) (sym (number_at marks s))

pub numbers_set : (marks : List Mark) (s : ℕ) (m : Mark) → numbers (set marks s m) ≡ set (numbers marks) s (mark_number m)
numbers_set marks s m = map-set mark_number marks s m

pub numbers_all : (n : ℕ) (m : Mark) → numbers (replicate n m) ≡ replicate n (mark_number m)
numbers_all zero m = refl
numbers_all (suc n) m = ap (λ (l : List ℕ). mark_number m ∷ l) (numbers_all n m)
