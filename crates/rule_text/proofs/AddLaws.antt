-- A line written behind others: it is equal to an earlier one, whose number it takes, or it is the new last one. Assumes nothing.
use Prim.Native.Nat.{ℕ, zero, suc, ◌<◌, ◌≤◌}
use mathlib.Core.Path.{◌≡◌, refl, sym, ◌∙◌, ap, ap₂}
use mathlib.Core.Bool.{true, cond, true≢false}
use mathlib.Core.List.{List, [], ◌∷◌, ◌++◌}
use mathlib.Core.Logic.{◌⊎◌, inl, inr, ⊎_elim}
use native.Mathlib.Nat.{le_refl, not-suc-le-zero, le_of_suc-le-suc}
use native.Mathlib.Omega.{arith}
use lib.ListN.{length, length-append, get_or}
use lib.Dec.{ltb, eqb}
use borrow.Author.Tests.{ltb-true, ltb-false, eqb-true, eq-eqb}
use Rattle.law.proofs.Bool.{split, and_left, and_right, cond_true, cond_false}
use Rattle.job.specs.Job.{subformula}
use Rattle.job.specs.Formula.{fields}
use Rattle.job.specs.declared.subformula.Subformula.{Subformula}
use Rattle.job.specs.declared.subformula.Subformula.TheVariants as kind
use Rattle.rule_text.specs.Lines.{Basic, atom, prefix, both, until, prefix_line, until_line, equal, place, add, placed}

-- Equal numbers are the same line.
equal_is : (xs ys : List ℕ) → equal xs ys ≡ true → xs ≡ ys
unfolding equal
equal_is [] [] e = refl
equal_is [] (y ∷ ys) e = absurd (true≢false (sym e))
equal_is (x ∷ xs) [] e = absurd (true≢false (sym e))
equal_is (x ∷ xs) (y ∷ ys) e =
    ap₂ {C = List ℕ} ◌∷◌ (eqb-true x y (and_left (eqb x y) (equal xs ys) e)) (equal_is xs ys (and_right (eqb x y) (equal xs ys) e))

pub equal_self : (xs : List ℕ) → equal xs xs ≡ true
unfolding equal
equal_self [] = refl
equal_self (x ∷ xs) = rw (eq-eqb x x refl) (equal_self xs)

-- the line that has these numbers
line_with : ℕ → ℕ → ℕ → Subformula
line_with k a b =
    cond (eqb k 1) (kind.Atom a)
    (cond (eqb k 2) (kind.Not a)
    (cond (eqb k 3) (kind.And a b)
    (cond (eqb k 4) (kind.Ax a)
    (cond (eqb k 5) (kind.Ex a)
    (cond (eqb k 6) (kind.Au a b)
    (cond (eqb k 7) (kind.Eu a b)
    (cond (eqb k 8) (kind.Eg a) (kind.Ag a))))))))

read_line : List ℕ → Subformula
read_line l = line_with (get_or l 0 0) (get_or l 1 0) (get_or l 2 0)

read_fields : (f : Subformula) → read_line (fields f) ≡ f
unfolding read_line line_with fields
read_fields (kind.Atom a) = refl
read_fields (kind.Not a) = refl
read_fields (kind.And a b) = refl
read_fields (kind.Ax a) = refl
read_fields (kind.Ex a) = refl
read_fields (kind.Au a b) = refl
read_fields (kind.Eu a b) = refl
read_fields (kind.Eg a) = refl
read_fields (kind.Ag a) = refl

pub same_line : (f g : Subformula) → equal (fields f) (fields g) ≡ true → g ≡ f
same_line f g e = sym (read_fields g) ∙ sym (ap read_line (equal_is (fields f) (fields g) e)) ∙ read_fields f

pub place_within : (f : Subformula) (ls : List Subformula) → place f ls ≤ length ls
unfolding place
place_within f [] = omega arith
place_within f (g ∷ ls) =
    let h = place_within f ls in
    let same = equal (fields f) (fields g) in
    split same
    (λ t. rw (cond_true same 0 (suc (place f ls)) t) (omega arith))
    (λ n. rw (cond_false same 0 (suc (place f ls)) n) (omega arith))

-- The line is the one at its place, and no earlier one.
pub place_found : (f : Subformula) (ls : List Subformula) → place f ls < length ls → subformula ls (place f ls) ≡ f
unfolding place subformula
place_found f [] h = absurd (not-suc-le-zero h)
place_found f (g ∷ ls) h =
    let same = equal (fields f) (fields g) in
    split same
    (λ t. rw (cond_true same 0 (suc (place f ls)) t) (same_line f g t))
    (λ n. let e = cond_false same 0 (suc (place f ls)) n in rw e (place_found f ls (le_of_suc-le-suc (rw e at h))))

pub place_missing : (f : Subformula) (ls : List Subformula) (k : ℕ) → k < place f ls → subformula ls k ≡ f → ⊥
unfolding place subformula
place_missing f [] k h e = absurd (not-suc-le-zero h)
place_missing f (g ∷ ls) zero h e =
    let same = equal (fields f) (fields g) in
    let t : same ≡ true = rw e (equal_self (fields f)) in
    not-suc-le-zero (rw (cond_true same 0 (suc (place f ls)) t) at h)
place_missing f (g ∷ ls) (suc k) h e =
    let same = equal (fields f) (fields g) in
    split same
    (λ t. not-suc-le-zero (rw (cond_true same 0 (suc (place f ls)) t) at h))
    (λ n. place_missing f ls k (le_of_suc-le-suc (rw (cond_false same 0 (suc (place f ls)) n) at h)) e)

module _ (f : Subformula) (ls : List Subformula) where
  -- It is among the lines, which stay, or it is not, and stands behind them.
  pub add_cases :
      ((place f ls < length ls) × ((add f ls).lines ≡ ls))
      ⊎ ((place f ls ≡ length ls) × ((add f ls).lines ≡ ls ++ (f ∷ [])))
  unfolding add
  add_cases =
      let test = ltb (place f ls) (length ls) in
      split test
      (λ t. inl (ltb-true (place f ls) (length ls) t, cond_true test ls (ls ++ (f ∷ [])) t))
      (λ n. inr (omega (arith, place_within f ls, ltb-false (place f ls) (length ls) n), cond_false test ls (ls ++ (f ∷ [])) n))

  pub add_grows : length ls ≤ length (add f ls).lines
  add_grows =
      ⊎_elim
      (λ (h, e). rw e (le_refl (length ls)))
      (λ (h, e). rw (e, length-append ls (f ∷ [])) (omega arith))
      add_cases

pub placed_grows : (c : Basic) (ls : List Subformula) → length ls ≤ length (placed c ls).lines
unfolding placed
placed_grows (atom j) ls = add_grows (kind.Atom j) ls
placed_grows (prefix p f) ls =
    let v = placed f ls in
    omega (arith, placed_grows f ls, add_grows (prefix_line p v.number) v.lines)
placed_grows (both f g) ls =
    let v = placed f ls in
    let w = placed g v.lines in
    omega (arith, placed_grows f ls, placed_grows g v.lines, add_grows (kind.And v.number w.number) w.lines)
placed_grows (until q f g) ls =
    let v = placed f ls in
    let w = placed g v.lines in
    omega (arith, placed_grows f ls, placed_grows g v.lines, add_grows (until_line q v.number w.number) w.lines)
