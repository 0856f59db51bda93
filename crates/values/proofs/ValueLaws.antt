-- The value of one cell, by the tests of the code. Assumes nothing.
use Prim.Native.Nat.{ℕ, suc, ◌+◌, ◌-◌, ◌/◌, ◌%◌, ◌^◌, ◌<◌}
use mathlib.Core.Path.{◌≡◌, refl, sym, ◌∙◌, ap, ap₂}
use mathlib.Core.Bool.{Bool, true, false, cond, not}
use mathlib.Core.Logic.{⊎_elim}
use native.Mathlib.Nat.{mod-lt}
use native.Mathlib.Numerals.{add-one}
use native.Mathlib.Omega.{arith}
use borrow.Author.Tests.{eq-eqb, ne_eqb, not-true, not-false}
use mathlib.Core.List.{List}
use lib.ListN.{get_or}
use Rattle.std.specs.List.{list_all, list_any, range_with_len}
use Rattle.std.proofs.lemmas.List.Elements.{All-from_get_or}
use Rattle.std.proofs.lemmas.List.Folds.{list_all_at}
use Rattle.std.proofs.lemmas.List.FromFn.{length-range_with_len, get_or-range_with_len}
use Rattle.std.proofs.lemmas.List.Sums.{list_all-from_AllPass}
use Rattle.law.specs.Bounded.{all, any}
use Rattle.law.proofs.Bool.{split, clash, same_test}
use Rattle.law.proofs.Ranges.{any_places}
use lib.Dec.{eqb}
use Rattle.law.proofs.Bounded.{by_equal, all_intro, all_elim, any_same}
use Rattle.law.proofs.Lists.{tab_at}
use Rattle.job.specs.Job.{Job, dual, over, size, atom}
use Rattle.job.specs.Rule.{quantifier, InRange, IsSets}
use Rattle.job.specs.Written.{IsJob, label}
use Rattle.job.specs.declared.rule.Rule.{Rule}
use Rattle.job.specs.declared.rule.Rule.TheVariants.{Atom, Not, And, Next, Sets}
use Rattle.cells.specs.Fragment.{inner}
use Rattle.cells.specs.Table.{Table, cell}
use Rattle.cells.specs.Step.{opposite, both, next, column}
use Rattle.cells.proofs.Columns.{next_same}
use Rattle.image.specs.Image.{place_of, edge_to, first_edge}
use Rattle.image.specs.declared.place.Place.{Place}
use Rattle.image.specs.declared.place.Place.TheVariants.{Inner}
use Rattle.image.proofs.Places.{same_place, place_inner}
use Rattle.image.proofs.Runs.{all_run, some_run}
use Rattle.table.specs.Column.{cells_of}
use Rattle.values.specs.Values.{value_at}

-- A test of the numbers from a on, n of them, as the library's `all` and `any` over a range have it.
module _ (p : ℕ → Bool) (a n : ℕ) where
  abbrev numbers : List ℕ
  numbers = range_with_len a n

  abbrev q : ℕ → Bool
  q i = p (a + i)

  at_place : (i : ℕ) → i < n → p (get_or numbers i 0) ≡ q i
  at_place i l = ap p (get_or-range_with_len a n i 0 l)

  all_from : list_all p numbers ≡ all q n
  all_from =
      same_test (list_all p numbers) (all q n)
      (λ yes.
      all_intro q n
      (λ i l.
      split (q i) (λ e. e)
      (λ no. clash (list_all p numbers) yes (list_all_at p numbers i 0 (omega (arith, length-range_with_len a n)) (at_place i l ∙ no)))))
      (λ yes.
      list_all-from_AllPass p numbers
      (All-from_get_or (λ x. p x ≡ true) numbers 0
      (λ i l. let g : i < n = omega (arith, length-range_with_len a n) in at_place i g ∙ all_elim q n yes i g)))

  any_from : list_any p numbers ≡ any q n
  any_from =
      any_places p numbers 0
      ∙ ap (any (λ i. p (get_or numbers i 0))) (length-range_with_len a n)
      ∙ any_same (λ i. p (get_or numbers i 0)) q n at_place

-- All or some of the edges out of s lead to a state that passes.
module _ (J : Job) (job : IsJob J) (s : ℕ) (X : ℕ → Bool) (from end : ℕ) (first : from ≡ first_edge J.structure s)
    (last : end ≡ first_edge J.structure (s + 1)) where
  abbrev passes : ℕ → Bool
  passes e = X (edge_to J.structure e)

  many : end - from ≡ first_edge J.structure (suc s) - first_edge J.structure s
  many = let close = ap (first_edge J.structure) (add-one s) in omega arith

  pub met_all : (for_all : Bool) → for_all ≡ true → list_all passes (range_with_len from (end - from)) ≡ over J.structure (quantifier for_all) s X
  met_all for_all e = rw (e, many, first) (all_from passes _ _ ∙ sym (all_run J job s X))

  pub met_some : (for_all : Bool) → for_all ≡ false → list_any passes (range_with_len from (end - from)) ≡ over J.structure (quantifier for_all) s X
  met_some for_all e = rw (e, many, first) (any_from passes _ _ ∙ sym (some_run J job s X))

quantifier_not : (all : Bool) → quantifier (not all) ≡ dual (quantifier all)
unfolding dual
quantifier_not true = refl
quantifier_not false = refl

-- AX and EX: the place of a state, and whether its successors' cells of a meet 1, and 0
module _
    (J : Job) (t : Table) (n s a : ℕ) (all : Bool) (place : Place) (is : place ≡ place_of J n s) (border : Bool)
    (told : border ≡ not (same_place place Inner))
  where
    abbrev value : ℕ
    value = next J n (quantifier all) (cells_of J t n a) s

    inner_told : border ≡ not (inner J n s)
    inner_told = told ∙ ap not (place_inner J n s place is)

    pub next_border : border ≡ true → 2 ≡ value
    unfolding next
    next_border b = simp (not-true (inner J n s) (sym inner_told ∙ b))

    module _ (here : border ≡ false) (yes : Bool) (met : yes ≡ over J.structure (quantifier all) s (λ u. eqb (cell J t n u a) 1)) where
      inner_here : inner J n s ≡ true
      inner_here = not-false (inner J n s) (sym inner_told ∙ here)

      pub next_yes : yes ≡ true → 1 ≡ value
      unfolding next
      next_yes e = simp (inner_here, sym met ∙ e)

      module _ (no : Bool) (other : no ≡ over J.structure (quantifier (not all)) s (λ u. eqb (cell J t n u a) 0)) where
        other_is : over J.structure (dual (quantifier all)) s (λ u. eqb (cell J t n u a) 0) ≡ no
        other_is = ap (λ q. over J.structure q s (λ u. eqb (cell J t n u a) 0)) (sym (quantifier_not all)) ∙ sym other

        pub next_no : yes ≡ false → no ≡ true → 0 ≡ value
        unfolding next
        next_no e f = simp (inner_here, sym met ∙ e, other_is ∙ f)

        pub next_open : yes ≡ false → no ≡ false → 2 ≡ value
        unfolding next
        next_open e f = simp (inner_here, sym met ∙ e, other_is ∙ f)

-- an atom's bit is 1 or 0
bit_is : (x : ℕ) → x < 2 → x ≡ cond (eqb x 1) 1 0
bit_is x l = by_equal x 1 (λ e. simp (eq-eqb x 1 e) e) (λ n. simp (ne_eqb x 1 n) (omega arith))

pub atom_value : (J : Job) (j s bits : ℕ) → bits ≡ label J s → bits / 2 ^ j % 2 ≡ cond (atom J.structure j s) 1 0
unfolding atom label
atom_value J j s bits e = ap (λ x. x / 2 ^ j % 2) e ∙ bit_is _ (mod-lt _ (omega arith))

-- The value of a state reads the cells of smaller subformulas only.
pub value_same :
    (J : Job) (job : IsJob J) (n k : ℕ) (at at' : ℕ → ℕ → ℕ) → ((j : ℕ) → j < k → (u : ℕ) → u < size J → at j u ≡ at' j u)
    → (r : Rule) → InRange k r → (s : ℕ) → s < size J → value_at J n at r s ≡ value_at J n at' r s
unfolding value_at InRange
value_same J job n k at at' same (Atom j) o s l = refl
value_same J job n k at at' same (Not a) o s l = ap opposite (same a o s l)
value_same J job n k at at' same (And a b) o s l = ap₂ both (same a o.0 s l) (same b o.1 s l)
value_same J job n k at at' same (Next all a) o s l =
    next_same J n (quantifier all) (at a) (at' a)
    (λ u r. same a o u (⊎_elim (λ h. h) (λ (e, h, q). rw (← q) (job.ends e h).1) r)) s
value_same J job n k at at' same (Sets g) o s l = refl

-- It is what the column has there, unless that goes by sets.
pub column_value :
    (J : Job) (n k : ℕ) (at : ℕ → ℕ → ℕ) (r : Rule) → (IsSets r → ⊥) → (s : ℕ) → s < size J
    → get_or (column J n at k r) s 2 ≡ value_at J n at r s
unfolding column value_at
column_value J n k at (Atom j) other s l = tab_at _ (size J) s 2 l
column_value J n k at (Not a) other s l = tab_at _ (size J) s 2 l
column_value J n k at (And a b) other s l = tab_at _ (size J) s 2 l
column_value J n k at (Next all a) other s l = tab_at _ (size J) s 2 l
column_value J n k at (Sets g) other s l = absurd (other (record { growth = g; is = refl }))

-- a value by the rule's case
pub by_case :
    (J : Job) (n : ℕ) (at : ℕ → ℕ → ℕ) (s x : ℕ) (r q : Rule) → r ≡ q → x ≡ value_at J n at q s → x ≡ value_at J n at r s
by_case J n at s x r q e v = v ∙ ap (λ (f : Rule). value_at J n at f s) (sym e)
