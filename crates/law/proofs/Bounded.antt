-- Laws of `first`, `all`, `any`: which number a search finds, and what holds of the numbers before it. Assumes nothing.
use Prim.Native.Nat.{ℕ, zero, suc, ◌<◌, ◌≤◌}
use mathlib.Core.Path.{◌≡◌, refl, sym, ◌∙◌}
use mathlib.Core.Bool.{Bool, true, false, not, ◌||◌}
use mathlib.Core.Logic.{⊎_elim}
use native.Mathlib.Nat.{le_refl, not-suc-le-zero, eq-or-lt_of_le, le_of_suc-le-suc}
use native.Mathlib.Omega.{arith}
use borrow.Author.Tests.{ltb-true, ltb-false, lt-ltb, le-ltb, eqb-true, eqb-false, eq-eqb, ne_eqb}
use lib.Dec.{ltb, eqb}
use Rattle.law.specs.Bounded.{first, all, any}
use Rattle.law.proofs.Bool.{split, clash, same_test, or_left, or_right, or_cases, not_is_true, not_is_false, not_not}

-- by cases on the order of two numbers, and on their equality
pub by_order {ℓ} : {A : Type ℓ} (a b : ℕ) → (a < b → A) → (b ≤ a → A) → A
by_order a b less more = split (ltb a b) (λ e. less (ltb-true a b e)) (λ e. more (ltb-false a b e))

pub by_equal {ℓ} : {A : Type ℓ} (a b : ℕ) → (a ≡ b → A) → ((a ≡ b → ⊥) → A) → A
by_equal a b same other = split (eqb a b) (λ e. same (eqb-true a b e)) (λ e. other (eqb-false a b e))

-- below suc n is below n or n itself
pub below_suc {ℓ} : {A : Type ℓ} (i n : ℕ) → i < suc n → (i < n → A) → (i ≡ n → A) → A
below_suc i n h less equal = ⊎_elim equal less (eq-or-lt_of_le (le_of_suc-le-suc h))

module _ (p : ℕ → Bool) where
  -- one number more: a search that had found goes on to find it, one that had not looks at n
  pub first_found : (n : ℕ) → first p n < n → first p (suc n) ≡ first p n
  unfolding first
  first_found n h = simp (lt-ltb (first p n) n h)

  pub first_next : (n : ℕ) → n ≤ first p n → p n ≡ true → first p (suc n) ≡ n
  unfolding first
  first_next n h e = simp (le-ltb (first p n) n h, e)

  pub first_passed : (n : ℕ) → n ≤ first p n → p n ≡ false → first p (suc n) ≡ suc n
  unfolding first
  first_passed n h e = simp (le-ltb (first p n) n h, e)

  pub first_le : (n : ℕ) → first p n ≤ n
  unfolding first
  first_le zero = le_refl 0
  first_le (suc n) =
      by_order (first p n) n
      (λ h. simp (first_found n h) (omega arith))
      (λ h.
      split (p n)
      (λ t. simp (first_next n h t) (omega arith))
      (λ f. simp (first_passed n h f) (omega arith)))

  -- every number before the one that is found fails
  pub first_before : (n j : ℕ) → j < first p n → p j ≡ false
  unfolding first
  first_before zero j h = absurd (not-suc-le-zero h)
  first_before (suc n) j h =
      by_order (first p n) n
      (λ l. first_before n j (rw (first_found n l) at h))
      (λ here.
      let less : j < n → p j ≡ false = λ l. first_before n j (omega arith) in
      split (p n)
      (λ t. less (rw (first_next n here t) at h))
      (λ f. below_suc j n (rw (first_passed n here f) at h) less (λ q. rw q f)))

  pub first_passes : (n : ℕ) → first p n < n → p (first p n) ≡ true
  unfolding first
  first_passes zero h = absurd (not-suc-le-zero h)
  first_passes (suc n) h =
      by_order (first p n) n
      (λ l. rw (first_found n l) (first_passes n l))
      (λ here.
      split (p n)
      (λ t. rw (first_next n here t) t)
      (λ f. let stop : ⊥ = omega (arith, first_passed n here f) in absurd stop))

  pub first_none : (n : ℕ) → ((i : ℕ) → i < n → p i ≡ false) → first p n ≡ n
  first_none n h =
      ⊎_elim (λ e. e) (λ l. clash (p (first p n)) (first_passes n l) (h (first p n) l)) (eq-or-lt_of_le (first_le n))

  pub first_is : (n i : ℕ) → i < n → ((j : ℕ) → j < i → p j ≡ false) → p i ≡ true → first p n ≡ i
  first_is n i l before here =
      by_order (first p n) i
      (λ less. clash (p (first p n)) (first_passes n (omega arith)) (before (first p n) less))
      (λ more.
      by_order i (first p n)
      (λ less. clash (p i) here (first_before n i less))
      (λ same. omega arith))

  pub any_intro : (n i : ℕ) → i < n → p i ≡ true → any p n ≡ true
  unfolding any
  any_intro n i l e =
      lt-ltb (first p n) n
      (by_order (first p n) n (λ h. h) (λ h. clash (p i) e (first_before n i (omega arith))))

  -- where p passes somewhere, the search finds such a number
  pub any_found : (n : ℕ) → any p n ≡ true → (first p n < n) × (p (first p n) ≡ true)
  unfolding any
  any_found n e = let l = ltb-true (first p n) n e in (l, first_passes n l)

  pub any_none : (n : ℕ) → ((i : ℕ) → i < n → p i ≡ false) → any p n ≡ false
  unfolding any
  any_none n h = le-ltb (first p n) n (omega (arith, first_none n h))

  pub any_no : (n : ℕ) → any p n ≡ false → (i : ℕ) → i < n → p i ≡ false
  unfolding any
  any_no n e i l = first_before n i (omega (arith, ltb-false (first p n) n e))

  -- one number more
  pub any_suc : (n : ℕ) → any p (suc n) ≡ (any p n || p n)
  any_suc n =
      same_test (any p (suc n)) (any p n || p n)
      (λ e.
      let (l, t) = any_found (suc n) e in
      below_suc (first p (suc n)) n l
      (λ g. or_left (any p n) (p n) (any_intro n (first p (suc n)) g t))
      (λ q. or_right (any p n) (p n) (rw q at t)))
      (λ e.
      ⊎_elim
      (λ a. let (l, t) = any_found n a in any_intro (suc n) (first p n) (omega arith) t)
      (λ h. any_intro (suc n) n (omega arith) h)
      (or_cases (any p n) (p n) e))

pub any_same : (p q : ℕ → Bool) (n : ℕ) → ((i : ℕ) → i < n → p i ≡ q i) → any p n ≡ any q n
any_same p q n same =
    same_test (any p n) (any q n)
    (λ t. let (l, h) = any_found p n t in any_intro q n _ l (sym (same _ l) ∙ h))
    (λ t. let (l, h) = any_found q n t in any_intro p n _ l (same _ l ∙ h))

pub first_same : (p q : ℕ → Bool) (n : ℕ) → ((i : ℕ) → i < n → p i ≡ q i) → first p n ≡ first q n
unfolding first
first_same p q zero same = refl
first_same p q (suc n) same = rw (first_same p q n (λ i l. same i (omega arith)), same n (omega arith))

module _ (p : ℕ → Bool) where
  pub all_intro : (n : ℕ) → ((i : ℕ) → i < n → p i ≡ true) → all p n ≡ true
  unfolding all
  all_intro n h =
      eq-eqb (first (λ i. not (p i)) n) n (first_none (λ i. not (p i)) n (λ i l. not_is_false (p i) (h i l)))

  pub all_elim : (n : ℕ) → all p n ≡ true → (i : ℕ) → i < n → p i ≡ true
  unfolding all
  all_elim n e i l =
      sym (not_not (p i))
      ∙ not_is_true (not (p i)) (first_before (λ j. not (p j)) n i (omega (arith, eqb-true (first (λ j. not (p j)) n) n e)))

  pub all_fails : (n i : ℕ) → i < n → p i ≡ false → all p n ≡ false
  unfolding all
  all_fails n i l f =
      ne_eqb (first (λ j. not (p j)) n) n
      (λ found. clash (not (p i)) (not_is_true (p i) f) (first_before (λ j. not (p j)) n i (omega arith)))

  -- where p fails at i and at none before, i is the first that fails
  pub first_fails : (n i : ℕ) → i < n → ((j : ℕ) → j < i → p j ≡ true) → p i ≡ false → first (λ j. not (p j)) n ≡ i
  first_fails n i l before f =
      first_is (λ j. not (p j)) n i l (λ j h. not_is_false (p j) (before j h)) (not_is_true (p i) f)

  -- where p passes at all, no number below n is found
  pub first_none_fails : (n : ℕ) → ((i : ℕ) → i < n → p i ≡ true) → first (λ j. not (p j)) n ≡ n
  first_none_fails n h = first_none (λ j. not (p j)) n (λ i l. not_is_false (p i) (h i l))
