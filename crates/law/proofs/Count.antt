-- Laws of `count`: at most n, more for a larger set, and what counts say of a set inside another. A set is a test of the
-- numbers below n. Assumes nothing.
use Prim.Native.Nat.{ℕ, zero, suc, ◌+◌, ◌<◌, ◌≤◌}
use mathlib.Core.Path.{◌≡◌, refl, sym, ◌∙◌, ap}
use mathlib.Core.Bool.{Bool, true, false, cond, false≢true}
use native.Mathlib.Nat.{le_refl, not-suc-le-zero}
use native.Mathlib.Omega.{arith}
use Rattle.law.specs.Bounded.{count, Inside}
use Rattle.law.proofs.Bool.{split, clash}
use Rattle.law.proofs.Bounded.{below_suc}

-- what one number adds
digit_mono : (a b : Bool) → (a ≡ true → b ≡ true) → cond {A = ℕ} a 1 0 ≤ cond b 1 0
digit_mono true true h = le_refl 1
digit_mono true false h = absurd (false≢true (h refl))
digit_mono false b h = omega arith

pub count_le : (p : ℕ → Bool) (n : ℕ) → count p n ≤ n
unfolding count
count_le p zero = le_refl 0
count_le p (suc n) = omega (arith, digit_mono (p n) true (λ t. refl), count_le p n)

-- p inside q: q counts no less, and no more only where q is p
module _ (p q : ℕ → Bool) where
  pub count_mono : (n : ℕ) → Inside n p q → count p n ≤ count q n
  unfolding count
  count_mono zero inside = le_refl 0
  count_mono (suc n) inside =
      omega (arith, digit_mono (p n) (q n) (inside n (le_refl (suc n))), count_mono n (λ i l. inside i (omega arith)))

  pub count_back : (n : ℕ) → Inside n p q → count q n ≤ count p n → Inside n q p
  unfolding count
  count_back zero inside few i l e = absurd (not-suc-le-zero l)
  count_back (suc n) inside few i l e =
      let before : Inside n p q = λ j g. inside j (omega arith) in
      let few' : count q n ≤ count p n = omega (arith, digit_mono (p n) (q n) (inside n (le_refl (suc n)))) in
      below_suc i n l (λ less. count_back n before few' i less e)
      (λ same.
      rw same
      (split (p n) (λ t. t)
      (λ f. let e' = rw same at e in let stop : ⊥ = omega (arith, count_mono n before, simp (f, e') at few) in absurd stop)))

  pub count_same : (n : ℕ) → ((i : ℕ) → i < n → p i ≡ q i) → count p n ≡ count q n
  unfolding count
  count_same zero same = refl
  count_same (suc n) same = cc (same n (le_refl (suc n)), count_same n (λ i l. same i (omega arith)))

-- as many as there are numbers: each passes
pub count_full : (p : ℕ → Bool) (n : ℕ) → n ≤ count p n → (i : ℕ) → i < n → p i ≡ true
count_full p n most i l =
    count_back p (λ j. true) n (λ j g e. refl) (omega (arith, count_le (λ j. true) n)) i l refl

-- Two counts add up where they do at each number.
pub count_sum :
    (p q r : ℕ → Bool) (n : ℕ)
    → ((i : ℕ) → i < n → cond (p i) 1 0 + cond (q i) 1 0 ≡ cond (r i) 1 0)
    → count p n + count q n ≡ count r n
unfolding count
count_sum p q r zero h = refl
count_sum p q r (suc n) h = omega (arith, h n (le_refl (suc n)), count_sum p q r n (λ i l. h i (omega arith)))

pub count_none : (p : ℕ → Bool) (n : ℕ) → count p n ≡ 0 → (i : ℕ) → i < n → p i ≡ false
count_none p n e i l =
    split (p i) (λ t. t ∙ sym (count_back (λ j. false) p n (λ j g f. clash false f refl) (omega arith) i l t)) (λ f. f)

pub count_zero : (p : ℕ → Bool) (n : ℕ) → ((i : ℕ) → i < n → p i ≡ false) → count p n ≡ 0
unfolding count
count_zero p zero none = refl
count_zero p (suc n) none =
    omega (arith, ap (λ (b : Bool). cond {A = ℕ} b 1 0) (none n (le_refl (suc n))), count_zero p n (λ i l. none i (omega arith)))

pub count_found : (p : ℕ → Bool) (n : ℕ) → 0 < count p n → (i : ℕ) × (i < n) × (p i ≡ true)
unfolding count
count_found p zero h = absurd (not-suc-le-zero h)
count_found p (suc n) h =
    split (p n)
    (λ t. (n, le_refl (suc n), t))
    (λ f. let (i, l, t) = count_found p n (omega (arith, ap (λ (b : Bool). cond {A = ℕ} b 1 0) f)) in (i, omega arith, t))

-- one number more that passes
pub count_one :
    (p q : ℕ → Bool) (n i : ℕ)
    → i < n
    → p i ≡ false
    → q i ≡ true
    → ((j : ℕ) → j < n → (j ≡ i → ⊥) → q j ≡ p j)
    → count q n ≡ count p n + 1
unfolding count
count_one p q zero i l f t same = absurd (not-suc-le-zero l)
count_one p q (suc n) i l f t same =
    below_suc i n l
    (λ less.
    let next = count_one p q n i less f t (λ j g. same j (omega arith)) in
    let here : q n ≡ p n = same n (le_refl (suc n)) (λ e. omega arith) in
    omega (arith, next, ap (λ (b : Bool). cond {A = ℕ} b 1 0) here))
    (λ e.
    let before = count_same q p n (λ j g. same j (omega arith) (λ z. omega arith)) in
    let f' : p n ≡ false = rw (sym e) f in
    let t' : q n ≡ true = rw (sym e) t in
    omega (arith, before, ap (λ (b : Bool). cond {A = ℕ} b 1 0) f', ap (λ (b : Bool). cond {A = ℕ} b 1 0) t'))
