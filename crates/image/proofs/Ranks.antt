-- The states of a node's fragment in ascending order: the ranks below its size are those of its states, each once. Assumes nothing.
use Prim.Native.Nat.{ℕ, zero, suc, ◌<◌, ◌≤◌}
use mathlib.Core.Path.{◌≡◌, refl, ap, subst}
use mathlib.Core.Bool.{Bool, true, cond, ◌&&◌}
use native.Mathlib.Nat.{le_refl, not-suc-le-zero}
use native.Mathlib.Omega.{arith}
use lib.Dec.{eqb}
use borrow.Author.Tests.{eq-eqb, ne_eqb}
use Rattle.law.specs.Bounded.{first, count}
use Rattle.law.proofs.Bool.{split, and_intro, and_no_left, and_no_right}
use Rattle.law.proofs.Bounded.{by_order, below_suc, first_is}
use Rattle.law.proofs.Count.{count_le}
use Rattle.job.specs.Job.{Job, size}
use Rattle.job.specs.Written.{IsJob}
use Rattle.cells.specs.Fragment.{in_fragment}
use Rattle.cells.proofs.FragmentLaws.{fragment_bound}
use Rattle.image.specs.Image.{fragment_size, rank, fragment_state}

-- The numbers that pass a test, each with the count of those before it.
module _ (p : ℕ → Bool) where
  pub count_step : (s : ℕ) → p s ≡ true → count p (suc s) ≡ suc (count p s)
  unfolding count
  count_step s t = simp t (omega arith)

  pub count_up : (s n : ℕ) → s ≤ n → count p s ≤ count p n
  unfolding count
  count_up s zero l = let z : s ≡ 0 = omega arith in rw z (le_refl (count p 0))
  count_up s (suc n) l =
      below_suc s (suc n) (omega arith)
      (λ g. omega (arith, count_up s n (omega arith)))
      (λ q. rw q (le_refl (count p (suc n))))

  pub count_less : (s n : ℕ) → s < n → p s ≡ true → count p s < count p n
  count_less s n l t = omega (arith, count_step s t, count_up (suc s) n l)

  -- s passes, and i numbers before it do
  abbrev ranked : ℕ → ℕ → Bool
  ranked i s = p s && eqb (count p s) i

  pub nth_count : (n s : ℕ) → s < n → p s ≡ true → first (ranked (count p s)) n ≡ s
  nth_count n s l t =
      first_is (ranked (count p s)) n s l
      (λ j g.
      let same = eqb (count p j) (count p s) in
      split (p j)
      (λ u. and_no_right (p j) same (ne_eqb (count p j) (count p s) (λ q. omega (arith, count_less j s g u))))
      (and_no_left (p j) same))
      (and_intro (p s) (eqb (count p s) (count p s)) t (eq-eqb (count p s) (count p s) refl))

  has_rank : (n i : ℕ) → i < count p n → (s : ℕ) × (s < n) × (p s ≡ true) × (count p s ≡ i)
  unfolding count
  has_rank zero i l = absurd (not-suc-le-zero l)
  has_rank (suc n) i l =
      by_order i (count p n)
      (λ g. let (s, h, t, q) = has_rank n i g in (s, omega arith, t, q))
      (λ g.
      split (p n)
      (λ t. (n, le_refl (suc n), t, omega (arith, ap (λ (b : Bool). cond {A = ℕ} b 1 0) t)))
      (λ f. let stop : ⊥ = omega (arith, ap (λ (b : Bool). cond {A = ℕ} b 1 0) f) in absurd stop))

  pub nth_found :
      (n i : ℕ) → i < count p n
      → (first (ranked i) n < n) × (p (first (ranked i) n) ≡ true) × (count p (first (ranked i) n) ≡ i)
  nth_found n i l =
      let (s, h, t, q) = has_rank n i l in
      let e : first (ranked i) n ≡ s = subst (λ k. first (ranked k) n ≡ s) q (nth_count n s h t) in
      (rw e h, rw e t, rw e q)

module _ (J : Job) (job : IsJob J) (n : ℕ) where
  pub fragment_few : fragment_size J n ≤ size J
  unfolding fragment_size
  fragment_few = count_le (in_fragment J n) (size J)

  pub fragment_small : fragment_size J n ≤ 256
  fragment_small = omega (arith, fragment_few, job.states.below)

  -- a state of the fragment by its rank
  pub state_below : (i : ℕ) → i < fragment_size J n → fragment_state J n i < size J
  unfolding fragment_size fragment_state rank
  state_below i l = (nth_found (in_fragment J n) (size J) i l).0

  pub state_inside : (i : ℕ) → i < fragment_size J n → in_fragment J n (fragment_state J n i) ≡ true
  unfolding fragment_size fragment_state rank
  state_inside i l = (nth_found (in_fragment J n) (size J) i l).1

  pub rank_state : (i : ℕ) → i < fragment_size J n → rank J n (fragment_state J n i) ≡ i
  unfolding fragment_size fragment_state rank
  rank_state i l = (nth_found (in_fragment J n) (size J) i l).2

  -- the rank of a state of the fragment
  pub rank_below : (s : ℕ) → in_fragment J n s ≡ true → rank J n s < fragment_size J n
  unfolding fragment_size rank
  rank_below s t = count_less (in_fragment J n) s (size J) (fragment_bound J job n s t) t

  pub state_rank : (s : ℕ) → in_fragment J n s ≡ true → fragment_state J n (rank J n s) ≡ s
  unfolding fragment_state rank
  state_rank s t = nth_count (in_fragment J n) (size J) s (fragment_bound J job n s t) t

  -- what holds of the states of all ranks holds of the states of the fragment
  pub by_rank :
      (P : ℕ → Type 0) → ((i : ℕ) → i < fragment_size J n → P (fragment_state J n i)) → (s : ℕ) → in_fragment J n s ≡ true → P s
  by_rank P at s t = subst P (state_rank s t) (at (rank J n s) (rank_below s t))
