-- The chain of a node's edges into a state, from the last to the first. Assumes nothing.
use Prim.Native.Nat.{ℕ, zero, suc, ◌<◌, ◌≤◌}
use mathlib.Core.Path.{◌≡◌, refl}
use mathlib.Core.Bool.{true, false}
use native.Mathlib.Nat.{not-suc-le-zero}
use native.Mathlib.Omega.{arith}
use Rattle.law.proofs.Bool.{split, cond_true, cond_false}
use Rattle.law.proofs.Bounded.{below_suc}
use Rattle.job.specs.Job.{Job}
use Rattle.image.specs.Image.{leads, last_into}

module _ (J : Job) (n u : ℕ) where
  -- one edge more is the last, or changes nothing
  last_here : (e : ℕ) → leads J n u e ≡ true → last_into J n u (suc e) ≡ suc e
  unfolding last_into
  last_here e = cond_true (leads J n u e) (suc e) (last_into J n u e)

  last_other : (e : ℕ) → leads J n u e ≡ false → last_into J n u (suc e) ≡ last_into J n u e
  unfolding last_into
  last_other e = cond_false (leads J n u e) (suc e) (last_into J n u e)

  last_none : last_into J n u 0 ≡ 0
  unfolding last_into
  last_none = refl

  pub last_le : (k : ℕ) → last_into J n u k ≤ k
  last_le zero = omega (arith, last_none)
  last_le (suc k) =
      split (leads J n u k) (λ t. omega (arith, last_here k t)) (λ f. omega (arith, last_other k f, last_le k))

  -- it leads to the state, and no edge between it and number k does
  pub last_leads : (k e : ℕ) → last_into J n u k ≡ suc e → leads J n u e ≡ true
  last_leads zero e h = let stop : ⊥ = omega (arith, last_none) in absurd stop
  last_leads (suc k) e h =
      split (leads J n u k)
      (λ t. let same : e ≡ k = omega (arith, last_here k t) in rw same t)
      (λ f. last_leads k e (let l = last_other k f in omega arith))

  pub last_skips : (k e : ℕ) → last_into J n u k ≤ e → e < k → leads J n u e ≡ false
  last_skips zero e h l = absurd (not-suc-le-zero l)
  last_skips (suc k) e h l =
      split (leads J n u k)
      (λ t. let stop : ⊥ = omega (arith, last_here k t) in absurd stop)
      (λ f.
      let h' : last_into J n u k ≤ e = omega (arith, last_other k f) in
      below_suc e k l (λ less. last_skips k e h' less) (λ same. rw same f))
