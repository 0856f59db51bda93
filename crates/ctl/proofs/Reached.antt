-- Laws of `reached`, the least set of the states that start in it, or may grow and have that many successors in it: which states it
-- holds, and induction over it. Assumes nothing.
use Prim.Native.Nat.{ℕ}
use mathlib.Core.Path.{◌≡◌}
use mathlib.Core.Bool.{Bool, true, ◌&&◌}
use mathlib.Core.Logic.{⊎_elim}
use lib.ListN.{length}
use Rattle.law.specs.Fixpoint.{Monotone}
use Rattle.law.proofs.Bool.{and_intro, and_left, and_right, and_mono, or_left, or_right, or_cases, or_mono}
use Rattle.law.proofs.Least.{least_bound, least_ind, least_closed}
use Rattle.job.specs.Job.{Structure, Quantifier, over}
use Rattle.job.proofs.Successors.{over_mono}
use Rattle.ctl.specs.Labelling.{reaches, reached}
use Rattle.ctl.proofs.Total.{State}

module _ (M : Structure) (q : Quantifier) (start grow : ℕ → Bool) where
  -- More states are reached from a larger set, so the least set is closed: it holds each state that starts or grows.
  pub reaches_mono : Monotone (reaches M q start grow)
  unfolding reaches
  reaches_mono X Y more s =
      or_mono (start s) (grow s && over M q s X) (grow s && over M q s Y)
      (and_mono (grow s) (over M q s X) (over M q s Y) (over_mono M q s X Y more))

  pub reached_state : (s : ℕ) → reached M q start grow s ≡ true → State M s
  unfolding reached
  reached_state = least_bound (reaches M q start grow) (length M.labels)

  reached_closed :
      (s : ℕ) → State M s → reaches M q start grow (reached M q start grow) s ≡ true → reached M q start grow s ≡ true
  unfolding reached
  reached_closed = least_closed (reaches M q start grow) (length M.labels) reaches_mono

  pub reached_start : (s : ℕ) → State M s → start s ≡ true → reached M q start grow s ≡ true
  unfolding reaches
  reached_start s l e = reached_closed s l (or_left (start s) (grow s && over M q s (reached M q start grow)) e)

  pub reached_grow :
      (s : ℕ) → State M s → grow s ≡ true → over M q s (reached M q start grow) ≡ true → reached M q start grow s ≡ true
  unfolding reaches
  reached_grow s l g e =
      let next = over M q s (reached M q start grow) in
      reached_closed s l (or_right (start s) (grow s && next) (and_intro (grow s) next g e))

  -- Induction: P is shown of a state that starts, and of one that grows from states Y of which P is shown already.
  pub reached_ind {ℓ} :
      (P : ℕ → Type ℓ)
      → ((s : ℕ) → State M s → start s ≡ true → P s)
      → ((Y : ℕ → Bool) → ((u : ℕ) → Y u ≡ true → P u) → (s : ℕ) → State M s → grow s ≡ true → over M q s Y ≡ true → P s)
      → (s : ℕ) → reached M q start grow s ≡ true → P s
  unfolding reached reaches
  reached_ind P first turn =
      least_ind (reaches M q start grow) (length M.labels) P
      (λ Y known s l e.
      ⊎_elim (first s l)
      (λ h. turn Y known s l (and_left (grow s) (over M q s Y) h) (and_right (grow s) (over M q s Y) h))
      (or_cases (start s) (grow s && over M q s Y) e))

-- Induction where each case also knows that its state is in the set.
module _ (M : Structure) (q : Quantifier) (b a : ℕ → Bool) where
  pub reached_turns :
      (P : ℕ → Type 0)
      → ((s : ℕ) → reached M q b a s ≡ true → b s ≡ true → P s)
      → ((s : ℕ)
      → reached M q b a s ≡ true
      → a s ≡ true
      → (Y : ℕ → Bool)
      → ((u : ℕ) → Y u ≡ true → P u)
      → over M q s Y ≡ true
      → P s)
      → (s : ℕ)
      → reached M q b a s ≡ true
      → P s
  reached_turns P starts grows s h =
      (reached_ind M q b a (λ u. (reached M q b a u ≡ true) × P u)
      (λ u l e. let here = reached_start M q b a u l e in (here, starts u here e))
      (λ Y known u l e o.
      let here =
      reached_grow M q b a u l e (over_mono M q u Y (reached M q b a) (λ w y. (known w y).0) o) in
      (here, grows u here e Y (λ w y. (known w y).1) o))
      s h
      ).1
