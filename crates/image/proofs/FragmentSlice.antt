-- The states of a node's fragment as a list: its length, what stands in it, and a loop over it.
-- Assumes nothing.
use Prim.Native.Nat.{ℕ, ◌<◌, ◌≤◌}
use mathlib.Core.Path.{◌≡◌, ◌∙◌, ap}
use mathlib.Core.Bool.{true}
use mathlib.Core.List.{List}
use native.Mathlib.Omega.{arith}
use lib.ListN.{length, get_or}
use Rattle.law.proofs.Lists.{tab_length, tab_at}
use Rattle.job.specs.Job.{Job, size}
use Rattle.job.specs.Written.{IsJob}
use Rattle.cells.specs.Fragment.{in_fragment}
use Rattle.image.specs.Image.{fragment_size, fragment_state, fragment}
use Rattle.image.proofs.Ranks.{fragment_small, state_below, state_inside}

module _ (J : Job) (n : ℕ) where
  pub length-fragment : length (fragment J n) ≡ fragment_size J n
  unfolding fragment
  length-fragment = tab_length (fragment_state J n) (fragment_size J n)

  pub get_or-fragment : (i : ℕ) → i < fragment_size J n → get_or (fragment J n) i 0 ≡ fragment_state J n i
  unfolding fragment
  get_or-fragment i l = tab_at (fragment_state J n) (fragment_size J n) i 0 l

-- A state of the fragment: the one of rank i.
pub record Member (J : Job) (n i s : ℕ) : Type 0 where
  pub ranked : i < fragment_size J n
  pub is : s ≡ fragment_state J n i
  pub state_in : s < size J
  pub small : s < 256
  pub inside : in_fragment J n s ≡ true

module _ (J : Job) (job : IsJob J) (n : ℕ) where
  pub members_few : (list : List ℕ) → list ≡ fragment J n → length list ≤ 256
  members_few list is = omega (arith, ap {A = List ℕ} length is, length-fragment J n, fragment_small J job n)

  -- the state at index i, as it is read of the list
  pub member_read : (list : List ℕ) → list ≡ fragment J n → (i s : ℕ) → i < length list → s ≡ get_or list i 0 → Member J n i s
  member_read list is i s l at =
      let ranked : i < fragment_size J n = omega (arith, ap {A = List ℕ} length is, length-fragment J n) in
      let here : s ≡ fragment_state J n i = at ∙ ap (λ (x : List ℕ). get_or x i 0) is ∙ get_or-fragment J n i ranked in
      let below : s < size J = omega (arith, here, state_below J job n i ranked) in
      record {
        ranked = ranked;
        is = here;
        state_in = below;
        small = omega (arith, below, job.states.below);
        inside = ap (in_fragment J n) here ∙ state_inside J job n i ranked;
      }

  -- as many states were passed as the list has
  pub members_over : (list : List ℕ) → list ≡ fragment J n → (i : ℕ) → i ≤ length list → length list ≤ i → i ≡ fragment_size J n
  members_over list is i l g = omega (arith, ap {A = List ℕ} length is, length-fragment J n)
