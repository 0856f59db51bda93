-- On a settled table, whatever it holds: where owners have filled every smaller subformula, so have all fragments; and the
-- smallest subformula that some owner has not filled goes by sets, and close fills a cell of it. Assumes nothing.
use Prim.Native.Nat.{ℕ, zero, suc, ◌<◌, ◌≤◌}
use mathlib.Core.Path.{◌≡◌, refl, ◌∙◌}
use mathlib.Core.Bool.{Bool, true, cond}
use native.Mathlib.Nat.{le_refl, not-suc-le-zero}
use native.Mathlib.Omega.{arith}
use lib.Dec.{eqb}
use borrow.Author.Tests.{eq-eqb}
use Rattle.law.specs.Bounded.{first}
use Rattle.law.proofs.Bool.{split, clash, cond_true}
use Rattle.law.proofs.Bounded.{by_equal, first_before, first_passes, any_no, any_found}
use Rattle.job.specs.Job.{Job, size, subformula_count, owner}
use Rattle.job.specs.Rule.{rule_at, closed_value, IsSets}
use Rattle.job.specs.Written.{IsJob}
use Rattle.job.proofs.RuleLaws.{closed_bound}
use Rattle.cells.specs.Fragment.{owns, in_fragment}
use Rattle.cells.specs.Table.{Table, cell, owner_cell, is_empty, filled}
use Rattle.cells.specs.Close.{is_temporal, open?, smallest_open, close_table}
use Rattle.cells.proofs.Fill.{is_empty_lem, empty_is, fill_cell_new}
use Rattle.cells.proofs.Counts.{filled_cell}
use Rattle.cells.proofs.FragmentLaws.{owns_owner, owned_inside, next_inside, fragment_bound, inner_owned, outer_border, owner_owns}
use Rattle.cells.proofs.Formed.{Formed, cell_low}
use Rattle.cells.proofs.Settled.{Settled}
use Rattle.cells.proofs.Determined.{Filled, local_filled, empty_sets}

module _ (J : Job) (job : IsJob J) (t : Table) (formed : Formed J t) (still : Settled J t) where
  -- Upward from the atoms: an owner's cell is filled, a border state's temporal cell is copied, another is filled by the step.
  lower_filled :
      (k : ℕ)
      → k ≤ subformula_count J
      → ((s j : ℕ) → s < size J → j < k → owner_cell J t s j ≡ 2 → ⊥)
      → (m j : ℕ)
      → j < m
      → j < k
      → (n s : ℕ)
      → n < J.nodes
      → in_fragment J n s ≡ true
      → Filled (cell J t n s j)
  unfolding owner_cell is_temporal
  lower_filled k top owners zero j h l n s a i = absurd (not-suc-le-zero h)
  lower_filled k top owners (suc m) j h l n s a i =
      let b = fragment_bound J job n s i in
      let c : j < subformula_count J = omega arith in
      let low = cell_low J t formed n s j in
      by_equal (cell J t n s j) 2
      (λ e.
      split (owns J n s)
      (λ o. absurd (owners s j b l (rw (owns_owner J n s o) e)))
      (λ o.
      split (is_temporal J j)
      (λ p. absurd (owners s j b l (still.copied n s j a b c (outer_border J job n s i o) p e)))
      (λ p.
      omega (
        arith,
        still.done n s j a b c i e,
        local_filled J n (λ j s. cell J t n s j) j s b (rule_at J j) (job.operands j c) p
            (λ g less. lower_filled k top owners m g (omega arith) (omega arith) n s a i),
      ))))
      (λ filled. omega arith)

  module _ (some : smallest_open J t < subformula_count J) where
    owners_filled : (s j : ℕ) → s < size J → j < smallest_open J t → owner_cell J t s j ≡ 2 → ⊥
    unfolding smallest_open open?
    owners_filled s j l h e =
        let own : ℕ → Bool = λ s. is_empty (owner_cell J t s j) in
        clash (own s) (is_empty_lem (owner_cell J t s j) e)
        (any_no own (size J) (first_before (open? J t) (subformula_count J) j h) s l)

    -- every cell of each smaller subformula, in every fragment
    pub below_filled : (j n s : ℕ) → j < smallest_open J t → n < J.nodes → in_fragment J n s ≡ true → Filled (cell J t n s j)
    below_filled j n s l = lower_filled (smallest_open J t) (omega arith) owners_filled (suc j) j (le_refl (suc j)) l n s

    pub open_state : (s : ℕ) × (s < size J) × (owner_cell J t s (smallest_open J t) ≡ 2)
    unfolding smallest_open open?
    open_state =
        let k = smallest_open J t in
        let own : ℕ → Bool = λ s. is_empty (owner_cell J t s k) in
        let (l, e) = any_found own (size J) (first_passes (open? J t) (subformula_count J) some) in
        (first own (size J), l, empty_is (owner_cell J t (first own (size J)) k) e)

    pub open_sets : IsSets (rule_at J (smallest_open J t))
    unfolding owner_cell
    open_sets =
        let k = smallest_open J t in
        let (s, l, e) = open_state in
        let n = owner J s in
        let node = job.owners s l in
        let o = owner_owns J job s l in
        let i = owned_inside J n s o in
        empty_sets J n (λ j s. cell J t n s j) k s l (rule_at J k) (job.operands k some)
        (inner_owned J job n s ∙ o)
        (λ j h. below_filled j n s h node i)
        (λ j u h edge. below_filled j n u h node (next_inside J n s u o edge))
        (still.done n s k node l some i e)

    pub close_fills : 0 < filled t (close_table J t)
    unfolding close_table owner_cell
    close_fills =
        let k = smallest_open J t in
        let (s, l, e) = open_state in
        let n = owner J s in
        let inside = owned_inside J n s (owner_owns J job s l) in
        let v = closed_value (rule_at J k) in
        let value =
        fill_cell_new J (λ m s j. cond (eqb j k) v 2) t n s k l some e inside ∙ cond_true (eqb k k) v 2 (eq-eqb k k refl) in
        filled_cell J t (close_table J t) formed.long n s k (job.owners s l) l some e (λ f. omega (arith, closed_bound (rule_at J k)))
