-- A step done again right away fills nothing, on every table; and what it says of a table that a step would fill nothing. Operands
-- are smaller numbers: columns above k leave column k and what it reads as they are. Assumes nothing.
use Prim.Native.Nat.{ℕ, zero, suc, ◌<◌, ◌≤◌}
use mathlib.Core.Path.{◌≡◌, refl, sym, ◌∙◌}
use mathlib.Core.Bool.{true, ◌&&◌}
use mathlib.Core.Logic.{⊎_elim}
use native.Mathlib.Nat.{le_refl, mod-lt}
use native.Mathlib.Omega.{arith}
use borrow.Author.Tests.{eqb-true, eq-eqb}
use lib.Dec.{eqb}
use lib.ListN.{get_or}
use Rattle.law.proofs.Bool.{split, cond_false, and_left, and_right, or_cases}
use Rattle.law.proofs.Bounded.{by_equal}
use Rattle.law.proofs.Lists.{some_elim}
use Rattle.job.specs.Job.{Job, size, subformula_count}
use Rattle.job.specs.Rule.{rule_at, quantifier, IsSets, InRange}
use Rattle.job.specs.Written.{no_edge}
use Rattle.job.specs.declared.rule.Rule.{Rule}
use Rattle.job.proofs.RuleLaws.{by_sets_lem, sets_range}
use Rattle.cells.specs.Fragment.{owns, in_fragment}
use Rattle.cells.specs.Table.{Table, node_of, state_of, subformula_of, cell, inside, filled}
use Rattle.cells.specs.SetRule.{set_rule}
use Rattle.cells.specs.Step.{known, column, step_column, step_up_to, step_table}
use Rattle.cells.proofs.FragmentLaws.{owns_bound}
use Rattle.cells.proofs.Index.{cell_at}
use Rattle.cells.proofs.Fill.{is_empty_lem, not_empty, fill_idle, idle_new}
use Rattle.cells.proofs.Kept.{step_up_to_keeps}
use Rattle.cells.proofs.Grown.{grown_both, step_up_to_grown, step_table_grown}
use Rattle.cells.proofs.Counts.{filled_none}
use Rattle.cells.proofs.Columns.{Below, by_sets_same, sets_column, column_reads, known_below, below_operands, column_same}
use Rattle.cells.proofs.Local.{column_of, step_column_cell, step_column_other}
use Rattle.cells.proofs.Repeat.{FilledIn, by_sets_again}

-- A fragment with a state is that of a job with a state.
pub in_fragment_size : (J : Job) (n s : ℕ) → in_fragment J n s ≡ true → 0 < size J
unfolding in_fragment
in_fragment_size J n s e =
    ⊎_elim (λ o. omega (arith, owns_bound J n s o))
    (λ x.
    let (i, l, h) = some_elim (λ d. owns J n d.from && eqb d.to s) J.structure.edges no_edge x in
    let d = get_or J.structure.edges i no_edge in
    omega (arith, owns_bound J n d.from (and_left (owns J n d.from) (eqb d.to s) h)))
    (or_cases (owns J n s) _ e)

-- A column changes nothing exactly where it has 2 for the node's empty cells.
module _ (J : Job) (n k : ℕ) (t : Table) where
  pub step_column_idle :
      ((s : ℕ) → s < size J → cell J t n s k ≡ 2 → in_fragment J n s ≡ true → get_or (column_of J n k t) s 2 ≡ 2)
      → step_column J n k t ≡ t
  unfolding step_column inside state_of
  step_column_idle idle =
      fill_idle J _ t
      (λ i h e o.
      let m = node_of J i in
      let s = state_of J i in
      let j = subformula_of J i in
      split (eqb m n && eqb j k)
      (λ here.
      let p = eqb-true m n (and_left (eqb m n) (eqb j k) here) in
      let q = eqb-true j k (and_right (eqb m n) (eqb j k) here) in
      simp here
      (idle s (mod-lt _ (in_fragment_size J m s o)) (rw (← p, ← q) (cell_at J t i ∙ e)) (rw (← p) o)))
      (cond_false (eqb m n && eqb j k) (get_or (column_of J n k t) s 2) 2))

  pub idle_column :
      step_column J n k t ≡ t
      → k < subformula_count J
      → (s : ℕ)
      → s < size J
      → cell J t n s k ≡ 2
      → in_fragment J n s ≡ true
      → get_or (column_of J n k t) s 2 ≡ 2
  unfolding step_column
  idle_column same l s b e o =
      rw (eq-eqb n n refl, eq-eqb k k refl) at (idle_new J _ t same n s k b l e o)

-- A step changes nothing exactly where none of its columns does.
module _ (J : Job) (n : ℕ) (t : Table) where
  pub step_table_idle : ((k : ℕ) → k < subformula_count J → step_column J n k t ≡ t) → step_table J n t ≡ t
  unfolding step_table step_up_to
  step_table_idle idle = up_to (subformula_count J) (le_refl (subformula_count J))
    where
      up_to : (k : ℕ) → k ≤ subformula_count J → step_up_to J n k t ≡ t
      up_to zero l = refl
      up_to (suc k) l = rw (up_to k (omega arith)) (idle k l)

  -- between a table and the same table nothing has grown
  idle_up_to : step_table J n t ≡ t → (k : ℕ) → k ≤ subformula_count J → step_up_to J n k t ≡ t
  unfolding step_table step_up_to
  idle_up_to same k l =
      grown_both J (step_up_to J n k t) t (rw same at (step_up_to_grown J n k (subformula_count J) t l (le_refl (subformula_count J))))
      (step_up_to_grown J n 0 k t (omega arith) l)

  pub idle_columns : step_table J n t ≡ t → (k : ℕ) → k < subformula_count J → step_column J n k t ≡ t
  unfolding step_up_to
  idle_columns same k l = rw (idle_up_to same k (omega arith)) at (idle_up_to same (suc k) l)

  -- so an empty cell has no value: the column has 2 for it
  pub none_filled :
      filled t (step_table J n t) ≡ 0
      → (k s : ℕ)
      → k < subformula_count J
      → s < size J
      → cell J t n s k ≡ 2
      → in_fragment J n s ≡ true
      → get_or (column_of J n k t) s 2 ≡ 2
  none_filled none k s l =
      idle_column J n k t (idle_columns (filled_none J t (step_table J n t) (step_table_grown J n t) none) k l) l s

-- The column of cells into which that column has been filled.
module _
    (J : Job) (n k : ℕ) (at at' : ℕ → ℕ → ℕ) (below : Below J n k at' at) (r : Rule) (range : InRange k r)
    (after : FilledIn J n (column J n at k r) (at k) (at' k))
  where
    had_none : (s : ℕ) → s < size J → at' k s ≡ 2 → in_fragment J n s ≡ true → get_or (column J n at k r) s 2 ≡ 2
    had_none s l h o =
        by_equal (at k s) 2 (λ e. sym (simp (is_empty_lem (at k s) e, o) at (after s l)) ∙ h)
        (λ e. absurd (e (sym (simp (not_empty (at k s) e) at (after s l)) ∙ h)))

    -- by sets: with its operands' cells as they were, and its own filled
    sets_again : (sets : IsSets r) (s : ℕ) → s < size J → at' k s ≡ 2 → get_or (column J n at' k r) s 2 ≡ 2
    sets_again sets s l h =
        let (i, j, small) = sets_range k r sets range in
        let q = quantifier sets.growth.all in
        let b = sets.growth.start in
        let a = sets.growth.grow in
        let v = sets.growth.value in
        rw (
          sets_column J n at' k r sets,
          by_sets_same J n (at' k) (at' k) (set_rule q (known at b) (known at a) v) (set_rule q (known at' b) (known at' a) v) refl refl
              (λ u m. refl) (known_below J n k at' at below b i) (known_below J n k at' at below a j),
        )
        (by_sets_again J n (at k) (at' k) (set_rule q (known at b) (known at a) v) small
        (λ u m. rw (sets_column J n at k r sets) at (after u m)) s l h)

    -- by another rule: it does not read its own cells
    column_again : (s : ℕ) → s < size J → at' k s ≡ 2 → in_fragment J n s ≡ true → get_or (column J n at' k r) s 2 ≡ 2
    column_again s l h o =
        by_sets_lem r (λ sets. sets_again sets s l h)
        (λ other.
        rw (column_reads J n k at' at r (below_operands J n k at' at below r range) (λ sets. absurd (other sets)))
        (had_none s l h o))

-- A column done again, then a whole step, upward: the columns after k leave column k and its operands.
module _ (J : Job) (operands : (k : ℕ) → k < subformula_count J → InRange k (rule_at J k)) (n : ℕ) where
  pub step_column_again :
      (k : ℕ) → k < subformula_count J → (t : Table) → step_column J n k (step_column J n k t) ≡ step_column J n k t
  step_column_again k l t =
      let u = step_column J n k t in
      step_column_idle J n k u
      (column_again J n k (λ j s. cell J t n s j) (λ j s. cell J u n s j)
      (λ j h s r. step_column_other J n k t n s j (omega arith) (λ e. omega arith)) (rule_at J k) (operands k l)
      (λ s b. step_column_cell J n k t s b l))

  later_same :
      (k : ℕ) → k < subformula_count J → (t : Table) (s j : ℕ) → j ≤ k → cell J (step_table J n t) n s j ≡ cell J (step_up_to J n (suc k) t) n s j
  unfolding step_table
  later_same k l t s j h =
      step_up_to_keeps J (λ u v. cell J v n s j ≡ cell J u n s j) (λ u. refl) (λ u v w p q. q ∙ p) n (suc k)
      (λ i u a b. step_column_other J n i u n s j (omega arith) (λ e. omega arith)) (subformula_count J) t l (le_refl (subformula_count J))

  pub step_table_column : (k : ℕ) → k < subformula_count J → (t : Table) → step_column J n k (step_table J n t) ≡ step_table J n t
  unfolding step_up_to
  step_table_column k l t =
      let u = step_table J n t in
      let w = step_up_to J n (suc k) t in
      let same : column_of J n k u ≡ column_of J n k w =
      column_same J n k (λ j s. cell J u n s j) (λ j s. cell J w n s j) (λ j h s r. later_same k l t s j (omega arith))
      (λ s b. later_same k l t s k (le_refl k)) (rule_at J k) (operands k l) in
      step_column_idle J n k u
      (λ s b e o.
      rw same
      (idle_column J n k w (step_column_again k l (step_up_to J n k t)) l s b (sym (later_same k l t s k (le_refl k)) ∙ e) o))

  pub step_table_again : (t : Table) → step_table J n (step_table J n t) ≡ step_table J n t
  step_table_again t = step_table_idle J n (step_table J n t) (λ k l. step_table_column k l t)
