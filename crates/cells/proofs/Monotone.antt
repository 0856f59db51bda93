-- A step is monotone: from a sound table that knows no less, it leaves a table that knows no less. Assumes nothing.
use Prim.Native.Nat.{ℕ, zero, suc, ◌<◌, ◌≤◌}
use mathlib.Core.Path.{◌≡◌, sym, ◌∙◌}
use mathlib.Core.Bool.{cond, ◌&&◌}
use native.Mathlib.Nat.{le_refl}
use native.Mathlib.Omega.{arith}
use lib.ListN.{get_or}
use lib.Dec.{eqb}
use Rattle.law.proofs.Bool.{split, cond_true, cond_false}
use Rattle.job.specs.Job.{Job, size, subformula_count, subformula}
use Rattle.job.specs.Rule.{rule_at}
use Rattle.job.specs.Written.{IsJob}
use Rattle.job.proofs.Formula.{rule_valued}
use Rattle.cells.specs.Fragment.{in_fragment}
use Rattle.cells.specs.Table.{Table, cell, fill}
use Rattle.cells.specs.Step.{column, step_column, step_up_to, step_table}
use Rattle.cells.proofs.Fill.{fill_cell_new, fill_cell_outside}
use Rattle.cells.proofs.Grown.{grown_cell_empty, fill_grown}
use Rattle.cells.proofs.Right.{column_small}
use Rattle.cells.proofs.Tells.{by_cell}
use Rattle.cells.proofs.Keeps.{Keeps, tells_keeps, column_keeps}
use Rattle.cells.proofs.Formed.{cell_low}
use Rattle.cells.proofs.Sound.{truth, Sound, sound_reads, step_up_to_sound}

-- Each cell that is filled in t is filled in u: one that is empty in u is empty in t.
abbrev pub Fuller : Job → Table → Table → Type 0
Fuller J t u =
    (n s k : ℕ) → n < J.nodes → s < size J → k < subformula_count J → cell J u n s k ≡ 2 → cell J t n s k ≡ 2

-- Values that are 2 in u only where they are in t keep u fuller.
fill_fuller :
    (J : Job) (t u : Table) (new new' : ℕ → ℕ → ℕ → ℕ)
    → Fuller J t u
    → ((n s k : ℕ) → n < J.nodes → s < size J → k < subformula_count J → new' n s k ≡ 2 → new n s k ≡ 2)
    → Fuller J (fill J new t) (fill J new' u)
fill_fuller J t u new new' more kept n s k a b c e =
    let before' = grown_cell_empty J u (fill J new' u) (fill_grown J new' u) n s k e in
    let before = more n s k a b c before' in
    split (in_fragment J n s)
    (λ i.
    fill_cell_new J new t n s k b c before i
    ∙ kept n s k a b c (sym (fill_cell_new J new' u n s k b c before' i) ∙ e))
    (λ o. fill_cell_outside J new t n s k b c o ∙ before)

module _ (J : Job) (job : IsJob J) (n : ℕ) (node : n < J.nodes) where
  step_column_fuller :
      (t u : Table)
      → Sound J t
      → Sound J u
      → Fuller J t u
      → (k : ℕ)
      → k < subformula_count J
      → Fuller J (step_column J n k t) (step_column J n k u)
  unfolding step_column
  step_column_fuller t u left right more k c =
      let r = rule_at J k in
      let at : Table → ℕ → ℕ → ℕ = λ x j s. cell J x n s j in
      let values : Table → ℕ → ℕ = λ x s. get_or (column J n (at x) k r) s 2 in
      let new : Table → ℕ → ℕ → ℕ → ℕ = λ x m s j. cond (eqb m n && eqb j k) (values x s) 2 in
      let kept : (j s : ℕ) → j < suc k → s < size J → Keeps (at t j s) (at u j s) =
      λ j s h l.
      let c' : j < subformula_count J = omega arith in
      tells_keeps (at t j s) (at u j s) (truth J j s) (left.tells n s j node l c') (right.tells n s j node l c')
      (cell_low J u right.formed n s j) (more n s j node l c') in
      let column =
      column_keeps J job n (truth J) k (at t) (at u) kept r (job.operands k c) (sound_reads J job t left n k node c)
      (sound_reads J job u right n k node c) in
      fill_fuller J t u (new t) (new u) more
      (λ m s j a b h e.
      split (eqb m n && eqb j k)
      (λ here.
      let none = sym (cond_true (eqb m n && eqb j k) (values u s) 2 here) ∙ e in
      cond_true (eqb m n && eqb j k) (values t s) 2 here
      ∙ by_cell (values t s) (column_small J n (at t) k r (rule_valued (subformula J.formula k)) s)
      (λ z. absurd (omega (arith, column s b 0 (omega arith) z)))
      (λ z. absurd (omega (arith, column s b 1 (omega arith) z)))
      (λ z. z))
      (cond_false (eqb m n && eqb j k) (values t s) 2))

  module _ (t u : Table) (left : Sound J t) (right : Sound J u) (more : Fuller J t u) where
    step_up_to_fuller : (k : ℕ) → k ≤ subformula_count J → Fuller J (step_up_to J n k t) (step_up_to J n k u)
    unfolding step_up_to
    step_up_to_fuller zero l = more
    step_up_to_fuller (suc k) l =
        let h : k ≤ subformula_count J = omega arith in
        step_column_fuller (step_up_to J n k t) (step_up_to J n k u) (step_up_to_sound J job n node t left k h)
        (step_up_to_sound J job n node u right k h) (step_up_to_fuller k h) k l

    pub step_table_fuller : Fuller J (step_table J n t) (step_table J n u)
    unfolding step_table
    step_table_fuller = step_up_to_fuller (subformula_count J) (le_refl (subformula_count J))
