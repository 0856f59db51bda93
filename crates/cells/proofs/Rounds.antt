-- A round on any table that passes questions 9 and 10, sound or not: one that fills nothing leaves no owner's cell empty, and
-- every other fills one. Assumes nothing.
use Prim.Native.Nat.{ℕ, zero, suc, ◌<◌, ◌≤◌}
use mathlib.Core.Path.{◌≡◌, sym, ◌∙◌, ap, subst}
use mathlib.Core.Bool.{Bool, true, false, ◌&&◌}
use native.Mathlib.Nat.{le_refl, not-suc-le-zero}
use native.Mathlib.Omega.{arith}
use lib.Dec.{eqb}
use borrow.Author.Tests.{eqb-true, eqb-false, ltb-true, ltb-false}
use Rattle.law.proofs.Bool.{split, clash, and_intro, cond_true, cond_false}
use Rattle.law.proofs.Bounded.{below_suc, by_equal, first_before, any_no}
use Rattle.job.specs.Job.{Job, size, subformula_count, owner}
use Rattle.job.specs.Written.{IsJob}
use Rattle.cells.specs.Table.{Table, owner_cell, is_empty, filled}
use Rattle.cells.specs.Step.{step_table}
use Rattle.cells.specs.Close.{copy_table, settled, open?, smallest_open, some_open, close_table}
use Rattle.cells.specs.Finish.{steps_up_to, exchange, closing, round}
use Rattle.cells.proofs.Fill.{is_empty_lem}
use Rattle.cells.proofs.Grown.{Grown, grown_both, step_table_grown, steps_up_to_grown, copy_table_grown, exchange_grown}
use Rattle.cells.proofs.Counts.{filled_none}
use Rattle.cells.proofs.Formed.{Formed, cell_low}
use Rattle.cells.proofs.Settled.{settled_is, idle_settled}
use Rattle.cells.proofs.Determined.{Filled}
use Rattle.cells.proofs.Lower.{close_fills}

-- A table that the steps and the copying of a round leave as it is is settled.
module _ (J : Job) (t : Table) where
  steps_idle : (n : ℕ) → n ≤ J.nodes → steps_up_to J n t ≡ t → (m : ℕ) → m < n → step_table J m t ≡ t
  unfolding steps_up_to
  steps_idle zero l same m h = absurd (not-suc-le-zero h)
  steps_idle (suc n) l same m h =
      let u = steps_up_to J n t in
      let before : u ≡ t =
      grown_both J u t (subst (λ (x : Table). Grown J u x) same (step_table_grown J n u)) (steps_up_to_grown J n t (omega arith)) in
      below_suc m n h (steps_idle n (omega arith) before m) (λ e. rw e (sym (ap (step_table J n) before) ∙ same))

  pub exchange_idle : exchange J t ≡ t → settled J t ≡ true
  unfolding exchange
  exchange_idle same =
      let u = steps_up_to J J.nodes t in
      let before : u ≡ t =
      grown_both J u t (subst (λ (x : Table). Grown J u x) same (copy_table_grown J u))
      (steps_up_to_grown J J.nodes t (le_refl J.nodes)) in
      idle_settled J t (steps_idle J.nodes (le_refl J.nodes) before)
      (sym (ap (copy_table J) before) ∙ same)

-- Every owner's cell is filled.
abbrev pub Complete : Job → Table → Type 0
Complete J t = (s k : ℕ) → s < size J → k < subformula_count J → Filled (owner_cell J t s k)

module _ (J : Job) (job : IsJob J) where
  -- a settled table of which close is refused with 20
  none_open : (t : Table) → Formed J t → some_open J t ≡ false → Complete J t
  unfolding some_open smallest_open open? owner_cell
  none_open t formed f s k l h =
      let own : ℕ → Bool = λ s. is_empty (owner_cell J t s k) in
      let c = owner_cell J t s k in
      let low = cell_low J t formed (owner J s) s k in
      by_equal c 2
      (λ e.
      clash (own s) (is_empty_lem c e)
      (any_no own (size J)
      (first_before (open? J t) (subformula_count J) k (omega (arith, ltb-false (smallest_open J t) (subformula_count J) f))) s l))
      (λ n. omega arith)

  pub round_idle : (t : Table) → Formed J t → filled t (round J t) ≡ 0 → Complete J t
  unfolding round closing
  round_idle t formed none =
      let u = exchange J t in
      let c = closing J u in
      let test = eqb (filled t u) 0 in
      split test
      (λ e.
      let same : u ≡ t = filled_none J t u (exchange_grown J t) (eqb-true (filled t u) 0 e) in
      let still = exchange_idle J t same in
      split (some_open J t)
      (λ some.
      let closed : round J t ≡ close_table J t =
      cond_true test c u e ∙ ap (closing J) same
      ∙ cond_true (settled J t && some_open J t) (close_table J t) t (and_intro (settled J t) (some_open J t) still some) in
      let fills =
      close_fills J job t formed (settled_is J t formed.long still)
      (unfold some_open in ltb-true (smallest_open J t) (subformula_count J) some) in
      let zero = rw closed at none in
      absurd (omega arith))
      (none_open t formed))
      (λ e. absurd (eqb-false (filled t u) 0 e (rw (cond_false test c u e) at none)))
