-- A settled table is one in which the steps and the copying of a round fill nothing. Assumes nothing.
use Prim.Native.Nat.{ℕ, zero, suc, ◌<◌, ◌≤◌}
use mathlib.Core.Path.{◌≡◌, refl, sym, ◌∙◌, ap}
use mathlib.Core.Bool.{true, cond, ◌&&◌}
use native.Mathlib.Nat.{le_refl}
use native.Mathlib.Omega.{arith}
use borrow.Author.Tests.{eq-eqb, ne_eqb, eqb-true}
use lib.ListN.{length}
use lib.Dec.{eqb}
use Rattle.law.proofs.Bool.{split, and_left, and_right, cond_true, cond_false}
use Rattle.law.proofs.Bounded.{all_elim, by_equal}
use Rattle.job.specs.Job.{Job}
use Rattle.cells.specs.Fragment.{border}
use Rattle.cells.specs.Table.{Table, table_length, owner_cell, filled}
use Rattle.cells.specs.Step.{step_table}
use Rattle.cells.specs.Close.{is_temporal, copy_table, steps_done, copies_done, settled}
use Rattle.cells.specs.Finish.{steps_up_to, exchange}
use Rattle.cells.proofs.Fill.{fill_idle_cells}
use Rattle.cells.proofs.Grown.{step_table_grown, exchange_grown}
use Rattle.cells.proofs.Counts.{filled_none, filled_same}
use Rattle.cells.proofs.Settled.{settled_is}
use Rattle.cells.proofs.Rounds.{exchange_idle}

module _ (J : Job) (t : Table) (long : length t ≡ table_length J) where
  step_idle : settled J t ≡ true → (n : ℕ) → n < J.nodes → step_table J n t ≡ t
  unfolding settled steps_done
  step_idle h n under =
      let steps = all_elim (λ n. eqb (filled t (step_table J n t)) 0) J.nodes (and_left (steps_done J t) (copies_done J t) h) in
      filled_none J t (step_table J n t) (step_table_grown J n t) (eqb-true (filled t (step_table J n t)) 0 (steps n under))

  steps_idle : settled J t ≡ true → (n : ℕ) → n ≤ J.nodes → steps_up_to J n t ≡ t
  unfolding steps_up_to
  steps_idle h zero l = refl
  steps_idle h (suc n) l = ap (step_table J n) (steps_idle h n (omega arith)) ∙ step_idle h n (omega arith)

  copy_idle : settled J t ≡ true → copy_table J t ≡ t
  unfolding copy_table
  copy_idle h =
      let still = settled_is J t long h in
      fill_idle_cells J (λ m s k. cond (border J m s && is_temporal J k) (owner_cell J t s k) 2) t long
      (λ n s k a b c e i.
      split (border J n s && is_temporal J k)
      (λ both.
      cond_true (border J n s && is_temporal J k) (owner_cell J t s k) 2 both
      ∙ still.copied n s k a b c (and_left (border J n s) (is_temporal J k) both) (and_right (border J n s) (is_temporal J k) both) e)
      (λ not_both. cond_false (border J n s && is_temporal J k) (owner_cell J t s k) 2 not_both))

  settled_idle : settled J t ≡ true → exchange J t ≡ t
  unfolding exchange
  settled_idle h = ap (copy_table J) (steps_idle h J.nodes (le_refl J.nodes)) ∙ copy_idle h

  pub settled_told : (c : ℕ) → c ≡ filled t (exchange J t) → eqb c 0 ≡ settled J t
  settled_told c is =
      split (settled J t)
      (λ h. eq-eqb c 0 (is ∙ ap (filled t) (settled_idle h) ∙ filled_same t) ∙ sym h)
      (λ not_h.
      by_equal c 0
      (λ none.
      let idle : exchange J t ≡ t = filled_none J t (exchange J t) (exchange_grown J t) (sym is ∙ none) in
      eq-eqb c 0 none ∙ sym (exchange_idle J t idle))
      (λ some. ne_eqb c 0 some ∙ sym not_h))
