-- The steps and the copying of a round, from what each of them leaves. Assumes nothing.
use Prim.Native.Nat.{ℕ, zero, suc, ◌+◌, ◌<◌}
use mathlib.Core.Path.{refl, sym, ◌∙◌, ap, ap₂}
use native.Mathlib.Nat.{le_refl}
use native.Mathlib.Numerals.{add-one}
use native.Mathlib.Omega.{arith}
use Rattle.job.specs.Job.{Job}
use Rattle.cells.specs.Table.{Table, filled}
use Rattle.cells.specs.Step.{step_table}
use Rattle.cells.specs.Close.{copy_table}
use Rattle.cells.specs.Finish.{steps_up_to, exchange}
use Rattle.cells.proofs.Grown.{Grown, step_table_grown, steps_up_to_grown, copy_table_grown}
use Rattle.cells.proofs.Counts.{filled_same, filled_sum}
use Rattle.cells.proofs.Formed.{Formed, step_table_formed, copy_table_formed}
use Rattle.table.specs.Filling.{Leaves}

-- One change, and then another.
leaves_then :
    (J : Job) (t : Table) (f g : Table → Table)
    → Grown J t (f t)
    → Grown J (f t) (g (f t))
    → (u w : Table) (c d : ℕ)
    → Leaves t (f t) u c
    → Leaves u (g u) w d
    → Leaves t (g (f t)) w (c + d)
leaves_then J t f g first second u w c d a b =
    let e = a.table_is in
    record {
      table_is = b.table_is ∙ ap g e;
      told_is = ap₂ ◌+◌ a.told_is (b.told_is ∙ ap (λ x. filled x (g x)) e) ∙ sym (filled_sum J t (f t) first (g (f t)) second);
    }

-- The steps.
module _ (J : Job) (t : Table) where
  pub steps_none : Leaves t (steps_up_to J 0 t) t 0
  unfolding steps_up_to
  steps_none = record { table_is = refl; told_is = sym (filled_same t) }

  pub steps_more :
      (n : ℕ)
      → n < J.nodes
      → (u w : Table) (c d : ℕ)
      → Leaves t (steps_up_to J n t) u c
      → Leaves u (step_table J n u) w d
      → Leaves t (steps_up_to J (n + 1) t) w (c + d)
  unfolding steps_up_to
  steps_more n under u w c d a b =
      rw (add-one n)
      (leaves_then J t (steps_up_to J n) (step_table J n) (steps_up_to_grown J n t (omega arith)) (step_table_grown J n (steps_up_to J n t)) u w c d a b)

  pub steps_formed : (n : ℕ) → Formed J t → Formed J (steps_up_to J n t)
  unfolding steps_up_to
  steps_formed zero formed = formed
  steps_formed (suc n) formed = step_table_formed J (steps_up_to J n t) (steps_formed n formed) n

  -- Then copying.
  pub exchange_formed : Formed J t → Formed J (exchange J t)
  unfolding exchange
  exchange_formed formed = copy_table_formed J (steps_up_to J J.nodes t) (steps_formed J.nodes formed)

  pub exchanged :
      (u w : Table) (c d : ℕ)
      → Leaves t (steps_up_to J J.nodes t) u c
      → Leaves u (copy_table J u) w d
      → Leaves t (exchange J t) w (c + d)
  unfolding exchange
  exchanged =
      leaves_then J t (steps_up_to J J.nodes) (copy_table J) (steps_up_to_grown J J.nodes t (le_refl J.nodes))
      (copy_table_grown J (steps_up_to J J.nodes t))
