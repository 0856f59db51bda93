-- A table grown from another: as long, with every filled cell and every cell outside the fragments as it was. Each call on a table
-- only lets it grow. Assumes nothing.
use Prim.Native.Nat.{ℕ, ◌≤◌}
use mathlib.Core.Path.{◌≡◌, refl, sym, ◌∙◌}
use mathlib.Core.Bool.{false}
use lib.ListN.{length, get_or}
use lib.Seq.{ext_get_or}
use Rattle.law.proofs.Bounded.{by_equal}
use Rattle.job.specs.Job.{Job, subformula_count}
use Rattle.cells.specs.Table.{Table, index, cell, inside, fill}
use Rattle.cells.specs.Step.{step_column, step_up_to, step_table}
use Rattle.cells.specs.Close.{accept_table, copy_table, close_table}
use Rattle.cells.specs.Finish.{steps_up_to, exchange, round, finish}
use Rattle.cells.proofs.Fill.{fill_length, fill_filled, fill_outside}
use Rattle.cells.proofs.Kept.{Parts, step_up_to_keeps, step_table_keeps, steps_up_to_keeps, exchange_keeps, round_keeps, finish_keeps}

module _ (J : Job) where
  pub record Grown (t u : Table) : Type 0 where
    pub long : length u ≡ length t
    pub kept : (i : ℕ) → (get_or t i 0 ≡ 2 → ⊥) → get_or u i 0 ≡ get_or t i 0
    pub outside : (i : ℕ) → inside J i ≡ false → get_or u i 0 ≡ get_or t i 0

  -- A partial order.
  pub grown_same : (t : Table) → Grown t t
  grown_same t = record { long = refl; kept = λ i h. refl; outside = λ i o. refl }

  pub grown_after : (t u v : Table) → Grown t u → Grown u v → Grown t v
  grown_after t u v a b =
      record {
        long = b.long ∙ a.long;
        kept = λ i h. b.kept i (λ e. h (sym (a.kept i h) ∙ e)) ∙ a.kept i h;
        outside = λ i o. b.outside i o ∙ a.outside i o;
      }

  pub grown_both : (t u : Table) → Grown t u → Grown u t → t ≡ u
  grown_both t u a b =
      ext_get_or 0 t u b.long
      (λ i h.
      by_equal (get_or t i 0) 2 (λ e. by_equal (get_or u i 0) 2 (λ f. e ∙ sym f) (b.kept i)) (λ n. sym (a.kept i n)))

  -- An empty cell was empty before.
  pub grown_empty : (t u : Table) → Grown t u → (i : ℕ) → get_or u i 0 ≡ 2 → get_or t i 0 ≡ 2
  grown_empty t u g i e = by_equal (get_or t i 0) 2 (λ h. h) (λ n. sym (g.kept i n) ∙ e)

  pub grown_cell_empty : (t u : Table) → Grown t u → (n s k : ℕ) → cell J u n s k ≡ 2 → cell J t n s k ≡ 2
  unfolding cell
  grown_cell_empty t u g n s k = grown_empty t u g (index J n s k)

  -- Every call's change of a table is a `fill`, or several.
  pub fill_grown : (new : ℕ → ℕ → ℕ → ℕ) (t : Table) → Grown t (fill J new t)
  fill_grown new t =
      record { long = fill_length J new t; kept = fill_filled J new t; outside = fill_outside J new t }

  pub step_column_grown : (n k : ℕ) (t : Table) → Grown t (step_column J n k t)
  unfolding step_column
  step_column_grown n k t = fill_grown _ t

  pub accept_table_grown : (n s k v : ℕ) (t : Table) → Grown t (accept_table J n s k v t)
  unfolding accept_table
  accept_table_grown n s k v t = fill_grown _ t

  pub copy_table_grown : (t : Table) → Grown t (copy_table J t)
  unfolding copy_table
  copy_table_grown t = fill_grown _ t

  pub close_table_grown : (t : Table) → Grown t (close_table J t)
  unfolding close_table
  close_table_grown t = fill_grown _ t

  pub step_up_to_grown : (n j k : ℕ) (t : Table) → j ≤ k → k ≤ subformula_count J → Grown (step_up_to J n j t) (step_up_to J n k t)
  step_up_to_grown n j = step_up_to_keeps J Grown grown_same grown_after n j (λ k t m l. step_column_grown n k t)

  pub step_table_grown : (n : ℕ) (t : Table) → Grown t (step_table J n t)
  step_table_grown n = step_table_keeps J Grown grown_same grown_after n (λ k t l. step_column_grown n k t)

  pub grown_parts : Parts J Grown
  grown_parts =
      record {
        still = grown_same;
        after = grown_after;
        step = λ n t l. step_table_grown n t;
        copy = copy_table_grown;
        close = λ t a b. close_table_grown t;
      }

  pub steps_up_to_grown : (n : ℕ) (t : Table) → n ≤ J.nodes → Grown t (steps_up_to J n t)
  steps_up_to_grown = steps_up_to_keeps J Grown grown_parts

  pub exchange_grown : (t : Table) → Grown t (exchange J t)
  exchange_grown = exchange_keeps J Grown grown_parts

  pub round_grown : (t : Table) → Grown t (round J t)
  round_grown = round_keeps J Grown grown_parts

  pub finish_grown : (t : Table) → Grown t (finish J t).table
  finish_grown = finish_keeps J Grown grown_parts
