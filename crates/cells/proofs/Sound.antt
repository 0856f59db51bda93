-- A table is sound when each of its filled cells is the truth of its subformula at its state on the uncut structure. A step,
-- copying between nodes, and a true message keep it so. Assumes nothing.
use Prim.Native.Nat.{ℕ, zero, suc, ◌<◌, ◌≤◌}
use mathlib.Core.Path.{◌≡◌}
use mathlib.Core.Bool.{Bool, cond, ◌&&◌}
use native.Mathlib.Nat.{le_refl}
use native.Mathlib.Omega.{arith}
use lib.ListN.{length, get_or, get_or-replicate}
use lib.Dec.{eqb}
use borrow.Author.Tests.{eqb-true}
use Rattle.law.proofs.Bool.{and_left, and_right}
use Rattle.job.specs.Job.{Job, size, subformula_count, owner}
use Rattle.job.specs.Rule.{rule_at}
use Rattle.job.specs.Written.{IsJob}
use Rattle.ctl.specs.Labelling.{sat}
use Rattle.ctl.proofs.Labelling.{sat_label}
use Rattle.cells.specs.Fragment.{in_fragment, border}
use Rattle.cells.specs.Table.{Table, table_length, index, cell, fresh_table, owner_cell, is_empty, fill}
use Rattle.cells.specs.Step.{column, step_column, step_up_to, step_table}
use Rattle.cells.specs.Close.{is_temporal, accept_table, copy_table}
use Rattle.cells.proofs.Index.{index_lt}
use Rattle.cells.proofs.Fill.{AtEmpty, fill_cell}
use Rattle.cells.proofs.Tells.{Tells, cond_tells, empty_tells}
use Rattle.cells.proofs.RightColumn.{ReadsTruth, column_tells}
use Rattle.cells.proofs.Formed.{Formed, fresh_table_formed, cell_low, step_column_formed, accept_table_formed, copy_table_formed}

-- Subformula k is true at state s.
abbrev pub truth : Job → ℕ → ℕ → Bool
truth J k s = sat J.structure J.formula k s

pub record Sound (J : Job) (t : Table) : Type 0 where
  pub formed : Formed J t
  pub tells : (n s k : ℕ) → n < J.nodes → s < size J → k < subformula_count J → Tells 1 (cell J t n s k) (truth J k s)

-- A fresh table has no filled cell.
pub fresh_table_sound : (J : Job) (t : Table) → length t ≡ table_length J → Sound J (fresh_table t)
unfolding fresh_table cell
fresh_table_sound J t long =
    record {
      formed = fresh_table_formed J t long;
      tells =
          λ n s k a b c.
          rw (get_or-replicate {A = ℕ} (length t) (index J n s k) 2 0 (omega (arith, index_lt J n s k a b c)))
          (empty_tells (truth J k s));
    }

-- Filling true values keeps every cell true.
pub fill_tells :
    (J : Job) (t : Table)
    → Sound J t
    → (new : ℕ → ℕ → ℕ → ℕ)
    → AtEmpty J t (λ n s k. Tells 1 (new n s k) (truth J k s))
    → (n s k : ℕ)
    → n < J.nodes
    → s < size J
    → k < subformula_count J
    → Tells 1 (cell J (fill J new t) n s k) (truth J k s)
unfolding is_empty
fill_tells J t sound new right n s k a b c =
    let old = cell J t n s k in
    let empty = is_empty old in
    let frag = in_fragment J n s in
    rw (fill_cell J new t n s k b c)
    (cond_tells (empty && frag) (new n s k) old (truth J k s)
    (λ e. right n s k a b c (eqb-true old 2 (and_left empty frag e)) (and_right empty frag e))
    (λ e. sound.tells n s k a b c))

module _ (J : Job) (job : IsJob J) (t : Table) (sound : Sound J t) where
  -- so the cells that a column of a step reads are right
  pub sound_reads :
      (n k : ℕ)
      → n < J.nodes
      → k < subformula_count J
      → ReadsTruth J (truth J) k (rule_at J k) (λ j s. cell J t n s j)
  unfolding subformula_count
  sound_reads n k a c =
      record {
        low = λ j s. cell_low J t sound.formed n s j;
        operands = λ j s h l. sound.tells n s j a l (omega arith);
        own = λ s l. rw (sat_label J.structure J.formula job.operands k c s) at (sound.tells n s k a l c);
      }

  pub step_column_sound : (n k : ℕ) → n < J.nodes → k < subformula_count J → Sound J (step_column J n k t)
  unfolding step_column subformula_count
  step_column_sound n k a c =
      let r = rule_at J k in
      let at : ℕ → ℕ → ℕ = λ j s. cell J t n s j in
      let values = column J n at k r in
      record {
        formed = step_column_formed J t sound.formed n k;
        tells =
            fill_tells J t sound (λ m s j. cond (eqb m n && eqb j k) (get_or values s 2) 2)
            (λ m s j g l h e i.
            cond_tells (eqb m n && eqb j k) (get_or values s 2) 2 (truth J j s)
            (λ here.
            rw (
              eqb-true j k (and_right (eqb m n) (eqb j k) here),
              sat_label J.structure J.formula job.operands k c s,
            )
            (column_tells J (truth J) k at job n r (job.operands k c) (sound_reads n k a c) s l))
            (λ away. empty_tells (truth J j s)));
      }

  -- the message that an offer hands out is true
  pub owner_cell_tells : (s k : ℕ) → s < size J → k < subformula_count J → Tells 1 (owner_cell J t s k) (truth J k s)
  unfolding owner_cell
  owner_cell_tells s k b = sound.tells (owner J s) s k (job.owners s b) b

  pub copy_table_sound : Sound J (copy_table J t)
  unfolding copy_table
  copy_table_sound =
      record {
        formed = copy_table_formed J t sound.formed;
        tells =
            fill_tells J t sound (λ m s k. cond (border J m s && is_temporal J k) (owner_cell J t s k) 2)
            (λ m s k a b c e i.
            cond_tells (border J m s && is_temporal J k) (owner_cell J t s k) 2 (truth J k s)
            (λ here. owner_cell_tells s k b c)
            (λ away. empty_tells (truth J k s)));
      }

  pub accept_table_sound : (n s k v : ℕ) → v ≤ 1 → Tells 1 v (truth J k s) → Sound J (accept_table J n s k v t)
  unfolding accept_table
  accept_table_sound n s k v low right =
      record {
        formed = accept_table_formed J t sound.formed n s k v (omega arith);
        tells =
            fill_tells J t sound (λ m u j. cond (eqb m n && eqb u s && eqb j k) v 2)
            (λ m u j a b c e i.
            cond_tells (eqb m n && eqb u s && eqb j k) v 2 (truth J j u)
            (λ here.
            rw (
              eqb-true j k (and_right (eqb m n && eqb u s) (eqb j k) here),
              eqb-true u s (and_right (eqb m n) (eqb u s) (and_left (eqb m n && eqb u s) (eqb j k) here)),
            )
            right)
            (λ away. empty_tells (truth J j u)));
      }

-- The columns of a step, and the whole.
module _ (J : Job) (job : IsJob J) (n : ℕ) (node : n < J.nodes) (t : Table) (sound : Sound J t) where
  pub step_up_to_sound : (k : ℕ) → k ≤ subformula_count J → Sound J (step_up_to J n k t)
  unfolding step_up_to
  step_up_to_sound zero l = sound
  step_up_to_sound (suc k) l = step_column_sound J job (step_up_to J n k t) (step_up_to_sound k (omega arith)) n k node l

  pub step_table_sound : Sound J (step_table J n t)
  unfolding step_table
  step_table_sound = step_up_to_sound (subformula_count J) (le_refl (subformula_count J))
