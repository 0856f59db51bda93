-- The loops that fill a column, and the columns of a subformula: how they start, turn and end. Assumes nothing.
use Prim.Native.Nat.{ℕ, ◌+◌, ◌<◌, ◌≤◌}
use mathlib.Core.Path.{◌≡◌, ◌∙◌, ap}
use native.Mathlib.Omega.{arith}
use Rattle.cells.specs.Table.{Table}
use Rattle.cells.specs.Close.{accept_table}
use Rattle.image.specs.Image.{fragment_size, fragment_state}
use Rattle.image.specs.Denoted.{job_of}
use Rattle.image.specs.declared.image.Image.{Image}
use Rattle.image.proofs.ImageLaws.{image_job}
use Rattle.table.specs.Lent.{Lent}
use Rattle.table.specs.Filling.{Leaves, Values, part, of_column, up_to, of_subformula, up_to_node, Filling, FillingNodes}
use Rattle.table.proofs.Parts.{leaves_is, leaves_lent, told_small}
use Rattle.table.proofs.FillingLaws.{column_turn, column_over, nodes_start, nodes_turn, nodes_over}

module _ (m : Image) (t : Table) (lent : Lent m t) (new : Values) (n k : ℕ) where
  module _ (i : ℕ) (u : Table) (c : ℕ) (so : Filling m t new n k i u c) where
    pub filling_over : i ≡ fragment_size (job_of m) n → Leaves t (part (job_of m) (of_column n k) new t) u c
    filling_over e =
        leaves_is t (part (job_of m) (up_to (job_of m) n k i) new t) (part (job_of m) (of_column n k) new t) u c
        (ap (λ x. part (job_of m) (up_to (job_of m) n k x) new t) e ∙ column_over (job_of m) t lent.long new n k (image_job m))
        so.leaves

    module _ (l : i < fragment_size (job_of m) n) (s : ℕ) (is : s ≡ fragment_state (job_of m) n i) where
      pub filling_turn :
          (v : ℕ) (w : Table) (d : ℕ)
          → v ≡ new n s k
          → (Leaves u (accept_table (job_of m) n s k v u) w d) × (d ≤ 1)
          → Filling m t new n k (i + 1) w (c + d)
      filling_turn v w d value (put, small) =
          let next = column_turn (job_of m) t lent.long new n k (image_job m) i l s is u c so.leaves v w d value put in
          record {
            lent = leaves_lent m t lent (up_to (job_of m) n k (i + 1)) new w (c + d) next;
            leaves = next;
            few = omega (arith, so.few);
          }

module _ (m : Image) (t : Table) (lent : Lent m t) (new : Values) (k : ℕ) where
  pub nodes_filling_start : FillingNodes m t new k 0 t 0
  nodes_filling_start = record { lent = lent; leaves = nodes_start (job_of m) t lent.long new k; few = omega arith }

  pub nodes_filling_turn :
      (i : ℕ) (u : Table) (c : ℕ)
      → FillingNodes m t new k i u c
      → (w : Table) (d : ℕ)
      → Leaves u (part (job_of m) (of_column i k) new u) w d
      → FillingNodes m t new k (i + 1) w (c + d)
  nodes_filling_turn i u c so w d column =
      let next = nodes_turn (job_of m) t lent.long new k i u w c d so.leaves column in
      record {
        lent = leaves_lent m t lent (up_to_node k (i + 1)) new w (c + d) next;
        leaves = next;
        few = told_small m t lent (part (job_of m) (up_to_node k (i + 1)) new t) w (c + d) next;
      }

  pub nodes_filling_over :
      (i : ℕ) (u : Table) (c : ℕ)
      → i ≡ (job_of m).nodes
      → FillingNodes m t new k i u c
      → Leaves t (part (job_of m) (of_subformula k) new t) u c
  nodes_filling_over i u c e so =
      leaves_is t (part (job_of m) (up_to_node k i) new t) (part (job_of m) (of_subformula k) new t) u c
      (nodes_over (job_of m) t lent.long new k i (omega arith)) so.leaves
