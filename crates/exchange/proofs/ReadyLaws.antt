-- A table that passes questions 9 and 10, beside its image: so does every table that the rounds make of it, and no more is filled than there is.
-- Assumes nothing.
use Prim.Native.Nat.{ℕ, ◌≤◌}
use lib.ListN.{length}
use Rattle.cells.specs.Table.{Table}
use Rattle.cells.proofs.Right.{right_is, is_right}
use Rattle.cells.proofs.Formed.{Formed}
use Rattle.image.specs.Denoted.{job_of}
use Rattle.image.specs.declared.image.Image.{Image}
use Rattle.image.proofs.ImageLaws.{image_job}
use Rattle.table.specs.Lent.{Ready}
use Rattle.table.specs.Filling.{Leaves}
use Rattle.table.proofs.Parts.{table_small, told_small}

module _ {m : Image} {t : Table} (ready : Ready m t) where
  pub ready_formed : Formed (job_of m) t
  ready_formed = record { long = ready.lent.long; right = right_is (job_of m) t ready.right }

  pub formed_ready : (u : Table) → Formed (job_of m) u → Ready m u
  formed_ready u formed =
      record {
        lent = record { long = formed.long };
        right = is_right (job_of m) u formed.right;
      }

  pub ready_small : length t ≤ 65536
  ready_small = rw ready.lent.long (table_small (job_of m) (image_job m))

  pub told_few : (wanted after : Table) (told : ℕ) → Leaves t wanted after told → told ≤ 65536
  told_few = told_small m t ready.lent
