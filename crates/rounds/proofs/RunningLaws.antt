-- A round that leaves out what cannot fill: it leaves the table that is wanted, and marks that are right about it. Assumes nothing.
use Prim.Native.Nat.{ℕ, ◌<◌, ◌≤◌}
use mathlib.Core.Path.{◌≡◌}
use mathlib.Core.Bool.{true}
use Rattle.job.specs.Job.{subformula_count}
use Rattle.cells.specs.Table.{Table}
use Rattle.cells.specs.Rest.{column_flag, FlagsAre}
use Rattle.cells.specs.Close.{settled, smallest_open, close_table}
use Rattle.cells.specs.Finish.{exchange, closing, round}
use Rattle.image.specs.Denoted.{job_of}
use Rattle.image.specs.declared.image.Image.{Image}
use Rattle.image.proofs.ImageLaws.{image_job}
use Rattle.pending.specs.declared.Pending.{Pending}
use Rattle.table.specs.Filling.{Leaves}
use Rattle.closing.proofs.ClosingLaws.{closed_tracked}
use Rattle.exchange.specs.Running.{Running, Ran}
use Rattle.exchange.proofs.ReadyLaws.{told_few}
use Rattle.rounds.proofs.RoundLaws.{closing_none, closing_some, round_exchanged, exchanged_settled, round_closed}

module _ {m : Image} {t : Table} {p : Pending} (z : Running m t p) where
  -- What close does to a settled table.
  pub ran_closing_none : (k : ℕ) → k ≡ smallest_open (job_of m) t → subformula_count (job_of m) ≤ k → Ran (job_of m) t (closing (job_of m) t) t p 0
  ran_closing_none k is past =
      let left = closing_none (job_of m) t k is past in
      record { leaves = left; tracked = z.tracked; few = told_few z.ready _ _ _ left }

  pub ran_closing :
      settled (job_of m) t ≡ true
      → (k : ℕ)
      → k ≡ smallest_open (job_of m) t
      → k < subformula_count (job_of m)
      → {p' : Pending}
      → FlagsAre (λ n. column_flag n k) true (job_of m).nodes p.stale p'.stale
      → p'.news ≡ p.news
      → {w : Table} {c : ℕ}
      → Leaves t (close_table (job_of m) t) w c
      → Ran (job_of m) t (closing (job_of m) t) w p' c
  ran_closing still k is under {p'} marked same {w} {c} closed =
      let left = closing_some (job_of m) t still k is under w c closed in
      record {
        leaves = left;
        tracked =
            rw (closed.table_is, same) (closed_tracked (job_of m) (image_job m) t p.stale p.news z.tracked k p'.stale is under marked);
        few = told_few z.ready _ _ _ left;
      }

  -- A round is the exchange where that fills something, and else what close does.
  module _ {u : Table} {p' : Pending} {c : ℕ} (left : Ran (job_of m) t (exchange (job_of m) t) u p' c) where
    pub ran_round : (c ≡ 0 → ⊥) → Ran (job_of m) t (round (job_of m) t) u p' c
    ran_round some =
        record { leaves = round_exchanged (job_of m) t u c left.leaves some; tracked = left.tracked; few = left.few }

    module _ (none : c ≡ 0) where
      pub exchange_settled : settled (job_of m) u ≡ true
      exchange_settled = exchanged_settled (job_of m) t u c left.leaves none

      pub ran_closed :
          {w : Table} {p'' : Pending} {d : ℕ}
          → Ran (job_of m) u (closing (job_of m) u) w p'' d
          → Ran (job_of m) t (round (job_of m) t) w p'' d
      ran_closed {w} {p''} {d} closed =
          record {
            leaves = round_closed (job_of m) t u c left.leaves none w d closed.leaves;
            tracked = closed.tracked;
            few = closed.few;
          }
